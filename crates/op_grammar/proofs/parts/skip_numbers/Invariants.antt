use Rattle.std.proofs.Common.{◌≡◌}
use Rattle.cbor_det.specs.Unread.{unread}
use Rattle.op_grammar.specs.Parts.{HasPassed, FoundNumbers}
use Rattle.op_grammar.proofs.parts.skip_numbers.Given as goal

abbrev pub invariant-loop-passed : goal.invariant-loop-passed
invariant-loop-passed l = record {
  passed : HasPassed l.count l.passed (unread l.fn.cursor) (unread l.cursor);
  found : FoundNumbers l.passed (unread l.fn.cursor) (unread l.cursor);
  len : (unread l.cursor).len ≡ (unread l.fn.cursor).len;
}
