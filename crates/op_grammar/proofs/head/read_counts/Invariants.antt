use Rattle.std.proofs.Common.{◌≡◌, length}
use Rattle.cbor_det.specs.Unread.{unread}
use Rattle.op_grammar.proofs.PartsLaws.{HasCounted}
use Rattle.op_grammar.proofs.head.read_counts.Given as goal

abbrev pub invariant-loop-member : goal.invariant-loop-member
invariant-loop-member l = record { sizes : length l.counts ≡ l.n; counted : HasCounted l.n l.member (unread l.fn.causes) (unread l.causes) l.counts }
