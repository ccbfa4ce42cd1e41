use Rattle.std.proofs.Common.{◌≡◌, ◌<◌, ◌^◌, ◌++◌, length, take}
use Rattle.std.specs.List.{AllByRecursion, flat_map}
use Rattle.cbor_det.specs.Head.{head}
use Rattle.op_grammar.proofs.spelling.spell_causes.Given as goal

abbrev pub invariant-loop-member : goal.invariant-loop-member
invariant-loop-member l = record {
  spelled : l.out.items ≡ l.fn.out.items ++ (head 4 (length l.causes) ++ flat_map (head 0) (take l.member l.causes));
  few : AllByRecursion (λ n. n < 2 ^ 64) (take l.member l.causes);
}
