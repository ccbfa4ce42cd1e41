use Rattle.std.proofs.Common.{◌≡◌, ◌-◌, ◌^◌, List, length, min, sym, ap, subst, ◌∙◌}
use Rattle.std.proofs.lemmas.List.{length-map}
use Rattle.model.specs.Change.{Change, IsChange}
use Rattle.model.specs.Operation.{Operation}
use Rattle.op_grammar.specs.Changes.{change_of}
use Rattle.op_grammar.specs.Operations.{operation_of, operations_of}
use Rattle.member_replica.proofs.ClockLaws.{in_time}
use Rattle.member_replica.proofs.WriteLaws.{head_is}
use Rattle.member_replica.proofs.made.Makings.make.Goals as goal

pub append-requires-clause-heads : goal.append-requires-clause-heads
append-requires-clause-heads c =
    let h = c.in_ok-head.head in
    let os : List Operation = operations_of c.args.plan.now in
    let told = c.in_ok-head.ensures.told in
    let count : h.count ≡ min (length os) (2 ^ 32 - 1) = c.in_ok-head.ensures.count ∙ ap (λ k. min k (2 ^ 32 - 1)) (sym (length-map c.args.plan.now operation_of)) in
    head_is (length c.args.self.now.counts) h os (c.requires.change (change_of h os) told) count c.in_ok-head.ensures.width

pub append-requires-clause-change : goal.append-requires-clause-change
append-requires-clause-change c =
    let h = c.in_ok-head.head in
    let makings = c.args.self.now in
    let os : List Operation = operations_of c.args.plan.now in
    let told = c.in_ok-head.ensures.told in
    let passed = in_time makings.time makings.counts c.args.member os (change_of h os) told in
    subst (λ n. IsChange n (change_of h os)) (ap (λ (d : Change). length d.causes) passed.is) (c.requires.change (change_of h os) told)
