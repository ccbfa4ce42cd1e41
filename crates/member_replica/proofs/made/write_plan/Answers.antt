use Rattle.std.proofs.Common.{length, Err, ap, arith}
use Rattle.op_grammar.specs.Operations.{operations_of}
use Rattle.op_grammar.specs.Rules.{rule_of}
use Rattle.member_replica.proofs.WriteLaws.{none_broken}
use Rattle.member_replica.proofs.made.write_plan.Goals as goal

pub unreachable-requires : goal.unreachable-requires
unreachable-requires c =
    let h = c.args.head.now in
    none_broken (length h.causes) h (operations_of c.args.plan.now) (rule_of c.in-Err-Rule.field-0-0) (omega (arith, c.requires.few)) c.requires.heads c.requires.change
    (c.in-Err-Rule.ensures.rule c.in-Err-Rule.field-0-0 (ap Err c.in-Err-Rule.field-0-is))
