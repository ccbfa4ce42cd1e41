use Rattle.std.proofs.Common.{subst}
use Rattle.member_replica.specs.Making.{Makes}
use Rattle.outline_meaning.specs.Meaning.{reads}
use Rattle.outline_cmd.proofs.InputLaws.{made_means, made_refuses}
use Rattle.outline_cmd.proofs.edit.made_answer.Goals as goal

pub returns-in_ok-text-in-Ok : goal.returns-in_ok-text-in-Ok
returns-in_ok-text-in-Ok c = λ f meant makes.
    let (cs, is, made) = subst (Makes f meant) c.in-Ok.is makes in
    made_means c.args.name.now f meant cs c.in_ok-text-in-Ok.text c.in-Ok.made.bytes is (c.in_ok-text-in-Ok.ensures cs (rw c.deref.ensures.value made.notes)) made.bytes

pub returns-in-Err : goal.returns-in-Err
returns-in-Err c = λ f meant makes.
    made_refuses (reads c.args.name.now) f meant c.unmade_status.result (c.unmade_status.ensures f meant (subst (Makes f meant) c.in-Err.is makes))
