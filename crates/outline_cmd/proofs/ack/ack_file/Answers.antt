use Rattle.std.proofs.Common.{refl}
use Rattle.std.proofs.lemmas.Result.{err_from_is_err_and}
use Rattle.model.specs.Command.{made_acks}
use Rattle.model.specs.Held.{held_behind}
use Rattle.model.specs.Reading.{base_in}
use Rattle.outline_meaning.specs.Meaning.{member_files, reads}
use Rattle.outline_meaning.specs.Outcome.{acknowledged}
use Rattle.outline_cmd.proofs.InputLaws.{input_refuses, input_follows}
use Rattle.outline_cmd.proofs.OpenLaws.{not_among_members, opened_based}
use Rattle.outline_cmd.proofs.ack.ack_file.Goals as goal

pub returns-in_err-parts : goal.returns-in_err-parts
returns-in_err-parts c = λ second.
    let p = err_from_is_err_and c.from_residual.result c.from_residual.ensures.1 in
    rw (p.1, p.2) (input_refuses (reads c.args.name.now) member_files c.args.bytes.now second acknowledged c.in_err-parts.field-0.0 c.requires (c.in_err-parts.ensures.told member_files refl))

pub ack-requires-clause-kind : goal.ack-requires-clause-kind
ack-requires-clause-kind c = opened_based 1 c.args.bytes.now member_files c.in_ok-parts.parts not_among_members (c.in_ok-parts.ensures.told member_files refl)

pub ack-requires-clause-stored : goal.ack-requires-clause-stored
ack-requires-clause-stored c = (c.args.bytes.now, c.in_ok-parts.ensures.is.stored)

pub returns : goal.returns
returns c = λ second.
    let f = c.in_ok-parts.parts in
    input_follows (reads c.args.name.now) member_files c.args.bytes.now second acknowledged f c.made_answer.result c.requires (c.in_ok-parts.ensures.told member_files refl)
    (c.made_answer.ensures f (made_acks f.members (held_behind (base_in f)) f.kept f.mine) c.ack.ensures)
