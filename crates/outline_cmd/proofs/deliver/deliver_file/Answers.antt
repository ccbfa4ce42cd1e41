use Rattle.std.proofs.Common.{Ok, inl, inr, refl, subst}
use Rattle.std.proofs.lemmas.Result.{err_from_is_err_and}
use Rattle.outline_meaning.specs.Meaning.{exactly, read, reads_two, member_files, opened}
use Rattle.outline_meaning.specs.Follows.{Follows}
use Rattle.outline_cmd.proofs.DeliverLaws.{bundles, first_refused, second_refused, both_follow, member_opened}
use Rattle.outline_meaning.proofs.StageLaws.{refuses_first, refuses_next}
use Rattle.outline_meaning.proofs.MeaningLaws.{read_is}
use Rattle.outline_cmd.proofs.WorkLaws.{brings_whole, only_decodes}
use Rattle.outline_cmd.proofs.deliver.deliver_file.Goals as goal

pub returns-in_err-parts-clause-meant : goal.returns-in_err-parts-clause-meant
returns-in_err-parts-clause-meant c = λ other load follows.
    let p = err_from_is_err_and c.from_residual.result c.from_residual.ensures.1 in
    rw (p.1, p.2) (first_refused (reads_two c.args.name.now other) c.args.bytes.now load c.in_err-parts.field-0.0 c.requires.short (c.in_err-parts.ensures.told member_files refl))

pub returns-in_err-offered-in-Ok-clause-meant : goal.returns-in_err-offered-in-Ok-clause-meant
returns-in_err-offered-in-Ok-clause-meant c = λ other load follows.
    let p = err_from_is_err_and c.from_residual-in_err-offered-in-Ok.result c.from_residual-in_err-offered-in-Ok.ensures.1 in
    let refusal = c.in_err-offered-in-Ok.field-0.0 in
    let goes = subst (λ r. Follows (λ b. b.items) r (exactly (read 2 load))) c.in-Ok.is follows in
    rw (p.1, p.2) (second_refused (reads_two c.args.name.now other) c.args.bytes.now load c.in_ok-parts.parts refusal c.requires.short (c.in_ok-parts.ensures.told member_files refl)
    (refuses_next (exactly (read 2 load)) (opened 2 bundles) c.in-Ok.second.items refusal goes (rw c.deref.ensures.value at (c.in_err-offered-in-Ok.ensures.told bundles refl))))

pub deliver_parts-requires-clause-kind : goal.deliver_parts-requires-clause-kind
deliver_parts-requires-clause-kind c = member_opened c.args.bytes.now c.in_ok-parts.parts (c.in_ok-parts.ensures.told member_files refl)

pub deliver_parts-requires-clause-stored : goal.deliver_parts-requires-clause-stored
deliver_parts-requires-clause-stored c = (c.args.bytes.now, c.in_ok-parts.ensures.is.stored)

pub deliver_parts-requires-clause-offered : goal.deliver_parts-requires-clause-offered
deliver_parts-requires-clause-offered c = (c.deref.result.now, c.in_ok-offered-in-Ok.ensures.is.stored)

pub returns-in-Ok-clause-meant : goal.returns-in-Ok-clause-meant
returns-in-Ok-clause-meant c = λ other load follows.
    let goes = subst (λ r. Follows (λ b. b.items) r (exactly (read 2 load))) c.in-Ok.is follows in
    let opens = rw c.deref.ensures.value at (c.in_ok-offered-in-Ok.ensures.told bundles refl) in
    both_follow (reads_two c.args.name.now other) c.args.bytes.now load c.in_ok-parts.parts c.in_ok-offered-in-Ok.offered c.deliver_parts.result c.requires.short (c.in_ok-parts.ensures.told member_files refl)
    (Ok c.in-Ok.second.items, goes, opens) (c.deliver_parts.ensures.meant other)

pub returns-clause-meant : goal.returns-clause-meant
returns-clause-meant c = λ other load follows.
    second_refused (reads_two c.args.name.now other) c.args.bytes.now load c.in_ok-parts.parts c.in-Err.status c.requires.short (c.in_ok-parts.ensures.told member_files refl)
    (refuses_first (exactly (read 2 load)) (opened 2 bundles) c.in-Err.status (subst (λ r. Follows (λ b. b.items) r (exactly (read 2 load))) c.in-Err.is follows))

pub returns-in_err-parts-clause-works : goal.returns-in_err-parts-clause-works
returns-in_err-parts-clause-works c = λ load follows. inl refl

pub returns-in_err-offered-in-Ok-clause-works : goal.returns-in_err-offered-in-Ok-clause-works
returns-in_err-offered-in-Ok-clause-works c = λ load follows. inl refl

pub returns-clause-works : goal.returns-clause-works
returns-clause-works c = λ load follows. inl refl

pub returns-in-Ok-clause-works : goal.returns-in-Ok-clause-works
returns-in-Ok-clause-works c = λ load follows.
    let goes = subst (λ r. Follows (λ b. b.items) r (exactly (read 2 load))) c.in-Ok.is follows in
    let whole_load = (read_is 2 load c.in-Ok.second.items goes).0 in
    inr (
      c.in_ok-parts.parts,
      c.in_ok-offered-in-Ok.offered,
      c.in_ok-parts.ensures.is.stored,
      brings_whole load c.in-Ok.second.items c.in_ok-offered-in-Ok.offered whole_load (rw c.deref.ensures.value at c.in_ok-offered-in-Ok.ensures.is.stored),
      only_decodes c.args.tally.now c.deliver_parts.new.tally _ 0 c.deliver_parts.ensures.works,
    )
