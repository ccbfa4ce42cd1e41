use Rattle.std.proofs.Common.{◌≡◌, ◌∙◌, ap, sym, subst, ◌+◌, ◌<◌, suc, Some, length, arith}
use Rattle.std.specs.Map.{lookup}
use Rattle.op_ids.specs.declared.OpId.{OpId}
use Rattle.walk_laws.proofs.Walks.{key_eq}
use Rattle.fugue_text.specs.declared.run.Run.{Run}
use Rattle.fugue_text.specs.Runs.{IsIn, IsNext}
use Rattle.fugue_text.proofs.RunLaws.{filled_of}
use Rattle.fugue_text.proofs.NextLaws.{next_some, next_none, next_nowhere}
use Rattle.fugue_text.proofs.run.next_of.Goals as goal
use Rattle.fugue_text.proofs.run.next_of.Goals.{In_ok-run}

there : (c : In_ok-run) → lookup (key_eq c.in_ok-spot.spot.first) c.args.runs.now.entries ≡ Some c.in_ok-run.run'.now
there c = sym c.in_ok-run.ensures.value

same : (c : In_ok-run) (i : IsIn c.args.runs.now.entries c.args.id c.in_ok-spot.spot.first c.in_ok-spot.spot.offset) → i.run ≡ c.in_ok-run.run'.now
same c i =
    let is : Some i.run ≡ Some c.in_ok-run.run'.now = sym i.there ∙ there c in
    cc

pub returns-in_err-spot-clause-next : goal.returns-in_err-spot-clause-next
returns-in_err-spot-clause-next c =
    rw c.from_residual.ensures (next_nowhere c.args.runs.now.entries c.requires.rising c.requires.filled c.args.id c.in_err-spot.ensures.spot)

pub plus-requires : goal.plus-requires
plus-requires c =
    let u = (goal.at.plus-requires c).In_ok-run in
    let i = c.in_ok-spot.ensures.spot in
    let index : c.args.id.index ≡ c.in_ok-spot.spot.first.index + c.in_ok-spot.spot.offset = ap (λ (x : OpId). x.index) i.is in
    let fits = (filled_of c.in_ok-spot.spot.first c.args.runs.now.entries c.in_ok-run.run'.now c.requires.filled (there u)).fits in
    omega (arith, index, fits, c.len.ensures)

pub returns-then-spot-len-clause-next : goal.returns-then-spot-len-clause-next
returns-then-spot-len-clause-next c =
    let u = (goal.at.returns-then-spot-len-clause-next c).In_ok-run in
    let i = c.in_ok-spot.ensures.spot in
    let more : suc c.in_ok-spot.spot.offset < length c.in_ok-run.run'.now.letters.items = omega (arith, c.len.ensures) in
    subst (λ n. IsNext c.args.runs.now.entries c.args.id (Some n)) (sym c.plus.ensures)
    (next_some c.args.runs.now.entries c.requires.rising c.requires.filled c.args.id c.in_ok-spot.spot.first c.in_ok-spot.spot.offset i
    (subst (λ (r : Run). suc c.in_ok-spot.spot.offset < length r.letters.items) (sym (same u i)) more))

pub returns-else-spot-len-clause-next : goal.returns-else-spot-len-clause-next
returns-else-spot-len-clause-next c =
    let u = (goal.at.returns-else-spot-len-clause-next c).In_ok-run in
    let i = c.in_ok-spot.ensures.spot in
    next_none c.args.runs.now.entries c.requires.rising c.requires.filled c.args.id c.in_ok-spot.spot.first c.in_ok-spot.spot.offset i
    (λ more. let here : suc c.in_ok-spot.spot.offset < length c.in_ok-run.run'.now.letters.items = subst (λ (r : Run). suc c.in_ok-spot.spot.offset < length r.letters.items) (same u i) more in absurd (omega (arith, here, c.len.ensures)))
