use Rattle.std.proofs.Common.{◌≡◌, ◌∙◌, ap, sym, subst, ◌+◌, suc, Some, None, length, arith, OnErr, refl}
use Rattle.std.proofs.lemmas.List.{length-append}
use Rattle.std.specs.Prelude.{Result, Ok, Err}
use Rattle.std.specs.Map.{lookup}
use Rattle.std.specs.FinMap.{find}
use Rattle.op_ids.specs.Order.{id_cmp, id_plus}
use Rattle.model.specs.State.{right_of}
use Rattle.walk_laws.proofs.Walks.{key_eq}
use Rattle.fugue_text.specs.declared.run.Run.{Run}
use Rattle.fugue_text.specs.Runs.{AreFilled, IsFilled, AreFree, rows_in, starts, with_letters}
use Rattle.fugue_text.proofs.RunLaws.{Runs, extend_rows, filled_of, filled_set, is_last, same_rows, starts_set}
use Rattle.fugue_text.proofs.run.extend.Goals as goal
use Rattle.fugue_text.proofs.run.extend.Goals.{After-extend_from_slice}

any_err : {T E P : Type 0} (r : Result T E) → P → OnErr r P
any_err (Ok x) p = tt
any_err (Err y) p = p

abbrev other : After-extend_from_slice → Run
other c = record { anchor = c.in-Some.run'.now.anchor; side = c.in-Some.run'.now.side; letters = c.extend_from_slice.new.self }

there : (c : After-extend_from_slice) → lookup (key_eq c.args.spot.first) c.args.runs.now.entries ≡ Some c.in-Some.run'.now
there c = sym c.in-Some.ensures.value

long : (c : After-extend_from_slice) → length c.in-Some.run'.now.letters.items ≡ suc c.args.spot.offset
long c =
    let es = c.args.runs.now.entries in
    let f = c.args.spot.first in
    let k = c.args.spot.offset in
    let step : k + 1 ≡ suc k = omega arith in
    let fresh : find id_cmp (id_plus f (suc k)) (rows_in es) ≡ None = subst (λ n. find id_cmp (id_plus f n) (rows_in es) ≡ None) step c.requires.fresh in
    let is : Some c.requires.there.run ≡ Some c.in-Some.run'.now = sym c.requires.there.there ∙ there c in
    let same : c.requires.there.run ≡ c.in-Some.run'.now = cc in
    ap (λ (r : Run). length r.letters.items) (sym same) ∙ is_last es f k c.requires.rising c.requires.there fresh

pub returns-in_err-extend_from_slice-clause-err : goal.returns-in_err-extend_from_slice-clause-err
returns-in_err-extend_from_slice-clause-err c =
    let u = (goal.at.returns-in_err-extend_from_slice-clause-err c).After-extend_from_slice in
    let held = c.get_mut.follows.holds (other u) in
    any_err c.from_residual.result
    (ap (λ (xs : Runs). rows_in xs) held.0 ∙ same_rows c.args.runs.now.entries c.args.spot.first c.in-Some.run'.now (other u) refl c.in_err-extend_from_slice.ensures.items (there u))

pub returns-in_err-extend_from_slice-clause-filled : goal.returns-in_err-extend_from_slice-clause-filled
returns-in_err-extend_from_slice-clause-filled c =
    let u = (goal.at.returns-in_err-extend_from_slice-clause-filled c).After-extend_from_slice in
    let held = c.get_mut.follows.holds (other u) in
    let old = filled_of c.args.spot.first c.args.runs.now.entries c.in-Some.run'.now c.requires.filled (there u) in
    let some = old.some in
    let fits = old.fits in
    let size : length c.extend_from_slice.new.self.items ≡ length c.in-Some.run'.now.letters.items = ap length c.in_err-extend_from_slice.ensures.items in
    let same : IsFilled (c.args.spot.first, other u) = record { some = omega (arith, size, some); fits = omega (arith, size, fits) } in
    subst (λ (es : Runs). AreFilled es) (sym held.0) (filled_set c.args.runs.now.entries c.args.spot.first (other u) c.requires.filled same)

pub returns-in_err-extend_from_slice-clause-starts : goal.returns-in_err-extend_from_slice-clause-starts
returns-in_err-extend_from_slice-clause-starts c =
    let u = (goal.at.returns-in_err-extend_from_slice-clause-starts c).After-extend_from_slice in
    let held = c.get_mut.follows.holds (other u) in
    ap (λ (es : Runs). starts es) held.0 ∙ starts_set c.args.spot.first c.in-Some.run'.now (other u) refl c.args.runs.now.entries (there u)

pub returns-in_ok-extend_from_slice-clause-ok : goal.returns-in_ok-extend_from_slice-clause-ok
returns-in_ok-extend_from_slice-clause-ok c =
    let u = (goal.at.returns-in_ok-extend_from_slice-clause-ok c).After-extend_from_slice in
    let es = c.args.runs.now.entries in
    let f = c.args.spot.first in
    let k = c.args.spot.offset in
    let held = c.get_mut.follows.holds (other u) in
    let ls = c.args.letters.now in
    let step : k + 1 ≡ suc k = omega arith in
    let free : AreFree (rows_in es) (id_plus f (suc k)) (length ls) = subst (λ n. AreFree (rows_in es) (id_plus f n) (length ls)) step c.requires.free in
    let fresh : find id_cmp (id_plus f (suc k)) (rows_in es) ≡ None = subst (λ n. find id_cmp (id_plus f n) (rows_in es) ≡ None) step c.requires.fresh in
    ap (λ (xs : Runs). rows_in xs) held.0
    ∙ extend_rows f k ls c.in-Some.run'.now (other u) refl c.in_ok-extend_from_slice.ensures.items (long u) es c.requires.rising (there u) fresh free
    ∙ ap (λ n. with_letters (rows_in es) (id_plus f n) (right_of (id_plus f k)) ls) (sym step)

pub returns-in_ok-extend_from_slice-clause-filled : goal.returns-in_ok-extend_from_slice-clause-filled
returns-in_ok-extend_from_slice-clause-filled c =
    let u = (goal.at.returns-in_ok-extend_from_slice-clause-filled c).After-extend_from_slice in
    let held = c.get_mut.follows.holds (other u) in
    let size : length c.extend_from_slice.new.self.items ≡ length c.in-Some.run'.now.letters.items + length c.args.letters.now = ap length c.in_ok-extend_from_slice.ensures.items ∙ length-append c.in-Some.run'.now.letters.items c.args.letters.now in
    let long' = long u in
    let fits = c.requires.fits in
    let new : IsFilled (c.args.spot.first, other u) = record { some = omega (arith, size, long'); fits = omega (arith, size, long', fits) } in
    subst (λ (es : Runs). AreFilled es) (sym held.0) (filled_set c.args.runs.now.entries c.args.spot.first (other u) c.requires.filled new)

pub returns-in_ok-extend_from_slice-clause-starts : goal.returns-in_ok-extend_from_slice-clause-starts
returns-in_ok-extend_from_slice-clause-starts c =
    let u = (goal.at.returns-in_ok-extend_from_slice-clause-starts c).After-extend_from_slice in
    let held = c.get_mut.follows.holds (other u) in
    ap (λ (es : Runs). starts es) held.0 ∙ starts_set c.args.spot.first c.in-Some.run'.now (other u) refl c.args.runs.now.entries (there u)
