use Rattle.std.proofs.Common.{◌≡◌, ◌∙◌, ap, sym, subst, ◌<◌, not, Some, length, get_or, arith}
use Rattle.std.proofs.Math.ListN.{length-set}
use Rattle.std.specs.Map.{lookup}
use Rattle.op_ids.specs.Order.{id_plus}
use Rattle.model.specs.View.{is_live}
use Rattle.walk_laws.proofs.Walks.{key_eq}
use Rattle.fugue_text.specs.declared.run.Run.{Run}
use Rattle.fugue_text.specs.Runs.{AreFilled, IsFilled, no_letter, rows_in, starts}
use Rattle.fugue_text.proofs.RunLaws.{Runs, filled_of, filled_set, kill_rows, spot_found, starts_set}
use Rattle.fugue_text.proofs.run.kill_at.Goals as goal
use Rattle.fugue_text.proofs.run.kill_at.Goals.{After-kill}

there : (c : After-kill) → lookup (key_eq c.args.spot.first) c.args.runs.now.entries ≡ Some c.in-Some.run'.now
there c = sym c.in-Some.ensures.value

same : (c : After-kill) → c.requires.there.run ≡ c.in-Some.run'.now
same c =
    let is : Some c.requires.there.run ≡ Some c.in-Some.run'.now = sym c.requires.there.there ∙ there c in
    cc

within : (c : After-kill) → c.args.spot.offset < length c.in-Some.run'.now.letters.items
within c = subst (λ (r : Run). c.args.spot.offset < length r.letters.items) (same c) c.requires.there.within

pub returns-in-Some-clause-alive : goal.returns-in-Some-clause-alive
returns-in-Some-clause-alive c =
    let u = (goal.at.returns-in-Some-clause-alive c).After-kill in
    let f = c.args.spot.first in
    let k = c.args.spot.offset in
    c.kill.ensures.alive ∙ ap (λ (r : Run). not (get_or r.letters.items k no_letter).dead) (sym (same u))
    ∙ sym (ap is_live (spot_found (id_plus f k) f k c.args.runs.now.entries c.requires.rising c.requires.there))

pub returns-in-Some-clause-rows : goal.returns-in-Some-clause-rows
returns-in-Some-clause-rows c =
    let u = (goal.at.returns-in-Some-clause-rows c).After-kill in
    let held = c.get_mut.follows.holds c.kill.new.self in
    ap (λ (es : Runs). rows_in es) held.0
    ∙ kill_rows c.args.spot.first c.args.spot.offset c.in-Some.run'.now c.kill.new.self c.kill.ensures.anchor c.kill.ensures.letters (within u) c.args.runs.now.entries c.requires.rising (there u)

pub returns-in-Some-clause-filled : goal.returns-in-Some-clause-filled
returns-in-Some-clause-filled c =
    let u = (goal.at.returns-in-Some-clause-filled c).After-kill in
    let held = c.get_mut.follows.holds c.kill.new.self in
    let old = filled_of c.args.spot.first c.args.runs.now.entries c.in-Some.run'.now c.requires.filled (there u) in
    let some = old.some in
    let fits = old.fits in
    let size : length c.kill.new.self.letters.items ≡ length c.in-Some.run'.now.letters.items = ap length c.kill.ensures.letters ∙ simp length-set in
    let new : IsFilled (c.args.spot.first, c.kill.new.self) = record { some = omega (arith, size, some); fits = omega (arith, size, fits) } in
    subst (λ (es : Runs). AreFilled es) (sym held.0) (filled_set c.args.runs.now.entries c.args.spot.first c.kill.new.self c.requires.filled new)

pub returns-in-Some-clause-starts : goal.returns-in-Some-clause-starts
returns-in-Some-clause-starts c =
    let u = (goal.at.returns-in-Some-clause-starts c).After-kill in
    let held = c.get_mut.follows.holds c.kill.new.self in
    ap (λ (es : Runs). starts es) held.0 ∙ starts_set c.args.spot.first c.in-Some.run'.now c.kill.new.self c.kill.ensures.anchor c.args.runs.now.entries (there u)
