-- The changes up to a time and past it, at two times.
use Rattle.std.proofs.Common.{◌≡◌, ℕ, ◌<◌, ◌≤◌, true, false, leb, ltb, List, [], ◌++◌, sym, ap, ◌∙◌, arith}
use Rattle.std.specs.List.{AllByRecursion}
use Rattle.std.proofs.lemmas.Bool.{le-leb, le-ltb, leb-true}
use Rattle.model.specs.Base.{past, up_to}
use Rattle.model.specs.Change.{AreInTimeOrder, Change}
use Rattle.model_laws.proofs.ListLaws.{all_more, filter_all, filter_none}
use Rattle.model_laws.proofs.TrimLaws.{up_to-append-past}
use Rattle.arrival_laws.proofs.AddLaws.{all_pass, filter-append}

pub times_by : (L : ℕ) (h : List Change) → AllByRecursion (λ c. c.time ≤ L) (up_to L h)
times_by L h = all_more (λ c. leb c.time L ≡ true) (λ c. c.time ≤ L) (λ c e. leb-true c.time L e) (up_to L h) (all_pass (λ c. leb c.time L) h)

-- the changes up to a time are those up to an earlier one, and those between
pub up_to_later : (H L : ℕ) (h : List Change) → AreInTimeOrder h → H ≤ L → up_to L h ≡ up_to H h ++ up_to L (past H h)
up_to_later H L h order l =
    ap (up_to L) (sym (up_to-append-past H h order)) ∙ filter-append (λ c. leb c.time L) (up_to H h) (past H h)
    ∙ ap (λ front. front ++ up_to L (past H h)) (filter_all (λ c. leb c.time L) (up_to H h) (all_more (λ c. c.time ≤ H) (λ c. leb c.time L ≡ true) (λ c k. le-leb c.time L (omega arith)) (up_to H h) (times_by H h)))

-- and those past it are among those past the earlier one
pub past_later : (H L : ℕ) (h : List Change) → AreInTimeOrder h → H ≤ L → past L (past H h) ≡ past L h
past_later H L h order l =
    let none = filter_none (λ c. ltb L c.time) (up_to H h) (all_more (λ c. c.time ≤ H) (λ c. ltb L c.time ≡ false) (λ c k. le-ltb L c.time (omega arith)) (up_to H h) (times_by H h)) in
    sym (ap (past L) (sym (up_to-append-past H h order)) ∙ filter-append (λ c. ltb L c.time) (up_to H h) (past H h) ∙ ap (λ front. front ++ past L (past H h)) none)
