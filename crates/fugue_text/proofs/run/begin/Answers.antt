use Rattle.std.proofs.Common.{◌≡◌, ◌∙◌, ap, sym, subst, true, false, cond, [], ◌∷◌, ◌++◌, length, is_some, arith}
use Rattle.std.specs.BTreeSet.{contains}
use Rattle.walk_laws.specs.Insertion.{is_row, with_row}
use Rattle.fugue_tree.specs.declared.children.Child.{Child}
use Rattle.fugue_tree.specs.Tree.{AreChildren, at, child_cmp, child_eq}
use Rattle.fugue_tree.proofs.GrowLaws.{children_added, children_back, from_ok, from_err}
use Rattle.fugue_text.specs.declared.run.Run.{Run}
use Rattle.fugue_text.specs.Runs.{AreFilled, IsFilled, rows_in, run_anchor, starts}
use Rattle.fugue_text.proofs.RunLaws.{Runs, begin_rows, filled_insert, fresh_start, starts_begin}
use Rattle.fugue_text.proofs.run.begin.Goals as goal
use Rattle.fugue_text.proofs.run.begin.Goals.{In_ok-insert}

abbrev run_of : In_ok-insert → Run
run_of c = record { anchor = c.args.anchor; side = c.args.side; letters = c.push.new.self }

one : (c : In_ok-insert) → c.push.new.self.items ≡ c.args.letter ∷ []
one c = c.in_ok-push.ensures.items ∙ ap (λ ls. ls ++ c.args.letter ∷ []) c.new-letters.ensures.items

fresh : (c : In_ok-insert) → is_row (starts c.args.runs.now.entries) c.args.id ≡ false
fresh c = ap is_some (fresh_start c.args.id c.args.runs.now.entries c.requires.rising c.requires.filled c.requires.fresh)

added : (c : In_ok-insert) → (x : Child) → contains child_cmp c.insert.new.self x ≡ cond (child_eq (at c.args.anchor c.args.side c.args.id) x) true (contains child_cmp c.args.children.now x)
added c x = c.in_ok-insert.ensures.updates.0 x ∙ ap (λ k. cond (child_eq k x) true (contains child_cmp c.args.children.now x)) c.child_at-child.ensures

pub returns-then-is_err-clause-index : goal.returns-then-is_err-clause-index
returns-then-is_err-clause-index c =
    let u = (goal.at.returns-then-is_err-clause-index c).In_ok-insert in
    let same = from_err c.insert-added.result (sym c.is_err.ensures.value ∙ c.if-is_err.true) c.insert-added.ensures.err in
    let back : AreChildren (starts c.args.runs.now.entries) c.remove.new.self =
    children_back (starts c.args.runs.now.entries) c.args.children.now c.requires.index c.args.id c.args.anchor c.args.side (fresh u) c.insert.new.self (added u) c.remove.new.self
    (λ x. c.remove.ensures.updates.0 x ∙ ap (λ k. cond (child_eq k x) false (contains child_cmp c.insert.new.self x)) c.child_at-child.ensures) in
    subst (λ (es : Runs). AreChildren (starts es) c.remove.new.self) (sym same) back

pub returns-clause-ok : goal.returns-clause-ok
returns-clause-ok c =
    let u = (goal.at.returns-clause-ok c).In_ok-insert in
    ap rows_in (from_ok c.insert-added.result (sym c.is_err.ensures.value ∙ c.if-is_err.false) c.insert-added.ensures.entries)
    ∙ begin_rows c.args.id (run_of u) c.args.letter (one u) c.args.runs.now.entries c.requires.filled c.requires.fresh

pub returns-clause-filled : goal.returns-clause-filled
returns-clause-filled c =
    let u = (goal.at.returns-clause-filled c).In_ok-insert in
    let now = from_ok c.insert-added.result (sym c.is_err.ensures.value ∙ c.if-is_err.false) c.insert-added.ensures.entries in
    let size : length c.push.new.self.items ≡ 1 = ap length (one u) in
    let new : IsFilled (c.args.id, run_of u) = record { some = omega (arith, size); fits = omega (arith, size) } in
    subst (λ (es : Runs). AreFilled es) (sym now) (filled_insert c.args.runs.now.entries c.args.id (run_of u) c.requires.filled new)

pub returns-clause-index : goal.returns-clause-index
returns-clause-index c =
    let u = (goal.at.returns-clause-index c).In_ok-insert in
    let now : starts c.insert-added.new.self.entries ≡ with_row (starts c.args.runs.now.entries) c.args.id (run_anchor (run_of u)) =
    ap starts (from_ok c.insert-added.result (sym c.is_err.ensures.value ∙ c.if-is_err.false) c.insert-added.ensures.entries) ∙ starts_begin c.args.runs.now.entries c.args.id (run_of u) in
    subst (λ rows. AreChildren rows c.insert.new.self) (sym now)
    (children_added (starts c.args.runs.now.entries) c.args.children.now c.requires.index c.args.id c.args.anchor c.args.side (fresh u) c.insert.new.self (added u))
