use Rattle.std.proofs.Common.{◌≡◌, ◌∙◌, ap, sym, subst, true, false, cond}
use Rattle.std.specs.BTreeSet.{contains}
use Rattle.model.specs.Operation.{Anchor}
use Rattle.model.specs.Walk.{Rows}
use Rattle.walk_laws.specs.Insertion.{is_row, HangsWell, IsInsertionTree, with_row}
use Rattle.walk_laws.proofs.InsertionLaws.{tree_with}
use Rattle.fugue_tree.specs.declared.children.Child.{Child}
use Rattle.fugue_tree.specs.Tree.{OwnedRows, IsKept, at, child_cmp, child_eq, kept_rows}
use Rattle.fugue_tree.proofs.RowLaws.{kept_rows-insert}
use Rattle.fugue_tree.proofs.GrowLaws.{kept_added, kept_back, from_ok, from_err}
use Rattle.fugue_tree.proofs.tree.Tree.add.Goals as goal
use Rattle.fugue_tree.proofs.tree.Tree.add.Goals.{In_ok-insert}

abbrev before : In_ok-insert → Rows
before c = kept_rows c.self.inside.rows.entries

abbrev hung : In_ok-insert → Anchor
hung c = record { on = c.args.anchor; side = c.args.side }

fresh : (c : In_ok-insert) → is_row (before c) c.args.id ≡ false
fresh c = ap (λ (t : OwnedRows). is_row t.rows c.args.id) c.self.view_is ∙ c.requires.fresh

hangs : (c : In_ok-insert) → HangsWell (before c) c.args.id (hung c)
hangs c = subst (λ (t : OwnedRows). HangsWell t.rows c.args.id (hung c)) (sym c.self.view_is) c.requires.hangs

added : (c : In_ok-insert) → (x : Child) → contains child_cmp c.insert.new.self x ≡ cond (child_eq (at c.args.anchor c.args.side c.args.id) x) true (contains child_cmp c.self.inside.children x)
added c x = c.in_ok-insert.ensures.updates.0 x ∙ ap (λ k. cond (child_eq k x) true (contains child_cmp c.self.inside.children x)) c.child_at-child.ensures

pub invariant_of-self-then-is_err : goal.invariant_of-self-then-is_err
invariant_of-self-then-is_err c =
    let u = (goal.at.invariant_of-self-then-is_err c).In_ok-insert in
    let same = from_err c.insert-added.result (sym c.is_err.ensures.value ∙ c.if-is_err.true) c.insert-added.ensures.err in
    subst (λ es. IsKept (kept_rows es) c.remove.new.self) (sym same)
    (kept_back (before u) c.self.inside.children c.self.invariant c.args.id c.args.anchor c.args.side (fresh u) c.insert.new.self (added u) c.remove.new.self
    (λ x. c.remove.ensures.updates.0 x ∙ ap (λ k. cond (child_eq k x) false (contains child_cmp c.insert.new.self x)) c.child_at-child.ensures))

pub invariant_of-self-else-is_err : goal.invariant_of-self-else-is_err
invariant_of-self-else-is_err c =
    let u = (goal.at.invariant_of-self-else-is_err c).In_ok-insert in
    let now = ap kept_rows (from_ok c.insert-added.result (sym c.is_err.ensures.value ∙ c.if-is_err.false) c.insert-added.ensures.entries) ∙ kept_rows-insert c.self.inside.rows.entries c.args.id (record { on = c.args.anchor; side = c.args.side }) in
    subst (λ rows. IsKept rows c.insert.new.self) (sym now)
    (kept_added (before u) c.self.inside.children c.self.invariant c.args.id c.args.anchor c.args.side (fresh u) c.insert.new.self (added u) c.requires.no_head (hangs u))

pub returns-clause-ok : goal.returns-clause-ok
returns-clause-ok c =
    ap kept_rows (from_ok c.insert-added.result (sym c.is_err.ensures.value ∙ c.if-is_err.false) c.insert-added.ensures.entries)
    ∙ kept_rows-insert c.self.inside.rows.entries c.args.id (record { on = c.args.anchor; side = c.args.side })
    ∙ ap (λ (t : OwnedRows). with_row t.rows c.args.id (record { on = c.args.anchor; side = c.args.side })) c.self.view_is

pub returns-clause-tree : goal.returns-clause-tree
returns-clause-tree c =
    let u = (goal.at.returns-clause-tree c).In_ok-insert in
    let now = ap kept_rows (from_ok c.insert-added.result (sym c.is_err.ensures.value ∙ c.if-is_err.false) c.insert-added.ensures.entries) ∙ kept_rows-insert c.self.inside.rows.entries c.args.id (record { on = c.args.anchor; side = c.args.side }) in
    subst IsInsertionTree (sym now) (tree_with (before u) c.args.id (hung u) c.self.invariant.tree c.requires.no_head (hangs u))
