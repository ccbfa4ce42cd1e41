use Rattle.std.proofs.Common.{◌≡◌, ◌∙◌, ap, sym, subst, true, false, cond}
use Rattle.std.specs.Ordering.{eq_by_cmp}
use Rattle.std.specs.BTreeSet.{BTreeSet, contains}
use Rattle.std.specs.FinMap as fin
use Rattle.model.specs.Operation.{Anchor}
use Rattle.fugue_tree.specs.declared.owned.OwnedChild.{OwnedChild}
use Rattle.fugue_tree.specs.Trees.{AreKept, MayHang, Table, owned_at, owned_cmp, table_of}
use Rattle.fugue_tree.proofs.GrowLaws.{from_ok, from_err}
use Rattle.fugue_tree.proofs.TreesLaws.{kept_written, one_more, taken_back, trees_are}
use Rattle.fugue_tree.proofs.trees.Trees.add.Goals as goal
use Rattle.fugue_tree.proofs.trees.Trees.add.Goals.{In_ok-insert}

abbrev before : In_ok-insert → Table
before c = table_of c.self.inside.rows.entries

abbrev hung : In_ok-insert → Anchor
hung c = record { on = c.args.anchor; side = c.args.side }

may : (c : In_ok-insert) → MayHang (before c) c.args.owner c.args.id (hung c)
may c = subst (λ (m : Table). MayHang m c.args.owner c.args.id (hung c)) (sym c.self.view_is) c.requires

added : (c : In_ok-insert) → (x : OwnedChild) → contains owned_cmp c.insert.new.self x ≡ cond (eq_by_cmp owned_cmp (owned_at c.args.owner c.args.anchor c.args.side c.args.id) x) true (contains owned_cmp c.self.inside.children x)
added c x = c.in_ok-insert.ensures.updates.0 x ∙ ap (λ k. cond (eq_by_cmp owned_cmp k x) true (contains owned_cmp c.self.inside.children x)) c.owned_at-child.ensures

more : (c : In_ok-insert) → AreKept (fin.insert (before c) (c.args.owner, c.args.id) (hung c)) c.insert.new.self
more c = one_more (before c) c.self.inside.children c.self.invariant c.args.owner c.args.id c.args.anchor c.args.side (may c) c.insert.new.self (added c)

pub invariant_of-self-then-is_err : goal.invariant_of-self-then-is_err
invariant_of-self-then-is_err c =
    let u = (goal.at.invariant_of-self-then-is_err c).In_ok-insert in
    let same = from_err c.insert-added.result (sym c.is_err.ensures.value ∙ c.if-is_err.true) c.insert-added.ensures.err in
    subst (λ es. AreKept (table_of es) c.remove.new.self) (sym same)
    (taken_back (before u) c.self.inside.children c.self.invariant c.args.owner c.args.id c.args.anchor c.args.side (may u) c.insert.new.self (added u) c.remove.new.self
    (λ x. c.remove.ensures.updates.0 x ∙ ap (λ k. cond (eq_by_cmp owned_cmp k x) false (contains owned_cmp c.insert.new.self x)) c.owned_at-child.ensures))

pub invariant_of-self-else-is_err : goal.invariant_of-self-else-is_err
invariant_of-self-else-is_err c =
    let u = (goal.at.invariant_of-self-else-is_err c).In_ok-insert in
    let updates = from_ok c.insert-added.result (sym c.is_err.ensures.value ∙ c.if-is_err.false) c.insert-added.ensures.updates in
    subst (λ (m : Table). AreKept m c.insert.new.self) (sym (kept_written c.self.inside.rows.entries c.insert-added.new.self.entries (c.args.owner, c.args.id) _ updates.0)) (more u)

pub returns-clause-ok : goal.returns-clause-ok
returns-clause-ok c =
    let updates = from_ok c.insert-added.result (sym c.is_err.ensures.value ∙ c.if-is_err.false) c.insert-added.ensures.updates in
    kept_written c.self.inside.rows.entries c.insert-added.new.self.entries (c.args.owner, c.args.id) _ updates.0
    ∙ ap (λ (m : Table). fin.insert m (c.args.owner, c.args.id) (record { on = c.args.anchor; side = c.args.side })) c.self.view_is

pub returns-clause-trees : goal.returns-clause-trees
returns-clause-trees c =
    let u = (goal.at.returns-clause-trees c).In_ok-insert in
    let updates = from_ok c.insert-added.result (sym c.is_err.ensures.value ∙ c.if-is_err.false) c.insert-added.ensures.updates in
    trees_are (table_of c.insert-added.new.self.entries) c.insert.new.self
    (subst (λ (m : Table). AreKept m c.insert.new.self) (sym (kept_written c.self.inside.rows.entries c.insert-added.new.self.entries (c.args.owner, c.args.id) _ updates.0)) (more u))
