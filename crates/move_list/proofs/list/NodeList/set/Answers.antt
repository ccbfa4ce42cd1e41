use Rattle.std.proofs.Common.{inl, inr}
use Rattle.std.proofs.lemmas.Result.{on_ok_weaker}
use Rattle.model_laws.specs.Arrival.{set_late}
use Rattle.op_grammar.specs.Values.{value_of}
use Rattle.move_list.specs.Items.{items_of}
use Rattle.move_list.specs.Kept.{AreAt}
use Rattle.move_list.proofs.PlaceLaws.{either, edited_rows, same_items, set_keeps}
use Rattle.move_list.proofs.list.NodeList.set.Goals as goal

pub invariant_of-self : goal.invariant_of-self
invariant_of-self c =
    let p = c.self.inside.positions.rows in
    let m = items_of c.self.inside.items.entries in
    let n = items_of c.set.new.items.entries in
    let h : AreAt p m = c.self.invariant.items in
    let value = value_of c.args.value in
    record {
      tree = c.self.invariant.tree;
      items =
          elim (either c.set.result c.set.ensures.ok c.set.ensures.err) as (λ _. AreAt p n) [
            | inl e ↦ edited_rows p m h n c.args.element (set_late c.args.id value) (set_keeps c.args.id value) e
            | inr e ↦ same_items p m h n e
          ];
    }

pub returns-clause-list : goal.returns-clause-list
returns-clause-list c =
    let p = c.self.inside.positions.rows in
    let m = items_of c.self.inside.items.entries in
    let n = items_of c.set.new.items.entries in
    let value = value_of c.args.value in
    on_ok_weaker c.set.result (λ e. record { tree = c.self.invariant.tree; items = edited_rows p m c.self.invariant.items n c.args.element (set_late c.args.id value) (set_keeps c.args.id value) e }) c.set.ensures.ok
