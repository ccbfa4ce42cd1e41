use Rattle.std.proofs.Common.{◌≡◌, ◌∙◌, ap, sym, false, inl, inr}
use Rattle.std.proofs.lemmas.Result.{on_ok_weaker}
use Rattle.model.specs.Operation.{Anchor}
use Rattle.walk_laws.specs.Insertion.{is_row}
use Rattle.move_list.specs.Items.{items_of}
use Rattle.move_list.specs.Kept.{AreAt, NodeRows}
use Rattle.move_list.proofs.PlaceLaws.{either, same_rows, hung_rows}
use Rattle.move_list.proofs.list.NodeList.hang.Goals as goal

pub invariant_of-self : goal.invariant_of-self
invariant_of-self c =
    let p = c.self.inside.positions.rows in
    let m = items_of c.self.inside.items.entries in
    let h : AreAt p m = c.self.invariant.items in
    let a : Anchor = record { on = c.args.anchor; side = c.args.side } in
    let fresh : is_row p c.args.id ≡ false = ap (λ (l : NodeRows). is_row l.positions c.args.id) c.self.view_is ∙ c.requires.new_position in
    record {
      tree = c.add.ensures.tree;
      items =
          elim (either c.add.result c.add.ensures.ok c.add.ensures.err) as (λ _. AreAt c.add.new.self.rows m) [
            | inl e ↦ hung_rows p m h c.add.new.self.rows c.args.id a fresh e
            | inr e ↦ same_rows p m h c.add.new.self.rows e
          ];
    }

pub returns-clause-list : goal.returns-clause-list
returns-clause-list c =
    let p = c.self.inside.positions.rows in
    let m = items_of c.self.inside.items.entries in
    let a : Anchor = record { on = c.args.anchor; side = c.args.side } in
    let fresh : is_row p c.args.id ≡ false = ap (λ (l : NodeRows). is_row l.positions c.args.id) c.self.view_is ∙ c.requires.new_position in
    on_ok_weaker c.add.result (λ e. record { tree = c.add.ensures.tree; items = hung_rows p m c.self.invariant.items c.add.new.self.rows c.args.id a fresh e }) c.add.ensures.ok
