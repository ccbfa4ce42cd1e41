use Rattle.std.proofs.Common.{◌≡◌, ◌∙◌, ap, false}
use Rattle.model.specs.Operation.{Anchor}
use Rattle.walk_laws.specs.Insertion.{is_row}
use Rattle.move_list.specs.Items.{items_of}
use Rattle.move_list.specs.Kept.{NodeRows}
use Rattle.move_list.proofs.PlaceLaws.{shifted_rows}
use Rattle.move_list.proofs.list.NodeList.shift.Goals as goal

pub invariant_of-self-2 : goal.invariant_of-self-2
invariant_of-self-2 c =
    let p = c.self.inside.positions.rows in
    let m = items_of c.self.inside.items.entries in
    let a : Anchor = record { on = c.args.anchor; side = c.args.side } in
    let fresh : is_row p c.args.id ≡ false = ap (λ (l : NodeRows). is_row l.positions c.args.id) c.self.view_is ∙ c.requires.new_position in
    record {
      tree = c.in_ok-add.ensures.tree;
      items = shifted_rows p m c.self.invariant.items c.add.new.self.rows (items_of c.shift.new.items.entries) c.args.element c.args.id a fresh c.in_ok-add.ensures.ok c.shift.ensures;
    }

pub returns-clause-list : goal.returns-clause-list
returns-clause-list c =
    let p = c.self.inside.positions.rows in
    let m = items_of c.self.inside.items.entries in
    let a : Anchor = record { on = c.args.anchor; side = c.args.side } in
    let fresh : is_row p c.args.id ≡ false = ap (λ (l : NodeRows). is_row l.positions c.args.id) c.self.view_is ∙ c.requires.new_position in
    record {
      tree = c.in_ok-add.ensures.tree;
      items = shifted_rows p m c.self.invariant.items c.add.new.self.rows (items_of c.shift.new.items.entries) c.args.element c.args.id a fresh c.in_ok-add.ensures.ok c.shift.ensures;
    }
