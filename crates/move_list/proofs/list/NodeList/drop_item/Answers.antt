use Rattle.move_list.specs.Items.{items_of, dropped_of}
use Rattle.move_list.proofs.PlaceLaws.{edited_rows, drop_keeps}
use Rattle.move_list.proofs.list.NodeList.drop_item.Goals as goal

pub invariant_of-self : goal.invariant_of-self
invariant_of-self c = record {
  tree = c.self.invariant.tree;
  items = edited_rows c.self.inside.positions.rows (items_of c.self.inside.items.entries) c.self.invariant.items (items_of c.discard.new.items.entries) c.args.element dropped_of drop_keeps c.discard.ensures;
}

pub returns-clause-list : goal.returns-clause-list
returns-clause-list c = record {
  tree = c.self.invariant.tree;
  items = edited_rows c.self.inside.positions.rows (items_of c.self.inside.items.entries) c.self.invariant.items (items_of c.discard.new.items.entries) c.args.element dropped_of drop_keeps c.discard.ensures;
}
