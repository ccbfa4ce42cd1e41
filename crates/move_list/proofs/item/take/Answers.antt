use Rattle.move_list.proofs.ItemLaws.{items_taken}
use Rattle.move_list.proofs.item.take.Goals as goal

pub returns : goal.returns
returns c = items_taken c.args.items.now.entries c.remove.new.self.entries c.args.id c.remove.ensures.updates.0
