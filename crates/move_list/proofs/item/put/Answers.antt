use Rattle.move_list.proofs.ItemLaws.{items_written}
use Rattle.move_list.proofs.item.put.Goals as goal

pub returns-clause-ok : goal.returns-clause-ok
returns-clause-ok c = items_written c.args.items.now.entries c.insert.new.self.entries c.args.id c.args.item c.in_ok-insert.ensures.updates.0
