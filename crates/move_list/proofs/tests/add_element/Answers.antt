use Rattle.move_list.proofs.tests.add_element.Goals as goal

pub add-requires-clause-new_position : goal.add-requires-clause-new_position
add-requires-clause-new_position c = (c.may_hang-may.ensures c.if-may.true).0

pub add-requires-clause-no_head : goal.add-requires-clause-no_head
add-requires-clause-no_head c = (c.may_hang-may.ensures c.if-may.true).1

pub add-requires-clause-hangs : goal.add-requires-clause-hangs
add-requires-clause-hangs c = (c.may_hang-may.ensures c.if-may.true).2
