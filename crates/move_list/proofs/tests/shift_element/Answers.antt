use Rattle.move_list.proofs.tests.shift_element.Goals as goal

pub shift-requires-clause-new_position : goal.shift-requires-clause-new_position
shift-requires-clause-new_position c = (c.may_hang-may.ensures c.if-may.true).0

pub shift-requires-clause-no_head : goal.shift-requires-clause-no_head
shift-requires-clause-no_head c = (c.may_hang-may.ensures c.if-may.true).1

pub shift-requires-clause-hangs : goal.shift-requires-clause-hangs
shift-requires-clause-hangs c = (c.may_hang-may.ensures c.if-may.true).2
