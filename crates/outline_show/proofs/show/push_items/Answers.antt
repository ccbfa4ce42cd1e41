use Rattle.std.proofs.Common.{string_bytes}
use Rattle.model.specs.Text.{item_line}
use Rattle.op_grammar.specs.Values.{own_value_of}
use Rattle.outline_show.proofs.LineLaws.{lines_all}
use Rattle.outline_show.proofs.show.push_items.Goals as goal

pub returns : goal.returns
returns c = lines_all item_line own_value_of (string_bytes c.args.text.now) (string_bytes c.loop-item.text) c.as_slice-item-items.result.now c.args.items.now c.loop-item.item-index c.loop-item-test.false c.as_slice-item-items.ensures c.loop-item.invariant
