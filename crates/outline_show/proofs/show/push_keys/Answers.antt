use Rattle.std.proofs.Common.{string_bytes}
use Rattle.model.specs.Text.{entry_line}
use Rattle.doc_store.specs.Keys.{entry_seen}
use Rattle.outline_show.proofs.LineLaws.{lines_all}
use Rattle.outline_show.proofs.show.push_keys.Goals as goal

pub returns : goal.returns
returns c = lines_all entry_line entry_seen (string_bytes c.args.text.now) (string_bytes c.loop-key.text) c.as_slice-key-items.result.now c.args.keys.now c.loop-key.key-index c.loop-key-test.false c.as_slice-key-items.ensures c.loop-key.invariant
