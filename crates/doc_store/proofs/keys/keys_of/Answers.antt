use Rattle.std.proofs.Common.{◌∙◌, ap, map}
use Rattle.std.specs.FinMap as fin
use Rattle.doc_store.specs.Keys.{entry_seen}
use Rattle.doc_store.proofs.ViewLaws.{node_keys}
use Rattle.doc_store.proofs.keys.keys_of.Goals as goal

pub returns : goal.returns
returns c = ap (map entry_seen) c.in_ok-keys.ensures ∙ node_keys c.args.node c.in_ok-entries.field-0.items (fin.entries c.args.registers.now) c.in_ok-entries.ensures
