use Rattle.std.proofs.Common.{◌≡◌, ◌++◌, flat_map, take, string_bytes}
use Rattle.model.specs.Text.{entry_line}
use Rattle.doc_store.specs.Keys.{entry_seen}
use Rattle.outline_show.proofs.show.push_keys.Given as goal

abbrev pub invariant-loop-key : goal.invariant-loop-key
invariant-loop-key l = string_bytes l.text ≡ string_bytes l.initial.text ++ flat_map (λ k. entry_line (entry_seen k)) (take l.key-index l.key-items)
