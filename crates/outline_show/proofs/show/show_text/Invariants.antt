use Rattle.std.proofs.Common.{◌≡◌, ◌++◌, flat_map, take, string_bytes}
use Rattle.model.specs.Text.{shown_node}
use Rattle.doc_store.specs.Shown.{node_seen}
use Rattle.outline_show.proofs.show.show_text.Given as goal

abbrev pub invariant-loop-node : goal.invariant-loop-node
invariant-loop-node l = string_bytes l.text ≡ string_bytes l.initial.text ++ flat_map (λ n. shown_node (node_seen n)) (take l.node-index l.node-items)
