-- Nodes that are shown, as the code has them.
use Rattle.std.specs.Prelude.{ℕ, List, refl}
use Rattle.std.specs.Str.{chars}
use Rattle.std.specs.Coded.{Coded, code_by, coded×, coded_ℕ, coded_list}
use Rattle.op_ids.specs.declared.OpId.{OpId}
use Rattle.op_ids.specs.Codes.{id_code}
use Rattle.model.specs.Value.{Value}
use Rattle.model.specs.View.{Entry, ViewNode}
use Rattle.doc_store.specs.Keys.{entries_code, values_code}
use Rattle.doc_store.specs.declared.view.ViewNode as code

abbrev pub NodeParts : Type 0
NodeParts = ℕ × (OpId × (List Entry × (List ℕ × List Value)))

abbrev pub nodes_code : Coded (List ViewNode)
nodes_code =
    coded_list (code_by NodeParts (coded× coded_ℕ (coded× id_code (coded× entries_code (coded× (coded_list coded_ℕ) values_code)))) (λ n. (n.depth, (n.id, (n.entries, (n.text, n.elements)))))
    (λ p. record { depth = p.0; id = p.1.0; entries = p.1.1.0; text = p.1.1.1.0; elements = p.1.1.1.1 }) (λ _. refl))

-- a node as it is shown, its text as characters
abbrev pub node_seen : code.ViewNode → ViewNode
node_seen n = record { depth = n.depth; id = n.id; entries = n.keys; text = chars n.text; elements = n.items }
