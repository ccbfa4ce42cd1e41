use Rattle.std.proofs.Common.{◌≡◌, ◌∙◌, ap, sym, filter_map, List, ℕ}
use Rattle.std.specs.FinMap as fin
use Rattle.std.specs.Str.{chars}
use Rattle.model.specs.View.{ViewNode, elements_of, entries_of, entry_of, text_of}
use Rattle.model.specs.Value.{Value}
use Rattle.model_laws.specs.Arrival.{Contents}
use Rattle.fugue_text.specs.Texts as texts
use Rattle.move_list.specs.Lists as lists
use Rattle.doc_store.proofs.kept_rows.KeptRows.view_node.Goals as goal

pub returns : goal.returns
returns c s e =
    let node = c.args.next.id in
    let depth = c.args.next.depth in
    let now = c.self.view_is ∙ sym e in
    let keys : c.in_ok-keys_of.field-0 ≡ entries_of s node = c.in_ok-keys_of.ensures ∙ ap (λ (k : Contents). filter_map (entry_of node) (fin.entries k.registers)) now in
    let text : chars c.in_ok-text.field-0 ≡ text_of s node = c.in_ok-text.ensures ∙ ap (λ (k : Contents). text_of (texts.document_of k.texts) node) now in
    let items : c.in_ok-items_of.field-0 ≡ elements_of s node = c.in_ok-items_of.ensures ∙ ap (λ (k : Contents). elements_of (lists.document_of (record { positions = k.list_positions; elements = k.elements })) node) now in
    let together : (ks : _) (t : List ℕ) (vs : List Value) → ViewNode = λ ks t vs. record { depth = depth; id = node; entries = ks; text = t; elements = vs } in
    λ i. together (keys i) (text i) (items i)
