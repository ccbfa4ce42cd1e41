use Rattle.std.proofs.Common.{◌≡◌, ◌∙◌, ap}
use Rattle.std.specs.FinMap.{len}
use Rattle.tree_log.specs.Moves.{places_now}
use Rattle.doc_store.specs.Kept.{Kept, state_of}
use Rattle.doc_store.proofs.ViewLaws.{index_of, rows_len}
use Rattle.doc_store.proofs.doc.Doc.child_index.Goals as goal

pub returns-clause-finds : goal.returns-clause-finds
returns-clause-finds c =
    let s = state_of c.args.self.now in
    let nodes : c.parents.result.now.places ≡ s.nodes = c.parents.ensures.places ∙ ap (λ (d : Kept). places_now d.log) c.self.view_is in
    index_of c.in_ok-index.index s c.in_ok-rows.rows.items c.deref.result.now c.parents.result.now.places c.in_ok-index.ensures c.deref.ensures.value c.in_ok-rows.ensures nodes

pub returns-clause-count : goal.returns-clause-count
returns-clause-count c =
    let s = state_of c.args.self.now in
    let nodes : c.parents.result.now.places ≡ s.nodes = c.parents.ensures.places ∙ ap (λ (d : Kept). places_now d.log) c.self.view_is in
    c.len.ensures ∙ c.in_ok-rows.rows.ok.0 ∙ rows_len c.parents.result.now.places c.in_ok-rows.rows.items c.in_ok-rows.ensures ∙ ap len nodes
