use Rattle.std.proofs.Common.{◌≡◌, ◌&&◌, not, map, filter, slice_get, drop}
use Rattle.op_ids.specs.Order.{id_lt}
use Rattle.doc_store.proofs.references.first_wrong.Given as goal

abbrev pub invariant-loop-name : goal.invariant-loop-name
invariant-loop-name l =
    slice_get (map (λ n. n.0) (filter (λ n. not (n.1 && id_lt n.0 l.id)) l.names)) 0 ≡ slice_get (map (λ n. n.0) (filter (λ n. not (n.1 && id_lt n.0 l.id)) (drop l.name-index l.names))) 0
