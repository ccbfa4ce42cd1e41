use Rattle.std.proofs.Common.{ℕ, ◌≡◌, ◌∙◌, ◌<◌, ◌≤◌, length, List, [], ◌∷◌, zero, suc, true, false, inl, refl, sym, ap, subst, lit<, lit≤, arith}
use Rattle.std.specs.Prelude.{IsUtf8, codes, slice_index, negsuc}
use Rattle.std.specs.List.{AllByRecursion}
use Rattle.std.specs.FinMap.{get-empty}
use Rattle.std.proofs.lemmas.Int.{ints}
use Rattle.op_ids.specs.Order.{id_cmp, root_id}
use Rattle.op_ids.specs.declared.OpId.{OpId}
use Rattle.model.specs.Operation.{IsKey, new_node, put_key}
use Rattle.model.specs.Value.{IsOpId, IsValue, Value, null, truth, integer, text, bytes}
use Rattle.model.specs.State.{Atom, empty_state, right_of, row_cmp}
use Rattle.doc_store.specs.Documents.{HasNoRow, IsFormed, IsOwnId, parts_of}
use Rattle.model_laws.specs.Arrival.{Rises}
use Rattle.doc_store.specs.Kept.{document_of, state_of}
use Rattle.outline_show.proofs.tests.small_text.Goals as goal

abbrev own : ℕ → OpId
own k = record { time = 1; member = 0; index = k }

root_is_id : IsOpId 32 root_id
root_is_id = record { time = lit< tt; member = lit< tt; index = lit< tt; fixed = λ e. inl refl }

own_is_id : (k : ℕ) → k < 65536 → IsOpId 32 (own k)
own_is_id k few = record { time = lit< tt; member = lit< tt; index = few; fixed = λ e. absurd (cc) }

own_is_own : (k : ℕ) → k < 65536 → IsOwnId (own k)
own_is_own k few = record { some = lit≤ tt; time = lit< tt; member = lit< tt; index = few }

node_formed : (k : ℕ) (parent : OpId) → k < 65536 → IsOpId 32 parent → IsFormed (record { id = own k; operation = new_node parent (right_of root_id) })
node_formed k parent few known = record { operation = (known, record { on = root_is_id; head = λ e. refl }); ids = (own_is_own k few, tt) }

key_formed : (k node : ℕ) (key : List ℕ) (value : Value) → k < 65536 → node < 65536 → IsKey key → IsValue value → IsFormed (record { id = own k; operation = put_key (own node) key value })
key_formed k node key value few known named valued = record { operation = (own_is_id node known, named, valued); ids = (own_is_own k few, tt) }

key : (bs : List ℕ) → IsUtf8 bs → 1 ≤ length bs → length bs ≤ 256 → IsKey bs
key bs valid some most = record { text = valid; some = some; most = most }

two_bytes : (i : ℕ) → slice_index (0 ∷ 255 ∷ []) i < 256
two_bytes zero = lit< tt
two_bytes (suc zero) = lit< tt
two_bytes (suc (suc i)) = lit< tt

unused : (id : OpId) → HasNoRow empty_state id
unused id = record {
  nodes = get-empty id_cmp id;
  positions = λ o. get-empty row_cmp (o, id);
  texts = λ o. get-empty row_cmp (o, id);
  list_positions = λ o. get-empty row_cmp (o, id);
  elements = λ o. get-empty row_cmp (o, id);
}

abbrev put : ℕ → ℕ → List ℕ → Value → Atom
put k node key value = record { id = own k; operation = put_key (own node) key value }

abbrev listed : List Atom
listed =
    record { id = own 0; operation = new_node root_id (right_of root_id) } ∷ record { id = own 1; operation = new_node (own 0) (right_of root_id) }
    ∷ put 2 0 (codes "yes") (truth true) ∷ put 3 0 (codes "no") (truth false) ∷ put 4 0 (codes "none") null ∷ put 5 0 (codes "bytes") (bytes (0 ∷ 255 ∷ []))
    ∷ put 6 0 (codes "words") (text (34 ∷ 92 ∷ 10 ∷ 127 ∷ 195 ∷ 169 ∷ [])) ∷ put 7 1 (9 ∷ []) (integer (negsuc 6)) ∷ []

all_formed : AllByRecursion IsFormed listed
unfolding lib.Utf8.encode
all_formed = (
  node_formed 0 root_id (lit< tt) root_is_id,
  (
    node_formed 1 (own 0) (lit< tt) (own_is_id 0 (lit< tt)),
    (
      key_formed 2 0 (codes "yes") (truth true) (lit< tt) (lit< tt) (key (codes "yes") (codes "yes", (refl, refl)) (lit≤ tt) (lit≤ tt)) tt,
      (
        key_formed 3 0 (codes "no") (truth false) (lit< tt) (lit< tt) (key (codes "no") (codes "no", (refl, refl)) (lit≤ tt) (lit≤ tt)) tt,
        (
          key_formed 4 0 (codes "none") null (lit< tt) (lit< tt) (key (codes "none") (codes "none", (refl, refl)) (lit≤ tt) (lit≤ tt)) tt,
          (
            key_formed 5 0 (codes "bytes") (bytes (0 ∷ 255 ∷ [])) (lit< tt) (lit< tt) (key (codes "bytes") (codes "bytes", (refl, refl)) (lit≤ tt) (lit≤ tt)) (two_bytes, lit≤ tt),
            (
              key_formed 6 0 (codes "words") (text (34 ∷ 92 ∷ 10 ∷ 127 ∷ 195 ∷ 169 ∷ [])) (lit< tt) (lit< tt) (key (codes "words") (codes "words", (refl, refl)) (lit≤ tt) (lit≤ tt)) ((34 ∷ 92 ∷ 10 ∷ 127 ∷ 233 ∷ [], (refl, refl)), lit≤ tt),
              (key_formed 7 1 (9 ∷ []) (integer (negsuc 6)) (lit< tt) (lit< tt) (key (9 ∷ []) (9 ∷ [], (refl, refl)) (lit≤ tt) (lit≤ tt)) (omega (arith, ints), omega (arith, ints)), tt),
            ),
          ),
        ),
      ),
    ),
  ),
)

all_rise : Rises (parts_of listed)
all_rise = (
  (refl, (refl, (refl, (refl, (refl, (refl, (refl, tt))))))),
  (
    (refl, (refl, (refl, (refl, (refl, (refl, tt)))))),
    (
      (refl, (refl, (refl, (refl, (refl, tt))))),
      ((refl, (refl, (refl, (refl, tt)))), ((refl, (refl, (refl, tt))), ((refl, (refl, tt)), ((refl, tt), (tt, tt))))),
    ),
  ),
)

pub refs_known-requires : goal.refs_known-requires
refs_known-requires c κs = ((refl, (refl, tt)), all_formed)

pub apply-requires : goal.apply-requires
apply-requires c κs =
    let refer = rw c.in-None.is at c.in_ok-refs_known.ensures.first in
    let d = document_of c.of-draft.result in
    let empty : state_of d ≡ empty_state = ap (λ k. state_of (document_of k)) c.of-draft.ensures ∙ c.new.ensures.state in
    let free : (id : OpId) → HasNoRow (state_of d) id = λ id. subst (λ u. HasNoRow u id) (sym empty) (unused id) in
    ((refl, tt), (all_formed, (refer, (all_rise, (free _, (free _, (free _, (free _, (free _, (free _, (free _, (free _, tt))))))))))))
