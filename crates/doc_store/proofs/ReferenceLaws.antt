-- What is there after an operation is what was, and the rows that it makes. The first wrong id of a list of names.
use Rattle.std.specs.Prelude.{◌≡◌, ◌+◌, ◌-◌, ◌<◌, ◌≤◌, ◌||◌, ◌&&◌, ℕ, zero, suc, Bool, true, false, cond, Option, Some, None, is_some, List, [], ◌∷◌, length, map, refl}
use Rattle.std.proofs.Common.{sym, ◌∙◌, ap, subst, inl, inr, arith}
use Rattle.std.specs.Cmp.{eq_by_cmp_equiv}
use Rattle.std.specs.Ordering.{eq_by_cmp}
use Rattle.std.specs.BTreeSet.{BTreeSet, contains}
use Rattle.std.specs.FinMap.{FinMap, get, insert, get-insert}
use Rattle.op_ids.specs.declared.OpId.{OpId}
use Rattle.op_ids.specs.Order.{id_cmp, id_eq, id_lt, id_plus}
use Rattle.op_ids.proofs.OrderLaws.{eq_by_cmp-id, id_equiv, same_or_apart}
use Rattle.model.specs.Held.{wrong_ids, wrong_references}
use Rattle.model.specs.Operation.{Anchor, Operation, new_node, move_node, put_key, type_text, erase_text, add_item, shift_item, set_item, drop_item}
use Rattle.model.specs.State.{State, Atom, Place, RowKey, row_cmp, Character, characters_apart, edit_row, is_above, killed, moved, named, done, run_of, step, typed}
use Rattle.model.specs.Value.{Value}
use Rattle.model_laws.specs.Tree.{Places}
use Rattle.model_laws.proofs.ArrivalLaws.{step_done}
use Rattle.model_laws.proofs.Contents.{erased, get-erased, is_among, new_element}
use Rattle.model_laws.proofs.Presence.{right_names, child_there}
use Rattle.model_laws.proofs.Tables.{row_eq, row_total, some_edited, there_edited}
use Rattle.model_laws.proofs.TreeLaws.{get-inserted}
use Rattle.arrival_laws.proofs.ReferLaws.{after_right, apart_right}
use Rattle.fugue_text.proofs.IdLaws.{plus_plus, plus_then, plus_zero}
use Rattle.doc_store.specs.References.{HasMade, HasRun, IsFirstWrong, MakesRows, RowsMade, first_wrong_of, is_in_run}
use Rattle.doc_store.specs.declared.made.Made.{Made}
use Rattle.doc_store.specs.declared.references.BadRef.{BadRef}
use Rattle.doc_store.proofs.TypedLaws.{done_typed, typed_are}

one_more : {X : Type 0} (e : Bool) (x : X) (o : Option X) (a b c : Bool) → is_some o ≡ (a || b) → c ≡ cond e true b → is_some (cond e (Some x) o) ≡ (a || c)
one_more true x o true b c h k = refl
one_more true x o false b c h k = sym k
one_more false x o a b c h k = h ∙ ap (λ t. a || t) (sym k)

abbrev MoreIds : BTreeSet OpId → BTreeSet OpId → OpId → Type 0
MoreIds old new id = (q : OpId) → contains id_cmp new q ≡ cond (eq_by_cmp id_cmp id q) true (contains id_cmp old q)

abbrev MoreRows : BTreeSet RowKey → BTreeSet RowKey → RowKey → Type 0
MoreRows old new k = (q : RowKey) → contains row_cmp new q ≡ cond (eq_by_cmp row_cmp k q) true (contains row_cmp old q)

node_made : (s u : State) (old : Made) (new : BTreeSet OpId) (id : OpId) (p : Place) → HasMade s old u → MoreIds old.nodes new id → (q : OpId) → is_some (get (insert u.nodes id p) q) ≡ (is_some (get s.nodes q) || contains id_cmp new q)
node_made s u old new id p h k q =
    ap is_some (get-inserted u.nodes id p q)
    ∙ one_more (id_eq q id) p (get u.nodes q) (is_some (get s.nodes q)) (contains id_cmp old.nodes q) (contains id_cmp new q) (h.nodes q)
    (k q ∙ ap (λ b. cond b true (contains id_cmp old.nodes q)) (eq_by_cmp-id id q ∙ id_equiv.symm id q))

row_made : {X : Type 0} (before now : FinMap row_cmp X) (old new : BTreeSet RowKey) (k : RowKey) (v : X) → RowsMade before old now → MoreRows old new k → RowsMade before new (insert now k v)
row_made before now old new k v h m owner q =
    ap is_some (get-insert row_total now k v (owner, q))
    ∙ one_more (eq_by_cmp row_cmp (owner, q) k) v (get now (owner, q)) (is_some (get before (owner, q))) (contains row_cmp old (owner, q)) (contains row_cmp new (owner, q)) (h owner q)
    (m (owner, q) ∙ ap (λ b. cond b true (contains row_cmp old (owner, q))) ((eq_by_cmp_equiv row_total).symm k (owner, q)))

row_edited : {X : Type 0} (before now : FinMap row_cmp X) (old : BTreeSet RowKey) (k : RowKey) (f : X → X) → RowsMade before old now → RowsMade before old (edit_row now k f)
row_edited before now old k f h owner q = there_edited now k f (owner, q) ∙ h owner q

rows_erased : (before now : FinMap row_cmp Character) (old : BTreeSet RowKey) (node : OpId) (ids : List OpId) → RowsMade before old now → RowsMade before old (erased now node ids)
rows_erased before now old node ids h owner q = ap is_some (get-erased now node ids (owner, q)) ∙ some_edited (is_among node ids (owner, q)) killed (get now (owner, q)) ∙ h owner q

or_assoc : (a b c : Bool) → ((a || b) || c) ≡ (a || (b || c))
or_assoc true b c = refl
or_assoc false b c = refl

rows_typed : (before now : FinMap row_cmp Character) (old new : BTreeSet RowKey) (node id : OpId) (at : Anchor) (cs : List ℕ) → RowsMade before old now → HasRun old node id (length cs) new → RowsMade before new (typed now node id at cs)
rows_typed before now old new node id at cs h r owner q =
    let run = is_in_run node id (length cs) (owner, q) in
    typed_are now node id at cs (owner, q) ∙ ap (λ b. b || run) (h owner q) ∙ or_assoc (is_some (get before (owner, q))) (contains row_cmp old (owner, q)) run
    ∙ ap (λ b. is_some (get before (owner, q)) || b) (sym (r (owner, q)))

pub some_moved : (m : Places) (child : OpId) (p : Place) → is_some (get m child) ≡ true → (q : OpId) → is_some (get (moved m child p) q) ≡ is_some (get m q)
some_moved m child p c q =
    elim (is_above m child p.parent) as (λ b. is_some (get (cond b m (insert m child p)) q) ≡ is_some (get m q)) [
      | true ↦ refl
      | false ↦
          elim (same_or_apart q child) as (λ _. is_some (get (insert m child p) q) ≡ is_some (get m q)) [
            | inl e ↦ (let here : is_some (get m q) ≡ true = ap (λ i. is_some (get m i)) e ∙ c in ap is_some (get-inserted m child p q) ∙ at_it (id_eq q child) (get m q) here ∙ sym here)
            | inr ne ↦ ap is_some (get-inserted m child p q) ∙ ap (λ b. is_some (cond b (Some p) (get m q))) ne
          ]
    ]
  where
    at_it : (b : Bool) (o : Option Place) → is_some o ≡ true → is_some (cond b (Some p) o) ≡ true
    at_it true o h = refl
    at_it false o h = h

stepped : (u : State) (id : OpId) (o : Operation) → wrong_ids u id o ≡ [] → step u (record { id = id; operation = o }) ≡ done id o u
stepped u id o e = step_done u (record { id = id; operation = o }) (right_names (named u o) id e).there

pub makes_node : (old : Made) (nodes : BTreeSet OpId) (rows : BTreeSet RowKey) (id parent : OpId) (at : Anchor) → MoreIds old.nodes nodes id → MoreRows old.positions rows (parent, id) → MakesRows old id (new_node parent at) (record old { nodes = nodes; positions = rows })
makes_node old nodes rows id parent at n p s u h e =
    let new : Made = record old { nodes = nodes; positions = rows } in
    subst (HasMade s new) (sym (stepped u id (new_node parent at) e)) (record {
      nodes = node_made s u old nodes id (record { parent = parent; position = id }) h n;
      positions = row_made s.positions u.positions old.positions rows (parent, id) at h.positions p;
      characters = h.characters;
      list_positions = h.list_positions;
      elements = h.elements;
    })

pub makes_position : (old : Made) (rows : BTreeSet RowKey) (id child parent : OpId) (at : Anchor) → MoreRows old.positions rows (parent, id) → MakesRows old id (move_node child parent at) (record old { positions = rows })
makes_position old rows id child parent at p s u h e =
    let o = move_node child parent at in
    let new : Made = record old { positions = rows } in
    let there = child_there u o (right_names (named u o) id e).there in
    subst (HasMade s new) (sym (stepped u id o e)) (record {
      nodes = λ q. some_moved u.nodes child (record { parent = parent; position = id }) there q ∙ h.nodes q;
      positions = row_made s.positions u.positions old.positions rows (parent, id) at h.positions p;
      characters = h.characters;
      list_positions = h.list_positions;
      elements = h.elements;
    })

pub makes_none : (made : Made) (id node : OpId) (key : List ℕ) (value : Value) → MakesRows made id (put_key node key value) made
makes_none made id node key value s u h e =
    subst (HasMade s made) (sym (stepped u id (put_key node key value) e)) (record { nodes = h.nodes; positions = h.positions; characters = h.characters; list_positions = h.list_positions; elements = h.elements })

pub makes_characters : (old : Made) (rows : BTreeSet RowKey) (id node : OpId) (at : Anchor) (cs : List ℕ) → HasRun old.characters node id (length cs) rows → MakesRows old id (type_text node at cs) (record old { characters = rows })
makes_characters old rows id node at cs r s u h e =
    let o = type_text node at cs in
    let new : Made = record old { characters = rows } in
    subst (HasMade s new) (sym (after_right u (characters_apart node id at cs) (apart_right u id o (right_names (named u o) id e)) ∙ done_typed u node id at cs)) (record {
      nodes = h.nodes;
      positions = h.positions;
      characters = rows_typed s.texts u.texts old.characters rows node id at cs h.characters r;
      list_positions = h.list_positions;
      elements = h.elements;
    })

pub erases_none : (made : Made) (id node first : OpId) (count : ℕ) → MakesRows made id (erase_text node first count) made
erases_none made id node first count s u h e =
    subst (HasMade s made) (sym (stepped u id (erase_text node first count) e))
    (record { nodes = h.nodes; positions = h.positions; characters = rows_erased s.texts u.texts made.characters node (run_of first count) h.characters; list_positions = h.list_positions; elements = h.elements })

pub makes_element : (old : Made) (places rows : BTreeSet RowKey) (id node : OpId) (at : Anchor) (value : Value) → MoreRows old.list_positions places (node, id) → MoreRows old.elements rows (node, id)
    → MakesRows old id (add_item node at value) (record old { list_positions = places; elements = rows })
makes_element old places rows id node at value p r s u h e =
    let new : Made = record old { list_positions = places; elements = rows } in
    subst (HasMade s new) (sym (stepped u id (add_item node at value) e)) (record {
      nodes = h.nodes;
      positions = h.positions;
      characters = h.characters;
      list_positions = row_made s.list_positions u.list_positions old.list_positions places (node, id) at h.list_positions p;
      elements = row_made s.elements u.elements old.elements rows (node, id) (new_element id value) h.elements r;
    })

pub makes_place : (old : Made) (places : BTreeSet RowKey) (id node element : OpId) (at : Anchor) → MoreRows old.list_positions places (node, id) → MakesRows old id (shift_item node element at) (record old { list_positions = places })
makes_place old places id node element at p s u h e =
    let new : Made = record old { list_positions = places } in
    subst (HasMade s new) (sym (stepped u id (shift_item node element at) e)) (record {
      nodes = h.nodes;
      positions = h.positions;
      characters = h.characters;
      list_positions = row_made s.list_positions u.list_positions old.list_positions places (node, id) at h.list_positions p;
      elements = row_edited s.elements u.elements old.elements (node, element) (λ x. record x { position = id }) h.elements;
    })

pub sets_none : (made : Made) (id node element : OpId) (value : Value) → MakesRows made id (set_item node element value) made
sets_none made id node element value s u h e =
    subst (HasMade s made) (sym (stepped u id (set_item node element value) e))
    (record { nodes = h.nodes; positions = h.positions; characters = h.characters; list_positions = h.list_positions; elements = row_edited s.elements u.elements made.elements (node, element) (λ x. record x { writer = id; value = value }) h.elements })

pub drops_none : (made : Made) (id node element : OpId) → MakesRows made id (drop_item node element) made
drops_none made id node element s u h e =
    subst (HasMade s made) (sym (stepped u id (drop_item node element) e))
    (record { nodes = h.nodes; positions = h.positions; characters = h.characters; list_positions = h.list_positions; elements = row_edited s.elements u.elements made.elements (node, element) (λ x. record x { dropped = true }) h.elements })

-- ---- a run that is added key by key

or_none : (b : Bool) → (b || false) ≡ b
or_none true = refl
or_none false = refl

run_more : (owner first : OpId) (k : ℕ) (q : RowKey) → is_in_run owner first (suc k) q ≡ (is_in_run owner first k q || row_eq q (owner, id_plus first k))
run_more owner first zero q = or_none (row_eq q (owner, first)) ∙ ap (λ i. row_eq q (owner, i)) (sym (plus_zero first))
run_more owner first (suc k) q =
    ap (λ b. row_eq q (owner, first) || b) (run_more owner (id_plus first 1) k q ∙ ap (λ i. is_in_run owner (id_plus first 1) k q || row_eq q (owner, i)) (plus_plus first k))
    ∙ sym (or_assoc (row_eq q (owner, first)) (is_in_run owner (id_plus first 1) k q) (row_eq q (owner, id_plus first (suc k))))

one_added : (e a r : Bool) → cond e true (a || r) ≡ (a || (r || e))
one_added true true r = refl
one_added true false true = refl
one_added true false false = refl
one_added false a true = refl
one_added false true false = refl
one_added false false false = refl

pub none_added : (old : BTreeSet RowKey) (owner first : OpId) → HasRun old owner first 0 old
none_added old owner first q = sym (or_none (contains row_cmp old q))

pub key_added : (old now new : BTreeSet RowKey) (owner first id : OpId) (k : ℕ) → HasRun old owner first k now → id ≡ id_plus first k → MoreRows now new (owner, id) → HasRun old owner first (k + 1) new
key_added old now new owner first id k h e m q =
    let up : k + 1 ≡ suc k = omega arith in
    m q ∙ ap (λ b. cond b true (contains row_cmp now q)) ((eq_by_cmp_equiv row_total).symm (owner, id) q ∙ ap (λ i. row_eq q (owner, i)) e) ∙ ap (cond (row_eq q (owner, id_plus first k)) true) (h q)
    ∙ one_added (row_eq q (owner, id_plus first k)) (contains row_cmp old q) (is_in_run owner first k q)
    ∙ ap (λ b. contains row_cmp old q || b) (sym (run_more owner first k q) ∙ ap (λ n. is_in_run owner first n q) (sym up))

-- ---- the first wrong id

pub wrong_here : (id name : OpId) (there : Bool) (more : List (OpId × Bool)) → (there && id_lt name id) ≡ false → first_wrong_of id ((name, there) ∷ more) ≡ Some name
wrong_here id name there more e = rw e refl

pub right_here : (id name : OpId) (there : Bool) (more : List (OpId × Bool)) → (there && id_lt name id) ≡ true → first_wrong_of id ((name, there) ∷ more) ≡ first_wrong_of id more
right_here id name there more e = rw e refl

-- ---- the characters of a run, one after the other

abbrev pub characters_named : State → OpId → List OpId → List (OpId × Bool)
characters_named u node ids = map (λ k. (k, is_some (get u.texts (node, k)))) ids

pub run_split : (first : OpId) (count k : ℕ) → k < count → run_of (id_plus first k) (count - k) ≡ id_plus first k ∷ run_of (id_plus first (k + 1)) (count - (k + 1))
run_split first count k l =
    let some : count - k ≡ suc (count - (k + 1)) = omega arith in
    let up : suc k ≡ k + 1 = omega arith in
    ap (run_of (id_plus first k)) some ∙ ap (λ i. id_plus first k ∷ run_of i (count - (k + 1))) (plus_then first k ∙ ap (id_plus first) up)

-- what is still to be looked at of a run is all of it, as far as wrong ids go
abbrev pub StillWrong : State → OpId → OpId → OpId → ℕ → ℕ → Type 0
StillWrong u id node first count k = first_wrong_of id (characters_named u node (run_of first count)) ≡ first_wrong_of id (characters_named u node (run_of (id_plus first k) (count - k)))

pub still_all : (u : State) (id node first : OpId) (count : ℕ) → StillWrong u id node first count 0
still_all u id node first count = let all : count ≡ count - 0 = omega arith in λ i. first_wrong_of id (characters_named u node (run_of (sym (plus_zero first) i) (all i)))

pub still_none : (u : State) (id node first : OpId) (count k : ℕ) → count ≤ k → StillWrong u id node first count k → None ≡ first_wrong_of id (characters_named u node (run_of first count))
still_none u id node first count k l w = let none : count - k ≡ 0 = omega arith in sym (w ∙ ap (λ n. first_wrong_of id (characters_named u node (run_of (id_plus first k) n))) none)

module _ (u : State) (id node first : OpId) (count k : ℕ) (less : k < count) (name : OpId) (is : name ≡ id_plus first k) (there : Bool) (has : there ≡ is_some (get u.texts (node, name))) (w : StillWrong u id node first count k) where
  at_name : first_wrong_of id (characters_named u node (run_of first count)) ≡ first_wrong_of id ((name, there) ∷ characters_named u node (run_of (id_plus first (k + 1)) (count - (k + 1))))
  at_name =
      w ∙ ap (λ ids. first_wrong_of id (characters_named u node ids)) (run_split first count k less)
      ∙ ap (λ i. first_wrong_of id ((i, is_some (get u.texts (node, i))) ∷ characters_named u node (run_of (id_plus first (k + 1)) (count - (k + 1))))) (sym is)
      ∙ ap (λ b. first_wrong_of id ((name, b) ∷ characters_named u node (run_of (id_plus first (k + 1)) (count - (k + 1))))) (sym has)

  pub name_wrong : (there && id_lt name id) ≡ false → Some name ≡ first_wrong_of id (characters_named u node (run_of first count))
  name_wrong e = sym (at_name ∙ wrong_here id name there (characters_named u node (run_of (id_plus first (k + 1)) (count - (k + 1)))) e)

  pub name_right : (there && id_lt name id) ≡ true → StillWrong u id node first count (k + 1)
  name_right e = at_name ∙ right_here id name there (characters_named u node (run_of (id_plus first (k + 1)) (count - (k + 1)))) e

-- ---- none at all

-- Where no first wrong reference is told there is none.
pub none_wrong : (s : State) (ops : List Atom) (o : Option BadRef) → is_some o ≡ false → IsFirstWrong s ops o → wrong_references s 0 ops ≡ []
none_wrong s ops None e w = w
none_wrong s ops (Some b) e w = cc
