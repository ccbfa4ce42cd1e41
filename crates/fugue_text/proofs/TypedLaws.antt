-- Characters that are typed one after the other: what is found, how many are alive, and the tree and the table that they make.
use Rattle.std.specs.Prelude.{◌≡◌, ◌≢◌, ℕ, zero, suc, ◌+◌, ◌<◌, true, false, cond, Some, None, is_some, slice_get, List, [], ◌∷◌, length, map, refl}
use Rattle.std.proofs.Common.{sym, ◌∙◌, ap, subst, inl, inr, arith}
use Rattle.std.proofs.lemmas.List.{length-map}
use Rattle.std.specs.List.{AllByRecursion}
use Rattle.std.specs.Map.{lookup}
use Rattle.std.specs.BTreeSet.{BTreeSet}
use Rattle.std.specs.FinMap.{find, put, get, insert, get-insert, same_map}
use Rattle.std.specs.FinMap.Entries.{find-put}
use Rattle.op_ids.specs.declared.OpId.{OpId}
use Rattle.op_ids.specs.Order.{id_cmp, id_eq, id_lt, id_plus, root_id}
use Rattle.op_ids.proofs.OrderLaws.{eq_by_cmp-id, id_cmp_total, lt_trans, same_or_apart}
use Rattle.model.specs.Operation.{Anchor}
use Rattle.model.specs.State.{Character, right_of, typed}
use Rattle.model_laws.proofs.Tables.{row_total, row_exact}
use Rattle.walk_laws.specs.Insertion.{HangsWell, IsInsertionTree}
use Rattle.walk_laws.proofs.Walks.{key_eq, key_itself, lt_back}
use Rattle.move_list.proofs.TableLaws.{get_all, joined, other_node, own_node}
use Rattle.fugue_tree.specs.declared.children.Child.{Child}
use Rattle.fugue_tree.specs.Tree.{AreChildren}
use Rattle.fugue_text.specs.declared.run.Letter.{Letter}
use Rattle.fugue_text.specs.Runs.{TextRows, AreFilled, AreFree, IsText, alive_letter, letter_at, places, rows_in, starts, weight_of, with_letters}
use Rattle.fugue_text.specs.Texts.{AreNew, Table, own_rows, table_of}
use Rattle.fugue_text.proofs.IdLaws.{lt_plus}
use Rattle.fugue_text.proofs.RunLaws.{Runs}
use Rattle.fugue_text.proofs.CountLaws.{alive_in, alive_put}
use Rattle.fugue_text.proofs.TextLaws.{tree_put}
use Rattle.fugue_text.proofs.NodeLaws.{Nodes, Rising, HasRows, row_found}

abbrev live_row : Anchor → ℕ → Character
live_row at c = record { at = at; character = c; dead = false }

own : (node : OpId) (t : Table) (i j : OpId) (x : Character) → get (insert t (node, i) x) (node, j) ≡ cond (key_eq j i) (Some x) (get t (node, j))
own node t i j x = get-insert row_total t (node, i) x (node, j) ∙ ap (λ b. cond b (Some x) (get t (node, j))) (own_node node j i)

abbrev pub AreAlive : List Letter → Type 0
AreAlive ls = AllByRecursion (λ l. l.dead ≡ false) ls

found_put : (rows : TextRows) (id q : OpId) (x : Character) → key_eq q id ≡ false → find id_cmp q (put id_cmp id x rows) ≡ find id_cmp q rows
found_put rows id q x ne = find-put id_cmp id_cmp_total q id x rows ∙ rw ne refl

-- ids behind a row are as free with it
still_free : (rows : TextRows) (id f : OpId) (x : Character) (n : ℕ) → id_lt id f ≡ true → AreFree rows f n → AreFree (put id_cmp id x rows) f n
still_free rows id f x zero l h = tt
still_free rows id f x (suc n) l h =
    (found_put rows id f x (lt_back id f l) ∙ h.0, still_free rows id (id_plus f 1) x n (lt_trans id f (id_plus f 1) l (lt_plus f 1 (omega arith))) h.1)

pub alive_more : (rows : TextRows) (id : OpId) (at : Anchor) (ls : List Letter) → AreFree rows id (length ls) → AreAlive ls → alive_in (with_letters rows id at ls) ≡ alive_in rows + length ls
alive_more rows id at [] n a = omega arith
alive_more rows id at (l ∷ ls) n a =
    let rest = alive_more (put id_cmp id (letter_at at l) rows) (id_plus id 1) (right_of id) ls (still_free rows id (id_plus id 1) (letter_at at l) (length ls) (lt_plus id 1 (omega arith)) n.1) a.1 in
    let one = alive_put id (letter_at at l) rows n.0 in
    let weight : weight_of l.dead ≡ 1 = ap weight_of a.0 in
    omega (arith, rest, one, weight)

no_root_next : (id : OpId) → id_plus id 1 ≢ root_id
no_root_next id e = let index : id.index + 1 ≡ 0 = ap (λ (a : OpId). a.index) e in omega (arith, index)

pub tree_more : (rows : TextRows) (id : OpId) (ls : List Letter) → IsInsertionTree (places rows) → is_some (find id_cmp id rows) ≡ true → IsInsertionTree (places (with_letters rows (id_plus id 1) (right_of id) ls))
tree_more rows id [] t r = t
tree_more rows id (l ∷ ls) t r =
    let next = id_plus id 1 in
    let x = letter_at (right_of id) l in
    let hangs : HangsWell (places rows) next (right_of id) = inr (row_found rows id ∙ r, lt_plus id 1 (omega arith)) in
    let here : key_eq next next ≡ true = key_itself next in
    tree_more (put id_cmp next x rows) next ls (tree_put rows next x t (no_root_next id) hangs) (ap is_some (find-put id_cmp id_cmp_total next next x rows) ∙ rw here refl)

pub text_more : (es fs : Runs) (children : BTreeSet Child) (live : ℕ) → IsText es children live → AreFilled fs → AreChildren (starts fs) children
    → (id : OpId) (ls : List Letter) → rows_in fs ≡ with_letters (rows_in es) (id_plus id 1) (right_of id) ls
    → is_some (find id_cmp id (rows_in es)) ≡ true → AreFree (rows_in es) (id_plus id 1) (length ls) → AreAlive ls → IsText fs children (live + length ls)
text_more es fs children live text filled index id ls now there free alive = record {
  tree = subst (λ rs. IsInsertionTree (places rs)) (sym now) (tree_more (rows_in es) id ls text.tree there);
  index = index;
  filled = filled;
  counted = (let all = alive_more (rows_in es) (id_plus id 1) (right_of id) ls free alive in let old = text.counted in let new = ap alive_in now in omega (arith, all, old, new));
}

-- ---- the table

alive_row : (at : Anchor) (l : Letter) → l.dead ≡ false → letter_at at l ≡ live_row at l.character
alive_row at l e = λ i. record { at = at; character = l.character; dead = e i }

has_more : (t : Table) (n : OpId) (u : TextRows) (id : OpId) (at : Anchor) (ls : List Letter) → AreAlive ls → ((k : OpId) → get t (n, k) ≡ find id_cmp k u)
    → (k : OpId) → get (typed t n id at (map (λ l. l.character) ls)) (n, k) ≡ find id_cmp k (with_letters u id at ls)
has_more t n u id at [] a has k = has k
has_more t n u id at (l ∷ ls) a has k =
    has_more (insert t (n, id) (live_row at l.character)) n (put id_cmp id (letter_at at l) u) (id_plus id 1) (right_of id) ls a.1
    (λ q. own n t id q (live_row at l.character) ∙ (λ i. cond (key_eq q id) (Some (sym (alive_row at l a.0) i)) (has q i)) ∙ sym (find-put id_cmp id_cmp_total q id (letter_at at l) u)) k

others_more : (t : Table) (n q : OpId) → id_eq n q ≡ false → (id : OpId) (at : Anchor) (cs : List ℕ) (k : OpId) → get (typed t n id at cs) (q, k) ≡ get t (q, k)
others_more t n q ne id at [] k = refl
others_more t n q ne id at (c ∷ cs) k =
    others_more (insert t (n, id) (live_row at c)) n q ne (id_plus id 1) (right_of id) cs k
    ∙ get-insert row_total t (n, id) (live_row at c) (q, k) ∙ ap (λ b. cond b (Some (live_row at c)) (get t (q, k))) (other_node n q k id ne)

module _ (es fs : Nodes) (se : Rising es) (sf : Rising fs) (n : OpId) (u v : TextRows)
    (updates : (q : OpId) → lookup (key_eq q) fs ≡ cond (key_eq n q) (Some v) (lookup (key_eq q) es)) (has : HasRows es n u) where
  pub texts_more : (id : OpId) (at : Anchor) (ls : List Letter) → AreAlive ls → v ≡ with_letters u id at ls → table_of fs ≡ typed (table_of es) n id at (map (λ l. l.character) ls)
  texts_more id at ls a e =
      let new = typed (table_of es) n id at (map (λ (l : Letter). l.character) ls) in
      same_map row_total row_exact _ _ (λ q.
      elim (same_or_apart n q.0) as (λ _. get (table_of fs) q ≡ get new q) [
        | inl s ↦
            let now : lookup (key_eq n) fs ≡ Some v = updates n ∙ ap (λ b. cond b (Some v) (lookup (key_eq n) es)) (key_itself n) in
            subst (λ x. get (table_of fs) (x, q.1) ≡ get new (x, q.1)) s
            (get_all own_rows fs sf n q.1 ∙ ap (λ o. joined own_rows o q.1) now ∙ ap (find id_cmp q.1) e ∙ sym (has_more (table_of es) n u id at ls a has q.1))
        | inr ne ↦
            let apart : key_eq n q.0 ≡ false = eq_by_cmp-id n q.0 ∙ ne in
            let now : lookup (key_eq q.0) fs ≡ lookup (key_eq q.0) es = updates q.0 ∙ ap (λ b. cond b (Some v) (lookup (key_eq q.0) es)) apart in
            get_all own_rows fs sf q.0 q.1 ∙ ap (λ o. joined own_rows o q.1) now ∙ sym (get_all own_rows es se q.0 q.1) ∙ sym (others_more (table_of es) n q.0 ne id at (map (λ (l : Letter). l.character) ls) q.1)
      ])

-- ---- letters that aren't erased

pub all_alive : (cs : List ℕ) → AreAlive (map alive_letter cs)
all_alive [] = tt
all_alive (c ∷ cs) = (refl, all_alive cs)

pub own_characters : (cs : List ℕ) → map (λ (l : Letter). l.character) (map alive_letter cs) ≡ cs
own_characters [] = refl
own_characters (c ∷ cs) = ap (λ xs. c ∷ xs) (own_characters cs)

still_new : (t : Table) (n id f : OpId) (x : Character) (k : ℕ) → id_lt id f ≡ true → AreNew t n f k → AreNew (insert t (n, id) x) n f k
still_new t n id f x zero l h = tt
still_new t n id f x (suc k) l h =
    (own n t id f x ∙ (let apart : key_eq f id ≡ false = lt_back id f l in rw apart h.0), still_new t n id (id_plus f 1) x k (lt_trans id f (id_plus f 1) l (lt_plus f 1 (omega arith))) h.1)

-- The text begins with this letter, and goes on.
pub record Begins (cs : List ℕ) (ls : List Letter) (l : Letter) : Type 0 where
  pub first : ℕ
  pub rest : List ℕ
  pub characters : cs ≡ first ∷ rest
  pub letter : l ≡ alive_letter first
  pub letters : ls ≡ l ∷ map alive_letter rest

begins_with : (cs : List ℕ) (l : Letter) → Some l ≡ slice_get (map alive_letter cs) 0 → Begins cs (map alive_letter cs) l
begins_with [] l e = (let no : Some l ≡ None = e in absurd (let c : Some l ≡ None = no in cc))
begins_with (c ∷ cs) l e =
    let some : Some l ≡ Some (alive_letter c) = e in
    let same : l ≡ alive_letter c = cc in
    record { first = c; rest = cs; characters = refl; letter = same; letters = ap (λ x. x ∷ map alive_letter cs) (sym same) }

pub begins : (cs : List ℕ) (ls : List Letter) (l : Letter) → ls ≡ map alive_letter cs → Some l ≡ slice_get ls 0 → Begins cs ls l
begins cs ls l e s = subst (λ xs. Begins cs xs l) (sym e) (begins_with cs l (s ∙ ap (λ xs. slice_get xs 0) e))

module _ (t : Table) (n first : OpId) (at : Anchor) (cs : List ℕ) (ls : List Letter) (l : Letter) (b : Begins cs ls l) where
  abbrev pub one_more : Table
  one_more = insert t (n, first) (letter_at at l)

  pub begun : (now : Table) → now ≡ one_more → now ≡ typed t n first at (b.first ∷ [])
  begun now e = e ∙ ap (λ x. insert t (n, first) (letter_at at x)) b.letter

  pub begun_there : (now : Table) → now ≡ one_more → is_some (get now (n, first)) ≡ true
  begun_there now e =
      let here : key_eq first first ≡ true = key_itself first in
      ap (λ (x : Table). is_some (get x (n, first))) e ∙ ap is_some (own n t first first (letter_at at l)) ∙ rw here refl

  more_new : AreNew t n first (length cs) → AreNew one_more n (id_plus first 1) (length b.rest)
  more_new new =
      let all : AreNew t n first (suc (length b.rest)) = subst (λ xs. AreNew t n first (length xs)) b.characters new in
      still_new t n first (id_plus first 1) (letter_at at l) (length b.rest) (lt_plus first 1 (omega arith)) all.1

  pub begun_new : (now : Table) → now ≡ one_more → AreNew t n first (length cs) → (rest : List Letter) → rest ≡ map alive_letter b.rest → AreNew now n (id_plus first 1) (length rest)
  begun_new now e new rest same =
      subst (λ (x : Table). AreNew x n (id_plus first 1) (length rest)) (sym e)
      (subst (λ k. AreNew one_more n (id_plus first 1) k) (sym (ap length same ∙ length-map b.rest alive_letter)) (more_new new))

  pub begun_fresh : (now : Table) → now ≡ one_more → AreNew t n first (length cs) → 0 < length b.rest → get now (n, id_plus first 1) ≡ None
  begun_fresh now e new some = ap (λ (x : Table). get x (n, id_plus first 1)) e ∙ first_new (length b.rest) some (more_new new)
    where
      first_new : (k : ℕ) → 0 < k → AreNew one_more n (id_plus first 1) k → get one_more (n, id_plus first 1) ≡ None
      first_new zero s h = absurd (omega (arith, s))
      first_new (suc k) s h = h.0

  pub typed_on : (now then : Table) → now ≡ one_more → (rest : List Letter) → rest ≡ map alive_letter b.rest → then ≡ typed now n (id_plus first 1) (right_of first) (map (λ x. x.character) rest) → then ≡ typed t n first at cs
  typed_on now then e rest same d =
      d ∙ (λ i. typed (begun now e i) n (id_plus first 1) (right_of first) ((ap (map (λ (x : Letter). x.character)) same ∙ own_characters b.rest) i)) ∙ ap (typed t n first at) (sym b.characters)

  pub only_one : length ls ≡ 1 → cs ≡ b.first ∷ []
  only_one e = b.characters ∙ ap (λ xs. b.first ∷ xs) (none b.rest (let size = ap length b.letters in let same = length-map b.rest alive_letter in omega (arith, e, size, same)))
    where
      none : (xs : List ℕ) → length xs ≡ 0 → xs ≡ []
      none [] z = refl
      none (x ∷ xs) z = absurd (omega (arith, z))

  pub more_than_one : (length ls ≡ 1 → ⊥) → 0 < length b.rest
  more_than_one ne = let size = ap length b.letters in let same = length-map b.rest alive_letter in omega (arith, ne, size, same)

pub new_free : (t : Table) (n : OpId) (u : TextRows) → ((k : OpId) → get t (n, k) ≡ find id_cmp k u) → (f : OpId) (k : ℕ) → AreNew t n f k → AreFree u f k
new_free t n u has f zero h = tt
new_free t n u has f (suc k) h = (sym (has f) ∙ h.0, new_free t n u has (id_plus f 1) k h.1)
