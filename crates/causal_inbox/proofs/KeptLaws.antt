-- The kept changes by their names: what is found there says whether one of them differs.
use Rattle.std.specs.Prelude.{◌≡◌, ℕ, ◌+◌, Bool, true, false, not, cond, ◌||◌, ◌&&◌, List, [], ◌∷◌, ◌++◌, map, take, fold, Option, Some, None, refl, bytes_eq}
use Rattle.std.proofs.Common.{sym, ◌∙◌, ap, arith, eqb, eqb-true}
use Rattle.std.proofs.lemmas.Bool.Decides.{nat_tests}
use Rattle.std.proofs.lemmas.Slice.Eq.{bytes_eq-Decides}
use Rattle.std.proofs.lemmas.List.{take_more}
use Rattle.std.proofs.lemmas.Option.{slice_get_within, get_or_from_slice_get}
use Rattle.std.specs.List.{list_any, slice_get}
use Rattle.std.specs.Option.{option_map}
use Rattle.std.specs.Map.{lookup}
use Rattle.std.specs.BTreeMap.{is_at}
use Rattle.std.specs.Ordering.{is_eq}
use Rattle.std.specs.Borrow.{Bor}
use Rattle.cbor_det.specs.Item.{spell}
use Rattle.model.specs.Change.{Change, has_name, name_of, change_item, same_bytes}
use Rattle.model.specs.Settle.{differs}
use Rattle.causal_inbox.specs.Names.{key_of, name_by, key_cmp}
use Rattle.causal_inbox.specs.Kept.{Mark, Marks, marked_more, marked_by, mark_of, mark_differs, mark_seen, AreMarks}
use Rattle.causal_inbox.proofs.NameLaws.{key_same}

-- ---- marks tell what differs

or_false : (b : Bool) → (b || false) ≡ b
or_false true = refl
or_false false = refl

or_assoc : (a b c : Bool) → ((a || b) || c) ≡ (a || (b || c))
or_assoc true b c = refl
or_assoc false b c = refl

twice : (b : Bool) → not b ≡ (not b || not b)
twice true = refl
twice false = refl

one_other : (a b x : List ℕ) → bytes_eq a x ≡ false → true ≡ (not (bytes_eq b a) || not (bytes_eq b x))
one_other a b x e =
    elim (bytes_eq b a) as (λ t. bytes_eq b a ≡ t → true ≡ (not t || not (bytes_eq b x))) [
      | true ↦ λ t. let same : b ≡ a = (bytes_eq-Decides b a).0 t in sym (ap not (ap (λ (c : List ℕ). bytes_eq c x) same ∙ e))
      | false ↦ λ _. refl
    ] refl

marked_tells : (m : Mark) (x b : List ℕ) → mark_differs (marked_more m x) b ≡ (mark_differs m b || not (bytes_eq b x))
marked_tells None x b = refl
marked_tells (Some None) x b = refl
marked_tells (Some (Some a)) x b =
    elim (bytes_eq a x) as (λ t. bytes_eq a x ≡ t → mark_differs (cond t (Some (Some a)) (Some None)) b ≡ (not (bytes_eq b a) || not (bytes_eq b x))) [
      | true ↦ λ t. let same : a ≡ x = (bytes_eq-Decides a x).0 t in twice (bytes_eq b a) ∙ ap (λ (c : List ℕ). not (bytes_eq b a) || not (bytes_eq b c)) same
      | false ↦ λ t. one_other a b x t
    ] refl

module _ (c : Change) where
  abbrev own : List ℕ
  own = spell (change_item c)

  abbrev Differs : Change → Bool
  Differs d = has_name (name_of c) d && not (same_bytes c d)

  one_tells : (m : Mark) (d : Change) → mark_differs (marked_by (key_of c) m d) own ≡ (mark_differs m own || Differs d)
  one_tells m d =
      elim (has_name (name_of c) d) as (λ t. mark_differs (cond t (marked_more m (spell (change_item d))) m) own ≡ (mark_differs m own || (t && not (same_bytes c d)))) [
        | true ↦ marked_tells m (spell (change_item d)) own
        | false ↦ sym (or_false (mark_differs m own))
      ]

  all_tell : (m : Mark) (kept : List Change) → mark_differs (fold (marked_by (key_of c)) m kept) own ≡ (mark_differs m own || list_any Differs kept)
  all_tell m [] = sym (or_false (mark_differs m own))
  all_tell m (d ∷ kept) = all_tell (marked_by (key_of c) m d) kept ∙ ap (λ b. b || list_any Differs kept) (one_tells m d) ∙ or_assoc (mark_differs m own) (Differs d) (list_any Differs kept)

  pub marks_tell : (kept : List Change) → mark_differs (mark_of kept (key_of c)) own ≡ differs kept c
  marks_tell kept = all_tell None kept

-- ---- marks as they lie in memory

abbrev pub Lent : Type 0
Lent = List ((ℕ × ℕ) × Option (Bor (List ℕ)))

abbrev pub seen : Lent → Marks
seen es = map (λ e. (e.0, mark_seen e.1)) es

pub lookup_seen : (t : ℕ × ℕ → Bool) (es : Lent) → lookup t (seen es) ≡ option_map mark_seen (lookup t es)
lookup_seen t [] = refl
lookup_seen t (e ∷ es) =
    let rest = lookup_seen t es in
    elim (t e.0) as (λ b. cond b (Some (mark_seen e.1)) (lookup t (seen es)) ≡ option_map mark_seen (cond b (Some e.1) (lookup t es))) [ true ↦ refl | false ↦ rest ]

-- ---- one more kept change

pub take_at : (xs : List Change) (i : ℕ) (x : Change) → slice_get xs i ≡ Some x → take (i + 1) xs ≡ take i xs ++ x ∷ []
take_at xs i x e = take_more xs i x (slice_get_within xs i x e) ∙ ap (λ (y : Change). take i xs ++ y ∷ []) (get_or_from_slice_get xs i x x e)

fold_last : (k : ℕ × ℕ) (m : Mark) (xs : List Change) (d : Change) → fold (marked_by k) m (xs ++ d ∷ []) ≡ marked_by k (fold (marked_by k) m xs) d
fold_last k m [] d = refl
fold_last k m (x ∷ xs) d = fold_last k (marked_by k m x) xs d

swapped : (a c : ℕ) → eqb a c ≡ eqb c a
swapped a c = grind (arith, nat_tests)

two_equal : (q k : ℕ × ℕ) → is_eq (key_cmp k q) ≡ (eqb k.0 q.0 && eqb k.1 q.1)
two_equal q k = key_same k (record { member = q.0; number = q.1; time = 0; causes = []; operations = [] }) ∙ (λ i. swapped q.0 k.0 i && swapped q.1 k.1 i)

pub at_own : (d : Change) (q : ℕ × ℕ) → is_at (key_cmp (key_of d)) q ≡ has_name (name_by q) d
at_own d q = two_equal q (key_of d)

key_is : (q : ℕ × ℕ) (d : Change) → has_name (name_by q) d ≡ true → key_of d ≡ q
key_is q d e = by (eqb d.member q.0) (eqb d.number q.1) refl refl e
  where
    by : (x y : Bool) → eqb d.member q.0 ≡ x → eqb d.number q.1 ≡ y → (x && y) ≡ true → key_of d ≡ q
    by true true p r h = let s = eqb-true d.member q.0 p in let t = eqb-true d.number q.1 r in λ i. (s i, t i)
    by true false p r h = absurd cc
    by false y p r h = absurd cc

-- the marks, where one more is looked up and written
pub marked_one_more : (kept : List Change) (i : ℕ) (d : Change) (old new : Lent) (mark : Option (Bor (List ℕ))) → slice_get kept i ≡ Some d
    → AreMarks (seen old) (take i kept)
    → ((q : ℕ × ℕ) → lookup (is_at (key_cmp q)) new ≡ cond (is_at (key_cmp (key_of d)) q) (Some mark) (lookup (is_at (key_cmp q)) old))
    → Some (mark_seen mark) ≡ marked_more (option_map mark_seen (lookup (is_at (key_cmp (key_of d))) old)) (spell (change_item d))
    → AreMarks (seen new) (take (i + 1) kept)
marked_one_more kept i d old new mark at so_far written more q =
    lookup_seen (is_at (key_cmp q)) new ∙ ap (option_map mark_seen) (written q ∙ ap (λ b. cond b (Some mark) (lookup (is_at (key_cmp q)) old)) (at_own d q))
    ∙ here (has_name (name_by q) d) refl
    ∙ sym (ap (λ (ds : List Change). mark_of ds q) (take_at kept i d at) ∙ fold_last q None (take i kept) d)
  where
    before : (k : ℕ × ℕ) → option_map mark_seen (lookup (is_at (key_cmp k)) old) ≡ mark_of (take i kept) k
    before k = sym (lookup_seen (is_at (key_cmp k)) old) ∙ so_far k

    here : (b : Bool) → has_name (name_by q) d ≡ b → option_map mark_seen (cond b (Some mark) (lookup (is_at (key_cmp q)) old)) ≡ marked_by q (mark_of (take i kept) q) d
    here true e =
        let same = key_is q d e in
        more ∙ ap (λ (m : Mark). marked_more m (spell (change_item d))) (before (key_of d) ∙ ap (mark_of (take i kept)) same)
        ∙ sym (ap (λ b. cond b (marked_more (mark_of (take i kept) q) (spell (change_item d))) (mark_of (take i kept) q)) e)
    here false e = before q ∙ sym (ap (λ b. cond b (marked_more (mark_of (take i kept) q) (spell (change_item d))) (mark_of (take i kept) q)) e)

-- what is found at the name of a change says whether a kept one differs
pub told : (kept : List Change) (marks : Marks) (lent : Lent) (k : ℕ × ℕ) (c : Change) (o : Option (Option (Bor (List ℕ)))) → AreMarks marks kept → seen lent ≡ marks → k ≡ key_of c → o ≡ lookup (is_at (key_cmp k)) lent → mark_differs (option_map mark_seen o) (spell (change_item c)) ≡ differs kept c
told kept marks lent k c o are view key e =
    let t = is_at (key_cmp k) in
    ap (λ (m : Mark). mark_differs m (spell (change_item c))) (ap (option_map mark_seen) e ∙ sym (lookup_seen t lent) ∙ ap (lookup t) view ∙ are k ∙ ap (mark_of kept) key) ∙ marks_tell c kept
