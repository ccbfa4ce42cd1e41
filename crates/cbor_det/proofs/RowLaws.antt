-- Reads of fields one after the other, and of whole rows, from the reads of their parts.
use Rattle.std.proofs.Common.{◌≡◌, ℕ, suc, ◌+◌, ◌≤◌, List, [], ◌∷◌, ◌++◌, length, refl, sym, ap, subst, ◌∙◌, arith, append_assoc}
use Rattle.std.specs.Prelude.{flat_map, Option, None, Some, IfSome, Ok, Err}
use Rattle.std.specs.List.{AllByRecursion}
use Rattle.std.proofs.lemmas.Grind.{flat_map-append}
use Rattle.std.proofs.lemmas.List.{length-append, append-nil}
use Rattle.cbor_det.specs.Item.{Item, Items, unsigned, list, no_items, item, items_of, row, item_count, spell, spell_items, IsItem, AreItems}
use Rattle.cbor_det.specs.Unread.{Unread, CborFault, Took}
use Rattle.cbor_det.specs.Asked.{as_unsigned, as_list, ReadsItem, AnswersItem}
use Rattle.cbor_det.proofs.AskedLaws.{unsigned_is, list_is}
use Rattle.cbor_det.specs.Rows.{FieldAnswer, ReadsField, FieldsAnswer, ReadsFields, ReadsRow}

-- ---- the items of a row

-- as a list of antt

abbrev each_in : Items → List Item
each_in no_items = []
each_in (item x xs) = x ∷ each_in xs

each_of : (xs : List Item) → each_in (items_of xs) ≡ xs
each_of [] = refl
each_of (x ∷ xs) = ap (λ ys. x ∷ ys) (each_of xs)

items_each : (xs : Items) → items_of (each_in xs) ≡ xs
items_each no_items = refl
items_each (item x xs) = ap (λ ys. item x ys) (items_each xs)

-- two rows are one only if their fields are
pub row_same : (xs ys : List Item) → row xs ≡ row ys → xs ≡ ys
row_same xs ys e = let same : items_of xs ≡ items_of ys = cc in sym (each_of xs) ∙ ap each_in same ∙ each_of ys

length_each : (xs : Items) → length (each_in xs) ≡ item_count xs
length_each no_items = refl
length_each (item x xs) = ap suc (length_each xs)

spell_each : (xs : Items) → flat_map spell (each_in xs) ≡ spell_items xs
spell_each no_items = refl
spell_each (item x xs) = ap (λ (t : List ℕ). spell x ++ t) (spell_each xs)

all_each : (xs : Items) → AreItems xs → AllByRecursion IsItem (each_in xs)
unfolding AreItems
all_each no_items h = tt
all_each (item x xs) h = (h.0, all_each xs h.1)

all_right : (xs ys : List Item) → AllByRecursion IsItem (xs ++ ys) → AllByRecursion IsItem ys
all_right [] ys h = h
all_right (x ∷ xs) ys h = all_right xs ys h.1

pub nil_left : (xs : List Item) → length xs ≡ 0 → xs ≡ []
nil_left [] e = refl
nil_left (x ∷ xs) e = absurd (omega arith)

-- lists of the same length in front are no part of what follows
same_behind : (xs ys us vs : List Item) → length xs ≡ length ys → xs ++ us ≡ ys ++ vs → us ≡ vs
same_behind [] [] us vs l e = e
same_behind [] (y ∷ ys) us vs l e = absurd (omega arith)
same_behind (x ∷ xs) [] us vs l e = absurd (omega arith)
same_behind (x ∷ xs) (y ∷ ys) us vs l e = same_behind xs ys us vs (omega arith) cc

-- ---- one after the other

-- a read of one field is one of fields
pub one : {X Y : Type 0} (view : X → Y) (to_item : Y → Item) (Is : Y → Type 0) (old new : Unread) (r : Option X) → ReadsField view to_item Is old new r → IfSome r (λ v. Is (view v) × Took (spell (to_item (view v))) old new) → ReadsFields 1 view (λ y. to_item y ∷ []) Is old new r
one {X} {Y} view to_item Is old new r reads found = record { answers = λ fields more le all parts. by r reads fields more le all parts; found = taken r found }
  where
    by : (q : Option X) → ReadsField view to_item Is old new q → (fields : List Item) (more : List ℕ) → 1 ≤ length fields → AllByRecursion IsItem fields → old.rest ≡ flat_map spell fields ++ more → FieldsAnswer view (λ y. to_item y ∷ []) Is new q fields more
    by q reads [] more le all parts = absurd (omega arith)
    by (Some v) reads (x ∷ xs) more le all parts =
        let s = reads x (flat_map spell xs ++ more) all.0 (parts ∙ append_assoc (spell x) (flat_map spell xs) more) in
        (xs, ap (λ z. z ∷ xs) s.0, s.1, s.2)
    by None reads (x ∷ xs) more le all parts = λ y left e is.
        reads x (flat_map spell xs ++ more) all.0 (parts ∙ append_assoc (spell x) (flat_map spell xs) more) y (cc) is

    taken : (q : Option X) → IfSome q (λ v. Is (view v) × Took (spell (to_item (view v))) old new) → IfSome q (λ v. Is (view v) × Took (flat_map spell (to_item (view v) ∷ [])) old new)
    taken (Some v) f = (f.0, f.1 ∙ sym (append_assoc (spell (to_item (view v))) [] new.rest))
    taken None f = tt

module _ {X Y A B : Type 0} (view : X → Y) (items : Y → List Item) (Is : Y → Type 0) (count : ℕ) (sizes : (y : Y) → length (items y) ≡ count) (seen : A → B) (others : B → List Item) (Are : B → Type 0) (further : ℕ) (o0 o1 o2 : Unread) where
  -- a read of fields, and then of further ones: that of all of them
  abbrev pub Both : Option (X × A) → Type 0
  Both r = ReadsFields (count + further) (λ (p : X × A). (view p.0, seen p.1)) (λ (y : Y × B). items y.0 ++ others y.1) (λ (y : Y × B). Is y.0 × Are y.1) o0 o2 r

  -- where both give a value
  pub both_read : (v : X) (w : A) → ReadsFields count view items Is o0 o1 (Some v) → ReadsFields further seen others Are o1 o2 (Some w) → Both (Some (v, w))
  both_read v w first second = record {
    answers = λ fields more le all parts.
        let s = first.answers fields more (omega (arith, le)) all parts in
        let l = ap length s.1 ∙ length-append (items (view v)) s.0 in
        let here = subst (AllByRecursion IsItem) s.1 all in
        let t = second.answers s.0 more (omega (arith, l, le, sizes (view v))) (all_right (items (view v)) s.0 here) s.3 in
        (t.0, s.1 ∙ ap (λ (z : List Item). items (view v) ++ z) t.1 ∙ sym (append_assoc (items (view v)) (others (seen w)) t.0), (s.2, t.2), t.3);
    found = (
      (first.found.0, second.found.0),
      first.found.1 ∙ ap (λ (t : List ℕ). flat_map spell (items (view v)) ++ t) second.found.1 ∙ sym (append_assoc (flat_map spell (items (view v))) (flat_map spell (others (seen w))) o2.rest)
          ∙ ap (λ (t : List ℕ). t ++ o2.rest) (sym (flat_map-append spell (items (view v)) (others (seen w)))),
    );
  }

  -- where the second gives none
  pub second_stops : (v : X) (r : Option (X × A)) → r ≡ None → ReadsFields count view items Is o0 o1 (Some v) → ReadsFields further seen others Are o1 o2 None → Both r
  second_stops v (Some w) none first second = absurd cc
  second_stops v None none first second = record {
    answers = λ fields more le all parts y left e is.
        let s = first.answers fields more (omega (arith, le)) all parts in
        let l = ap length s.1 ∙ length-append (items (view v)) s.0 in
        let here = subst (AllByRecursion IsItem) s.1 all in
        let t = second.answers s.0 more (omega (arith, l, le, sizes (view v))) (all_right (items (view v)) s.0 here) s.3 in
        t y.1 left (same_behind (items (view v)) (items y.0) s.0 (others y.1 ++ left) (sizes (view v) ∙ sym (sizes y.0)) (sym s.1 ∙ e ∙ append_assoc (items y.0) (others y.1) left)) is.1;
    found = tt;
  }

  -- where the first gives none
  pub first_stops : (r : Option (X × A)) → r ≡ None → ReadsFields count view items Is o0 o1 None → Both r
  first_stops (Some w) none first = absurd cc
  first_stops None none first = record {
    answers = λ fields more le all parts y left e is.
        first.answers fields more (omega (arith, le)) all parts y.0 (others y.1 ++ left) (e ∙ append_assoc (items y.0) (others y.1) left) is.0;
    found = tt;
  }

-- ---- rows

-- an array that is read is the head of a row
pub row_read : (old new : Unread) (n : ℕ) → ReadsItem (λ (m : ℕ). m) old new (Ok n) as_list → ReadsRow old new (Some n)
unfolding IsItem
row_read old new n reads x more h parts =
    let s = list_is (λ (m : ℕ). m) old new n more x (reads x more h parts) in
    let items : IsItem (list s.0) = subst IsItem s.1 h in
    (each_in s.0, s.1 ∙ ap list (sym (items_each s.0)), all_each s.0 items.1, length_each s.0 ∙ sym s.2, s.3 ∙ ap (λ (t : List ℕ). t ++ more) (sym (spell_each s.0)))

-- where no array stands, no row does
pub row_stops : (old new : Unread) (f : CborFault) → ReadsItem (λ (m : ℕ). m) old new (Err f) as_list → ReadsRow old new None
row_stops old new f reads x more h parts = λ fields e.
    let P : Item → Type 0 = λ y. AnswersItem (λ (m : ℕ). m) old new (Err f) (as_list y) more in
    subst P e (reads x more h parts)

-- an unsigned number that is read is a field
pub number_read : (old new : Unread) (n : ℕ) → ReadsItem (λ (m : ℕ). m) old new (Ok n) as_unsigned → ReadsField (λ (m : ℕ). m) unsigned (λ m. Unit {0}) old new (Some n)
number_read old new n reads x more h parts = let s = unsigned_is (λ (m : ℕ). m) old new n more x (reads x more h parts) in (s.0, tt, s.1)

-- where no unsigned number stands, no such field does
pub number_stops : (old new : Unread) (f : CborFault) → ReadsItem (λ (m : ℕ). m) old new (Err f) as_unsigned → ReadsField (λ (m : ℕ). m) unsigned (λ m. Unit {0}) old new None
number_stops old new f reads x more h parts = λ m e is.
    let P : Item → Type 0 = λ y. AnswersItem (λ (m : ℕ). m) old new (Err f) (as_unsigned y) more in
    subst P e (reads x more h parts)

module _ {X Y : Type 0} (view : X → Y) (items : Y → List Item) (Is : Y → Type 0) (count : ℕ) (sizes : (y : Y) → length (items y) ≡ count) (o0 o1 o2 : Unread) where
  -- a read of a row's head, and then of its fields: that of the row as one field
  abbrev pub Whole : Option X → Type 0
  Whole r = ReadsField view (λ y. row (items y)) Is o0 o2 r

  -- where the row has so many fields as are read
  pub whole_read : (r : Option X) (n : ℕ) → n ≡ count → ReadsRow o0 o1 (Some n) → ReadsFields count view items Is o1 o2 r → Whole r
  whole_read (Some v) n e first second x more h parts =
      let s = first x more h parts in
      let t = second.answers s.0 more (omega (arith, s.3, e)) s.2 s.4 in
      let l = ap length t.1 ∙ length-append (items (view v)) t.0 in
      let none = nil_left t.0 (omega (arith, l, s.3, e, sizes (view v))) in
      let same : s.0 ≡ items (view v) = t.1 ∙ ap (λ (z : List Item). items (view v) ++ z) none ∙ append-nil (items (view v)) in
      (s.1 ∙ ap row same, t.2, t.3 ∙ ap (λ (z : List Item). flat_map spell z ++ more) none)
  whole_read None n e first second x more h parts = λ y is_row is.
      let s = first x more h parts in
      let same : s.0 ≡ items y = row_same s.0 (items y) (sym s.1 ∙ is_row) in
      second.answers s.0 more (omega (arith, s.3, e)) s.2 s.4 y [] (same ∙ sym (append-nil (items y))) is

  -- where it has another number of them
  pub other_count : (n : ℕ) → (n ≡ count → ⊥) → ReadsRow o0 o1 (Some n) → Whole None
  other_count n other first x more h parts = λ y is_row is.
      let s = first x more h parts in
      other (sym s.3 ∙ ap length (row_same s.0 (items y) (sym s.1 ∙ is_row)) ∙ sizes y)

  -- where no row stands
  pub no_row : (r : Option X) → r ≡ None → ReadsRow o0 o1 None → Whole r
  no_row (Some w) none first x more h parts = absurd cc
  no_row None none first x more h parts = λ y is_row is. first x more h parts (items y) is_row

-- ---- a field that is read as another, with more asked of it

module _ {X Y Z W : Type 0} (view : X → Y) (seen : Z → W) (r : Option X) (old new later : Unread) where
  -- each value of the one is a value of the other: where the other read gives none, this one may
  pub field_none : (to_item : Y → Item) (Is : Y → Type 0) (other : W → Item) (Are : W → Type 0) → ((y : Y) → Is y → (w : W) × (to_item y ≡ other w) × Are w)
      → r ≡ None → ReadsField seen other Are old new None → ReadsField view to_item Is old later r
  field_none to_item Is other Are back none reads x more h parts = subst (λ (q : Option X). FieldAnswer view to_item Is later q x more) (sym none)
      (λ y e is. let b = back y is in reads x more h parts b.0 (e ∙ b.1) b.2)

  -- the same of fields
  pub fields_none : (count : ℕ) (items : Y → List Item) (Is : Y → Type 0) (others : W → List Item) (Are : W → Type 0) → ((y : Y) → Is y → (w : W) × (items y ≡ others w) × Are w)
      → r ≡ None → ReadsFields count seen others Are old new None → ReadsFields count view items Is old later r
  fields_none count items Is others Are back none reads = subst (λ (q : Option X). ReadsFields count view items Is old later q) (sym none)
      (record {
        answers = λ fields more le all parts y left e is. let b = back y is in reads.answers fields more le all parts b.0 left (e ∙ ap (λ (z : List Item). z ++ left) b.1) b.2;
        found = tt;
      })
