-- Reads of the fields of a header, one after the other.
use Rattle.std.proofs.Common.{◌≡◌, ℕ, ◌+◌, ◌^◌, ◌<◌, ◌≤◌, List, [], ◌∷◌, ◌++◌, length, refl, sym, ap, subst, ◌∙◌, append_assoc, arith}
use Rattle.std.specs.Prelude.{flat_map, Result, Ok, Err}
use Rattle.std.specs.List.{AllByRecursion}
use Rattle.std.specs.List.Sorted.{IsStrictlySortedBy}
use Rattle.std.specs.Ordering.{nat_cmp}
use Rattle.std.proofs.lemmas.List.{length-append, append-nil}
use Rattle.cbor_det.specs.Head.{head, IsBytes}
use Rattle.cbor_det.specs.declared.CborFault.{CborFault}
use Rattle.cbor_det.specs.Unread.{Unread}
use Rattle.replica.specs.Fields.{Decodes, IsWithin, spelled_bytes, IsDocument, spelled_numbers, AreMine}
use Rattle.replica.specs.declared.fields.HeaderFault.{HeaderFault}
use Rattle.replica.specs.declared.fields.HeaderFault.TheVariants.{NotHeader, NoMemory}
use Rattle.replica.proofs.EmptyItem.{numbers_spelled}
use Rattle.replica.proofs.NumberLaws.{numbers_prefix, all_less, all_push, all_split, sorted_push, sorted_next, rising_short}

-- ---- the members that a file holds

-- So many were read, rising and from the least on.
pub record MineSoFar (n read least : ℕ) (mine : List ℕ) (start now : Unread) : Type 0 where
  pub counted : length mine ≡ read
  pub found : start.rest ≡ flat_map (head 0) mine ++ now.rest
  pub rising : IsStrictlySortedBy nat_cmp mine
  pub below : AllByRecursion (λ m. m < n) mine
  pub under : AllByRecursion (λ m. m < least) mine
  pub low : least ≤ n
  pub next : (y : ℕ) (ys : List ℕ) → IsStrictlySortedBy nat_cmp (mine ++ y ∷ ys) → least ≤ y

pub mine_begins : (n : ℕ) (start : Unread) → MineSoFar n 0 0 [] start start
unfolding IsStrictlySortedBy
mine_begins n start = record { counted = refl; found = refl; rising = tt; below = tt; under = tt; low = omega arith; next = λ y ys s. omega arith }

module _ (n read least : ℕ) (mine : List ℕ) (start now : Unread) (so : MineSoFar n read least mine start now) where
  pub mine_goes_on : (m : ℕ) (new : Unread) → Decodes (head 0) (IsWithin least n) now new (Ok m) → MineSoFar n (read + 1) (m + 1) (mine ++ m ∷ []) start new
  mine_goes_on m new d =
      let in_range = d.0 in
      let spelled : flat_map (head 0) (mine ++ m ∷ []) ≡ flat_map (head 0) mine ++ head 0 m = more mine in
      record {
        counted = omega (arith, length-append mine (m ∷ []), so.counted);
        found = so.found ∙ ap (λ (t : List ℕ). flat_map (head 0) mine ++ t) d.1 ∙ sym (append_assoc (flat_map (head 0) mine) (head 0 m) new.rest) ∙ ap (λ (t : List ℕ). t ++ new.rest) (sym spelled);
        rising = sorted_push mine m so.rising (all_less least m mine in_range.0 so.under);
        below = all_push n mine m so.below in_range.1;
        under = all_push (m + 1) mine m (all_less least (m + 1) mine (omega (arith, in_range.0)) so.under) (omega arith);
        low = omega (arith, in_range.1);
        next = λ y ys s. let lt = sorted_next mine m y ys (subst (IsStrictlySortedBy nat_cmp) (append_assoc mine (m ∷ []) (y ∷ ys)) s) in omega (arith, lt);
      }
    where
      more : (xs : List ℕ) → flat_map (head 0) (xs ++ m ∷ []) ≡ flat_map (head 0) xs ++ head 0 m
      more [] = append-nil (head 0 m)
      more (x ∷ xs) = ap (λ (t : List ℕ). head 0 x ++ t) (more xs) ∙ sym (append_assoc (head 0 x) (flat_map (head 0) xs) (head 0 m))

  -- the members that are spelled where these were read are these and others
  mine_prefix : (ys more : List ℕ) → n ≤ 32 → AreMine n ys → read ≤ length ys → start.rest ≡ flat_map (head 0) ys ++ more → (left : List ℕ) × (ys ≡ mine ++ left) × (now.rest ≡ flat_map (head 0) left ++ more)
  mine_prefix ys more few h le e =
      numbers_prefix mine ys now.rest more (all_less n (2 ^ 64) mine (omega arith) so.below) (all_less n (2 ^ 64) ys (omega arith) h.1) (omega (arith, so.counted)) (sym so.found ∙ e)

  pub mine_stops : (ys more : List ℕ) (new : Unread) → n ≤ 32 → read < length ys → Decodes (head 0) (IsWithin least n) now new (Err NotHeader) → AreMine n ys → start.rest ≡ flat_map (head 0) ys ++ more → ⊥
  mine_stops ys more new few lt d h e = with_left (mine_prefix ys more few h (omega arith) e)
    where
      with_left : (left : List ℕ) × (ys ≡ mine ++ left) × (now.rest ≡ flat_map (head 0) left ++ more) → ⊥
      with_left ([], same, rest) = omega (arith, ap length same, length-append mine [], so.counted)
      with_left (y ∷ left, same, rest) =
          let sorted = subst (IsStrictlySortedBy nat_cmp) same h.0 in
          let below = all_split n mine (y ∷ left) (subst (AllByRecursion (λ m. m < n)) same h.1) in
          d y (flat_map (head 0) left ++ more) (so.next y left sorted, below.0) (rest ∙ append_assoc (head 0 y) (flat_map (head 0) left) more)

  pub mine_ends : (ys more : List ℕ) → n ≤ 32 → length ys ≡ read → AreMine n ys → start.rest ≡ flat_map (head 0) ys ++ more → (ys ≡ mine) × (more ≡ now.rest)
  mine_ends ys more few count h e = with_left (mine_prefix ys more few h (omega arith) e)
    where
      with_left : (left : List ℕ) × (ys ≡ mine ++ left) × (now.rest ≡ flat_map (head 0) left ++ more) → (ys ≡ mine) × (more ≡ now.rest)
      with_left ([], same, rest) = (same ∙ append-nil mine, sym rest)
      with_left (y ∷ left, same, rest) = absurd (omega (arith, ap length same, length-append mine (y ∷ left), so.counted))

-- ---- the list of them

abbrev pub ArrayOnly : Unread → Unread → ℕ → Type 0
ArrayOnly old start count = (k : ℕ) (more : List ℕ) → k < 2 ^ 64 → old.rest ≡ head 4 k ++ more → (k ≡ count) × (start.rest ≡ more)

pub array_only : (old start : Unread) (count : ℕ) → ((k : ℕ) (more : List ℕ) → k < 2 ^ 64 → old.rest ≡ head 4 k ++ more → ◌≡◌ {A = Result ℕ CborFault} (Ok count) (Ok k) × (start.rest ≡ more)) → ArrayOnly old start count
array_only old start count only k more lt e = let t = only k more lt e in let same = t.0 in (cc, t.1)

module _ (n : ℕ) (old : Unread) (few : n ≤ 32) where
  -- no array, no list
  pub no_list : ((k : ℕ) (more : List ℕ) → k < 2 ^ 64 → old.rest ≡ head 4 k ++ more → ⊥) → (ys more : List ℕ) → AreMine n ys → old.rest ≡ spelled_numbers ys ++ more → ⊥
  no_list none ys more h e =
      none (length ys) (flat_map (head 0) ys ++ more) (omega (arith, rising_short n ys h.0 h.1)) (e ∙ ap (λ (t : List ℕ). t ++ more) (numbers_spelled ys) ∙ append_assoc (head 4 (length ys)) (flat_map (head 0) ys) more)

  list_there : (start : Unread) (count : ℕ) → ArrayOnly old start count → (ys more : List ℕ) → AreMine n ys → old.rest ≡ spelled_numbers ys ++ more → (length ys ≡ count) × (start.rest ≡ flat_map (head 0) ys ++ more)
  list_there start count only ys more h e =
      only (length ys) (flat_map (head 0) ys ++ more) (omega (arith, rising_short n ys h.0 h.1)) (e ∙ ap (λ (t : List ℕ). t ++ more) (numbers_spelled ys) ∙ append_assoc (head 4 (length ys)) (flat_map (head 0) ys) more)

  -- where one of so many is none of these members, they aren't a list of them
  pub list_stops : (start now new end : Unread) (count read least : ℕ) (mine : List ℕ) (e : HeaderFault) (r : Result (List ℕ) HeaderFault) → r ≡ Err e → ArrayOnly old start count → MineSoFar n read least mine start now → read < count
      → Decodes (head 0) (IsWithin least n) now new (Err e) → Decodes spelled_numbers (AreMine n) old end r
  list_stops start now new end count read least mine NotHeader (Ok v) is only so lt d = absurd cc
  list_stops start now new end count read least mine NotHeader (Err NotHeader) is only so lt d = λ ys more h e.
      let there = list_there start count only ys more h e in
      mine_stops n read least mine start now so ys more new few (omega (arith, there.0)) d h there.1
  list_stops start now new end count read least mine NotHeader (Err NoMemory) is only so lt d = tt
  list_stops start now new end count read least mine NoMemory (Ok v) is only so lt d = absurd cc
  list_stops start now new end count read least mine NoMemory (Err NotHeader) is only so lt d = absurd (bad is)
    where
      bad : ◌≡◌ {A = Result (List ℕ) HeaderFault} (Err NotHeader) (Err NoMemory) → ⊥
      bad e = cc
  list_stops start now new end count read least mine NoMemory (Err NoMemory) is only so lt d = tt

  -- where all were read, they are
  pub list_ends : (start now : Unread) (count read least : ℕ) (mine : List ℕ) → old.rest ≡ head 4 count ++ start.rest → ArrayOnly old start count → MineSoFar n read least mine start now → read ≡ count
      → Decodes spelled_numbers (AreMine n) old now (Ok mine)
  list_ends start now count read least mine there only so all =
      let size : count ≡ length mine = omega (arith, all, so.counted) in (
        (so.rising, so.below),
        there ∙ ap (λ (t : List ℕ). head 4 count ++ t) so.found ∙ sym (append_assoc (head 4 count) (flat_map (head 0) mine) now.rest)
            ∙ ap (λ (t : List ℕ). t ++ now.rest) (ap (λ (k : ℕ). head 4 k ++ flat_map (head 0) mine) size ∙ sym (numbers_spelled mine)),
        λ ys more h e. let t = list_there start count only ys more h e in mine_ends n read least mine start now so ys more few (omega (arith, t.0, all)) h t.1,
      )

-- ---- the id of a document

pub document_read : (old new : Unread) (b id : List ℕ) → id ≡ b → length b ≡ 16 → IsBytes b → old.rest ≡ spelled_bytes b ++ new.rest → ((y more : List ℕ) → length y < 2 ^ 64 → old.rest ≡ spelled_bytes y ++ more → (b ≡ y) × (new.rest ≡ more))
    → Decodes spelled_bytes IsDocument old new (Ok id)
document_read old new b id same size fits there only =
    subst (λ (d : List ℕ). Decodes spelled_bytes IsDocument old new (Ok d)) (sym same)
    ((size, fits), there, λ y more h e. let t = only y more (omega (arith, h.0)) e in (sym t.0, sym t.1))
