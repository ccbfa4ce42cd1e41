-- The parts of a change, from the reads of its fields.
use Rattle.std.proofs.Common.{◌≡◌, ℕ, zero, suc, ◌+◌, ◌<◌, ◌≤◌, ◌^◌, List, [], ◌∷◌, ◌++◌, map, length, get_or, drop, set, refl, sym, ap, subst, ◌∙◌, arith, append_assoc, length-append, get_or-set_other, get_or-set_same, below_more}
use Rattle.std.proofs.Math.ListN.{length-set}
use Rattle.std.specs.Prelude.{flat_map, Option, None, Some, max}
use Rattle.std.specs.List.{AllByRecursion}
use Rattle.std.proofs.lemmas.Grind.{same_number_lists}
use Rattle.std.proofs.lemmas.List.{drop_more, append-nil, length-map}
use Rattle.std.specs.Borrow.{Bor}
use Rattle.cbor_det.specs.Item.{Item, IsItem, spell, unsigned, row}
use Rattle.cbor_det.specs.Unread.{Unread, unread}
use Rattle.cbor_det.specs.Rows.{ReadsField, ReadsFields, ReadsRow}
use Rattle.cbor_det.proofs.RowLaws.{nil_left, row_same}
use Rattle.model.specs.Value.{numbers_item}
use Rattle.op_grammar.specs.Parts.{SkipsNumbers, SkipsRow, Passed, HasPassed, CausesAnswer, ReadsCounts, Counted, rest_of, count_and_rest, ReadsSeven, ReadsParts, PartsAnswer}
use Rattle.model.specs.Change.{ChangeParts}
use Rattle.op_grammar.specs.declared.parts.Parts.{Parts}

abbrev pub Number : Unread → Unread → Option ℕ → Type 0
Number old new r = ReadsField (λ (m : ℕ). m) unsigned (λ (m : ℕ). Unit {0}) old new r

-- ---- numbers that are passed

-- what stands behind so many numbers of a list of numbers is one
number_behind : (ms ns : List ℕ) (y : Item) (ys : List Item) → map unsigned ns ≡ map unsigned ms ++ y ∷ ys → (m : ℕ) × (y ≡ unsigned m)
number_behind [] [] y ys e = absurd cc
number_behind [] (n ∷ ns) y ys e = (n, cc)
number_behind (m ∷ ms) [] y ys e = absurd cc
number_behind (m ∷ ms) (n ∷ ns) y ys e = number_behind ms ns y ys cc

map_more : (ms : List ℕ) (m : ℕ) (ys : List Item) → map unsigned ms ++ unsigned m ∷ ys ≡ map unsigned (ms ++ m ∷ []) ++ ys
map_more [] m ys = refl
map_more (x ∷ ms) m ys = ap (λ (z : List Item). unsigned x ∷ z) (map_more ms m ys)

module _ (all i : ℕ) (o0 o1 o2 : Unread) (so_far : HasPassed all i o0 o1) where
  -- something is left behind fewer than all
  abbrev Next : List Item → List ℕ → Type 0
  Next fields more = (ms : List ℕ) × (y : Item) × (ys : List Item) × (fields ≡ map unsigned ms ++ y ∷ ys) × (length ms ≡ i) × IsItem y × AllByRecursion IsItem ys × (o1.rest ≡ spell y ++ (flat_map spell ys ++ more))

  next : i < all → (fields : List Item) (more : List ℕ) → length fields ≡ all → AllByRecursion IsItem fields → o0.rest ≡ flat_map spell fields ++ more → Next fields more
  next lt fields more l items parts = by (so_far fields more l items parts).left refl
    where
      s : Passed i o1 fields more
      s = so_far fields more l items parts

      by : (left : List Item) → s.left ≡ left → Next fields more
      by [] e = absurd (let sizes = ap length s.parts ∙ length-append (map unsigned s.numbers) s.left in omega (arith, sizes, ap length e, length-map s.numbers unsigned, s.counted, l, lt))
      by (y ∷ ys) e =
          let here = subst (AllByRecursion IsItem) e s.items in
          (s.numbers, y, ys, s.parts ∙ ap (λ (z : List Item). map unsigned s.numbers ++ z) e, s.counted, here.0, here.1, s.rest ∙ ap (λ (z : List Item). flat_map spell z ++ more) e ∙ append_assoc (spell y) (flat_map spell ys) more)

  pub pass_stops : i < all → Number o1 o2 None → (r : Option ℕ) → r ≡ None → (o3 : Unread) → SkipsNumbers all o0 o3 r
  pass_stops lt reads (Some k) none o3 fields more l items parts = absurd cc
  pass_stops lt reads None none o3 fields more l items parts = λ ns e.
      let t = next lt fields more l items parts in
      let m = number_behind t.0 ns t.1 t.2 (sym e ∙ t.3) in
      reads t.1 (flat_map spell t.2 ++ more) t.5 t.7 m.0 m.1 tt

  pub pass_more : i < all → (v : ℕ) → Number o1 o2 (Some v) → HasPassed all (i + 1) o0 o2
  pass_more lt v reads fields more l items parts =
      let t = next lt fields more l items parts in
      let u = reads t.1 (flat_map spell t.2 ++ more) t.5 t.7 in
      record {
        numbers = t.0 ++ v ∷ [];
        left = t.2;
        parts = t.3 ∙ ap (λ (z : Item). map unsigned t.0 ++ z ∷ t.2) u.0 ∙ map_more t.0 v t.2;
        counted = length-append t.0 (v ∷ []) ∙ ap (λ k. k + 1) t.4;
        items = t.6;
        rest = u.2;
      }

  pub pass_ends : all ≤ i → (k : ℕ) → SkipsNumbers all o0 o1 (Some k)
  pass_ends le k fields more l items parts =
      let s = so_far fields more l items parts in
      let sizes = ap length s.parts ∙ length-append (map unsigned s.numbers) s.left in
      let none = nil_left s.left (omega (arith, sizes, length-map s.numbers unsigned, s.counted, l, le)) in
      (s.numbers, s.parts ∙ ap (λ (z : List Item). map unsigned s.numbers ++ z) none ∙ append-nil (map unsigned s.numbers), s.rest ∙ ap (λ (z : List Item). flat_map spell z ++ more) none)

pub pass_none : (all : ℕ) (o0 : Unread) → HasPassed all 0 o0 o0
pass_none all o0 fields more l items parts = record { numbers = []; left = fields; parts = refl; counted = refl; items = items; rest = parts }

pub row_passed : (count : ℕ) (o0 o1 o2 : Unread) (r : Option ℕ) → ReadsRow o0 o1 (Some count) → SkipsNumbers count o1 o2 r → SkipsRow o0 o2 r
row_passed count o0 o1 o2 (Some k) first second x more h parts =
    let s = first x more h parts in
    let t = second s.0 more s.3 s.2 s.4 in
    (t.0, s.1 ∙ ap row t.1, t.2)
row_passed count o0 o1 o2 None first second x more h parts = λ ns e.
    let s = first x more h parts in
    second s.0 more s.3 s.2 s.4 ns (row_same s.0 (map unsigned ns) (sym s.1 ∙ e))

pub row_not_passed : (o0 o1 o2 : Unread) (r : Option ℕ) → r ≡ None → ReadsRow o0 o1 None → SkipsRow o0 o2 r
row_not_passed o0 o1 o2 (Some k) none first x more h parts = absurd cc
row_not_passed o0 o1 o2 None none first x more h parts = λ ns e. first x more h parts (map unsigned ns) e

-- ---- counts

item_at : (ns : List ℕ) (i : ℕ) → i < length ns → AllByRecursion IsItem (map unsigned ns) → IsItem (unsigned (get_or ns i 0))
item_at [] i lt h = absurd (omega arith)
item_at (n ∷ ns) zero lt h = h.0
item_at (n ∷ ns) (suc i) lt h = item_at ns i (omega arith) h.1

few_at : (ns : List ℕ) (i : ℕ) → i < length ns → AllByRecursion (λ count. count < 2 ^ 32) ns → get_or ns i 0 < 2 ^ 32
few_at [] i lt h = absurd (omega arith)
few_at (n ∷ ns) zero lt h = h.0
few_at (n ∷ ns) (suc i) lt h = few_at ns i (omega arith) h.1

all_few : (ns : List ℕ) → ((k : ℕ) → k < length ns → get_or ns k 0 < 2 ^ 32) → AllByRecursion (λ count. count < 2 ^ 32) ns
all_few [] h = tt
all_few (n ∷ ns) h = (h 0 (omega arith), all_few ns (λ k lt. h (suc k) (omega arith)))

-- So many counts are read, whatever numbers stand there.
abbrev pub HasCounted : ℕ → ℕ → Unread → Unread → List ℕ → Type 0
HasCounted n i o0 o1 counts =
    (ns more : List ℕ) → length ns ≡ n → AllByRecursion IsItem (map unsigned ns) → o0.rest ≡ flat_map spell (map unsigned ns) ++ more → Counted n i ns more counts o1

module _ (n i : ℕ) (o0 o1 o2 : Unread) (counts : List ℕ) (so_far : HasCounted n i o0 o1 counts) (lt : i < n) where
  -- the number that is read is the next
  next_number : (v : ℕ) → Number o1 o2 (Some v) → (ns more : List ℕ) → length ns ≡ n → AllByRecursion IsItem (map unsigned ns) → o0.rest ≡ flat_map spell (map unsigned ns) ++ more
      → (v ≡ get_or ns i 0) × (o2.rest ≡ flat_map spell (map unsigned (drop (i + 1) ns)) ++ more)
  next_number v reads ns more l items parts =
      let s = so_far ns more l items parts in
      let within : i < length ns = omega (arith, l, lt) in
      let left = ap (λ (z : List ℕ). flat_map spell (map unsigned z) ++ more) (drop_more ns i 0 within) ∙ append_assoc (spell (unsigned (get_or ns i 0))) (flat_map spell (map unsigned (drop (i + 1) ns))) more in
      let u = reads (unsigned (get_or ns i 0)) (flat_map spell (map unsigned (drop (i + 1) ns)) ++ more) (item_at ns i within items) (s.rest ∙ left) in
      let is : unsigned (get_or ns i 0) ≡ unsigned v = u.0 in
      (cc, u.2)

  pub count_stops : Number o1 o2 None → (r : Option (List ℕ)) → r ≡ None → ReadsCounts n o0 r
  count_stops reads (Some v) none ns more l items parts = absurd cc
  count_stops reads None none ns more l items parts = λ same few.
      let s = so_far ns more l items parts in
      let within : i < length ns = omega (arith, l, lt) in
      let left = ap (λ (z : List ℕ). flat_map spell (map unsigned z) ++ more) (drop_more ns i 0 within) ∙ append_assoc (spell (unsigned (get_or ns i 0))) (flat_map spell (map unsigned (drop (i + 1) ns))) more in
      reads (unsigned (get_or ns i 0)) (flat_map spell (map unsigned (drop (i + 1) ns)) ++ more) (item_at ns i within items) (s.rest ∙ left) (get_or ns i 0) refl tt

  pub count_too_great : (v : ℕ) → 2 ^ 32 ≤ v → Number o1 o2 (Some v) → ReadsCounts n o0 None
  count_too_great v great reads ns more l items parts = λ same few.
      let u = next_number v reads ns more l items parts in
      let bound = few_at ns i (omega (arith, l, lt)) few in
      omega (arith, bound, u.0, great)

  pub count_more : (v : ℕ) → v < 2 ^ 32 → Number o1 o2 (Some v) → HasCounted n (i + 1) o0 o2 (set counts i (max (get_or counts i 0) v))
  count_more v small reads ns more l items parts =
      let s = so_far ns more l items parts in
      let u = next_number v reads ns more l items parts in
      let zero_here : get_or counts i 0 ≡ 0 = s.none i (omega arith) in
      let within : i < length counts = omega (arith, s.sizes, lt) in
      let here : get_or (set counts i (max (get_or counts i 0) v)) i 0 ≡ get_or ns i 0 = get_or-set_same counts i (max (get_or counts i 0) v) 0 within ∙ (omega (arith, zero_here, u.0)) in
      record {
        sizes = length-set counts i (max (get_or counts i 0) v) ∙ s.sizes;
        read = below_more _ _ (λ k below. let ne : k ≡ i → ⊥ = λ e. omega arith in get_or-set_other counts i k (max (get_or counts i 0) v) 0 ne ∙ s.read k below) here;
        few = below_more _ _ (λ k below. s.few k below) (omega (arith, u.0, small));
        none = λ k le. let ne : k ≡ i → ⊥ = λ e. omega arith in get_or-set_other counts i k (max (get_or counts i 0) v) 0 ne ∙ s.none k (omega arith);
        rest = u.1;
      }

pub count_ends : (n i : ℕ) (o0 o1 : Unread) (counts : List ℕ) → HasCounted n i o0 o1 counts → n ≤ i → ReadsCounts n o0 (Some counts)
count_ends n i o0 o1 counts so_far le ns more l items parts =
    let s = so_far ns more l items parts in
    (same_number_lists counts ns (s.sizes ∙ sym l) (λ k lt. s.read k (omega (arith, s.sizes, le, lt))), l, all_few ns (λ k lt. s.few k (omega (arith, l, le, lt))))

-- ---- seven fields

abbrev three : ℕ × (ℕ × ℕ) → List Item
three p = unsigned p.0 ∷ unsigned p.1.0 ∷ unsigned p.1.1 ∷ []

abbrev pub Three : Unread → Unread → Option (ℕ × (ℕ × ℕ)) → Type 0
Three old new r = ReadsFields 3 (λ (p : ℕ × (ℕ × ℕ)). p) three (λ (p : ℕ × (ℕ × ℕ)). Unit {0} × (Unit {0} × Unit {0})) old new r

abbrev pub Rest : Unread → Unread → Option (ℕ × (ℕ × Bor (List ℕ))) → Type 0
Rest old new r = ReadsFields 3 rest_of count_and_rest (λ (p : ℕ × (ℕ × List ℕ)). Unit {0} × (Unit {0} × Unit {0})) old new r

abbrev first_of_parts : ChangeParts → ℕ × (ℕ × ℕ)
first_of_parts q = (q.member, (q.number, q.time))

abbrev rest_of_parts : ChangeParts → ℕ × (ℕ × List ℕ)
rest_of_parts q = (q.count, (q.width, q.body))

pub first_three_not : (o0 o1 : Unread) (r : Option Parts) → r ≡ None → Three o0 o1 None → ReadsSeven o0 r
first_three_not o0 o1 (Some p) none reads fields more l items parts = absurd cc
first_three_not o0 o1 None none reads fields more l items parts = λ q e.
    let same = row_same fields _ e in
    reads.answers fields more (omega (arith, l)) items parts (first_of_parts q) (numbers_item q.causes ∷ count_and_rest (rest_of_parts q)) same (tt, (tt, tt))

-- what is left behind the first three of seven
abbrev FourLeft : Unread → List Item → List ℕ → ℕ × (ℕ × ℕ) → Type 0
FourLeft o1 fields more p = (x : Item) × (xs : List Item) × (fields ≡ three p ++ x ∷ xs) × (length xs ≡ 3) × IsItem x × AllByRecursion IsItem xs × (o1.rest ≡ spell x ++ (flat_map spell xs ++ more))

four_left : (o0 o1 : Unread) (p : ℕ × (ℕ × ℕ)) → Three o0 o1 (Some p) → (fields : List Item) (more : List ℕ) → length fields ≡ 7 → AllByRecursion IsItem fields → o0.rest ≡ flat_map spell fields ++ more → FourLeft o1 fields more p
four_left o0 o1 p reads fields more l items parts = let s = reads.answers fields more (omega (arith, l)) items parts in by s.0 s.1 s.3
  where
    by : (left : List Item) → fields ≡ three p ++ left → o1.rest ≡ flat_map spell left ++ more → FourLeft o1 fields more p
    by [] e rest = absurd (omega (arith, l, ap length e))
    by (x ∷ xs) e rest =
        let here = subst (AllByRecursion IsItem) e items in
        (x, xs, e, omega (arith, l, ap length e), here.1.1.1.0, here.1.1.1.1, rest ∙ append_assoc (spell x) (flat_map spell xs) more)

module _ (o0 o1 o2 : Unread) (p : ℕ × (ℕ × ℕ)) (first : Three o0 o1 (Some p)) where
  pub causes_not : (r : Option Parts) → r ≡ None → SkipsRow o1 o2 None → ReadsSeven o0 r
  causes_not (Some w) none second fields more l items parts = absurd cc
  causes_not None none second fields more l items parts = λ q e.
      let t = four_left o0 o1 p first fields more l items parts in
      let same : three p ++ t.0 ∷ t.1 ≡ three (first_of_parts q) ++ numbers_item q.causes ∷ count_and_rest (rest_of_parts q) = sym t.2 ∙ row_same fields _ e in
      second t.0 (flat_map spell t.1 ++ more) t.4 t.6 q.causes cc

  pub rest_not : (o3 : Unread) (k : ℕ) (r : Option Parts) → r ≡ None → SkipsRow o1 o2 (Some k) → Rest o2 o3 None → ReadsSeven o0 r
  rest_not o3 k (Some w) none second third fields more l items parts = absurd cc
  rest_not o3 k None none second third fields more l items parts = λ q e.
      let t = four_left o0 o1 p first fields more l items parts in
      let u = second t.0 (flat_map spell t.1 ++ more) t.4 t.6 in
      let same : three p ++ t.0 ∷ t.1 ≡ three (first_of_parts q) ++ numbers_item q.causes ∷ count_and_rest (rest_of_parts q) = sym t.2 ∙ row_same fields _ e in
      let left : t.1 ≡ count_and_rest (rest_of_parts q) = cc in
      third.answers t.1 more (omega (arith, t.3)) t.5 u.2 (rest_of_parts q) [] (left ∙ sym (append-nil (count_and_rest (rest_of_parts q)))) (tt, (tt, tt))

  pub seven_read : (o3 : Unread) (k : ℕ) (v : Parts) → unread v.causes ≡ o1 → v.member ≡ p.0 → v.number ≡ p.1.0 → v.time ≡ p.1.1 → SkipsRow o1 o2 (Some k) → Rest o2 o3 (Some (v.count, (v.width, v.body))) → ReadsSeven o0 (Some v)
  seven_read o3 k v at e0 e1 e2 second third fields more l items parts =
      let t = four_left o0 o1 p first fields more l items parts in
      let u = second t.0 (flat_map spell t.1 ++ more) t.4 t.6 in
      let w = third.answers t.1 more (omega (arith, t.3)) t.5 u.2 in
      let none = nil_left w.0 (omega (arith, t.3, ap length w.1)) in
      let left : t.1 ≡ count_and_rest (v.count, (v.width, v.body.now)) = w.1 ∙ ap (λ (z : List Item). count_and_rest (v.count, (v.width, v.body.now)) ++ z) none in
      let q : ChangeParts = record { member = v.member; number = v.number; time = v.time; causes = u.0; count = v.count; width = v.width; body = v.body.now } in
      let numbers : three p ≡ three (first_of_parts q) = λ i. three (sym e0 i, (sym e1 i, sym e2 i)) in (
        q,
        ap row (t.2 ∙ (λ i. numbers i ++ u.1 i ∷ left i)),
        record {
          member = refl;
          number = refl;
          time = refl;
          count = refl;
          width = refl;
          body = refl;
          causes = (flat_map spell t.1 ++ more, subst IsItem u.1 t.4, ap (λ (z : Unread). z.rest) at ∙ t.6 ∙ ap (λ (z : Item). spell z ++ (flat_map spell t.1 ++ more)) u.1);
        },
      )

-- ---- the row of a change

pub seven_only : (o0 o1 : Unread) (r : Option Parts) → ReadsRow o0 o1 (Some 7) → ReadsSeven o1 r → ReadsParts o0 r
seven_only o0 o1 r first second x more h parts =
    let s = first x more h parts in
    subst (PartsAnswer r) (sym s.1) (second s.0 more s.3 s.2 s.4)

pub not_seven : (o0 o1 : Unread) (k : ℕ) → (k ≡ 7 → ⊥) → ReadsRow o0 o1 (Some k) → ReadsParts o0 None
not_seven o0 o1 k other first x more h parts = λ q e.
    let s = first x more h parts in
    let seven = three (first_of_parts q) ++ numbers_item q.causes ∷ count_and_rest (rest_of_parts q) in
    other (sym s.3 ∙ ap length (row_same s.0 seven (sym s.1 ∙ e)))

pub no_row_there : (o0 o1 : Unread) (r : Option Parts) → r ≡ None → ReadsRow o0 o1 None → ReadsParts o0 r
no_row_there o0 o1 (Some w) none first x more h parts = absurd cc
no_row_there o0 o1 None none first x more h parts = λ q e.
    first x more h parts (three (first_of_parts q) ++ numbers_item q.causes ∷ count_and_rest (rest_of_parts q)) e

-- ---- the row of causes

abbrev pub Causes : ℕ → Unread → Option (List ℕ) → Type 0
Causes n o0 r = (ns more : List ℕ) → IsItem (numbers_item ns) → o0.rest ≡ spell (numbers_item ns) ++ more → CausesAnswer n ns r

module _ (n : ℕ) (o0 o1 : Unread) where
  pub causes_no_row : ReadsRow o0 o1 None → (r : Option (List ℕ)) → r ≡ None → Causes n o0 r
  causes_no_row first (Some v) none ns more h parts = absurd cc
  causes_no_row first None none ns more h parts = absurd (first (numbers_item ns) more h parts (map unsigned ns) refl)

  pub causes_other : (k : ℕ) → ReadsRow o0 o1 (Some k) → (k ≡ n → ⊥) → Causes n o0 None
  causes_other k first other ns more h parts = λ same few.
      let s = first (numbers_item ns) more h parts in
      let fields : map unsigned ns ≡ s.0 = row_same (map unsigned ns) s.0 s.1 in
      other (omega (arith, s.3, ap length fields, length-map ns unsigned, same))

  pub causes_read : (k : ℕ) → ReadsRow o0 o1 (Some k) → k ≡ n → (r : Option (List ℕ)) → ReadsCounts n o1 r → Causes n o0 r
  causes_read k first size r reads ns more h parts =
      let s = first (numbers_item ns) more h parts in
      let fields : s.0 ≡ map unsigned ns = row_same s.0 (map unsigned ns) (sym s.1) in
      reads ns more (omega (arith, s.3, ap length fields, length-map ns unsigned, size)) (subst (AllByRecursion IsItem) fields s.2) (s.4 ∙ ap (λ (z : List Item). flat_map spell z ++ more) fields)
