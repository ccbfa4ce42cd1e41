-- The least of what the members know, one row after the other.
use Rattle.std.proofs.Common.{◌≡◌, ℕ, ◌+◌, ◌<◌, ◌≤◌, min, All, List, [], ◌∷◌, ◌++◌, length, map, take, get_or, refl, sym, ap, subst, ◌∙◌, arith}
use Rattle.std.specs.Prelude.{fold}
use Rattle.std.specs.List.{zip}
use Rattle.std.proofs.lemmas.Grind.{get_or_default_zero}
use Rattle.std.proofs.lemmas.List.{get_or-map, length-map, map-append, same_lists, take_all, take_more}
use Rattle.std.proofs.lemmas.List.Elements.{All-get_or, All-head, All-tail}
use Rattle.std.proofs.lemmas.List.FromFn.{get_or-map-range_with_len, length-map-range_with_len}
use Rattle.std.proofs.lemmas.List.Sums.{fold-append}
use Rattle.std.proofs.lemmas.Simd.{map-map}
use Rattle.std.proofs.lemmas.Slice.Zip.{get_or-zip, length-zip}
use Rattle.version_vector.specs.Counts.{least_counts}
use Rattle.model.specs.Base.{MemberRow, members}
use Rattle.model.specs.Held.{Held}
use Rattle.model.specs.Stability.{least, stable_of}
use Rattle.stability.specs.Rows.{AreRows, row_of, rows_in}
use Rattle.stability.specs.declared.fronts.MemberRow as code

abbrev pub Knows : ℕ → code.MemberRow → Type 0
Knows n r = length r.known ≡ n

-- what the members know, one after the other, lowers the counts to the least
abbrev pub lowered : List ℕ → List code.MemberRow → List ℕ
lowered counts rows = fold least_counts counts (map (λ r. r.known) rows)

lowered_more : (counts : List ℕ) (rows : List code.MemberRow) (i : ℕ) (r : code.MemberRow) → i < length rows → r ≡ get_or rows i r → lowered counts (take (i + 1) rows) ≡ least_counts (lowered counts (take i rows)) r.known
lowered_more counts rows i r lt at =
    let more = take_more rows i r lt ∙ ap (λ (x : code.MemberRow). take i rows ++ x ∷ []) (sym at) in
    ap (lowered counts) more ∙ ap (fold least_counts counts) (map-append (λ (x : code.MemberRow). x.known) (take i rows) (r ∷ []))
    ∙ fold-append least_counts counts (map (λ x. x.known) (take i rows)) (r.known ∷ [])

length-least_counts : (ms ns : List ℕ) → length ms ≡ length ns → length (least_counts ms ns) ≡ length ms
length-least_counts ms ns same = omega (arith, length-map (zip ms ns) (λ both. min both.0 both.1), length-zip ms ns)

-- The counts are those that the first ones of these rows lower from others.
pub record Lowered (rows : List code.MemberRow) (from counts : List ℕ) (i : ℕ) : Type 0 where
  pub each : length counts ≡ length rows
  pub are : counts ≡ lowered from (take i rows)

pub lowered_next : (rows : List code.MemberRow) (from counts : List ℕ) (i : ℕ) (r : code.MemberRow) → All (Knows (length rows)) rows → i < length rows → r ≡ get_or rows i r → Lowered rows from counts i → Lowered rows from (least_counts counts r.known) (i + 1)
lowered_next rows from counts i r all lt at l =
    let size : length r.known ≡ length rows = ap (λ (x : code.MemberRow). length x.known) at ∙ All-get_or (Knows (length rows)) rows i r lt all in
    record {
      each = length-least_counts counts r.known (l.each ∙ sym size) ∙ l.each;
      are = ap (λ ns. least_counts ns r.known) l.are ∙ sym (lowered_more from rows i r lt at);
    }

get_or-least_counts : (ms ns : List ℕ) (k : ℕ) → length ms ≡ length ns → k < length ms → get_or (least_counts ms ns) k 0 ≡ min (get_or ms k 0) (get_or ns k 0)
get_or-least_counts ms ns k same lt =
    let in_both : k < length (zip ms ns) = omega (arith, length-zip ms ns) in
    get_or-map (λ both. min both.0 both.1) (zip ms ns) k (0, 0) 0 in_both ∙ ap (λ both. min both.0 both.1) (get_or-zip ms ns k (0, 0) lt (omega arith))

length-lowered : (counts : List ℕ) (rows : List code.MemberRow) → All (Knows (length counts)) rows → length (lowered counts rows) ≡ length counts
length-lowered counts [] all = refl
length-lowered counts (r ∷ rows) all =
    let n = length counts in
    let same : length r.known ≡ n = All-head (Knows n) r rows all in
    let long = length-least_counts counts r.known (sym same) in
    length-lowered (least_counts counts r.known) rows (subst (λ m. All (Knows m) rows) (sym long) (All-tail (Knows n) r rows all)) ∙ long

get_or-lowered : (counts : List ℕ) (rows : List code.MemberRow) (k : ℕ) → k < length counts → All (Knows (length counts)) rows → get_or (lowered counts rows) k 0 ≡ fold min (get_or counts k 0) (map (λ r. get_or r.known k 0) rows)
get_or-lowered counts [] k lt all = refl
get_or-lowered counts (r ∷ rows) k lt all =
    let n = length counts in
    let same : length r.known ≡ n = All-head (Knows n) r rows all in
    let long = length-least_counts counts r.known (sym same) in
    get_or-lowered (least_counts counts r.known) rows k (omega (arith, long)) (subst (λ m. All (Knows m) rows) (sym long) (All-tail (Knows n) r rows all))
    ∙ ap (λ first. fold min first (map (λ r. get_or r.known k 0) rows)) (get_or-least_counts counts r.known k (sym same) lt)

-- the first of some numbers and then all of them
pub least_again : (n : ℕ) (ns : List ℕ) → fold min n (n ∷ ns) ≡ least (n ∷ ns)
least_again n ns = ap (λ m. fold min m ns) (let same : min n n ≡ n = omega arith in same)

-- from what the first knows all that the members know lowers the counts to what is stable
from_first : (past : Held) (rows : List code.MemberRow) (first : code.MemberRow) → AreRows rows → first ≡ get_or rows 0 first → map row_of rows ≡ rows_in (length (map row_of rows)) past
    → lowered first.known rows ≡ map (stable_of (length (map row_of rows)) past) (members (length (map row_of rows)))
from_first past [] first are at is = absurd (let some = are.some in omega (arith, some))
from_first past (r ∷ rows) first are at is =
    let n = length (map row_of (r ∷ rows)) in
    let all_long : n ≡ length (r ∷ rows) = length-map (r ∷ rows) row_of in
    let size : length r.known ≡ length (r ∷ rows) = All-head (Knows (length (r ∷ rows))) r rows are.known in
    let all : All (Knows (length r.known)) (r ∷ rows) = subst (λ m. All (Knows m) (r ∷ rows)) (sym size) are.known in
    let long = length-lowered r.known (r ∷ rows) all in
    let each : (k : ℕ) → k < length r.known → get_or (lowered r.known (r ∷ rows)) k 0 ≡ stable_of n past k = λ k lt.
    get_or-lowered r.known (r ∷ rows) k lt all
    ∙ least_again (get_or r.known k 0) (map (λ r. get_or r.known k 0) rows)
    ∙ ap least (sym (map-map (λ (r : MemberRow). get_or r.known k 0) row_of (r ∷ rows)) ∙ ap (map (λ (r : MemberRow). get_or r.known k 0)) is ∙ map-map (λ (r : MemberRow). get_or r.known k 0) past.row (members n)) in
    ap (λ (x : code.MemberRow). lowered x.known (r ∷ rows)) at
    ∙ same_lists (lowered r.known (r ∷ rows)) (map (stable_of n past) (members n)) (long ∙ size ∙ sym all_long ∙ sym (length-map-range_with_len (stable_of n past) 0 n))
    (λ k d lt.
    let within : k < n = omega (arith, lt, long, size, all_long) in
    get_or_default_zero (lowered r.known (r ∷ rows)) k d lt ∙ each k (omega (arith, lt, long)) ∙ sym (get_or-map-range_with_len (stable_of n past) 0 n k k d within (omega arith)))

pub lowered_is_stable : (past : Held) (rows : List code.MemberRow) (seen : List MemberRow) (first : code.MemberRow) (counts : List ℕ) (i : ℕ) → AreRows rows → map row_of rows ≡ seen → first ≡ get_or rows 0 first
    → Lowered rows first.known counts i → length rows ≤ i → seen ≡ rows_in (length seen) past → counts ≡ map (stable_of (length seen) past) (members (length seen))
lowered_is_stable past rows seen first counts i are is at l all =
    subst (λ s. s ≡ rows_in (length s) past → counts ≡ map (stable_of (length s) past) (members (length s))) is
    (λ held. l.are ∙ ap (lowered first.known) (take_all i rows all) ∙ from_first past rows first are at held)
