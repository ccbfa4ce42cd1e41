-- How many operations are read.
use Rattle.std.proofs.Common.{◌≡◌, ℕ, zero, suc, ◌+◌, ◌*◌, ◌≤◌, List, [], ◌∷◌, ◌++◌, length, take, refl, ap, ◌∙◌, arith}
use Rattle.std.specs.Prelude.{Result, Some, slice_get}
use Rattle.std.proofs.lemmas.List.{take_more}
use Rattle.std.proofs.lemmas.List.Sums.{sum_by-append, sum_by-cons}
use Rattle.std.proofs.lemmas.Option.{get_or_from_slice_get, slice_get_within}
use Rattle.outside.specs.Work.{Work}
use Rattle.model.specs.Change.{Change}
use Rattle.model.specs.State.{by_ids}
use Rattle.doc_store.specs.Documents.{DecodesAll, DecodesSome}
use Rattle.holding.proofs.OperationLaws.{length-by_ids}
use Rattle.member_replica.specs.Work.{operations_in}

pub decodes_none : (w : Work) (most : ℕ) → DecodesSome w w most
decodes_none w most = record { moves = refl; rose = omega arith; bound = omega arith }

pub decodes_more : (a b c : Work) (m n most : ℕ) → DecodesSome a b m → DecodesSome b c n → m + n ≤ most → DecodesSome a c most
decodes_more a b c m n most d e within =
    let up = d.rose in
    let up' = e.rose in
    let top = d.bound in
    let top' = e.bound in
    record { moves = e.moves ∙ d.moves; rose = omega arith; bound = omega arith }

pub decodes_within : (a b : Work) (m most : ℕ) → DecodesSome a b m → m ≤ most → DecodesSome a b most
decodes_within a b m most d within = let top = d.bound in record { moves = d.moves; rose = d.rose; bound = omega arith }

-- ---- of changes at the front of others

abbrev count : Change → ℕ
count c = length c.operations

pub front_less : (changes : List Change) (i : ℕ) → operations_in (take i changes) ≤ operations_in changes
front_less [] zero = omega arith
front_less [] (suc i) = omega arith
front_less (c ∷ changes) zero = omega arith
front_less (c ∷ changes) (suc i) =
    let rest = front_less changes i in
    let one = sum_by-cons count c (take i changes) in
    let all = sum_by-cons count c changes in
    omega arith

pub front_more : (changes : List Change) (i : ℕ) (c : Change) → slice_get changes i ≡ Some c → operations_in (take (i + 1) changes) ≡ operations_in (take i changes) + length c.operations
front_more changes i c at =
    ap operations_in (take_more changes i c (slice_get_within changes i c at) ∙ ap (λ (d : Change). take i changes ++ d ∷ []) (get_or_from_slice_get changes i c c at)) ∙ sum_by-append count (take i changes) (c ∷ [])
    ∙ ap (λ n. operations_in (take i changes) + n) (sum_by-cons count c [] ∙ omega arith)

pub one_at : (changes : List Change) (i : ℕ) (c : Change) → slice_get changes i ≡ Some c → operations_in (take i changes) + length c.operations ≤ operations_in changes
one_at changes i c at = omega (arith, front_more changes i c at, front_less changes (i + 1))

pub read_then : (read : List Change) (c : Change) (rest : List Change) → operations_in read + length c.operations ≤ operations_in (read ++ c ∷ rest)
read_then read c rest =
    let all = sum_by-append count read (c ∷ rest) in
    let one = sum_by-cons count c rest in
    omega arith

pub read_more : (read : List Change) (c : Change) → 2 * operations_in read + 2 * length c.operations ≤ 2 * operations_in (read ++ c ∷ [])
read_more read c = let all = read_then read c [] in omega arith

pub read_before : (read rest : List Change) → operations_in read ≤ operations_in (read ++ rest)
read_before read rest = let all = sum_by-append count read rest in omega arith

-- ---- a change that is judged, and joins

pub decodes_joined : {T E : Type 0} (a b : Work) (c : Change) (r : Result T E) → DecodesAll a b (by_ids c.time c.member 0 c.operations) r → b.moves ≡ a.moves → DecodesSome a b (length c.operations)
decodes_joined a b c r d same =
    let top = d.bound in
    let many = length-by_ids c.time c.member 0 c.operations in
    record { moves = same; rose = d.rose; bound = omega arith }

-- reading and then joining behind the changes before a place
pub decodes_one : (changes : List Change) (i : ℕ) (c : Change) (a b d : Work) (most : ℕ) → slice_get changes i ≡ Some c → DecodesSome a b (2 * operations_in (take i changes)) → DecodesSome b d most → most ≤ 2 * length c.operations → DecodesSome a d (2 * operations_in changes)
decodes_one changes i c a b d most at before now within =
    let one = one_at changes i c at in decodes_more a b d (2 * operations_in (take i changes)) most (2 * operations_in changes) before now (omega arith)

pub decodes_next : (changes : List Change) (i : ℕ) (c : Change) (a b d : Work) → slice_get changes i ≡ Some c → DecodesSome a b (2 * operations_in (take i changes)) → DecodesSome b d (2 * length c.operations) → DecodesSome a d (2 * operations_in (take (i + 1) changes))
decodes_next changes i c a b d at before now =
    let more = front_more changes i c at in decodes_more a b d (2 * operations_in (take i changes)) (2 * length c.operations) (2 * operations_in (take (i + 1) changes)) before now (omega arith)

pub decodes_twice : (a b c : Work) (n : ℕ) → DecodesSome a b n → DecodesSome b c n → DecodesSome a c (2 * n)
decodes_twice a b c n d e = decodes_more a b c n n (2 * n) d e (omega arith)
