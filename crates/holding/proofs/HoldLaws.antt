-- What is read off what is held.
use Rattle.std.proofs.Common.{◌≡◌, ℕ, ◌<◌, List, length, map, replicate, Some, refl, sym, ap, ◌∙◌, ◌∷◌, [], zero, suc, ◌+◌, arith}
use Rattle.std.specs.Prelude.{slice_get, slice_index, slice_index_or}
use Rattle.std.specs.List.{range_with_len}
use Rattle.std.proofs.lemmas.List.FromFn.{length-map-range_with_len}
use Rattle.std.proofs.lemmas.Option.{same_Some}
use Rattle.std.proofs.lemmas.Simd.{map-map}
use Rattle.model.specs.Base.{Base, MemberRow, base_of, member_row, members, time_of}
use Rattle.model.specs.Change.{Change, IsChange}
use Rattle.model.specs.Held.{held_behind, row_behind}
use Rattle.op_grammar.specs.Changes.{head_of}
use Rattle.op_grammar.specs.declared.head.Head.{Head}
use Rattle.stability.specs.Rows.{row_of, rows_in}
use Rattle.stability.specs.declared.fronts.MemberRow as code
use Rattle.stability.proofs.HeldLaws.{heads_make_rows}
use Rattle.arrival_laws.proofs.SoundLaws.{name}
use Rattle.holding.specs.Holds.{Holds}
use Rattle.holding.specs.Times.{time_at}
use Rattle.holding.specs.declared.holding.Holding.{Holding}
use Rattle.holding.proofs.FirstLaws.{number_at, read_at}

-- there is a row for each member
pub many_rows : (h : Holding) (n : ℕ) (b : Base) (kept : List Change) → Holds h n b kept → length h.fronts ≡ n
many_rows h n b kept holds = ap (λ (rows : List MemberRow). length rows) holds.rows ∙ length-map-range_with_len (row_behind b kept) 0 n

pub within_rows : (h : Holding) (n : ℕ) (b : Base) (kept : List Change) (c : Change) (head : Head) → Holds h n b kept → IsChange n c → head ≡ head_of c → head.member < length h.fronts
within_rows h n b kept c head holds is same = omega (arith, many_rows h n b kept holds, is.member, ap (λ (x : Head). x.member) same)

-- and in a change of the document a cause
pub many_causes : (n : ℕ) (c : Change) (head : Head) → IsChange n c → head ≡ head_of c → length head.causes ≡ n
many_causes n c head is same = ap (λ (x : Head). length x.causes) same ∙ is.causes_each

pub cause_read : (c : Change) (head : Head) (k cause : ℕ) → head ≡ head_of c → cause ≡ slice_index head.causes k → cause ≡ slice_index c.causes k
cause_read c head k cause same is = is ∙ ap (λ (x : Head). slice_index x.causes k) same

pub count_read : (h : Holding) (n : ℕ) (b : Base) (kept : List Change) (k held : ℕ) → Holds h n b kept → k < n → held ≡ slice_index (map (λ (r : MemberRow). r.count) h.fronts) k → held ≡ (row_behind b kept k).count
count_read h n b kept k held holds lt is =
    is ∙ ap (λ (rows : List MemberRow). slice_index (map (λ (r : MemberRow). r.count) rows) k) holds.rows ∙ number_at (λ (r : MemberRow). r.count) n (row_behind b kept) k lt

pub last_read : (h : Holding) (n : ℕ) (b : Base) (kept : List Change) (c : Change) (head : Head) (last : ℕ) → Holds h n b kept → IsChange n c → head ≡ head_of c → last ≡ slice_index (map (λ (r : MemberRow). r.last) h.fronts) head.member
    → last ≡ (row_behind b kept c.member).last
last_read h n b kept c head last holds is same told =
    let member = ap (λ (x : Head). x.member) same in
    told ∙ (λ i. slice_index (map (λ (r : MemberRow). r.last) (holds.rows i)) (member i)) ∙ number_at (λ (r : MemberRow). r.last) n (row_behind b kept) c.member is.member

pub known_read : (h : Holding) (n : ℕ) (b : Base) (kept : List Change) (c : Change) (head : Head) (known : List ℕ) → Holds h n b kept → IsChange n c → head ≡ head_of c → slice_get (map (λ (r : MemberRow). r.known) h.fronts) head.member ≡ Some known
    → known ≡ (row_behind b kept c.member).known
known_read h n b kept c head known holds is same told =
    let member = ap (λ (x : Head). x.member) same in
    same_Some known (row_behind b kept c.member).known
    (sym told ∙ (λ i. slice_get (map (λ (r : MemberRow). r.known) (holds.rows i)) (member i)) ∙ read_at (λ (r : MemberRow). r.known) n (row_behind b kept) c.member is.member)

-- there is a list of times for each member
pub within_times : (h : Holding) (n : ℕ) (b : Base) (kept : List Change) (k : ℕ) → Holds h n b kept → k < n → k < length h.times
within_times h n b kept k holds lt = omega (arith, lt, holds.timed)

pub time_read : (h : Holding) (n : ℕ) (b : Base) (kept : List Change) (c : Change) (k cause time : ℕ) → Holds h n b kept → k < n → cause ≡ slice_index c.causes k
    → time ≡ time_at (slice_index_or h.times k []) (slice_index (map (λ (r : MemberRow). r.count) h.fronts) k) cause → time ≡ time_of kept (name k (slice_index c.causes k))
time_read h n b kept c k cause time holds lt is told =
    told ∙ ap (λ last. time_at (slice_index_or h.times k []) last cause) (count_read h n b kept k (slice_index (map (λ (r : MemberRow). r.count) h.fronts) k) holds lt refl) ∙ holds.times (name k cause) lt
    ∙ ap (λ q. time_of kept (name k q)) is

pub counts_read : (h : Holding) (n : ℕ) (b : Base) (kept : List Change) → Holds h n b kept → map (λ (r : MemberRow). r.count) h.fronts ≡ map (λ m. (row_behind b kept m).count) (members n)
counts_read h n b kept holds = ap (map (λ (r : MemberRow). r.count)) holds.rows ∙ map-map (λ (r : MemberRow). r.count) (row_behind b kept) (members n)

-- ---- no changes

abbrev pub silent : ℕ → code.MemberRow
silent n = record { count = 0; last = 0; known = replicate n 0 }

rows_of_none : (n a k : ℕ) → map row_of (replicate k (silent n)) ≡ map (member_row n []) (range_with_len a k)
rows_of_none n a zero = refl
rows_of_none n a (suc k) = ap (λ (rows : List MemberRow). row_of (silent n) ∷ rows) (rows_of_none n (a + 1) k)

-- the rows of the base of no changes, behind which none is kept
pub silent_rows_are : (n : ℕ) → map row_of (replicate n (silent n)) ≡ rows_in n (held_behind (base_of n [] 0) [])
silent_rows_are n =
    let b = base_of n [] 0 in
    rows_of_none n 0 n ∙ heads_make_rows b [] ∙ ap (λ k. rows_in k (held_behind b [])) (length-map-range_with_len (member_row n []) 0 n)
