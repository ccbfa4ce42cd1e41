-- The operation that is handed out next, and those that are left behind it.
use Rattle.std.proofs.Common.{◌≡◌, ℕ, zero, suc, ◌+◌, ◌-◌, ◌<◌, ◌≤◌, ◌^◌, List, [], ◌∷◌, ◌++◌, length, drop, get_or, refl, sym, ap, subst, ◌∙◌, arith}
use Rattle.std.specs.Prelude.{sum_by, min, Ok, Err}
use Rattle.std.specs.Borrow.{Bor}
use Rattle.std.specs.List.{AllByRecursion}
use Rattle.std.proofs.lemmas.List.{drop_more, append-nil, length-append}
use Rattle.std.proofs.lemmas.List.Sums.{sum_by-cons}
use Rattle.op_ids.specs.Order.{root_id}
use Rattle.cbor_det.specs.Item.{IsSpelled, spell}
use Rattle.cbor_det.specs.FieldFaults.{FlawedHere}
use Rattle.cbor_det.specs.declared.fault.CborFault.{CborFault}
use Rattle.cbor_det.proofs.SequenceLaws.{spell_unique, not_both}
use Rattle.model.specs.Operation.{Operation, drop_item, IsOperation, operation_item, width_of}
use Rattle.model.specs.Change.{body}
use Rattle.model.specs.State.{by_ids}
use Rattle.file_laws.proofs.SameParts.{operation_same}
use Rattle.file_laws.proofs.BodyLaws.{operations_spelled}
use Rattle.op_grammar.specs.Operations.{operation_of, OpAnswer}
use Rattle.op_grammar.specs.declared.operation.OpRef.{OpRef}
use Rattle.op_grammar.specs.declared.reading.OpFault.{OpFault}
use Rattle.op_grammar.specs.declared.reading.OpFault.TheVariants.{Cbor, Shape}
use Rattle.lazy_blocks.specs.Handing.{operations_left, atoms_left, AreLeft}
use Rattle.lazy_blocks.specs.declared.ops.Ops.TheInside.{Inside}

all_dropped : {X : Type 0} (P : X → Type 0) (i : ℕ) (xs : List X) → AllByRecursion P xs → AllByRecursion P (drop i xs)
all_dropped P zero xs h = h
all_dropped P (suc i) [] h = tt
all_dropped P (suc i) (x ∷ xs) h = all_dropped P i xs h.1

body_dropped : (i : ℕ) (os : List Operation) → length (body (drop i os)) ≤ length (body os)
body_dropped zero os = omega arith
body_dropped (suc i) [] = omega arith
body_dropped (suc i) (o ∷ os) = omega (arith, body_dropped i os, length-append (spell (operation_item o)) (body os))

pub dropped_all : {X : Type 0} (xs : List X) → drop (length xs) xs ≡ []
dropped_all [] = refl
dropped_all (x ∷ xs) = dropped_all xs

-- the operations behind the next
abbrev pub behind : Inside → List Operation
behind o = drop (length o.block.now.operations - (o.count - 1)) o.block.now.operations

-- What is next where something is left.
pub record Next (o : Inside) : Type 0 where
  pub first : Operation
  pub left : operations_left o ≡ first ∷ behind o
  pub fits : IsOperation (length o.block.now.causes) first
  pub spelled : IsSpelled (operation_item first)
  pub rest : o.rest.now ≡ spell (operation_item first) ++ body (behind o)
  pub within : o.index + (width_of first + sum_by width_of (behind o)) ≤ 65536

pub next_left : (o : Inside) → AreLeft o → 1 ≤ o.count → length o.block.now.causes < 2 ^ 64 → Next o
next_left o h some few =
    let os = o.block.now.operations in
    let i = length os - o.count in
    let first : Operation = get_or os i (drop_item root_id root_id) in
    let within : i < length os = omega (arith, some, h.few) in
    let step : i + 1 ≡ length os - (o.count - 1) = omega (arith, some, h.few) in
    let left : operations_left o ≡ first ∷ behind o = drop_more os i (drop_item root_id root_id) within ∙ ap (λ k. first ∷ drop k os) step in
    let each = subst (AllByRecursion (IsOperation (length o.block.now.causes))) left (all_dropped (IsOperation (length o.block.now.causes)) i os h.is.operations) in
    let short : length (body (first ∷ behind o)) < 2 ^ 64 = omega (arith, ap (λ (xs : List Operation). length (body xs)) left, body_dropped i os, h.is.body_most) in
    let spelled = operations_spelled (length o.block.now.causes) (first ∷ behind o) few each short in
    let sums = sum_by-cons width_of first (behind o) in
    let here = ap (λ (xs : List Operation). sum_by width_of xs) left in
    record {
      first = first;
      left = left;
      fits = each.0;
      spelled = spelled.0;
      rest = h.rest ∙ ap body left;
      within = omega (arith, h.within, here, sums);
    }

not_flawed : (o : Inside) → Next o → (len : ℕ) (f : CborFault) → FlawedHere (record { len = len; rest = o.rest.now }) f → ⊥
not_flawed o n len f h = not_both (operation_item n.first) (body (behind o)) o.rest.now h.0 n.spelled (sym n.rest) h.1

not_misshapen : (o : Inside) → Next o → (m : ℕ) → m ≡ length o.block.now.causes → OpAnswer m o.rest.now (Err Shape) → ⊥
not_misshapen o n m members (x, more, sp, e, none) =
    let same : x ≡ operation_item n.first = (spell_unique x (operation_item n.first) more (body (behind o)) sp n.spelled (sym e ∙ n.rest)).0 in
    none n.first same (subst (λ k. IsOperation k n.first) (sym members) n.fits)

-- The operation that stands next is read.
pub no_fault : (o : Inside) → Next o → (m : ℕ) → m ≡ length o.block.now.causes → (f : OpFault) → OpAnswer m o.rest.now (Err f) → ⊥
no_fault o n m members (Cbor f) h = not_flawed o n (length o.rest.now) f h
no_fault o n m members Shape h = not_misshapen o n m members h

-- What was read, and how many ids it takes.
pub record Handed (o : Inside) (n : Next o) (op : OpRef) (rest : List ℕ) (w : ℕ) : Type 0 where
  pub is : operation_of op ≡ n.first
  pub rest_is : rest ≡ body (behind o)
  pub ids : w ≡ width_of n.first

pub next_read : (o : Inside) → AreLeft o → (n : Next o) (m : ℕ) (op : OpRef) (rest : Bor (List ℕ)) (w : ℕ) → m ≡ length o.block.now.causes → m < 2 ^ 64 → OpAnswer m o.rest.now (Ok (op, rest)) → w ≡ min (width_of (operation_of op)) (2 ^ 32 - 1) → Handed o n op rest.now w
next_read o h n m op rest w members lt (e, is) width =
    let i = length o.block.now.operations - o.count in
    let whole : length (spell (operation_item (operation_of op))) ≤ 1048576 = omega (arith, ap length e, length-append (spell (operation_item (operation_of op))) rest.now, ap length h.rest, body_dropped i o.block.now.operations, h.is.body_most) in
    let alone = ap length (append-nil (spell (operation_item (operation_of op)))) in
    let spelled = operations_spelled m (operation_of op ∷ []) lt (is, tt) (omega (arith, whole, alone)) in
    let both = spell_unique (operation_item (operation_of op)) (operation_item n.first) rest.now (body (behind o)) spelled.0 n.spelled (sym e ∙ n.rest) in
    let same = operation_same (operation_of op) n.first both.0 in
    record { is = same; rest_is = both.1; ids = omega (arith, width, ap width_of same, n.within) }

module _ (o : Inside) (h : AreLeft o) (some : 1 ≤ o.count) (n : Next o) (op : OpRef) (rest : Bor (List ℕ)) (w : ℕ) (k : Handed o n op rest.now w) where
  abbrev pub later : Inside
  later = record { block = o.block; rest = rest; count = o.count - 1; index = o.index + w }

  pub still_left : AreLeft later
  still_left = record { is = h.is; few = omega (arith, h.few); rest = k.rest_is; within = omega (arith, k.ids, n.within) }

  pub atom_handed : (time member : ℕ) → time ≡ o.block.now.time → member ≡ o.block.now.member
      → atoms_left o ≡ record { id = record { time = time; member = member; index = o.index }; operation = operation_of op } ∷ atoms_left later
  atom_handed time member e f =
      let index : o.index + width_of n.first ≡ o.index + w = ap (λ j. o.index + j) (sym k.ids) in
      ap (λ (os : List Operation). by_ids o.block.now.time o.block.now.member o.index os) n.left
      ∙ (λ i. record { id = record { time = sym e i; member = sym f i; index = o.index }; operation = sym k.is i } ∷ by_ids o.block.now.time o.block.now.member (index i) (behind o))
