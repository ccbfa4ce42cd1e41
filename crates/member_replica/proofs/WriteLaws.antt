-- Writing changes that are made, and taking them up again.
use Rattle.std.proofs.Common.{◌≡◌, ℕ, ◌+◌, ◌<◌, ◌≤◌, ◌^◌, ◌-◌, min, List, [], ◌∷◌, ◌++◌, length, refl, sym, ap, subst, ◌∙◌, arith}
use Rattle.std.specs.Prelude.{Some, drop, slice_get, sum_by}
use Rattle.std.specs.List.{AllByRecursion}
use Rattle.std.proofs.lemmas.List.{append-nil, append_assoc, drop_all, drop_more, length-append}
use Rattle.std.proofs.lemmas.List.Sums.{sum_by-cons}
use Rattle.std.proofs.lemmas.Option.{slice_get_within, get_or_from_slice_get}
use Rattle.cbor_det.specs.Item.{Item, IsSpelled, spell}
use Rattle.cbor_det.specs.Unread.{Unread, Took}
use Rattle.cbor_det.proofs.PlainLaws.{spell_some_bytes}
use Rattle.cbor_det.proofs.SequenceLaws.{spell_unique}
use Rattle.model.specs.Operation.{Operation, IsOperation, width_of, new_node, move_node, put_key, type_text, erase_text, add_item, shift_item, set_item, drop_item}
use Rattle.model.specs.Change.{Change, IsChange, change_item, parts_item, body}
use Rattle.model.specs.File.{spell_changes}
use Rattle.model.specs.Rules.{Rule, BreaksFirst, KeepsChange, change_rules}
use Rattle.file_laws.proofs.RuleLaws.{changes_keep, not_kept_and_broken, one_change}
use Rattle.op_grammar.specs.declared.head.Head.{Head}
use Rattle.op_grammar.specs.Changes.{change_of, head_of, parts_by, StandsNoChange}
use Rattle.op_grammar.specs.Operations.{operation_of, operations_of}
use Rattle.op_grammar.specs.declared.operation.OpRef.{OpRef}
use Rattle.replica.proofs.ChangeLaws.{change_is_spelled}

-- ---- rules

-- the item of a change that has this head
item_by : (h : Head) (os : List Operation) → h ≡ head_of (change_of h os) → parts_item (parts_by h (body os)) ≡ change_item (change_of h os)
item_by h os is = λ i. parts_item (record { member = h.member; number = h.number; time = h.time; causes = h.causes; count = (is i).count; width = (is i).width; body = body os })

-- A change that keeps the rules breaks none.
pub none_broken : (n : ℕ) (h : Head) (os : List Operation) (r : Rule) → n < 2 ^ 64 → h ≡ head_of (change_of h os) → IsChange n (change_of h os) → BreaksFirst (KeepsChange n) change_rules (parts_item (parts_by h (body os))) r → ⊥
none_broken n h os r lt is keeps broken =
    let item = item_by h os is in
    not_kept_and_broken (KeepsChange n) change_rules (change_item (change_of h os)) r (changes_keep n (change_item (change_of h os)) lt (change_of h os, refl, keeps)) (subst (λ (x : Item). BreaksFirst (KeepsChange n) change_rules x r) item broken)

-- ---- heads

-- Each operation takes an id.
takes_some : (n : ℕ) (o : Operation) → IsOperation n o → 1 ≤ width_of o
takes_some n (new_node parent at) is = omega arith
takes_some n (move_node child parent at) is = omega arith
takes_some n (put_key node key value) is = omega arith
takes_some n (type_text node at characters) is = is.2.some
takes_some n (erase_text node first count) is = omega arith
takes_some n (add_item node at value) is = omega arith
takes_some n (shift_item node element at) is = omega arith
takes_some n (set_item node element value) is = omega arith
takes_some n (drop_item node element) is = omega arith

few_operations : (n : ℕ) (os : List Operation) → AllByRecursion (IsOperation n) os → length os ≤ sum_by width_of os
few_operations n [] are = omega arith
few_operations n (o ∷ os) are = omega (arith, sum_by-cons width_of o os, takes_some n o are.0, few_operations n os are.1)

-- how many ids operations take
abbrev pub ids_of : List OpRef → ℕ
ids_of ops = sum_by width_of (operations_of ops)

-- So many ids, or the greatest number, are taken by the operations before this place.
pub record IdsSoFar (width : ℕ) (ops : List OpRef) (i : ℕ) : Type 0 where
  pub most : width ≤ 2 ^ 32 - 1
  pub sum : min (width + ids_of (drop i ops)) (2 ^ 32 - 1) ≡ min (ids_of ops) (2 ^ 32 - 1)

pub ids_more : (width : ℕ) (ops : List OpRef) (i : ℕ) (op : OpRef) (w next : ℕ) → IdsSoFar width ops i → slice_get ops i ≡ Some op → w ≡ min (width_of (operation_of op)) (2 ^ 32 - 1) → next ≡ min (width + w) (2 ^ 32 - 1) → IdsSoFar next ops (i + 1)
ids_more width ops i op w next so_far is takes sum =
    let begins : drop i ops ≡ op ∷ drop (i + 1) ops = drop_more ops i op (slice_get_within ops i op is) ∙ ap (λ (x : OpRef). x ∷ drop (i + 1) ops) (get_or_from_slice_get ops i op op is) in
    record {
      most = omega (arith, sum);
      sum = omega (arith, so_far.sum, so_far.most, takes, sum, ap ids_of begins, sum_by-cons width_of (operation_of op) (operations_of (drop (i + 1) ops)));
    }

pub ids_all : (width : ℕ) (ops : List OpRef) (i : ℕ) → IdsSoFar width ops i → length ops ≤ i → width ≡ min (ids_of ops) (2 ^ 32 - 1)
ids_all width ops i so_far past = omega (arith, so_far.sum, so_far.most, ap ids_of (drop_all i ops past))

-- The counts of the head of a change pass no bound.
pub head_is : (n : ℕ) (h : Head) (os : List Operation) → IsChange n (change_of h os) → h.count ≡ min (length os) (2 ^ 32 - 1) → h.width ≡ min (sum_by width_of os) (2 ^ 32 - 1) → h ≡ head_of (change_of h os)
head_is n h os is count width =
    let few = few_operations n os is.operations in
    let most : sum_by width_of os ≤ 65536 = is.width_most in
    let same_count : h.count ≡ length os = omega (arith, count) in
    let same_width : h.width ≡ sum_by width_of os = omega (arith, width) in
    λ i. record h { count = same_count i; width = same_width i }

-- ---- taken up again

change_spelled : (n : ℕ) (c : Change) (rest more : List ℕ) → n ≤ 32 → IsChange n c → length rest < 2 ^ 64 → rest ≡ spell (change_item c) ++ more → IsSpelled (change_item c)
change_spelled n c rest more few is short e = change_is_spelled n c few is (omega (arith, ap length e, length-append (spell (change_item c)) more))

-- So far the first of these changes were taken up, and what spells the others is left.
pub record TakesUp (n : ℕ) (kept cs all : List Change) (left : Unread) : Type 0 where
  pub front : List Change
  pub back : List Change
  pub parts : cs ≡ front ++ back
  pub taken : all ≡ kept ++ front
  pub rest : left.rest ≡ spell_changes back
  pub are : AllByRecursion (IsChange n) back

pub takes_none : (n : ℕ) (kept cs : List Change) (left : Unread) → AllByRecursion (IsChange n) cs → left.rest ≡ spell_changes cs → TakesUp n kept cs kept left
takes_none n kept cs left are rest = record { front = []; back = cs; parts = refl; taken = sym (append-nil kept); rest = rest; are = are }

-- The bytes spell one change first.
pub same_first : (n : ℕ) (b c : Change) (rest more other : List ℕ) → n ≤ 32 → IsChange n b → IsChange n c → length rest < 2 ^ 64 → rest ≡ spell (change_item b) ++ more → rest ≡ spell (change_item c) ++ other → (b ≡ c) × (more ≡ other)
same_first n b c rest more other few is also short e f =
    let same = spell_unique (change_item b) (change_item c) more other (change_spelled n b rest more few is short e) (change_spelled n c rest other few also short f) (sym e ∙ f) in
    (one_change n b c (omega arith) is also same.0, same.1)

takes_next : (n : ℕ) (kept cs all front back : List Change) (b : Change) (old new : Unread) → n ≤ 32 → IsChange n b → length old.rest < 2 ^ 64 → Took (spell (change_item b)) old new
    → cs ≡ front ++ back → all ≡ kept ++ front → old.rest ≡ spell_changes back → AllByRecursion (IsChange n) back → TakesUp n kept cs (all ++ b ∷ []) new
takes_next n kept cs all front [] b old new few is short took parts taken rest are =
    absurd (omega (arith, ap length rest, ap length took, length-append (spell (change_item b)) new.rest, spell_some_bytes (change_item b)))
takes_next n kept cs all front (c ∷ back) b old new few is short took parts taken rest are =
    let same = same_first n b c old.rest new.rest (spell_changes back) few is are.0 short took rest in
    record {
      front = front ++ c ∷ [];
      back = back;
      parts = parts ∙ sym (append_assoc front (c ∷ []) back);
      taken = (λ i. taken i ++ same.0 i ∷ []) ∙ append_assoc kept front (c ∷ []);
      rest = same.1;
      are = are.1;
    }

pub takes_one : (n : ℕ) (kept cs all : List Change) (b : Change) (old new : Unread) → n ≤ 32 → IsChange n b → length old.rest < 2 ^ 64 → Took (spell (change_item b)) old new → TakesUp n kept cs all old → TakesUp n kept cs (all ++ b ∷ []) new
takes_one n kept cs all b old new few is short took so = takes_next n kept cs all so.front so.back b old new few is short took so.parts so.taken so.rest so.are

takes_last : (n : ℕ) (kept cs all front back : List Change) (left : Unread) → n ≤ 32 → length left.rest < 2 ^ 64 → StandsNoChange n left → cs ≡ front ++ back → all ≡ kept ++ front → left.rest ≡ spell_changes back → AllByRecursion (IsChange n) back → all ≡ kept ++ cs
takes_last n kept cs all front [] left few short none parts taken rest are = taken ∙ ap (λ l. kept ++ l) (sym (parts ∙ append-nil front))
takes_last n kept cs all front (c ∷ back) left few short none parts taken rest are = absurd (none c (spell_changes back) are.0 (change_spelled n c left.rest (spell_changes back) few are.0 short rest) rest)

pub takes_all : (n : ℕ) (kept cs all : List Change) (left : Unread) → n ≤ 32 → length left.rest < 2 ^ 64 → StandsNoChange n left → TakesUp n kept cs all left → all ≡ kept ++ cs
takes_all n kept cs all left few short none so = takes_last n kept cs all so.front so.back left few short none so.parts so.taken so.rest so.are

-- what is left is less
pub takes_on : (c : Change) (old new : Unread) → Took (spell (change_item c)) old new → length new.rest < length old.rest
takes_on c old new took = omega (arith, ap length took, length-append (spell (change_item c)) new.rest, spell_some_bytes (change_item c))
