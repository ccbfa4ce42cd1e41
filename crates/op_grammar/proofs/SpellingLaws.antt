-- Spellings of changes, and that what is written is what was asked for.
use Rattle.std.proofs.Common.{◌≡◌, ℕ, ◌<◌, ◌≤◌, ◌^◌, List, [], ◌∷◌, ◌++◌, length, take, map, refl, sym, ap, subst, ◌∙◌, arith, lit≤}
use Rattle.std.specs.Prelude.{Result, Ok, Err}
use Rattle.std.specs.List.{flat_map, AllByRecursion}
use Rattle.std.proofs.lemmas.List.{take_all, length-map, length-append}
use Rattle.cbor_det.specs.Head.{head}
use Rattle.cbor_det.specs.Item as cbor
use Rattle.cbor_det.specs.Item.{spell, IsSpelled}
use Rattle.cbor_det.proofs.ItemLaws.{spell-list}
use Rattle.cbor_det.proofs.PlainLaws.{Plain, plain_map}
use Rattle.cbor_det.proofs.SequenceLaws.{items_unique}
use Rattle.model.specs.Value.{numbers_item}
use Rattle.model.specs.Operation.{Operation, operation_item}
use Rattle.model.specs.Change.{IsChange, parts_of, parts_item, change_item, body}
use Rattle.file_laws.proofs.SameParts.{map_same, operation_same, parts_same}
use Rattle.file_laws.proofs.BodyLaws.{plain_spelled, body_is, operations_spelled}
use Rattle.op_grammar.specs.Changes.{CheckAnswer, change_of, head_of, parts_by}
use Rattle.model.specs.Rules.{BreaksFirst, KeepsChange, change_rules}
use Rattle.op_grammar.specs.Rules.{rule_of}
use Rattle.op_grammar.specs.declared.head.Head.{Head}
use Rattle.op_grammar.specs.declared.rule.Rule.{Rule}
use Rattle.op_grammar.specs.declared.change.WriteFault.{WriteFault}
use Rattle.op_grammar.specs.declared.change.WriteFault.TheVariants as faults

-- ---- numbers

spell-unsigned : (ns : List ℕ) → flat_map spell (map cbor.unsigned ns) ≡ flat_map (head 0) ns
spell-unsigned [] = refl
spell-unsigned (n ∷ ns) = ap (λ (t : List ℕ). head 0 n ++ t) (spell-unsigned ns)

-- A list of numbers is spelled by its head and their heads.
spell-numbers : (ns : List ℕ) → spell (numbers_item ns) ≡ head 4 (length ns) ++ flat_map (head 0) ns
spell-numbers ns = spell-list (map cbor.unsigned ns) ∙ rw (length-map ns cbor.unsigned, spell-unsigned ns) refl

-- all numbers are spelled
pub all_numbers : (old new ns : List ℕ) (n : ℕ) → length ns ≤ n → new ≡ old ++ (head 4 (length ns) ++ flat_map (head 0) (take n ns)) → new ≡ old ++ spell (numbers_item ns)
all_numbers old new ns n all is = is ∙ rw (take_all n ns all, ← spell-numbers ns) refl

pub numbers_plain : (ns : List ℕ) (n : ℕ) → length ns ≤ n → AllByRecursion (λ m. m < 2 ^ 64) (take n ns) → Plain (numbers_item ns) 1
numbers_plain ns n all few = plain_map (λ m. m < 2 ^ 64) cbor.unsigned 0 (λ m h. h) ns (subst (AllByRecursion (λ m. m < 2 ^ 64)) (take_all n ns all) few)

-- ---- changes

abbrev pub ArePlain : List Operation → Type 0
ArePlain os = AllByRecursion (λ o. Plain (operation_item o) 2) os

plain_operations : (os : List Operation) → ArePlain os → length (body os) < 2 ^ 64 → AllByRecursion IsSpelled (map operation_item os)
plain_operations [] plain short = tt
plain_operations (o ∷ os) plain short =
    let lengths = length-append (spell (operation_item o)) (body os) in
    (plain_spelled (operation_item o) 2 (lit≤ tt) plain.0 (omega (arith, lengths)), plain_operations os plain.1 (omega (arith, lengths)))

pub written_spelled : (h : Head) (b bytes : List ℕ) → Plain (parts_item (parts_by h b)) 2 → bytes ≡ spell (parts_item (parts_by h b)) → length bytes < 2 ^ 64 → IsSpelled (parts_item (parts_by h b))
written_spelled h b bytes plain is short = plain_spelled (parts_item (parts_by h b)) 2 (lit≤ tt) plain (omega (arith, ap length is, short))

-- the change that was asked for
pub record Written (n : ℕ) (h : Head) (os : List Operation) : Type 0 where
  pub whole : parts_item (parts_by h (body os)) ≡ change_item (change_of h os)
  pub is : IsChange n (change_of h os)
  pub head : h ≡ head_of (change_of h os)

pub change_written : (n : ℕ) (h found : Head) (os : List Operation) → n < 2 ^ 64 → ArePlain os → length (body os) < 2 ^ 64 → CheckAnswer n (parts_item (parts_by h (body os))) (Ok found) → Written n h os
change_written n h found os lt plain short (c, e, is, same_head) =
    let p : parts_by h (body os) ≡ parts_of c = parts_same (parts_by h (body os)) (parts_of c) e in
    let bodies : body os ≡ body c.operations = ap (λ q. q.body) p in
    let short' : length (body c.operations) < 2 ^ 64 = omega (arith, short, ap length bodies) in
    let operations : os ≡ c.operations =
    map_same operation_item operation_same os c.operations
    (items_unique (map operation_item os) (map operation_item c.operations) (plain_operations os plain short) (operations_spelled n c.operations lt is.operations short') (sym (body_is os) ∙ bodies ∙ body_is c.operations)) in
    let same : c ≡ change_of h os = λ i. record { member = (sym p i).member; number = (sym p i).number; time = (sym p i).time; causes = (sym p i).causes; operations = sym operations i } in
    let heads : h ≡ head_of c = λ i. record { member = (p i).member; number = (p i).number; time = (p i).time; causes = (p i).causes; count = (p i).count; width = (p i).width } in
    record {
      whole = e ∙ ap change_item same;
      is = subst (IsChange n) same is;
      head = heads ∙ ap head_of same;
    }

-- What was spelled, and then checked as a change of so many members.
module _ (n m : ℕ) (h : Head) (os : List Operation) (b bytes span : List ℕ) (members : m ≡ n) (b_is : b ≡ body os) (bytes_are : bytes ≡ spell (parts_item (parts_by h b))) (plain : Plain (parts_item (parts_by h b)) 2) (span_is : span ≡ bytes) (short : length bytes < 2 ^ 64) where
  abbrev pub Checked : Result Head Rule → Type 0
  Checked r = (x : cbor.Item) → IsSpelled x → span ≡ spell x → CheckAnswer m x r

  answered : (r : Result Head Rule) → Checked r → CheckAnswer n (parts_item (parts_by h (body os))) r
  answered r checked =
      let k = checked (parts_item (parts_by h b)) (written_spelled h b bytes plain bytes_are short) (span_is ∙ bytes_are) in
      subst (λ (c : List ℕ). CheckAnswer n (parts_item (parts_by h c)) r) b_is (subst (λ j. CheckAnswer j (parts_item (parts_by h b)) r) members k)

  pub broken_first : (rule found : Rule) (result : Result (Unit {0}) WriteFault) → result ≡ Err (faults.Rule found) → Checked (Err found) → result ≡ Err (faults.Rule rule) → BreaksFirst (KeepsChange n) change_rules (parts_item (parts_by h (body os))) (rule_of rule)
  broken_first rule found result e checked f =
      let same : found ≡ rule = cc in
      subst (λ r. BreaksFirst (KeepsChange n) change_rules (parts_item (parts_by h (body os))) (rule_of r)) same (answered (Err found) checked)

  pub written_whole : (found : Head) → n < 2 ^ 64 → ArePlain os → length b < 2 ^ 64 → Checked (Ok found) → Written n h os
  written_whole found lt operations few checked = change_written n h found os lt operations (omega (arith, few, ap length b_is)) (answered (Ok found) checked)

  pub appended : (old new : List ℕ) → new ≡ old ++ span → Written n h os → new ≡ old ++ spell (change_item (change_of h os))
  appended old new e w = e ∙ ap (λ (t : List ℕ). old ++ t) (span_is ∙ bytes_are ∙ ap (λ (c : List ℕ). spell (parts_item (parts_by h c))) b_is ∙ ap spell w.whole)
