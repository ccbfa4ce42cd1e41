-- The operations of a body, one after the other.
use Rattle.std.proofs.Common.{◌≡◌, ◌↔◌, ℕ, ◌+◌, ◌-◌, ◌<◌, ◌≤◌, ◌^◌, List, [], ◌∷◌, ◌++◌, map, length, refl, sym, ap, subst, ◌∙◌, append_assoc, arith, lit≤}
use Rattle.std.specs.Prelude.{flat_map, Option, None, Some, min, sum_by}
use Rattle.std.specs.List.{AllByRecursion}
use Rattle.std.proofs.lemmas.List.{length-append, length-map, append-nil, flat_map_more}
use Rattle.std.proofs.lemmas.List.Sums.{sum_by-cons, sum_by_push}
use Rattle.cbor_det.specs.Item.{Item, IsSpelled, spell, Spells}
use Rattle.cbor_det.specs.Unread.{Unread, Took}
use Rattle.cbor_det.specs.Rows.{ReadsField}
use Rattle.cbor_det.specs.Flaw.{HasFlaw}
use Rattle.cbor_det.specs.declared.fault.CborFault.{CborFault}
use Rattle.cbor_det.proofs.SequenceLaws.{Spells-unique, Spells-no_flaw, spell_length}
use Rattle.model.specs.Operation.{Operation, new_node, move_node, put_key, type_text, erase_text, add_item, shift_item, set_item, drop_item, IsOperation, operation_item, width_of}
use Rattle.model.specs.Change.{ChangeParts, body}
use Rattle.model.specs.Rules.{IsBody, HasOperations}
use Rattle.file_laws.proofs.SameParts.{operation_same}
use Rattle.file_laws.proofs.BodyLaws.{body_is, body_spelled}
use Rattle.op_grammar.specs.Operations.{operation_of}
use Rattle.op_grammar.specs.Parts.{AreOperations, SpellsOperations, AreRead, LeftToRead}
use Rattle.op_grammar.specs.declared.operation.OpRef.{OpRef}

-- ---- one operation

-- an operation takes few ids
pub width_few : (n : ℕ) (o : Operation) → IsOperation n o → width_of o ≤ 4096
width_few n (new_node p at) h = lit≤ tt
width_few n (move_node c p at) h = lit≤ tt
width_few n (put_key k key v) h = lit≤ tt
width_few n (type_text k at cs) h = h.2.most
width_few n (erase_text k f m) h = lit≤ tt
width_few n (add_item k at v) h = lit≤ tt
width_few n (shift_item k e at) h = lit≤ tt
width_few n (set_item k e v) h = lit≤ tt
width_few n (drop_item k e) h = lit≤ tt

-- what operations are that begin with an item
abbrev FirstOf : ℕ → Item → List Item → ℕ → Type 0
FirstOf n y ys ids = (o : Operation) × (y ≡ operation_item o) × IsOperation n o × (width_of o ≤ ids) × AreOperations n ys (ids - width_of o)

first_of_items : (n : ℕ) (y : Item) (ys : List Item) (ids : ℕ) → AreOperations n (y ∷ ys) ids → FirstOf n y ys ids
first_of_items n y ys ids h = by h.operations h.are h.each h.taken
  where
    by : (os : List Operation) → y ∷ ys ≡ map operation_item os → AllByRecursion (IsOperation n) os → sum_by width_of os ≡ ids → FirstOf n y ys ids
    by [] e each taken = absurd cc
    by (o ∷ os) e each taken =
        let s = sum_by-cons width_of o os in
        let is : y ≡ operation_item o = cc in
        let are : ys ≡ map operation_item os = cc in
        (o, is, each.0, omega (arith, s, taken), record { operations = os; are = are; each = each.1; taken = omega (arith, s, taken) })

then_items : (n : ℕ) (y : Item) (ys : List Item) (ids : ℕ) (o : Operation) → y ≡ operation_item o → IsOperation n o → width_of o ≤ ids → AreOperations n ys (ids - width_of o) → AreOperations n (y ∷ ys) ids
then_items n y ys ids o is fits le h =
    let s = sum_by-cons width_of o h.operations in
    record { operations = o ∷ h.operations; are = λ i. is i ∷ h.are i; each = (fits, h.each); taken = omega (arith, s, h.taken, le) }

-- ---- the loop

abbrev pub Reads : ℕ → Unread → Unread → Option OpRef → Type 0
Reads n old new r = ReadsField operation_of operation_item (IsOperation n) old new r

abbrev pub Left : ℕ → List ℕ → ℕ → ℕ → ℕ → Unread → ℕ → Type 0
Left n bytes count ids read now left = (xs : List Item) → Spells bytes xs → length xs ≡ count → LeftToRead n xs ids read now left

pub left_all : (n : ℕ) (bytes : List ℕ) (count ids : ℕ) (now : Unread) → now.rest ≡ bytes → Left n bytes count ids 0 now ids
left_all n bytes count ids now at xs spells l = record { items = xs; counted = omega arith; spelled = subst (λ b. Spells b xs) (sym at) spells; same = (λ h. h, λ h. h) }

module _ (n : ℕ) (bytes : List ℕ) (count ids read : ℕ) (o1 o2 : Unread) (left : ℕ) (so_far : Left n bytes count ids read o1 left) where
  -- what stands where something is left
  abbrev Next : List Item → Type 0
  Next xs = (y : Item) × (ys : List Item) × (length ys + (read + 1) ≡ length xs) × IsSpelled y × AllByRecursion IsSpelled ys × (o1.rest ≡ spell y ++ flat_map spell ys) × (AreOperations n xs ids ↔ AreOperations n (y ∷ ys) left)

  next : read < count → (xs : List Item) → Spells bytes xs → length xs ≡ count → Next xs
  next lt xs spells l = let s = so_far xs spells l in by s.items s.counted s.spelled s.same
    where
      by : (ys : List Item) → length ys + read ≡ length xs → Spells o1.rest ys → AreOperations n xs ids ↔ AreOperations n ys left → Next xs
      by [] counted spelled same = absurd (omega arith)
      by (y ∷ ys) counted spelled same = (y, ys, omega arith, spelled.are_items.0, spelled.are_items.1, spelled.whole, same)

  pub op_stops : read < count → Reads n o1 o2 None → (xs : List Item) → Spells bytes xs → length xs ≡ count → AreOperations n xs ids → ⊥
  op_stops lt reads xs spells l h =
      let t = next lt xs spells l in
      let f = first_of_items n t.0 t.1 left (t.6.0 h) in
      reads t.0 (flat_map spell t.1) t.3.0 t.5 f.0 f.1 f.2

  module _ (op : OpRef) (reads : Reads n o1 o2 (Some op)) (lt : read < count) where
    abbrev o : Operation
    o = operation_of op

    pub op_too_wide : left < min (width_of o) (2 ^ 32 - 1) → (xs : List Item) → Spells bytes xs → length xs ≡ count → AreOperations n xs ids → ⊥
    op_too_wide wide xs spells l h =
        let t = next lt xs spells l in
        let u = reads t.0 (flat_map spell t.1) t.3.0 t.5 in
        let f = first_of_items n t.0 t.1 left (t.6.0 h) in
        let same : o ≡ f.0 = operation_same o f.0 (sym u.0 ∙ f.1) in
        omega (arith, wide, f.3, ap width_of same)

    pub op_read : min (width_of o) (2 ^ 32 - 1) ≤ left → Left n bytes count ids (read + 1) o2 (left - min (width_of o) (2 ^ 32 - 1))
    op_read fits xs spells l =
        let t = next lt xs spells l in
        let u = reads t.0 (flat_map spell t.1) t.3.0 t.5 in
        let few = width_few n o u.1 in
        let w : min (width_of o) (2 ^ 32 - 1) ≡ width_of o = omega (arith, few) in
        record {
          items = t.1;
          counted = t.2;
          spelled = record { are_items = t.4; whole = u.2 };
          same = (
            λ h.
                let f = first_of_items n t.0 t.1 left (t.6.0 h) in
                let same : f.0 ≡ o = operation_same f.0 o (sym f.1 ∙ u.0) in
                subst (AreOperations n t.1) (omega (arith, w, ap width_of same)) f.4,
            λ k. t.6.1 (then_items n t.0 t.1 left o u.0 u.1 (omega (arith, w, fits)) (subst (AreOperations n t.1) (omega (arith, w)) k)),
          );
        }

-- where all are read, no ids may be left
pub left_none : (n : ℕ) (bytes : List ℕ) (count ids read : ℕ) (now : Unread) (left : ℕ) → Left n bytes count ids read now left → count ≤ read → (xs : List Item) → Spells bytes xs → length xs ≡ count → AreOperations n xs ids ↔ (left ≡ 0)
left_none n bytes count ids read now left so_far le xs spells l = let s = so_far xs spells l in by s.items s.counted s.same
  where
    by : (ys : List Item) → length ys + read ≡ length xs → AreOperations n xs ids ↔ AreOperations n ys left → AreOperations n xs ids ↔ (left ≡ 0)
    by (y ∷ ys) counted same = absurd (omega arith)
    by [] counted same = (λ h. nothing (same.0 h), λ e. same.1 (record { operations = []; are = refl; each = tt; taken = sym e }))
      where
        nothing : AreOperations n [] left → left ≡ 0
        nothing k = of k.operations k.are k.taken
          where
            of : (os : List Operation) → [] ≡ map operation_item os → sum_by width_of os ≡ left → left ≡ 0
            of [] e taken = sym taken
            of (o ∷ os) e taken = absurd cc

-- and no bytes are
pub none_left : (n : ℕ) (bytes : List ℕ) (count ids read : ℕ) (now : Unread) (left : ℕ) → Left n bytes count ids read now left → count ≤ read → (xs : List Item) → Spells bytes xs → length xs ≡ count → now.rest ≡ []
none_left n bytes count ids read now left so_far le xs spells l = let s = so_far xs spells l in by s.items s.counted s.spelled
  where
    by : (ys : List Item) → length ys + read ≡ length xs → Spells now.rest ys → now.rest ≡ []
    by [] counted spelled = spelled.whole
    by (y ∷ ys) counted spelled = absurd (omega arith)

-- ---- what was read

pub none_read : (n : ℕ) (bytes : List ℕ) (ids : ℕ) (now : Unread) → now.rest ≡ bytes → AreRead n bytes ids 0 now ids
none_read n bytes ids now at = record { operations = []; each = tt; counted = refl; spelled = sym at; taken = omega arith }

all_more : (n : ℕ) (os : List Operation) (o : Operation) → AllByRecursion (IsOperation n) os → IsOperation n o → AllByRecursion (IsOperation n) (os ++ o ∷ [])
all_more n [] o each is = (is, tt)
all_more n (p ∷ os) o each is = (each.0, all_more n os o each.1 is)

-- one more was read
pub more_read : (n : ℕ) (bytes : List ℕ) (ids read : ℕ) (old new : Unread) (left : ℕ) → AreRead n bytes ids read old left → (o : Operation) → IsOperation n o → Took (spell (operation_item o)) old new → min (width_of o) (2 ^ 32 - 1) ≤ left → AreRead n bytes ids (read + 1) new (left - min (width_of o) (2 ^ 32 - 1))
more_read n bytes ids read old new left h o is took fits = record {
  operations = h.operations ++ o ∷ [];
  each = all_more n h.operations o h.each is;
  counted = omega (arith, length-append h.operations (o ∷ []), h.counted);
  spelled =
      h.spelled ∙ ap (λ (t : List ℕ). body h.operations ++ t) took ∙ sym (append_assoc (body h.operations) (spell (operation_item o)) new.rest)
      ∙ ap (λ (t : List ℕ). t ++ new.rest) (flat_map_more (λ (p : Operation). spell (operation_item p)) [] h.operations o);
  taken = omega (arith, sum_by_push width_of h.operations o, h.taken, width_few n o is, fits);
}

-- all were read, and no ids and no bytes are left
pub all_read : (n : ℕ) (bytes : List ℕ) (count ids read : ℕ) (now : Unread) (left : ℕ) → n < 2 ^ 64 → length bytes < 2 ^ 64 → AreRead n bytes ids read now left → read ≡ count → left ≡ 0 → now.rest ≡ [] → SpellsOperations n bytes count ids
all_read n bytes count ids read now left lt short h all no_ids none =
    let whole : bytes ≡ body h.operations = h.spelled ∙ ap (λ (t : List ℕ). body h.operations ++ t) none ∙ append-nil (body h.operations) in (
      map operation_item h.operations,
      subst (λ b. Spells b (map operation_item h.operations)) (sym whole) (body_spelled n h.operations lt h.each (omega (arith, short, ap length whole))),
      length-map h.operations operation_item ∙ h.counted ∙ all,
      record { operations = h.operations; are = refl; each = h.each; taken = omega (arith, h.taken, no_ids) },
    )

-- ---- the whole body

items_few : (xs : List Item) → AllByRecursion IsSpelled xs → length xs ≤ length (flat_map spell xs)
items_few [] h = lit≤ tt
items_few (x ∷ xs) h = omega (arith, items_few xs h.1, spell_length x h.0, length-append (spell x) (flat_map spell xs))

pub body_few : (b : List ℕ) (xs : List Item) → Spells b xs → length xs ≤ length b
body_few b xs h = omega (arith, items_few xs h.are_items, ap length h.whole)

pub body_counted : (b : List ℕ) (count items : ℕ) (p : ChangeParts) → length b ≤ 1048576 → (xs : List Item) × Spells b xs × (length xs ≡ items) → p.body ≡ b → p.count ≡ count → (items ≡ count) ↔ IsBody p
body_counted b count items p most (xs, spells, l) e f = (
  λ same. record { most = omega (arith, ap length e, most); items = xs; spelled = subst (λ c. Spells c xs) (sym e) spells; counted = l ∙ same ∙ sym f },
  λ k. sym l ∙ ap length (Spells-unique b xs k.items spells (subst (λ c. Spells c k.items) e k.spelled)) ∙ k.counted ∙ f,
)

pub body_too_long : (b : List ℕ) (p : ChangeParts) → 1048576 < length b → p.body ≡ b → IsBody p → ⊥
body_too_long b p long e k = omega (arith, k.most, ap length e, long)

pub body_flawed : (b : List ℕ) (f : CborFault) (p : ChangeParts) → HasFlaw b f → p.body ≡ b → IsBody p → ⊥
body_flawed b f p flaw e k = Spells-no_flaw b k.items flaw.stop (subst (λ c. Spells c k.items) e k.spelled) flaw.is_flaw

-- A body that is spelled has operations exactly where its items are operations.
pub has_operations_are : (n : ℕ) (p : ChangeParts) (xs : List Item) → n < 2 ^ 64 → length p.body ≤ 1048576 → Spells p.body xs → ((p.width ≤ 65536) × AreOperations n xs p.width) ↔ HasOperations n p
has_operations_are n p xs lt most spells = (
  λ k. record {
    operations = k.1.operations;
    spelled = spells.whole ∙ ap (λ (ys : List Item). flat_map spell ys) k.1.are ∙ sym (body_is k.1.operations);
    each = k.1.each;
    width = k.1.taken;
    most = k.0;
  },
  λ h.
      let short : length (body h.operations) < 2 ^ 64 = omega (arith, most, ap length h.spelled) in
      let same : xs ≡ map operation_item h.operations = Spells-unique p.body xs (map operation_item h.operations) spells (subst (λ c. Spells c (map operation_item h.operations)) (sym h.spelled) (body_spelled n h.operations lt h.each short)) in
      (h.most, record { operations = h.operations; are = same; each = h.each; taken = h.width }),
)
