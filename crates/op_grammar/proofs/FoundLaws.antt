-- Parts of a change that are read were spelled where they were read.
use Rattle.std.proofs.Common.{◌≡◌, ℕ, ◌+◌, ◌<◌, ◌^◌, List, [], ◌∷◌, ◌++◌, map, length, refl, sym, ap, ◌∙◌, arith, lit<, append_assoc, length-append}
use Rattle.std.specs.Prelude.{flat_map}
use Rattle.std.specs.List.{AllByRecursion}
use Rattle.std.proofs.lemmas.List.{append-nil, length-map}
use Rattle.cbor_det.specs.Head.{head}
use Rattle.cbor_det.specs.Item.{IsItem, AreItems, spell, unsigned, bytes, items_of, item_count, nesting, nesting_items}
use Rattle.cbor_det.proofs.ItemLaws.{spell-list}
use Rattle.cbor_det.specs.Unread.{Unread, unread, Took}
use Rattle.model.specs.Value.{numbers_item}
use Rattle.model.specs.Change.{ChangeParts}
use Rattle.op_grammar.specs.Parts.{FoundNumbers, FoundRow, FoundSeven, FoundParts}
use Rattle.op_grammar.specs.declared.parts.Parts.{Parts}

-- ---- numbers in a row

numbers_more : (ns : List ℕ) (v : ℕ) (rest : List ℕ) → flat_map spell (map unsigned ns) ++ (spell (unsigned v) ++ rest) ≡ flat_map spell (map unsigned (ns ++ v ∷ [])) ++ rest
numbers_more [] v rest = ap (λ (t : List ℕ). t ++ rest) (sym (append-nil (spell (unsigned v))))
numbers_more (n ∷ ns) v rest =
    append_assoc (spell (unsigned n)) (flat_map spell (map unsigned ns)) (spell (unsigned v) ++ rest)
    ∙ ap (λ (t : List ℕ). spell (unsigned n) ++ t) (numbers_more ns v rest)
    ∙ sym (append_assoc (spell (unsigned n)) (flat_map spell (map unsigned (ns ++ v ∷ []))) rest)

all_items : (ns : List ℕ) (v : ℕ) → AllByRecursion IsItem (map unsigned ns) → v < 2 ^ 64 → AllByRecursion IsItem (map unsigned (ns ++ v ∷ []))
unfolding IsItem
all_items [] v h lt = (lt, tt)
all_items (n ∷ ns) v h lt = (h.0, all_items ns v h.1 lt)

pub none_found : (o0 : Unread) → FoundNumbers 0 o0 o0
none_found o0 = record { numbers = []; counted = refl; items = tt; took = refl }

pub more_found : (i : ℕ) (o0 o1 o2 : Unread) → FoundNumbers i o0 o1 → (v : ℕ) → v < 2 ^ 64 → Took (spell (unsigned v)) o1 o2 → FoundNumbers (i + 1) o0 o2
more_found i o0 o1 o2 h v lt took = record {
  numbers = h.numbers ++ v ∷ [];
  counted = length-append h.numbers (v ∷ []) ∙ ap (λ k. k + 1) h.counted;
  items = all_items h.numbers v h.items lt;
  took = h.took ∙ ap (λ (t : List ℕ). flat_map spell (map unsigned h.numbers) ++ t) took ∙ numbers_more h.numbers v o2.rest;
}

row_count : (ns : List ℕ) → item_count (items_of (map unsigned ns)) ≡ length ns
row_count [] = refl
row_count (n ∷ ns) = omega (arith, row_count ns)

row_items : (ns : List ℕ) → AllByRecursion IsItem (map unsigned ns) → AreItems (items_of (map unsigned ns))
unfolding AreItems
row_items [] h = tt
row_items (n ∷ ns) h = (h.0, row_items ns h.1)

row_flat : (ns : List ℕ) → nesting_items (items_of (map unsigned ns)) ≡ 0
unfolding nesting_items nesting
row_flat [] = refl
row_flat (n ∷ ns) = omega (arith, row_flat ns)

pub row_found : (count : ℕ) (o0 o1 o2 : Unread) → count < 2 ^ 64 → Took (head 4 count) o0 o1 → FoundNumbers count o1 o2 → FoundRow o0 o2
unfolding IsItem
row_found count o0 o1 o2 lt took h =
    let items = map unsigned h.numbers in
    let sizes : length items ≡ count = length-map h.numbers unsigned ∙ h.counted in (
      h.numbers,
      (omega (arith, row_count h.numbers, h.counted, lt), row_items h.numbers h.items),
      took ∙ ap (λ (t : List ℕ). head 4 count ++ t) h.took ∙ sym (append_assoc (head 4 count) (flat_map spell items) o2.rest)
          ∙ ap (λ (t : List ℕ). t ++ o2.rest) (ap (λ k. head 4 k ++ flat_map spell items) (sym sizes) ∙ sym (spell-list items)),
    )

-- ---- the seven fields

abbrev pub AreWords : Parts → Type 0
AreWords v = (v.member < 2 ^ 64) × (v.number < 2 ^ 64) × (v.time < 2 ^ 64) × (v.count < 2 ^ 64) × (v.width < 2 ^ 64) × (length v.body.now < 2 ^ 64)

module _ (o0 o1 o2 o3 : Unread) (v : Parts) (at : unread v.causes ≡ o1) (words : AreWords v) where
  abbrev first : List ℕ
  first = spell (unsigned v.member) ++ (spell (unsigned v.number) ++ spell (unsigned v.time))

  abbrev last : List ℕ
  last = spell (unsigned v.count) ++ (spell (unsigned v.width) ++ (spell (bytes v.body.now) ++ []))

  pub seven_found : Took first o0 o1 → FoundRow o1 o2 → Took last o2 o3 → FoundSeven o0 o3 v
  unfolding IsItem AreItems nesting nesting_items
  seven_found before row behind =
      let q : ChangeParts = record { member = v.member; number = v.number; time = v.time; causes = row.0; count = v.count; width = v.width; body = v.body.now } in
      let here : (unread v.causes).rest ≡ spell (numbers_item row.0) ++ o2.rest = ap (λ (u : Unread). u.rest) at ∙ row.2 in (
        q,
        spell (unsigned v.member) ++ (spell (unsigned v.number) ++ (spell (unsigned v.time) ++ (spell (numbers_item row.0) ++ last))),
        record { member = refl; number = refl; time = refl; count = refl; width = refl; body = refl; causes = (o2.rest, row.1, here) },
        ((lit< tt, (words.0, (words.1, (words.2, (row.1, (words.3, (words.4, (words.5, tt)))))))), omega (arith, row_flat row.0)),
        refl,
        before ∙ ap (λ (t : List ℕ). first ++ t) (row.2 ∙ ap (λ (t : List ℕ). spell (numbers_item row.0) ++ t) behind) ∙ simp (append_assoc, append-nil),
      )

pub parts_found : (o0 o1 o2 : Unread) (p : Parts) → Took (head 4 7) o0 o1 → FoundSeven o1 o2 p → FoundParts o0 o2 p
parts_found o0 o1 o2 p took (q, text, are, spelled, e, behind) = (
  q,
  are,
  spelled,
  took ∙ ap (λ (t : List ℕ). head 4 7 ++ t) behind ∙ sym (append_assoc (head 4 7) text o2.rest) ∙ ap (λ (t : List ℕ). t ++ o2.rest) (sym e),
)
