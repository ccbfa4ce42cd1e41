-- Whether bytes spell a change, and which.
use Rattle.std.proofs.Common.{◌≡◌, ◌⊎◌, ℕ, ◌<◌, ◌^◌, List, [], ◌∷◌, ◌++◌, sym, ap, subst, ◌∙◌, inl, inr}
use Rattle.std.proofs.lemmas.List.{append-nil}
use Rattle.cbor_det.specs.Head.{IsBytes, Stop}
use Rattle.cbor_det.specs.Item.{Item, IsSpelled, spell, max_nesting}
use Rattle.cbor_det.specs.Flaw.{IsFlawed}
use Rattle.cbor_det.proofs.SequenceLaws.{spell_unique, not_both, item_or_flawed}
use Rattle.model.specs.Change.{Change, IsChange, change_item}
use Rattle.model.specs.Rules.{Rule, BreaksFirst, KeepsAll, KeepsChange, change_rules}
use Rattle.file_laws.proofs.Deciding.{bytes_decided, lt_decided}
use Rattle.file_laws.proofs.DecideChange.{change_rules_decided, body_bytes}
use Rattle.file_laws.proofs.RuleLaws.{kept_are_changes, changes_keep, not_kept_and_broken, one_change}

-- the bytes spell this change of n members
pub record SpellsChange (n : ℕ) (bytes : List ℕ) (c : Change) : Type 0 where
  pub is : IsChange n c
  pub spelled : IsSpelled (change_item c)
  pub whole : bytes ≡ spell (change_item c)

abbrev pub Known : ℕ → List ℕ → Type 0
Known n bytes = ((c : Change) × SpellsChange n bytes c) ⊎ ((c : Change) → n < 2 ^ 64 → IsBytes bytes → SpellsChange n bytes c → ⊥)

abbrev pub found : (n : ℕ) (bytes : List ℕ) → Known n bytes → Change
found n bytes (inl k) = k.0
found n bytes (inr none) = record { member = 0; number = 0; time = 0; causes = []; operations = [] }

by_rules : (n : ℕ) (bytes : List ℕ) (x : Item) → n < 2 ^ 64 → IsSpelled x → bytes ≡ spell x → KeepsAll (KeepsChange n) change_rules x ⊎ ((r : Rule) × BreaksFirst (KeepsChange n) change_rules x r) → Known n bytes
by_rules n bytes x lt sp e (inl all) =
    let c = kept_are_changes n x lt all in
    inl (c.0, record { is = c.2; spelled = subst IsSpelled c.1 sp; whole = e ∙ ap spell c.1 })
by_rules n bytes x lt sp e (inr broken) = inr (λ c _ _ k.
    let same : x ≡ change_item c = (spell_unique x (change_item c) [] [] sp k.spelled (ap (λ (t : List ℕ). t ++ []) (sym e ∙ k.whole))).0 in
    not_kept_and_broken (KeepsChange n) change_rules x broken.0 (changes_keep n x lt (c, same, k.is)) broken.1)

by_item : (n : ℕ) (bytes : List ℕ) (x : Item) (more : List ℕ) → n < 2 ^ 64 → IsBytes bytes → IsSpelled x → bytes ≡ spell x ++ more → Known n bytes
by_item n bytes x [] lt fits sp e =
    let whole : bytes ≡ spell x = e ∙ append-nil (spell x) in
    by_rules n bytes x lt sp whole (change_rules_decided n x lt (body_bytes x (subst IsBytes whole fits)))
by_item n bytes x (y ∷ ys) lt fits sp e = inr (λ c _ _ k.
    let left : y ∷ ys ≡ [] = (spell_unique x (change_item c) (y ∷ ys) [] sp k.spelled (sym e ∙ k.whole ∙ sym (append-nil (spell (change_item c))))).1 in
    absurd cc)

by_bytes : (n : ℕ) (bytes : List ℕ) → n < 2 ^ 64 → IsBytes bytes → ((x : Item) × (more : List ℕ) × IsSpelled x × (bytes ≡ spell x ++ more)) ⊎ ((s : Stop) × IsFlawed max_nesting bytes s) → Known n bytes
by_bytes n bytes lt fits (inl (x, more, sp, e)) = by_item n bytes x more lt fits sp e
by_bytes n bytes lt fits (inr (s, flawed)) = inr (λ c _ _ k. not_both (change_item c) [] bytes s k.spelled (append-nil (spell (change_item c)) ∙ sym k.whole) flawed)

by_members : (n : ℕ) (bytes : List ℕ) → (n < 2 ^ 64) ⊎ (n < 2 ^ 64 → ⊥) → IsBytes bytes ⊎ (IsBytes bytes → ⊥) → Known n bytes
by_members n bytes (inr many) d = inr (λ c lt _ _. many lt)
by_members n bytes (inl lt) (inr others) = inr (λ c _ fits _. others fits)
by_members n bytes (inl lt) (inl fits) = by_bytes n bytes lt fits (item_or_flawed bytes fits)

pub spelled_or_not : (n : ℕ) (bytes : List ℕ) → Known n bytes
spelled_or_not n bytes = by_members n bytes (lt_decided n (2 ^ 64)) (bytes_decided bytes)

pub found_is : (n : ℕ) (bytes : List ℕ) (c : Change) → n < 2 ^ 64 → IsBytes bytes → SpellsChange n bytes c → (k : Known n bytes) → found n bytes k ≡ c
found_is n bytes c lt fits h (inl k) = one_change n k.0 c lt k.1.is h.is ((spell_unique (change_item k.0) (change_item c) [] [] k.1.spelled h.spelled (ap (λ (t : List ℕ). t ++ []) (sym k.1.whole ∙ h.whole))).0)
found_is n bytes c lt fits h (inr none) = absurd (none c lt fits h)
