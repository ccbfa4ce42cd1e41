-- Bytes with a flaw have it as their first fault, unless another lies before it.
use Rattle.std.proofs.Common.{◌≡◌, ℕ, suc, ◌+◌, ◌≤◌, ◌⊎◌, List, [], ◌∷◌, ◌++◌, length, refl, sym, ap, subst, ◌∙◌, arith, inl, inr}
use Rattle.std.specs.Prelude.{flat_map}
use Rattle.std.specs.List.{AllByRecursion}
use Rattle.std.proofs.lemmas.List.{append_assoc, append-nil, length-append}
use Rattle.cbor_det.specs.Head.{IsBytes, Stop}
use Rattle.cbor_det.specs.Item.{Item, spell, IsSpelled, max_nesting}
use Rattle.cbor_det.specs.Flaw.{HasFlaw, IsFlawed}
use Rattle.cbor_det.specs.Unread.{place}
use Rattle.cbor_det.specs.declared.CborFault.{CborFault}
use Rattle.cbor_det.proofs.PlaceLaws.{HasFlaw-from, HasFlaw-unique, flawed_placed}
use Rattle.cbor_det.proofs.SequenceLaws.{Spells-no_flaw, not_both, spell_unique}
use Rattle.model.specs.File.{FileFault, encoding, FaultIn, Front, here_flawed, here_broken, further, more_left, not_reached, nothing}
use Rattle.file_laws.specs.Files.{FlawFirst, LiesBefore}
use Rattle.file_laws.proofs.FileLaws.{all_spelled, one_more}

bytes_behind : (xs ys : List ℕ) → IsBytes (xs ++ ys) → IsBytes ys
bytes_behind [] ys h = h
bytes_behind (x ∷ xs) ys h = bytes_behind xs ys (λ i. h (suc i))

-- whole items that stand first are no more than those before the flaw
no_further : (xs ys : List Item) (left rest : List ℕ) (s : Stop) → AllByRecursion IsSpelled xs → AllByRecursion IsSpelled ys → flat_map spell xs ++ left ≡ flat_map spell ys ++ rest → IsFlawed max_nesting rest s → length rest ≤ length left
no_further [] ys left rest s h k e f = omega (arith, ap length e, length-append (flat_map spell ys) rest)
no_further (x ∷ xs) [] left rest s h k e f = absurd (not_both x (flat_map spell xs ++ left) rest s h.0 (sym (append_assoc (spell x) (flat_map spell xs) left) ∙ e) f)
no_further (x ∷ xs) (y ∷ ys) left rest s h k e f =
    let both = spell_unique x y (flat_map spell xs ++ left) (flat_map spell ys ++ rest) h.0 k.0 (sym (append_assoc (spell x) (flat_map spell xs) left) ∙ e ∙ append_assoc (spell y) (flat_map spell ys) rest) in
    no_further xs ys left rest s h.1 k.1 both.1 f

module _ (bytes : List ℕ) (f : CborFault) (fits : IsBytes bytes) (flaw : HasFlaw bytes f) where
  -- what is left behind whole items goes at least as far back as the flaw
  behind : (xs : List Item) (left : List ℕ) → AllByRecursion IsSpelled xs → bytes ≡ flat_map spell xs ++ left → length bytes ≤ f.at + length left
  behind xs left each parts =
      let w = flaw.is_flaw in
      let no_more = no_further xs w.before left w.rest flaw.stop each w.are_items (sym parts ∙ w.parts) w.flawed in
      let rest_fits : IsBytes w.rest = bytes_behind (flat_map spell w.before) w.rest (subst IsBytes w.parts fits) in
      let inside = (flawed_placed max_nesting w.rest flaw.stop rest_fits w.flawed).within in
      let at = flaw.at in
      omega arith

  some_left : (xs : List Item) → AllByRecursion IsSpelled xs → bytes ≡ flat_map spell xs ++ [] → ⊥
  some_left xs each parts = Spells-no_flaw bytes xs flaw.stop (record { are_items = each; whole = parts ∙ append-nil (flat_map spell xs) }) flaw.is_flaw

  first_in : (xs : List Item) (front : Front) (i : ℕ) (left : List ℕ) (a : FileFault) → AllByRecursion IsSpelled xs → length xs ≡ i → bytes ≡ flat_map spell xs ++ left → FaultIn (length bytes) front i left a → (a ≡ encoding f) ⊎ LiesBefore bytes f.at a
  first_in xs front i left a each count parts (here_flawed g j [] s w k) = absurd (some_left xs each parts)
  first_in xs front i left a each count parts (here_flawed g j (x ∷ l) s w k) =
      inl (ap encoding (HasFlaw-unique bytes (place (length bytes) s) f (HasFlaw-from bytes s fits (record { before = xs; rest = x ∷ l; are_items = each; parts = parts; wanted = λ bad. cc; flawed = k })) flaw))
  first_in xs front i left a each count parts (here_broken g j x l r s k) =
      inr (x, l, s, record { items = xs; are_items = each; counted = count; parts = parts }, behind (xs ++ x ∷ []) l (all_spelled xs x each s) (parts ∙ one_more xs x l))
  first_in xs front i left a each count parts (further h g j x l e s k inner) =
      first_in (xs ++ x ∷ []) g (suc j) l e (all_spelled xs x each s) (omega (arith, length-append xs (x ∷ []), count)) (parts ∙ one_more xs x l) inner
  first_in xs front i left a each count parts (more_left g j l w some) = inr (let b = behind xs l each parts in let e = ap length parts in let c = length-append (flat_map spell xs) l in omega arith)
  first_in xs front i left a each count parts (not_reached g j w fails) = absurd (some_left xs each parts)

pub flaw_first : FlawFirst
flaw_first bytes f a fits flaw fault = first_in bytes f fits flaw [] nothing 0 bytes a tt refl refl fault
