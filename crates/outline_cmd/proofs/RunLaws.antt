-- Printing, piece by piece.
use Rattle.std.proofs.Common.{◌≡◌, ℕ, ◌+◌, List, ◌++◌, take, drop, Option, None, Some, append_assoc, refl, sym, ap, ◌∙◌}
use Rattle.std.proofs.Math.Seq.{take-add}
use Rattle.std.proofs.lemmas.List.{drop-drop}
use Rattle.outside.specs.Sink.{appended}

appended_twice : (text : List ℕ) (n k : ℕ) (told : Option (List ℕ)) → appended (appended told (take n text)) (take k (drop n text)) ≡ appended told (take (n + k) text)
appended_twice text n k None = refl
appended_twice text n k (Some written) = ap Some (append_assoc written (take n text) (take k (drop n text)) ∙ ap (λ (p : List ℕ). written ++ p) (sym (take-add n k text)))

-- one more put brings the front of the text further
pub put_more : (text rest : List ℕ) (n k : ℕ) (told before now : Option (List ℕ)) → rest ≡ drop n text → before ≡ appended told (take n text) → now ≡ appended before (take k rest)
    → (drop k rest ≡ drop (n + k) text) × (now ≡ appended told (take (n + k) text))
put_more text rest n k told before now e f g = (ap (drop k) e ∙ drop-drop k n text, g ∙ rw (f, e) (appended_twice text n k told))
