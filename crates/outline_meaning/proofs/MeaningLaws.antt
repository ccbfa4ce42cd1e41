-- What steps that are done tell.
use Rattle.std.proofs.Common.{◌≡◌, ℕ, ◌≤◌, true, false, Bool, cond, leb, List, ◌+◌, length, Ok, Err, refl, sym, ap, subst}
use Rattle.std.proofs.lemmas.Bool.{leb-true}
use Rattle.model.specs.File.{file_limit}
use Rattle.outline_meaning.specs.declared.status.Status.TheVariants as s
use Rattle.outline_meaning.specs.Meaning.{Loaded, missing, failed, whole, read}

-- A test that lets something pass held, and this is what passed.
pub passed : {A E : Type 0} (b : Bool) (x y : A) (refusal : E) → Ok y ≡ cond b (Ok x) (Err refusal) → (b ≡ true) × (y ≡ x)
passed true x y refusal e = (refl, cc)
passed false x y refusal e = absurd cc

-- What is read is all that is held, and isn't too much.
pub read_is : (word : ℕ) (load : Loaded) (bytes : List ℕ) → Ok bytes ≡ read word load → (load ≡ whole bytes) × (length bytes ≤ file_limit)
read_is word missing bytes e = absurd cc
read_is word failed bytes e = absurd cc
read_is word (whole b) bytes e =
    let short = passed (leb (length b) file_limit) b bytes (s.TooLarge word (file_limit + 1)) e in
    (ap whole (sym short.1), subst (λ (x : List ℕ). length x ≤ file_limit) (sym short.1) (leb-true (length b) file_limit short.0))
