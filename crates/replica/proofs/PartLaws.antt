-- Files with more changes, and new ones.
use Rattle.std.proofs.Common.{◌≡◌, ◌≢◌, ℕ, zero, suc, ◌+◌, ◌≤◌, List, [], ◌∷◌, ◌++◌, length, take, get_or, refl, sym, ap, subst, ◌∙◌, append_assoc, zero-add, add-one, arith}
use Rattle.std.specs.Prelude.{Some, slice_get}
use Rattle.std.specs.List.{AllByRecursion}
use Rattle.std.proofs.lemmas.List.{append-nil, map-id}
use Rattle.std.proofs.lemmas.List.FromFn.{map-range_with_len_more, fill_by_all, length-map-range_with_len, get_or-map-range_with_len}
use Rattle.cbor_det.specs.Head.{IsBytes}
use Rattle.model.specs.Base.{members}
use Rattle.model.specs.Change.{Change, EachAfter}
use Rattle.model.specs.Command.{new_file}
use Rattle.model.specs.File.{IsFile}
use Rattle.model_laws.proofs.ChangeLaws.{members_below, members_rise}
use Rattle.replica.specs.Counts.{IsCounted, count_behind, counts_behind}
use Rattle.replica.specs.declared.head.FileHead.{FileHead}
use Rattle.replica.proofs.EmptyLaws.{empty_is_base}
use Rattle.replica.proofs.ScanLaws.{empty_is_reached}

-- ---- a new file

pub members_more : (count : ℕ) → members count ++ count ∷ [] ≡ members (count + 1)
members_more count = sym (simp map-id at (map-range_with_len_more (λ (k : ℕ). k) 0 count count (zero-add count)))

pub founded_is_file : (id : List ℕ) (n : ℕ) → length id ≡ 16 → IsBytes id → 1 ≤ n → n ≤ 32 → IsFile (new_file id n)
founded_is_file id n size fits some few = record {
  header = record {
    version = refl;
    document_bytes = fits;
    document_length = size;
    members_some = some;
    members_most = few;
    mine_rises = members_rise n;
    mine_below = members_below n;
    kept_most = omega arith;
    waiting_most = omega arith;
    others_hold_none = λ other. absurd (other refl);
  };
  base = empty_is_base n;
  kept = tt;
  waiting = tt;
  kept_in_order = tt;
  waiting_in_order = tt;
  numbered = tt;
  reached = empty_is_reached n [];
}

-- ---- kept changes, one by one

pub each_at : {X : Type 0} (P : List X → X → Type 0) (before xs : List X) (i : ℕ) (x : X) → EachAfter P before xs → slice_get xs i ≡ Some x → P (before ++ take i xs) x
each_at P before [] i x h e = absurd cc
each_at P before (y ∷ ys) zero x h e = let same : y ≡ x = cc in subst (P (before ++ [])) same (subst (λ l. P l y) (sym (append-nil before)) h.0)
each_at P before (y ∷ ys) (suc i) x h e = subst (λ l. P l x) (append_assoc before (y ∷ []) (take i ys)) (each_at P (before ++ y ∷ []) ys i x h.1 e)

pub all_at : {X : Type 0} (P : X → Type 0) (xs : List X) (i : ℕ) (x : X) → AllByRecursion P xs → slice_get xs i ≡ Some x → P x
all_at P [] i x h e = absurd cc
all_at P (y ∷ ys) zero x h e = let same : y ≡ x = cc in subst P same h.0
all_at P (y ∷ ys) (suc i) x h e = all_at P ys i x h.1 e

take_suc : {X : Type 0} (xs : List X) (i : ℕ) (x : X) → slice_get xs i ≡ Some x → take (suc i) xs ≡ take i xs ++ x ∷ []
take_suc [] i x e = absurd cc
take_suc (y ∷ ys) zero x e = let same : y ≡ x = cc in ap (λ z. z ∷ []) same
take_suc (y ∷ ys) (suc i) x e = ap (λ l. y ∷ l) (take_suc ys i x e)

pub take_next : {X : Type 0} (xs : List X) (i : ℕ) (x : X) → slice_get xs i ≡ Some x → take (i + 1) xs ≡ take i xs ++ x ∷ []
take_next xs i x e = ap (λ k. take k xs) (add-one i) ∙ take_suc xs i x e

pub counted_all : (h : FileHead) (kept : List Change) (counts : List ℕ) → IsCounted h kept counts → h.kind ≢ 1 → counts ≡ counts_behind h.doc.n kept
counted_all h kept counts counted other = fill_by_all (count_behind h.doc.n kept) counts h.doc.n 0 counted.each (λ m lt. counted.are other m lt)

-- and these counts are those
pub counts_are_counted : (h : FileHead) (kept : List Change) (counts : List ℕ) → counts ≡ counts_behind h.doc.n kept → IsCounted h kept counts
counts_are_counted h kept counts e = record {
  each = ap length e ∙ length-map-range_with_len (count_behind h.doc.n kept) 0 h.doc.n;
  are = λ other m lt. ap (λ l. get_or l m 0) e ∙ get_or-map-range_with_len (count_behind h.doc.n kept) 0 h.doc.n m m 0 lt (zero-add m);
}
