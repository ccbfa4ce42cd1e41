-- Lemmas on printed lines.
use Rattle.std.proofs.Common.{◌≡◌, ℕ, ◌+◌, ◌≤◌, List, [], ◌∷◌, ◌++◌, length, map, take, flat_map, refl, sym, ap, ◌∙◌, append_assoc}
use Rattle.std.specs.Prelude.{Some, codes, slice_get}
use Rattle.std.proofs.lemmas.List.{append-nil, take_all, take_more}
use Rattle.std.proofs.lemmas.Option.{slice_get_within, get_or_from_slice_get}
use Rattle.std.proofs.lemmas.List.Folds.{flat_map-map}
use Rattle.std.proofs.lemmas.Grind.{flat_map-append}
use Rattle.model.specs.Settle.{Report}
use Rattle.model.specs.Text.{field, refused_line, report_text}
use Rattle.member_replica.specs.Reports.{named_line, numbers_line}

-- the lines of all items, which contracts see by a view
pub lines_all : {X Y : Type 0} (f : Y → List ℕ) (v : X → Y) (before now : List ℕ) (items : List X) (i : ℕ) → length items ≤ i
    → now ≡ before ++ flat_map (λ x. f (v x)) (take i items) → now ≡ before ++ flat_map f (map v items)
lines_all f v before now items i past so_far =
    so_far ∙ ap (λ xs. before ++ flat_map (λ x. f (v x)) xs) (take_all i items past) ∙ ap (λ ls. before ++ ls) (sym (flat_map-map f v items))

-- one line more
pub lines_more : {X : Type 0} (f : X → List ℕ) (items : List X) (i : ℕ) (x : X) (before so_far now : List ℕ) → slice_get items i ≡ Some x
    → so_far ≡ before ++ flat_map f (take i items) → now ≡ so_far ++ f x → now ≡ before ++ flat_map f (take (i + 1) items)
lines_more {X} f items i x before so_far now at lines one =
    let more : take (i + 1) items ≡ take i items ++ x ∷ [] = take_more items i x (slice_get_within items i x at) ∙ ap (λ (y : X). take i items ++ y ∷ []) (get_or_from_slice_get items i x x at) in
    one ∙ ap (λ (t : List ℕ). t ++ f x) lines ∙ append_assoc before (flat_map f (take i items)) (f x)
    ∙ ap (λ (t : List ℕ). before ++ t) (sym (ap (flat_map f) more ∙ flat_map-append f (take i items) (x ∷ []) ∙ ap (λ (t : List ℕ). flat_map f (take i items) ++ t) (append-nil (f x))))

behind : (r : Report) (waiting : ℕ) (more : List ℕ) → numbers_line r waiting ++ more
    ≡ codes "accepted" ++ (field r.accepted ++ (codes " known" ++ (field r.known ++ (codes " same" ++ (field r.same ++ (codes " waiting" ++ (field waiting ++ (codes "\n" ++ more))))))))
behind r waiting more = simp append_assoc refl

-- a report, line by line
pub report_lines : (r : Report) (waiting : ℕ) (first second third now : List ℕ) → first ≡ numbers_line r waiting → second ≡ first ++ flat_map (named_line (codes "forked")) r.forked
    → third ≡ second ++ flat_map refused_line r.refused → now ≡ third ++ flat_map (named_line (codes "full")) r.full → now ≡ report_text r waiting
report_lines r waiting first second third now numbers forked refused full =
    let a = flat_map (named_line (codes "forked")) r.forked in
    let b = flat_map refused_line r.refused in
    let d = flat_map (named_line (codes "full")) r.full in
    let all : now ≡ ((numbers_line r waiting ++ a) ++ b) ++ d = full ∙ ap (λ (t : List ℕ). t ++ d) (refused ∙ ap (λ (t : List ℕ). t ++ b) (forked ∙ ap (λ (t : List ℕ). t ++ a) numbers)) in
    all ∙ append_assoc (numbers_line r waiting ++ a) b d ∙ append_assoc (numbers_line r waiting) a (b ++ d) ∙ behind r waiting (a ++ (b ++ d))
