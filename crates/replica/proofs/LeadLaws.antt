-- Fronts that lead to others.
use Rattle.std.proofs.Common.{◌≡◌, ℕ, ◌+◌, List, ◌++◌, length, sym, ap, subst, arith, add-one}
use Rattle.std.proofs.lemmas.List.{length-append}
use Rattle.cbor_det.specs.Item.{Item, IsSpelled, spell}
use Rattle.cbor_det.proofs.PlainLaws.{spell_some_bytes}
use Rattle.model.specs.File.{Front, GoesOn, FaultIn, further}
use Rattle.file_laws.proofs.FileFaults.{Reads, reads_on}
use Rattle.replica.specs.Scanning.{LeadsTo}

pub leads_here : (all : ℕ) (f : Front) (i : ℕ) (left : List ℕ) → LeadsTo all f i left f i left
leads_here all f i left = record { faults = λ fault h. h; reads = λ file r. r; counted = omega arith }

pub leads_then : (all : ℕ) (f g h : Front) (i j k : ℕ) (left rest more : List ℕ) → LeadsTo all f i left g j rest → LeadsTo all g j rest h k more → LeadsTo all f i left h k more
leads_then all f g h i j k left rest more a b =
    record { faults = λ fault q. a.faults fault (b.faults fault q); reads = λ file r. a.reads file (b.reads file r); counted = omega (arith, a.counted, b.counted) }

-- by one item
pub leads_one : (all : ℕ) (f g : Front) (i : ℕ) (x : Item) (left rest : List ℕ) → IsSpelled x → GoesOn f x g → left ≡ spell x ++ rest → LeadsTo all f i left g (i + 1) rest
leads_one all f g i x left rest sp goes parts = record {
  faults = λ fault h.
      subst (λ (l : List ℕ). FaultIn all f i l fault) (sym parts) (further f g i x rest fault sp goes (subst (λ (k : ℕ). FaultIn all g k rest fault) (add-one i) h));
  reads = λ file r. subst (λ (l : List ℕ). Reads f l file) (sym parts) (reads_on f g x rest file sp goes r);
  counted = omega (arith, ap length parts, length-append (spell x) rest, spell_some_bytes x);
}
