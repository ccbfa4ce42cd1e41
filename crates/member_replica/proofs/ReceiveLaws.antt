-- Deliveries: what a replica hands over to be settled, and the file that is made of it.
use Rattle.std.proofs.Common.{◌≡◌, ℕ, ◌+◌, ◌*◌, ◌<◌, ◌≤◌, ◌^◌, List, [], length, sym, ap, subst, ◌∙◌, arith}
use Rattle.std.specs.Prelude.{None}
use Rattle.std.specs.List.{AllByRecursion}
use Rattle.model.specs.Base.{Base, base_of}
use Rattle.model.specs.Change.{Change, IsChange}
use Rattle.model.specs.File.{File, IsFile, member_file}
use Rattle.model.specs.Held.{held_behind}
use Rattle.model.specs.Reading.{base_in, settled_in, unfit_in, with_settled}
use Rattle.model.specs.Settle.{Settling, settle}
use Rattle.model.specs.Stands.{IsStored}
use Rattle.holding.specs.Holds.{Holds}
use Rattle.holding.specs.declared.holding.Holding.{Holding}
use Rattle.outside.specs.Work.{Work}
use Rattle.doc_store.specs.Documents.{DecodesSome}
use Rattle.member_replica.specs.Work.{operations_in, readied, readied_in}
use Rattle.member_replica.specs.Inside.{IsReplica}
use Rattle.member_replica.specs.declared.built.Replica.TheInside.{Inside}
use Rattle.member_replica.specs.Receiving.{IsSettled, MaySettle}
use Rattle.member_replica.specs.declared.settle.Settled.{Settled}
use Rattle.member_replica.proofs.DeliveredLaws.{settled_is_file, stored_few}
use Rattle.member_replica.proofs.SoundLaws.{IsUntrimmed, base_is, kept_are_sound}

-- A stored member file with the base of no changes, whose kept changes fit, and a stored bundle of its members.
pub record IsDelivery (f g : File) : Type 0 where
  pub base : IsUntrimmed f
  pub fit : unfit_in f ≡ None
  pub kind : f.kind ≡ member_file
  pub stored : (bytes : List ℕ) × IsStored bytes f
  pub offered : (bytes : List ℕ) × IsStored bytes g
  pub members : g.members ≡ f.members

-- What a replica of f is given makes one of its parts.
pub delivery : (r : Inside) (f g : File) → r.parts ≡ f → IsReplica r → f.kind ≡ member_file → ((bytes : List ℕ) × IsStored bytes f) → ((bytes : List ℕ) × IsStored bytes g) → g.members ≡ f.members → IsDelivery r.parts g
delivery r f g view is kind stored offered members =
    let back = sym view in record {
      base = record { is_file = subst IsFile back stored.1.spells.is_file; base = is.base };
      fit = is.fit;
      kind = subst (λ (f : File). f.kind ≡ member_file) back kind;
      stored = subst (λ (f : File). (bytes : List ℕ) × IsStored bytes f) back stored;
      offered = offered;
      members = subst (λ (f : File). g.members ≡ f.members) back members;
    }

few : (f g : File) → IsDelivery f g → length f.kept + (length f.waiting + length g.kept) < 2 ^ 32
few f g is =
    let own : length f.kept + length f.waiting ≤ 16777216 = stored_few is.stored.0 f is.stored.1 in
    let offered : length g.kept + length g.waiting ≤ 16777216 = stored_few is.offered.0 g is.offered.1 in
    omega arith

offered_each : (f g : File) → IsDelivery f g → AllByRecursion (IsChange f.members) g.kept
offered_each f g is = subst (λ (n : ℕ). AllByRecursion (IsChange n) g.kept) is.members is.offered.1.spells.is_file.kept

-- It may be settled.
pub may_settle : (f g : File) (h : Holding) (kept waiting offered : List Change) → IsDelivery f g → Holds h f.members (base_in f) f.kept → kept ≡ f.kept → waiting ≡ f.waiting → offered ≡ g.kept → MaySettle f.members h kept waiting offered
may_settle f g h kept waiting offered is holds same_kept same_waiting same_offered =
    let may : MaySettle f.members h f.kept f.waiting g.kept = record {
      holds = subst (λ (b : Base). Holds h f.members b f.kept) (base_is f is.base) holds;
      sound = kept_are_sound f is.base is.fit;
      kept = is.base.is_file.kept;
      waiting = is.base.is_file.waiting;
      offered = offered_each f g is;
      by_name = is.base.is_file.waiting_in_order;
      few = few f g is;
    } in
    subst (λ (cs : List Change × List Change × List Change). MaySettle f.members h cs.0 cs.1 cs.2) (λ i. (sym same_kept i, sym same_waiting i, sym same_offered i)) may

-- what comes of it, behind the base of no changes
abbrev pub settled_of : File → File → Settling
settled_of f g = settle f.members (held_behind (base_of f.members [] 0)) f.kept f.kept f.waiting g.kept

pub settled_is : (f g : File) → IsDelivery f g → settled_in f g.kept ≡ settled_of f g
settled_is f g is = ap (λ (b : Base). settle f.members (held_behind b) f.kept f.kept f.waiting g.kept) (base_is f is.base)

pub settled_alike : (f g : File) (kept waiting offered : List Change) (r : Settled) → kept ≡ f.kept → waiting ≡ f.waiting → offered ≡ g.kept
    → IsSettled (settle f.members (held_behind (base_of f.members [] 0)) kept kept waiting offered) r → IsSettled (settled_of f g) r
settled_alike f g kept waiting offered r same_kept same_waiting same_offered is =
    subst (λ (cs : List Change × List Change × List Change). IsSettled (settle f.members (held_behind (base_of f.members [] 0)) cs.0 cs.0 cs.1 cs.2) r) (λ i. (same_kept i, same_waiting i, same_offered i)) is

-- With the changes that are kept and wait then it is a file.
pub received_is_file : (f g : File) (kept waiting : List Change) → IsDelivery f g → kept ≡ (settled_of f g).held → waiting ≡ (settled_of f g).pool → IsFile (record f { kept = kept; waiting = waiting })
received_is_file f g kept waiting is held pool =
    let is_file = settled_is_file f g.kept is.base is.kind (kept_are_sound f is.base is.fit) (offered_each f g is) (few f g is) in
    subst (λ (cs : List Change × List Change). IsFile (record f { kept = cs.0; waiting = cs.1 })) (λ i. (sym held i, sym pool i)) is_file

-- It is the file that settling is to store.
pub received_is : (f g : File) (kept waiting : List Change) → IsDelivery f g → kept ≡ (settled_of f g).held → waiting ≡ (settled_of f g).pool → record f { kept = kept; waiting = waiting } ≡ with_settled f (settled_in f g.kept)
received_is f g kept waiting is held pool =
    let same = sym (settled_is f g is) in
    let to_kept = held ∙ ap (λ (s : Settling). s.held) same in
    let to_waiting = pool ∙ ap (λ (s : Settling). s.pool) same in
    λ i. record f { kept = to_kept i; waiting = to_waiting i }

-- What is read then is what the delivery says.
pub received_work : (f g : File) (kept waiting offered : List Change) (a b : Work) → IsDelivery f g → kept ≡ f.kept → waiting ≡ f.waiting → offered ≡ g.kept
    → DecodesSome a b (2 * operations_in (readied f.members (held_behind (base_of f.members [] 0)) kept kept waiting offered)) → DecodesSome a b (2 * operations_in (readied_in f g.kept))
received_work f g kept waiting offered a b is same_kept same_waiting same_offered work =
    let base = base_is f is.base in
    let same : readied f.members (held_behind (base_of f.members [] 0)) kept kept waiting offered ≡ readied_in f g.kept =
    λ i. readied f.members (held_behind (sym base i)) (same_kept i) (same_kept i) (same_waiting i) (same_offered i) in
    subst (λ (changes : List Change). DecodesSome a b (2 * operations_in changes)) same work
