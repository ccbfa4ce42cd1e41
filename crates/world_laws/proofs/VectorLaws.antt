-- In a world the vector tells the ledger.
use Rattle.std.proofs.Common.{◌≡◌, ℕ, ◌<◌, ◌≤◌, eqb, List, [], sym, ap, subst, ◌∙◌, get_or}
use Rattle.std.specs.Prelude.{Contains}
use Rattle.std.specs.List.{AllByRecursion}
use Rattle.std.proofs.lemmas.Bool.{eqb-true}
use Rattle.std.proofs.lemmas.Option.{same_Some}
use Rattle.model.specs.Base.{count_of}
use Rattle.model.specs.Change.{Change, name_of, has_name}
use Rattle.model.specs.File.{File}
use Rattle.model.specs.Ledger.{Sound, IsAmong, Joins}
use Rattle.model.specs.Stands.{Files, Ledgers}
use Rattle.model.specs.World.{Document, World, IsHistory, AreAmong}
use Rattle.world_laws.specs.Worlds.{HasLedger, VectorsTellLedgers}
use Rattle.arrival_laws.proofs.AddLaws.{order_from}
use Rattle.model_laws.proofs.ChangeLaws.{get_or-vec_of}
use Rattle.model_laws.proofs.ListLaws.{all_more, all_both}
use Rattle.arrival_laws.proofs.SoundLaws.{Numbered, each_more, joins_numbered, found, name}
use Rattle.arrival_laws.proofs.InLaws.{In, all_in, same_list, find_passes, less_same, numbers_within}
use Rattle.model_laws.proofs.Tables.{both_true}

-- each change of one is in the other
all_there : (n : ℕ) (all h k : List Change) → IsHistory n all → Sound n h → Sound n k → AreAmong all h → AreAmong all k → ((m : ℕ) → m < n → count_of h m ≡ count_of k m) → AllByRecursion (In k) h
all_there n all h k history sh sk ah ak same =
    let numbered_k = each_more (Joins n) Numbered (joins_numbered n) [] k sk.each in
    let drawn = all_both (Contains all) (In k) k ak (all_in k) in
    let facts = all_both (Contains all) (λ x. IsAmong n x × ((1 ≤ x.number) × (x.number ≤ count_of h x.member))) h ah
    (all_both (IsAmong n) (λ x. (1 ≤ x.number) × (x.number ≤ count_of h x.member)) h sh.among (numbers_within [] h (each_more (Joins n) Numbered (joins_numbered n) [] h sh.each))) in
    all_more (λ x. Contains all x × (IsAmong n x × ((1 ≤ x.number) × (x.number ≤ count_of h x.member)))) (In k)
    (λ x h'. let e = same x.member h'.1.0.member in
    let there = found (λ y. Contains all y × In k y) x.member x.number [] k numbered_k drawn h'.1.1.0 (less_same x.number (count_of h x.member) (count_of k x.member) h'.1.1.1 e) in
    let named = both_true (eqb there.0.member x.member) (eqb there.0.number x.number) (find_passes (has_name (name x.member x.number)) k there.0 there.1) in
    let names : name_of x ≡ name_of there.0 = (λ i. record { member = sym (eqb-true there.0.member x.member named.0) i; number = sym (eqb-true there.0.number x.number named.1) i }) in
    let is : x ≡ there.0 = history.one_each x there.0 h'.0 there.2.0 names in
    subst (In k) (sym is) there.2.1)
    h facts

-- the ledger of a file in a world is sound
pub stands_for : (d : Document) (files : Files) (ledgers : Ledgers) (all : List Change) → World d files ledgers all → (name : List ℕ) (f : File) (h : List Change) → HasLedger d files ledgers name f h → Sound d.members h
stands_for d files ledgers all w name f h has =
    let s = w.stand name f has.file has.kind in
    let same : s.0 ≡ h = same_Some s.0 h (sym s.1 ∙ has.ledger) in
    let members : f.members ≡ d.members = ap (λ (x : Document). x.members) has.file.document in
    subst (λ n. Sound n h) members (subst (Sound f.members) same s.2.sound)

pub vectors_tell_ledgers : VectorsTellLedgers
vectors_tell_ledgers d files ledgers all w name other f g h k hf hg same =
    let sf = stands_for d files ledgers all w name f h hf in
    let sg = stands_for d files ledgers all w other g k hg in
    let counts = λ (m : ℕ) (lt : m < d.members). (sym (get_or-vec_of d.members h m lt) ∙ ap (λ v. get_or v m 0) same ∙ get_or-vec_of d.members k m lt) in
    let ah = w.ledgers_drawn name f h hf.file hf.ledger in
    let ak = w.ledgers_drawn other g k hg.file hg.ledger in
    same_list h k (order_from h sf.in_order) (order_from k sg.in_order) (all_there d.members all h k w.history sf sg ah ak counts) (all_there d.members all k h w.history sg sf ak ah (λ m lt. sym (counts m lt)))
