-- A command over files that stand for ledgers: what it shows of a ledger, and which ledgers it leaves.
use Rattle.std.proofs.Common.{◌≡◌, ◌≢◌, ℕ, ◌<◌, ◌≤◌, Bool, true, false, cond, eqb, ltb, leb, List, [], ◌∷◌, length, Option, None, Some, Result, Ok, Err, ◌⊎◌, inl, inr, ⊎_elim, refl, sym, ap, subst, ◌∙◌}
use Rattle.std.specs.Prelude.{◌++◌, codes, not, bytes_eq, slice_get, unwrap_or}
use Rattle.std.specs.Option.{option_map}
use Rattle.std.specs.List.{AllByRecursion, list_any}
use Rattle.std.specs.FinMap.{get, get-insert}
use Rattle.std.specs.Cmp.Lexicographic.{slice_cmp}
use Rattle.std.specs.Ordering.{nat_cmp, eq_by_cmp}
use Rattle.std.specs.declared.cmp.Ordering.{Ordering}
use Rattle.std.proofs.lemmas.Bool.{leb-true, ltb-true, eqb-true}
use Rattle.std.proofs.lemmas.Cmp.{nat_list_cmp_total, eq_by_cmp_equiv}
use Rattle.std.proofs.lemmas.Map.Lookups.{exact_bytes}
use Rattle.std.proofs.lemmas.Map.Text.{is_eq-slice_cmp}
use Rattle.outside.specs.Files.{Files, file_at, stored}
use Rattle.op_ids.proofs.OrderLaws.{equal_from_is_eq}
use Rattle.model_laws.proofs.Tables.{both_true}
use Rattle.model.specs.Value as v
use Rattle.model.specs.Value.{Value}
use Rattle.model.specs.Edit as edits
use Rattle.model.specs.Edit.{Edit}
use Rattle.model.specs.Change.{Change}
use Rattle.model.specs.Base.{Base, base_of}
use Rattle.model.specs.Held.{held, held_behind}
use Rattle.model.specs.Ledger.{IsAmong}
use Rattle.model.specs.State.{State, replay}
use Rattle.model.specs.View.{view}
use Rattle.model.specs.Text.{show_text, field, holds_line}
use Rattle.model.specs.File.{File, Kind, member_file, bundle, snapshot, kind_number, spell_file, file_limit}
use Rattle.model.specs.Stands.{Stands, IsStored, Ledgers, Holds, AllStand}
use Rattle.model.specs.Reading.{base_in, held_in, state_in, with_changes, settled_in, with_settled, trimmed_in, snapshot_in}
use Rattle.model.specs.Command as model
use Rattle.model.specs.Command.{Command, Unmade, found, edit, ack, show, status, log, bundle_since, deliver, trim, snapshot_of, release, begin_from, check, items, made_edit, made_acks, with_made, stored_edit, settled, stored_settled, stored_bundle, stored_released, stored_begun, new_file, Reads, IsBundleOf, Stored, stored_as, Stores, of_found, of_edit, of_ack, of_deliver, of_trim, of_release, of_bundle, of_snapshot, of_begin, with_ledger, Next}
use Rattle.ledger_laws.specs.FileReading.{TellsAll}
use Rattle.ledger_laws.proofs.CommandLaws as laws
use Rattle.ledger_laws.proofs.CommandLaws.{among_from, read_stands, next_stand, others_stand}
use Rattle.ledger_laws.proofs.FileLaws.{files_read_whole}
use Rattle.ledger_laws.proofs.TellLaws.{files_tell_all}
use Rattle.keeping_laws.specs.Forms.{HasForm, IsEdit}
use Rattle.keeping_laws.specs.Writing.{IsMeant, AreWritten}
use Rattle.keeping_laws.proofs.WrittenLaws.{written_are_stored}
use Rattle.outline_words.specs.Forms.{IsWordValue}
use Rattle.outline_words.specs.Commands.{IsWordEdit, IsOrder}
use Rattle.outline_words.specs.Table.{command}
use Rattle.replica.specs.declared.fault.MemberFault.TheVariants as faults
use Rattle.outline_meaning.specs.declared.status.Status.{Status}
use Rattle.outline_meaning.specs.declared.status.Status.TheVariants as s
use Rattle.outline_meaning.specs.Outcome.{Outcome, storing, provided, told, printed, status_text, listed, checked, fitting_by_kind, held_by_some, member_of, holds as holds_member, of_kind, fitting, same_document, edited, acknowledged, shown, delivered, bundled, trimmed_told, cut_off, trimmed, snapped, released, begun, with_made_lines}
use Rattle.outline_meaning.specs.Meaning.{Named, Roles, command_roles, reads, Loaded, missing, failed, whole, Loads, unused, file_of, of_input, delivered_to, items_of, member_files, based_files, all_files, made_of, Store, Answer, store_at, target, stored_by, answered, sized_store, sized, order_meaning}
use Rattle.outline_meaning.specs.Run.{Brings, BringsOf, AreOf, with_store}
use Rattle.outline_meaning.specs.Ledgers.{KeepsLedgers}
use Rattle.outline_meaning.proofs.MeaningLaws.{passed, read_is}
use Rattle.outline_meaning.proofs.StepLaws.{on}

-- ---- steps that are done

-- Where steps are done, the first is.
pub on_done : {A B : Type 0} (first : Result A Status) (next : A → Result B Status) (y : B) → Ok y ≡ on first next → (x : A) × (first ≡ Ok x) × (Ok y ≡ next x)
on_done (Ok x) next y e = (x, refl, e)
on_done (Err refusal) next y e = absurd cc

pub provided_done : (b : Bool) (refusal : Status) (u : Unit {0}) → provided b refusal ≡ Ok u → b ≡ true
provided_done true refusal u e = refl
provided_done false refusal u e = absurd cc

pub told_done : {A : Type 0} (made : Result A Unmade) (x : A) → told made ≡ Ok x → made ≡ Ok x
told_done (Ok y) x e = cc
told_done (Err w) x e = absurd cc

-- ---- files by name

-- the order of names
abbrev name_cmp : List ℕ → List ℕ → Ordering
name_cmp = slice_cmp nat_cmp

same_bytes : (a b : List ℕ) → bytes_eq a b ≡ true → a ≡ b
same_bytes a b e = exact_bytes a b (equal_from_is_eq (slice_cmp nat_cmp a b) (is_eq-slice_cmp a b ∙ e))

-- What is stored under a name is found there.
found_here : (files : Files) (name bytes : List ℕ) → file_at (stored files name bytes) name ≡ Some bytes
found_here files name bytes =
    get-insert nat_list_cmp_total files name bytes name ∙ ap (λ b. cond b (Some bytes) (get files name)) ((eq_by_cmp_equiv nat_list_cmp_total).refl name)

found_if : (files : Files) (name bytes q : List ℕ) (same : Bool) → eq_by_cmp name_cmp q name ≡ same → q ≢ name → file_at (stored files name bytes) q ≡ file_at files q
found_if files name bytes q true same other = absurd (other (exact_bytes q name (equal_from_is_eq (name_cmp q name) same)))
found_if files name bytes q false same other = get-insert nat_list_cmp_total files name bytes q ∙ ap (λ b. cond b (Some bytes) (get files q)) same

-- What stood under another name is found there still.
found_there : (files : Files) (name bytes q : List ℕ) → q ≢ name → file_at (stored files name bytes) q ≡ file_at files q
found_there files name bytes q other = found_if files name bytes q (eq_by_cmp name_cmp q name) refl other

-- ---- files that are read

-- A file that is read under a name, and its kind is one of these.
record IsRead (files : Files) (name : List ℕ) (kinds : List Kind) (f : File) : Type 0 where
  holds : Holds (file_at files) name f
  kind : list_any (λ k. eqb (kind_number k) (kind_number f.kind)) kinds ≡ true

pub kind_passed : (b : Bool) (f g : File) (refusal : Status) → Ok f ≡ on (provided b refusal) (λ u. Ok g) → (b ≡ true) × (f ≡ g)
kind_passed true f g refusal e = (refl, cc)
kind_passed false f g refusal e = absurd cc

is_read : (files : Files) (word : ℕ) (name bytes : List ℕ) (kinds : List Kind) (f g : File) → file_at files name ≡ Some bytes → IsStored bytes g → Ok f ≡ of_kind word kinds g → IsRead files name kinds f
is_read files word name bytes kinds f g held stored e =
    let is = kind_passed (list_any (λ k. eqb (kind_number k) (kind_number g.kind)) kinds) f g (s.OtherKind word (kind_number g.kind)) e in
    subst (IsRead files name kinds) (sym is.1) (record { holds = (bytes, held, stored); kind = is.0 })

read_file : (files : Files) (word : ℕ) (name : List ℕ) (kinds : List Kind) (load : Loaded) (f : File) → Brings (file_at files name) load → file_of word kinds load (Ok f) → IsRead files name kinds f
read_file files word name kinds load f brings (Ok bytes, e, (Ok g, (Ok u, base, stored), k)) =
    is_read files word name bytes kinds f g (subst (Brings (file_at files name)) (read_is word load bytes e).0 brings) stored k
read_file files word name kinds load f brings (Ok bytes, e, (Ok g, (Err q, base, same), k)) = absurd cc
read_file files word name kinds load f brings (Ok bytes, e, (Err q, scans, same)) = absurd cc
read_file files word name kinds load f brings (Err q, e, same) = absurd cc

-- a file of which something was made that stores
input_read : (files : Files) (name : List ℕ) (kinds : List Kind) (loads : Loads) (made : File → Result Outcome Status) (o : Outcome) → Brings (file_at files name) loads.input → of_input kinds loads made (Ok o)
    → (f : File) × IsRead files name kinds f × (Ok o ≡ made f)
input_read files name kinds loads made o brings (Ok f, is, e) = (f, read_file files 1 name kinds loads.input f brings is, e)
input_read files name kinds loads made o brings (Err q, is, e) = absurd cc

-- ---- words in form

pub value_form : (x : Value) → IsWordValue x → HasForm x
value_form v.null is = tt
value_form (v.truth b) is = tt
value_form (v.integer n) is = is
value_form (v.text t) is = is
value_form (v.bytes b) is = is

pub edit_form : (e : Edit) → IsWordEdit e → IsEdit e
edit_form (edits.new_child parent i) is = tt
edit_form (edits.move_child child parent i) is = tt
edit_form (edits.trash_child child) is = tt
edit_form (edits.put_value node key x) is = (is.0, value_form x is.1)
edit_form (edits.unset_key node key) is = is
edit_form (edits.type_at node at characters) is = is
edit_form (edits.erase_at node at count) is = tt
edit_form (edits.add_at node at x) is = value_form x is
edit_form (edits.shift_to node from to) is = tt
edit_form (edits.set_at node at x) is = value_form x is
edit_form (edits.drop_at node at) is = tt

-- ---- ledgers

abbrev HasLedger : Ledgers → List ℕ → Type 0
HasLedger ledgers name = (h : List Change) × (ledgers name ≡ Some h)

-- what there is where a command stores something of a file with a ledger
abbrev Sourced : Ledgers → Command → Type 0
Sourced ledgers (found document n name) = Unit {0}
Sourced ledgers (edit name e) = HasLedger ledgers name
Sourced ledgers (ack name) = HasLedger ledgers name
Sourced ledgers (bundle_since name vector out) = HasLedger ledgers name
Sourced ledgers (deliver name offered) = HasLedger ledgers name
Sourced ledgers (trim name) = HasLedger ledgers name
Sourced ledgers (snapshot_of name out) = HasLedger ledgers name
Sourced ledgers (release name m) = HasLedger ledgers name
Sourced ledgers (begin_from source m name) = HasLedger ledgers source
Sourced ledgers _ = ⊥

sourced : (files : Files) (ledgers : Ledgers) (c : Command) (x : Stored) → Stores (file_at files) ledgers c x → Sourced ledgers c
sourced files ledgers (found _ _ _) x (of_found document name n) = tt
sourced files ledgers (edit _ _) x (of_edit name e f h cs reads made) = (h, reads.ledger)
sourced files ledgers (ack _) x (of_ack name f h cs reads made) = (h, reads.ledger)
sourced files ledgers (deliver _ _) x (of_deliver name offered f b h reads held of) = (h, reads.ledger)
sourced files ledgers (trim _) x (of_trim name f h reads) = (h, reads.ledger)
sourced files ledgers (release _ _) x (of_release name m f h reads) = (h, reads.ledger)
sourced files ledgers (bundle_since _ _ _) x (of_bundle name vector out f h reads) = (h, reads.ledger)
sourced files ledgers (snapshot_of _ _) x (of_snapshot name out f h reads) = (h, reads.ledger)
sourced files ledgers (begin_from _ _ _) x (of_begin source name m f h reads) = (h, reads.ledger)
sourced files ledgers (show _) x stores = elim stores [ ]
sourced files ledgers (status _) x stores = elim stores [ ]
sourced files ledgers (log _) x stores = elim stores [ ]
sourced files ledgers (check _) x stores = elim stores [ ]
sourced files ledgers (items _) x stores = elim stores [ ]

-- ---- what a file with a ledger makes

-- an edit over its base and kept changes, and over its ledger
edits_alike : (f : File) (h : List Change) (e : Edit) → Stands f h → AllByRecursion (λ m. m < f.members) f.mine → made_edit f.members (held_in f) f.mine e ≡ made_edit f.members (held f.members h) f.mine e
edits_alike f h e stands below =
    let b : Base = base_of f.members h stands.horizon in
    let base : base_in f ≡ b = ap (λ o. unwrap_or o (base_of f.members [] 0)) stands.base in
    ap (λ x. made_edit f.members (held_behind x f.kept) f.mine e) base ∙ (files_read_whole f h b stands stands.base below).edits e

acks_alike : (f : File) (h : List Change) → Stands f h → AllByRecursion (λ m. m < f.members) f.mine → made_acks f.members (held_behind (base_in f)) f.kept f.mine ≡ made_acks f.members (held f.members) h f.mine
acks_alike f h stands below =
    let b : Base = base_of f.members h stands.horizon in
    let base : base_in f ≡ b = ap (λ o. unwrap_or o (base_of f.members [] 0)) stands.base in
    ap (λ x. made_acks f.members (held_behind x) f.kept f.mine) base ∙ (files_read_whole f h b stands stands.base below).acks

-- what an outcome stores
abbrev outcome_stores : Result Outcome Status → Option File
outcome_stores (Ok o) = o.stored
outcome_stores (Err refusal) = None

pub edit_done : (f : File) (e : Edit) (o : Outcome) → Ok o ≡ edited e f → (cs : List Change) × (made_edit f.members (held_in f) f.mine e ≡ Ok cs) × (o.stored ≡ Some (with_changes f cs))
edit_done f e o is =
    let (u, some, next) = on_done (held_by_some f) _ o is in
    let (w, fits, more) = on_done (fitting 1 f) _ o next in
    let (cs, made, last) = on_done (told (made_edit f.members (held_in f) f.mine e)) (with_made_lines f) o more in
    (cs, told_done _ cs made, ap outcome_stores last)

pub acks_done : (f : File) (o : Outcome) → Ok o ≡ acknowledged f → (cs : List Change) × (made_acks f.members (held_behind (base_in f)) f.kept f.mine ≡ Ok cs) × (o.stored ≡ Some (with_changes f cs))
acks_done f o is =
    let (cs, made, last) = on_done (told (made_acks f.members (held_behind (base_in f)) f.kept f.mine)) (with_made_lines f) o is in
    (cs, told_done _ cs made, ap outcome_stores last)

-- what is stored where one test was passed before
tested_done : (f : File) (first : Result (Unit {0}) Status) (next : Unit {0} → Result Outcome Status) (g : Option File) (o : Outcome) → ((u : Unit {0}) → outcome_stores (next u) ≡ g) → Ok o ≡ on first next → o.stored ≡ g
tested_done f first next g o each is = let (u, passed, last) = on_done first next o is in ap outcome_stores last ∙ each u

pub deliver_done : (f b : File) (o : Outcome) → Ok o ≡ delivered f b → (u : Unit {0}) × (same_document f b.document b.members ≡ Ok u) × (o.stored ≡ Some (with_settled f (settled_in f b.kept)))
deliver_done f b o fin =
    let (u, same, next) = on_done (same_document f b.document b.members) _ o fin in
    (u, same, tested_done f (fitting 1 f) _ (Some (with_settled f (settled_in f b.kept))) o (λ w. refl) next)

abbrev bundle_line : File → List ℕ → List ℕ
bundle_line f vector = codes "changes" ++ (field (length (stored_bundle f vector).kept) ++ codes "\n")

-- ---- kinds

bundle_alone : (k : Kind) → list_any (λ l. eqb (kind_number l) (kind_number k)) (bundle ∷ []) ≡ true → k ≡ bundle
bundle_alone member_file e = absurd cc
bundle_alone bundle e = refl
bundle_alone snapshot e = absurd cc

member_alone : (k : Kind) → list_any (λ l. eqb (kind_number l) (kind_number k)) member_files ≡ true → k ≡ member_file
member_alone member_file e = refl
member_alone bundle e = absurd cc
member_alone snapshot e = absurd cc

-- an answer that was sized is as it was made
any_answer : (b a : Answer) (store : Option Store) → Ok a ≡ sized_store b store → a ≡ b
any_answer b a None e = cc
any_answer b a (Some x) e = (passed (leb (length x.bytes) file_limit) b a (s.TooLarge x.word (length x.bytes)) e).1

-- ---- what a command stores

module _ (files : Files) (ledgers : Ledgers) (stand : AllStand (file_at files) ledgers) where
  -- A file that is held of a name with a ledger.
  record IsStanding (name : List ℕ) (f : File) (h : List Change) : Type 0 where
    reads : Reads (file_at files) ledgers name f h
    stands : Stands f h
    below : AllByRecursion (λ m. m < f.members) f.mine
    tells : TellsAll f h

  standing : (name : List ℕ) (f : File) (h : List Change) → Holds (file_at files) name f → ledgers name ≡ Some h → IsStanding name f h
  standing name f h holds has =
      let old = stand name h has in
      let stands : Stands f h = subst (λ x. Stands x h) (laws.one_file (file_at files) name old.0 f old.1 holds) old.2 in
      let is = holds.2.spells.is_file in
      record {
        reads = record { file = holds; kind = stands.kind; ledger = has };
        stands = stands;
        below = is.header.mine_below;
        tells = files_tell_all f h stands is.header.mine_below (among_from f.members f.waiting is.waiting);
      }

  -- What the command stores is what it stores of a file with a ledger.
  record StoresSo (c : Command) (o : Outcome) : Type 0 where
    entry : Stored
    stores : Stores (file_at files) ledgers c entry
    meant : IsMeant (file_at files) c
    file : o.stored ≡ Some entry.file
    word : ℕ
    place : target (command_roles c) ≡ Some (word, entry.name)

  -- Nothing is stored of a file with a ledger, and nothing under a name with one.
  record LeavesAll (c : Command) (o : Outcome) : Type 0 where
    none : (x : Stored) → Stores (file_at files) ledgers c x → ⊥
    apart : (o.stored ≡ None) ⊎ ((at : Named) × (target (command_roles c) ≡ Some at) × (ledgers at.1 ≡ None))

  abbrev Keeps : Command → Outcome → Type 0
  Keeps c o = StoresSo c o ⊎ LeavesAll c o

  -- what is stored for this file's ledger
  abbrev StoredFor : Command → List ℕ → File → Type 0
  StoredFor c name g = (x : Stored) × Stores (file_at files) ledgers c x × IsMeant (file_at files) c × (x.file ≡ g) × (x.name ≡ name)

  by_ledger : (c : Command) (o : Outcome) (name : List ℕ) (g : File) (at : Named) (ledger : Option (List Change)) → ledgers name ≡ ledger → o.stored ≡ Some g → target (command_roles c) ≡ Some at
      → ((x : Stored) → Stores (file_at files) ledgers c x → HasLedger ledgers name) → (ledgers name ≡ None → ledgers at.1 ≡ None) → ((h : List Change) → ledgers name ≡ Some h → StoredFor c at.1 g) → Keeps c o
  by_ledger c o name g at None none is to needs free some =
      inr (record { none = λ x stores. let (h, has) = needs x stores in let both : None ≡ Some h = sym none ∙ has in absurd cc; apart = inr (at, to, free none) })
  by_ledger c o name g at (Some h) has is to needs free some =
      let (x, stores, meant, file, called) = some h has in
      inl (record { entry = x; stores = stores; meant = meant; file = is ∙ ap Some (sym file); word = at.0; place = to ∙ ap (λ (n : List ℕ). Some (at.0, n)) (sym called) })

  -- a new name has no ledger
  abbrev IsFree : Command → Type 0
  IsFree c = (at : Named) → (command_roles c).new ≡ Some at → ledgers at.1 ≡ None

  edit_kept : (name : List ℕ) (e : Edit) (loads : Loads) (o : Outcome) → IsWordEdit e → Brings (file_at files name) loads.input → of_input member_files loads (edited e) (Ok o) → Keeps (edit name e) o
  edit_kept name e loads o is brings steps =
      let (f, r, fin) = input_read files name member_files loads (edited e) o brings steps in
      let (cs, made, stored) = edit_done f e o fin in
      by_ledger (edit name e) o name (with_changes f cs) (1, name) (ledgers name) refl stored refl (sourced files ledgers (edit name e)) (λ none. none)
      (λ h has.
      let st = standing name f h r.holds has in
      let over : made_edit f.members (held f.members h) f.mine e ≡ Ok cs = sym (edits_alike f h e st.stands st.below) ∙ made in
      (stored_as name (stored_edit f (with_made h cs)) (with_made h cs), of_edit name e f h cs st.reads over, edit_form e is, sym (st.tells.edited e cs over), refl))

  ack_kept : (name : List ℕ) (loads : Loads) (o : Outcome) → Brings (file_at files name) loads.input → of_input member_files loads acknowledged (Ok o) → Keeps (ack name) o
  ack_kept name loads o brings steps =
      let (f, r, fin) = input_read files name member_files loads acknowledged o brings steps in
      let (cs, made, stored) = acks_done f o fin in
      by_ledger (ack name) o name (with_changes f cs) (1, name) (ledgers name) refl stored refl (sourced files ledgers (ack name)) (λ none. none)
      (λ h has.
      let st = standing name f h r.holds has in
      let over : made_acks f.members (held f.members) h f.mine ≡ Ok cs = sym (acks_alike f h st.stands st.below) ∙ made in
      (stored_as name (stored_edit f (with_made h cs)) (with_made h cs), of_ack name f h cs st.reads over, tt, sym (st.tells.acknowledged cs over), refl))

  bundle_kept : (name vector out : List ℕ) (loads : Loads) (o : Outcome) → IsFree (bundle_since name vector out) → Brings (file_at files name) loads.input → of_input member_files loads (bundled vector) (Ok o)
      → Keeps (bundle_since name vector out) o
  bundle_kept name vector out loads o free brings steps =
      let (f, r, fin) = input_read files name member_files loads (bundled vector) o brings steps in
      let (u, same, next) = on_done (same_document f f.document (length vector)) _ o fin in
      let stored = tested_done f (trimmed_told f vector (slice_get (cut_off f vector) 0)) (λ w. storing (stored_bundle f vector) (bundle_line f vector)) (Some (stored_bundle f vector)) o (λ w. refl) next in
      by_ledger (bundle_since name vector out) o name (stored_bundle f vector) (3, out) (ledgers name) refl stored refl (sourced files ledgers (bundle_since name vector out)) (λ none. free (3, out) refl)
      (λ h has.
      let st = standing name f h r.holds has in
      (record { name = out; file = stored_bundle f vector; ledger = None }, of_bundle name vector out f h st.reads, tt, refl, refl))

  trim_kept : (name : List ℕ) (loads : Loads) (o : Outcome) → Brings (file_at files name) loads.input → of_input member_files loads trimmed (Ok o) → Keeps (trim name) o
  trim_kept name loads o brings steps =
      let (f, r, fin) = input_read files name member_files loads trimmed o brings steps in
      let stored = tested_done f (fitting 1 f) _ (Some (trimmed_in f)) o (λ w. refl) fin in
      by_ledger (trim name) o name (trimmed_in f) (1, name) (ledgers name) refl stored refl (sourced files ledgers (trim name)) (λ none. none)
      (λ h has.
      let st = standing name f h r.holds has in
      (stored_as name (model.stored_trimmed f h) h, of_trim name f h st.reads, tt, sym st.tells.trimmed, refl))

  snapshot_kept : (name out : List ℕ) (loads : Loads) (o : Outcome) → IsFree (snapshot_of name out) → Brings (file_at files name) loads.input → of_input member_files loads snapped (Ok o) → Keeps (snapshot_of name out) o
  snapshot_kept name out loads o free brings steps =
      let (f, r, fin) = input_read files name member_files loads snapped o brings steps in
      let stored = tested_done f (fitting 1 f) _ (Some (snapshot_in f)) o (λ w. refl) fin in
      by_ledger (snapshot_of name out) o name (snapshot_in f) (2, out) (ledgers name) refl stored refl (sourced files ledgers (snapshot_of name out)) (λ none. free (2, out) refl)
      (λ h has.
      let st = standing name f h r.holds has in
      (stored_as out (model.stored_snapshot f h) h, of_snapshot name out f h st.reads, tt, sym st.tells.snapshot, refl))

  release_kept : (name : List ℕ) (m : ℕ) (loads : Loads) (o : Outcome) → Brings (file_at files name) loads.input → of_input member_files loads (released m) (Ok o) → Keeps (release name m) o
  release_kept name m loads o brings steps =
      let (f, r, fin) = input_read files name member_files loads (released m) o brings steps in
      let (u, known, next) = on_done (member_of m f) _ o fin in
      let stored = tested_done f (provided (holds_member m f) (s.Member (faults.NotHeld m))) (λ w. storing (stored_released f m) (holds_line (stored_released f m).mine)) (Some (stored_released f m)) o (λ w. refl) next in
      by_ledger (release name m) o name (stored_released f m) (1, name) (ledgers name) refl stored refl (sourced files ledgers (release name m)) (λ none. none)
      (λ h has.
      let st = standing name f h r.holds has in
      (stored_as name (stored_released f m) h, of_release name m f h st.reads, tt, refl, refl))

  begin_kept : (source : List ℕ) (m : ℕ) (name : List ℕ) (loads : Loads) (o : Outcome) → IsFree (begin_from source m name) → Brings (file_at files source) loads.input → of_input based_files loads (begun m) (Ok o)
      → Keeps (begin_from source m name) o
  begin_kept source m name loads o free brings steps =
      let (f, r, fin) = input_read files source based_files loads (begun m) o brings steps in
      let (u, known, next) = on_done (member_of m f) _ o fin in
      let below : m < f.members = ltb-true m f.members (provided_done (ltb m f.members) _ u known) in
      let stored = tested_done f (provided (not (holds_member m f)) (s.Member (faults.Held m))) (λ w. storing (stored_begun f m) (holds_line (m ∷ []))) (Some (stored_begun f m)) o (λ w. refl) next in
      by_ledger (begin_from source m name) o source (stored_begun f m) (3, name) (ledgers source) refl stored refl (sourced files ledgers (begin_from source m name)) (λ none. free (3, name) refl)
      (λ h has.
      let st = standing source f h r.holds has in
      (stored_as name (stored_begun f m) h, of_begin source name m f h st.reads, (λ g holds. subst (λ (x : File). m < x.members) (laws.one_file (file_at files) source f g r.holds holds) below), refl, refl))

  -- a bundle of the file's document
  bundle_of : (f b : File) (u : Unit {0}) → same_document f b.document b.members ≡ Ok u → b.kind ≡ bundle → IsBundleOf f b
  bundle_of f b u same kind =
      let both = both_true (bytes_eq f.document b.document) (eqb f.members b.members) (provided_done _ _ u same) in
      record { kind = kind; document = sym (same_bytes f.document b.document both.0); members = sym (eqb-true f.members b.members both.1) }

  deliver_kept : (name offered : List ℕ) (loads : Loads) (o : Outcome) → Brings (file_at files name) loads.input → Brings (file_at files offered) loads.second → delivered_to loads (Ok o) → Keeps (deliver name offered) o
  deliver_kept name offered loads o brings second (Ok f, file, (Ok b, other, fin)) =
      let r = read_file files 1 name member_files loads.input f brings file in
      let t = read_file files 2 offered (bundle ∷ []) loads.second b second other in
      let (u, same, stored) = deliver_done f b o fin in
      let of = bundle_of f b u same (bundle_alone b.kind t.kind) in
      let among = subst (λ n. AllByRecursion (IsAmong n) b.kept) of.members (among_from b.members b.kept t.holds.2.spells.is_file.kept) in
      by_ledger (deliver name offered) o name (with_settled f (settled_in f b.kept)) (1, name) (ledgers name) refl stored refl (sourced files ledgers (deliver name offered)) (λ none. none)
      (λ h has.
      let st = standing name f h r.holds has in (
        stored_as name (stored_settled f (settled f h b.kept)) (settled f h b.kept).held,
        of_deliver name offered f b h st.reads t.holds of,
        (λ g holds. subst (λ (x : File). x.kind ≡ member_file) (laws.one_file (file_at files) name f g r.holds holds) (member_alone f.kind r.kind)),
        sym (st.tells.settled_alike b.kept among),
        refl,
      ))
  deliver_kept name offered loads o brings second (Ok f, file, (Err q, other, fin)) = absurd cc
  deliver_kept name offered loads o brings second (Err q, file, fin) = absurd cc

  -- what only prints
  prints_kept : (c : Command) (o : Outcome) → ((x : Stored) → Stores (file_at files) ledgers c x → ⊥) → o.stored ≡ None → Keeps c o
  prints_kept c o none is = inr (record { none = none; apart = inl is })

  printed_from : (name : List ℕ) (kinds : List Kind) (loads : Loads) (made : File → Result Outcome Status) (o : Outcome) → Brings (file_at files name) loads.input → of_input kinds loads made (Ok o)
      → ((f : File) → Ok o ≡ made f → o.stored ≡ None) → o.stored ≡ None
  printed_from name kinds loads made o brings steps each = let (f, r, fin) = input_read files name kinds loads made o brings steps in each f fin

  items_print : (loads : Loads) (o : Outcome) → items_of loads (Ok o) → o.stored ≡ None
  items_print loads o (Ok bytes, e, (xs, spells, is)) = ap (λ (x : Outcome). x.stored) is
  items_print loads o (Err q, e, is) = absurd cc

  kept : (c : Command) (loads : Loads) (o : Outcome) → IsOrder (command c) → AreOf files (command_roles c) loads → IsFree c → made_of loads c (Ok o) → Keeps c o
  kept (found document n name) loads o is of free made = inl (record {
    entry = stored_as name (new_file document n) [];
    stores = of_found document name n;
    meant = record { bytes = is.0.each; length = is.0.len; some = is.1; most = is.2 };
    file = ap outcome_stores made;
    word = 3;
    place = refl;
  })
  kept (edit name e) loads o is of free made = edit_kept name e loads o is of.input made
  kept (ack name) loads o is of free made = ack_kept name loads o of.input made
  kept (show name) loads o is of free made =
      prints_kept (show name) o (sourced files ledgers (show name)) (printed_from name based_files loads shown o of.input made (λ f fin. tested_done f (fitting 1 f) _ None o (λ w. refl) fin))
  kept (status name) loads o is of free made =
      prints_kept (status name) o (sourced files ledgers (status name)) (printed_from name based_files loads (λ f. printed (status_text f)) o of.input made (λ f fin. ap outcome_stores fin))
  kept (log name) loads o is of free made =
      prints_kept (log name) o (sourced files ledgers (log name)) (printed_from name all_files loads listed o of.input made (λ f fin. ap outcome_stores fin))
  kept (bundle_since name vector out) loads o is of free made = bundle_kept name vector out loads o free of.input made
  kept (deliver name offered) loads o is of free made = deliver_kept name offered loads o of.input of.second made
  kept (trim name) loads o is of free made = trim_kept name loads o of.input made
  kept (snapshot_of name out) loads o is of free made = snapshot_kept name out loads o free of.input made
  kept (release name m) loads o is of free made = release_kept name m loads o of.input made
  kept (begin_from source m name) loads o is of free made = begin_kept source m name loads o free of.input made
  kept (check name) loads o is of free made =
      prints_kept (check name) o (sourced files ledgers (check name)) (printed_from name all_files loads checked o of.input made (λ f fin. tested_done f (fitting_by_kind f.kind f) _ None o (λ w. refl) fin))
  kept (items name) loads o is of free made = prints_kept (items name) o (sourced files ledgers (items name)) (items_print loads o made)

  -- ---- what the files then stand for

  none_known : (name : List ℕ) (ledger : Option (List Change)) → ledgers name ≡ ledger → file_at files name ≡ None → ledgers name ≡ None
  none_known name None e none = e
  none_known name (Some h) e none =
      let old = stand name h e in
      let both : None ≡ Some old.1.0 = sym none ∙ old.1.1 in
      absurd cc

  is_free : (new : Option Named) (load : Loaded) (u : Unit {0}) → Ok u ≡ unused new load → BringsOf files new load → (at : Named) → new ≡ Some at → ledgers at.1 ≡ None
  is_free None load u e brings at is = absurd cc
  is_free (Some x) missing u e brings at is =
      let same : x ≡ at = cc in
      subst (λ (n : Named). ledgers n.1 ≡ None) same (none_known x.1 (ledgers x.1) refl brings)
  is_free (Some x) failed u e brings at is = absurd cc
  is_free (Some x) (whole bytes) u e brings at is = absurd cc

  -- an answer of a size that is stored
  sized_done : (b a : Answer) (store : Option Store) (st : Store) → store ≡ Some st → Ok a ≡ sized_store b store → (a ≡ b) × (length st.bytes ≤ file_limit)
  sized_done b a None st is e = absurd cc
  sized_done b a (Some x) st is e =
      let same : x ≡ st = cc in
      let ok = passed (leb (length x.bytes) file_limit) b a (s.TooLarge x.word (length x.bytes)) e in
      (ok.1, subst (λ (y : Store). length y.bytes ≤ file_limit) same (leb-true (length x.bytes) file_limit ok.0))

  stored_keeps : (c : Command) (o : Outcome) (a : Answer) → StoresSo c o → Ok a ≡ sized (answered (command_roles c) o) → KeepsLedgers files (with_store a.store files) ledgers c
  stored_keeps c o a so is =
      let entry = so.entry in
      let st : Store = record { word = so.word; name = entry.name; bytes = spell_file entry.file } in
      let store : stored_by (command_roles c) o.stored ≡ Some st =
      ap (stored_by (command_roles c)) so.file ∙ ap (option_map (store_at (spell_file entry.file))) so.place in
      let ok = sized_done (answered (command_roles c) o) a (stored_by (command_roles c) o.stored) st store is in
      let now : a.store ≡ Some st = ap (λ (x : Answer). x.store) ok.0 ∙ store in
      let written : AreWritten (file_at files) (file_at (stored files entry.name (spell_file entry.file))) entry =
      record { written = found_here files entry.name (spell_file entry.file); most = ok.1; others = found_there files entry.name (spell_file entry.file) } in
      let after = file_at (stored files entry.name (spell_file entry.file)) in
      let are_stored = written_are_stored (file_at files) after ledgers c entry stand so.stores so.meant written in
      subst (λ (x : Option Store). KeepsLedgers files (with_store x files) ledgers c) (sym now)
      (record {
        next = with_ledger ledgers entry.name entry.ledger;
        is_next = model.stored c entry so.stores;
        stand = next_stand (file_at files) after ledgers c entry stand so.stores are_stored;
      })

  stands_apart : (store : Option Store) (at : Named) → ledgers at.1 ≡ None → ((st : Store) → store ≡ Some st → st.name ≡ at.1) → AllStand (file_at (with_store store files)) ledgers
  stands_apart None at none called = stand
  stands_apart (Some st) at none called =
      others_stand (file_at files) (file_at (stored files st.name st.bytes)) ledgers stand
      (λ name h has. found_there files st.name st.bytes name
      (λ e. let both : None ≡ Some h = sym none ∙ ap ledgers (sym (called st refl)) ∙ ap ledgers (sym e) ∙ has in absurd cc))

  called_so : (r : Roles) (file : Option File) (at : Named) (st : Store) → target r ≡ Some at → stored_by r file ≡ Some st → st.name ≡ at.1
  called_so r None at st to is = absurd cc
  called_so r (Some g) at st to is =
      let same : Some (store_at (spell_file g) at) ≡ Some st = ap (option_map (store_at (spell_file g))) (sym to) ∙ is in
      let e : store_at (spell_file g) at ≡ st = cc in
      ap (λ (x : Store). x.name) (sym e)

  left_stand : (c : Command) (o : Outcome) → LeavesAll c o → AllStand (file_at (with_store (stored_by (command_roles c) o.stored) files)) ledgers
  left_stand c o left =
      ⊎_elim (λ is. subst (λ x. AllStand (file_at (with_store (stored_by (command_roles c) x) files)) ledgers) (sym is) stand)
      (λ at. stands_apart (stored_by (command_roles c) o.stored) at.0 at.2 (λ st is. called_so (command_roles c) o.stored at.0 st at.1 is)) left.apart

  left_keeps : (c : Command) (o : Outcome) (a : Answer) → LeavesAll c o → Ok a ≡ sized (answered (command_roles c) o) → KeepsLedgers files (with_store a.store files) ledgers c
  left_keeps c o a left is =
      let same : a ≡ answered (command_roles c) o = any_answer (answered (command_roles c) o) a (stored_by (command_roles c) o.stored) is in
      subst (λ (x : Answer). KeepsLedgers files (with_store x.store files) ledgers c) (sym same) (record { next = ledgers; is_next = model.unknown c left.none; stand = left_stand c o left })

  keeps_from : (c : Command) (loads : Loads) (a : Answer) → IsOrder (command c) → AreOf files (command_roles c) loads → order_meaning loads (command c) (Ok a) → KeepsLedgers files (with_store a.store files) ledgers c
  keeps_from c loads a is of (Ok o, made, (Ok u, free, fin)) =
      ⊎_elim (λ so. stored_keeps c o a so fin) (λ left. left_keeps c o a left fin)
      (kept c loads o is of (is_free (command_roles c).new loads.new u free of.new_file) made)
  keeps_from c loads a is of (Ok o, made, (Err q, free, fin)) = absurd cc
  keeps_from c loads a is of (Err q, made, fin) = absurd cc

-- A command that is meant leaves files that stand for the ledgers that it makes of those before.
pub keeps_ledgers : (files : Files) (ledgers : Ledgers) (c : Command) (loads : Loads) (a : Answer) → AllStand (file_at files) ledgers → IsOrder (command c) → AreOf files (command_roles c) loads
    → order_meaning loads (command c) (Ok a) → KeepsLedgers files (with_store a.store files) ledgers c
keeps_ledgers files ledgers c loads a stand is of means = keeps_from files ledgers stand c loads a is of means

-- ---- what is shown

-- The file that is shown, and what is answered of it.
pub record IsShown (files : Files) (name : List ℕ) (a : Answer) : Type 0 where
  pub file : File
  pub held : Holds (file_at files) name file
  pub text : a.text ≡ show_text (view (state_in file))
  pub store : a.store ≡ None

shown_done : (f : File) (o : Outcome) → Ok o ≡ shown f → o ≡ record { text = show_text (view (state_in f)); stored = None }
shown_done f o is = let (u, fits, last) = on_done (fitting 1 f) _ o is in cc

pub is_shown : (files : Files) (name : List ℕ) (loads : Loads) (a : Answer) → AreOf files (reads name) loads → order_meaning loads (command (show name)) (Ok a) → IsShown files name a
is_shown files name loads a of (Ok o, made, (Ok u, free, fin)) =
    let (f, r, last) = input_read files name based_files loads shown o of.input made in
    let is = shown_done f o last in
    let answer : a ≡ answered (reads name) o = any_answer (answered (reads name) o) a (stored_by (reads name) o.stored) fin in
    record {
      file = f;
      held = r.holds;
      text = ap (λ (x : Answer). x.text) answer ∙ ap (λ (x : Outcome). x.text) is;
      store = ap (λ (x : Answer). x.store) answer ∙ ap (λ (x : Outcome). stored_by (reads name) x.stored) is;
    }
is_shown files name loads a of (Ok o, made, (Err q, free, fin)) = absurd cc
is_shown files name loads a of (Err q, made, fin) = absurd cc

-- A name's file is one.
pub one_held : (files : Files) (name : List ℕ) (f other : File) → Holds (file_at files) name f → Holds (file_at files) name other → other ≡ f
one_held files name f other held again = laws.one_file (file_at files) name other f again held

-- Where the file stands for a ledger, its view is that of replaying the ledger.
pub shown_of_ledger : (files : Files) (ledgers : Ledgers) (name : List ℕ) (h : List Change) (a : Answer) → AllStand (file_at files) ledgers → ledgers name ≡ Some h → IsShown files name a
    → a.text ≡ show_text (view (replay h))
shown_of_ledger files ledgers name h a stand has is =
    let st = standing files ledgers stand name is.file h is.held has in
    is.text ∙ ap (λ (x : State). show_text (view x)) st.tells.state
