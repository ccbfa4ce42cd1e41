-- What words mean over loads is one outcome.
use Rattle.cbor_det.specs.Head.{IsBytes}
use Rattle.outline_meaning.proofs.MeaningLaws.{read_is}
use Rattle.outline_meaning.proofs.BaseLaws.{other_base_or_not}
use Rattle.outline_meaning.specs.OfBytes.{IsOfBytes, AreOfBytes}
use Rattle.outline_meaning.specs.Sample.{sampled}
use Rattle.std.proofs.Common.{◌≡◌, ℕ, ◌<◌, ◌≤◌, ◌^◌, List, [], ◌∷◌, length, None, Result, Ok, Err, refl, sym, ap, subst, ◌∙◌, arith, ⊎_elim}
use Rattle.cbor_det.specs.Item.{Item}
use Rattle.cbor_det.specs.Notation.{notation_lines}
use Rattle.cbor_det.proofs.PlaceLaws.{HasFlaw-unique, flawed_or_spelled}
use Rattle.cbor_det.proofs.SequenceLaws.{Spells-unique, Spells-no_flaw}
use Rattle.op_grammar.specs.declared.rule.Rule.{Rule}
use Rattle.op_grammar.specs.declared.rule.Rule.TheVariants as r
use Rattle.op_grammar.specs.Rules.{rule_of}
use Rattle.model.specs.Rules as model
use Rattle.model.specs.File as file
use Rattle.model.specs.File.{File, Kind, FileFault, HasFault, SpellsFile, file_limit}
use Rattle.model.specs.Command.{Command, found, edit, ack, show, status, log, bundle_since, deliver, trim, snapshot_of, release, begin_from, check, items}
use Rattle.file_laws.proofs.FileLaws.{one_fault, one_file, files_have_none, file_or_fault}
use Rattle.outline_words.specs.Table.{Order, command, play, sample}
use Rattle.outline_words.proofs.SpellLaws.{one_order, spelled_not_wrong, one_first_wrong, spelled_or_wrong}
use Rattle.replica.specs.FaultText.{fault_of}
use Rattle.replica.specs.declared.fault.BadFile.{BadFile}
use Rattle.replica.specs.declared.fault.BadFile.TheVariants as bad
use Rattle.outline_meaning.specs.declared.status.Status.{Status}
use Rattle.outline_meaning.specs.declared.status.Status.TheVariants as s
use Rattle.outline_meaning.specs.Outcome.{Outcome, printed, edited, acknowledged, shown, status_text, listed, bundled, delivered, trimmed, snapped, released, begun, checked, of_kind, founded}
use Rattle.outline_meaning.specs.Scope.{taken_base, taken_words, taken_order}
use Rattle.outline_meaning.specs.Meaning.{Meaning, ◌>>=◌, exactly, Continues, Loaded, Loads, read, spelled, scanned, opened, file_of, member_files, based_files, all_files, itemized, made_of, order_made, order_meaning, said, ordered, meaning, unused, sized, answered, roles}

-- ---- meanings with one outcome

abbrev pub HasOne : {A : Type 0} → Meaning A → Type 0
HasOne {A} meant = (one other : Result A Status) → meant one → meant other → one ≡ other

one_exactly : {A : Type 0} (outcome : Result A Status) → HasOne (exactly outcome)
one_exactly outcome one other is same = is ∙ sym same

one_next : {A B : Type 0} (next : A → Meaning B) (step : Result A Status) (one other : Result B Status) → ((x : A) → HasOne (next x)) → Continues next step one → Continues next step other → one ≡ other
one_next next (Ok x) one other each p q = each x one other p q
one_next next (Err refusal) one other each p q = p ∙ sym q

one_then : {A B : Type 0} (first : Meaning A) (next : A → Meaning B) → HasOne first → ((x : A) → HasOne (next x)) → HasOne (first >>= next)
one_then first next begins each one other (step, is, goes) (again, was, went) =
    one_next next step one other each goes (subst (λ at. Continues next at other) (begins again step was is) went)

-- ---- the same, with some outcome

abbrev pub HasSome : {A : Type 0} → Meaning A → Type 0
HasSome {A} meant = (outcome : Result A Status) × meant outcome

some_exactly : {A : Type 0} (outcome : Result A Status) → HasSome (exactly outcome)
some_exactly outcome = (outcome, refl)

some_next : {A B : Type 0} (next : A → Meaning B) (step : Result A Status) → ((x : A) → HasSome (next x)) → (outcome : Result B Status) × Continues next step outcome
some_next next (Ok x) each = each x
some_next next (Err refusal) each = (Err refusal, refl)

some_then : {A B : Type 0} (first : Meaning A) (next : A → Meaning B) → HasSome first → ((x : A) → HasSome (next x)) → HasSome (first >>= next)
some_then first next (step, is) each = let (outcome, goes) = some_next next step each in (outcome, (step, is, goes))

-- ---- names of faults

named_rule : model.Rule → Rule
named_rule model.G1 = r.G1
named_rule model.G2 = r.G2
named_rule model.G3 = r.G3
named_rule model.G4 = r.G4
named_rule model.G5 = r.G5
named_rule model.G6 = r.G6
named_rule model.G7 = r.G7
named_rule model.B1 = r.B1
named_rule model.B2 = r.B2
named_rule model.B3 = r.B3
named_rule model.B4 = r.B4
named_rule model.B5 = r.B5
named_rule model.B6 = r.B6
named_rule model.F1 = r.F1
named_rule model.F4 = r.F4
named_rule model.F5 = r.F5
named_rule model.F6 = r.F6

rule_named : (rule : model.Rule) → rule_of (named_rule rule) ≡ rule
unfolding named_rule
rule_named model.G1 = refl
rule_named model.G2 = refl
rule_named model.G3 = refl
rule_named model.G4 = refl
rule_named model.G5 = refl
rule_named model.G6 = refl
rule_named model.G7 = refl
rule_named model.B1 = refl
rule_named model.B2 = refl
rule_named model.B3 = refl
rule_named model.B4 = refl
rule_named model.B5 = refl
rule_named model.B6 = refl
rule_named model.F1 = refl
rule_named model.F4 = refl
rule_named model.F5 = refl
rule_named model.F6 = refl

named_again : (rule : Rule) → named_rule (rule_of rule) ≡ rule
unfolding named_rule
named_again r.F1 = refl
named_again r.F4 = refl
named_again r.F5 = refl
named_again r.F6 = refl
named_again r.B1 = refl
named_again r.B2 = refl
named_again r.B3 = refl
named_again r.B4 = refl
named_again r.B5 = refl
named_again r.B6 = refl
named_again r.G1 = refl
named_again r.G2 = refl
named_again r.G3 = refl
named_again r.G4 = refl
named_again r.G5 = refl
named_again r.G6 = refl
named_again r.G7 = refl

fault_named : FileFault → BadFile
fault_named (file.encoding fault) = bad.Cbor fault
fault_named (file.breaks item rule) = bad.Rule item (named_rule rule)
fault_named (file.trailing at) = bad.Trailing at

named_fault : (fault : FileFault) → fault_of (fault_named fault) ≡ fault
unfolding fault_named
named_fault (file.encoding fault) = refl
named_fault (file.breaks item rule) = ap (file.breaks item) (rule_named rule)
named_fault (file.trailing at) = refl

fault_again : (why : BadFile) → fault_named (fault_of why) ≡ why
unfolding fault_named
fault_again (bad.Cbor fault) = refl
fault_again (bad.Rule item rule) = ap (bad.Rule item) (named_again rule)
fault_again (bad.Trailing at) = refl

-- A fault has one name.
one_name : (why other : BadFile) → fault_of why ≡ fault_of other → why ≡ other
one_name why other e = sym (fault_again why) ∙ ap fault_named e ∙ fault_again other

-- ---- files

one_base : (word : ℕ) (bytes : List ℕ) → HasOne (taken_base word bytes)
one_base word bytes (Ok u) (Ok w) p q = refl
one_base word bytes (Ok u) (Err q) none (is, other) = absurd (none other)
one_base word bytes (Err p) (Ok u) (is, other) none = absurd (none other)
one_base word bytes (Err p) (Err q) (is, other) (was, again) = ap Err (is ∙ sym was)

short : (bytes : List ℕ) → length bytes ≤ file_limit → length bytes < 2 ^ 64
short bytes most = let most : length bytes ≤ 16777216 = most in omega arith

one_spelled : (word : ℕ) (bytes : List ℕ) → HasOne (spelled word bytes)
one_spelled word bytes (Ok f) (Ok g) p q = ap Ok (one_file bytes f g (short bytes p.most) p.spells q.spells)
one_spelled word bytes (Ok f) (Err q) p (why, is, fault) = absurd (files_have_none bytes f (fault_of why) (short bytes p.most) p.spells fault)
one_spelled word bytes (Err p) (Ok f) (why, is, fault) q = absurd (files_have_none bytes f (fault_of why) (short bytes q.most) q.spells fault)
one_spelled word bytes (Err p) (Err q) (why, is, fault) (other, was, same) =
    ap Err (is ∙ ap (s.BadFile word) (one_name why other (one_fault bytes (fault_of why) (fault_of other) fault same)) ∙ sym was)

one_read : (word : ℕ) (kinds : List Kind) (load : Loaded) → HasOne (file_of word kinds load)
one_read word kinds load =
    one_then _ _ (one_exactly (read word load)) (λ bytes. one_then (scanned word bytes) _ (one_then _ _ (one_base word bytes) (λ u. one_spelled word bytes))
    (λ f. one_exactly _))

one_itemized : (bytes : List ℕ) → HasOne (itemized bytes)
one_itemized bytes (Ok o) (Ok p) (xs, spells, is) (ys, again, was) =
    ap Ok (is ∙ ap (λ (zs : List Item). record { text = notation_lines zs; stored = None }) (Spells-unique bytes xs ys spells again) ∙ sym was)
one_itemized bytes (Ok o) (Err q) (xs, spells, is) (fault, was, flaw) = absurd (Spells-no_flaw bytes xs flaw.stop spells flaw.is_flaw)
one_itemized bytes (Err q) (Ok o) (fault, was, flaw) (xs, spells, is) = absurd (Spells-no_flaw bytes xs flaw.stop spells flaw.is_flaw)
one_itemized bytes (Err p) (Err q) (fault, is, flaw) (other, was, same) = ap Err (is ∙ ap (λ f. s.BadFile 1 (bad.Cbor f)) (HasFlaw-unique bytes fault other flaw same) ∙ sym was)

-- ---- commands

one_input : (kinds : List Kind) (loads : Loads) (made : File → Result Outcome Status) → HasOne (file_of 1 kinds loads.input >>= λ f. exactly (made f))
one_input kinds loads made = one_then _ _ (one_read 1 kinds loads.input) (λ f. one_exactly (made f))

one_of : (loads : Loads) (c : Command) → HasOne (made_of loads c)
one_of loads (found document n name) = one_exactly _
one_of loads (edit name e) = one_input member_files loads (edited e)
one_of loads (ack name) = one_input member_files loads acknowledged
one_of loads (show name) = one_input based_files loads shown
one_of loads (status name) = one_input based_files loads (λ f. printed (status_text f))
one_of loads (log name) = one_input all_files loads listed
one_of loads (bundle_since name vector out) = one_input member_files loads (bundled vector)
one_of loads (deliver name offered) =
    one_then _ _ (one_read 1 member_files loads.input) (λ f. one_then (file_of 2 (file.bundle ∷ []) loads.second) (λ b. exactly (delivered f b)) (one_read 2 (file.bundle ∷ []) loads.second) (λ b. one_exactly _))
one_of loads (trim name) = one_input member_files loads trimmed
one_of loads (snapshot_of name out) = one_input member_files loads snapped
one_of loads (release name m) = one_input member_files loads (released m)
one_of loads (begin_from source m name) = one_input based_files loads (begun m)
one_of loads (check name) = one_input all_files loads checked
one_of loads (items name) = one_then (exactly (read 1 loads.input)) itemized (one_exactly _) one_itemized

pub one_made : (loads : Loads) (order : Order) → HasOne (order_made loads order)
one_made loads (command c) = one_of loads c
one_made loads (play name) = one_then _ _ (one_exactly _) (λ bytes. one_exactly _)
one_made loads (sample seed size name) = one_exactly _

-- An order means one outcome over loads.
pub one_meant : (loads : Loads) (order : Order) → HasOne (order_meaning loads order)
one_meant loads order = one_then _ _ (one_made loads order) (λ o. one_then _ _ (one_exactly _) (λ u. one_exactly _))

one_said : (line : ℕ) (words : List (List ℕ)) → HasOne (said line words)
one_said line words (Ok one) (Ok other) p q = ap Ok (one_order words one other p q)
one_said line words (Ok one) (Err q) p (word, was, wrong) = absurd (spelled_not_wrong words one word p wrong)
one_said line words (Err p) (Ok other) (word, is, wrong) q = absurd (spelled_not_wrong words other word q wrong)
one_said line words (Err p) (Err q) (word, is, wrong) (again, was, same) = ap Err (is ∙ ap (s.Words line) (one_first_wrong words word again wrong same) ∙ sym was)

-- Words give one order or one refusal.
pub one_ordered : (line : ℕ) (words : List (List ℕ)) → HasOne (ordered line words)
one_ordered line words = one_then _ _ (one_exactly _) (λ u. one_then _ _ (one_said line words) (λ order. one_then _ _ (one_exactly _) (λ v. one_exactly _)))

-- Words mean one outcome over loads.
pub one_outcome : (loads : Loads) (line : ℕ) (words : List (List ℕ)) → HasOne (meaning loads line words)
one_outcome loads line words = one_then _ _ (one_ordered line words) (λ order. one_meant loads order)

-- ---- some outcome

some_read : {B : Type 0} (word : ℕ) (load : Loaded) (next : List ℕ → Meaning B) (found : Result (List ℕ) Status) → read word load ≡ found → IsOfBytes load
    → ((bytes : List ℕ) → IsBytes bytes → length bytes ≤ file_limit → HasSome (next bytes)) → HasSome (exactly (read word load) >>= next)
some_read word load next (Ok bytes) e is each =
    let brings = read_is word load bytes (sym e) in
    let (outcome, goes) = each bytes (subst IsOfBytes brings.0 is) brings.1 in
    (outcome, (Ok bytes, sym e, goes))
some_read word load next (Err refusal) e is each = (Err refusal, (Err refusal, sym e, refl))

some_base : (word : ℕ) (bytes : List ℕ) → IsBytes bytes → length bytes ≤ file_limit → HasSome (taken_base word bytes)
some_base word bytes is most = ⊎_elim (λ other. (Err (s.NotBuilt word), (refl, other))) (λ none. (Ok tt, none)) (other_base_or_not bytes is most)

some_spelled : (word : ℕ) (bytes : List ℕ) → IsBytes bytes → length bytes ≤ file_limit → HasSome (spelled word bytes)
some_spelled word bytes is most =
    ⊎_elim (λ x. (Ok x.0, record { spells = x.1; most = most }))
    (λ y. (Err (s.BadFile word (fault_named y.0)), (fault_named y.0, refl, subst (HasFault bytes) (sym (named_fault y.0)) y.1))) (file_or_fault bytes is)

some_file : (word : ℕ) (kinds : List Kind) (load : Loaded) → IsOfBytes load → HasSome (file_of word kinds load)
some_file word kinds load is =
    some_read word load (opened word kinds) (read word load) refl is
    (λ bytes each most. some_then (scanned word bytes) (λ f. exactly (of_kind word kinds f))
    (some_then (taken_base word bytes) (λ u. spelled word bytes) (some_base word bytes each most) (λ u. some_spelled word bytes each most)) (λ f. some_exactly (of_kind word kinds f)))

some_itemized : (bytes : List ℕ) → IsBytes bytes → HasSome (itemized bytes)
some_itemized bytes is =
    ⊎_elim (λ x. (Ok (record { text = notation_lines x.0; stored = None }), (x.0, x.1, refl)))
    (λ y. (Err (s.BadFile 1 (bad.Cbor y.0)), (y.0, refl, y.1))) (flawed_or_spelled bytes is)

some_input : (kinds : List Kind) (loads : Loads) (made : File → Result Outcome Status) → AreOfBytes loads → HasSome (file_of 1 kinds loads.input >>= λ f. exactly (made f))
some_input kinds loads made are = some_then (file_of 1 kinds loads.input) (λ f. exactly (made f)) (some_file 1 kinds loads.input are.input) (λ f. some_exactly (made f))

some_of : (loads : Loads) (c : Command) → AreOfBytes loads → HasSome (made_of loads c)
some_of loads (found document n name) are = some_exactly (founded document n)
some_of loads (edit name e) are = some_input member_files loads (edited e) are
some_of loads (ack name) are = some_input member_files loads acknowledged are
some_of loads (show name) are = some_input based_files loads shown are
some_of loads (status name) are = some_input based_files loads (λ f. printed (status_text f)) are
some_of loads (log name) are = some_input all_files loads listed are
some_of loads (bundle_since name vector out) are = some_input member_files loads (bundled vector) are
some_of loads (deliver name offered) are =
    some_then (file_of 1 member_files loads.input) (λ f. file_of 2 (file.bundle ∷ []) loads.second >>= λ b. exactly (delivered f b)) (some_file 1 member_files loads.input are.input)
    (λ f. some_then (file_of 2 (file.bundle ∷ []) loads.second) (λ b. exactly (delivered f b)) (some_file 2 (file.bundle ∷ []) loads.second are.second) (λ b. some_exactly (delivered f b)))
some_of loads (trim name) are = some_input member_files loads trimmed are
some_of loads (snapshot_of name out) are = some_input member_files loads snapped are
some_of loads (release name m) are = some_input member_files loads (released m) are
some_of loads (begin_from source m name) are = some_input based_files loads (begun m) are
some_of loads (check name) are = some_input all_files loads checked are
some_of loads (items name) are = some_read 1 loads.input itemized (read 1 loads.input) refl are.input (λ bytes is most. some_itemized bytes is)

some_made : (loads : Loads) (order : Order) → AreOfBytes loads → HasSome (order_made loads order)
some_made loads (command c) are = some_of loads c are
some_made loads (play name) are =
    some_then (exactly (read 1 loads.input)) (λ bytes. exactly (printed [])) (some_exactly (read 1 loads.input)) (λ bytes. some_exactly (printed []))
some_made loads (sample seed size name) are = some_exactly (sampled seed size)

-- An order means something over loads of bytes.
pub some_meant : (loads : Loads) (order : Order) → AreOfBytes loads → HasSome (order_meaning loads order)
some_meant loads order are =
    some_then (order_made loads order) (λ o. exactly (unused (roles order).new loads.new) >>= λ u. exactly (sized (answered (roles order) o))) (some_made loads order are)
    (λ o. some_then (exactly (unused (roles order).new loads.new)) (λ u. exactly (sized (answered (roles order) o))) (some_exactly (unused (roles order).new loads.new)) (λ u. some_exactly (sized (answered (roles order) o))))

some_said : (line : ℕ) (words : List (List ℕ)) → HasSome (said line words)
some_said line words = ⊎_elim (λ x. (Ok x.0, x.1)) (λ y. (Err (s.Words line y.0), (y.0, refl, y.1))) (spelled_or_wrong words)

some_ordered : (line : ℕ) (words : List (List ℕ)) → HasSome (ordered line words)
some_ordered line words =
    some_then (exactly (taken_words words)) (λ u. said line words >>= λ order. exactly (taken_order order) >>= λ v. exactly (Ok order)) (some_exactly (taken_words words))
    (λ u. some_then (said line words) (λ order. exactly (taken_order order) >>= λ v. exactly (Ok order)) (some_said line words)
    (λ order. some_then (exactly (taken_order order)) (λ v. exactly (Ok order)) (some_exactly (taken_order order)) (λ v. some_exactly (Ok order))))

-- Any words mean something over loads of bytes.
pub some_outcome : (loads : Loads) (line : ℕ) (words : List (List ℕ)) → AreOfBytes loads → HasSome (meaning loads line words)
some_outcome loads line words are = some_then (ordered line words) (λ order. order_meaning loads order) (some_ordered line words) (λ order. some_meant loads order are)
