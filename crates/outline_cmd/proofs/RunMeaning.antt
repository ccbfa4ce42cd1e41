-- What a run shows of files that are told, and which ledgers files stand for after it.
use Rattle.std.proofs.Common.{◌≡◌, List, ℕ, Some, Ok, Err, inl, inr, sym, ap, subst, ◌∙◌}
use Rattle.std.specs.Option.{option_map}
use Rattle.std.proofs.lemmas.Option.{same_Some}
use Rattle.outside.specs.Files.{Files, file_at}
use Rattle.outside.specs.Seen.{Seen}
use Rattle.outside.specs.Sink.{appended}
use Rattle.model.specs.Change.{Change}
use Rattle.model.specs.Command.{Command, show}
use Rattle.model.specs.Stands.{Ledgers, AllStand}
use Rattle.outline_words.specs.Table.{Order, command, Spell}
use Rattle.outline_words.proofs.OrderForms.{in_form}
use Rattle.outline_words.proofs.SpellLaws.{one_order}
use Rattle.outline_meaning.specs.declared.status.Status.{Status}
use Rattle.outline_meaning.specs.declared.status.Status.TheVariants as s
use Rattle.outline_meaning.specs.Meaning.{Meaning, Answer, Roles, roles, Loads, ordered, order_meaning, meaning}
use Rattle.outline_meaning.specs.Run.{AreOf, AreLoads, Outside, with_store, Stored, Printed, Answers, Runs}
use Rattle.outline_meaning.specs.Ledgers.{ShowsFile, ShowsLedger, IsDone, KeepsLedgers}
use Rattle.outline_input.proofs.Loads.{of_load}
use Rattle.outline_cmd.proofs.OrderLaws.{given_parts, given_once}
use Rattle.outline_meaning.proofs.LedgerMeaning.{IsShown, is_shown, one_held, shown_of_ledger, keeps_ledgers}

-- The loads of a run bring what its files hold, where they are told.
pub loads_of : (old new : Seen) (files : Files) (r : Roles) (loads : Loads) → old.files ≡ Some files → AreLoads old new r loads → AreOf files r loads
loads_of old new files r loads told are = record {
  input = of_load old new files r.input loads.input told are.input;
  second = of_load old new files r.second loads.second told are.second;
  new_file = of_load old new files r.new loads.new told are.new_file;
}

-- the answer of words is that of their command
order_answers : (loads : Loads) (line : ℕ) (words : List (List ℕ)) (a : Answer) → meaning loads line words (Ok a) → (order : Order) × ordered line words (Ok order) × order_meaning loads order (Ok a)
order_answers loads line words a (Ok order, goes, means) = (order, goes, means)
order_answers loads line words a (Err q, goes, is) = absurd cc

-- what a run answers that stands
done_answers : (status : Status) (meant : Meaning Answer) (before after : Outside) → IsDone status → Answers status meant before after → (a : Answer) × meant (Ok a) × Stored a.store before after
done_answers status meant before after (inl is) answers = let (a, means, store, text) = subst (λ (t : Status). Answers t meant before after) is answers in (a, means, store)
done_answers status meant before after (inr is) answers = let (a, means, store, text, rose) = subst (λ (t : Status). Answers t meant before after) is answers in (a, means, store)

module _ (status : Status) (words : List (List ℕ)) (before after : Outside) (run : Runs status 0 words before after) (files : Files) (told : before.keeper.files ≡ Some files) where
  of_files : (order : Order) → ordered 0 words (Ok order) → AreOf files (roles order) run.loads
  of_files order goes = loads_of before.keeper after.keeper files (roles order) run.loads told (run.loaded order goes)

  -- what was shown, and that it was printed
  record HasShown (name : List ℕ) : Type 0 where
    answer : Answer
    shown : IsShown files name answer
    text : Printed answer.text before.sink.written after.sink.written

  has_shown : (name : List ℕ) → Spell words (command (show name)) → status ≡ s.Done → HasShown name
  has_shown name spell is =
      let (a, means, store, text) = subst (λ (t : Status). Answers t (meaning run.loads 0 words) before after) is run.answers in
      let (order, goes, made) = order_answers run.loads 0 words a means in
      let same : order ≡ command (show name) = one_order words order (command (show name)) (given_parts 0 words order goes).0 spell in
      record {
        answer = a;
        shown = is_shown files name run.loads a (subst (λ (o : Order). AreOf files (roles o) run.loads) same (of_files order goes)) (subst (λ (o : Order). order_meaning run.loads o (Ok a)) same made);
        text = text;
      }

  shows_file : (name : List ℕ) → HasShown name → ShowsFile files name before.sink.written after.sink.written
  shows_file name has = record {
    file = has.shown.file;
    held = has.shown.held;
    only = λ other held. one_held files name has.shown.file other has.shown.held held;
    printed = has.text ∙ ap (appended before.sink.written) has.shown.text;
  }

  shows_ledger : (ledgers : Ledgers) (name : List ℕ) (h : List Change) → AllStand (file_at files) ledgers → ledgers name ≡ Some h → HasShown name → ShowsLedger h before.sink.written after.sink.written
  shows_ledger ledgers name h stand known has = has.text ∙ ap (appended before.sink.written) (shown_of_ledger files ledgers name h has.answer stand known has.shown)

  keeps : (now : Files) (ledgers : Ledgers) (c : Command) → after.keeper.files ≡ Some now → AllStand (file_at files) ledgers → ordered 0 words (Ok (command c)) → IsDone status → KeepsLedgers files now ledgers c
  keeps now ledgers c left stand goes is =
      let (a, means, store) = done_answers status (meaning run.loads 0 words) before after is run.answers in
      let (order, given, made) = order_answers run.loads 0 words a means in
      let same : order ≡ command c = given_once 0 words order (command c) given goes in
      let spell = (given_parts 0 words (command c) goes).0 in
      let kept = keeps_ledgers files ledgers c run.loads a stand (in_form words (command c) spell) (of_files (command c) goes) (subst (λ (o : Order). order_meaning run.loads o (Ok a)) same made) in
      let is_now : with_store a.store files ≡ now = same_Some (with_store a.store files) now (sym (ap (option_map (with_store a.store)) told) ∙ sym store ∙ left) in
      subst (λ (fs : Files). KeepsLedgers files fs ledgers c) is_now kept

-- What `show` printed is the view of the one file value under the name.
pub run_shows : (status : Status) (words : List (List ℕ)) (before after : Outside) → Runs status 0 words before after → (files : Files) (name : List ℕ) → before.keeper.files ≡ Some files
    → Spell words (command (show name)) → status ≡ s.Done → ShowsFile files name before.sink.written after.sink.written
run_shows status words before after run files name told spell is = shows_file status words before after run files told name (has_shown status words before after run files told name spell is)

-- Where that file stands for a ledger, it is the view of replaying it.
pub run_shows_ledger : (status : Status) (words : List (List ℕ)) (before after : Outside) → Runs status 0 words before after
    → (files : Files) (ledgers : Ledgers) (name : List ℕ) (h : List Change) → before.keeper.files ≡ Some files → AllStand (file_at files) ledgers → ledgers name ≡ Some h
    → Spell words (command (show name)) → status ≡ s.Done → ShowsLedger h before.sink.written after.sink.written
run_shows_ledger status words before after run files ledgers name h told stand known spell is =
    shows_ledger status words before after run files told ledgers name h stand known (has_shown status words before after run files told name spell is)

-- What a command leaves stands for the ledgers that it makes of those before.
pub run_keeps_ledgers : (status : Status) (words : List (List ℕ)) (before after : Outside) → Runs status 0 words before after
    → (files now : Files) (ledgers : Ledgers) (c : Command) → before.keeper.files ≡ Some files → after.keeper.files ≡ Some now → AllStand (file_at files) ledgers → ordered 0 words (Ok (command c))
    → IsDone status → KeepsLedgers files now ledgers c
run_keeps_ledgers status words before after run files now ledgers c told left stand goes is = keeps status words before after run files told now ledgers c left stand goes is
