-- What a run prints and leaves, of what its stages answered.
use Rattle.std.proofs.Common.{arith, ◌≡◌, ℕ, ◌≤◌, List, Option, None, Some, Result, Ok, Err, ◌⊎◌, inl, inr, refl, sym, ap, subst, ◌∙◌}
use Rattle.std.specs.Prelude.{IsSome}
use Rattle.outside.specs.Faults.{Rose}
use Rattle.outside.specs.Files.{Files}
use Rattle.outside.specs.Seen.{Seen}
use Rattle.outline_words.specs.Table.{Order}
use Rattle.outline_cmd.specs.declared.answer.Answer.{Answer as AnswerStruct}
use Rattle.outline_cmd.specs.declared.answer.Store.{Store as StoreStruct}
use Rattle.outline_meaning.specs.declared.status.Status.{Status}
use Rattle.outline_meaning.specs.declared.status.Status.TheVariants as s
use Rattle.outline_meaning.specs.Ending.{Ending, ending, done, unstored, unprinted, no_memory, refused}
use Rattle.outline_meaning.specs.Meaning.{Meaning, Answer, Loads, missing, ordered, meaning, order_meaning, roles}
use Rattle.outline_meaning.specs.Run.{Given, Outside, outside_by, AreLoads, AnswersAs, Answers, Runs}
use Rattle.outline_meaning.specs.Follows.{Refuses, RefusesAs}
use Rattle.outline_cmd.specs.Stages.{Finishes, answer_of}
use Rattle.outline_input.proofs.Loads.{later_load}
use Rattle.outline_cmd.proofs.OrderLaws.{given_once, refused_or_given}

-- ---- a run that has its answer

-- What finishes with an answer that is meant answers it.
finished : (status : Status) (meant : Meaning Answer) (a : Answer) (before after : Outside) → meant (Ok a)
    → Finishes status a before.keeper.files after.keeper.files before.sink.written after.sink.written
    → (status ≡ s.WriteFault → Rose before.keeper.store_faults after.keeper.store_faults) → (status ≡ s.SinkFault → Rose before.sink.faults after.sink.faults)
    → Answers status meant before after
finished s.Done meant a before after means is store put = (a, means, is.0, is.1)
finished s.WriteFault meant a before after means is store put = ((a, means, is.0), (is.1, is.2), store refl)
finished s.SinkFault meant a before after means is store put = (a, means, is.0, (is.1, is.2), put refl)
finished s.NoMemory meant a before after means is store put = (is.1, is.2)
finished _ meant a before after means is store put = absurd is

-- ---- loads

-- Loads stay those of a command where later calls count no more failed loads.
pub later_loads : (old mid new : Seen) (order : Order) (loads : Loads) → new.load_faults ≡ mid.load_faults → new.last_failed ≡ mid.last_failed → AreLoads old mid (roles order) loads → AreLoads old new (roles order) loads
later_loads old mid new order loads count name are = record {
  input = later_load old mid new (roles order).input loads.input count name are.input;
  second = later_load old mid new (roles order).second loads.second count name are.second;
  new_file = later_load old mid new (roles order).new loads.new count name are.new_file;
}

-- the loads of the command are those of the words
loaded_for : (words : List (List ℕ)) (order : Order) (loads : Loads) (old new : Seen) → ordered 0 words (Ok order) → AreLoads old new (roles order) loads → (other : Order) → ordered 0 words (Ok other)
    → AreLoads old new (roles other) loads
loaded_for words order loads old new goes are other given = subst (λ (o : Order). AreLoads old new (roles o) loads) (given_once 0 words order other goes given) are

-- words mean what their command means
words_mean : (words : List (List ℕ)) (order : Order) (loads : Loads) (outcome : Result Answer Status) → ordered 0 words (Ok order) → order_meaning loads order outcome → meaning loads 0 words outcome
words_mean words order loads outcome goes means = (Ok order, goes, means)

-- ---- runs

refused_as : (e : Ending) (status : Status) (words : List (List ℕ)) (order : Order) (loads : Loads) (before after : Outside) → ordered 0 words (Ok order) → RefusesAs e (order_meaning loads order) status
    → after.keeper.files ≡ before.keeper.files → after.sink.written ≡ before.sink.written → AnswersAs e status (meaning loads 0 words) before after
refused_as done status words order loads before after goes refuses same text = absurd refuses
refused_as unstored status words order loads before after goes refuses same text = absurd refuses
refused_as unprinted status words order loads before after goes refuses same text = absurd refuses
refused_as no_memory status words order loads before after goes refuses same text = (same, text)
refused_as refused status words order loads before after goes refuses same text = (words_mean words order loads (Err status) goes refuses, (same, text))

-- A command that is refused.
pub runs_refused : (status : Status) (words : List (List ℕ)) (order : Order) (loads : Loads) (old new : Seen) (sink : Given) → ordered 0 words (Ok order) → AreLoads old new (roles order) loads
    → Refuses (order_meaning loads order) status → new.files ≡ old.files → new.store_faults ≡ old.store_faults → old.load_faults ≤ new.load_faults → Runs status 0 words (outside_by old sink) (outside_by new sink)
runs_refused status words order loads old new sink goes are refuses files stores later = record {
  loads = loads;
  loaded = loaded_for words order loads old new goes are;
  answers = refused_as (ending status) status words order loads (outside_by old sink) (outside_by new sink) goes refuses files refl;
  worded = λ e. (order, goes);
  tried = inl stores;
  later = record { loads = later; stores = omega (arith, stores); puts = omega arith };
}

wrong_as : (e : Ending) (status : Status) (words : List (List ℕ)) (loads : Loads) (now : Outside) → e ≡ refused → ordered 0 words (Err status) → AnswersAs e status (meaning loads 0 words) now now
wrong_as done status words loads now is wrong = absurd cc
wrong_as unstored status words loads now is wrong = absurd cc
wrong_as unprinted status words loads now is wrong = absurd cc
wrong_as no_memory status words loads now is wrong = absurd cc
wrong_as refused status words loads now is wrong = ((Err status, wrong, refl), (refl, refl))

not_memory : (status : Status) → ending status ≡ refused → status ≡ s.NoMemory → ⊥
not_memory status early is = let other : no_memory ≡ refused = ap ending (sym is) ∙ early in absurd cc

-- Words that are refused.
pub runs_wrong : (status : Status) (words : List (List ℕ)) (now : Outside) → ordered 0 words (Err status) → ending status ≡ refused → Runs status 0 words now now
runs_wrong status words now wrong early =
    let loads : Loads = record { input = missing; second = missing; new = missing } in
    record {
      loads = loads;
      loaded = λ order given. absurd (refused_or_given 0 words order status given wrong);
      answers = wrong_as (ending status) status words loads now early wrong;
      worded = λ e. absurd (not_memory status early e);
      tried = inl refl;
      later = record { loads = omega arith; stores = omega arith; puts = omega arith };
    }

tried_by : (words : List (List ℕ)) (loads : Loads) (answer : AnswerStruct) (store : Option StoreStruct) (old new : ℕ) → answer.store ≡ store → (answer.store ≡ None → new ≡ old) → meaning loads 0 words (Ok (answer_of answer))
    → (new ≡ old) ⊎ ((a : Answer) × meaning loads 0 words (Ok a) × IsSome a.store)
tried_by words loads answer None old new is same means = inl (same is)
tried_by words loads answer (Some store) old new is same means = inr (answer_of answer, means, rw is refl)

-- what a keeper and a sink went through from an answer to its end
pub record Ended (status : Status) (answer : AnswerStruct) (mid new : Seen) (before now : Given) : Type 0 where
  pub finishes : Finishes status (answer_of answer) mid.files new.files before.written now.written
  pub loads : new.load_faults ≡ mid.load_faults
  pub name : new.last_failed ≡ mid.last_failed
  pub untried : answer.store ≡ None → new.store_faults ≡ mid.store_faults
  pub stores : mid.store_faults ≤ new.store_faults
  pub puts : before.faults ≤ now.faults
  pub write_fault : status ≡ s.WriteFault → Rose mid.store_faults new.store_faults
  pub sink_fault : status ≡ s.SinkFault → Rose before.faults now.faults

-- A command that has its answer.
pub runs_finished : (status : Status) (words : List (List ℕ)) (order : Order) (loads : Loads) (answer : AnswerStruct) (old mid new : Seen) (before now : Given) → ordered 0 words (Ok order)
    → AreLoads old mid (roles order) loads → order_meaning loads order (Ok (answer_of answer)) → Ended status answer mid new before now → mid.files ≡ old.files → mid.store_faults ≡ old.store_faults
    → old.load_faults ≤ mid.load_faults → Runs status 0 words (outside_by old before) (outside_by new now)
runs_finished status words order loads answer old mid new before now goes are means end files stores later =
    let all : meaning loads 0 words (Ok (answer_of answer)) = words_mean words order loads (Ok (answer_of answer)) goes means in
    record {
      loads = loads;
      loaded = loaded_for words order loads old new goes (later_loads old mid new order loads end.loads end.name are);
      answers = finished status (meaning loads 0 words) (answer_of answer) (outside_by old before) (outside_by new now) all
          (subst (λ (f : Option Files). Finishes status (answer_of answer) f new.files before.written now.written) files end.finishes)
          (λ e. subst (λ (n : ℕ). Rose n new.store_faults) stores (end.write_fault e)) end.sink_fault;
      worded = λ e. (order, goes);
      tried = tried_by words loads answer answer.store old.store_faults new.store_faults refl (λ none. end.untried none ∙ stores) all;
      later = record { loads = omega (arith, later, end.loads); stores = omega (arith, stores, end.stores); puts = end.puts };
    }
