-- What a stage of a run answers, before anything is stored or printed.
use Rattle.std.specs.Prelude.{Result, Ok, Err}
use Rattle.outline_meaning.specs.declared.status.Status.{Status}
use Rattle.outline_meaning.specs.Ending.{Ending, ending, done, unstored, unprinted, no_memory, refused}
use Rattle.outline_meaning.specs.Meaning.{Meaning}

abbrev pub RefusesAs : {A : Type 0} → Ending → Meaning A → Status → Type 0
RefusesAs done meant status = ⊥
RefusesAs unstored meant status = ⊥
RefusesAs unprinted meant status = ⊥
RefusesAs no_memory meant status = Unit {0}
RefusesAs refused meant status = meant (Err status)

-- A status in place of a value: the refusal that is meant, a load that failed being one, or want of memory.
abbrev pub Refuses : {A : Type 0} → Meaning A → Status → Type 0
Refuses meant status = RefusesAs (ending status) meant status

-- What was answered, seen by view, is what is meant.
abbrev pub Follows : {X A : Type 0} → (X → A) → Result X Status → Meaning A → Type 0
Follows view (Ok x) meant = meant (Ok (view x))
Follows view (Err status) meant = Refuses meant status
