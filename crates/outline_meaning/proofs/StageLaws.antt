-- Stages one after the other answer what the steps of a meaning mean.
use Rattle.std.proofs.Common.{◌≡◌, Result, Ok, Err, refl, ap}
use Rattle.outline_meaning.specs.declared.status.Status.{Status}
use Rattle.outline_meaning.specs.Ending.{Ending, ending, done, unstored, unprinted, no_memory, refused}
use Rattle.outline_meaning.specs.Meaning.{◌>>=◌, Meaning, exactly}
use Rattle.outline_meaning.specs.Follows.{RefusesAs, Refuses, Follows}
use Rattle.outline_meaning.proofs.StepLaws.{on, goes_on}

refuses_first_as : {A B : Type 0} (e : Ending) (first : Meaning A) (next : A → Meaning B) (status : Status) → RefusesAs e first status → RefusesAs e (first >>= next) status
refuses_first_as done first next status h = h
refuses_first_as unstored first next status h = h
refuses_first_as unprinted first next status h = h
refuses_first_as no_memory first next status h = h
refuses_first_as refused first next status h = (Err status, h, refl)

-- what the first step refuses is refused
pub refuses_first : {A B : Type 0} (first : Meaning A) (next : A → Meaning B) (status : Status) → Refuses first status → Refuses (first >>= next) status
refuses_first first next status h = refuses_first_as (ending status) first next status h

refuses_next_as : {A B : Type 0} (e : Ending) (first : Meaning A) (next : A → Meaning B) (x : A) (status : Status) → first (Ok x) → RefusesAs e (next x) status → RefusesAs e (first >>= next) status
refuses_next_as done first next x status goes h = h
refuses_next_as unstored first next x status goes h = h
refuses_next_as unprinted first next x status goes h = h
refuses_next_as no_memory first next x status goes h = h
refuses_next_as refused first next x status goes h = (Ok x, goes, h)

-- behind a step that goes on, what the others refuse is refused
pub refuses_next : {A B : Type 0} (first : Meaning A) (next : A → Meaning B) (x : A) (status : Status) → first (Ok x) → Refuses (next x) status → Refuses (first >>= next) status
refuses_next first next x status goes h = refuses_next_as (ending status) first next x status goes h

-- behind a step that goes on, the others follow
pub follows_next : {X A B : Type 0} (view : X → B) (first : Meaning A) (next : A → Meaning B) (x : A) (result : Result X Status) → first (Ok x) → Follows view result (next x) → Follows view result (first >>= next)
follows_next view first next x (Ok y) goes h = (Ok x, goes, h)
follows_next view first next x (Err status) goes h = refuses_next first next x status goes h

refuses_as : {A B : Type 0} (e : Ending) (first : Meaning A) (second : Meaning B) (status : Status) → (first (Err status) → second (Err status)) → RefusesAs e first status → RefusesAs e second status
refuses_as done first second status then h = h
refuses_as unstored first second status then h = h
refuses_as unprinted first second status then h = h
refuses_as no_memory first second status then h = h
refuses_as refused first second status then h = then h

-- What one step refuses, another refuses that means the same.
pub refuses_by : {A B : Type 0} (first : Meaning A) (second : Meaning B) (status : Status) → (first (Err status) → second (Err status)) → Refuses first status → Refuses second status
refuses_by first second status then h = refuses_as (ending status) first second status then h

-- What follows one meaning follows another that means the same.
pub follows_by : {X A : Type 0} (view : X → A) (first second : Meaning A) (result : Result X Status) → ((r : Result A Status) → first r → second r) → Follows view result first → Follows view result second
follows_by view first second (Ok x) then h = then (Ok (view x)) h
follows_by view first second (Err status) then h = refuses_by first second status (then (Err status)) h

-- ---- steps with one outcome each

pub refuses_on : {A B : Type 0} (first : Result A Status) (next : A → Result B Status) (status : Status) → Refuses (exactly first) status → Refuses (exactly (on first next)) status
refuses_on first next status h = refuses_by (exactly first) (exactly (on first next)) status (ap (λ s. on s next)) h

pub refuses_behind : {A B : Type 0} (first : Result A Status) (next : A → Result B Status) (x : A) (status : Status) → Ok x ≡ first → Refuses (exactly (next x)) status → Refuses (exactly (on first next)) status
refuses_behind first next x status goes h = refuses_by (exactly (next x)) (exactly (on first next)) status (goes_on first next x (Err status) goes) h
