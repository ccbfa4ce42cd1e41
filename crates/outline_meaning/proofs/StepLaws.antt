-- Steps of which each has one outcome.
use Rattle.std.proofs.Common.{◌≡◌, Result, Ok, Err, ap, ◌∙◌}
use Rattle.outline_meaning.specs.declared.status.Status.{Status}

-- what a step gives, and then what the next makes of it
abbrev pub on : {A B : Type 0} → Result A Status → (A → Result B Status) → Result B Status
on (Ok x) next = next x
on (Err refusal) next = Err refusal

-- Where the first step is done, the outcome is that of the next.
pub goes_on : {A B : Type 0} (first : Result A Status) (next : A → Result B Status) (x : A) (outcome : Result B Status) → Ok x ≡ first → outcome ≡ next x → outcome ≡ on first next
goes_on first next x outcome goes is = is ∙ ap (λ s. on s next) goes
