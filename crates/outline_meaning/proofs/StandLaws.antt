-- What files with the empty base stand for.
use Rattle.std.proofs.Common.{◌≡◌, ℕ, ◌<◌, true, List, [], Some, None, sym, ap, ◌∙◌, arith}
use Rattle.std.specs.List.{AllByRecursion}
use Rattle.std.proofs.lemmas.Option.{same_Some}
use Rattle.model.specs.Change.{Change}
use Rattle.model.specs.Base.{Base, base_of, rows_of_changes}
use Rattle.model.specs.Held.{held, waits}
use Rattle.model.specs.State.{after, atoms, replay}
use Rattle.model.specs.File.{File}
use Rattle.model.specs.Reading.{state_in, unfit_in}
use Rattle.model.specs.Stands.{Stands}
use Rattle.model_laws.proofs.ListLaws.{all_more}
use Rattle.model_laws.proofs.TrimLaws.{past_all, up_to_none}
use Rattle.ledger_laws.proofs.FileLaws.{kept_fit, timed}
use Rattle.member_replica.proofs.SoundLaws as kept
use Rattle.member_replica.proofs.SoundLaws.{untrimmed_from, base_is, unfit_is, kept_are_sound}
use Rattle.outline_meaning.specs.Opened.{IsUntrimmed}

pub untrimmed : (f : File) → IsUntrimmed f → kept.IsUntrimmed f
untrimmed f is = untrimmed_from f is.kind is.scanned.stored.spells.is_file is.scanned.base

-- Its document is that of its changes.
pub state_is : (f : File) → kept.IsUntrimmed f → state_in f ≡ replay f.kept
state_is f is = ap (λ (b : Base). after b.state (atoms f.kept)) (base_is f is)

-- the base in the place of some changes
base_for : ℕ → ℕ → List Change → Base
base_for n time early = record { horizon = time; rows = rows_of_changes n early; state = replay early }

-- It stands for the ledger of its changes, if they fit and what waits in it waits.
pub untrimmed_stands : (f : File) → IsUntrimmed f → unfit_in f ≡ None → AllByRecursion (λ c. waits f.members (held f.members f.kept) c ≡ true) f.waiting → Stands f f.kept
unfolding base_for
untrimmed_stands f is fit waiting =
    let whole = untrimmed f is in
    let sound = kept_are_sound f whole fit in
    let some = timed f.members f.kept sound in
    record {
      kind = is.kind;
      sound = sound;
      horizon = 0;
      reached = omega arith;
      base = whole.base ∙ ap (λ early. Some (base_for f.members 0 early)) (sym (up_to_none 0 f.kept some));
      kept = sym (past_all 0 f.kept some);
      waiting = waiting;
    }

-- It stands for no other.
pub stands_alone : (f : File) (h : List Change) → kept.IsUntrimmed f → Stands f h → h ≡ f.kept
stands_alone f h is stands =
    let zero_horizon : stands.horizon ≡ 0 = ap (λ b. b.horizon) (same_Some (base_of f.members h stands.horizon) (base_of f.members [] 0) (sym stands.base ∙ is.base)) in
    let later = all_more (λ c. 0 < c.time) (λ c. stands.horizon < c.time) (λ c some. omega arith) h (timed f.members h stands.sound) in
    sym (past_all stands.horizon h later) ∙ sym stands.kept

-- Where it stands for it they fit.
pub stands_fit : (f : File) → kept.IsUntrimmed f → Stands f f.kept → unfit_in f ≡ None
stands_fit f is stands = unfit_is f is ∙ kept_fit f f.kept (base_of f.members [] 0) stands is.base
