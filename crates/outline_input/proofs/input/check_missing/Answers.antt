use Rattle.std.proofs.Common.{refl}
use Rattle.outline_meaning.specs.Meaning.{whole}
use Rattle.outside.specs.Seen.{seen_by}
use Rattle.outline_input.proofs.Loads.{has_bytes, some_load}
use Rattle.outline_input.proofs.input.check_missing.Goals as goal

pub returns-in-Ok-Got-clause-loaded : goal.returns-in-Ok-Got-clause-loaded
returns-in-Ok-Got-clause-loaded g c =
    let seen = seen_by g.K.Keeper.files g.K.Keeper.load_faults g.K.Keeper.store_faults g.K.Keeper.failed in
    let l = has_bytes (seen c.args.keeper.now) (seen c.load.new.self) c.args.name.now 0 c.in-Ok-Got.field-0-0 c.load.new.into c.in-Ok-Got.field-0 c.in-Ok-Got.field-0-is (λ files told. c.in-Ok-Got.ensures.answer files told) in
    (whole l.0, l.1, refl)

pub returns-in-Err-NoMemory-clause-loaded : goal.returns-in-Err-NoMemory-clause-loaded
returns-in-Err-NoMemory-clause-loaded g c =
    let seen = seen_by g.K.Keeper.files g.K.Keeper.load_faults g.K.Keeper.store_faults g.K.Keeper.failed in
    let l = some_load (seen c.args.keeper.now) (seen c.load.new.self) c.args.name.now in
    (l.0, l.1, tt)
