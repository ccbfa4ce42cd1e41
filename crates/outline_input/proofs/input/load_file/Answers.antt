use Rattle.std.proofs.Common.{◌<◌, ◌≤◌, length, refl, sym, ◌∙◌, arith}
use Rattle.std.proofs.lemmas.Result.{err_from_is_err_and}
use Rattle.outside.specs.Files.{file_at}
use Rattle.model.specs.File.{file_limit}
use Rattle.outline_meaning.specs.Meaning.{whole}
use Rattle.outside.specs.Seen.{seen_by}
use Rattle.outline_input.proofs.Loads.{no_front, some_load, quiet_load, read_held, too_long}
use Rattle.outline_input.proofs.input.load_file.Goals as goal

pub returns-in_err-room-clause-loaded : goal.returns-in_err-room-clause-loaded
returns-in_err-room-clause-loaded g c =
    let seen = seen_by g.K.Keeper.files g.K.Keeper.load_faults g.K.Keeper.store_faults g.K.Keeper.failed in
    let l = some_load (seen c.args.keeper.now) (seen c.args.keeper.now) c.args.name.now in
    let p = err_from_is_err_and c.from_residual.result c.from_residual.ensures.1 in
    (l.0, l.1, rw (p.1, p.2) tt)

pub returns-in_err-room-clause-same_failed : goal.returns-in_err-room-clause-same_failed
returns-in_err-room-clause-same_failed g c =
    let p = err_from_is_err_and c.from_residual.result c.from_residual.ensures.1 in
    rw (p.1, p.2) refl

pub loop-keeper-init : goal.loop-keeper-init
loop-keeper-init g c = record {
  room = omega arith;
  told = λ files told. no_front (file_at files c.args.name.now) c.new-bytes.result.items c.new-bytes.ensures.items;
  loads = record { same_files = refl; same_stores = refl; later = omega arith };
  failed = refl;
}

pub returns-in-Ok-End-clause-loaded : goal.returns-in-Ok-End-clause-loaded
returns-in-Ok-End-clause-loaded g c =
    let seen = seen_by g.K.Keeper.files g.K.Keeper.load_faults g.K.Keeper.store_faults g.K.Keeper.failed in
    let same = rw c.in-Ok-End.field-0-is at c.in-Ok-End.ensures.grows in
    let short : length c.load_piece.new.bytes.items ≤ file_limit = omega (arith, same) in (
      whole c.load_piece.new.bytes.items,
      quiet_load (seen c.args.keeper.now) (seen c.load_piece.new.keeper) c.args.name.now (whole c.load_piece.new.bytes.items) (λ e. cc)
          (λ files told. rw c.in-Ok-End.field-0-is at (c.in-Ok-End.ensures.told files (c.loop-keeper.invariant.loads.same_files ∙ told) (c.loop-keeper.invariant.told files told))),
      read_held c.args.word c.load_piece.new.bytes.items short,
    )

pub returns-in-Err-NoMemory-clause-loaded : goal.returns-in-Err-NoMemory-clause-loaded
returns-in-Err-NoMemory-clause-loaded g c =
    let seen = seen_by g.K.Keeper.files g.K.Keeper.load_faults g.K.Keeper.store_faults g.K.Keeper.failed in
    let l = some_load (seen c.args.keeper.now) (seen c.load_piece.new.keeper) c.args.name.now in
    (l.0, l.1, tt)

pub returns-clause-loaded : goal.returns-clause-loaded
returns-clause-loaded g c =
    let seen = seen_by g.K.Keeper.files g.K.Keeper.load_faults g.K.Keeper.store_faults g.K.Keeper.failed in
    let long : file_limit < length c.loop-keeper.bytes.items = omega arith in
    let t = too_long (seen c.args.keeper.now) (seen c.loop-keeper.keeper) c.args.word c.args.name.now c.loop-keeper.bytes.items long c.loop-keeper.invariant.told in
    (t.load, t.is, sym t.reads)
