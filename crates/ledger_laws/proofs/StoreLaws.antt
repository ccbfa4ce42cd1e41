-- What is stored of a file that stands for a ledger stands for it.
use Rattle.std.proofs.Common.{◌≢◌, refl, arith}
use Rattle.model.specs.File.{member_file, bundle, snapshot}
use Rattle.model.specs.Stability.{horizon_of}
use Rattle.ledger_laws.specs.Storing.{StoredFilesStand}

pub not_bundle : snapshot ≢ bundle
not_bundle e = cc

pub no_bundle : member_file ≢ bundle
no_bundle e = cc

pub stored_files_stand : StoredFilesStand
stored_files_stand f h s = record {
  trimmed = record { kind = s.kind; sound = s.sound; horizon = horizon_of f.members h; reached = omega arith; base = refl; kept = refl; waiting = s.waiting };
  snapshot = record { kind = not_bundle; sound = s.sound; horizon = horizon_of f.members h; reached = omega arith; base = refl; kept = refl; waiting = tt };
  released = λ m. record { kind = s.kind; sound = s.sound; horizon = s.horizon; reached = s.reached; base = s.base; kept = s.kept; waiting = s.waiting };
  begun = λ m. record { kind = no_bundle; sound = s.sound; horizon = s.horizon; reached = s.reached; base = s.base; kept = s.kept; waiting = tt };
}
