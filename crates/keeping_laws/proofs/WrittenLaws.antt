-- What is written as the spelling of what a command stores is a stored file.
use Rattle.std.proofs.Common.{◌≡◌, List, ℕ, refl}
use Rattle.model.specs.Change.{Change}
use Rattle.model.specs.Command as commands
use Rattle.model.specs.Command.{Command, Reads, Stored, Stores, found, edit, ack, deliver, trim, release, bundle_since, snapshot_of, begin_from, of_found, of_edit, of_ack, of_deliver, of_trim, of_release, of_bundle, of_snapshot, of_begin}
use Rattle.model.specs.File.{File, IsFile, spell_file}
use Rattle.model.specs.Stands.{Files, Ledgers, Stands}
use Rattle.model.specs.World.{document_of}
use Rattle.ledger_laws.proofs.CommandLaws.{read_stands}
use Rattle.ledger_laws.specs.Commands.{AreStored}
use Rattle.keeping_laws.specs.Keeping.{KeepsRules}
use Rattle.keeping_laws.specs.Writing.{AreWritten, IsMeant, WrittenAreStored}
use Rattle.keeping_laws.proofs.KeptFiles.{stored_keep_rules}
use Rattle.keeping_laws.proofs.NewFiles.{found_keeps_rules}

module _ (files : Files) (ledgers : Ledgers) where
  -- what is read of its document stands for its ledger
  abbrev pub ReadsStand : File → Type 0
  ReadsStand file = (name : List ℕ) (f : File) (h : List Change) → Reads files ledgers name f h → document_of f ≡ document_of file → Stands f h

  keeps : (name : List ℕ) (f : File) (h : List Change) → Reads files ledgers name f h → Stands f h → KeepsRules f h
  keeps name f h r stands = stored_keep_rules r.file.0 f h r.file.2 stands

  pub stores_files : (c : Command) (s : Stored) → ReadsStand s.file → Stores files ledgers c s → IsMeant files c → IsFile s.file
  stores_files (found _ _ _) s stand (of_found document name n) is = found_keeps_rules document n is
  stores_files (edit _ _) s stand (of_edit name e f h cs r made) is = (keeps name f h r (stand name f h r refl)).edited e cs is made
  stores_files (ack _) s stand (of_ack name f h cs r made) is = (keeps name f h r (stand name f h r refl)).acknowledged cs made
  stores_files (deliver _ _) s stand (of_deliver name offered f b h r hb of) is = (keeps name f h r (stand name f h r refl)).delivered hb.0 b (is f r.file) hb.2 of.members
  stores_files (trim _) s stand (of_trim name f h r) is = (keeps name f h r (stand name f h r refl)).trimmed
  stores_files (release _ _) s stand (of_release name m f h r) is = (keeps name f h r (stand name f h r refl)).released m
  stores_files (bundle_since _ _ _) s stand (of_bundle name vector out f h r) is = (keeps name f h r (stand name f h r refl)).bundled vector
  stores_files (snapshot_of _ _) s stand (of_snapshot name out f h r) is = (keeps name f h r (stand name f h r refl)).snapshot
  stores_files (begin_from _ _ _) s stand (of_begin source name m f h r) is = (keeps source f h r (stand source f h r refl)).begun m (is f r.file)
  stores_files (commands.show _) s stand x is = elim x [ ]
  stores_files (commands.status _) s stand x is = elim x [ ]
  stores_files (commands.log _) s stand x is = elim x [ ]
  stores_files (commands.check _) s stand x is = elim x [ ]
  stores_files (commands.items _) s stand x is = elim x [ ]

pub are_stored : (files next : Files) (s : Stored) → IsFile s.file → AreWritten files next s → AreStored files next s
are_stored files next s file w = record { holds = (spell_file s.file, w.written, record { spells = record { is_file = file; whole = refl }; most = w.most }); others = w.others }

pub written_are_stored : WrittenAreStored
written_are_stored files next ledgers c s stand stores is w = are_stored files next s (stores_files files ledgers c s (λ name f h r _. read_stands files ledgers name f h stand r) stores is) w
