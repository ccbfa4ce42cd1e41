-- What commands store keeps the rules of files.
use Rattle.std.specs.Prelude.{◌≡◌, ℕ, ◌<◌, List, Ok}
use Rattle.model.specs.Change.{Change}
use Rattle.model.specs.Command.{made_edit, made_acks, with_made, stored_edit, settled, stored_settled, stored_trimmed, stored_snapshot, stored_released, stored_bundle, stored_begun, new_file}
use Rattle.model.specs.Edit.{Edit}
use Rattle.model.specs.File.{File, IsFile, member_file}
use Rattle.model.specs.Held.{held}
use Rattle.model.specs.Stands.{Stands, IsStored}
use Rattle.keeping_laws.specs.Forms.{IsEdit, IsDocument}

-- Whatever a command stores of a file with this ledger keeps every rule: an edit whose words are in form, acknowledgements, a
-- delivery of a stored bundle to a member file, a trim, and new files of it.
pub record KeepsRules (f : File) (h : List Change) : Type 0 where
  pub edited : (e : Edit) (cs : List Change) → IsEdit e → made_edit f.members (held f.members h) f.mine e ≡ Ok cs → IsFile (stored_edit f (with_made h cs))
  pub acknowledged : (cs : List Change) → made_acks f.members (held f.members) h f.mine ≡ Ok cs → IsFile (stored_edit f (with_made h cs))
  pub delivered : (bytes : List ℕ) (b : File) → f.kind ≡ member_file → IsStored bytes b → b.members ≡ f.members → IsFile (stored_settled f (settled f h b.kept))
  pub trimmed : IsFile (stored_trimmed f h)
  pub snapshot : IsFile (stored_snapshot f h)
  pub released : (m : ℕ) → IsFile (stored_released f m)
  pub bundled : (vector : List ℕ) → IsFile (stored_bundle f vector)
  pub begun : (m : ℕ) → m < f.members → IsFile (stored_begun f m)

-- A stored file that stands for a ledger. How many bytes the new file has is judged apart.
abbrev pub StoredKeepRules : Type 0
StoredKeepRules = (bytes : List ℕ) (f : File) (h : List Change) → IsStored bytes f → Stands f h → KeepsRules f h

-- A new document keeps every rule.
abbrev pub FoundKeepsRules : Type 0
FoundKeepsRules = (document : List ℕ) (n : ℕ) → IsDocument document n → IsFile (new_file document n)
