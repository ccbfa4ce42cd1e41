-- What the kept changes spell, by their names.
use Rattle.std.specs.Prelude.{◌≡◌, ℕ, Bool, true, false, not, if◌then◌else◌, List, fold, bytes_eq, Option, Some, None}
use Rattle.std.specs.Map.{lookup}
use Rattle.std.specs.BTreeMap.{is_at}
use Rattle.std.specs.Option.{option_map}
use Rattle.std.specs.Borrow.{Bor}
use Rattle.cbor_det.specs.Item.{spell}
use Rattle.model.specs.Change.{Change, has_name, change_item}
use Rattle.causal_inbox.specs.Names.{key_cmp, name_by}

-- The bytes of the changes of one name: none has it, or all that have it have these bytes, or two of them differ.
abbrev pub Mark : Type 0
Mark = Option (Option (List ℕ))

abbrev pub marked_more : Mark → List ℕ → Mark
marked_more None b = Some (Some b)
marked_more (Some None) b = Some None
marked_more (Some (Some a)) b = if bytes_eq a b then Some (Some a) else Some None

abbrev pub marked_by : ℕ × ℕ → Mark → Change → Mark
marked_by k m d = if has_name (name_by k) d then marked_more m (spell (change_item d)) else m

abbrev pub mark_of : List Change → ℕ × ℕ → Mark
mark_of kept k = fold (marked_by k) None kept

-- other bytes than those are among them
abbrev pub mark_differs : Mark → List ℕ → Bool
mark_differs None b = false
mark_differs (Some None) b = true
mark_differs (Some (Some a)) b = not (bytes_eq b a)

abbrev pub Marks : Type 0
Marks = List ((ℕ × ℕ) × Option (List ℕ))

-- bytes wherever they lie in memory
abbrev pub mark_seen : Option (Bor (List ℕ)) → Option (List ℕ)
mark_seen m = option_map (λ b. b.now) m

-- These are the marks of the kept changes.
abbrev pub AreMarks : Marks → List Change → Type 0
AreMarks marks kept = (k : ℕ × ℕ) → lookup (is_at (key_cmp k)) marks ≡ mark_of kept k
