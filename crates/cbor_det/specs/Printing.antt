-- Private: what is left to read and to print of an item, between two heads.
use Rattle.std.specs.Prelude.{◌≡◌, ◌≤◌, ℕ, Bool, true, false, List, [], ◌∷◌, ◌++◌, map, codes, decimal, encode_utf8, Option, None, Some}
use Rattle.std.specs.List.{AllByRecursion}
use Rattle.cbor_det.specs.declared.printing.Task.{Task}
use Rattle.cbor_det.specs.declared.printing.Task.TheVariants as tasks
use Rattle.cbor_det.specs.Item.{Item, Items, Pairs, item_count, pair_count, spell, spell_items, spell_pairs, AreItems, ArePairs, nesting_items, nesting_pairs, max_nesting, IsSpelled}
use Rattle.cbor_det.specs.Flaw.{Start, leaf, open_list, open_map, open_tag}
use Rattle.cbor_det.specs.Notation.{others, joined, notation, notations, pair_notations}

-- ---- what an item begins with

-- what is printed of a start
abbrev pub start_text : Start → List ℕ
start_text (leaf x) = notation x
start_text (open_list n) = codes "["
start_text (open_map n) = codes "{"
start_text (open_tag n) = decimal n ++ codes "("

-- what is open behind it
abbrev pub opened_by : Start → Option Task
opened_by (leaf x) = None
opened_by (open_list n) = Some (tasks.Items n true 93)
opened_by (open_map n) = Some (tasks.Pairs n true)
opened_by (open_tag n) = Some (tasks.Items 1 true 41)

-- ---- what is left of one that is open

-- items and the character that closes them, pairs, or the value of a key and pairs; whether none was printed
pub data Todo : Type 0 where
  items_left : Items → Bool → ℕ → Todo
  pairs_left : Pairs → Bool → Todo
  value_left : Item → Pairs → Todo

abbrev pub ArePrinted : Pairs → Type 0
ArePrinted ps = (before : Option (List ℕ)) × ArePairs before ps × (nesting_pairs ps ≤ max_nesting)

abbrev pub IsTodo : Todo → Type 0
IsTodo (items_left xs first close) = AreItems xs × (nesting_items xs ≤ max_nesting)
IsTodo (pairs_left ps first) = ArePrinted ps
IsTodo (value_left v ps) = IsSpelled v × ArePrinted ps

-- as the machine keeps it
abbrev pub task_of : Todo → Task
task_of (items_left xs first close) = tasks.Items (item_count xs) first close
task_of (pairs_left ps first) = tasks.Pairs (pair_count ps) first
task_of (value_left v ps) = tasks.Value (pair_count ps)

abbrev pub todo_bytes : Todo → List ℕ
todo_bytes (items_left xs first close) = spell_items xs
todo_bytes (pairs_left ps first) = spell_pairs ps
todo_bytes (value_left v ps) = spell v ++ spell_pairs ps

abbrev pub listed : Bool → List (List ℕ) → List ℕ
listed true texts = joined texts
listed false texts = others texts

abbrev pub todo_text : Todo → List ℕ
todo_text (items_left xs first close) = listed first (notations xs) ++ encode_utf8 close
todo_text (pairs_left ps first) = listed first (pair_notations ps) ++ codes "}"
todo_text (value_left v ps) = codes ": " ++ (notation v ++ (others (pair_notations ps) ++ codes "}"))

-- what is printed before the next of several
abbrev pub comma : Bool → List ℕ
comma true = []
comma false = codes ", "

-- Once what stands before the next item is printed, that item and the rest are left; or, where nothing is left,
-- all was printed.
abbrev pub GoesOn : Todo → List ℕ → List ℕ → Option Task → Type 0
GoesOn t before after None = (todo_bytes t ≡ []) × (after ≡ before ++ todo_text t)
GoesOn t before after (Some task) = (x : Item) × (u : Todo) × IsSpelled x × IsTodo u × (task ≡ task_of u) × (todo_bytes t ≡ spell x ++ todo_bytes u) × (after ++ (notation x ++ todo_text u) ≡ before ++ todo_text t)

-- ---- the machine

-- of several that enclose each other, the outermost first
abbrev pub owed_bytes : List Todo → List ℕ
owed_bytes [] = []
owed_bytes (t ∷ ts) = owed_bytes ts ++ todo_bytes t

abbrev pub owed_text : List Todo → List ℕ
owed_text [] = []
owed_text (t ∷ ts) = owed_text ts ++ todo_text t

-- All of the text is printed once the rest of what is open is, and then these bytes follow.
pub record IsPrinting (whole more : List ℕ) (kept : List Task) (rest out : List ℕ) : Type 0 where
  pub todos : List Todo
  pub are_todos : AllByRecursion IsTodo todos
  pub tasks : kept ≡ map task_of todos
  pub left : rest ≡ owed_bytes todos ++ more
  pub printed : out ++ owed_text todos ≡ whole

-- the same, where an item is wanted first
pub record WantsItem (whole more : List ℕ) (kept : List Task) (rest out : List ℕ) : Type 0 where
  pub x : Item
  pub todos : List Todo
  pub is_item : IsSpelled x
  pub are_todos : AllByRecursion IsTodo todos
  pub tasks : kept ≡ map task_of todos
  pub left : rest ≡ spell x ++ (owed_bytes todos ++ more)
  pub printed : out ++ (notation x ++ owed_text todos) ≡ whole

-- an item stands first
abbrev pub StandsFirst : List ℕ → Type 0
StandsFirst rest = (x : Item) × (more : List ℕ) × IsSpelled x × (rest ≡ spell x ++ more)
