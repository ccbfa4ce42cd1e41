-- The commands, and the words of each.
use Rattle.std.specs.Prelude.{◌≡◌, ℕ, zero, suc, List, [], ◌∷◌, codes, bytes_eq, find, Option, MatchOption}
use Rattle.model.specs.Edit.{Edit, new_child, move_child, trash_child, put_value, unset_key, type_at, erase_at, add_at, shift_to, set_at, drop_at}
use Rattle.model.specs.Command.{Command, found, edit, ack, show, status, log, bundle_since, deliver, trim, snapshot_of, release, begin_from, check, items}
use Rattle.outline_words.specs.Forms.{Form, document, members, member, place, seed, size, name, node, vector, key, text, value, Meant, IsMeant, word_of, HasForm}

-- What a command line says.
pub data Order : Type 0 where
  command : Command → Order
  -- a script
  play : List ℕ → Order
  -- a seed, a size, and a new file
  sample : ℕ → ℕ → List ℕ → Order

abbrev pub edited : List ℕ → Edit → Order
edited file e = command (edit file e)

-- what words of these forms say together
abbrev pub Saying : List Form → Type 0
Saying [] = Order
Saying (form ∷ forms) = Meant form → Saying forms

-- A command's name, the forms of the words behind it, and what they say.
pub record Row : Type 0 where
  pub called : List ℕ
  pub forms : List Form
  pub saying : Saying forms

abbrev pub row : List ℕ → (forms : List Form) → Saying forms → Row
row called forms saying = record { called = called; forms = forms; saying = saying }

-- The commands.
abbrev pub table : List Row
table =
    row (codes "found") (document ∷ members ∷ name ∷ []) (λ id n file. command (found id n file))
    ∷ row (codes "new") (name ∷ node ∷ place ∷ []) (λ file parent i. edited file (new_child parent i))
    ∷ row (codes "move") (name ∷ node ∷ node ∷ place ∷ []) (λ file child parent i. edited file (move_child child parent i))
    ∷ row (codes "trash") (name ∷ node ∷ []) (λ file child. edited file (trash_child child))
    ∷ row (codes "put") (name ∷ node ∷ key ∷ value ∷ []) (λ file of k v. edited file (put_value of k v))
    ∷ row (codes "unset") (name ∷ node ∷ key ∷ []) (λ file of k. edited file (unset_key of k))
    ∷ row (codes "type") (name ∷ node ∷ place ∷ text ∷ []) (λ file of at characters. edited file (type_at of at characters))
    ∷ row (codes "erase") (name ∷ node ∷ place ∷ place ∷ []) (λ file of at count. edited file (erase_at of at count))
    ∷ row (codes "add") (name ∷ node ∷ place ∷ value ∷ []) (λ file of at v. edited file (add_at of at v))
    ∷ row (codes "shift") (name ∷ node ∷ place ∷ place ∷ []) (λ file of from to. edited file (shift_to of from to))
    ∷ row (codes "set") (name ∷ node ∷ place ∷ value ∷ []) (λ file of at v. edited file (set_at of at v))
    ∷ row (codes "drop") (name ∷ node ∷ place ∷ []) (λ file of at. edited file (drop_at of at))
    ∷ row (codes "ack") (name ∷ []) (λ file. command (ack file))
    ∷ row (codes "show") (name ∷ []) (λ file. command (show file))
    ∷ row (codes "status") (name ∷ []) (λ file. command (status file))
    ∷ row (codes "log") (name ∷ []) (λ file. command (log file))
    ∷ row (codes "bundle") (name ∷ vector ∷ name ∷ []) (λ file counts out. command (bundle_since file counts out))
    ∷ row (codes "deliver") (name ∷ name ∷ []) (λ file bundle. command (deliver file bundle))
    ∷ row (codes "trim") (name ∷ []) (λ file. command (trim file))
    ∷ row (codes "snapshot") (name ∷ name ∷ []) (λ file out. command (snapshot_of file out))
    ∷ row (codes "release") (name ∷ member ∷ []) (λ file m. command (release file m))
    ∷ row (codes "begin") (name ∷ member ∷ name ∷ []) (λ source m file. command (begin_from source m file))
    ∷ row (codes "check") (name ∷ []) (λ file. command (check file))
    ∷ row (codes "items") (name ∷ []) (λ file. command (items file))
    ∷ row (codes "play") (name ∷ []) (λ script. play script)
    ∷ row (codes "sample") (seed ∷ size ∷ name ∷ []) (λ from rounds file. sample from rounds file)
    ∷ []

-- the row of this name
abbrev pub row_of : List ℕ → Option Row
row_of called = find (λ r. bytes_eq called r.called) table

-- ---- words that spell an order

-- The words are one for each form, and what they say together is this order.
abbrev pub Say : (forms : List Form) → Saying forms → List (List ℕ) → Order → Type 0
Say [] saying words order = (words ≡ []) × (order ≡ saying)
Say (form ∷ forms) saying words order =
    (x : Meant form) × (more : List (List ℕ)) × IsMeant form x × (words ≡ word_of form x ∷ more) × Say forms (saying x) more order

-- The words of a command line spell this order.
abbrev pub Spell : List (List ℕ) → Order → Type 0
Spell [] order = ⊥
Spell (called ∷ words) order = MatchOption (row_of called) ⊥ (λ r. Say r.forms r.saying words order)

-- ---- words that spell none: which of them is the first wrong one

-- The first place, from 0, where a word is missing, has another form, or is one too many.
abbrev pub IsWrongAt : List Form → List (List ℕ) → ℕ → Type 0
IsWrongAt [] [] index = ⊥
IsWrongAt [] (word ∷ words) index = index ≡ 0
IsWrongAt (form ∷ forms) [] index = index ≡ 0
IsWrongAt (form ∷ forms) (word ∷ words) zero = HasForm form word → ⊥
IsWrongAt (form ∷ forms) (word ∷ words) (suc index) = HasForm form word × IsWrongAt forms words index

-- The first wrong word of a command line. Word 0 is the command's name.
abbrev pub FirstWrong : List (List ℕ) → ℕ → Type 0
FirstWrong [] word = word ≡ 0
FirstWrong (called ∷ words) word = MatchOption (row_of called) (word ≡ 0) (λ r. (index : ℕ) × (word ≡ suc index) × IsWrongAt r.forms words index)
