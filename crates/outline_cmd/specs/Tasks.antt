-- What a task of the code is to do, and what is made of what its files hold. Private contracts alone cite this.
use Rattle.std.specs.Prelude.{◌≡◌, ℕ, List, Ok}
use Rattle.model.specs.Value as model
use Rattle.model.specs.Edit.{Edit, put_value, add_at, set_at}
use Rattle.model.specs.Command.{found, edit, ack, show, bundle_since, deliver, items}
use Rattle.doc_store.specs.Edits.{edit_of}
use Rattle.outline_words.specs.Commands.{SaysValue, IsOrder}
use Rattle.outline_words.specs.Forms.{IsWordValue}
use Rattle.outline_words.specs.Table.{Order, command}
use Rattle.outline_words.specs.declared.command.WordValue.{WordValue}
use Rattle.outline_words.specs.declared.command.WordValue.TheVariants as v
use Rattle.outline_cmd.specs.declared.edit_words.EditWords.{EditWords}
use Rattle.outline_cmd.specs.declared.scope.Task.{Task}
use Rattle.outline_cmd.specs.declared.scope.Task.TheVariants as t
use Rattle.outline_meaning.specs.Meaning.{Meaning, ◌>>=◌, exactly, Loaded, missing, whole, Loads, Roles, roles, Answer, order_made, answered}
use Rattle.outline_meaning.specs.Outcome.{Outcome}

-- the edit with this value, if it is one that has a value
abbrev pub with_value : Edit → model.Value → Edit
with_value (put_value node key old) value = put_value node key value
with_value (add_at node at old) value = add_at node at value
with_value (set_at node at old) value = set_at node at value
with_value e value = e

-- the edit that the words say, with the value that they say
abbrev pub SaysEdit : EditWords → Edit → Type 0
SaysEdit words e = (said : model.Value) × SaysValue words.value said × IsWordValue said × (e ≡ with_value (edit_of words.edit) said)

-- These are the value's bytes, where a word gives them in digits.
abbrev pub GivesValue : WordValue → model.Value → List ℕ → Type 0
GivesValue (v.Plain plain) value bytes = Unit {0}
GivesValue (v.Digits digits) value bytes = value ≡ model.bytes bytes

abbrev pub Tells : Task → Order → Type 0
Tells (t.Found document members name) order = order ≡ command (found document members name.now)
Tells (t.Edit name words) order = (e : Edit) × SaysEdit words e × (order ≡ command (edit name.now e))
Tells (t.Ack name) order = order ≡ command (ack name.now)
Tells (t.Show name) order = order ≡ command (show name.now)
Tells (t.Items name) order = order ≡ command (items name.now)
Tells (t.Bundle name vector new_name) order = order ≡ command (bundle_since name.now vector new_name.now)
Tells (t.Deliver name offered) order = order ≡ command (deliver name.now offered.now)

-- The task is to do what the order says, whose words are in form.
pub record Does (task : Task) (order : Order) : Type 0 where
  pub tells : Tells task order
  pub in_form : IsOrder order

-- These bytes are the first file's, and this is what loading the second brings.
abbrev pub over : List ℕ → Loaded → Loads
over bytes second = record { input = whole bytes; second = second; new = missing }

-- the answer that is made of an outcome
abbrev pub answering : Roles → Meaning Outcome → Meaning Answer
answering r made = do
  o ← made
  exactly (Ok (answered r o))

-- what an order makes of the bytes of its file, and of its second file
abbrev pub order_made_of : Order → List ℕ → Loaded → Meaning Answer
order_made_of order bytes second = answering (roles order) (order_made (over bytes second) order)
