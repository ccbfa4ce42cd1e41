-- What a command says, without where its words lie in memory.
use Rattle.std.specs.Prelude.{◌≡◌, ◌≤◌, ℕ, List, IsUtf8}
use Rattle.std.specs.List.{AllByRecursion}
use Rattle.std.specs.Char.{IsScalar}
use Rattle.std.specs.Str.{chars}
use Rattle.model.specs.Value as model
use Rattle.model.specs.Text.{hex}
use Rattle.model.specs.Edit as edits
use Rattle.model.specs.Edit.{Edit}
use Rattle.model.specs.Command as commands
use Rattle.op_grammar.specs.declared.value.Value.TheVariants as plain
use Rattle.outline_words.specs.declared.command.Command.{Command}
use Rattle.outline_words.specs.declared.command.Command.TheVariants as c
use Rattle.outline_words.specs.declared.command.WordValue.{WordValue}
use Rattle.outline_words.specs.declared.command.WordValue.TheVariants as v
use Rattle.outline_words.specs.Forms.{IsDocument, IsWordValue}
use Rattle.outline_words.specs.Table.{Order, command, play, sample, edited, Spell}

-- What the word of a value says. Bytes are left as their digits.
abbrev pub SaysValue : WordValue → model.Value → Type 0
SaysValue (v.Plain plain.Null) value = value ≡ model.null
SaysValue (v.Plain (plain.Bool b)) value = value ≡ model.truth b
SaysValue (v.Plain (plain.Int n)) value = value ≡ model.integer n
SaysValue (v.Plain (plain.Text t)) value = value ≡ model.text t.now
SaysValue (v.Plain (plain.Bytes b)) value = ⊥
SaysValue (v.Digits digits) value = (bytes : List ℕ) × (value ≡ model.bytes bytes) × (digits.now ≡ hex bytes)

abbrev pub Says : Command → Order → Type 0
Says (c.Found document n name) order = order ≡ command (commands.found document n name.now)
Says (c.New name parent i) order = order ≡ edited name.now (edits.new_child parent i)
Says (c.Move name child parent i) order = order ≡ edited name.now (edits.move_child child parent i)
Says (c.Trash name child) order = order ≡ edited name.now (edits.trash_child child)
Says (c.Put name node key value) order = (said : model.Value) × SaysValue value said × (order ≡ edited name.now (edits.put_value node key.now said))
Says (c.Unset name node key) order = order ≡ edited name.now (edits.unset_key node key.now)
Says (c.TypeText name node at text) order = order ≡ edited name.now (edits.type_at node at (chars text.now))
Says (c.Erase name node at count) order = order ≡ edited name.now (edits.erase_at node at count)
Says (c.Add name node at value) order = (said : model.Value) × SaysValue value said × (order ≡ edited name.now (edits.add_at node at said))
Says (c.Shift name node from to) order = order ≡ edited name.now (edits.shift_to node from to)
Says (c.Set name node at value) order = (said : model.Value) × SaysValue value said × (order ≡ edited name.now (edits.set_at node at said))
Says (c.DropItem name node at) order = order ≡ edited name.now (edits.drop_at node at)
Says (c.Ack name) order = order ≡ command (commands.ack name.now)
Says (c.Show name) order = order ≡ command (commands.show name.now)
Says (c.Status name) order = order ≡ command (commands.status name.now)
Says (c.Log name) order = order ≡ command (commands.log name.now)
Says (c.Bundle name vector out) order = order ≡ command (commands.bundle_since name.now vector out.now)
Says (c.Deliver name bundle) order = order ≡ command (commands.deliver name.now bundle.now)
Says (c.Trim name) order = order ≡ command (commands.trim name.now)
Says (c.Snapshot name out) order = order ≡ command (commands.snapshot_of name.now out.now)
Says (c.Release name member) order = order ≡ command (commands.release name.now member)
Says (c.Begin source member name) order = order ≡ command (commands.begin_from source.now member name.now)
Says (c.Check name) order = order ≡ command (commands.check name.now)
Says (c.Items name) order = order ≡ command (commands.items name.now)
Says (c.Play name) order = order ≡ play name.now
Says (c.Sample seed size name) order = order ≡ sample seed size name.now

-- The words spell an order, and this is a command that says it.
abbrev pub IsGiven : List (List ℕ) → Command → Type 0
IsGiven words given = (order : Order) × Says given order × Spell words order

-- each word is a text
abbrev pub AreTexts : List (List ℕ) → Type 0
AreTexts words = AllByRecursion IsUtf8 words

-- What an order's words say is in form: texts are UTF-8, characters are scalar values, numbers are within their bounds.
abbrev pub IsWordEdit : Edit → Type 0
IsWordEdit (edits.new_child parent i) = Unit {0}
IsWordEdit (edits.move_child child parent i) = Unit {0}
IsWordEdit (edits.trash_child child) = Unit {0}
IsWordEdit (edits.put_value node key value) = IsUtf8 key × IsWordValue value
IsWordEdit (edits.unset_key node key) = IsUtf8 key
IsWordEdit (edits.type_at node at characters) = AllByRecursion IsScalar characters
IsWordEdit (edits.erase_at node at count) = Unit {0}
IsWordEdit (edits.add_at node at value) = IsWordValue value
IsWordEdit (edits.shift_to node from to) = Unit {0}
IsWordEdit (edits.set_at node at value) = IsWordValue value
IsWordEdit (edits.drop_at node at) = Unit {0}

abbrev pub IsOrder : Order → Type 0
IsOrder (command (commands.found document n name)) = IsDocument document × (1 ≤ n) × (n ≤ 32)
IsOrder (command (commands.edit name e)) = IsWordEdit e
IsOrder _ = Unit {0}
