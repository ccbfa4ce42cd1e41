-- Blocks as changes.
use Rattle.std.specs.Prelude.{◌≡◌, length}
use Rattle.cbor_det.specs.Item.{spell}
use Rattle.model.specs.Change.{Change, IsChange, change_item, body}
use Rattle.op_grammar.specs.Changes.{head_of}
use Rattle.lazy_blocks.specs.Spelled.{change_in}
use Rattle.lazy_blocks.specs.declared.block.Block.TheInside.{Inside}

-- the change, of as many members as the head has causes, that the bytes spell
abbrev pub change_by : Inside → Change
change_by b = change_in (length b.head.causes) b.span.now

-- The bytes spell a change, and the head and the body are that change's.
pub record HasParts (b : Inside) (c : Change) : Type 0 where
  pub is : IsChange (length b.head.causes) c
  pub span : b.span.now ≡ spell (change_item c)
  pub head : b.head ≡ head_of c
  pub body : b.body.now ≡ body c.operations

abbrev pub IsBlock : Inside → Type 0
IsBlock b = HasParts b (change_by b)
