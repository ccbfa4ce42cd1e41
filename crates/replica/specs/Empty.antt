-- The base of no changes.
use Rattle.std.specs.Prelude.{ℕ, [], ◌∷◌, replicate, Option, None, Some}
use Rattle.cbor_det.specs.Item as cbor
use Rattle.model.specs.Value.{numbers_item}
use Rattle.model.specs.Base.{Base, base_of}
use Rattle.model.specs.File.{Kind, bundle}

-- of n members
abbrev pub empty_base : ℕ → Base
empty_base n = base_of n [] 0

-- the base of a file of this kind that has no other
abbrev pub base_in : Kind → ℕ → Option Base
base_in bundle n = None
base_in _ n = Some (empty_base n)

-- the row of a member who made no change and knows of none
abbrev pub empty_row_item : ℕ → cbor.Item
empty_row_item n = cbor.row (cbor.unsigned 0 ∷ cbor.unsigned 0 ∷ numbers_item (replicate n 0) ∷ [])
