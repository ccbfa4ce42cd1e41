-- Loads that bring bytes, if they bring anything.
use Rattle.cbor_det.specs.Head.{IsBytes}
use Rattle.outline_meaning.specs.Meaning.{Loaded, missing, failed, whole, Loads}

-- a load of bytes, where it brings something
abbrev pub IsOfBytes : Loaded → Type 0
IsOfBytes missing = Unit {0}
IsOfBytes failed = Unit {0}
IsOfBytes (whole bytes) = IsBytes bytes

-- the loads that are read
pub record AreOfBytes (loads : Loads) : Type 0 where
  pub input : IsOfBytes loads.input
  pub second : IsOfBytes loads.second
