-- What a replica keeps in memory.
use Rattle.std.specs.Prelude.{◌≡◌, ◌≢◌, [], None, Some}
use Rattle.model.specs.Base.{base_of}
use Rattle.model.specs.File.{bundle}
use Rattle.model.specs.Reading.{base_in, unfit_in}
use Rattle.holding.specs.Holds.{Holds}
use Rattle.member_replica.specs.declared.built.Replica.TheInside.{Inside}

-- The file has the base of no changes, its kept changes fit one another, and they are what is held.
pub record IsReplica (r : Inside) : Type 0 where
  pub kind : r.parts.kind ≢ bundle
  pub base : r.parts.base ≡ Some (base_of r.parts.members [] 0)
  pub fit : unfit_in r.parts ≡ None
  pub holds : Holds r.holding r.parts.members (base_in r.parts) r.parts.kept
