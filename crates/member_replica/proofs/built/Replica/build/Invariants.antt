use Rattle.std.proofs.Common.{◌*◌, take}
use Rattle.doc_store.specs.Documents.{DecodesSome}
use Rattle.member_replica.specs.Work.{operations_in}
use Rattle.member_replica.proofs.BuildLaws.{IsBuilt}
use Rattle.member_replica.proofs.built.Replica.build.Given as goal

abbrev pub invariant-kept : goal.invariant-kept
invariant-kept l = record { built : IsBuilt l.fn.parts l.i l.holding; decoded : DecodesSome l.initial.tally l.tally (2 * operations_in (take l.i l.fn.parts.kept)) }
