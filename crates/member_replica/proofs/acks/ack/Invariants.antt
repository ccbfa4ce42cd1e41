use Rattle.member_replica.proofs.AckLaws.{Acknowledges}
use Rattle.member_replica.proofs.acks.ack.Given as goal

abbrev pub invariant-mine : goal.invariant-mine
invariant-mine l = Acknowledges l.fn.parts l.i l.makings
