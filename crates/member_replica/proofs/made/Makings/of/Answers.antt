use Rattle.member_replica.proofs.MadeLaws.{making_none}
use Rattle.member_replica.proofs.SoundLaws.{untrimmed_from}
use Rattle.member_replica.proofs.made.Makings.of.Goals as goal

pub returns : goal.returns
returns c =
    let f = c.args.parts.now in
    making_none f (record { counts = c.counts.result; time = c.last_time.result; spelled = c.new.result; notes = c.new-2.result }) (untrimmed_from f c.requires c.head.ensures.is_file c.head.ensures.base)
    c.counts.ensures c.last_time.ensures c.new.ensures.items c.new-2.ensures.items
