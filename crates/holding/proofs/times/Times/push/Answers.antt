use Rattle.holding.proofs.TimesLaws.{pushed}
use Rattle.holding.proofs.times.Times.push.Goals as goal

pub returns : goal.returns
returns c =
    pushed (λ times. times.items) c.self.inside.members.items c.args.self.now c.from.result c.args.member c.args.time c.index_mut.result.now c.push.new.self c.self.view_is c.from.ensures c.requires c.index_mut.ensures.value c.in_ok-push.ensures.items
