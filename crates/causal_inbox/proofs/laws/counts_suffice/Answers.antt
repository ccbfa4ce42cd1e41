use Rattle.causal_inbox.proofs.CountLaws.{counts_suffice}
use Rattle.causal_inbox.proofs.laws.counts_suffice.Goals as goal

pub returns : goal.returns
returns c = counts_suffice
