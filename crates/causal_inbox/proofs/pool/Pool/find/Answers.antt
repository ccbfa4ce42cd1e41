use Rattle.std.proofs.Common.{◌∙◌, ap, subst}
use Rattle.std.specs.List.{find}
use Rattle.model.specs.Change.{has_name}
use Rattle.causal_inbox.specs.Names.{name_by, NamesRise}
use Rattle.causal_inbox.proofs.PoolLaws.{found, rise}
use Rattle.causal_inbox.proofs.pool.Pool.find.Goals as goal

pub returns-clause-found : goal.returns-clause-found
returns-clause-found c = c.get.ensures.value ∙ found c.args.name c.self.inside.blocks.entries c.self.invariant ∙ ap (find (has_name (name_by c.args.name))) c.self.view_is

pub returns-clause-rise : goal.returns-clause-rise
returns-clause-rise c = subst NamesRise c.self.view_is (rise c.self.inside.blocks.entries c.self.invariant c.len.ensures.ordered)
