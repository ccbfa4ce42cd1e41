use Rattle.std.proofs.Common.{◌∙◌, sym, ap, subst}
use Rattle.std.specs.List.{find}
use Rattle.model.specs.Change.{has_name}
use Rattle.causal_inbox.specs.Names.{name_by, others}
use Rattle.causal_inbox.proofs.PoolLaws.{Keyed, vals, found, rise, removed}
use Rattle.causal_inbox.proofs.pool.Pool.remove.Goals as goal

pub invariant_of-self : goal.invariant_of-self
invariant_of-self c = subst Keyed (sym c.remove.ensures.entries) (removed c.args.name c.self.inside.blocks.entries c.self.invariant (rise c.self.inside.blocks.entries c.self.invariant c.len.ensures.ordered)).1

pub returns-clause-taken : goal.returns-clause-taken
returns-clause-taken c = c.remove.ensures.value ∙ found c.args.name c.self.inside.blocks.entries c.self.invariant ∙ ap (find (has_name (name_by c.args.name))) c.self.view_is

pub returns-clause-others : goal.returns-clause-others
returns-clause-others c = ap vals c.remove.ensures.entries ∙ (removed c.args.name c.self.inside.blocks.entries c.self.invariant (rise c.self.inside.blocks.entries c.self.invariant c.len.ensures.ordered)).0 ∙ ap (others c.args.name) c.self.view_is
