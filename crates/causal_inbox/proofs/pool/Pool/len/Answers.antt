use Rattle.std.proofs.Common.{List, length, sym, ap, subst, ◌∙◌}
use Rattle.std.proofs.lemmas.List.{length-map}
use Rattle.model.specs.Change.{Change}
use Rattle.causal_inbox.specs.Names.{NamesRise}
use Rattle.causal_inbox.proofs.PoolLaws.{rise}
use Rattle.causal_inbox.proofs.pool.Pool.len.Goals as goal

pub returns-clause-value : goal.returns-clause-value
returns-clause-value c = c.len.ensures.len ∙ sym (length-map c.self.inside.blocks.entries (λ e. e.1)) ∙ ap (λ (ds : List Change). length ds) c.self.view_is

pub returns-clause-rise : goal.returns-clause-rise
returns-clause-rise c = subst NamesRise c.self.view_is (rise c.self.inside.blocks.entries c.self.invariant c.len.ensures.ordered)
