use Rattle.std.proofs.Common.{List, ◌++◌, map, sym, ap, ◌∙◌, append-nil}
use Rattle.model.specs.Change.{Change}
use Rattle.causal_inbox.specs.Names.{key_of}
use Rattle.causal_inbox.proofs.inbox.take_names.Goals as goal

pub returns : goal.returns
returns c = sym (append-nil c.loop-block.names) ∙ ap (λ (ds : List Change). c.loop-block.names ++ map key_of ds) (sym c.in_default.ensures.none) ∙ c.loop-block.invariant
