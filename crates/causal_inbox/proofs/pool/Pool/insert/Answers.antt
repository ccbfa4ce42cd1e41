use Rattle.std.proofs.Common.{◌∙◌, sym, ap, subst}
use Rattle.std.specs.List.{find}
use Rattle.std.specs.BTreeMap.{insert_entry}
use Rattle.model.specs.Change.{has_name, name_of, placed}
use Rattle.model.specs.Settle.{name_before}
use Rattle.causal_inbox.specs.Names.{key_of, key_cmp}
use Rattle.causal_inbox.proofs.NameLaws.{Lacks, lacks, placed_put}
use Rattle.causal_inbox.proofs.PoolLaws.{Keyed, vals, rise, inserted}
use Rattle.causal_inbox.proofs.pool.Pool.insert.Goals as goal

pub invariant_of-self-2 : goal.invariant_of-self-2
invariant_of-self-2 c =
    let es = c.self.inside.blocks.entries in
    let b = c.args.block in
    let e = c.in_ok-insert.ensures.entries ∙ ap (λ k. insert_entry key_cmp es k b) c.name_in-name.ensures in
    let l : Lacks (key_of b) (vals es) = lacks (key_of b) (vals es) (ap (find (has_name (name_of b))) c.self.view_is ∙ c.requires) in
    subst Keyed (sym e) (inserted b es c.self.invariant l).1

pub returns-clause-ok : goal.returns-clause-ok
returns-clause-ok c =
    let es = c.self.inside.blocks.entries in
    let b = c.args.block in
    let e = c.in_ok-insert.ensures.entries ∙ ap (λ k. insert_entry key_cmp es k b) c.name_in-name.ensures in
    let l : Lacks (key_of b) (vals es) = lacks (key_of b) (vals es) (ap (find (has_name (name_of b))) c.self.view_is ∙ c.requires) in
    let r = rise es c.self.invariant c.in_ok-insert.ensures.was_ordered in
    ap vals e ∙ (inserted b es c.self.invariant l).0 ∙ sym (placed_put b (vals es) r l) ∙ ap (placed name_before b) c.self.view_is
