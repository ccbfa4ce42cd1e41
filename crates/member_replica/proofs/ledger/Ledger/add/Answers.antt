use Rattle.std.proofs.Common.{List, sym, ap, subst, ◌∙◌}
use Rattle.std.specs.BTreeMap.{insert_entry}
use Rattle.op_ids.specs.Order.{stamp_cmp}
use Rattle.model.specs.Change.{Change}
use Rattle.model.specs.Ledger.{add}
use Rattle.member_replica.proofs.LedgerLaws.{Stamped, vals, stand_in_order, inserted}
use Rattle.member_replica.proofs.ledger.Ledger.add.Goals as goal

pub invariant_of-self-2 : goal.invariant_of-self-2
invariant_of-self-2 c =
    let es = c.self.inside.blocks.entries in
    let b = c.args.block in
    let e = c.in_ok-insert.ensures.entries ∙ ap (λ k. insert_entry stamp_cmp es k b) c.stamp_in-stamp.ensures in
    subst Stamped (sym e) (inserted b es c.self.invariant (stand_in_order es c.self.invariant c.in_ok-insert.ensures.was_ordered)).1

pub returns-clause-ok : goal.returns-clause-ok
returns-clause-ok c =
    let es = c.self.inside.blocks.entries in
    let b = c.args.block in
    let e = c.in_ok-insert.ensures.entries ∙ ap (λ k. insert_entry stamp_cmp es k b) c.stamp_in-stamp.ensures in
    ap vals e ∙ (inserted b es c.self.invariant (stand_in_order es c.self.invariant c.in_ok-insert.ensures.was_ordered)).0 ∙ ap (λ (cs : List Change). add cs b) c.self.view_is
