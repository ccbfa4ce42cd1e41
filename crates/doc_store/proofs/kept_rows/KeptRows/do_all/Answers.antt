use Rattle.std.proofs.Common.{◌∙◌, sym, subst}
use Rattle.doc_store.proofs.WorkLaws.{Doing, doing_none, doing_next, no_more}
use Rattle.doc_store.proofs.kept_rows.KeptRows.do_all.Goals as goal

pub loop-id-init : goal.loop-id-init
loop-id-init g c = doing_none c.args.self.now (g.S.OpSource.left c.args.ops) c.args.tally.now c.new-moves.result.items c.new-moves.ensures.items c.requires

pub loop-id-preserved : goal.loop-id-preserved
loop-id-preserved g c =
    let start = c.args.self.now in
    let all = g.S.OpSource.left c.args.ops in
    let left = g.S.OpSource.left c.next_op.new.self in
    let d = subst (Doing start all c.args.tally.now c.loop-id.self c.loop-id.moves.items c.loop-id.tally) c.in-Some.ensures.handed c.loop-id.invariant in
    subst (λ w. Doing start all c.args.tally.now c.do_op.new.self c.loop-id.moves.items w left) (sym c.in-Some.ensures.counted)
    (doing_next start all c.args.tally.now c.loop-id.self c.loop-id.moves.items c.loop-id.tally _ left c.do_op.new.self c.loop-id.moves.items d c.in_ok-do_op.ensures (no_more c.loop-id.moves.items _ (sym c.move_by.ensures ∙ c.in_default-move_by.is)))
