use Rattle.doc_store.proofs.ReferenceLaws.{key_added, none_added}
use Rattle.doc_store.proofs.made.add_run.Goals as goal

pub loop-k-init : goal.loop-k-init
loop-k-init c = none_added c.args.rows.now c.args.node c.args.first

pub loop-k-preserved : goal.loop-k-preserved
loop-k-preserved c =
    key_added c.args.rows.now c.loop-k.rows c.insert.new.self c.args.node c.args.first c.plus.result c.loop-k.k c.loop-k.invariant c.plus.ensures c.in_ok-insert.ensures.updates.0
