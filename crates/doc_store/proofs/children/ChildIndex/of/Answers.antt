use Rattle.std.proofs.Common.{◌-◌, arith}
use Rattle.doc_store.proofs.ViewLaws.{finds_drop}
use Rattle.doc_store.proofs.children.ChildIndex.of.Goals as goal

pub loop-left-preserved : goal.loop-left-preserved
loop-left-preserved c =
    let within = c.loop-left.invariant.within in
    record {
      within = omega (arith, within);
      finds = finds_drop (record { children = c.loop-left.children }) (record { children = c.insert.new.self }) c.args.rows.now (c.loop-left.left - 1) c.loop-left.left _ (omega (arith, within, c.loop-left-test.true)) (omega (arith, c.loop-left-test.true))
          c.in_ok-insert.ensures.updates.0 c.loop-left.invariant.finds;
    }
