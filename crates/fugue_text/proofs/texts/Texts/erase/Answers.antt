use Rattle.std.proofs.Common.{◌≡◌, ◌∙◌, ap, sym}
use Rattle.op_ids.specs.declared.OpId.{OpId}
use Rattle.model.specs.State.{edit_row, killed}
use Rattle.fugue_text.specs.Texts.{Table}
use Rattle.fugue_text.proofs.NodeLaws as laws
use Rattle.fugue_text.proofs.NodeLaws.{Nodes}
use Rattle.std.proofs.Common.{fold, suc, ◌+◌, arith}
use Rattle.model.specs.State.{run_of}
use Rattle.fugue_text.proofs.texts.Texts.erase.Goals as goal

pub loop-k-preserved : goal.loop-k-preserved
loop-k-preserved c =
    let step : c.loop-k.k + 1 ≡ suc c.loop-k.k = omega arith in
    let g : Table → OpId → Table = λ rows k. edit_row rows (c.args.node, k) killed in
    c.kill.ensures.now ∙ (λ i. edit_row (c.loop-k.invariant i) (c.args.node, c.plus.ensures i) killed) ∙ sym (laws.fold_more g c.args.self.now c.args.first c.loop-k.k) ∙ ap (λ m. fold g c.args.self.now (run_of c.args.first m)) (sym step)
