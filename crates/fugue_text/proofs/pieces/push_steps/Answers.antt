use Rattle.std.proofs.Common.{◌∙◌, ap, ◌++◌, map, append_assoc}
use Rattle.std.proofs.lemmas.Result.{on_ok_weaker}
use Rattle.op_ids.specs.declared.Side.TheVariants.{Left, Right}
use Rattle.op_ids.specs.Order.{id_plus}
use Rattle.model.specs.Walk.{hanging}
use Rattle.fugue_text.specs.declared.pieces.Step.TheVariants.{Visit}
use Rattle.fugue_text.specs.Runs.{places, rows_in}
use Rattle.fugue_text.specs.Pieces.{piece_steps}
use Rattle.fugue_text.proofs.CountLaws.{rising_of}
use Rattle.fugue_text.proofs.pieces.push_steps.Goals as goal

pub free_rows-count-requires-clause-rising : goal.free_rows-count-requires-clause-rising
free_rows-count-requires-clause-rising c = rising_of _ c.requires.tree

pub returns : goal.returns
returns c =
    let rows = places (rows_in c.args.runs.now.entries) in
    let old = c.args.stack.now.items in
    let n = c.free_rows-count.result in
    let at = c.plus-next.ensures in
    let next = id_plus c.args.id n in
    let a = piece_steps c.args.id n in
    let b = map Visit (hanging rows next Left) in
    let p = piece_steps next 1 in
    let d = map Visit (hanging rows next Right) in
    on_ok_weaker c.push_hanging-2.result
    (λ e. record {
      count = n;
      free = c.free_rows-count.ensures.free;
      steps = e ∙ (λ i. c.in_ok-push_piece-2.ensures i ++ map Visit (hanging rows (at i) Right))
          ∙ (λ i. (c.in_ok-push_hanging.ensures.ok i ++ piece_steps (at i) 1) ++ d)
          ∙ (λ i. ((c.in_ok-push_piece.ensures i ++ map Visit (hanging rows (at i) Left)) ++ p) ++ d)
          ∙ ap (λ z. (z ++ p) ++ d) (append_assoc old a b) ∙ ap (λ z. z ++ d) (append_assoc old (a ++ b) p) ∙ append_assoc old ((a ++ b) ++ p) d;
    }) c.push_hanging-2.ensures.ok
