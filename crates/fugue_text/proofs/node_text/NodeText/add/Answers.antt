use Rattle.std.proofs.Common.{◌≡◌, ◌∙◌, ap, sym, subst, None}
use Rattle.std.specs.FinMap.{find}
use Rattle.op_ids.specs.Order.{id_cmp}
use Rattle.model.specs.Operation.{Anchor}
use Rattle.walk_laws.specs.Insertion.{HangsWell}
use Rattle.fugue_text.specs.Runs.{IsText, TextRows, letter_at, places, rows_in}
use Rattle.fugue_text.proofs.CountLaws.{rising_of}
use Rattle.fugue_text.proofs.TextLaws.{text_put}
use Rattle.fugue_text.proofs.node_text.NodeText.add.Goals as goal
use Rattle.fugue_text.proofs.node_text.NodeText.add.Goals.{In_ok-add}

pub add-requires-clause-rising : goal.add-requires-clause-rising
add-requires-clause-rising c = rising_of _ c.self.invariant.tree

now : (c : In_ok-add) → IsText c.add.new.runs.entries c.add.new.children c.in_ok-live.live
now c =
    let es = c.self.inside.runs.entries in
    let a : Anchor = record { on = c.args.anchor; side = c.args.side } in
    let fresh : find id_cmp c.args.id (rows_in es) ≡ None = ap (find id_cmp c.args.id) c.self.view_is ∙ c.requires.fresh in
    let hangs : HangsWell (places (rows_in es)) c.args.id a = subst (λ (rs : TextRows). HangsWell (places rs) c.args.id a) (sym c.self.view_is) c.requires.hangs in
    subst (IsText c.add.new.runs.entries c.add.new.children) (sym c.in_ok-live.ensures)
    (text_put es c.add.new.runs.entries c.self.inside.children c.add.new.children c.self.inside.live c.self.invariant c.in_ok-add.ensures.filled c.in_ok-add.ensures.index c.args.id (letter_at a c.args.letter) c.in_ok-add.ensures.ok fresh c.requires.no_head hangs)

pub invariant_of-self-2 : goal.invariant_of-self-2
invariant_of-self-2 c = now (goal.at.invariant_of-self-2 c).In_ok-add

pub returns-clause-tree : goal.returns-clause-tree
returns-clause-tree c = (now (goal.at.returns-clause-tree c).In_ok-add).tree
