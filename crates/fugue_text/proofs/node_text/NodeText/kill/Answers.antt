use Rattle.std.proofs.Common.{◌≡◌, ◌∙◌, ap, sym, subst, ℕ, ◌-◌, cond, arith}
use Rattle.std.specs.FinMap.{find}
use Rattle.op_ids.specs.Order.{id_cmp}
use Rattle.model.specs.View.{is_live}
use Rattle.fugue_tree.specs.Tree.{AreChildren}
use Rattle.fugue_text.specs.Runs.{IsText, rows_in}
use Rattle.fugue_text.proofs.CountLaws.{alive_change, rising_of}
use Rattle.fugue_text.proofs.TextLaws.{text_killed}
use Rattle.fugue_text.proofs.node_text.NodeText.kill.Goals as goal
use Rattle.fugue_text.proofs.node_text.NodeText.kill.Goals.{After-live_without-live}

pub kill-was_alive-requires-clause-rising : goal.kill-was_alive-requires-clause-rising
kill-was_alive-requires-clause-rising c = rising_of _ c.self.invariant.tree

now : (c : After-live_without-live) → IsText c.kill-was_alive.new.runs.entries c.self.inside.children c.live_without-live.result
now c =
    let rows = rows_in c.self.inside.runs.entries in
    let w : ℕ = cond (is_live (find id_cmp c.args.id rows)) 1 0 in
    let less : c.live_without-live.result ≡ c.self.inside.live - w = c.live_without-live.ensures ∙ ap (λ b. c.self.inside.live - cond b 1 0) c.kill-was_alive.ensures.alive in
    let all = alive_change c.args.id rows (rising_of rows c.self.invariant.tree) in
    let old = c.self.invariant.counted in
    text_killed c.self.inside.runs.entries c.kill-was_alive.new.runs.entries c.self.inside.children c.self.inside.children c.self.inside.live c.self.invariant c.kill-was_alive.ensures.filled
    (subst (λ rs. AreChildren rs c.self.inside.children) (sym c.kill-was_alive.ensures.starts) c.self.invariant.index) c.args.id c.live_without-live.result c.kill-was_alive.ensures.rows (omega (arith, less, all, old))

pub invariant_of-self : goal.invariant_of-self
invariant_of-self c = now (goal.at.invariant_of-self c).After-live_without-live

pub returns-clause-tree : goal.returns-clause-tree
returns-clause-tree c = (now (goal.at.returns-clause-tree c).After-live_without-live).tree
