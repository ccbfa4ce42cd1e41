use Rattle.std.proofs.Common.{◌≡◌, ◌<◌, ◌∙◌, ap, sym, subst, [], ◌∷◌, ◌++◌, map, flat_map, reverse}
use Rattle.std.proofs.lemmas.List.{append-nil}
use Rattle.op_ids.specs.declared.Side.TheVariants.{Right}
use Rattle.op_ids.specs.Order.{root_id}
use Rattle.model.specs.Walk.{hanging}
use Rattle.fugue_tree.specs.declared.walking.Task.TheVariants.{Visit, Give}
use Rattle.fugue_tree.specs.Tree.{tasks_of}
use Rattle.fugue_tree.proofs.WalkLaws.{given, given_first, given_visit, steps_left, steps_visit, steps_give}
use Rattle.fugue_tree.proofs.TreesLaws.{own_rows}
use Rattle.fugue_tree.proofs.trees.Trees.walk.Goals as goal

pub loop-task-init : goal.loop-task-init
loop-task-init c =
    let rows = own_rows c.args.self.now c.args.owner in
    let first = map Visit (hanging rows root_id Right) in (
      c.in_ok-push_children.ensures.trees c.args.owner,
      ap (λ ts. flat_map (given rows) ts ++ reverse c.new-ids.result.items) (c.in_ok-push_children.ensures.ok ∙ ap (λ ts. ts ++ first) c.new-stack.ensures.items)
          ∙ ap (λ is. flat_map (given rows) first ++ reverse is) c.new-ids.ensures.items ∙ append-nil (flat_map (given rows) first) ∙ given_first rows (c.in_ok-push_children.ensures.trees c.args.owner),
    )

pub loop-task-smaller-in-Continue-branch-2 : goal.loop-task-smaller-in-Continue-branch-2
loop-task-smaller-in-Continue-branch-2 c =
    let rows = own_rows c.args.self.now c.args.owner in
    let rest = c.pop.new.self.items in
    let popped : c.loop-task.stack.items ≡ rest ++ Visit c.in-Visit.id ∷ [] = c.in-Some.ensures.items ∙ ap (λ t. rest ++ t ∷ []) c.in-Visit.is in
    subst (λ ts. steps_left rows ts < steps_left rows c.loop-task.stack.items) (sym c.in_ok-push_tasks-in-Visit.ensures.ok)
    (subst (λ ts. steps_left rows (rest ++ tasks_of rows c.in-Visit.id) < steps_left rows ts) (sym popped) (steps_visit rows c.loop-task.invariant.0 rest c.in-Visit.id))

pub loop-task-preserved-in-Continue-branch-2 : goal.loop-task-preserved-in-Continue-branch-2
loop-task-preserved-in-Continue-branch-2 c =
    let rows = own_rows c.args.self.now c.args.owner in
    let rest = c.pop.new.self.items in
    let out = reverse c.loop-task.ids.items in
    let popped : c.loop-task.stack.items ≡ rest ++ Visit c.in-Visit.id ∷ [] = c.in-Some.ensures.items ∙ ap (λ t. rest ++ t ∷ []) c.in-Visit.is in (
      c.loop-task.invariant.0,
      ap (λ ts. flat_map (given rows) ts ++ out) c.in_ok-push_tasks-in-Visit.ensures.ok ∙ given_visit rows c.loop-task.invariant.0 rest c.in-Visit.id out
          ∙ ap (λ ts. flat_map (given rows) ts ++ out) (sym popped) ∙ c.loop-task.invariant.1,
    )

pub loop-task-smaller : goal.loop-task-smaller
loop-task-smaller c =
    let rows = own_rows c.args.self.now c.args.owner in
    let rest = c.pop.new.self.items in
    let popped : c.loop-task.stack.items ≡ rest ++ Give c.in-Give.id ∷ [] = c.in-Some.ensures.items ∙ ap (λ t. rest ++ t ∷ []) c.in-Give.is in
    subst (λ ts. steps_left rows rest < steps_left rows ts) (sym popped) (steps_give rows c.loop-task.invariant.0 rest c.in-Give.id)
