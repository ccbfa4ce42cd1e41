use Rattle.std.proofs.Common.{◌∙◌, ap, sym, ◌++◌, ◌∷◌, [], List}
use Rattle.std.specs.BTreeMap as tables
use Rattle.op_ids.specs.declared.OpId.{OpId}
use Rattle.op_ids.specs.Order.{id_cmp, root_id}
use Rattle.move_list.proofs.ShownLaws.{filtered_some, filtered_none}
use Rattle.move_list.proofs.list.ids_at.Goals as goal
use Rattle.move_list.proofs.list.ids_at.Goals.{in-Some+in_ok-push, in_default}

pub loop-position-preserved : goal.loop-position-preserved
loop-position-preserved c =
    let f = tables.get id_cmp c.args.by_position.now in
    let xs = c.args.positions.now in
    let i = c.loop-position.position-index in
    elim c.match-get.branch [
      | in-Some+in_ok-push w ↦
          ap (λ v. v.items) w.ids-is ∙ w.in_ok-push.ensures.items
          ∙ ap (λ (ids : List OpId). ids ++ w.in-Some.id.now ∷ []) c.loop-position.invariant
          ∙ sym (filtered_some f xs i root_id c.loop-position-test.true w.in-Some.id.now (sym w.in-Some.ensures.value))
      | in_default w ↦
          ap (λ v. v.items) w.ids-is ∙ c.loop-position.invariant
          ∙ sym (filtered_none f xs i root_id c.loop-position-test.true (sym w.in_default.ensures.value))
    ]
