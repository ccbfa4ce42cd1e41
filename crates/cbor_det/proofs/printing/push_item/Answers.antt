use Rattle.std.proofs.Common.{◌++◌, ◌∷◌, [], sym, ap, subst, length, arith, string_bytes}
use Rattle.std.proofs.lemmas.List.{length-append}
use Rattle.cbor_det.specs.Notation.{notation}
use Rattle.cbor_det.specs.Printing.{WantsItem}
use Rattle.cbor_det.proofs.PrintingLaws.{popped, ended, went_on, wanted_stands, first_wanted, none_behind}
use Rattle.cbor_det.proofs.printing.push_item.Goals as goal

pub loop-task-init : goal.loop-task-init
loop-task-init c = λ x more h parts.
    c.in_ok-rest.ensures.goes_on _ more (subst (λ kept. WantsItem (string_bytes c.args.out.now ++ notation x) more kept c.args.bytes.now (string_bytes c.args.out.now)) (sym c.new-tasks.ensures.items) (first_wanted x more c.args.bytes.now (string_bytes c.args.out.now) h parts))

pub push_head-requires-in-Some-2 : goal.push_head-requires-in-Some-2
push_head-requires-in-Some-2 c =
    let r = c.requires in
    let p = popped _ r.1 c.loop-task.tasks.items c.pop.new.self.items c.in-Some.task c.loop-task.rest.now (string_bytes c.loop-task.out) (c.loop-task.invariant r.0 r.1 r.2 r.3) c.in-Some.ensures.items in
    let g = rw c.in-Some-2.is at (c.in_ok-task.ensures p.0 p.2.is_todo p.1) in
    wanted_stands _ r.1 _ c.loop-task.rest.now _ (went_on _ r.1 c.pop.new.self.items p.0 c.in-Some-2.task c.loop-task.rest.now _ _ p.2 g)

pub loop-task-smaller-in-Some-2 : goal.loop-task-smaller-in-Some-2
loop-task-smaller-in-Some-2 c =
    omega (arith, c.in_ok-rest-2.ensures.shorter, c.in_ok-rest-2.ensures.deeper, ap length c.in-Some.ensures.items, length-append c.pop.new.self.items (c.in-Some.task ∷ []), ap length c.in_ok-push.ensures.items, length-append c.pop.new.self.items (c.in-Some-2.task ∷ []))

pub loop-task-preserved-in-Some-2 : goal.loop-task-preserved-in-Some-2
loop-task-preserved-in-Some-2 c = λ x more h parts.
    let p = popped _ more c.loop-task.tasks.items c.pop.new.self.items c.in-Some.task c.loop-task.rest.now (string_bytes c.loop-task.out) (c.loop-task.invariant x more h parts) c.in-Some.ensures.items in
    let g = rw c.in-Some-2.is at (c.in_ok-task.ensures p.0 p.2.is_todo p.1) in
    let w = went_on _ more c.pop.new.self.items p.0 c.in-Some-2.task c.loop-task.rest.now _ (string_bytes c.push_next.new.out) p.2 g in
    c.in_ok-rest-2.ensures.goes_on _ more (subst (λ kept. WantsItem (string_bytes c.args.out.now ++ notation x) more kept c.loop-task.rest.now (string_bytes c.push_next.new.out)) (sym c.in_ok-push.ensures.items) w)

pub loop-task-preserved : goal.loop-task-preserved
loop-task-preserved c = λ x more h parts.
    let p = popped _ more c.loop-task.tasks.items c.pop.new.self.items c.in-Some.task c.loop-task.rest.now (string_bytes c.loop-task.out) (c.loop-task.invariant x more h parts) c.in-Some.ensures.items in
    ended _ more c.pop.new.self.items p.0 c.loop-task.rest.now _ _ p.2 (none_behind p.0 _ _ c.in_ok-task.field-0 c.in_default-2.not-Some (c.in_ok-task.ensures p.0 p.2.is_todo p.1))
