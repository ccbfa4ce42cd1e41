use Rattle.std.proofs.Common.{◌≡◌, ◌∙◌, ap, sym, refl, [], ◌∷◌, ◌++◌, map, append_assoc}
use Rattle.std.proofs.lemmas.List.{append-nil}
use Rattle.std.specs.declared.ops.Bound.TheVariants.{Included, Unbounded}
use Rattle.std.specs.BTreeSet.{keys_between}
use Rattle.fugue_tree.specs.declared.children.Child.{Child}
use Rattle.fugue_text.specs.declared.pieces.Step.TheVariants.{Visit}
use Rattle.fugue_tree.specs.Tree.{child_cmp, is_child_of}
use Rattle.fugue_tree.proofs.ChildLaws.{hangs_as, ids, leading, leading_are}
use Rattle.fugue_text.proofs.pieces.push_visits.Goals as goal
use Rattle.fugue_text.proofs.pieces.push_visits.Goals.{After-hangs}

tested : (c : After-hangs) → is_child_of c.args.anchor c.args.side c.in-Some.child.now ≡ c.hangs.result
tested c =
    let right = ap (λ (l : Child). l.is_right) c.child_at-least.ensures in
    hangs_as c.hangs.result c.args.anchor c.args.side c.in-Some.child.now
    (λ e. let p = c.hangs.ensures.0 e in (p.0, p.1 ∙ right))
    (λ p. c.hangs.ensures.1 (p.0, p.1 ∙ sym right))

pub loop-child-init : goal.loop-child-init
loop-child-init c =
    let range =
    c.into_iter-child-iterator.ensures.into_iter_gives ∙ c.range-child-items.ensures.between tt ∙ ap (λ (l : Child). keys_between child_cmp (Included l) Unbounded c.args.children.now) c.child_at-least.ensures in
    ap (λ cs. c.args.stack.now.items ++ map Visit (ids cs))
    (ap (leading c.args.anchor c.args.side) range ∙ leading_are c.args.anchor c.args.side c.args.children.now.keys c.range-child-items.ensures.ordered)

pub loop-child-preserved : goal.loop-child-preserved
loop-child-preserved c =
    let test = tested (goal.at.loop-child-preserved c).After-hangs ∙ c.if-not-hangs.false in
    let rest = leading c.args.anchor c.args.side c.next.new.self in
    let stack = c.loop-child.stack.items in
    let led : leading c.args.anchor c.args.side c.loop-child.child-iterator ≡ c.in-Some.child.now ∷ rest = ap (leading c.args.anchor c.args.side) c.in-Some.ensures.steps ∙ rw test refl in
    ap (λ ts. ts ++ map Visit (ids rest)) c.in_ok-push.ensures.items ∙ append_assoc stack (Visit c.in-Some.child.now.id ∷ []) (map Visit (ids rest)) ∙ ap (λ cs. stack ++ map Visit (ids cs)) (sym led) ∙ c.loop-child.invariant

pub returns-then-not-hangs-clause-ok : goal.returns-then-not-hangs-clause-ok
returns-then-not-hangs-clause-ok c =
    let test = tested (goal.at.returns-then-not-hangs-clause-ok c).After-hangs ∙ c.if-not-hangs.true in
    let stack = c.loop-child.stack.items in
    let led : leading c.args.anchor c.args.side c.loop-child.child-iterator ≡ [] = ap (leading c.args.anchor c.args.side) c.in-Some.ensures.steps ∙ rw test refl in
    sym (append-nil stack) ∙ ap (λ cs. stack ++ map Visit (ids cs)) (sym led) ∙ c.loop-child.invariant
