use Rattle.std.proofs.Common.{◌≡◌, ◌∙◌, ap, sym, ◌++◌, map, append_assoc}
use Rattle.std.specs.Prelude.{option_to_list}
use Rattle.std.proofs.lemmas.List.{map-append}
use Rattle.std.proofs.lemmas.Result.{on_ok_weaker}
use Rattle.model.specs.Walk.{hanging}
use Rattle.fugue_tree.specs.Tree.{children_at}
use Rattle.fugue_tree.proofs.WalkLaws.{children_are}
use Rattle.fugue_text.specs.declared.pieces.Step.TheVariants.{Visit}
use Rattle.fugue_text.specs.Runs.{places, rows_in, starts}
use Rattle.fugue_text.proofs.CountLaws.{rising_of}
use Rattle.fugue_text.proofs.NextLaws.{all_hang, starts_rise}
use Rattle.fugue_text.proofs.pieces.push_hanging.Goals as goal

pub next_beside-next-requires-clause-rising : goal.next_beside-next-requires-clause-rising
next_beside-next-requires-clause-rising c = rising_of _ c.requires.tree

pub returns-clause-ok : goal.returns-clause-ok
returns-clause-ok c =
    let es = c.args.runs.now.entries in
    let on = c.args.anchor in
    let side = c.args.side in
    let next = c.next_beside-next.result in
    let old = c.args.stack.now.items in
    let sorted = starts_rise es c.next_beside-next.ensures.ordered in
    let index : children_at c.args.children.now on side ≡ hanging (starts es) on side =
    children_are (starts es) c.args.children.now sorted c.requires.index c.push_visits.ensures.ordered on side in
    let all : hanging (places (rows_in es)) on side ≡ option_to_list next ++ hanging (starts es) on side =
    all_hang es (rising_of _ c.requires.tree) c.requires.filled c.requires.tree sorted on side next c.next_beside-next.ensures.next in
    on_ok_weaker c.push_visits.result
    (λ e. e ∙ (λ i. c.in_ok-push_visit.ensures i ++ map Visit (index i)) ∙ append_assoc old (map Visit (option_to_list next)) (map Visit (hanging (starts es) on side))
    ∙ ap (λ ts. old ++ ts) (sym (map-append Visit (option_to_list next) (hanging (starts es) on side)) ∙ ap (map Visit) (sym all))) c.push_visits.ensures.ok
