use Rattle.fugue_text.specs.Runs.{places, rows_in}
use Rattle.std.proofs.Common.{◌≡◌, ◌<◌, ◌∙◌, ap, sym, subst, [], ◌∷◌, ◌++◌, map, flat_map, reverse, List}
use Rattle.std.specs.List.{AllByRecursion}
use Rattle.std.proofs.lemmas.List.{append-nil}
use Rattle.op_ids.specs.declared.Side.TheVariants.{Right}
use Rattle.op_ids.specs.Order.{root_id}
use Rattle.model.specs.Walk.{hanging}
use Rattle.fugue_text.specs.declared.pieces.Piece.{Piece}
use Rattle.fugue_text.specs.declared.pieces.Step.{Step}
use Rattle.fugue_text.specs.declared.pieces.Step.TheVariants.{Visit, Give}
use Rattle.fugue_text.specs.Pieces.{IsPiece, ids_in, steps_of}
use Rattle.fugue_text.proofs.CountLaws.{rising_of}
use Rattle.fugue_text.proofs.PieceLaws as laws
use Rattle.fugue_text.proofs.PieceLaws.{AreSound, given, steps_left}
use Rattle.fugue_text.proofs.pieces.pieces_of.Goals as goal

pub loop-step-init : goal.loop-step-init
loop-step-init c =
    let es = c.args.runs.now.entries in
    let rows = places (rows_in es) in
    let first = map Visit (hanging rows root_id Right) in
    let stack : c.push_hanging.new.stack.items ≡ first = c.in_ok-push_hanging.ensures.ok ∙ ap (λ ss. ss ++ first) c.new-stack.ensures.items in
    let none : reverse c.new-pieces.result.items ≡ [] = ap reverse c.new-pieces.ensures.items in
    record {
      reads = (λ i. flat_map (given rows) (stack i) ++ ids_in (none i)) ∙ append-nil (flat_map (given rows) first) ∙ laws.first_given rows c.requires.tree;
      sound = subst (λ (ss : List Step). AreSound es ss) (sym stack) (laws.sound_visits es (hanging rows root_id Right));
      pieces = subst (λ (ps : List Piece). AllByRecursion (IsPiece es) ps) (sym none) tt;
    }

pub loop-step-smaller-in-Continue-branch-2 : goal.loop-step-smaller-in-Continue-branch-2
loop-step-smaller-in-Continue-branch-2 c =
    let es = c.args.runs.now.entries in
    let rows = places (rows_in es) in
    let rest = c.pop.new.self.items in
    let v = c.in_ok-push_steps-in-Visit.ensures in
    let popped : c.loop-step.stack.items ≡ rest ++ Visit c.in-Visit.id ∷ [] = c.in-Some.ensures.items ∙ ap (λ s. rest ++ s ∷ []) c.in-Visit.is in
    subst (λ ss. steps_left rows ss < steps_left rows c.loop-step.stack.items) (sym v.steps)
    (subst (λ ss. steps_left rows (rest ++ steps_of es c.in-Visit.id v.count) < steps_left rows ss) (sym popped)
    (laws.visited_left es c.requires.tree (rising_of _ c.requires.tree) c.requires.filled c.push_hanging.ensures.ordered c.in-Visit.id v.count v.free rest))

pub loop-step-preserved-in-Continue-branch-2 : goal.loop-step-preserved-in-Continue-branch-2
loop-step-preserved-in-Continue-branch-2 c =
    let es = c.args.runs.now.entries in
    let rows = places (rows_in es) in
    let rest = c.pop.new.self.items in
    let out = ids_in (reverse c.loop-step.pieces.items) in
    let v = c.in_ok-push_steps-in-Visit.ensures in
    let rise = rising_of _ c.requires.tree in
    let popped : c.loop-step.stack.items ≡ rest ++ Visit c.in-Visit.id ∷ [] = c.in-Some.ensures.items ∙ ap (λ s. rest ++ s ∷ []) c.in-Visit.is in
    let sound : AreSound es (rest ++ Visit c.in-Visit.id ∷ []) = subst (λ (ss : List Step). AreSound es ss) popped c.loop-step.invariant.sound in
    record {
      reads = ap (λ ss. flat_map (given rows) ss ++ out) v.steps ∙ laws.visited_given es c.requires.tree rise c.requires.filled c.push_hanging.ensures.ordered c.in-Visit.id v.count v.free rest out
          ∙ ap (λ ss. flat_map (given rows) ss ++ out) (sym popped) ∙ c.loop-step.invariant.reads;
      sound = subst (λ (ss : List Step). AreSound es ss) (sym v.steps)
          (laws.sound_both es rest (steps_of es c.in-Visit.id v.count) (laws.sound_front es rest (Visit c.in-Visit.id ∷ []) sound)
          (laws.visited_sound es c.requires.tree rise c.requires.filled c.push_hanging.ensures.ordered c.in-Visit.id v.count v.free));
      pieces = c.loop-step.invariant.pieces;
    }

pub loop-step-smaller : goal.loop-step-smaller
loop-step-smaller c =
    let rows = places (rows_in c.args.runs.now.entries) in
    let rest = c.pop.new.self.items in
    let popped : c.loop-step.stack.items ≡ rest ++ Give c.in-Give.piece ∷ [] = c.in-Some.ensures.items ∙ ap (λ s. rest ++ s ∷ []) c.in-Give.is in
    subst (λ ss. steps_left rows rest < steps_left rows ss) (sym popped) (laws.given_left rows rest c.in-Give.piece)

pub loop-step-preserved : goal.loop-step-preserved
loop-step-preserved c =
    let es = c.args.runs.now.entries in
    let rows = places (rows_in es) in
    let rest = c.pop.new.self.items in
    let old = c.loop-step.pieces.items in
    let p = c.in-Give.piece in
    let popped : c.loop-step.stack.items ≡ rest ++ Give p ∷ [] = c.in-Some.ensures.items ∙ ap (λ s. rest ++ s ∷ []) c.in-Give.is in
    let sound : AreSound es (rest ++ Give p ∷ []) = subst (λ (ss : List Step). AreSound es ss) popped c.loop-step.invariant.sound in
    let now = c.in_ok-push-in-Give.ensures.items in
    record {
      reads = ap (λ ps. flat_map (given rows) rest ++ ids_in (reverse ps)) now ∙ laws.piece_out rows rest old p ∙ ap (λ ss. flat_map (given rows) ss ++ ids_in (reverse old)) (sym popped) ∙ c.loop-step.invariant.reads;
      sound = laws.sound_front es rest (Give p ∷ []) sound;
      pieces = subst (λ (ps : List Piece). AllByRecursion (IsPiece es) (reverse ps)) (sym now) (laws.pieces_out es old p (laws.sound_back es rest (Give p ∷ []) sound).0 c.loop-step.invariant.pieces);
    }
