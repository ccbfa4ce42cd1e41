use Rattle.std.proofs.Common.{◌≡◌, ◌∙◌, ap, sym, subst, ◌++◌, ◌∷◌, [], ◌≤◌, ◌-◌, take, vec_len, arith}
use Rattle.std.proofs.lemmas.List.{take-take}
use Rattle.tree_log.specs.Log.{IsLog, undone}
use Rattle.tree_log.proofs.LogLaws.{log_pop, log_tree, last_known, worked_tick, worked_within}
use Rattle.tree_log.proofs.merge.undo_from.Goals as goal
use Rattle.tree_log.proofs.merge.undo_from.Goals.{In-Some}

before_pop : (c : In-Some) → IsLog (undone c.args.parents.now.places c.args.held.now.items) (c.pop.new.self.items ++ c.in-Some.last ∷ []) c.loop-held.parents.places
before_pop c = subst (λ hs. IsLog (undone c.args.parents.now.places c.args.held.now.items) hs c.loop-held.parents.places) c.in-Some.ensures.items c.loop-held.invariant.log

pub undo-requires-clause-admitted : goal.undo-requires-clause-admitted
undo-requires-clause-admitted c =
    c.loop-held.invariant.tree.placed c.in-Some.last.step.child (last_known _ _ _ _ (before_pop (goal.at.undo-requires-clause-admitted c).In-Some))

pub undo-requires-clause-tree : goal.undo-requires-clause-tree
undo-requires-clause-tree c = log_tree _ _ _ (log_pop _ _ _ _ (before_pop (goal.at.undo-requires-clause-tree c).In-Some))

pub loop-held-preserved-in-Some : goal.loop-held-preserved-in-Some
loop-held-preserved-in-Some c =
    let one = c.in-Some.ensures.cases in
    let n = vec_len c.loop-held.held in
    let m = vec_len c.pop.new.self in
    let le : n - 1 ≤ n = omega arith in
    let same : n - 1 ≡ m = omega arith in
    let test = c.loop-held-test.true in
    let len = c.len.ensures in
    let old = c.loop-held.invariant.bound in
    let shorter = c.loop-held.invariant.shorter in
    record {
      log = subst (IsLog (undone c.args.parents.now.places c.args.held.now.items) c.pop.new.self.items) (sym c.undo.ensures.places) (log_pop _ _ _ _ (before_pop (goal.at.loop-held-preserved-in-Some c).In-Some));
      tree = c.undo.ensures.tree;
      bound = omega arith;
      shorter = omega arith;
      held = c.in-Some.ensures.rest ∙ ap (take (n - 1)) c.loop-held.invariant.held ∙ take-take (n - 1) n c.args.held.now.items le ∙ ap (λ k. take k c.args.held.now.items) same;
      admitted = c.undo.ensures.admitted ∙ c.loop-held.invariant.admitted;
      capacity = c.in-Some.ensures.capacity ∙ c.loop-held.invariant.capacity;
      tally = worked_within _ _ _ _ (worked_tick _ _ _ _ c.loop-held.invariant.tally c.undo.ensures.tally) (omega arith);
    }
