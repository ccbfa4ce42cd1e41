use Rattle.std.proofs.Common.{subst, arith, ◌++◌, List}
use Rattle.tree_log.specs.declared.moves.TreeMove.{TreeMove}
use Rattle.tree_log.specs.Log.{undone, steps}
use Rattle.tree_log.specs.Merge.{Redo, merged}
use Rattle.tree_log.proofs.LogLaws.{redo_one, rises_more, no_move, worked_then, worked_within}
use Rattle.tree_log.proofs.merge.redo.Goals as goal

pub bounds-later-i : goal.bounds-later-i
bounds-later-i c = (c.if-takes_old.ensures.old no_move).0

pub bounds-moves-j : goal.bounds-moves-j
bounds-moves-j c = (c.if-takes_old.ensures.new no_move).0

pub loop-i-preserved-then-takes_old : goal.loop-i-preserved-then-takes_old
loop-i-preserved-then-takes_old c =
    let inv = c.loop-i.invariant in
    let next = c.if-takes_old.ensures.old no_move in
    let bound = next.0 in
    let len = c.take_up.ensures.len in
    let cap = c.take_up.ensures.capacity in
    let one = redo_one _ _ _ _ _ _ _ (subst (λ (ts : List TreeMove). Redo (undone c.args.parents.now.places c.args.held.now.items) c.loop-i.held.items c.loop-i.parents.places ts (steps c.args.held.now.items ++ merged c.args.later.now c.args.moves.now) c.loop-i.parents.admitted) next.1 inv.todo) in
    record {
      todo = rw (c.take_up.ensures.held, c.take_up.ensures.places, c.take_up.ensures.admitted) one;
      tree = c.take_up.ensures.tree;
      i_bound = omega arith;
      j_bound = inv.j_bound;
      later_rises = rises_more c.args.later.now c.loop-i.i next.0 inv.later_rises;
      moves_rise = inv.moves_rise;
      room = omega arith;
      tally = worked_within _ _ _ _ (worked_then _ _ _ _ _ inv.tally c.take_up.ensures.tally) (omega arith);
    }

pub loop-i-preserved : goal.loop-i-preserved
loop-i-preserved c =
    let inv = c.loop-i.invariant in
    let next = c.if-takes_old.ensures.new no_move in
    let bound = next.0 in
    let len = c.take_up-else-takes_old.ensures.len in
    let cap = c.take_up-else-takes_old.ensures.capacity in
    let one = redo_one _ _ _ _ _ _ _ (subst (λ (ts : List TreeMove). Redo (undone c.args.parents.now.places c.args.held.now.items) c.loop-i.held.items c.loop-i.parents.places ts (steps c.args.held.now.items ++ merged c.args.later.now c.args.moves.now) c.loop-i.parents.admitted) next.1 inv.todo) in
    record {
      todo = rw (c.take_up-else-takes_old.ensures.held, c.take_up-else-takes_old.ensures.places, c.take_up-else-takes_old.ensures.admitted) one;
      tree = c.take_up-else-takes_old.ensures.tree;
      i_bound = inv.i_bound;
      j_bound = omega arith;
      later_rises = inv.later_rises;
      moves_rise = rises_more c.args.moves.now c.loop-i.j next.0 inv.moves_rise;
      room = omega arith;
      tally = worked_within _ _ _ _ (worked_then _ _ _ _ _ inv.tally c.take_up-else-takes_old.ensures.tally) (omega arith);
    }
