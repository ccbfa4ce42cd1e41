use Rattle.std.proofs.Common.{◌∙◌, sym, arith}
use Rattle.tree_log.specs.Merge.{NextOld, NextNew}
use Rattle.tree_log.proofs.LogLaws.{next_old, next_old_alone, next_new, next_new_alone, on_true, on_false, at_defaults}
use Rattle.tree_log.proofs.merge.takes_old.Goals as goal

pub returns-then-i-later-clause-new : goal.returns-then-i-later-clause-new
returns-then-i-later-clause-new c = λ d.
    let l = c.if-i-later.true in
    let k = c.requires.some in
    (omega arith, next_new_alone c.args.later.now c.args.moves.now c.args.i c.args.j d c.requires.later_rises c.requires.moves_rise l (omega arith))

pub returns-then-j-moves-clause-old : goal.returns-then-j-moves-clause-old
returns-then-j-moves-clause-old c = λ d.
    (c.if-i-later.false, next_old_alone c.args.later.now c.args.moves.now c.args.i c.args.j d c.requires.later_rises c.requires.moves_rise c.if-i-later.false c.if-j-moves.true)

pub returns-clause-old : goal.returns-clause-old
returns-clause-old c = λ d. on_true _ (NextOld c.args.later.now c.args.moves.now c.args.i c.args.j d) (λ e.
    (c.if-i-later.false, next_old c.args.later.now c.args.moves.now c.args.i c.args.j d c.requires.later_rises c.requires.moves_rise c.if-i-later.false c.if-j-moves.false (at_defaults c.args.later.now c.args.moves.now c.args.i c.args.j d _ c.if-i-later.false c.if-j-moves.false (sym c.is_before.ensures ∙ e))))

pub returns-clause-new : goal.returns-clause-new
returns-clause-new c = λ d. on_false _ (NextNew c.args.later.now c.args.moves.now c.args.i c.args.j d) (λ e.
    (c.if-j-moves.false, next_new c.args.later.now c.args.moves.now c.args.i c.args.j d c.requires.later_rises c.requires.moves_rise c.if-i-later.false c.if-j-moves.false (at_defaults c.args.later.now c.args.moves.now c.args.i c.args.j d _ c.if-i-later.false c.if-j-moves.false (sym c.is_before.ensures ∙ e))))
