use Rattle.std.proofs.Common.{[], ◌∷◌, refl}
use Rattle.model.specs.File.{IsLater, IsNextBehind}
use Rattle.model.specs.Rules.{F5}
use Rattle.file_laws.proofs.FrontLaws.{later_too, next_behind_too}
use Rattle.replica.specs.Heads.{base_by}
use Rattle.replica.proofs.ChangeLaws.{order_breaks, next_breaks, not_behind}
use Rattle.replica.proofs.changes.check_kept.Goals as goal

pub returns-then-not-is_later-clause-err : goal.returns-then-not-is_later-clause-err
returns-then-not-is_later-clause-err c =
    let h = c.args.head.now in
    let kept = c.args.kept.now in
    let b = c.args.block.now in
    order_breaks h.doc.n (IsLater kept) (IsNextBehind (base_by h) kept) c.requires.few b c.requires.change (F5 ∷ [])
    (λ d e. later_too kept d b e) (λ k. let bad = c.if-not-is_later.ensures.1 k in cc)

pub returns-then-not-is_next-clause-err : goal.returns-then-not-is_next-clause-err
returns-then-not-is_next-clause-err c =
    let h = c.args.head.now in
    let kept = c.args.kept.now in
    let b = c.args.block.now in
    next_breaks h.doc.n (IsLater kept) (IsNextBehind (base_by h) kept) c.requires.few b c.requires.change
    (λ d e. next_behind_too (base_by h) kept d b e) (c.if-not-is_later.ensures.0 refl)
    (not_behind h kept b c.requires.change c.args.counts.now c.requires.counts c.if-head-eq-BUNDLE.false (λ k. let bad = c.if-not-is_next.ensures.1 k in cc))
