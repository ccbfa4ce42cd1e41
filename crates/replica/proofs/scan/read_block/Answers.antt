use Rattle.std.proofs.Common.{◌∙◌, ap, refl, subst}
use Rattle.std.specs.Prelude.{IfOk, IfErr}
use Rattle.cbor_det.specs.Item.{spell}
use Rattle.cbor_det.specs.Unread.{Unread, unread, Took}
use Rattle.model.specs.Change.{IsChange, change_item}
use Rattle.replica.specs.Scanning.{IsNoChange}
use Rattle.replica.proofs.scan.read_block.Goals as goal

pub returns-in-None-clause-ok : goal.returns-in-None-clause-ok
returns-in-None-clause-ok c =
    subst (λ (u : Unread). IfOk c.check_item.result (λ b. IsChange c.args.n b × Took (spell (change_item b)) u (unread c.check_item.new.cursor))) (c.in-None.ensures.kept refl) c.check_item.ensures.ok

pub returns-in-None-clause-err : goal.returns-in-None-clause-err
returns-in-None-clause-err c = subst (λ (u : Unread). IfErr c.check_item.result (IsNoChange c.args.n c.args.item u)) (c.in-None.ensures.kept refl) c.check_item.ensures.err

pub returns-in-None-clause-len : goal.returns-in-None-clause-len
returns-in-None-clause-len c = c.check_item.ensures.len ∙ ap (λ (u : Unread). u.len) (c.in-None.ensures.kept refl)
