use Rattle.std.proofs.Common.{◌∙◌, ap, sym}
use Rattle.std.proofs.lemmas.Result.{on_ok_weaker}
use Rattle.std.specs.Str.{chars}
use Rattle.op_grammar.specs.Operations.{anchor_of, operation_of}
use Rattle.model.specs.Operation.{drop_item, erase_text, type_text}
use Rattle.model.specs.State.{apart}
use Rattle.model_laws.specs.Arrival.{Contents}
use Rattle.doc_store.specs.Documents.{all_late}
use Rattle.doc_store.specs.Kept.{contents_of}
use Rattle.doc_store.proofs.TypedLaws.{late_typed}
use Rattle.doc_store.proofs.kept_rows.KeptRows.do_op.Goals as goal

pub returns-in-TypeText : goal.returns-in-TypeText
returns-in-TypeText c =
    let id = c.args.id in
    let node = c.in-TypeText.node in
    let at = anchor_of (c.in-TypeText.anchor, c.in-TypeText.side) in
    let cs = chars c.in-TypeText.text.now in
    let in' = c.self.inside in
    let old : Contents = contents_of in'.positions in'.registers in'.texts in'.lists in
    on_ok_weaker c.type_run.result (λ e.
    ap (λ t. contents_of in'.positions in'.registers t in'.lists) e ∙ sym (late_typed old node id at cs) ∙ ap (λ k. all_late k (apart id (type_text node at cs))) c.self.view_is
    ∙ ap (λ op. all_late c.args.self.now (apart id (operation_of op))) (sym c.in-TypeText.is))
    c.type_run.ensures.ok

pub returns-in-EraseText : goal.returns-in-EraseText
returns-in-EraseText c =
    let id = c.args.id in
    let in' = c.self.inside in
    ap (λ t. contents_of in'.positions in'.registers t in'.lists) (c.erase.ensures id)
    ∙ ap (λ k. all_late k (apart id (erase_text c.in-EraseText.node c.in-EraseText.first c.in-EraseText.count))) c.self.view_is
    ∙ ap (λ op. all_late c.args.self.now (apart id (operation_of op))) (sym c.in-EraseText.is)

pub returns-in-DropItem : goal.returns-in-DropItem
returns-in-DropItem c =
    let id = c.args.id in
    let in' = c.self.inside in
    ap (λ l. contents_of in'.positions in'.registers in'.texts l) (c.drop_item.ensures.now id)
    ∙ ap (λ k. all_late k (apart id (drop_item c.in-DropItem.node c.in-DropItem.element))) c.self.view_is
    ∙ ap (λ op. all_late c.args.self.now (apart id (operation_of op))) (sym c.in-DropItem.is)
