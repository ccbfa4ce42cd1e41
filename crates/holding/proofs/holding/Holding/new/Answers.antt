use Rattle.std.proofs.Common.{◌≡◌, List, map, subst, sym, ap, ◌∙◌, []}
use Rattle.model.specs.State.{empty_state}
use Rattle.stability.specs.Rows.{row_of}
use Rattle.stability.specs.declared.fronts.MemberRow as code
use Rattle.doc_store.specs.Documents.{IsDocument}
use Rattle.doc_store.specs.Kept.{Drafted, document_of}
use Rattle.holding.proofs.JoinLaws.{holds_none}
use Rattle.holding.proofs.holding.Holding.new.Goals as goal

pub returns : goal.returns
returns c =
    let draft : c.of.result ≡ record { contents = c.new.result.contents; moves = record { log = c.new.result.log; late = [] } } = c.of.ensures in
    holds_none (record { document = c.of.result; fronts = c.in_ok-from_rows.field-0; times = c.in_ok-none.field-0 }) c.args.members c.requires.few
    (c.in_ok-from_rows.ensures ∙ ap (λ (rows : List code.MemberRow). map row_of rows) (c.deref.ensures.value ∙ c.in_ok-rows.ensures)) c.in_ok-none.ensures
    (subst (λ (d : Drafted). IsDocument (document_of d) empty_state []) (sym draft) c.new.ensures) (ap (λ (d : Drafted). d.moves.log.moves) draft ∙ c.new.ensures.moves)
