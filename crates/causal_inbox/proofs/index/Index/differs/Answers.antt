use Rattle.std.proofs.Common.{ℕ, List, Option, Some, None, not, sym, ap, ◌∙◌}
use Rattle.std.specs.Prelude.{bytes_eq}
use Rattle.std.specs.Borrow.{Bor}
use Rattle.cbor_det.specs.Item.{spell}
use Rattle.model.specs.Change.{change_item}
use Rattle.causal_inbox.specs.Kept.{mark_seen, mark_differs}
use Rattle.causal_inbox.proofs.KeptLaws.{told}
use Rattle.causal_inbox.proofs.index.Index.differs.Goals as goal

pub returns-in-Some-Some : goal.returns-in-Some-Some
returns-in-Some-Some c kept are =
    let own = spell (change_item c.args.block.now) in
    c.ne.ensures ∙ ap (λ (b : List ℕ). not (bytes_eq b c.in-Some-Some.bytes.now)) c.bytes.ensures
    ∙ ap (λ (m : Option (Bor (List ℕ))). mark_differs (Some (mark_seen m)) own) (sym c.in-Some-Some.field-0-is)
    ∙ told kept c.args.self.now c.self.inside.marks.entries c.name_in.result c.args.block.now (Some c.in-Some-Some.field-0.now) are c.self.view_is c.name_in.ensures c.in-Some-Some.ensures.value

pub returns-in-Some-None : goal.returns-in-Some-None
returns-in-Some-None c kept are =
    let own = spell (change_item c.args.block.now) in
    ap (λ (m : Option (Bor (List ℕ))). mark_differs (Some (mark_seen m)) own) (sym c.in-Some-None.field-0-is)
    ∙ told kept c.args.self.now c.self.inside.marks.entries c.name_in.result c.args.block.now (Some c.in-Some-None.field-0.now) are c.self.view_is c.name_in.ensures c.in-Some-None.ensures.value

pub returns-in-None : goal.returns-in-None
returns-in-None c kept are = told kept c.args.self.now c.self.inside.marks.entries c.name_in.result c.args.block.now None are c.self.view_is c.name_in.ensures c.in-None.ensures.value
