use Rattle.std.specs.Prelude.{Some, None}
use Rattle.std.proofs.Common.{Err, refl, ap, ◌∙◌, nat_eq}
use Rattle.std.proofs.lemmas.Bool.Decides.{Decides-eqb}
use Rattle.std.proofs.lemmas.Slice.Eq.{strip_prefix_is}
use Rattle.std.proofs.lemmas.Result.{err_from_is_err_and}
use Rattle.cbor_det.specs.Unread.{Unread, unread}
use Rattle.replica.specs.declared.header.TheConstants.{TITLE}
use Rattle.replica.proofs.HeaderLaws.{no_title, no_fields, not_by_kind, is_headers}
use Rattle.replica.proofs.header.read_header.Goals as goal

pub returns-in_default : goal.returns-in_default
returns-in_default c = λ x sp e.
    no_title c.args.span.now (strip_prefix_is {E = nat_eq} Decides-eqb c.args.span.now TITLE.now None c.in_default.ensures.cases) x e

pub returns-in_err-head : goal.returns-in_err-head
returns-in_err-head c = λ x sp e.
    let p = err_from_is_err_and c.from_residual.result c.from_residual.ensures.1 in
    no_fields c.args.span.now c.in-Some.fields.now (strip_prefix_is {E = nat_eq} Decides-eqb c.args.span.now TITLE.now (Some c.in-Some.fields) c.in-Some.ensures.cases) (unread c.new-cursor.result) (unread c.read_fields.new.cursor) (ap (λ (u : Unread). u.rest) c.new-cursor.ensures) c.in_err-head.field-0.0 c.from_residual.result (p.1 ∙ ap Err p.2) c.in_err-head.ensures x e

pub returns-then-not-keeps_kind : goal.returns-then-not-keeps_kind
returns-then-not-keeps_kind c = λ x sp e.
    not_by_kind c.args.span.now c.in-Some.fields.now (strip_prefix_is {E = nat_eq} Decides-eqb c.args.span.now TITLE.now (Some c.in-Some.fields) c.in-Some.ensures.cases) (unread c.new-cursor.result) (unread c.read_fields.new.cursor) (ap (λ (u : Unread). u.rest) c.new-cursor.ensures) c.in_ok-head.head c.in_ok-head.ensures (λ k. let bad = c.if-not-keeps_kind.ensures.1 k in cc) x e

pub returns : goal.returns
returns c = λ x sp e.
    is_headers c.args.span.now c.in-Some.fields.now (strip_prefix_is {E = nat_eq} Decides-eqb c.args.span.now TITLE.now (Some c.in-Some.fields) c.in-Some.ensures.cases) (unread c.new-cursor.result) (unread c.read_fields.new.cursor) (ap (λ (u : Unread). u.rest) c.new-cursor.ensures) c.in_ok-head.head c.in_ok-head.ensures (c.if-not-keeps_kind.ensures.0 refl) c.requires x sp e
