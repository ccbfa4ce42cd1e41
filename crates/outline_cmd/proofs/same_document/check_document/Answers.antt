use Rattle.std.proofs.Common.{◌≡◌, Bool, true, false, ◌&&◌, eqb, sym, ap, rules, ◌∙◌}
use Rattle.std.specs.Prelude.{bytes_eq}
use Rattle.std.proofs.lemmas.Bool.{eqb-true}
use Rattle.model.specs.File.{File}
use Rattle.model_laws.proofs.Tables.{both_true}
use Rattle.replica.specs.declared.head.DocRef.{DocRef}
use Rattle.outline_meaning.specs.Outcome.{document_ref, provided, same_document}
use Rattle.outline_meaning.specs.declared.status.Status.TheVariants as s
use Rattle.outline_cmd.proofs.same_document.check_document.Goals as goal

told_by : (f : File) (left right : DocRef) (b : Bool) → left ≡ document_ref f.document f.members → b ≡ (bytes_eq left.id right.id && eqb left.n right.n) → same_document f right.id right.n ≡ provided b (s.OtherDocument left right)
told_by f left right b is same =
    ap (λ (d : DocRef). provided (bytes_eq d.id right.id && eqb d.n right.n) (s.OtherDocument d right)) (sym is) ∙ ap (λ t. provided t (s.OtherDocument left right)) (sym same)

pub returns-then-eq-clause-told : goal.returns-then-eq-clause-told
returns-then-eq-clause-told c = λ f is.
    let same : c.eq.result ≡ (bytes_eq c.args.left.id c.args.right.id && eqb c.args.left.n c.args.right.n) = search rules in
    sym (told_by f c.args.left c.args.right true is (sym c.if-eq.true ∙ same))

pub returns-then-eq-clause-same : goal.returns-then-eq-clause-same
returns-then-eq-clause-same c =
    let same : c.eq.result ≡ (bytes_eq c.args.left.id c.args.right.id && eqb c.args.left.n c.args.right.n) = search rules in
    eqb-true c.args.left.n c.args.right.n (both_true _ _ (sym same ∙ c.if-eq.true)).1

pub returns-else-eq-clause-told : goal.returns-else-eq-clause-told
returns-else-eq-clause-told c = λ f is.
    let same : c.eq.result ≡ (bytes_eq c.args.left.id c.args.right.id && eqb c.args.left.n c.args.right.n) = search rules in
    sym (told_by f c.args.left c.args.right false is (sym c.if-eq.false ∙ same))
