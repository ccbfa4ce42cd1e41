use Rattle.std.proofs.Common.{◌≡◌, ℕ, List, ◌++◌, length, Ok, sym, ap, subst, ◌∙◌}
use Rattle.std.specs.Prelude.{codes}
use Rattle.std.proofs.lemmas.Result.{err_from_is_err_and}
use Rattle.model.specs.File.{File, spell_file}
use Rattle.model.specs.Text.{field}
use Rattle.replica.specs.declared.head.FileHead.{FileHead}
use Rattle.outline_meaning.specs.Meaning.{exactly, reads_and_makes}
use Rattle.outline_meaning.specs.Outcome.{same_document}
use Rattle.outline_meaning.specs.Follows.{Refuses}
use Rattle.outline_cmd.proofs.BundleLaws.{bundle_apart, bundle_means}
use Rattle.outline_cmd.proofs.bundle.bundle_parts.Goals as goal

pub returns-in_err-check_document : goal.returns-in_err-check_document
returns-in_err-check_document c = λ name.
    let p = err_from_is_err_and c.from_residual.result c.from_residual.ensures.1 in
    let f = c.args.parts.now in
    let refusal = c.in_err-check_document.field-0.0 in
    let told = c.in_err-check_document.ensures.told f (ap (λ (h : FileHead). h.doc) c.head.ensures.head) in
    let counted = subst (λ (n : ℕ). Refuses (exactly (same_document f c.head.result.now.doc.id n)) refusal) c.len-n.ensures.value told in
    rw (p.1, p.2) (bundle_apart (reads_and_makes name 3 c.args.new_name.now) f c.args.vector.now refusal
    (subst (λ (id : List ℕ). Refuses (exactly (same_document f id (length c.args.vector.now))) refusal) (ap (λ (h : FileHead). h.doc.id) c.head.ensures.head) counted))

pub bundle_since-requires : goal.bundle_since-requires
bundle_since-requires c = sym c.len-n.ensures.value ∙ sym c.in_ok-check_document.ensures.same ∙ ap (λ (h : FileHead). h.doc.n) c.head.ensures.head

pub returns : goal.returns
returns c = λ name.
    let f = c.args.parts.now in
    let told = c.in_ok-check_document.ensures.told f (ap (λ (h : FileHead). h.doc) c.head.ensures.head) in
    let counted = subst (λ (n : ℕ). Ok tt ≡ same_document f c.head.result.now.doc.id n) c.len-n.ensures.value told in
    let same = subst (λ (id : List ℕ). Ok tt ≡ same_document f id (length c.args.vector.now)) (ap (λ (h : FileHead). h.doc.id) c.head.ensures.head) counted in
    let kept = ap (λ (h : FileHead). h.kept) c.head-2.ensures.head ∙ ap (λ (g : File). length g.kept) c.in_ok-bundle.ensures in
    bundle_means name c.args.new_name.now f c.args.vector.now c.in_ok-text.text c.in_ok-bytes.bytes c.head.ensures.base same
    (c.in_ok-text.ensures ∙ ap (λ (n : ℕ). codes "changes" ++ (field n ++ codes "\n")) kept) (c.in_ok-bytes.ensures ∙ ap spell_file c.in_ok-bundle.ensures)
