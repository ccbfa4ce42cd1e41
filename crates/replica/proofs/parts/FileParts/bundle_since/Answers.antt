use Rattle.std.proofs.Common.{◌≡◌, ◌++◌, ◌∷◌, [], Bool, true, false, ltb, get_or, length, ap, sym, subst, ◌∙◌, take, lt-ltb, arith}
use Rattle.std.specs.Prelude.{filter}
use Rattle.std.proofs.lemmas.Bool.{le-ltb}
use Rattle.std.proofs.lemmas.List.{take_all}
use Rattle.model.specs.Change.{Change}
use Rattle.model.specs.File.{File, IsFile}
use Rattle.op_grammar.specs.declared.head.Head.{Head}
use Rattle.replica.specs.Parts.{file_by}
use Rattle.replica.proofs.BundleLaws.{bundle_of, bundle_is_file, passing_few}
use Rattle.replica.proofs.CountLaws.{kept_pushed, not_pushed}
use Rattle.replica.proofs.PartLaws.{take_next}
use Rattle.replica.proofs.parts.FileParts.bundle_since.Goals.{then-head-get+in_ok-push, else-head-get}
use Rattle.replica.proofs.parts.FileParts.bundle_since.Goals as goal

pub kept-preserved : goal.kept-preserved
kept-preserved c =
    let d = c.at-block.result.now in
    let kept = c.self.inside.kept in
    let p : Change → Bool = λ e. ltb (get_or c.args.vector.now e.member 0) e.number in
    let all = ap (filter p) (take_next kept c.kept.i d c.at-block.ensures) in
    let number = ap (λ (h : Head). h.number) c.head.ensures in
    let member = ap (λ (h : Head). h.member) c.head-in-kept.ensures in
    let count = c.get.ensures ∙ ap (λ m. get_or c.args.vector.now m 0) member in
    elim c.if-head-get.branch [
      | then-head-get+in_ok-push w ↦
          let passes : p d ≡ true = lt-ltb (get_or c.args.vector.now d.member 0) d.number (omega (arith, w.if-head-get.true, number, count)) in
          w.kept-is ∙ w.in_ok-push.ensures.ok ∙ (λ i. c.kept.invariant i ++ w.copy.ensures i ∷ []) ∙ sym (kept_pushed (take c.kept.i kept) d p passes) ∙ sym all
      | else-head-get w ↦
          let fails : p d ≡ false = le-ltb (get_or c.args.vector.now d.member 0) d.number (omega (arith, w.if-head-get.false, number, count)) in
          w.kept-is ∙ c.kept.invariant ∙ sym (not_pushed (take c.kept.i kept) d p fails) ∙ sym all
    ]

pub overflow_cast-head : goal.overflow_cast-head
overflow_cast-head c =
    let p = c.self.inside in
    let passes : Change → Bool = λ d. ltb (get_or c.args.vector.now d.member 0) d.number in
    let all = ap (filter passes) (take_all c.kept.i p.kept (omega (arith, c.kept-test.false, c.len-i-end.ensures))) in
    omega (arith, c.len.ensures, ap length (c.kept.invariant ∙ all), passing_few passes p.kept, c.self.invariant.is.header.kept_most)

pub of-requires-clause-is : goal.of-requires-clause-is
of-requires-clause-is c =
    let p = c.self.inside in
    let passes : Change → Bool = λ d. ltb (get_or c.args.vector.now d.member 0) d.number in
    let all = c.kept.invariant ∙ ap (filter passes) (take_all c.kept.i p.kept (omega (arith, c.kept-test.false, c.len-i-end.ensures))) in
    let same : ◌≡◌ {A = File} (bundle_of passes (file_by p)) _ = λ i. record (bundle_of passes (file_by p)) { mine = sym c.new.ensures i; kept = sym all i; waiting = sym c.new-2.ensures i } in
    subst IsFile same (bundle_is_file passes (file_by p) c.self.invariant.is)
