use Rattle.std.proofs.Common.{[], ◌∷◌, ◌++◌, Err, ap, ◌∙◌, sym, subst, refl, set, get_or, max, arith}
use Rattle.std.proofs.lemmas.List.{length-append}
use Rattle.std.proofs.lemmas.Result.{err_from_is_err_and}
use Rattle.cbor_det.specs.Unread.{unread}
use Rattle.model.specs.Change.{change_item}
use Rattle.model.specs.File.{IsLater, IsNextBehind}
use Rattle.model.specs.Rules.{F4, F5}
use Rattle.op_grammar.specs.Rules.{rule_of}
use Rattle.op_grammar.specs.declared.Head.{Head}
use Rattle.replica.specs.Counts.{IsCounted}
use Rattle.replica.specs.Heads.{base_by}
use Rattle.replica.specs.Scanning.{ScansKept, FaultAt, changes_front}
use Rattle.replica.proofs.CountLaws.{counted_none, counted_more}
use Rattle.replica.proofs.ChangeLaws.{change_breaks}
use Rattle.replica.proofs.ScanLaws.{begins, stops_later, broken_later, goes_on, left_short, stands_spelled, kept_not_whole, kept_breaks, kept_goes}
use Rattle.replica.proofs.scan.scan_kept.Goals as goal

pub kept-init : goal.kept-init
kept-init c =
    let h = c.args.head.now in
    rw (c.new-kept.ensures, c.zero-counts.ensures) (record { number = refl; counts = counted_none h; so_far = begins h c.args.first (changes_front h [] []) (unread c.args.cursor.now) })

pub returns-in_err-block : goal.returns-in_err-block
returns-in_err-block c =
    let h = c.args.head.now in
    let kept = c.kept.kept in
    let old = unread c.args.cursor.now in
    let p = err_from_is_err_and c.from_residual.result c.from_residual.ensures.1 in
    subst (ScansKept c.args.first h old (unread c.read_block.new.cursor)) (sym (p.1 ∙ ap Err p.2))
    (stops_later h c.args.first c.kept.read (changes_front h [] []) (changes_front h kept []) old (unread c.kept.cursor) c.kept.invariant.so_far c.requires.room c.in_err-block.field-0.0 c.in_err-block.ensures.err
    (kept_not_whole h kept c.kept.read c.kept.invariant.number c.kept-test.true)
    (λ x r b. kept_breaks h kept c.kept.read c.kept.invariant.number c.kept-test.true x r (change_breaks h.doc.n (IsLater kept) (IsNextBehind (base_by h) kept) (F4 ∷ F5 ∷ []) x r b)))

pub returns-in-Err : goal.returns-in-Err
returns-in-Err c =
    let h = c.args.head.now in
    let kept = c.kept.kept in
    let b = c.in_ok-block.block in
    let old = unread c.args.cursor.now in
    let now = unread c.kept.cursor in
    let ok = c.in_ok-block.ensures.ok in
    let start = changes_front h [] [] in
    let so = c.kept.invariant.so_far in
    let rest = c.read_block.new.cursor.rest.now in
    let left = left_short h c.args.first c.kept.read start (changes_front h kept []) old now so c.requires.room in
    let spelled = stands_spelled c.args.first c.kept.read now.rest rest h.doc.n b left c.requires.header.members_most ok.0 ok.1 in
    subst (FaultAt old.len start c.args.first old.rest) (sym c.broken.ensures)
    (broken_later h c.args.first c.kept.read start (changes_front h kept []) old now so c.requires.room (change_item b) rest (rule_of c.in-Err.rule) spelled ok.1
    (kept_breaks h kept c.kept.read c.kept.invariant.number c.kept-test.true (change_item b) (rule_of c.in-Err.rule) c.in-Err.ensures.err))

pub kept-preserved : goal.kept-preserved
kept-preserved c =
    let h = c.args.head.now in
    let kept = c.kept.kept in
    let counts = c.kept.counts in
    let b = c.in_ok-block.block in
    let old = unread c.args.cursor.now in
    let now = unread c.kept.cursor in
    let ok = c.in_ok-block.ensures.ok in
    let place = c.in_default.ensures.ok in
    let start = changes_front h [] [] in
    let so = c.kept.invariant.so_far in
    let rest = c.read_block.new.cursor.rest.now in
    let left = left_short h c.args.first c.kept.read start (changes_front h kept []) old now so c.requires.room in
    let spelled = stands_spelled c.args.first c.kept.read now.rest rest h.doc.n b left c.requires.header.members_most ok.0 ok.1 in
    let goes = goes_on h c.args.first c.kept.read start (changes_front h kept []) old now so c.requires.room (change_item b) (changes_front h (kept ++ b ∷ []) []) (unread c.read_block.new.cursor) c.in_ok-block.ensures.len
    spelled ok.1 (kept_goes h kept c.kept.read c.kept.invariant.number c.kept-test.true b ok.0 place.0 place.1) in
    let m = ap (λ (x : Head). x.member) c.head.ensures in
    let n = ap (λ (x : Head). x.number) c.head-in-kept.ensures in
    let raised = c.raise.ensures ∙ (λ i. set counts (m i) (max (get_or counts (m i) 0) (n i))) in
    let counted = subst (IsCounted h (kept ++ b ∷ [])) (sym raised) (counted_more h kept counts b c.kept.invariant.counts ok.0 place.1) in
    rw c.in_ok-push.ensures.ok (record { number = omega (arith, length-append kept (b ∷ []), c.kept.invariant.number); counts = counted; so_far = goes })
