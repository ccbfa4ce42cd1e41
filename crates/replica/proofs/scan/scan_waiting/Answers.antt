use Rattle.std.proofs.Common.{[], ◌∷◌, ◌++◌, Err, ap, ◌∙◌, sym, subst, refl, arith}
use Rattle.std.proofs.lemmas.List.{length-append}
use Rattle.std.proofs.lemmas.Result.{err_from_is_err_and}
use Rattle.cbor_det.specs.Unread.{unread}
use Rattle.model.specs.Change.{Change, change_item}
use Rattle.model.specs.File.{IsNextName}
use Rattle.model.specs.Rules.{F4}
use Rattle.file_laws.proofs.FrontLaws.{next_name_too}
use Rattle.replica.specs.Scanning.{ScansWaiting, FaultAt, changes_front}
use Rattle.replica.proofs.ChangeLaws.{change_breaks, order_breaks}
use Rattle.replica.proofs.ScanLaws.{begins, stops_later, broken_later, goes_on, left_short, stands_spelled, waiting_not_whole, waiting_breaks, waiting_goes}
use Rattle.replica.proofs.scan.scan_waiting.Goals as goal

pub waiting-init : goal.waiting-init
waiting-init c =
    let h = c.args.head.now in
    rw c.new-waiting.ensures (record { number = refl; so_far = begins h c.args.first (changes_front h c.args.kept.now []) (unread c.args.cursor.now) })

pub returns-in_err-block : goal.returns-in_err-block
returns-in_err-block c =
    let h = c.args.head.now in
    let kept = c.args.kept.now in
    let waiting = c.waiting.waiting in
    let old = unread c.args.cursor.now in
    let p = err_from_is_err_and c.from_residual.result c.from_residual.ensures.1 in
    subst (ScansWaiting c.args.first h kept old (unread c.read_block.new.cursor)) (sym (p.1 ∙ ap Err p.2))
    (stops_later h c.args.first c.waiting.read (changes_front h kept []) (changes_front h kept waiting) old (unread c.waiting.cursor) c.waiting.invariant.so_far c.requires.room c.in_err-block.field-0.0 c.in_err-block.ensures.err
    (waiting_not_whole h kept waiting c.waiting.read c.requires.kept c.waiting.invariant.number c.waiting-test.true)
    (λ x r b. waiting_breaks h kept waiting c.waiting.read c.requires.kept c.waiting.invariant.number c.waiting-test.true x r (change_breaks h.doc.n (IsNextName waiting) (λ (d : Change). Unit {0}) (F4 ∷ []) x r b)))

pub returns-then-not-is_next_name : goal.returns-then-not-is_next_name
returns-then-not-is_next_name c =
    let h = c.args.head.now in
    let kept = c.args.kept.now in
    let waiting = c.waiting.waiting in
    let b = c.in_ok-block.block in
    let old = unread c.args.cursor.now in
    let now = unread c.waiting.cursor in
    let ok = c.in_ok-block.ensures.ok in
    let start = changes_front h kept [] in
    let so = c.waiting.invariant.so_far in
    let rest = c.read_block.new.cursor.rest.now in
    let left = left_short h c.args.first c.waiting.read start (changes_front h kept waiting) old now so c.requires.room in
    let spelled = stands_spelled c.args.first c.waiting.read now.rest rest h.doc.n b left c.requires.header.members_most ok.0 ok.1 in
    let order = order_breaks h.doc.n (IsNextName waiting) (λ (d : Change). Unit {0}) c.requires.header.members_most b ok.0 [] (λ d e. next_name_too waiting d b e) (λ k. let bad = c.if-not-is_next_name.ensures.1 k in cc) in
    subst (FaultAt old.len start c.args.first old.rest) (sym c.broken.ensures)
    (broken_later h c.args.first c.waiting.read start (changes_front h kept waiting) old now so c.requires.room (change_item b) rest F4 spelled ok.1
    (waiting_breaks h kept waiting c.waiting.read c.requires.kept c.waiting.invariant.number c.waiting-test.true (change_item b) F4 order))

pub waiting-preserved : goal.waiting-preserved
waiting-preserved c =
    let h = c.args.head.now in
    let kept = c.args.kept.now in
    let waiting = c.waiting.waiting in
    let b = c.in_ok-block.block in
    let old = unread c.args.cursor.now in
    let now = unread c.waiting.cursor in
    let ok = c.in_ok-block.ensures.ok in
    let start = changes_front h kept [] in
    let so = c.waiting.invariant.so_far in
    let rest = c.read_block.new.cursor.rest.now in
    let left = left_short h c.args.first c.waiting.read start (changes_front h kept waiting) old now so c.requires.room in
    let spelled = stands_spelled c.args.first c.waiting.read now.rest rest h.doc.n b left c.requires.header.members_most ok.0 ok.1 in
    let goes = goes_on h c.args.first c.waiting.read start (changes_front h kept waiting) old now so c.requires.room (change_item b) (changes_front h kept (waiting ++ b ∷ [])) (unread c.read_block.new.cursor) c.in_ok-block.ensures.len
    spelled ok.1 (waiting_goes h kept waiting c.waiting.read c.requires.kept c.waiting.invariant.number c.waiting-test.true b ok.0 (c.if-not-is_next_name.ensures.0 refl)) in
    rw c.in_ok-push.ensures.ok (record { number = omega (arith, length-append waiting (b ∷ []), c.waiting.invariant.number); so_far = goes })
