use Rattle.std.proofs.Common.{Err, ap, ◌∙◌, sym, subst, arith}
use Rattle.std.proofs.lemmas.Result.{err_from_is_err_and}
use Rattle.cbor_det.specs.Unread.{unread}
use Rattle.replica.specs.Fields.{Decodes, spelled_numbers, AreMine}
use Rattle.replica.proofs.FieldLaws.{mine_begins, mine_goes_on, array_only, no_list, list_stops, list_ends}
use Rattle.replica.proofs.fields.read_mine.Goals as goal

pub returns-in_err-count : goal.returns-in_err-count
returns-in_err-count c =
    let p = err_from_is_err_and c.from_residual.result c.from_residual.ensures.1 in
    subst (Decodes spelled_numbers (AreMine c.args.n) (unread c.args.cursor.now) (unread c.array.new.self)) (sym (p.1 ∙ ap Err p.2))
    (no_list c.args.n (unread c.args.cursor.now) c.requires (λ k more lt e. let bad = (c.in_err-count.ensures.only k more lt e).0 in cc))

pub mine-init : goal.mine-init
mine-init c = rw c.new-mine.ensures (mine_begins c.args.n (unread c.array.new.self))

pub returns-in_err-member : goal.returns-in_err-member
returns-in_err-member c =
    let p = err_from_is_err_and c.from_residual-in_err-member.result c.from_residual-in_err-member.ensures.1 in
    list_stops c.args.n (unread c.args.cursor.now) c.requires (unread c.array.new.self) (unread c.mine.cursor) (unread c.read_within.new.cursor) (unread c.read_within.new.cursor) c.in_ok-count.count c.mine.read c.mine.least c.mine.mine c.in_err-member.field-0.0 c.from_residual-in_err-member.result (p.1 ∙ ap Err p.2)
    (array_only (unread c.args.cursor.now) (unread c.array.new.self) c.in_ok-count.count c.in_ok-count.ensures.only) c.mine.invariant c.mine-test.true c.in_err-member.ensures

pub mine-preserved : goal.mine-preserved
mine-preserved c =
    rw c.in_ok-push.ensures.ok (mine_goes_on c.args.n c.mine.read c.mine.least c.mine.mine (unread c.array.new.self) (unread c.mine.cursor) c.mine.invariant c.in_ok-member.member (unread c.read_within.new.cursor) c.in_ok-member.ensures)

pub returns : goal.returns
returns c =
    list_ends c.args.n (unread c.args.cursor.now) c.requires (unread c.array.new.self) (unread c.mine.cursor) c.in_ok-count.count c.mine.read c.mine.least c.mine.mine c.in_ok-count.ensures.found.1
    (array_only (unread c.args.cursor.now) (unread c.array.new.self) c.in_ok-count.count c.in_ok-count.ensures.only) c.mine.invariant (omega arith)
