use Rattle.std.proofs.Common.{◌<◌, ◌≤◌, List, length, sym, ap, subst, ◌∙◌, arith}
use Rattle.std.specs.Prelude.{slice_get}
use Rattle.std.proofs.lemmas.Result.{err_from_is_err_and}
use Rattle.model.specs.Change.{IsChange}
use Rattle.model.specs.Command.{made_acks}
use Rattle.model.specs.Held.{held_behind}
use Rattle.model.specs.Reading.{base_in}
use Rattle.op_grammar.specs.Operations.{operations_of}
use Rattle.op_grammar.specs.declared.operation.OpRef.{OpRef}
use Rattle.keeping_laws.proofs.EditForms.{ArePlanned}
use Rattle.replica.specs.declared.head.FileHead.{FileHead}
use Rattle.member_replica.specs.Makings.{clocked_by}
use Rattle.member_replica.proofs.AckLaws.{acks_all, acks_begin, acks_meant, acks_more, acks_stop, few_held, holds_below}
use Rattle.member_replica.proofs.ClockLaws.{nothing_planned}
use Rattle.member_replica.proofs.MadeLaws.{counts_length, next_in_form, stops_all}
use Rattle.member_replica.proofs.acks.ack.Goals as goal

pub mine-init : goal.mine-init
mine-init c = acks_begin c.args.parts c.of-makings.result c.of-makings.ensures

pub make-requires-clause-within : goal.make-requires-clause-within
make-requires-clause-within c =
    let f = c.args.parts in
    let so = c.mine.invariant in
    let at = sym (ap (λ (h : FileHead). slice_get h.mine c.mine.i) c.head.ensures.head) ∙ c.at.ensures.at in
    omega (arith, holds_below f c.mine.i c.at.result.now c.head.ensures.is_file.header.mine_below at, counts_length f so.made c.mine.makings so.making)

pub make-requires-clause-change : goal.make-requires-clause-change
make-requires-clause-change c = λ d clocked.
    let f = c.args.parts in
    let so = c.mine.invariant in
    let at = sym (ap (λ (h : FileHead). slice_get h.mine c.mine.i) c.head.ensures.head) ∙ c.at.ensures.at in
    let lt = holds_below f c.mine.i c.at.result.now c.head.ensures.is_file.header.mine_below at in
    let planned = subst (λ (p : List OpRef). ArePlanned f.members (operations_of p)) (sym c.new-nothing.ensures) (nothing_planned f.members) in
    subst (λ n. IsChange n d) (sym (counts_length f so.made c.mine.makings so.making)) (next_in_form f so.made c.mine.makings c.at.result.now (operations_of c.new-nothing.result) d so.making lt planned clocked)

pub returns-in_err-make : goal.returns-in_err-make
returns-in_err-make c =
    let f = c.args.parts in
    let m = c.mine.makings in
    let so = c.mine.invariant in
    let member = c.at.result.now in
    let at = sym (ap (λ (h : FileHead). slice_get h.mine c.mine.i) c.head.ensures.head) ∙ c.at.ensures.at in
    let lt = holds_below f c.mine.i member c.head.ensures.is_file.header.mine_below at in
    let some : 1 ≤ length f.mine = omega (arith, c.mine-test.true, c.len-i-end.ensures, ap (λ (h : FileHead). length h.mine) c.head.ensures.head) in
    let meant = acks_meant f (record { is_file = c.head.ensures.is_file; base = so.making.untrimmed }) some in
    let nothing = ap (λ (p : List OpRef). clocked_by m.time m.counts member (operations_of p)) (sym c.new-nothing.ensures) in
    let p = err_from_is_err_and c.from_residual.result c.from_residual.ensures.1 in
    rw (p.1, p.2)
    (stops_all f (clocked_by m.time m.counts member (operations_of c.new-nothing.result)) (made_acks f.members (held_behind (base_in f)) f.kept f.mine) c.in_err-make.field-0.0 c.in_err-make.ensures
    (λ u e. meant ∙ acks_stop f c.mine.i member m u so lt at (nothing ∙ e)))

pub mine-preserved : goal.mine-preserved
mine-preserved c =
    let f = c.args.parts in
    let m = c.mine.makings in
    let so = c.mine.invariant in
    let member = c.at.result.now in
    let at = sym (ap (λ (h : FileHead). slice_get h.mine c.mine.i) c.head.ensures.head) ∙ c.at.ensures.at in
    let lt = holds_below f c.mine.i member c.head.ensures.is_file.header.mine_below at in
    let within : c.mine.i < length f.mine = omega (arith, c.mine-test.true, c.len-i-end.ensures, ap (λ (h : FileHead). length h.mine) c.head.ensures.head) in
    let nothing = ap (λ (p : List OpRef). clocked_by m.time m.counts member (operations_of p)) (sym c.new-nothing.ensures) in
    let (bytes, stored) = c.requires.stored in
    let (d, clocked, more) = c.in_ok-make.ensures in
    acks_more f c.mine.i member m c.make.new.self d so lt at (few_held bytes f c.mine.i stored within) (nothing ∙ clocked) more

pub stored-requires : goal.stored-requires
stored-requires c = (c.mine.invariant.made, c.mine.invariant.making)

pub returns : goal.returns
returns c =
    let f = c.args.parts in
    let so = c.mine.invariant in
    let mine = ap (λ (h : FileHead). length h.mine) c.head.ensures.head in
    let some : 1 ≤ length f.mine = omega (arith, c.if-len-eq0.false, c.len.ensures, mine) in
    let all : length f.mine ≤ c.mine.i = omega (arith, c.mine-test.false, c.len-i-end.ensures, mine) in
    let meant = acks_meant f (record { is_file = c.head.ensures.is_file; base = so.making.untrimmed }) some in
    (so.made, meant ∙ acks_all f c.mine.i c.mine.makings so all, c.in_ok-stored.ensures so.made so.making)
