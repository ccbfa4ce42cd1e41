use Rattle.std.proofs.Common.{◌<◌, ◌^◌, List, length, sym, ap, subst, ◌∙◌, arith}
use Rattle.cbor_det.specs.Unread.{Unread, unread}
use Rattle.model.specs.Change.{Change}
use Rattle.member_replica.proofs.WriteLaws.{TakesUp, takes_none, takes_one, takes_all, takes_on}
use Rattle.member_replica.proofs.made.kept_with.Goals as goal

pub spelled-init : goal.spelled-init
spelled-init c =
    let kept = c.args.kept.now in
    record {
      len = ap (λ (u : Unread). u.len) c.new-cursor.ensures;
      takes = λ cs are is.
          subst (λ (all : List Change). TakesUp c.args.n kept cs all (unread c.new-cursor.result)) (sym c.in_ok-all.ensures)
          (takes_none c.args.n kept cs (unread c.new-cursor.result) are (ap (λ (u : Unread). u.rest) c.new-cursor.ensures ∙ is));
    }

pub spelled-smaller : goal.spelled-smaller
spelled-smaller c = takes_on c.in-Some.block (unread c.spelled.cursor) (unread c.take.new.cursor) c.in-Some.ensures.found.1

pub spelled-preserved : goal.spelled-preserved
spelled-preserved c =
    let kept = c.args.kept.now in
    let old = unread c.spelled.cursor in
    let new = unread c.take.new.cursor in
    let short : length old.rest < 2 ^ 64 = omega (arith, c.spelled.cursor.in_range, c.spelled.invariant.len) in
    record {
      len = c.take.ensures.len ∙ c.spelled.invariant.len;
      takes = λ cs are is.
          subst (λ (all : List Change). TakesUp c.args.n kept cs all new) (sym c.in_ok-push.ensures.ok)
          (takes_one c.args.n kept cs c.spelled.all c.in-Some.block old new c.requires.few c.in-Some.ensures.found.0 short c.in-Some.ensures.found.1 (c.spelled.invariant.takes cs are is));
    }

pub returns : goal.returns
returns c = λ cs are is.
    let old = unread c.spelled.cursor in
    let short : length old.rest < 2 ^ 64 = omega (arith, c.spelled.cursor.in_range, c.spelled.invariant.len) in
    takes_all c.args.n c.args.kept.now cs c.spelled.all old c.requires.few short (c.take.ensures.none c.in_default.is) (c.spelled.invariant.takes cs are is)
