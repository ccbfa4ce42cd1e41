use Rattle.std.proofs.Common.{◌*◌, sym, ap, subst, ◌∙◌}
use Rattle.model.specs.File.{File}
use Rattle.model.specs.Reading.{settled_in, with_settled}
use Rattle.model.specs.Settle.{Settling}
use Rattle.doc_store.specs.Documents.{DecodesSome}
use Rattle.member_replica.specs.Work.{operations_in, readied_in}
use Rattle.member_replica.specs.Reports.{IsReport}
use Rattle.member_replica.proofs.ReceiveLaws.{delivery, may_settle, received_is, received_is_file, received_work, settled_alike, settled_is}
use Rattle.member_replica.proofs.built.Replica.receive.Goals as goal

pub settle-requires : goal.settle-requires
settle-requires c =
    let f = c.self.inside.parts in
    let g = c.args.offered.now in
    let is = delivery c.self.inside c.args.self g c.self.view_is c.self.invariant c.requires.kind c.requires.stored c.requires.offered c.requires.members in
    (f.members, may_settle f g c.self.inside.holding c.kept.result.now c.waiting.result.now c.kept-2.result.now is c.self.invariant.holds c.kept.ensures c.waiting.ensures c.kept-2.ensures)

pub with_changes-requires : goal.with_changes-requires
with_changes-requires c =
    let f = c.self.inside.parts in
    let g = c.args.offered.now in
    let is = delivery c.self.inside c.args.self g c.self.view_is c.self.invariant c.requires.kind c.requires.stored c.requires.offered c.requires.members in
    let may = may_settle f g c.self.inside.holding c.kept.result.now c.waiting.result.now c.kept-2.result.now is c.self.invariant.holds c.kept.ensures c.waiting.ensures c.kept-2.ensures in
    let settled = settled_alike f g c.kept.result.now c.waiting.result.now c.kept-2.result.now c.in_ok-settled.settled c.kept.ensures c.waiting.ensures c.kept-2.ensures (c.in_ok-settled.ensures.settled f.members may) in
    received_is_file f g c.in_ok-settled.settled.kept c.in_ok-settled.settled.waiting is settled.kept settled.waiting

pub returns-clause-parts : goal.returns-clause-parts
returns-clause-parts c =
    let f = c.self.inside.parts in
    let g = c.args.offered.now in
    let is = delivery c.self.inside c.args.self g c.self.view_is c.self.invariant c.requires.kind c.requires.stored c.requires.offered c.requires.members in
    let may = may_settle f g c.self.inside.holding c.kept.result.now c.waiting.result.now c.kept-2.result.now is c.self.invariant.holds c.kept.ensures c.waiting.ensures c.kept-2.ensures in
    let settled = settled_alike f g c.kept.result.now c.waiting.result.now c.kept-2.result.now c.in_ok-settled.settled c.kept.ensures c.waiting.ensures c.kept-2.ensures (c.in_ok-settled.ensures.settled f.members may) in
    c.with_changes.ensures ∙ received_is f g c.in_ok-settled.settled.kept c.in_ok-settled.settled.waiting is settled.kept settled.waiting ∙ ap (λ (f : File). with_settled f (settled_in f g.kept)) c.self.view_is

pub returns-clause-report : goal.returns-clause-report
returns-clause-report c =
    let f = c.self.inside.parts in
    let g = c.args.offered.now in
    let is = delivery c.self.inside c.args.self g c.self.view_is c.self.invariant c.requires.kind c.requires.stored c.requires.offered c.requires.members in
    let may = may_settle f g c.self.inside.holding c.kept.result.now c.waiting.result.now c.kept-2.result.now is c.self.invariant.holds c.kept.ensures c.waiting.ensures c.kept-2.ensures in
    let settled = settled_alike f g c.kept.result.now c.waiting.result.now c.kept-2.result.now c.in_ok-settled.settled c.kept.ensures c.waiting.ensures c.kept-2.ensures (c.in_ok-settled.ensures.settled f.members may) in
    subst (λ (s : Settling). IsReport c.in_ok-settled.settled.report s) (sym (settled_is f g is) ∙ ap (λ (f : File). settled_in f g.kept) c.self.view_is) settled.report

pub returns-in_err-settled-clause-tally : goal.returns-in_err-settled-clause-tally
returns-in_err-settled-clause-tally c =
    let f = c.self.inside.parts in
    let g = c.args.offered.now in
    let is = delivery c.self.inside c.args.self g c.self.view_is c.self.invariant c.requires.kind c.requires.stored c.requires.offered c.requires.members in
    let may = may_settle f g c.self.inside.holding c.kept.result.now c.waiting.result.now c.kept-2.result.now is c.self.invariant.holds c.kept.ensures c.waiting.ensures c.kept-2.ensures in
    subst (λ (f : File). DecodesSome c.args.tally.now c.settle.new.tally (2 * operations_in (readied_in f g.kept))) c.self.view_is
    (received_work f g c.kept.result.now c.waiting.result.now c.kept-2.result.now c.args.tally.now c.settle.new.tally is c.kept.ensures c.waiting.ensures c.kept-2.ensures (c.settle.ensures.tally f.members may))

pub returns-clause-tally : goal.returns-clause-tally
returns-clause-tally c =
    let f = c.self.inside.parts in
    let g = c.args.offered.now in
    let is = delivery c.self.inside c.args.self g c.self.view_is c.self.invariant c.requires.kind c.requires.stored c.requires.offered c.requires.members in
    let may = may_settle f g c.self.inside.holding c.kept.result.now c.waiting.result.now c.kept-2.result.now is c.self.invariant.holds c.kept.ensures c.waiting.ensures c.kept-2.ensures in
    subst (λ (f : File). DecodesSome c.args.tally.now c.settle.new.tally (2 * operations_in (readied_in f g.kept))) c.self.view_is
    (received_work f g c.kept.result.now c.waiting.result.now c.kept-2.result.now c.args.tally.now c.settle.new.tally is c.kept.ensures c.waiting.ensures c.kept-2.ensures (c.settle.ensures.tally f.members may))
