use Rattle.std.proofs.Common.{◌≡◌, ◌*◌, ◌<◌, ◌++◌, ◌∷◌, [], true, List, length, refl, sym, ap, subst, ◌∙◌, arith}
use Rattle.std.specs.Prelude.{Some}
use Rattle.model.specs.Settle.{least_ready}
use Rattle.model.specs.Change.{Change, IsChange}
use Rattle.model.specs.Held.{is_ready}
use Rattle.causal_inbox.specs.Offers.{Waiting}
use Rattle.member_replica.specs.Receiving.{reading}
use Rattle.member_replica.specs.declared.settle.Judging.{Judging}
use Rattle.member_replica.specs.Reports.{report_of}
use Rattle.member_replica.specs.Work.{operations_in, ready_in}
use Rattle.member_replica.proofs.WorkLaws.{decodes_more, decodes_none, decodes_within, read_before, read_more}
use Rattle.member_replica.proofs.SettleLaws.{goes, read_next}
use Rattle.member_replica.proofs.JudgeLaws.{next_one, judged_on, judged_whole}
use Rattle.member_replica.proofs.settle.Judging.judge_all.Goals as goal

pub judge-requires-clause-block : goal.judge-requires-clause-block
judge-requires-clause-block c =
    let j = c.loop-block.judging in
    let block = c.in-Some.block in
    subst (λ (k : Judging). IsChange k.inbox.members block) (sym c.in-Some.ensures.taken) (next_one j block c.loop-block.invariant.judging c.in-Some.ensures.least).each

pub judge-requires-clause-ready : goal.judge-requires-clause-ready
judge-requires-clause-ready c =
    let j = c.loop-block.judging in
    let block = c.in-Some.block in
    subst (λ (k : Judging). is_ready k.inbox.members (reading k.inbox.members k.ledger) block ≡ true) (sym c.in-Some.ensures.taken) (next_one j block c.loop-block.invariant.judging c.in-Some.ensures.least).ready

pub loop-block-smaller : goal.loop-block-smaller
loop-block-smaller c =
    let j = c.loop-block.judging in
    let block = c.in-Some.block in
    let pool = ap (λ (w : Waiting). w.pool) c.in_ok-judging.ensures.inbox ∙ ap (λ (k : Judging). k.inbox.pool) c.in-Some.ensures.taken in
    subst (λ (cs : List Change). length cs < length j.inbox.pool) (sym pool) (next_one j block c.loop-block.invariant.judging c.in-Some.ensures.least).fewer

pub loop-block-preserved : goal.loop-block-preserved
loop-block-preserved c =
    let j = c.loop-block.judging in
    let inv = c.loop-block.invariant in
    let block = c.in-Some.block in
    let next = c.in_ok-judging.judging in
    let taken = c.in-Some.ensures.taken in
    let inbox = c.in_ok-judging.ensures.inbox in
    let pool = ap (λ (w : Waiting). w.pool) inbox ∙ ap (λ (k : Judging). k.inbox.pool) taken in
    let fewer : length next.inbox.pool < length j.inbox.pool = subst (λ (cs : List Change). length cs < length j.inbox.pool) (sym pool) (next_one j block inv.judging c.in-Some.ensures.least).fewer in
    record {
      judging = c.in_ok-judging.ensures.judging;
      members = ap (λ (w : Waiting). w.members) inbox ∙ ap (λ (k : Judging). k.inbox.members) taken ∙ inv.members;
      few = omega (arith, inv.few, c.in_ok-judging.ensures.few, ap (λ (k : Judging). k.report.accepted) taken);
      goes = λ turns s far enough.
          let (read, far_on, decoded) = inv.goes turns s far enough in (
            read ++ block ∷ [],
            judged_on c.args.self.inbox.members j c.next_ready.new.self next block turns s read inv.members c.in-Some.ensures.least taken inbox c.in_ok-judging.ensures.judged far_on,
            decodes_more c.args.tally.now c.loop-block.tally c.judge.new.tally (2 * operations_in read) (2 * length block.operations) (2 * operations_in (read ++ block ∷ [])) decoded c.judge.ensures.tally (read_more read block),
          );
    }

pub returns-clause-judged : goal.returns-clause-judged
returns-clause-judged c turns s far enough =
    let (read, far_on, decoded) = c.loop-block.invariant.goes turns s far enough in
    judged_whole c.args.self.inbox.members c.loop-block.judging c.next_ready.new.self turns s read c.loop-block.invariant.members c.in_default.ensures.least c.in_default.ensures.taken far_on

pub returns-clause-tally : goal.returns-clause-tally
returns-clause-tally c = λ turns s far enough.
    let (read, far_on, decoded) = c.loop-block.invariant.goes turns s far enough in
    let all = ap operations_in far_on.reads in
    let before = read_before read (ready_in far_on.left c.args.self.inbox.members (reading c.args.self.inbox.members) far_on.now) in
    decodes_within c.args.tally.now c.loop-block.tally (2 * operations_in read) (2 * operations_in (ready_in turns c.args.self.inbox.members (reading c.args.self.inbox.members) s)) decoded (omega arith)

pub returns-in_err-judging-clause-tally : goal.returns-in_err-judging-clause-tally
returns-in_err-judging-clause-tally c = λ turns s far enough.
    let j = c.loop-block.judging in
    let n = c.args.self.inbox.members in
    let block = c.in-Some.block in
    let (read, far_on, decoded) = c.loop-block.invariant.goes turns s far enough in
    let least : least_ready n (reading n j.ledger) j.inbox.pool ≡ Some block = subst (λ k. least_ready k (reading k j.ledger) j.inbox.pool ≡ Some block) c.loop-block.invariant.members (sym c.in-Some.ensures.least) in
    let next = read_next n turns s j.ledger j.inbox.pool (report_of j.report) read block far_on least in
    decodes_more c.args.tally.now c.loop-block.tally c.judge.new.tally (2 * operations_in read) (2 * length block.operations) (2 * operations_in (ready_in turns n (reading n) s)) decoded c.judge.ensures.tally (omega arith)

pub loop-block-init : goal.loop-block-init
loop-block-init c = record {
  judging = c.requires.judging;
  members = refl;
  few = c.requires.few;
  goes = λ turns s far enough. ([], goes c.args.self.inbox.members turns s c.args.self.ledger c.args.self.inbox.pool (report_of c.args.self.report) far enough, decodes_none c.args.tally.now (2 * operations_in []));
}
