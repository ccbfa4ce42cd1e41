use Rattle.std.proofs.Common.{ap, subst}
use Rattle.outside.specs.Seen.{seen_by}
use Rattle.outline_words.specs.Table.{Order}
use Rattle.outline_meaning.specs.Meaning.{Loads, roles}
use Rattle.outline_meaning.specs.Run.{AreLoads, given_by, outside_by}
use Rattle.outline_meaning.specs.Works.{OrderWorks}
use Rattle.outline_cmd.proofs.RunMeaning.{run_shows, run_shows_ledger, run_keeps_ledgers}
use Rattle.outline_cmd.proofs.OrderLaws.{given_once, refused_or_given}
use Rattle.outline_cmd.proofs.RunEnds.{later_loads, runs_wrong, runs_refused, runs_finished}
use Rattle.outline_cmd.proofs.program.run.Goals as goal

pub returns-in-Err-clause-meant : goal.returns-in-Err-clause-meant
returns-in-Err-clause-meant g c =
    let seen = seen_by g.K.Keeper.files g.K.Keeper.load_faults g.K.Keeper.store_faults g.K.Keeper.failed in
    let given = given_by g.S.Sink.written g.S.Sink.faults in
    runs_wrong c.in-Err.status c.args.words.now (outside_by (seen c.args.keeper.now) (given c.args.out.now)) c.in-Err.ensures.err c.in-Err.ensures.early

pub returns-in-Ok-answer-clause-meant : goal.returns-in-Ok-answer-clause-meant
returns-in-Ok-answer-clause-meant g c =
    let seen = seen_by g.K.Keeper.files g.K.Keeper.load_faults g.K.Keeper.store_faults g.K.Keeper.failed in
    let given = given_by g.S.Sink.written g.S.Sink.faults in
    let (order, does, goes) = c.in-Ok.ensures.ok in
    let (loads, are, means, works) = c.in-Ok-answer.ensures.meant order does in
    runs_finished c.finish.result c.args.words.now order loads c.in-Ok-answer.answer (seen c.args.keeper.now) (seen c.answer.new.keeper) (seen c.finish.new.keeper) (given c.args.out.now) (given c.finish.new.out) goes are means
    (record {
      finishes = c.finish.ensures.ends;
      loads = c.finish.ensures.loads;
      name = c.finish.ensures.failed;
      untried = λ none. ap g.K.Keeper.store_faults (c.finish.ensures.unstored none);
      stores = c.finish.ensures.stores;
      puts = c.finish.ensures.puts;
      write_fault = c.finish.ensures.write_fault;
      sink_fault = c.finish.ensures.sink_fault;
    })
    c.answer.ensures.loads.same_files c.answer.ensures.loads.same_stores c.answer.ensures.loads.later

pub returns-in-Ok-answer-clause-unread : goal.returns-in-Ok-answer-clause-unread
returns-in-Ok-answer-clause-unread g c = λ refusal refuses.
    let (order, does, goes) = c.in-Ok.ensures.ok in
    absurd (refused_or_given 0 c.args.words.now order refusal goes refuses)

pub returns-in-Err-answer-clause-meant : goal.returns-in-Err-answer-clause-meant
returns-in-Err-answer-clause-meant g c =
    let seen = seen_by g.K.Keeper.files g.K.Keeper.load_faults g.K.Keeper.store_faults g.K.Keeper.failed in
    let given = given_by g.S.Sink.written g.S.Sink.faults in
    let (order, does, goes) = c.in-Ok.ensures.ok in
    let (loads, are, refuses, works) = c.in-Err-answer.ensures.meant order does in
    runs_refused c.in-Err-answer.status c.args.words.now order loads (seen c.args.keeper.now) (seen c.answer.new.keeper) (given c.args.out.now) goes are refuses c.answer.ensures.loads.same_files c.answer.ensures.loads.same_stores c.answer.ensures.loads.later

pub returns-in-Err-answer-clause-unread : goal.returns-in-Err-answer-clause-unread
returns-in-Err-answer-clause-unread g c = λ refusal refuses.
    let (order, does, goes) = c.in-Ok.ensures.ok in
    absurd (refused_or_given 0 c.args.words.now order refusal goes refuses)

pub returns-in-Ok-answer-clause-shows : goal.returns-in-Ok-answer-clause-shows
returns-in-Ok-answer-clause-shows g c =
    let seen = seen_by g.K.Keeper.files g.K.Keeper.load_faults g.K.Keeper.store_faults g.K.Keeper.failed in
    let given = given_by g.S.Sink.written g.S.Sink.faults in
    run_shows c.finish.result c.args.words.now (outside_by (seen c.args.keeper.now) (given c.args.out.now)) (outside_by (seen c.finish.new.keeper) (given c.finish.new.out)) (returns-in-Ok-answer-clause-meant g c)

pub returns-in-Ok-answer-clause-shows_ledger : goal.returns-in-Ok-answer-clause-shows_ledger
returns-in-Ok-answer-clause-shows_ledger g c =
    let seen = seen_by g.K.Keeper.files g.K.Keeper.load_faults g.K.Keeper.store_faults g.K.Keeper.failed in
    let given = given_by g.S.Sink.written g.S.Sink.faults in
    run_shows_ledger c.finish.result c.args.words.now (outside_by (seen c.args.keeper.now) (given c.args.out.now)) (outside_by (seen c.finish.new.keeper) (given c.finish.new.out)) (returns-in-Ok-answer-clause-meant g c)

pub returns-in-Ok-answer-clause-ledgers : goal.returns-in-Ok-answer-clause-ledgers
returns-in-Ok-answer-clause-ledgers g c =
    let seen = seen_by g.K.Keeper.files g.K.Keeper.load_faults g.K.Keeper.store_faults g.K.Keeper.failed in
    let given = given_by g.S.Sink.written g.S.Sink.faults in
    run_keeps_ledgers c.finish.result c.args.words.now (outside_by (seen c.args.keeper.now) (given c.args.out.now)) (outside_by (seen c.finish.new.keeper) (given c.finish.new.out)) (returns-in-Ok-answer-clause-meant g c)

pub returns-in-Err-clause-works : goal.returns-in-Err-clause-works
returns-in-Err-clause-works g c = λ order given. absurd (refused_or_given 0 c.args.words.now order c.in-Err.status given c.in-Err.ensures.err)

pub returns-in-Ok-answer-clause-works : goal.returns-in-Ok-answer-clause-works
returns-in-Ok-answer-clause-works g c = λ order given.
    let seen = seen_by g.K.Keeper.files g.K.Keeper.load_faults g.K.Keeper.store_faults g.K.Keeper.failed in
    let (told, does, goes) = c.in-Ok.ensures.ok in
    let (loads, are, means, works) = c.in-Ok-answer.ensures.meant told does in
    subst (λ (o : Order). (l : Loads) × AreLoads (seen c.args.keeper.now) (seen c.finish.new.keeper) (roles o) l × OrderWorks o l c.args.tally.now c.answer.new.tally) (given_once 0 c.args.words.now told order goes given)
    (loads, later_loads (seen c.args.keeper.now) (seen c.answer.new.keeper) (seen c.finish.new.keeper) told loads c.finish.ensures.loads c.finish.ensures.failed are, works)

pub returns-in-Err-answer-clause-works : goal.returns-in-Err-answer-clause-works
returns-in-Err-answer-clause-works g c = λ order given.
    let seen = seen_by g.K.Keeper.files g.K.Keeper.load_faults g.K.Keeper.store_faults g.K.Keeper.failed in
    let (told, does, goes) = c.in-Ok.ensures.ok in
    let (loads, are, refuses, works) = c.in-Err-answer.ensures.meant told does in
    subst (λ (o : Order). (l : Loads) × AreLoads (seen c.args.keeper.now) (seen c.answer.new.keeper) (roles o) l × OrderWorks o l c.args.tally.now c.answer.new.tally) (given_once 0 c.args.words.now told order goes given)
    (loads, are, works)
