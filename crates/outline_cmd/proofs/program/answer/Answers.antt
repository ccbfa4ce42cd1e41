use Rattle.std.proofs.Common.{Option, Ok, Err, subst}
use Rattle.std.proofs.lemmas.Result.{err_from_is_err_and}
use Rattle.std.specs.Option.{option_map}
use Rattle.outside.specs.Seen.{seen_by}
use Rattle.outline_meaning.specs.Meaning.{exactly, input_bytes, unused, Named}
use Rattle.outline_meaning.specs.Follows.{Follows}
use Rattle.outline_input.specs.Input.{named_of}
use Rattle.outline_cmd.specs.Stages.{answer_of}
use Rattle.outline_meaning.proofs.StageLaws.{refuses_first, refuses_next}
use Rattle.outline_cmd.proofs.TaskLaws.{does_taken}
use Rattle.outline_cmd.proofs.PipeLaws.{input_refused, are_loaded, make_refused, made_ends}
use Rattle.outline_cmd.proofs.program.answer.Goals as goal

pub returns-in_err-bytes-clause-meant : goal.returns-in_err-bytes-clause-meant
returns-in_err-bytes-clause-meant g c = λ order does.
    let seen = seen_by g.K.Keeper.files g.K.Keeper.load_faults g.K.Keeper.store_faults g.K.Keeper.failed in
    let p = err_from_is_err_and c.from_residual.result c.from_residual.ensures.1 in
    let (load, loads, follows) = c.in_err-bytes.ensures.loaded in
    rw (p.1, p.2) (input_refused (seen c.args.keeper.now) (seen c.load_input.new.keeper) order c.args.tally.now (option_map named_of c.input.result) load c.in_err-bytes.field-0.0 (c.input.ensures order does) loads follows)

pub returns-in_err-answer-clause-meant : goal.returns-in_err-answer-clause-meant
returns-in_err-answer-clause-meant g c = λ order does.
    let seen = seen_by g.K.Keeper.files g.K.Keeper.load_faults g.K.Keeper.store_faults g.K.Keeper.failed in
    let p = err_from_is_err_and c.from_residual-in_err-answer.result c.from_residual-in_err-answer.ensures.1 in
    let (load, loads, follows) = c.in_ok-bytes.ensures.loaded in
    let (load2, loads2, follows2) = c.load_input-second.ensures.loaded in
    let are =
    are_loaded (λ b. b.items) (seen c.args.keeper.now) (seen c.load_input.new.keeper) (seen c.load_input-second.new.keeper) order (option_map named_of c.input.result) (option_map named_of c.second.result) load load2
    c.in_ok-bytes.bytes.items c.load_input-second.result (c.input.ensures order does) (c.second.ensures order does) loads follows
    c.load_input.ensures.loads.same_files c.load_input.ensures.loads.later c.in_ok-bytes.ensures.same_failed loads2 follows2
    c.load_input-second.ensures.loads.same_files c.load_input-second.ensures.loads.later c.load_input-second.ensures.same_failed in
    let seconds = subst (λ (n : Option Named). Follows (λ b. b.items) c.load_input-second.result (exactly (input_bytes n load2))) (c.second.ensures order does) follows2 in
    rw (p.1, p.2) (make_refused (seen c.args.keeper.now) (seen c.load_input-second.new.keeper) order c.args.tally.now c.make.new.tally load2 c.in_ok-bytes.bytes.items c.in_err-answer.field-0.0 (does_taken c.args.task order does) are
    (rw c.deref.ensures.value at (c.in_err-answer.ensures.meant order load2 does seconds)) (rw c.deref.ensures.value at (c.in_err-answer.ensures.works order load2 does seconds)))

pub returns-in_err-check_unused-clause-meant : goal.returns-in_err-check_unused-clause-meant
returns-in_err-check_unused-clause-meant g c = λ order does.
    let seen = seen_by g.K.Keeper.files g.K.Keeper.load_faults g.K.Keeper.store_faults g.K.Keeper.failed in
    let p = err_from_is_err_and c.from_residual-in_err-check_unused.result c.from_residual-in_err-check_unused.ensures.1 in
    let (load, loads, follows) = c.in_ok-bytes.ensures.loaded in
    let (load2, loads2, follows2) = c.load_input-second.ensures.loaded in
    let are =
    are_loaded (λ b. b.items) (seen c.args.keeper.now) (seen c.load_input.new.keeper) (seen c.load_input-second.new.keeper) order (option_map named_of c.input.result) (option_map named_of c.second.result) load load2
    c.in_ok-bytes.bytes.items c.load_input-second.result (c.input.ensures order does) (c.second.ensures order does) loads follows
    c.load_input.ensures.loads.same_files c.load_input.ensures.loads.later c.in_ok-bytes.ensures.same_failed loads2 follows2
    c.load_input-second.ensures.loads.same_files c.load_input-second.ensures.loads.later c.load_input-second.ensures.same_failed in
    let seconds = subst (λ (n : Option Named). Follows (λ b. b.items) c.load_input-second.result (exactly (input_bytes n load2))) (c.second.ensures order does) follows2 in
    let (load3, loads3, follows3) = c.in_err-check_unused.ensures.loaded in
    rw (p.1, p.2) (made_ends (seen c.args.keeper.now) (seen c.load_input-second.new.keeper) (seen c.check_unused.new.keeper) order c.args.tally.now c.make.new.tally (option_map named_of c.new_name-new_name.result) load2 load3 c.in_ok-bytes.bytes.items
    (answer_of c.in_ok-answer.answer) (Err c.in_err-check_unused.field-0.0) (c.new_name-new_name.ensures order does) (does_taken c.args.task order does) are
    (rw c.deref.ensures.value at (c.in_ok-answer.ensures.meant order load2 does seconds)) (rw c.deref.ensures.value at (c.in_ok-answer.ensures.works order load2 does seconds)) loads3
    (refuses_first (exactly (unused (option_map named_of c.new_name-new_name.result) load3)) _ c.in_err-check_unused.field-0.0 follows3))

pub returns-in_err-check_size-clause-meant : goal.returns-in_err-check_size-clause-meant
returns-in_err-check_size-clause-meant g c = λ order does.
    let seen = seen_by g.K.Keeper.files g.K.Keeper.load_faults g.K.Keeper.store_faults g.K.Keeper.failed in
    let p = err_from_is_err_and c.from_residual-in_err-check_size.result c.from_residual-in_err-check_size.ensures.1 in
    let (load, loads, follows) = c.in_ok-bytes.ensures.loaded in
    let (load2, loads2, follows2) = c.load_input-second.ensures.loaded in
    let are =
    are_loaded (λ b. b.items) (seen c.args.keeper.now) (seen c.load_input.new.keeper) (seen c.load_input-second.new.keeper) order (option_map named_of c.input.result) (option_map named_of c.second.result) load load2
    c.in_ok-bytes.bytes.items c.load_input-second.result (c.input.ensures order does) (c.second.ensures order does) loads follows
    c.load_input.ensures.loads.same_files c.load_input.ensures.loads.later c.in_ok-bytes.ensures.same_failed loads2 follows2
    c.load_input-second.ensures.loads.same_files c.load_input-second.ensures.loads.later c.load_input-second.ensures.same_failed in
    let seconds = subst (λ (n : Option Named). Follows (λ b. b.items) c.load_input-second.result (exactly (input_bytes n load2))) (c.second.ensures order does) follows2 in
    let (load3, loads3, follows3) = c.in_ok-check_unused.ensures.loaded in
    rw (p.1, p.2) (made_ends (seen c.args.keeper.now) (seen c.load_input-second.new.keeper) (seen c.check_unused.new.keeper) order c.args.tally.now c.make.new.tally (option_map named_of c.new_name-new_name.result) load2 load3 c.in_ok-bytes.bytes.items
    (answer_of c.in_ok-answer.answer) (Err c.in_err-check_size.field-0.0) (c.new_name-new_name.ensures order does) (does_taken c.args.task order does) are
    (rw c.deref.ensures.value at (c.in_ok-answer.ensures.meant order load2 does seconds)) (rw c.deref.ensures.value at (c.in_ok-answer.ensures.works order load2 does seconds)) loads3
    (refuses_next (exactly (unused (option_map named_of c.new_name-new_name.result) load3)) _ c.in_ok-check_unused.field-0 c.in_err-check_size.field-0.0 follows3 c.in_err-check_size.ensures))

pub returns-clause-meant : goal.returns-clause-meant
returns-clause-meant g c = λ order does.
    let seen = seen_by g.K.Keeper.files g.K.Keeper.load_faults g.K.Keeper.store_faults g.K.Keeper.failed in
    let (load, loads, follows) = c.in_ok-bytes.ensures.loaded in
    let (load2, loads2, follows2) = c.load_input-second.ensures.loaded in
    let are =
    are_loaded (λ b. b.items) (seen c.args.keeper.now) (seen c.load_input.new.keeper) (seen c.load_input-second.new.keeper) order (option_map named_of c.input.result) (option_map named_of c.second.result) load load2
    c.in_ok-bytes.bytes.items c.load_input-second.result (c.input.ensures order does) (c.second.ensures order does) loads follows
    c.load_input.ensures.loads.same_files c.load_input.ensures.loads.later c.in_ok-bytes.ensures.same_failed loads2 follows2
    c.load_input-second.ensures.loads.same_files c.load_input-second.ensures.loads.later c.load_input-second.ensures.same_failed in
    let seconds = subst (λ (n : Option Named). Follows (λ b. b.items) c.load_input-second.result (exactly (input_bytes n load2))) (c.second.ensures order does) follows2 in
    let (load3, loads3, follows3) = c.in_ok-check_unused.ensures.loaded in
    made_ends (seen c.args.keeper.now) (seen c.load_input-second.new.keeper) (seen c.check_unused.new.keeper) order c.args.tally.now c.make.new.tally (option_map named_of c.new_name-new_name.result) load2 load3 c.in_ok-bytes.bytes.items
    (answer_of c.in_ok-answer.answer) (Ok c.in_ok-answer.answer) (c.new_name-new_name.ensures order does) (does_taken c.args.task order does) are
    (rw c.deref.ensures.value at (c.in_ok-answer.ensures.meant order load2 does seconds)) (rw c.deref.ensures.value at (c.in_ok-answer.ensures.works order load2 does seconds)) loads3
    (Ok c.in_ok-check_unused.field-0, follows3, c.in_ok-check_size.ensures)
