use Rattle.std.proofs.Common.{sym}
use Rattle.model.specs.State.{killed}
use Rattle.fugue_text.specs.Runs.{rows_in}
use Rattle.fugue_text.proofs.RunLaws.{edited_none}
use Rattle.fugue_text.proofs.run.kill.Goals as goal

pub returns-in-None-clause-rows : goal.returns-in-None-clause-rows
returns-in-None-clause-rows c = sym (edited_none c.args.id killed (rows_in c.args.runs.now.entries) c.in-None.ensures.spot)
