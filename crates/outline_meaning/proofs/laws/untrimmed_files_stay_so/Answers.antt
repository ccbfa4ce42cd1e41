use Rattle.outline_meaning.proofs.StayLaws.{edited_stays, acknowledged_stays, delivered_stays}
use Rattle.outline_meaning.proofs.laws.untrimmed_files_stay_so.Goals as goal

pub returns-clause-edited : goal.returns-clause-edited
returns-clause-edited c = edited_stays

pub returns-clause-acknowledged : goal.returns-clause-acknowledged
returns-clause-acknowledged c = acknowledged_stays

pub returns-clause-delivered : goal.returns-clause-delivered
returns-clause-delivered c = delivered_stays
