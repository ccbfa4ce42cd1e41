use Rattle.std.proofs.Common.{string_bytes}
use Rattle.model.specs.Text.{refused_line}
use Rattle.member_replica.specs.Reports.{refusal_of}
use Rattle.member_replica.proofs.LineLaws.{lines_all}
use Rattle.member_replica.proofs.report.push_refusals.Goals as goal

pub returns : goal.returns
returns c = lines_all refused_line refusal_of (string_bytes c.args.text.now) (string_bytes c.loop-refusal.text) c.args.refused.now c.loop-refusal.refusal-index c.loop-refusal-test.false c.loop-refusal.invariant
