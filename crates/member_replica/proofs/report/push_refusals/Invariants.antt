use Rattle.std.proofs.Common.{◌≡◌, ◌++◌, flat_map, take, string_bytes}
use Rattle.model.specs.Text.{refused_line}
use Rattle.member_replica.specs.Reports.{refusal_of}
use Rattle.member_replica.proofs.report.push_refusals.Given as goal

abbrev pub invariant-loop-refusal : goal.invariant-loop-refusal
invariant-loop-refusal l = string_bytes l.text ≡ string_bytes l.initial.text ++ flat_map (λ r. refused_line (refusal_of r)) (take l.refusal-index l.refused)
