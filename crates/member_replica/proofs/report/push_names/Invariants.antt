use Rattle.std.proofs.Common.{◌≡◌, ◌++◌, flat_map, take, string_bytes}
use Rattle.causal_inbox.specs.Names.{name_by}
use Rattle.member_replica.specs.Reports.{named_line}
use Rattle.member_replica.proofs.report.push_names.Given as goal

abbrev pub invariant-loop-i : goal.invariant-loop-i
invariant-loop-i l = string_bytes l.text ≡ string_bytes l.initial.text ++ flat_map (λ k. named_line l.word (name_by k)) (take l.i l.names)
