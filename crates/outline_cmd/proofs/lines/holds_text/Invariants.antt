use Rattle.std.proofs.Common.{◌≡◌, string_bytes}
use Rattle.outline_cmd.proofs.HoldsLaws.{holds_first}
use Rattle.outline_cmd.proofs.lines.holds_text.Given as goal

abbrev pub invariant-members : goal.invariant-members
invariant-members l = string_bytes l.text ≡ holds_first l.member-counter
