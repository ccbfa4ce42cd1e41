use Rattle.std.proofs.Common.{ℕ, string_bytes, arith}
use Rattle.causal_inbox.specs.Names.{name_by}
use Rattle.member_replica.specs.Reports.{named_line}
use Rattle.member_replica.proofs.LineLaws.{lines_all, lines_more}
use Rattle.member_replica.proofs.report.push_names.Goals as goal

pub loop-i-preserved : goal.loop-i-preserved
loop-i-preserved c =
    let f = λ (k : ℕ × ℕ). named_line c.args.word.now (name_by k) in
    lines_more f c.args.names.now c.loop-i.i c.at.result.now (string_bytes c.args.text.now) (string_bytes c.loop-i.text) (string_bytes c.push_name.new.text) c.at.ensures c.loop-i.invariant c.in_ok-push_name.ensures

pub returns : goal.returns
returns c = lines_all (named_line c.args.word.now) name_by (string_bytes c.args.text.now) (string_bytes c.loop-i.text) c.args.names.now c.loop-i.i (omega (arith, c.len-i-end.ensures, c.loop-i-test.false)) c.loop-i.invariant
