use Rattle.std.proofs.Common.{◌++◌, List, ℕ, flat_map, map, string_bytes, ap, ◌∙◌}
use Rattle.member_replica.specs.Reports.{numbers_line, refusal_of, report_of}
use Rattle.member_replica.specs.declared.report.Refusal.{Refusal}
use Rattle.model.specs.Text.{refused_line}
use Rattle.member_replica.proofs.LineLaws.{report_lines}
use Rattle.member_replica.proofs.report.Report.text.Goals as goal

pub returns : goal.returns
returns c =
    let r = report_of c.args.self.now in
    let waiting = c.args.self.now.waiting in
    c.from_string.ensures
    ∙ report_lines r waiting (string_bytes c.push_numbers.new.text) (string_bytes c.push_names.new.text) (string_bytes c.push_refusals.new.text) (string_bytes c.push_names-2.new.text)
    (c.in_ok-push_numbers.ensures ∙ ap (λ (t : List ℕ). t ++ numbers_line r waiting) c.new-text.ensures.bytes) c.in_ok-push_names.ensures
    (c.in_ok-push_refusals.ensures ∙ ap (λ (rs : List Refusal). string_bytes c.push_names.new.text ++ flat_map refused_line (map refusal_of rs)) c.as_slice.ensures.value) c.in_ok-push_names-2.ensures
