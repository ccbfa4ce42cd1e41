-- Reports of deliveries, as the code has them.
use Rattle.std.specs.Prelude.{◌≡◌, ℕ, List, ◌++◌, codes, length, map}
use Rattle.model.specs.Change.{Name}
use Rattle.model.specs.Held.{Refused}
use Rattle.model.specs.Settle.{Report, Settling}
use Rattle.model.specs.Text.{field, name_text}
use Rattle.causal_inbox.specs.Names.{names_of}
use Rattle.member_replica.specs.Replicas.{refused_of}
use Rattle.member_replica.specs.declared.report.Refusal.{Refusal}
use Rattle.member_replica.specs.declared.report.Report.{Report as ReportStruct}

abbrev pub refusal_of : Refusal → Refused
refusal_of r = refused_of r.member r.number r.misfit

abbrev pub report_of : ReportStruct → Report
report_of r = record {
  accepted = r.accepted;
  known = r.known;
  same = r.same;
  forked = names_of r.forked;
  refused = map refusal_of r.refused.items;
  full = names_of r.full;
}

-- It reports what settling came to, and how many wait then.
pub record IsReport (r : ReportStruct) (s : Settling) : Type 0 where
  pub report : report_of r ≡ s.report
  pub waiting : r.waiting ≡ length s.pool

-- ---- lines

-- the line of the numbers, of which so many wait
abbrev pub numbers_line : Report → ℕ → List ℕ
numbers_line r waiting = codes "accepted" ++ (field r.accepted ++ (codes " known" ++ (field r.known ++ (codes " same" ++ (field r.same ++ (codes " waiting" ++ (field waiting ++ codes "\n")))))))

-- the line of a change that is named, behind a word
abbrev pub named_line : List ℕ → Name → List ℕ
named_line word name = name_text word name ++ codes "\n"
