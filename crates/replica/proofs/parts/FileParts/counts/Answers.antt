use Rattle.std.proofs.Common.{[], ap, ◌∙◌, sym, subst, set, get_or, max, take, arith}
use Rattle.std.proofs.lemmas.List.{take_all}
use Rattle.model.specs.Change.{IsChange}
use Rattle.model.specs.File.{File, IsNextBehind}
use Rattle.op_grammar.specs.declared.Head.{Head}
use Rattle.replica.specs.Counts.{IsCounted, counts_behind}
use Rattle.replica.specs.Heads.{kind_of, base_by}
use Rattle.replica.proofs.CountLaws.{counted_none, counted_more}
use Rattle.replica.proofs.PartLaws.{all_at, each_at, take_next, counted_all}
use Rattle.replica.proofs.parts.FileParts.counts.Goals as goal

pub kept-init : goal.kept-init
kept-init c = rw c.zero-counts.ensures (counted_none c.self.inside.head)

pub raise-requires : goal.raise-requires
raise-requires c =
    let h = c.self.inside.head in
    let is = all_at (IsChange h.doc.n) c.self.inside.kept c.kept.i c.at.result.now c.self.invariant.is.kept c.at.ensures in
    omega (arith, is.member, c.kept.invariant.each, ap (λ (x : Head). x.member) c.head-head.ensures)

pub kept-preserved : goal.kept-preserved
kept-preserved c =
    let p = c.self.inside in
    let h = p.head in
    let b = c.at.result.now in
    let counts = c.kept.counts in
    let is = all_at (IsChange h.doc.n) p.kept c.kept.i b c.self.invariant.is.kept c.at.ensures in
    let next = each_at (IsNextBehind (base_by h)) [] p.kept c.kept.i b c.self.invariant.is.numbered c.at.ensures in
    let m = ap (λ (x : Head). x.member) c.head-head.ensures in
    let n = ap (λ (x : Head). x.number) c.head-head.ensures in
    let raised = c.raise.ensures ∙ (λ i. set counts (m i) (max (get_or counts (m i) 0) (n i))) in
    subst (λ ks. IsCounted h ks c.raise.new.self) (sym (take_next p.kept c.kept.i b c.at.ensures)) (rw raised (counted_more h (take c.kept.i p.kept) counts b c.kept.invariant is next))

pub returns : goal.returns
returns c =
    let p = c.self.inside in
    let all = subst (λ ks. IsCounted p.head ks c.kept.counts) (take_all c.kept.i p.kept (omega (arith, c.len-i-end.ensures))) c.kept.invariant in
    counted_all p.head p.kept c.kept.counts all (λ e. c.requires (ap (λ (f : File). f.kind) (sym c.self.view_is) ∙ ap kind_of e)) ∙ ap (λ (f : File). counts_behind f.members f.kept) c.self.view_is
