use Rattle.std.proofs.Common.{◌≡◌, ◌++◌, length, sym, ap, subst, ◌∙◌, arith}
use Rattle.std.specs.Prelude.{filter}
use Rattle.std.specs.List.{AllByRecursion}
use Rattle.model.specs.Change.{IsChange}
use Rattle.model.specs.File.{File, IsFile, spell_file}
use Rattle.model.specs.Held.{waits}
use Rattle.replica.specs.declared.head.FileHead.{FileHead}
use Rattle.member_replica.proofs.MadeLaws.{counts_held, counts_length, held_with, made_are, stored_is, stored_is_file, stored_with}
use Rattle.member_replica.proofs.made.Makings.stored.Goals as goal

pub still_waiting-requires : goal.still_waiting-requires
still_waiting-requires c =
    let f = c.args.parts in
    let (cs, making) = c.requires in
    let each = subst (λ n. AllByRecursion (IsChange n) f.waiting) (sym (counts_length f cs c.args.self making)) making.is_file.waiting in
    subst (AllByRecursion (IsChange (length c.args.self.counts))) (sym c.waiting.ensures) each

pub kept_with-requires-clause-some : goal.kept_with-requires-clause-some
kept_with-requires-clause-some c = let (cs, making) = c.requires in omega (arith, ap (λ (h : FileHead). h.doc.n) c.head.ensures.head, making.is_file.header.members_some)

pub kept_with-requires-clause-few : goal.kept_with-requires-clause-few
kept_with-requires-clause-few c = let (cs, making) = c.requires in omega (arith, ap (λ (h : FileHead). h.doc.n) c.head.ensures.head, making.is_file.header.members_most)

pub with_changes-requires : goal.with_changes-requires
with_changes-requires c =
    let f = c.args.parts in
    let (cs, making) = c.requires in
    let n = ap (λ (h : FileHead). h.doc.n) c.head.ensures.head in
    let each = counts_length f cs c.args.self making in
    let are = subst (λ k. AllByRecursion (IsChange k) cs) (sym n) (made_are f cs c.args.self making) in
    let kept = c.in_ok-kept.ensures cs are (c.deref.ensures.value ∙ making.spelled) ∙ ap (λ l. l ++ cs) c.kept.ensures in
    let waiting = c.in_ok-waiting.ensures (held_with f cs) (counts_held f cs c.args.self making) ∙ (λ i. filter (waits (each i) (held_with f cs)) (c.waiting.ensures i)) in
    let same : ◌≡◌ {A = File} (stored_with f cs) _ = λ i. record f { kept = sym kept i; waiting = sym waiting i } in
    subst IsFile same (stored_is_file f cs c.args.self making)

pub returns : goal.returns
returns c = λ cs making.
    let f = c.args.parts in
    let n = ap (λ (h : FileHead). h.doc.n) c.head.ensures.head in
    let each = counts_length f cs c.args.self making in
    let are = subst (λ k. AllByRecursion (IsChange k) cs) (sym n) (made_are f cs c.args.self making) in
    let kept = c.in_ok-kept.ensures cs are (c.deref.ensures.value ∙ making.spelled) ∙ ap (λ l. l ++ cs) c.kept.ensures in
    let waiting = c.in_ok-waiting.ensures (held_with f cs) (counts_held f cs c.args.self making) ∙ (λ i. filter (waits (each i) (held_with f cs)) (c.waiting.ensures i)) in
    let same : ◌≡◌ {A = File} _ (stored_with f cs) = λ i. record f { kept = kept i; waiting = waiting i } in
    record { bytes = c.in_ok-bytes.ensures ∙ ap spell_file (c.with_changes.ensures ∙ same ∙ stored_is f cs c.args.self making); notes = making.notes }
