use Rattle.std.proofs.Common.{◌≡◌, ◌∙◌, ap, sym, refl, ◌+◌, suc, List, [], ◌∷◌, ◌++◌, length, drop, get_or, append_assoc, arith}
use Rattle.std.proofs.lemmas.List.{map-append, append-nil, drop_more}
use Rattle.op_ids.specs.Order.{id_plus}
use Rattle.model.specs.Operation.{Anchor}
use Rattle.model.specs.State.{Character, right_of, RowKey}
use Rattle.move_list.specs.Kept.{tagged}
use Rattle.fugue_text.specs.declared.run.Letter.{Letter}
use Rattle.fugue_text.specs.Runs.{letter_at, no_letter, run_anchor, run_rows}
use Rattle.fugue_text.specs.Texts.{text_entries, text_entry}
use Rattle.fugue_text.proofs.LetterLaws.{drop_past}
use Rattle.fugue_text.proofs.IdLaws.{plus_zero, plus_then}
use Rattle.fugue_text.proofs.node_text.push_run.Goals as goal

pub loop-letter-init : goal.loop-letter-init
loop-letter-init c =
    (refl, ap (λ f. text_entries c.args.rows.now.items ++ tagged c.args.node (run_rows f (run_anchor c.args.run.now) c.as_slice-letters.result.now)) (plus_zero c.args.first))

pub overflow_cast-count : goal.overflow_cast-count
overflow_cast-count c =
    let same = c.loop-letter.invariant.0 in
    let size : length c.as_slice-letters.result.now ≡ length c.args.run.now.letters.items = ap length c.as_slice-letters.ensures.value in
    omega (arith, same, size, c.loop-letter-test.true, c.requires.fits)

pub plus-id-requires : goal.plus-id-requires
plus-id-requires c =
    let same = c.loop-letter.invariant.0 in
    let size : length c.as_slice-letters.result.now ≡ length c.args.run.now.letters.items = ap length c.as_slice-letters.ensures.value in
    omega (arith, same, size, c.loop-letter-test.true, c.requires.fits)

pub loop-letter-preserved : goal.loop-letter-preserved
loop-letter-preserved c =
    let ls = c.as_slice-letters.result.now in
    let i = c.loop-letter.letter-index in
    let n = c.args.node in
    let f = c.args.first in
    let same : c.loop-letter.count ≡ i = c.loop-letter.invariant.0 in
    let l = get_or ls i no_letter in
    let a : Anchor = record { on = c.loop-letter.anchor; side = c.loop-letter.side } in
    let more : List Letter = drop (i + 1) ls in
    let here : c.plus-id.result ≡ id_plus f i = c.plus-id.ensures ∙ ap (id_plus f) same in
    let step : i + 1 ≡ suc i = omega arith in
    let next : id_plus (id_plus f i) 1 ≡ id_plus f (i + 1) = plus_then f i ∙ ap (id_plus f) (sym step) in
    let old = text_entries c.loop-letter.rows.items in
    let row : RowKey × Character = ((n, id_plus f i), letter_at a l) in (
      omega (arith, same),
      ap (λ rows. text_entries rows ++ tagged n (run_rows (id_plus f (i + 1)) (right_of c.plus-id.result) more)) c.in_ok-push.ensures.items
          ∙ (λ j. (map-append text_entry c.loop-letter.rows.items (record { node = n; id = c.plus-id.result; anchor = c.loop-letter.anchor; side = c.loop-letter.side; character = l.character; dead = l.dead } ∷ []) j) ++ tagged n (run_rows (sym next j) (right_of (here j)) more))
          ∙ (λ j. (old ++ ((n, here j), letter_at a l) ∷ []) ++ tagged n (run_rows (id_plus (id_plus f i) 1) (right_of (id_plus f i)) more))
          ∙ append_assoc old (row ∷ []) (tagged n (run_rows (id_plus (id_plus f i) 1) (right_of (id_plus f i)) more))
          ∙ ap (λ xs. old ++ tagged n (run_rows (id_plus f i) a xs)) (sym (drop_more ls i no_letter c.loop-letter-test.true)) ∙ c.loop-letter.invariant.1,
    )

pub returns : goal.returns
returns c =
    let ls = c.as_slice-letters.result.now in
    let i = c.loop-letter.letter-index in
    let none = drop_past ls i c.loop-letter-test.false in
    sym (append-nil (text_entries c.loop-letter.rows.items))
    ∙ ap (λ xs. text_entries c.loop-letter.rows.items ++ tagged c.args.node (run_rows (id_plus c.args.first i) (record { on = c.loop-letter.anchor; side = c.loop-letter.side }) xs)) (sym none)
    ∙ c.loop-letter.invariant.1 ∙ ap (λ xs. text_entries c.args.rows.now.items ++ tagged c.args.node (run_rows c.args.first (run_anchor c.args.run.now) xs)) c.as_slice-letters.ensures.value
