use Rattle.std.proofs.Common.{◌≡◌, ◌∙◌, ap, sym, refl, ◌+◌, suc, List, [], ◌∷◌, ◌++◌, drop, get_or, arith}
use Rattle.std.proofs.lemmas.List.{drop_more}
use Rattle.op_ids.specs.Order.{id_plus}
use Rattle.fugue_text.specs.declared.run.Letter.{Letter}
use Rattle.fugue_text.specs.Runs.{no_letter}
use Rattle.fugue_text.specs.Pieces.{alive_ids, still_in}
use Rattle.fugue_text.proofs.IdLaws.{plus_then, plus_zero}
use Rattle.fugue_text.proofs.LetterLaws.{drop_past, ids_more}
use Rattle.fugue_text.proofs.pieces.Window.read.Goals as goal

pub loop-letter-init : goal.loop-letter-init
loop-letter-init c = record { count = refl; reads = λ rest. ap (λ f. still_in c.args.self.now (alive_ids f c.args.letters.now ++ rest)) (plus_zero c.args.first) }

pub overflow_cast-count : goal.overflow_cast-count
overflow_cast-count c = omega (arith, c.loop-letter.invariant.count, c.loop-letter-test.true, c.requires)

pub plus-requires : goal.plus-requires
plus-requires c = omega (arith, c.loop-letter.invariant.count, c.loop-letter-test.true, c.requires)

pub loop-letter-preserved : goal.loop-letter-preserved
loop-letter-preserved c =
    let ls = c.args.letters.now in
    let i = c.loop-letter.letter-index in
    let f = c.args.first in
    let l = get_or ls i no_letter in
    let more : List Letter = drop (i + 1) ls in
    let here : c.plus.result ≡ id_plus f i = c.plus.ensures ∙ ap (id_plus f) c.loop-letter.invariant.count in
    let step : i + 1 ≡ suc i = omega arith in
    let next : id_plus (id_plus f i) 1 ≡ id_plus f (i + 1) = plus_then f i ∙ ap (id_plus f) (sym step) in
    record {
      count = (let same = c.loop-letter.invariant.count in omega (arith, same));
      reads = λ rest.
          c.in_ok-pass.ensures (alive_ids (id_plus f (i + 1)) more ++ rest)
          ∙ (λ j. still_in c.loop-letter.self (alive_ids (here j) (l ∷ []) ++ (alive_ids (sym next j) more ++ rest)))
          ∙ ap (still_in c.loop-letter.self) (ids_more (id_plus f i) l more rest)
          ∙ ap (λ xs. still_in c.loop-letter.self (alive_ids (id_plus f i) xs ++ rest)) (sym (drop_more ls i no_letter c.loop-letter-test.true)) ∙ c.loop-letter.invariant.reads rest;
    }

pub returns : goal.returns
returns c rest =
    let ls = c.args.letters.now in
    let i = c.loop-letter.letter-index in
    ap (λ xs. still_in c.loop-letter.self (alive_ids (id_plus c.args.first i) xs ++ rest)) (sym (drop_past ls i c.loop-letter-test.false)) ∙ c.loop-letter.invariant.reads rest
