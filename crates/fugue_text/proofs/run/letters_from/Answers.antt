use Rattle.std.proofs.Common.{◌≡◌, ◌∙◌, ap, sym, subst, ◌+◌, ◌<◌, Some, length, drop, arith, inr}
use Rattle.std.specs.Map.{lookup}
use Rattle.op_ids.specs.declared.OpId.{OpId}
use Rattle.walk_laws.proofs.Walks.{key_eq}
use Rattle.fugue_text.specs.declared.run.Run.{Run}
use Rattle.fugue_text.proofs.LetterLaws.{drop_size, take_rest}
use Rattle.fugue_text.proofs.RunLaws.{filled_of}
use Rattle.fugue_text.proofs.run.letters_from.Goals as goal

pub returns-in-Some-get-clause-letters : goal.returns-in-Some-get-clause-letters
returns-in-Some-get-clause-letters c =
    let i = c.in-Some.ensures.spot in
    let k = c.in-Some.spot.offset in
    let is : Some i.run ≡ Some c.in-Some-get.run'.now = sym i.there ∙ sym c.in-Some-get.ensures.value in
    let same : i.run ≡ c.in-Some-get.run'.now = cc in
    inr (record {
      first = c.in-Some.spot.first;
      offset = k;
      is_in = i;
      rest = take_rest k c.as_slice.result.now ∙ ap (drop k) (c.as_slice.ensures.value ∙ ap (λ (r : Run). r.letters.items) (sym same));
    })

pub returns-in-Some-get-clause-fits : goal.returns-in-Some-get-clause-fits
returns-in-Some-get-clause-fits c =
    let i = c.in-Some.ensures.spot in
    let k = c.in-Some.spot.offset in
    let ls = c.as_slice.result.now in
    let there : lookup (key_eq c.in-Some.spot.first) c.args.runs.now.entries ≡ Some c.in-Some-get.run'.now = sym c.in-Some-get.ensures.value in
    let is : Some i.run ≡ Some c.in-Some-get.run'.now = sym i.there ∙ there in
    let same : i.run ≡ c.in-Some-get.run'.now = cc in
    let fits = (filled_of c.in-Some.spot.first c.args.runs.now.entries c.in-Some-get.run'.now c.requires.filled there).fits in
    let within : k < length c.in-Some-get.run'.now.letters.items = subst (λ (r : Run). k < length r.letters.items) same i.within in
    let index : c.args.id.index ≡ c.in-Some.spot.first.index + k = ap (λ (x : OpId). x.index) i.is in
    let size : length ls ≡ length c.in-Some-get.run'.now.letters.items = ap length c.as_slice.ensures.value in
    let rest = ap length (take_rest k ls) ∙ drop_size k ls in
    omega (arith, fits, within, index, size, rest)
