use Rattle.std.proofs.Common.{◌≡◌, ◌∙◌, ap, sym, subst, ◌-◌, List, ◌∷◌, length, drop, take, map, arith}
use Rattle.std.proofs.lemmas.Result.{on_err_weaker, on_ok_weaker}
use Rattle.std.specs.Str.{chars}
use Rattle.model.specs.Operation.{Anchor}
use Rattle.model.specs.State.{typed}
use Rattle.fugue_text.specs.declared.run.Letter.{Letter}
use Rattle.fugue_text.specs.Runs.{alive_letter}
use Rattle.fugue_text.proofs.LetterLaws.{take_rest}
use Rattle.fugue_text.proofs.TypedLaws as laws
use Rattle.fugue_text.proofs.TypedLaws.{AreAlive, Begins}
use Rattle.fugue_text.proofs.texts.Texts.type_run.Goals as goal
use Rattle.fugue_text.proofs.texts.Texts.type_run.Goals.{In_ok-add}

abbrev at_of : In_ok-add → Anchor
at_of c = record { on = c.args.anchor; side = c.args.side }

begins : (c : In_ok-add) → Begins (chars c.args.text.now) c.as_slice-letters.result.now c.in-Some.letter.now
begins c = laws.begins (chars c.args.text.now) c.as_slice-letters.result.now c.in-Some.letter.now (c.as_slice-letters.ensures.value ∙ c.in_ok-letters.ensures) c.in-Some.ensures.value

rest_is : (c : In_ok-add) → take (length c.as_slice-letters.result.now - 1) (drop 1 c.as_slice-letters.result.now) ≡ map alive_letter (begins c).rest
rest_is c = take_rest 1 c.as_slice-letters.result.now ∙ ap (drop 1) (begins c).letters

pub returns-then-letters-eq1-clause-ok : goal.returns-then-letters-eq1-clause-ok
returns-then-letters-eq1-clause-ok c =
    let u = (goal.at.returns-then-letters-eq1-clause-ok c).In_ok-add in
    let b = begins u in
    laws.begun c.args.self.now c.args.node c.args.first (at_of u) (chars c.args.text.now) c.as_slice-letters.result.now c.in-Some.letter.now b c.add.new.self c.in_ok-add.ensures.ok
    ∙ ap (typed c.args.self.now c.args.node c.args.first (at_of u))
    (sym (laws.only_one c.args.self.now c.args.node c.args.first (at_of u) (chars c.args.text.now) c.as_slice-letters.result.now c.in-Some.letter.now b c.if-letters-eq1.true))

pub type_behind-requires-clause-there : goal.type_behind-requires-clause-there
type_behind-requires-clause-there c =
    let u = (goal.at.type_behind-requires-clause-there c).In_ok-add in
    laws.begun_there c.args.self.now c.args.node c.args.first (at_of u) (chars c.args.text.now) c.as_slice-letters.result.now c.in-Some.letter.now (begins u) c.add.new.self c.in_ok-add.ensures.ok

pub type_behind-requires-clause-fresh : goal.type_behind-requires-clause-fresh
type_behind-requires-clause-fresh c =
    let u = (goal.at.type_behind-requires-clause-fresh c).In_ok-add in
    laws.begun_fresh c.args.self.now c.args.node c.args.first (at_of u) (chars c.args.text.now) c.as_slice-letters.result.now c.in-Some.letter.now (begins u) c.add.new.self c.in_ok-add.ensures.ok c.requires.new
    (laws.more_than_one c.args.self.now c.args.node c.args.first (at_of u) (chars c.args.text.now) c.as_slice-letters.result.now c.in-Some.letter.now (begins u) c.if-letters-eq1.false)

pub type_behind-requires-clause-new : goal.type_behind-requires-clause-new
type_behind-requires-clause-new c =
    let u = (goal.at.type_behind-requires-clause-new c).In_ok-add in
    laws.begun_new c.args.self.now c.args.node c.args.first (at_of u) (chars c.args.text.now) c.as_slice-letters.result.now c.in-Some.letter.now (begins u) c.add.new.self c.in_ok-add.ensures.ok c.requires.new _ (rest_is u)

pub type_behind-requires-clause-alive : goal.type_behind-requires-clause-alive
type_behind-requires-clause-alive c =
    let u = (goal.at.type_behind-requires-clause-alive c).In_ok-add in
    subst (λ (ls : List Letter). AreAlive ls) (sym (rest_is u)) (laws.all_alive (begins u).rest)

pub returns-clause-ok : goal.returns-clause-ok
returns-clause-ok c =
    let u = (goal.at.returns-clause-ok c).In_ok-add in
    on_ok_weaker c.type_behind.result
    (λ e. laws.typed_on c.args.self.now c.args.node c.args.first (at_of u) (chars c.args.text.now) c.as_slice-letters.result.now c.in-Some.letter.now (begins u) c.add.new.self c.type_behind.new.self c.in_ok-add.ensures.ok _ (rest_is u) e) c.type_behind.ensures.ok

pub returns-clause-err : goal.returns-clause-err
returns-clause-err c =
    let u = (goal.at.returns-clause-err c).In_ok-add in
    let b = begins u in
    let cs = chars c.args.text.now in
    let size : length cs ≡ length (b.first ∷ b.rest) = ap length b.characters in
    on_err_weaker c.type_behind.result
    (λ e. record {
      count = 1;
      some = omega (arith, size);
      now = e ∙ laws.begun c.args.self.now c.args.node c.args.first (at_of u) cs c.as_slice-letters.result.now c.in-Some.letter.now b c.add.new.self c.in_ok-add.ensures.ok
          ∙ ap (λ xs. typed c.args.self.now c.args.node c.args.first (at_of u) (take 1 xs)) (sym b.characters);
    }) c.type_behind.ensures.err
