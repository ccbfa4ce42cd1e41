-- What words are refused with, and which command they give.
use Rattle.std.proofs.Common.{◌≡◌, ℕ, true, false, List, Result, Ok, Err, IfOk, IfErr, refl, sym, subst}
use Rattle.op_grammar.specs.Values.{value_of}
use Rattle.op_grammar.specs.declared.value.Value.{Value}
use Rattle.op_grammar.specs.declared.value.Value.TheVariants as plain
use Rattle.model.specs.Value as model
use Rattle.outline_words.specs.Commands.{SaysValue}
use Rattle.outline_words.specs.declared.command.WordValue.TheVariants as v
use Rattle.outline_words.specs.Table.{Order, Spell, FirstWrong}
use Rattle.outline_words.proofs.SpellLaws.{one_order, spelled_not_wrong}
use Rattle.outline_meaning.specs.Meaning.{ordered}
use Rattle.outline_meaning.specs.Scope.{names_untaken, taken_words, taken_order}
use Rattle.outline_meaning.specs.declared.status.Status.{Status}
use Rattle.outline_meaning.specs.declared.status.Status.TheVariants as s

-- ---- what words mean

pub untaken_refused : (words : List (List ℕ)) → names_untaken words ≡ true → ordered 0 words (Err (s.NotBuilt 0))
untaken_refused words untaken = (Err (s.NotBuilt 0), rw untaken refl, refl)

pub wrong_refused : (words : List (List ℕ)) (word : ℕ) → names_untaken words ≡ false → FirstWrong words word → ordered 0 words (Err (s.Words 0 word))
wrong_refused words word taken first = (Ok tt, rw taken refl, (Err (s.Words 0 word), (word, refl, first), refl))

pub order_refused : (words : List (List ℕ)) (order : Order) (status : Status) → names_untaken words ≡ false → Spell words order → taken_order order ≡ Err status → ordered 0 words (Err status)
order_refused words order status taken spell refuses = (Ok tt, rw taken refl, (Ok order, spell, (Err status, sym refuses, refl)))

pub order_given : (words : List (List ℕ)) (order : Order) → names_untaken words ≡ false → Spell words order → taken_order order ≡ Ok tt → ordered 0 words (Ok order)
order_given words order taken spell goes = (Ok tt, rw taken refl, (Ok order, spell, (Ok tt, sym goes, refl)))

-- ---- one meaning

-- The words of a command that is given spell it, and it is taken.
pub given_parts : (line : ℕ) (words : List (List ℕ)) (order : Order) → ordered line words (Ok order) → Spell words order × (taken_order order ≡ Ok tt)
given_parts line words order (Ok u, taken, (Ok other, spell, (Ok v, goes, is))) =
    let same : other ≡ order = cc in
    (subst (λ (o : Order). Spell words o) same spell, subst (λ (o : Order). taken_order o ≡ Ok tt) same (sym goes))
given_parts line words order (Ok u, taken, (Ok other, spell, (Err r, goes, is))) = absurd cc
given_parts line words order (Ok u, taken, (Err r, wrong, is)) = absurd cc
given_parts line words order (Err r, taken, is) = absurd cc

-- Words give one command.
pub given_once : (line : ℕ) (words : List (List ℕ)) (one other : Order) → ordered line words (Ok one) → ordered line words (Ok other) → one ≡ other
given_once line words one other p q = one_order words one other (given_parts line words one p).0 (given_parts line words other q).0

-- whether the first step goes on is one thing
goes_on : (line : ℕ) (words : List (List ℕ)) (order : Order) → ordered line words (Ok order) → taken_words words ≡ Ok tt
goes_on line words order (Ok u, taken, rest) = sym taken
goes_on line words order (Err r, taken, is) = absurd cc

-- Words that give a command aren't refused.
pub refused_or_given : (line : ℕ) (words : List (List ℕ)) (order : Order) (refusal : Status) → ordered line words (Ok order) → ordered line words (Err refusal) → ⊥
refused_or_given line words order refusal p (Ok u, taken, (Ok other, spell, (Ok v, goes, is))) = absurd cc
refused_or_given line words order refusal p (Ok u, taken, (Ok other, spell, (Err r, goes, is))) =
    let parts = given_parts line words order p in
    let same : other ≡ order = one_order words other order spell parts.0 in
    let taken_other : taken_order other ≡ Ok tt = subst (λ (o : Order). taken_order o ≡ Ok tt) (sym same) parts.1 in
    absurd cc
refused_or_given line words order refusal p (Ok u, taken, (Err r, wrong, is)) = spelled_not_wrong words order wrong.0 (given_parts line words order p).0 wrong.2
refused_or_given line words order refusal p (Err r, taken, is) = let on = goes_on line words order p in absurd cc

-- ---- values

-- what a word says that stands for a value in memory
pub plain_value : (value : Value) (said : model.Value) → SaysValue (v.Plain value) said → said ≡ value_of value
plain_value plain.Null said is = is
plain_value (plain.Bool b) said is = is
plain_value (plain.Int n) said is = is
plain_value (plain.Text t) said is = is
plain_value (plain.Bytes b) said is = absurd is

-- ---- results

pub if_ok : {A : Type 0} (r : Result A Status) (P Q : A → Type 0) → ((x : A) → P x → Q x) → IfOk r P → IfOk r Q
if_ok (Ok x) P Q then p = then x p
if_ok (Err e) P Q then p = tt

pub if_err : {A : Type 0} (r : Result A Status) (P Q : Status → Type 0) → ((e : Status) → P e → Q e) → IfErr r P → IfErr r Q
if_err (Ok x) P Q then p = tt
if_err (Err e) P Q then p = then e p
