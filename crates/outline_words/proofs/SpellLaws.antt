-- Lemmas on the words of commands: they spell one order, or have one first wrong word.
use Rattle.std.proofs.Common.{◌≡◌, ℕ, zero, suc, Bool, true, false, cond, List, [], ◌∷◌, drop, get_or, find, Option, None, Some, MatchOption, ◌⊎◌, lit<, refl, sym, ap, subst, ◌∙◌, inl, inr}
use Rattle.std.specs.Prelude.{bytes_eq}
use Rattle.std.proofs.lemmas.Slice.Eq.{bytes_eq-Decides}
use Rattle.outline_words.specs.Forms.{Form, Meant, IsMeant, word_of}
use Rattle.outline_words.specs.Table.{Order, Row, Saying, table, row_of, Say, Spell, IsWrongAt, FirstWrong}
use Rattle.outline_words.proofs.FormLaws.{IsForm, settled_form, one_meant}

-- ---- words of given forms

abbrev pub AreForms : List Form → Type 0
AreForms [] = Unit {0}
AreForms (form ∷ forms) = IsForm form × AreForms forms

first_same : (a b : List ℕ) (more rest : List (List ℕ)) → a ∷ more ≡ b ∷ rest → a ≡ b
first_same a b more rest same = ap (λ ws. get_or ws 0 []) same

more_same : (a b : List ℕ) (more rest : List (List ℕ)) → a ∷ more ≡ b ∷ rest → more ≡ rest
more_same a b more rest same = ap (drop 1) same

nil_not_cons : (a : List ℕ) (more : List (List ℕ)) → [] ≡ a ∷ more → ⊥
nil_not_cons a more same = cc

one_said : (forms : List Form) → AreForms forms → (saying : Saying forms) (words : List (List ℕ)) (one other : Order)
    → Say forms saying words one → Say forms saying words other → one ≡ other
one_said [] are saying words one other (end, is) (end', is') = is ∙ sym is'
one_said (form ∷ forms) are saying words one other (x, more, valid, is, rest) (y, more', valid', is', rest') =
    let both : word_of form x ∷ more ≡ word_of form y ∷ more' = sym is ∙ is' in
    let same : x ≡ y = one_meant form are.0 x y valid valid' (first_same _ _ _ _ both) in
    let same_more = more_same _ _ _ _ both in
    one_said forms are.1 (saying x) more one other rest
    (subst (λ (z : Meant form). Say forms (saying z) more other) (sym same) (subst (λ ws. Say forms (saying y) ws other) (sym same_more) rest'))

said_or_wrong : (forms : List Form) → AreForms forms → (saying : Saying forms) (words : List (List ℕ))
    → ((order : Order) × Say forms saying words order) ⊎ ((index : ℕ) × IsWrongAt forms words index)
said_or_wrong [] are saying [] = inl (saying, (refl, refl))
said_or_wrong [] are saying (word ∷ words) = inr (0, refl)
said_or_wrong (form ∷ forms) are saying [] = inr (0, refl)
said_or_wrong (form ∷ forms) are saying (word ∷ words) =
    elim (settled_form form are.0 word) as (λ _. ((order : Order) × Say (form ∷ forms) saying (word ∷ words) order) ⊎ ((index : ℕ) × IsWrongAt (form ∷ forms) (word ∷ words) index)) [
      | inl has ↦
          elim (said_or_wrong forms are.1 (saying has.0) words) as (λ _. ((order : Order) × Say (form ∷ forms) saying (word ∷ words) order) ⊎ ((index : ℕ) × IsWrongAt (form ∷ forms) (word ∷ words) index)) [
            | inl said ↦ inl (said.0, (has.0, words, has.1, ap (λ w. w ∷ words) has.2, said.1))
            | inr wrong ↦ inr (suc wrong.0, (has, wrong.1))
          ]
      | inr other ↦ inr (0, other)
    ]

said_not_wrong : (forms : List Form) (saying : Saying forms) (words : List (List ℕ)) (order : Order) (index : ℕ)
    → Say forms saying words order → IsWrongAt forms words index → ⊥
said_not_wrong [] saying [] order index said wrong = wrong
said_not_wrong [] saying (word ∷ words) order index (end, is) wrong = nil_not_cons word words (sym end)
said_not_wrong (form ∷ forms) saying [] order index (x, more, valid, is, rest) wrong = nil_not_cons _ _ is
said_not_wrong (form ∷ forms) saying (word ∷ words) order zero (x, more, valid, is, rest) wrong = wrong (x, valid, first_same _ _ _ _ is)
said_not_wrong (form ∷ forms) saying (word ∷ words) order (suc index) (x, more, valid, is, rest) wrong =
    said_not_wrong forms (saying x) words order index (subst (λ ws. Say forms (saying x) ws order) (sym (more_same _ _ _ _ is)) rest) wrong.1

one_wrong_index : (forms : List Form) (words : List (List ℕ)) (one other : ℕ) → IsWrongAt forms words one → IsWrongAt forms words other → one ≡ other
one_wrong_index [] [] one other p q = absurd p
one_wrong_index [] (word ∷ words) one other p q = p ∙ sym q
one_wrong_index (form ∷ forms) [] one other p q = p ∙ sym q
one_wrong_index (form ∷ forms) (word ∷ words) zero zero p q = refl
one_wrong_index (form ∷ forms) (word ∷ words) zero (suc other) p q = absurd (p q.0)
one_wrong_index (form ∷ forms) (word ∷ words) (suc one) zero p q = absurd (q p.0)
one_wrong_index (form ∷ forms) (word ∷ words) (suc one) (suc other) p q = ap suc (one_wrong_index forms words one other p.1 q.1)

-- ---- rows

-- the numbers of each row have 64 bits
abbrev AreRows : List Row → Type 0
AreRows [] = Unit {0}
AreRows (r ∷ rs) = AreForms r.forms × AreRows rs

table_forms : AreRows table
table_forms = search (lit<)

found_forms : (p : Row → Bool) (rows : List Row) → AreRows rows → MatchOption (find p rows) (Unit {0}) (λ r. AreForms r.forms)
found_forms p [] are = tt
found_forms p (r ∷ rows) are =
    elim (p r) as (λ b. MatchOption (cond b (Some r) (find p rows)) (Unit {0}) (λ r. AreForms r.forms)) [
      | true ↦ are.0
      | false ↦ found_forms p rows are.1
    ]

row_forms : (called : List ℕ) → MatchOption (row_of called) (Unit {0}) (λ r. AreForms r.forms)
row_forms called = found_forms (λ r. bytes_eq called r.called) table table_forms

-- ---- words spell one order, or have one first wrong word

-- what words behind a name spell, where it is the name of this row
abbrev Says : Option Row → List (List ℕ) → Order → Type 0
Says o words order = MatchOption o ⊥ (λ r. Say r.forms r.saying words order)

abbrev WrongIn : Option Row → List (List ℕ) → ℕ → Type 0
WrongIn o words word = MatchOption o (word ≡ 0) (λ r. (index : ℕ) × (word ≡ suc index) × IsWrongAt r.forms words index)

abbrev FormsIn : Option Row → Type 0
FormsIn o = MatchOption o (Unit {0}) (λ r. AreForms r.forms)

one_in_row : (o : Option Row) → FormsIn o → (words : List (List ℕ)) (one other : Order) → Says o words one → Says o words other → one ≡ other
one_in_row None are words one other p q = absurd p
one_in_row (Some r) are words one other p q = one_said r.forms are r.saying words one other p q

pub one_order : (words : List (List ℕ)) (one other : Order) → Spell words one → Spell words other → one ≡ other
one_order [] one other p q = absurd p
one_order (called ∷ words) one other p q = one_in_row (row_of called) (row_forms called) words one other p q

some_in_row : (o : Option Row) → FormsIn o → (words : List (List ℕ)) → ((order : Order) × Says o words order) ⊎ ((word : ℕ) × WrongIn o words word)
some_in_row None are words = inr (0, refl)
some_in_row (Some r) are words = told (said_or_wrong r.forms are r.saying words)
  where
    told : ((order : Order) × Say r.forms r.saying words order) ⊎ ((index : ℕ) × IsWrongAt r.forms words index)
        → ((order : Order) × Says (Some r) words order) ⊎ ((word : ℕ) × WrongIn (Some r) words word)
    told (inl said) = inl said
    told (inr wrong) = inr (suc wrong.0, (wrong.0, refl, wrong.1))

pub spelled_or_wrong : (words : List (List ℕ)) → ((order : Order) × Spell words order) ⊎ ((word : ℕ) × FirstWrong words word)
spelled_or_wrong [] = inr (0, refl)
spelled_or_wrong (called ∷ words) = some_in_row (row_of called) (row_forms called) words

not_both_in_row : (o : Option Row) (words : List (List ℕ)) (order : Order) (word : ℕ) → Says o words order → WrongIn o words word → ⊥
not_both_in_row None words order word said wrong = said
not_both_in_row (Some r) words order word said wrong = said_not_wrong r.forms r.saying words order wrong.0 said wrong.2

pub spelled_not_wrong : (words : List (List ℕ)) (order : Order) (word : ℕ) → Spell words order → FirstWrong words word → ⊥
spelled_not_wrong [] order word spelled wrong = spelled
spelled_not_wrong (called ∷ words) order word spelled wrong = not_both_in_row (row_of called) words order word spelled wrong

one_wrong_in_row : (o : Option Row) (words : List (List ℕ)) (one other : ℕ) → WrongIn o words one → WrongIn o words other → one ≡ other
one_wrong_in_row None words one other p q = p ∙ sym q
one_wrong_in_row (Some r) words one other p q = p.1 ∙ (ap suc (one_wrong_index r.forms words p.0 q.0 p.2 q.2) ∙ sym q.1)

pub one_first_wrong : (words : List (List ℕ)) (one other : ℕ) → FirstWrong words one → FirstWrong words other → one ≡ other
one_first_wrong [] one other p q = p ∙ sym q
one_first_wrong (called ∷ words) one other p q = one_wrong_in_row (row_of called) words one other p q

-- ---- what holds of each row holds of all words that spell an order

-- behind these words, for all that words of these forms say
abbrev pub Each : (List (List ℕ) → Order → Type 0) → (forms : List Form) → Saying forms → (List (List ℕ) → List (List ℕ)) → Type 0
Each P [] saying front = P (front []) saying
Each P (form ∷ forms) saying front = (x : Meant form) → IsMeant form x → Each P forms (saying x) (λ more. front (word_of form x ∷ more))

abbrev pub EachRow : (List (List ℕ) → Order → Type 0) → List Row → Type 0
EachRow P [] = Unit {0}
EachRow P (r ∷ rows) = Each P r.forms r.saying (λ more. r.called ∷ more) × EachRow P rows

each_said : (P : List (List ℕ) → Order → Type 0) (forms : List Form) (saying : Saying forms) (front : List (List ℕ) → List (List ℕ)) (words : List (List ℕ)) (order : Order)
    → Each P forms saying front → Say forms saying words order → P (front words) order
each_said P [] saying front words order each (end, is) = subst (λ o. P (front words) o) (sym is) (subst (λ ws. P (front ws) saying) (sym end) each)
each_said P (form ∷ forms) saying front words order each (x, more, valid, is, rest) =
    subst (λ ws. P (front ws) order) (sym is) (each_said P forms (saying x) (λ ws. front (word_of form x ∷ ws)) more order (each x valid) rest)

each_found : (P : List (List ℕ) → Order → Type 0) (called : List ℕ) (words : List (List ℕ)) (order : Order) (rows : List Row) → EachRow P rows
    → Says (find (λ r. bytes_eq called r.called) rows) words order → P (called ∷ words) order
each_found P called words order [] each said = absurd said
each_found P called words order (r ∷ rows) each said =
    elim (bytes_eq called r.called) as (λ b. bytes_eq called r.called ≡ b → Says (cond b (Some r) (find (λ r. bytes_eq called r.called) rows)) words order → P (called ∷ words) order) [
      | true ↦ λ e said.
          subst (λ n. P (n ∷ words) order) (sym ((bytes_eq-Decides called r.called).0 e)) (each_said P r.forms r.saying (λ more. r.called ∷ more) words order each.0 said)
      | false ↦ λ e said. each_found P called words order rows each.1 said
    ] refl said

pub spelled_by_row : (P : List (List ℕ) → Order → Type 0) → EachRow P table → (words : List (List ℕ)) (order : Order) → Spell words order → P words order
spelled_by_row P each [] order spelled = absurd spelled
spelled_by_row P each (called ∷ words) order spelled = each_found P called words order table each spelled
