-- From what is read of a change to the rules that it keeps, and to the change.
use Rattle.std.proofs.Common.{◌≡◌, ◌↔◌, ℕ, ◌-◌, ◌<◌, ◌≤◌, ◌^◌, List, ◌++◌, length, take, Bor, refl, sym, ap, subst, ◌∙◌, inl, inr, arith, length-append}
use Rattle.std.specs.Prelude.{Some, None, Ok, Err, Result}
use Rattle.std.proofs.Math.Seq.{take-append_seam}
use Rattle.cbor_det.specs.Head.{IsBytes}
use Rattle.cbor_det.specs.Item.{Item, IsSpelled, spell}
use Rattle.cbor_det.specs.Unread.{Unread, Took}
use Rattle.model.specs.Change.{ChangeParts, change_item, parts_item, parts_of}
use Rattle.model.specs.Rules as model
use Rattle.model.specs.Rules.{BreaksFirst, KeepsAll, KeepsChange, SaysChange, IsBody, HasOperations, change_rules}
use Rattle.file_laws.proofs.SameParts.{parts_same}
use Rattle.file_laws.proofs.RuleLaws.{kept_are_changes, changes_keep, not_kept_and_broken}
use Rattle.op_grammar.specs.Rules.{rule_of}
use Rattle.op_grammar.specs.Changes.{head_rules, ChangeAnswer, TakesChange, StandsNoChange}
use Rattle.op_grammar.specs.Parts.{AreOperations, ReadsParts, FoundParts, PartsAnswer, SaidAnswer, said_parts}
use Rattle.op_grammar.specs.declared.check.TakenChange.{TakenChange}
use Rattle.op_grammar.specs.declared.head.Head.{Head}
use Rattle.op_grammar.specs.declared.head.Said.{Said}
use Rattle.op_grammar.specs.declared.parts.Parts.{Parts}
use Rattle.op_grammar.specs.declared.rule.Rule.{Rule}
use Rattle.op_grammar.specs.declared.rule.Rule.TheVariants as r
use Rattle.op_grammar.proofs.HeadLaws.{denies}
use Rattle.op_grammar.proofs.BodyLaws.{has_operations_are}

-- a rule that the head breaks
pub first_of_all : (n : ℕ) (x : Item) (rule : model.Rule) → BreaksFirst (KeepsChange n) head_rules x rule → BreaksFirst (KeepsChange n) change_rules x rule
first_of_all n x rule (inl a) = inl a
first_of_all n x rule (inr (a, inl b)) = inr (a, inl b)
first_of_all n x rule (inr (a, inr (b, inl c))) = inr (a, inr (b, inl c))
first_of_all n x rule (inr (a, inr (b, inr (c, inl d)))) = inr (a, inr (b, inr (c, inl d)))
first_of_all n x rule (inr (a, inr (b, inr (c, inr (d, inl e))))) = inr (a, inr (b, inr (c, inr (d, inl e))))
first_of_all n x rule (inr (a, inr (b, inr (c, inr (d, inr (e, no_more)))))) = absurd no_more

pub head_breaks : (n : ℕ) (x : Item) (rule : Rule) (found : Result (Head × Bor (List ℕ)) Rule) → found ≡ Err rule → SaidAnswer n x (Err rule) → ChangeAnswer n x found
head_breaks n x rule found e h = subst (ChangeAnswer n x) (sym e) (first_of_all n x (rule_of rule) h)

module _ (n : ℕ) (x : Item) (s : Said) (said : SaidAnswer n x (Ok s)) where
  pub body_breaks : (IsBody (said_parts s) → ⊥) → ChangeAnswer n x (Err r.G6)
  body_breaks out =
      let h = said.1 in
      inr (h.0, inr (h.1.0, inr (h.1.1.0, inr (h.1.1.1.0, inr (h.1.1.1.1.0, inl (refl, λ k. denies IsBody (said_parts s) out (subst (SaysChange IsBody) said.0 k)))))))

  module _ (is_body : IsBody (said_parts s)) (lt : n < 2 ^ 64) where
    abbrev pub Are : Type 0
    Are = (s.width ≤ 65536) × AreOperations n is_body.items s.width

    exactly : Are ↔ HasOperations n (said_parts s)
    exactly = has_operations_are n (said_parts s) is_body.items lt is_body.most is_body.spelled

    pub operations_break : (Are → ⊥) → ChangeAnswer n x (Err r.G7)
    operations_break out =
        let h = said.1 in
        inr (
          h.0,
          inr (
            h.1.0,
            inr (
              h.1.1.0,
              inr (
                h.1.1.1.0,
                inr (
                  h.1.1.1.1.0,
                  inr (
                    (said_parts s, said.0, is_body),
                    inl (
                      refl,
                      λ k. denies (HasOperations n) (said_parts s) (λ o. out (exactly.1 o)) (subst (SaysChange (HasOperations n)) said.0 k),
                    ),
                  ),
                ),
              ),
            ),
          ),
        )

    pub is_change : (h : Head) (b : Bor (List ℕ)) → Are → h ≡ record { member = s.member; number = s.number; time = s.time; causes = s.causes; count = s.count; width = s.width } → b.now ≡ s.body.now → ChangeAnswer n x (Ok (h, b))
    is_change h b are e f =
        let k = said.1 in
        let all : KeepsAll (KeepsChange n) change_rules x = (k.0, (k.1.0, (k.1.1.0, (k.1.1.1.0, (k.1.1.1.1.0, ((said_parts s, said.0, is_body), ((said_parts s, said.0, exactly.0 are), tt))))))) in
        let c = kept_are_changes n x lt all in
        let same : said_parts s ≡ parts_of c.0 = parts_same (said_parts s) (parts_of c.0) (sym said.0 ∙ c.1) in (
          c.0,
          c.1,
          c.2,
          e ∙ (λ i. record { member = (same i).member; number = (same i).number; time = (same i).time; causes = (same i).causes; count = (same i).count; width = (same i).width }),
          f ∙ ap (λ (q : ChangeParts). q.body) same,
        )

-- ---- a change that is taken from a cursor

-- where its parts are found and keep the rules
pub change_taken : (n : ℕ) (o0 o1 : Unread) (p : Parts) (s : Said) (t : TakenChange) → FoundParts o0 o1 p → ((x : Item) → PartsAnswer (Some p) x → SaidAnswer n x (Ok s)) → ((x : Item) → SaidAnswer n x (Ok s) → ChangeAnswer n x (Ok (t.head, t.body)))
    → t.span.now ≡ take (length o0.rest - length o1.rest) o0.rest → IsBytes t.span.now → TakesChange n o0 o1 t
change_taken n o0 o1 p s t (q, are, spelled, took) says keeps span bytes =
    let a = keeps (parts_item q) (says (parts_item q) (q, refl, are)) in
    let text = spell (change_item a.0) in
    let here : Took text o0 o1 = took ∙ ap (λ (x : Item). spell x ++ o1.rest) a.1 in
    let size : length o0.rest - length o1.rest ≡ length text = omega (arith, ap length here, length-append text o1.rest) in
    record {
      change = a.0;
      is = a.2;
      spelled = subst IsSpelled a.1 spelled;
      head = a.3;
      body = a.4;
      span = span ∙ (λ i. take (size i) (here i)) ∙ take-append_seam text o1.rest;
      bytes = bytes;
      took = here;
    }

module _ (n : ℕ) (lt : n < 2 ^ 64) (o0 : Unread) where
  -- where no parts are
  pub no_parts : ReadsParts o0 None → StandsNoChange n o0
  no_parts reads c more is sp e = reads (change_item c) more sp.0 e (parts_of c) refl

  -- where parts break a rule
  pub parts_break : (rule : Rule) (p : Parts) → ReadsParts o0 (Some p) → ((x : Item) → PartsAnswer (Some p) x → ChangeAnswer n x (Err rule)) → StandsNoChange n o0
  parts_break rule p reads breaks c more is sp e =
      let x = change_item c in
      not_kept_and_broken (KeepsChange n) change_rules x (rule_of rule) (changes_keep n x lt (c, refl, is)) (breaks x (reads x more sp.0 e))
