-- Receiving asks counts alone.
use Rattle.std.specs.Prelude.{◌≡◌, ℕ, zero, suc, ◌+◌, ◌≤◌, ◌&&◌, not, nat_le, nat_lt, Bool, cond, List, [], ◌∷◌, length, filter, count_by, slice_index, refl}
use Rattle.std.proofs.Common.{sym, ◌∙◌, ap, arith, eqb}
use Rattle.std.proofs.lemmas.List.Sums.{sum_by-cons}
use Rattle.std.specs.List.{AllByRecursion, list_all, range_with_len, reduce}
use Rattle.model.specs.Change.{Change, IsChange}
use Rattle.model.specs.Held.{Held, is_known, is_missing, is_ready}
use Rattle.model.specs.Settle.{differs, is_pooled, earlier}
use Rattle.model_laws.proofs.ListLaws.{all_more}
use Rattle.causal_inbox.specs.Counted.{counted, Counts, AskCounts, CountsSuffice}
use Rattle.causal_inbox.proofs.OfferLaws.{by_tests}

-- tests that agree on each of the changes
filter_same : (p q : Change → Bool) (cs : List Change) → AllByRecursion (λ c. p c ≡ q c) cs → filter p cs ≡ filter q cs
filter_same p q [] h = refl
filter_same p q (c ∷ cs) h = let e = h.0 in let f = filter_same p q cs h.1 in λ i. cond (e i) (c ∷ f i) (f i)

count_same : (p q : Change → Bool) (cs : List Change) → AllByRecursion (λ c. p c ≡ q c) cs → count_by p cs ≡ count_by q cs
count_same p q [] h = refl
count_same p q (c ∷ cs) h =
    let e = h.0 in
    let f = count_same p q cs h.1 in
    sum_by-cons (λ (d : Change). cond (p d) 1 0) c cs ∙ (λ i. cond (e i) 1 0 + f i) ∙ sym (sum_by-cons (λ (d : Change). cond (q d) 1 0) c cs)

module _ (past : Held) (counts : List ℕ) (h : Counts past counts) where
  known : (c : Change) → IsChange (length counts) c → is_known past c ≡ is_known (counted counts) c
  known c is = ap (λ k. nat_le c.number k) (h c.member is.member)

  causes : (c : Change) (n a : ℕ) → a + n ≤ length counts → list_all (λ k. not (is_missing past c k)) (range_with_len a n) ≡ list_all (λ k. not (is_missing (counted counts) c k)) (range_with_len a n)
  causes c zero a le = refl
  causes c (suc n) a le =
      let e = h a (omega arith) in
      let f = causes c n (a + 1) (omega arith) in
      λ i. not (nat_lt (e i) (slice_index c.causes a)) && f i

  ready : (c : Change) → IsChange (length counts) c → is_ready (length counts) past c ≡ is_ready (length counts) (counted counts) c
  ready c is =
      let e = h c.member is.member in
      let f = causes c (length counts) 0 (omega arith) in
      λ i. eqb c.number (e i + 1) && f i

  asks : AskCounts past counts
  asks = record {
    begins = λ held waiting all.
        let same = all_more (IsChange (length counts)) (λ c. is_known past c ≡ is_known (counted counts) c) known waiting all in
        let pool = filter_same (λ c. not (is_known past c)) (λ c. not (is_known (counted counts) c)) waiting (all_more (λ c. is_known past c ≡ is_known (counted counts) c) (λ c. not (is_known past c) ≡ not (is_known (counted counts) c)) (λ c e. ap not e) waiting same) in
        let count = count_same (is_known past) (is_known (counted counts)) waiting same in
        λ i. record { held = held; pool = pool i; report = record { accepted = 0; known = count i; same = 0; forked = []; refused = []; full = [] } };
    offers = λ kept s c is. let k = known c is in λ i. by_tests s c (k i) (differs kept c) (differs s.pool c) (is_pooled s.pool c);
    ready = λ pool all. ap (reduce earlier) (filter_same (is_ready (length counts) past) (is_ready (length counts) (counted counts)) pool (all_more (IsChange (length counts)) (λ c. is_ready (length counts) past c ≡ is_ready (length counts) (counted counts) c) ready pool all));
  }

pub counts_suffice : CountsSuffice
counts_suffice past counts h = asks past counts h
