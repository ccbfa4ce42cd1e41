use Rattle.std.proofs.Common.{◌≡◌, ◌+◌, true, cond, None, Some, length, slice_index, sym, ap, subst, ◌∙◌, arith}
use Rattle.std.specs.List.{find}
use Rattle.std.specs.Option.{option_map}
use Rattle.version_vector.specs.Counts.{AtLeast}
use Rattle.op_grammar.specs.declared.head.Head.{Head}
use Rattle.model.specs.Change.{IsChange, has_name}
use Rattle.causal_inbox.specs.Names.{name_by}
use Rattle.causal_inbox.specs.Counted.{candidate_of}
use Rattle.causal_inbox.proofs.ReadyLaws.{too_many, none_next, one_next, find_passing, causes_held, causes_lack, named}
use Rattle.causal_inbox.proofs.ready.ready_of.Goals as goal

pub returns-in_err-number : goal.returns-in_err-number
returns-in_err-number c =
    let held = c.args.held.now in
    let none : c.from_residual.result ≡ None = cc (c.from_residual.ensures) in
    none ∙ sym (ap (option_map candidate_of) (too_many held (length held) c.args.member c.args.pool.now c.requires.pooled (omega (arith, c.in_err-number.ensures, c.get.ensures))))

pub returns-in_err-next : goal.returns-in_err-next
returns-in_err-next c =
    let held = c.args.held.now in
    let m = c.args.member in
    let number : c.in_ok-number.number ≡ slice_index held m + 1 = c.in_ok-number.ensures.1 ∙ ap (λ k. k + 1) c.get.ensures in
    let none : c.from_residual-in_err-next.result ≡ None = cc (c.from_residual-in_err-next.ensures) in
    let missing = ap (λ k. find (has_name (name_by (m, k))) c.args.pool.now) (sym number) ∙ sym c.in_err-next.ensures.found in
    none ∙ sym (ap (option_map candidate_of) (none_next held m c.args.pool.now missing))

pub at_least-requires : goal.at_least-requires
at_least-requires c =
    let f = find_passing (IsChange (length c.args.held.now)) (has_name (name_by (c.args.member, c.in_ok-number.number))) c.args.pool.now c.in_ok-next.next.now c.requires.pooled (sym c.in_ok-next.ensures.found) in
    sym (ap (λ (h : Head). length h.causes) c.head-head.ensures ∙ f.0.causes_each)

pub returns-then-not-at_least : goal.returns-then-not-at_least
returns-then-not-at_least c =
    let held = c.args.held.now in
    let m = c.args.member in
    let next = c.in_ok-next.next.now in
    let number : c.in_ok-number.number ≡ slice_index held m + 1 = c.in_ok-number.ensures.1 ∙ ap (λ k. k + 1) c.get.ensures in
    let f = find_passing (IsChange (length held)) (has_name (name_by (m, c.in_ok-number.number))) c.args.pool.now next c.requires.pooled (sym c.in_ok-next.ensures.found) in
    let here = ap (λ k. find (has_name (name_by (m, k))) c.args.pool.now) (sym number) ∙ sym c.in_ok-next.ensures.found in
    let lack = causes_lack held next f.0.causes_each (λ h. (let t = c.at_least.ensures.1 (subst (AtLeast held) (ap (λ (k : Head). k.causes) (sym c.head-head.ensures)) h) in cc (t, c.if-not-at_least.true))) in
    sym (ap (option_map candidate_of) (one_next held m c.args.pool.now next c.find.ensures.rise here ∙ ap (λ b. cond b (Some next) None) lack))

pub returns : goal.returns
returns c =
    let held = c.args.held.now in
    let m = c.args.member in
    let next = c.in_ok-next.next.now in
    let number : c.in_ok-number.number ≡ slice_index held m + 1 = c.in_ok-number.ensures.1 ∙ ap (λ k. k + 1) c.get.ensures in
    let f = find_passing (IsChange (length held)) (has_name (name_by (m, c.in_ok-number.number))) c.args.pool.now next c.requires.pooled (sym c.in_ok-next.ensures.found) in
    let here = ap (λ k. find (has_name (name_by (m, k))) c.args.pool.now) (sym number) ∙ sym c.in_ok-next.ensures.found in
    let all = causes_held held next f.0.causes_each (subst (AtLeast held) (ap (λ (k : Head). k.causes) c.head-head.ensures) (c.at_least.ensures.0 c.if-not-at_least.false)) in
    let named = named m c.in_ok-number.number next f.1 in
    let time = ap (λ (k : Head). k.time) c.head-head.ensures in
    let same : Some (record { stamp = record { time = c.head-head.result.now.time; member = m }; number = c.in_ok-number.number }) ≡ Some (candidate_of next) = (λ i. Some (record { stamp = record { time = time i; member = named.0 i }; number = named.1 i })) in
    same ∙ sym (ap (option_map candidate_of) (one_next held m c.args.pool.now next c.find.ensures.rise here ∙ ap (λ b. cond b (Some next) None) all))
