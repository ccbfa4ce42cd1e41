use Rattle.std.proofs.Common.{◌≡◌, ◌-◌, ap, ◌∙◌, arith, get_or, min}
use Rattle.op_grammar.specs.declared.head.Head.{Head}
use Rattle.stability.proofs.HorizonLaws.{passes_stable, passes_unstable}
use Rattle.stability.proofs.horizon.Horizon.pass.Goals as goal

pub returns-then-head-get : goal.returns-then-head-get
returns-then-head-get c n past h d is same =
    let z = c.args.self.now in
    let member = ap (λ (x : Head). x.member) same in
    let number = ap (λ (x : Head). x.number) same in
    let got : c.get.result ≡ get_or z.stable d.member 0 = c.get.ensures ∙ ap (λ m. get_or z.stable m 0) member in
    passes_unstable n past h d z c.min-self.result is (omega (arith, c.requires, member)) (omega (arith, got, number, c.if-head-get.true))
    (c.min-self.ensures ∙ ap (min z.time) (c.saturating_sub.ensures ∙ ap (λ (x : Head). x.time - 1) same))

pub returns-else-head-get : goal.returns-else-head-get
returns-else-head-get c n past h d is same =
    let z = c.args.self.now in
    let member = ap (λ (x : Head). x.member) same in
    let number = ap (λ (x : Head). x.number) same in
    let got : c.get.result ≡ get_or z.stable d.member 0 = c.get.ensures ∙ ap (λ m. get_or z.stable m 0) member in
    passes_stable n past h d z is (omega (arith, c.requires, member)) (omega (arith, got, number, c.if-head-get.false))
