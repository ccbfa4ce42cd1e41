use Rattle.std.proofs.Common.{◌≡◌, ◌∙◌, ap, sym, ◌-◌, ◌<◌, ◌≤◌, ℕ, zero, suc, List, [], ◌∷◌, ◌++◌, take, drop, cond, Bool, false, append_assoc, arith, refl}
use Rattle.op_ids.specs.declared.OpId.{OpId}
use Rattle.fugue_text.specs.declared.pieces.Window.{Window}
use Rattle.fugue_text.specs.Pieces.{still_in}
use Rattle.fugue_text.proofs.pieces.Window.pass.Goals as goal

skipped : (ids : List OpId) (skip left : ℕ) (id : OpId) (rest : List OpId) → 0 < skip → ids ++ take left (drop (skip - 1) rest) ≡ ids ++ take left (drop skip (id ∷ rest))
skipped ids zero left id rest h = absurd (omega (arith, h))
skipped ids (suc k) left id rest h = (let step : suc k - 1 ≡ k = omega arith in ap (λ n. ids ++ take left (drop n rest)) step)

taken : (ids : List OpId) (skip left : ℕ) (id : OpId) (rest : List OpId) → skip ≤ 0 → 0 < left → (ids ++ id ∷ []) ++ take (left - 1) (drop skip rest) ≡ ids ++ take left (drop skip (id ∷ rest))
taken ids (suc k) left id rest s h = absurd (omega (arith, s))
taken ids zero zero id rest s h = absurd (omega (arith, h))
taken ids zero (suc n) id rest s h = (let step : suc n - 1 ≡ n = omega arith in append_assoc ids (id ∷ []) (take (suc n - 1) rest) ∙ ap (λ m. ids ++ id ∷ take m rest) step)

passed : (ids : List OpId) (skip left : ℕ) (id : OpId) (rest : List OpId) → skip ≤ 0 → left ≤ 0 → ids ++ take left (drop skip rest) ≡ ids ++ take left (drop skip (id ∷ rest))
passed ids (suc k) left id rest s h = absurd (omega (arith, s))
passed ids zero (suc n) id rest s h = absurd (omega (arith, h))
passed ids zero zero id rest s h = refl

-- an id that is read is no row that is erased
shown : (w : Window) (dead : Bool) (id : OpId) (rest : List OpId) → dead ≡ false → still_in w (id ∷ rest) ≡ still_in w (cond dead [] (id ∷ []) ++ rest)
shown w dead id rest e = ap (λ d. still_in w (cond d [] (id ∷ []) ++ rest)) (sym e)

pub returns-then-letter : goal.returns-then-letter
returns-then-letter c rest = ap (λ d. still_in c.args.self.now (cond d [] (c.args.id ∷ []) ++ rest)) (sym c.if-letter.true)

pub returns-then-self-gt0 : goal.returns-then-self-gt0
returns-then-self-gt0 c rest =
    let w = c.args.self.now in
    skipped w.ids.items w.skip w.left c.args.id rest (omega (arith, c.if-self-gt0.true)) ∙ shown w c.args.letter.dead c.args.id rest c.if-letter.false

pub returns-in_ok-push : goal.returns-in_ok-push
returns-in_ok-push c rest =
    let w = c.args.self.now in
    ap (λ ids. ids ++ take (w.left - 1) (drop w.skip rest)) c.in_ok-push.ensures.items
    ∙ taken w.ids.items w.skip w.left c.args.id rest (omega (arith, c.if-self-gt0.false)) (omega (arith, c.if-self-gt0-2.true)) ∙ shown w c.args.letter.dead c.args.id rest c.if-letter.false

pub returns-else-self-gt0-2 : goal.returns-else-self-gt0-2
returns-else-self-gt0-2 c rest =
    let w = c.args.self.now in
    passed w.ids.items w.skip w.left c.args.id rest (omega (arith, c.if-self-gt0.false)) (omega (arith, c.if-self-gt0-2.false)) ∙ shown w c.args.letter.dead c.args.id rest c.if-letter.false
