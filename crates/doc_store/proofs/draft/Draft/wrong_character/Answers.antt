use Rattle.std.proofs.Common.{◌≡◌, ◌&&◌, ◌<◌, ◌≤◌, ◌∙◌, ap, arith, sym}
use Rattle.op_ids.specs.Order.{id_lt}
use Rattle.doc_store.proofs.ReferenceLaws.{name_right, name_wrong, still_all, still_none}
use Rattle.doc_store.proofs.draft.Draft.wrong_character.Goals as goal
use Rattle.doc_store.proofs.draft.Draft.wrong_character.Goals.{then-has_character, else-has_character}

pub loop-k-init : goal.loop-k-init
loop-k-init c u h = still_all u c.args.id c.args.node c.args.first c.args.count

pub returns-then-not-is_before : goal.returns-then-not-is_before
returns-then-not-is_before c u h =
    let name = c.plus-name.result in
    let there = c.has_character.result in
    let value : c.if-has_character.value ≡ (there && id_lt name c.args.id) =
    elim c.if-has_character.branch [
      | then-has_character w ↦ w.value-is ∙ w.is_before.ensures ∙ sym (ap (λ b. b && id_lt name c.args.id) w.if-has_character.true)
      | else-has_character w ↦ w.value-is ∙ w.if-has_character.false ∙ sym (ap (λ b. b && id_lt name c.args.id) w.if-has_character.false)
    ] in
    let less : c.loop-k.k < c.args.count = omega arith in
    name_wrong u c.args.id c.args.node c.args.first c.args.count c.loop-k.k less name c.plus-name.ensures there (c.has_character.ensures u h) (c.loop-k.invariant u h) (sym value ∙ c.if-not-is_before.true)

pub loop-k-preserved : goal.loop-k-preserved
loop-k-preserved c u h =
    let name = c.plus-name.result in
    let there = c.has_character.result in
    let value : c.if-has_character.value ≡ (there && id_lt name c.args.id) =
    elim c.if-has_character.branch [
      | then-has_character w ↦ w.value-is ∙ w.is_before.ensures ∙ sym (ap (λ b. b && id_lt name c.args.id) w.if-has_character.true)
      | else-has_character w ↦ w.value-is ∙ w.if-has_character.false ∙ sym (ap (λ b. b && id_lt name c.args.id) w.if-has_character.false)
    ] in
    let less : c.loop-k.k < c.args.count = omega arith in
    name_right u c.args.id c.args.node c.args.first c.args.count c.loop-k.k less name c.plus-name.ensures there (c.has_character.ensures u h) (c.loop-k.invariant u h) (sym value ∙ c.if-not-is_before.false)

pub returns : goal.returns
returns c u h =
    let all : c.args.count ≤ c.loop-k.k = omega arith in
    still_none u c.args.id c.args.node c.args.first c.args.count c.loop-k.k all (c.loop-k.invariant u h)
