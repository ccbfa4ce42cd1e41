-- Codes, by which proofs tell the parts of lists apart.
use Rattle.std.specs.Prelude.{◌≡◌, ℕ, ℤ, Bool, Option, Some, None, List, ◌⊎◌, refl}
use Rattle.std.proofs.Common.{inl, inr}
use Rattle.std.specs.Coded.{Coded, code_by, coded×, coded⊎, coded_ℕ, coded_ℤ, coded_bool, coded_list, coded_option}
use Rattle.op_ids.specs.declared.OpId.{OpId}
use Rattle.op_ids.specs.declared.Side.{Side}
use Rattle.op_ids.specs.Codes.{id_code, side_code}
use Rattle.model.specs.Value as model
use Rattle.model.specs.Operation.{Anchor}
use Rattle.model.specs.State.{Element}

abbrev Parts : Type 0
Parts = Option (Bool ⊎ (ℤ ⊎ (List ℕ ⊎ List ℕ)))

abbrev split : model.Value → Parts
split model.null = None
split (model.truth b) = Some (inl b)
split (model.integer n) = Some (inr (inl n))
split (model.text t) = Some (inr (inr (inl t)))
split (model.bytes b) = Some (inr (inr (inr b)))

abbrev join : Parts → model.Value
join None = model.null
join (Some (inl b)) = model.truth b
join (Some (inr (inl n))) = model.integer n
join (Some (inr (inr (inl t)))) = model.text t
join (Some (inr (inr (inr b)))) = model.bytes b

pub join_split : (v : model.Value) → join (split v) ≡ v
join_split model.null = refl
join_split (model.truth b) = refl
join_split (model.integer n) = refl
join_split (model.text t) = refl
join_split (model.bytes b) = refl

abbrev pub value_code : Coded model.Value
value_code =
    code_by Parts (coded_option (coded⊎ coded_bool (coded⊎ coded_ℤ (coded⊎ (coded_list coded_ℕ) (coded_list coded_ℕ))))) split join join_split

abbrev pub anchor_code : Coded Anchor
anchor_code = code_by (OpId × Side) (coded× id_code side_code) (λ a. (a.on, a.side)) (λ p. record { on = p.0; side = p.1 }) (λ _. refl)

abbrev pub element_code : Coded Element
element_code =
    code_by (OpId × (OpId × (model.Value × Bool))) (coded× id_code (coded× id_code (coded× value_code coded_bool)))
    (λ e. (e.position, (e.writer, (e.value, e.dropped)))) (λ p. record { position = p.0; writer = p.1.0; value = p.1.1.0; dropped = p.1.1.1 }) (λ _. refl)
