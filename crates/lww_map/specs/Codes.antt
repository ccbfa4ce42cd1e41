-- A code of values, as a finite map of them asks for.
use Rattle.std.specs.Prelude.{◌≡◌, ℕ, ℤ, Bool, Option, Some, None, List, ◌⊎◌, refl}
use Rattle.std.proofs.Common.{inl, inr}
use Rattle.std.specs.Coded.{Coded, code_by, coded⊎, coded_ℕ, coded_ℤ, coded_bool, coded_list, coded_option}
use Rattle.model.specs.Value as model

abbrev Parts : Type 0
Parts = Option (Bool ⊎ (ℤ ⊎ (List ℕ ⊎ List ℕ)))

abbrev split : model.Value → Parts
split model.null = None
split (model.truth b) = Some (inl b)
split (model.integer n) = Some (inr (inl n))
split (model.text t) = Some (inr (inr (inl t)))
split (model.bytes b) = Some (inr (inr (inr b)))

abbrev join : Parts → model.Value
join None = model.null
join (Some (inl b)) = model.truth b
join (Some (inr (inl n))) = model.integer n
join (Some (inr (inr (inl t)))) = model.text t
join (Some (inr (inr (inr b)))) = model.bytes b

pub join_split : (v : model.Value) → join (split v) ≡ v
join_split model.null = refl
join_split (model.truth b) = refl
join_split (model.integer n) = refl
join_split (model.text t) = refl
join_split (model.bytes b) = refl

abbrev pub value_code : Coded model.Value
value_code =
    code_by Parts (coded_option (coded⊎ coded_bool (coded⊎ coded_ℤ (coded⊎ (coded_list coded_ℕ) (coded_list coded_ℕ))))) split join join_split
