-- A code, by which proofs tell the parts of a table of characters apart.
use Rattle.std.specs.Prelude.{ℕ, Bool, List, refl}
use Rattle.std.specs.Coded.{Coded, code_by, coded×, coded_ℕ, coded_bool, coded_list}
use Rattle.std.specs.FinMap.{FinMap, code as map_code}
use Rattle.op_ids.specs.declared.OpId.{OpId}
use Rattle.op_ids.specs.Codes.{id_code}
use Rattle.model.specs.Operation.{Anchor}
use Rattle.model.specs.State.{Character, row_cmp}
use Rattle.fugue_tree.specs.Tree.{anchor_code}

abbrev pub character_code : Coded Character
character_code = code_by (Anchor × (ℕ × Bool)) (coded× anchor_code (coded× coded_ℕ coded_bool)) (λ c. (c.at, (c.character, c.dead))) (λ p. record { at = p.0; character = p.1.0; dead = p.1.1 }) (λ _. refl)

abbrev pub rows_code : Coded (List (OpId × Character))
rows_code = coded_list (coded× id_code character_code)

abbrev pub table_code : Coded (FinMap row_cmp Character)
table_code = map_code (coded× id_code id_code) character_code
