-- Keys and values that are shown, as the code has them.
use Rattle.std.specs.Borrow.{Bor}
use Rattle.std.specs.Prelude.{ℕ, Option, Some, None, List, refl}
use Rattle.std.specs.Coded.{Coded, code_by, coded×, coded_ℕ, coded_list}
use Rattle.model.specs.Value.{Value}
use Rattle.model.specs.View.{Entry}
use Rattle.op_grammar.specs.Values.{value_of}
use Rattle.op_grammar.specs.declared.value.Value as lent
use Rattle.op_grammar.specs.declared.value.Value.TheVariants as lent_as
use Rattle.lww_map.specs.Codes.{value_code}
use Rattle.lww_map.specs.declared.registers.RegisterRow.{RegisterRow}
use Rattle.doc_store.specs.declared.keys.KeyValue.{KeyValue}

-- ---- codes

abbrev pub entry_code : Coded Entry
entry_code = code_by (List ℕ × Value) (coded× (coded_list coded_ℕ) value_code) (λ e. (e.key, e.value)) (λ p. record { key = p.0; value = p.1 }) (λ _. refl)

abbrev pub entries_code : Coded (List Entry)
entries_code = coded_list entry_code

abbrev pub values_code : Coded (List Value)
values_code = coded_list value_code

-- ---- keys

abbrev pub entry_seen : KeyValue → Entry
entry_seen k = record { key = k.key.now; value = value_of k.value }

abbrev pub kept_value : Bor (List ℕ) → lent.Value → Option KeyValue
kept_value key lent_as.Null = None
kept_value key (lent_as.Bool b) = Some (record { key = key; value = lent_as.Bool b })
kept_value key (lent_as.Int n) = Some (record { key = key; value = lent_as.Int n })
kept_value key (lent_as.Text t) = Some (record { key = key; value = lent_as.Text t })
kept_value key (lent_as.Bytes b) = Some (record { key = key; value = lent_as.Bytes b })

-- the key of a register whose value isn't null
abbrev pub kept_key : RegisterRow → Option KeyValue
kept_key r = kept_value r.key r.value
