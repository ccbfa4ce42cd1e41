-- Registers as they are kept: by node, and then by key.
use Rattle.std.specs.Prelude.{ℕ, cond, Option, Some, None, List, [], ◌∷◌, ◌++◌, map, filter, refl}
use Rattle.std.specs.Borrow.{Bor}
use Rattle.std.specs.Ordering.{nat_cmp, ordering_then}
use Rattle.std.specs.declared.cmp.Ordering.{Ordering}
use Rattle.std.specs.Cmp.Lexicographic.{slice_cmp}
use Rattle.std.specs.FinMap.{FinMap, get, insert, from_entries, entries, code as map_code}
use Rattle.std.specs.Coded.{Coded, code_by, coded×, coded_ℕ, coded_list}
use Rattle.op_ids.specs.declared.OpId.{OpId}
use Rattle.op_ids.specs.Order.{id_eq, id_lt}
use Rattle.op_ids.specs.Codes.{id_code}
use Rattle.model.specs.Value.{Value}
use Rattle.model.specs.State.{Register, register_cmp, Written}
use Rattle.model_laws.specs.Arrival.{writer_is_before}
use Rattle.lww_map.specs.declared.keys.Written as code
use Rattle.lww_map.specs.declared.registers.RegisterRow.{RegisterRow}
use Rattle.lww_map.specs.declared.prefix_key.PrefixKey.{PrefixKey}
use Rattle.op_grammar.specs.declared.value.Value as lent
use Rattle.op_grammar.specs.Values.{value_of}
use Rattle.lww_map.specs.Codes.{value_code}

-- the registers of a node
abbrev pub Keys : Type 0
Keys = FinMap (slice_cmp nat_cmp) Written

-- all registers
abbrev pub Table : Type 0
Table = FinMap register_cmp Written

abbrev pub written_code : Coded Written
written_code = code_by (OpId × Value) (coded× id_code value_code) (λ w. (w.writer, w.value)) (λ p. record { writer = p.0; value = p.1 }) (λ _. refl)

abbrev pub keys_code : Coded Keys
keys_code = map_code (coded_list coded_ℕ) written_code

abbrev pub table_code : Coded Table
table_code = map_code (coded× id_code (coded_list coded_ℕ)) written_code

-- ---- keys, as the code compares them

abbrev pub text_cmp : PrefixKey → PrefixKey → Ordering
text_cmp a b = slice_cmp nat_cmp a.text.now b.text.now

-- the derived order
abbrev pub prefix_cmp : PrefixKey → PrefixKey → Ordering
prefix_cmp a b = ordering_then (nat_cmp a.prefix b.prefix) (text_cmp a b)

-- ---- what the code has, in the model

abbrev pub seen : code.Written → Written
seen w = record { writer = w.writer; value = value_of w.value }

abbrev pub written_seen : Option (Bor code.Written) → Option Written
written_seen None = None
written_seen (Some w) = Some (seen w.now)

abbrev pub register_seen : Option (OpId × lent.Value) → Option Written
register_seen None = None
register_seen (Some p) = Some (record { writer = p.0; value = value_of p.1 })

abbrev pub row_seen : RegisterRow → Register × Written
row_seen r = ((r.node, r.key.now), record { writer = r.writer; value = value_of r.value })

abbrev pub rows_seen : List RegisterRow → List (Register × Written)
rows_seen rows = map row_seen rows

abbrev pub key_entry : PrefixKey × code.Written → List ℕ × Written
key_entry e = (e.0.text.now, seen e.1)

abbrev pub key_list : List (PrefixKey × code.Written) → List (List ℕ × Written)
key_list es = map key_entry es

abbrev pub keys_of : List (PrefixKey × code.Written) → Keys
keys_of es = from_entries (key_list es)

-- the later write of two
abbrev pub overwritten : Written → Written → Written
overwritten w by = cond (id_lt w.writer by.writer) by w

-- the write, unless a greater id wrote before
abbrev pub key_written : Keys → List ℕ → OpId → Value → Keys
key_written m key id value = cond (writer_is_before (get m key) id) (insert m key (record { writer = id; value = value })) m

-- ---- tables of tables

-- the entries of a node, each with the node
abbrev pub tagged : OpId → List (List ℕ × Written) → List (Register × Written)
tagged node es = map (λ e. ((node, e.0), e.1)) es

abbrev pub table_list : List (OpId × Keys) → List (Register × Written)
table_list [] = []
table_list (e ∷ es) = tagged e.0 (entries e.1) ++ table_list es

abbrev pub table_of : List (OpId × Keys) → Table
table_of es = from_entries (table_list es)

-- the rows of a node
abbrev pub node_rows : OpId → List (Register × Written) → List (Register × Written)
node_rows node es = filter (λ e. id_eq e.0.0 node) es
