use Rattle.std.proofs.Common.{◌≡◌, is_some, ap, sym, ◌∙◌}
use Rattle.std.specs.BTreeMap.{BTreeMap, get_by}
use Rattle.op_grammar.specs.Values.{value_of}
use Rattle.lww_map.specs.Keys.{Keys, prefix_cmp, keys_of, key_written}
use Rattle.lww_map.specs.declared.prefix_key.PrefixKey.{PrefixKey}
use Rattle.lww_map.specs.declared.keys.Written as code
use Rattle.lww_map.proofs.KeyEntries.{keys_over, keys_new}
use Rattle.lww_map.proofs.keys.NodeKeys.write.Goals as goal

pub returns-in-Some-clause-ok : goal.returns-in-Some-clause-ok
returns-in-Some-clause-ok c =
    let by : code.Written = record { writer = c.args.id; value = c.args.value } in
    let w = c.overwrite.new.self in
    let held = c.get_mut.follows.holds w in
    keys_over c.args.key.now c.of-key.result c.of-key.ensures w c.self.inside.keys (c.get_mut.follows.lender w) (held.3 (ap is_some (sym c.in-Some.ensures.value)))
    c.in-Some.last.now by (sym c.in-Some.ensures.value) c.overwrite.ensures
    ∙ ap (λ (m : Keys). key_written m c.args.key.now c.args.id (value_of c.args.value)) c.self.view_is

pub returns-clause-ok : goal.returns-clause-ok
returns-clause-ok c =
    let key = c.args.key.now in
    let value = value_of c.args.value in
    let w : code.Written = record { writer = c.args.id; value = c.args.value } in
    let old = c.get_mut.follows.lender-at-none in
    let same : old ≡ c.self.inside.keys = c.get_mut.follows.holds-at-none in
    let none = ap (λ (m : BTreeMap PrefixKey code.Written). get_by (prefix_cmp c.of-key.result) m) same ∙ sym c.in_default.ensures.value in
    keys_new key c.of-key.result c.of-key.ensures w old c.insert.new.self c.in_ok-insert.ensures.updates none
    ∙ ap (λ (m : BTreeMap PrefixKey code.Written). key_written (keys_of m.entries) key c.args.id value) same
    ∙ ap (λ (m : Keys). key_written m key c.args.id value) c.self.view_is
