use Rattle.std.proofs.Common.{◌≡◌, ◌∙◌, ap, sym, refl, is_some, ℕ, List}
use Rattle.std.proofs.lemmas.Result.{on_ok_weaker, on_err_weaker}
use Rattle.std.specs.Map.{lookup}
use Rattle.std.specs.BTreeMap.{BTreeMap}
use Rattle.std.specs.FinMap as fin
use Rattle.model.specs.Operation.{put_key}
use Rattle.model.specs.State.{Written}
use Rattle.model_laws.specs.Arrival.{late_register}
use Rattle.op_grammar.specs.Values.{value_of}
use Rattle.lww_map.specs.Keys.{Table, Keys, table_of}
use Rattle.lww_map.proofs.TableLaws.{table_late, table_same, joined, key_cmp, tied}
use Rattle.lww_map.proofs.registers.Registers.write.Goals as goal

pub returns-in-Some-clause-ok : goal.returns-in-Some-clause-ok
returns-in-Some-clause-ok c =
    let node = c.args.node in
    let key = c.args.key.now in
    let value = value_of c.args.value in
    let w : Written = record { writer = c.args.id; value = value } in
    let t = c.write.new.self in
    let fs = (c.get_mut.follows.lender t).entries in
    let held = c.get_mut.follows.holds t in
    let was : (l : List ℕ) → fin.get c.in-Some.keys.now l ≡ joined _ l = λ l. ap (λ o. joined o l) c.in-Some.ensures.value in
    on_ok_weaker c.write.result
    (λ e. table_late c.self.inside.nodes.entries fs c.get_mut.ensures.ordered held.4 node t (held.3 (ap is_some (sym c.in-Some.ensures.value))).0 c.in-Some.keys.now key w was c.args.id value refl e
    ∙ ap (λ (m : Table). late_register m c.args.id (put_key node key value)) c.self.view_is)
    c.write.ensures.ok

pub returns-in-Some-clause-err : goal.returns-in-Some-clause-err
returns-in-Some-clause-err c =
    let t = c.write.new.self in
    let fs = (c.get_mut.follows.lender t).entries in
    let held = c.get_mut.follows.holds t in
    on_err_weaker c.write.result
    (λ e. table_same c.self.inside.nodes.entries fs c.get_mut.ensures.ordered held.4 c.args.node t (held.3 (ap is_some (sym c.in-Some.ensures.value))).0
    (λ l. ap (λ (m : Keys). fin.get m l) e ∙ ap (λ o. joined o l) c.in-Some.ensures.value)
    ∙ c.self.view_is)
    c.write.ensures.err

pub returns-clause-ok : goal.returns-clause-ok
returns-clause-ok c =
    let node = c.args.node in
    let key = c.args.key.now in
    let value = value_of c.args.value in
    let w : Written = record { writer = c.args.id; value = value } in
    let t = c.write-2.new.self in
    let old = c.get_mut.follows.lender-at-none in
    let same : old ≡ c.self.inside.nodes = c.get_mut.follows.holds-at-none in
    let was : (l : List ℕ) → fin.get c.new-keys.result l ≡ joined _ l = λ l. ap (λ (m : Keys). fin.get m l) c.new-keys.ensures ∙ fin.get-empty key_cmp l ∙ ap (λ o. joined o l) (c.in_default.ensures.value ∙ ap (λ (n : BTreeMap _ Keys). lookup (tied node) n.entries) (sym same)) in
    table_late old.entries c.insert.new.self.entries c.in_ok-insert.ensures.was_ordered c.in_ok-insert.ensures.ordered node t c.in_ok-insert.ensures.updates.0 c.new-keys.result key w was c.args.id value refl c.in_ok-write.ensures.ok
    ∙ ap (λ (n : BTreeMap _ Keys). late_register (table_of n.entries) c.args.id (put_key node key value)) same
    ∙ ap (λ (m : Table). late_register m c.args.id (put_key node key value)) c.self.view_is
