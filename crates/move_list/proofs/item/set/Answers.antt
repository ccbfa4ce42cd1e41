use Rattle.std.proofs.Common.{◌∙◌, ap, sym, is_some}
use Rattle.std.proofs.lemmas.Result.{on_ok_weaker, on_err_weaker}
use Rattle.std.specs.BTreeMap.{BTreeMap}
use Rattle.model_laws.specs.Arrival.{set_late}
use Rattle.op_grammar.specs.Values.{value_of}
use Rattle.move_list.specs.Items.{items_of}
use Rattle.move_list.specs.declared.item.Item.{Item}
use Rattle.move_list.proofs.ItemLaws.{items_edited, items_same, items_missing}
use Rattle.move_list.proofs.item.set.Goals as goal

pub returns-in-Some-clause-ok : goal.returns-in-Some-clause-ok
returns-in-Some-clause-ok c =
    let t = c.set.new.self in
    let held = c.get_mut.follows.holds t in
    on_ok_weaker c.set.result
    (items_edited c.args.items.now.entries (c.get_mut.follows.lender t).entries c.args.element c.in-Some.item.now t (sym c.in-Some.ensures.value) (held.3 (ap is_some (sym c.in-Some.ensures.value))).0 (set_late c.args.id (value_of c.args.value)))
    c.set.ensures.ok

pub returns-in-Some-clause-err : goal.returns-in-Some-clause-err
returns-in-Some-clause-err c =
    let t = c.set.new.self in
    let held = c.get_mut.follows.holds t in
    on_err_weaker c.set.result
    (items_same c.args.items.now.entries (c.get_mut.follows.lender t).entries c.args.element c.in-Some.item.now t (sym c.in-Some.ensures.value) (held.3 (ap is_some (sym c.in-Some.ensures.value))).0)
    c.set.ensures.err

pub returns-in-None-clause-ok : goal.returns-in-None-clause-ok
returns-in-None-clause-ok c =
    let same = c.get_mut.follows.holds-at-none in
    ap (λ (m : BTreeMap _ Item). items_of m.entries) same
    ∙ items_missing c.args.items.now.entries c.args.element (set_late c.args.id (value_of c.args.value)) (sym c.in-None.ensures.value)
