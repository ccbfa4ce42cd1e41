use Rattle.std.proofs.Common.{◌≡◌, ◌∙◌, ap, sym, false, None}
use Rattle.std.specs.FinMap as fin
use Rattle.std.proofs.lemmas.Result.{on_ok_weaker, on_err_weaker}
use Rattle.op_grammar.specs.Values.{value_of}
use Rattle.model.specs.Operation.{Anchor}
use Rattle.model.specs.State.{Element}
use Rattle.walk_laws.specs.Insertion.{is_row}
use Rattle.move_list.specs.Items.{items_of, seen, added}
use Rattle.move_list.specs.Kept.{NodeRows}
use Rattle.move_list.proofs.ItemLaws.{removed_again}
use Rattle.move_list.proofs.PlaceLaws.{Elements, from_ok, from_err, same_rows, same_items, added_rows}
use Rattle.move_list.proofs.list.NodeList.add.Goals as goal

pub invariant_of-self-then-is_err : goal.invariant_of-self-then-is_err
invariant_of-self-then-is_err c =
    let p = c.self.inside.positions.rows in
    let m = items_of c.self.inside.items.entries in
    let n = items_of c.take.new.items.entries in
    let none : fin.get m c.args.id ≡ None = ap (λ (l : NodeRows). fin.get l.elements c.args.id) c.self.view_is ∙ c.requires.new_element in
    let back : n ≡ m = c.take.ensures ∙ ap (λ (x : Elements). fin.remove x c.args.id) c.in_ok-put.ensures.ok ∙ removed_again m c.args.id (seen c.in_ok-new.new) none in
    let same = from_err c.add-placed.result (sym c.is_err.ensures.value ∙ c.if-is_err.true) c.add-placed.ensures.err in
    record {
      tree = c.add-placed.ensures.tree;
      items = same_items c.add-placed.new.self.rows m (same_rows p m c.self.invariant.items c.add-placed.new.self.rows same) n back;
    }

pub invariant_of-self-else-is_err : goal.invariant_of-self-else-is_err
invariant_of-self-else-is_err c =
    let p = c.self.inside.positions.rows in
    let m = items_of c.self.inside.items.entries in
    let a : Anchor = record { on = c.args.anchor; side = c.args.side } in
    let fresh : is_row p c.args.id ≡ false = ap (λ (l : NodeRows). is_row l.positions c.args.id) c.self.view_is ∙ c.requires.new_position in
    let now = from_ok c.add-placed.result (sym c.is_err.ensures.value ∙ c.if-is_err.false) c.add-placed.ensures.ok in
    record {
      tree = c.add-placed.ensures.tree;
      items = added_rows p m c.self.invariant.items c.add-placed.new.self.rows (items_of c.put.new.items.entries) c.args.id a (value_of c.args.value) fresh now (c.in_ok-put.ensures.ok ∙ ap (fin.insert m c.args.id) c.in_ok-new.ensures);
    }

pub returns-then-is_err-clause-err : goal.returns-then-is_err-clause-err
returns-then-is_err-clause-err c =
    let m = items_of c.self.inside.items.entries in
    let none : fin.get m c.args.id ≡ None = ap (λ (l : NodeRows). fin.get l.elements c.args.id) c.self.view_is ∙ c.requires.new_element in
    let back : items_of c.take.new.items.entries ≡ m = c.take.ensures ∙ ap (λ (x : Elements). fin.remove x c.args.id) c.in_ok-put.ensures.ok ∙ removed_again m c.args.id (seen c.in_ok-new.new) none in
    on_err_weaker c.add-placed.result (λ same. (λ i. record { owner = c.add-placed.ensures.owner i; positions = same i; elements = back i }) ∙ c.self.view_is) c.add-placed.ensures.err

pub returns-else-is_err-clause-list : goal.returns-else-is_err-clause-list
returns-else-is_err-clause-list c =
    let p = c.self.inside.positions.rows in
    let m = items_of c.self.inside.items.entries in
    let a : Anchor = record { on = c.args.anchor; side = c.args.side } in
    let fresh : is_row p c.args.id ≡ false = ap (λ (l : NodeRows). is_row l.positions c.args.id) c.self.view_is ∙ c.requires.new_position in
    on_ok_weaker c.add-placed.result (λ now. record {
      tree = c.add-placed.ensures.tree;
      items = added_rows p m c.self.invariant.items c.add-placed.new.self.rows (items_of c.put.new.items.entries) c.args.id a (value_of c.args.value) fresh now (c.in_ok-put.ensures.ok ∙ ap (fin.insert m c.args.id) c.in_ok-new.ensures);
    }) c.add-placed.ensures.ok
