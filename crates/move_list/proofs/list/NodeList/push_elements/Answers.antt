use Rattle.std.proofs.Common.{◌≡◌, ◌∙◌, ap, sym, subst, ◌++◌, List, OnOk}
use Rattle.std.specs.FinMap as fin
use Rattle.op_ids.specs.declared.OpId.{OpId}
use Rattle.model.specs.State.{Element}
use Rattle.move_list.specs.Kept.{NodeRows, tagged}
use Rattle.move_list.specs.Lists.{element_entries}
use Rattle.move_list.proofs.ItemLaws.{entries_items}
use Rattle.move_list.proofs.list.NodeList.push_elements.Goals as goal

pub returns : goal.returns
returns c =
    let e = sym (entries_items c.self.inside.items.entries c.push_all.ensures.ordered) ∙ ap (λ (l : NodeRows). fin.entries l.elements) c.self.view_is in
    subst (λ (es : List (OpId × Element)). OnOk c.push_all.result (element_entries c.push_all.new.rows.items ≡ element_entries c.args.rows.now.items ++ tagged c.args.node es)) e c.push_all.ensures.pushed
