use Rattle.std.proofs.Common.{◌≡◌, ◌∙◌, ap, sym, subst, Option, Some, None}
use Rattle.std.specs.Option.{option_map_or}
use Rattle.std.specs.Map.{lookup}
use Rattle.op_ids.specs.declared.OpId.{OpId}
use Rattle.op_ids.specs.Order.{root_id}
use Rattle.model.specs.Edit.{element_position}
use Rattle.model.specs.State.{Element, has_anchor}
use Rattle.walk_laws.proofs.Walks.{key_eq}
use Rattle.move_list.specs.Lists.{AreLists, ListTables, document_of}
use Rattle.move_list.proofs.NodeLaws as laws
use Rattle.move_list.proofs.lists.Lists.position_of.Goals as goal

abbrev position : Option Element → OpId
position o = option_map_or (λ e. e.position) o root_id

pub returns-in-Some-clause-position : goal.returns-in-Some-clause-position
returns-in-Some-clause-position c =
    let es = c.self.inside.nodes.entries in
    let n = c.args.node in
    let l = c.in-Some.list.now in
    let there : lookup (key_eq n) es ≡ Some l = sym c.in-Some.ensures.value in
    c.position_of.ensures ∙ ap position (sym ((laws.has_found es c.len.ensures.ordered n l there).items c.args.element))
    ∙ ap (λ (t : ListTables). element_position (document_of t) n c.args.element) c.self.view_is

pub returns-in-Some-clause-there : goal.returns-in-Some-clause-there
returns-in-Some-clause-there c =
    let es = c.self.inside.nodes.entries in
    let n = c.args.node in
    let l = c.in-Some.list.now in
    let there : lookup (key_eq n) es ≡ Some l = sym c.in-Some.ensures.value in
    let same : c.position_of.result ≡ element_position (document_of c.args.self.now) n c.args.element =
    c.position_of.ensures ∙ ap position (sym ((laws.has_found es c.len.ensures.ordered n l there).items c.args.element))
    ∙ ap (λ (t : ListTables). element_position (document_of t) n c.args.element) c.self.view_is in
    let lists = subst AreLists c.self.view_is (laws.lists_are es c.len.ensures.ordered c.self.invariant) in
    ap (has_anchor c.args.self.now.positions n) same ∙ laws.element_anchored c.args.self.now n c.args.element lists

pub returns-in-None-clause-position : goal.returns-in-None-clause-position
returns-in-None-clause-position c =
    let es = c.self.inside.nodes.entries in
    let n = c.args.node in
    let none : lookup (key_eq n) es ≡ None = sym c.in-None.ensures.value in
    ap position (sym (laws.no_item es c.len.ensures.ordered n c.args.element none))
    ∙ ap (λ (t : ListTables). element_position (document_of t) n c.args.element) c.self.view_is
