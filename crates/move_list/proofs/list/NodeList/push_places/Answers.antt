use Rattle.std.proofs.Common.{◌∙◌, ap, sym, ◌++◌}
use Rattle.std.proofs.lemmas.List.{map-append}
use Rattle.model.specs.Walk.{Rows}
use Rattle.move_list.specs.Kept.{NodeRows, tagged}
use Rattle.move_list.specs.Lists.{place_entry, place_entries}
use Rattle.move_list.proofs.NodeLaws.{placed_rows}
use Rattle.move_list.proofs.list.NodeList.push_places.Goals as goal

pub returns : goal.returns
returns c =
    let old = c.args.rows.now.items in
    let tree = c.self.inside.positions in
    ap place_entries (c.in_ok-extend_from_slice.ensures.items ∙ ap (λ rs. old ++ rs) (c.as_slice.ensures.value ∙ c.in_ok-places.ensures.rows))
    ∙ map-append place_entry old _
    ∙ ap (λ es. place_entries old ++ es) (placed_rows tree.owner tree.rows)
    ∙ ap (λ (l : NodeRows). place_entries old ++ tagged l.owner l.positions) c.self.view_is
