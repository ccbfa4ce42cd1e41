use Rattle.std.proofs.Common.{◌≡◌, ◌∙◌, ap, sym, subst, List}
use Rattle.std.specs.List.Sorted.{IsStrictlySortedBy}
use Rattle.std.specs.FinMap.{FinMap, entries, from_entries, get-entries, get-from_entries, same_map}
use Rattle.model.specs.BaseItem.{keys}
use Rattle.model.specs.Operation.{Anchor}
use Rattle.model.specs.State.{Element, RowKey, row_cmp}
use Rattle.model_laws.proofs.Tables.{keys_rise, row_exact, row_total}
use Rattle.move_list.specs.Lists.{AreLists, place_entries, element_entries, tables_of_rows}
use Rattle.move_list.proofs.tests.copy_of.Goals as goal

come_back : {X : Type 0} (m : FinMap row_cmp X) → from_entries (entries m) ≡ m
come_back m = same_map row_total row_exact _ _ (λ q. get-from_entries row_total (entries m) q ∙ sym (get-entries m q))

pub from_rows-requires-clause-positions_rise : goal.from_rows-requires-clause-positions_rise
from_rows-requires-clause-positions_rise c =
    subst (λ (es : List (RowKey × Anchor)). IsStrictlySortedBy row_cmp (keys es)) (sym (ap place_entries c.as_slice.ensures.value ∙ c.in_ok-positions.ensures.rows))
    (keys_rise row_cmp c.args.lists.now.positions)

pub from_rows-requires-clause-elements_rise : goal.from_rows-requires-clause-elements_rise
from_rows-requires-clause-elements_rise c =
    subst (λ (es : List (RowKey × Element)). IsStrictlySortedBy row_cmp (keys es)) (sym (ap element_entries c.as_slice-2.ensures.value ∙ c.in_ok-elements.ensures.rows))
    (keys_rise row_cmp c.args.lists.now.elements)

pub from_rows-requires-clause-lists : goal.from_rows-requires-clause-lists
from_rows-requires-clause-lists c =
    let tables = c.args.lists.now in
    let positions = ap place_entries c.as_slice.ensures.value ∙ c.in_ok-positions.ensures.rows in
    let elements = ap element_entries c.as_slice-2.ensures.value ∙ c.in_ok-elements.ensures.rows in
    let same : tables_of_rows c.as_slice.result.now c.as_slice-2.result.now ≡ tables =
    λ j. record {
      positions = (ap (from_entries {R = row_cmp}) positions ∙ come_back tables.positions) j;
      elements = (ap (from_entries {R = row_cmp}) elements ∙ come_back tables.elements) j;
    } in
    subst AreLists (sym same) c.in_ok-positions.ensures.lists
