use Rattle.std.proofs.Common.{◌≡◌, ◌∙◌, ap, sym, subst, true, List, [], ◌∷◌}
use Rattle.std.specs.List.{AllByRecursion}
use Rattle.std.specs.List.Sorted.{IsStrictlySortedBy}
use Rattle.std.specs.FinMap.{entries, entries_sorted, from_entries, get-entries, get-from_entries, is_sorted, same_map}
use Rattle.std.specs.FinMap.Entries.{below_all}
use Rattle.std.specs.declared.cmp.Ordering.TheVariants.{Less}
use Rattle.op_ids.proofs.OrderLaws.{less_from_is_lt}
use Rattle.model.specs.BaseItem.{keys}
use Rattle.model.specs.State.{Character, RowKey, row_cmp}
use Rattle.model_laws.proofs.Tables.{row_total, row_exact}
use Rattle.walk_laws.proofs.Walks.{both}
use Rattle.walk_laws.proofs.InsertionLaws.{T_true}
use Rattle.fugue_text.specs.Texts.{AreTexts, Table, text_entries}
use Rattle.fugue_text.proofs.tests.copy_of.Goals as goal

keys_below : (k : RowKey) (es : List (RowKey × Character)) → below_all row_cmp k es ≡ true → AllByRecursion (λ y. row_cmp k y ≡ Less) (keys es)
keys_below k [] h = tt
keys_below k (e ∷ es) h = (let b = both _ _ h in (less_from_is_lt (row_cmp k e.0) b.0, keys_below k es b.1))

keys_rise : (es : List (RowKey × Character)) → is_sorted row_cmp es ≡ true → IsStrictlySortedBy row_cmp (keys es)
unfolding IsStrictlySortedBy
keys_rise [] h = tt
keys_rise (e ∷ es) h = (let b = both _ _ h in (keys_below e.0 es b.0, keys_rise es b.1))

same_table : (t : Table) → from_entries (entries t) ≡ t
same_table t = same_map row_total row_exact _ _ (λ q. get-from_entries row_total (entries t) q ∙ sym (get-entries t q))

pub from_rows-requires-clause-rise : goal.from_rows-requires-clause-rise
from_rows-requires-clause-rise c =
    let t = c.args.texts.now in
    let rows = ap text_entries c.as_slice.ensures.value ∙ c.in_ok-rows.ensures.rows in
    subst (λ es. IsStrictlySortedBy row_cmp (keys es)) (sym rows) (keys_rise (entries t) (T_true _ (entries_sorted t)))

pub from_rows-requires-clause-texts : goal.from_rows-requires-clause-texts
from_rows-requires-clause-texts c =
    let t = c.args.texts.now in
    let rows = ap text_entries c.as_slice.ensures.value ∙ c.in_ok-rows.ensures.rows in
    subst AreTexts (sym (ap (λ es. from_entries es) rows ∙ same_table t)) c.in_ok-rows.ensures.texts
