use Rattle.std.proofs.Common.{◌∙◌, List, ap, sym, subst, map}
use Rattle.std.specs.List.Sorted.{IsStrictlySortedBy}
use Rattle.std.specs.FinMap.{entries, entries_sorted}
use Rattle.model.specs.State.{Register, register_cmp, Written}
use Rattle.lww_map.specs.Keys.{rows_seen}
use Rattle.lww_map.proofs.TableLaws.{strictly}
use Rattle.lww_map.proofs.tests.copy_of.Goals as goal

pub from_rows-requires : goal.from_rows-requires
from_rows-requires c =
    let registers = c.args.registers.now in
    subst (λ (es : List (Register × Written)). IsStrictlySortedBy register_cmp (map (λ e. e.0) es)) (sym (ap rows_seen c.as_slice.ensures.value ∙ c.in_ok-rows.ensures))
    (strictly register_cmp (entries registers) (entries_sorted registers))
