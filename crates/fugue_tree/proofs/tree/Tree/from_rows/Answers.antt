use Rattle.std.proofs.Common.{◌∙◌, ap, sym, subst, get_or}
use Rattle.walk_laws.specs.Insertion.{is_row, HangsWell, with_row}
use Rattle.fugue_tree.specs.Tree.{entry_of}
use Rattle.fugue_tree.proofs.RowLaws.{next_at, rows_more, no_row}
use Rattle.fugue_tree.proofs.tree.Tree.from_rows.Goals as goal

pub add-requires-clause-fresh : goal.add-requires-clause-fresh
add-requires-clause-fresh c =
    ap (λ rows. is_row rows (get_or c.args.rows.now c.loop-row.row-index no_row).id) c.loop-row.invariant.1 ∙ (next_at c.args.rows.now c.loop-row.row-index no_row c.requires c.loop-row-test.true).fresh

pub add-requires-clause-no_head : goal.add-requires-clause-no_head
add-requires-clause-no_head c = (next_at c.args.rows.now c.loop-row.row-index no_row c.requires c.loop-row-test.true).no_head

pub add-requires-clause-hangs : goal.add-requires-clause-hangs
add-requires-clause-hangs c =
    let e = entry_of (get_or c.args.rows.now c.loop-row.row-index no_row) in
    subst (λ rows. HangsWell rows e.0 e.1) (sym c.loop-row.invariant.1) (next_at c.args.rows.now c.loop-row.row-index no_row c.requires c.loop-row-test.true).hangs

pub loop-row-preserved : goal.loop-row-preserved
loop-row-preserved c =
    let e = entry_of (get_or c.args.rows.now c.loop-row.row-index no_row) in (
      c.in_ok-add.ensures.owner ∙ c.loop-row.invariant.0,
      c.in_ok-add.ensures.ok ∙ ap (λ rows. with_row rows e.0 e.1) c.loop-row.invariant.1 ∙ (next_at c.args.rows.now c.loop-row.row-index no_row c.requires c.loop-row-test.true).now
          ∙ sym (rows_more c.args.rows.now c.loop-row.row-index no_row c.loop-row-test.true),
    )
