use Rattle.std.proofs.Common.{◌∙◌, ap, sym, take, map, get_or}
use Rattle.std.specs.Prelude.{Some}
use Rattle.std.specs.FinMap as fin
use Rattle.std.specs.FinSet as set
use Rattle.op_ids.specs.Order.{id_cmp}
use Rattle.tree_move.specs.declared.places.Place as code
use Rattle.tree_move.specs.Parents.{place_of, entry_of}
use Rattle.tree_move.proofs.PlaceLaws.{places_written, admitted_written}
use Rattle.tree_move.proofs.SlotLaws.{row_taken, id_taken, no_row}
use Rattle.tree_move.proofs.parents.slots_of.Goals as goal

pub loop-row-preserved : goal.loop-row-preserved
loop-row-preserved c =
    let rows = c.args.rows.now in
    let i = c.loop-row.row-index in
    let old = c.loop-row.slots.entries in
    let row = get_or rows i no_row in
    let before = fin.from_entries {R = id_cmp} (map entry_of (take i rows)) in
    let new = c.insert.new.self.entries in
    let updates = c.in_ok-insert.ensures.updates.0 in
    record {
      places = places_written old new _ (Some c.place.result) updates
          ∙ ap (λ m. fin.insert m row.id (place_of c.place.result)) c.loop-row.invariant.places
          ∙ ap (λ (p : code.Place). fin.insert before row.id (place_of p)) c.place.ensures
          ∙ sym (row_taken rows i no_row c.loop-row-test.true c.requires.rising);
      admitted = admitted_written old new _ (Some c.place.result) updates
          ∙ ap (λ s. set.insert s row.id) c.loop-row.invariant.admitted
          ∙ sym (id_taken rows i no_row c.loop-row-test.true);
    }
