use Rattle.std.proofs.Common.{◌≡◌, ◌++◌, drop, List}
use Rattle.op_ids.specs.declared.OpId.{OpId}
use Rattle.op_ids.specs.Order.{id_plus}
use Rattle.fugue_text.specs.Pieces.{alive_ids, still_in}
use Rattle.fugue_text.proofs.pieces.Window.read.Given as goal

abbrev pub invariant-loop-letter : goal.invariant-loop-letter
invariant-loop-letter l = record {
  count : l.count ≡ l.letter-index;
  reads : (rest : List OpId) → still_in l.self (alive_ids (id_plus l.fn.first l.letter-index) (drop l.letter-index l.letters) ++ rest) ≡ still_in l.fn.self (alive_ids l.fn.first l.letters ++ rest);
}
