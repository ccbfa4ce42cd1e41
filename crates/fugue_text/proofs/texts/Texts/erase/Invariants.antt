use Rattle.std.proofs.Common.{◌≡◌, fold}
use Rattle.model.specs.State.{edit_row, killed, run_of}
use Rattle.fugue_text.proofs.texts.Texts.erase.Given as goal

abbrev pub invariant-loop-k : goal.invariant-loop-k
invariant-loop-k l = l.self ≡ fold (λ rows k. edit_row rows (l.fn.node, k) killed) l.initial.self (run_of l.fn.first l.k)
