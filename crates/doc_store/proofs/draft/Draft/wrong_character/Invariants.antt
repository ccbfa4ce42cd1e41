use Rattle.model.specs.State.{State}
use Rattle.doc_store.specs.Kept.{document_of, state_of}
use Rattle.doc_store.specs.References.{HasMade}
use Rattle.doc_store.proofs.ReferenceLaws.{StillWrong}
use Rattle.doc_store.proofs.draft.Draft.wrong_character.Given as goal

abbrev pub invariant-loop-k : goal.invariant-loop-k
invariant-loop-k l = (u : State) → HasMade (state_of (document_of l.self)) l.made u → StillWrong u l.id l.node l.first l.count l.k
