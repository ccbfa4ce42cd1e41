use Rattle.std.proofs.Common.{◌≡◌, drop}
use Rattle.doc_store.proofs.PlanLaws.{GoesOn}
use Rattle.doc_store.proofs.plan_text.followers.Given as goal

abbrev pub invariant-loop-id : goal.invariant-loop-id
invariant-loop-id l = record {
  count : l.count ≡ l.id-index;
  goes_on : GoesOn l.fn.first l.ids l.id-index l.last (drop l.id-index l.ids);
}
