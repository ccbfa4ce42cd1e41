use Rattle.std.proofs.Common.{not, rules}
use Rattle.std.proofs.lemmas.Fn.{filter_same}
use Rattle.op_ids.specs.Order.{id_eq}
use Rattle.doc_store.proofs.plan.others_of.Goals as goal

pub returns : goal.returns
returns c = filter_same _ (λ x. not (id_eq x c.args.child)) _ (λ x b f' k. search rules) _ _ c.retain.ensures.filtered
