use Rattle.doc_store.proofs.FreshLaws as laws
use Rattle.doc_store.proofs.laws.fresh_ids_have_no_row.Goals as goal

pub returns : goal.returns
returns c = laws.fresh_ids_have_no_row
