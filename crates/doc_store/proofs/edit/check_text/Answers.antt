use Rattle.std.proofs.Common.{ℕ, subst}
use Rattle.std.proofs.lemmas.Iterator.{YieldsList-from_chars}
use Rattle.std.proofs.lemmas.Iterator.Consumers.{count_from_yields_List}
use Rattle.doc_store.specs.Edits.{Checks, wrong_count}
use Rattle.doc_store.proofs.edit.check_text.Goals as goal

pub returns : goal.returns
returns c =
    subst (λ (n : ℕ). Checks (wrong_count n) c.check_count.result)
    (count_from_yields_List c.chars.result c.count.result c.count.ensures.ran (YieldsList-from_chars c.args.text.now c.utf8.text c.chars.ensures.rest)) c.check_count.ensures
