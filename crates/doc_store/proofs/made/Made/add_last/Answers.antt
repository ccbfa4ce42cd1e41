use Rattle.std.proofs.Common.{sym, subst}
use Rattle.std.specs.Prelude.{OnOk}
use Rattle.doc_store.specs.References.{AddsLast}
use Rattle.doc_store.proofs.made.Made.add_last.Goals as goal

pub returns-in-Some : goal.returns-in-Some
returns-in-Some c = subst (λ l. OnOk c.add.result (AddsLast c.args.self.now l c.add.new.self)) (sym c.in-Some.is) c.add.ensures
