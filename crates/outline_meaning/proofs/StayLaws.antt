-- A file with the empty base has it still after what its members make and what is delivered to it.
use Rattle.std.proofs.Common.{◌≡◌, Some, Ok, sym, subst, ◌∙◌}
use Rattle.std.proofs.lemmas.Option.{same_Some}
use Rattle.model.specs.Edit.{Edit}
use Rattle.model.specs.File.{File}
use Rattle.model.specs.Reading.{settled_in, with_changes, with_settled}
use Rattle.replica.specs.Scanning.{HasEmptyBase}
use Rattle.outline_meaning.specs.Outcome.{Outcome, edited, acknowledged, delivered}
use Rattle.outline_meaning.proofs.LedgerMeaning.{edit_done, acks_done, deliver_done}

stays : (g made : File) (o : Outcome) → o.stored ≡ Some made → o.stored ≡ Some g → HasEmptyBase made → HasEmptyBase g
stays g made o is stored base = subst HasEmptyBase (same_Some made g (sym is ∙ stored)) base

pub edited_stays : (f g : File) (e : Edit) (o : Outcome) → HasEmptyBase f → edited e f ≡ Ok o → o.stored ≡ Some g → HasEmptyBase g
edited_stays f g e o base is stored =
    let (cs, made, stores) = edit_done f e o (sym is) in
    stays g (with_changes f cs) o stores stored base

pub acknowledged_stays : (f g : File) (o : Outcome) → HasEmptyBase f → acknowledged f ≡ Ok o → o.stored ≡ Some g → HasEmptyBase g
acknowledged_stays f g o base is stored =
    let (cs, made, stores) = acks_done f o (sym is) in
    stays g (with_changes f cs) o stores stored base

pub delivered_stays : (f offered g : File) (o : Outcome) → HasEmptyBase f → delivered f offered ≡ Ok o → o.stored ≡ Some g → HasEmptyBase g
delivered_stays f offered g o base is stored =
    let (u, same, stores) = deliver_done f offered o (sym is) in
    stays g (with_settled f (settled_in f offered.kept)) o stores stored base
