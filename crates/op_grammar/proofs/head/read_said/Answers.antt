use Rattle.std.proofs.Common.{[], ap, sym, ◌∙◌}
use Rattle.std.proofs.lemmas.List.{append-nil}
use Rattle.cbor_det.specs.Item.{spell}
use Rattle.cbor_det.specs.Unread.{Unread}
use Rattle.op_grammar.proofs.HeadLaws.{breaks_G1}
use Rattle.op_grammar.proofs.head.read_said.Goals as goal

pub returns-in-Some : goal.returns-in-Some
returns-in-Some c = λ x h e. c.check_head.ensures x (c.in-Some.ensures.item x [] h.0 (ap (λ (u : Unread). u.rest) c.new-cursor.ensures ∙ e ∙ sym (append-nil (spell x))))

pub returns-in-None : goal.returns-in-None
returns-in-None c = λ x h e. breaks_G1 c.args.n x (c.in-None.ensures.item x [] h.0 (ap (λ (u : Unread). u.rest) c.new-cursor.ensures ∙ e ∙ sym (append-nil (spell x))))
