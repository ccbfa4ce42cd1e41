use Rattle.op_grammar.proofs.check.read_change.Goals as goal

pub returns : goal.returns
returns c = λ x h e. c.check_body.ensures x (c.in_ok-said.ensures x h e)
