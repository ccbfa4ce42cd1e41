use Rattle.std.proofs.Common.{true, false, sym, ◌∙◌}
use Rattle.outline_cmd.proofs.OpenLaws.{kind_is, kind_among}
use Rattle.outline_cmd.proofs.opened.check_kind.Goals as goal

pub returns-then-contains : goal.returns-then-contains
returns-then-contains c = λ f taken is are.
    sym (kind_is c.args.word c.args.kind f taken true is (kind_among c.args.kind c.args.kinds.now f taken true is are (sym c.if-contains.true ∙ c.contains.ensures.value)))

pub returns-else-contains : goal.returns-else-contains
returns-else-contains c = λ f taken is are.
    sym (kind_is c.args.word c.args.kind f taken false is (kind_among c.args.kind c.args.kinds.now f taken false is are (sym c.if-contains.false ∙ c.contains.ensures.value)))
