use Rattle.std.proofs.Common.{◌∙◌, ap}
use Rattle.std.specs.List.{list_any}
use Rattle.tree_log.specs.Open.{Open, makes}
use Rattle.tree_log.proofs.OpenLaws.{made_by, made_at}
use Rattle.tree_log.proofs.open.OpenLog.is_made.Goals as goal

pub returns-in-Some : goal.returns-in-Some
returns-in-Some c =
    c.eq.ensures ∙ ap (made_by c.args.node) c.in-Some.ensures.value ∙ made_at c.args.node c.self.inside.late.entries c.self.invariant.at_ids c.self.invariant.rises
    ∙ ap (λ (o : Open). list_any (makes c.args.node) o.late) c.self.view_is

pub returns-in-None : goal.returns-in-None
returns-in-None c =
    ap (made_by c.args.node) c.in-None.ensures.value ∙ made_at c.args.node c.self.inside.late.entries c.self.invariant.at_ids c.self.invariant.rises
    ∙ ap (λ (o : Open). list_any (makes c.args.node) o.late) c.self.view_is
