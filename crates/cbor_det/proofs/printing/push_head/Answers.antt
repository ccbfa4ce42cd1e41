use Rattle.std.proofs.Common.{◌++◌, ap, ◌∙◌}
use Rattle.std.specs.Option.{option_to_list}
use Rattle.cbor_det.specs.Slices.{seen_stop, seen_token}
use Rattle.cbor_det.proofs.PrintingLaws.{head_stands, begun}
use Rattle.cbor_det.proofs.printing.push_head.Goals as goal

pub unreachable-requires : goal.unreachable-requires
unreachable-requires c = head_stands c.args.bytes.now (seen_stop c.in_default.field-0) c.requires c.in_default.ensures.exact

pub returns-clause-goes_on : goal.returns-clause-goes_on
returns-clause-goes_on c = λ whole more w.
    begun whole more _ _ c.args.bytes.now c.in-Ok.rest.now _ _ (seen_token c.in-Ok.token) w c.in-Ok.ensures.exact
    (c.in_ok-keep.ensures.kept ∙ ap (λ t. c.args.tasks.now.items ++ option_to_list t) c.in_ok-task.ensures.0)
    c.in_ok-task.ensures.1
