use Rattle.std.proofs.Common.{ap, ◌∙◌, arith, min, take, get_or}
use Rattle.std.specs.Prelude.{fold}
use Rattle.std.proofs.lemmas.List.{length-map, take_all}
use Rattle.model.specs.Base.{MemberRow}
use Rattle.stability.proofs.HorizonLaws.{lasts, lowest_is_least, lowest_more, none_passed}
use Rattle.stability.proofs.horizon.Horizon.of.Goals as goal

pub loop-member-preserved : goal.loop-member-preserved
loop-member-preserved c =
    let rows = c.args.fronts.now in
    let ts = lasts rows in
    let k = c.loop-member.member in
    let many = length-map rows (λ (r : MemberRow). r.last) in
    c.min-time.ensures ∙ ap (λ t. min t c.last.result) c.loop-member.invariant ∙ ap (min (fold min (get_or ts 0 0) (take k ts))) c.last.ensures
    ∙ lowest_more (get_or ts 0 0) ts k (omega (arith, c.loop-member-test.true, c.len-members.ensures.value, many))

pub returns : goal.returns
returns c past is =
    let rows = c.args.fronts.now in
    let ts = lasts rows in
    let many = length-map rows (λ (r : MemberRow). r.last) in
    let end = take_all c.loop-member.member ts (omega (arith, c.loop-member-test.false, c.len-members.ensures.value, many)) in
    record {
      stable = c.stable.ensures past is;
      time = c.loop-member.invariant ∙ ap (fold min (get_or ts 0 0)) end ∙ lowest_is_least ts (omega (arith, c.len-members.ensures.value, c.len-members.ensures.some, many)) ∙ none_passed past rows is;
    }
