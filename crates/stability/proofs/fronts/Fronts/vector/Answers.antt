use Rattle.std.proofs.Common.{◌≡◌, ◌<◌, ◌≤◌, ap, ◌∙◌, arith, length, map, get_or}
use Rattle.std.proofs.lemmas.List.{length-map}
use Rattle.model.specs.Base.{MemberRow}
use Rattle.stability.specs.Rows.{row_of}
use Rattle.stability.proofs.RowLaws.{gathered_all, gathered_more, number_at, within_rows}
use Rattle.stability.proofs.fronts.Fronts.vector.Goals as goal

pub loop-member-preserved : goal.loop-member-preserved
loop-member-preserved c =
    let rows = c.self.inside.rows.items in
    let counts = map (λ (r : MemberRow). r.count) (map row_of rows) in
    let vector = c.loop-member.vector in
    let k = c.loop-member.member in
    let lt : k < length rows = within_rows rows c.args.self.now k c.self.view_is (omega (arith, c.loop-member-test.true, c.len-member-end.ensures.value)) in
    let many : length counts ≡ length rows = length-map (map row_of rows) (λ (r : MemberRow). r.count) ∙ length-map rows row_of in
    let count = number_at (λ (r : MemberRow). r.count) rows c.from.result c.index.result.now (omega (arith, lt, c.from.ensures)) c.index.ensures ∙ ap (λ i. get_or counts i 0) c.from.ensures in
    rw (c.raise.ensures, count) (gathered_more counts vector k c.loop-member.invariant (omega (arith, lt, many)))

pub returns : goal.returns
returns c =
    let rows = c.self.inside.rows.items in
    let counts = map (λ (r : MemberRow). r.count) (map row_of rows) in
    let many : length counts ≡ length rows = length-map (map row_of rows) (λ (r : MemberRow). r.count) ∙ length-map rows row_of in
    let end : length counts ≤ c.loop-member.member = omega (arith, c.loop-member-test.false, c.len-member-end.ensures.value, ap length c.self.view_is, many, length-map rows row_of) in
    gathered_all counts c.loop-member.vector c.loop-member.member end c.loop-member.invariant ∙ ap (map (λ (r : MemberRow). r.count)) c.self.view_is
