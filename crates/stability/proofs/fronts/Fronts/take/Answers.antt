use Rattle.std.proofs.Common.{ap, ◌∙◌, map, max, set, get_or}
use Rattle.std.proofs.lemmas.List.{map-set}
use Rattle.stability.specs.Rows.{row_of, taken}
use Rattle.stability.specs.declared.fronts.MemberRow as code
use Rattle.stability.proofs.fronts.Fronts.take.Goals as goal

pub returns : goal.returns
returns c =
    let h = c.args.head.now in
    let row : code.MemberRow = record { count = h.number; last = h.time; known = c.raise.new.self } in
    let known = c.raise.ensures ∙ ap (λ counts. set counts h.member (max (get_or counts h.member 0) h.number)) c.copy-known.ensures in
    map-set row_of c.self.inside.rows.items c.from.result row
    ∙ ap (λ i. set (map row_of c.self.inside.rows.items) i (row_of row)) c.from.ensures
    ∙ ap (λ counts. set (map row_of c.self.inside.rows.items) h.member (record { count = h.number; last = h.time; known = counts })) known
    ∙ ap (λ rows. taken rows h) c.self.view_is
