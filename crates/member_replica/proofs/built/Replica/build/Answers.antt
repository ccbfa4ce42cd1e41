use Rattle.std.proofs.Common.{◌*◌, List, [], length, take, sym, ap, subst, ◌∙◌, arith}
use Rattle.std.specs.Prelude.{Err, slice_get}
use Rattle.model.specs.Base.{Base, base_of}
use Rattle.model.specs.Change.{Change}
use Rattle.holding.specs.Holds.{Holds}
use Rattle.holding.specs.Takes.{Takes}
use Rattle.member_replica.specs.Replicas.{Builds}
use Rattle.member_replica.specs.declared.built.BuildFault.TheVariants.{Unfit}
use Rattle.member_replica.proofs.BuildLaws.{built_all, built_more, is_next_at, refused_at}
use Rattle.member_replica.proofs.WorkLaws.{decodes_next, decodes_one, decodes_within}
use Rattle.member_replica.proofs.SoundLaws.{base_is, untrimmed_from}
use Rattle.member_replica.proofs.built.Replica.build.Goals as goal

pub take-requires : goal.take-requires
take-requires c =
    let f = c.args.parts in
    let i = c.kept.i in
    let change = c.at-block.result.now in
    let is = untrimmed_from f c.requires c.head.ensures.is_file c.head.ensures.base in
    let at = ap (λ (l : List Change). slice_get l i) (sym c.kept-kept.ensures) ∙ c.at-block.ensures in
    let next = is_next_at f i change c.kept.holding is c.kept.invariant.built at in
    (f.members, base_of f.members [] 0, take i f.kept, c.kept.invariant.built.holds, next)

pub returns-in-Err-Unfit-clause-builds : goal.returns-in-Err-Unfit-clause-builds
returns-in-Err-Unfit-clause-builds c =
    let f = c.args.parts in
    let i = c.kept.i in
    let change = c.at-block.result.now in
    let is = untrimmed_from f c.requires c.head.ensures.is_file c.head.ensures.base in
    let at = ap (λ (l : List Change). slice_get l i) (sym c.kept-kept.ensures) ∙ c.at-block.ensures in
    let next = is_next_at f i change c.kept.holding is c.kept.invariant.built at in
    let b = base_of f.members [] 0 in
    let told = c.in-Err-Unfit.ensures.takes f.members b (take i f.kept) c.kept.invariant.built.holds next in
    let unfit = subst (λ fault. Takes f.members b (take i f.kept) change (Err fault)) c.in-Err-Unfit.field-0-is told in
    subst (λ fault. Builds f (Err fault)) (sym (c.refused.ensures ∙ ap (Unfit change.member change.number) c.in-Err-Unfit.misfit-is)) (refused_at f i change c.kept.holding c.in-Err-Unfit.misfit c.kept.invariant.built at unfit)

pub returns-in-Err-Unfit-clause-tally : goal.returns-in-Err-Unfit-clause-tally
returns-in-Err-Unfit-clause-tally c =
    let f = c.args.parts in
    let i = c.kept.i in
    let change = c.at-block.result.now in
    let at = ap (λ (l : List Change). slice_get l i) (sym c.kept-kept.ensures) ∙ c.at-block.ensures in
    decodes_one f.kept i change c.args.tally.now c.kept.tally c.take.new.tally (length change.operations) at c.kept.invariant.decoded c.in-Err-Unfit.ensures.tally (omega arith)

pub returns-in-Err-NoMemory-clause-tally : goal.returns-in-Err-NoMemory-clause-tally
returns-in-Err-NoMemory-clause-tally c =
    let f = c.args.parts in
    let i = c.kept.i in
    let change = c.at-block.result.now in
    let at = ap (λ (l : List Change). slice_get l i) (sym c.kept-kept.ensures) ∙ c.at-block.ensures in
    decodes_one f.kept i change c.args.tally.now c.kept.tally c.take.new.tally (length change.operations) at c.kept.invariant.decoded c.in-Err-NoMemory.ensures.tally (omega arith)

pub kept-preserved : goal.kept-preserved
kept-preserved c =
    let f = c.args.parts in
    let i = c.kept.i in
    let change = c.at-block.result.now in
    let is = untrimmed_from f c.requires c.head.ensures.is_file c.head.ensures.base in
    let at = ap (λ (l : List Change). slice_get l i) (sym c.kept-kept.ensures) ∙ c.at-block.ensures in
    let next = is_next_at f i change c.kept.holding is c.kept.invariant.built at in
    let taken = c.in-Ok.ensures.takes f.members (base_of f.members [] 0) (take i f.kept) c.kept.invariant.built.holds next in
    record {
      built = built_more f i change c.kept.holding c.in-Ok.holding is c.kept.invariant.built at taken.0 taken.1;
      decoded = decodes_next f.kept i change c.args.tally.now c.kept.tally c.take.new.tally at c.kept.invariant.decoded
          (decodes_within c.kept.tally c.take.new.tally (length change.operations) (2 * length change.operations) c.in-Ok.ensures.tally (omega arith));
    }

pub invariant_of-result : goal.invariant_of-result
invariant_of-result c =
    let f = c.args.parts in
    let is = untrimmed_from f c.requires c.head.ensures.is_file c.head.ensures.base in
    let all = built_all f c.kept.i c.kept.holding c.kept.invariant.built (omega (arith, c.kept-test.false, c.len-i-end.ensures, ap length c.kept-kept.ensures)) in
    record { kind = c.requires; base = is.base; fit = all.0; holds = subst (λ (b : Base). Holds c.kept.holding f.members b f.kept) (sym (base_is f is)) all.1 }
