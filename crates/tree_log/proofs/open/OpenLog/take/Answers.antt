use Rattle.std.proofs.Common.{◌≡◌, ◌∙◌, ap, sym, subst, arith, [], drop, get_or, ◌+◌}
use Rattle.std.specs.Prelude.{◌||◌}
use Rattle.std.proofs.lemmas.List.{drop_more, drop_all}
use Rattle.std.specs.List.{AllByRecursion}
use Rattle.tree_log.specs.declared.moves.TreeMove.{TreeMove}
use Rattle.tree_log.specs.Moves.{AllReferBack, IsFresh, Log, has_place, inserted, places_now}
use Rattle.tree_log.specs.Open.{IsOpen, Open, is_child, late_in, whole}
use Rattle.tree_log.proofs.LogLaws.{no_move}
use Rattle.tree_log.proofs.OpenLaws.{Taking, inserted_after, take_first, take_one, there_after}
use Rattle.tree_log.proofs.open.OpenLog.take.Goals as goal

pub loop-step-init : goal.loop-step-init
loop-step-init c =
    let log = c.self.inside.log in
    let es = c.self.inside.late.entries in
    let ms = c.args.moves.now in
    let back = sym c.self.view_is in
    record {
      log = ap (λ (o : Open). o.log) c.self.view_is;
      taking = subst (λ (o : Open). Taking o.log es ms (inserted o.late ms)) c.self.view_is
          (take_first log es ms c.parents.ensures.base c.parents.ensures.fits c.parents.ensures.rising c.self.invariant c.requires.rises
          (subst (λ (o : Open). AllByRecursion (λ (x : TreeMove). IsFresh (whole o).moves x.id) ms) back c.requires.fresh)
          (subst (λ (o : Open). AllReferBack (has_place (places_now (whole o))) ms) back c.requires.refer));
    }

pub loop-step-preserved : goal.loop-step-preserved
loop-step-preserved c =
    let ms = c.args.moves.now in
    let i = c.loop-step.step-index in
    let es = c.loop-step.self-inside.late.entries in
    let total = inserted c.args.self.now.late ms in
    let next = subst (λ ts. Taking c.args.self.now.log es ts total) (drop_more ms i no_move c.loop-step-test.true) c.loop-step.invariant.taking in
    record {
      log = c.loop-step.invariant.log;
      taking = subst (λ fs. Taking c.args.self.now.log fs (drop (i + 1) ms) total) (sym c.in_ok-insert.ensures.entries) (take_one c.args.self.now.log es (get_or ms i no_move) (drop (i + 1) ms) total next);
    }

pub returns-clause-whole : goal.returns-clause-whole
returns-clause-whole c =
    let ms = c.args.moves.now in
    let late = late_in c.loop-step.self-inside.late.entries in
    let none : drop c.loop-step.step-index ms ≡ [] = drop_all c.loop-step.step-index ms (omega arith) in
    let all : late ≡ inserted c.args.self.now.late ms = ap (inserted late) (sym none) ∙ c.loop-step.invariant.taking.all in
    ap (λ (l : Log). inserted l.moves late) c.loop-step.invariant.log ∙ ap (inserted c.args.self.now.log.moves) all
    ∙ subst (λ (o : Open). inserted o.log.moves (inserted o.late ms) ≡ inserted (inserted o.log.moves o.late) ms) c.self.view_is
    (inserted_after c.self.inside.log.moves (late_in c.self.inside.late.entries) c.parents.ensures.rising c.self.invariant.rises c.self.invariant.fresh ms c.requires.rises
    (subst (λ (o : Open). AllByRecursion (λ (x : TreeMove). IsFresh (whole o).moves x.id) ms) (sym c.self.view_is) c.requires.fresh))

pub returns-clause-there : goal.returns-clause-there
returns-clause-there c node =
    let log = c.self.inside.log in
    let es = c.self.inside.late.entries in
    let fs = c.loop-step.self-inside.late.entries in
    let ms = c.args.moves.now in
    let back = sym c.self.view_is in
    let none : drop c.loop-step.step-index ms ≡ [] = drop_all c.loop-step.step-index ms (omega arith) in
    let was : c.args.self.now.log ≡ log = sym (ap (λ (o : Open). o.log) c.self.view_is) in
    let all : late_in fs ≡ inserted (late_in es) ms = ap (inserted (late_in fs)) (sym none) ∙ c.loop-step.invariant.taking.all ∙ ap (λ (o : Open). inserted o.late ms) back in
    ap (λ (l : Log). has_place (places_now (whole (record { log = l; late = late_in fs }))) node) (c.loop-step.invariant.log ∙ was)
    ∙ there_after log es ms c.parents.ensures.base c.parents.ensures.fits c.parents.ensures.rising c.self.invariant c.requires.rises
    (subst (λ (o : Open). AllByRecursion (λ (x : TreeMove). IsFresh (whole o).moves x.id) ms) back c.requires.fresh)
    (subst (λ (o : Open). AllReferBack (has_place (places_now (whole o))) ms) back c.requires.refer)
    fs (subst (λ (l : Log). IsOpen l fs) was c.loop-step.invariant.taking.open_now) all node
    ∙ ap (λ (o : Open). has_place (places_now (whole o)) node || is_child node ms) c.self.view_is
