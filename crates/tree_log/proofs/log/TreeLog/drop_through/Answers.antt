use Rattle.std.proofs.Common.{◌≡◌, ◌∙◌, ap, sym, subst, rules}
use Rattle.std.specs.Prelude.{filter, nat_le, nat_lt}
use Rattle.std.proofs.lemmas.Fn.{filter_same}
use Rattle.tree_log.specs.declared.moves.TreeMove.{TreeMove}
use Rattle.tree_log.specs.Log.{IsLog, undone, steps}
use Rattle.tree_log.specs.Moves.{Log, after_moves, places_now}
use Rattle.tree_log.proofs.LogLaws.{kept_at, log_kept, log_base, steps_kept}
use Rattle.tree_log.proofs.log.TreeLog.drop_through.Goals as goal
use Rattle.tree_log.proofs.log.TreeLog.drop_through.Goals.{After-retain}

held_are : (c : After-retain) → c.retain.new.self.items ≡ filter (kept_at c.args.time) c.self.inside.held.items
held_are c = filter_same _ (kept_at c.args.time) _ (λ x b f' k. search rules) _ _ c.retain.ensures.filtered

kept : (c : After-retain) → IsLog (after_moves (undone c.self.inside.parents.places c.self.inside.held.items) (filter (λ (t : TreeMove). nat_le t.id.time c.args.time) (steps c.self.inside.held.items))) c.retain.new.self.items c.self.inside.parents.places
kept c = rw (held_are c) (log_kept _ _ c.args.time c.self.inside.held.items c.self.invariant.log)

own : (c : After-retain) → IsLog (undone c.self.inside.parents.places c.retain.new.self.items) c.retain.new.self.items c.self.inside.parents.places
own c = subst (λ b. IsLog b c.retain.new.self.items c.self.inside.parents.places) (sym (log_base _ _ _ (kept c))) (kept c)

pub invariant_of-self : goal.invariant_of-self
invariant_of-self c = record { log = own c; tree = c.self.invariant.tree }

pub returns-clause-base : goal.returns-clause-base
returns-clause-base c = log_base _ _ _ (kept c) ∙ ap (λ (l : Log). after_moves l.base (filter (λ (t : TreeMove). nat_le t.id.time c.args.time) l.moves)) c.self.view_is

pub returns-clause-moves : goal.returns-clause-moves
returns-clause-moves c =
    ap steps (held_are c) ∙ steps_kept c.args.time c.self.inside.held.items ∙ ap (λ (l : Log). filter (λ (t : TreeMove). nat_lt c.args.time t.id.time) l.moves) c.self.view_is

pub returns-clause-places : goal.returns-clause-places
returns-clause-places c = (own c).is ∙ sym c.self.invariant.log.is ∙ ap places_now c.self.view_is
