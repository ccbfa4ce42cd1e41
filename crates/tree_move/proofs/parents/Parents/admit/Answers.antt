use Rattle.std.proofs.Common.{◌≡◌, ◌∙◌, ap, sym, subst, None}
use Rattle.std.specs.FinMap as map
use Rattle.std.specs.FinSet as set
use Rattle.tree_move.specs.Parents.{Nodes, IsTreeOfAdmitted, nodes_of}
use Rattle.tree_move.proofs.PlaceLaws.{nodes_written, admit_keeps_tree, with_place_same}
use Rattle.tree_move.proofs.parents.Parents.admit.Goals as goal
use Rattle.tree_move.proofs.parents.Parents.admit.Goals.{In_ok-insert}

now_are : (c : In_ok-insert) → nodes_of c.insert.new.self.entries ≡ record { places = c.args.self.now.places; admitted = set.insert c.args.self.now.admitted c.args.node }
now_are c =
    nodes_written c.self.inside.slots.entries c.insert.new.self.entries c.args.node None c.in_ok-insert.ensures.updates.0
    ∙ ap (λ (k : Nodes). record { places = map.remove k.places c.args.node; admitted = set.insert k.admitted c.args.node }) c.self.view_is
    ∙ ap (λ m. record { places = m; admitted = set.insert c.args.self.now.admitted c.args.node }) (with_place_same c.args.self.now.places c.args.node None c.requires.placeless)

pub invariant_of-self-2 : goal.invariant_of-self-2
invariant_of-self-2 c =
    subst IsTreeOfAdmitted (sym (now_are c)) (admit_keeps_tree c.args.self.now c.args.node (subst IsTreeOfAdmitted c.self.view_is c.self.invariant) c.requires.below)

pub returns-clause-places : goal.returns-clause-places
returns-clause-places c = ap (λ (k : Nodes). k.places) (now_are c)

pub returns-clause-ok : goal.returns-clause-ok
returns-clause-ok c = ap (λ (k : Nodes). k.admitted) (now_are c)

pub returns-clause-tree : goal.returns-clause-tree
returns-clause-tree c = invariant_of-self-2 c
