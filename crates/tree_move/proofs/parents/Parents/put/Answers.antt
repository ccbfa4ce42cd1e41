use Rattle.std.proofs.Common.{◌≡◌, ◌∙◌, ap, sym, true, subst, is_some}
use Rattle.std.specs.Map.{lookup}
use Rattle.std.specs.FinSet as set
use Rattle.tree_move.specs.Parents.{Nodes, IsTreeOfAdmitted, nodes_of, with_place, place_if}
use Rattle.tree_move.proofs.PlaceLaws.{nodes_written, put_keeps_tree, tied, contains-nodes_of, insert_member, none_there}
use Rattle.tree_move.proofs.parents.Parents.put.Goals as goal
use Rattle.tree_move.proofs.parents.Parents.put.Goals.{in-Some, in_default, Joined-get_mut}

-- the node has a row
there : (c : Joined-get_mut) → is_some (lookup (tied c.args.node) c.self.inside.slots.entries) ≡ true
there c =
    sym (contains-nodes_of c.self.inside.slots.entries c.args.node) ∙ ap (λ (k : Nodes). set.contains k.admitted c.args.node) c.self.view_is ∙ c.requires.admitted

now_are : (c : Joined-get_mut) → nodes_of c.match-get_mut.self-inside.slots.entries ≡ record { places = with_place c.args.self.now.places c.args.node (place_if c.args.place); admitted = c.args.self.now.admitted }
now_are c =
    elim c.match-get_mut.branch [
      | in-Some w ↦
          ap (λ i. nodes_of i.slots.entries) w.self-inside-is
          ∙ nodes_written c.self.inside.slots.entries (c.get_mut.follows.lender c.args.place).entries c.args.node c.args.place ((c.get_mut.follows.holds c.args.place).3 (there c)).0
          ∙ ap (λ (k : Nodes). record { places = with_place k.places c.args.node (place_if c.args.place); admitted = set.insert k.admitted c.args.node }) c.self.view_is
          ∙ ap (λ s. record { places = with_place c.args.self.now.places c.args.node (place_if c.args.place); admitted = s }) (insert_member c.args.self.now.admitted c.args.node c.requires.admitted)
      | in_default w ↦ absurd (none_there _ (sym w.in_default.ensures.value) (there c))
    ]

pub invariant_of-self : goal.invariant_of-self
invariant_of-self c =
    subst IsTreeOfAdmitted (sym (now_are c)) (put_keeps_tree c.args.self.now c.args.node (place_if c.args.place) (subst IsTreeOfAdmitted c.self.view_is c.self.invariant) c.requires.admitted c.requires.tree)

pub returns-clause-places : goal.returns-clause-places
returns-clause-places c = ap (λ (k : Nodes). k.places) (now_are c)

pub returns-clause-admitted : goal.returns-clause-admitted
returns-clause-admitted c = ap (λ (k : Nodes). k.admitted) (now_are c)

pub returns-clause-tree : goal.returns-clause-tree
returns-clause-tree c = invariant_of-self c
