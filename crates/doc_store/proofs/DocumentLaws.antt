-- Operations that come to a document go to their places.
use Rattle.std.specs.Prelude.{◌≡◌, ◌≤◌, List, [], ◌∷◌, None, refl}
use Rattle.std.proofs.Common.{sym, ◌∙◌, ap}
use Rattle.std.specs.List.{AllByRecursion}
use Rattle.std.specs.FinMap.{get}
use Rattle.op_ids.specs.declared.OpId.{OpId}
use Rattle.model.specs.Held.{wrong_references}
use Rattle.model.specs.State.{State, Atom, after, apart}
use Rattle.model_laws.specs.Arrival.{AllArrive, ComeInTurn, Rises, all_placed, contents, nodes_moved, with_nodes}
use Rattle.model_laws.proofs.AllArrivals.{any_order_of_all}
use Rattle.model_laws.proofs.ArrivalLaws.{good_along}
use Rattle.model_laws.proofs.ListLaws.{all_append, all_more}
use Rattle.model_laws.proofs.Presence.{Any}
use Rattle.model_laws.proofs.ArrivalLaws.{has_itself}
use Rattle.arrival_laws.proofs.ReferLaws.{RightAlong, all_single, whole_from, whole_right}
use Rattle.tree_log.specs.Moves.{AllReferBack, IsFresh as IsFreshMove, after_moves, has_place, inserted, places_now}
use Rattle.tree_log.specs.Steps.{moves_of}
use Rattle.tree_log.proofs.StepLaws.{node_steps_are_moves}
use Rattle.arrival_laws.proofs.ComeLaws.{come}
use Rattle.doc_store.specs.Kept.{HavePositions, Kept, state_of}
use Rattle.doc_store.specs.Documents.{AllMayBeDone, HasNoRow, IsFormed, IsOwnId, Joins, all_late, parts_of}
use Rattle.doc_store.proofs.JoinLaws.{may_all_be_done}
use Rattle.doc_store.proofs.MoveLaws.{all_in_place, moves_fresh, moves_in, moves_of-parts, moves_placed, moves_refer, nodes_new}

pub parts_timed : (ops : List Atom) → AllByRecursion IsFormed ops → AllByRecursion (λ a. 1 ≤ a.id.time) (parts_of ops)
parts_timed [] f = tt
parts_timed (a ∷ ops) f =
    all_append (λ b. 1 ≤ b.id.time) (apart a.id a.operation) (parts_of ops) (all_more (λ b. IsOwnId b.id) (λ b. 1 ≤ b.id.time) (λ b o. o.some) (apart a.id a.operation) f.0.ids) (parts_timed ops f.1)

unused : (s : State) (list : List Atom) → AllByRecursion (λ a. HasNoRow s a.id) list → AllByRecursion (λ a. (owner : OpId) → get s.positions (owner, a.id) ≡ None) list
unused s list h = all_more (λ a. HasNoRow s a.id) (λ a. (owner : OpId) → get s.positions (owner, a.id) ≡ None) (λ a k. k.positions) list h

-- operations that may come to a document
pub record Comes (d : Kept) (ops : List Atom) : Type 0 where
  pub formed : AllByRecursion IsFormed ops
  pub refer : wrong_references (state_of d) 0 ops ≡ []
  pub rise : Rises (parts_of ops)
  pub fresh : AllByRecursion (λ a. HasNoRow (state_of d) a.id) (parts_of ops)

pub rows_done : (d : Kept) (ops : List Atom) → Comes d ops → AllMayBeDone d.contents ops
rows_done d ops c =
    may_all_be_done ops c.formed c.rise (state_of d) d.contents (record { positions = refl; texts = refl; list_positions = refl; elements = λ k. refl }) (whole_from (state_of d) 0 ops c.refer) c.fresh

pub fresh_moves : (d : Kept) (ops : List Atom) → Comes d ops → HavePositions d.contents.positions d.log.moves → AllByRecursion (λ t. IsFreshMove d.log.moves t.id) (moves_of ops)
fresh_moves d ops c h = moves_fresh d.contents.positions d.log.moves ops h (unused (state_of d) (parts_of ops) c.fresh)

pub moves_back : (d : Kept) (ops : List Atom) → Comes d ops → AllReferBack (has_place (places_now d.log)) (moves_of ops)
moves_back d ops c = moves_refer ops c.formed (state_of d) (has_place (places_now d.log)) (λ q h. h) (whole_from (state_of d) 0 ops c.refer)

pub joins : (d now : Kept) (ops : List Atom) → Comes d ops → now.contents ≡ all_late d.contents (parts_of ops) → now.log.base ≡ d.log.base → now.log.moves ≡ inserted d.log.moves (moves_of ops) → Joins d ops now
joins d now ops c rows base moves s list is below fresh =
    let xs = parts_of ops in
    let u = after s list in
    let L = all_placed xs list in
    let right : RightAlong u xs = whole_right u ops (whole_from u 0 ops (ap (λ v. wrong_references v 0 ops) (sym is.state) ∙ c.refer)) in
    let turn : ComeInTurn s list xs = come s list u xs is.made_of (has_itself Any u) right (all_single ops) c.rise below fresh in
    let arrive : AllArrive s list xs = any_order_of_all s list xs is.made_of turn in
    let timed : AllByRecursion (λ a. 1 ≤ a.id.time) L = all_in_place (λ a. 1 ≤ a.id.time) xs list is.timed (parts_timed ops c.formed) in
    let good = good_along s L arrive.made_of in
    let started : now.log.base ≡ s.nodes = base ∙ is.base in
    let held : now.log.moves ≡ moves_of L = moves ∙ ap (λ ts. inserted ts (moves_of ops)) is.moves ∙ ap (inserted (moves_of list)) (sym (moves_of-parts ops)) ∙ sym (moves_placed s list xs is.made_of turn) in
    let nodes : places_now now.log ≡ nodes_moved s.nodes L =
    ap (λ m. after_moves m now.log.moves) started ∙ ap (after_moves s.nodes) held
    ∙ sym (node_steps_are_moves s.nodes L is.tree (moves_in L timed s (has_place s.nodes) (λ q h. h) is.tree good) (nodes_new s L good)) in
    let tables : now.contents ≡ all_late (contents u) xs = rows ∙ ap (λ c. all_late c xs) (ap contents is.state) in
    record {
      tree = is.tree;
      made_of = arrive.made_of;
      timed = timed;
      state = ap (λ m. with_nodes m now.contents) nodes ∙ ap (with_nodes (nodes_moved s.nodes L)) tables ∙ sym arrive.whole;
      base = started;
      moves = held;
    }
