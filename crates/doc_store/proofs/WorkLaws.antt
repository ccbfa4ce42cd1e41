-- Operations that are taken one by one.
use Rattle.std.specs.Prelude.{◌≡◌, ℕ, suc, ◌+◌, ◌-◌, ◌≤◌, ◌^◌, min, Option, Some, None, List, [], ◌∷◌, ◌++◌, map, length, slice_get, refl}
use Rattle.std.proofs.Common.{sym, ◌∙◌, ap, subst, arith}
use Rattle.std.proofs.lemmas.List.{append_assoc, append-nil}
use Rattle.std.specs.List.{AllByRecursion, cons_option}
use Rattle.op_ids.specs.declared.OpId.{OpId}
use Rattle.outside.specs.Faults.{raised}
use Rattle.outside.specs.Work.{Work}
use Rattle.model.specs.Held.{refers_wrongly, wrong_ids, wrong_references}
use Rattle.model.specs.State.{State, Atom, apart, after}
use Rattle.model_laws.specs.Arrival.{Contents, late}
use Rattle.tree_log.specs.declared.moves.TreeMove.{TreeMove}
use Rattle.tree_log.specs.Steps.{move_by, moves_of}
use Rattle.op_grammar.specs.Operations.{operation_of}
use Rattle.op_grammar.specs.declared.operation.OpRef.{OpRef}
use Rattle.doc_store.specs.Documents.{AllMayBeDone, IsFormed, all_late, decoded_by, parts_of}
use Rattle.doc_store.specs.References.{AddsLast, HasMade}
use Rattle.doc_store.specs.declared.made.Made.{Made}

-- ---- counts

pub raised_up : (n : ℕ) → n ≤ raised n
raised_up n = grind arith

pub raised_most : (n : ℕ) → raised n ≤ n + 1
raised_most n = grind arith

-- ---- operations that are done

-- Some operations are done: what the tables and the moves are with those that are left is what they are to be.
pub record Doing (start : Contents) (all : List Atom) (before : Work) (now : Contents) (made : List TreeMove) (work : Work) (left : List Atom) : Type 0 where
  pub rows : all_late now (parts_of left) ≡ all_late start (parts_of all)
  pub moves : made ++ moves_of left ≡ moves_of all
  pub can : AllMayBeDone now left
  pub same : work.moves ≡ before.moves
  pub decoded : decoded_by left work.decoded ≡ decoded_by all before.decoded
  pub rose : before.decoded ≤ work.decoded
  pub bound : work.decoded + length left ≤ before.decoded + length all

pub doing_none : (start : Contents) (all : List Atom) (before : Work) (made : List TreeMove) → made ≡ [] → AllMayBeDone start all → Doing start all before start made before all
doing_none start all before made none can = record { rows = refl; moves = ap (λ ts. ts ++ moves_of all) none; can = can; same = refl; decoded = refl; rose = omega arith; bound = omega arith }

pub all_late-append : (c : Contents) (xs ys : List Atom) → all_late c (xs ++ ys) ≡ all_late (all_late c xs) ys
all_late-append c [] ys = refl
all_late-append c (x ∷ xs) ys = all_late-append (late c x) xs ys

cons_append : (ts : List TreeMove) (o : Option TreeMove) (us : List TreeMove) → (ts ++ cons_option o []) ++ us ≡ ts ++ cons_option o us
cons_append ts None us = ap (λ l. l ++ us) (append-nil ts)
cons_append ts (Some t) us = append_assoc ts (t ∷ []) us

pub doing_next : (start : Contents) (all : List Atom) (before : Work) (now : Contents) (made : List TreeMove) (work : Work) (a : Atom) (left : List Atom) (next : Contents) (more : List TreeMove) → Doing start all before now made work (a ∷ left)
    → next ≡ all_late now (apart a.id a.operation) → more ≡ made ++ cons_option (move_by a.id a.operation) [] → Doing start all before next more (record work { decoded = raised work.decoded }) left
doing_next start all before now made work a left next more d e m =
    let up = raised_up work.decoded in
    let most = raised_most work.decoded in
    record {
      rows = ap (λ c. all_late c (parts_of left)) e ∙ sym (all_late-append now (apart a.id a.operation) (parts_of left)) ∙ d.rows;
      moves = ap (λ ts. ts ++ moves_of left) m ∙ cons_append made (move_by a.id a.operation) (moves_of left) ∙ d.moves;
      can = subst (λ c. AllMayBeDone c left) (sym e) d.can.1;
      same = d.same;
      decoded = d.decoded;
      rose = omega (arith, up, d.rose);
      bound = omega (arith, most, d.bound);
    }

pub no_more : (made : List TreeMove) (o : Option TreeMove) → o ≡ None → made ≡ made ++ cons_option o []
no_more made o e = sym (append-nil made) ∙ ap (λ x. made ++ cons_option x []) (sym e)

pub one_pushed : (made : List TreeMove) (o : Option TreeMove) (t : TreeMove) → o ≡ Some t → made ++ t ∷ [] ≡ made ++ cons_option o []
one_pushed made o t e = ap (λ x. made ++ cons_option x []) (sym e)

-- ---- references

-- Some operations were read, and none refers wrongly. This is known of the state after them.
pub record Reading (s : State) (all : List Atom) (before : Work) (Known : State → Type 0) (place : ℕ) (work : Work) (left : List Atom) : Type 0 where
  pub at : ℕ
  pub now : State
  pub has : Known now
  pub rest : wrong_references s 0 all ≡ wrong_references now at left
  pub counted : place ≡ min at (2 ^ 32 - 1)
  pub formed : AllByRecursion IsFormed left
  pub same : work.moves ≡ before.moves
  pub rose : before.decoded ≤ work.decoded
  pub bound : work.decoded + length left ≤ before.decoded + length all

pub nil_from_first : {A : Type 0} (xs : List A) → slice_get xs 0 ≡ None → xs ≡ []
nil_from_first [] e = refl
nil_from_first (x ∷ xs) e = cc

pub first_more : (place : ℕ) (ids : List OpId) (id : OpId) (more : List _) → slice_get ids 0 ≡ Some id → slice_get (map (refers_wrongly place) ids ++ more) 0 ≡ Some (refers_wrongly place id)
first_more place [] id more e = cc
first_more place (i ∷ ids) id more e = (let same : i ≡ id = cc in ap (λ x. Some (refers_wrongly place x)) same)

-- what is made is in the set with what the operation that came last makes
abbrev pub OnceAdded : State → Made → Option (OpId × OpRef) → State → Type 0
OnceAdded s made last u = (m : Made) → AddsLast made last m → HasMade s m u

pub reading_added : (s : State) (all : List Atom) (before : Work) (made : Made) (last : Option (OpId × OpRef)) (place : ℕ) (work : Work) (left : List Atom) (now : Made) → AddsLast made last now
    → Reading s all before (OnceAdded s made last) place work left → Reading s all before (HasMade s now) place work left
reading_added s all before made last place work left now adds r =
    record { at = r.at; now = r.now; has = r.has now adds; rest = r.rest; counted = r.counted; formed = r.formed; same = r.same; rose = r.rose; bound = r.bound }

pub reading_next : (s : State) (all : List Atom) (before : Work) (made : Made) (place : ℕ) (work : Work) (id : OpId) (op : OpRef) (left : List Atom) (next_place : ℕ)
    → (r : Reading s all before (HasMade s made) place work (record { id = id; operation = operation_of op } ∷ left))
    → slice_get (wrong_ids r.now id (operation_of op)) 0 ≡ None → next_place ≡ min (place + 1) (2 ^ 32 - 1) → Reading s all before (OnceAdded s made (Some (id, op))) next_place (record work { decoded = raised work.decoded }) left
reading_next s all before made place work id op left next_place r none count =
    let up = raised_up work.decoded in
    let most = raised_most work.decoded in
    let o = operation_of op in
    let right = nil_from_first (wrong_ids r.now id o) none in
    let was = r.counted in
    record {
      at = suc r.at;
      now = after r.now (apart id o);
      has = λ m makes. makes s r.now r.has right;
      rest = r.rest ∙ ap (λ ids. map (refers_wrongly r.at) ids ++ wrong_references (after r.now (apart id o)) (suc r.at) left) right;
      counted = omega (arith, count, was);
      formed = r.formed.1;
      same = r.same;
      rose = omega (arith, up, r.rose);
      bound = omega (arith, most, r.bound);
    }

pub reading_wrong : (s : State) (all : List Atom) (before : Work) (made : Made) (place : ℕ) (work : Work) (a : Atom) (left : List Atom) (id : OpId) → (r : Reading s all before (HasMade s made) place work (a ∷ left))
    → slice_get (wrong_ids r.now a.id a.operation) 0 ≡ Some id → slice_get (wrong_references s 0 all) 0 ≡ Some (refers_wrongly r.at id)
reading_wrong s all before made place work a left id r e =
    ap (λ ms. slice_get ms 0) r.rest ∙ first_more r.at (wrong_ids r.now a.id a.operation) id (wrong_references (after r.now (apart a.id a.operation)) (suc r.at) left) e
