-- A new document's file keeps every rule.
use Rattle.std.proofs.Common.{◌≡◌, ℕ, zero, suc, ◌<◌, ◌^◌, [], refl, sym, ◌∙◌, arith, Ordering}
use Rattle.std.specs.Prelude.{Some, None, replicate}
use Rattle.std.specs.List.{AllByRecursion}
use Rattle.std.specs.FinMap.{get, empty, get-empty}
use Rattle.std.proofs.lemmas.List.{length-replicate}
use Rattle.op_ids.specs.Order.{id_cmp}
use Rattle.model.specs.Base.{base_of, member_row}
use Rattle.model.specs.BaseItem.{IsMemberRow, Stand}
use Rattle.model.specs.File.{IsBase}
use Rattle.model.specs.State.{empty_state, register_cmp, row_cmp}
use Rattle.model_laws.proofs.ChangeLaws.{members_below, members_rise}
use Rattle.ledger_laws.proofs.CommandLaws.{new_stands, nothing_sound}
use Rattle.ledger_laws.proofs.OrderedLaws.{standing_keep_order}
use Rattle.keeping_laws.specs.Keeping.{FoundKeepsRules}
use Rattle.keeping_laws.proofs.BaseLaws.{base_is}
use Rattle.keeping_laws.proofs.FormLaws.{Formed}
use Rattle.keeping_laws.proofs.MemberRows.{each_row}

nowhere : {Q : Type 0} {K : Type 0} (X : Type 0) (R : K → K → Ordering) (q : K) (x : X) → get (empty {X = X} {R = R}) q ≡ Some x → Q
nowhere X R q x h = let k : None ≡ Some x = sym (get-empty R q) ∙ h in cc

empty_formed : (n : ℕ) → Formed n 0 empty_state
empty_formed n = record {
  nodes = λ k x e. nowhere _ id_cmp k x e;
  positions = λ k x e. nowhere _ row_cmp k x e;
  registers = λ k x e. nowhere _ register_cmp k x e;
  texts = λ k x e. nowhere _ row_cmp k x e;
  list_positions = λ k x e. nowhere _ row_cmp k x e;
  elements = λ k x e. nowhere _ row_cmp k x e;
}

empty_stand : Stand empty_state
empty_stand = record {
  nodes = record {
    parent = λ id p e. nowhere _ id_cmp id p e;
    position = λ id p e. nowhere _ id_cmp id p e;
    not_smaller = λ id p e. nowhere _ id_cmp id p e;
    own_position = λ id other p q e f same. nowhere _ id_cmp id p e;
  };
  positions = record { owner = λ o id x e. nowhere _ row_cmp (o, id) x e; anchor = λ o id x e ne. nowhere _ row_cmp (o, id) x e };
  registers = λ node key w e. nowhere _ register_cmp (node, key) w e;
  texts = record { owner = λ o id x e. nowhere _ row_cmp (o, id) x e; anchor = λ o id x e ne. nowhere _ row_cmp (o, id) x e };
  list_positions = record { owner = λ o id x e. nowhere _ row_cmp (o, id) x e; anchor = λ o id x e ne. nowhere _ row_cmp (o, id) x e };
  elements = record {
    owner = λ node id x e. nowhere _ row_cmp (node, id) x e;
    position = λ node id x e. nowhere _ row_cmp (node, id) x e;
    not_smaller = λ node id x e. nowhere _ row_cmp (node, id) x e;
    own_position = λ node id other x y e f same. nowhere _ row_cmp (node, id) x e;
  };
}

each_zero : (n : ℕ) → AllByRecursion (λ k. k < 2 ^ 32) (replicate n 0)
each_zero zero = tt
each_zero (suc n) = (omega arith, each_zero n)

row_is : (n m : ℕ) → IsMemberRow n (member_row n [] m)
row_is n m = record { count = omega arith; last = omega arith; known_each = length-replicate n 0; known_most = each_zero n }

empty_base : (n : ℕ) → IsBase n (base_of n [] 0)
empty_base n =
    base_is n 0 [] (nothing_sound n) tt (omega arith) (record { formed = empty_formed n; stand = empty_stand }) (each_row (IsMemberRow n) n [] (λ m l. row_is n m))

pub found_keeps_rules : FoundKeepsRules
found_keeps_rules document n is =
    let order = standing_keep_order _ [] (new_stands document n) in record {
      header = record {
        version = refl;
        document_bytes = is.bytes;
        document_length = is.length;
        members_some = is.some;
        members_most = is.most;
        mine_rises = members_rise n;
        mine_below = members_below n;
        kept_most = omega arith;
        waiting_most = omega arith;
        others_hold_none = λ ne. absurd (ne refl);
      };
      base = empty_base n;
      kept = tt;
      waiting = tt;
      kept_in_order = order.in_order;
      waiting_in_order = tt;
      numbered = order.numbered;
      reached = order.reached;
    }
