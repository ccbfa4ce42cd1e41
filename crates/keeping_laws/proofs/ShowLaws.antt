-- The ledger of a stored file has a whole state, and its edits show their effects.
use Rattle.std.proofs.Common.{◌≡◌, ℕ, true, refl}
use Rattle.std.specs.Prelude.{Some, None, is_some}
use Rattle.std.specs.FinMap.{FinMap, get}
use Rattle.op_ids.specs.declared.OpId.{OpId}
use Rattle.model.specs.BaseItem.{IsForest}
use Rattle.model.specs.Operation.{Anchor}
use Rattle.model.specs.State.{State, Character, has_node, is_fixed, replay, row_cmp}
use Rattle.effect_laws.specs.Whole.{IsWhole}
use Rattle.effect_laws.proofs.ReplayLaws.{whole_edits_show}
use Rattle.effect_laws.proofs.WholeLaws.{contra, timed_not_fixed}
use Rattle.keeping_laws.specs.Showing.{FilesShowEdits, StoredAreWhole}
use Rattle.keeping_laws.proofs.BaseLaws.{IsOn}
use Rattle.keeping_laws.proofs.EditForms.{got, list_tree, position_tree, text_tree}
use Rattle.keeping_laws.proofs.KeptFiles.{state_is_on}

module _ (n H : ℕ) (s : State) (on : IsOn n H s) where
  owner_there : {X : Type 0} (at : X → Anchor) (table : FinMap row_cmp X) → IsForest s at table → (owner q : OpId) → is_some (get table (owner, q)) ≡ true → has_node s owner ≡ true
  owner_there at table f owner q h = got (get table (owner, q)) h (λ x e. (f.owner owner q x e).0)

  -- a state in form, in which what rows name is there, is whole
  pub whole_of : IsWhole s
  whole_of = record {
    nodes = record {
      fixed = λ id h.
          elim (get s.nodes id) as (λ o. get s.nodes id ≡ o → o ≡ None) [
            | None ↦ λ _. refl
            | Some p ↦ λ e. contra (is_fixed id) h (timed_not_fixed id (on.formed.nodes id p e).0.0.1)
          ] refl;
      trees = position_tree n H s on;
      placed = λ id p e. on.stand.nodes.position id p e;
      apart = λ a b p q e f _ same. on.stand.nodes.own_position a b p q e f same;
    };
    lists = record {
      trees = list_tree n H s on;
      placed = λ owner id x e. on.stand.elements.position owner id x e;
      apart = λ owner a b x y e f same. on.stand.elements.own_position owner a b x y e f same;
    };
    texts = text_tree n H s on;
    owners = record {
      positions = owner_there (λ (a : Anchor). a) s.positions on.stand.positions;
      registers = λ k h. got (get s.registers k) h (λ w e. (on.stand.registers k.0 k.1 w e).0);
      texts = owner_there (λ (c : Character). c.at) s.texts on.stand.texts;
      list_positions = owner_there (λ (a : Anchor). a) s.list_positions on.stand.list_positions;
    };
  }

pub stored_are_whole : StoredAreWhole
stored_are_whole bytes f h stored stands = let on = state_is_on bytes f h stored stands in whole_of f.members on.0 (replay h) on.1

pub files_show_edits : FilesShowEdits
files_show_edits bytes f h e cs stored stands is = whole_edits_show f.members h f.mine e cs stands.sound (stored_are_whole bytes f h stored stands) is
