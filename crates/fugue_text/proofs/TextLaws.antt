-- A node's text after a change.
use Rattle.std.specs.Prelude.{◌≡◌, ◌≢◌, ℕ, ◌+◌, true, false, cond, None, [], ◌∷◌, refl}
use Rattle.std.proofs.Common.{sym, ◌∙◌, ap, subst, arith}
use Rattle.std.specs.BTreeSet.{BTreeSet}
use Rattle.std.specs.FinMap.{find, put}
use Rattle.op_ids.specs.declared.OpId.{OpId}
use Rattle.op_ids.specs.Order.{id_cmp, root_id}
use Rattle.model.specs.State.{Character, killed}
use Rattle.model.specs.View.{is_live}
use Rattle.walk_laws.specs.Insertion.{HangsWell, IsInsertionTree}
use Rattle.walk_laws.proofs.Walks.{key_eq}
use Rattle.walk_laws.proofs.InsertionLaws.{tree_with}
use Rattle.fugue_tree.specs.declared.children.Child.{Child}
use Rattle.fugue_tree.specs.Tree.{AreChildren}
use Rattle.fugue_text.specs.Runs.{TextRows, AreFilled, IsText, edited, places, rows_in, starts, weight_of}
use Rattle.fugue_text.proofs.RowLaws.{put-mapped}
use Rattle.fugue_text.proofs.RunLaws.{Runs}
use Rattle.fugue_text.proofs.CountLaws.{alive_in, alive_change, alive_put, rising_of}

pub tree_put : (rows : TextRows) (id : OpId) (x : Character) → IsInsertionTree (places rows) → id ≢ root_id → HangsWell (places rows) id x.at → IsInsertionTree (places (put id_cmp id x rows))
tree_put rows id x t n h = subst IsInsertionTree (sym (put-mapped (λ (c : Character). c.at) id x rows)) (tree_with (places rows) id x.at t n h)

pub places_edited : (rows : TextRows) (id : OpId) → places (edited rows id killed) ≡ places rows
places_edited [] id = refl
places_edited (e ∷ rows) id =
    λ i. (e.0, elim (key_eq id e.0) as (λ b. (cond b (killed e.1) e.1).at ≡ e.1.at) [ true ↦ refl | false ↦ refl ] i) ∷ places_edited rows id i

module _ (es fs : Runs) (children other : BTreeSet Child) (live : ℕ) (text : IsText es children live) (filled : AreFilled fs) (index : AreChildren (starts fs) other) where
  pub text_put : (id : OpId) (x : Character) → rows_in fs ≡ put id_cmp id x (rows_in es) → find id_cmp id (rows_in es) ≡ None → id ≢ root_id → HangsWell (places (rows_in es)) id x.at → IsText fs other (live + weight_of x.dead)
  text_put id x now fresh n h = record {
    tree = subst (λ rs. IsInsertionTree (places rs)) (sym now) (tree_put (rows_in es) id x text.tree n h);
    index = index;
    filled = filled;
    counted = (let all = alive_put id x (rows_in es) fresh in let old = text.counted in let new : alive_in (rows_in fs) ≡ alive_in (put id_cmp id x (rows_in es)) = ap alive_in now in omega (arith, all, old, new));
  }

  pub text_same : rows_in fs ≡ rows_in es → IsText fs other live
  text_same now = record {
    tree = subst (λ rs. IsInsertionTree (places rs)) (sym now) text.tree;
    index = index;
    filled = filled;
    counted = text.counted ∙ ap alive_in (sym now);
  }

  pub text_killed : (id : OpId) (less : ℕ) → rows_in fs ≡ edited (rows_in es) id killed → less + cond (is_live (find id_cmp id (rows_in es))) 1 0 ≡ live → IsText fs other less
  text_killed id less now count = record {
    tree = subst IsInsertionTree (sym (ap places now ∙ places_edited (rows_in es) id)) text.tree;
    index = index;
    filled = filled;
    counted = (let all = alive_change id (rows_in es) (rising_of (rows_in es) text.tree) in let old = text.counted in let new : alive_in (rows_in fs) ≡ alive_in (edited (rows_in es) id killed) = ap alive_in now in omega (arith, count, all, old, new));
  }
