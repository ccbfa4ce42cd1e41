-- A map from names to bytes, seen as files: what a look-up finds, and what an insert makes.
use Rattle.std.proofs.Common.{◌≡◌, ℕ, List, [], ◌∷◌, map, cond, true, false, Some, refl, sym, ap, ◌∙◌}
use Rattle.std.specs.Prelude.{String, Vec}
use Rattle.std.specs.declared.cmp.Ordering.TheVariants.{Less, Equal, Greater}
use Rattle.std.specs.Ordering.{nat_cmp, is_eq, eq_by_cmp, match_ordering}
use Rattle.std.specs.Cmp.Lexicographic.{slice_cmp, nat_list_cmp_total}
use Rattle.std.specs.Option.{option_map}
use Rattle.std.specs.String.{string_bytes, string_cmp}
use Rattle.std.specs.BTreeMap.{insert_entry, is_at}
use Rattle.std.specs.Map.{lookup}
use Rattle.std.specs.FinMap.{from_entries, find, get-insert, get-from_entries, same_map, slice_cmp-IsAntisymmetric, nat_cmp-IsAntisymmetric}
use Rattle.std.specs.FinMap.Entries.{put, by_order, find-put}
use Rattle.outside.specs.Files.{file_at, stored}
use Rattle.outside.specs.MemFiles.{file_entry, files_of}

-- a list with an entry in its place, and the map with that entry inserted
from_entries-put : (name bytes : List ℕ) (es : List (List ℕ × List ℕ)) → from_entries (put (slice_cmp nat_cmp) name bytes es) ≡ stored (from_entries es) name bytes
from_entries-put name bytes es =
    let total = nat_list_cmp_total in
    same_map total (slice_cmp-IsAntisymmetric nat_cmp-IsAntisymmetric) _ _
    (λ q. get-from_entries total _ q ∙ find-put _ total q name bytes es
    ∙ sym (get-insert total _ name bytes q ∙ ap (cond (eq_by_cmp (slice_cmp nat_cmp) q name) (Some bytes)) (get-from_entries total es q)))

module _ {A B : Type 0} where
  -- an insert among names goes where it goes among their bytes
  map-insert_entry : (name : String A) (bytes : Vec ℕ B) (es : List (String A × Vec ℕ B)) → map file_entry (insert_entry string_cmp es name bytes) ≡ put (slice_cmp nat_cmp) (string_bytes name) bytes.items (map file_entry es)
  map-insert_entry name bytes [] = refl
  map-insert_entry name bytes (e ∷ es) =
      elim (string_cmp name e.0)
      as (λ o. map file_entry (match_ordering o ((name, bytes) ∷ e ∷ es) ((e.0, bytes) ∷ es) (e ∷ insert_entry string_cmp es name bytes))
      ≡ by_order o ((string_bytes name, bytes.items) ∷ file_entry e ∷ map file_entry es) ((string_bytes e.0, bytes.items) ∷ map file_entry es) (file_entry e ∷ put (slice_cmp nat_cmp) (string_bytes name) bytes.items (map file_entry es))) [
        | Less ↦ refl
        | Equal ↦ refl
        | Greater ↦ ap (λ fs. file_entry e ∷ fs) (map-insert_entry name bytes es)
      ]

  pub files_of-insert_entry : (name : String A) (bytes : Vec ℕ B) (es : List (String A × Vec ℕ B)) → files_of (insert_entry string_cmp es name bytes) ≡ stored (files_of es) (string_bytes name) bytes.items
  files_of-insert_entry name bytes es = ap from_entries (map-insert_entry name bytes es) ∙ from_entries-put (string_bytes name) bytes.items (map file_entry es)

  find-map : (name : List ℕ) (es : List (String A × Vec ℕ B)) → find (slice_cmp nat_cmp) name (map file_entry es) ≡ option_map (λ v. v.items) (lookup (is_at (λ k. slice_cmp nat_cmp name (string_bytes k))) es)
  find-map name [] = refl
  find-map name (e ∷ es) =
      elim (is_eq (slice_cmp nat_cmp name (string_bytes e.0)))
      as (λ b. cond b (Some e.1.items) (find (slice_cmp nat_cmp) name (map file_entry es)) ≡ option_map (λ v. v.items) (cond b (Some e.1) (lookup (is_at (λ k. slice_cmp nat_cmp name (string_bytes k))) es))) [
        | true ↦ refl
        | false ↦ find-map name es
      ]

  pub file_at-files_of : (name : List ℕ) (es : List (String A × Vec ℕ B)) → file_at (files_of es) name ≡ option_map (λ v. v.items) (lookup (is_at (λ k. slice_cmp nat_cmp name (string_bytes k))) es)
  file_at-files_of name es = get-from_entries nat_list_cmp_total (map file_entry es) name ∙ find-map name es

-- what Rattle takes where a keeper in memory reads or writes a file
pub ruleset file_entries = (files_of-insert_entry, file_at-files_of)
