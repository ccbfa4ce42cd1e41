-- The letters of pieces: where they stand in runs, and the ids and characters that are read of them.
use Rattle.std.specs.Prelude.{◌≡◌, ℕ, zero, suc, ◌+◌, ◌-◌, ◌<◌, ◌≤◌, not, cond, Bool, true, false, ◌⊎◌, Option, Some, None, slice_get, List, [], ◌∷◌, ◌++◌, length, map, filter, filter_map, take, drop, refl}
use Rattle.std.proofs.Common.{sym, ◌∙◌, ap, inl, inr, arith, get_or}
use Rattle.std.proofs.lemmas.List.Elements.{filter-append, filter_map-append}
use Rattle.std.specs.List.{AllByRecursion, cons_option}
use Rattle.std.specs.Map.{lookup}
use Rattle.std.specs.Option.{option_map}
use Rattle.std.specs.FinMap.{find}
use Rattle.op_ids.specs.declared.OpId.{OpId}
use Rattle.op_ids.specs.Order.{id_cmp, id_plus, root_id}
use Rattle.model.specs.State.{Character, run_of}
use Rattle.model.specs.View.{is_live}
use Rattle.walk_laws.proofs.Walks.{key_eq}
use Rattle.fugue_text.specs.declared.run.Letter.{Letter}
use Rattle.fugue_text.specs.declared.run.Run.{Run}
use Rattle.fugue_text.specs.declared.pieces.Piece.{Piece}
use Rattle.fugue_text.specs.Runs.{TextRows, AreFilled, IsIn, character_in, letter_of, no_letter, rows_in}
use Rattle.fugue_text.specs.Pieces.{AreFrom, AreLettersOf, IsPiece, alive_characters, alive_ids, ids_in}
use Rattle.fugue_text.proofs.IdLaws.{of_change, plus_exact, plus_plus, plus_zero}
use Rattle.fugue_text.proofs.RunLaws.{Runs, RowsRise, one_run, spot_found}

pub drop_size : (k : ℕ) (ls : List Letter) → length (drop k ls) ≡ length ls - k
drop_size zero ls = omega arith
drop_size (suc k) [] = omega arith
drop_size (suc k) (l ∷ ls) = let rest = drop_size k ls in omega (arith, rest)

take_whole : (n : ℕ) (ls : List Letter) → length ls ≤ n → take n ls ≡ ls
take_whole zero [] h = refl
take_whole zero (l ∷ ls) h = absurd (omega (arith, h))
take_whole (suc n) [] h = refl
take_whole (suc n) (l ∷ ls) h = ap (λ xs. l ∷ xs) (take_whole n ls (omega (arith, h)))

pub take_rest : (k : ℕ) (ls : List Letter) → take (length ls - k) (drop k ls) ≡ drop k ls
take_rest k ls = let size = drop_size k ls in take_whole (length ls - k) (drop k ls) (omega (arith, size))

take_most : (m : ℕ) (ls : List Letter) → length (take m ls) ≤ m
take_most zero ls = omega arith
take_most (suc m) [] = omega arith
take_most (suc m) (l ∷ ls) = let rest = take_most m ls in omega (arith, rest)

nil_taken : (n : ℕ) (ls : List Letter) → ls ≡ [] → slice_get (take n ls) 0 ≡ None
nil_taken zero ls e = refl
nil_taken (suc n) ls e = ap (λ xs. slice_get (take (suc n) xs) 0) e

letter_there : (ls : List Letter) (o m j : ℕ) → j < m → o + j < length ls → slice_get (take m (drop o ls)) j ≡ Some (get_or ls (o + j) no_letter)
letter_there [] o m j h l = absurd (omega (arith, l))
letter_there (x ∷ ls) (suc o) m j h l = (let step : suc (o + j) ≡ suc o + j = omega arith in letter_there ls o m j h (omega (arith, l)) ∙ ap (λ n. Some (get_or (x ∷ ls) n no_letter)) step)
letter_there (x ∷ ls) zero zero j h l = absurd (omega (arith, h))
letter_there (x ∷ ls) zero (suc m) zero h l = refl
letter_there (x ∷ ls) zero (suc m) (suc j) h l = (let step : suc (0 + j) ≡ 0 + suc j = omega arith in letter_there ls zero m j (omega (arith, h)) (omega (arith, l)) ∙ ap (λ n. Some (get_or (x ∷ ls) n no_letter)) step)

-- ---- the letters of a piece

module _ (es : Runs) (rise : RowsRise es) (filled : AreFilled es) (p : Piece) where
  spot_letter : (id f : OpId) (k : ℕ) (i : IsIn es id f k) → option_map letter_of (find id_cmp id (rows_in es)) ≡ Some (get_or i.run.letters.items k no_letter)
  spot_letter id f k i = ap (option_map letter_of) (spot_found id f k es rise i)

  -- a piece that begins in a run has room in it
  room : (f : OpId) (o : ℕ) (i : IsIn es p.id f o) → IsPiece es p → o + p.count ≤ length i.run.letters.items
  room f o i (inl e) = (let w = i.within in omega (arith, w, e))
  room f o i (inr t) =
      let first : f ≡ t.first = one_run p.id f t.first o t.offset es rise i t.is_in in
      let far : o ≡ t.offset = plus_exact f o t.offset (sym i.is ∙ t.is_in.is ∙ ap (λ x. id_plus x t.offset) (sym first)) in
      let same : Some i.run ≡ Some t.is_in.run = sym i.there ∙ ap (λ x. lookup (key_eq x) es) first ∙ t.is_in.there in
      let run : i.run ≡ t.is_in.run = cc in
      let size : length i.run.letters.items ≡ length t.is_in.run.letters.items = ap (λ (r : Run). length r.letters.items) run in
      let w = t.within in
      omega (arith, far, size, w)

  pub letters_read : IsPiece es p → (rest : List Letter) → AreFrom es p.id rest → (m : ℕ) → m ≤ p.count → (length rest ≤ m) ⊎ (m ≡ p.count) → AreLettersOf es p (take m rest)
  letters_read piece rest (inl none) m most all = record { most = (let t = take_most m rest in omega (arith, t, most)); each = nowhere piece }
    where
      nowhere : IsPiece es p → (k : ℕ) → k < p.count → option_map letter_of (find id_cmp (id_plus p.id k) (rows_in es)) ≡ slice_get (take m rest) k
      nowhere (inl e) zero l =
          ap (λ x. option_map letter_of (find id_cmp x (rows_in es))) (plus_zero p.id) ∙ ap (option_map letter_of) none.0 ∙ sym (nil_taken m rest none.1)
      nowhere (inl e) (suc k) l = absurd (omega (arith, e, l))
      nowhere (inr t) k l =
          let no : None ≡ Some (get_or t.is_in.run.letters.items t.offset no_letter) = sym (ap (option_map letter_of) none.0) ∙ spot_letter p.id t.first t.offset t.is_in in
          absurd (let c : None ≡ Some (get_or t.is_in.run.letters.items t.offset no_letter) = no in cc)
  letters_read piece rest (inr b) m most all = record { most = (let t = take_most m rest in omega (arith, t, most)); each = here }
    where
      here : (k : ℕ) → k < p.count → option_map letter_of (find id_cmp (id_plus p.id k) (rows_in es)) ≡ slice_get (take m rest) k
      here k l =
          let space = room b.first b.offset b.is_in piece in
          let size : length rest ≡ length b.is_in.run.letters.items - b.offset = ap length b.rest ∙ drop_size b.offset b.is_in.run.letters.items in
          let enough : k < m = elim all as (λ _. k < m) [ inl s ↦ omega (arith, s, size, space, l) | inr e ↦ omega (arith, e, l) ] in
          let at : IsIn es (id_plus p.id k) b.first (b.offset + k) = record { run = b.is_in.run; there = b.is_in.there; within = omega (arith, space, l); is = ap (λ x. id_plus x k) b.is_in.is ∙ of_change (id_plus (id_plus b.first b.offset) k) (id_plus b.first (b.offset + k)) refl (omega arith) } in
          spot_letter (id_plus p.id k) b.first (b.offset + k) at ∙ sym (ap (λ ls. slice_get (take m ls) k) b.rest ∙ letter_there b.is_in.run.letters.items b.offset m k enough (omega (arith, space, l)))

-- ---- what is read of them

abbrev is_live_letter : Option Letter → Bool
is_live_letter None = false
is_live_letter (Some l) = not l.dead

live_letter : (o : Option Character) → is_live o ≡ is_live_letter (option_map letter_of o)
live_letter None = refl
live_letter (Some c) = refl

own_character : (o : Option Character) → option_map (λ (c : Character). c.character) o ≡ option_map (λ (l : Letter). l.character) (option_map letter_of o)
own_character None = refl
own_character (Some c) = refl

module _ (rows : TextRows) where
  abbrev pub live_in : OpId → Bool
  live_in id = is_live (find id_cmp id rows)

  abbrev Reads : OpId → ℕ → List Letter → Type 0
  Reads id n ls = (k : ℕ) → k < n → option_map letter_of (find id_cmp (id_plus id k) rows) ≡ slice_get ls k

  first_read : (id : OpId) (n : ℕ) (ls : List Letter) → Reads id (suc n) ls → option_map letter_of (find id_cmp id rows) ≡ slice_get ls 0
  first_read id n ls h = ap (λ x. option_map letter_of (find id_cmp x rows)) (sym (plus_zero id)) ∙ h 0 (omega arith)

  none_read : (id : OpId) (n : ℕ) → Reads id (suc n) [] → Reads (id_plus id 1) n []
  none_read id n h k l = ap (λ x. option_map letter_of (find id_cmp x rows)) (plus_plus id k) ∙ h (suc k) (omega (arith, l))

  more_read : (id : OpId) (n : ℕ) (l : Letter) (ls : List Letter) → Reads id (suc n) (l ∷ ls) → Reads (id_plus id 1) n ls
  more_read id n l ls h k m = ap (λ x. option_map letter_of (find id_cmp x rows)) (plus_plus id k) ∙ h (suc k) (omega (arith, m))

  pub ids_read : (id : OpId) (n : ℕ) (ls : List Letter) → length ls ≤ n → Reads id n ls → filter live_in (run_of id n) ≡ alive_ids id ls
  ids_read id zero [] m h = refl
  ids_read id zero (l ∷ ls) m h = absurd (omega (arith, m))
  ids_read id (suc n) [] m h =
      let rest = ids_read (id_plus id 1) n [] (omega arith) (none_read id n h) in
      let dead : live_in id ≡ false = live_letter (find id_cmp id rows) ∙ ap is_live_letter (first_read id n [] h) in
      ap (λ b. cond b (id ∷ filter live_in (run_of (id_plus id 1) n)) (filter live_in (run_of (id_plus id 1) n))) dead ∙ rest
  ids_read id (suc n) (l ∷ ls) m h =
      let rest = ids_read (id_plus id 1) n ls (omega (arith, m)) (more_read id n l ls h) in
      let live : live_in id ≡ not l.dead = live_letter (find id_cmp id rows) ∙ ap is_live_letter (first_read id n (l ∷ ls) h) in
      ap (λ b. cond b (id ∷ filter live_in (run_of (id_plus id 1) n)) (filter live_in (run_of (id_plus id 1) n))) live
      ∙ elim l.dead as (λ d. cond (not d) (id ∷ filter live_in (run_of (id_plus id 1) n)) (filter live_in (run_of (id_plus id 1) n)) ≡ cond d (alive_ids (id_plus id 1) ls) (id ∷ alive_ids (id_plus id 1) ls)) [ true ↦ rest | false ↦ ap (λ is. id ∷ is) rest ]

  pub text_read : (id : OpId) (n : ℕ) (ls : List Letter) → length ls ≤ n → Reads id n ls → filter_map (character_in rows) (filter live_in (run_of id n)) ≡ alive_characters ls
  text_read id zero [] m h = refl
  text_read id zero (l ∷ ls) m h = absurd (omega (arith, m))
  text_read id (suc n) [] m h =
      let rest = text_read (id_plus id 1) n [] (omega arith) (none_read id n h) in
      let dead : live_in id ≡ false = live_letter (find id_cmp id rows) ∙ ap is_live_letter (first_read id n [] h) in
      ap (λ b. filter_map (character_in rows) (cond b (id ∷ filter live_in (run_of (id_plus id 1) n)) (filter live_in (run_of (id_plus id 1) n)))) dead ∙ rest
  text_read id (suc n) (l ∷ ls) m h =
      let rest = text_read (id_plus id 1) n ls (omega (arith, m)) (more_read id n l ls h) in
      let first = first_read id n (l ∷ ls) h in
      let live : live_in id ≡ not l.dead = live_letter (find id_cmp id rows) ∙ ap is_live_letter first in
      let some : character_in rows id ≡ Some l.character = own_character (find id_cmp id rows) ∙ ap (option_map (λ (x : Letter). x.character)) first in
      let ids = filter live_in (run_of (id_plus id 1) n) in
      let letters = filter (λ (x : Letter). not x.dead) ls in
      ap (λ b. filter_map (character_in rows) (cond b (id ∷ ids) ids)) live
      ∙ elim (not l.dead) as (λ b. filter_map (character_in rows) (cond b (id ∷ ids) ids) ≡ map (λ (x : Letter). x.character) (cond b (l ∷ letters) letters)) [ true ↦ (λ i. cons_option (some i) (rest i)) | false ↦ rest ]

  -- ---- of pieces

  pub ids_of_pieces : (p : Piece) (ps : List Piece) → filter live_in (ids_in (p ∷ ps)) ≡ filter live_in (run_of p.id p.count) ++ filter live_in (ids_in ps)
  ids_of_pieces p ps = filter-append live_in (run_of p.id p.count) (ids_in ps)

  pub text_of_pieces : (p : Piece) (ps : List Piece) → filter_map (character_in rows) (filter live_in (ids_in (p ∷ ps))) ≡ filter_map (character_in rows) (filter live_in (run_of p.id p.count)) ++ filter_map (character_in rows) (filter live_in (ids_in ps))
  text_of_pieces p ps = ap (filter_map (character_in rows)) (ids_of_pieces p ps) ∙ filter_map-append (character_in rows) (filter live_in (run_of p.id p.count)) (filter live_in (ids_in ps))

-- what a read of pieces has past their end
abbrev pub no_piece : Piece
no_piece = record { id = root_id; count = 0 }

pub letters_more : (l : Letter) (ls : List Letter) → alive_characters (l ∷ ls) ≡ alive_characters (l ∷ []) ++ alive_characters ls
letters_more l ls =
    elim (not l.dead) as (λ b. map (λ (x : Letter). x.character) (cond b (l ∷ filter (λ (x : Letter). not x.dead) ls) (filter (λ (x : Letter). not x.dead) ls)) ≡ map (λ (x : Letter). x.character) (cond b (l ∷ []) []) ++ alive_characters ls) [ true ↦ refl | false ↦ refl ]

pub ids_more : (id : OpId) (l : Letter) (ls : List Letter) (rest : List OpId) → alive_ids id (l ∷ []) ++ (alive_ids (id_plus id 1) ls ++ rest) ≡ alive_ids id (l ∷ ls) ++ rest
ids_more id l ls rest =
    elim l.dead as (λ d. cond d [] (id ∷ []) ++ (alive_ids (id_plus id 1) ls ++ rest) ≡ cond d (alive_ids (id_plus id 1) ls) (id ∷ alive_ids (id_plus id 1) ls) ++ rest) [ true ↦ refl | false ↦ refl ]

pub drop_past : {X : Type 0} (xs : List X) (i : ℕ) → length xs ≤ i → drop i xs ≡ []
drop_past [] zero h = refl
drop_past [] (suc i) h = refl
drop_past (x ∷ xs) zero h = absurd (omega (arith, h))
drop_past (x ∷ xs) (suc i) h = drop_past xs i (omega (arith, h))

pub all_at : (es : Runs) (ps : List Piece) (i : ℕ) → AllByRecursion (IsPiece es) ps → i < length ps → IsPiece es (get_or ps i no_piece)
all_at es [] i h l = absurd (omega (arith, l))
all_at es (p ∷ ps) zero h l = h.0
all_at es (p ∷ ps) (suc i) h l = all_at es ps i h.1 (omega (arith, l))
