-- What commands store of a stored file that stands for a ledger keeps every rule of files.
use Rattle.std.proofs.Common.{◌≡◌, ◌≢◌, ℕ, ◌<◌, ◌≤◌, ◌^◌, true, false, cond, ltb, List, [], ◌∷◌, ◌++◌, length, map, max, refl, sym, ap, subst, ◌∙◌, arith, inl, inr}
use Rattle.std.specs.Prelude.{Some, Ok, filter, flat_map, fold, codes}
use Rattle.std.specs.List.{AllByRecursion}
use Rattle.std.proofs.lemmas.List.{length-append, length-map}
use Rattle.std.proofs.lemmas.Bool.{lt-ltb, le-ltb, cases_lt}
use Rattle.cbor_det.specs.Head.{head}
use Rattle.cbor_det.specs.Item as cbor
use Rattle.cbor_det.specs.Item.{spell}
use Rattle.cbor_det.proofs.ItemLaws.{spell-list}
use Rattle.cbor_det.proofs.PlainLaws.{spell_some_bytes}
use Rattle.model.specs.Value.{row, numbers_item}
use Rattle.model.specs.Base.{Base, base_of, up_to, past, last_of, member_row}
use Rattle.model.specs.BaseItem.{IsMemberRow}
use Rattle.model.specs.Change.{Change, EachAfter, IsChange, change_item}
use Rattle.model.specs.Command.{made_acks, made_edit, with_made, stored_edit, stored_trimmed, stored_snapshot, horizon_at}
use Rattle.model.specs.Edit.{Edit}
use Rattle.model.specs.File.{File, Kind, Header, IsFile, IsBase, HasBase, file_limit, header_item, header_of, kind_number, spell_base, spell_changes, member_file, bundle, snapshot}
use Rattle.model.specs.Held.{held, waits}
use Rattle.model.specs.Ledger.{Joins, Sound}
use Rattle.model.specs.Stability.{horizon_of}
use Rattle.model.specs.Stands.{Stands, IsStored}
use Rattle.model.specs.State.{replay}
use Rattle.model_laws.proofs.ListLaws.{all_append, all_from_map, all_more, fold_max_each}
use Rattle.model_laws.proofs.TrimLaws.{up_to-append-past}
use Rattle.arrival_laws.proofs.AddLaws.{all_kept, filter-append}
use Rattle.arrival_laws.proofs.ReadLaws.{Halves}
use Rattle.arrival_laws.proofs.TimeLaws.{times_by}
use Rattle.arrival_laws.proofs.StableLaws.{horizon_members, of_member}
use Rattle.ledger_laws.proofs.MadeLaws.{AreHeld, Keeps, acks_of_file, are_held, grown_stands, starts}
use Rattle.ledger_laws.proofs.OrderedLaws.{standing_keep_order}
use Rattle.ledger_laws.proofs.PlanLaws.{edits_of_file}
use Rattle.ledger_laws.proofs.StoreLaws.{stored_files_stand}
use Rattle.ledger_laws.specs.Making.{MadeStand}
use Rattle.keeping_laws.specs.Forms.{IsEdit}
use Rattle.keeping_laws.specs.Keeping.{StoredKeepRules}
use Rattle.keeping_laws.proofs.BaseLaws.{IsOn, base_formed, base_moved_on, moved_on}
use Rattle.keeping_laws.proofs.MadeForms.{AreMadeOf, CountsFit, acks_are, edits_are}
use Rattle.keeping_laws.proofs.MemberRows.{row_formed}
use Rattle.keeping_laws.proofs.StoredLaws.{begun_file, bundled, fewer_kept, names_each, names_from, names_kept, nil_sorted, released, took}

-- ---- no more changes than bytes

changes_few : (cs : List Change) → length cs ≤ length (spell_changes cs)
changes_few [] = omega arith
changes_few (c ∷ cs) = omega (arith, length-append (spell (change_item c)) (spell_changes cs), spell_some_bytes (change_item c), changes_few cs)

items_few : (xs : List cbor.Item) → length xs ≤ length (flat_map spell xs)
items_few [] = omega arith
items_few (x ∷ xs) = omega (arith, length-append (spell x) (flat_map spell xs), spell_some_bytes x, items_few xs)

row_few : (xs : List cbor.Item) → length (flat_map spell xs) ≤ length (spell (row xs))
row_few xs = omega (arith, ap length (spell-list xs), length-append (head 4 (length xs)) (flat_map spell xs))

numbers_few : (ns : List ℕ) → length ns ≤ length (spell (numbers_item ns))
numbers_few ns = omega (arith, row_few (map cbor.unsigned ns), items_few (map cbor.unsigned ns), length-map ns cbor.unsigned)

inner_few : (front : List cbor.Item) (x : cbor.Item) (back : List cbor.Item) → length (spell x) ≤ length (flat_map spell (front ++ x ∷ back))
inner_few [] x back = omega (arith, length-append (spell x) (flat_map spell back))
inner_few (y ∷ front) x back = omega (arith, length-append (spell y) (flat_map spell (front ++ x ∷ back)), inner_few front x back)

header_few : (h : Header) → length h.mine ≤ length (spell (header_item h))
header_few h =
    let front = cbor.text (codes "outline") ∷ cbor.unsigned h.version ∷ cbor.unsigned (kind_number h.kind) ∷ cbor.bytes h.document ∷ cbor.unsigned h.members ∷ [] in
    let back = cbor.unsigned h.kept ∷ cbor.unsigned h.waiting ∷ [] in
    omega (arith, row_few (front ++ numbers_item h.mine ∷ back), inner_few front (numbers_item h.mine) back, numbers_few h.mine)

-- a stored file has no more kept changes, and holds no more members, than it may have bytes
record IsFew (f : File) : Type 0 where
  kept : length f.kept ≤ file_limit
  mine : length f.mine ≤ file_limit

few : (bytes : List ℕ) (f : File) → IsStored bytes f → IsFew f
few bytes f s =
    let head = spell (header_item (header_of f)) in
    let rest = spell_changes f.kept ++ spell_changes f.waiting in
    let whole = ap length s.spells.whole in
    let most : length bytes ≤ 16777216 = s.most in
    let a = length-append head (spell_base f.base ++ rest) in
    let b = length-append (spell_base f.base) rest in
    let c = length-append (spell_changes f.kept) (spell_changes f.waiting) in
    record { kept = omega (arith, changes_few f.kept); mine = omega (arith, header_few (header_of f)) }

-- ---- later changes

all_later : (P : Change → Type 0) (T L : ℕ) (h : List Change) → T ≤ L → AllByRecursion P (past T h) → AllByRecursion P (past L h)
all_later P T L [] l a = tt
all_later P T L (c ∷ h) l a =
    elim (cases_lt L c.time) as (λ _. AllByRecursion P (past L (c ∷ h))) [
      | inl lt ↦
          let t : ltb T c.time ≡ true = lt-ltb T c.time (omega arith) in
          let u : ltb L c.time ≡ true = lt-ltb L c.time lt in
          let a' : AllByRecursion P (c ∷ past T h) = rw t at a in
          rw u (a'.0, all_later P T L h l a'.1)
      | inr ge ↦
          let u : ltb L c.time ≡ false = le-ltb L c.time ge in
          let a' : AllByRecursion P (past T h) = elim (ltb T c.time) as (λ b. AllByRecursion P (cond b (c ∷ past T h) (past T h)) → AllByRecursion P (past T h)) [ true ↦ λ k. k.1 | false ↦ λ k. k ] a in
          rw u (all_later P T L h l a')
    ]

few_later : (T L : ℕ) (h : List Change) → T ≤ L → length (past L h) ≤ length (past T h)
few_later T L [] l = omega arith
few_later T L (c ∷ h) l =
    let rest = few_later T L h l in
    elim (cases_lt L c.time) as (λ _. length (past L (c ∷ h)) ≤ length (past T (c ∷ h))) [
      | inl lt ↦
          let t : ltb T c.time ≡ true = lt-ltb T c.time (omega arith) in
          let u : ltb L c.time ≡ true = lt-ltb L c.time lt in
          rw (t, u) (omega arith)
      | inr ge ↦
          let u : ltb L c.time ≡ false = le-ltb L c.time ge in
          rw u (elim (ltb T c.time) as (λ b. length (past L h) ≤ length (cond b (c ∷ past T h) (past T h))) [ true ↦ omega arith | false ↦ rest ])
    ]

-- a time that no change is past
abbrev latest : List Change → ℕ
latest h = fold max 0 (map (λ c. c.time) h)

none_past : (h : List Change) → AllByRecursion (λ c. c.time ≤ latest h) h
none_past h = all_from_map (λ t. t ≤ latest h) (λ c. c.time) h (fold_max_each 0 (map (λ c. c.time) h))

acks_made : (n T : ℕ) (base : Base) (mine ms : List ℕ) (h cs : List Change) → AreHeld n mine ms → Keeps n T base h → CountsFit n h → made_acks n (held n) h ms ≡ Ok cs → AreMadeOf n (length ms) cs
acks_made n T base mine [] h cs held_by k fit e = absurd cc
acks_made n T base mine (m ∷ ms) h cs held_by k fit e = acks_are n T base mine (m ∷ ms) h cs held_by k fit e

-- ---- a stored file that stands for a ledger

with_base : (n : ℕ) (k : Kind) (b : Base) → k ≢ bundle → IsBase n b → HasBase n k (Some b)
with_base n member_file b ne is = is
with_base n bundle b ne is = absurd (ne refl)
with_base n snapshot b ne is = is

base_from : (n : ℕ) (k : Kind) (b : Base) → k ≢ bundle → HasBase n k (Some b) → IsBase n b
base_from n member_file b ne is = is
base_from n bundle b ne is = absurd (ne refl)
base_from n snapshot b ne is = is

no_changes : (cs : List Change) → length cs ≡ 0 → cs ≡ []
no_changes [] e = refl
no_changes (c ∷ cs) e = absurd (omega arith)

module _ (bytes : List ℕ) (f : File) (h : List Change) (stored : IsStored bytes f) (stands : Stands f h) where
  abbrev n : ℕ
  n = f.members

  abbrev T : ℕ
  T = stands.horizon

  file : IsFile f
  file = stored.spells.is_file

  some : 1 ≤ n
  some = file.header.members_some

  base_is : IsBase n (base_of n h T)
  base_is = base_from n f.kind (base_of n h T) stands.kind (subst (HasBase n f.kind) stands.base file.base)

  kept_each : AllByRecursion (IsChange n) (past T h)
  kept_each = subst (AllByRecursion (IsChange n)) stands.kept file.kept

  parts : up_to T h ++ past T h ≡ h
  parts = up_to-append-past T h stands.sound.in_order

  row_is : (m : ℕ) → m < n → IsMemberRow n (member_row n h m)
  row_is m lt =
      let halves : Halves n (up_to T h) (past T h) T = record { each = subst (λ l. EachAfter (Joins n) [] l) (sym parts) stands.sound.each; by_then = times_by T h } in
      subst (λ l. IsMemberRow n (member_row n l m)) parts (row_formed n (up_to T h) (past T h) T halves base_is.forms.rows kept_each m lt)

  fit : CountsFit n h
  fit k lt = (row_is k lt).count

  -- ---- trimmed

  abbrev L : ℕ
  L = horizon_of n h

  horizon_most : L < 2 ^ 48
  horizon_most =
      let l : horizon_of n h ≤ last_of h 0 = of_member (λ m. horizon_of n h ≤ last_of h m) n 0 (horizon_members n h) some in
      let most : last_of h 0 < 2 ^ 48 = (row_is 0 some).last in
      omega arith

  moved : IsBase n (base_of n h L)
  moved = base_moved_on n T L h stands.sound stands.reached horizon_most base_is kept_each

  fewer : length (past L h) < 2 ^ 32
  fewer = (let a = few_later T L h stands.reached in let b = ap length stands.kept in let c : length f.kept < 2 ^ 32 = file.header.kept_most in omega arith)

  trimmed_is : IsFile (stored_trimmed f h)
  trimmed_is =
      let order = standing_keep_order (stored_trimmed f h) h (stored_files_stand f h stands).trimmed in record {
        header = record {
          version = file.header.version;
          document_bytes = file.header.document_bytes;
          document_length = file.header.document_length;
          members_some = file.header.members_some;
          members_most = file.header.members_most;
          mine_rises = file.header.mine_rises;
          mine_below = file.header.mine_below;
          kept_most = fewer;
          waiting_most = file.header.waiting_most;
          others_hold_none = file.header.others_hold_none;
        };
        base = with_base n f.kind (base_of n h L) stands.kind moved;
        kept = all_later (IsChange n) T L h stands.reached kept_each;
        waiting = file.waiting;
        kept_in_order = order.in_order;
        waiting_in_order = file.waiting_in_order;
        numbered = order.numbered;
        reached = order.reached;
      }

  snapshot_is : IsFile (stored_snapshot f h)
  snapshot_is =
      let order = standing_keep_order (stored_snapshot f h) h (stored_files_stand f h stands).snapshot in record {
        header = record {
          version = file.header.version;
          document_bytes = file.header.document_bytes;
          document_length = file.header.document_length;
          members_some = file.header.members_some;
          members_most = file.header.members_most;
          mine_rises = nil_sorted;
          mine_below = tt;
          kept_most = fewer;
          waiting_most = omega arith;
          others_hold_none = λ _. (refl, refl);
        };
        base = moved;
        kept = all_later (IsChange n) T L h stands.reached kept_each;
        waiting = tt;
        kept_in_order = order.in_order;
        waiting_in_order = tt;
        numbered = order.numbered;
        reached = order.reached;
      }

  -- ---- with made changes

  with_changes_is : (cs : List Change) (most : ℕ) → most ≤ file_limit → AreMadeOf n most cs → MadeStand f h cs → IsFile (stored_edit f (with_made h cs))
  with_changes_is cs most limit are m =
      let k = with_made h cs in
      let time : horizon_at f.base ≡ T = ap horizon_at stands.base in
      let split : past (horizon_at f.base) k ≡ f.kept ++ past T cs = ap (λ t. past t k) time ∙ ap (past T) m.last ∙ filter-append (λ c. ltb T c.time) h cs ∙ ap (λ l. l ++ past T cs) (sym stands.kept) in
      let test = waits n (held n k) in
      let order = standing_keep_order (stored_edit f k) k m.stands in
      let b = few bytes f stored in
      let x = b.kept in let y = are.few in
      let late = fewer_kept (λ c. ltb T c.time) cs in
      let wait = fewer_kept test f.waiting in
      let waits_most : length f.waiting ≤ 4096 = file.header.waiting_most in record {
        header = record {
          version = file.header.version;
          document_bytes = file.header.document_bytes;
          document_length = file.header.document_length;
          members_some = file.header.members_some;
          members_most = file.header.members_most;
          mine_rises = file.header.mine_rises;
          mine_below = file.header.mine_below;
          kept_most = omega (arith, ap length split, length-append f.kept (past T cs));
          waiting_most = omega arith;
          others_hold_none = λ ne. (let e = file.header.others_hold_none ne in let none : length f.waiting ≡ 0 = e.1 in (e.0, omega arith));
        };
        base = file.base;
        kept = subst (AllByRecursion (IsChange n)) (sym split) (all_append (IsChange n) f.kept (past T cs) file.kept (all_kept (IsChange n) (λ c. ltb T c.time) cs are.each));
        waiting = all_kept (IsChange n) test f.waiting file.waiting;
        kept_in_order = order.in_order;
        waiting_in_order = names_each (filter test f.waiting) (names_kept test f.waiting (names_from f.waiting file.waiting_in_order));
        numbered = order.numbered;
        reached = order.reached;
      }

  abbrev H : ℕ
  H = max T (latest h)

  on : IsOn n (max T (latest h)) (replay h)
  on =
      let by : AllByRecursion (λ c. c.time ≤ max T (latest h)) (past T h) = all_more (λ c. c.time ≤ latest h) (λ c. c.time ≤ max T (latest h)) (λ c l. omega arith) (past T h) (all_kept (λ c. c.time ≤ latest h) (λ c. ltb T c.time) h (none_past h)) in
      subst (λ l. IsOn n (max T (latest h)) (replay l)) parts
      (moved_on n T (max T (latest h)) (up_to T h) (past T h) (omega arith) (subst (Sound n) (sym parts) stands.sound) (record { formed = base_formed n (base_of n h T) base_is; stand = base_is.stand }) kept_each by)

  acknowledged_is : (cs : List Change) → made_acks f.members (held f.members) h f.mine ≡ Ok cs → IsFile (stored_edit f (with_made h cs))
  acknowledged_is cs e =
      let below = file.header.mine_below in
      let grown = acks_of_file f h cs stands below e in
      with_changes_is cs (length f.mine) (few bytes f stored).mine (acks_made n T (base_of n h T) f.mine f.mine h cs (are_held n f.mine below) (starts f h stands) fit e) (grown_stands f h cs stands grown)

  edited_is : (e : Edit) (cs : List Change) → IsEdit e → made_edit f.members (held f.members h) f.mine e ≡ Ok cs → IsFile (stored_edit f (with_made h cs))
  edited_is e cs form is =
      let below = file.header.mine_below in
      let grown = edits_of_file f h e cs stands below is in
      with_changes_is cs 1 (omega arith) (edits_are n (max T (latest h)) f.mine f.mine h cs e (are_held n f.mine below) fit some on form is) (grown_stands f h cs stands grown)

pub state_is_on : (bytes : List ℕ) (f : File) (h : List Change) → IsStored bytes f → Stands f h → (H : ℕ) × IsOn f.members H (replay h)
state_is_on bytes f h stored stands = (max stands.horizon (latest h), on bytes f h stored stands)

-- ---- the laws

pub stored_keep_rules : StoredKeepRules
stored_keep_rules bytes f h stored stands =
    let file = stored.spells.is_file in record {
      edited = edited_is bytes f h stored stands;
      acknowledged = acknowledged_is bytes f h stored stands;
      delivered = λ other b kind s same. took f h file stands b kind s.spells.is_file same (few bytes f stored).kept (few other b s).kept;
      trimmed = trimmed_is bytes f h stored stands;
      snapshot = snapshot_is bytes f h stored stands;
      released = released f h file stands;
      bundled = bundled f h file stands;
      begun = begun_file f h file stands;
    }
