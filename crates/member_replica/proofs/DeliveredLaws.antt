-- What settling makes of a file with the base of no changes, whatever waits in it: a file that keeps the rules of files.
use Rattle.std.proofs.Common.{◌≡◌, ℕ, zero, suc, ◌+◌, ◌<◌, ◌≤◌, ◌^◌, true, false, cond, not, Bool, List, [], ◌∷◌, ◌++◌, length, refl, sym, ap, ◌∙◌, arith}
use Rattle.std.specs.Prelude.{Option, Some, None, filter, fold, take, IfSome}
use Rattle.std.specs.List.{AllByRecursion}
use Rattle.std.proofs.lemmas.List.{length-append}
use Rattle.cbor_det.specs.Item.{spell}
use Rattle.cbor_det.proofs.PlainLaws.{spell_some_bytes}
use Rattle.model.specs.Base.{Base, base_of, rows_of_changes}
use Rattle.model.specs.Change.{Change, IsChange, change_item, has_name, in_order, is_before, name_of, placed}
use Rattle.model.specs.File.{File, IsFile, file_limit, header_item, header_of, member_file, spell_base, spell_changes}
use Rattle.model.specs.Held.{Held, Misfit, fits, held_behind, is_known, is_ready}
use Rattle.model.specs.Ledger.{Joins, Sound, add}
use Rattle.model.specs.Settle.{Settling, all_judged, begun, differs, is_pooled, judged, judged_next, least_ready, most_waiting, name_before, next_judged, offered_one, settle}
use Rattle.model.specs.Stands.{IsStored, Stands}
use Rattle.model.specs.State.{replay}
use Rattle.model_laws.proofs.ListLaws.{all_append, all_both, all_more}
use Rattle.model_laws.proofs.TrimLaws.{past_all, up_to_none}
use Rattle.arrival_laws.proofs.AddLaws.{all_kept, all_pass, before_not_back}
use Rattle.arrival_laws.proofs.SoundLaws.{stays_sound}
use Rattle.ledger_laws.proofs.DeliverLaws.{offer_by}
use Rattle.ledger_laws.proofs.FileLaws.{timed}
use Rattle.ledger_laws.proofs.OrderedLaws.{standing_keep_order}
use Rattle.ledger_laws.proofs.RowLaws.{all_take}
use Rattle.ledger_laws.proofs.SettleLaws.{all_placed, least_is}
use Rattle.keeping_laws.proofs.StoredLaws.{fewer_kept, names_each, names_kept, take_most}
use Rattle.causal_inbox.proofs.NameLaws.{before_trans}
use Rattle.causal_inbox.specs.Names.{NamesRise}
use Rattle.member_replica.proofs.SoundLaws.{IsUntrimmed, among_one, ledgers_read_alike}

-- ---- no more changes than bytes

changes_few : (cs : List Change) → length cs ≤ length (spell_changes cs)
changes_few [] = omega arith
changes_few (c ∷ cs) = omega (arith, length-append (spell (change_item c)) (spell_changes cs), spell_some_bytes (change_item c), changes_few cs)

-- A stored file has no more changes than it may have bytes.
pub stored_few : (bytes : List ℕ) (f : File) → IsStored bytes f → length f.kept + length f.waiting ≤ file_limit
stored_few bytes f stored =
    let head = spell (header_item (header_of f)) in
    let changes = spell_changes f.kept ++ spell_changes f.waiting in
    let most : length bytes ≤ 16777216 = stored.most in
    omega (
      arith,
      ap length stored.spells.whole,
      length-append head (spell_base f.base ++ changes),
      length-append (spell_base f.base) changes,
      length-append (spell_changes f.kept) (spell_changes f.waiting),
      changes_few f.kept,
      changes_few f.waiting,
    )

-- ---- while changes are settled

-- The kept changes are a ledger, and all are changes of n members.
record Goes (n : ℕ) (s : Settling) : Type 0 where
  sound : Sound n s.held
  held : AllByRecursion (IsChange n) s.held
  pool : AllByRecursion (IsChange n) s.pool

abbrev behind : ℕ → List Change → Held
behind n = held_behind (base_of n [] 0)

goes_offer : (n : ℕ) (a b d p : Bool) (s : Settling) (c : Change) → IsChange n c → Goes n s → Goes n (offer_by a b d p s c)
goes_offer n true true d p s c is g = record { sound = g.sound; held = g.held; pool = g.pool }
goes_offer n true false d p s c is g = record { sound = g.sound; held = g.held; pool = g.pool }
goes_offer n false b true p s c is g = record { sound = g.sound; held = g.held; pool = g.pool }
goes_offer n false b false true s c is g = record { sound = g.sound; held = g.held; pool = g.pool }
goes_offer n false b false false s c is g = record { sound = g.sound; held = g.held; pool = all_append (IsChange n) s.pool (c ∷ []) g.pool (is, tt) }

goes_offered : (n : ℕ) (past : Held) (kept : List Change) (s : Settling) (cs : List Change) → AllByRecursion (IsChange n) cs → Goes n s → Goes n (fold (offered_one past kept) s cs)
goes_offered n past kept s [] are g = g
goes_offered n past kept s (c ∷ cs) are g = goes_offered n past kept (offered_one past kept s c) cs are.1 (goes_offer n (is_known past c) (differs kept c) (differs s.pool c) (is_pooled s.pool c) s c are.0 g)

accepted : (n : ℕ) (s : Settling) (c : Change) → Goes n s → IsChange n c → is_ready n (behind n s.held) c ≡ true → fits n (behind n s.held) c ≡ None → Goes n (judged s c None)
accepted n s c g is ready fit =
    let alike = ledgers_read_alike n s.held g.sound.each in
    let among = among_one n c is in
    let joins : Joins n s.held c = record { ready = alike.ready c among ∙ ready; fitting = alike.fitting c among ∙ fit } in
    record {
      sound = stays_sound n s.held c g.sound among joins;
      held = all_append (IsChange n) (filter (λ d. is_before d c) s.held) (c ∷ filter (λ d. is_before c d) s.held) (all_kept (IsChange n) (λ d. is_before d c) s.held g.held)
          (is, all_kept (IsChange n) (λ d. is_before c d) s.held g.held);
      pool = all_kept (IsChange n) (λ d. not (has_name (name_of c) d)) s.pool g.pool;
    }

refused : (n : ℕ) (s : Settling) (c : Change) (m : Misfit) → Goes n s → Goes n (judged s c (Some m))
refused n s c m g = record { sound = g.sound; held = g.held; pool = all_kept (IsChange n) (λ d. not (has_name (name_of c) d)) s.pool g.pool }

goes_on : (n : ℕ) (s : Settling) → Goes n s → Goes n (next_judged n (behind n) s)
goes_on n s g =
    let past = behind n s.held in
    let ready = is_ready n past in
    let least = least_is (λ c. IsChange n c × (ready c ≡ true)) (filter ready s.pool) (all_both (IsChange n) (λ c. ready c ≡ true) (filter ready s.pool) (all_kept (IsChange n) ready s.pool g.pool) (all_pass ready s.pool)) in
    elim (least_ready n past s.pool) as (λ o. IfSome o (λ c. IsChange n c × (ready c ≡ true)) → Goes n (judged_next n past s o)) [
      | None ↦ λ _. g
      | Some c ↦ λ is. elim (fits n past c) as (λ o. fits n past c ≡ o → Goes n (judged s c o)) [ None ↦ λ fit. accepted n s c g is.0 is.1 fit | Some m ↦ λ _. refused n s c m g ] refl
    ] least

goes_through : (turns n : ℕ) (s : Settling) → Goes n s → Goes n (all_judged turns n (behind n) s)
goes_through zero n s g = g
goes_through (suc turns) n s g = goes_through turns n (next_judged n (behind n) s) (goes_on n s g)

-- ---- how many are kept then

fewer_apart : (p q : Change → Bool) (xs : List Change) → ((x : Change) → p x ≡ true → q x ≡ false) → length (filter p xs) + length (filter q xs) ≤ length xs
fewer_apart p q [] apart = omega arith
fewer_apart p q (x ∷ xs) apart =
    let l = fewer_apart p q xs apart in
    elim (p x) as (λ a. p x ≡ a → length (cond a (x ∷ filter p xs) (filter p xs)) + length (cond (q x) (x ∷ filter q xs) (filter q xs)) ≤ suc (length xs)) [
      | true ↦ λ t. (let n : q x ≡ false = apart x t in rw n (omega arith))
      | false ↦ λ t. elim (q x) as (λ b. length (filter p xs) + length (cond b (x ∷ filter q xs) (filter q xs)) ≤ suc (length xs)) [ true ↦ omega arith | false ↦ omega arith ]
    ] refl

one_more : (h : List Change) (c : Change) → length (add h c) ≤ suc (length h)
one_more h c =
    omega (
      arith,
      fewer_apart (λ d. is_before d c) (λ d. is_before c d) h (λ d before. before_not_back d c before),
      length-append (filter (λ d. is_before d c) h) (c ∷ filter (λ d. is_before c d) h),
    )

judged_more : (s : Settling) (c : Change) (m : Option Misfit) → length (judged s c m).held ≤ suc (length s.held)
judged_more s c None = one_more s.held c
judged_more s c (Some m) = omega arith

turn_more : (n : ℕ) (s : Settling) (o : Option Change) (past : Held) → length (judged_next n past s o).held ≤ suc (length s.held)
turn_more n s None past = omega arith
turn_more n s (Some c) past = judged_more s c (fits n past c)

turns_more : (turns n : ℕ) (s : Settling) → length (all_judged turns n (behind n) s).held ≤ length s.held + turns
turns_more zero n s = omega arith
turns_more (suc turns) n s = omega (arith, turn_more n s (least_ready n (behind n s.held) s.pool) (behind n s.held), turns_more turns n (next_judged n (behind n) s))

-- So many are kept and in the pool.
abbrev both : Settling → ℕ
both s = length s.held + length s.pool

offer_more : (a b d p : Bool) (s : Settling) (c : Change) → length (offer_by a b d p s c).held + length (offer_by a b d p s c).pool ≤ suc (length s.held + length s.pool)
offer_more true true d p s c = omega arith
offer_more true false d p s c = omega arith
offer_more false b true p s c = omega arith
offer_more false b false true s c = omega arith
offer_more false b false false s c = omega (arith, length-append s.pool (c ∷ []))

offered_more : (past : Held) (kept : List Change) (s : Settling) (cs : List Change) → both (fold (offered_one past kept) s cs) ≤ both s + length cs
offered_more past kept s [] = omega arith
offered_more past kept s (c ∷ cs) = omega (arith, offer_more (is_known past c) (differs kept c) (differs s.pool c) (is_pooled s.pool c) s c, offered_more past kept (offered_one past kept s c) cs)

-- ---- those that wait, in the order of their names

names_between : (x : Change) (front back : List Change) → NamesRise front → AllByRecursion (λ d. name_before d x ≡ true) front → NamesRise back → AllByRecursion (λ d. name_before x d ≡ true) back → NamesRise (front ++ x ∷ back)
names_between x [] back rise before behind later = (later, behind)
names_between x (a ∷ front) back rise before behind later =
    (all_append (λ d. name_before a d ≡ true) front (x ∷ back) rise.0 (before.0, all_more (λ d. name_before x d ≡ true) (λ d. name_before a d ≡ true) (λ d less. before_trans a x d before.0 less) back later), names_between x front back rise.1 before.1 behind later)

names_rise : (ys xs : List Change) → NamesRise ys → NamesRise (fold (λ ys x. placed name_before x ys) ys xs)
names_rise ys [] rise = rise
names_rise ys (x ∷ xs) rise =
    names_rise (placed name_before x ys) xs
    (names_between x (filter (λ y. name_before y x) ys) (filter (λ y. name_before x y) ys) (names_kept (λ y. name_before y x) ys rise) (all_pass (λ y. name_before y x) ys) (names_kept (λ y. name_before x y) ys rise) (all_pass (λ y. name_before x y) ys))

names_taken : (k : ℕ) (xs : List Change) → NamesRise xs → NamesRise (take k xs)
names_taken zero xs rise = tt
names_taken (suc k) [] rise = tt
names_taken (suc k) (x ∷ xs) rise = (all_take (λ y. name_before x y ≡ true) k xs rise.0, names_taken k xs rise.1)

-- ---- the file

-- the base in the place of some changes
base_for : ℕ → List Change → Base
base_for n early = record { horizon = 0; rows = rows_of_changes n early; state = replay early }

-- A file of a ledger, in which nothing waits.
stands_for : (f : File) (h : List Change) → IsUntrimmed f → f.kind ≡ member_file → Sound f.members h → Stands (record f { kept = h; waiting = [] }) h
unfolding base_for
stands_for f h is kind sound =
    let some = timed f.members h sound in
    record {
      kind = λ bundle. (let bad = sym kind ∙ bundle in absurd cc);
      sound = sound;
      horizon = 0;
      reached = omega arith;
      base = is.base ∙ ap (λ early. Some (base_for f.members early)) (sym (up_to_none 0 h some));
      kept = sym (past_all 0 h some);
      waiting = tt;
    }

-- What settling makes of it keeps the rules of files.
pub settled_is_file : (f : File) (offered : List Change) → IsUntrimmed f → f.kind ≡ member_file → Sound f.members f.kept → AllByRecursion (IsChange f.members) offered → length f.kept + (length f.waiting + length offered) < 2 ^ 32
    → let s = settle f.members (held_behind (base_of f.members [] 0)) f.kept f.kept f.waiting offered in IsFile (record f { kept = s.held; waiting = s.pool })
settled_is_file f offered is kind sound are few =
    let n = f.members in
    let past = behind n f.kept in
    let file = is.is_file in
    let start = begun past f.kept f.waiting in
    let pooled = fold (offered_one past f.kept) start offered in
    let done = all_judged (length pooled.pool) n (behind n) pooled in
    let started : Goes n start = record { sound = sound; held = file.kept; pool = all_kept (IsChange n) (λ c. not (is_known past c)) f.waiting file.waiting } in
    let goes = goes_through (length pooled.pool) n pooled (goes_offered n past f.kept start offered are started) in
    let order = standing_keep_order (record f { kept = done.held; waiting = [] }) done.held (stands_for f done.held is kind goes.sound) in
    let most : length done.held < 2 ^ 32 = omega (arith, few, turns_more (length pooled.pool) n pooled, offered_more past f.kept start offered, fewer_kept (λ c. not (is_known past c)) f.waiting) in
    record {
      header = record {
        version = file.header.version;
        document_bytes = file.header.document_bytes;
        document_length = file.header.document_length;
        members_some = file.header.members_some;
        members_most = file.header.members_most;
        mine_rises = file.header.mine_rises;
        mine_below = file.header.mine_below;
        kept_most = most;
        waiting_most = take_most most_waiting (in_order name_before done.pool);
        others_hold_none = λ other. absurd (other kind);
      };
      base = file.base;
      kept = goes.held;
      waiting = all_take (IsChange n) most_waiting (in_order name_before done.pool) (all_placed (IsChange n) [] done.pool tt goes.pool);
      kept_in_order = order.in_order;
      waiting_in_order = names_each (take most_waiting (in_order name_before done.pool)) (names_taken most_waiting (in_order name_before done.pool) (names_rise [] done.pool tt));
      numbered = order.numbered;
      reached = order.reached;
    }
