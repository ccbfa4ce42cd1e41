-- What a file tells by itself is what its ledger tells.
use Rattle.std.proofs.Common.{◌≡◌, ℕ, ◌<◌, ◌≤◌, not, ◌&&◌, List, [], ◌∷◌, ◌++◌, map, refl, sym, ap, subst, ◌∙◌}
use Rattle.std.specs.Prelude.{Some, filter, unwrap_or}
use Rattle.std.specs.List.{AllByRecursion}
use Rattle.model.specs.Base.{Base, base_of, member_row, members, past, rows_of_changes, up_to}
use Rattle.model.specs.Change.{Change, EachAfter}
use Rattle.model.specs.Command.{horizon_at, settled, stored_edit, stored_settled, stored_trimmed, with_made}
use Rattle.model.specs.File.{File, snapshot}
use Rattle.model.specs.Held.{first_unfit, held, held_behind, row_behind, waits}
use Rattle.model.specs.Ledger.{IsAmong, Joins, Sound, add}
use Rattle.model.specs.Reading.{advanced, base_in, horizon_in, settled_in, trimmed_in, with_changes, with_settled}
use Rattle.model.specs.Settle.{Settling, settle}
use Rattle.model.specs.Stability.{horizon_among, horizon_of}
use Rattle.model.specs.Stands.{Stands}
use Rattle.model.specs.State.{after, atoms, replay}
use Rattle.model_laws.proofs.ChangeLaws.{EachAfter-front, members_below}
use Rattle.model_laws.proofs.ListLaws.{all_more}
use Rattle.model_laws.proofs.TrimLaws.{replay-append, up_to-append-past}
use Rattle.arrival_laws.proofs.ReadLaws.{Halves, both_readings_agree, rows_agree}
use Rattle.arrival_laws.proofs.TimeLaws.{past_later, times_by, up_to_later}
use Rattle.arrival_laws.specs.Reading.{ReadAlike}
use Rattle.ledger_laws.proofs.FileLaws.{alike_at, files_read_whole, kept_fit, of_rows, same_map}
use Rattle.ledger_laws.proofs.MadeLaws.{AreMade, Grown, acks_of_file}
use Rattle.ledger_laws.proofs.PlanLaws.{edits_of_file}
use Rattle.ledger_laws.proofs.SettleAlike.{files_settle_alike, known_alike, past_added, same_filter}
use Rattle.ledger_laws.specs.FileReading.{FilesTellAll}
use Rattle.ledger_laws.specs.Making.{HoldsMembers}
use Rattle.ledger_laws.specs.Settling.{settled_behind}

-- ---- a base moved on

-- the base of a ledger with the changes behind it, moved on to a later time, is the ledger's at that time
advanced_is : (n T L : ℕ) (h : List Change) → Sound n h → T ≤ L → advanced n (base_of n h T) (past T h) L ≡ base_of n h L
advanced_is n T L h sound l =
    let early = up_to T h in
    let mid = up_to L (past T h) in
    let split : up_to L h ≡ early ++ mid = up_to_later T L h sound.in_order l in
    let whole : up_to L h ++ past L h ≡ h = up_to-append-past L h sound.in_order in
    let each : EachAfter (Joins n) [] (early ++ mid) = subst (λ l. EachAfter (Joins n) [] l) split (EachAfter-front (Joins n) [] (up_to L h) (past L h) (subst (λ l. EachAfter (Joins n) [] l) (sym whole) sound.each)) in
    let halves : Halves n early mid T = record { each = each; by_then = times_by T h } in
    let rows : map (row_behind (base_of n h T) mid) (members n) ≡ map (member_row n (early ++ mid)) (members n) =
    same_map (row_behind (base_of n h T) mid) (member_row n (early ++ mid)) (members n) (all_more (λ m. m < n) (λ m. row_behind (base_of n h T) mid m ≡ member_row n (early ++ mid) m) (λ m lt. rows_agree n early mid T halves m lt) (members n) (members_below n)) in
    let state : after (replay early) (atoms mid) ≡ replay (early ++ mid) = sym (replay-append early mid) in
    (λ i. record { horizon = L; rows = rows i; state = state i }) ∙ ap (λ c. record { horizon = L; rows = rows_of_changes n c; state = replay c }) (sym split)

-- ---- made changes

made_past : (n T : ℕ) (mine : List ℕ) (h cs : List Change) → AreMade n T mine h cs → with_made (past T h) cs ≡ past T (with_made h cs)
made_past n T mine h [] are = refl
made_past n T mine h (c ∷ cs) are = ap (λ l. with_made l cs) (sym (past_added T h c are.0.late)) ∙ made_past n T mine (add h c) cs are.1

waits_alike : (n : ℕ) (h : List Change) (b : Base) (kept : List Change) → ReadAlike n h b kept → (c : Change) → IsAmong n c → waits n (held_behind b kept) c ≡ waits n (held n h) c
waits_alike n h b kept r c a =
    let known = known_alike n h b kept c r a in
    let ready = sym (r.ready c a) in
    λ i. not (known i) && not (ready i)

module _ (f : File) (h : List Change) (stands : Stands f h) (below : HoldsMembers f) (waiting : AllByRecursion (IsAmong f.members) f.waiting) where
  abbrev n : ℕ
  n = f.members

  abbrev T : ℕ
  T = stands.horizon

  abbrev b : Base
  b = base_of f.members h stands.horizon

  base_is : base_in f ≡ base_of f.members h stands.horizon
  base_is = ap (λ o. unwrap_or o (base_of f.members [] 0)) stands.base

  time : horizon_at f.base ≡ stands.horizon
  time = ap horizon_at stands.base

  alike : ReadAlike n h b f.kept
  alike = both_readings_agree f h b stands stands.base

  horizon_is : horizon_in f ≡ horizon_of n h
  horizon_is = ap (λ x. horizon_among n (held_behind x f.kept) f.kept) base_is ∙ (files_read_whole f h b stands stands.base below).horizon

  with_grown : (cs : List Change) → Grown n T b f.mine h cs → with_changes f cs ≡ stored_edit f (with_made h cs)
  with_grown cs g =
      let k = with_made h cs in
      let kept : with_made f.kept cs ≡ past T k = ap (λ l. with_made l cs) stands.kept ∙ made_past n T f.mine h cs g.made in
      let read = alike_at n T b k g.keeps in
      let left : filter (waits n (held_behind b (past T k))) f.waiting ≡ filter (waits n (held n k)) f.waiting =
      same_filter (waits n (held_behind b (past T k))) (waits n (held n k)) f.waiting (all_more (IsAmong n) (λ c. waits n (held_behind b (past T k)) c ≡ waits n (held n k) c) (λ c a. waits_alike n k b (past T k) read c a) f.waiting waiting) in
      let still : filter (waits n (held_behind (base_in f) (with_made f.kept cs))) f.waiting ≡ filter (waits n (held n k)) f.waiting =
      ap (λ x. filter (waits n (held_behind x (with_made f.kept cs))) f.waiting) base_is ∙ ap (λ l. filter (waits n (held_behind b l)) f.waiting) kept ∙ left in
      let all : with_made f.kept cs ≡ past (horizon_at f.base) k = kept ∙ ap (λ t. past t k) (sym time) in
      λ i. record f { kept = all i; waiting = still i }

  settled_is : (offered : List Change) → settled_in f offered ≡ settled_behind f b offered
  settled_is offered = ap (λ x. settle n (held_behind x) f.kept f.kept f.waiting offered) base_is

  settles : (offered : List Change) → AllByRecursion (IsAmong n) offered → with_settled f (settled_in f offered) ≡ stored_settled f (settled f h offered)
  settles offered among =
      let a = files_settle_alike f h b offered stands stands.base waiting among in
      let kept : (settled_in f offered).held ≡ past (horizon_at f.base) (settled f h offered).held = ap (λ (s : Settling). s.held) (settled_is offered) ∙ a.kept ∙ ap (λ t. past t (settled f h offered).held) (sym time) in
      let pool : (settled_in f offered).pool ≡ (settled f h offered).pool = ap (λ (s : Settling). s.pool) (settled_is offered) ∙ a.waiting in
      λ i. record f { kept = kept i; waiting = pool i }

  reports : (offered : List Change) → AllByRecursion (IsAmong n) offered → (settled_in f offered).report ≡ (settled f h offered).report
  reports offered among = ap (λ (s : Settling). s.report) (settled_is offered) ∙ (files_settle_alike f h b offered stands stands.base waiting among).report

  base_moved : advanced n (base_in f) f.kept (horizon_in f) ≡ base_of n h (horizon_of n h)
  base_moved =
      ap (λ x. advanced n x f.kept (horizon_in f)) base_is ∙ ap (λ l. advanced n b l (horizon_in f)) stands.kept ∙ ap (advanced n b (past T h)) horizon_is ∙ advanced_is n T (horizon_of n h) h stands.sound stands.reached

  kept_moved : past (horizon_in f) f.kept ≡ past (horizon_of n h) h
  kept_moved = ap (λ t. past t f.kept) horizon_is ∙ ap (past (horizon_of n h)) stands.kept ∙ past_later T (horizon_of n h) h stands.sound.in_order stands.reached

  trims : trimmed_in f ≡ stored_trimmed f h
  trims = let moved = base_moved in let kept = kept_moved in λ i. record f { base = Some (moved i); kept = kept i }

pub files_tell_all : FilesTellAll
files_tell_all f h stands below waiting =
    let n = f.members in
    let b = base_of n h stands.horizon in record {
      state = ap (λ x. after x.state (atoms f.kept)) (base_is f h stands below waiting) ∙ sym (alike f h stands below waiting).state;
      unfit = ap (λ x. first_unfit n x [] f.kept) (base_is f h stands below waiting) ∙ kept_fit f h b stands stands.base;
      vector = ap (λ x. map (λ m. (row_behind x f.kept m).count) (members n)) (base_is f h stands below waiting) ∙ of_rows n h b f.kept (alike f h stands below waiting) (λ row. row.count);
      horizon = horizon_is f h stands below waiting;
      edited = λ e cs is. with_grown f h stands below waiting cs (edits_of_file f h e cs stands below is);
      acknowledged = λ cs is. with_grown f h stands below waiting cs (acks_of_file f h cs stands below is);
      settled_alike = settles f h stands below waiting;
      reported_alike = reports f h stands below waiting;
      trimmed = trims f h stands below waiting;
      snapshot = ap {A = File} (λ x. record x { kind = snapshot; mine = []; waiting = [] }) (trims f h stands below waiting);
    }
