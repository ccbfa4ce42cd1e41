-- The document that `sample` makes of a number: three members' files, edited by what a generator draws, exchanged, acknowledged and trimmed.
use Rattle.std.specs.Prelude.{ℕ, zero, suc, ◌+◌, ◌-◌, ◌/◌, ◌%◌, ◌^◌, ◌==◌, ◌||◌, nat_lt, if◌then◌else◌, List, [], ◌∷◌, ◌++◌, codes, length, map, sum_by, sum, slice_get, Result, Ok, Err, pos}
use Rattle.std.specs.Option.{option_map_or}
use Rattle.op_ids.specs.Order.{root_id, id_eq}
use Rattle.op_ids.specs.declared.OpId.{OpId}
use Rattle.rand_core.specs.Pcg32Seed.{pcg32_seed}
use Rattle.rand_pcg.specs.Lcg.{Lcg}
use Rattle.rand_pcg.specs.Pcg.{pcg32, pcg32_of_seed}
use Rattle.model.specs.Value.{integer}
use Rattle.model.specs.Change.{Change}
use Rattle.model.specs.State.{is_above}
use Rattle.model.specs.View.{children, live_characters, live_elements, view}
use Rattle.model.specs.File.{File, spell_file}
use Rattle.model.specs.Edit.{Edit, new_child, move_child, type_at, add_at, others}
use Rattle.model.specs.Held.{held_behind}
use Rattle.model.specs.Command.{Unmade, made_edit, made_acks, new_file, stored_bundle, stored_begun, stored_released}
use Rattle.model.specs.Reading.{base_in, held_in, state_in, vector_in, with_changes, settled_in, with_settled, trimmed_in, snapshot_in}
use Rattle.model.specs.Text.{field}
use Rattle.outline_meaning.specs.declared.status.Status.{Status}
use Rattle.outline_meaning.specs.Outcome.{Outcome, storing}

-- ---- draws

-- what was drawn, and the generator after it
pub record Drawn (A : Type 0) : Type 0 where
  pub value : A
  pub generator : Lcg

-- a number below k
abbrev pub pick : ℕ → Lcg → Drawn ℕ
pick k g = record { value = (pcg32 g).0 % k; generator = (pcg32 g).1 }

-- a draw, and then another
infixl 10 ◌>>=◌
abbrev pub ◌>>=◌ : {A B : Type 0} → (Lcg → Drawn A) → (A → Lcg → Drawn B) → Lcg → Drawn B
(◌>>=◌) {A} {B} first next = λ g. next (first g).value (first g).generator

abbrev pub give : {A : Type 0} → A → Lcg → Drawn A
give x g = record { value = x; generator = g }

abbrev pub pick_node : File → Lcg → Drawn OpId
pick_node f = do
  i ← pick (length (view (state_in f)))
  give (option_map_or (λ n. n.id) (slice_get (view (state_in f)) i) root_id)

-- so many letters from a to z
abbrev pub letters : ℕ → Lcg → Drawn (List ℕ)
letters zero = give []
letters (suc k) = do
  letter ← pick 26
  more ← letters k
  give ((97 + letter) ∷ more)

-- ---- what is done to files

-- the file with what was made
abbrev pub with_made_changes : File → Result (List Change) Unmade → File
with_made_changes f (Ok cs) = with_changes f cs
with_made_changes f (Err e) = f

abbrev pub edit_file : File → Edit → File
edit_file f e = with_made_changes f (made_edit f.members (held_in f) f.mine e)

abbrev pub ack_file : File → File
ack_file f = with_made_changes f (made_acks f.members (held_behind (base_in f)) f.kept f.mine)

-- a bundle of what the second file hasn't, delivered to it
abbrev pub send : File → File → File
send from to = with_settled to (settled_in to (stored_bundle from (vector_in to)).kept)

-- the files of the three members
pub record Three : Type 0 where
  pub a : File
  pub b : File
  pub c : File

-- The first file is founded, gives up two members, and the other two files begin from its snapshot.
abbrev pub three : List ℕ → Three
three document =
    let a = new_file document 3 in
    record { a = stored_released (stored_released a 1) 2; b = stored_begun (snapshot_in a) 1; c = stored_begun (snapshot_in a) 2 }

-- Each sends to each other, in this order.
abbrev pub exchanged : Three → Three
exchanged t =
    let b = send t.a t.b in
    let c = send t.a t.c in
    let a = send b t.a in
    let c = send b c in
    let a = send c a in
    record { a = a; b = send c b; c = c }

-- All exchange, then all acknowledge what they hold, and the first is trimmed.
abbrev pub evened : Three → Three
evened t =
    let e = exchanged t in
    record { a = trimmed_in (ack_file e.a); b = ack_file e.b; c = ack_file e.c }

-- ---- a round

abbrev pub new_node_round : File → Lcg → Drawn File
new_node_round f = do
  node ← pick_node f
  i ← pick (length (children (state_in f) node) + 1)
  give (edit_file f (new_child node i))

abbrev pub type_round : File → Lcg → Drawn File
type_round f = do
  node ← pick_node f
  at ← pick (length (live_characters (state_in f) node) + 1)
  more ← pick 150
  text ← letters (1 + more)
  give (edit_file f (type_at node at text))

abbrev pub moved_to : File → OpId → OpId → Lcg → Drawn File
moved_to f child parent = do
  i ← pick (length (others child (children (state_in f) parent)) + 1)
  give (edit_file f (move_child child parent i))

-- What can't be moved below the parent is acknowledged instead.
abbrev pub move_child_round : File → OpId → OpId → Lcg → Drawn File
move_child_round f child parent =
    if id_eq child root_id || is_above (state_in f).nodes child parent then give (ack_file f) else moved_to f child parent

abbrev pub move_round : File → Lcg → Drawn File
move_round f = do
  child ← pick_node f
  parent ← pick_node f
  move_child_round f child parent

abbrev pub add_round : File → Lcg → Drawn File
add_round f = do
  node ← pick_node f
  at ← pick (length (live_elements (state_in f) node) + 1)
  x ← pick 1000
  give (edit_file f (add_at node at (integer (pos x))))

abbrev pub edit_round : File → Lcg → Drawn File
edit_round f = do
  d ← pick 10
  if nat_lt d 4 then new_node_round f else if nat_lt d 8 then type_round f else if d == 8 then move_round f else add_round f

-- one of the three, in turn
abbrev pub file_in : ℕ → Three → File
file_in r t = if r % 3 == 0 then t.a else if r % 3 == 1 then t.b else t.c

abbrev pub with_file : ℕ → Three → File → Three
with_file r t f = if r % 3 == 0 then record t { a = f } else if r % 3 == 1 then record t { b = f } else record t { c = f }

-- After each twenty rounds all is evened.
abbrev pub round : ℕ → Three → Lcg → Drawn Three
round r t = do
  f ← edit_round (file_in r t)
  let after = with_file r t f
  give (if (r + 1) % 20 == 0 then evened after else after)

-- so many rounds, from this one on
abbrev pub rounds : ℕ → ℕ → Three → Lcg → Drawn Three
rounds zero r t = give t
rounds (suc left) r t = do
  after ← round r t
  rounds left (r + 1) after

-- ---- the whole

-- a number's 8 bytes, the highest first, twice
abbrev pub document_id : ℕ → List ℕ
document_id seed =
    let bytes = map (λ k. seed / 256 ^ k % 256) (7 ∷ 6 ∷ 5 ∷ 4 ∷ 3 ∷ 2 ∷ 1 ∷ 0 ∷ []) in
    bytes ++ bytes

-- the first file at the end
abbrev pub sample_file : ℕ → ℕ → File
sample_file seed size =
    let t = (rounds size 0 (three (document_id seed)) (pcg32_of_seed (pcg32_seed 16 seed))).value in
    trimmed_in (exchanged (evened t)).a

abbrev pub counted_line : List ℕ → ℕ → List ℕ
counted_line word n = word ++ (field n ++ codes "\n")

abbrev pub summary : ℕ → File → List ℕ
summary size f =
    let nodes = view (state_in f) in
    counted_line (codes "rounds") size
    ++ (counted_line (codes "nodes") (length nodes - 1)
    ++ (counted_line (codes "characters") (sum_by (λ n. length n.text) nodes)
    ++ (counted_line (codes "items") (sum_by (λ n. length n.elements) nodes)
    ++ (counted_line (codes "changes") (sum (vector_in f))
    ++ (counted_line (codes "horizon") (base_in f).horizon
    ++ (counted_line (codes "kept") (length f.kept)
    ++ counted_line (codes "bytes") (length (spell_file f))))))))

abbrev pub sampled : ℕ → ℕ → Result Outcome Status
sampled seed size = let f = sample_file seed size in storing f (summary size f)
