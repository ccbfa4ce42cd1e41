-- What is left to print after each step.
use Rattle.std.proofs.Common.{◌≡◌, ℕ, suc, ◌-◌, ◌<◌, Bool, true, false, List, [], ◌∷◌, ◌++◌, length, map, Result, Ok, Err, Option, None, Some, refl, sym, ap, subst, ◌∙◌, append_assoc, arith, lit<}
use Rattle.std.specs.Prelude.{◌==◌, ◌↔◌, codes, decimal, encode_utf8}
use Rattle.std.specs.Option.{option_to_list}
use Rattle.std.specs.List.{AllByRecursion, flat_map}
use Rattle.std.proofs.lemmas.Bool.{eqb-true}
use Rattle.std.proofs.lemmas.List.{append-nil, length-append, map-append, flat_map_more, nil_from_length}
use Rattle.std.proofs.lemmas.Str.{encode_ascii}
use Rattle.cbor_det.specs.declared.fault.CborFault.{CborFault}
use Rattle.cbor_det.specs.declared.diagnostics.DiagnosticFault.{DiagnosticFault}
use Rattle.cbor_det.specs.declared.diagnostics.DiagnosticFault.TheVariants.{Cbor, NoMemory}
use Rattle.cbor_det.specs.declared.printing.Task.{Task}
use Rattle.cbor_det.specs.declared.printing.Task.TheVariants as tasks
use Rattle.cbor_det.specs.Head.{Stop, head}
use Rattle.cbor_det.specs.Item.{Item, no_items, item, no_pairs, pair, unsigned, negative, bytes, text, list, map as map_item, tag, simple, item_count, pair_count, spell, IsItem, AreItems, ArePairs, nesting, nesting_items, nesting_pairs, IsSpelled, max_nesting, Spells}
use Rattle.cbor_det.specs.Flaw.{Start, leaf, open_list, open_map, open_tag, start_at, HasFlaw}
use Rattle.cbor_det.specs.Notation.{others, joined, notation, notations, pair_notations, notation_lines}
use Rattle.cbor_det.specs.Printing.{start_text, opened_by, Todo, items_left, pairs_left, value_left, IsTodo, task_of, todo_bytes, todo_text, listed, comma, GoesOn, owed_bytes, owed_text, IsPrinting, WantsItem, StandsFirst}
use Rattle.cbor_det.proofs.StartLaws.{spell_start, IsStart, start_again}
use Rattle.cbor_det.proofs.SequenceLaws.{spell_some, spell_length, Spells-no_flaw}
use Rattle.cbor_det.proofs.PlaceLaws.{HasFlaw-unique}

-- ---- before the next item, and at the end

text_on : (before after c n o e : List ℕ) → after ≡ before ++ c → after ++ (n ++ (o ++ e)) ≡ before ++ ((c ++ (n ++ o)) ++ e)
text_on before after c n o e out = rw out (simp append_assoc)

listed_more : (first : Bool) (n : List ℕ) (ns : List (List ℕ)) → listed first (n ∷ ns) ≡ comma first ++ (n ++ others ns)
listed_more true n ns = refl
listed_more false n ns = refl

listed_none : (first : Bool) → listed first [] ≡ []
listed_none true = refl
listed_none false = refl

pub ends_items : (t : Todo) (task : Task) (left : ℕ) (first : Bool) (close : ℕ) (before after : List ℕ) → task ≡ tasks.Items left first close → left ≡ 0 → task ≡ task_of t → after ≡ before ++ encode_utf8 close → GoesOn t before after None
ends_items (items_left no_items f c) task left first close before after is none e out =
    let same : c ≡ close = cc in
    (refl, rw (listed_none f, same) out)
ends_items (items_left (item x xs) f c) task left first close before after is none e out =
    let some : left ≡ suc (item_count xs) = cc in
    absurd (omega arith)
ends_items (pairs_left ps f) task left first close before after is none e out = absurd cc
ends_items (value_left v ps) task left first close before after is none e out = absurd cc

pub next_items : (t : Todo) (task : Task) (left : ℕ) (first : Bool) (close : ℕ) (before after : List ℕ) → IsTodo t → task ≡ tasks.Items left first close → (left ≡ 0 → ⊥) → task ≡ task_of t → after ≡ before ++ comma first
    → GoesOn t before after (Some (tasks.Items (left - 1) false close))
unfolding AreItems nesting_items
next_items (items_left no_items f c) task left first close before after h is some e out =
    let none : left ≡ 0 = cc in
    absurd (some none)
next_items (items_left (item x xs) f c) task left first close before after h is some e out =
    let more : left ≡ suc (item_count xs) = cc in
    let less : left - 1 ≡ item_count xs = omega arith in
    let same : close ≡ c = cc in
    let one : first ≡ f = cc in (
      x,
      items_left xs false c,
      (h.0.0, omega (arith, h.1)),
      (h.0.1, omega (arith, h.1)),
      rw (less, same) refl,
      refl,
      text_on before after (comma f) (notation x) (others (notations xs)) (encode_utf8 c) (out ∙ ap (λ b. before ++ comma b) one)
          ∙ ap (λ l. before ++ (l ++ encode_utf8 c)) (sym (listed_more f (notation x) (notations xs))),
    )
next_items (pairs_left ps f) task left first close before after h is some e out = absurd cc
next_items (value_left v ps) task left first close before after h is some e out = absurd cc

pub ends_pairs : (t : Todo) (task : Task) (left : ℕ) (first : Bool) (before after : List ℕ) → task ≡ tasks.Pairs left first → left ≡ 0 → task ≡ task_of t → after ≡ before ++ codes "}" → GoesOn t before after None
ends_pairs (items_left xs f c) task left first before after is none e out = absurd cc
ends_pairs (pairs_left no_pairs f) task left first before after is none e out = (refl, rw (listed_none f) out)
ends_pairs (pairs_left (pair k v ps) f) task left first before after is none e out =
    let some : left ≡ suc (pair_count ps) = cc in
    absurd (omega arith)
ends_pairs (value_left v ps) task left first before after is none e out = absurd cc

pub next_pairs : (t : Todo) (task : Task) (left : ℕ) (first : Bool) (before after : List ℕ) → IsTodo t → task ≡ tasks.Pairs left first → (left ≡ 0 → ⊥) → task ≡ task_of t → after ≡ before ++ comma first
    → GoesOn t before after (Some (tasks.Value (left - 1)))
unfolding ArePairs nesting_pairs
next_pairs (items_left xs f c) task left first before after h is some e out = absurd cc
next_pairs (pairs_left no_pairs f) task left first before after h is some e out =
    let none : left ≡ 0 = cc in
    absurd (some none)
next_pairs (pairs_left (pair k v ps) f) task left first before after h is some e out =
    let more : left ≡ suc (pair_count ps) = cc in
    let less : left - 1 ≡ pair_count ps = omega arith in
    let one : first ≡ f = cc in
    let sep = codes ": " in
    let o = others (pair_notations ps) in (
      k,
      value_left v ps,
      (h.1.0, omega (arith, h.2)),
      ((h.1.1, omega (arith, h.2)), (Some (spell k), h.1.3, omega (arith, h.2))),
      rw less refl,
      refl,
      ap (λ (l : List ℕ). after ++ l) (sym (append_assoc (notation k) (sep ++ notation v) (o ++ codes "}") ∙ ap (λ (l : List ℕ). notation k ++ l) (append_assoc sep (notation v) (o ++ codes "}"))))
          ∙ text_on before after (comma f) (notation k ++ (sep ++ notation v)) o (codes "}") (out ∙ ap (λ b. before ++ comma b) one)
          ∙ ap (λ l. before ++ (l ++ codes "}")) (sym (listed_more f (notation k ++ (sep ++ notation v)) (pair_notations ps))),
    )
next_pairs (value_left v ps) task left first before after h is some e out = absurd cc

pub next_value : (t : Todo) (task : Task) (left : ℕ) (before after : List ℕ) → IsTodo t → task ≡ tasks.Value left → task ≡ task_of t → after ≡ before ++ codes ": "
    → GoesOn t before after (Some (tasks.Pairs left false))
next_value (items_left xs f c) task left before after h is e out = absurd cc
next_value (pairs_left ps f) task left before after h is e out = absurd cc
next_value (value_left v ps) task left before after h is e out =
    let same : left ≡ pair_count ps = cc in
    let rest = notation v ++ (others (pair_notations ps) ++ codes "}") in
    (v, pairs_left ps false, h.0, h.1, rw same refl, refl, ap (λ (l : List ℕ). l ++ rest) out ∙ append_assoc before (codes ": ") rest)

-- ---- an item behind its head

abbrev start_in : Item → Start
start_in (unsigned n) = leaf (unsigned n)
start_in (negative n) = leaf (negative n)
start_in (bytes b) = leaf (bytes b)
start_in (text t) = leaf (text t)
start_in (list xs) = open_list (item_count xs)
start_in (map_item ps) = open_map (pair_count ps)
start_in (tag n x) = open_tag n
start_in (simple s) = leaf (simple s)

abbrev todo_in : Item → List Todo
todo_in (unsigned n) = []
todo_in (negative n) = []
todo_in (bytes b) = []
todo_in (text t) = []
todo_in (list xs) = items_left xs true 93 ∷ []
todo_in (map_item ps) = pairs_left ps true ∷ []
todo_in (tag n x) = items_left (item x no_items) true 41 ∷ []
todo_in (simple s) = []

spelled_start : (x : Item) → spell x ≡ spell_start (start_in x) ++ owed_bytes (todo_in x)
spelled_start (unsigned n) = sym (append-nil (spell (unsigned n)))
spelled_start (negative n) = sym (append-nil (spell (negative n)))
spelled_start (bytes b) = sym (append-nil (spell (bytes b)))
spelled_start (text t) = sym (append-nil (spell (text t)))
spelled_start (list xs) = refl
spelled_start (map_item ps) = refl
spelled_start (tag n x) = ap (λ (l : List ℕ). head 6 n ++ l) (sym (append-nil (spell x)))
spelled_start (simple s) = sym (append-nil (spell (simple s)))

printed_start : (x : Item) → notation x ≡ start_text (start_in x) ++ owed_text (todo_in x)
printed_start (unsigned n) = sym (append-nil (notation (unsigned n)))
printed_start (negative n) = sym (append-nil (notation (negative n)))
printed_start (bytes b) = sym (append-nil (notation (bytes b)))
printed_start (text t) = sym (append-nil (notation (text t)))
printed_start (list xs) = ap (λ (l : List ℕ). codes "[" ++ (joined (notations xs) ++ l)) (sym (encode_ascii 93 (lit< tt)))
printed_start (map_item ps) = refl
printed_start (tag n x) =
    sym (ap (λ (l : List ℕ). (decimal n ++ codes "(") ++ ((notation x ++ []) ++ l)) (encode_ascii 41 (lit< tt))
    ∙ append_assoc (decimal n) (codes "(") ((notation x ++ []) ++ codes ")")
    ∙ ap (λ (l : List ℕ). decimal n ++ (codes "(" ++ (l ++ codes ")"))) (append-nil (notation x)))
printed_start (simple s) = sym (append-nil (notation (simple s)))

opened_start : (x : Item) → map task_of (todo_in x) ≡ option_to_list (opened_by (start_in x))
opened_start (unsigned n) = refl
opened_start (negative n) = refl
opened_start (bytes b) = refl
opened_start (text t) = refl
opened_start (list xs) = refl
opened_start (map_item ps) = refl
opened_start (tag n x) = refl
opened_start (simple s) = refl

is_start : (x : Item) → IsSpelled x → IsStart max_nesting (start_in x)
unfolding IsItem
is_start (unsigned n) h = h.0
is_start (negative n) h = h.0
is_start (bytes b) h = h.0
is_start (text t) h = h.0
is_start (list xs) h = (lit< tt, h.0.0)
is_start (map_item ps) h = (lit< tt, h.0.0)
is_start (tag n x) h = (lit< tt, h.0.0)
is_start (simple s) h = tt

are_todos : (x : Item) → IsSpelled x → AllByRecursion IsTodo (todo_in x)
unfolding IsItem AreItems nesting nesting_items
are_todos (unsigned n) h = tt
are_todos (negative n) h = tt
are_todos (bytes b) h = tt
are_todos (text t) h = tt
are_todos (list xs) h = ((h.0.1, omega (arith, h.1)), tt)
are_todos (map_item ps) h = ((None, h.0.1, omega (arith, h.1)), tt)
are_todos (tag n x) h = (((h.0.1, tt), omega (arith, h.1)), tt)
are_todos (simple s) h = tt

abbrev started : Start → List ℕ → Result (Start × List ℕ) Stop
started s rest = Ok (s, rest)

pub head_read : (x : Item) (more : List ℕ) → IsSpelled x → start_at max_nesting (spell x ++ more) ≡ started (start_in x) (owed_bytes (todo_in x) ++ more)
head_read x more h =
    ap (start_at max_nesting) (ap (λ (l : List ℕ). l ++ more) (spelled_start x) ∙ append_assoc (spell_start (start_in x)) (owed_bytes (todo_in x)) more)
    ∙ start_again max_nesting (start_in x) (owed_bytes (todo_in x) ++ more) (is_start x h)

started_parts : (s t : Start) (a b : List ℕ) → started s a ≡ started t b → (s ≡ t) × (a ≡ b)
started_parts s t a b e = let both : ◌≡◌ {A = Start × List ℕ} (s, a) (t, b) = cc in (ap (λ (q : Start × List ℕ). q.0) both, ap (λ (q : Start × List ℕ). q.1) both)

-- where an item stands, no head is flawed
pub head_stands : (rest : List ℕ) (s : Stop) → StandsFirst rest → start_at max_nesting rest ≡ Err s → ⊥
head_stands rest s h e =
    let read : start_at max_nesting rest ≡ started (start_in h.0) (owed_bytes (todo_in h.0) ++ h.1) = ap (start_at max_nesting) h.3 ∙ head_read h.0 h.1 h.2 in
    cc

-- ---- the tasks of several that enclose each other

owed_bytes-append : (ts us : List Todo) → owed_bytes (ts ++ us) ≡ owed_bytes us ++ owed_bytes ts
owed_bytes-append [] us = sym (append-nil (owed_bytes us))
owed_bytes-append (t ∷ ts) us = ap (λ (l : List ℕ). l ++ todo_bytes t) (owed_bytes-append ts us) ∙ append_assoc (owed_bytes us) (owed_bytes ts) (todo_bytes t)

owed_text-append : (ts us : List Todo) → owed_text (ts ++ us) ≡ owed_text us ++ owed_text ts
owed_text-append [] us = sym (append-nil (owed_text us))
owed_text-append (t ∷ ts) us = ap (λ (l : List ℕ). l ++ todo_text t) (owed_text-append ts us) ∙ append_assoc (owed_text us) (owed_text ts) (todo_text t)

All-append : (ts us : List Todo) → AllByRecursion IsTodo ts → AllByRecursion IsTodo us → AllByRecursion IsTodo (ts ++ us)
All-append [] us h k = k
All-append (t ∷ ts) us h k = (h.0, All-append ts us h.1 k)

-- the innermost is done next, and the others are behind it
pub record Behind (whole more : List ℕ) (kept : List Task) (t : Todo) (rest out : List ℕ) : Type 0 where
  pub todos : List Todo
  pub is_todo : IsTodo t
  pub are_todos : AllByRecursion IsTodo todos
  pub tasks : kept ≡ map task_of todos
  pub left : rest ≡ todo_bytes t ++ (owed_bytes todos ++ more)
  pub printed : out ++ (todo_text t ++ owed_text todos) ≡ whole

-- the last of several
record Last (todos : List Todo) (kept : List Task) (task : Task) : Type 0 where
  front : List Todo
  last : Todo
  parts : todos ≡ front ++ last ∷ []
  tasks : kept ≡ map task_of front
  is : task ≡ task_of last

last_of : (todos : List Todo) (kept : List Task) (task : Task) → map task_of todos ≡ kept ++ task ∷ [] → Last todos kept task
last_of [] [] task e = absurd cc
last_of [] (k ∷ kept) task e = absurd cc
last_of (t ∷ []) [] task e = record { front = []; last = t; parts = refl; tasks = refl; is = cc }
last_of (t ∷ (u ∷ todos)) [] task e = absurd cc
last_of (t ∷ todos) (k ∷ kept) task e =
    let h = last_of todos kept task cc in
    let first : k ≡ task_of t = cc in
    record { front = t ∷ h.front; last = h.last; parts = ap (λ (ts : List Todo). t ∷ ts) h.parts; tasks = ap (λ (l : List Task). k ∷ l) h.tasks ∙ ap (λ (a : Task). a ∷ map task_of h.front) first; is = h.is }

pub popped : (whole more : List ℕ) (kept behind : List Task) (task : Task) (rest out : List ℕ) → IsPrinting whole more kept rest out → kept ≡ behind ++ task ∷ [] → (t : Todo) × (task ≡ task_of t) × Behind whole more behind t rest out
popped whole more kept behind task rest out p e =
    let l = last_of p.todos behind task (sym p.tasks ∙ e) in
    let all : AllByRecursion IsTodo (l.front ++ l.last ∷ []) = subst (AllByRecursion IsTodo) l.parts p.are_todos in
    let both = All-parts l.front l.last all in (
      l.last,
      l.is,
      record {
        todos = l.front;
        is_todo = both.1;
        are_todos = both.0;
        tasks = l.tasks;
        left = p.left ∙ ap (λ ts. owed_bytes ts ++ more) l.parts ∙ ap (λ (b : List ℕ). b ++ more) (owed_bytes-append l.front (l.last ∷ [])) ∙ append_assoc (todo_bytes l.last) (owed_bytes l.front) more;
        printed = ap (λ (b : List ℕ). out ++ b) (sym (ap owed_text l.parts ∙ owed_text-append l.front (l.last ∷ []))) ∙ p.printed;
      },
    )
  where
    All-parts : (ts : List Todo) (t : Todo) → AllByRecursion IsTodo (ts ++ t ∷ []) → AllByRecursion IsTodo ts × IsTodo t
    All-parts [] t h = (tt, h.0)
    All-parts (u ∷ ts) t h = let k = All-parts ts t h.1 in ((h.0, k.0), k.1)

-- it is printed to its end
pub ended : (whole more : List ℕ) (kept : List Task) (t : Todo) (rest out after : List ℕ) → Behind whole more kept t rest out → GoesOn t out after None → IsPrinting whole more kept rest after
ended whole more kept t rest out after b g = record {
  todos = b.todos;
  are_todos = b.are_todos;
  tasks = b.tasks;
  left = b.left ∙ ap (λ (l : List ℕ). l ++ (owed_bytes b.todos ++ more)) g.0;
  printed = ap (λ (l : List ℕ). l ++ owed_text b.todos) g.1 ∙ append_assoc out (todo_text t) (owed_text b.todos) ∙ b.printed;
}

-- it goes on with another item
pub went_on : (whole more : List ℕ) (kept : List Task) (t : Todo) (task : Task) (rest out after : List ℕ) → Behind whole more kept t rest out → GoesOn t out after (Some task) → WantsItem whole more (kept ++ task ∷ []) rest after
went_on whole more kept t task rest out after b g =
    let x = g.0 in
    let u = g.1 in
    let others = b.todos in
    record {
      x = x;
      todos = others ++ u ∷ [];
      is_item = g.2;
      are_todos = All-append others (u ∷ []) b.are_todos (g.3, tt);
      tasks = ap (λ (l : List Task). l ++ task ∷ []) b.tasks ∙ ap (λ (a : Task). map task_of others ++ a ∷ []) g.4 ∙ sym (map-append task_of others (u ∷ []));
      left = b.left ∙ ap (λ (l : List ℕ). l ++ (owed_bytes others ++ more)) g.5 ∙ append_assoc (spell x) (todo_bytes u) (owed_bytes others ++ more)
          ∙ ap (λ (l : List ℕ). spell x ++ l) (sym (append_assoc (todo_bytes u) (owed_bytes others) more) ∙ ap (λ (l : List ℕ). l ++ more) (sym (owed_bytes-append others (u ∷ []))));
      printed = ap (λ (l : List ℕ). after ++ (notation x ++ l)) (owed_text-append others (u ∷ []))
          ∙ ap (λ (l : List ℕ). after ++ l) (sym (append_assoc (notation x) (todo_text u) (owed_text others)))
          ∙ sym (append_assoc after (notation x ++ todo_text u) (owed_text others))
          ∙ ap (λ (l : List ℕ). l ++ owed_text others) g.6
          ∙ append_assoc out (todo_text t) (owed_text others)
          ∙ b.printed;
    }

pub wanted_stands : (whole more : List ℕ) (kept : List Task) (rest out : List ℕ) → WantsItem whole more kept rest out → StandsFirst rest
wanted_stands whole more kept rest out w = (w.x, owed_bytes w.todos ++ more, w.is_item, w.left)

-- its head is printed
pub begun : (whole more : List ℕ) (kept now : List Task) (rest behind out after : List ℕ) (s : Start) → WantsItem whole more kept rest out → start_at max_nesting rest ≡ started s behind → now ≡ kept ++ option_to_list (opened_by s) → after ≡ out ++ start_text s
    → IsPrinting whole more now behind after
begun whole more kept now rest behind out after s w read tasks_now out_now =
    let x = w.x in
    let mine = todo_in x in
    let others = w.todos in
    let r = started_parts s (start_in x) behind (owed_bytes mine ++ (owed_bytes others ++ more)) (sym read ∙ ap (start_at max_nesting) w.left ∙ head_read x (owed_bytes others ++ more) w.is_item) in
    record {
      todos = others ++ mine;
      are_todos = All-append others mine w.are_todos (are_todos x w.is_item);
      tasks = tasks_now ∙ ap (λ (l : List Task). l ++ option_to_list (opened_by s)) w.tasks ∙ ap (λ (q : Start). map task_of others ++ option_to_list (opened_by q)) r.0 ∙ ap (λ (l : List Task). map task_of others ++ l) (sym (opened_start x)) ∙ sym (map-append task_of others mine);
      left = r.1 ∙ sym (append_assoc (owed_bytes mine) (owed_bytes others) more) ∙ ap (λ (l : List ℕ). l ++ more) (sym (owed_bytes-append others mine));
      printed = ap (λ (l : List ℕ). l ++ owed_text (others ++ mine)) (out_now ∙ ap (λ (q : Start). out ++ start_text q) r.0)
          ∙ ap (λ (l : List ℕ). (out ++ start_text (start_in x)) ++ l) (owed_text-append others mine)
          ∙ append_assoc out (start_text (start_in x)) (owed_text mine ++ owed_text others)
          ∙ ap (λ (l : List ℕ). out ++ l) (sym (append_assoc (start_text (start_in x)) (owed_text mine) (owed_text others)) ∙ ap (λ (l : List ℕ). l ++ owed_text others) (sym (printed_start x)))
          ∙ w.printed;
    }

-- where it goes on with none
pub none_behind : (t : Todo) (before after : List ℕ) (task : Option Task) → ((a : Task) → task ≡ Some a → ⊥) → GoesOn t before after task → GoesOn t before after None
none_behind t before after None none g = g
none_behind t before after (Some a) none g = absurd (none a refl)

-- nothing is printed, and one item is wanted
pub first_wanted : (x : Item) (more rest out : List ℕ) → IsSpelled x → rest ≡ spell x ++ more → WantsItem (out ++ notation x) more [] rest out
first_wanted x more rest out h parts = record { x = x; todos = []; is_item = h; are_todos = tt; tasks = refl; left = parts; printed = ap (λ (l : List ℕ). out ++ l) (append-nil (notation x)) }

-- no task is left
pub last_printed : (whole more : List ℕ) (kept : List Task) (rest out : List ℕ) → IsPrinting whole more kept rest out → kept ≡ [] → (rest ≡ more) × (out ≡ whole)
last_printed whole more kept rest out p none = done p.todos (sym p.tasks ∙ none) p.left p.printed
  where
    done : (ts : List Todo) → map task_of ts ≡ [] → rest ≡ owed_bytes ts ++ more → out ++ owed_text ts ≡ whole → (rest ≡ more) × (out ≡ whole)
    done [] e left printed = (left, sym (append-nil out) ∙ printed)
    done (t ∷ ts) e left printed = absurd cc

-- ---- a line for each item

-- Some items are printed, and the others are left.
pub record HasPrinted (whole rest out : List ℕ) : Type 0 where
  pub done : List Item
  pub left : List Item
  pub spells : Spells whole (done ++ left)
  pub are_items : AllByRecursion IsSpelled left
  pub here : rest ≡ flat_map spell left
  pub printed : out ≡ notation_lines done

pub none_printed : (whole : List ℕ) (xs : List Item) → Spells whole xs → HasPrinted whole whole []
none_printed whole xs s = record { done = []; left = xs; spells = s; are_items = s.are_items; here = s.whole; printed = refl }

-- what stands first, and follows it, where bytes are left
pub next_stands : (whole rest out : List ℕ) → HasPrinted whole rest out → (rest ≡ [] → ⊥) → StandsFirst rest
next_stands whole rest out p some = next p.left p.are_items p.here
  where
    next : (xs : List Item) → AllByRecursion IsSpelled xs → rest ≡ flat_map spell xs → StandsFirst rest
    next [] h e = absurd (some e)
    next (x ∷ xs) h e = (x, flat_map spell xs, h.0, e)

pub printed_next : (whole rest out behind after last : List ℕ) → HasPrinted whole rest out → (rest ≡ [] → ⊥) → ((x : Item) (more : List ℕ) → IsSpelled x → rest ≡ spell x ++ more → (behind ≡ more) × (after ≡ out ++ notation x)) → last ≡ after ++ codes "\n"
    → HasPrinted whole behind last
printed_next whole rest out behind after last p some read end = next p.left p.spells p.are_items p.here
  where
    next : (xs : List Item) → Spells whole (p.done ++ xs) → AllByRecursion IsSpelled xs → rest ≡ flat_map spell xs → HasPrinted whole behind last
    next [] s h e = absurd (some e)
    next (x ∷ xs) s h e =
        let r = read x (flat_map spell xs) h.0 e in
        record {
          done = p.done ++ x ∷ [];
          left = xs;
          spells = subst (Spells whole) (sym (append_assoc p.done (x ∷ []) xs)) s;
          are_items = h.1;
          here = r.0;
          printed = end ∙ ap (λ (l : List ℕ). l ++ codes "\n") (r.1 ∙ ap (λ (l : List ℕ). l ++ notation x) p.printed) ∙ append_assoc (notation_lines p.done) (notation x) (codes "\n") ∙ flat_map_more (λ (y : Item). notation y ++ codes "\n") [] p.done x;
        }

pub all_printed : (whole rest out : List ℕ) → HasPrinted whole rest out → rest ≡ [] → (xs : List Item) × Spells whole xs × (out ≡ notation_lines xs)
all_printed whole rest out p none = done p.left p.spells p.are_items p.here
  where
    done : (xs : List Item) → Spells whole (p.done ++ xs) → AllByRecursion IsSpelled xs → rest ≡ flat_map spell xs → (ys : List Item) × Spells whole ys × (out ≡ notation_lines ys)
    done [] s h e = (p.done, subst (Spells whole) (append-nil p.done) s, p.printed)
    done (x ∷ xs) s h e = absurd (spell_some x (flat_map spell xs) h.0 (sym e ∙ none))

pub item_taken : (rest behind after out : List ℕ) → StandsFirst rest → ((x : Item) (more : List ℕ) → IsSpelled x → rest ≡ spell x ++ more → (behind ≡ more) × (after ≡ out ++ notation x)) → length behind < length rest
item_taken rest behind after out s read =
    let r = read s.0 s.1 s.2 s.3 in
    let taken = spell_length s.0 s.2 in
    omega (arith, taken, ap length s.3, ap length r.0, length-append (spell s.0) s.1)

-- whether any bytes are left
pub bytes_left : (rest : List ℕ) → false ≡ (length rest == 0) → rest ≡ [] → ⊥
bytes_left rest some none = let e : (length rest == 0) ≡ true = rw none refl in absurd cc

pub none_left : (rest : List ℕ) → (length rest == 0) ≡ true → rest ≡ []
none_left rest none = nil_from_length rest (eqb-true (length rest) 0 none)

-- ---- the fault of a sequence, and no other

pub cbor_only : {X : Type 0} (all : List ℕ) (r : Result X DiagnosticFault) (e : DiagnosticFault) (fault : CborFault) → r ≡ Err e → e ≡ Cbor fault → HasFlaw all fault → (f : CborFault) → (r ≡ Err (Cbor f)) ↔ HasFlaw all f
cbor_only {X} all r e fault is made h f = (
  λ same. let one : fault ≡ f = cc in subst (HasFlaw all) one h,
  λ k. is ∙ ap (λ (d : DiagnosticFault). let q : Result X DiagnosticFault = Err d in q) (made ∙ ap Cbor (HasFlaw-unique all fault f h k)),
)

pub never_cbor : {X : Type 0} (all : List ℕ) (xs : List Item) (r : Result X DiagnosticFault) → Spells all xs → ((f : CborFault) → r ≡ Err (Cbor f) → ⊥) → (f : CborFault) → (r ≡ Err (Cbor f)) ↔ HasFlaw all f
never_cbor all xs r s other f = (λ same. absurd (other f same), λ h. absurd (Spells-no_flaw all xs h.stop s h.is_flaw))

pub no_memory : {X : Type 0} (r : Result X DiagnosticFault) (e : DiagnosticFault) → r ≡ Err e → e ≡ NoMemory → (f : CborFault) → r ≡ Err (Cbor f) → ⊥
no_memory r e is made f same = let h : ◌≡◌ {A = DiagnosticFault} NoMemory (Cbor f) = cc in absurd cc

pub some_text : {X : Type 0} (x : X) (f : CborFault) → ◌≡◌ {A = Result X DiagnosticFault} (Ok x) (Err (Cbor f)) → ⊥
some_text x f same = absurd cc
