-- Heads of changes, and what the calls answer that look at the item of a change.
use Rattle.std.specs.Prelude.{◌≡◌, ◌⊎◌, ℕ, ◌<◌, ◌≤◌, ◌^◌, List, ◌++◌, length, take, Result, Ok, Err}
use Rattle.std.specs.Borrow.{Bor}
use Rattle.cbor_det.specs.Head.{IsBytes}
use Rattle.cbor_det.specs.Item.{Item, IsSpelled, spell}
use Rattle.cbor_det.specs.Unread.{Unread, Took}
use Rattle.model.specs.Operation.{Operation}
use Rattle.model.specs.Change.{Change, IsChange, ChangeParts, change_item, parts_item, width, body}
use Rattle.model.specs.Rules as model
use Rattle.model.specs.Rules.{BreaksFirst, KeepsAll, KeepsChange, change_rules}
use Rattle.op_grammar.specs.Rules.{rule_of}
use Rattle.op_grammar.specs.declared.check.TakenChange.{TakenChange}
use Rattle.op_grammar.specs.declared.head.Head.{Head}
use Rattle.op_grammar.specs.declared.rule.Rule.{Rule}
use Rattle.op_grammar.specs.declared.rule.Rule.TheVariants.{G6, G7}

-- what a change says but for its operations
abbrev pub head_of : Change → Head
head_of c = record { member = c.member; number = c.number; time = c.time; causes = c.causes; count = length c.operations; width = width c }

-- the change with these operations
abbrev pub change_of : Head → List Operation → Change
change_of h os = record { member = h.member; number = h.number; time = h.time; causes = h.causes; operations = os }

-- what an item says that has this head and this body
abbrev pub parts_by : Head → List ℕ → ChangeParts
parts_by h bytes = record { member = h.member; number = h.number; time = h.time; causes = h.causes; count = h.count; width = h.width; body = bytes }

-- the rules that the head decides, G1 to G5
abbrev pub head_rules : List model.Rule
head_rules = take 5 change_rules

-- What a read of a change answers: its head and its body, where the item is that of a change of n members, or the first rule that the item breaks.
abbrev pub ChangeAnswer : ℕ → Item → Result (Head × Bor (List ℕ)) Rule → Type 0
ChangeAnswer n x (Ok p) = (c : Change) × (x ≡ change_item c) × IsChange n c × (p.0 ≡ head_of c) × (p.1.now ≡ body c.operations)
ChangeAnswer n x (Err r) = BreaksFirst (KeepsChange n) change_rules x (rule_of r)

-- What a check of a change answers: its head, where the item is that of a change of n members, or the first rule that the item breaks.
abbrev pub CheckAnswer : ℕ → Item → Result Head Rule → Type 0
CheckAnswer n x (Ok h) = (c : Change) × (x ≡ change_item c) × IsChange n c × (h ≡ head_of c)
CheckAnswer n x (Err r) = BreaksFirst (KeepsChange n) change_rules x (rule_of r)

-- The change that was taken, of n members: it was spelled at the old place, and the new one is just behind it.
pub record TakesChange (n : ℕ) (old new : Unread) (t : TakenChange) : Type 0 where
  pub change : Change
  pub is : IsChange n change
  pub spelled : IsSpelled (change_item change)
  pub head : t.head ≡ head_of change
  pub body : t.body.now ≡ body change.operations
  pub span : t.span.now ≡ spell (change_item change)
  pub bytes : IsBytes t.span.now
  pub took : Took (spell (change_item change)) old new

-- no change of n members is spelled first of what is left
abbrev pub StandsNoChange : ℕ → Unread → Type 0
StandsNoChange n old = (c : Change) (more : List ℕ) → IsChange n c → IsSpelled (change_item c) → old.rest ≡ spell (change_item c) ++ more → ⊥

-- The item says a count, or else a width, that no head holds.
abbrev pub IsTooGreat : ChangeParts → Rule → Type 0
IsTooGreat p r = ((r ≡ G6) × (2 ^ 32 ≤ p.count)) ⊎ ((r ≡ G7) × (p.count < 2 ^ 32) × (2 ^ 32 ≤ p.width))

-- What a read of a head answers, by the rules of heads alone.
abbrev pub HeadAnswer : ℕ → Item → Result (Head × Bor (List ℕ)) Rule → Type 0
HeadAnswer n x (Ok p) = (x ≡ parts_item (parts_by p.0 p.1.now)) × KeepsAll (KeepsChange n) head_rules x
HeadAnswer n x (Err r) = BreaksFirst (KeepsChange n) head_rules x (rule_of r)
    ⊎ (KeepsAll (KeepsChange n) head_rules x × ((p : ChangeParts) × (x ≡ parts_item p) × IsTooGreat p r))
