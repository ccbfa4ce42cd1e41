-- Blocks, from what was read of their bytes.
use Rattle.std.proofs.Common.{◌≡◌, ℕ, ◌<◌, ◌^◌, List, ◌++◌, length, refl, sym, ap, subst, ◌∙◌}
use Rattle.std.specs.Prelude.{Ok}
use Rattle.cbor_det.specs.Head.{IsBytes}
use Rattle.cbor_det.specs.Item.{Item, IsSpelled, spell}
use Rattle.cbor_det.specs.Unread.{Unread, Took}
use Rattle.model.specs.Change.{Change, IsChange, change_item}
use Rattle.op_grammar.specs.Changes.{ChangeAnswer, TakesChange}
use Rattle.op_grammar.specs.declared.TakenChange.{TakenChange}
use Rattle.op_grammar.specs.declared.head.Head.{Head}
use Rattle.lazy_blocks.specs.Spelled.{change_in}
use Rattle.lazy_blocks.specs.Blocks.{change_by, HasParts, IsBlock}
use Rattle.lazy_blocks.specs.declared.block.Block.TheInside.{Inside}
use Rattle.lazy_blocks.specs.Deciding.{SpellsChange, spelled_or_not, found_is}

change_found : (n : ℕ) (bytes : List ℕ) (c : Change) → n < 2 ^ 64 → IsBytes bytes → SpellsChange n bytes c → change_in n bytes ≡ c
unfolding change_in
change_found n bytes c lt fits h = found_is n bytes c lt fits h (spelled_or_not n bytes)

-- a block that was made, in a document of n members
pub record Made (n : ℕ) (b : Inside) : Type 0 where
  pub parts : IsBlock b
  pub is : IsChange n (change_by b)
  pub span : b.span.now ≡ spell (change_item (change_by b))

pub block_made : (n : ℕ) (b : Inside) → n < 2 ^ 64 → IsBytes b.span.now → (x : Item) → IsSpelled x → b.span.now ≡ spell x → ChangeAnswer n x (Ok (b.head, b.body)) → Made n b
block_made n b lt fits x sp e (c, is_item, is, heads, bodies) =
    let members : length b.head.causes ≡ n = ap (λ (h : Head). length h.causes) heads ∙ is.causes_each in
    let whole : b.span.now ≡ spell (change_item c) = e ∙ ap spell is_item in
    let same : change_by b ≡ c = ap (λ m. change_in m b.span.now) members ∙ change_found n b.span.now c lt fits (record { is = is; spelled = subst IsSpelled is_item sp; whole = whole }) in
    let parts : HasParts b c = record { is = subst (λ m. IsChange m c) (sym members) is; span = whole; head = heads; body = bodies } in
    record {
      parts = subst (HasParts b) (sym same) parts;
      is = subst (IsChange n) (sym same) is;
      span = whole ∙ ap (λ (d : Change). spell (change_item d)) (sym same);
    }

-- the block of a change that was taken
abbrev block_of : TakenChange → Inside
block_of t = record { head = t.head; span = t.span; body = t.body }

pub block_taken : (n : ℕ) (old new : Unread) (t : TakenChange) → n < 2 ^ 64 → TakesChange n old new t → Made n (block_of t) × Took (spell (change_item (change_by (block_of t)))) old new
block_taken n old new t lt k =
    let made = block_made n (block_of t) lt k.bytes (change_item k.change) k.spelled k.span (k.change, refl, k.is, k.head, k.body) in
    (made, k.took ∙ ap (λ (text : List ℕ). text ++ new.rest) (sym k.span ∙ made.span))

pub same_block : (b d : Inside) → d.head ≡ b.head → d.span.now ≡ b.span.now → change_by d ≡ change_by b
same_block b d heads spans = λ i. change_in (length (heads i).causes) (spans i)

pub block_copied : (b d : Inside) → d.head ≡ b.head → d.span.now ≡ b.span.now → d.body.now ≡ b.body.now → IsBlock b → IsBlock d
block_copied b d heads spans bodies h =
    let same = same_block b d heads spans in
    subst (HasParts d) (sym same) (record {
      is = subst (λ (k : Head). IsChange (length k.causes) (change_by b)) (sym heads) h.is;
      span = spans ∙ h.span;
      head = heads ∙ h.head;
      body = bodies ∙ h.body;
    })
