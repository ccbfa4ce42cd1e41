use Rattle.std.proofs.Common.{◌++◌, List, ℕ, ap, ◌∙◌, lit<, string_bytes}
use Rattle.std.proofs.lemmas.Str.{encode_ascii}
use Rattle.cbor_det.proofs.PrintingLaws.{ends_items, next_items, ends_pairs, next_pairs, next_value}
use Rattle.cbor_det.proofs.printing.push_next.Goals as goal

pub returns-then-left-eq0 : goal.returns-then-left-eq0
returns-then-left-eq0 c = λ t h e. ends_items t _ _ _ _ _ _ c.in-Items.is c.if-left-eq0.true e c.in_ok-push-in-Items.ensures.bytes

pub returns-then-left-eq0-2 : goal.returns-then-left-eq0-2
returns-then-left-eq0-2 c = λ t h e.
    ends_pairs t _ _ _ _ _ c.in-Pairs.is c.if-left-eq0-2.true e
    (c.in_ok-push-in-Pairs.ensures.bytes ∙ ap (λ (l : List ℕ). string_bytes c.args.out.now ++ l) (encode_ascii 125 (lit< tt)))

pub returns-in_ok-push_comma-in-Items : goal.returns-in_ok-push_comma-in-Items
returns-in_ok-push_comma-in-Items c = λ t h e. next_items t _ _ _ _ _ _ h c.in-Items.is c.if-left-eq0.false e c.in_ok-push_comma-in-Items.ensures

pub returns-in_ok-push_comma-in-Pairs : goal.returns-in_ok-push_comma-in-Pairs
returns-in_ok-push_comma-in-Pairs c = λ t h e. next_pairs t _ _ _ _ _ h c.in-Pairs.is c.if-left-eq0-2.false e c.in_ok-push_comma-in-Pairs.ensures

pub returns-in_ok-push_str-in-Value : goal.returns-in_ok-push_str-in-Value
returns-in_ok-push_str-in-Value c = λ t h e. next_value t _ _ _ _ h c.in-Value.is e c.in_ok-push_str-in-Value.ensures.bytes
