use Rattle.std.proofs.Common.{◌++◌, ◌∙◌, List, ℕ, sym, ap, subst, lit<, string_bytes}
use Rattle.std.proofs.lemmas.Str.{encode_ascii}
use Rattle.cbor_det.proofs.PrintingLaws.{HasPrinted, none_printed, next_stands, printed_next, all_printed, item_taken, bytes_left, none_left}
use Rattle.cbor_det.proofs.diagnostics.lines_of.Goals as goal

pub loop-rest-init : goal.loop-rest-init
loop-rest-init c = subst (HasPrinted c.args.bytes.now c.args.bytes.now) (sym c.new-out.ensures.bytes) (none_printed c.args.bytes.now c.requires.0 c.requires.1)

pub push_item-requires : goal.push_item-requires
push_item-requires c = next_stands _ _ _ c.loop-rest.invariant (bytes_left c.loop-rest.rest.now c.loop-rest-test.ensures)

pub loop-rest-smaller : goal.loop-rest-smaller
loop-rest-smaller c = item_taken c.loop-rest.rest.now c.in_ok-rest.rest.now _ _ (next_stands _ _ _ c.loop-rest.invariant (bytes_left c.loop-rest.rest.now c.loop-rest-test.ensures)) c.in_ok-rest.ensures

pub loop-rest-preserved : goal.loop-rest-preserved
loop-rest-preserved c =
    printed_next _ _ _ c.in_ok-rest.rest.now _ _ c.loop-rest.invariant (bytes_left c.loop-rest.rest.now c.loop-rest-test.ensures) c.in_ok-rest.ensures
    (c.in_ok-push.ensures.bytes ∙ ap (λ (l : List ℕ). string_bytes c.push_item.new.out ++ l) (encode_ascii 10 (lit< tt)))

pub returns : goal.returns
returns c = all_printed _ _ _ c.loop-rest.invariant (none_left c.loop-rest.rest.now (sym c.loop-rest-test.ensures))
