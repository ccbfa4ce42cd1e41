-- Each turn takes off one part of the word: `Parts` says what the parts of a word of counts are.
use Rattle.std.proofs.Common.{Some, refl, sym, ◌∙◌, ap, arith, lit<}
use Rattle.std.proofs.lemmas.Iterator.Splits.{YieldsList-from_str_split}
use Rattle.std.proofs.lemmas.List.Elements.{All-nil}
use Rattle.version_vector.proofs.Parts.{IsCount, parts, reads_more, reads_count, reads_few, reads_all, one_reading}
use Rattle.version_vector.proofs.Vector.parse.Goals as goal

pub loop-number-init : goal.loop-number-init
loop-number-init c =
    rw c.into_iter-number-iterator.ensures.into_iter_gives
    (rw c.new-counts.ensures.items (
      tt,
      tt,
      c.new-counts.ensures.capacity,
      record {
        more = parts c.args.word.now;
        read = refl;
        left = YieldsList-from_str_split 44 c.args.word.now (lit< tt) c.split-number-items.ensures.text c.split-number-items.ensures.has_more c.split-number-items.ensures.pattern;
        small = All-nil IsCount;
        few = omega arith;
      },
    ))

pub returns-then-len-eq-MAX_MEMBERS-clause-only : goal.returns-then-len-eq-MAX_MEMBERS-clause-only
returns-then-len-eq-MAX_MEMBERS-clause-only c ns counts is =
    let few = reads_few c.args.word.now c.loop-number.counts.items c.loop-number.number-iterator c.next.new.self c.in-Some.number ns c.loop-number.invariant.3 c.in-Some.ensures.steps counts is in
    absurd (omega (arith, few))

pub returns-in_err-parse_number-clause-only : goal.returns-in_err-parse_number-clause-only
returns-in_err-parse_number-clause-only c ns counts is =
    let count = reads_count c.args.word.now c.loop-number.counts.items c.loop-number.number-iterator c.next.new.self c.in-Some.number ns c.loop-number.invariant.3 c.in-Some.ensures.steps counts is in
    let small = count.1.0 in
    let read = c.in_err-parse_number.ensures.only count.0 (omega arith) count.1.1 in
    cc

pub push_reserved-requires : goal.push_reserved-requires
push_reserved-requires c =
    let few = c.loop-number.invariant.3.few in
    (lit< tt, omega arith)

pub loop-number-preserved : goal.loop-number-preserved
loop-number-preserved c =
    let few = c.loop-number.invariant.3.few in
    let count = c.in_ok-parse_number.ensures.found in (
      tt,
      tt,
      c.push_reserved.ensures.capacity ∙ c.loop-number.invariant.2,
      rw c.push_reserved.ensures.items
          (reads_more c.args.word.now c.loop-number.counts.items c.loop-number.number-iterator c.next.new.self c.in-Some.number c.in_ok-parse_number.field-0 c.loop-number.invariant.3 c.in-Some.ensures.steps count.1 (omega (arith, count.0)) (omega arith)),
    )

pub invariant_of-result : goal.invariant_of-result
invariant_of-result c =
    let read = reads_all c.args.word.now c.loop-number.counts.items c.loop-number.number-iterator c.next.new.self c.loop-number.invariant.3 c.in-None.ensures.steps in
    record { some = read.0.some; few = read.0.few; in_place = c.loop-number.invariant.2 }

pub returns-clause-found : goal.returns-clause-found
returns-clause-found c = reads_all c.args.word.now c.loop-number.counts.items c.loop-number.number-iterator c.next.new.self c.loop-number.invariant.3 c.in-None.ensures.steps

pub returns-clause-only : goal.returns-clause-only
returns-clause-only c ns counts is =
    let read = reads_all c.args.word.now c.loop-number.counts.items c.loop-number.number-iterator c.next.new.self c.loop-number.invariant.3 c.in-None.ensures.steps in
    ap Some (one_reading c.loop-number.counts.items ns read.0 counts (sym read.1 ∙ is))
