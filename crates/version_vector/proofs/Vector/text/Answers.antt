-- The text so far is the word of the counts so far.
use Rattle.std.proofs.Common.{◌≡◌, ◌<◌, length, take, get_or, arith, lit<, length-take}
use Rattle.std.proofs.lemmas.List.{take_more}
use Rattle.version_vector.proofs.Parts.{first_word, next_word}
use Rattle.version_vector.proofs.Vector.text.Goals as goal
use Rattle.version_vector.proofs.Vector.text.Goals.{then-member-gt0+in_ok-push, else-member-gt0}

pub loop-member-preserved : goal.loop-member-preserved
loop-member-preserved c =
    let counts = c.deref-count-items.result.now in
    let k = c.loop-member.member in
    let within : k < length counts = c.loop-member-test.true in
    let more = take_more counts k 0 within in
    let long : length (take k counts) ≡ k = omega (arith, length-take k counts) in
    elim c.if-member-gt0.branch [
      | then-member-gt0+in_ok-push w ↦
          rw (c.in_ok-write.ensures.bytes, w.text-is, w.in_ok-push.ensures.bytes, w.in_ok-push.ensures.ascii (lit< tt), c.loop-member.invariant, more)
          (next_word (take k counts) (get_or counts k 0) (omega (arith, long)))
      | else-member-gt0 w ↦
          rw (c.in_ok-write.ensures.bytes, w.text-is, c.loop-member.invariant, more)
          (first_word (take k counts) (get_or counts k 0) (omega (arith, long)))
    ]
