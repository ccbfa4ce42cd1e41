-- The first places of 32 zeros are so many zeros.
use Rattle.std.proofs.lemmas.List.{take-replicate}
use Rattle.version_vector.proofs.Vector.zero.Goals as goal

pub returns : goal.returns
returns c =
    rw (c.from_buf_and_len.ensures.items, c.from.ensures) (take-replicate c.args.members 32 0 c.requires.few)
