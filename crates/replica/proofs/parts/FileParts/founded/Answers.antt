use Rattle.std.proofs.Common.{◌≡◌, length, rules}
use Rattle.cbor_det.specs.Head.{IsBytes}
use Rattle.replica.proofs.PartLaws.{founded_is_file}
use Rattle.replica.proofs.parts.FileParts.founded.Goals as goal

pub of-requires-clause-is : goal.of-requires-clause-is
of-requires-clause-is c =
    let size : length c.args.doc.id ≡ 16 = search rules in
    let fits : IsBytes c.args.doc.id = search rules in
    rw (c.in_ok-all_members.ensures, c.new.ensures, c.new-2.ensures) (founded_is_file c.args.doc.id c.args.doc.n size fits c.requires.some c.requires.few)
