use Rattle.std.proofs.Common.{◌≡◌, ◌<◌, length, arith}
use Rattle.outside.specs.Files.{file_at}
use Rattle.outline_input.proofs.Loads.{whole_at_end, front_and_load}
use Rattle.outline_input.proofs.input.load_piece.Goals as goal

pub returns-in-Got-eq0-clause-told : goal.returns-in-Got-eq0-clause-told
returns-in-Got-eq0-clause-told g c = λ files told front.
    let at : c.len.result ≡ length c.args.bytes.now.items = omega arith in
    let room : 0 < length c.load.new.into = omega arith in
    whole_at_end (file_at files c.args.name.now) c.args.bytes.now.items c.load.new.into c.len.result c.in-Got-eq0.field-0 c.in_ok-load.field-0 c.in-Got-eq0.is c.in-Got-eq0.field-0-test at room front (c.in_ok-load.ensures.answer files told)

pub returns-in-Ok-clause-told : goal.returns-in-Ok-clause-told
returns-in-Ok-clause-told g c = λ files told front.
    let at : c.len.result ≡ length c.args.bytes.now.items = omega arith in
    front_and_load (file_at files c.args.name.now) c.args.bytes.now.items c.load.new.into c.extend_from_slice.new.self.items c.len.result c.in-Got.count c.in_ok-load.field-0 c.in-Got.is at c.in-Ok.ensures.items front (c.in_ok-load.ensures.answer files told)
