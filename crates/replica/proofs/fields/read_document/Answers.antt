use Rattle.cbor_det.specs.Unread.{unread}
use Rattle.replica.proofs.FieldLaws.{document_read}
use Rattle.replica.proofs.fields.read_document.Goals as goal

pub returns : goal.returns
returns c =
    document_read (unread c.args.cursor.now) (unread c.bytes.new.self) c.in_ok-bytes.bytes.now c.id_of.result c.id_of.ensures.id c.if-bytes-ne16.false c.id_of.ensures.fits c.in_ok-bytes.ensures.found.1 (λ y more h e. c.in_ok-bytes.ensures.only y more h e)
