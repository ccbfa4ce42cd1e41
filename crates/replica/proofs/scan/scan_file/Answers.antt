use Rattle.std.proofs.Common.{ap, refl, rules}
use Rattle.cbor_det.specs.Head.{IsBytes}
use Rattle.cbor_det.specs.Unread.{Unread, unread}
use Rattle.model.specs.File.{SpellsFile}
use Rattle.replica.specs.Parts.{file_with}
use Rattle.replica.proofs.ScanLaws.{trails, is_whole}
use Rattle.replica.proofs.scan.scan_file.Goals as goal

pub returns-then-not-is_end : goal.returns-then-not-is_end
returns-then-not-is_end c =
    let o0 = unread c.new-cursor.result in
    let o3 = unread c.scan_waiting.new.cursor in
    trails c.in_ok-head.head c.in_ok-kept.kept c.in_ok-waiting.waiting o0 (unread c.scan_opening.new.cursor) (unread c.scan_kept.new.cursor) o3 c.opening_len-first.result c.opening_len-first.ensures c.in_ok-head.ensures c.in_ok-kept.ensures c.in_ok-waiting.ensures c.args.bytes.now
    (ap (λ (u : Unread). u.len) c.new-cursor.ensures) (ap (λ (u : Unread). u.rest) c.new-cursor.ensures) c.at.result c.at.ensures (λ e. let bad = c.if-not-is_end.ensures.1 e in cc)

pub of-requires-clause-is : goal.of-requires-clause-is
of-requires-clause-is c =
    let fits : IsBytes c.args.bytes.now = search rules in
    let spelled = is_whole c.in_ok-head.head c.in_ok-kept.kept c.in_ok-waiting.waiting (unread c.new-cursor.result) (unread c.scan_opening.new.cursor) (unread c.scan_kept.new.cursor) (unread c.scan_waiting.new.cursor) c.opening_len-first.result c.opening_len-first.ensures c.in_ok-head.ensures c.in_ok-kept.ensures c.in_ok-waiting.ensures c.args.bytes.now
    (ap (λ (u : Unread). u.len) c.new-cursor.ensures) (ap (λ (u : Unread). u.rest) c.new-cursor.ensures) fits c.requires (c.if-not-is_end.ensures.0 refl) in
    spelled.is_file

pub returns : goal.returns
returns c =
    let fits : IsBytes c.args.bytes.now = search rules in
    let f = file_with c.in_ok-head.head c.in_ok-kept.kept c.in_ok-waiting.waiting in
    let spelled : SpellsFile c.args.bytes.now f = is_whole c.in_ok-head.head c.in_ok-kept.kept c.in_ok-waiting.waiting (unread c.new-cursor.result) (unread c.scan_opening.new.cursor) (unread c.scan_kept.new.cursor) (unread c.scan_waiting.new.cursor) c.opening_len-first.result c.opening_len-first.ensures c.in_ok-head.ensures c.in_ok-kept.ensures c.in_ok-waiting.ensures c.args.bytes.now
    (ap (λ (u : Unread). u.len) c.new-cursor.ensures) (ap (λ (u : Unread). u.rest) c.new-cursor.ensures) fits c.requires (c.if-not-is_end.ensures.0 refl) in
    rw c.of.ensures (spelled, refl)
