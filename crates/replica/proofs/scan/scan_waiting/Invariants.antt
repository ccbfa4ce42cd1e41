use Rattle.std.proofs.Common.{◌≡◌, [], length}
use Rattle.cbor_det.specs.Unread.{unread}
use Rattle.replica.specs.Scanning.{changes_front}
use Rattle.replica.proofs.ScanLaws.{SoFar}
use Rattle.replica.proofs.scan.scan_waiting.Given as goal

abbrev pub invariant-waiting : goal.invariant-waiting
invariant-waiting l = record {
  number : length l.waiting ≡ l.read;
  so_far : SoFar l.head l.first l.read (changes_front l.head l.kept []) (changes_front l.head l.kept l.waiting) (unread l.initial.cursor) (unread l.cursor);
}
