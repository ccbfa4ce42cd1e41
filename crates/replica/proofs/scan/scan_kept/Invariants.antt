use Rattle.std.proofs.Common.{◌≡◌, [], length}
use Rattle.cbor_det.specs.Unread.{unread}
use Rattle.replica.specs.Counts.{IsCounted}
use Rattle.replica.specs.Scanning.{changes_front}
use Rattle.replica.proofs.ScanLaws.{SoFar}
use Rattle.replica.proofs.scan.scan_kept.Given as goal

abbrev pub invariant-kept : goal.invariant-kept
invariant-kept l = record {
  number : length l.kept ≡ l.read;
  counts : IsCounted l.head l.kept l.counts;
  so_far : SoFar l.head l.first l.read (changes_front l.head [] []) (changes_front l.head l.kept []) (unread l.initial.cursor) (unread l.cursor);
}
