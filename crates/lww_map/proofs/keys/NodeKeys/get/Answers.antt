use Rattle.std.proofs.Common.{◌∙◌, ap, sym}
use Rattle.std.specs.FinMap as fin
use Rattle.lww_map.specs.Keys.{Keys}
use Rattle.lww_map.proofs.KeyEntries.{found_by, get-keys_of, kept_seen, seen_copied}
use Rattle.lww_map.proofs.keys.NodeKeys.get.Goals as goal

pub returns : goal.returns
returns c =
    let key = c.args.key.now in
    let es = c.self.inside.keys.entries in
    seen_copied c.get.result
    ∙ ap kept_seen (c.get.ensures.value ∙ found_by c.of-sought.result key c.of-sought.ensures es)
    ∙ sym (get-keys_of key es)
    ∙ ap (λ (m : Keys). fin.get m key) c.self.view_is
