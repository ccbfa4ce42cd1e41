use Rattle.lww_map.proofs.WriteLaws.{any_order}
use Rattle.lww_map.proofs.laws.writes_come_in_any_order.Goals as goal

pub returns : goal.returns
returns c = any_order
