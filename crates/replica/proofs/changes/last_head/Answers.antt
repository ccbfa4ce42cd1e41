use Rattle.std.proofs.Common.{◌-◌, arith}
use Rattle.std.specs.Prelude.{None}
use Rattle.replica.proofs.ChangeLaws.{last_at}
use Rattle.replica.proofs.changes.last_head.Goals as goal

pub returns : goal.returns
returns c = (c.at.result.now, last_at None c.args.shelf.now (c.len-len.result - 1) c.at.result.now (omega (arith, c.len-len.ensures)) c.at.ensures, c.head.ensures)
