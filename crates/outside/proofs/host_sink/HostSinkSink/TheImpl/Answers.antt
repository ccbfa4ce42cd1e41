use Rattle.outside.proofs.Untold.{HasCause-counted, written_after-untold}
use Rattle.outside.proofs.host_sink.HostSinkSink.TheImpl.Goals as goal

pub put-tells : goal.put-tells
put-tells g c = record {
  some = c.ensures.some;
  bound = c.ensures.bound;
  written = written_after-untold c.args.piece.now c.result;
  cause = HasCause-counted _ c.args.self.now c.new.self.now c.result c.ensures.faults;
}
