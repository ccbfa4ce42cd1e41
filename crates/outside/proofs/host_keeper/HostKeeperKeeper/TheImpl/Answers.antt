use Rattle.std.proofs.Common.{ap, refl}
use Rattle.outside.specs.HostFaults.{HostFaults}
use Rattle.outside.proofs.Untold.{HasCause-counted, Loads-untold, failed_name-untold, files_after-untold}
use Rattle.outside.proofs.host_keeper.HostKeeperKeeper.TheImpl.Goals as goal

pub load-tells : goal.load-tells
load-tells g c = record {
  answer = Loads-untold _ _ _ c.result;
  front = c.ensures.front;
  files = refl;
  cause = HasCause-counted _ c.args.self.now.loads c.new.self.now.loads c.result (ap (λ (k : HostFaults). k.loads) c.ensures.faults);
  stores = ap (λ (k : HostFaults). k.stores) c.ensures.faults;
  failed = failed_name-untold c.args.name.now c.result;
}

pub store-tells : goal.store-tells
store-tells g c = record {
  files = files_after-untold c.args.name.now c.args.bytes.now c.result;
  cause = HasCause-counted _ c.args.self.now.stores c.new.self.now.stores c.result (ap (λ (k : HostFaults). k.stores) c.ensures.faults);
  loads = ap (λ (k : HostFaults). k.loads) c.ensures.faults;
  failed = refl;
}
