-- How a status ends a run.
use Rattle.outline_meaning.specs.declared.status.Status.{Status}
use Rattle.outline_meaning.specs.declared.status.Status.TheVariants as s

pub data Ending : Type 0 where
  -- all is stored and printed
  done : Ending
  -- the store failed
  unstored : Ending
  -- all is stored, and the print failed
  unprinted : Ending
  -- memory was wanting, before the store or in it
  no_memory : Ending
  -- nothing was stored or printed
  refused : Ending

abbrev pub ending : Status → Ending
ending s.Done = done
ending (s.Words line word) = refused
ending (s.Missing word) = refused
ending (s.Exists word) = refused
ending (s.ReadFault word) = refused
ending s.WriteFault = unstored
ending s.SinkFault = unprinted
ending (s.BadFile word why) = refused
ending (s.TooLarge word bytes) = refused
ending (s.OtherKind word kind) = refused
ending (s.OtherDocument left right) = refused
ending (s.Member fault) = refused
ending (s.Edit fault word) = refused
ending (s.ClockFull time member count) = refused
ending (s.Trimmed member asked base) = refused
ending (s.Unfit word member count misfit) = refused
ending s.NoMemory = no_memory
ending (s.NotBuilt word) = refused
