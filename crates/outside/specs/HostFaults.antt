-- What is known of a keeper on the host: how often it failed.
use Rattle.std.specs.Prelude.{ℕ}

pub record HostFaults : Type 0 where
  pub loads : ℕ
  pub stores : ℕ

-- none yet
abbrev pub no_faults : HostFaults
no_faults = record { loads = 0; stores = 0 }
