-- What a keeper or a sink that tells nothing and counts each error gives.
use Rattle.std.proofs.Common.{◌≡◌, ℕ, List, None, Result, Ok, Err, refl, arith}
use Rattle.outside.specs.declared.keeper.Load.{Load}
use Rattle.outside.specs.declared.keeper.KeeperFault.{KeeperFault}
use Rattle.outside.specs.declared.keeper.KeeperFault.TheVariants.{Failed, NoMemory}
use Rattle.outside.specs.declared.sink.SinkFailed.{SinkFailed}
use Rattle.outside.specs.Faults.{HasCause, counted}
use Rattle.outside.specs.Keeper.{Loads, failed_name, files_after}
use Rattle.outside.specs.Sink.{written_after}

pub HasCause-counted : {T E : Type 0} (fault : E) (old new : ℕ) (r : Result T E) → new ≡ counted old r → HasCause fault old new r
HasCause-counted fault old new (Ok x) same = record { later = omega arith; failed = λ is. cc }
HasCause-counted fault old new (Err e) rose = record { later = omega arith; failed = λ _. omega arith }

pub Loads-untold : (name : List ℕ) (at : ℕ) (into : List ℕ) (r : Result Load KeeperFault) → Loads None name at into r
Loads-untold name at into r files told = cc

pub failed_name-untold : {T : Type 0} (name : List ℕ) (r : Result T KeeperFault) → None ≡ failed_name None name r
failed_name-untold name (Ok x) = refl
failed_name-untold name (Err Failed) = refl
failed_name-untold name (Err NoMemory) = refl

pub files_after-untold : {T : Type 0} (name bytes : List ℕ) (r : Result T KeeperFault) → None ≡ files_after None name bytes r
files_after-untold name bytes (Ok x) = refl
files_after-untold name bytes (Err e) = refl

pub written_after-untold : (piece : List ℕ) (r : Result ℕ SinkFailed) → None ≡ written_after None piece r
written_after-untold piece (Ok n) = refl
written_after-untold piece (Err e) = refl
