-- What a clause sees of a source or a sink, and when either may answer an error, by its count of faults before and after the call.
use Rattle.std.specs.Prelude.{◌≡◌, ℕ, ◌+◌, ◌-◌, ◌^◌, ◌≤◌, min, Bool, true, false, List, Option, IfSome, Result, OnOk, OnErr, IsErrOf}
use Rattle.std.specs.Io.KnownBytes.{Consumes}
use Rattle.io_edge.specs.declared.error.GiveError.{GiveError}
use Rattle.io_edge.specs.declared.error.GiveError.TheVariants.{Failed, NoMemory}

-- what a source tells: the bytes that are left to read, where it tells them, how often it has failed, up to 2^64 - 1, and whether its last
-- call failed, where it tells that
pub record SourceView : Type 0 where
  pub left : Option (List ℕ)
  pub faults : ℕ
  pub just_failed : Option Bool

-- what a sink tells: the bytes that were written, where it tells them, how often it has failed, up to 2^64 - 1, and whether its last call
-- failed, where it tells that; to run out of memory is no failure
pub record SinkView : Type 0 where
  pub written : Option (List ℕ)
  pub faults : ℕ
  pub just_failed : Option Bool

-- some bytes were taken, and this holds of them
abbrev pub OfTaken : SourceView → SourceView → (List ℕ → Type 0) → Type 0
OfTaken old new claim = (taken : List ℕ) × Consumes old.left new.left taken × claim taken

-- a count with one more, up to the most that 64 bits hold
abbrev pub counted : ℕ → ℕ
counted count = min (count + 1) (2 ^ 64 - 1)

-- a source's count never falls, an `Ok` leaves it, and a `Failed` is counted once
pub record HasCause {T E : Type 0} (before now : ℕ) (result : Result T E) : Type 0 where
  pub later : before ≤ now
  pub ok : OnOk result (now ≡ before)
  pub failed : OnErr result (now ≡ counted before)

-- a sink's count never falls, an `Ok` and a `NoMemory` leave it, and a `Failed` is counted once
pub record HasGiveCause {T : Type 0} (before now : ℕ) (result : Result T GiveError) : Type 0 where
  pub later : before ≤ now
  pub ok : OnOk result (now ≡ before)
  pub failed : IsErrOf result Failed → now ≡ counted before
  pub no_memory : IsErrOf result NoMemory → now ≡ before

-- the last call failed, where that is told
abbrev pub FailedLast : Option Bool → Type 0
FailedLast told = IfSome told (λ has_failed. has_failed ≡ true)

-- the last call did not fail, where that is told
abbrev pub WentWell : Option Bool → Type 0
WentWell told = IfSome told (λ has_failed. has_failed ≡ false)

-- after a call of a source: it failed last exactly where this call failed
pub record TellsFault {T E : Type 0} (told : Option Bool) (result : Result T E) : Type 0 where
  pub ok : OnOk result (WentWell told)
  pub failed : OnErr result (FailedLast told)

-- the same of a sink, where want of memory is no failure
pub record TellsGiveFault {T : Type 0} (told : Option Bool) (result : Result T GiveError) : Type 0 where
  pub ok : OnOk result (WentWell told)
  pub failed : IsErrOf result Failed → FailedLast told
  pub no_memory : IsErrOf result NoMemory → WentWell told
