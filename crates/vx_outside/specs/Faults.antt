-- When exactly a source or a stream fails, and how it counts its faults.
use Rattle.std.specs.Prelude.{◌≡◌, ℕ, ◌+◌, ◌-◌, ◌^◌, min, Result, Ok, Err}
use Rattle.vx_outside.specs.declared.outside.SourceError.{SourceError}
use Rattle.vx_outside.specs.declared.outside.SourceError.TheVariants.{Failed, Memory}
use Rattle.vx_outside.specs.declared.outside.StreamError.{StreamError}
use Rattle.vx_outside.specs.declared.outside.StreamError.TheVariants.{Failed as StreamFailed, Memory as StreamMemory}

-- a count that goes up by one, and stands still at its type's end
abbrev pub one_more : ℕ → ℕ
one_more count = min (count + 1) (2 ^ 64 - 1)

-- ---- sources

-- the call answers `Failed` exactly where the fact holds
abbrev pub FailsWhere : {T : Type 0} → Result T SourceError → Type 0 → Type 0
FailsWhere (Ok value) Fact = ¬ Fact
FailsWhere (Err Failed) Fact = Fact
FailsWhere (Err Memory) Fact = ¬ Fact

-- `Failed` raises the count of faults by exactly one, and nothing else changes it
abbrev pub CountsFaults : {T : Type 0} → Result T SourceError → ℕ → ℕ → Type 0
CountsFaults (Ok value) old new = new ≡ old
CountsFaults (Err Failed) old new = new ≡ one_more old
CountsFaults (Err Memory) old new = new ≡ old

-- ---- streams

-- the call answers `Failed` exactly where the fact holds
abbrev pub StreamFailsWhere : {T : Type 0} → Result T StreamError → Type 0 → Type 0
StreamFailsWhere (Ok value) Fact = ¬ Fact
StreamFailsWhere (Err StreamFailed) Fact = Fact
StreamFailsWhere (Err StreamMemory) Fact = ¬ Fact

-- `Failed` raises the count of faults by exactly one, and nothing else changes it
abbrev pub StreamCountsFaults : {T : Type 0} → Result T StreamError → ℕ → ℕ → Type 0
StreamCountsFaults (Ok value) old new = new ≡ old
StreamCountsFaults (Err StreamFailed) old new = new ≡ one_more old
StreamCountsFaults (Err StreamMemory) old new = new ≡ old

-- every call that ends is counted, and one that lacks memory is not
abbrev pub CountsCalls : {T : Type 0} → Result T StreamError → ℕ → ℕ → Type 0
CountsCalls (Ok value) old new = new ≡ one_more old
CountsCalls (Err StreamFailed) old new = new ≡ one_more old
CountsCalls (Err StreamMemory) old new = new ≡ old
