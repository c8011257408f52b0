-- What a run asks its source for, and what lasts of the source's state.
use Rattle.std.specs.Prelude.{◌≡◌, ℕ, ◌≤◌, ◌⊎◌, List, [], map, Result, Err}
use Rattle.std.specs.List.{All}
use Rattle.vx_io.specs.Fetches.{asked_for}
use Rattle.vx_drive.specs.declared.errors.ScanError.{ScanError}
use Rattle.vx_drive.specs.declared.errors.ScanError.TheVariants.{ReadFault}
use Rattle.vx_drive.specs.Fetched.{AllLocated, AreDistinctNumbers, location_of}
use Rattle.vx_base.specs.Sources.{SourceState}
use Rattle.vx_base.specs.declared.locations.SegmentLocation.{SegmentLocation}

-- The source was asked for the ranges of these segments, each once, in this order, and for nothing else.
pub record AskedOnce (locations : List SegmentLocation) (segments : List ℕ) (before after : SourceState) : Type 0 where
  pub apart : AreDistinctNumbers segments
  pub located : AllLocated locations segments
  pub asked : after.asked ≡ asked_for (map (location_of locations) segments) before.asked

-- Each of them is wanted.
pub record AsksOnly (IsWanted : ℕ → Type 0) (locations : List SegmentLocation) (before after : SourceState) : Type 0 where
  pub segments : List ℕ
  pub asks : AskedOnce locations segments before after
  pub wanted : All IsWanted segments

-- The file stays, and counts never fall.
pub record Lasts (before after : SourceState) : Type 0 where
  pub file : after.file ≡ before.file
  pub faults : before.faults ≤ after.faults
  pub idle : before.idle ≤ after.idle

-- no call on the source failed
abbrev pub KeepsFaults : SourceState → SourceState → Type 0
KeepsFaults before after = after.faults ≡ before.faults

-- A call on the source failed only where the answer is that a read failed.
abbrev pub TellsFaults : {X : Type 0} → Result X ScanError → SourceState → SourceState → Type 0
TellsFaults result before after = KeepsFaults before after ⊎ (result ≡ Err ReadFault)

-- Nothing is in flight at the source, if it was asked at all.
abbrev pub IsLeftClear : SourceState → SourceState → Type 0
IsLeftClear before after = (after.in_flight ≡ []) ⊎ (after ≡ before)
