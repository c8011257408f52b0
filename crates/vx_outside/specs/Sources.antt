-- What a source of segments is to its callers, and what each call on it does.
use Rattle.std.specs.Prelude.{◌≡◌, ℕ, ◌+◌, ◌-◌, ◌^◌, ◌≤◌, ◌==◌, nat_le, min, not, if◌then◌else◌, ◌⊎◌, List, [], ◌∷◌, ◌++◌, length, Option, Some, None, option_map, IfSome, Result, Ok, Err}
use Rattle.std.specs.List.{find, filter, slice_range}
use Rattle.std.specs.Global.{Vec}
use Rattle.vx_outside.specs.declared.locations.SegmentLocation.{SegmentLocation}
use Rattle.vx_outside.specs.declared.locations.AskedRange.{AskedRange}
use Rattle.vx_outside.specs.declared.outside.SourceError.{SourceError}
use Rattle.vx_outside.specs.declared.outside.SourceError.TheVariants.{Failed, Memory}

-- The file and the ranges asked so far, each where the source tells it; the reads in flight, each a
-- ticket and its location; how often a call failed, and how often a poll found nothing.
pub record SourceState : Type 0 where
  pub file : Option (List ℕ)
  pub asked : Option (List AskedRange)
  pub in_flight : List (ℕ × SegmentLocation)
  pub faults : ℕ
  pub idle : ℕ

-- A count rose by at least so much, or stands at its type's end. It never falls.
pub record RoseBy (much before now : ℕ) : Type 0 where
  pub kept : before ≤ now
  pub raised : min (before + much) (2 ^ 64 - 1) ≤ now

-- it rose
abbrev pub Rose : ℕ → ℕ → Type 0
Rose before now = RoseBy 1 before now

-- the range that a location names
abbrev pub range_of : SegmentLocation → AskedRange
range_of at = record { offset = at.offset; length = at.length }

-- the file's bytes at a location that lies inside it
abbrev pub bytes_at : List ℕ → SegmentLocation → Option (List ℕ)
bytes_at file at = if nat_le (at.offset + at.length) (length file) then Some (slice_range file at.offset (at.offset + at.length)) else None

-- the location of a ticket in flight
abbrev pub location_of : ℕ → List (ℕ × SegmentLocation) → Option SegmentLocation
location_of ticket reads = option_map (λ read. read.1) (find (λ read. read.0 == ticket) reads)

-- the reads that are left when that of the ticket ends
abbrev pub without : ℕ → List (ℕ × SegmentLocation) → List (ℕ × SegmentLocation)
without ticket reads = filter (λ read. not (read.0 == ticket)) reads

abbrev pub asks_also : SegmentLocation → Option (List AskedRange) → Option (List AskedRange)
asks_also at asked = option_map (λ ranges. ranges ++ range_of at ∷ []) asked

-- ---- request

-- The ticket was not in flight, and now is, for the location; exactly its range was asked for.
pub record Started (at : SegmentLocation) (ticket : ℕ) (old new : SourceState) : Type 0 where
  pub fresh : location_of ticket old.in_flight ≡ None
  pub located : location_of ticket new.in_flight ≡ Some at
  pub in_flight : new.in_flight ≡ old.in_flight ++ (ticket, at) ∷ []
  pub asked : new.asked ≡ asks_also at old.asked
  pub file : new.file ≡ old.file
  pub faults : new.faults ≡ old.faults
  pub idle : new.idle ≡ old.idle

-- No read was started, and the range may have been asked for.
pub record NotStarted (at : SegmentLocation) (old new : SourceState) : Type 0 where
  pub asked : (new.asked ≡ old.asked) ⊎ (new.asked ≡ asks_also at old.asked)
  pub in_flight : new.in_flight ≡ old.in_flight
  pub file : new.file ≡ old.file
  pub idle : new.idle ≡ old.idle

abbrev pub RequestGives : Result ℕ SourceError → SegmentLocation → SourceState → SourceState → Type 0
RequestGives (Ok ticket) at old new = Started at ticket old new
RequestGives (Err Failed) at old new = NotStarted at old new × Rose old.faults new.faults
RequestGives (Err Memory) at old new = NotStarted at old new × (new.faults ≡ old.faults)

-- ---- poll

-- exactly as many bytes as the location has, and those of the file where it is told
pub record IsSegment (file : Option (List ℕ)) (at : SegmentLocation) (bytes : List ℕ) : Type 0 where
  pub length : length bytes ≡ at.length
  pub told : IfSome file (λ told. bytes_at told at ≡ Some bytes)

-- The read ended; nothing else changed but perhaps the count of faults.
pub record Ended (ticket : ℕ) (old new : SourceState) : Type 0 where
  pub in_flight : new.in_flight ≡ without ticket old.in_flight
  pub asked : new.asked ≡ old.asked
  pub file : new.file ≡ old.file
  pub idle : new.idle ≡ old.idle

-- The read goes on; nothing changed but perhaps the idle count.
pub record GoesOn (old new : SourceState) : Type 0 where
  pub in_flight : new.in_flight ≡ old.in_flight
  pub asked : new.asked ≡ old.asked
  pub file : new.file ≡ old.file
  pub faults : new.faults ≡ old.faults

abbrev pub PollGives : Result (Option (Vec ℕ)) SourceError → ℕ → SourceState → SourceState → Type 0
PollGives (Ok (Some bytes)) ticket old new = Ended ticket old new × (new.faults ≡ old.faults) × IfSome (location_of ticket old.in_flight) (λ at. IsSegment old.file at bytes.items)
PollGives (Ok None) ticket old new = GoesOn old new × Rose old.idle new.idle
PollGives (Err Failed) ticket old new = Ended ticket old new × Rose old.faults new.faults
PollGives (Err Memory) ticket old new = GoesOn old new × (new.idle ≡ old.idle)

-- ---- clear

-- Nothing is in flight any more; counts and asks stay.
pub record Cleared (old new : SourceState) : Type 0 where
  pub in_flight : new.in_flight ≡ []
  pub asked : new.asked ≡ old.asked
  pub file : new.file ≡ old.file
  pub faults : new.faults ≡ old.faults
  pub idle : new.idle ≡ old.idle
