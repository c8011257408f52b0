-- What the calls of the table of reads do. Each segment is wanted once, and a read's number is its place.
use Rattle.std.specs.Prelude.{◌≡◌, ℕ, ◌+◌, ◌^◌, ◌<◌, ◌≤◌, ◌⊎◌, ◌==◌, if◌then◌else◌, true, List, [], ◌∷◌, ◌++◌, length, Option, Some, None, IsSomeAnd, slice_set}
use Rattle.std.specs.List.{slice_get}
use Rattle.std.specs.Ordering.{nat_cmp}
use Rattle.std.specs.BTreeMap.{BTreeMap, get}
use Rattle.vx_steps.specs.declared.reads.ReadId.{ReadId}
use Rattle.vx_steps.specs.declared.reads.ReadRequest.{ReadRequest}
use Rattle.vx_steps.specs.ReadTableData.{Wanted, Stored, ReadsData}

-- the segment stands at the place
abbrev pub StandsAt : List Wanted → ℕ → ℕ → Type 0
StandsAt wanted segment place = IsSomeAnd (slice_get wanted place) (λ w. w.segment ≡ segment)

-- each wanted segment is found at its place
abbrev pub AreFound : BTreeMap ℕ ℕ → List Wanted → Type 0
AreFound places wanted = (place : ℕ) (w : Wanted) → slice_get wanted place ≡ Some w → get nat_cmp places w.segment ≡ Some place

-- the place of each wanted segment, and of no other
pub record AreReads (places : BTreeMap ℕ ℕ) (wanted : List Wanted) (handed : ℕ) : Type 0 where
  pub placed : AreFound places wanted
  pub stands : (segment place : ℕ) → get nat_cmp places segment ≡ Some place → StandsAt wanted segment place
  pub handed_inside : handed ≤ length wanted
  pub not_yet : (place : ℕ) (w : Wanted) → handed ≤ place → slice_get wanted place ≡ Some w → w.bytes ≡ None

-- wanted before, or wanted from now on
abbrev pub IsWanted : ℕ → List Wanted → List Wanted → Type 0
IsWanted segment old new = (((place : ℕ) × StandsAt old segment place) × (new ≡ old)) ⊎ (((place : ℕ) → StandsAt old segment place → ⊥) × (new ≡ old ++ record { segment = segment; bytes = None } ∷ []))

-- The read of the first segment that was not handed out, which none was before.
pub record HandsOut (old new : ReadsData) (request : ReadRequest) : Type 0 where
  pub number : request.id.0 ≡ old.handed
  pub segment : slice_get old.wanted old.handed ≡ Some (record { segment = request.segment_id; bytes = None })
  pub first : (place : ℕ) → StandsAt old.wanted request.segment_id place → place ≡ old.handed
  pub handed : new.handed ≡ old.handed + 1
  pub bounded : new.handed < 2 ^ 64
  pub wanted : new.wanted ≡ old.wanted

-- handed out, and nothing came
abbrev pub IsOutstanding : ReadsData → ReadId → Type 0
IsOutstanding reads read = (read.0 < reads.handed) × IsSomeAnd (slice_get reads.wanted read.0) (λ w. w.bytes ≡ None)

-- The bytes came for the read's segment, and nothing else is wanted or handed out.
pub record Delivers (read : ReadId) (bytes : List ℕ) (old new : ReadsData) : Type 0 where
  pub outstanding : IsOutstanding old read
  pub segment : ℕ
  pub at : slice_get old.wanted read.0 ≡ Some (record { segment = segment; bytes = None })
  pub taken : new.wanted ≡ slice_set old.wanted read.0 (record { segment = segment; bytes = Some bytes })
  pub handed : new.handed ≡ old.handed

-- the bytes of a segment, where they came
abbrev pub bytes_of : List Wanted → ℕ → Option (List ℕ)
bytes_of [] segment = None
bytes_of (w ∷ wanted) segment = if w.segment == segment then w.bytes else bytes_of wanted segment

-- the bytes of a segment that are there now were there before
abbrev pub NoneCame : List Wanted → List Wanted → Type 0
NoneCame old new = (segment : ℕ) (bytes : List ℕ) → bytes_of new segment ≡ Some bytes → bytes_of old segment ≡ Some bytes

-- the bytes came for the read, which is of the segment, and none had come of it
abbrev pub DeliversOf : ReadId → List ℕ → ReadsData → ReadsData → ℕ → Type 0
DeliversOf read bytes old new segment = (delivers : Delivers read bytes old new) × (delivers.segment ≡ segment) × (bytes_of old.wanted segment ≡ None)

-- ---- what is stored of the segments

-- the bytes of the segment are gone from memory
abbrev pub IsGone : List Stored → ℕ → Type 0
IsGone stored segment = (place : ℕ) × (s : Stored) × (slice_get stored place ≡ Some s) × (s.segment ≡ segment) × (s.gone ≡ true)

-- the segment is named by a split's need at the place, or at a later one
abbrev pub IsNamed : List Stored → ℕ → ℕ → Type 0
IsNamed stored segment n = (place : ℕ) × (s : Stored) × (slice_get stored place ≡ Some s) × (s.segment ≡ segment) × (n ≤ s.last)

-- what is gone from memory still is
abbrev pub KeepsGone : List Stored → List Stored → Type 0
KeepsGone old new = (segment : ℕ) → IsGone old segment → IsGone new segment

-- What names the segments still does, no bytes were let go, and no need was passed.
pub record KeepsStored (old new : ReadsData) : Type 0 where
  pub named : (segment n : ℕ) → IsNamed old.stored segment n → IsNamed new.stored segment n
  pub gone : (segment : ℕ) → IsGone new.stored segment → IsGone old.stored segment
  pub still_gone : KeepsGone old.stored new.stored
  pub passed : new.passed ≡ old.passed

-- So many needs were passed, the last of which names the segment. Only its bytes were let go, and only where no later
-- need names it.
pub record Passes (segment count : ℕ) (old new : ReadsData) : Type 0 where
  pub wanted : new.wanted ≡ old.wanted
  pub handed : new.handed ≡ old.handed
  pub passed : new.passed ≡ count
  pub named : (segment n : ℕ) → IsNamed old.stored segment n → IsNamed new.stored segment n
  pub gone : (s : ℕ) → IsGone new.stored s → IsGone old.stored s ⊎ ((segment ≡ s) × ((n : ℕ) → IsNamed old.stored s n → n < count))
  pub still_gone : KeepsGone old.stored new.stored

-- The bytes of the segment were let go, if they came, and no others.
pub record LetsGo (segment : ℕ) (old new : ReadsData) : Type 0 where
  pub wanted : new.wanted ≡ old.wanted
  pub handed : new.handed ≡ old.handed
  pub passed : new.passed ≡ old.passed
  pub named : (s n : ℕ) → IsNamed old.stored s n → IsNamed new.stored s n
  pub gone : (s : ℕ) → IsGone new.stored s → IsGone old.stored s ⊎ (segment ≡ s)
  pub still_gone : KeepsGone old.stored new.stored
  pub let_go : (bytes : List ℕ) → bytes_of old.wanted segment ≡ Some bytes → IsGone new.stored segment

-- how many bytes came, if they came
abbrev pub byte_count : Option (List ℕ) → ℕ
byte_count None = 0
byte_count (Some bytes) = length bytes

-- how many bytes of a wanted segment are in memory
abbrev pub bytes_held : Wanted → Stored → ℕ
bytes_held w s = if s.gone then 0 else byte_count w.bytes

-- how many bytes of the wanted segments are in memory: those that came and were not let go
abbrev pub held_bytes : List Wanted → List Stored → ℕ
held_bytes [] stored = 0
held_bytes (w ∷ wanted) [] = 0
held_bytes (w ∷ wanted) (s ∷ stored) = bytes_held w s + held_bytes wanted stored

-- Nothing else is wanted or handed out, and no bytes came; those that came may be gone.
pub record LetsAllGo (old new : ReadsData) : Type 0 where
  pub wanted : new.wanted ≡ old.wanted
  pub handed : new.handed ≡ old.handed
  pub gone : (segment : ℕ) (bytes : List ℕ) → bytes_of old.wanted segment ≡ Some bytes → IsGone new.stored segment
