-- The reads of a scan as plain data.
use Rattle.std.specs.Prelude.{ℕ, Bool, true, false, List, length, Option, Some, None}
use Rattle.vx_steps.specs.declared.reads.SegmentBytes.{SegmentBytes}
use Rattle.vx_steps.specs.declared.reads.SegmentBytes.TheVariants.{NotYet, Came, LetGo}
use Rattle.vx_steps.specs.declared.reads.WantedSegment.{WantedSegment}

-- a segment that is wanted, and its bytes, once they came
pub record Wanted : Type 0 where
  pub segment : ℕ
  pub bytes : Option (List ℕ)

-- whether the bytes of a wanted segment are gone from memory, and the last place at which a split's needs name it
pub record Stored : Type 0 where
  pub segment : ℕ
  pub gone : Bool
  pub last : ℕ

-- The wanted segments, in order, and how many of them were handed out; what is stored of them, and how many needs of the
-- last split were passed.
pub record ReadsData : Type 0 where
  pub wanted : List Wanted
  pub handed : ℕ
  pub stored : List Stored
  pub passed : ℕ

-- the bytes that came, whether they were let go or not
abbrev pub bytes_in : SegmentBytes → Option (List ℕ)
bytes_in NotYet = None
bytes_in (Came bytes) = Some bytes.items
bytes_in (LetGo bytes) = Some bytes.value.items

abbrev pub is_gone : SegmentBytes → Bool
is_gone NotYet = false
is_gone (Came bytes) = false
is_gone (LetGo bytes) = true

-- how many bytes are in memory
abbrev pub count_held : SegmentBytes → ℕ
count_held NotYet = 0
count_held (Came bytes) = length bytes.items
count_held (LetGo bytes) = 0

abbrev pub wanted_data : WantedSegment → Wanted
wanted_data w = record { segment = w.segment; bytes = bytes_in w.bytes }

abbrev pub stored_data : WantedSegment → Stored
stored_data w = record { segment = w.segment; gone = is_gone w.bytes; last = w.last }
