-- What was delivered, and what lies outside.
use Rattle.std.specs.Prelude.{◌≡◌, ℕ, List, Some}
use Rattle.std.specs.List.{slice_get}
use Rattle.vx_rows.specs.SegmentLeaves.{Bytes}
use Rattle.vx_steps.specs.ReadTableData.{Wanted}

-- what lies outside agrees with what was delivered
abbrev pub Agrees : List Wanted → Bytes → Type 0
Agrees wanted outside = (place : ℕ) (w : Wanted) (bytes : List ℕ) → slice_get wanted place ≡ Some w → w.bytes ≡ Some bytes → outside w.segment ≡ Some bytes

-- what agreed with what was delivered still does
abbrev pub KeepsAgreeing : List Wanted → List Wanted → Type 0
KeepsAgreeing old new = (outside : Bytes) → Agrees old outside → Agrees new outside
