-- Why a scan may fail, by what its rows read and are worth.
use Rattle.std.specs.Prelude.{◌≡◌, ℕ, ◌+◌, ◌<◌, List, length, None, IsSomeAnd}
use Rattle.vx_base.specs.declared.locations.SegmentLocation.{SegmentLocation}
use Rattle.vx_expr.specs.Meaning.{meaning}
use Rattle.vx_expr.specs.Rows.{no_bound}
use Rattle.vx_layout.specs.Trees.{head_of}
use Rattle.vx_lower.specs.Projected.{Projection, root_value, scan_reads}
use Rattle.vx_rows.specs.Derivations.{Leaves}
use Rattle.vx_rows.specs.Reads.{directly, Found, AnyOf, IsAmong, Finds, FindsBy, IsIn, IsCodeOf}
use Rattle.vx_rows.specs.SegmentLeaves.{Bytes}
use Rattle.vx_steps.specs.Laws.{IsRowOf, IsBadCodeAt}
use Rattle.vx_steps.specs.ScanLaws.{IsTornIn}

-- P of what some row of the scan finds
abbrev pub ScanFinds : (Found → Type 0) → Projection → List ℕ → Type 0
ScanFinds P p rows = AnyOf (λ row. Finds P (scan_reads p row)) rows

-- some row reaches the segment
abbrev pub ScanReaches : Projection → List ℕ → ℕ → Type 0
ScanReaches p rows segment = ScanFinds (IsIn segment) p rows

-- some row reads a code of an outermost dictionary
abbrev pub ReadsDictionary : Projection → List ℕ → Type 0
ReadsDictionary p rows = AnyOf (λ row. (dictionary : ℕ) × FindsBy directly (IsCodeOf dictionary) (scan_reads p row)) rows

-- some row reads a row of the list of that number
abbrev pub ReadsList : Projection → List ℕ → ℕ → Type 0
ReadsList p rows list = ScanFinds (IsRowOf list) p rows

-- some row reaches the segment, which has no location
abbrev pub LacksLocation : List SegmentLocation → Projection → List ℕ → ℕ → Type 0
LacksLocation locations p rows segment = ScanReaches p rows segment × ¬ (segment < length locations)

-- some row reads a leaf of the segment, whose bytes spell no values for it
abbrev pub ReadsTorn : Bytes → Projection → List ℕ → ℕ → Type 0
ReadsTorn bytes p rows segment = ScanFinds (IsTornIn bytes segment) p rows

-- some row reads the code at a row of the dictionary of that number, which is neither null nor the place of a value
abbrev pub ReadsBadCode : Leaves → Projection → List ℕ → ℕ → ℕ → Type 0
ReadsBadCode leaves p rows dictionary row = ScanFinds (IsBadCodeAt leaves dictionary row) p rows

-- the root's value at the row is no fault, and the meaning there is one
abbrev pub IsFaultAt : Leaves → Projection → ℕ → Type 0
IsFaultAt leaves p row =
    IsSomeAnd (root_value leaves p row) (λ v. meaning (head_of p.root).dtype no_bound p.expression.term v (p.offset + row) ≡ None)

-- the row is one of the scan's, and it is so there
abbrev pub FaultsAt : Leaves → Projection → List ℕ → ℕ → Type 0
FaultsAt leaves p rows row = IsAmong row rows × IsFaultAt leaves p row
