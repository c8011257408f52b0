-- What holds of readers, whatever the file.
use Rattle.std.specs.Prelude.{◌≡◌, ℕ, Bool, true, List, Option, Some, length, replicate}
use Rattle.std.specs.List.{slice_get}
use Rattle.vx_base.specs.Data.{Datum}
use Rattle.vx_base.specs.Masks.{both, chosen_of_chosen}
use Rattle.vx_layout.specs.Kept.{all}
use Rattle.vx_layout.specs.Rows.{derivation}
use Rattle.vx_layout.specs.Trees.{Tree}
use Rattle.vx_rows.specs.Reads.{IsIn}
use Rattle.vx_reads.specs.Computed.{RangeFinds}
use Rattle.vx_picking.specs.Rows.{rows_of}
use Rattle.vx_reads.specs.Needed.{needed}
use Rattle.vx_reads.specs.Truths.{AreTruths}

-- each segment that is asked for is reached by a row of the range
abbrev pub NeededIsReached : Type 0
NeededIsReached = (t : Tree) (start : ℕ) (bits : List Bool) (segment place : ℕ)
    → slice_get (needed t start bits) place ≡ Some segment → RangeFinds (IsIn segment) (derivation t all) start (length bits)

-- Where the expression is a fault at no row of a range, a filter that is worked out at each row keeps what one that is worked
-- out at the selected rows does.
abbrev pub FiltersAgree : Type 0
FiltersAgree = (f : ℕ → Option Datum) (start : ℕ) (mask all_truths truths : List Bool)
    → AreTruths f (rows_of start (replicate (length mask) true)) all_truths → AreTruths f (rows_of start mask) truths
    → both mask all_truths ≡ chosen_of_chosen mask truths
