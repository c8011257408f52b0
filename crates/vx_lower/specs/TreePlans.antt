-- What a plan of a table keeps of a tree: its dtype and its values without the fields that aren't kept, its rows,
-- and its reads.
use Rattle.std.specs.Prelude.{◌≡◌, ℕ, map, option_map}
use Rattle.vx_layout.specs.Kept.{KeptFields}
use Rattle.vx_layout.specs.Rows.{value, reads}
use Rattle.vx_layout.specs.Trees.{Tree, head_of}
use Rattle.vx_plan.specs.Plans.{Plan, plan_head}
use Rattle.vx_plan.specs.PlanRows.{plan_value, plan_reads}
use Rattle.vx_rows.specs.Derivations.{Leaves}
use Rattle.vx_rows.specs.Reads.{directly}
use Rattle.vx_rows.specs.Renumbered.{read_renumbered}
use Rattle.vx_rows.specs.Whole.{GiveFitting}
use Rattle.vx_lower.specs.KeptRows.{kept_type, kept_value}
use Rattle.vx_lower.specs.Lowered.{lowered}
use Rattle.vx_lower.specs.OldNumbers.{old_number}

abbrev pub HasTreeType : Tree → KeptFields → Plan → Type 0
HasTreeType t kept p = (plan_head p).dtype ≡ kept_type kept (head_of t).dtype

abbrev pub HasTreeRows : Tree → Plan → Type 0
HasTreeRows t p = (plan_head p).rows ≡ (head_of t).rows

abbrev pub HasTreeValues : Tree → KeptFields → Plan → Type 0
HasTreeValues t kept p = (leaves : Leaves) → GiveFitting leaves → (offset row : ℕ)
    → plan_value leaves offset p row ≡ option_map (kept_value kept (head_of t).dtype) (value leaves t kept row)

-- in their order, with the numbers of the tree's dictionaries and lists in place of the table's
abbrev pub HasTreeReads : Tree → KeptFields → Plan → Type 0
HasTreeReads t kept p = (offset row : ℕ)
    → map (read_renumbered (old_number 0 (lowered t kept))) (plan_reads offset p row) ≡ reads t directly kept row
