-- By which way a row of a plan reads a leaf: directly, or through the whole values of an outermost take.
use Rattle.std.specs.Prelude.{◌≡◌, ℕ, Some, None}
use Rattle.vx_rows.specs.Reads.{Way, directly, through}
use Rattle.vx_plan.specs.Plans.{Plan, take_plan, share_plan, plan_head}
use Rattle.vx_steps.specs.declared.leaf_reads.LeafRead.{LeafRead}
use Rattle.vx_steps.specs.Given.{no_given}
use Rattle.vx_steps.specs.Visits.{Test, Visits, IsLeafRead, SomeWholeVisit}

-- the number of the whole values that are asked for by the plan, which is a take or a share
abbrev pub whole_number : Plan → ℕ
whole_number (take_plan head codes values) = (plan_head values).number
whole_number (share_plan head child) = head.number
whole_number p = 0

-- the leaf, and not inside whole values
abbrev pub IsReadOutside : LeafRead → Test
IsReadOutside read (Some given) p row = IsLeafRead read (Some given) p row
IsReadOutside read None p row = ⊥

-- the take or the share of that number, and not inside other whole values: some row of its values reads the leaf
abbrev pub IsReadThrough : ℕ → LeafRead → Test
IsReadThrough n read (Some given) (take_plan head codes values) row = (head.number ≡ n) × SomeWholeVisit (IsLeafRead read) values (plan_head values).rows
IsReadThrough n read (Some given) (share_plan head child) row = (head.number ≡ n) × SomeWholeVisit (IsLeafRead read) child (plan_head child).rows
IsReadThrough n read handed p row = ⊥

abbrev pub IsReadBy : Way → LeafRead → Test
IsReadBy directly read = IsReadOutside read
IsReadBy (through n) read = IsReadThrough n read

-- the row of the plan reads the leaf that way
abbrev pub ReadsBy : Way → LeafRead → Plan → ℕ → Type 0
ReadsBy way read p row = Visits (IsReadBy way read) (Some no_given) p row
