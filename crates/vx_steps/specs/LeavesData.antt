-- The columns of leaves as plain data.
use Rattle.std.specs.Prelude.{Bool, List, refl}
use Rattle.std.specs.Coded.{Coded, code_by, coded_bool, coded×}
use Rattle.vx_steps.specs.KeptData.{Kept, coded_kept_list}

-- The columns of all leaves that were handed in or decoded, in the order in which they came, and those of them that are
-- here, in memory: the others are gone, and only clauses remember them. Whether there is room to forget any of them.
pub record LeavesData : Type 0 where
  pub all : List Kept
  pub here : List Kept
  pub ready : Bool

abbrev pub leaves_parts : LeavesData → List Kept × (List Kept × Bool)
leaves_parts leaves = (leaves.all, (leaves.here, leaves.ready))

abbrev pub leaves_with : List Kept × (List Kept × Bool) → LeavesData
leaves_with parts = record { all = parts.0; here = parts.1.0; ready = parts.1.1 }

abbrev pub coded_leaves : Coded LeavesData
coded_leaves = code_by (List Kept × (List Kept × Bool)) (coded× coded_kept_list (coded× coded_kept_list coded_bool)) leaves_parts leaves_with (λ _. refl)
