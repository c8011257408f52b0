-- The law of lowering, of all fields and of some.
use Rattle.std.proofs.Common.{◌≡◌, ℕ, List, Option, Some, None, refl, ap, ◌∙◌}
use Rattle.std.specs.Prelude.{option_map}
use Rattle.vx_base.specs.declared.dtypes.Nullability.TheVariants.{NonNullable, Nullable}
use Rattle.vx_base.specs.Data.{DataType, bool_type, int_type, utf8_type, struct_type, list_type, Datum}
use Rattle.vx_base.specs.Names.{HasDistinctNames}
use Rattle.vx_layout.specs.Kept.{KeptFields, all, only}
use Rattle.vx_layout.specs.Rows.{value}
use Rattle.vx_layout.specs.Sound.{IsSound}
use Rattle.vx_layout.specs.Trees.{Tree, head_of}
use Rattle.vx_plan.specs.PlanRows.{plan_value}
use Rattle.vx_rows.specs.Derivations.{Leaves, derived}
use Rattle.vx_rows.specs.Whole.{GiveFitting}
use Rattle.vx_lower.specs.KeptRows.{kept_value, MayKeep}
use Rattle.vx_lower.specs.Lowered.{lowered}
use Rattle.vx_lower.proofs.LoweredRows.{lowered_all}
use Rattle.vx_lower.proofs.LoweredValues.{lowered_kept}

all_keeps : (t : DataType) (v : Option Datum) → v ≡ option_map (kept_value all t) v
all_keeps t None = refl
all_keeps t (Some v) = refl

kept_at : (leaves : Leaves) → GiveFitting leaves → (offset : ℕ) (t : Tree) (names : List (List ℕ)) (row : ℕ) → IsSound t → (s : DataType) → (head_of t).dtype ≡ s → HasDistinctNames s → MayKeep (only names) s → plan_value leaves offset (lowered t (only names)) row ≡ option_map (kept_value (only names) s) (value leaves t (only names) row)
kept_at leaves fitting offset t names row sound (struct_type ms NonNullable) e distinct may = lowered_kept offset leaves fitting names ms distinct.0 t row sound e
kept_at leaves fitting offset t names row sound (struct_type ms Nullable) e distinct may = absurd may
kept_at leaves fitting offset t names row sound (bool_type n) e distinct may = absurd may
kept_at leaves fitting offset t names row sound (int_type kind n) e distinct may = absurd may
kept_at leaves fitting offset t names row sound (utf8_type n) e distinct may = absurd may
kept_at leaves fitting offset t names row sound (list_type s n) e distinct may = absurd may

pub lowered_values : (leaves : Leaves) → GiveFitting leaves → (offset : ℕ) (t : Tree) (kept : KeptFields) (row : ℕ) → IsSound t → HasDistinctNames (head_of t).dtype → MayKeep kept (head_of t).dtype → plan_value leaves offset (lowered t kept) row ≡ option_map (kept_value kept (head_of t).dtype) (value leaves t kept row)
lowered_values leaves fitting offset t all row sound distinct may = ap (derived leaves) (lowered_all offset t row sound) ∙ all_keeps (head_of t).dtype (value leaves t all row)
lowered_values leaves fitting offset t (only names) row sound distinct may = kept_at leaves fitting offset t names row sound (head_of t).dtype refl distinct may
