-- Plans that are alike but for the numbers of their dictionaries and lists: what a lowering into a table keeps
-- of the plan that it is to make, node by node.
use Rattle.std.specs.Prelude.{◌≡◌, ℕ, map}
use Rattle.vx_base.specs.declared.codings.Coding.{Coding}
use Rattle.vx_expr.specs.Terms.{Term}
use Rattle.vx_rows.specs.Derivations.{Leaves}
use Rattle.vx_plan.specs.Pruning.{Pruning}
use Rattle.vx_plan.specs.Plans.{Plan, concat_plan, eval_plan, filter_plan, pack_plan, take_plan, list_plan, scan_plan, zoned_plan, pruning_plan, Plans, no_plans, plan, PlanValidity, all_valid, valid_as, plan_head}
use Rattle.vx_plan.specs.PlanRows.{plan_derivation, plan_value, plan_reads}
use Rattle.vx_rows.specs.Renumbered.{renumbered, read_renumbered}
use Rattle.vx_rows.specs.Heads.{Head}
use Rattle.vx_rows.specs.Zones.{Zones}

-- heads of one dtype and one number of rows
pub record SameHead (head other : Head) : Type 0 where
  pub dtype : head.dtype ≡ other.dtype
  pub rows : head.rows ≡ other.rows

-- Each row is derived alike, once the numbers of both are replaced, each by a function of its own.
pub record IsAlike (number_of other_number_of : ℕ → ℕ) (offset : ℕ) (p q : Plan) : Type 0 where
  pub head : SameHead (plan_head p) (plan_head q)
  pub derived : (row : ℕ) → renumbered number_of (plan_derivation offset p row) ≡ renumbered other_number_of (plan_derivation offset q row)

abbrev pub AreAlike : (ℕ → ℕ) → (ℕ → ℕ) → ℕ → Plans → Plans → Type 0
AreAlike f g offset no_plans no_plans = Unit {0}
AreAlike f g offset no_plans (plan q qs) = ⊥
AreAlike f g offset (plan p ps) no_plans = ⊥
AreAlike f g offset (plan p ps) (plan q qs) = IsAlike f g offset p q × AreAlike f g offset ps qs

abbrev pub ValidityIsAlike : (ℕ → ℕ) → (ℕ → ℕ) → ℕ → PlanValidity → PlanValidity → Type 0
ValidityIsAlike f g offset all_valid all_valid = Unit {0}
ValidityIsAlike f g offset all_valid (valid_as q) = ⊥
ValidityIsAlike f g offset (valid_as p) all_valid = ⊥
ValidityIsAlike f g offset (valid_as p) (valid_as q) = IsAlike f g offset p q

-- ---- plans whose children are alike are alike

abbrev pub ConcatsAreAlike : Type 0
ConcatsAreAlike = (f g : ℕ → ℕ) (offset : ℕ) (head other : Head) (ps qs : Plans) → SameHead head other → AreAlike f g offset ps qs → IsAlike f g offset (concat_plan head ps) (concat_plan other qs)

abbrev pub PacksAreAlike : Type 0
PacksAreAlike = (f g : ℕ → ℕ) (offset : ℕ) (head other : Head) (ps qs : Plans) (validity other_validity : PlanValidity) → SameHead head other → AreAlike f g offset ps qs → ValidityIsAlike f g offset validity other_validity → IsAlike f g offset (pack_plan head ps validity) (pack_plan other qs other_validity)

abbrev pub TakesAreAlike : Type 0
TakesAreAlike = (f g : ℕ → ℕ) (offset : ℕ) (head other : Head) (codes other_codes values other_values : Plan) → SameHead head other → f head.number ≡ g other.number → IsAlike f g offset codes other_codes → IsAlike f g offset values other_values → IsAlike f g offset (take_plan head codes values) (take_plan other other_codes other_values)

abbrev pub EvalsAreAlike : Type 0
EvalsAreAlike = (f g : ℕ → ℕ) (offset : ℕ) (head other : Head) (e : Term) (p q : Plan) → SameHead head other → IsAlike f g offset p q → IsAlike f g offset (eval_plan head e p) (eval_plan other e q)

abbrev pub ScansAreAlike : Type 0
ScansAreAlike = (f g : ℕ → ℕ) (offset : ℕ) (head other inner other_inner : Head) (segment : ℕ) (coding : Coding) → SameHead head other → SameHead inner other_inner → IsAlike f g offset (filter_plan head (scan_plan inner segment coding)) (filter_plan other (scan_plan other_inner segment coding))

abbrev pub ZonedPlansAreAlike : Type 0
ZonedPlansAreAlike = (f g : ℕ → ℕ) (offset : ℕ) (head other : Head) (zones other_zones : Zones) (p q table other_table : Plan) → SameHead head other → IsAlike f g offset p q → IsAlike f g offset (zoned_plan head zones p table) (zoned_plan other other_zones q other_table)

abbrev pub PruningPlansAreAlike : Type 0
PruningPlansAreAlike = (f g : ℕ → ℕ) (offset : ℕ) (head other : Head) (pruning : Pruning) (p q : Plan) → SameHead head other → IsAlike f g offset p q → IsAlike f g offset (pruning_plan head pruning p) (pruning_plan other pruning q)

abbrev pub ListPacksAreAlike : Type 0
ListPacksAreAlike = (f g : ℕ → ℕ) (offset : ℕ) (head other : Head) (elements other_elements offsets other_offsets : Plan) (validity other_validity : PlanValidity) → SameHead head other → f head.number ≡ g other.number → IsAlike f g offset (list_plan head elements offsets validity) (list_plan other other_elements other_offsets other_validity)

-- ---- and what that is good for

abbrev pub AlikeHaveValues : Type 0
AlikeHaveValues = (f g : ℕ → ℕ) (leaves : Leaves) (offset : ℕ) (p q : Plan) (row : ℕ) → IsAlike f g offset p q → plan_value leaves offset p row ≡ plan_value leaves offset q row

abbrev pub AlikeRead : Type 0
AlikeRead = (f g : ℕ → ℕ) (offset : ℕ) (p q : Plan) (row : ℕ) → IsAlike f g offset p q → map (read_renumbered f) (plan_reads offset p row) ≡ map (read_renumbered g) (plan_reads offset q row)
