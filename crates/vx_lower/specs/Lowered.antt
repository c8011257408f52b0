-- The plan that a tree is lowered to.
use Rattle.std.specs.Prelude.{ℕ, zero, suc, Bool, true, false, if◌then◌else◌, List, [], ◌∷◌}
use Rattle.vx_base.specs.Data.{Members, no_members, member}
use Rattle.vx_expr.specs.declared.statistics.Statistic.{Statistic}
use Rattle.vx_layout.specs.Kept.{KeptFields, all, only, is_kept}
use Rattle.vx_layout.specs.Rows.{struct_members}
use Rattle.vx_layout.specs.Trees.{Tree, missing, leaf, chunks, fields, dict, lists, zoned, Forest, no_trees, tree, Validity, always, valid_by}
use Rattle.vx_rows.specs.Heads.{Head}
use Rattle.vx_rows.specs.Zones.{Zones}
use Rattle.vx_plan.specs.Plans.{Plan, no_plan, concat_plan, eval_plan, filter_plan, pack_plan, take_plan, list_plan, scan_plan, zoned_plan, Plans, no_plans, plan, PlanValidity, all_valid, valid_as}
use Rattle.vx_lower.specs.KeptRows.{kept_type, kept_pack}

-- zones that tell something: their length isn't 0, and there are statistics
abbrev pub tell : ℕ → List Statistic → Bool
tell zero statistics = false
tell (suc n) [] = false
tell (suc n) (statistic ∷ statistics) = true

-- the head of a plan of the node, without the fields that aren't kept
abbrev pub kept_head : KeptFields → Head → Head
kept_head kept head = record { number = head.number; dtype = kept_type kept head.dtype; rows = head.rows }

-- a plan of the whole of a node, and an eval over it where not all fields are kept
abbrev pub packing : KeptFields → Head → Plan → Plan
packing all head p = p
packing (only names) head p = eval_plan (kept_head (only names) head) (kept_pack (only names) head.dtype) p

-- zones beside their data, where they tell something
abbrev pub with_zones : Bool → Head → Zones → Plan → Plan → Plan
with_zones true head zones content table = zoned_plan head zones content table
with_zones false head zones content table = content

-- A leaf is a filter over a scan; chunks are a concat; a struct is a pack of its kept fields; a dictionary is a
-- take, under an eval that packs the kept fields; zones stand beside their data where they tell something.
-- What lies below a field, a validity, a dictionary, a list or in a table of zones is lowered with all its
-- fields.
abbrev mutual
  pub lowered : Tree → KeptFields → Plan
  lowered (missing head) kept = no_plan head
  lowered (leaf head segment coding) kept = filter_plan head (scan_plan head segment coding)
  lowered (chunks head forest) kept = concat_plan (kept_head kept head) (lowered_in forest kept)
  lowered (fields head forest validity) kept =
      pack_plan (kept_head kept head) (lowered_fields (struct_members head.dtype) forest kept) (lowered_validity validity)
  lowered (dict head values codes) kept = packing kept head (take_plan head (lowered codes all) (lowered values all))
  lowered (lists head elements offsets validity) kept =
      list_plan head (lowered elements all) (lowered offsets all) (lowered_validity validity)
  lowered (zoned head zones content table) kept =
      with_zones (tell zones.zone_len zones.statistics) (kept_head kept head) zones (lowered content kept) (lowered table all)

  pub lowered_in : Forest → KeptFields → Plans
  lowered_in no_trees kept = no_plans
  lowered_in (tree first rest) kept = plan (lowered first kept) (lowered_in rest kept)

  pub lowered_fields : Members → Forest → KeptFields → Plans
  lowered_fields no_members forest kept = no_plans
  lowered_fields (member name t ms) no_trees kept =
      if is_kept kept name then plan (no_plan (record { number = 0; dtype = t; rows = 0 })) (lowered_fields ms no_trees kept)
      else lowered_fields ms no_trees kept
  lowered_fields (member name t ms) (tree first rest) kept =
      if is_kept kept name then plan (lowered first all) (lowered_fields ms rest kept) else lowered_fields ms rest kept

  pub lowered_validity : Validity → PlanValidity
  lowered_validity always = all_valid
  lowered_validity (valid_by validity) = valid_as (lowered validity all)
