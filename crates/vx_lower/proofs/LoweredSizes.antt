-- Lowering makes at most twice as many plans as there are nodes.
use Rattle.std.proofs.Common.{ℕ, ◌+◌, ◌*◌, ◌≤◌, Bool, true, false, cond, arith}
use Rattle.vx_base.specs.Data.{DataType, Members, no_members, member}
use Rattle.vx_base.specs.Fits.{nullability_of}
use Rattle.vx_base.specs.declared.dtypes.Nullability.{Nullability}
use Rattle.vx_base.specs.declared.dtypes.Nullability.TheVariants.{NonNullable, Nullable}
use Rattle.vx_layout.specs.Kept.{KeptFields, all, only, is_kept}
use Rattle.vx_layout.specs.Rows.{struct_members}
use Rattle.vx_layout.specs.Sound.{IsSound, AreChunks, AreFields, IsValidity}
use Rattle.vx_layout.specs.Trees.{Tree, missing, leaf, chunks, fields, dict, lists, zoned, Forest, no_trees, tree, Validity, always, valid_by}
use Rattle.vx_rows.specs.Heads.{Head}
use Rattle.vx_rows.specs.Zones.{Zones}
use Rattle.vx_plan.specs.Plans.{Plan, take_plan, Plans, plan}
use Rattle.vx_lower.specs.Lowered.{tell, with_zones, packing, kept_head, lowered, lowered_in, lowered_fields, lowered_validity}
use Rattle.vx_lower.specs.Sizes.{tree_size, forest_size, validity_size, plan_size, plans_size, plan_validity_size}

zones_size : (b : Bool) (head : Head) (zones : Zones) (content table : Plan) → plan_size (with_zones b head zones content table) ≤ 1 + (plan_size content + plan_size table)
zones_size true head zones content table = omega arith
zones_size false head zones content table = omega arith

packing_size : (kept : KeptFields) (head : Head) (p : Plan) → plan_size (packing kept head p) ≤ 1 + plan_size p
packing_size all head p = omega arith
packing_size (only names) head p = omega arith

field_size : (b : Bool) (p : Plan) (ps : Plans) → plans_size (cond b (plan p ps) ps) ≤ plan_size p + plans_size ps
field_size true p ps = omega arith
field_size false p ps = omega arith

mutual
  pub lowered_size : (t : Tree) (kept : KeptFields) → IsSound t → plan_size (lowered t kept) ≤ 2 * tree_size t
  lowered_size (missing head) kept sound = absurd sound
  lowered_size (leaf head segment coding) kept sound = omega arith
  lowered_size (chunks head forest) kept sound = omega (arith, forest_lowered head.dtype forest kept sound.0)
  lowered_size (fields head forest validity) kept sound = omega (arith, fields_lowered (struct_members head.dtype) head.rows forest kept sound.1, validity_lowered (nullability_of head.dtype) head.rows validity sound.2)
  lowered_size (dict head values codes) kept sound =
      let p : plan_size (packing kept head (take_plan head (lowered codes all) (lowered values all))) ≤ 1 + (1 + (plan_size (lowered codes all) + plan_size (lowered values all))) = packing_size kept head (take_plan head (lowered codes all) (lowered values all)) in
      omega (arith, lowered_size codes all sound.1, lowered_size values all sound.0)
  lowered_size (lists head elements offsets validity) kept sound = omega (arith, lowered_size elements all sound.0, lowered_size offsets all sound.1, validity_lowered (nullability_of head.dtype) head.rows validity sound.3)
  lowered_size (zoned head zones content table) kept sound =
      let p : plan_size (with_zones (tell zones.zone_len zones.statistics) (kept_head kept head) zones (lowered content kept) (lowered table all)) ≤ 1 + (plan_size (lowered content kept) + plan_size (lowered table all)) = zones_size (tell zones.zone_len zones.statistics) (kept_head kept head) zones (lowered content kept) (lowered table all) in
      omega (arith, lowered_size content kept sound.0, lowered_size table all sound.2)

  forest_lowered : (t : DataType) (forest : Forest) (kept : KeptFields) → AreChunks t forest → plans_size (lowered_in forest kept) ≤ 2 * forest_size forest
  forest_lowered t no_trees kept sound = omega arith
  forest_lowered t (tree first rest) kept sound = omega (arith, lowered_size first kept sound.0, forest_lowered t rest kept sound.2)

  fields_lowered : (ms : Members) (rows : ℕ) (forest : Forest) (kept : KeptFields) → AreFields ms rows forest → plans_size (lowered_fields ms forest kept) ≤ 2 * forest_size forest
  fields_lowered no_members rows forest kept sound = omega arith
  fields_lowered (member name t ms) rows no_trees kept sound = absurd sound
  fields_lowered (member name t ms) rows (tree first rest) kept sound =
      let p : plans_size (cond (is_kept kept name) (plan (lowered first all) (lowered_fields ms rest kept)) (lowered_fields ms rest kept)) ≤ plan_size (lowered first all) + plans_size (lowered_fields ms rest kept) = field_size (is_kept kept name) (lowered first all) (lowered_fields ms rest kept) in
      omega (arith, lowered_size first all sound.0, fields_lowered ms rows rest kept sound.2)

  validity_lowered : (n : Nullability) (rows : ℕ) (validity : Validity) → IsValidity n rows validity → plan_validity_size (lowered_validity validity) ≤ 2 * validity_size validity
  validity_lowered n rows always sound = omega arith
  validity_lowered NonNullable rows (valid_by validity) sound = absurd sound
  validity_lowered Nullable rows (valid_by validity) sound = omega (arith, lowered_size validity all sound.0)
