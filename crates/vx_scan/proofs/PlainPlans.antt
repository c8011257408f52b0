-- Plans without expressions, without shares and without gaps: what a whole tree is lowered to.
use Rattle.std.proofs.Common.{ℕ, zero, suc, ◌+◌, ◌-◌, inl, inr, Bool, true, false}
use Rattle.std.specs.Prelude.{nat_lt, if◌then◌else◌}
use Rattle.vx_base.specs.declared.dtypes.Nullability.{Nullability}
use Rattle.vx_base.specs.declared.dtypes.Nullability.TheVariants.{NonNullable, Nullable}
use Rattle.vx_base.specs.Data.{DataType, Members, no_members, member}
use Rattle.vx_base.specs.Fits.{nullability_of}
use Rattle.vx_layout.specs.Kept.{all}
use Rattle.vx_layout.specs.Rows.{struct_members}
use Rattle.vx_layout.specs.Sound.{IsSound, AreChunks, AreFields, IsValidity}
use Rattle.vx_layout.specs.Trees.{Tree, missing, leaf, chunks, fields, dict, lists, zoned, Forest, no_trees, tree, Validity, always, valid_by}
use Rattle.vx_lower.specs.Lowered.{lowered, lowered_in, lowered_fields, lowered_validity, with_zones, kept_head, tell}
use Rattle.vx_lower.specs.Numbered.{numbered, each_numbered, validity_numbered}
use Rattle.vx_lower.specs.Sizes.{plan_size, plans_size}
use Rattle.vx_plan.specs.Plans.{Plan, plan_head, no_plan, concat_plan, eval_plan, filter_plan, pack_plan, take_plan, share_plan, list_plan, row_idx_plan, scan_plan, zoned_plan, pruning_plan, Plans, no_plans, plan, PlanValidity, all_valid, valid_as}
use Rattle.vx_plan.specs.PlanRows.{plan_derivation, plan_derivation_in, plan_derivations}
use Rattle.vx_rows.specs.Derivations.{Derivation, Leaves, each_row}
use Rattle.vx_rows.specs.Heads.{Head}
use Rattle.vx_rows.specs.Zones.{Zones}
use Rattle.vx_steps.specs.Laws.{HasPart, HavePart, IsFaultyTerm}

abbrev mutual
  pub IsPlain : Plan → Type 0
  IsPlain (no_plan head) = ⊥
  IsPlain (concat_plan head children) = ArePlain children
  IsPlain (eval_plan head e child) = ⊥
  IsPlain (filter_plan head child) = IsPlain child
  IsPlain (pack_plan head children validity) = ArePlain children × ValidityIsPlain validity
  IsPlain (take_plan head codes values) = IsPlain codes × IsPlain values
  IsPlain (share_plan head child) = ⊥
  IsPlain (list_plan head elements offsets validity) = IsPlain elements × IsPlain offsets × ValidityIsPlain validity
  IsPlain (row_idx_plan head) = ⊥
  IsPlain (scan_plan head segment coding) = Unit {0}
  IsPlain (zoned_plan head zones content table) = IsPlain content × IsPlain table
  IsPlain (pruning_plan head pruning table) = ⊥

  pub ArePlain : Plans → Type 0
  ArePlain no_plans = Unit {0}
  ArePlain (plan first rest) = IsPlain first × ArePlain rest

  pub ValidityIsPlain : PlanValidity → Type 0
  ValidityIsPlain all_valid = Unit {0}
  ValidityIsPlain (valid_as validity) = IsPlain validity

-- ---- lowered trees

zones_plain : (b : Bool) (head : Head) (zones : Zones) (content table : Plan) → IsPlain content → IsPlain table → IsPlain (with_zones b head zones content table)
zones_plain true head zones content table one two = (one, two)
zones_plain false head zones content table one two = one

mutual
  pub lowered_plain : (t : Tree) → IsSound t → IsPlain (lowered t all)
  lowered_plain (missing head) sound = absurd sound
  lowered_plain (leaf head segment coding) sound = tt
  lowered_plain (chunks head forest) sound = chunks_plain head.dtype forest sound.0
  lowered_plain (fields head forest validity) sound = (fields_plain (struct_members head.dtype) forest head.rows sound.1, validity_plain validity head.rows (nullability_of head.dtype) sound.2)
  lowered_plain (dict head values codes) sound = (lowered_plain codes sound.1, lowered_plain values sound.0)
  lowered_plain (lists head elements offsets validity) sound = (lowered_plain elements sound.0, lowered_plain offsets sound.1, validity_plain validity head.rows (nullability_of head.dtype) sound.3)
  lowered_plain (zoned head zones content table) sound =
      zones_plain (tell zones.zone_len zones.statistics) (kept_head all head) zones (lowered content all) (lowered table all) (lowered_plain content sound.0) (lowered_plain table sound.2)

  chunks_plain : (t : DataType) (forest : Forest) → AreChunks t forest → ArePlain (lowered_in forest all)
  chunks_plain t no_trees are = tt
  chunks_plain t (tree first rest) are = (lowered_plain first are.0, chunks_plain t rest are.2)

  pub fields_plain : (ms : Members) (forest : Forest) (rows : ℕ) → AreFields ms rows forest → ArePlain (lowered_fields ms forest all)
  fields_plain no_members no_trees rows are = tt
  fields_plain no_members (tree first rest) rows are = absurd are
  fields_plain (member name t ms) no_trees rows are = absurd are
  fields_plain (member name t ms) (tree first rest) rows are = (lowered_plain first are.0, fields_plain ms rest rows are.2)

  pub validity_plain : (validity : Validity) (rows : ℕ) (n : Nullability) → IsValidity n rows validity → ValidityIsPlain (lowered_validity validity)
  validity_plain always rows n is = tt
  validity_plain (valid_by validity) rows NonNullable is = absurd is
  validity_plain (valid_by validity) rows Nullable is = lowered_plain validity is.0

-- ---- other numbers

mutual
  pub numbered_plain : (first : ℕ) (p : Plan) → IsPlain p → IsPlain (numbered first p)
  numbered_plain first (no_plan head) is = is
  numbered_plain first (concat_plan head children) is = each_plain first children is
  numbered_plain first (eval_plan head e child) is = absurd is
  numbered_plain first (filter_plan head child) is = numbered_plain first child is
  numbered_plain first (pack_plan head children validity) is = (each_plain first children is.0, validity_numbered_plain (first + plans_size children) validity is.1)
  numbered_plain first (take_plan head codes values) is = (numbered_plain first codes is.0, numbered_plain (first + plan_size codes) values is.1)
  numbered_plain first (share_plan head child) is = absurd is
  numbered_plain first (list_plan head elements offsets validity) is = (numbered_plain first elements is.0, numbered_plain (first + plan_size elements) offsets is.1, validity_numbered_plain (first + plan_size elements + plan_size offsets) validity is.2)
  numbered_plain first (row_idx_plan head) is = absurd is
  numbered_plain first (scan_plan head segment coding) is = tt
  numbered_plain first (zoned_plan head zones content table) is = (numbered_plain first content is.0, numbered_plain (first + plan_size content) table is.1)
  numbered_plain first (pruning_plan head pruning table) is = absurd is

  each_plain : (first : ℕ) (ps : Plans) → ArePlain ps → ArePlain (each_numbered first ps)
  each_plain first no_plans is = tt
  each_plain first (plan one rest) is = (numbered_plain first one is.0, each_plain (first + plan_size one) rest is.1)

  validity_numbered_plain : (first : ℕ) (validity : PlanValidity) → ValidityIsPlain validity → ValidityIsPlain (validity_numbered first validity)
  validity_numbered_plain first all_valid is = tt
  validity_numbered_plain first (valid_as validity) is = numbered_plain first validity is

-- ---- no expression by which a row is derived is a fault

rows_sound : (leaves : Leaves) (f : ℕ → Derivation) → ((row : ℕ) → HasPart (IsFaultyTerm leaves) (f row) → ⊥) → (count from : ℕ) → HavePart (IsFaultyTerm leaves) (each_row f from count) → ⊥
rows_sound leaves f sound zero from any = any
rows_sound leaves f sound (suc count) from (inl here) = sound from here
rows_sound leaves f sound (suc count) from (inr later) = rows_sound leaves f sound count (from + 1) later

pub by_row : (b : Bool) (leaves : Leaves) (d e : Derivation) → (HasPart (IsFaultyTerm leaves) d → ⊥) → (HasPart (IsFaultyTerm leaves) e → ⊥) → HasPart (IsFaultyTerm leaves) (if b then d else e) → ⊥
by_row true leaves d e one other any = one any
by_row false leaves d e one other any = other any

mutual
  pub plain_sound : (leaves : Leaves) (offset : ℕ) (p : Plan) → IsPlain p → (row : ℕ) → HasPart (IsFaultyTerm leaves) (plan_derivation offset p row) → ⊥
  plain_sound leaves offset (no_plan head) is row any = is
  plain_sound leaves offset (concat_plan head children) is row any = in_sound leaves offset children is row any
  plain_sound leaves offset (eval_plan head e child) is row any = is
  plain_sound leaves offset (filter_plan head child) is row any = plain_sound leaves offset child is row any
  plain_sound leaves offset (pack_plan head children all_valid) is row (inl here) = here
  plain_sound leaves offset (pack_plan head children all_valid) is row (inr below) = each_sound leaves offset children is.0 row below
  plain_sound leaves offset (pack_plan head children (valid_as validity)) is row (inl here) = here
  plain_sound leaves offset (pack_plan head children (valid_as validity)) is row (inr (inl (inl here))) = here
  plain_sound leaves offset (pack_plan head children (valid_as validity)) is row (inr (inl (inr below))) = each_sound leaves offset children is.0 row below
  plain_sound leaves offset (pack_plan head children (valid_as validity)) is row (inr (inr below)) = plain_sound leaves offset validity is.1 row below
  plain_sound leaves offset (take_plan head codes values) is row (inl here) = here
  plain_sound leaves offset (take_plan head codes values) is row (inr (inl below)) = plain_sound leaves offset codes is.0 row below
  plain_sound leaves offset (take_plan head codes values) is row (inr (inr below)) = rows_sound leaves (plan_derivation offset values) (λ other. plain_sound leaves offset values is.1 other) (plan_head values).rows 0 below
  plain_sound leaves offset (share_plan head child) is row any = is
  plain_sound leaves offset (list_plan head elements offsets validity) is row any = any
  plain_sound leaves offset (row_idx_plan head) is row any = is
  plain_sound leaves offset (scan_plan head segment coding) is row any = any
  plain_sound leaves offset (zoned_plan head zones content table) is row any = plain_sound leaves offset content is.0 row any
  plain_sound leaves offset (pruning_plan head pruning table) is row any = is

  in_sound : (leaves : Leaves) (offset : ℕ) (ps : Plans) → ArePlain ps → (row : ℕ) → HasPart (IsFaultyTerm leaves) (plan_derivation_in offset ps row) → ⊥
  in_sound leaves offset no_plans is row any = any
  in_sound leaves offset (plan first rest) is row any =
      by_row (nat_lt row (plan_head first).rows) leaves (plan_derivation offset first row) (plan_derivation_in offset rest (row - (plan_head first).rows))
      (plain_sound leaves offset first is.0 row) (in_sound leaves offset rest is.1 (row - (plan_head first).rows)) any

  each_sound : (leaves : Leaves) (offset : ℕ) (ps : Plans) → ArePlain ps → (row : ℕ) → HavePart (IsFaultyTerm leaves) (plan_derivations offset ps row) → ⊥
  each_sound leaves offset no_plans is row any = any
  each_sound leaves offset (plan first rest) is row (inl here) = plain_sound leaves offset first is.0 row here
  each_sound leaves offset (plan first rest) is row (inr later) = each_sound leaves offset rest is.1 row later
