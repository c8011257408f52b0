-- The rows of the plan that a tree is lowered to: all fields kept they are derived as those of the tree, and
-- whatever is kept they read the same.
use Rattle.std.proofs.Common.{◌≡◌, ℕ, zero, suc, ◌+◌, ◌-◌, ltb, Bool, true, false, cond, List, refl, ap, ◌∙◌}
use Rattle.vx_base.specs.Data.{DataType, Members, no_members, member, null}
use Rattle.vx_base.specs.Fits.{nullability_of}
use Rattle.vx_base.specs.declared.dtypes.Nullability.{Nullability}
use Rattle.vx_base.specs.declared.dtypes.Nullability.TheVariants.{NonNullable, Nullable}
use Rattle.vx_layout.specs.Kept.{KeptFields, all, only, is_kept}
use Rattle.vx_layout.specs.Rows.{struct_members, derivation, derivation_in, field_derivations, where_valid_by}
use Rattle.vx_layout.specs.Sound.{IsSound, AreChunks, AreFields, IsValidity}
use Rattle.vx_layout.specs.Trees.{Tree, missing, leaf, chunks, fields, dict, lists, zoned, Forest, no_trees, tree, Validity, always, valid_by, head_of}
use Rattle.vx_plan.specs.Plans.{Plan, take_plan, Plans, plan, plan_head}
use Rattle.vx_plan.specs.PlanRows.{plan_derivation, plan_derivation_in, plan_derivations, plan_where_valid}
use Rattle.vx_rows.specs.Derivations.{Derivation, given, packed, Derivations, also, each_row}
use Rattle.vx_rows.specs.Reads.{Way, Read, reads_of, reads_of_each}
use Rattle.vx_rows.specs.Heads.{Head}
use Rattle.vx_rows.specs.Zones.{Zones}
use Rattle.vx_lower.specs.Lowered.{tell, with_zones, packing, kept_head, lowered, lowered_in, lowered_fields, lowered_validity}
use Rattle.vx_lower.proofs.Heads.{lowered_head}

pub lowered_rows : (t : Tree) (kept : KeptFields) → IsSound t → (plan_head (lowered t kept)).rows ≡ (head_of t).rows
lowered_rows t kept sound = (lowered_head t kept sound).rows

-- ---- all fields kept

pub each_row_same : (f g : ℕ → Derivation) → ((row : ℕ) → f row ≡ g row) → (from count : ℕ) → each_row f from count ≡ each_row g from count
each_row_same f g same from zero = refl
each_row_same f g same from (suc count) =
    let p : f from ≡ g from = same from in
    let q : each_row f (from + 1) count ≡ each_row g (from + 1) count = each_row_same f g same (from + 1) count in
    cc

pub zones_same : (b : Bool) (offset : ℕ) (head : Head) (zones : Zones) (content table : Plan) (row : ℕ) → plan_derivation offset (with_zones b head zones content table) row ≡ plan_derivation offset content row
zones_same true offset head zones content table row = refl
zones_same false offset head zones content table row = refl

mutual
  pub lowered_all : (offset : ℕ) (t : Tree) (row : ℕ) → IsSound t → plan_derivation offset (lowered t all) row ≡ derivation t all row
  lowered_all offset (missing head) row sound = refl
  lowered_all offset (leaf head segment coding) row sound = refl
  lowered_all offset (chunks head forest) row sound = lowered_all_in offset head.dtype forest row sound.0
  lowered_all offset (fields head forest validity) row sound =
      let p : plan_derivations offset (lowered_fields (struct_members head.dtype) forest all) row ≡ field_derivations (struct_members head.dtype) forest all row = lowered_all_fields offset (struct_members head.dtype) head.rows forest row sound.1 in
      lowered_all_valid offset (nullability_of head.dtype) head.rows validity row (packed (plan_derivations offset (lowered_fields (struct_members head.dtype) forest all) row)) (packed (field_derivations (struct_members head.dtype) forest all row)) (ap packed p) sound.2
  lowered_all offset (dict head values codes) row sound =
      let p : plan_derivation offset (lowered codes all) row ≡ derivation codes all row = lowered_all offset codes row sound.1 in
      let q : each_row (plan_derivation offset (lowered values all)) 0 (plan_head (lowered values all)).rows ≡ each_row (derivation values all) 0 (head_of values).rows =
      ap (each_row (plan_derivation offset (lowered values all)) 0) (lowered_rows values all sound.0) ∙ each_row_same (plan_derivation offset (lowered values all)) (derivation values all) (λ r. lowered_all offset values r sound.0) 0 (head_of values).rows in
      cc
  lowered_all offset (lists head elements offsets validity) row sound = refl
  lowered_all offset (zoned head zones content table) row sound = zones_same (tell zones.zone_len zones.statistics) offset (kept_head all head) zones (lowered content all) (lowered table all) row ∙ lowered_all offset content row sound.0

  lowered_all_in : (offset : ℕ) (t : DataType) (forest : Forest) (row : ℕ) → AreChunks t forest → plan_derivation_in offset (lowered_in forest all) row ≡ derivation_in forest all row
  lowered_all_in offset t no_trees row sound = refl
  lowered_all_in offset t (tree first rest) row sound =
      let p : plan_derivation offset (lowered first all) row ≡ derivation first all row = lowered_all offset first row sound.0 in
      let q : plan_derivation_in offset (lowered_in rest all) (row - (head_of first).rows) ≡ derivation_in rest all (row - (head_of first).rows) = lowered_all_in offset t rest (row - (head_of first).rows) sound.2 in
      let e : (plan_head (lowered first all)).rows ≡ (head_of first).rows = lowered_rows first all sound.0 in
      cc

  lowered_all_fields : (offset : ℕ) (ms : Members) (rows : ℕ) (forest : Forest) (row : ℕ) → AreFields ms rows forest → plan_derivations offset (lowered_fields ms forest all) row ≡ field_derivations ms forest all row
  lowered_all_fields offset no_members rows forest row sound = refl
  lowered_all_fields offset (member name t ms) rows no_trees row sound = absurd sound
  lowered_all_fields offset (member name t ms) rows (tree first rest) row sound =
      let p : plan_derivation offset (lowered first all) row ≡ derivation first all row = lowered_all offset first row sound.0 in
      let q : plan_derivations offset (lowered_fields ms rest all) row ≡ field_derivations ms rest all row = lowered_all_fields offset ms rows rest row sound.2 in
      cc

  lowered_all_valid : (offset : ℕ) (n : Nullability) (rows : ℕ) (validity : Validity) (row : ℕ) (d e : Derivation) → d ≡ e → IsValidity n rows validity → plan_where_valid offset (lowered_validity validity) row d ≡ where_valid_by validity row e
  lowered_all_valid offset n rows always row d e same sound = same
  lowered_all_valid offset NonNullable rows (valid_by validity) row d e same sound = absurd sound
  lowered_all_valid offset Nullable rows (valid_by validity) row d e same sound =
      let p : plan_derivation offset (lowered validity all) row ≡ derivation validity all row = lowered_all offset validity row sound.0 in
      cc

-- ---- reads, whatever is kept

reads_packing : (kept : KeptFields) (way : Way) (offset : ℕ) (head : Head) (p : Plan) (row : ℕ) → reads_of way (plan_derivation offset (packing kept head p) row) ≡ reads_of way (plan_derivation offset p row)
reads_packing all way offset head p row = refl
reads_packing (only names) way offset head p row = refl

reads_of_chunk : (b : Bool) (way : Way) (d e d' e' : Derivation) → reads_of way d ≡ reads_of way d' → reads_of way e ≡ reads_of way e' → reads_of way (cond b d e) ≡ reads_of way (cond b d' e')
reads_of_chunk true way d e d' e' p q = p
reads_of_chunk false way d e d' e' p q = q

reads_of_field : (b : Bool) (way : Way) (offset : ℕ) (p : Plan) (ps : Plans) (row : ℕ) (d : Derivation) (ds : Derivations) → plan_derivation offset p row ≡ d → reads_of_each way (plan_derivations offset ps row) ≡ reads_of_each way ds → reads_of_each way (plan_derivations offset (cond b (plan p ps) ps) row) ≡ reads_of_each way (also (cond b d (given null)) ds)
reads_of_field true way offset p ps row d ds here more =
    let same : reads_of way (plan_derivation offset p row) ≡ reads_of way d = ap (reads_of way) here in
    cc
reads_of_field false way offset p ps row d ds here more = more

mutual
  pub lowered_reads : (offset : ℕ) (t : Tree) (kept : KeptFields) (way : Way) (row : ℕ) → IsSound t → reads_of way (plan_derivation offset (lowered t kept) row) ≡ reads_of way (derivation t kept row)
  lowered_reads offset (missing head) kept way row sound = refl
  lowered_reads offset (leaf head segment coding) kept way row sound = refl
  lowered_reads offset (chunks head forest) kept way row sound = lowered_reads_in offset head.dtype forest kept way row sound.0
  lowered_reads offset (fields head forest validity) kept way row sound =
      lowered_reads_valid offset (nullability_of head.dtype) head.rows validity way row (packed (plan_derivations offset (lowered_fields (struct_members head.dtype) forest kept) row)) (packed (field_derivations (struct_members head.dtype) forest kept row))
      (lowered_reads_fields offset (struct_members head.dtype) head.rows forest kept way row sound.1) sound.2
  lowered_reads offset (dict head values codes) kept way row sound =
      reads_packing kept way offset head (take_plan head (lowered codes all) (lowered values all)) row ∙ ap (reads_of way) (lowered_all offset (dict head values codes) row sound)
  lowered_reads offset (lists head elements offsets validity) kept way row sound = refl
  lowered_reads offset (zoned head zones content table) kept way row sound =
      ap (reads_of way) (zones_same (tell zones.zone_len zones.statistics) offset (kept_head kept head) zones (lowered content kept) (lowered table all) row) ∙ lowered_reads offset content kept way row sound.0

  lowered_reads_in : (offset : ℕ) (t : DataType) (forest : Forest) (kept : KeptFields) (way : Way) (row : ℕ) → AreChunks t forest → reads_of way (plan_derivation_in offset (lowered_in forest kept) row) ≡ reads_of way (derivation_in forest kept row)
  lowered_reads_in offset t no_trees kept way row sound = refl
  lowered_reads_in offset t (tree first rest) kept way row sound =
      let e : (plan_head (lowered first kept)).rows ≡ (head_of first).rows = lowered_rows first kept sound.0 in
      let P : ℕ → List Read = λ (n : ℕ). reads_of way (cond (ltb row n) (plan_derivation offset (lowered first kept) row) (plan_derivation_in offset (lowered_in rest kept) (row - n))) in
      ap P e ∙ reads_of_chunk (ltb row (head_of first).rows) way (plan_derivation offset (lowered first kept) row) (plan_derivation_in offset (lowered_in rest kept) (row - (head_of first).rows)) (derivation first kept row) (derivation_in rest kept (row - (head_of first).rows))
      (lowered_reads offset first kept way row sound.0) (lowered_reads_in offset t rest kept way (row - (head_of first).rows) sound.2)

  lowered_reads_fields : (offset : ℕ) (ms : Members) (rows : ℕ) (forest : Forest) (kept : KeptFields) (way : Way) (row : ℕ) → AreFields ms rows forest → reads_of_each way (plan_derivations offset (lowered_fields ms forest kept) row) ≡ reads_of_each way (field_derivations ms forest kept row)
  lowered_reads_fields offset no_members rows forest kept way row sound = refl
  lowered_reads_fields offset (member name t ms) rows no_trees kept way row sound = absurd sound
  lowered_reads_fields offset (member name t ms) rows (tree first rest) kept way row sound =
      reads_of_field (is_kept kept name) way offset (lowered first all) (lowered_fields ms rest kept) row (derivation first all row) (field_derivations ms rest kept row)
      (lowered_all offset first row sound.0) (lowered_reads_fields offset ms rows rest kept way row sound.2)

  lowered_reads_valid : (offset : ℕ) (n : Nullability) (rows : ℕ) (validity : Validity) (way : Way) (row : ℕ) (d e : Derivation) → reads_of way d ≡ reads_of way e → IsValidity n rows validity → reads_of way (plan_where_valid offset (lowered_validity validity) row d) ≡ reads_of way (where_valid_by validity row e)
  lowered_reads_valid offset n rows always way row d e same sound = same
  lowered_reads_valid offset NonNullable rows (valid_by validity) way row d e same sound = absurd sound
  lowered_reads_valid offset Nullable rows (valid_by validity) way row d e same sound =
      let p : reads_of way (plan_derivation offset (lowered validity all) row) ≡ reads_of way (derivation validity all row) = ap (reads_of way) (lowered_all offset validity row sound.0) in
      cc
