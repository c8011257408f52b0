-- The plan of a tree has the tree's dtype, without the fields that aren't kept, and its rows.
use Rattle.std.proofs.Common.{◌≡◌, Bool, true, false, refl, sym, ap, ◌∙◌}
use Rattle.vx_base.specs.Data.{DataType, bool_type, int_type, utf8_type, struct_type, list_type}
use Rattle.vx_base.specs.Leaf.{IsLeaf}
use Rattle.vx_layout.specs.Kept.{KeptFields, all, only}
use Rattle.vx_rows.specs.TypeForms.{IsListOf}
use Rattle.vx_rows.specs.Heads.{Head}
use Rattle.vx_rows.specs.Zones.{Zones}
use Rattle.vx_layout.specs.Sound.{IsSound}
use Rattle.vx_layout.specs.Trees.{Tree, missing, leaf, chunks, fields, dict, lists, zoned, head_of}
use Rattle.vx_plan.specs.Plans.{Plan, plan_head}
use Rattle.vx_lower.specs.KeptRows.{kept_type}
use Rattle.vx_lower.specs.Lowered.{lowered, kept_head, packing, tell, with_zones}

-- a plan's head, by that of a tree
pub record IsHeadOf (kept : KeptFields) (head : Head) (p : Plan) : Type 0 where
  pub dtype : (plan_head p).dtype ≡ kept_type kept head.dtype
  pub rows : (plan_head p).rows ≡ head.rows

leaf_kept : (kept : KeptFields) (t : DataType) → IsLeaf t → kept_type kept t ≡ t
leaf_kept all t is = refl
leaf_kept (only names) (bool_type n) is = refl
leaf_kept (only names) (int_type kind n) is = refl
leaf_kept (only names) (utf8_type n) is = refl
leaf_kept (only names) (struct_type ms n) is = absurd is
leaf_kept (only names) (list_type t n) is = absurd is

list_kept : (kept : KeptFields) (t element : DataType) → IsListOf t element → kept_type kept t ≡ t
list_kept all t element is = refl
list_kept (only names) (list_type t n) element is = refl
list_kept (only names) (bool_type n) element is = absurd is
list_kept (only names) (int_type kind n) element is = absurd is
list_kept (only names) (utf8_type n) element is = absurd is
list_kept (only names) (struct_type ms n) element is = absurd is

packed_head : (kept : KeptFields) (head : Head) (p : Plan) → IsHeadOf all head p → IsHeadOf kept head (packing kept head p)
packed_head all head p is = is
packed_head (only names) head p is = record { dtype = refl; rows = refl }

zones_head : (tells : Bool) (kept : KeptFields) (head : Head) (zones : Zones) (content table : Plan) → IsHeadOf kept head content → IsHeadOf kept head (with_zones tells (kept_head kept head) zones content table)
zones_head true kept head zones content table is = record { dtype = refl; rows = refl }
zones_head false kept head zones content table is = is

pub lowered_head : (t : Tree) (kept : KeptFields) → IsSound t → IsHeadOf kept (head_of t) (lowered t kept)
lowered_head (missing head) kept sound = absurd sound
lowered_head (leaf head segment coding) kept sound = record { dtype = sym (leaf_kept kept head.dtype sound); rows = refl }
lowered_head (chunks head forest) kept sound = record { dtype = refl; rows = refl }
lowered_head (fields head forest validity) kept sound = record { dtype = refl; rows = refl }
lowered_head (dict head values codes) kept sound = packed_head kept head (lowered (dict head values codes) all) (record { dtype = refl; rows = refl })
lowered_head (lists head elements offsets validity) kept sound = record { dtype = sym (list_kept kept head.dtype (head_of elements).dtype sound.2.dtype); rows = refl }
lowered_head (zoned head zones content table) kept sound =
    let below : IsHeadOf kept (head_of content) (lowered content kept) = lowered_head content kept sound.0 in
    zones_head (tell zones.zone_len zones.statistics) kept head zones (lowered content kept) (lowered table all)
    (record { dtype = below.dtype ∙ ap (kept_type kept) sound.1.dtype; rows = below.rows ∙ sound.1.rows })
