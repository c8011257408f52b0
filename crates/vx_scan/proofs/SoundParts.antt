-- No expression by which a row of a lowered tree is derived is a fault: only the kept fields of structs are packed.
use Rattle.std.proofs.Common.{◌≡◌, ℕ, ◌-◌, ltb, inl, inr, Bool, true, false, cond, List, Option, Some, None, sym, ap, ◌∙◌, subst}
use Rattle.std.specs.Prelude.{option_and_then, option_map, IsSomeAnd, IsTrue}
use Rattle.vx_base.specs.declared.dtypes.Nullability.TheVariants.{NonNullable}
use Rattle.vx_base.specs.Data.{DataType, bool_type, int_type, utf8_type, struct_type, list_type, Members, no_members, member, Datum}
use Rattle.vx_base.specs.Fits.{nullability_of}
use Rattle.vx_base.specs.Leaf.{IsLeaf}
use Rattle.vx_base.specs.Names.{names_in, are_distinct}
use Rattle.vx_expr.specs.Meaning.{meaning}
use Rattle.vx_expr.specs.Terms.{Term}
use Rattle.vx_expr.specs.Rows.{no_bound}
use Rattle.vx_layout.specs.Kept.{KeptFields, all, only, is_kept}
use Rattle.vx_layout.specs.Rows.{derivation, struct_members}
use Rattle.vx_layout.specs.Sound.{IsSound, AreChunks, AreFields}
use Rattle.vx_layout.specs.Trees.{Tree, missing, leaf, chunks, fields, dict, lists, zoned, Forest, no_trees, tree, head_of}
use Rattle.vx_lower.specs.KeptRows.{kept_pack, kept_value}
use Rattle.vx_lower.specs.Lowered.{kept_head, lowered, lowered_in, lowered_fields, tell}
use Rattle.vx_lower.proofs.LoweredRows.{lowered_all, zones_same}
use Rattle.vx_lower.proofs.LoweredValues.{lowered_kept}
use Rattle.vx_plan.specs.Plans.{Plan, Plans, plan, take_plan, plan_head}
use Rattle.vx_plan.specs.PlanRows.{plan_derivation, plan_derivation_in}
use Rattle.vx_rows.specs.Derivations.{Derivation, nothing, of_leaf, list_row, given, packed, valid_where, looked_up, worked_out, read_whole, concluded, Derivations, no_more, also, Leaves, derived}
use Rattle.vx_rows.specs.Renumbered.{renumbered, each_renumbered}
use Rattle.vx_rows.specs.Whole.{GiveFitting}
use Rattle.vx_rows.proofs.Renumbering.{same_worth}
use Rattle.vx_steps.specs.Laws.{HasPart, HavePart, IsFaultyTerm}
use Rattle.vx_scan.proofs.PlainPlans.{by_row, lowered_plain, plain_sound, validity_plain, IsPlain, ArePlain}

-- a derivation with a part that is an expression that is a fault
abbrev pub HasFault : Leaves → Derivation → Type 0
HasFault leaves d = HasPart (IsFaultyTerm leaves) d

-- a part that is so is so in a weaker sense
mutual
  pub part_also : (P Q : Derivation → Type 0) → ((d : Derivation) → P d → Q d) → (d : Derivation) → HasPart P d → HasPart Q d
  part_also P Q also_is nothing is = also_is nothing is
  part_also P Q also_is (of_leaf at) is = also_is (of_leaf at) is
  part_also P Q also_is (list_row list row) is = also_is (list_row list row) is
  part_also P Q also_is (given v) is = also_is (given v) is
  part_also P Q also_is (packed ds) (inl here) = inl (also_is (packed ds) here)
  part_also P Q also_is (packed ds) (inr below) = inr (parts_also P Q also_is ds below)
  part_also P Q also_is (valid_where d validity) (inl here) = inl (also_is (valid_where d validity) here)
  part_also P Q also_is (valid_where d validity) (inr (inl below)) = inr (inl (part_also P Q also_is d below))
  part_also P Q also_is (valid_where d validity) (inr (inr below)) = inr (inr (part_also P Q also_is validity below))
  part_also P Q also_is (looked_up dictionary row code values) (inl here) = inl (also_is (looked_up dictionary row code values) here)
  part_also P Q also_is (looked_up dictionary row code values) (inr (inl below)) = inr (inl (part_also P Q also_is code below))
  part_also P Q also_is (looked_up dictionary row code values) (inr (inr below)) = inr (inr (parts_also P Q also_is values below))
  part_also P Q also_is (worked_out t e d) (inl here) = inl (also_is (worked_out t e d) here)
  part_also P Q also_is (worked_out t e d) (inr below) = inr (part_also P Q also_is d below)
  part_also P Q also_is (read_whole share row d ds) (inl here) = inl (also_is (read_whole share row d ds) here)
  part_also P Q also_is (read_whole share row d ds) (inr (inl below)) = inr (inl (part_also P Q also_is d below))
  part_also P Q also_is (read_whole share row d ds) (inr (inr below)) = inr (inr (parts_also P Q also_is ds below))
  part_also P Q also_is (concluded rule ds) (inl here) = inl (also_is (concluded rule ds) here)
  part_also P Q also_is (concluded rule ds) (inr below) = inr (parts_also P Q also_is ds below)

  parts_also : (P Q : Derivation → Type 0) → ((d : Derivation) → P d → Q d) → (ds : Derivations) → HavePart P ds → HavePart Q ds
  parts_also P Q also_is no_more is = is
  parts_also P Q also_is (also d ds) (inl here) = inl (part_also P Q also_is d here)
  parts_also P Q also_is (also d ds) (inr below) = inr (parts_also P Q also_is ds below)

-- ---- other numbers

fault_renumbered : (leaves : Leaves) (f : ℕ → ℕ) (t : DataType) (e : Term) (d : Derivation) → IsFaultyTerm leaves (worked_out t e d) → IsFaultyTerm leaves (worked_out t e (renumbered f d))
fault_renumbered leaves f t e d is = subst (λ (v : Option Datum). IsSomeAnd v (λ w. meaning t no_bound e w 0 ≡ None)) (sym (same_worth leaves f d)) is

fault_back : (leaves : Leaves) (f : ℕ → ℕ) (t : DataType) (e : Term) (d : Derivation) → IsFaultyTerm leaves (worked_out t e (renumbered f d)) → IsFaultyTerm leaves (worked_out t e d)
fault_back leaves f t e d is = subst (λ (v : Option Datum). IsSomeAnd v (λ w. meaning t no_bound e w 0 ≡ None)) (same_worth leaves f d) is

mutual
  pub part_renumbered : (leaves : Leaves) (f : ℕ → ℕ) (d : Derivation) → HasFault leaves d → HasFault leaves (renumbered f d)
  part_renumbered leaves f nothing is = is
  part_renumbered leaves f (of_leaf at) is = is
  part_renumbered leaves f (list_row list row) is = is
  part_renumbered leaves f (given v) is = is
  part_renumbered leaves f (packed ds) (inl here) = inl here
  part_renumbered leaves f (packed ds) (inr below) = inr (parts_renumbered leaves f ds below)
  part_renumbered leaves f (valid_where d validity) (inl here) = inl here
  part_renumbered leaves f (valid_where d validity) (inr (inl below)) = inr (inl (part_renumbered leaves f d below))
  part_renumbered leaves f (valid_where d validity) (inr (inr below)) = inr (inr (part_renumbered leaves f validity below))
  part_renumbered leaves f (looked_up dictionary row code values) (inl here) = inl here
  part_renumbered leaves f (looked_up dictionary row code values) (inr (inl below)) = inr (inl (part_renumbered leaves f code below))
  part_renumbered leaves f (looked_up dictionary row code values) (inr (inr below)) = inr (inr (parts_renumbered leaves f values below))
  part_renumbered leaves f (worked_out t e d) (inl here) = inl (fault_renumbered leaves f t e d here)
  part_renumbered leaves f (worked_out t e d) (inr below) = inr (part_renumbered leaves f d below)
  part_renumbered leaves f (read_whole share row d ds) (inl here) = inl here
  part_renumbered leaves f (read_whole share row d ds) (inr (inl below)) = inr (inl (part_renumbered leaves f d below))
  part_renumbered leaves f (read_whole share row d ds) (inr (inr below)) = inr (inr (parts_renumbered leaves f ds below))
  part_renumbered leaves f (concluded rule ds) (inl here) = inl here
  part_renumbered leaves f (concluded rule ds) (inr below) = inr (parts_renumbered leaves f ds below)

  parts_renumbered : (leaves : Leaves) (f : ℕ → ℕ) (ds : Derivations) → HavePart (IsFaultyTerm leaves) ds → HavePart (IsFaultyTerm leaves) (each_renumbered f ds)
  parts_renumbered leaves f no_more is = is
  parts_renumbered leaves f (also d ds) (inl here) = inl (part_renumbered leaves f d here)
  parts_renumbered leaves f (also d ds) (inr below) = inr (parts_renumbered leaves f ds below)

mutual
  pub part_back : (leaves : Leaves) (f : ℕ → ℕ) (d : Derivation) → HasFault leaves (renumbered f d) → HasFault leaves d
  part_back leaves f nothing is = is
  part_back leaves f (of_leaf at) is = is
  part_back leaves f (list_row list row) is = is
  part_back leaves f (given v) is = is
  part_back leaves f (packed ds) (inl here) = inl here
  part_back leaves f (packed ds) (inr below) = inr (parts_back leaves f ds below)
  part_back leaves f (valid_where d validity) (inl here) = inl here
  part_back leaves f (valid_where d validity) (inr (inl below)) = inr (inl (part_back leaves f d below))
  part_back leaves f (valid_where d validity) (inr (inr below)) = inr (inr (part_back leaves f validity below))
  part_back leaves f (looked_up dictionary row code values) (inl here) = inl here
  part_back leaves f (looked_up dictionary row code values) (inr (inl below)) = inr (inl (part_back leaves f code below))
  part_back leaves f (looked_up dictionary row code values) (inr (inr below)) = inr (inr (parts_back leaves f values below))
  part_back leaves f (worked_out t e d) (inl here) = inl (fault_back leaves f t e d here)
  part_back leaves f (worked_out t e d) (inr below) = inr (part_back leaves f d below)
  part_back leaves f (read_whole share row d ds) (inl here) = inl here
  part_back leaves f (read_whole share row d ds) (inr (inl below)) = inr (inl (part_back leaves f d below))
  part_back leaves f (read_whole share row d ds) (inr (inr below)) = inr (inr (parts_back leaves f ds below))
  part_back leaves f (concluded rule ds) (inl here) = inl here
  part_back leaves f (concluded rule ds) (inr below) = inr (parts_back leaves f ds below)

  parts_back : (leaves : Leaves) (f : ℕ → ℕ) (ds : Derivations) → HavePart (IsFaultyTerm leaves) (each_renumbered f ds) → HavePart (IsFaultyTerm leaves) ds
  parts_back leaves f no_more is = is
  parts_back leaves f (also d ds) (inl here) = inl (part_back leaves f d here)
  parts_back leaves f (also d ds) (inr below) = inr (parts_back leaves f ds below)

-- ---- the kept fields of a struct

-- a value that is worked out to one isn't a fault
not_faulty : (f : Datum → Option Datum) (g : Datum → Datum) (u v : Option Datum) → u ≡ v → IsSomeAnd u (λ w. f w ≡ None) → option_and_then f u ≡ option_map g v → ⊥
not_faulty f g None v same fault law = fault
not_faulty f g (Some w) None same fault law = absurd cc
not_faulty f g (Some w) (Some x) same fault law = let none : f w ≡ None = fault in let some : f w ≡ Some (g x) = law in cc

plain_by : (b : Bool) (p : Plan) (ps : Plans) → IsPlain p → ArePlain ps → ArePlain (cond b (plan p ps) ps)
plain_by true p ps one more = (one, more)
plain_by false p ps one more = more

kept_plain : (ms : Members) (forest : Forest) (rows : ℕ) (kept : KeptFields) → AreFields ms rows forest → ArePlain (lowered_fields ms forest kept)
kept_plain no_members no_trees rows kept are = tt
kept_plain no_members (tree first rest) rows kept are = tt
kept_plain (member name t ms) no_trees rows kept are = absurd are
kept_plain (member name t ms) (tree first rest) rows kept are = plain_by (is_kept kept name) (lowered first all) (lowered_fields ms rest kept) (lowered_plain first are.0) (kept_plain ms rest rows kept are.2)

no_leaf : (t : DataType) (ms : Members) → IsLeaf t → t ≡ struct_type ms NonNullable → ⊥
no_leaf (bool_type m) ms is e = absurd cc
no_leaf (int_type kind m) ms is e = absurd cc
no_leaf (utf8_type m) ms is e = absurd cc
no_leaf (struct_type ns m) ms is e = is
no_leaf (list_type t m) ms is e = is

mutual
  pub kept_sound : (offset : ℕ) (leaves : Leaves) → GiveFitting leaves → (names : List (List ℕ)) (ms : Members) → IsTrue (are_distinct (names_in ms)) → (t : Tree) (row : ℕ) → IsSound t → (head_of t).dtype ≡ struct_type ms NonNullable → HasFault leaves (plan_derivation offset (lowered t (only names)) row) → ⊥
  kept_sound offset leaves fitting names ms distinct (missing head) row sound is any = absurd sound
  kept_sound offset leaves fitting names ms distinct (leaf head segment coding) row sound is any = absurd (no_leaf head.dtype ms sound is)
  kept_sound offset leaves fitting names ms distinct (chunks head forest) row sound is any = kept_sound_in offset leaves fitting names ms distinct head.dtype forest row sound.0 is any
  kept_sound offset leaves fitting names ms distinct (fields head forest validity) row sound is any =
      plain_sound leaves offset (lowered (fields head forest validity) (only names))
      (kept_plain (struct_members head.dtype) forest head.rows (only names) sound.1, validity_plain validity head.rows (nullability_of head.dtype) sound.2) row any
  kept_sound offset leaves fitting names ms distinct (dict head values codes) row sound is (inl here) =
      let d : Derivation = plan_derivation offset (take_plan head (lowered codes all) (lowered values all)) row in
      let v : Option Datum = derived leaves (derivation (dict head values codes) all row) in
      let whole : derived leaves d ≡ v = ap (derived leaves) (lowered_all offset (dict head values codes) row sound) in
      not_faulty (λ w. meaning head.dtype no_bound (kept_pack (only names) head.dtype) w 0) (kept_value (only names) (struct_type ms NonNullable)) (derived leaves d) v whole here
      (lowered_kept offset leaves fitting names ms distinct (dict head values codes) row sound is)
  kept_sound offset leaves fitting names ms distinct (dict head values codes) row sound is (inr below) =
      plain_sound leaves offset (take_plan head (lowered codes all) (lowered values all)) (lowered_plain codes sound.1, lowered_plain values sound.0) row below
  kept_sound offset leaves fitting names ms distinct (lists head elements offsets validity) row sound is any = any
  kept_sound offset leaves fitting names ms distinct (zoned head zones content table) row sound is any =
      kept_sound offset leaves fitting names ms distinct content row sound.0 (sound.1.dtype ∙ is)
      (subst (HasFault leaves) (zones_same (tell zones.zone_len zones.statistics) offset (kept_head (only names) head) zones (lowered content (only names)) (lowered table all) row) any)

  kept_sound_in : (offset : ℕ) (leaves : Leaves) → GiveFitting leaves → (names : List (List ℕ)) (ms : Members) → IsTrue (are_distinct (names_in ms)) → (t : DataType) (forest : Forest) (row : ℕ) → AreChunks t forest → t ≡ struct_type ms NonNullable → HasFault leaves (plan_derivation_in offset (lowered_in forest (only names)) row) → ⊥
  kept_sound_in offset leaves fitting names ms distinct t no_trees row sound is any = any
  kept_sound_in offset leaves fitting names ms distinct t (tree first rest) row sound is any =
      by_row (ltb row (plan_head (lowered first (only names))).rows) leaves (plan_derivation offset (lowered first (only names)) row) (plan_derivation_in offset (lowered_in rest (only names)) (row - (plan_head (lowered first (only names))).rows))
      (kept_sound offset leaves fitting names ms distinct first row sound.0 (sound.1 ∙ is))
      (kept_sound_in offset leaves fitting names ms distinct t rest (row - (plan_head (lowered first (only names))).rows) sound.2 is) any
