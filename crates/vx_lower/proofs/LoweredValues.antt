-- The values of the plan that a tree is lowered to are those of the tree without the fields that aren't kept.
use Rattle.std.proofs.Common.{◌≡◌, ℕ, ◌-◌, ltb, Bool, true, false, cond, not, ◌||◌, List, Option, Some, None, refl, sym, ap, ◌∙◌, subst}
use Rattle.std.specs.Prelude.{option_and_then, option_map, IfSome, IsTrue}
use Rattle.std.specs.List.{list_any}
use Rattle.std.specs.Str.{bytes_eq}
use Rattle.std.proofs.lemmas.Slice.Eq.{bytes_eq-Decides}
use Rattle.vx_base.specs.declared.dtypes.Nullability.{Nullability}
use Rattle.vx_base.specs.declared.dtypes.Nullability.TheVariants.{NonNullable, Nullable}
use Rattle.vx_base.specs.Data.{DataType, bool_type, int_type, utf8_type, struct_type, list_type, Members, no_members, member, Datum, null, truth, number, text, structure, Items, no_items, item}
use Rattle.vx_base.specs.Fits.{Fits, EachFits, nullability_of}
use Rattle.vx_base.specs.Leaf.{IsLeaf}
use Rattle.vx_base.specs.ValueViews.{items_from}
use Rattle.vx_expr.specs.Terms.{root, get_field, Terms, named}
use Rattle.vx_expr.specs.Types.{on_both}
use Rattle.vx_expr.specs.Meaning.{meaning, meanings_in, item_in, one_more_item, struct_of}
use Rattle.vx_expr.specs.Rows.{no_bound}
use Rattle.vx_expr.specs.Packs.{struct_row}
use Rattle.vx_base.specs.Names.{names_in, are_distinct}
use Rattle.vx_layout.specs.Kept.{KeptFields, all, only, is_kept}
use Rattle.vx_layout.specs.Rows.{struct_members, derivation, derivation_in, field_derivations, where_valid_by}
use Rattle.vx_layout.specs.Sound.{IsSound, AreChunks, AreFields, IsValidity}
use Rattle.vx_layout.specs.Trees.{Tree, missing, leaf, chunks, fields, dict, lists, zoned, Forest, no_trees, tree, Validity, always, valid_by, head_of}
use Rattle.vx_plan.specs.Plans.{Plan, take_plan, Plans, plan, plan_head}
use Rattle.vx_plan.specs.PlanRows.{plan_derivation, plan_derivation_in, plan_derivations, plan_where_valid}
use Rattle.vx_rows.specs.Derivations.{Derivation, given, packed, Leaves, derived, derived_each, one_more}
use Rattle.vx_rows.specs.Whole.{GiveFitting}
use Rattle.vx_lower.specs.KeptRows.{kept_items, kept_value, kept_terms, kept_pack}
use Rattle.vx_lower.specs.Lowered.{tell, kept_head, lowered, lowered_in, lowered_fields, lowered_validity}
use Rattle.vx_lower.proofs.LoweredRows.{lowered_rows, lowered_all, zones_same}
use Rattle.vx_lower.proofs.KeptTypes.{and_first, and_second}
use Rattle.vx_layout.proofs.FittingRows.{fits_row}

-- ---- the expression that packs the kept fields

-- each of these members' items is found by its name in the whole struct
abbrev AreFound : Members → Items → Members → Items → Type 0
AreFound whole items no_members vs = Unit {0}
AreFound whole items (member name t ms) no_items = ⊥
AreFound whole items (member name t ms) (item v vs) = (item_in whole name items ≡ Some v) × AreFound whole items ms vs

apart : (name other : List ℕ) (b : Bool) → bytes_eq other name ≡ false → bytes_eq name other ≡ b → b ≡ false
apart name other false e f = refl
apart name other true e f = let same = (bytes_eq-Decides other name).1 (sym ((bytes_eq-Decides name other).0 f)) in absurd cc

or_first : (a b : Bool) → not (a || b) ≡ true → a ≡ false
or_first false b e = refl
or_first true b e = absurd cc

or_rest : (a b : Bool) → not (a || b) ≡ true → not b ≡ true
or_rest false b e = e
or_rest true b e = absurd cc

item_behind : (name other : List ℕ) (t : DataType) (ms : Members) (v w : Datum) (vs : Items) → bytes_eq name other ≡ false → item_in ms other vs ≡ Some w → item_in (member name t ms) other (item v vs) ≡ Some w
item_behind name other t ms v w vs e at = rw e at

-- one member more in front, whose name is none of theirs
found_behind : (name : List ℕ) (t : DataType) (v : Datum) (whole : Members) (items : Items) (ms : Members) (vs : Items) → not (list_any (λ other. bytes_eq other name) (names_in ms)) ≡ true → AreFound whole items ms vs → AreFound (member name t whole) (item v items) ms vs
found_behind name t v whole items no_members vs fresh found = tt
found_behind name t v whole items (member other s ms) no_items fresh found = absurd found
found_behind name t v whole items (member other s ms) (item w vs) fresh found = (
  item_behind name other t whole v w items (apart name other (bytes_eq name other) (or_first (bytes_eq other name) (list_any (λ n. bytes_eq n name) (names_in ms)) fresh) refl) found.0,
  found_behind name t v whole items ms vs (or_rest (bytes_eq other name) (list_any (λ n. bytes_eq n name) (names_in ms)) fresh) found.1,
)

item_here : (name : List ℕ) (t : DataType) (ms : Members) (v : Datum) (vs : Items) → item_in (member name t ms) name (item v vs) ≡ Some v
item_here name t ms v vs = let same : bytes_eq name name ≡ true = (bytes_eq-Decides name name).1 refl in rw same refl

all_found : (ms : Members) (vs : Items) → IsTrue (are_distinct (names_in ms)) → EachFits ms vs → AreFound ms vs ms vs
all_found no_members vs distinct fit = tt
all_found (member name t ms) no_items distinct fit = absurd fit
all_found (member name t ms) (item v vs) distinct fit = (
  item_here name t ms v vs,
  found_behind name t v ms vs ms vs (and_first (not (list_any (λ other. bytes_eq other name) (names_in ms))) (are_distinct (names_in ms)) distinct)
      (all_found ms vs (and_second (not (list_any (λ other. bytes_eq other name) (names_in ms))) (are_distinct (names_in ms)) distinct) fit.1),
)

term_kept : (b : Bool) (whole : DataType) (name : List ℕ) (es : Terms) (all_items : Datum) (v : Datum) (vs : Items) → meaning whole no_bound (get_field name root) all_items 0 ≡ Some v → meanings_in whole no_bound es all_items 0 ≡ Some vs → meanings_in whole no_bound (cond b (named name (get_field name root) es) es) all_items 0 ≡ Some (cond b (item v vs) vs)
term_kept true whole name es all_items v vs here more = let p : on_both one_more_item (meaning whole no_bound (get_field name root) all_items 0) (meanings_in whole no_bound es all_items 0) ≡ on_both one_more_item (Some v) (Some vs) = cc in p
term_kept false whole name es all_items v vs here more = more

terms_kept : (kept : KeptFields) (whole : Members) (n : Nullability) (items : Items) (ms : Members) (vs : Items) → AreFound whole items ms vs → meanings_in (struct_type whole n) no_bound (kept_terms kept ms) (structure items) 0 ≡ Some (kept_items kept ms vs)
terms_kept kept whole n items no_members vs found = refl
terms_kept kept whole n items (member name t ms) no_items found = absurd found
terms_kept kept whole n items (member name t ms) (item v vs) found =
    term_kept (is_kept kept name) (struct_type whole n) name (kept_terms kept ms) (structure items) v (kept_items kept ms vs) found.0 (terms_kept kept whole n items ms vs found.1)

-- over a struct that fits it gives the kept fields
pack_keeps : (names : List (List ℕ)) (ms : Members) (v : Datum) → IsTrue (are_distinct (names_in ms)) → Fits (struct_type ms NonNullable) v → meaning (struct_type ms NonNullable) no_bound (kept_pack (only names) (struct_type ms NonNullable)) v 0 ≡ Some (kept_value (only names) (struct_type ms NonNullable) v)
pack_keeps names ms (structure vs) distinct fit = ap (option_and_then struct_of) (terms_kept (only names) ms NonNullable vs ms vs (all_found ms vs distinct fit))
pack_keeps names ms null distinct fit = absurd fit
pack_keeps names ms (truth b) distinct fit = absurd fit
pack_keeps names ms (number z) distinct fit = absurd fit
pack_keeps names ms (text bytes) distinct fit = absurd fit

worked_out_kept : (names : List (List ℕ)) (ms : Members) (v : Option Datum) → IsTrue (are_distinct (names_in ms)) → IfSome v (Fits (struct_type ms NonNullable)) → option_and_then (λ w. meaning (struct_type ms NonNullable) no_bound (kept_pack (only names) (struct_type ms NonNullable)) w 0) v ≡ option_map (kept_value (only names) (struct_type ms NonNullable)) v
worked_out_kept names ms None distinct fit = refl
worked_out_kept names ms (Some v) distinct fit = pack_keeps names ms v distinct fit

-- ---- the kept fields of a struct

-- the plans' values are those of the fields, without those that aren't kept
abbrev Keep : KeptFields → Members → Option (List Datum) → Option (List Datum) → Type 0
Keep kept ms ones others = option_map items_from ones ≡ option_map (λ vs. kept_items kept ms (items_from vs)) others

keep_field : (kept : KeptFields) (name : List ℕ) (t : DataType) (ms : Members) (b : Bool) → is_kept kept name ≡ b → (v : Option Datum) (ones others : Option (List Datum)) → Keep kept ms ones others → Keep kept (member name t ms) (cond b (on_both one_more v ones) ones) (on_both one_more (cond b v (Some null)) others)
keep_field kept name t ms true e None ones others more = refl
keep_field kept name t ms true e (Some v) None None more = refl
keep_field kept name t ms true e (Some v) None (Some vs) more = absurd cc
keep_field kept name t ms true e (Some v) (Some us) None more = absurd cc
keep_field kept name t ms true e (Some v) (Some us) (Some vs) more = let p : items_from us ≡ kept_items kept ms (items_from vs) = cc in rw (e, p) refl
keep_field kept name t ms false e v None None more = refl
keep_field kept name t ms false e v None (Some vs) more = absurd cc
keep_field kept name t ms false e v (Some us) None more = absurd cc
keep_field kept name t ms false e v (Some us) (Some vs) more = rw e more

plans_by : (b : Bool) (offset : ℕ) (leaves : Leaves) (p : Plan) (ps : Plans) (row : ℕ) → derived_each leaves (plan_derivations offset (cond b (plan p ps) ps) row) ≡ cond b (on_both one_more (derived leaves (plan_derivation offset p row)) (derived_each leaves (plan_derivations offset ps row))) (derived_each leaves (plan_derivations offset ps row))
plans_by true offset leaves p ps row = refl
plans_by false offset leaves p ps row = refl

field_by : (b : Bool) (leaves : Leaves) (d : Derivation) → derived leaves (cond b d (given null)) ≡ cond b (derived leaves d) (Some null)
field_by true leaves d = refl
field_by false leaves d = refl

keep_fields : (offset : ℕ) (leaves : Leaves) (kept : KeptFields) (ms : Members) (rows : ℕ) (forest : Forest) (row : ℕ) → AreFields ms rows forest → Keep kept ms (derived_each leaves (plan_derivations offset (lowered_fields ms forest kept) row)) (derived_each leaves (field_derivations ms forest kept row))
keep_fields offset leaves kept no_members rows forest row sound = refl
keep_fields offset leaves kept (member name t ms) rows no_trees row sound = absurd sound
keep_fields offset leaves kept (member name t ms) rows (tree first rest) row sound =
    let p : derived leaves (plan_derivation offset (lowered first all) row) ≡ derived leaves (derivation first all row) = ap (derived leaves) (lowered_all offset first row sound.0) in
    let more : Keep kept ms (derived_each leaves (plan_derivations offset (lowered_fields ms rest kept) row)) (derived_each leaves (field_derivations ms rest kept row)) = keep_fields offset leaves kept ms rows rest row sound.2 in
    let here : Keep kept (member name t ms) (cond (is_kept kept name) (on_both one_more (derived leaves (derivation first all row)) (derived_each leaves (plan_derivations offset (lowered_fields ms rest kept) row))) (derived_each leaves (plan_derivations offset (lowered_fields ms rest kept) row))) (on_both one_more (cond (is_kept kept name) (derived leaves (derivation first all row)) (Some null)) (derived_each leaves (field_derivations ms rest kept row))) =
    keep_field kept name t ms (is_kept kept name) refl (derived leaves (derivation first all row)) (derived_each leaves (plan_derivations offset (lowered_fields ms rest kept) row)) (derived_each leaves (field_derivations ms rest kept row)) more in
    rw (plans_by (is_kept kept name) offset leaves (lowered first all) (lowered_fields ms rest kept) row, p, field_by (is_kept kept name) leaves (derivation first all row)) here

pack_of : (kept : KeptFields) (ms : Members) (names : List (List ℕ)) (n : Nullability) → kept ≡ only names → (ones others : Option (List Datum)) → Keep kept ms ones others → option_map struct_row ones ≡ option_map (kept_value kept (struct_type ms n)) (option_map struct_row others)
pack_of kept ms names n e None None more = refl
pack_of kept ms names n e None (Some vs) more = absurd cc
pack_of kept ms names n e (Some us) None more = absurd cc
pack_of kept ms names n e (Some us) (Some vs) more = let p : items_from us ≡ kept_items kept ms (items_from vs) = cc in rw (p, e) refl

-- ---- trees

abbrev LowersAs : Leaves → List (List ℕ) → DataType → Derivation → Derivation → Type 0
LowersAs leaves names t d e = derived leaves d ≡ option_map (kept_value (only names) t) (derived leaves e)

lowers_chunk : (b : Bool) (leaves : Leaves) (names : List (List ℕ)) (t : DataType) (d e d' e' : Derivation) → LowersAs leaves names t d d' → LowersAs leaves names t e e' → LowersAs leaves names t (cond b d e) (cond b d' e')
lowers_chunk true leaves names t d e d' e' p q = p
lowers_chunk false leaves names t d e d' e' p q = q

no_leaf : (t : DataType) (ms : Members) (n : Nullability) → IsLeaf t → t ≡ struct_type ms n → ⊥
no_leaf (bool_type m) ms n is e = absurd cc
no_leaf (int_type kind m) ms n is e = absurd cc
no_leaf (utf8_type m) ms n is e = absurd cc
no_leaf (struct_type ns m) ms n is e = is
no_leaf (list_type t m) ms n is e = is

lowers_valid : (offset : ℕ) (leaves : Leaves) (names : List (List ℕ)) (t : DataType) (n : Nullability) (rows : ℕ) (validity : Validity) (row : ℕ) (d e : Derivation) → IsValidity n rows validity → n ≡ NonNullable → LowersAs leaves names t d e → LowersAs leaves names t (plan_where_valid offset (lowered_validity validity) row d) (where_valid_by validity row e)
lowers_valid offset leaves names t n rows always row d e sound is same = same
lowers_valid offset leaves names t NonNullable rows (valid_by validity) row d e sound is same = absurd sound
lowers_valid offset leaves names t Nullable rows (valid_by validity) row d e sound is same = absurd cc

mutual
  pub lowered_kept : (offset : ℕ) (leaves : Leaves) → GiveFitting leaves → (names : List (List ℕ)) (ms : Members) → IsTrue (are_distinct (names_in ms)) → (t : Tree) (row : ℕ) → IsSound t → (head_of t).dtype ≡ struct_type ms NonNullable → LowersAs leaves names (struct_type ms NonNullable) (plan_derivation offset (lowered t (only names)) row) (derivation t (only names) row)
  lowered_kept offset leaves fitting names ms distinct (missing head) row sound is = absurd sound
  lowered_kept offset leaves fitting names ms distinct (leaf head segment coding) row sound is = absurd (no_leaf head.dtype ms NonNullable sound is)
  lowered_kept offset leaves fitting names ms distinct (chunks head forest) row sound is = lowered_kept_in offset leaves fitting names ms distinct head.dtype forest row sound.0 is
  lowered_kept offset leaves fitting names ms distinct (fields head forest validity) row sound is =
      let same : struct_members head.dtype ≡ ms = ap struct_members is in
      let nulls : nullability_of head.dtype ≡ NonNullable = ap nullability_of is in
      let more : Keep (only names) ms (derived_each leaves (plan_derivations offset (lowered_fields (struct_members head.dtype) forest (only names)) row)) (derived_each leaves (field_derivations (struct_members head.dtype) forest (only names) row)) =
      subst (λ (fs : Members). Keep (only names) fs (derived_each leaves (plan_derivations offset (lowered_fields (struct_members head.dtype) forest (only names)) row)) (derived_each leaves (field_derivations (struct_members head.dtype) forest (only names) row))) same
      (keep_fields offset leaves (only names) (struct_members head.dtype) head.rows forest row sound.1) in
      lowers_valid offset leaves names (struct_type ms NonNullable) (nullability_of head.dtype) head.rows validity row (packed (plan_derivations offset (lowered_fields (struct_members head.dtype) forest (only names)) row)) (packed (field_derivations (struct_members head.dtype) forest (only names) row)) sound.2 nulls
      (pack_of (only names) ms names NonNullable refl (derived_each leaves (plan_derivations offset (lowered_fields (struct_members head.dtype) forest (only names)) row)) (derived_each leaves (field_derivations (struct_members head.dtype) forest (only names) row)) more)
  lowered_kept offset leaves fitting names ms distinct (dict head values codes) row sound is =
      let v : Option Datum = derived leaves (derivation (dict head values codes) all row) in
      let whole : derived leaves (plan_derivation offset (take_plan head (lowered codes all) (lowered values all)) row) ≡ v = ap (derived leaves) (lowered_all offset (dict head values codes) row sound) in
      let fit : IfSome v (Fits (struct_type ms NonNullable)) = subst (λ (t : DataType). IfSome v (Fits t)) is (fits_row leaves fitting (dict head values codes) row sound) in
      let F : DataType → Option Datum → Option Datum = λ (t : DataType) (w : Option Datum). option_and_then (λ (x : Datum). meaning t no_bound (kept_pack (only names) t) x 0) w in
      ap (F head.dtype) whole ∙ ap (λ (t : DataType). F t v) is ∙ worked_out_kept names ms v distinct fit
  lowered_kept offset leaves fitting names ms distinct (lists head elements offsets validity) row sound is = refl
  lowered_kept offset leaves fitting names ms distinct (zoned head zones content table) row sound is =
      ap (derived leaves) (zones_same (tell zones.zone_len zones.statistics) offset (kept_head (only names) head) zones (lowered content (only names)) (lowered table all) row) ∙ lowered_kept offset leaves fitting names ms distinct content row sound.0 (sound.1.dtype ∙ is)

  lowered_kept_in : (offset : ℕ) (leaves : Leaves) → GiveFitting leaves → (names : List (List ℕ)) (ms : Members) → IsTrue (are_distinct (names_in ms)) → (t : DataType) (forest : Forest) (row : ℕ) → AreChunks t forest → t ≡ struct_type ms NonNullable → LowersAs leaves names (struct_type ms NonNullable) (plan_derivation_in offset (lowered_in forest (only names)) row) (derivation_in forest (only names) row)
  lowered_kept_in offset leaves fitting names ms distinct t no_trees row sound is = refl
  lowered_kept_in offset leaves fitting names ms distinct t (tree first rest) row sound is =
      let e : (plan_head (lowered first (only names))).rows ≡ (head_of first).rows = lowered_rows first (only names) sound.0 in
      let P : ℕ → Option Datum = λ (n : ℕ). derived leaves (cond (ltb row n) (plan_derivation offset (lowered first (only names)) row) (plan_derivation_in offset (lowered_in rest (only names)) (row - n))) in
      ap P e ∙ lowers_chunk (ltb row (head_of first).rows) leaves names (struct_type ms NonNullable) (plan_derivation offset (lowered first (only names)) row) (plan_derivation_in offset (lowered_in rest (only names)) (row - (head_of first).rows)) (derivation first (only names) row) (derivation_in rest (only names) (row - (head_of first).rows))
      (lowered_kept offset leaves fitting names ms distinct first row sound.0 (sound.1 ∙ is)) (lowered_kept_in offset leaves fitting names ms distinct t rest (row - (head_of first).rows) sound.2 is)
