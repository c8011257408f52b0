-- Where columns are the whole values of their plans, a row is worth with them what the plan says.
use Rattle.std.proofs.Common.{◌≡◌, ℕ, ◌+◌, ◌-◌, ◌<◌, ◌≤◌, inl, inr, Bool, true, false, List, [], ◌∷◌, Option, Some, None, length, map, refl, sym, ap, ◌∙◌, subst, arith}
use Rattle.std.specs.Prelude.{if◌then◌else◌, nat_lt, IfSome}
use Rattle.std.specs.List.{slice_get}
use Rattle.std.proofs.lemmas.Bool.{ltb-true}
use Rattle.std.proofs.lemmas.Option.{slice_get-get_or, slice_get_within}
use Rattle.vx_base.specs.Columns.{ColumnData}
use Rattle.vx_base.specs.Data.{Datum}
use Rattle.vx_rows.specs.Derivations.{Derivation, packed, Leaves, derived}
use Rattle.vx_rows.specs.Given.{GivenValues, AreCertified, EachCertified}
use Rattle.vx_rows.specs.Heads.{Head}
use Rattle.vx_rows.proofs.Givens.{certified}
use Rattle.vx_picking.specs.Rows.{rows_of, AreOf}
use Rattle.vx_plan.specs.declared.nodes.PlanKind.{PlanKind}
use Rattle.vx_plan.specs.declared.nodes.PlanKind.TheVariants as kinds
use Rattle.vx_plan.specs.FittingRows.{HasFittingRows, HaveFittingRows, FieldsHaveRows, ValidityHasRows}
use Rattle.vx_plan.specs.Nodes.{Node, absent}
use Rattle.vx_plan.specs.Plans.{Plan, no_plan, concat_plan, eval_plan, filter_plan, pack_plan, take_plan, share_plan, list_plan, row_idx_plan, scan_plan, zoned_plan, pruning_plan, Plans, no_plans, plan, PlanValidity, all_valid, valid_as, plan_head, head_at, plan_at, plan_in, plan_grown_as}
use Rattle.vx_plan.specs.PlanRows.{plan_derivation, plan_derivation_in, plan_derivations, plan_where_valid, plan_value}
use Rattle.vx_plan.specs.Rules.{node_at}
use Rattle.vx_plan.specs.Tables.{IsGoodTable}
use Rattle.vx_plan.proofs.Adding.{head_in_table}
use Rattle.vx_plan.proofs.FittingPlans.{rows_fit}
use Rattle.vx_plan.proofs.Unfolding.{Known, known}
use Rattle.vx_steps.specs.declared.wholes.Wholes.{Wholes}
use Rattle.vx_steps.specs.Below.{StandsIn, StandsAmong, StandsInValidity}
use Rattle.vx_steps.specs.Given.{given_as, given_for, handed_by, row_value, whole_at, whole_value}
use Rattle.vx_steps.specs.GivenLaws.{AreServed}
use Rattle.vx_steps.specs.Held.{AreMade}
use Rattle.vx_steps.specs.KeptData.{Kept}
use Rattle.vx_steps.specs.Kept.{kept_at, values_of, whole_of}
use Rattle.vx_steps.proofs.AllRows.{rows_certified}
use Rattle.vx_steps.proofs.WholeRows.{each_at}
use Rattle.vx_steps.proofs.Shaping.{given_known}
use Rattle.vx_steps.proofs.Standing.{IsOfTable, stands_of_table}
use Rattle.vx_steps.proofs.UsedValues.{selected_same, used_columns}

-- ---- what is handed in for a plan

-- for a take the whole values of its second child, for a share its own
abbrev Certifies : Leaves → GivenValues → ℕ → Plan → Type 0
Certifies leaves f offset (take_plan head codes values) = IfSome (f head.number) (λ vs. whole_value leaves offset values ≡ Some vs)
Certifies leaves f offset (share_plan head child) = IfSome (f head.number) (λ vs. whole_value leaves offset (share_plan head child) ≡ Some vs)
Certifies leaves f offset p = Unit {0}

if_some : (o : Option (List Datum)) (F G : List Datum → Type 0) → ((vs : List Datum) → F vs → G vs) → IfSome o F → IfSome o G
if_some None F G to some = tt
if_some (Some vs) F G to some = to vs some

by_if : (b : Bool) (F : Derivation → Type 0) (d e : Derivation) → (b ≡ true → F d) → F e → F (if b then d else e)
by_if true F d e first rest = first refl
by_if false F d e first rest = rest

-- the values of a share are those of its child
share_values : (leaves : Leaves) (offset : ℕ) (head : Head) (child : Plan) (row : ℕ) (vs : List Datum) → row < head.rows → whole_value leaves offset (share_plan head child) ≡ Some vs → derived leaves (plan_derivation offset child row) ≡ slice_get vs row
share_values leaves offset head child row vs less whole =
    let e : 0 + row ≡ row = omega arith in
    sym (each_at leaves (plan_derivation offset (share_plan head child)) 0 head.rows vs whole row less ∙ ap (λ (r : ℕ). derived leaves (plan_derivation offset child r)) e)

below_rows : (row rows other : ℕ) → other ≡ rows → row < rows → row < other
below_rows row rows other is less = omega (arith, is, less)

mutual
  certify : (leaves : Leaves) (f : GivenValues) (offset : ℕ) (p : Plan) (row : ℕ) → HasFittingRows p → row < (plan_head p).rows → ((q : Plan) → StandsIn (λ r. r ≡ q) p → Certifies leaves f offset q) → AreCertified leaves f (plan_derivation offset p row)
  certify leaves f offset (no_plan head) row fit less each = tt
  certify leaves f offset (concat_plan head children) row fit less each = certify_in leaves f offset children row fit (λ q s. each q (inr s))
  certify leaves f offset (eval_plan head e child) row fit less each = certify leaves f offset child row fit.1 (below_rows row head.rows (plan_head child).rows fit.0 less) (λ q s. each q (inr s))
  certify leaves f offset (filter_plan head child) row fit less each = certify leaves f offset child row fit.1 (below_rows row head.rows (plan_head child).rows fit.0 less) (λ q s. each q (inr s))
  certify leaves f offset (pack_plan head children validity) row fit less each =
      certify_valid leaves f offset validity row head.rows (packed (plan_derivations offset children row)) fit.1 less (certify_fields leaves f offset children row head.rows fit.0 less (λ q s. each q (inr (inl s)))) (λ q s. each q (inr (inr s)))
  certify leaves f offset (take_plan head codes values) row fit less each = (
    certify leaves f offset codes row fit.1 (below_rows row head.rows (plan_head codes).rows fit.0 less) (λ q s. each q (inr (inl s))),
    each (take_plan head codes values) (inl refl),
  )
  certify leaves f offset (share_plan head child) row fit less each =
      if_some (f head.number) (λ vs. whole_value leaves offset (share_plan head child) ≡ Some vs) (λ vs. derived leaves (plan_derivation offset child row) ≡ slice_get vs row) (λ vs whole. share_values leaves offset head child row vs less whole) (each (share_plan head child) (inl refl))
  certify leaves f offset (list_plan head elements offsets validity) row fit less each = tt
  certify leaves f offset (row_idx_plan head) row fit less each = tt
  certify leaves f offset (scan_plan head segment coding) row fit less each = tt
  certify leaves f offset (zoned_plan head zones content table) row fit less each = certify leaves f offset content row fit.1 (below_rows row head.rows (plan_head content).rows fit.0 less) (λ q s. each q (inr (inl s)))
  certify leaves f offset (pruning_plan head pruning table) row fit less each = rows_certified leaves f (plan_derivation offset table) 0 (plan_head table).rows (λ other lt. certify leaves f offset table other fit (omega arith) (λ q s. each q (inr s)))

  certify_in : (leaves : Leaves) (f : GivenValues) (offset : ℕ) (ps : Plans) (row : ℕ) → HaveFittingRows ps → ((q : Plan) → StandsAmong (λ r. r ≡ q) ps → Certifies leaves f offset q) → AreCertified leaves f (plan_derivation_in offset ps row)
  certify_in leaves f offset no_plans row fit each = tt
  certify_in leaves f offset (plan first rest) row fit each =
      by_if (nat_lt row (plan_head first).rows) (AreCertified leaves f) (plan_derivation offset first row) (plan_derivation_in offset rest (row - (plan_head first).rows))
      (λ less. certify leaves f offset first row fit.0 (ltb-true row (plan_head first).rows less) (λ q s. each q (inl s)))
      (certify_in leaves f offset rest (row - (plan_head first).rows) fit.1 (λ q s. each q (inr s)))

  certify_fields : (leaves : Leaves) (f : GivenValues) (offset : ℕ) (ps : Plans) (row rows : ℕ) → FieldsHaveRows rows ps → row < rows → ((q : Plan) → StandsAmong (λ r. r ≡ q) ps → Certifies leaves f offset q) → EachCertified leaves f (plan_derivations offset ps row)
  certify_fields leaves f offset no_plans row rows fit less each = tt
  certify_fields leaves f offset (plan first rest) row rows fit less each = (
    certify leaves f offset first row fit.1 (below_rows row rows (plan_head first).rows fit.0 less) (λ q s. each q (inl s)),
    certify_fields leaves f offset rest row rows fit.2 less (λ q s. each q (inr s)),
  )

  certify_valid : (leaves : Leaves) (f : GivenValues) (offset : ℕ) (validity : PlanValidity) (row rows : ℕ) (d : Derivation) → ValidityHasRows rows validity → row < rows → AreCertified leaves f d → ((q : Plan) → StandsInValidity (λ r. r ≡ q) validity → Certifies leaves f offset q) → AreCertified leaves f (plan_where_valid offset validity row d)
  certify_valid leaves f offset all_valid row rows d fit less are each = are
  certify_valid leaves f offset (valid_as validity) row rows d fit less are each = (are, certify leaves f offset validity row fit.1 (below_rows row rows (plan_head validity).rows fit.0 less) each)

-- ---- the plans of a table

kept_whole : (nodes : List Node) (used : List Kept) (leaves : Leaves) (offset n : ℕ) → AreMade nodes offset used leaves → (column : Option ColumnData) → kept_at used n ≡ column → IfSome (values_of column) (λ vs. whole_value leaves offset (plan_at nodes n) ≡ Some vs)
kept_whole nodes used leaves offset n made None at = tt
kept_whole nodes used leaves offset n made (Some column) at = made n column at

second_whole : (nodes : List Node) (used : List Kept) (leaves : Leaves) (offset : ℕ) (ns : List ℕ) → AreMade nodes offset used leaves → IfSome (whole_at used (slice_get ns 1)) (λ vs. whole_value leaves offset (plan_in (map (plan_at nodes) ns) 1) ≡ Some vs)
second_whole nodes used leaves offset [] made = tt
second_whole nodes used leaves offset (n ∷ []) made = tt
second_whole nodes used leaves offset (n ∷ m ∷ ns) made = kept_whole nodes used leaves offset m made (kept_at used m) refl

grown_certifies : (kind : PlanKind) (nodes : List Node) (used : List Kept) (leaves : Leaves) (f : GivenValues) (offset : ℕ) (head : Head) (ns : List ℕ) → f head.number ≡ given_as used head.number kind ns → plan_at nodes head.number ≡ plan_grown_as head kind (map (plan_at nodes) ns) → AreMade nodes offset used leaves → Certifies leaves f offset (plan_grown_as head kind (map (plan_at nodes) ns))
grown_certifies kinds.Concat nodes used leaves f offset head ns is law made = tt
grown_certifies (kinds.Eval a) nodes used leaves f offset head ns is law made = tt
grown_certifies kinds.Filter nodes used leaves f offset head ns is law made = tt
grown_certifies (kinds.Pack has_validity) nodes used leaves f offset head ns is law made = tt
grown_certifies kinds.Take nodes used leaves f offset head ns is law made =
    let F : Option (List Datum) → Type 0 = λ o. IfSome o (λ vs. whole_value leaves offset (plan_in (map (plan_at nodes) ns) 1) ≡ Some vs) in
    subst F (sym is) (second_whole nodes used leaves offset ns made)
grown_certifies kinds.Share nodes used leaves f offset head ns is law made =
    let F : Option (List Datum) → Type 0 = λ o. IfSome o (λ vs. whole_value leaves offset (plan_grown_as head kinds.Share (map (plan_at nodes) ns)) ≡ Some vs) in
    let G : Plan → Type 0 = λ p. IfSome (whole_of used head.number) (λ vs. whole_value leaves offset p ≡ Some vs) in
    subst F (sym is) (subst G law (kept_whole nodes used leaves offset head.number made (kept_at used head.number) refl))
grown_certifies (kinds.ListPack has_validity) nodes used leaves f offset head ns is law made = tt
grown_certifies kinds.RowIdx nodes used leaves f offset head ns is law made = tt
grown_certifies (kinds.SegmentScan segment coding) nodes used leaves f offset head ns is law made = tt
grown_certifies (kinds.Zoned zone_len stats) nodes used leaves f offset head ns is law made = tt
grown_certifies (kinds.LegacyStats zone_len stats) nodes used leaves f offset head ns is law made = tt
grown_certifies (kinds.Pruning zone_len stats proof) nodes used leaves f offset head ns is law made = tt

plan_certifies : (nodes : List Node) → IsGoodTable nodes → (used : List Kept) (leaves : Leaves) (offset n : ℕ) → n < length nodes → AreMade nodes offset used leaves → Certifies leaves (given_for nodes used) offset (plan_at nodes n)
plan_certifies nodes good used leaves offset n there made =
    let node : Node = node_at nodes n in
    let k : Known nodes n node node.kind = known nodes good n node node.kind (slice_get-get_or nodes n absent there) refl in
    subst (Certifies leaves (given_for nodes used) offset) (sym k.law) (grown_certifies node.kind nodes used leaves (given_for nodes used) offset (head_at n node) node.children (given_known nodes n node.kind node.children there refl refl used) k.law made)

table_certifies : (nodes : List Node) → IsGoodTable nodes → (used : List Kept) (leaves : Leaves) (offset : ℕ) → AreMade nodes offset used leaves → (q : Plan) → IsOfTable (λ r. r ≡ q) nodes → Certifies leaves (given_for nodes used) offset q
table_certifies nodes good used leaves offset made q (inl gap) = subst (Certifies leaves (given_for nodes used) offset) gap tt
table_certifies nodes good used leaves offset made q (inr (m, less, is)) = subst (Certifies leaves (given_for nodes used) offset) is (plan_certifies nodes good used leaves offset m less made)

-- what is handed in for a row of a plan of the table are the values that it would read
pub row_certified : (nodes : List Node) → IsGoodTable nodes → (used : List Kept) (leaves : Leaves) (offset n row : ℕ) → n < length nodes → row < (node_at nodes n).rows → AreMade nodes offset used leaves → AreCertified leaves (given_for nodes used) (plan_derivation offset (plan_at nodes n) row)
row_certified nodes good used leaves offset n row there less made =
    let p : Plan = plan_at nodes n in
    let rows : (plan_head p).rows ≡ (node_at nodes n).rows = ap (λ (head : Head). head.rows) (head_in_table nodes good n there) in
    certify leaves (given_for nodes used) offset p row (rows_fit nodes good n there) (below_rows row (node_at nodes n).rows (plan_head p).rows rows less) (λ q s. table_certifies nodes good used leaves offset made q (stands_of_table (λ r. r ≡ q) nodes good n there s))

pub certified_serve : (nodes : List Node) → IsGoodTable nodes → (used : List Kept) (leaves : Leaves) (offset n row : ℕ) → n < length nodes → row < (node_at nodes n).rows → AreMade nodes offset used leaves → row_value leaves (handed_by nodes (Some used)) offset (plan_at nodes n) row ≡ plan_value leaves offset (plan_at nodes n) row
certified_serve nodes good used leaves offset n row there less made = certified leaves (given_for nodes used) (plan_derivation offset (plan_at nodes n) row) (row_certified nodes good used leaves offset n row there less made)

pub certified_columns : (nodes : List Node) → IsGoodTable nodes → (given : List Kept) (wholes : Wholes) (leaves : Leaves) (offset n start : ℕ) (bits : List Bool) (values : List Datum) → n < length nodes → start + length bits ≤ (node_at nodes n).rows → AreServed nodes given wholes n start bits → AreMade nodes offset wholes.used leaves →
    AreOf (row_value leaves (handed_by nodes (Some given)) offset (plan_at nodes n)) (rows_of start bits) values → AreOf (plan_value leaves offset (plan_at nodes n)) (rows_of start bits) values
certified_columns nodes good given wholes leaves offset n start bits values there inside served made are =
    sym (selected_same (row_value leaves (handed_by nodes (Some wholes.used)) offset (plan_at nodes n)) (plan_value leaves offset (plan_at nodes n)) start bits
    (λ place at. certified_serve nodes good wholes.used leaves offset n (start + place) there (omega (arith, inside, slice_get_within bits place true at)) made))
    ∙ used_columns nodes good given wholes leaves offset n start bits values there served are
