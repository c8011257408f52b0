-- Columns that are handed in: those that fit their plans, and those that the row behind a scan reads.
use Rattle.std.proofs.Common.{◌≡◌, ℕ, ◌<◌, inl, inr, Bool, true, false, List, [], ◌∷◌, Some, length, refl, sym, ap, ◌∙◌, subst}
use Rattle.std.specs.Prelude.{if◌then◌else◌, ◌==◌}
use Rattle.std.proofs.lemmas.Bool.{eqb-true}
use Rattle.std.proofs.lemmas.Option.{none-some}
use Rattle.vx_rows.specs.Derivations.{Leaves}
use Rattle.vx_plan.specs.Nodes.{Node}
use Rattle.vx_steps.specs.Held.{AreMade, AreTyped, HaveLeaves}
use Rattle.vx_steps.specs.Kept.{kept_at}
use Rattle.vx_steps.specs.KeptData.{Kept}
use Rattle.vx_steps.specs.Offers.{IsForLeaf, IsForPlan, Keeps}
use Rattle.vx_base.specs.Columns.{ColumnData}

-- ---- what is kept of columns

-- the column that is kept for a plan is one of those that are so
held_by_test : (P : Kept → Type 0) (x : Kept) (rest : List Kept) (n : ℕ) (column : ColumnData) (test : Bool) → (x.node == n) ≡ test → P x → (kept_at rest n ≡ Some column → P (record { node = n; column = column })) → (if test then Some x.column else kept_at rest n) ≡ Some column →
    P (record { node = n; column = column })
held_by_test P x rest n column true same holds behind found =
    let node : x.node ≡ n = eqb-true x.node n same in
    let one : x.column ≡ column = cc in
    subst P (λ i. record { node = node i; column = one i }) holds
held_by_test P x rest n column false same holds behind found = behind found

pub kept_holds : (P : Kept → Type 0) (all kept : List Kept) (n : ℕ) (column : ColumnData) → Keeps P all kept → kept_at kept n ≡ Some column → P (record { node = n; column = column })
kept_holds P [] kept n column keeps at = absurd (none-some column (sym (ap (λ (ks : List Kept). kept_at ks n) keeps) ∙ at))
kept_holds P (x ∷ all) kept n column (inl (holds, (rest, is, keeps))) at =
    held_by_test P x rest n column (x.node == n) refl holds (λ behind. kept_holds P all rest n column keeps behind) (sym (ap (λ (ks : List Kept). kept_at ks n) is) ∙ at)
kept_holds P (x ∷ all) kept n column (inr (not, keeps)) at = kept_holds P all kept n column keeps at

-- a column that is so is kept, where it is the first for its plan
either_first : (x : Kept) (all rest : List Kept) (n : ℕ) (column : ColumnData) (test : Bool) → (kept_at all n ≡ Some column → kept_at rest n ≡ Some column) → (if test then Some x.column else kept_at all n) ≡ Some column → (if test then Some x.column else kept_at rest n) ≡ Some column
either_first x all rest n column true behind found = found
either_first x all rest n column false behind found = behind found

not_first : (P : Kept → Type 0) (x : Kept) (all kept : List Kept) (n : ℕ) (column : ColumnData) (test : Bool) → (x.node == n) ≡ test → (P x → ⊥) → P (record { node = n; column = column }) → (kept_at all n ≡ Some column → kept_at kept n ≡ Some column) →
    (if test then Some x.column else kept_at all n) ≡ Some column → kept_at kept n ≡ Some column
not_first P x all kept n column true same not holds behind found =
    let node : x.node ≡ n = eqb-true x.node n same in
    let one : x.column ≡ column = cc in
    absurd (not (subst P (λ i. record { node = sym node i; column = sym one i }) holds))
not_first P x all kept n column false same not holds behind found = behind found

pub kept_first : (P : Kept → Type 0) (all kept : List Kept) (n : ℕ) (column : ColumnData) → Keeps P all kept → P (record { node = n; column = column }) → kept_at all n ≡ Some column → kept_at kept n ≡ Some column
kept_first P [] kept n column keeps holds at = absurd (none-some column at)
kept_first P (x ∷ all) kept n column (inl (is_so, (rest, is, keeps))) holds at =
    ap (λ (ks : List Kept). kept_at ks n) is ∙ either_first x all rest n column (x.node == n) (λ behind. kept_first P all rest n column keeps holds behind) at
kept_first P (x ∷ all) kept n column (inr (not, keeps)) holds at = not_first P x all kept n column (x.node == n) refl not holds (λ behind. kept_first P all kept n column keeps holds behind) at

-- a column that is kept for a plan has one for the plan among all
some_first : (x : Kept) (all rest : List Kept) (n : ℕ) (column : ColumnData) (test : Bool) → (kept_at rest n ≡ Some column → (first : ColumnData) × (kept_at all n ≡ Some first)) → (if test then Some x.column else kept_at rest n) ≡ Some column →
    (first : ColumnData) × ((if test then Some x.column else kept_at all n) ≡ Some first)
some_first x all rest n column true behind found = (x.column, refl)
some_first x all rest n column false behind found = behind found

first_or : (x : Kept) (all : List Kept) (n : ℕ) (test : Bool) → (first : ColumnData) × (kept_at all n ≡ Some first) → (first : ColumnData) × ((if test then Some x.column else kept_at all n) ≡ Some first)
first_or x all n true behind = (x.column, refl)
first_or x all n false behind = behind

pub kept_among : (P : Kept → Type 0) (all kept : List Kept) (n : ℕ) (column : ColumnData) → Keeps P all kept → kept_at kept n ≡ Some column → (first : ColumnData) × (kept_at all n ≡ Some first)
kept_among P [] kept n column keeps at = absurd (none-some column (sym (ap (λ (ks : List Kept). kept_at ks n) keeps) ∙ at))
kept_among P (x ∷ all) kept n column (inl (holds, (rest, is, keeps))) at =
    some_first x all rest n column (x.node == n) (λ behind. kept_among P all rest n column keeps behind) (sym (ap (λ (ks : List Kept). kept_at ks n) is) ∙ at)
kept_among P (x ∷ all) kept n column (inr (not, keeps)) at =
    first_or x all n (x.node == n) (kept_among P all kept n column keeps at)

-- ---- columns that fit

-- those that fit their plans have their dtypes and rows
pub fitting_typed : (nodes : List Node) (all kept : List Kept) → Keeps (IsForPlan nodes) all kept → AreTyped nodes kept
fitting_typed nodes all kept keeps n column at = let fits = kept_holds (IsForPlan nodes) all kept n column keeps at in (fits.dtype, fits.count)

-- where all have their dtypes and rows, the one that is kept for a plan is the first for it
pub first_fits : (nodes : List Node) (all kept : List Kept) (n : ℕ) (column : ColumnData) → AreTyped nodes all → Keeps (IsForPlan nodes) all kept → kept_at kept n ≡ Some column → kept_at all n ≡ Some column
first_fits nodes all kept n column typed keeps at =
    let first = kept_among (IsForPlan nodes) all kept n column keeps at in
    let fits = kept_holds (IsForPlan nodes) all kept n column keeps at in
    let right = typed n first.0 first.1 in
    let kept_one : kept_at kept n ≡ Some first.0 = kept_first (IsForPlan nodes) all kept n first.0 keeps (record { known = fits.known; dtype = right.0; count = right.1 }) first.1 in
    first.1 ∙ sym kept_one ∙ at

pub first_leaf_fits : (nodes : List Node) (all kept : List Kept) (n : ℕ) (column : ColumnData) → AreTyped nodes all → Keeps (IsForLeaf nodes) all kept → kept_at kept n ≡ Some column → kept_at all n ≡ Some column
first_leaf_fits nodes all kept n column typed keeps at =
    let first = kept_among (IsForLeaf nodes) all kept n column keeps at in
    let fits = kept_holds (IsForLeaf nodes) all kept n column keeps at in
    let right = typed n first.0 first.1 in
    let kept_one : kept_at kept n ≡ Some first.0 =
    kept_first (IsForLeaf nodes) all kept n first.0 keeps (record { plan = record { known = fits.plan.known; dtype = right.0; count = right.1 }; segment = fits.segment; leaf = fits.leaf }) first.1 in
    first.1 ∙ sym kept_one ∙ at

-- a column of those that fit stays, where its plan is one of the table
pub stays_fitting : (nodes : List Node) (all kept : List Kept) (n : ℕ) (column : ColumnData) → AreTyped nodes all → Keeps (IsForPlan nodes) all kept → n < length nodes → kept_at all n ≡ Some column → kept_at kept n ≡ Some column
stays_fitting nodes all kept n column typed keeps known at =
    let right = typed n column at in
    kept_first (IsForPlan nodes) all kept n column keeps (record { known = known; dtype = right.0; count = right.1 }) at

-- ---- what is so by leaves

pub leaves_fitting : (nodes : List Node) (all kept : List Kept) (leaves : Leaves) → AreTyped nodes all → Keeps (IsForLeaf nodes) all kept → HaveLeaves nodes all leaves → HaveLeaves nodes kept leaves
leaves_fitting nodes all kept leaves typed keeps have n segment column leaf at = have n segment column leaf (first_leaf_fits nodes all kept n column typed keeps at)

pub made_fitting : (nodes : List Node) (offset : ℕ) (all kept : List Kept) (leaves : Leaves) → AreTyped nodes all → Keeps (IsForPlan nodes) all kept → AreMade nodes offset all leaves → AreMade nodes offset kept leaves
made_fitting nodes offset all kept leaves typed keeps made n column at = made n column (first_fits nodes all kept n column typed keeps at)

-- no columns are so by any
pub no_leaves : (nodes : List Node) (leaves : Leaves) → HaveLeaves nodes [] leaves
no_leaves nodes leaves n segment column leaf at = absurd (none-some column at)

pub none_made : (nodes : List Node) (offset : ℕ) (leaves : Leaves) → AreMade nodes offset [] leaves
none_made nodes offset leaves n column at = absurd (none-some column at)

pub none_typed : (nodes : List Node) → AreTyped nodes []
none_typed nodes n column at = absurd (none-some column at)

-- ---- columns of some plans

-- a column that is kept for its plan's sake is the first for the plan
pub node_first : (P : ℕ → Type 0) (all kept : List Kept) (n : ℕ) (column : ColumnData) → Keeps (λ one. P one.node) all kept → kept_at kept n ≡ Some column → kept_at all n ≡ Some column
node_first P all kept n column keeps at =
    let first = kept_among (λ one. P one.node) all kept n column keeps at in
    let holds = kept_holds (λ one. P one.node) all kept n column keeps at in
    let kept_one : kept_at kept n ≡ Some first.0 = kept_first (λ one. P one.node) all kept n first.0 keeps holds first.1 in
    first.1 ∙ sym kept_one ∙ at
