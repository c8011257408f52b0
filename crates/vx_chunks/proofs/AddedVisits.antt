-- A chunk with further whole values behind those that are given: where these are whole by the file, its rows are worth,
-- find and visit what they do with the given ones alone.
use Rattle.std.proofs.Common.{◌≡◌, ℕ, ◌+◌, ◌-◌, ◌⊎◌, inl, inr, ⊎_elim, Bool, true, false, List, [], ◌∷◌, ◌++◌, Option, Some, None, refl, sym, ap, ◌∙◌, subst, arith}
use Rattle.std.specs.Prelude.{if◌then◌else◌, ◌==◌, nat_lt}
use Rattle.std.specs.List.{slice_get}
use Rattle.std.proofs.lemmas.Option.{slice_get_within}
use Rattle.vx_rows.specs.Derivations.{Derivation, packed, Leaves}
use Rattle.vx_rows.specs.Given.{GivenValues, AreCertified, EachCertified}
use Rattle.vx_rows.specs.Reads.{directly, IsIn}
use Rattle.vx_rows.specs.SegmentLeaves.{Bytes, leaves_of}
use Rattle.vx_plan.specs.declared.nodes.PlanKind.{PlanKind}
use Rattle.vx_plan.specs.declared.nodes.PlanKind.TheVariants as kinds
use Rattle.vx_plan.specs.Nodes.{Node}
use Rattle.vx_plan.specs.Plans.{Plan, no_plan, concat_plan, eval_plan, filter_plan, pack_plan, take_plan, share_plan, list_plan, row_idx_plan, scan_plan, zoned_plan, pruning_plan, Plans, no_plans, plan, PlanValidity, all_valid, valid_as, plan_head}
use Rattle.vx_plan.specs.PlanRows.{plan_derivation, plan_derivation_in, plan_derivations, plan_where_valid}
use Rattle.vx_plan.specs.Refs.{number_of}
use Rattle.vx_steps.specs.Given.{given_as, given_at, given_for, row_value, whole_at}
use Rattle.vx_steps.specs.Held.{AreMade}
use Rattle.vx_steps.specs.Kept.{kept_at, values_of, whole_of, IsKept}
use Rattle.vx_steps.specs.KeptData.{Kept}
use Rattle.vx_steps.specs.Laws.{IsRowOf}
use Rattle.vx_steps.specs.Offers.{Keeps}
use Rattle.vx_steps.specs.ScanLaws.{IsTornIn}
use Rattle.vx_steps.specs.Visits.{Test, Visits, VisitsIn, VisitsField, VisitsValidity, HasEvalFault}
use Rattle.vx_steps.proofs.AllRows.{certified_at as all_certified_at}
use Rattle.vx_steps.proofs.CertifiedValues.{row_certified}
use Rattle.vx_steps.proofs.FreeVisits.{IsFaultAt}
use Rattle.vx_steps.proofs.UsedValues.{selected_same}
use Rattle.vx_steps.proofs.CertifiedCauses.{match_certified, valid_first}
use Rattle.vx_splits.specs.declared.selected_rows.SelectedRows.{SelectedRows}
use Rattle.vx_drive.specs.declared.errors.ScanError.{ScanError}
use Rattle.vx_drive.specs.declared.errors.ScanError.TheVariants.{BadProjection, OffsetOverflow, OutOfRange, Unsupported, NoLocation, ReadFault, Stalled, BadSegment, BadCode, EvalFault, Memory}
use Rattle.vx_drive.specs.declared.plans.ScanPlans.{ScanPlans}
use Rattle.vx_drive.specs.Plans.{projection_plan}
use Rattle.vx_chunks.specs.ChunkRows.{ChunkFaultsAt, ChunkReadsBadCode, ChunkReadsList, ChunkReadsSegment, ChunkReadsTorn, IsPiece}
use Rattle.vx_chunks.specs.Outcomes.{Causes, Claims, GivesPiece}
use Rattle.vx_chunks.proofs.AddedValues.{AllStand, Stands, added, bad_code_added, no_code_added}
use Rattle.vx_chunks.proofs.ChunkScanning.{IsGoodChunk}
use Rattle.vx_base.specs.Columns.{ColumnData}
use Rattle.vx_base.specs.Data.{Datum}
use Rattle.vx_base.specs.Sources.{SourceState}

-- ---- lists of whole values, one behind the other

-- the column of a plan is the first of the two
abbrev pub first_of : Option ColumnData → Option ColumnData → Option ColumnData
first_of None second = second
first_of (Some column) second = Some column

-- for each plan the column that is given, and else the further one
abbrev pub AreBehind : List Kept → List Kept → List Kept → Type 0
AreBehind given more all = (n : ℕ) → kept_at all n ≡ first_of (kept_at given n) (kept_at more n)

kept_cons : (x : Kept) (given more : List Kept) (n : ℕ) (test : Bool) → kept_at (given ++ more) n ≡ first_of (kept_at given n) (kept_at more n) → (if test then Some x.column else kept_at (given ++ more) n) ≡ first_of (if test then Some x.column else kept_at given n) (kept_at more n)
kept_cons x given more n true rest = refl
kept_cons x given more n false rest = rest

pub are_behind : (given more : List Kept) → AreBehind given more (given ++ more)
are_behind [] more n = refl
are_behind (x ∷ given) more n = kept_cons x given more n (x.node == n) (are_behind given more n)

-- of both those that are so
pub record KeepsBoth (P : Kept → Type 0) (given more all : List Kept) : Type 0 where
  pub front : List Kept
  pub back : List Kept
  pub is : all ≡ front ++ back
  pub keeps_front : Keeps P given front
  pub keeps_back : Keeps P more back

pub keeps_both : (P : Kept → Type 0) (given more all : List Kept) → Keeps P (given ++ more) all → KeepsBoth P given more all
keeps_both P [] more all keeps = record { front = []; back = all; is = refl; keeps_front = refl; keeps_back = keeps }
keeps_both P (x ∷ given) more all (inl (holds, (rest, is, keeps))) =
    let both = keeps_both P given more rest keeps in
    record { front = x ∷ both.front; back = both.back; is = is ∙ ap (λ (ks : List Kept). x ∷ ks) both.is; keeps_front = inl (holds, (both.front, refl, both.keeps_front)); keeps_back = both.keeps_back }
keeps_both P (x ∷ given) more all (inr (not, keeps)) =
    let both = keeps_both P given more all keeps in
    record { front = both.front; back = both.back; is = both.is; keeps_front = inr (not, both.keeps_front); keeps_back = both.keeps_back }

-- a column is kept for the plan in either
first_kept : (first second : Option ColumnData) (column : ColumnData) → first ≡ Some column → first_of first second ≡ Some column
first_kept first second column at = ap (λ (o : Option ColumnData). first_of o second) at

second_kept : (first second : Option ColumnData) (column : ColumnData) → second ≡ Some column → (one : ColumnData) × (first_of first second ≡ Some one)
second_kept None second column at = (column, at)
second_kept (Some one) second column at = (one, refl)

either_kept : (first second : Option ColumnData) (column : ColumnData) → first_of first second ≡ Some column → (first ≡ Some column) ⊎ (second ≡ Some column)
either_kept None second column at = inr at
either_kept (Some one) second column at = inl at

pub kept_in_front : (given more all : List Kept) (n : ℕ) → AreBehind given more all → IsKept given n → IsKept all n
kept_in_front given more all n behind (column, at) = (column, behind n ∙ first_kept (kept_at given n) (kept_at more n) column at)

pub kept_behind : (given more all : List Kept) (n : ℕ) → AreBehind given more all → IsKept more n → IsKept all n
kept_behind given more all n behind (column, at) =
    let one = second_kept (kept_at given n) (kept_at more n) column at in
    (one.0, behind n ∙ one.1)

pub kept_in_either : (given more all : List Kept) (n : ℕ) → AreBehind given more all → IsKept all n → IsKept given n ⊎ IsKept more n
kept_in_either given more all n behind (column, at) =
    ⊎_elim (λ (here : kept_at given n ≡ Some column). inl (column, here)) (λ (there : kept_at more n ≡ Some column). inr (column, there)) (either_kept (kept_at given n) (kept_at more n) column (sym (behind n) ∙ at))

first_stands : (given more : Option ColumnData) → Stands (values_of given) (values_of more) (values_of (first_of given more))
first_stands None more = inr (refl, refl)
first_stands (Some column) more = inl refl

whole_stands : (given more all : List Kept) (n : ℕ) → AreBehind given more all → Stands (whole_of given n) (whole_of more n) (whole_of all n)
whole_stands given more all n behind =
    subst (λ (o : Option ColumnData). Stands (values_of (kept_at given n)) (values_of (kept_at more n)) (values_of o)) (sym (behind n)) (first_stands (kept_at given n) (kept_at more n))

at_stands : (given more all : List Kept) (at : Option ℕ) → AreBehind given more all → Stands (whole_at given at) (whole_at more at) (whole_at all at)
at_stands given more all None behind = inl refl
at_stands given more all (Some n) behind = whole_stands given more all n behind

kind_stands : (given more all : List Kept) (n : ℕ) (kind : PlanKind) (children : List ℕ) → AreBehind given more all → Stands (given_as given n kind children) (given_as more n kind children) (given_as all n kind children)
kind_stands given more all n kinds.Concat children behind = inl refl
kind_stands given more all n (kinds.Eval a) children behind = inl refl
kind_stands given more all n kinds.Filter children behind = inl refl
kind_stands given more all n (kinds.Pack has_validity) children behind = inl refl
kind_stands given more all n kinds.Take children behind = at_stands given more all (slice_get children 1) behind
kind_stands given more all n kinds.Share children behind = whole_stands given more all n behind
kind_stands given more all n (kinds.ListPack has_validity) children behind = inl refl
kind_stands given more all n kinds.RowIdx children behind = inl refl
kind_stands given more all n (kinds.SegmentScan segment coding) children behind = inl refl
kind_stands given more all n (kinds.Zoned zone_len stats) children behind = inl refl
kind_stands given more all n (kinds.LegacyStats zone_len stats) children behind = inl refl
kind_stands given more all n (kinds.Pruning zone_len stats proof) children behind = inl refl

node_stands : (given more all : List Kept) (n : ℕ) (node : Option Node) → AreBehind given more all → Stands (given_at given n node) (given_at more n node) (given_at all n node)
node_stands given more all n None behind = inl refl
node_stands given more all n (Some node) behind = kind_stands given more all n node.kind node.children behind

pub all_stand : (nodes : List Node) (given more all : List Kept) → AreBehind given more all → AllStand (given_for nodes given) (given_for nodes more) (given_for nodes all)
all_stand nodes given more all behind n = node_stands given more all n (slice_get nodes n) behind

-- ---- what a row visits

-- what the test sees with the further values it sees with the given ones alone, where the further ones are what would be read
abbrev StaysSeen : Leaves → GivenValues → GivenValues → GivenValues → ℕ → Test → Type 0
StaysSeen leaves f h g offset P = (p : Plan) (row : ℕ) → AreCertified leaves h (plan_derivation offset p row) → P (Some g) p row → P (Some f) p row

-- where all values have none, the given ones have none
abbrev LacksToo : GivenValues → GivenValues → Type 0
LacksToo f g = (n : ℕ) → g n ≡ None → f n ≡ None

pub lacks_as : (given more all : Option (List Datum)) → Stands given more all → all ≡ None → given ≡ None
lacks_as given more all (inl same) none = sym same ∙ none
lacks_as given more all (inr (lacks, same)) none = lacks

module _ (leaves : Leaves) (f h g : GivenValues) (offset : ℕ) (P : Test) (lacks : LacksToo f g) (own : StaysSeen leaves f h g offset P) where
  mutual
    stays : (p : Plan) (row : ℕ) → AreCertified leaves h (plan_derivation offset p row) → Visits P (Some g) p row → Visits P (Some f) p row
    stays (no_plan head) row are v = own (no_plan head) row are v
    stays (concat_plan head children) row are (inl v) = inl (own (concat_plan head children) row are v)
    stays (concat_plan head children) row are (inr v) = inr (stays_in children row are v)
    stays (eval_plan head e child) row are (inl v) = inl (own (eval_plan head e child) row are v)
    stays (eval_plan head e child) row are (inr v) = inr (stays child row are v)
    stays (filter_plan head child) row are (inl v) = inl (own (filter_plan head child) row are v)
    stays (filter_plan head child) row are (inr v) = inr (stays child row are v)
    stays (pack_plan head children validity) row are (inl v) = inl (own (pack_plan head children validity) row are v)
    stays (pack_plan head children validity) row are (inr (inl v)) =
        inr (inl (stays_field children row (valid_first leaves h offset validity row (packed (plan_derivations offset children row)) are) v))
    stays (pack_plan head children validity) row are (inr (inr v)) = inr (inr (stays_validity validity row (packed (plan_derivations offset children row)) are v))
    stays (take_plan head codes values) row are (inl v) = inl (own (take_plan head codes values) row are v)
    stays (take_plan head codes values) row are (inr (inl v)) = inr (inl (stays codes row are.0 v))
    stays (take_plan head codes values) row are (inr (inr (closed, within))) = inr (inr (lacks head.number closed, within))
    stays (share_plan head child) row are (inl v) = inl (own (share_plan head child) row are v)
    stays (share_plan head child) row are (inr (closed, within)) = inr (lacks head.number closed, within)
    stays (list_plan head elements offsets validity) row are v = own (list_plan head elements offsets validity) row are v
    stays (row_idx_plan head) row are v = own (row_idx_plan head) row are v
    stays (scan_plan head segment coding) row are v = own (scan_plan head segment coding) row are v
    stays (zoned_plan head zones content table) row are (inl v) = inl (own (zoned_plan head zones content table) row are v)
    stays (zoned_plan head zones content table) row are (inr v) = inr (stays content row are v)
    stays (pruning_plan head pruning table) row are (inl v) = inl (own (pruning_plan head pruning table) row are v)
    stays (pruning_plan head pruning table) row are (inr (other, less, v)) = inr (other, less, stays table other (all_certified_at leaves h (plan_derivation offset table) (plan_head table).rows other less are) v)

    stays_in : (ps : Plans) (row : ℕ) → AreCertified leaves h (plan_derivation_in offset ps row) → VisitsIn P (Some g) ps row → VisitsIn P (Some f) ps row
    stays_in no_plans row are v = v
    stays_in (plan first rest) row are v =
        match_certified (nat_lt row (plan_head first).rows) (AreCertified leaves h) (plan_derivation offset first row) (plan_derivation_in offset rest (row - (plan_head first).rows))
        (Visits P (Some g) first row) (VisitsIn P (Some g) rest (row - (plan_head first).rows)) (Visits P (Some f) first row) (VisitsIn P (Some f) rest (row - (plan_head first).rows))
        (stays first row) (stays_in rest (row - (plan_head first).rows)) are v

    stays_field : (ps : Plans) (row : ℕ) → EachCertified leaves h (plan_derivations offset ps row) → VisitsField P (Some g) ps row → VisitsField P (Some f) ps row
    stays_field no_plans row are v = v
    stays_field (plan first rest) row are (inl v) = inl (stays first row are.0 v)
    stays_field (plan first rest) row are (inr v) = inr (stays_field rest row are.1 v)

    stays_validity : (validity : PlanValidity) (row : ℕ) (d : Derivation) → AreCertified leaves h (plan_where_valid offset validity row d) → VisitsValidity P (Some g) validity row → VisitsValidity P (Some f) validity row
    stays_validity all_valid row d are v = v
    stays_validity (valid_as validity) row d are v = stays validity row are.1 v

fault_stays : (leaves : Leaves) (f h g : GivenValues) (offset at : ℕ) → AllStand f h g → StaysSeen leaves f h g offset (HasEvalFault leaves offset at)
fault_stays leaves f h g offset at stand (no_plan head) row are v = absurd v
fault_stays leaves f h g offset at stand (concat_plan head children) row are v = absurd v
fault_stays leaves f h g offset at stand (eval_plan head e child) row are v = (v.0, subst (IsFaultAt child e) (added leaves f h g stand (plan_derivation offset child row) are) v.1)
fault_stays leaves f h g offset at stand (filter_plan head child) row are v = absurd v
fault_stays leaves f h g offset at stand (pack_plan head children validity) row are v = absurd v
fault_stays leaves f h g offset at stand (take_plan head codes values) row are v = absurd v
fault_stays leaves f h g offset at stand (share_plan head child) row are v = absurd v
fault_stays leaves f h g offset at stand (list_plan head elements offsets validity) row are v = absurd v
fault_stays leaves f h g offset at stand (row_idx_plan head) row are v = absurd v
fault_stays leaves f h g offset at stand (scan_plan head segment coding) row are v = absurd v
fault_stays leaves f h g offset at stand (zoned_plan head zones content table) row are v = absurd v
fault_stays leaves f h g offset at stand (pruning_plan head pruning table) row are v = absurd v

-- ---- of a chunk

module _ (plans : ScanPlans) (chosen : SelectedRows) (given more all : List Kept) (is : IsGoodChunk plans chosen) (behind : AreBehind given more all) where
  stand : AllStand (given_for plans.table given) (given_for plans.table more) (given_for plans.table all)
  stand = all_stand plans.table given more all behind

  certified_at : (leaves : Leaves) → AreMade plans.table plans.row_offset more leaves → (place : ℕ) → slice_get chosen.mask place ≡ Some true → AreCertified leaves (given_for plans.table more) (plan_derivation plans.row_offset (projection_plan plans) (chosen.scope.rows.start + place))
  certified_at leaves made place at =
      let less = slice_get_within chosen.mask place true at in
      let inside = is.inside in
      row_certified plans.table is.good more leaves plans.row_offset (number_of plans.projection) (chosen.scope.rows.start + place) is.known (omega (arith, less, inside)) made

  piece_added : (leaves : Leaves) (column : ColumnData) → AreMade plans.table plans.row_offset more leaves → IsPiece leaves plans all chosen column → IsPiece leaves plans given chosen column
  piece_added leaves column made piece =
      sym (selected_same (row_value leaves (Some (given_for plans.table all)) plans.row_offset (projection_plan plans)) (row_value leaves (Some (given_for plans.table given)) plans.row_offset (projection_plan plans)) chosen.scope.rows.start chosen.mask
      (λ place at. added leaves (given_for plans.table given) (given_for plans.table more) (given_for plans.table all) stand (plan_derivation plans.row_offset (projection_plan plans) (chosen.scope.rows.start + place)) (certified_at leaves made place at)))
      ∙ piece

  list_added : (list : ℕ) → ChunkReadsList plans all chosen list → ChunkReadsList plans given chosen list
  list_added list (place, at, any) =
      (place, at, no_code_added (IsRowOf list) (λ code is. is) (given_for plans.table given) (given_for plans.table more) (given_for plans.table all) stand (plan_derivation plans.row_offset (projection_plan plans) (chosen.scope.rows.start + place)) directly any)

  segment_added : (segment : ℕ) → ChunkReadsSegment plans all chosen segment → ChunkReadsSegment plans given chosen segment
  segment_added segment (place, at, any) =
      (place, at, no_code_added (IsIn segment) (λ code is. is) (given_for plans.table given) (given_for plans.table more) (given_for plans.table all) stand (plan_derivation plans.row_offset (projection_plan plans) (chosen.scope.rows.start + place)) directly any)

  torn_added : (bytes : Bytes) (segment : ℕ) → ChunkReadsTorn bytes plans all chosen segment → ChunkReadsTorn bytes plans given chosen segment
  torn_added bytes segment (place, at, any) =
      (place, at, no_code_added (IsTornIn bytes segment) (λ code is. is) (given_for plans.table given) (given_for plans.table more) (given_for plans.table all) stand (plan_derivation plans.row_offset (projection_plan plans) (chosen.scope.rows.start + place)) directly any)

  code_added : (leaves : Leaves) (take row : ℕ) → AreMade plans.table plans.row_offset more leaves → ChunkReadsBadCode leaves plans all chosen take row → ChunkReadsBadCode leaves plans given chosen take row
  code_added leaves take row made (place, at, any) = (
    place,
    at,
    bad_code_added leaves take row (given_for plans.table given) (given_for plans.table more) (given_for plans.table all) stand (plan_derivation plans.row_offset (projection_plan plans) (chosen.scope.rows.start + place)) directly (certified_at leaves made place at) any,
  )

  fault_added : (leaves : Leaves) (row : ℕ) → AreMade plans.table plans.row_offset more leaves → ChunkFaultsAt leaves plans all chosen row → ChunkFaultsAt leaves plans given chosen row
  fault_added leaves row made (place, at, v) = (
    place,
    at,
    stays leaves (given_for plans.table given) (given_for plans.table more) (given_for plans.table all) plans.row_offset (HasEvalFault leaves plans.row_offset row)
        (λ n. lacks_as (given_for plans.table given n) (given_for plans.table more n) (given_for plans.table all n) (stand n))
        (fault_stays leaves (given_for plans.table given) (given_for plans.table more) (given_for plans.table all) plans.row_offset row stand)
        (projection_plan plans) (chosen.scope.rows.start + place) (certified_at leaves made place at) v,
  )

  -- ---- by what is claimed

  -- what is claimed of all bytes by which the further values are whole is claimed
  abbrev pub ClaimsMade : Claims → Type 1
  ClaimsMade Told = (P Q : Bytes → Type 0) → ((bytes : Bytes) → AreMade plans.table plans.row_offset more (leaves_of bytes) → P bytes → Q bytes) → Told P → Told Q

  pub gives_added : (Told : Claims) (column : ColumnData) → ClaimsMade Told → GivesPiece Told plans all chosen column → GivesPiece Told plans given chosen column
  gives_added Told column claim gives = record {
    dtype = gives.dtype;
    count = gives.count;
    values = claim (λ bytes. IsPiece (leaves_of bytes) plans all chosen column) (λ bytes. IsPiece (leaves_of bytes) plans given chosen column) (λ bytes made piece. piece_added (leaves_of bytes) column made piece) gives.values;
  }

  pub cause_added : (Told : Claims) (error : ScanError) (before after : SourceState) → ClaimsMade Told → Causes Told plans all chosen error before after → Causes Told plans given chosen error before after
  cause_added Told BadProjection before after claim cause = absurd cause
  cause_added Told OffsetOverflow before after claim cause = absurd cause
  cause_added Told OutOfRange before after claim cause = absurd cause
  cause_added Told (Unsupported list) before after claim cause = list_added (number_of list) cause
  cause_added Told (NoLocation segment) before after claim cause = (segment_added segment cause.0, cause.1)
  cause_added Told ReadFault before after claim cause = cause
  cause_added Told Stalled before after claim cause = cause
  cause_added Told (BadSegment segment) before after claim cause =
      claim (λ bytes. ChunkReadsTorn bytes plans all chosen segment) (λ bytes. ChunkReadsTorn bytes plans given chosen segment) (λ bytes made torn. torn_added bytes segment torn) cause
  cause_added Told (BadCode take row) before after claim cause =
      claim (λ bytes. ChunkReadsBadCode (leaves_of bytes) plans all chosen (number_of take) row) (λ bytes. ChunkReadsBadCode (leaves_of bytes) plans given chosen (number_of take) row)
      (λ bytes made bad. code_added (leaves_of bytes) (number_of take) row made bad) cause
  cause_added Told (EvalFault row) before after claim cause =
      claim (λ bytes. ChunkFaultsAt (leaves_of bytes) plans all chosen row) (λ bytes. ChunkFaultsAt (leaves_of bytes) plans given chosen row) (λ bytes made fault. fault_added (leaves_of bytes) row made fault) cause
  cause_added Told Memory before after claim cause = tt
