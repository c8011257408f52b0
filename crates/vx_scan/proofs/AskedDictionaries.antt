-- A row that asks for whole values reads a code of an outermost dictionary.
use Rattle.std.proofs.Common.{◌≡◌, ℕ, zero, suc, ◌+◌, ◌-◌, ◌<◌, inl, inr, Bool, true, false, List, [], ◌∷◌, Some, map, refl, ap, subst, arith}
use Rattle.std.specs.Prelude.{if◌then◌else◌, nat_lt, IsSomeAnd}
use Rattle.std.specs.List.{slice_get, AllByRecursion}
use Rattle.std.specs.Bool.{MatchBool}
use Rattle.vx_rows.specs.Derivations.{Derivation, packed, Derivations, each_row}
use Rattle.vx_rows.specs.Given.{GivenValues}
use Rattle.vx_rows.specs.Reads.{directly, inside, Found, a_leaf_row, a_code, a_list_row, Read, reads_of, reads_of_each, AnyOf, FindsBy, IsCodeOf}
use Rattle.vx_rows.specs.Renumbered.{found_renumbered, read_renumbered, way_renumbered}
use Rattle.vx_rows.proofs.ReadRows.{any_left, any_right}
use Rattle.vx_lower.specs.Projected.{scan_reads}
use Rattle.vx_plan.specs.Plans.{Plan, no_plan, concat_plan, eval_plan, filter_plan, pack_plan, take_plan, share_plan, list_plan, row_idx_plan, scan_plan, zoned_plan, pruning_plan, Plans, no_plans, plan, PlanValidity, all_valid, valid_as, plan_head}
use Rattle.vx_plan.specs.PlanRows.{plan_derivation, plan_derivation_in, plan_derivations, plan_where_valid, plan_reads}
use Rattle.vx_splits.specs.declared.selected_rows.SelectedRows.{SelectedRows}
use Rattle.vx_splits.specs.Trimmed.{chosen_rows}
use Rattle.vx_steps.specs.Below.{StandsAmong, IsSharePlan, HasNoShare}
use Rattle.vx_steps.specs.Given.{given_for}
use Rattle.vx_steps.specs.Visits.{Visits, VisitsIn, VisitsField, IsWholeRead}
use Rattle.vx_drive.specs.declared.plans.ScanPlans.{ScanPlans}
use Rattle.vx_drive.specs.Plans.{projection_plan}
use Rattle.vx_chunks.proofs.Ways.{none_inside, SeesOutside}
use Rattle.vx_workers.specs.Borrowers.{AsksForWholes, IsAsking}
use Rattle.vx_scan.specs.Answer.{FileScan, row_count}
use Rattle.vx_scan.specs.Causes.{ReadsDictionary}
use Rattle.vx_scan.specs.FilePlans.{node_of, ArePlansOf, LiesInside}
use Rattle.vx_scan.proofs.ScanReads.{some_chosen}
use Rattle.vx_scan.proofs.UnsharedPlans.{none_shared}

-- ---- rows of a plan

-- a code of the take, which is outermost
abbrev IsDirect : ℕ → Read → Type 0
IsDirect take read = (read.way ≡ directly) × IsCodeOf take read.found

abbrev Reads : Derivation → Type 0
Reads d = (take : ℕ) × AnyOf (IsDirect take) (reads_of directly d)

abbrev ReadsEach : Derivations → Type 0
ReadsEach ds = (take : ℕ) × AnyOf (IsDirect take) (reads_of_each directly ds)

-- nothing is asked for inside of whole values
asks_outside : (n : ℕ) → SeesOutside (IsWholeRead n)
asks_outside n p row v = v

by_choice : (b : Bool) (A B : Type 0) (d e : Derivation) → (A → Reads d) → (B → Reads e) → MatchBool b A B → Reads (if b then d else e)
by_choice true A B d e f g v = f v
by_choice false A B d e f g v = g v

left_valid : (offset : ℕ) (validity : PlanValidity) (row : ℕ) (d : Derivation) → Reads d → Reads (plan_where_valid offset validity row d)
left_valid offset all_valid row d reads = reads
left_valid offset (valid_as validity) row d (take, any) = (take, any_left (IsDirect take) (reads_of directly d) (reads_of directly (plan_derivation offset validity row)) any)

right_valid : (offset : ℕ) (validity : Plan) (row : ℕ) (d : Derivation) → Reads (plan_derivation offset validity row) → Reads (plan_where_valid offset (valid_as validity) row d)
right_valid offset validity row d (take, any) = (take, any_right (IsDirect take) (reads_of directly d) (reads_of directly (plan_derivation offset validity row)) any)

-- what one of the rows reads, all of them read
rows_read : (f : ℕ → Derivation) (count row : ℕ) → row < count → Reads (f row) → ReadsEach (each_row f 0 count)
rows_read f count row lt (take, any) = (take, from 0 count row lt (subst (λ (r : ℕ). AnyOf (IsDirect take) (reads_of directly (f r))) e any))
  where
    e : row ≡ 0 + row
    e = omega arith

    from : (first many place : ℕ) → place < many → AnyOf (IsDirect take) (reads_of directly (f (first + place))) → AnyOf (IsDirect take) (reads_of_each directly (each_row f first many))
    from first zero place less one = absurd (omega (arith, less))
    from first (suc many) zero less one =
        let here : first + 0 ≡ first = omega arith in
        any_left (IsDirect take) (reads_of directly (f first)) (reads_of_each directly (each_row f (first + 1) many)) (subst (λ (r : ℕ). AnyOf (IsDirect take) (reads_of directly (f r))) here one)
    from first (suc many) (suc place) less one =
        let next : first + suc place ≡ first + 1 + place = omega arith in
        any_right (IsDirect take) (reads_of directly (f first)) (reads_of_each directly (each_row f (first + 1) many)) (from (first + 1) many place (omega (arith, less)) (subst (λ (r : ℕ). AnyOf (IsDirect take) (reads_of directly (f r))) next one))

mutual
  asked_reads : (n offset : ℕ) (given : GivenValues) (p : Plan) (row : ℕ) → HasNoShare p → Visits (IsWholeRead n) (Some given) p row → Reads (plan_derivation offset p row)
  asked_reads n offset given (no_plan head) row none v = absurd v
  asked_reads n offset given (concat_plan head children) row none (inl v) = absurd v
  asked_reads n offset given (concat_plan head children) row none (inr v) = asked_in n offset given children row (λ s. none (inr s)) v
  asked_reads n offset given (eval_plan head e child) row none (inl v) = absurd v
  asked_reads n offset given (eval_plan head e child) row none (inr v) = asked_reads n offset given child row (λ s. none (inr s)) v
  asked_reads n offset given (filter_plan head child) row none (inl v) = absurd v
  asked_reads n offset given (filter_plan head child) row none (inr v) = asked_reads n offset given child row (λ s. none (inr s)) v
  asked_reads n offset given (pack_plan head children validity) row none (inl v) = absurd v
  asked_reads n offset given (pack_plan head children validity) row none (inr (inl v)) =
      left_valid offset validity row (packed (plan_derivations offset children row)) (asked_fields n offset given children row (λ s. none (inr (inl s))) v)
  asked_reads n offset given (pack_plan head children all_valid) row none (inr (inr v)) = absurd v
  asked_reads n offset given (pack_plan head children (valid_as validity)) row none (inr (inr v)) =
      right_valid offset validity row (packed (plan_derivations offset children row)) (asked_reads n offset given validity row (λ s. none (inr (inr s))) v)
  asked_reads n offset given (take_plan head codes values) row none (inl v) = (head.number, inl (refl, refl))
  asked_reads n offset given (take_plan head codes values) row none (inr (inl v)) =
      let one : Reads (plan_derivation offset codes row) = asked_reads n offset given codes row (λ s. none (inr (inl s))) v in
      (one.0, inr (any_left (IsDirect one.0) (reads_of directly (plan_derivation offset codes row)) (reads_of_each (inside head.number directly) (each_row (plan_derivation offset values) 0 (plan_head values).rows)) one.1))
  asked_reads n offset given (take_plan head codes values) row none (inr (inr (lacks, (other, less, v)))) = absurd (none_inside (IsWholeRead n) (asks_outside n) values other v)
  asked_reads n offset given (share_plan head child) row none v = absurd (none (inl tt))
  asked_reads n offset given (list_plan head elements offsets validity) row none v = absurd v
  asked_reads n offset given (row_idx_plan head) row none v = absurd v
  asked_reads n offset given (scan_plan head segment coding) row none v = absurd v
  asked_reads n offset given (zoned_plan head zones content table) row none (inl v) = absurd v
  asked_reads n offset given (zoned_plan head zones content table) row none (inr v) = asked_reads n offset given content row (λ s. none (inr (inl s))) v
  asked_reads n offset given (pruning_plan head pruning table) row none (inl v) = absurd v
  asked_reads n offset given (pruning_plan head pruning table) row none (inr (other, less, v)) = rows_read (plan_derivation offset table) (plan_head table).rows other less (asked_reads n offset given table other (λ s. none (inr s)) v)

  asked_in : (n offset : ℕ) (given : GivenValues) (ps : Plans) (row : ℕ) → ¬ (StandsAmong IsSharePlan ps) → VisitsIn (IsWholeRead n) (Some given) ps row → Reads (plan_derivation_in offset ps row)
  asked_in n offset given no_plans row none v = absurd v
  asked_in n offset given (plan first rest) row none v =
      by_choice (nat_lt row (plan_head first).rows) (Visits (IsWholeRead n) (Some given) first row) (VisitsIn (IsWholeRead n) (Some given) rest (row - (plan_head first).rows)) (plan_derivation offset first row) (plan_derivation_in offset rest (row - (plan_head first).rows))
      (asked_reads n offset given first row (λ s. none (inl s))) (asked_in n offset given rest (row - (plan_head first).rows) (λ s. none (inr s))) v

  asked_fields : (n offset : ℕ) (given : GivenValues) (ps : Plans) (row : ℕ) → ¬ (StandsAmong IsSharePlan ps) → VisitsField (IsWholeRead n) (Some given) ps row → ReadsEach (plan_derivations offset ps row)
  asked_fields n offset given no_plans row none v = absurd v
  asked_fields n offset given (plan first rest) row none (inl v) =
      let one : Reads (plan_derivation offset first row) = asked_reads n offset given first row (λ s. none (inl s)) v in
      (one.0, any_left (IsDirect one.0) (reads_of directly (plan_derivation offset first row)) (reads_of_each directly (plan_derivations offset rest row)) one.1)
  asked_fields n offset given (plan first rest) row none (inr v) =
      let one : ReadsEach (plan_derivations offset rest row) = asked_fields n offset given rest row (λ s. none (inr s)) v in
      (one.0, any_right (IsDirect one.0) (reads_of directly (plan_derivation offset first row)) (reads_of_each directly (plan_derivations offset rest row)) one.1)

-- ---- rows of a scan

code_moved : (f : ℕ → ℕ) (take : ℕ) (found : Found) → IsCodeOf take found → IsCodeOf (f take) (found_renumbered f found)
code_moved f take (a_leaf_row at) is = is
code_moved f take (a_code code) is = ap f is
code_moved f take (a_list_row list row) is = is

reads_moved : (f : ℕ → ℕ) (take : ℕ) (reads : List Read) → AnyOf (IsDirect take) reads → AnyOf (IsDirect (f take)) (map (read_renumbered f) reads)
reads_moved f take [] any = any
reads_moved f take (read ∷ reads) (inl here) = inl (ap (way_renumbered f) here.0, code_moved f take read.found here.1)
reads_moved f take (read ∷ reads) (inr later) = inr (reads_moved f take reads later)

pub asks_reads : (scan : FileScan) (limit : ℕ) (plans : ScanPlans) → ArePlansOf scan limit plans → (chunk : SelectedRows) → LiesInside (row_count scan) chunk → AsksForWholes plans chunk → ReadsDictionary scan.projection (chosen_rows chunk)
asks_reads scan limit plans are chunk lies (n, (place, at, v)) =
    let q : Plan = projection_plan plans in
    let row : ℕ = chunk.scope.rows.start + place in
    let one : Reads (plan_derivation scan.projection.offset q row) = asked_reads n scan.projection.offset (given_for plans.table []) q row (none_shared scan.projection q are.plan_is) v in
    let there : AnyOf (IsDirect (node_of scan.projection one.0)) (scan_reads scan.projection row) =
    subst (AnyOf (IsDirect (node_of scan.projection one.0))) (are.plan.reads row) (reads_moved (node_of scan.projection) one.0 (plan_reads scan.projection.offset q row) one.1) in
    some_chosen (λ (r : ℕ). (dictionary : ℕ) × FindsBy directly (IsCodeOf dictionary) (scan_reads scan.projection r)) (row_count scan) chunk lies (place, at, (node_of scan.projection one.0, there))

-- and so does the piece of a chunk that asks for whole values
pub asking_reads : (scan : FileScan) (limit : ℕ) (plans : ScanPlans) → ArePlansOf scan limit plans → (chunks : List SelectedRows) → AllByRecursion (LiesInside (row_count scan)) chunks → (x : ℕ) → IsAsking plans chunks x → IsSomeAnd (slice_get (map chosen_rows chunks) x) (ReadsDictionary scan.projection)
asking_reads scan limit plans are [] inside x asks = absurd asks
asking_reads scan limit plans are (chunk ∷ chunks) inside zero asks = asks_reads scan limit plans are chunk inside.0 asks.0
asking_reads scan limit plans are (chunk ∷ chunks) inside (suc x) asks = asking_reads scan limit plans are chunks inside.1 x asks
