-- Rows of a scan that nothing hinders in its plan are hindered by nothing in its tree.
use Rattle.std.proofs.Common.{ℕ, zero, suc, ◌+◌, ◌<◌, inl, inr, Bool, true, false, List, [], ◌∷◌, length, map, take, refl, sym, ap, subst, arith}
use Rattle.std.specs.Prelude.{IsSomeAnd}
use Rattle.std.specs.List.{slice_get, AllByRecursion}
use Rattle.vx_rows.specs.Reads.{Found, a_leaf_row, a_code, a_list_row, Read, AnyOf, Finds, IsIn}
use Rattle.vx_rows.specs.Renumbered.{found_renumbered, read_renumbered}
use Rattle.vx_lower.specs.Projected.{scan_reads}
use Rattle.vx_plan.specs.PlanRows.{plan_reads}
use Rattle.vx_splits.specs.declared.selected_rows.SelectedRows.{SelectedRows}
use Rattle.vx_splits.specs.Trimmed.{chosen_rows}
use Rattle.vx_steps.specs.Laws.{IsRowOf}
use Rattle.vx_steps.specs.Rows.{rows_of, SomeRow}
use Rattle.vx_drive.specs.declared.plans.ScanPlans.{ScanPlans}
use Rattle.vx_drive.specs.Plans.{projection_plan}
use Rattle.vx_chunks.specs.ChunkRows.{ChunkReaches}
use Rattle.vx_chunks.proofs.NothingGiven.{free_reads}
use Rattle.vx_workers.specs.Unhindered.{IsUnhindered}
use Rattle.vx_scan.specs.Answer.{FileScan, row_count}
use Rattle.vx_scan.specs.Causes.{ReadsList, ScanReaches}
use Rattle.vx_scan.specs.FilePlans.{node_of, ArePlansOf, LiesInside}
use Rattle.vx_scan.specs.Scanned.{AreUnhindered}
use Rattle.vx_scan.proofs.ScanReads.{chunk_rows}

-- ---- the rows of a chunk

-- what holds of some of them holds of some row that is selected
among_some : (P : ℕ → Type 0) (bits : List Bool) (start : ℕ) → AnyOf P (rows_of start bits) → SomeRow P start bits
among_some P [] start any = absurd any
among_some P (true ∷ bits) start (inl here) = (0, refl, subst P (omega arith) here)
among_some P (true ∷ bits) start (inr later) = let rest = among_some P bits (start + 1) later in (suc rest.0, rest.1, subst P (omega arith) rest.2)
among_some P (false ∷ bits) start any = let rest = among_some P bits (start + 1) any in (suc rest.0, rest.1, subst P (omega arith) rest.2)

chosen_some : (P : ℕ → Type 0) (count : ℕ) (chunk : SelectedRows) → LiesInside count chunk → AnyOf P (chosen_rows chunk) → SomeRow P chunk.scope.rows.start chunk.mask
chosen_some P count chunk inside any = among_some P chunk.mask chunk.scope.rows.start (subst (AnyOf P) (sym (chunk_rows count chunk inside)) any)

-- ---- other numbers

in_before : (f : ℕ → ℕ) (segment : ℕ) (found : Found) → IsIn segment (found_renumbered f found) → IsIn segment found
in_before f segment (a_leaf_row at) is = is
in_before f segment (a_code at) is = is
in_before f segment (a_list_row list row) is = is

finds_before : (f : ℕ → ℕ) (segment : ℕ) (reads : List Read) → Finds (IsIn segment) (map (read_renumbered f) reads) → Finds (IsIn segment) reads
finds_before f segment [] any = any
finds_before f segment (read ∷ reads) (inl here) = inl (in_before f segment read.found here)
finds_before f segment (read ∷ reads) (inr later) = inr (finds_before f segment reads later)

-- the number that the list has in the plan
list_before : (f : ℕ → ℕ) (number : ℕ) (found : Found) → IsRowOf number (found_renumbered f found) → (n : ℕ) × IsRowOf n found
list_before f number (a_leaf_row at) is = absurd is
list_before f number (a_code at) is = absurd is
list_before f number (a_list_row list row) is = (list, refl)

lists_before : (f : ℕ → ℕ) (number : ℕ) (reads : List Read) → Finds (IsRowOf number) (map (read_renumbered f) reads) → (n : ℕ) × Finds (IsRowOf n) reads
lists_before f number [] any = absurd any
lists_before f number (read ∷ reads) (inl here) = let one = list_before f number read.found here in (one.0, inl one.1)
lists_before f number (read ∷ reads) (inr later) = let one = lists_before f number reads later in (one.0, inr one.1)

-- ---- a piece

module _ (scan : FileScan) (limit : ℕ) (plans : ScanPlans) (are : ArePlansOf scan limit plans) where
  reaches_before : (chunk : SelectedRows) → LiesInside (row_count scan) chunk → (segment : ℕ) → ScanReaches scan.projection (chosen_rows chunk) segment → ChunkReaches plans chunk segment
  reaches_before chunk inside segment any =
      let some : SomeRow (λ row. Finds (IsIn segment) (scan_reads scan.projection row)) chunk.scope.rows.start chunk.mask = chosen_some (λ row. Finds (IsIn segment) (scan_reads scan.projection row)) (row_count scan) chunk inside any in
      let row : ℕ = chunk.scope.rows.start + some.0 in
      let there : Finds (IsIn segment) (plan_reads scan.projection.offset (projection_plan plans) row) =
      finds_before (node_of scan.projection) segment (plan_reads scan.projection.offset (projection_plan plans) row) (subst (Finds (IsIn segment)) (sym (are.plan.reads row)) some.2) in
      (some.0, some.1, free_reads (IsIn segment) plans plans.row_offset (projection_plan plans) row (subst (λ (offset : ℕ). Finds (IsIn segment) (plan_reads offset (projection_plan plans) row)) (sym are.offset) there))

  no_list_before : (chunk : SelectedRows) → LiesInside (row_count scan) chunk → IsUnhindered plans chunk → (list : ℕ) → ReadsList scan.projection (chosen_rows chunk) list → ⊥
  no_list_before chunk inside free list any =
      let some : SomeRow (λ row. Finds (IsRowOf list) (scan_reads scan.projection row)) chunk.scope.rows.start chunk.mask = chosen_some (λ row. Finds (IsRowOf list) (scan_reads scan.projection row)) (row_count scan) chunk inside any in
      let row : ℕ = chunk.scope.rows.start + some.0 in
      let one : (n : ℕ) × Finds (IsRowOf n) (plan_reads scan.projection.offset (projection_plan plans) row) =
      lists_before (node_of scan.projection) list (plan_reads scan.projection.offset (projection_plan plans) row) (subst (Finds (IsRowOf list)) (sym (are.plan.reads row)) some.2) in
      free.no_list one.0 (some.0, some.1, free_reads (IsRowOf one.0) plans plans.row_offset (projection_plan plans) row (subst (λ (offset : ℕ). Finds (IsRowOf one.0) (plan_reads offset (projection_plan plans) row)) (sym are.offset) one.1))

  piece_unhindered : (chunk : SelectedRows) → LiesInside (row_count scan) chunk → IsUnhindered plans chunk → AreUnhindered scan (chosen_rows chunk)
  piece_unhindered chunk inside free = record {
    no_list = no_list_before chunk inside free;
    located = λ segment any. subst (λ (count : ℕ). segment < count) (ap length are.locations) (free.located segment (reaches_before chunk inside segment any));
  }

  pub all_unhindered : (chunks : List SelectedRows) → AllByRecursion (LiesInside (row_count scan)) chunks → AllByRecursion (IsUnhindered plans) chunks → AllByRecursion (AreUnhindered scan) (map chosen_rows chunks)
  all_unhindered [] inside free = tt
  all_unhindered (chunk ∷ chunks) inside free = (piece_unhindered chunk inside.0 free.0, all_unhindered chunks inside.1 free.1)

  pub first_unhindered : (chunks : List SelectedRows) → AllByRecursion (LiesInside (row_count scan)) chunks → (k : ℕ) → AllByRecursion (IsUnhindered plans) (take k chunks) → AllByRecursion (AreUnhindered scan) (take k (map chosen_rows chunks))
  first_unhindered chunks inside zero free = tt
  first_unhindered [] inside (suc k) free = tt
  first_unhindered (chunk ∷ chunks) inside (suc k) free = (piece_unhindered chunk inside.0 free.0, first_unhindered chunks inside.1 k free.1)

  pub unhindered_there : (chunks : List SelectedRows) → AllByRecursion (LiesInside (row_count scan)) chunks → (x : ℕ) → IsSomeAnd (slice_get chunks x) (IsUnhindered plans) → IsSomeAnd (slice_get (map chosen_rows chunks) x) (AreUnhindered scan)
  unhindered_there [] inside x free = absurd free
  unhindered_there (chunk ∷ chunks) inside zero free = piece_unhindered chunk inside.0 free
  unhindered_there (chunk ∷ chunks) inside (suc x) free = unhindered_there chunks inside.1 x free
