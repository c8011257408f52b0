-- What the rows of a chunk read of the scan's plan, they read of its tree.
use Rattle.std.proofs.Common.{◌≡◌, ℕ, zero, suc, ◌+◌, inl, inr, Bool, true, false, List, [], ◌∷◌, Option, Some, length, map, refl, sym, ap, ◌∙◌, subst, arith}
use Rattle.std.specs.Prelude.{IsSomeAnd}
use Rattle.std.specs.List.{slice_get, range_with_len}
use Rattle.vx_base.specs.Data.{Datum}
use Rattle.vx_base.specs.Masks.{chosen}
use Rattle.vx_rows.specs.Derivations.{Leaves}
use Rattle.vx_rows.specs.Reads.{Found, a_leaf_row, a_code, a_list_row, Read, AnyOf, Finds, IsIn, IsPlaceAmong}
use Rattle.vx_rows.specs.Renumbered.{found_renumbered, read_renumbered}
use Rattle.vx_rows.specs.SegmentLeaves.{Bytes}
use Rattle.vx_rows.proofs.Renumbering.{same_worth}
use Rattle.vx_splits.specs.declared.selected_rows.SelectedRows.{SelectedRows}
use Rattle.vx_splits.specs.Trimmed.{chosen_rows}
use Rattle.vx_lower.specs.Projected.{Projection, scan_reads}
use Rattle.vx_plan.specs.Plans.{Plan}
use Rattle.vx_plan.specs.PlanRows.{plan_reads}
use Rattle.vx_steps.specs.Laws.{IsRowOf, IsBadCodeAt}
use Rattle.vx_steps.specs.Rows.{rows_of, SomeRow}
use Rattle.vx_steps.specs.ScanLaws.{IsTornIn}
use Rattle.vx_scan.specs.Causes.{ScanFinds}
use Rattle.vx_scan.specs.FilePlans.{node_of, IsPlanOf, LiesInside}

-- ---- the rows of a chunk

rows_chosen : (bits : List Bool) (start : ℕ) → rows_of start bits ≡ chosen bits (range_with_len start (length bits))
rows_chosen [] start = refl
rows_chosen (true ∷ bits) start = ap (λ (rows : List ℕ). start ∷ rows) (rows_chosen bits (start + 1))
rows_chosen (false ∷ bits) start = rows_chosen bits (start + 1)

pub chunk_rows : (count : ℕ) (chunk : SelectedRows) → LiesInside count chunk → rows_of chunk.scope.rows.start chunk.mask ≡ chosen_rows chunk
chunk_rows count chunk inside =
    rows_chosen chunk.mask chunk.scope.rows.start
    ∙ ap (λ (n : ℕ). chosen chunk.mask (range_with_len chunk.scope.rows.start n)) inside.mask

some_among : (P : ℕ → Type 0) (bits : List Bool) (start place : ℕ) → slice_get bits place ≡ Some true → P (start + place) → AnyOf P (rows_of start bits)
some_among P [] start place at is = absurd cc
some_among P (true ∷ bits) start zero at is = inl (subst P (omega arith) is)
some_among P (false ∷ bits) start zero at is = absurd cc
some_among P (true ∷ bits) start (suc place) at is = inr (some_among P bits (start + 1) place at (subst P (omega arith) is))
some_among P (false ∷ bits) start (suc place) at is = some_among P bits (start + 1) place at (subst P (omega arith) is)

-- what holds of some selected row of a chunk holds of some row of it
pub some_chosen : (P : ℕ → Type 0) (count : ℕ) (chunk : SelectedRows) → LiesInside count chunk → SomeRow P chunk.scope.rows.start chunk.mask → AnyOf P (chosen_rows chunk)
some_chosen P count chunk inside some = subst (AnyOf P) (chunk_rows count chunk inside) (some_among P chunk.mask chunk.scope.rows.start some.0 some.1 some.2)

any_weaker : {X : Type 0} (P Q : X → Type 0) → ((x : X) → P x → Q x) → (xs : List X) → AnyOf P xs → AnyOf Q xs
any_weaker P Q f [] any = any
any_weaker P Q f (x ∷ xs) (inl here) = inl (f x here)
any_weaker P Q f (x ∷ xs) (inr later) = inr (any_weaker P Q f xs later)

-- ---- other numbers

finds_moved : (f : ℕ → ℕ) (P Q : Found → Type 0) → ((found : Found) → P found → Q (found_renumbered f found)) → (reads : List Read) → Finds P reads → Finds Q (map (read_renumbered f) reads)
finds_moved f P Q moved [] any = any
finds_moved f P Q moved (read ∷ reads) (inl here) = inl (moved read.found here)
finds_moved f P Q moved (read ∷ reads) (inr later) = inr (finds_moved f P Q moved reads later)

-- what a row of the plan finds, a row of the scan finds by the tree's numbers
pub plan_finds : (p : Projection) (q : Plan) → IsPlanOf p q → (P Q : Found → Type 0) → ((found : Found) → P found → Q (found_renumbered (node_of p) found)) → (row : ℕ) → Finds P (plan_reads p.offset q row) → Finds Q (scan_reads p row)
plan_finds p q is P Q moved row any = subst (Finds Q) (is.reads row) (finds_moved (node_of p) P Q moved (plan_reads p.offset q row) any)

pub chunk_finds : (p : Projection) (q : Plan) → IsPlanOf p q → (P Q : Found → Type 0) → ((found : Found) → P found → Q (found_renumbered (node_of p) found)) → (count : ℕ) (chunk : SelectedRows) → LiesInside count chunk → SomeRow (λ row. Finds P (plan_reads p.offset q row)) chunk.scope.rows.start chunk.mask → ScanFinds Q p (chosen_rows chunk)
chunk_finds p q is P Q moved count chunk inside some =
    any_weaker (λ (row : ℕ). Finds P (plan_reads p.offset q row)) (λ (row : ℕ). Finds Q (scan_reads p row)) (plan_finds p q is P Q moved) (chosen_rows chunk)
    (some_chosen (λ (row : ℕ). Finds P (plan_reads p.offset q row)) count chunk inside some)

pub in_moved : (f : ℕ → ℕ) (segment : ℕ) (found : Found) → IsIn segment found → IsIn segment (found_renumbered f found)
in_moved f segment (a_leaf_row at) is = is
in_moved f segment (a_code at) is = is
in_moved f segment (a_list_row list row) is = is

pub torn_moved : (f : ℕ → ℕ) (bytes : Bytes) (segment : ℕ) (found : Found) → IsTornIn bytes segment found → IsTornIn bytes segment (found_renumbered f found)
torn_moved f bytes segment (a_leaf_row at) is = is
torn_moved f bytes segment (a_code at) is = is
torn_moved f bytes segment (a_list_row list row) is = is

pub row_moved : (f : ℕ → ℕ) (number : ℕ) (found : Found) → IsRowOf number found → IsRowOf (f number) (found_renumbered f found)
row_moved f number (a_leaf_row at) is = is
row_moved f number (a_code at) is = is
row_moved f number (a_list_row list row) is = ap f is

pub code_moved : (f : ℕ → ℕ) (leaves : Leaves) (number at : ℕ) (found : Found) → IsBadCodeAt leaves number at found → IsBadCodeAt leaves (f number) at (found_renumbered f found)
code_moved f leaves number at (a_leaf_row leaf) is = is
code_moved f leaves number at (a_code code) is =
    (ap f is.0, is.1, subst (λ (v : Option Datum). IsSomeAnd v (λ worth. ¬ (IsPlaceAmong code.count worth))) (sym (same_worth leaves f code.code)) is.2)
code_moved f leaves number at (a_list_row list row) is = is
