-- What selected rows read of leaves and lists with values in place of whole ones, they read with none.
use Rattle.std.proofs.Common.{ℕ, ◌+◌, inr, ⊎_elim, List, [], ◌++◌, Option, Some, None}
use Rattle.std.specs.List.{slice_get}
use Rattle.vx_rows.specs.Derivations.{Derivation, nothing, of_leaf, list_row, given, packed, valid_where, looked_up, worked_out, read_whole, concluded, Derivations, no_more, also}
use Rattle.vx_rows.specs.Given.{GivenValues, values_with, share_with, with_given, each_with_given}
use Rattle.vx_rows.specs.Reads.{Way, directly, inside, CodeRow, code_row, Found, a_code, Read, reads_of, reads_of_each, Finds, IsIn}
use Rattle.vx_rows.proofs.ReadRows.{any_either, any_left, any_right}
use Rattle.vx_rows.specs.SegmentLeaves.{Bytes}
use Rattle.vx_plan.specs.Plans.{Plan}
use Rattle.vx_plan.specs.PlanRows.{plan_derivation}
use Rattle.vx_steps.specs.Given.{given_for}
use Rattle.vx_steps.specs.KeptData.{Kept}
use Rattle.vx_steps.specs.Laws.{IsRowOf}
use Rattle.vx_steps.specs.ScanLaws.{IsTornIn}
use Rattle.vx_steps.proofs.ReadVisits.{nothing_in, nothing_at}
use Rattle.vx_splits.specs.declared.selected_rows.SelectedRows.{SelectedRows}
use Rattle.vx_drive.specs.declared.plans.ScanPlans.{ScanPlans}
use Rattle.vx_drive.specs.Plans.{projection_plan}
use Rattle.vx_chunks.specs.ChunkRows.{ChunkFinds, ChunkReadsList, ChunkReadsSegment, ChunkReadsTorn}
use Rattle.vx_chunks.proofs.NothingGiven.{free_reads}
use Rattle.vx_base.specs.Data.{Datum}

-- ---- of a row

-- no code is so
abbrev pub NoCode : (Found → Type 0) → Type 0
NoCode P = (code : CodeRow) → P (a_code code) → ⊥

pub values_read : (P : Found → Type 0) (way : Way) (values : Derivations) (handed : Option (List Datum)) → Finds P (reads_of_each way (values_with handed values)) → Finds P (reads_of_each way values)
values_read P way values None any = any
values_read P way values (Some vs) any = absurd (nothing_in P way vs any)

pub share_read : (P : Found → Type 0) (way : Way) (row : ℕ) (d : Derivation) (handed : Option (List Datum)) → Finds P (reads_of way (share_with handed row d)) → Finds P (reads_of way d)
share_read P way row d None any = any
share_read P way row d (Some vs) any = absurd (nothing_at P way (slice_get vs row) any)

-- in two lists, each of which reads no more
pub no_more_in : (P : Found → Type 0) (xs ys us vs : List Read) → (Finds P xs → Finds P us) → (Finds P ys → Finds P vs) → Finds P (xs ++ ys) → Finds P (us ++ vs)
no_more_in P xs ys us vs f g any =
    ⊎_elim (λ (left : Finds P xs). any_left (λ (read : Read). P read.found) us vs (f left)) (λ (right : Finds P ys). any_right (λ (read : Read). P read.found) us vs (g right)) (any_either (λ (read : Read). P read.found) xs ys any)

mutual
  fewer : (P : Found → Type 0) → NoCode P → (handed : GivenValues) (d : Derivation) (way : Way) → Finds P (reads_of way (with_given handed d)) → Finds P (reads_of way d)
  fewer P out handed nothing way any = any
  fewer P out handed (of_leaf here) way any = any
  fewer P out handed (list_row list row) way any = any
  fewer P out handed (given v) way any = any
  fewer P out handed (packed ds) way any = fewer_each P out handed ds way any
  fewer P out handed (valid_where d validity) way any =
      no_more_in P (reads_of way (with_given handed d)) (reads_of way (with_given handed validity)) (reads_of way d) (reads_of way validity)
      (fewer P out handed d way) (fewer P out handed validity way) any
  fewer P out handed (looked_up dictionary row code values) way any =
      ⊎_elim (λ (here : P (a_code (code_row dictionary row (with_given handed code) (values_with (handed dictionary) values)))). absurd (out (code_row dictionary row (with_given handed code) (values_with (handed dictionary) values)) here))
      (λ (rest : Finds P (reads_of way (with_given handed code) ++ reads_of_each (inside dictionary way) (values_with (handed dictionary) values))).
      inr (no_more_in P (reads_of way (with_given handed code)) (reads_of_each (inside dictionary way) (values_with (handed dictionary) values)) (reads_of way code) (reads_of_each (inside dictionary way) values)
      (fewer P out handed code way) (values_read P (inside dictionary way) values (handed dictionary)) rest)) any
  fewer P out handed (worked_out t e d) way any = fewer P out handed d way any
  fewer P out handed (concluded rule ds) way any = fewer_each P out handed ds way any
  fewer P out handed (read_whole share row d ds) way any = share_read P way row (read_whole share row d ds) (handed share) any

  fewer_each : (P : Found → Type 0) → NoCode P → (handed : GivenValues) (ds : Derivations) (way : Way) → Finds P (reads_of_each way (each_with_given handed ds)) → Finds P (reads_of_each way ds)
  fewer_each P out handed no_more way any = any
  fewer_each P out handed (also d ds) way any =
      no_more_in P (reads_of way (with_given handed d)) (reads_of_each way (each_with_given handed ds)) (reads_of way d) (reads_of_each way ds)
      (fewer P out handed d way) (fewer_each P out handed ds way) any

-- ---- of a chunk

pub finds_free : (P : Found → Type 0) → NoCode P → (plans : ScanPlans) (borrowed : List Kept) (chunk : SelectedRows) → ChunkFinds P plans borrowed chunk → ChunkFinds P plans [] chunk
finds_free P out plans borrowed chunk (place, at, any) =
    let p : Plan = projection_plan plans in
    let row : ℕ = chunk.scope.rows.start + place in
    (place, at, free_reads P plans plans.row_offset p row (fewer P out (given_for plans.table borrowed) (plan_derivation plans.row_offset p row) directly any))

pub list_free : (plans : ScanPlans) (borrowed : List Kept) (chunk : SelectedRows) (list : ℕ) → ChunkReadsList plans borrowed chunk list → ChunkReadsList plans [] chunk list
list_free plans borrowed chunk list = finds_free (IsRowOf list) (λ code is. is) plans borrowed chunk

pub segment_free : (plans : ScanPlans) (borrowed : List Kept) (chunk : SelectedRows) (segment : ℕ) → ChunkReadsSegment plans borrowed chunk segment → ChunkReadsSegment plans [] chunk segment
segment_free plans borrowed chunk segment = finds_free (IsIn segment) (λ code is. is) plans borrowed chunk

pub torn_free : (bytes : Bytes) (plans : ScanPlans) (borrowed : List Kept) (chunk : SelectedRows) (segment : ℕ) → ChunkReadsTorn bytes plans borrowed chunk segment → ChunkReadsTorn bytes plans [] chunk segment
torn_free bytes plans borrowed chunk segment = finds_free (IsTornIn bytes segment) (λ code is. is) plans borrowed chunk
