-- From the batches of chunks to the answer of the scan.
use Rattle.std.proofs.Common.{◌≡◌, ◌≢◌, ℕ, Bool, ◌⊎◌, inl, inr, List, [], ◌∷◌, Result, Ok, Err, Vec, Global, length, map, refl, sym, ap, ◌∙◌, subst, arith}
use Rattle.std.specs.Prelude.{nat_lt}
use Rattle.std.specs.Result.{IsErrAnd}
use Rattle.std.specs.List.{AllByRecursion}
use Rattle.std.proofs.lemmas.List.{length-map}
use Rattle.vx_base.specs.Columns.{ColumnData}
use Rattle.vx_base.specs.Masks.{true_count}
use Rattle.vx_base.specs.Sources.{SourceState}
use Rattle.vx_plan.specs.Refs.{number_of}
use Rattle.vx_plan.proofs.Adding.{head_in_table}
use Rattle.vx_layout.specs.Rows.{file_leaves}
use Rattle.vx_rows.specs.SegmentLeaves.{Bytes, leaves_of}
use Rattle.vx_rows.specs.Heads.{Head}
use Rattle.vx_splits.specs.declared.selected_rows.SelectedRows.{SelectedRows}
use Rattle.vx_splits.specs.Trimmed.{chosen_rows}
use Rattle.vx_steps.proofs.SelectedRows.{rows_count}
use Rattle.vx_drive.specs.declared.errors.ScanError.{ScanError}
use Rattle.vx_drive.specs.declared.errors.ScanError.TheVariants.{Memory}
use Rattle.vx_drive.specs.declared.plans.ScanPlans.{ScanPlans}
use Rattle.vx_drive.specs.Asks.{KeepsFaults}
use Rattle.vx_drive.specs.Fetched.{AreDistinct}
use Rattle.vx_drive.specs.Plans.{bytes_of, projection_node, IsQuiet}
use Rattle.vx_drive.proofs.Distinct.{distinct_none, pairs_none}
use Rattle.vx_drive.proofs.Sessions.{asked_nothing}
use Rattle.vx_chunks.specs.Lent.{EachSource, AllTell}
use Rattle.vx_chunks.proofs.LentSources.{each_clear, each_lasts, each_same, each_same_by, first_same, for_each, joined_none}
use Rattle.vx_workers.specs.Reasons.{Reason, chunk_and_segment, AreOfOneLeafOnlyBehind}
use Rattle.vx_scan.specs.declared.prepared_scans.Prepared.{Prepared}
use Rattle.vx_scan.specs.Answer.{FileScan, row_count, scan_rows, scan_pieces, ArePieces}
use Rattle.vx_scan.specs.Batches.{LowestFailure, GivesBatches}
use Rattle.vx_scan.specs.Admission.{Refuses}
use Rattle.vx_scan.specs.Prepared.{IsPreparedFor}
use Rattle.vx_scan.specs.FilePlans.{ArePlansOf, AreChunksOf, LiesInside}
use Rattle.vx_scan.specs.Scanned.{AreUnhindered, Gains, GainsAgain, GainsOver, LowestCause, AnswersScan}
use Rattle.vx_scan.specs.Valid.{HasRows, IsValidScan}
use Rattle.vx_scan.proofs.AdmittedRows.{no_pieces}
use Rattle.vx_scan.proofs.GivenBatches.{is_memory}
use Rattle.vx_scan.proofs.HinderedScans.{all_unhindered}
use Rattle.vx_scan.proofs.LowestCauses.{lowest_of}
use Rattle.vx_scan.proofs.ScanAsks.{gains_over}
use Rattle.vx_scan.proofs.ScanCauses.{pieces_answer, same_bytes}
use Rattle.vx_scan.proofs.ScanReads.{chunk_rows}
use Rattle.vx_scan.proofs.ScanValid.{valid_begins, valid_memory}

projection_dtype : (scan : FileScan) (limit : ℕ) (plans : ScanPlans) → ArePlansOf scan limit plans → (projection_node plans).dtype ≡ scan.projection.expression.dtype
projection_dtype scan limit plans are = sym (ap (λ (head : Head). head.dtype) (head_in_table plans.table are.good (number_of plans.projection) are.known)) ∙ are.plan.dtype

each_dtype : (t u : _) → t ≡ u → (batches : List ColumnData) → AllByRecursion (λ (batch : ColumnData). batch.dtype ≡ t) batches → AllByRecursion (λ (batch : ColumnData). batch.dtype ≡ u) batches
each_dtype t u same [] each = tt
each_dtype t u same (batch ∷ batches) each = (each.0 ∙ same, each_dtype t u same batches each.1)

-- as many rows are chosen as are true
chosen_counts : (count : ℕ) (chunks : List SelectedRows) → AllByRecursion (LiesInside count) chunks → map (λ (chunk : SelectedRows). true_count chunk.mask) chunks ≡ map (λ (rows : List ℕ). length rows) (map chosen_rows chunks)
chosen_counts count [] inside = refl
chosen_counts count (chunk ∷ chunks) inside =
    let one = sym (rows_count chunk.scope.rows.start chunk.mask) ∙ ap length (chunk_rows count chunk inside.0) in
    let rest = chosen_counts count chunks inside.1 in
    (λ k. one k ∷ rest k)

lowest_or : (scan : FileScan) (limit : ℕ) (plans : ScanPlans) → ArePlansOf scan limit plans → (chunks : List SelectedRows) → AreChunksOf scan chunks → (error : ScanError) (befores afters : List SourceState) → (error ≡ Memory) ⊎ LowestFailure plans chunks error befores afters → (error ≡ Memory) ⊎ (Refuses scan error ⊎ LowestCause scan limit error befores afters)
lowest_or scan limit plans are chunks of_scan error befores afters (inl memory) = inl memory
lowest_or scan limit plans are chunks of_scan error befores afters (inr lowest) = by_memory (is_memory error)
  where
    by_memory : (error ≡ Memory) ⊎ (error ≢ Memory) → (error ≡ Memory) ⊎ (Refuses scan error ⊎ LowestCause scan limit error befores afters)
    by_memory (inl memory) = inl memory
    by_memory (inr other) = inr (inr (lowest_of scan limit plans are chunks of_scan error other befores afters lowest))

memory_or : (scan : FileScan) (limit : ℕ) (error : ScanError) (befores afters : List SourceState) → (error ≡ Memory) ⊎ (Refuses scan error ⊎ LowestCause scan limit error befores afters) → (file : List ℕ) → AllTell file befores → IsValidScan (file_leaves file scan.locations) scan → EachSource (IsQuiet limit) befores afters → error ≡ Memory
memory_or scan limit error befores afters (inl memory) file told valid quiet = memory
memory_or scan limit error befores afters (inr (inl refuses)) file told valid quiet = absurd (valid_begins (file_leaves file scan.locations) scan error valid refuses)
memory_or scan limit error befores afters (inr (inr lowest)) file told valid quiet = valid_memory scan limit error befores afters lowest file told valid quiet

pub answers_scan : (scan : FileScan) (limit : ℕ) (plans : ScanPlans) → ArePlansOf scan limit plans → (chunks : List SelectedRows) → AreChunksOf scan chunks → (result : Result (Vec ColumnData Global) ScanError) (befores afters : List SourceState) → GivesBatches plans chunks result befores afters → AnswersScan scan limit result befores afters
answers_scan scan limit plans are chunks of_scan (Ok batches) befores afters gives = record {
  content = λ file told.
      subst (λ (pieces : List (List ℕ)). ArePieces (file_leaves file scan.locations) scan.projection pieces (map (λ (batch : ColumnData). batch.values) batches.items)) of_scan.pieces
      (subst (λ (bytes : Bytes). ArePieces (leaves_of bytes) scan.projection (map chosen_rows chunks) (map (λ (batch : ColumnData). batch.values) batches.items)) (same_bytes scan limit plans are file)
      (pieces_answer scan limit plans are (bytes_of plans file) chunks of_scan.inside batches.items (gives.content file told)));
  count = gives.count ∙ (sym (length-map chunks chosen_rows) ∙ ap length of_scan.pieces);
  dtype = each_dtype (projection_node plans).dtype scan.projection.expression.dtype (projection_dtype scan limit plans are) batches.items gives.dtype;
  rows = gives.rows ∙ (chosen_counts (row_count scan) chunks of_scan.inside ∙ ap (map (λ (rows : List ℕ). length rows)) of_scan.pieces);
  unhindered = subst (AllByRecursion (AreUnhindered scan)) of_scan.pieces (all_unhindered scan limit plans are chunks of_scan.inside gives.unhindered);
  faults = gives.faults;
  asks = gains_over scan limit plans are chunks of_scan befores afters gives.asks;
  cause = tt;
  complete = tt;
  lasts = gives.lasts;
  in_flight = gives.in_flight;
}
answers_scan scan limit plans are chunks of_scan (Err error) befores afters gives =
    let cause : (error ≡ Memory) ⊎ (Refuses scan error ⊎ LowestCause scan limit error befores afters) = lowest_or scan limit plans are chunks of_scan error befores afters gives.cause in
    record {
      content = tt;
      count = tt;
      dtype = tt;
      rows = tt;
      unhindered = tt;
      faults = tt;
      asks = gains_over scan limit plans are chunks of_scan befores afters gives.asks;
      cause = cause;
      complete = memory_or scan limit error befores afters cause;
      lasts = gives.lasts;
      in_flight = gives.in_flight;
    }

-- what the workers give of a scan that is prepared
pub run_answers : (scan : FileScan) (limit : ℕ) (ordered : Bool) (prepared : Prepared) → IsPreparedFor scan limit ordered prepared → HasRows scan.range (row_count scan) → (result : Result (Vec ColumnData Global) ScanError) (befores afters : List SourceState)
    → GivesBatches prepared.plans prepared.chunks.items result befores afters → AnswersScan scan limit result befores afters
run_answers scan limit ordered prepared is some result befores afters gives = answers_scan scan limit prepared.plans (is.plan some) prepared.chunks.items (is.inside some) result befores afters gives

-- ---- nothing was asked

gains_none : (shares : Bool) (scan : FileScan) (source : SourceState) → Gains shares scan [] source source
gains_none shares scan source = record {
  ranges = [];
  gained = sym (asked_nothing source.asked);
  reached = tt;
  are_reasons = tt;
  faulted = [];
  faulted_are = tt;
  once_a_leaf = pairs_none (AreOfOneLeafOnlyBehind []);
  once_a_dictionary = distinct_none;
}

none_again : (scan : FileScan) (source : SourceState) → GainsAgain scan [] source source
none_again scan source = record {
  reasons = [];
  ranges = [];
  gained = sym (asked_nothing source.asked);
  reached = tt;
  are_reasons = tt;
  direct = tt;
  once_a_chunk = distinct_none;
  once_a_dictionary = distinct_none;
}

pub none_gain : (scan : FileScan) (sources : List SourceState) → GainsOver scan sources sources
none_gain scan sources = record {
  reasons = for_each [] sources;
  middles = sources;
  each = each_same_by (Gains (nat_lt 1 (length sources)) scan) [] (gains_none (nat_lt 1 (length sources)) scan) sources;
  once_a_chunk = subst (λ (reasons : List Reason). AreDistinct (map chunk_and_segment reasons)) (sym (joined_none (λ (own : List Reason). own) [] refl sources)) distinct_none;
  reruns = [];
  reruns_once = λ x. omega arith;
  again = first_same (GainsAgain scan []) (none_again scan) sources;
  alone = λ one. (refl, refl);
}

pub memory_answers : (scan : FileScan) (limit : ℕ) (error : ScanError) (sources : List SourceState) → error ≡ Memory → AnswersScan scan limit (Err error) sources sources
memory_answers scan limit error sources is = record {
  content = tt;
  count = tt;
  dtype = tt;
  rows = tt;
  unhindered = tt;
  faults = tt;
  asks = none_gain scan sources;
  cause = inl is;
  complete = λ file told valid quiet. is;
  lasts = each_lasts sources;
  in_flight = each_clear sources;
}

pub lacking_answers : (scan : FileScan) (limit : ℕ) (result : Result (Vec ColumnData Global) ScanError) (sources : List SourceState) → IsErrAnd result (λ error. error ≡ Memory) → AnswersScan scan limit result sources sources
lacking_answers scan limit (Ok batches) sources lacking = absurd lacking
lacking_answers scan limit (Err error) sources lacking = memory_answers scan limit error sources lacking

pub refused_answers : (scan : FileScan) (limit : ℕ) (error : ScanError) (sources : List SourceState) → Refuses scan error → AnswersScan scan limit (Err error) sources sources
refused_answers scan limit error sources refuses = record {
  content = tt;
  count = tt;
  dtype = tt;
  rows = tt;
  unhindered = tt;
  faults = tt;
  asks = none_gain scan sources;
  cause = inr (inl refuses);
  complete = λ file told valid quiet. absurd (valid_begins (file_leaves file scan.locations) scan error valid refuses);
  lasts = each_lasts sources;
  in_flight = each_clear sources;
}

pub empty_answers : (scan : FileScan) (limit : ℕ) (batches : Vec ColumnData Global) (sources : List SourceState) → scan_rows scan ≡ [] → batches.items ≡ [] → AnswersScan scan limit (Ok batches) sources sources
empty_answers scan limit batches sources none empty =
    let pieces : scan_pieces scan ≡ [] = no_pieces scan none in
    record {
      content = λ file told. rw (pieces, empty) tt;
      count = ap length empty ∙ sym (ap length pieces);
      dtype = rw empty tt;
      rows = ap (map (λ (batch : ColumnData). length batch.values)) empty ∙ sym (ap (map (λ (rows : List ℕ). length rows)) pieces);
      unhindered = rw pieces tt;
      faults = each_same KeepsFaults (λ source. refl) sources;
      asks = none_gain scan sources;
      cause = tt;
      complete = tt;
      lasts = each_lasts sources;
      in_flight = each_clear sources;
    }
