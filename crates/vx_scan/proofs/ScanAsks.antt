-- What the chunks of a scan ask for is what the scan reaches, each time for another reason.
use Rattle.std.proofs.Common.{◌≡◌, ℕ, zero, suc, ◌+◌, ◌<◌, inl, inr, List, [], ◌∷◌, ◌++◌, Some, length, map, sym, ap, ◌∙◌, subst}
use Rattle.std.specs.Prelude.{Bool, IsSomeAnd, nat_lt, option_map}
use Rattle.std.specs.List.{slice_get, flat_map, AllByRecursion}
use Rattle.std.proofs.lemmas.List.Elements.{All-head, All-tail}
use Rattle.vx_base.specs.Sources.{SourceState, range_of}
use Rattle.vx_base.specs.declared.locations.AskedRange.{AskedRange}
use Rattle.vx_base.specs.declared.locations.SegmentLocation.{SegmentLocation}
use Rattle.vx_base.proofs.Got.{got_mapped}
use Rattle.vx_lower.specs.Projected.{Projection, scan_reads}
use Rattle.vx_plan.specs.PlanRows.{plan_reads}
use Rattle.vx_plan.specs.Refs.{number_of}
use Rattle.vx_rows.specs.Reads.{Way, Read, AnyOf, Finds, FindsBy, IsIn}
use Rattle.vx_rows.specs.Renumbered.{way_renumbered, read_renumbered}
use Rattle.vx_splits.specs.declared.selected_rows.SelectedRows.{SelectedRows}
use Rattle.vx_splits.specs.Trimmed.{chosen_rows}
use Rattle.vx_steps.specs.declared.leaf_reads.LeafRead.{LeafRead}
use Rattle.vx_steps.specs.Below.{HasNoShare}
use Rattle.vx_steps.specs.Rows.{SomeRow}
use Rattle.vx_steps.proofs.LeafShapes.{one_segment}
use Rattle.vx_drive.specs.declared.plans.ScanPlans.{ScanPlans}
use Rattle.vx_drive.specs.Fetched.{AllLocated, AreDistinct, location_of}
use Rattle.vx_drive.specs.Plans.{projection_plan}
use Rattle.vx_drive.proofs.Sessions.{located_at}
use Rattle.vx_chunks.specs.LeafRows.{LeavesLieTogether}
use Rattle.vx_chunks.specs.Ways.{ReadsBy}
use Rattle.vx_chunks.proofs.LentSources.{each_source_by, first_by, joined_map}
use Rattle.vx_chunks.proofs.TakenReads.{read_below}
use Rattle.vx_chunks.proofs.Ways.{found_by}
use Rattle.vx_workers.specs.Borrowers.{FaultsBorrowing, IsAsking}
use Rattle.vx_workers.specs.Reasons.{Reason, read_for, segment_of, chunk_and_segment, IsReasonAmong}
use Rattle.vx_workers.specs.Workers.{AsksReached}
use Rattle.vx_workers.proofs.BorrowerChunks.{borrower_asks}
use Rattle.vx_workers.proofs.Certifying.{each_weaker}
use Rattle.vx_execute.specs.Validating.{AsksAgain}
use Rattle.vx_scan.specs.Answer.{FileScan, row_count, scan_pieces, scan_rows, size_of}
use Rattle.vx_scan.specs.Batches.{AsksOver, Share, reasons_in}
use Rattle.vx_scan.specs.Causes.{ReadsDictionary, ScanReaches}
use Rattle.vx_scan.specs.PlanTexts.{held_tree}
use Rattle.vx_scan.specs.FilePlans.{node_of, ArePlansOf, LiesInside, AreChunksOf}
use Rattle.vx_scan.specs.Scanned.{AreReasonsFor, Gains, GainsAgain, GainsOver, IsReasonFor, PieceMayBorrow, ReachesRange, ScanReachesBy, way_in}
use Rattle.vx_scan.proofs.Answered.{pieces_join}
use Rattle.vx_scan.proofs.AskedDictionaries.{asking_reads}
use Rattle.vx_scan.proofs.DictionaryReasons.{once_a_dictionary}
use Rattle.vx_scan.proofs.LeafPlaces.{reads_between, tree_reads}
use Rattle.vx_scan.proofs.ScanCauses.{inside_at}
use Rattle.vx_scan.proofs.ScanReads.{in_moved, some_chosen}
use Rattle.vx_scan.proofs.UnsharedPlans.{none_shared}
use Rattle.vx_scan.specs.ScanLeaves.{ScanReadsLeaf}

any_left : (P : ℕ → Type 0) (ones twos : List ℕ) → AnyOf P ones → AnyOf P (ones ++ twos)
any_left P [] twos any = absurd any
any_left P (one ∷ ones) twos (inl here) = inl here
any_left P (one ∷ ones) twos (inr later) = inr (any_left P ones twos later)

any_right : (P : ℕ → Type 0) (ones twos : List ℕ) → AnyOf P twos → AnyOf P (ones ++ twos)
any_right P [] twos any = any
any_right P (one ∷ ones) twos any = inr (any_right P ones twos any)

-- a row of one piece is a row of all of them
any_piece : (P : ℕ → Type 0) (pieces : List (List ℕ)) (place : ℕ) (rows : List ℕ) → slice_get pieces place ≡ Some rows → AnyOf P rows → AnyOf P (flat_map (λ piece. piece) pieces)
any_piece P [] place rows at any = absurd cc
any_piece P (piece ∷ pieces) zero rows at any = let same : piece ≡ rows = cc in any_left P piece (flat_map (λ one. one) pieces) (subst (AnyOf P) (sym same) any)
any_piece P (piece ∷ pieces) (suc place) rows at any = any_right P piece (flat_map (λ one. one) pieces) (any_piece P pieces place rows at any)

-- ---- reasons

-- what is come to by a way, by other numbers
moved_by : (f : ℕ → ℕ) (way : Way) (segment : ℕ) (reads : List Read) → FindsBy way (IsIn segment) reads → FindsBy (way_renumbered f way) (IsIn segment) (map (read_renumbered f) reads)
moved_by f way segment [] any = any
moved_by f way segment (read ∷ reads) (inl here) = inl (ap (way_renumbered f) here.0, in_moved f segment read.found here.1)
moved_by f way segment (read ∷ reads) (inr later) = inr (moved_by f way segment reads later)

finds_any : (way : Way) (segment : ℕ) (reads : List Read) → FindsBy way (IsIn segment) reads → Finds (IsIn segment) reads
finds_any way segment [] any = any
finds_any way segment (read ∷ reads) (inl here) = inl here.1
finds_any way segment (read ∷ reads) (inr later) = inr (finds_any way segment reads later)

reaches_any : (way : Way) (p : Projection) (rows : List ℕ) (segment : ℕ) → ScanReachesBy way p rows segment → ScanReaches p rows segment
reaches_any way p [] segment any = any
reaches_any way p (row ∷ rows) segment (inl here) = inl (finds_any way segment (scan_reads p row) here)
reaches_any way p (row ∷ rows) segment (inr later) = inr (reaches_any way p rows segment later)

-- a selected row of the chunk that reads a leaf by some way is a row of its piece that does
chunk_reads : (scan : FileScan) (limit : ℕ) (plans : ScanPlans) → ArePlansOf scan limit plans → (chunk : SelectedRows) → LiesInside (row_count scan) chunk → (way : Way) (read : LeafRead) → SomeRow (ReadsBy way read (projection_plan plans)) chunk.scope.rows.start chunk.mask → ScanReadsLeaf scan.projection (chosen_rows chunk) way read
chunk_reads scan limit plans are chunk inside way read visits =
    some_chosen (ReadsBy way read (held_tree scan.projection)) (row_count scan) chunk inside (
      visits.0,
      visits.1,
      tree_reads way read scan.projection (projection_plan plans) (chunk.scope.rows.start + visits.0) are.plan_is visits.2,
    )

-- and reaches the segment that way
chunk_reaches : (scan : FileScan) (limit : ℕ) (plans : ScanPlans) → ArePlansOf scan limit plans → (chunk : SelectedRows) → LiesInside (row_count scan) chunk → (way : Way) (read : LeafRead) → SomeRow (ReadsBy way read (projection_plan plans)) chunk.scope.rows.start chunk.mask → ScanReachesBy (way_in scan.projection way) scan.projection (chosen_rows chunk) read.segment
chunk_reaches scan limit plans are chunk inside way read visits =
    let row : ℕ = chunk.scope.rows.start + visits.0 in
    let p : Projection = scan.projection in
    let shares : HasNoShare (projection_plan plans) = none_shared p (projection_plan plans) are.plan_is in
    let found : FindsBy way (IsIn read.segment) (plan_reads p.offset (projection_plan plans) row) = found_by way read p.offset (projection_plan plans) row shares visits.2 in
    some_chosen (λ row. FindsBy (way_in p way) (IsIn read.segment) (scan_reads p row)) (row_count scan) chunk inside (
      visits.0,
      visits.1,
      subst (FindsBy (way_in p way) (IsIn read.segment)) (are.plan.reads row) (moved_by (node_of p) way read.segment (plan_reads p.offset (projection_plan plans) row) found),
    )

reason_for : (scan : FileScan) (limit : ℕ) (plans : ScanPlans) → ArePlansOf scan limit plans → (chunks : List SelectedRows) → AreChunksOf scan chunks → (reason : Reason) → reason.segment < length plans.locations.items → IsReasonAmong plans chunks reason → IsReasonFor scan reason (range_of (location_of plans.locations.items reason.segment))
reason_for scan limit plans are chunks of_scan reason there is =
    let inside : LiesInside (row_count scan) is.chunk = inside_at (row_count scan) chunks reason.chunk is.chunk of_scan.inside is.here in
    record {
      rows = chosen_rows is.chunk;
      here = ap (λ (pieces : List (List ℕ)). slice_get pieces reason.chunk) (sym of_scan.pieces) ∙ got_mapped chosen_rows chunks reason.chunk is.chunk is.here;
      reads = chunk_reads scan limit plans are is.chunk inside reason.way (read_for reason) is.reads;
      reaches = chunk_reaches scan limit plans are is.chunk inside reason.way (read_for reason) is.reads;
      location = ap (λ (locations : List SegmentLocation). option_map range_of (slice_get locations reason.segment)) (sym are.locations) ∙ ap (option_map range_of) (located_at plans.locations.items reason.segment there);
    }

-- what is reached for a reason, the scan reaches
reason_reaches : (scan : FileScan) (reason : Reason) (range : AskedRange) → IsReasonFor scan reason range → ReachesRange scan range
reason_reaches scan reason range is = record {
  segment = reason.segment;
  reaches = subst (λ (rows : List ℕ). ScanReaches scan.projection rows reason.segment) (pieces_join (size_of scan) (scan_rows scan))
      (any_piece (λ row. Finds (IsIn reason.segment) (scan_reads scan.projection row)) (scan_pieces scan) reason.chunk is.rows is.here
      (reaches_any (way_in scan.projection reason.way) scan.projection is.rows reason.segment is.reaches));
  location = is.location;
}

abbrev pub ranges_for : ScanPlans → List Reason → List AskedRange
ranges_for plans reasons = map range_of (map (location_of plans.locations.items) (map segment_of reasons))

each_reason : (scan : FileScan) (limit : ℕ) (plans : ScanPlans) → ArePlansOf scan limit plans → (chunks : List SelectedRows) → AreChunksOf scan chunks → (reasons : List Reason) → AllLocated plans.locations.items (map segment_of reasons) → AllByRecursion (IsReasonAmong plans chunks) reasons → AreReasonsFor scan reasons (ranges_for plans reasons)
each_reason scan limit plans are chunks of_scan [] located each = tt
each_reason scan limit plans are chunks of_scan (reason ∷ reasons) located each = (
  reason_for scan limit plans are chunks of_scan reason (All-head (λ segment. segment < length plans.locations.items) reason.segment (map segment_of reasons) located) each.0,
  each_reason scan limit plans are chunks of_scan reasons (All-tail (λ segment. segment < length plans.locations.items) reason.segment (map segment_of reasons) located) each.1,
)

each_range : (scan : FileScan) (reasons : List Reason) (ranges : List AskedRange) → AreReasonsFor scan reasons ranges → AllByRecursion (ReachesRange scan) ranges
each_range scan [] [] are = tt
each_range scan [] (range ∷ ranges) are = absurd are
each_range scan (reason ∷ reasons) [] are = absurd are
each_range scan (reason ∷ reasons) (range ∷ ranges) are = (reason_reaches scan reason range are.0, each_range scan reasons ranges are.1)

-- each leaf of the scan's plan stands at one place
pub lie_together : (scan : FileScan) (limit : ℕ) (plans : ScanPlans) → ArePlansOf scan limit plans → LeavesLieTogether (projection_plan plans)
lie_together scan limit plans are = record {
  segment = one_segment plans.table are.good (number_of plans.projection) are.known;
  between = reads_between scan.projection (projection_plan plans) are.plan_is;
  below = read_below plans.table are.good (number_of plans.projection) are.known;
}

-- a chunk that ran with borrowed values may borrow
may_borrow : (shares : Bool) (scan : FileScan) (limit : ℕ) (plans : ScanPlans) → ArePlansOf scan limit plans → (chunks : List SelectedRows) → AreChunksOf scan chunks → (before : SourceState) (x : ℕ) → FaultsBorrowing shares plans chunks before x → PieceMayBorrow shares scan x
may_borrow shares scan limit plans are chunks of_scan before x faults = (
  faults.shared,
  subst (λ (pieces : List (List ℕ)). IsSomeAnd (slice_get pieces x) (ReadsDictionary scan.projection)) of_scan.pieces
      (asking_reads scan limit plans are chunks of_scan.inside x (subst (IsAsking plans chunks) faults.number_is (borrower_asks plans chunks faults.borrower faults.is))),
)

pub gains_of : (shares : Bool) (scan : FileScan) (limit : ℕ) (plans : ScanPlans) → ArePlansOf scan limit plans → (chunks : List SelectedRows) → AreChunksOf scan chunks → (numbers : List ℕ) (reasons : List Reason) (before after : SourceState) → AsksReached shares plans chunks numbers reasons before after → Gains shares scan reasons before after
gains_of shares scan limit plans are chunks of_scan numbers reasons before after asks =
    let for_ranges : AreReasonsFor scan reasons (ranges_for plans reasons) = each_reason scan limit plans are chunks of_scan reasons asks.located asks.are in
    record {
      ranges = ranges_for plans reasons;
      gained = asks.asked;
      reached = each_range scan reasons (ranges_for plans reasons) for_ranges;
      are_reasons = for_ranges;
      faulted = asks.faulted;
      faulted_are = each_weaker (FaultsBorrowing shares plans chunks before) (PieceMayBorrow shares scan) (may_borrow shares scan limit plans are chunks of_scan before) asks.faulted asks.faulted_are;
      once_a_leaf = asks.once_a_leaf of_scan.ordered (lie_together scan limit plans are);
      once_a_dictionary = once_a_dictionary scan are.apart reasons (ranges_for plans reasons) for_ranges asks.once_a_take;
    }

-- the first source was asked again for what the scan reaches
pub gains_again : (scan : FileScan) (limit : ℕ) (plans : ScanPlans) → ArePlansOf scan limit plans → (chunks : List SelectedRows) → AreChunksOf scan chunks → (reruns : List ℕ) (before after : SourceState) → AsksAgain plans chunks reruns before after → GainsAgain scan reruns before after
gains_again scan limit plans are chunks of_scan reruns before after asks =
    let for_ranges : AreReasonsFor scan asks.reasons (ranges_for plans asks.reasons) = each_reason scan limit plans are chunks of_scan asks.reasons asks.located asks.are in
    record {
      reasons = asks.reasons;
      ranges = ranges_for plans asks.reasons;
      gained = asks.asked;
      reached = each_range scan asks.reasons (ranges_for plans asks.reasons) for_ranges;
      are_reasons = for_ranges;
      direct = asks.direct;
      once_a_chunk = asks.once_a_chunk;
      once_a_dictionary = once_a_dictionary scan are.apart asks.reasons (ranges_for plans asks.reasons) for_ranges asks.once_a_take;
    }

pub gains_over : (scan : FileScan) (limit : ℕ) (plans : ScanPlans) → ArePlansOf scan limit plans → (chunks : List SelectedRows) → AreChunksOf scan chunks → (befores afters : List SourceState) → AsksOver plans chunks befores afters → GainsOver scan befores afters
gains_over scan limit plans are chunks of_scan befores afters asks = record {
  reasons = map reasons_in asks.shares;
  middles = asks.middles;
  each = each_source_by reasons_in (λ (share : Share). AsksReached (nat_lt 1 (length befores)) plans chunks share.numbers share.reasons) (Gains (nat_lt 1 (length befores)) scan)
      (λ share before after reached. gains_of (nat_lt 1 (length befores)) scan limit plans are chunks of_scan share.numbers share.reasons before after reached) asks.shares befores asks.middles asks.each;
  once_a_chunk = subst (λ (reasons : List Reason). AreDistinct (map chunk_and_segment reasons)) (sym (joined_map reasons_in asks.shares)) asks.once_a_chunk;
  reruns = asks.reruns;
  reruns_once = asks.reruns_once;
  again = first_by (AsksAgain plans chunks asks.reruns) (GainsAgain scan asks.reruns) (gains_again scan limit plans are chunks of_scan asks.reruns) asks.middles afters asks.again;
  alone = asks.alone;
}
