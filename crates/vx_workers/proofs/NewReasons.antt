-- The reasons for which a chunk asks, behind those of the chunks that ran before it, whatever whole values it is given.
use Rattle.std.proofs.Common.{◌≡◌, ◌≢◌, ℕ, zero, suc, ◌+◌, ◌<◌, ◌≤◌, ◌⊎◌, inl, inr, ⊎_elim, Bool, true, List, [], ◌∷◌, ◌++◌, Option, Some, None, length, map, refl, sym, ap, ◌∙◌, subst, arith}
use Rattle.std.specs.List.{slice_get, flat_map, All, AllByRecursion}
use Rattle.std.proofs.lemmas.Grind.{flat_map-append}
use Rattle.std.proofs.lemmas.List.{map-append}
use Rattle.std.proofs.lemmas.List.Elements.{All-append, All-head, All-tail}
use Rattle.std.proofs.lemmas.Option.{slice_get_within}
use Rattle.vx_rows.specs.Reads.{Way, through, IsAmong}
use Rattle.vx_plan.specs.Nodes.{Node}
use Rattle.vx_plan.specs.Refs.{number_of}
use Rattle.vx_plan.specs.Tables.{IsGoodTable}
use Rattle.vx_steps.specs.Kept.{kept_at, values_of, IsKept}
use Rattle.vx_steps.specs.declared.leaf_reads.LeafRead.{LeafRead}
use Rattle.vx_steps.specs.Given.{given_for}
use Rattle.vx_steps.specs.KeptData.{Kept}
use Rattle.vx_steps.specs.Leavings.{IsLeafOf, RowReads}
use Rattle.vx_steps.specs.Rows.{SomeRow}
use Rattle.vx_steps.specs.Visits.{IsLeafRead}
use Rattle.vx_steps.proofs.WeakerVisits.{leaf_read, same_read, weaker_visit}
use Rattle.vx_splits.specs.declared.selected_rows.SelectedRows.{SelectedRows}
use Rattle.vx_io.specs.Fetches.{asked_for}
use Rattle.vx_claims.specs.Views.{above}
use Rattle.vx_drive.specs.declared.plans.ScanPlans.{ScanPlans}
use Rattle.vx_drive.specs.Asks.{AsksOnly}
use Rattle.vx_drive.specs.Fetched.{AreDistinct, location_of}
use Rattle.vx_drive.specs.Plans.{projection_plan, AreInOrder, FollowFrom, IsChunkOf}
use Rattle.vx_drive.proofs.Distinct.{apart_from, distinct_by, distinct_then}
use Rattle.vx_drive.proofs.Sessions.{asked_then}
use Rattle.vx_chunks.specs.ChunkRows.{given_to, ChunkReaches, ChunkVisits}
use Rattle.vx_chunks.specs.LeafRows.{IsReadAt, LeavesLieTogether, row_behind}
use Rattle.vx_chunks.specs.Outcomes.{AreAllThere, ChunkAsks, HandsLeavesRead, IsWanted}
use Rattle.vx_chunks.specs.Ways.{ReadsBy}
use Rattle.vx_chunks.proofs.TakenWholes.{IsWholeFor, TakesWhole, takes_whole}
use Rattle.vx_chunks.proofs.Ways.{IsFree, way_of}
use Rattle.vx_workers.specs.Borrowers.{FaultsBorrowing}
use Rattle.vx_workers.specs.Reasons.{Reason, leaf_of, read_for, segment_of, chunk_and_segment, take_and_segment, AreOfOneLeafOnlyBehind, IsReasonAmong}
use Rattle.vx_workers.specs.Workers.{AsksReached}
use Rattle.vx_workers.proofs.LeafPairs.{leaves_then}
use Rattle.vx_workers.proofs.Taken.{distinct_taken, taken_apart}
use Rattle.vx_workers.proofs.Certifying.{each_weaker}
use Rattle.vx_base.specs.Columns.{ColumnData}
use Rattle.vx_base.specs.Sources.{SourceState}
use Rattle.vx_base.specs.declared.locations.SegmentLocation.{SegmentLocation}
use Rattle.vx_base.proofs.AllFit.{all-append}

pub among_front : (x : ℕ) (numbers more : List ℕ) → IsAmong x numbers → IsAmong x (numbers ++ more)
among_front x [] more among = absurd among
among_front x (n ∷ numbers) more (inl here) = inl here
among_front x (n ∷ numbers) more (inr later) = inr (among_front x numbers more later)

-- ---- chunks in order

-- the row behind the last of the chunks, and this one where there is none
abbrev pub end_of : ℕ → List SelectedRows → ℕ
end_of row [] = row
end_of row (chunk ∷ chunks) = end_of chunk.scope.rows.end chunks

-- the chunk comes behind those
pub record ComesNext (row : ℕ) (done : List SelectedRows) (chunk : SelectedRows) : Type 0 where
  pub before : FollowFrom row done
  pub behind : end_of row done ≤ chunk.scope.rows.start
  pub forwards : chunk.scope.rows.start ≤ chunk.scope.rows.end

pub follow_more : (row : ℕ) (done : List SelectedRows) (chunk : SelectedRows) → ComesNext row done chunk → FollowFrom row (done ++ chunk ∷ [])
follow_more row [] chunk next = (next.behind, next.forwards, tt)
follow_more row (one ∷ done) chunk next =
    (next.before.0, next.before.1, follow_more one.scope.rows.end done chunk (record { before = next.before.2; behind = next.behind; forwards = next.forwards }))

pub end_next : (row : ℕ) (done : List SelectedRows) (chunk : SelectedRows) → end_of row (done ++ chunk ∷ []) ≡ chunk.scope.rows.end
end_next row [] chunk = refl
end_next row (one ∷ done) chunk = end_next one.scope.rows.end done chunk

starts_behind : (row : ℕ) (chunks : List SelectedRows) (n : ℕ) (chunk : SelectedRows) → FollowFrom row chunks → slice_get chunks n ≡ Some chunk → row ≤ chunk.scope.rows.start
starts_behind row [] n chunk follow at = absurd cc
starts_behind row (one ∷ chunks) zero chunk follow at = let same : one ≡ chunk = cc in subst (λ (c : SelectedRows). row ≤ c.scope.rows.start) same follow.0
starts_behind row (one ∷ chunks) (suc n) chunk follow at =
    let rest = starts_behind one.scope.rows.end chunks n chunk follow.2 at in
    let from = follow.0 in
    let forwards = follow.1 in
    omega (arith, rest, from, forwards)

-- a chunk of a greater number lies behind
pub lies_behind : (row : ℕ) (chunks : List SelectedRows) (n m : ℕ) (one other : SelectedRows) → FollowFrom row chunks → slice_get chunks n ≡ Some one → slice_get chunks m ≡ Some other → n < m → one.scope.rows.end ≤ other.scope.rows.start
lies_behind row [] n m one other follow here there less = absurd cc
lies_behind row (first ∷ chunks) n zero one other follow here there less = absurd (omega (arith, less))
lies_behind row (first ∷ chunks) zero (suc m) one other follow here there less =
    let same : first ≡ one = cc in subst (λ (c : SelectedRows). c.scope.rows.end ≤ other.scope.rows.start) same (starts_behind first.scope.rows.end chunks m other follow.2 there)
lies_behind row (first ∷ chunks) (suc n) (suc m) one other follow here there less = lies_behind first.scope.rows.end chunks n m one other follow.2 here there (omega (arith, less))

-- ---- numbers of chunks

among_last : (x : ℕ) (numbers : List ℕ) (number : ℕ) → x ≡ number → IsAmong x (numbers ++ number ∷ [])
among_last x [] number same = inl (sym same)
among_last x (n ∷ numbers) number same = inr (among_last x numbers number same)

among_below : (x : ℕ) (numbers : List ℕ) → IsAmong x numbers → x < above numbers
among_below x [] among = absurd among
among_below x (n ∷ numbers) (inl here) = omega (arith, here)
among_below x (n ∷ numbers) (inr later) = let less = among_below x numbers later in omega (arith, less)

-- The chunk of that number, which is behind these numbers; and where the chunks are in order, it lies behind that row.
pub record RunsNext (plans : ScanPlans) (chunks : List SelectedRows) (numbers : List ℕ) (row number : ℕ) (chunk : SelectedRows) : Type 0 where
  pub is : IsChunkOf plans chunk
  pub here : slice_get chunks number ≡ Some chunk
  pub later : above numbers ≤ number
  pub behind : AreInOrder chunks → row ≤ chunk.scope.rows.start

-- what was made is among these whole values
abbrev pub HasMade : ScanPlans → List Kept → List Kept → Type 0
HasMade plans made all = (n : ℕ) → n < length plans.table → IsKept made n → IsKept all n

-- and what was made and the chunk asks for
abbrev pub HasAsked : ScanPlans → SelectedRows → List Kept → List Kept → Type 0
HasAsked plans chunk made all = (n : ℕ) → n < length plans.table → ChunkAsks plans [] chunk n → IsKept made n → IsKept all n

-- ---- the reasons of a chunk

-- a selected row of the chunk reads the leaf that way
abbrev ChunkReadsBy : ScanPlans → SelectedRows → Way → LeafRead → Type 0
ChunkReadsBy plans chunk way read = SomeRow (ReadsBy way read (projection_plan plans)) chunk.scope.rows.start chunk.mask

-- A selected row of the chunk reads the leaf that way, in place of which nothing is given; no column of the leaf was handed
-- in, and the row reaches the segment.
pub record IsNewReason (plans : ScanPlans) (place : ℕ) (given handed : List Kept) (chunk : SelectedRows) (reason : Reason) : Type 0 where
  pub at : reason.chunk ≡ place
  pub reads : ChunkVisits (IsLeafRead (read_for reason)) plans given chunk
  pub by : ChunkReadsBy plans chunk reason.way (read_for reason)
  pub free : IsFree (given_for plans.table given) reason.way
  pub fresh : kept_at handed reason.leaf ≡ None
  pub reaches : ChunkReaches plans chunk reason.segment

pub record NewReasons (plans : ScanPlans) (place : ℕ) (given handed : List Kept) (chunk : SelectedRows) (segments : List ℕ) : Type 0 where
  pub reasons : List Reason
  pub segments_are : map segment_of reasons ≡ segments
  pub each : AllByRecursion (IsNewReason plans place given handed chunk) reasons

pub new_reasons : (plans : ScanPlans) (place : ℕ) (given handed : List Kept) (chunk : SelectedRows) (segments : List ℕ) → All (IsWanted plans given handed chunk) segments → NewReasons plans place given handed chunk segments
new_reasons plans place given handed chunk [] wanted = record { reasons = []; segments_are = refl; each = tt }
new_reasons plans place given handed chunk (segment ∷ segments) wanted =
    let one : IsWanted plans given handed chunk segment = All-head (IsWanted plans given handed chunk) segment segments wanted in
    let rest : NewReasons plans place given handed chunk segments = new_reasons plans place given handed chunk segments (All-tail (IsWanted plans given handed chunk) segment segments wanted) in
    let read : LeafRead = record { leaf = one.leaf; segment = segment } in
    let way : (way : Way) × IsFree (given_for plans.table given) way × ReadsBy way read (projection_plan plans) (chunk.scope.rows.start + one.visited.0) =
    way_of read (given_for plans.table given) (projection_plan plans) (chunk.scope.rows.start + one.visited.0) one.visited.2 in
    record {
      reasons = record { chunk = place; leaf = one.leaf; segment = segment; way = way.0 } ∷ rest.reasons;
      segments_are = ap (λ (ss : List ℕ). segment ∷ ss) rest.segments_are;
      each = (record { at = refl; reads = one.visited; by = (one.visited.0, one.visited.1, way.2); free = way.1; fresh = one.not_handed; reaches = one.reached }, rest.each);
    }

new_among : (plans : ScanPlans) (chunks : List SelectedRows) (number : ℕ) (given handed : List Kept) (chunk : SelectedRows) → slice_get chunks number ≡ Some chunk → (reason : Reason) → IsNewReason plans number given handed chunk reason → IsReasonAmong plans chunks reason
new_among plans chunks number given handed chunk here reason is = record {
  chunk = chunk;
  here = ap (slice_get chunks) is.at ∙ here;
  reads = is.by;
  reaches = is.reaches;
}

-- a row of the chunk that reads the leaf, whatever is given
record ReadsInside (plans : ScanPlans) (chunk : SelectedRows) (leaf : ℕ) : Type 0 where
  row : ℕ
  behind : chunk.scope.rows.start ≤ row
  before : row < chunk.scope.rows.end
  reads : RowReads plans.table (number_of plans.projection) row leaf

reads_inside : (plans : ScanPlans) (given : List Kept) (chunk : SelectedRows) (read : LeafRead) → IsChunkOf plans chunk → ChunkVisits (IsLeafRead read) plans given chunk → ReadsInside plans chunk read.leaf
reads_inside plans given chunk read is visits =
    let less : visits.0 < length chunk.mask = slice_get_within chunk.mask visits.0 true visits.1 in
    let size = is.mask in
    record {
      row = chunk.scope.rows.start + visits.0;
      behind = omega arith;
      before = omega (arith, less, size);
      reads = weaker_visit (IsLeafRead read) (IsLeafOf read.leaf) (leaf_read read) (given_to plans given) (projection_plan plans) (chunk.scope.rows.start + visits.0) visits.2;
    }

-- ---- what came of the leaves that were asked for

-- A row before this one reads the leaf; and if this row reads it, its column is handed on.
pub record IsPast (plans : ScanPlans) (row : ℕ) (handed : List Kept) (leaf : ℕ) : Type 0 where
  pub at : ℕ
  pub before : at < row
  pub reads : RowReads plans.table (number_of plans.projection) at leaf
  pub stays : IsReadAt plans row leaf → IsKept handed leaf

-- So it is with the leaf that was asked for, unless its chunk is one of those that ended in a fault of rows.
abbrev pub IsPastReason : ScanPlans → ℕ → List Kept → List ℕ → Reason → Type 0
IsPastReason plans row handed faulted reason = IsAmong reason.chunk faulted ⊎ IsPast plans row handed reason.leaf

abbrev pub ArePast : ScanPlans → ℕ → List Kept → List ℕ → List Reason → Type 0
ArePast plans row handed faulted reasons = AllByRecursion (IsPastReason plans row handed faulted) reasons

none_kept : (columns : Option ColumnData) (column : ColumnData) → columns ≡ Some column → columns ≡ None → ⊥
none_kept columns column at none = let both : Some column ≡ None = sym at ∙ none in cc

-- a leaf that was asked for is not asked for by a later chunk
not_again : (plans : ScanPlans) (row place : ℕ) (given handed : List Kept) (chunk : SelectedRows) → IsChunkOf plans chunk → row ≤ chunk.scope.rows.start → LeavesLieTogether (projection_plan plans) → (leaf : ℕ) (new : Reason) → IsPast plans row handed leaf → IsNewReason plans place given handed chunk new → leaf ≢ new.leaf
not_again plans row place given handed chunk is behind together leaf new past fresh same =
    let inside : ReadsInside plans chunk new.leaf = reads_inside plans given chunk (read_for new) is fresh.reads in
    let from = inside.behind in
    let to = inside.before in
    let end = is.inside in
    let low = past.before in
    let last : RowReads plans.table (number_of plans.projection) inside.row leaf = subst (λ (n : ℕ). RowReads plans.table (number_of plans.projection) inside.row n) (sym same) inside.reads in
    let here : RowReads plans.table (number_of plans.projection) row leaf = together.between leaf past.at row inside.row (omega (arith, low)) (omega (arith, behind, from)) past.reads last in
    let kept : IsKept handed leaf = past.stays (omega (arith, behind, from, to, end), here) in
    none_kept (kept_at handed new.leaf) kept.0 (ap (kept_at handed) (sym same) ∙ kept.1) fresh.fresh

-- ---- what came of whole values that were asked for

-- Where it was asked for through whole values, these were made.
abbrev pub IsTaken : ScanPlans → List Kept → Reason → Type 0
IsTaken plans made reason = (take : ℕ) → reason.way ≡ through take → (n : ℕ) × IsWholeFor plans.table take n × IsKept made n

abbrev pub AreTaken : ScanPlans → List Kept → List Reason → Type 0
AreTaken plans made reasons = AllByRecursion (IsTaken plans made) reasons

-- nothing stands in place of values that are
not_free : (nodes : List Node) (given : List Kept) (take n : ℕ) → IsWholeFor nodes take n → IsKept given n → given_for nodes given take ≡ None → ⊥
not_free nodes given take n whole (column, at) none =
    let both : None ≡ Some column.values = sym none ∙ (whole.is given ∙ ap values_of at) in
    cc

-- what stands for the take is kept, whichever its number
same_whole : (nodes : List Node) (made : List Kept) (take n m : ℕ) → IsWholeFor nodes take n → IsWholeFor nodes take m → IsKept made n → IsKept made m
same_whole nodes made take n m one other (column, at) = of_found (kept_at made m) refl (sym (other.is made) ∙ (one.is made ∙ ap values_of at))
  where
    of_found : (found : Option ColumnData) → kept_at made m ≡ found → values_of found ≡ Some column.values → IsKept made m
    of_found None is both = absurd cc
    of_found (Some other_one) is both = (other_one, is)

-- so nothing is asked for through these again
no_take_again : (plans : ScanPlans) (place : ℕ) (made given handed : List Kept) (chunk : SelectedRows) → IsGoodTable plans.table → number_of plans.projection < length plans.table → HasAsked plans chunk made given → (old new : Reason) (take : ℕ) → IsTaken plans made old → IsNewReason plans place given handed chunk new → old.way ≡ through take → new.way ≡ through take → ⊥
no_take_again plans place made given handed chunk good known has old new take past fresh one two =
    let kept = past take one in
    let asked : TakesWhole plans chunk take = takes_whole plans chunk good known take (read_for new) (subst (λ (way : Way). ChunkReadsBy plans chunk way (read_for new)) two fresh.by) in
    let own : IsKept made asked.number = same_whole plans.table made take kept.0 asked.number kept.1 asked.whole kept.2 in
    not_free plans.table given take asked.number asked.whole (has asked.number asked.whole.known (asked.asks []) own) (subst (IsFree (given_for plans.table given)) two fresh.free)

-- what was made before stays
old_taken : (plans : ScanPlans) (made more : List Kept) → HasMade plans made more → (reason : Reason) → IsTaken plans made reason → IsTaken plans more reason
old_taken plans made more stays reason taken take is =
    let kept = taken take is in
    (kept.0, kept.1, stays kept.0 kept.1.known kept.2)

-- and where all that the chunk asks for is given or made, what it was asked for through is made
new_taken : (plans : ScanPlans) (place : ℕ) (given handed more : List Kept) (chunk : SelectedRows) → IsGoodTable plans.table → number_of plans.projection < length plans.table → AreAllThere plans given more chunk → (reason : Reason) → IsNewReason plans place given handed chunk reason → IsTaken plans more reason
new_taken plans place given handed more chunk good known there reason fresh take is =
    let one : TakesWhole plans chunk take = takes_whole plans chunk good known take (read_for reason) (subst (λ (way : Way). ChunkReadsBy plans chunk way (read_for reason)) is fresh.by) in
    (one.number, one.whole, ⊎_elim (λ (here : IsKept given one.number). absurd (not_free plans.table given take one.number one.whole here (subst (IsFree (given_for plans.table given)) is fresh.free))) (λ (made : IsKept more one.number). made) (there one.number (one.asks given)))

pub taken_more : (plans : ScanPlans) (place : ℕ) (made given handed more : List Kept) (chunk : SelectedRows) (segments : List ℕ) (reasons : List Reason) → IsGoodTable plans.table → number_of plans.projection < length plans.table → HasMade plans made more → AreAllThere plans given more chunk
    → (fresh : NewReasons plans place given handed chunk segments) → AreTaken plans made reasons → AreTaken plans more (reasons ++ fresh.reasons)
taken_more plans place made given handed more chunk segments reasons good known stays there fresh taken =
    all-append (IsTaken plans more) reasons fresh.reasons
    (each_weaker (IsTaken plans made) (IsTaken plans more) (old_taken plans made more stays) reasons taken)
    (each_weaker (IsNewReason plans place given handed chunk) (IsTaken plans more) (new_taken plans place given handed more chunk good known there) fresh.reasons fresh.each)

-- ---- the asks with those of one chunk more

same_segment : (plans : ScanPlans) (place : ℕ) (given handed : List Kept) (chunk : SelectedRows) → LeavesLieTogether (projection_plan plans) → (one other : Reason) → IsNewReason plans place given handed chunk one → IsNewReason plans place given handed chunk other → one.leaf ≡ other.leaf → one.segment ≡ other.segment
same_segment plans place given handed chunk together one other first second same =
    together.segment (read_for one) (read_for other) (chunk.scope.rows.start + first.reads.0) (chunk.scope.rows.start + second.reads.0)
    (weaker_visit (IsLeafRead (read_for one)) (IsLeafRead (read_for one)) (same_read (read_for one)) (given_to plans given) (projection_plan plans) (chunk.scope.rows.start + first.reads.0) first.reads.2)
    (weaker_visit (IsLeafRead (read_for other)) (IsLeafRead (read_for other)) (same_read (read_for other)) (given_to plans given) (projection_plan plans) (chunk.scope.rows.start + second.reads.0) second.reads.2) same

earlier : (plans : ScanPlans) (numbers : List ℕ) (number : ℕ) (given handed : List Kept) (chunk : SelectedRows) → above numbers ≤ number → (old new : Reason) → IsAmong old.chunk numbers → IsNewReason plans number given handed chunk new → chunk_and_segment old ≢ chunk_and_segment new
earlier plans numbers number given handed chunk later old new among fresh same =
    let less = among_below old.chunk numbers among in
    let place : old.chunk ≡ new.chunk = ap (λ (pair : ℕ × ℕ). pair.0) same in
    let at = fresh.at in
    omega (arith, less, place, at, later)

-- a new reason is of another leaf than one that is past
past_or_faulted : (plans : ScanPlans) (row place : ℕ) (given handed : List Kept) (faulted more : List ℕ) (chunk : SelectedRows) → IsChunkOf plans chunk → row ≤ chunk.scope.rows.start → LeavesLieTogether (projection_plan plans) → ((x : ℕ) → IsAmong x faulted → IsAmong x more)
    → (old new : Reason) → IsPastReason plans row handed faulted old → IsNewReason plans place given handed chunk new → AreOfOneLeafOnlyBehind more old new
past_or_faulted plans row place given handed faulted more chunk is behind together wider old new (inl among) fresh same = wider old.chunk among
past_or_faulted plans row place given handed faulted more chunk is behind together wider old new (inr past) fresh same = absurd (not_again plans row place given handed chunk is behind together old.leaf new past fresh same)

-- the new asks of a chunk, behind those of the chunks before, of which these ended in a fault of rows; so may the chunk
pub asks_more : (shares : Bool) (plans : ScanPlans) (chunks : List SelectedRows) (numbers : List ℕ) (row number : ℕ) (chunk : SelectedRows) (made given handed : List Kept) (reasons : List Reason) (faulted : List ℕ) (before now after : SourceState) → IsGoodTable plans.table → number_of plans.projection < length plans.table → RunsNext plans chunks numbers row number chunk
    → (asks : AsksReached shares plans chunks numbers reasons before now) → ((x : ℕ) → IsAmong x asks.faulted → IsAmong x faulted) → AllByRecursion (FaultsBorrowing shares plans chunks before) faulted → HasAsked plans chunk made given → AreTaken plans made reasons
    → (AreInOrder chunks → LeavesLieTogether (projection_plan plans) → ArePast plans row handed asks.faulted reasons)
    → (more : AsksOnly (IsWanted plans given handed chunk) plans.locations.items now after) (fresh : NewReasons plans number given handed chunk more.segments) → (all : AsksReached shares plans chunks (numbers ++ number ∷ []) (reasons ++ fresh.reasons) before after) × (all.faulted ≡ faulted)
asks_more shares plans chunks numbers row number chunk made given handed reasons faulted before now after good known next asks wider faulted_are has taken past more fresh =
    let segments : map segment_of (reasons ++ fresh.reasons) ≡ map segment_of reasons ++ more.segments =
    map-append segment_of reasons fresh.reasons ∙ ap (λ (ss : List ℕ). map segment_of reasons ++ ss) fresh.segments_are in (
      record {
        are = all-append (IsReasonAmong plans chunks) reasons fresh.reasons asks.are
            (each_weaker (IsNewReason plans number given handed chunk) (IsReasonAmong plans chunks) (new_among plans chunks number given handed chunk next.here) fresh.reasons fresh.each);
        own = all-append (λ (reason : Reason). IsAmong reason.chunk (numbers ++ number ∷ [])) reasons fresh.reasons
            (each_weaker (λ (reason : Reason). IsAmong reason.chunk numbers) (λ (reason : Reason). IsAmong reason.chunk (numbers ++ number ∷ [])) (λ reason among. among_front reason.chunk numbers (number ∷ []) among) reasons asks.own)
            (each_weaker (IsNewReason plans number given handed chunk) (λ (reason : Reason). IsAmong reason.chunk (numbers ++ number ∷ [])) (λ reason is. among_last reason.chunk numbers number is.at) fresh.reasons fresh.each);
        located = subst (All (λ segment. segment < length plans.locations.items)) (sym segments)
            (All-append (λ segment. segment < length plans.locations.items) (map segment_of reasons) more.segments asks.located more.asks.located);
        asked = more.asks.asked
            ∙ (ap (asked_for (map (location_of plans.locations.items) more.segments)) asks.asked
            ∙ (asked_then (map (location_of plans.locations.items) (map segment_of reasons)) (map (location_of plans.locations.items) more.segments) before.asked
            ∙ ap (λ (places : List SegmentLocation). asked_for places before.asked)
            (sym (map-append (location_of plans.locations.items) (map segment_of reasons) more.segments) ∙ ap (map (location_of plans.locations.items)) (sym segments))));
        once_a_chunk = subst AreDistinct (sym (map-append chunk_and_segment reasons fresh.reasons))
            (distinct_then (map chunk_and_segment reasons) (map chunk_and_segment fresh.reasons) asks.once_a_chunk
            (distinct_by (IsNewReason plans number given handed chunk) chunk_and_segment segment_of (λ one two first second same. ap (λ (pair : ℕ × ℕ). pair.1) same) fresh.reasons fresh.each (subst AreDistinct (sym fresh.segments_are) more.asks.apart))
            (apart_from (λ (reason : Reason). IsAmong reason.chunk numbers) (IsNewReason plans number given handed chunk) chunk_and_segment (earlier plans numbers number given handed chunk next.later) reasons fresh.reasons asks.own fresh.each));
        faulted = faulted;
        faulted_are = faulted_are;
        once_a_leaf = λ order together.
            leaves_then asks.faulted faulted (IsPastReason plans row handed asks.faulted) (IsNewReason plans number given handed chunk) reasons fresh.reasons wider
            (past_or_faulted plans row number given handed asks.faulted faulted chunk next.is (next.behind order) together wider) (asks.once_a_leaf order together)
            (distinct_by (IsNewReason plans number given handed chunk) leaf_of segment_of (same_segment plans number given handed chunk together) fresh.reasons fresh.each (subst AreDistinct (sym fresh.segments_are) more.asks.apart))
            (past order together) fresh.each;
        once_a_take = subst AreDistinct (sym (flat_map-append take_and_segment reasons fresh.reasons))
            (distinct_then (flat_map take_and_segment reasons) (flat_map take_and_segment fresh.reasons) asks.once_a_take
            (distinct_taken fresh.reasons (subst AreDistinct (sym fresh.segments_are) more.asks.apart))
            (taken_apart (IsTaken plans made) (IsNewReason plans number given handed chunk)
            (no_take_again plans number made given handed chunk good known has) reasons fresh.reasons taken fresh.each));
      },
      refl,
    )

-- ---- what comes of the leaves behind one chunk more

-- Of the leaves that a chunk was handed, each is handed on that the row behind it reads; and so is each of those that it
-- reads, unless it is one of those that ended in a fault of rows.
pub record HandsLeaves (plans : ScanPlans) (number : ℕ) (chunk : SelectedRows) (faulted : List ℕ) (given handed more : List Kept) : Type 0 where
  pub stay : (leaf : ℕ) → IsReadAt plans (row_behind chunk) leaf → IsKept handed leaf → IsKept more leaf
  pub there : IsAmong number faulted ⊎ HandsLeavesRead plans chunk given more

old_leaf : (plans : ScanPlans) (row number : ℕ) (faulted : List ℕ) (given handed more : List Kept) (chunk : SelectedRows) → IsChunkOf plans chunk → row ≤ chunk.scope.rows.start → LeavesLieTogether (projection_plan plans) → HandsLeaves plans number chunk faulted given handed more →
    (leaf : ℕ) → IsPast plans row handed leaf → IsPast plans chunk.scope.rows.end more leaf
old_leaf plans row number faulted given handed more chunk is behind together hands leaf past =
    let low = past.before in
    let forwards = is.forwards in
    record {
      at = past.at;
      before = omega (arith, low, behind, forwards);
      reads = past.reads;
      stays = λ read.
          let end = read.0 in
          let here : RowReads plans.table (number_of plans.projection) row leaf = together.between leaf past.at row chunk.scope.rows.end (omega (arith, low)) (omega (arith, behind, forwards)) past.reads read.1 in
          hands.stay leaf read (past.stays (omega (arith, end, behind, forwards), here));
    }

new_leaf : (plans : ScanPlans) (given more : List Kept) (chunk : SelectedRows) → IsChunkOf plans chunk → HandsLeavesRead plans chunk given more → (read : LeafRead) → ChunkVisits (IsLeafRead read) plans given chunk → IsPast plans chunk.scope.rows.end more read.leaf
new_leaf plans given more chunk is hands read visits =
    let inside : ReadsInside plans chunk read.leaf = reads_inside plans given chunk read is visits in
    record {
      at = inside.row;
      before = inside.before;
      reads = inside.reads;
      stays = λ later. hands read later visits;
    }

old_past : (plans : ScanPlans) (row number : ℕ) (old faulted : List ℕ) (given handed more : List Kept) (chunk : SelectedRows) → IsChunkOf plans chunk → row ≤ chunk.scope.rows.start → LeavesLieTogether (projection_plan plans) → HandsLeaves plans number chunk faulted given handed more → ((x : ℕ) → IsAmong x old → IsAmong x faulted) →
    (reason : Reason) → IsPastReason plans row handed old reason → IsPastReason plans chunk.scope.rows.end more faulted reason
old_past plans row number old faulted given handed more chunk is behind together hands wider reason (inl among) = inl (wider reason.chunk among)
old_past plans row number old faulted given handed more chunk is behind together hands wider reason (inr past) = inr (old_leaf plans row number faulted given handed more chunk is behind together hands reason.leaf past)

new_past : (plans : ScanPlans) (number : ℕ) (faulted : List ℕ) (given handed more : List Kept) (chunk : SelectedRows) → IsChunkOf plans chunk → IsAmong number faulted ⊎ HandsLeavesRead plans chunk given more → (reason : Reason) → IsNewReason plans number given handed chunk reason → IsPastReason plans chunk.scope.rows.end more faulted reason
new_past plans number faulted given handed more chunk is (inl among) reason new = inl (subst (λ (x : ℕ). IsAmong x faulted) (sym new.at) among)
new_past plans number faulted given handed more chunk is (inr hands) reason new = inr (new_leaf plans given more chunk is hands (read_for reason) new.reads)

pub past_more : (plans : ScanPlans) (chunks : List SelectedRows) (numbers : List ℕ) (row number : ℕ) (chunk : SelectedRows) (old faulted : List ℕ) (given handed more : List Kept) (segments : List ℕ) (reasons : List Reason) → RunsNext plans chunks numbers row number chunk
    → HandsLeaves plans number chunk faulted given handed more → ((x : ℕ) → IsAmong x old → IsAmong x faulted) → (fresh : NewReasons plans number given handed chunk segments) → AreInOrder chunks → LeavesLieTogether (projection_plan plans) → ArePast plans row handed old reasons → ArePast plans chunk.scope.rows.end more faulted (reasons ++ fresh.reasons)
past_more plans chunks numbers row number chunk old faulted given handed more segments reasons next hands wider fresh order together past =
    all-append (IsPastReason plans chunk.scope.rows.end more faulted) reasons fresh.reasons
    (each_weaker (IsPastReason plans row handed old) (IsPastReason plans chunk.scope.rows.end more faulted) (old_past plans row number old faulted given handed more chunk next.is (next.behind order) together hands wider) reasons past)
    (each_weaker (IsNewReason plans number given handed chunk) (IsPastReason plans chunk.scope.rows.end more faulted) (new_past plans number faulted given handed more chunk next.is hands.there) fresh.reasons fresh.each)
