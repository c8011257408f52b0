-- Why the source is asked again for one chunk: for whole values, through the take by which the chunk asks for them; and for
-- what its rows read outside of these.
use Rattle.std.proofs.Common.{◌≡◌, ◌≢◌, ℕ, ◌+◌, ◌<◌, List, [], ◌∷◌, ◌++◌, Some, None, Result, Ok, Err, length, map, refl, sym, ap, ◌∙◌, subst, arith}
use Rattle.std.specs.Prelude.{IfOk}
use Rattle.std.specs.List.{flat_map, All, AllByRecursion}
use Rattle.std.proofs.lemmas.Grind.{flat_map-append}
use Rattle.std.proofs.lemmas.List.{map-append}
use Rattle.std.proofs.lemmas.List.Elements.{All-nil, All-cons, All-append, All-head, All-tail}
use Rattle.std.proofs.lemmas.List.Kept.{AllPairs-cons}
use Rattle.vx_rows.specs.Given.{GivenValues}
use Rattle.vx_rows.specs.Reads.{Way, directly, through, IsAmong}
use Rattle.vx_rows.specs.Heads.{Head}
use Rattle.vx_plan.specs.Nodes.{Node}
use Rattle.vx_plan.specs.Plans.{plan_at, plan_head}
use Rattle.vx_plan.specs.Refs.{number_of}
use Rattle.vx_plan.specs.Rules.{node_at}
use Rattle.vx_plan.proofs.Adding.{head_in_table}
use Rattle.vx_steps.specs.declared.leaf_reads.LeafRead.{LeafRead}
use Rattle.vx_steps.specs.Given.{given_for}
use Rattle.vx_steps.specs.Kept.{kept_at, IsKept}
use Rattle.vx_steps.specs.KeptData.{Kept}
use Rattle.vx_steps.specs.Rows.{SomeRow}
use Rattle.vx_steps.specs.Visits.{Visits}
use Rattle.vx_steps.proofs.ReadVisits.{no_columns, selected_leaf}
use Rattle.vx_splits.specs.declared.selected_rows.SelectedRows.{SelectedRows}
use Rattle.vx_io.specs.Fetches.{asked_for}
use Rattle.vx_drive.specs.declared.errors.ScanError.{ScanError}
use Rattle.vx_drive.specs.declared.plans.ScanPlans.{ScanPlans}
use Rattle.vx_drive.specs.Asks.{AsksOnly}
use Rattle.vx_drive.specs.Fetched.{AreDistinct, location_of}
use Rattle.vx_drive.specs.Plans.{projection_plan}
use Rattle.vx_drive.proofs.Distinct.{differs, distinct_behind, distinct_by, distinct_none, distinct_then}
use Rattle.vx_drive.proofs.Sessions.{asked_nothing, asked_then}
use Rattle.vx_chunks.specs.ChunkRows.{given_to, ChunkReaches}
use Rattle.vx_chunks.specs.Outcomes.{ChunkAsks, IsWanted}
use Rattle.vx_chunks.specs.Ways.{whole_number}
use Rattle.vx_chunks.specs.Ways.{ReadsBy}
use Rattle.vx_chunks.proofs.ChunkScanning.{IsGoodChunk}
use Rattle.vx_chunks.proofs.OutsideReads.{read_directly}
use Rattle.vx_chunks.proofs.Ways.{read_visited, IsFree}
use Rattle.vx_chunks.proofs.WholeReads.{asked_take, read_through, take_tells, IsWholeBy, WholeReads}
use Rattle.vx_workers.specs.Certified.{ValueRead, leaf_in, segment_in, node_and_segment, IsValueRead, Certifies}
use Rattle.vx_workers.specs.Reasons.{Reason, chunk_and_segment, segment_of, taken_by, take_and_segment}
use Rattle.vx_workers.proofs.Certifying.{each_weaker, still_lacking}
use Rattle.vx_workers.proofs.Taken.{taken_apart}
use Rattle.vx_execute.specs.Validated.{AsksForOne, IsReasonOf, IsThroughKept, IsThroughLacking}
use Rattle.vx_execute.specs.Validating.{direct_by, direct_and_segment, IsDirectAmong}
use Rattle.vx_execute.proofs.AskingAgain.{not_both}
use Rattle.vx_base.specs.Columns.{ColumnData}
use Rattle.vx_base.specs.Sources.{SourceState}
use Rattle.vx_base.specs.declared.locations.SegmentLocation.{SegmentLocation}
use Rattle.vx_base.proofs.AllFit.{all-append}

-- ---- results

pub when_ok : {X : Type 0} (result : Result X ScanError) (P : X → Type 0) → ((x : X) → P x) → IfOk result P
when_ok (Ok x) P f = f x
when_ok (Err error) P f = tt

there_with : {X : Type 0} (result : Result X ScanError) (P Q : Type 0) → (P → Q) → IfOk result (λ x. P) → IfOk result (λ x. Q)
there_with (Ok x) P Q f holds = f holds
there_with (Err error) P Q f holds = tt

-- ---- reasons

-- where nothing is given, nothing stands in place of what is read
free_of : (given : GivenValues) → ((n : ℕ) → given n ≡ None) → (way : Way) → IsFree given way
free_of given none directly = tt
free_of given none (through n) = none n

-- what a row reads by a way it reaches
way_reaches : (plans : ScanPlans) (chosen : SelectedRows) (way : Way) (read : LeafRead) → SomeRow (ReadsBy way read (projection_plan plans)) chosen.scope.rows.start chosen.mask → ChunkReaches plans chosen read.segment
way_reaches plans chosen way read (place, at, v) =
    selected_leaf (given_to plans []) plans.row_offset (projection_plan plans) chosen.scope.rows.start chosen.mask read
    (place, at, read_visited way read (given_for plans.table []) (free_of (given_for plans.table []) (no_columns plans.table) way) (projection_plan plans) (chosen.scope.rows.start + place) v)

is_reason : (plans : ScanPlans) (chosen : SelectedRows) (number leaf segment : ℕ) (way : Way) → SomeRow (ReadsBy way (record { leaf = leaf; segment = segment }) (projection_plan plans)) chosen.scope.rows.start chosen.mask →
    IsReasonOf plans chosen number (record { chunk = number; leaf = leaf; segment = segment; way = way })
is_reason plans chosen number leaf segment way reads = record { place = refl; reads = reads; reaches = way_reaches plans chosen way (record { leaf = leaf; segment = segment }) reads }

-- ---- through takes

abbrev IsThrough : Reason → Type 0
IsThrough reason = (take : ℕ) × (reason.way ≡ through take)

-- the number of the whole values of a take, and the segment
abbrev number_and_segment : List Node → ℕ × ℕ → ℕ × ℕ
number_and_segment nodes (take, segment) = (whole_number (plan_at nodes take), segment)

-- the take by which the chunk asks for the values of the read
record TakeOf (plans : ScanPlans) (chosen : SelectedRows) (read : ValueRead) : Type 0 where
  take : ℕ
  tells : whole_number (plan_at plans.table take) ≡ read.node
  reads : SomeRow (ReadsBy (through take) (leaf_in read) (projection_plan plans)) chosen.scope.rows.start chosen.mask

take_of : (plans : ScanPlans) (chosen : SelectedRows) (right : List Kept) (read : ValueRead) → IsGoodChunk plans chosen → IsValueRead plans (ChunkAsks plans [] chosen) right read → TakeOf plans chosen read
take_of plans chosen right read is of =
    let m : ℕ = number_of plans.projection in
    let place : ℕ = of.wanted.0 in
    let row : ℕ = chosen.scope.rows.start + place in
    let by : (take : ℕ) × Visits (IsWholeBy take read.node) (given_to plans []) (projection_plan plans) row = asked_take read.node (given_to plans []) (projection_plan plans) row of.wanted.2 in
    let rows : (plan_head (plan_at plans.table read.node)).rows ≡ (node_at plans.table read.node).rows = ap (λ (head : Head). head.rows) (head_in_table plans.table is.good read.node of.known) in
    let less = of.visited.1 in
    let whole : WholeReads plans.table (leaf_in read) read.node = (of.visited.0, omega (arith, rows, less), of.visited.2) in
    record {
      take = by.0;
      tells = take_tells plans.table is.good m is.known by.0 read.node (given_to plans []) row by.1;
      reads = (place, of.wanted.1, read_through plans.table is.good m is.known by.0 read.node (leaf_in read) (given_for plans.table []) row whole by.1);
    }

-- the reasons of such reads
record ReasonsOf (plans : ScanPlans) (chosen : SelectedRows) (number : ℕ) (right : List Kept) (reads : List ValueRead) : Type 0 where
  reasons : List Reason
  segments : map segment_of reasons ≡ map segment_in reads
  are : AllByRecursion (IsReasonOf plans chosen number) reasons
  by_takes : AllByRecursion IsThrough reasons
  lacking : AllByRecursion (IsThroughLacking plans right) reasons
  kept : (new : List Kept) → AllByRecursion (λ (read : ValueRead). IsKept new read.node) reads → AllByRecursion (IsThroughKept plans new) reasons
  pairs : map (number_and_segment plans.table) (flat_map take_and_segment reasons) ≡ map node_and_segment reads

no_reasons : (plans : ScanPlans) (chosen : SelectedRows) (number : ℕ) (right : List Kept) → ReasonsOf plans chosen number right []
no_reasons plans chosen number right = record { reasons = []; segments = refl; are = tt; by_takes = tt; lacking = tt; kept = λ new each. tt; pairs = refl }

same_take : (one two : ℕ) → through one ≡ through two → one ≡ two
same_take one two same = cc

reasons_of : (plans : ScanPlans) (chosen : SelectedRows) (number : ℕ) (right : List Kept) (reads : List ValueRead) → IsGoodChunk plans chosen → AllByRecursion (IsValueRead plans (ChunkAsks plans [] chosen) right) reads → ReasonsOf plans chosen number right reads
reasons_of plans chosen number right [] is each = no_reasons plans chosen number right
reasons_of plans chosen number right (read ∷ reads) is each =
    let by : TakeOf plans chosen read = take_of plans chosen right read is each.0 in
    let rest : ReasonsOf plans chosen number right reads = reasons_of plans chosen number right reads is each.1 in
    let reason : Reason = record { chunk = number; leaf = read.leaf; segment = read.segment; way = through by.take } in
    record {
      reasons = reason ∷ rest.reasons;
      segments = ap (λ (ss : List ℕ). read.segment ∷ ss) rest.segments;
      are = (is_reason plans chosen number read.leaf read.segment (through by.take) by.reads, rest.are);
      by_takes = ((by.take, refl), rest.by_takes);
      lacking = ((λ take same. ap (λ (k : ℕ). kept_at right (whole_number (plan_at plans.table k))) (sym (same_take by.take take same)) ∙ (ap (kept_at right) by.tells ∙ each.0.lacked)), rest.lacking);
      kept = λ new kept. (
        (λ take same. subst (λ (k : ℕ). IsKept new (whole_number (plan_at plans.table k))) (same_take by.take take same) (subst (IsKept new) (sym by.tells) kept.0)),
        rest.kept new kept.1,
      );
      pairs = ap {B = List (ℕ × ℕ)} (λ (pairs : List (ℕ × ℕ)). (whole_number (plan_at plans.table by.take), read.segment) ∷ pairs) rest.pairs ∙ ap {B = List (ℕ × ℕ)} (λ (k : ℕ). (k, read.segment) ∷ map node_and_segment reads) by.tells;
    }

-- what is apart once mapped is apart
all_unmapped : {X Y : Type 0} (f : X → Y) (x : X) (ys : List X) → All (λ z. f x ≢ z) (map f ys) → All (λ y. x ≢ y) ys
all_unmapped f x [] apart = All-nil (λ y. x ≢ y)
all_unmapped f x (y ∷ ys) apart =
    All-cons (λ z. x ≢ z) y ys (λ same. All-head (λ z. f x ≢ z) (f y) (map f ys) apart (ap f same)) (all_unmapped f x ys (All-tail (λ z. f x ≢ z) (f y) (map f ys) apart))

distinct_mapped : {X Y : Type 0} (f : X → Y) (xs : List X) → AreDistinct (map f xs) → AreDistinct xs
distinct_mapped f [] apart = distinct_none
distinct_mapped f (x ∷ xs) apart = AllPairs-cons (λ one two. one ≢ two) x xs (all_unmapped f x xs (differs (f x) (map f xs) apart)) (distinct_mapped f xs (distinct_behind (f x) (map f xs) apart))

-- they are not direct
way_not : (take : ℕ) → through take ≡ directly → ⊥
way_not take same = cc

none_direct_by : (way : Way) (chunk segment take : ℕ) → way ≡ through take → direct_by way chunk segment ≡ []
none_direct_by directly chunk segment take same = absurd (way_not take (sym same))
none_direct_by (through other) chunk segment take same = refl

none_direct : (reasons : List Reason) → AllByRecursion IsThrough reasons → flat_map direct_and_segment reasons ≡ []
none_direct [] each = refl
none_direct (reason ∷ reasons) each = ap (λ (first : List (ℕ × ℕ)). first ++ flat_map direct_and_segment reasons) (none_direct_by reason.way reason.chunk reason.segment each.0.0 each.0.1) ∙ none_direct reasons each.1

through_direct : (numbers : List ℕ) (reason : Reason) → IsThrough reason → IsDirectAmong numbers reason
through_direct numbers reason (take, is) same = absurd (way_not take (sym is ∙ same))

-- ---- directly

abbrev IsDirect : ℕ → Reason → Type 0
IsDirect number reason = (reason.way ≡ directly) × (reason.chunk ≡ number)

-- the reasons of segments that are read where values are given for all whole ones that the chunk asks for
record DirectReasons (plans : ScanPlans) (chosen : SelectedRows) (number : ℕ) (segments : List ℕ) : Type 0 where
  reasons : List Reason
  same : map segment_of reasons ≡ segments
  are : AllByRecursion (IsReasonOf plans chosen number) reasons
  direct : AllByRecursion (IsDirect number) reasons

no_direct : (plans : ScanPlans) (chosen : SelectedRows) (number : ℕ) → DirectReasons plans chosen number []
no_direct plans chosen number = record { reasons = []; same = refl; are = tt; direct = tt }

-- values are given for all whole ones that the chunk asks for
abbrev pub AllGiven : ScanPlans → SelectedRows → List Kept → Type 0
AllGiven plans chosen given = (n : ℕ) → ChunkAsks plans [] chosen n → IsKept given n

direct_reasons : (plans : ScanPlans) (chosen : SelectedRows) (number : ℕ) (given : List Kept) (segments : List ℕ) → IsGoodChunk plans chosen → AllGiven plans chosen given → All (IsWanted plans given [] chosen) segments → DirectReasons plans chosen number segments
direct_reasons plans chosen number given [] is there wanted = no_direct plans chosen number
direct_reasons plans chosen number given (segment ∷ segments) is there wanted =
    let one : IsWanted plans given [] chosen segment = All-head (IsWanted plans given [] chosen) segment segments wanted in
    let rest : DirectReasons plans chosen number segments = direct_reasons plans chosen number given segments is there (All-tail (IsWanted plans given [] chosen) segment segments wanted) in
    let read : LeafRead = record { leaf = one.leaf; segment = segment } in
    let reads : SomeRow (ReadsBy directly read (projection_plan plans)) chosen.scope.rows.start chosen.mask = (
      one.visited.0,
      one.visited.1,
      read_directly plans.table is.good given (number_of plans.projection) (chosen.scope.rows.start + one.visited.0) is.known (λ n v. there n (one.visited.0, one.visited.1, v)) read one.visited.2,
    )
    in
    record {
      reasons = record { chunk = number; leaf = one.leaf; segment = segment; way = directly } ∷ rest.reasons;
      same = ap (λ (ss : List ℕ). segment ∷ ss) rest.same;
      are = (is_reason plans chosen number one.leaf segment directly reads, rest.are);
      direct = ((refl, refl), rest.direct);
    }

none_taken_by : (way : Way) (segment : ℕ) → way ≡ directly → taken_by way segment ≡ []
none_taken_by directly segment same = refl
none_taken_by (through take) segment same = absurd (way_not take same)

none_taken : (number : ℕ) (reasons : List Reason) → AllByRecursion (IsDirect number) reasons → flat_map take_and_segment reasons ≡ []
none_taken number [] each = refl
none_taken number (reason ∷ reasons) each = ap (λ (first : List (ℕ × ℕ)). first ++ flat_map take_and_segment reasons) (none_taken_by reason.way reason.segment each.0.0) ∙ none_taken number reasons each.1

direct_one : (way : Way) (chunk segment : ℕ) → way ≡ directly → direct_by way chunk segment ≡ (chunk, segment) ∷ []
direct_one directly chunk segment same = refl
direct_one (through take) chunk segment same = absurd (way_not take same)

all_direct : (number : ℕ) (reasons : List Reason) → AllByRecursion (IsDirect number) reasons → flat_map direct_and_segment reasons ≡ map chunk_and_segment reasons
all_direct number [] each = refl
all_direct number (reason ∷ reasons) each =
    ap (λ (first : List (ℕ × ℕ)). first ++ flat_map direct_and_segment reasons) (direct_one reason.way reason.chunk reason.segment each.0.0) ∙ ap {B = List (ℕ × ℕ)} (λ (rest : List (ℕ × ℕ)). (reason.chunk, reason.segment) ∷ rest) (all_direct number reasons each.1)

direct_lacking : (plans : ScanPlans) (right : List Kept) (number : ℕ) (reason : Reason) → IsDirect number reason → IsThroughLacking plans right reason
direct_lacking plans right number reason (is, here) take same = absurd (way_not take (sym same ∙ is))

direct_kept : (plans : ScanPlans) (right : List Kept) (number : ℕ) (reason : Reason) → IsDirect number reason → IsThroughKept plans right reason
direct_kept plans right number reason (is, here) take same = absurd (way_not take (sym same ∙ is))

-- ---- what is asked for one chunk

-- nothing
pub asks_none : (plans : ScanPlans) (chosen : SelectedRows) (number : ℕ) (right : List Kept) (reruns : List ℕ) (result : Result ColumnData ScanError) (source : SourceState) → AsksForOne plans chosen number right right reruns result source source
asks_none plans chosen number right reruns result source = record {
  reasons = [];
  are = tt;
  lacking = tt;
  kept = when_ok result (λ column. AllByRecursion (IsThroughKept plans right) []) (λ column. tt);
  direct = tt;
  located = All-nil (λ segment. segment < length plans.locations.items);
  asked = sym (asked_nothing source.asked);
  once_a_chunk = distinct_none;
  once_a_take = distinct_none;
}

-- directly, for a chunk that runs again with values for all whole ones
pub asks_direct : (plans : ScanPlans) (chosen : SelectedRows) (number : ℕ) (right given : List Kept) (reruns : List ℕ) (result : Result ColumnData ScanError) (before after : SourceState) → IsGoodChunk plans chosen → AllGiven plans chosen given → IsAmong number reruns → AsksOnly (IsWanted plans given [] chosen) plans.locations.items before after →
    AsksForOne plans chosen number right right reruns result before after
asks_direct plans chosen number right given reruns result before after is there among asks =
    let of : DirectReasons plans chosen number asks.segments = direct_reasons plans chosen number given asks.segments is there asks.wanted in
    let apart : AreDistinct (map segment_of of.reasons) = subst AreDistinct (sym of.same) asks.asks.apart in
    record {
      reasons = of.reasons;
      are = of.are;
      lacking = each_weaker (IsDirect number) (IsThroughLacking plans right) (direct_lacking plans right number) of.reasons of.direct;
      kept = when_ok result (λ column. AllByRecursion (IsThroughKept plans right) of.reasons) (λ column. each_weaker (IsDirect number) (IsThroughKept plans right) (direct_kept plans right number) of.reasons of.direct);
      direct = each_weaker (IsDirect number) (IsDirectAmong reruns) (λ reason direct same. subst (λ (n : ℕ). IsAmong n reruns) (sym direct.1) among) of.reasons of.direct;
      located = subst (All (λ segment. segment < length plans.locations.items)) (sym of.same) asks.asks.located;
      asked = subst (λ (ss : List ℕ). after.asked ≡ asked_for (map (location_of plans.locations.items) ss) before.asked) (sym of.same) asks.asks.asked;
      once_a_chunk = subst AreDistinct (sym (all_direct number of.reasons of.direct)) (distinct_by (IsDirect number) chunk_and_segment segment_of (λ one two first second same. ap (λ (pair : ℕ × ℕ). pair.1) same) of.reasons of.direct apart);
      once_a_take = subst AreDistinct (sym (none_taken number of.reasons of.direct)) distinct_none;
    }

-- nothing was asked, and the source is another
pub asks_quiet : (plans : ScanPlans) (chosen : SelectedRows) (number : ℕ) (right : List Kept) (reruns : List ℕ) (result : Result ColumnData ScanError) (before after : SourceState) → after.asked ≡ before.asked → AsksForOne plans chosen number right right reruns result before after
asks_quiet plans chosen number right reruns result before after same = record {
  reasons = [];
  are = tt;
  lacking = tt;
  kept = when_ok result (λ column. AllByRecursion (IsThroughKept plans right) []) (λ column. tt);
  direct = tt;
  located = All-nil (λ segment. segment < length plans.locations.items);
  asked = same ∙ sym (asked_nothing before.asked);
  once_a_chunk = distinct_none;
  once_a_take = distinct_none;
}

-- for whole values that the chunk asks for, and then for more
pub asks_then : (plans : ScanPlans) (chosen : SelectedRows) (number : ℕ) (old mid new : List Kept) (reruns : List ℕ) (result : Result ColumnData ScanError) (before now after : SourceState) → IsGoodChunk plans chosen → Certifies plans (ChunkAsks plans [] chosen) old mid None before now →
    ((n : ℕ) (column : ColumnData) → kept_at mid n ≡ Some column → kept_at new n ≡ Some column) → AsksForOne plans chosen number mid new reruns result now after → AsksForOne plans chosen number old new reruns result before after
asks_then plans chosen number old mid new reruns result before now after is step grows asks =
    let of : ReasonsOf plans chosen number old step.reads = reasons_of plans chosen number old step.reads is step.are in
    let kept : AllByRecursion (IsThroughKept plans mid) of.reasons = of.kept mid (step.kept refl) in
    let segments : map segment_of (of.reasons ++ asks.reasons) ≡ map segment_in step.reads ++ map segment_of asks.reasons = map-append segment_of of.reasons asks.reasons ∙ ap (λ (ss : List ℕ). ss ++ map segment_of asks.reasons) of.segments in
    record {
      reasons = of.reasons ++ asks.reasons;
      are = all-append (IsReasonOf plans chosen number) of.reasons asks.reasons of.are asks.are;
      lacking = all-append (IsThroughLacking plans old) of.reasons asks.reasons of.lacking
          (each_weaker (IsThroughLacking plans mid) (IsThroughLacking plans old) (λ reason lacks take same. still_lacking old mid (whole_number (plan_at plans.table take)) step.grows (lacks take same) (kept_at old (whole_number (plan_at plans.table take))) refl) asks.reasons asks.lacking);
      kept = there_with result (AllByRecursion (IsThroughKept plans new) asks.reasons) (AllByRecursion (IsThroughKept plans new) (of.reasons ++ asks.reasons))
          (λ later. all-append (IsThroughKept plans new) of.reasons asks.reasons
          (each_weaker (IsThroughKept plans mid) (IsThroughKept plans new) (λ reason there take same. ((there take same).0, grows (whole_number (plan_at plans.table take)) (there take same).0 (there take same).1)) of.reasons kept) later) asks.kept;
      direct = all-append (IsDirectAmong reruns) of.reasons asks.reasons (each_weaker IsThrough (IsDirectAmong reruns) (through_direct reruns) of.reasons of.by_takes) asks.direct;
      located = subst (All (λ segment. segment < length plans.locations.items)) (sym segments)
          (All-append (λ segment. segment < length plans.locations.items) (map segment_in step.reads) (map segment_of asks.reasons) step.located asks.located);
      asked = asks.asked
          ∙ (ap (asked_for (map (location_of plans.locations.items) (map segment_of asks.reasons))) step.asked
          ∙ (asked_then (map (location_of plans.locations.items) (map segment_in step.reads)) (map (location_of plans.locations.items) (map segment_of asks.reasons)) before.asked
          ∙ ap (λ (places : List SegmentLocation). asked_for places before.asked)
          (sym (map-append (location_of plans.locations.items) (map segment_in step.reads) (map segment_of asks.reasons)) ∙ ap (map (location_of plans.locations.items)) (sym segments))));
      once_a_chunk = subst AreDistinct (sym (flat_map-append direct_and_segment of.reasons asks.reasons ∙ ap (λ (first : List (ℕ × ℕ)). first ++ flat_map direct_and_segment asks.reasons) (none_direct of.reasons of.by_takes))) asks.once_a_chunk;
      once_a_take = subst AreDistinct (sym (flat_map-append take_and_segment of.reasons asks.reasons))
          (distinct_then (flat_map take_and_segment of.reasons) (flat_map take_and_segment asks.reasons)
          (distinct_mapped (number_and_segment plans.table) (flat_map take_and_segment of.reasons) (subst AreDistinct (sym of.pairs) step.apart)) asks.once_a_take
          (taken_apart (IsThroughKept plans mid) (IsThroughLacking plans mid) (λ one two take there lacks first second. not_both mid (whole_number (plan_at plans.table take)) (there take first) (lacks take second)) of.reasons asks.reasons kept asks.lacking));
    }

-- for whole values that can't be read
pub asks_failed : (plans : ScanPlans) (chosen : SelectedRows) (number : ℕ) (old new : List Kept) (reruns : List ℕ) (error : ScanError) (before after : SourceState) → IsGoodChunk plans chosen → Certifies plans (ChunkAsks plans [] chosen) old new (Some error) before after → AsksForOne plans chosen number old new reruns (Err error) before after
asks_failed plans chosen number old new reruns error before after is step =
    let of : ReasonsOf plans chosen number old step.reads = reasons_of plans chosen number old step.reads is step.are in
    record {
      reasons = of.reasons;
      are = of.are;
      lacking = of.lacking;
      kept = tt;
      direct = each_weaker IsThrough (IsDirectAmong reruns) (through_direct reruns) of.reasons of.by_takes;
      located = subst (All (λ segment. segment < length plans.locations.items)) (sym of.segments) step.located;
      asked = subst (λ (ss : List ℕ). after.asked ≡ asked_for (map (location_of plans.locations.items) ss) before.asked) (sym of.segments) step.asked;
      once_a_chunk = subst AreDistinct (sym (none_direct of.reasons of.by_takes)) distinct_none;
      once_a_take = distinct_mapped (number_and_segment plans.table) (flat_map take_and_segment of.reasons) (subst AreDistinct (sym of.pairs) step.apart);
    }
