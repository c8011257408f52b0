-- Reads that follow one another, as one batch of fetches.
use Rattle.std.proofs.Common.{◌≡◌, ◌≢◌, ℕ, suc, ◌+◌, ◌-◌, ◌<◌, ◌≤◌, ◌⊎◌, inl, inr, List, [], ◌∷◌, ◌++◌, Option, Some, None, length, map, take, drop, true, false, refl, sym, ap, ◌∙◌, subst, arith, append-nil, append_assoc}
use Rattle.std.specs.Prelude.{IsSomeAnd}
use Rattle.std.specs.List.{All, slice_get}
use Rattle.std.proofs.lemmas.List.{map-append, length-map, length-append}
use Rattle.std.proofs.lemmas.List.Elements.{All-push, All-nil, All-cons, All-weaker}
use Rattle.std.proofs.lemmas.List.Quantifiers.{all_pairs_push}
use Rattle.std.proofs.lemmas.Option.{slice_get_within}
use Rattle.vx_steps.specs.declared.reads.ReadRequest.{ReadRequest}
use Rattle.vx_steps.specs.declared.progress.Turn.TheVariants as turns
use Rattle.vx_steps.specs.Standings.{left_of}
use Rattle.vx_steps.specs.ReadTable.{StandsAt}
use Rattle.vx_steps.specs.ReadTableData.{Wanted}
use Rattle.vx_steps.specs.ScanData.{ScanData}
use Rattle.vx_steps.specs.Steps.{HandsRead, IsHandedOut}
use Rattle.vx_steps.specs.Wants.{Grows, IsAsked}
use Rattle.vx_steps.proofs.SelectedRows.{length_taken}
use Rattle.vx_steps.proofs.Needing.{asked_grows}
use Rattle.vx_steps.proofs.Growing.{got_front, stands_by, take_got, take_grown}
use Rattle.vx_io.specs.declared.requests.IoRequest.{IoRequest}
use Rattle.vx_drive.specs.AdaptorData.{AreAskedReads}
use Rattle.vx_drive.specs.Computes.{LacksLocation}
use Rattle.vx_drive.specs.Fetched.{fetch_at, location_of, fetches_from, AllLocated, AreDistinctNumbers, unread, segments_in}
use Rattle.vx_drive.specs.Batched.{count_behind, reads_behind, Batched, GivesTurn, IsLive}
use Rattle.vx_drive.proofs.Behind.{got_behind, grows_behind}
use Rattle.vx_drive.proofs.Continuing.{continues_same, continues_then}
use Rattle.vx_drive.proofs.FewApart.{few_apart}
use Rattle.vx_base.specs.declared.locations.SegmentLocation.{SegmentLocation}

-- ---- numbers

fetches_push : (locations : List SegmentLocation) (number : ℕ) (segments : List ℕ) (segment : ℕ) → fetches_from locations number (segments ++ segment ∷ []) ≡ fetches_from locations number segments ++ fetch_at (number + length segments) (location_of locations segment) ∷ []
fetches_push locations number [] segment = let same : number ≡ number + 0 = omega arith in ap (λ (n : ℕ). fetch_at n (location_of locations segment) ∷ []) same
fetches_push locations number (one ∷ segments) segment =
    let same : number + 1 + length segments ≡ number + length (one ∷ segments) = omega arith in
    ap (λ (fs : List IoRequest). fetch_at number (location_of locations one) ∷ fs) (fetches_push locations (number + 1) segments segment
    ∙ ap (λ (n : ℕ). fetches_from locations (number + 1) segments ++ fetch_at n (location_of locations segment) ∷ []) same)

-- so many reads, each of another segment that has a location
pub few_asked : (locations : List SegmentLocation) (first count : ℕ) (scan : ScanData) → AreAskedReads locations first count scan.progress.reads → count ≤ length locations
few_asked locations first count scan asked =
    let reads = take count (drop first scan.progress.reads.wanted) in
    let few = few_apart (segments_in reads) (length locations) asked.apart asked.located in
    let size = length-map reads (λ (read : Wanted). read.segment) in
    let all = length_taken (drop first scan.progress.reads.wanted) count asked.wanted in
    omega (arith, few, size, all)

-- ---- one read

pub read_of : (request : ReadRequest) (old new : ScanData) → GivesTurn (turns.Read request) old new → HandsRead old.job old.progress new.progress request
read_of request old new gives = taken gives.takes
  where
    taken : ((old.refused ≡ true) × (turns.Read request ≡ turns.Done) × (new ≡ old)) ⊎ ((old.refused ≡ false) × HandsRead old.job old.progress new.progress request) → HandsRead old.job old.progress new.progress request
    taken (inl (refused, done, same)) = absurd cc
    taken (inr (going, takes)) = takes

fresh_in : (reads : List Wanted) (segment : ℕ) → ((i : ℕ) (read : Wanted) → slice_get reads i ≡ Some read → read.segment ≢ segment) → All (λ one. one ≢ segment) (segments_in reads)
fresh_in [] segment others = All-nil (λ one. one ≢ segment)
fresh_in (read ∷ reads) segment others = All-cons (λ one. one ≢ segment) read.segment (segments_in reads) (others 0 read refl) (fresh_in reads segment (λ i other at. others (suc i) other at))

-- none of the reads before is of the segment
fresh_read : (first : ℕ) (request : ReadRequest) (old new : ScanData) → Grows old.progress.reads.wanted new.progress.reads.wanted → count_behind first old.progress.reads ≤ length (drop first old.progress.reads.wanted) → HandsRead old.job old.progress new.progress request →
    All (λ one. one ≢ request.segment_id) (segments_in (reads_behind first old.progress.reads))
fresh_read first request old new grows inside hands = fresh_in (reads_behind first old.progress.reads) request.segment_id (λ i read at same.
    let size = length_taken (drop first old.progress.reads.wanted) (count_behind first old.progress.reads) inside in
    let within = slice_get_within (reads_behind first old.progress.reads) i read at in
    let below : i < old.progress.reads.handed - first = omega (arith, size, within) in
    let there = sym (got_front (drop first old.progress.reads.wanted) (count_behind first old.progress.reads) i below) ∙ at in
    let here = grows (first + i) read (sym (got_behind old.progress.reads.wanted first i) ∙ there) in
    let stands = subst (λ (segment : ℕ). StandsAt new.progress.reads.wanted segment (first + i)) same (stands_by new.progress.reads.wanted (first + i) read here) in
    let it = hands.first (first + i) stands in
    let number = hands.number in
    absurd (omega (arith, below, it, number)))

read_here : (request : ReadRequest) (old new : ScanData) → HandsRead old.job old.progress new.progress request → slice_get new.progress.reads.wanted old.progress.reads.handed ≡ Some (unread request.segment_id)
read_here request old new hands = subst (λ (n : ℕ). slice_get new.progress.reads.wanted n ≡ Some (unread request.segment_id)) hands.number hands.segment

read_asked : (request : ReadRequest) (old new : ScanData) → HandsRead old.job old.progress new.progress request → IsAsked new.progress.reads.wanted request.segment_id
read_asked request old new hands = (old.progress.reads.handed, stands_by new.progress.reads.wanted old.progress.reads.handed (unread request.segment_id) (read_here request old new hands))

stands_grown : (old new : List Wanted) → Grows old new → (segment place : ℕ) (found : Option Wanted) → slice_get old place ≡ found → IsSomeAnd found (λ w. w.segment ≡ segment) → StandsAt new segment place
stands_grown old new grows segment place None at stands = absurd stands
stands_grown old new grows segment place (Some w) at stands = subst (λ (s : ℕ). StandsAt new s place) stands (stands_by new place w (grows place w at))

-- no read of the segment was handed out before, however long ago
not_before : (request : ReadRequest) (first old new : ScanData) → Grows first.progress.reads.wanted new.progress.reads.wanted → first.progress.reads.handed ≤ old.progress.reads.handed → HandsRead old.job old.progress new.progress request → IsHandedOut first.progress.reads request.segment_id → ⊥
not_before request first old new grows before hands (place, below, stands) =
    let it = hands.first place (stands_grown first.progress.reads.wanted new.progress.reads.wanted grows request.segment_id place (slice_get first.progress.reads.wanted place) refl stands) in
    let number = hands.number in
    omega (arith, below, it, number, before)

-- behind the first ones it stands as the next
read_behind : (first : ℕ) (request : ReadRequest) (old new : ScanData) → first ≤ old.progress.reads.handed → HandsRead old.job old.progress new.progress request → slice_get (drop first new.progress.reads.wanted) (count_behind first old.progress.reads) ≡ Some (unread request.segment_id)
read_behind first request old new before hands =
    let place : first + (old.progress.reads.handed - first) ≡ old.progress.reads.handed = omega (arith, before) in
    got_behind new.progress.reads.wanted first (count_behind first old.progress.reads) ∙ ap (slice_get new.progress.reads.wanted) place ∙ read_here request old new hands

reads_push : (first : ℕ) (request : ReadRequest) (old new : ScanData) → Grows old.progress.reads.wanted new.progress.reads.wanted → first ≤ old.progress.reads.handed → count_behind first old.progress.reads ≤ length (drop first old.progress.reads.wanted) → HandsRead old.job old.progress new.progress request →
    reads_behind first new.progress.reads ≡ reads_behind first old.progress.reads ++ unread request.segment_id ∷ []
reads_push first request old new grows before inside hands =
    let handed = hands.handed in
    let next : new.progress.reads.handed - first ≡ (old.progress.reads.handed - first) + 1 = omega (arith, handed, before) in
    ap (λ (n : ℕ). take n (drop first new.progress.reads.wanted)) next
    ∙ take_got (drop first new.progress.reads.wanted) (count_behind first old.progress.reads) (unread request.segment_id) (read_behind first request old new before hands)
    ∙ ap (λ (rs : List Wanted). rs ++ unread request.segment_id ∷ []) (take_grown (drop first old.progress.reads.wanted) (drop first new.progress.reads.wanted) (count_behind first old.progress.reads) (grows_behind old.progress.reads.wanted new.progress.reads.wanted first grows) inside)

segments_push : (reads : List Wanted) (segment : ℕ) → segments_in (reads ++ unread segment ∷ []) ≡ segments_in reads ++ segment ∷ []
segments_push reads segment = map-append (λ (read : Wanted). read.segment) reads (unread segment ∷ [])

-- the reads are still apart and located
asked_push : (locations : List SegmentLocation) (first : ℕ) (request : ReadRequest) (old new : ScanData) → Grows old.progress.reads.wanted new.progress.reads.wanted → AreAskedReads locations first (count_behind first old.progress.reads) old.progress.reads → HandsRead old.job old.progress new.progress request → request.segment_id < length locations →
    AreAskedReads locations first (count_behind first new.progress.reads) new.progress.reads
asked_push locations first request old new grows asked hands within =
    let segment : ℕ = request.segment_id in
    let all = asked.all in
    let handed = hands.handed in
    let before : first ≤ old.progress.reads.handed = omega (arith, all) in
    let reads = reads_push first request old new grows before asked.wanted hands in
    let segments : segments_in (reads_behind first new.progress.reads) ≡ segments_in (reads_behind first old.progress.reads) ++ segment ∷ [] = ap segments_in reads ∙ segments_push (reads_behind first old.progress.reads) segment in
    let fresh = fresh_read first request old new grows asked.wanted hands in
    let here = slice_get_within (drop first new.progress.reads.wanted) (count_behind first old.progress.reads) (unread segment) (read_behind first request old new before hands) in
    record {
      all = omega (arith, before, handed);
      wanted = omega (arith, here, handed, before);
      apart = subst AreDistinctNumbers (sym segments) (all_pairs_push (λ (one two : ℕ). one ≢ two) (segments_in (reads_behind first old.progress.reads)) segment asked.apart fresh);
      located = subst (AllLocated locations) (sym segments) (All-push (λ one. one < length locations) (segments_in (reads_behind first old.progress.reads)) segment asked.located within);
    }

-- ---- one read after another

pub batch_none : (locations : List SegmentLocation) (first : ℕ) (batch : List IoRequest) (scan : ScanData) → batch ≡ [] → AreAskedReads locations first (count_behind first scan.progress.reads) scan.progress.reads → Batched locations first batch scan scan
batch_none locations first batch scan none asked = record {
  segments = [];
  batch_is = none;
  located = All-nil (λ segment. segment < length locations);
  fresh = All-nil (λ segment. IsHandedOut scan.progress.reads segment → ⊥);
  handed = omega arith;
  fits = λ fits. fits;
  reads = sym (append-nil (reads_behind first scan.progress.reads));
  asked = asked;
  stand = All-nil (IsAsked scan.progress.reads.wanted);
  left = refl;
  fewer = omega arith;
  scan = continues_same scan;
  none = λ is. refl;
  live = λ some. absurd (omega (arith, some));
}

-- a scan that hands a read out is live, and stays so
live_read : (request : ReadRequest) (old new : ScanData) → GivesTurn (turns.Read request) old new → IsLive new
live_read request old new gives = by_takes gives.takes
  where
    by_takes : ((old.refused ≡ true) × (turns.Read request ≡ turns.Done) × (new ≡ old)) ⊎ ((old.refused ≡ false) × HandsRead old.job old.progress new.progress request) → IsLive new
    by_takes (inl (refused, done, same)) = absurd cc
    by_takes (inr (going, takes)) = (gives.scan.refused ∙ going, λ none. takes.some_left (sym takes.left ∙ ap (λ job. left_of job new.progress) (sym gives.scan.keeps.job) ∙ none))

no_push : (segments : List ℕ) (segment : ℕ) → segments ++ segment ∷ [] ≡ [] → ⊥
no_push [] segment none = absurd cc
no_push (one ∷ segments) segment none = absurd cc

pub batch_more : (locations : List SegmentLocation) (first : ℕ) (batch more : List IoRequest) (old middle new : ScanData) (request : ReadRequest) (at : SegmentLocation) → first ≤ old.progress.reads.handed → Batched locations first batch old middle → GivesTurn (turns.Read request) middle new →
    request.segment_id < length locations → at ≡ location_of locations request.segment_id → more ≡ batch ++ fetch_at (request.id.0 - first) at ∷ [] → Batched locations first more old new
batch_more locations first batch more old middle new request at before so_far gives within place added =
    let segment : ℕ = request.segment_id in
    let hands = read_of request middle new gives in
    let grows = gives.scan.keeps.grows in
    let size = length-append so_far.segments (segment ∷ []) in
    let is = hands.number in
    let counted = so_far.handed in
    let number : request.id.0 - first ≡ (old.progress.reads.handed - first) + length so_far.segments = omega (arith, is, counted, before) in
    let still : first ≤ middle.progress.reads.handed = omega (arith, counted, before) in
    let goes_on = continues_then old middle new so_far.scan gives.scan in
    record {
      segments = so_far.segments ++ segment ∷ [];
      batch_is = added ∙ ap (λ (fs : List IoRequest). fs ++ fetch_at (request.id.0 - first) at ∷ []) so_far.batch_is
          ∙ (λ i. fetches_from locations (count_behind first old.progress.reads) so_far.segments ++ fetch_at (number i) (place i) ∷ [])
          ∙ sym (fetches_push locations (count_behind first old.progress.reads) so_far.segments segment);
      located = All-push (λ one. one < length locations) so_far.segments segment so_far.located within;
      fresh = All-push (λ one. IsHandedOut old.progress.reads one → ⊥) so_far.segments segment so_far.fresh
          (not_before request old middle new goes_on.keeps.grows (omega (arith, counted)) hands);
      handed = let next = hands.handed in omega (arith, next, counted, size);
      fits = λ fits. hands.bounded;
      reads = reads_push first request middle new grows still so_far.asked.wanted hands
          ∙ ap (λ (rs : List Wanted). rs ++ unread segment ∷ []) so_far.reads
          ∙ append_assoc (reads_behind first old.progress.reads) (map unread so_far.segments) (unread segment ∷ [])
          ∙ ap (λ (rs : List Wanted). reads_behind first old.progress.reads ++ rs) (sym (map-append unread so_far.segments (segment ∷ [])));
      asked = asked_push locations first request middle new grows so_far.asked hands within;
      stand = All-push (IsAsked new.progress.reads.wanted) so_far.segments segment
          (All-weaker (IsAsked middle.progress.reads.wanted) (IsAsked new.progress.reads.wanted) (λ one. asked_grows middle.progress.reads.wanted new.progress.reads.wanted grows one) so_far.segments so_far.stand)
          (read_asked request middle new hands);
      left = ap (λ job. left_of job new.progress) gives.scan.keeps.job ∙ hands.left ∙ so_far.left;
      fewer = let p = gives.fewer tt in let q = so_far.fewer in omega (arith, p, q, size);
      scan = goes_on;
      none = λ is. absurd (no_push so_far.segments segment is);
      live = λ some. live_read request middle new gives;
    }

-- ---- a read without a location

pub lacks_location : (locations : List SegmentLocation) (first : ℕ) (batch : List IoRequest) (old middle new : ScanData) (request : ReadRequest) → Batched locations first batch old middle → GivesTurn (turns.Read request) middle new → length locations ≤ request.segment_id → LacksLocation locations request.segment_id old new
lacks_location locations first batch old middle new request so_far gives lacks =
    let hands = read_of request middle new gives in
    record {
      lacks = lacks;
      place = middle.progress.reads.handed;
      from = let before = so_far.handed in omega (arith, before);
      handed = let next = hands.handed in omega (arith, next);
      read = stands_by new.progress.reads.wanted middle.progress.reads.handed (unread request.segment_id) (read_here request middle new hands);
      wanted = (continues_then old middle new so_far.scan gives.scan).wants request.segment_id (read_asked request middle new hands);
      scan = continues_then old middle new so_far.scan gives.scan;
    }
