-- What the calls on a session mean for its run: fetches as reads that are outstanding.
use Rattle.std.proofs.Common.{◌≡◌, ℕ, zero, suc, ◌+◌, ◌<◌, List, [], ◌∷◌, ◌++◌, Option, Some, None, Ok, length, map, take, drop, refl, sym, ap, ◌∙◌, subst, arith, append-nil, append_assoc}
use Rattle.std.specs.Prelude.{option_and_then, slice_get, slice_set, remove, IsSome, IsSomeAnd}
use Rattle.std.specs.List.{All}
use Rattle.std.proofs.lemmas.List.{map-append}
use Rattle.std.proofs.lemmas.List.Elements.{All-cons, All-nil, All-head, All-tail}
use Rattle.vx_layout.specs.Rows.{segment_bytes}
use Rattle.vx_plan.proofs.Each.{each_at}
use Rattle.vx_steps.specs.ReadTableData.{Wanted}
use Rattle.vx_steps.proofs.Growing.{got_front}
use Rattle.vx_io.specs.declared.requests.Completion.{Completion}
use Rattle.vx_io.specs.declared.requests.IoRequest.{IoRequest}
use Rattle.vx_io.specs.declared.requests.IoIntent.TheVariants.{Fetch}
use Rattle.vx_io.specs.Ranges.{RangeTable, segment_of, IsTableOf}
use Rattle.vx_io.specs.Session.{Table, SessionState, range_of_target}
use Rattle.vx_io.specs.Submits.{IsKnown, IsFirstUnknown}
use Rattle.vx_io.specs.Polls.{AllGoOn, SessionPollGives}
use Rattle.vx_io.specs.Drive.{Wanted as WantedFetch, fetch_for}
use Rattle.vx_io.specs.Fetches.{fetches_of, NothingWaits, place_of, AllFetch, asked_for}
use Rattle.vx_io.proofs.Fetches.{fetch_ended, location_known}
use Rattle.vx_drive.specs.AdaptorData.{AdaptorData, reads_of, IsOutstanding, SomeOutstanding}
use Rattle.vx_drive.specs.Fetched.{fetch_at, location_of, fetches_from, AllLocated, unread, delivered}
use Rattle.vx_drive.specs.Waits.{owner, Completed}
use Rattle.vx_drive.proofs.Behind.{got_behind}
use Rattle.vx_base.specs.Sources.{IsSegment, bytes_at, range_of}
use Rattle.vx_base.specs.declared.locations.SegmentLocation.{SegmentLocation}
use Rattle.vx_base.specs.declared.locations.AskedRange.{AskedRange}

-- ---- calls

pub none_unknown : (ranges : RangeTable) (batch : List IoRequest) (place : ℕ) → All (IsKnown ranges) batch → IsFirstUnknown ranges batch place → ⊥
none_unknown ranges batch place known first = by_found (slice_get batch place) refl first.here
  where
    by_found : (found : Option IoRequest) → slice_get batch place ≡ found → IsSomeAnd found (λ request. segment_of ranges (range_of_target request.target) ≡ None) → ⊥
    by_found None here none = absurd none
    by_found (Some request) here none =
        let some : IsSome (segment_of ranges (range_of_target request.target)) = each_at (IsKnown ranges) batch place request here known in
        let both : IsSome {T = ℕ} None = rw none at some in
        absurd cc

pub completed : (ranges : RangeTable) (completion : Completion) (polls : ℕ) (old middle new : SessionState) → AllGoOn polls old middle → SessionPollGives ranges (Ok (Some completion)) middle new → Completed completion old new
completed ranges completion polls old middle new went gives =
    let ended = fetch_ended ranges completion middle new gives in
    record {
      ended = record {
        place = ended.place;
        at = ended.at;
        here = ap (λ (t : Table). slice_get (fetches_of t) ended.place) (sym went.table) ∙ ended.here;
        segment = subst (λ (f : Option (List ℕ)). IsSegment f ended.at completion.bytes.items) went.keeps.file ended.segment;
        gone = ended.gone ∙ ap (λ (t : Table). remove (fetches_of t) ended.place) went.table;
        waiting = λ nothing. ended.waiting (subst NothingWaits (sym went.table) nothing);
      };
      keeps = record { file = gives.1.keeps.file ∙ went.keeps.file; asked = gives.1.keeps.asked ∙ went.keeps.asked };
      faults = gives.3 ∙ went.faults;
      idle = let p = went.waited.kept in let q = gives.1.waited.kept in omega (arith, p, q);
    }

-- ---- batches

pub located_at : (locations : List SegmentLocation) (segment : ℕ) → segment < length locations → slice_get locations segment ≡ Some (location_of locations segment)
located_at [] segment within = absurd (omega (arith, within))
located_at (at ∷ locations) zero within = refl
located_at (at ∷ locations) (suc segment) within = located_at locations segment (omega (arith, within))

pub known_fetches : (ranges : RangeTable) (locations : List SegmentLocation) (number : ℕ) (segments : List ℕ) → IsTableOf ranges locations → AllLocated locations segments → All (IsKnown ranges) (fetches_from locations number segments)
known_fetches ranges locations number [] tells located = All-nil (IsKnown ranges)
known_fetches ranges locations number (segment ∷ segments) tells located =
    All-cons (IsKnown ranges) (fetch_at number (location_of locations segment)) (fetches_from locations (number + 1) segments)
    (location_known ranges locations segment (location_of locations segment) tells (located_at locations segment (All-head (λ one. one < length locations) segment segments located)))
    (known_fetches ranges locations (number + 1) segments tells (All-tail (λ one. one < length locations) segment segments located))

pub all_fetches : (locations : List SegmentLocation) (number : ℕ) (segments : List ℕ) → AllFetch (fetches_from locations number segments)
all_fetches locations number [] = All-nil (λ (request : IoRequest). request.intent ≡ Fetch)
all_fetches locations number (segment ∷ segments) =
    All-cons (λ (request : IoRequest). request.intent ≡ Fetch) (fetch_at number (location_of locations segment)) (fetches_from locations (number + 1) segments) refl (all_fetches locations (number + 1) segments)

pub fetches_places : (locations : List SegmentLocation) (number : ℕ) (segments : List ℕ) → map place_of (fetches_from locations number segments) ≡ map (location_of locations) segments
fetches_places locations number [] = refl
fetches_places locations number (segment ∷ segments) = ap (λ (ps : List SegmentLocation). location_of locations segment ∷ ps) (fetches_places locations (number + 1) segments)

pub fetches_taken : (locations : List SegmentLocation) (number count : ℕ) (segments : List ℕ) → take count (fetches_from locations number segments) ≡ fetches_from locations number (take count segments)
fetches_taken locations number zero segments = refl
fetches_taken locations number (suc count) [] = refl
fetches_taken locations number (suc count) (segment ∷ segments) = ap (λ (fs : List IoRequest). fetch_at number (location_of locations segment) ∷ fs) (fetches_taken locations (number + 1) count segments)

pub asked_then : (ones twos : List SegmentLocation) (asked : Option (List AskedRange)) → asked_for twos (asked_for ones asked) ≡ asked_for (ones ++ twos) asked
asked_then ones twos None = refl
asked_then ones twos (Some ranges) = ap Some (append_assoc ranges (map range_of ones) (map range_of twos) ∙ ap (λ (rs : List AskedRange). ranges ++ rs) (sym (map-append range_of ones twos)))

pub asked_nothing : (asked : Option (List AskedRange)) → asked_for [] asked ≡ asked
asked_nothing None = refl
asked_nothing (Some ranges) = ap Some (append-nil ranges)

-- ---- outstanding reads

abbrev pub if_outstanding : Option (List ℕ) → WantedFetch → List WantedFetch → List WantedFetch
if_outstanding None fetch rest = fetch ∷ rest
if_outstanding (Some bytes) fetch rest = rest

-- the fetches of the reads whose bytes did not come, numbered by the places of the reads
abbrev pub outstanding : List SegmentLocation → ℕ → List Wanted → List WantedFetch
outstanding locations number [] = []
outstanding locations number (read ∷ reads) =
    if_outstanding read.bytes (record { owner = owner; request = record { 0 = number }; at = location_of locations read.segment }) (outstanding locations (number + 1) reads)

if_more : (bytes : Option (List ℕ)) (fetch : WantedFetch) (ones twos : List WantedFetch) → if_outstanding bytes fetch (ones ++ twos) ≡ if_outstanding bytes fetch ones ++ twos
if_more None fetch ones twos = refl
if_more (Some bytes) fetch ones twos = refl

outstanding_unread : (locations : List SegmentLocation) (number : ℕ) (segments : List ℕ) → outstanding locations number (map unread segments) ≡ map (fetch_for owner) (fetches_from locations number segments)
outstanding_unread locations number [] = refl
outstanding_unread locations number (segment ∷ segments) = ap (λ (ws : List WantedFetch). fetch_for owner (fetch_at number (location_of locations segment)) ∷ ws) (outstanding_unread locations (number + 1) segments)

pub outstanding_more : (locations : List SegmentLocation) (number : ℕ) (reads : List Wanted) (segments : List ℕ) → outstanding locations number (reads ++ map unread segments) ≡ outstanding locations number reads ++ map (fetch_for owner) (fetches_from locations (number + length reads) segments)
outstanding_more locations number [] segments =
    let same : number ≡ number + 0 = omega arith in
    outstanding_unread locations number segments ∙ ap (λ (n : ℕ). map (fetch_for owner) (fetches_from locations n segments)) same
outstanding_more locations number (read ∷ reads) segments =
    let head : WantedFetch = record { owner = owner; request = record { 0 = number }; at = location_of locations read.segment } in
    let same : number + 1 + length reads ≡ number + length (read ∷ reads) = omega arith in
    ap (if_outstanding read.bytes head) (outstanding_more locations (number + 1) reads segments ∙ ap (λ (n : ℕ). outstanding locations (number + 1) reads ++ map (fetch_for owner) (fetches_from locations n segments)) same)
    ∙ if_more read.bytes head (outstanding locations (number + 1) reads) (map (fetch_for owner) (fetches_from locations (number + length (read ∷ reads)) segments))

-- a fetch that is outstanding, as the read that it was made for
pub record OutstandingAt (locations : List SegmentLocation) (number : ℕ) (reads : List Wanted) (place : ℕ) (fetch : WantedFetch) : Type 0 where
  pub read : ℕ
  pub segment : ℕ
  pub number_is : fetch.request.0 ≡ number + read
  pub here : slice_get reads read ≡ Some (unread segment)
  pub at : fetch.at ≡ location_of locations segment
  pub gone : (bytes : List ℕ) → remove (outstanding locations number reads) place ≡ outstanding locations number (slice_set reads read (delivered segment bytes))

outstanding_head : (locations : List SegmentLocation) (number segment : ℕ) (bytes : Option (List ℕ)) (reads : List Wanted) (place : ℕ) (fetch : WantedFetch) →
    ((p : ℕ) → slice_get (outstanding locations (number + 1) reads) p ≡ Some fetch → OutstandingAt locations (number + 1) reads p fetch) →
    slice_get (outstanding locations number (record { segment = segment; bytes = bytes } ∷ reads)) place ≡ Some fetch → OutstandingAt locations number (record { segment = segment; bytes = bytes } ∷ reads) place fetch
outstanding_head locations number segment None reads zero fetch rest here =
    let head : WantedFetch = record { owner = owner; request = record { 0 = number }; at = location_of locations segment } in
    let same : head ≡ fetch = cc in
    record {
      read = 0;
      segment = segment;
      number_is = let is = ap (λ (w : WantedFetch). w.request.0) (sym same) in omega (arith, is);
      here = refl;
      at = ap (λ (w : WantedFetch). w.at) (sym same);
      gone = λ bytes. refl;
    }
outstanding_head locations number segment None reads (suc place) fetch rest here =
    let head : WantedFetch = record { owner = owner; request = record { 0 = number }; at = location_of locations segment } in
    let behind = rest place here in
    record {
      read = suc behind.read;
      segment = behind.segment;
      number_is = let is = behind.number_is in omega (arith, is);
      here = behind.here;
      at = behind.at;
      gone = λ bytes. ap (λ (ws : List WantedFetch). head ∷ ws) (behind.gone bytes);
    }
outstanding_head locations number segment (Some told) reads place fetch rest here =
    let behind = rest place here in
    record {
      read = suc behind.read;
      segment = behind.segment;
      number_is = let is = behind.number_is in omega (arith, is);
      here = behind.here;
      at = behind.at;
      gone = behind.gone;
    }

pub outstanding_at : (locations : List SegmentLocation) (number : ℕ) (reads : List Wanted) (place : ℕ) (fetch : WantedFetch) → slice_get (outstanding locations number reads) place ≡ Some fetch → OutstandingAt locations number reads place fetch
outstanding_at locations number [] place fetch here = absurd cc
outstanding_at locations number (read ∷ reads) place fetch here =
    outstanding_head locations number read.segment read.bytes reads place fetch (λ p at. outstanding_at locations (number + 1) reads p fetch at) here

-- where a read waits, a fetch is outstanding
if_some : (bytes : Option (List ℕ)) (fetch : WantedFetch) (rest : List WantedFetch) → 0 < length rest → 0 < length (if_outstanding bytes fetch rest)
if_some None fetch rest some = omega arith
if_some (Some bytes) fetch rest some = some

if_none : (bytes : Option (List ℕ)) (fetch : WantedFetch) (rest : List WantedFetch) → bytes ≡ None → 0 < length (if_outstanding bytes fetch rest)
if_none None fetch rest is = omega arith
if_none (Some bytes) fetch rest is = absurd cc

waits_at : (locations : List SegmentLocation) (number : ℕ) (reads : List Wanted) (place : ℕ) (read : Wanted) → slice_get reads place ≡ Some read → read.bytes ≡ None → 0 < length (outstanding locations number reads)
waits_at locations number [] place read here none = absurd cc
waits_at locations number (one ∷ reads) zero read here none =
    let same : one ≡ read = cc in
    if_none one.bytes (record { owner = owner; request = record { 0 = number }; at = location_of locations one.segment }) (outstanding locations (number + 1) reads) (ap (λ (r : Wanted). r.bytes) same ∙ none)
waits_at locations number (one ∷ reads) (suc place) read here none =
    if_some one.bytes (record { owner = owner; request = record { 0 = number }; at = location_of locations one.segment }) (outstanding locations (number + 1) reads) (waits_at locations (number + 1) reads place read here none)

waits_in : (locations : List SegmentLocation) (number : ℕ) (reads : List Wanted) (place : ℕ) (found : Option Wanted) → slice_get reads place ≡ found → IsSomeAnd found (λ read. read.bytes ≡ None) → 0 < length (outstanding locations number reads)
waits_in locations number reads place None here none = absurd none
waits_in locations number reads place (Some read) here none = waits_at locations number reads place read here none

pub some_outstanding : (locations : List SegmentLocation) (adaptor : AdaptorData) → SomeOutstanding adaptor → 0 < length (outstanding locations 0 (reads_of adaptor))
some_outstanding locations adaptor (number, (asked, (handed, none))) =
    waits_in locations 0 (reads_of adaptor) number (slice_get adaptor.scan.progress.reads.wanted (adaptor.first + number))
    (got_front (drop adaptor.first adaptor.scan.progress.reads.wanted) adaptor.asked number asked ∙ got_behind adaptor.scan.progress.reads.wanted adaptor.first number) none

-- a read among those that were asked for, whose bytes did not come, is outstanding
pub is_outstanding : (adaptor : AdaptorData) (number segment : ℕ) → adaptor.first + adaptor.asked ≡ adaptor.scan.progress.reads.handed → slice_get (reads_of adaptor) number ≡ Some (unread segment) → IsOutstanding adaptor number
is_outstanding adaptor number segment handed here =
    let asked = inside_front (drop adaptor.first adaptor.scan.progress.reads.wanted) adaptor.asked number (unread segment) here in
    let at : slice_get adaptor.scan.progress.reads.wanted (adaptor.first + number) ≡ Some (unread segment) =
    sym (got_front (drop adaptor.first adaptor.scan.progress.reads.wanted) adaptor.asked number asked ∙ got_behind adaptor.scan.progress.reads.wanted adaptor.first number) ∙ here in
    (asked, (omega (arith, asked, handed), rw at refl))
  where
    inside_front : (reads : List Wanted) (n i : ℕ) (read : Wanted) → slice_get (take n reads) i ≡ Some read → i < n
    inside_front reads zero i read at = absurd cc
    inside_front [] (suc n) i read at = absurd cc
    inside_front (one ∷ reads) (suc n) zero read at = omega arith
    inside_front (one ∷ reads) (suc n) (suc i) read at = let rest = inside_front reads n i read at in omega (arith, rest)

-- ---- bytes

-- the bytes at a location are those of its segment
pub bytes_told : (file : List ℕ) (locations : List SegmentLocation) (segment : ℕ) (told : Option (List ℕ)) (at : SegmentLocation) (bytes : List ℕ) → segment < length locations → at ≡ location_of locations segment → told ≡ Some file → IsSegment told at bytes → segment_bytes file locations segment ≡ Some bytes
bytes_told file locations segment told at bytes within place is has =
    let here : bytes_at file at ≡ Some bytes = rw is at has.told in
    ap (option_and_then (bytes_at file)) (located_at locations segment within) ∙ ap (bytes_at file) (sym place) ∙ here
