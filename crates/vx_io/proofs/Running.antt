-- Runs of the machine one after another, and what a source gained in them.
use Rattle.std.proofs.Common.{◌≡◌, ℕ, Bool, true, false, zero, suc, ◌+◌, ◌<◌, ◌⊎◌, inl, inr, List, [], ◌∷◌, ◌++◌, Option, Some, None, length, map, take, refl, sym, ap, ◌∙◌, arith}
use Rattle.std.specs.Prelude.{slice_get, IsSomeAnd, IsTrue, Err}
use Rattle.std.proofs.lemmas.List.{map-append, append_assoc, append-nil}
use Rattle.vx_base.specs.declared.locations.SegmentLocation.{SegmentLocation}
use Rattle.vx_base.specs.declared.locations.AskedRange.{AskedRange}
use Rattle.vx_base.specs.Sources.{SourceState, Rose, RequestGives, range_of, asks_also}
use Rattle.vx_base.specs.declared.outside.SourceError.{SourceError}
use Rattle.vx_base.specs.declared.outside.SourceError.TheVariants.{Failed, Memory}
use Rattle.vx_io.specs.declared.requests.IoOwnerId.{IoOwnerId}
use Rattle.vx_io.specs.declared.requests.IoRequest.{IoRequest}
use Rattle.vx_io.specs.Ranges.{RangeTable, segment_of}
use Rattle.vx_io.specs.Session.{Table, SessionState, Step, asks, requested, ended, table_after, started_by, session_after, starts_of, requests_in, ends_in, Runs, location_of_target, range_of_target}
use Rattle.vx_io.specs.Submits.{owned, asked_with, AsksIn, Stays, Did, Submitted, DidOne, DidNone, StoppedAt}
use Rattle.vx_io.specs.Waits.{RefusedWhere}

-- ---- steps behind others

requests_then : (one two : List Step) → requests_in (one ++ two) ≡ requests_in one ++ requests_in two
requests_then [] two = refl
requests_then (requested owner request new ∷ one) two = ap (λ (rs : List (IoOwnerId × IoRequest)). (owner, request) ∷ rs) (requests_then one two)
requests_then (ended place ∷ one) two = requests_then one two

ends_then : (one two : List Step) → ends_in (one ++ two) ≡ ends_in one + ends_in two
ends_then [] two = omega arith
ends_then (requested owner request new ∷ one) two = ends_then one two
ends_then (ended place ∷ one) two = let rest = ends_then one two in omega (arith, rest)

table_then : (ranges : RangeTable) (table : Table) (one two : List Step) → session_after ranges table (one ++ two) ≡ session_after ranges (session_after ranges table one) two
table_then ranges table [] two = refl
table_then ranges table (step ∷ one) two = table_then ranges (table_after ranges table step) one two

starts_then : (ranges : RangeTable) (table : Table) (one two : List Step) → starts_of ranges table (one ++ two) ≡ starts_of ranges table one ++ starts_of ranges (session_after ranges table one) two
starts_then ranges table [] two = refl
starts_then ranges table (step ∷ one) two =
    let rest = starts_then ranges (table_after ranges table step) one two in
    ap (λ (reads : List (ℕ × SegmentLocation)). started_by ranges table step ++ reads) rest
    ∙ sym (append_assoc (started_by ranges table step) (starts_of ranges (table_after ranges table step) one) (starts_of ranges (session_after ranges (table_after ranges table step) one) two))

runs_then : (ranges : RangeTable) (ones twos : List (IoOwnerId × IoRequest)) (n m : ℕ) (old middle new : Table) (reads more : List (ℕ × SegmentLocation)) → Runs ranges ones n old middle reads → Runs ranges twos m middle new more → Runs ranges (ones ++ twos) (n + m) old new (reads ++ more)
runs_then ranges ones twos n m old middle new reads more one two = record {
  steps = one.steps ++ two.steps;
  requests_done = requests_then one.steps two.steps ∙ ap (λ (rs : List (IoOwnerId × IoRequest)). rs ++ requests_in two.steps) one.requests_done ∙ ap (λ (rs : List (IoOwnerId × IoRequest)). ones ++ rs) two.requests_done;
  fetches_ended = let p = ends_then one.steps two.steps in let q = one.fetches_ended in let r = two.fetches_ended in omega (arith, p, q, r);
  table = table_then ranges old one.steps two.steps ∙ ap (λ (t : Table). session_after ranges t two.steps) one.table ∙ two.table;
  starts = starts_then ranges old one.steps two.steps
      ∙ ap (λ (r : List (ℕ × SegmentLocation)). r ++ starts_of ranges (session_after ranges old one.steps) two.steps) one.starts
      ∙ ap (λ (t : Table). reads ++ starts_of ranges t two.steps) one.table ∙ ap (λ (r : List (ℕ × SegmentLocation)). reads ++ r) two.starts;
}

-- ---- asks behind others

asked_twice : (reads more : List (ℕ × SegmentLocation)) (asked : Option (List AskedRange)) → asked_with more (asked_with reads asked) ≡ asked_with (reads ++ more) asked
asked_twice reads more None = refl
asked_twice reads more (Some ranges) =
    let f : (ℕ × SegmentLocation) → AskedRange = λ (read : ℕ × SegmentLocation). range_of read.1 in
    ap Some (append_assoc ranges (map f reads) (map f more) ∙ ap (λ (rs : List AskedRange). ranges ++ rs) (sym (map-append f reads more)))

asked_none : (asked : Option (List AskedRange)) → asked ≡ asked_with [] asked
asked_none None = refl
asked_none (Some ranges) = ap Some (sym (append-nil ranges))

-- what was done behind what was done
pub did_then : (ranges : RangeTable) (ones twos : List (IoOwnerId × IoRequest)) (n m : ℕ) (old middle new : SessionState) → Did ranges ones n old middle → Did ranges twos m middle new → Did ranges (ones ++ twos) (n + m) old new
did_then ranges ones twos n m old middle new one two = record {
  started = one.started ++ two.started;
  ran = runs_then ranges ones twos n m old.table middle.table new.table one.started two.started one.ran two.ran;
  asked = two.asked ∙ ap (asked_with two.started) one.asked ∙ asked_twice one.started two.started old.source.asked;
}

pub did_nothing : (ranges : RangeTable) (old new : SessionState) → new.table ≡ old.table → new.source.asked ≡ old.source.asked → Did ranges [] 0 old new
did_nothing ranges old new same kept = record {
  started = [];
  ran = record { steps = []; requests_done = refl; fetches_ended = refl; table = sym same; starts = refl };
  asked = kept ∙ asked_none old.source.asked;
}

-- one fetch ended
pub did_end : (ranges : RangeTable) (place : ℕ) (old new : SessionState) → new.table ≡ table_after ranges old.table (ended place) → new.source.asked ≡ old.source.asked → Did ranges [] 1 old new
did_end ranges place old new done kept = record {
  started = [];
  ran = record { steps = ended place ∷ []; requests_done = refl; fetches_ended = omega arith; table = sym done; starts = refl };
  asked = kept ∙ asked_none old.source.asked;
}

pub did_submitted : (ranges : RangeTable) (requests : List (IoOwnerId × IoRequest)) (old new : SessionState) → Submitted ranges requests old new → Did ranges requests 0 old new
did_submitted ranges requests old new done = record { started = done.started; ran = done.ran; asked = done.asked }

-- ---- the requests of a batch, one after another

submitted_then : (ranges : RangeTable) (ones twos : List (IoOwnerId × IoRequest)) (old middle new : SessionState) → Submitted ranges ones old middle → Submitted ranges twos middle new → Submitted ranges (ones ++ twos) old new
submitted_then ranges ones twos old middle new one two = record {
  started = one.started ++ two.started;
  ran = runs_then ranges ones twos 0 0 old.table middle.table new.table one.started two.started one.ran two.ran;
  asked = two.asked ∙ ap (asked_with two.started) one.asked ∙ asked_twice one.started two.started old.source.asked;
  in_flight = two.in_flight ∙ ap (λ (reads : List (ℕ × SegmentLocation)). reads ++ two.started) one.in_flight ∙ append_assoc old.source.in_flight one.started two.started;
}

pub submitted_none : (ranges : RangeTable) (state : SessionState) → Submitted ranges [] state state
submitted_none ranges state = record {
  started = [];
  ran = record { steps = []; requests_done = refl; fetches_ended = refl; table = refl; starts = refl };
  asked = asked_none state.source.asked;
  in_flight = sym (append-nil state.source.in_flight);
}

submitted_one : (ranges : RangeTable) (owner : IoOwnerId) (request : IoRequest) (old new : SessionState) → DidOne ranges owner request old new → Submitted ranges ((owner, request) ∷ []) old new
submitted_one ranges owner request old new one = record {
  started = started_by ranges old.table (requested owner request one.ticket);
  ran = record { steps = requested owner request one.ticket ∷ []; requests_done = refl; fetches_ended = refl; table = sym one.table; starts = append-nil (started_by ranges old.table (requested owner request one.ticket)) };
  asked = one.asked;
  in_flight = one.in_flight;
}

take_more : (batch : List IoRequest) (n m : ℕ) (request : IoRequest) → m ≡ n + 1 → slice_get batch n ≡ Some request → take m batch ≡ take n batch ++ request ∷ []
take_more [] n m request next at = absurd cc
take_more (one ∷ batch) n zero request next at = absurd (omega (arith, next))
take_more (one ∷ batch) zero (suc m) request next at = let none : m ≡ zero = omega (arith, next) in let same : one ≡ request = cc in rw none (ap (λ (r : IoRequest). r ∷ []) same)
take_more (one ∷ batch) (suc n) (suc m) request next at = ap (λ (rs : List IoRequest). one ∷ rs) (take_more batch n m request (omega (arith, next)) at)

-- the first requests of a batch, and the next one
pub take_next : (batch : List IoRequest) (n : ℕ) (request : IoRequest) → slice_get batch n ≡ Some request → take (n + 1) batch ≡ take n batch ++ request ∷ []
take_next batch n request at = take_more batch n (n + 1) request refl at

owned_more : (owner : IoOwnerId) (batch : List IoRequest) (n : ℕ) (request : IoRequest) → slice_get batch n ≡ Some request → owned owner (take (n + 1) batch) ≡ owned owner (take n batch) ++ (owner, request) ∷ []
owned_more owner batch n request at = ap (owned owner) (take_next batch n request at) ∙ map-append (λ (r : IoRequest). (owner, r)) (take n batch) (request ∷ [])

pub submitted_more : (ranges : RangeTable) (owner : IoOwnerId) (batch : List IoRequest) (n : ℕ) (request : IoRequest) (old middle new : SessionState) → slice_get batch n ≡ Some request →
    Submitted ranges (owned owner (take n batch)) old middle → DidOne ranges owner request middle new → Submitted ranges (owned owner (take (n + 1) batch)) old new
submitted_more ranges owner batch n request old middle new at done one =
    rw (owned_more owner batch n request at) (submitted_then ranges (owned owner (take n batch)) ((owner, request) ∷ []) old middle new done (submitted_one ranges owner request middle new one))

-- ---- a request that was refused

-- what a refused request leaves of its source
pub record Refusal (ranges : RangeTable) (request : IoRequest) (error : SourceError) (table : Table) (before after : SourceState) : Type 0 where
  pub asked : (after.asked ≡ before.asked) ⊎ (AsksIn ranges table request × (after.asked ≡ asks_also (location_of_target request.target) before.asked))
  pub in_flight : after.in_flight ≡ before.in_flight
  pub stays : Stays before after
  pub failed : error ≡ Failed → AsksIn ranges table request × Rose before.faults after.faults
  pub unmade : error ≡ Memory → after.faults ≡ before.faults

-- where the request asks the source
refusal_asked : (ranges : RangeTable) (request : IoRequest) (error : SourceError) (table : Table) (before after : SourceState) → AsksIn ranges table request → RequestGives (Err error) (location_of_target request.target) before after → Refusal ranges request error table before after
refusal_asked ranges request Failed table before after asks gives = record {
  asked = either gives.0.asked;
  in_flight = gives.0.in_flight;
  stays = record { file = gives.0.file; idle = gives.0.idle };
  failed = λ same. (asks, gives.1);
  unmade = λ same. absurd cc;
}
  where
    either : ((after.asked ≡ before.asked) ⊎ (after.asked ≡ asks_also (location_of_target request.target) before.asked)) → (after.asked ≡ before.asked) ⊎ (AsksIn ranges table request × (after.asked ≡ asks_also (location_of_target request.target) before.asked))
    either (inl same) = inl same
    either (inr also) = inr (asks, also)
refusal_asked ranges request Memory table before after asks gives = record {
  asked = either gives.0.asked;
  in_flight = gives.0.in_flight;
  stays = record { file = gives.0.file; idle = gives.0.idle };
  failed = λ same. absurd cc;
  unmade = λ same. gives.1;
}
  where
    either : ((after.asked ≡ before.asked) ⊎ (after.asked ≡ asks_also (location_of_target request.target) before.asked)) → (after.asked ≡ before.asked) ⊎ (AsksIn ranges table request × (after.asked ≡ asks_also (location_of_target request.target) before.asked))
    either (inl same) = inl same
    either (inr also) = inr (asks, also)

refusal_unasked : (ranges : RangeTable) (request : IoRequest) (error : SourceError) (table : Table) (before after : SourceState) → error ≡ Memory → after ≡ before → Refusal ranges request error table before after
refusal_unasked ranges request error table before after lacks same = record {
  asked = inl (ap (λ (s : SourceState). s.asked) same);
  in_flight = ap (λ (s : SourceState). s.in_flight) same;
  stays = record { file = ap (λ (s : SourceState). s.file) same; idle = ap (λ (s : SourceState). s.idle) same };
  failed = λ failed. let never : Failed ≡ Memory = sym failed ∙ lacks in absurd cc;
  unmade = λ lacking. ap (λ (s : SourceState). s.faults) same;
}

pub refusal : (ranges : RangeTable) (request : IoRequest) (error : SourceError) (old new : SessionState) → DidNone ranges request error old new → Refusal ranges request error old.table old.source new.source
refusal ranges request error old new none = found (segment_of ranges (range_of_target request.target)) refl none.refused
  where
    place : SegmentLocation
    place = location_of_target request.target

    asking : (b : Bool) → (IsTrue b → AsksIn ranges old.table request) → RefusedWhere b error place old.source new.source → Refusal ranges request error old.table old.source new.source
    asking true asks gives = refusal_asked ranges request error old.table old.source new.source (asks refl) gives
    asking false asks gives = refusal_unasked ranges request error old.table old.source new.source gives.0 gives.1

    found : (one : Option ℕ) → segment_of ranges (range_of_target request.target) ≡ one → IsSomeAnd one (λ segment. RefusedWhere (asks request.intent (old.table.waiting segment)) error place old.source new.source) → Refusal ranges request error old.table old.source new.source
    found None is gives = absurd gives
    found (Some segment) is gives = asking (asks request.intent (old.table.waiting segment)) (λ true. rw is true) gives

-- the request behind those that were done was refused
pub stopped : (ranges : RangeTable) (owner : IoOwnerId) (batch : List IoRequest) (n : ℕ) (request : IoRequest) (error : SourceError) (old middle new : SessionState) → n < length batch → slice_get batch n ≡ Some request →
    Submitted ranges (owned owner (take n batch)) old middle → new.table ≡ middle.table → Refusal ranges request error middle.table middle.source new.source → StoppedAt ranges owner batch n old new
stopped ranges owner batch n request error old middle new within at done same none = record {
  within = within;
  started = done.started;
  ran = rw same done.ran;
  asked = gained none.asked;
  in_flight = none.in_flight ∙ done.in_flight;
}
  where
    gained : ((new.source.asked ≡ middle.source.asked) ⊎ (AsksIn ranges middle.table request × (new.source.asked ≡ asks_also (location_of_target request.target) middle.source.asked))) →
        ((new.source.asked ≡ asked_with done.started old.source.asked) ⊎ IsSomeAnd (slice_get batch n) (λ request. AsksIn ranges new.table request × (new.source.asked ≡ asks_also (location_of_target request.target) (asked_with done.started old.source.asked))))
    gained (inl kept) = inl (kept ∙ done.asked)
    gained (inr also) = inr (rw at (rw same also.0, also.1 ∙ ap (asks_also (location_of_target request.target)) done.asked))
