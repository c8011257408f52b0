-- One read of a list goes on, and so do all.
use Rattle.std.proofs.Common.{◌≡◌, ◌≢◌, ℕ, ◌+◌, ◌≤◌, ◌⊎◌, inl, inr, Bool, true, false, List, [], ◌∷◌, ◌++◌, Option, Some, None, slice_set, refl, sym, ap, ◌∙◌, subst, arith}
use Rattle.std.specs.Prelude.{option_and_then, IfSome, IsSome, IsSomeAnd}
use Rattle.std.specs.List.{slice_get}
use Rattle.std.specs.Global.{Vec}
use Rattle.vx_base.specs.declared.locations.SegmentLocation.{SegmentLocation}
use Rattle.vx_base.specs.Sources.{SourceState, Started, Ended, IsSegment, location_of, range_of, bytes_at, without}
use Rattle.vx_reads.specs.declared.reads.ReadState.{ReadState}
use Rattle.vx_reads.specs.declared.reads.ReadState.TheVariants as states
use Rattle.vx_reads.specs.declared.reads.SegmentRead.{SegmentRead}
use Rattle.vx_reads.specs.Reads.{bytes_in, ticket_in, read_with, segments_of, ticket_at, file_bytes, HasTicket, CameAt, IsInFlight, AreInFlight, HasBytes, HaveBytes, AsksOnly, IsRangeOf, GoOn, IsStarted, IsEnded, IsSame, NoneCame, StartsBy, PollsBy, IsAtSource}
use Rattle.vx_reads.proofs.Going.{at_set, set_same, set_there, segments_set, segment_there, asks_none, asks_one, some_in, waits, begins}
use Rattle.vx_reads.proofs.Flights.{gone_without, located_others, located_still, located_without}

kept_state : (locations : List SegmentLocation) (ones others : List (ℕ × SegmentLocation)) (segment : ℕ) (s : ReadState) → ((ticket : ℕ) (at : SegmentLocation) → ticket_in s ≡ Some ticket → location_of ticket ones ≡ Some at → location_of ticket others ≡ Some at) → IsInFlight locations ones (read_with segment s) → IsInFlight locations others (read_with segment s)
kept_state locations ones others segment states.NotAsked keep is = tt
kept_state locations ones others segment (states.Came bytes) keep is = tt
kept_state locations ones others segment (states.InFlight ticket) keep is = by (slice_get locations segment) is
  where
    by : (o : Option SegmentLocation) → IsSomeAnd o (λ at. location_of ticket ones ≡ Some at) → IsSomeAnd o (λ at. location_of ticket others ≡ Some at)
    by None h = h
    by (Some at) h = keep ticket at refl h

kept_one : (locations : List SegmentLocation) (ones others : List (ℕ × SegmentLocation)) (o : Option SegmentRead) → ((ticket : ℕ) (at : SegmentLocation) → option_and_then (λ (read : SegmentRead). ticket_in read.state) o ≡ Some ticket → location_of ticket ones ≡ Some at → location_of ticket others ≡ Some at) → IfSome o (IsInFlight locations ones) → IfSome o (IsInFlight locations others)
kept_one locations ones others None keep is = tt
kept_one locations ones others (Some read) keep is = kept_state locations ones others read.segment read.state keep is

pub ticket_of : (reads : List SegmentRead) (place : ℕ) (read : SegmentRead) → slice_get reads place ≡ Some read → ticket_at reads place ≡ ticket_in read.state
ticket_of reads place read at = ap (option_and_then (λ (read : SegmentRead). ticket_in read.state)) at

-- where the read at a place is in flight under a ticket, it is so at the source, for its location
pub located_at : (locations : List SegmentLocation) (reads : List SegmentRead) (in_flight : List (ℕ × SegmentLocation)) (place : ℕ) (read : SegmentRead) (ticket : ℕ) → AreInFlight locations reads in_flight → slice_get reads place ≡ Some read → read.state ≡ states.InFlight ticket → (at : SegmentLocation) × (slice_get locations read.segment ≡ Some at) × (location_of ticket in_flight ≡ Some at)
located_at locations reads in_flight place read ticket located at is =
    let here : IfSome (Some read) (IsInFlight locations in_flight) = subst (λ (o : Option SegmentRead). IfSome o (IsInFlight locations in_flight)) at (located.located place) in
    let F : ReadState → Type 0 = λ s. IfSome (ticket_in s) (λ ticket. IsSomeAnd (slice_get locations read.segment) (λ at. location_of ticket in_flight ≡ Some at)) in
    let there : F (states.InFlight ticket) = subst F is here in
    by (slice_get locations read.segment) refl there
  where
    by : (o : Option SegmentLocation) → slice_get locations read.segment ≡ o → IsSomeAnd o (λ at. location_of ticket in_flight ≡ Some at) → (at : SegmentLocation) × (slice_get locations read.segment ≡ Some at) × (location_of ticket in_flight ≡ Some at)
    by None e h = absurd h
    by (Some at) e h = (at, e, h)

is_some : {X : Type 0} (o : Option X) (x : X) → o ≡ Some x → IsSome o
is_some None x e = absurd cc
is_some (Some y) x e = refl

-- what a poll asks for
pub at_source : (locations : List SegmentLocation) (reads : List SegmentRead) (source : SourceState) (place : ℕ) (read : SegmentRead) → AreInFlight locations reads source.in_flight → slice_get reads place ≡ Some read → IsAtSource read.state source
at_source locations reads source place read located at = by read.state refl
  where
    by : (s : ReadState) → read.state ≡ s → IsAtSource s source
    by states.NotAsked e = tt
    by (states.Came bytes) e = tt
    by (states.InFlight ticket) e =
        let l = located_at locations reads source.in_flight place read ticket located at e in
        is_some (location_of ticket source.in_flight) l.0 l.2

-- ---- a read is started

none_some : {X : Type 0} (o : Option X) (x : X) → o ≡ None → o ≡ Some x → ⊥
none_some None x none some = cc
none_some (Some y) x none some = cc

-- a read that has no bytes yet is none of those that stay
no_bytes : (reads : List SegmentRead) (place j : ℕ) (old read : SegmentRead) → slice_get reads place ≡ Some old → bytes_in old.state ≡ None → j ≡ place → slice_get reads j ≡ Some read → IsSome (bytes_in read.state) → ⊥
no_bytes reads place j old read at none same there came =
    let is_it : old ≡ read = some_in old read (sym at ∙ ap (slice_get reads) (sym same) ∙ there) in
    let here : bytes_in read.state ≡ None = ap (λ (r : SegmentRead). bytes_in r.state) (sym is_it) ∙ none in
    let has : IsSome {T = List ℕ} None = subst (λ (o : Option (List ℕ)). IsSome o) here came in
    cc

-- where a read that has no bytes yet is written, those that have some stay
-- a read beside the one that is written, which was not in flight, is in flight still
going_set : (reads : List SegmentRead) (place j t : ℕ) (new : SegmentRead) → ticket_at reads place ≡ None → ticket_at reads j ≡ Some t →
    ((j ≡ place) × (slice_get (slice_set reads place new) j ≡ Some new)) ⊎ ((j ≢ place) × (slice_get (slice_set reads place new) j ≡ slice_get reads j)) → (ticket_at (slice_set reads place new) j ≡ Some t) ⊎ CameAt (slice_set reads place new) j
going_set reads place j t new none has (inl (same, is)) = absurd (none_some (ticket_at reads place) t none (ap (ticket_at reads) (sym same) ∙ has))
going_set reads place j t new none has (inr (differ, is)) = inl (ap (option_and_then (λ (read : SegmentRead). ticket_in read.state)) is ∙ has)

kept_set : (reads : List SegmentRead) (place j : ℕ) (old new read : SegmentRead) → slice_get reads place ≡ Some old → bytes_in old.state ≡ None → slice_get reads j ≡ Some read → IsSome (bytes_in read.state) →
    ((j ≡ place) × (slice_get (slice_set reads place new) j ≡ Some new)) ⊎ ((j ≢ place) × (slice_get (slice_set reads place new) j ≡ slice_get reads j)) → slice_get (slice_set reads place new) j ≡ Some read
kept_set reads place j old new read at none there came (inl (same, is)) = absurd (no_bytes reads place j old read at none same there came)
kept_set reads place j old new read at none there came (inr (differ, is)) = is ∙ there

-- a ticket that none of the new reads has is one of the old only where they lost it
no_ticket : (reads : List SegmentRead) (place j other : ℕ) (new : SegmentRead) → (ticket_at reads place ≡ Some other → ⊥) → (HasTicket (slice_set reads place new) other → ⊥) → ticket_at reads j ≡ Some other →
    ((j ≡ place) × (slice_get (slice_set reads place new) j ≡ Some new)) ⊎ ((j ≢ place) × (slice_get (slice_set reads place new) j ≡ slice_get reads j)) → ⊥
no_ticket reads place j other new lost foreign has (inl (same, is)) = lost (ap (ticket_at reads) (sym same) ∙ has)
no_ticket reads place j other new lost foreign has (inr (differ, is)) = foreign (j, ap (option_and_then (λ (read : SegmentRead). ticket_in read.state)) is ∙ has)

last_found : (reads : List (ℕ × SegmentLocation)) (ticket other : ℕ) (at : SegmentLocation) (whole : List (ℕ × SegmentLocation)) → whole ≡ reads ++ (ticket, at) ∷ [] → (at2 : SegmentLocation) → location_of other reads ≡ Some at2 → location_of other whole ≡ Some at2
last_found reads ticket other at whole is at2 found = ap (location_of other) is ∙ located_still reads ((ticket, at) ∷ []) other at2 found

pub go_started : (locations : List SegmentLocation) (reads : List SegmentRead) (place : ℕ) (old new : SegmentRead) (before after : SourceState) → slice_get reads place ≡ Some old → old.state ≡ states.NotAsked → AreInFlight locations reads before.in_flight → IsStarted locations old new before after → GoOn locations reads (slice_set reads place new) before after
go_started locations reads place old new before after at asked located is =
    let ticket : ℕ = is.0 in
    let where_is : SegmentLocation = is.1 in
    let has : slice_get locations old.segment ≡ Some where_is = is.2 in
    let new_is : new ≡ read_with old.segment (states.InFlight ticket) = is.3 in
    let started : Started where_is ticket before after = is.4 in
    let segment_is : new.segment ≡ old.segment = ap (λ (r : SegmentRead). r.segment) new_is in
    let ticket_is : ticket_in new.state ≡ Some ticket = ap (λ (r : SegmentRead). ticket_in r.state) new_is in
    let news : List SegmentRead = slice_set reads place new in
    let still : (other : ℕ) (at2 : SegmentLocation) → location_of other before.in_flight ≡ Some at2 → location_of other after.in_flight ≡ Some at2 = λ other at2 found. last_found before.in_flight ticket other where_is after.in_flight started.in_flight at2 found in
    let no_other : (j : ℕ) → ticket_at reads j ≡ Some ticket → ⊥ = λ j e. not_before ticket started.fresh j e in
    record {
      touches = record {
        file = started.file;
        asks = subst (AsksOnly (IsRangeOf locations (segments_of reads)) before.asked) (sym started.asked) (asks_one (IsRangeOf locations (segments_of reads)) where_is before.asked (place, range_there where_is has));
        others = λ other at2 foreign found. still other at2 found;
        faults = (let e = started.faults in omega arith);
        idle = (let e = started.idle in omega arith);
      };
      segments = segments_set reads place old new at segment_is;
      in_flight = record {
        located = λ j. located_in j ticket where_is has new_is started.located still (at_set reads place j old new at);
        apart = λ one other t first second. apart_in one other t ticket ticket_is no_other first second (at_set reads place one old new at) (at_set reads place other old new at);
      };
      new_ones = λ other at2 foreign found has_it. not_new other at2 ticket ticket_is started.fresh foreign found has_it.0 has_it.1 (at_set reads place has_it.0 old new at);
      told = λ file is have. λ j. bytes_in_list file j ticket new_is have (at_set reads place j old new at);
      only = λ other at2 foreign found. only_in other at2 ticket where_is ticket_is started.in_flight foreign found;
      going = λ j t has. going_set reads place j t new (ticket_of reads place old at ∙ ap ticket_in asked) has (at_set reads place j old new at);
      kept = λ j read there came. kept_set reads place j old new read at (ap bytes_in asked) there came (at_set reads place j old new at);
      fine = started.faults;
    }
  where
    only_in : (other : ℕ) (at2 : SegmentLocation) (ticket : ℕ) (where_is : SegmentLocation) → ticket_in new.state ≡ Some ticket → after.in_flight ≡ before.in_flight ++ (ticket, where_is) ∷ [] → (HasTicket (slice_set reads place new) other → ⊥) → location_of other after.in_flight ≡ Some at2 → (HasTicket reads other → ⊥) × (location_of other before.in_flight ≡ Some at2)
    only_in other at2 ticket where_is ticket_is flights foreign found =
        let mine : ticket_at (slice_set reads place new) place ≡ Some ticket = ticket_of (slice_set reads place new) place new (set_there reads place old new at) ∙ ticket_is in
        let differ : other ≢ ticket = λ e. foreign (place, mine ∙ ap Some (sym e)) in
        let none : ticket_at reads place ≡ None = ticket_of reads place old at ∙ ap ticket_in asked in (
          λ has. no_ticket reads place has.0 other new (λ is. none_some (ticket_at reads place) other none is) foreign has.1 (at_set reads place has.0 old new at),
          sym (ap (location_of other) flights ∙ located_others before.in_flight ticket other where_is differ) ∙ found,
        )

    not_before : (ticket : ℕ) → location_of ticket before.in_flight ≡ None → (j : ℕ) → ticket_at reads j ≡ Some ticket → ⊥
    not_before ticket fresh j e = by (slice_get reads j) refl e
      where
        by : (o : Option SegmentRead) → slice_get reads j ≡ o → option_and_then (λ (read : SegmentRead). ticket_in read.state) o ≡ Some ticket → ⊥
        by None same e = cc
        by (Some read) same e = by_state read.state refl e
          where
            by_state : (s : ReadState) → read.state ≡ s → ticket_in s ≡ Some ticket → ⊥
            by_state states.NotAsked is e = cc
            by_state (states.Came bytes) is e = cc
            by_state (states.InFlight t) is e =
                let t_is : t ≡ ticket = cc in
                let l = located_at locations reads before.in_flight j read t located same is in
                none_some (location_of ticket before.in_flight) l.0 fresh (ap (λ (k : ℕ). location_of k before.in_flight) (sym t_is) ∙ l.2)

    range_there : (where_is : SegmentLocation) → slice_get locations old.segment ≡ Some where_is → IsSomeAnd (slice_get (segments_of reads) place) (λ segment. IsSomeAnd (slice_get locations segment) (λ at. range_of at ≡ range_of where_is))
    range_there where_is has = rw (segment_there reads place old at, has) refl

    located_in : (j ticket : ℕ) (where_is : SegmentLocation) → slice_get locations old.segment ≡ Some where_is → new ≡ read_with old.segment (states.InFlight ticket) → location_of ticket after.in_flight ≡ Some where_is → ((other : ℕ) (at2 : SegmentLocation) → location_of other before.in_flight ≡ Some at2 → location_of other after.in_flight ≡ Some at2) → ((j ≡ place) × (slice_get (slice_set reads place new) j ≡ Some new)) ⊎ ((j ≢ place) × (slice_get (slice_set reads place new) j ≡ slice_get reads j)) → IfSome (slice_get (slice_set reads place new) j) (IsInFlight locations after.in_flight)
    located_in j ticket where_is has new_is there still (inl (same, is)) =
        let here : IsInFlight locations after.in_flight (read_with old.segment (states.InFlight ticket)) = rw has there in
        subst (λ (o : Option SegmentRead). IfSome o (IsInFlight locations after.in_flight)) (sym is) (subst (IsInFlight locations after.in_flight) (sym new_is) here)
    located_in j ticket where_is has new_is there still (inr (differ, is)) =
        subst (λ (o : Option SegmentRead). IfSome o (IsInFlight locations after.in_flight)) (sym is) (kept_one locations before.in_flight after.in_flight (slice_get reads j) (λ t at2 e found. still t at2 found) (located.located j))

    apart_in : (one other t ticket : ℕ) → ticket_in new.state ≡ Some ticket → ((j : ℕ) → ticket_at reads j ≡ Some ticket → ⊥) → ticket_at (slice_set reads place new) one ≡ Some t → ticket_at (slice_set reads place new) other ≡ Some t →
        ((one ≡ place) × (slice_get (slice_set reads place new) one ≡ Some new)) ⊎ ((one ≢ place) × (slice_get (slice_set reads place new) one ≡ slice_get reads one)) →
        ((other ≡ place) × (slice_get (slice_set reads place new) other ≡ Some new)) ⊎ ((other ≢ place) × (slice_get (slice_set reads place new) other ≡ slice_get reads other)) → one ≡ other
    apart_in one other t ticket ticket_is no_other first second (inl (same, is)) (inl (same2, is2)) = same ∙ sym same2
    apart_in one other t ticket ticket_is no_other first second (inl (same, is)) (inr (differ, is2)) =
        let mine : ticket_at (slice_set reads place new) one ≡ Some ticket = ticket_of (slice_set reads place new) one new is ∙ ticket_is in
        let t_is : t ≡ ticket = some_in t ticket (sym first ∙ mine) in
        absurd (no_other other (sym (ap (option_and_then (λ (read : SegmentRead). ticket_in read.state)) is2) ∙ second ∙ ap Some t_is))
    apart_in one other t ticket ticket_is no_other first second (inr (differ, is)) (inl (same2, is2)) =
        let mine : ticket_at (slice_set reads place new) other ≡ Some ticket = ticket_of (slice_set reads place new) other new is2 ∙ ticket_is in
        let t_is : t ≡ ticket = some_in t ticket (sym second ∙ mine) in
        absurd (no_other one (sym (ap (option_and_then (λ (read : SegmentRead). ticket_in read.state)) is) ∙ first ∙ ap Some t_is))
    apart_in one other t ticket ticket_is no_other first second (inr (differ, is)) (inr (differ2, is2)) =
        let f : Option SegmentRead → Option ℕ = option_and_then (λ (read : SegmentRead). ticket_in read.state) in
        located.apart one other t (sym (ap f is) ∙ first) (sym (ap f is2) ∙ second)

    not_new : (other : ℕ) (at2 : SegmentLocation) (ticket : ℕ) → ticket_in new.state ≡ Some ticket → location_of ticket before.in_flight ≡ None → (HasTicket reads other → ⊥) → location_of other before.in_flight ≡ Some at2 → (j : ℕ) → ticket_at (slice_set reads place new) j ≡ Some other → ((j ≡ place) × (slice_get (slice_set reads place new) j ≡ Some new)) ⊎ ((j ≢ place) × (slice_get (slice_set reads place new) j ≡ slice_get reads j)) → ⊥
    not_new other at2 ticket ticket_is fresh foreign found j has (inl (same, is)) =
        let mine : ticket_at (slice_set reads place new) j ≡ Some ticket = ticket_of (slice_set reads place new) j new is ∙ ticket_is in
        let t_is : other ≡ ticket = some_in other ticket (sym has ∙ mine) in
        none_some (location_of ticket before.in_flight) at2 fresh (ap (λ (k : ℕ). location_of k before.in_flight) (sym t_is) ∙ found)
    not_new other at2 ticket ticket_is fresh foreign found j has (inr (differ, is)) =
        foreign (j, sym (ap (option_and_then (λ (read : SegmentRead). ticket_in read.state)) is) ∙ has)

    bytes_in_list : (file : List ℕ) (j ticket : ℕ) → new ≡ read_with old.segment (states.InFlight ticket) → HaveBytes (file_bytes file locations) reads → ((j ≡ place) × (slice_get (slice_set reads place new) j ≡ Some new)) ⊎ ((j ≢ place) × (slice_get (slice_set reads place new) j ≡ slice_get reads j)) → IfSome (slice_get (slice_set reads place new) j) (HasBytes (file_bytes file locations))
    bytes_in_list file j ticket new_is have (inl (same, is)) =
        subst (λ (o : Option SegmentRead). IfSome o (HasBytes (file_bytes file locations))) (sym is) (subst (HasBytes (file_bytes file locations)) (sym new_is) tt)
    bytes_in_list file j ticket new_is have (inr (differ, is)) = subst (λ (o : Option SegmentRead). IfSome o (HasBytes (file_bytes file locations))) (sym is) (have j)

-- ---- a read ends with its bytes

pub go_ended : (locations : List SegmentLocation) (reads : List SegmentRead) (place : ℕ) (old new : SegmentRead) (ticket : ℕ) (before after : SourceState) → slice_get reads place ≡ Some old → old.state ≡ states.InFlight ticket → AreInFlight locations reads before.in_flight → (bytes : Vec ℕ) → IsEnded ticket bytes old new before after → GoOn locations reads (slice_set reads place new) before after
go_ended locations reads place old new ticket before after at asked located bytes is =
    let new_is : new ≡ read_with old.segment (states.Came bytes) = is.0 in
    let ended : Ended ticket before after = is.1 in
    let faults : after.faults ≡ before.faults = is.2 in
    let segment_is : new.segment ≡ old.segment = ap (λ (r : SegmentRead). r.segment) new_is in
    let l = located_at locations reads before.in_flight place old ticket located at asked in
    let has_mine : ticket_at reads place ≡ Some ticket = ticket_of reads place old at ∙ ap ticket_in asked in
    let read_is : IsSegment before.file l.0 bytes.items = subst (λ (o : Option SegmentLocation). IfSome o (λ at. IsSegment before.file at bytes.items)) l.2 is.3 in
    let still : (other : ℕ) (at2 : SegmentLocation) → other ≢ ticket → location_of other before.in_flight ≡ Some at2 → location_of other after.in_flight ≡ Some at2 = λ other at2 differ found. ap (location_of other) ended.in_flight ∙ located_without before.in_flight ticket other differ ∙ found in
    record {
      touches = record {
        file = ended.file;
        asks = subst (AsksOnly (IsRangeOf locations (segments_of reads)) before.asked) (sym ended.asked) (asks_none (IsRangeOf locations (segments_of reads)) before.asked);
        others = λ other at2 foreign found. still other at2 (λ e. foreign (place, has_mine ∙ ap Some (sym e))) found;
        faults = omega arith;
        idle = (let e = ended.idle in omega arith);
      };
      segments = segments_set reads place old new at segment_is;
      in_flight = record {
        located = λ j. located_in j new_is has_mine still (at_set reads place j old new at);
        apart = λ one other t first second. apart_in one other t new_is first second (at_set reads place one old new at) (at_set reads place other old new at);
      };
      new_ones = λ other at2 foreign found has_it. not_new other new_is foreign has_it.0 has_it.1 (at_set reads place has_it.0 old new at);
      told = λ file told have. λ j. bytes_in_list file j new_is l.0 l.1 (subst (λ (o : Option (List ℕ)). IfSome o (λ told. bytes_at told l.0 ≡ Some bytes.items)) told read_is.told) have (at_set reads place j old new at);
      only = λ other at2 foreign found. only_in other at2 has_mine ended.in_flight foreign found;
      going = λ j t has. going_in j t new_is has (at_set reads place j old new at);
      kept = λ j read there came. kept_set reads place j old new read at (ap bytes_in asked) there came (at_set reads place j old new at);
      fine = faults;
    }
  where
    going_in : (j t : ℕ) → new ≡ read_with old.segment (states.Came bytes) → ticket_at reads j ≡ Some t → ((j ≡ place) × (slice_get (slice_set reads place new) j ≡ Some new)) ⊎ ((j ≢ place) × (slice_get (slice_set reads place new) j ≡ slice_get reads j)) → (ticket_at (slice_set reads place new) j ≡ Some t) ⊎ CameAt (slice_set reads place new) j
    going_in j t new_is has (inl (same, is)) =
        let F : Option SegmentRead → Type 0 = λ o. IsSomeAnd o (λ (read : SegmentRead). IsSome (bytes_in read.state)) in
        let G : SegmentRead → Type 0 = λ read. IsSome (bytes_in read.state) in
        let came : IsSome (bytes_in (read_with old.segment (states.Came bytes)).state) = refl in
        inr (subst F (sym is) (subst G (sym new_is) came))
    going_in j t new_is has (inr (differ, is)) = inl (ap (option_and_then (λ (read : SegmentRead). ticket_in read.state)) is ∙ has)

    only_in : (other : ℕ) (at2 : SegmentLocation) → ticket_at reads place ≡ Some ticket → after.in_flight ≡ without ticket before.in_flight → (HasTicket (slice_set reads place new) other → ⊥) → location_of other after.in_flight ≡ Some at2 → (HasTicket reads other → ⊥) × (location_of other before.in_flight ≡ Some at2)
    only_in other at2 mine flights foreign found =
        let gone : location_of ticket after.in_flight ≡ None = ap (location_of ticket) flights ∙ gone_without before.in_flight ticket in
        let differ : other ≢ ticket = λ e. none_some (location_of ticket after.in_flight) at2 gone (ap (λ (k : ℕ). location_of k after.in_flight) (sym e) ∙ found) in (
          λ has. no_ticket reads place has.0 other new (λ is. differ (some_in other ticket (sym is ∙ mine))) foreign has.1 (at_set reads place has.0 old new at),
          sym (ap (location_of other) flights ∙ located_without before.in_flight ticket other differ) ∙ found,
        )

    located_in : (j : ℕ) → new ≡ read_with old.segment (states.Came bytes) → ticket_at reads place ≡ Some ticket → ((other : ℕ) (at2 : SegmentLocation) → other ≢ ticket → location_of other before.in_flight ≡ Some at2 → location_of other after.in_flight ≡ Some at2) → ((j ≡ place) × (slice_get (slice_set reads place new) j ≡ Some new)) ⊎ ((j ≢ place) × (slice_get (slice_set reads place new) j ≡ slice_get reads j)) → IfSome (slice_get (slice_set reads place new) j) (IsInFlight locations after.in_flight)
    located_in j new_is mine still (inl (same, is)) =
        subst (λ (o : Option SegmentRead). IfSome o (IsInFlight locations after.in_flight)) (sym is) (subst (IsInFlight locations after.in_flight) (sym new_is) tt)
    located_in j new_is mine still (inr (differ, is)) =
        subst (λ (o : Option SegmentRead). IfSome o (IsInFlight locations after.in_flight)) (sym is)
        (kept_one locations before.in_flight after.in_flight (slice_get reads j) (λ t at2 e found. still t at2 (λ same. differ (located.apart j place t e (mine ∙ ap Some (sym same)))) found) (located.located j))

    none_there : (j t : ℕ) → new ≡ read_with old.segment (states.Came bytes) → slice_get (slice_set reads place new) j ≡ Some new → ticket_at (slice_set reads place new) j ≡ Some t → ⊥
    none_there j t new_is is has =
        let none : ticket_at (slice_set reads place new) j ≡ None = ticket_of (slice_set reads place new) j new is ∙ ap (λ (r : SegmentRead). ticket_in r.state) new_is in
        none_some (ticket_at (slice_set reads place new) j) t none has

    apart_in : (one other t : ℕ) → new ≡ read_with old.segment (states.Came bytes) → ticket_at (slice_set reads place new) one ≡ Some t → ticket_at (slice_set reads place new) other ≡ Some t →
        ((one ≡ place) × (slice_get (slice_set reads place new) one ≡ Some new)) ⊎ ((one ≢ place) × (slice_get (slice_set reads place new) one ≡ slice_get reads one)) →
        ((other ≡ place) × (slice_get (slice_set reads place new) other ≡ Some new)) ⊎ ((other ≢ place) × (slice_get (slice_set reads place new) other ≡ slice_get reads other)) → one ≡ other
    apart_in one other t new_is first second (inl (same, is)) two = absurd (none_there one t new_is is first)
    apart_in one other t new_is first second (inr (differ, is)) (inl (same2, is2)) = absurd (none_there other t new_is is2 second)
    apart_in one other t new_is first second (inr (differ, is)) (inr (differ2, is2)) =
        let f : Option SegmentRead → Option ℕ = option_and_then (λ (read : SegmentRead). ticket_in read.state) in
        located.apart one other t (sym (ap f is) ∙ first) (sym (ap f is2) ∙ second)

    not_new : (other : ℕ) → new ≡ read_with old.segment (states.Came bytes) → (HasTicket reads other → ⊥) → (j : ℕ) → ticket_at (slice_set reads place new) j ≡ Some other → ((j ≡ place) × (slice_get (slice_set reads place new) j ≡ Some new)) ⊎ ((j ≢ place) × (slice_get (slice_set reads place new) j ≡ slice_get reads j)) → ⊥
    not_new other new_is foreign j has (inl (same, is)) = none_there j other new_is is has
    not_new other new_is foreign j has (inr (differ, is)) = foreign (j, sym (ap (option_and_then (λ (read : SegmentRead). ticket_in read.state)) is) ∙ has)

    bytes_in_list : (file : List ℕ) (j : ℕ) → new ≡ read_with old.segment (states.Came bytes) → (where_is : SegmentLocation) → slice_get locations old.segment ≡ Some where_is → bytes_at file where_is ≡ Some bytes.items → HaveBytes (file_bytes file locations) reads → ((j ≡ place) × (slice_get (slice_set reads place new) j ≡ Some new)) ⊎ ((j ≢ place) × (slice_get (slice_set reads place new) j ≡ slice_get reads j)) → IfSome (slice_get (slice_set reads place new) j) (HasBytes (file_bytes file locations))
    bytes_in_list file j new_is where_is has there have (inl (same, is)) =
        let here : HasBytes (file_bytes file locations) (read_with old.segment (states.Came bytes)) = ap (option_and_then (bytes_at file)) has ∙ there in
        subst (λ (o : Option SegmentRead). IfSome o (HasBytes (file_bytes file locations))) (sym is) (subst (HasBytes (file_bytes file locations)) (sym new_is) here)
    bytes_in_list file j new_is where_is has there have (inr (differ, is)) = subst (λ (o : Option SegmentRead). IfSome o (HasBytes (file_bytes file locations))) (sym is) (have j)

-- ---- what a call for one read does to all

pub go_same : (locations : List SegmentLocation) (reads : List SegmentRead) (place : ℕ) (old new : SegmentRead) (before after : SourceState) → slice_get reads place ≡ Some old → AreInFlight locations reads before.in_flight → IsSame old new before after → GoOn locations reads (slice_set reads place new) before after
go_same locations reads place old new before after at located is =
    let same : slice_set reads place new ≡ reads = ap (slice_set reads place) is.0 ∙ set_same reads place old at in
    let F : List SegmentRead → Type 0 = λ news. GoOn locations reads news before after in
    subst F (sym same) (subst (GoOn locations reads reads before) (sym is.1) (begins locations reads before located))

pub go_start : (locations : List SegmentLocation) (reads : List SegmentRead) (place : ℕ) (old new : SegmentRead) (before after : SourceState) → slice_get reads place ≡ Some old → AreInFlight locations reads before.in_flight → StartsBy old.state locations old new before after → GoOn locations reads (slice_set reads place new) before after
go_start locations reads place old new before after at located is = by old.state refl is
  where
    by : (s : ReadState) → old.state ≡ s → StartsBy s locations old new before after → GoOn locations reads (slice_set reads place new) before after
    by states.NotAsked e is = go_started locations reads place old new before after at e located is
    by (states.InFlight ticket) e is = go_same locations reads place old new before after at located is
    by (states.Came bytes) e is = go_same locations reads place old new before after at located is

pub go_poll : (locations : List SegmentLocation) (reads : List SegmentRead) (place : ℕ) (old new : SegmentRead) (goes_on : Bool) (before after : SourceState) → slice_get reads place ≡ Some old → AreInFlight locations reads before.in_flight → PollsBy old.state goes_on old new before after → GoOn locations reads (slice_set reads place new) before after
go_poll locations reads place old new goes_on before after at located is = by old.state goes_on refl is
  where
    by : (s : ReadState) (b : Bool) → old.state ≡ s → PollsBy s b old new before after → GoOn locations reads (slice_set reads place new) before after
    by states.NotAsked b e is = go_same locations reads place old new before after at located is.1
    by (states.Came bytes) b e is = go_same locations reads place old new before after at located is.1
    by (states.InFlight ticket) false e is = go_ended locations reads place old new ticket before after at e located is.0 is.1
    by (states.InFlight ticket) true e is =
        let same : slice_set reads place new ≡ reads = ap (slice_set reads place) is.0 ∙ set_same reads place old at in
        let F : List SegmentRead → Type 0 = λ news. GoOn locations reads news before after in
        let waited : before.idle ≤ after.idle = is.2.kept in
        subst F (sym same) (waits locations reads before after located is.1.in_flight is.1.asked is.1.file is.1.faults waited)

-- ---- which reads came

-- beside the read that is written those came that came before
came_set : (reads : List SegmentRead) (place j : ℕ) (old new : SegmentRead) → slice_get reads place ≡ Some old → (IsSome (bytes_in new.state) → IsSome (bytes_in old.state)) →
    ((j ≡ place) × (slice_get (slice_set reads place new) j ≡ Some new)) ⊎ ((j ≢ place) × (slice_get (slice_set reads place new) j ≡ slice_get reads j)) → CameAt (slice_set reads place new) j → CameAt reads j
came_set reads place j old new there only (inl (same, is)) came =
    let F : Option SegmentRead → Type 0 = λ o. IsSomeAnd o (λ (read : SegmentRead). IsSome (bytes_in read.state)) in
    let here : IsSome (bytes_in new.state) = subst F is came in
    subst F (sym (ap (slice_get reads) same ∙ there)) (only here)
came_set reads place j old new there only (inr (differ, is)) came =
    let F : Option SegmentRead → Type 0 = λ o. IsSomeAnd o (λ (read : SegmentRead). IsSome (bytes_in read.state)) in
    subst F is came

started_bytes : (locations : List SegmentLocation) (old new : SegmentRead) (before after : SourceState) (s : ReadState) → old.state ≡ s → StartsBy s locations old new before after → IsSome (bytes_in new.state) → IsSome (bytes_in old.state)
started_bytes locations old new before after states.NotAsked e is came =
    let none : bytes_in new.state ≡ None = ap (λ (r : SegmentRead). bytes_in r.state) is.3 in
    let has : IsSome {T = List ℕ} None = subst (λ (o : Option (List ℕ)). IsSome o) none came in
    absurd cc
started_bytes locations old new before after (states.InFlight ticket) e is came = subst (λ (r : SegmentRead). IsSome (bytes_in r.state)) is.0 came
started_bytes locations old new before after (states.Came bytes) e is came = subst (λ (r : SegmentRead). IsSome (bytes_in r.state)) is.0 came

-- a start brings no bytes
pub none_started : (locations : List SegmentLocation) (one reads : List SegmentRead) (place : ℕ) (old new : SegmentRead) (before after : SourceState) → slice_get reads place ≡ Some old → StartsBy old.state locations old new before after → NoneCame 0 one reads → NoneCame 0 one (slice_set reads place new)
none_started locations one reads place old new before after there is none j under came =
    none j under (came_set reads place j old new there (started_bytes locations old new before after old.state refl is) (at_set reads place j old new there) came)

-- and a poll none to the reads behind it
pub none_polled : (one reads : List SegmentRead) (place : ℕ) (old new : SegmentRead) → slice_get reads place ≡ Some old → NoneCame place one reads → NoneCame (place + 1) one (slice_set reads place new)
none_polled one reads place old new there none j under came = by (at_set reads place j old new there)
  where
    by : ((j ≡ place) × (slice_get (slice_set reads place new) j ≡ Some new)) ⊎ ((j ≢ place) × (slice_get (slice_set reads place new) j ≡ slice_get reads j)) → CameAt one j
    by (inl (same, is)) = absurd (omega (arith, same, under))
    by (inr (differ, is)) =
        let F : Option SegmentRead → Type 0 = λ o. IsSomeAnd o (λ (read : SegmentRead). IsSome (bytes_in read.state)) in
        none j (omega (arith, under)) (subst F is came)
