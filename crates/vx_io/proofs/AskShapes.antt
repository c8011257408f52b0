-- What is asked for depends on the requests alone: tables in which equally many reads wait ask alike.
use Rattle.std.proofs.Common.{◌≡◌, ℕ, ◌+◌, ◌==◌, Bool, true, false, List, [], ◌∷◌, ◌++◌, length, map, Option, Some, None, refl, sym, ap, ◌∙◌, subst, arith, cond}
use Rattle.std.specs.Prelude.{is_some}
use Rattle.std.proofs.lemmas.List.{length-append, map-append}
use Rattle.vx_base.specs.declared.locations.SegmentLocation.{SegmentLocation}
use Rattle.vx_io.specs.declared.requests.IoIntent.{IoIntent}
use Rattle.vx_io.specs.declared.requests.IoIntent.TheVariants.{Announce, Prefetch, Fetch}
use Rattle.vx_io.specs.declared.requests.IoOwnerId.{IoOwnerId}
use Rattle.vx_io.specs.declared.requests.IoRequest.{IoRequest}
use Rattle.vx_io.specs.Ranges.{RangeTable, segment_of}
use Rattle.vx_io.specs.Session.{Waiting, Table, Step, requested, ended, has_none, asks, left_by_fetch, left_by_prefetch, waiting_after, requested_at, table_after, starts_at, started_by, starts_of, requests_in, asks_of, location_of_target, range_of_target, RequestsTellAsks}

-- equally many announced reads wait, and a prefetched one in both or in neither
record Alike (one two : Waiting) : Type 0 where
  pub announced : length one.announced ≡ length two.announced
  pub prefetched : is_some one.prefetched ≡ is_some two.prefetched

-- ---- at one segment

none_alike : (announced others : List ℕ) (prefetched other : Option ℕ) → length announced ≡ length others → is_some prefetched ≡ is_some other → has_none prefetched announced ≡ has_none other others
none_alike announced others (Some read) (Some new) same both = refl
none_alike announced others (Some read) None same both = absurd cc
none_alike announced others None (Some new) same both = absurd cc
none_alike [] [] None None same both = refl
none_alike [] (read ∷ others) None None same both = absurd (omega (arith, same))
none_alike (read ∷ announced) [] None None same both = absurd (omega (arith, same))
none_alike (read ∷ announced) (new ∷ others) None None same both = refl

asks_alike : (intent : IoIntent) (one two : Waiting) → Alike one two → asks intent one ≡ asks intent two
asks_alike Announce one two alike = refl
asks_alike Prefetch one two alike = none_alike one.announced two.announced one.prefetched two.prefetched alike.announced alike.prefetched
asks_alike Fetch one two alike = none_alike one.announced two.announced one.prefetched two.prefetched alike.announced alike.prefetched

fetched_alike : (announced others : List ℕ) (prefetched other : Option ℕ) → length announced ≡ length others → is_some prefetched ≡ is_some other → Alike (left_by_fetch prefetched announced) (left_by_fetch other others)
fetched_alike announced others (Some read) (Some new) same both = record { announced = same; prefetched = refl }
fetched_alike announced others (Some read) None same both = absurd cc
fetched_alike announced others None (Some new) same both = absurd cc
fetched_alike [] [] None None same both = record { announced = refl; prefetched = refl }
fetched_alike [] (read ∷ others) None None same both = absurd (omega (arith, same))
fetched_alike (read ∷ announced) [] None None same both = absurd (omega (arith, same))
fetched_alike (read ∷ announced) (new ∷ others) None None same both = record { announced = omega (arith, same); prefetched = refl }

prefetched_alike : (announced others : List ℕ) (prefetched other : Option ℕ) (ticket more : ℕ) → length announced ≡ length others → is_some prefetched ≡ is_some other → Alike (left_by_prefetch prefetched announced ticket) (left_by_prefetch other others more)
prefetched_alike announced others (Some read) (Some new) ticket more same both = record { announced = same; prefetched = refl }
prefetched_alike announced others (Some read) None ticket more same both = absurd cc
prefetched_alike announced others None (Some new) ticket more same both = absurd cc
prefetched_alike [] [] None None ticket more same both = record { announced = refl; prefetched = refl }
prefetched_alike [] (read ∷ others) None None ticket more same both = absurd (omega (arith, same))
prefetched_alike (read ∷ announced) [] None None ticket more same both = absurd (omega (arith, same))
prefetched_alike (read ∷ announced) (new ∷ others) None None ticket more same both = record { announced = omega (arith, same); prefetched = refl }

-- whatever tickets are given
after_alike : (intent : IoIntent) (one two : Waiting) (ticket more : ℕ) → Alike one two → Alike (waiting_after intent one ticket) (waiting_after intent two more)
after_alike Announce one two ticket more alike = record {
  announced = length-append one.announced (ticket ∷ []) ∙ ap (λ (n : ℕ). n + 1) alike.announced ∙ sym (length-append two.announced (more ∷ []));
  prefetched = alike.prefetched;
}
after_alike Prefetch one two ticket more alike = prefetched_alike one.announced two.announced one.prefetched two.prefetched ticket more alike.announced alike.prefetched
after_alike Fetch one two ticket more alike = fetched_alike one.announced two.announced one.prefetched two.prefetched alike.announced alike.prefetched

-- ---- at all segments

abbrev AreAlike : Table → Table → Type 0
AreAlike one two = (segment : ℕ) → Alike (one.waiting segment) (two.waiting segment)

-- where a step asks, without the ticket that it is given
abbrev asked_at : Option ℕ → IoRequest → ℕ → Table → List SegmentLocation
asked_at found request new table = map (λ (read : ℕ × SegmentLocation). read.1) (starts_at found request new table)

asked_alike : (found : Option ℕ) (request : IoRequest) (ticket more : ℕ) (one two : Table) → AreAlike one two → asked_at found request ticket one ≡ asked_at found request more two
asked_alike None request ticket more one two alike = refl
asked_alike (Some segment) request ticket more one two alike =
    ap (λ (asking : Bool). map (λ (read : ℕ × SegmentLocation). read.1) (cond asking ((ticket, location_of_target request.target) ∷ []) [])) (asks_alike request.intent (one.waiting segment) (two.waiting segment) (alike segment))
    ∙ given (asks request.intent (two.waiting segment))
  where
    given : (asking : Bool) → map (λ (read : ℕ × SegmentLocation). read.1) (cond asking ((ticket, location_of_target request.target) ∷ []) []) ≡ map (λ (read : ℕ × SegmentLocation). read.1) (cond asking ((more, location_of_target request.target) ∷ []) [])
    given true = refl
    given false = refl

requested_alike : (found : Option ℕ) (request : IoRequest) (owner other : IoOwnerId) (ticket more : ℕ) (one two : Table) → AreAlike one two → AreAlike (requested_at found owner request ticket one) (requested_at found other request more two)
requested_alike None request owner other ticket more one two alike = alike
requested_alike (Some segment) request owner other ticket more one two alike = λ place. put (place == segment) place
  where
    put : (here : Bool) (place : ℕ) → Alike (cond here (waiting_after request.intent (one.waiting segment) ticket) (one.waiting place)) (cond here (waiting_after request.intent (two.waiting segment) more) (two.waiting place))
    put true place = after_alike request.intent (one.waiting segment) (two.waiting segment) ticket more (alike segment)
    put false place = alike place

-- ---- runs

-- two runs, each of which may end fetches that the other doesn't
runs_alike : (ranges : RangeTable) (one two : Table) (steps more : List Step) → requests_in steps ≡ requests_in more → AreAlike one two → asks_of ranges one steps ≡ asks_of ranges two more
runs_alike ranges one two [] [] same alike = refl
runs_alike ranges one two (ended place ∷ steps) more same alike = runs_alike ranges (table_after ranges one (ended place)) two steps more same alike
runs_alike ranges one two [] (ended place ∷ more) same alike = runs_alike ranges one (table_after ranges two (ended place)) [] more same alike
runs_alike ranges one two (requested owner request ticket ∷ steps) (ended place ∷ more) same alike =
    runs_alike ranges one (table_after ranges two (ended place)) (requested owner request ticket ∷ steps) more same alike
runs_alike ranges one two [] (requested other again new ∷ more) same alike = absurd cc
runs_alike ranges one two (requested owner request ticket ∷ steps) [] same alike = absurd cc
runs_alike ranges one two (requested owner request ticket ∷ steps) (requested other again new ∷ more) same alike =
    let first : ◌≡◌ {A = IoOwnerId × IoRequest} (owner, request) (other, again) = cc in
    let rest : requests_in steps ≡ requests_in more = cc in
    let equal : request ≡ again = ap (λ (p : IoOwnerId × IoRequest). p.1) first in
    let asked = asked_alike (segment_of ranges (range_of_target request.target)) request ticket new one two alike
    ∙ ap (λ (r : IoRequest). asked_at (segment_of ranges (range_of_target r.target)) r new two) equal in
    let tables = subst (λ (r : IoRequest). AreAlike (table_after ranges one (requested owner request ticket)) (table_after ranges two (requested other r new))) equal
    (requested_alike (segment_of ranges (range_of_target request.target)) request owner other ticket new one two alike) in
    let later = runs_alike ranges (table_after ranges one (requested owner request ticket)) (table_after ranges two (requested other again new)) steps more rest tables in
    let f : (ℕ × SegmentLocation) → SegmentLocation = λ (read : ℕ × SegmentLocation). read.1 in
    map-append f (started_by ranges one (requested owner request ticket)) (starts_of ranges (table_after ranges one (requested owner request ticket)) steps)
    ∙ (λ i. asked i ++ later i)
    ∙ sym (map-append f (started_by ranges two (requested other again new)) (starts_of ranges (table_after ranges two (requested other again new)) more))

pub tells_asks : RequestsTellAsks
tells_asks ranges table one two same = runs_alike ranges table table one two same (λ segment. record { announced = refl; prefetched = refl })
