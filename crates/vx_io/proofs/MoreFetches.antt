-- The fetches that requests add to those in flight.
use Rattle.std.proofs.Common.{◌≡◌, ℕ, ◌+◌, List, [], ◌∷◌, ◌++◌, Option, Some, None, length, refl, sym, ap, ◌∙◌, arith, cond}
use Rattle.std.specs.Prelude.{IsSome}
use Rattle.std.specs.List.{All, flat_map}
use Rattle.std.proofs.lemmas.List.{append_assoc, append-nil, length-append}
use Rattle.std.proofs.lemmas.List.Concat.{flat_map-cons}
use Rattle.std.proofs.lemmas.Grind.{flat_map-append}
use Rattle.std.proofs.lemmas.List.Elements.{All-head, All-tail, All-cons, All-append}
use Rattle.std.proofs.lemmas.List.Sums.{sum_by-append}
use Rattle.vx_io.specs.declared.requests.IoIntent.{IoIntent}
use Rattle.vx_io.specs.declared.requests.IoIntent.TheVariants.{Announce, Prefetch, Fetch}
use Rattle.vx_io.specs.declared.requests.IoOwnerId.{IoOwnerId}
use Rattle.vx_io.specs.declared.requests.IoRequest.{IoRequest}
use Rattle.vx_io.specs.declared.commands.IoCommand.{IoCommand}
use Rattle.vx_io.specs.declared.commands.IoCommand.TheVariants.{Poll}
use Rattle.vx_io.specs.Ranges.{RangeTable, segment_of}
use Rattle.vx_io.specs.Session.{Table, Flight, Step, requested, ended, requested_at, table_after, session_after, requests_in, ends_in, if_fetch, fetch_of, location_of_target, range_of_target}
use Rattle.vx_io.specs.Submits.{IsKnown, owned}
use Rattle.vx_io.specs.Drive.{Wanted, wanted_by, wanted_in, wanted_of, fetches_in, IsFlightOf, IsAmong, is_pair, times_wanted, times_in_flight}
use Rattle.vx_io.proofs.Anys.{any_here, any_behind, any_before, all_map, all_none}

-- ---- one command behind the others

pub more_of : {X : Type 0} (f : IoCommand → List X) (commands : List IoCommand) (command : IoCommand) → flat_map f (commands ++ command ∷ []) ≡ flat_map f commands ++ f command
more_of f commands command =
    flat_map-append f commands (command ∷ []) ∙ ap (λ xs. flat_map f commands ++ xs) (flat_map-cons f command [] ∙ append-nil (f command))

-- a poll wants no fetch
pub no_wanted : (commands : List IoCommand) → fetches_in (commands ++ Poll ∷ []) ≡ fetches_in commands
no_wanted commands = more_of wanted_of commands Poll ∙ append-nil (fetches_in commands)

-- ---- what a request adds

-- these fetches came behind the others, and they are the wanted ones
pub record Adds (wanted : List Wanted) (old new : List Flight) : Type 0 where
  pub more : List Flight
  pub behind : new ≡ old ++ more
  pub times : (owner request : ℕ) → times_in_flight owner request more ≡ times_wanted owner request wanted
  pub size : length more ≡ length wanted
  pub among : All (IsAmong wanted) more

adds_nothing : (fetches : List Flight) → Adds [] fetches fetches
adds_nothing fetches = record { more = []; behind = sym (append-nil fetches); times = λ owner request. refl; size = refl; among = all_none (IsAmong []) }

one_wanted : (intent : IoIntent) (owner : IoOwnerId) (request : IoRequest) (ticket : ℕ) (old : List Flight) → Adds (wanted_by intent owner request) old (old ++ if_fetch intent (record { owner = owner; request = request.request; at = location_of_target request.target; ticket = ticket }))
one_wanted Announce owner request ticket old = record { more = []; behind = refl; times = λ o r. refl; size = refl; among = all_none (IsAmong []) }
one_wanted Prefetch owner request ticket old = record { more = []; behind = refl; times = λ o r. refl; size = refl; among = all_none (IsAmong []) }
one_wanted Fetch owner request ticket old =
    let fetch : Flight = record { owner = owner; request = request.request; at = location_of_target request.target; ticket = ticket } in
    let wanted : Wanted = record { owner = owner; request = request.request; at = location_of_target request.target } in
    record {
      more = fetch ∷ [];
      behind = refl;
      times = λ o r. refl;
      size = refl;
      among = All-cons (IsAmong (wanted ∷ [])) fetch [] (any_here (IsFlightOf fetch) wanted [] (refl, refl, refl)) (all_none (IsAmong (wanted ∷ [])));
    }

one_request : (found : Option ℕ) (owner : IoOwnerId) (request : IoRequest) (new : ℕ) (table : Table) → IsSome found → Adds (wanted_by request.intent owner request) table.fetches (requested_at found owner request new table).fetches
one_request None owner request new table known = absurd cc
one_request (Some segment) owner request new table known = one_wanted request.intent owner request (fetch_of owner request (table.waiting segment) new).ticket table.fetches

times_append_wanted : (owner request : ℕ) (ones twos : List Wanted) → times_wanted owner request (ones ++ twos) ≡ times_wanted owner request ones + times_wanted owner request twos
times_append_wanted owner request ones twos = sum_by-append (λ (fetch : Wanted). cond (is_pair owner request fetch.owner fetch.request) 1 0) ones twos

pub times_append_flying : (owner request : ℕ) (ones twos : List Flight) → times_in_flight owner request (ones ++ twos) ≡ times_in_flight owner request ones + times_in_flight owner request twos
times_append_flying owner request ones twos = sum_by-append (λ (fetch : Flight). cond (is_pair owner request fetch.owner fetch.request) 1 0) ones twos

adds_then : (ones twos : List Wanted) (old middle new : List Flight) → Adds ones old middle → Adds twos middle new → Adds (ones ++ twos) old new
adds_then ones twos old middle new one two = record {
  more = one.more ++ two.more;
  behind = two.behind ∙ ap (λ (fs : List Flight). fs ++ two.more) one.behind ∙ append_assoc old one.more two.more;
  times = λ owner request.
      let p = times_append_flying owner request one.more two.more in
      let q = times_append_wanted owner request ones twos in
      let r = one.times owner request in
      let s = two.times owner request in
      omega (arith, p, q, r, s);
  size = let p = one.size in let q = two.size in let r = length-append one.more two.more in let s = length-append ones twos in omega (arith, p, q, r, s);
  among = All-append (IsAmong (ones ++ twos)) one.more two.more
      (all_map (IsAmong ones) (IsAmong (ones ++ twos)) one.more (λ fetch some. any_before (IsFlightOf fetch) ones twos some) one.among)
      (all_map (IsAmong twos) (IsAmong (ones ++ twos)) two.more (λ fetch some. any_behind (IsFlightOf fetch) ones twos some) two.among);
}

-- what the steps of requests add
pub adds_in_steps : (ranges : RangeTable) (table : Table) (steps : List Step) → ends_in steps ≡ 0 → All (λ (one : IoOwnerId × IoRequest). IsKnown ranges one.1) (requests_in steps) → Adds (wanted_in (requests_in steps)) table.fetches (session_after ranges table steps).fetches
adds_in_steps ranges table [] none known = adds_nothing table.fetches
adds_in_steps ranges table (requested owner request new ∷ steps) none known =
    let P : (IoOwnerId × IoRequest) → Type 0 = λ (one : IoOwnerId × IoRequest). IsKnown ranges one.1 in
    let here = one_request (segment_of ranges (range_of_target request.target)) owner request new table (All-head P (owner, request) (requests_in steps) known) in
    let rest = adds_in_steps ranges (table_after ranges table (requested owner request new)) steps none (All-tail P (owner, request) (requests_in steps) known) in
    rw (flat_map-cons (λ (one : IoOwnerId × IoRequest). wanted_by one.1.intent one.0 one.1) (owner, request) (requests_in steps))
    (adds_then (wanted_by request.intent owner request) (wanted_in (requests_in steps)) table.fetches (table_after ranges table (requested owner request new)).fetches (session_after ranges (table_after ranges table (requested owner request new)) steps).fetches here rest)
adds_in_steps ranges table (ended place ∷ steps) none known = absurd (omega (arith, none))

-- the requests of a batch and its fetches
pub known_owned : (ranges : RangeTable) (owner : IoOwnerId) (batch : List IoRequest) → All (IsKnown ranges) batch → All (λ (one : IoOwnerId × IoRequest). IsKnown ranges one.1) (owned owner batch)
known_owned ranges owner [] known = all_none (λ (one : IoOwnerId × IoRequest). IsKnown ranges one.1)
known_owned ranges owner (request ∷ batch) known = All-cons (λ (one : IoOwnerId × IoRequest). IsKnown ranges one.1) (owner, request) (owned owner batch) (All-head (IsKnown ranges) request batch known) (known_owned ranges owner batch (All-tail (IsKnown ranges) request batch known))
