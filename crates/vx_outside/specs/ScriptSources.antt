-- What a source that keeps to a script is to its callers, and what its script says of the next call.
use Rattle.std.specs.Prelude.{◌≡◌, ℕ, zero, suc, ◌-◌, ◌<◌, ◌==◌, if◌then◌else◌, Bool, false, ◌||◌, is_some, List, [], ◌∷◌, Option, Some, None, option_map, IsSome, ◌⊎◌, Result, Ok, Err}
use Rattle.std.specs.List.{Any}
use Rattle.std.specs.Option.{IsSomeAnd}
use Rattle.std.specs.Global.{Vec}
use Rattle.vx_outside.specs.Sources.{SourceState, location_of}
use Rattle.vx_outside.specs.MemorySources.{memory_state, tickets_given}
use Rattle.vx_outside.specs.Faults.{one_more}
use Rattle.vx_outside.specs.declared.locations.SegmentLocation.{SegmentLocation}
use Rattle.vx_outside.specs.declared.outside.SourceError.{SourceError}
use Rattle.vx_outside.specs.declared.outside.SourceError.TheVariants.{Failed, Memory}
use Rattle.vx_outside.specs.declared.script_sources.ScriptSource.{ScriptSource}

-- it is to its callers what the memory source inside it is
abbrev pub script_state : ScriptSource → SourceState
script_state source = memory_state source.memory

-- how many tickets it gave, which is the next one
abbrev pub tickets_started : ScriptSource → ℕ
tickets_started source = tickets_given source.memory

-- What the script still says: the numbers of the requests and of the polls that fail; for each ticket, at
-- how many of its next polls nothing is found; the order in which tickets end; the numbers of the next
-- request and of the next poll.
pub record ScriptLeft : Type 0 where
  pub fail_requests : List ℕ
  pub fail_polls : List ℕ
  pub waits : List ℕ
  pub order : List ℕ
  pub next_request : ℕ
  pub next_poll : ℕ

abbrev pub script_left : ScriptSource → ScriptLeft
script_left source = record {
  fail_requests = source.script.fail_requests.items;
  fail_polls = source.script.fail_polls.items;
  waits = source.script.waits.items;
  order = source.script.order.items;
  next_request = source.next_request;
  next_poll = source.next_poll;
}

-- at how many of its next polls nothing is found of a ticket; none where the list is shorter
abbrev pub waits_left : List ℕ → ℕ → ℕ
waits_left [] ticket = 0
waits_left (wait ∷ waits) zero = wait
waits_left (wait ∷ waits) (suc ticket) = waits_left waits ticket

-- the waits when a ticket was polled once more
abbrev pub polled_once : List ℕ → ℕ → List ℕ
polled_once [] ticket = []
polled_once (wait ∷ waits) zero = (wait - 1) ∷ waits
polled_once (wait ∷ waits) (suc ticket) = wait ∷ polled_once waits ticket

-- the tickets before the first place of this one in the order, where it stands there at all
abbrev pub tickets_before : ℕ → List ℕ → Option (List ℕ)
tickets_before ticket [] = None
tickets_before ticket (other ∷ order) = if other == ticket then Some [] else option_map (λ tickets. other ∷ tickets) (tickets_before ticket order)

-- a ticket that stands earlier in the order is in flight
abbrev pub IsHeldUp : List ℕ → List (ℕ × SegmentLocation) → ℕ → Type 0
IsHeldUp order reads ticket = IsSomeAnd (tickets_before ticket order) (λ tickets. Any (λ other. IsSome (location_of other reads)) tickets)

-- `IsHeldUp` as it is found out: over the order, where `held` says what was found so far
abbrev pub held_up : List (ℕ × SegmentLocation) → ℕ → Bool → List ℕ → Bool
held_up reads ticket held [] = false
held_up reads ticket held (other ∷ order) = if other == ticket then held else held_up reads ticket (held || is_some (location_of other reads)) order

-- the next poll of the ticket finds nothing, by the script
abbrev pub Waits : ScriptLeft → List (ℕ × SegmentLocation) → ℕ → Type 0
Waits script reads ticket = (0 < waits_left script.waits ticket) ⊎ IsHeldUp script.order reads ticket

-- ---- what a call leaves of the script

abbrev pub request_counted : ScriptLeft → ScriptLeft
request_counted script = record {
  fail_requests = script.fail_requests;
  fail_polls = script.fail_polls;
  waits = script.waits;
  order = script.order;
  next_request = one_more script.next_request;
  next_poll = script.next_poll;
}

abbrev pub poll_counted : ℕ → ScriptLeft → ScriptLeft
poll_counted ticket script = record {
  fail_requests = script.fail_requests;
  fail_polls = script.fail_polls;
  waits = polled_once script.waits ticket;
  order = script.order;
  next_request = script.next_request;
  next_poll = one_more script.next_poll;
}

-- a call that ends is counted, and one that lacks memory is not
abbrev pub LeavesOf : {T : Type 0} → Result T SourceError → (ScriptLeft → ScriptLeft) → ScriptLeft → ScriptLeft → Type 0
LeavesOf (Ok value) counted old new = new ≡ counted old
LeavesOf (Err Failed) counted old new = new ≡ counted old
LeavesOf (Err Memory) counted old new = new ≡ old

-- ---- the idle count

-- only a poll that finds nothing raises it, by exactly one
abbrev pub CountsIdle : Result (Option (Vec ℕ)) SourceError → ℕ → ℕ → Type 0
CountsIdle (Ok None) old new = new ≡ one_more old
CountsIdle (Ok (Some bytes)) old new = new ≡ old
CountsIdle (Err error) old new = new ≡ old
