-- A list of commands, one after another.
use Rattle.std.proofs.Common.{◌≡◌, ℕ, zero, suc, ◌+◌, ◌<◌, ◌≤◌, inl, inr, List, [], ◌∷◌, ◌++◌, Option, Some, None, Ok, Err, Vec, Global, length, take, drop, refl, sym, ap, ◌∙◌, subst, arith, cond}
use Rattle.std.specs.Prelude.{slice_get, slice_index_or, remove, IsSomeAnd}
use Rattle.std.specs.List.{All, Any, flat_map}
use Rattle.std.proofs.lemmas.List.{append-nil, length-append, append_assoc}
use Rattle.std.proofs.lemmas.Grind.{flat_map-append}
use Rattle.std.proofs.lemmas.List.Elements.{All-cons, All-append}
use Rattle.std.proofs.lemmas.List.Sums.{sum_by-append, sum_by-remove}
use Rattle.vx_base.specs.Sources.{IsSegment}
use Rattle.vx_io.specs.declared.requests.Completion.{Completion}
use Rattle.vx_io.specs.declared.requests.IoOwnerId.{IoOwnerId}
use Rattle.vx_io.specs.declared.requests.IoRequest.{IoRequest}
use Rattle.vx_io.specs.declared.commands.IoCommand.{IoCommand}
use Rattle.vx_io.specs.declared.commands.IoCommand.TheVariants.{Submit, Poll}
use Rattle.vx_io.specs.declared.commands.DriveError.{DriveError}
use Rattle.vx_io.specs.declared.commands.Driven.{Driven}
use Rattle.vx_io.specs.Ranges.{RangeTable}
use Rattle.vx_io.specs.Session.{Table, Flight, SessionState}
use Rattle.vx_io.specs.Sound.{HasWhatIsInFlight}
use Rattle.vx_io.specs.Submits.{owned, Submitted, IsKnown, SubmitGives}
use Rattle.vx_io.specs.Polls.{AllGoOn, EndsAt, HasBytes}
use Rattle.vx_io.specs.Drive.{Wanted, wanted_in, wanted_of, IsFlightOf, IsAmong, fetches_in, requests_of_command, requests_of, is_pair, times_wanted, times_in_flight, times_completed, completions_due, IsCompletionOf, DidCommands, EachGives, CommandGives, AreDistinct, Refused, EndsWith, Drives}
use Rattle.vx_io.proofs.Anys.{any_before, any_behind, any_map, all_map, all_none}
use Rattle.vx_io.proofs.MoreFetches.{more_of, no_wanted, Adds, adds_in_steps, known_owned, times_append_flying}
use Rattle.vx_io.proofs.DueFetches.{left, due_or_left, due_more, due_submit, due_poll_none, due_poll_some}
use Rattle.vx_io.proofs.Running.{did_then, did_nothing, did_end, did_submitted}
use Rattle.vx_io.proofs.Places.{stands_at, all_got, all_removed, size_removed}

-- the commands were done, and each of their fetches is completed or in flight
pub record Driving (ranges : RangeTable) (commands : List IoCommand) (completions : List Completion) (old middle : SessionState) : Type 0 where
  pub did : DidCommands ranges commands completions old middle
  pub sized : length completions + length middle.table.fetches ≡ length (fetches_in commands)

-- ---- one command behind the others

-- what is known of a list of commands stays true of a longer one
still_named : (file : Option (List ℕ)) (commands : List IoCommand) (command : IoCommand) (completions : List Completion) → All (λ (completion : Completion). Any (IsCompletionOf file completion) (fetches_in commands)) completions → All (λ (completion : Completion). Any (IsCompletionOf file completion) (fetches_in (commands ++ command ∷ []))) completions
still_named file commands command completions all =
    all_map (λ (completion : Completion). Any (IsCompletionOf file completion) (fetches_in commands)) (λ (completion : Completion). Any (IsCompletionOf file completion) (fetches_in (commands ++ command ∷ []))) completions
    (λ completion some. rw (more_of wanted_of commands command) (any_before (IsCompletionOf file completion) (fetches_in commands) (wanted_of command) some)) all

still_wanted : (commands : List IoCommand) (command : IoCommand) (fetches : List Flight) → All (IsAmong (fetches_in commands)) fetches → All (IsAmong (fetches_in (commands ++ command ∷ []))) fetches
still_wanted commands command fetches all =
    all_map (IsAmong (fetches_in commands)) (IsAmong (fetches_in (commands ++ command ∷ []))) fetches
    (λ fetch some. rw (more_of wanted_of commands command) (any_before (IsFlightOf fetch) (fetches_in commands) (wanted_of command) some)) all

times_more : (owner request : ℕ) (commands : List IoCommand) (command : IoCommand) → times_wanted owner request (fetches_in (commands ++ command ∷ [])) ≡ times_wanted owner request (fetches_in commands) + times_wanted owner request (wanted_of command)
times_more owner request commands command =
    ap (times_wanted owner request) (more_of wanted_of commands command) ∙ sum_by-append (λ (fetch : Wanted). cond (is_pair owner request fetch.owner fetch.request) 1 0) (fetches_in commands) (wanted_of command)

size_more : (commands : List IoCommand) (command : IoCommand) → length (fetches_in (commands ++ command ∷ [])) ≡ length (fetches_in commands) + length (wanted_of command)
size_more commands command = ap length (more_of wanted_of commands command) ∙ length-append (fetches_in commands) (wanted_of command)

-- how many are in flight, where each poll completed one
in_flight_left : (commands : List IoCommand) (completed in_flight : ℕ) → completed + in_flight ≡ length (fetches_in commands) → completed ≡ completions_due 0 commands → in_flight ≡ left 0 commands
in_flight_left commands completed in_flight sized due = let all = due_or_left 0 commands in omega (arith, sized, due, all)

-- ---- each command

-- the completions of one command alone
own_gives : (ranges : RangeTable) (command : IoCommand) (completions more : List Completion) (old new : SessionState) → CommandGives ranges command (Ok tt) completions more old new →
    (first : List Completion) × (more ≡ completions ++ first) × CommandGives ranges command (Ok tt) [] first old new
own_gives ranges (Submit owner batch) completions more old new gives = ([], gives.0 ∙ sym (append-nil completions), (refl, gives.1))
own_gives ranges Poll completions more old new (inl gives) = ([], gives.0 ∙ sym (append-nil completions), inl (refl, gives.1))
own_gives ranges Poll completions more old new (inr (completion, same, gives)) = (completion ∷ [], same, inr (completion, refl, gives))

each_then : (ranges : RangeTable) (commands : List IoCommand) (command : IoCommand) (completions first : List Completion) (old middle new : SessionState) →
    EachGives ranges commands completions old middle → CommandGives ranges command (Ok tt) [] first middle new → EachGives ranges (commands ++ command ∷ []) (completions ++ first) old new
each_then ranges [] command completions first old middle new each gives = (
  first,
  [],
  new,
  ap (λ (cs : List Completion). cs ++ first) each.0 ∙ sym (append-nil first),
  subst (λ (s : SessionState). CommandGives ranges command (Ok tt) [] first s new) each.1 gives,
  (refl, refl),
)
each_then ranges (one ∷ commands) command completions first old middle new each gives = (
  each.0,
  each.1 ++ first,
  each.2,
  ap (λ (cs : List Completion). cs ++ first) each.3 ∙ append_assoc each.0 each.1 first,
  each.4,
  each_then ranges commands command each.1 first each.2 middle new each.5 gives,
)

each_more : (ranges : RangeTable) (commands : List IoCommand) (command : IoCommand) (completions more : List Completion) (old middle new : SessionState) →
    EachGives ranges commands completions old middle → CommandGives ranges command (Ok tt) completions more middle new → EachGives ranges (commands ++ command ∷ []) more old new
each_more ranges commands command completions more old middle new each gives =
    let own = own_gives ranges command completions more middle new gives in
    rw own.1 (each_then ranges commands command completions own.0 old middle new each own.2)

-- ---- a batch

fetches_added : (ranges : RangeTable) (owner : IoOwnerId) (batch : List IoRequest) (old new : SessionState) → All (IsKnown ranges) batch → Submitted ranges (owned owner batch) old new → Adds (wanted_in (owned owner batch)) old.table.fetches new.table.fetches
fetches_added ranges owner batch old new known did =
    let added = adds_in_steps ranges old.table did.ran.steps did.ran.fetches_ended (rw did.ran.requests_done (known_owned ranges owner batch known)) in
    rw (did.ran.table, did.ran.requests_done) at added

pub drive_submit : (ranges : RangeTable) (commands : List IoCommand) (completions : List Completion) (owner : IoOwnerId) (batch : Vec IoRequest Global) (old middle new : SessionState) →
    Driving ranges commands completions old middle → SubmitGives ranges owner batch.items (Ok tt) middle new → Driving ranges (commands ++ Submit owner batch ∷ []) completions old new
drive_submit ranges commands completions owner batch old middle new so_far gives =
    let done = so_far.did in
    let added = fetches_added ranges owner batch.items middle new gives.0 gives.1 in
    let wanted : List Wanted = wanted_of (Submit owner batch) in
    record {
      did = record {
        each = each_more ranges commands (Submit owner batch) completions completions old middle new done.each (refl, gives);
        did = let both = did_then ranges (requests_of commands) (owned owner batch.items) (length completions) 0 old middle new done.did (did_submitted ranges (owned owner batch.items) middle new gives.1) in
            let sum : length completions + 0 ≡ length completions = omega arith in
            rw (more_of requests_of_command commands (Submit owner batch)) (rw sum at both);
        named = still_named old.source.file commands (Submit owner batch) completions done.named;
        balance = λ o r.
            let p = done.balance o r in
            let q = times_more o r commands (Submit owner batch) in
            let s = ap (times_in_flight o r) added.behind ∙ times_append_flying o r middle.table.fetches added.more in
            let t = added.times o r in
            omega (arith, p, q, s, t);
        submitted = rw added.behind (All-append (IsAmong (fetches_in (commands ++ Submit owner batch ∷ []))) middle.table.fetches added.more
            (still_wanted commands (Submit owner batch) middle.table.fetches done.submitted)
            (all_map (IsAmong wanted) (IsAmong (fetches_in (commands ++ Submit owner batch ∷ []))) added.more
            (λ fetch some. rw (more_of wanted_of commands (Submit owner batch)) (any_behind (IsFlightOf fetch) (fetches_in commands) wanted some)) added.among));
        counted = λ same below.
            let idle : middle.source.idle ≡ old.source.idle = sym gives.2.idle ∙ same in
            let due = done.counted idle below in
            let more = due_more 0 commands (Submit owner batch) in
            let none = due_submit (left 0 commands) owner batch in
            omega (arith, due, more, none);
        file = gives.2.file ∙ done.file;
        faults = gives.3 ∙ done.faults;
        idle = let p = done.idle in let q = gives.2.idle in omega (arith, p, q);
      };
      sized =
          let p = so_far.sized in
          let q = size_more commands (Submit owner batch) in
          let r = ap length added.behind ∙ length-append middle.table.fetches added.more in
          let s = added.size in
          omega (arith, p, q, r, s);
    }

-- ---- a poll that found nothing

no_requests : (commands : List IoCommand) → requests_of (commands ++ Poll ∷ []) ≡ requests_of commands
no_requests commands = more_of requests_of_command commands Poll ∙ append-nil (requests_of commands)

pub drive_idle : (ranges : RangeTable) (commands : List IoCommand) (completions : List Completion) (old middle new : SessionState) →
    Driving ranges commands completions old middle → AllGoOn (length middle.table.fetches) middle new → Driving ranges (commands ++ Poll ∷ []) completions old new
drive_idle ranges commands completions old middle new so_far polled =
    let done = so_far.did in
    record {
      did = record {
        each = each_more ranges commands Poll completions completions old middle new done.each (inl (refl, polled));
        did = let both = did_then ranges (requests_of commands) [] (length completions) 0 old middle new done.did (did_nothing ranges middle new polled.table polled.keeps.asked) in
            let sum : length completions + 0 ≡ length completions = omega arith in
            let end : requests_of commands ++ [] ≡ requests_of commands = append-nil (requests_of commands) in
            rw (no_requests commands) (rw (sum, end) at both);
        named = still_named old.source.file commands Poll completions done.named;
        balance = λ o r. rw (no_wanted commands, polled.table) (done.balance o r);
        submitted = rw polled.table (still_wanted commands Poll middle.table.fetches done.submitted);
        counted = λ same below.
            let p = done.idle in
            let q = polled.waited.raised in
            let k = polled.waited.kept in
            let idle : middle.source.idle ≡ old.source.idle = omega (arith, p, k, same) in
            let due = done.counted idle below in
            let in_flight = in_flight_left commands (length completions) (length middle.table.fetches) so_far.sized due in
            let none : left 0 commands ≡ 0 = omega (arith, in_flight, idle, q, same, below) in
            let more = due_more 0 commands Poll in
            let last = due_poll_none (left 0 commands) none in
            omega (arith, due, more, last);
        file = polled.keeps.file ∙ done.file;
        faults = polled.faults ∙ done.faults;
        idle = let p = done.idle in let q = polled.waited.kept in omega (arith, p, q);
      };
      sized = rw (no_wanted commands, polled.table) so_far.sized;
    }

-- ---- a poll that ended a fetch

completed_wanted : (file : Option (List ℕ)) (completion : Completion) (fetch : Flight) (wanted : List Wanted) → fetch.owner ≡ completion.owner → fetch.request ≡ completion.request → IsSegment file fetch.at completion.bytes.items → IsAmong wanted fetch → Any (IsCompletionOf file completion) wanted
completed_wanted file completion fetch wanted owner request segment some =
    any_map (IsFlightOf fetch) (IsCompletionOf file completion) wanted
    (λ one is. (sym owner ∙ is.0, sym request ∙ is.1, rw is.2 at segment)) some

-- the fetch at a place, with what is told of it
record At (place : ℕ) (state : SessionState) (completion : Completion) : Type 0 where
  fetch : Flight
  here : slice_get state.table.fetches place ≡ Some fetch
  owner : fetch.owner ≡ completion.owner
  request : fetch.request ≡ completion.request
  segment : IsSegment state.source.file fetch.at completion.bytes.items

at_place : (place : ℕ) (state : SessionState) (completion : Completion) (found : Option Flight) → slice_get state.table.fetches place ≡ found →
    IsSomeAnd found (λ fetch. (fetch.owner ≡ completion.owner) × (fetch.request ≡ completion.request)) → IsSomeAnd found (λ fetch. IsSegment state.source.file fetch.at completion.bytes.items) → At place state completion
at_place place state completion None is named has = absurd named
at_place place state completion (Some fetch) is named has = record { fetch = fetch; here = is; owner = named.0; request = named.1; segment = has }

pub drive_ended : (ranges : RangeTable) (commands : List IoCommand) (completions : List Completion) (completion : Completion) (place : ℕ) (old middle new : SessionState) →
    Driving ranges commands completions old middle → EndsAt place completion.owner completion.request ranges middle new → HasBytes place middle completion.bytes.items → new.source.faults ≡ middle.source.faults →
    Driving ranges (commands ++ Poll ∷ []) (completions ++ completion ∷ []) old new
drive_ended ranges commands completions completion place old middle new so_far ends has faults =
    let done = so_far.did in
    let one = at_place place middle completion (slice_get middle.table.fetches place) refl ends.named has in
    let gone : new.table.fetches ≡ remove middle.table.fetches place = ap (λ (t : Table). t.fetches) ends.table in
    let named : Any (IsCompletionOf old.source.file completion) (fetches_in commands) =
    completed_wanted old.source.file completion one.fetch (fetches_in commands) one.owner one.request (subst (λ (f : Option (List ℕ)). IsSegment f one.fetch.at completion.bytes.items) done.file one.segment) (all_got (IsAmong (fetches_in commands)) middle.table.fetches place one.fetch done.submitted one.here) in
    let count = length-append completions (completion ∷ []) in
    record {
      did = record {
        each = each_more ranges commands Poll completions (completions ++ completion ∷ []) old middle new done.each (inr (completion, refl, (place, ends, has, faults)));
        did = let both = did_then ranges (requests_of commands) [] (length completions) 1 old middle new done.did (did_end ranges place middle new ends.table ends.keeps.asked) in
            let sum : length completions + 1 ≡ length (completions ++ completion ∷ []) = omega (arith, count) in
            let end : requests_of commands ++ [] ≡ requests_of commands = append-nil (requests_of commands) in
            rw (no_requests commands) (rw (sum, end) at both);
        named = rw (no_wanted commands) (All-append (λ (c : Completion). Any (IsCompletionOf old.source.file c) (fetches_in commands)) completions (completion ∷ []) done.named
            (All-cons (λ (c : Completion). Any (IsCompletionOf old.source.file c) (fetches_in commands)) completion [] named (all_none (λ (c : Completion). Any (IsCompletionOf old.source.file c) (fetches_in commands)))));
        balance = λ o r.
            let p = done.balance o r in
            let q = sum_by-append (λ (c : Completion). cond (is_pair o r c.owner c.request) 1 0) completions (completion ∷ []) in
            let s = sum_by-remove (λ (f : Flight). cond (is_pair o r f.owner f.request) 1 0) middle.table.fetches place one.fetch ends.within in
            let t : cond {A = ℕ} (is_pair o r (slice_index_or middle.table.fetches place one.fetch).owner (slice_index_or middle.table.fetches place one.fetch).request) 1 0 ≡ cond {A = ℕ} (is_pair o r completion.owner completion.request) 1 0 =
            rw (stands_at middle.table.fetches place one.fetch one.fetch one.here, one.owner, one.request) refl in
            rw (no_wanted commands, gone) (omega (arith, p, q, s, t));
        submitted = rw gone (all_removed (IsAmong (fetches_in (commands ++ Poll ∷ []))) middle.table.fetches place (still_wanted commands Poll middle.table.fetches done.submitted));
        counted = λ same below.
            let p = done.idle in
            let k = ends.waited.kept in
            let idle : middle.source.idle ≡ old.source.idle = omega (arith, p, k, same) in
            let due = done.counted idle below in
            let in_flight = in_flight_left commands (length completions) (length middle.table.fetches) so_far.sized due in
            let within = ends.within in
            let some : 0 < left 0 commands = omega (arith, in_flight, within) in
            let more = due_more 0 commands Poll in
            let last = due_poll_some (left 0 commands) some in
            omega (arith, due, more, last, count);
        file = ends.keeps.file ∙ done.file;
        faults = faults ∙ done.faults;
        idle = let p = done.idle in let q = ends.waited.kept in omega (arith, p, q);
      };
      sized =
          let p = so_far.sized in
          let q = size_removed middle.table.fetches place ends.within in
          rw (no_wanted commands, gone) (omega (arith, p, q, count));
    }

-- ---- one command

pub drive_more : (ranges : RangeTable) (commands : List IoCommand) (command : IoCommand) (completions more : List Completion) (old middle new : SessionState) →
    Driving ranges commands completions old middle → CommandGives ranges command (Ok tt) completions more middle new → Driving ranges (commands ++ command ∷ []) more old new
drive_more ranges commands (Submit owner batch) completions more old middle new so_far gives =
    rw gives.0 (drive_submit ranges commands completions owner batch old middle new so_far gives.1)
drive_more ranges commands Poll completions more old middle new so_far (inl gives) =
    rw gives.0 (drive_idle ranges commands completions old middle new so_far gives.1)
drive_more ranges commands Poll completions more old middle new so_far (inr (completion, same, gives)) =
    rw same (drive_ended ranges commands completions completion gives.0 old middle new so_far gives.1 gives.2 gives.3)

-- ---- the whole list

take_front : (ones twos : List IoCommand) (n : ℕ) → n ≡ length ones → take n (ones ++ twos) ≡ ones
take_front [] twos zero is = refl
take_front [] twos (suc n) is = absurd (omega (arith, is))
take_front (one ∷ ones) twos zero is = absurd (omega (arith, is))
take_front (one ∷ ones) twos (suc n) is = ap (λ (cs : List IoCommand). one ∷ cs) (take_front ones twos n (omega (arith, is)))

drop_front : (ones twos : List IoCommand) (n : ℕ) → n ≡ length ones → drop n (ones ++ twos) ≡ twos
drop_front [] twos zero is = refl
drop_front [] twos (suc n) is = absurd (omega (arith, is))
drop_front (one ∷ ones) twos zero is = absurd (omega (arith, is))
drop_front (one ∷ ones) twos (suc n) is = drop_front ones twos n (omega (arith, is))

-- what is completed is what was wanted, each at most once
completed_once : (ranges : RangeTable) (ones twos : List IoCommand) (completions : List Completion) (old middle : SessionState) → DidCommands ranges ones completions old middle → AreDistinct (fetches_in (ones ++ twos)) → (owner request : ℕ) → times_completed owner request completions ≤ 1
completed_once ranges ones twos completions old middle did distinct owner request =
    let p = did.balance owner request in
    let q = ap (times_wanted owner request) (flat_map-append wanted_of ones twos) ∙ sum_by-append (λ (fetch : Wanted). cond (is_pair owner request fetch.owner fetch.request) 1 0) (fetches_in ones) (fetches_in twos) in
    let r = distinct owner request in
    omega (arith, p, q, r)

pub drive_all : (ranges : RangeTable) (commands ones twos : List IoCommand) (outcome : Driven) (old middle new : SessionState) → ones ++ twos ≡ commands → outcome.done ≡ length ones → AreDistinct (fetches_in commands) →
    Driving ranges ones outcome.completions.items old middle → EndsWith ranges twos outcome.error middle new → HasWhatIsInFlight new → Drives ranges commands outcome old new
drive_all ranges commands ones twos outcome old middle new joined done distinct so_far ends has =
    rw (← joined) (record {
      within = let sum = length-append ones twos in omega (arith, sum, done);
      once = completed_once ranges ones twos outcome.completions.items old middle so_far.did (rw (← joined) at distinct);
      between = middle;
      did = rw (take_front ones twos outcome.done done) so_far.did;
      ends = rw (drop_front ones twos outcome.done done) ends;
      in_flight = has;
    })

-- the command behind them was refused
refused_by : (ranges : RangeTable) (command : IoCommand) (error : DriveError) (completions more : List Completion) (old new : SessionState) → CommandGives ranges command (Err error) completions more old new → (more ≡ completions) × Refused ranges command error old new
refused_by ranges (Submit owner batch) error completions more old new gives = gives
refused_by ranges Poll error completions more old new gives = gives

pub drive_refused : (ranges : RangeTable) (commands ones twos : List IoCommand) (command : IoCommand) (error : DriveError) (outcome : Driven) (completions : List Completion) (old middle new : SessionState) → ones ++ command ∷ twos ≡ commands → outcome.done ≡ length ones → outcome.error ≡ Some error → AreDistinct (fetches_in commands) →
    Driving ranges ones completions old middle → CommandGives ranges command (Err error) completions outcome.completions.items middle new → HasWhatIsInFlight new → Drives ranges commands outcome old new
drive_refused ranges commands ones twos command error outcome completions old middle new joined done failed distinct so_far gives has =
    let refused = refused_by ranges command error completions outcome.completions.items middle new gives in
    drive_all ranges commands ones (command ∷ twos) outcome old middle new joined done distinct (rw refused.0 so_far) (rw failed refused.1) has

pub next_joined : (ones twos commands rest : List IoCommand) (command : IoCommand) → ones ++ twos ≡ commands → twos ≡ command ∷ rest → (ones ++ command ∷ []) ++ rest ≡ commands
next_joined ones twos commands rest command joined is = append_assoc ones (command ∷ []) rest ∙ ap (λ (cs : List IoCommand). ones ++ cs) (sym is) ∙ joined

pub none_left : (commands : List IoCommand) → length commands ≡ 0 → commands ≡ []
none_left [] none = refl
none_left (command ∷ commands) none = absurd (omega (arith, none))

pub length_more : (commands : List IoCommand) (command : IoCommand) (done : ℕ) → done ≡ length commands → done + 1 ≡ length (commands ++ command ∷ [])
length_more commands command done is = let sum = length-append commands (command ∷ []) in omega (arith, is, sum)
