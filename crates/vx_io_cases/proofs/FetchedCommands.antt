-- The commands of the cases: which fetches they submit, and that no two of them share owner and number.
use Rattle.std.proofs.Common.{◌≡◌, ℕ, ◌+◌, ◌≤◌, ◌==◌, ◌&&◌, Bool, true, false, List, [], ◌∷◌, ◌++◌, ap, ◌∙◌, arith, cond}
use Rattle.std.specs.List.{count_by}
use Rattle.std.proofs.lemmas.Bool.Decides.{nat_tests}
use Rattle.std.proofs.lemmas.List.{append-nil}
use Rattle.std.proofs.lemmas.List.Sums.{sum_by-append, sum_by-cons}
use Rattle.vx_io.specs.declared.requests.IoIntent.{IoIntent}
use Rattle.vx_io.specs.declared.requests.IoIntent.TheVariants.{Announce, Prefetch, Fetch}
use Rattle.vx_io.specs.declared.requests.IoOwnerId.{IoOwnerId}
use Rattle.vx_io.specs.declared.requests.IoRequest.{IoRequest}
use Rattle.vx_io.specs.declared.commands.IoCommand.{IoCommand}
use Rattle.vx_io.specs.Submits.{owned}
use Rattle.vx_io.specs.Drive.{Wanted, wanted_by, wanted_in, wanted_of, fetches_in, is_pair, times_wanted, AreDistinct}
use Rattle.vx_io.proofs.MoreFetches.{more_of}

-- the fetches of a batch
abbrev pub wanted_from : IoOwnerId → List IoRequest → List Wanted
wanted_from owner requests = wanted_in (owned owner requests)

wanted_once : (intent : IoIntent) (owner : IoOwnerId) (x : IoRequest) (one other : ℕ) → times_wanted one other (wanted_by intent owner x) ≤ cond (is_pair one other owner x.request) 1 0
wanted_once Announce owner x one other = omega arith
wanted_once Prefetch owner x one other = omega arith
wanted_once Fetch owner x one other = omega arith

-- a fetch is wanted no more often than its number was given
wanted_at_most : (owner : IoOwnerId) (requests : List IoRequest) (one other : ℕ) → times_wanted one other (wanted_from owner requests) ≤ count_by (λ (x : IoRequest). is_pair one other owner x.request) requests
wanted_at_most owner [] one other = omega arith
wanted_at_most owner (x ∷ requests) one other =
    let joined = sum_by-append (λ (fetch : Wanted). cond (is_pair one other fetch.owner fetch.request) 1 0) (wanted_by x.intent owner x) (wanted_from owner requests) in
    let cons = sum_by-cons (λ (y : IoRequest). cond (is_pair one other owner y.request) 1 0) x requests in
    let here = wanted_once x.intent owner x one other in
    let rest = wanted_at_most owner requests one other in
    omega (arith, joined, cons, here, rest)

-- the numbers 0, 1 and 2 differ
numbers_apart : (same : Bool) (number : ℕ) → cond (same && (0 == number)) 1 0 + (cond (same && (1 == number)) 1 0 + cond (same && (2 == number)) 1 0) ≤ 1
numbers_apart false number = omega arith
numbers_apart true number = grind (arith, nat_tests)

three_distinct : (fetches : List Wanted) (owner : IoOwnerId) (x y z : IoRequest) → fetches ≡ wanted_from owner (x ∷ []) ++ wanted_from owner (y ∷ z ∷ []) → x.request.0 ≡ 0 → y.request.0 ≡ 1 → z.request.0 ≡ 2 → AreDistinct fetches
three_distinct fetches owner x y z are first second third one other =
    let joined = sum_by-append (λ (fetch : Wanted). cond (is_pair one other fetch.owner fetch.request) 1 0) (wanted_from owner (x ∷ [])) (wanted_from owner (y ∷ z ∷ [])) in
    let here = wanted_at_most owner (x ∷ []) one other in
    let behind = wanted_at_most owner (y ∷ z ∷ []) one other in
    let apart : cond ((owner.0 == one) && (x.request.0 == other)) 1 0 + (cond ((owner.0 == one) && (y.request.0 == other)) 1 0 + cond ((owner.0 == one) && (z.request.0 == other)) 1 0) ≤ 1
    = rw (first, second, third) (numbers_apart (owner.0 == one) other) in
    rw are (omega (arith, joined, here, behind, apart))

-- a batch of one request, polls, a batch of two, and polls
pub commands_distinct : (none first polled last all : List IoCommand) (batch more : IoCommand) (owner : IoOwnerId) (x y z : IoRequest) → none ≡ [] → first ≡ none ++ batch ∷ [] → fetches_in polled ≡ fetches_in first → last ≡ polled ++ more ∷ [] → fetches_in all ≡ fetches_in last →
    wanted_of batch ≡ wanted_from owner (x ∷ []) → wanted_of more ≡ wanted_from owner (y ∷ z ∷ []) → x.request.0 ≡ 0 → y.request.0 ≡ 1 → z.request.0 ≡ 2 → AreDistinct (fetches_in all)
commands_distinct none first polled last all batch more owner x y z empty begun kept pushed ends one two =
    let start : first ≡ batch ∷ [] = begun ∙ ap (λ (l : List IoCommand). l ++ batch ∷ []) empty in
    let begins : fetches_in polled ≡ wanted_from owner (x ∷ []) = kept ∙ ap fetches_in start ∙ append-nil (wanted_of batch) ∙ one in
    let goes_on : fetches_in last ≡ fetches_in polled ++ wanted_of more = ap fetches_in pushed ∙ more_of wanted_of polled more in
    three_distinct (fetches_in all) owner x y z (ends ∙ goes_on ∙ (λ i. begins i ++ two i))

-- a batch of one request, and polls
pub one_distinct : (none first all : List IoCommand) (batch : IoCommand) (owner : IoOwnerId) (x : IoRequest) → none ≡ [] → first ≡ none ++ batch ∷ [] → fetches_in all ≡ fetches_in first → wanted_of batch ≡ wanted_from owner (x ∷ []) → AreDistinct (fetches_in all)
one_distinct none first all batch owner x empty begun kept one number other =
    let start : first ≡ batch ∷ [] = begun ∙ ap (λ (l : List IoCommand). l ++ batch ∷ []) empty in
    let wanted : fetches_in all ≡ wanted_from owner (x ∷ []) = kept ∙ ap fetches_in start ∙ append-nil (wanted_of batch) ∙ one in
    let most = wanted_at_most owner (x ∷ []) number other in
    let small = one_or_none (is_pair number other owner x.request) in
    rw wanted (omega (arith, most, small))
  where
    one_or_none : (b : Bool) → 0 + cond b 1 0 ≤ 1
    one_or_none true = omega arith
    one_or_none false = omega arith
