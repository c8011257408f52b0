-- All states are merged and the claims are closed.
use Rattle.std.proofs.Common.{◌≡◌, ℕ, ◌-◌, ◌<◌, ◌≤◌, ◌⊎◌, inl, inr, true, false, true≢false, List, [], ◌∷◌, length, refl, sym, ◌∙◌, arith}
use Rattle.std.specs.Prelude.{min, Bool}
use Rattle.std.specs.List.{All, sum_by}
use Rattle.std.proofs.lemmas.Bool.{cases_lt}
use Rattle.std.proofs.lemmas.List.Elements.{All-head, All-tail}
use Rattle.std.proofs.lemmas.List.Sums.{sum_by-cons}
use Rattle.vx_claims.specs.declared.claims.Claims.{Claims}
use Rattle.vx_claims.specs.declared.claims.ClaimSeat.{ClaimSeat}
use Rattle.vx_claims.specs.Claims.{claimed, parts, was_told, Closes}
use Rattle.vx_claims.specs.Apart.{times, once_below}
use Rattle.vx_claims.specs.Limits.{all_parts}
use Rattle.vx_claims.proofs.Numbers.{times_above, once_yes, once_no}
use Rattle.vx_workers.specs.declared.joins.Joined.{Joined}
use Rattle.vx_workers.specs.declared.worker_states.WorkerState.{WorkerState}
use Rattle.vx_workers.specs.Merges.{claimed_times, Merges}
use Rattle.vx_workers.specs.Joins.{Joins}
use Rattle.vx_workers.specs.Limits.{most_workers}

ones_sum : (worker_states : List WorkerState) → All (λ worker. parts worker.seat ≡ 1) worker_states → sum_by (λ worker. parts worker.seat) worker_states ≡ length worker_states
ones_sum [] all = refl
ones_sum (worker ∷ worker_states) all =
    let here = All-head (λ (one : WorkerState). parts one.seat ≡ 1) worker worker_states all in
    let rest = ones_sum worker_states (All-tail (λ (one : WorkerState). parts one.seat ≡ 1) worker worker_states all) in
    let cons = sum_by-cons (λ (one : WorkerState). parts one.seat) worker worker_states in
    omega (arith, here, rest, cons)

all_told : (worker_states : List WorkerState) (told : Bool) → (told ≡ false → All (λ worker. was_told worker.seat ≡ false) worker_states) → 0 < length worker_states → All (λ worker. was_told worker.seat ≡ true) worker_states → told ≡ true
all_told [] told untold some all = absurd (omega (arith, some))
all_told (worker ∷ worker_states) true untold some all = refl
all_told (worker ∷ worker_states) false untold some all =
    absurd (true≢false (sym (All-head (λ (one : WorkerState). was_told one.seat ≡ true) worker worker_states all) ∙ All-head (λ (one : WorkerState). was_told one.seat ≡ false) worker worker_states (untold refl)))

pub joins : (claims : Claims) (count word : ℕ) (worker_states : List WorkerState) (seat : ClaimSeat) (joined : Joined) → length worker_states ≤ most_workers → All (λ worker. parts worker.seat ≡ 1) worker_states → Merges claims (all_parts - length worker_states) worker_states seat joined → Closes count seat word → Joins count worker_states joined
joins claims count word worker_states seat joined few ones merges closes =
    let all : parts seat ≡ all_parts = (let sum = merges.parts in let number = ones_sum worker_states ones in omega (arith, sum, number, few)) in
    record {
      lists = merges.all_lists;
      once = λ x. once x (merges.claimed x) (closes.once x) (cases_lt x count);
      lower = λ x y some less.
          let same = merges.claimed y in
          let below = is_below y (omega (arith, some, same)) (cases_lt y (min word count)) in
          sym (merges.claimed x) ∙ closes.whole all x (omega (arith, less, below));
      whole = λ some told x. whole all x (merges.claimed x) (closes.passed (all_told worker_states (was_told seat) merges.untold some told)) (cases_lt x count);
      pieces = merges.all_pieces;
      some_pieces = merges.some_pieces;
      given = merges.given;
      borrowers = merges.all_borrowers;
      some_borrowers = merges.some_borrowers;
      given_borrowers = merges.given_borrowers;
      made = merges.made;
      lowest = merges.lowest;
      from = merges.from;
    }
  where
    is_below : (y : ℕ) → 1 ≤ times y (claimed seat) → (y < min word count) ⊎ (min word count ≤ y) → y < min word count
    is_below y some (inl less) = less
    is_below y some (inr least) = let none = times_above y (min word count) (claimed seat) closes.below least in absurd (omega (arith, some, none))

    once : (x : ℕ) → times x (claimed seat) ≡ sum_by (claimed_times x) worker_states → times x (claimed seat) ≤ 1 → (x < count) ⊎ (count ≤ x) → sum_by (claimed_times x) worker_states ≤ once_below count x
    once x same most (inl less) = let yes = once_yes count x less in omega (arith, same, most, yes)
    once x same most (inr least) = let none = times_above x (min word count) (claimed seat) closes.below (omega (arith, least)) in omega (arith, same, none)

    whole : parts seat ≡ all_parts → (x : ℕ) → times x (claimed seat) ≡ sum_by (claimed_times x) worker_states → count < word → (x < count) ⊎ (count ≤ x) → sum_by (claimed_times x) worker_states ≡ once_below count x
    whole all x same past (inl less) =
        let yes = once_yes count x less in
        let one = closes.whole all x (omega (arith, less, past)) in
        omega (arith, same, yes, one)
    whole all x same past (inr least) =
        let no = once_no count x least in
        let none = times_above x (min word count) (claimed seat) closes.below (omega (arith, least)) in
        omega (arith, same, no, none)
