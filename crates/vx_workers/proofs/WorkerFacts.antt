-- What follows of each state, and of all, from what their workers did.
use Rattle.std.proofs.Common.{◌≡◌, ℕ, ◌+◌, ◌≤◌, inl, inr, true, List, [], ◌∷◌, Some, None, length, map, refl, sym, ap, ◌∙◌, arith}
use Rattle.std.specs.Prelude.{Option, Bool}
use Rattle.std.specs.List.{All, sum_by}
use Rattle.std.proofs.lemmas.List.Elements.{All-head, All-tail, All-cons, All-nil}
use Rattle.std.proofs.lemmas.List.Sums.{sum_by-cons}
use Rattle.vx_splits.specs.declared.selected_rows.SelectedRows.{SelectedRows}
use Rattle.vx_claims.specs.declared.claims.Claims.{Claims}
use Rattle.vx_claims.specs.Apart.{times, times_over}
use Rattle.vx_claims.specs.Claims.{claimed, was_told}
use Rattle.vx_claims.proofs.Numbers.{times_append, times_other}
use Rattle.vx_drive.specs.declared.plans.ScanPlans.{ScanPlans}
use Rattle.vx_chunks.specs.Lent.{EachSourceBy}
use Rattle.vx_workers.specs.declared.worker_states.ChunkError.{ChunkError}
use Rattle.vx_workers.specs.declared.worker_states.WorkerState.{WorkerState}
use Rattle.vx_workers.specs.Merges.{IsAtMost, IsBelow, claimed_times, done_times, borrower_chunks_times}
use Rattle.vx_workers.specs.Borrowers.{borrower_chunks}
use Rattle.vx_workers.specs.Workers.{numbers_of, Ends, Worked}
use Rattle.vx_base.specs.Sources.{SourceState}

-- ---- facts of each state

-- what follows of each state from what holds of it and its source
pub all_by : (P : WorkerState → SourceState → SourceState → Type 0) (Q : WorkerState → Type 0) → ((worker : WorkerState) (before after : SourceState) → P worker before after → Q worker)
    → (worker_states : List WorkerState) (befores afters : List SourceState) → EachSourceBy P worker_states befores afters → All Q worker_states
all_by P Q from [] [] [] each = All-nil Q
all_by P Q from [] [] (after ∷ afters) each = absurd each
all_by P Q from [] (before ∷ befores) afters each = absurd each
all_by P Q from (worker ∷ worker_states) [] afters each = absurd each
all_by P Q from (worker ∷ worker_states) (before ∷ befores) [] each = absurd each
all_by P Q from (worker ∷ worker_states) (before ∷ befores) (after ∷ afters) each = All-cons Q worker worker_states (from worker before after each.0) (all_by P Q from worker_states befores afters each.1)

pub as_many_by : (P : WorkerState → SourceState → SourceState → Type 0) (worker_states : List WorkerState) (befores afters : List SourceState) → EachSourceBy P worker_states befores afters → length worker_states ≡ length befores
as_many_by P [] [] [] each = refl
as_many_by P [] [] (after ∷ afters) each = absurd each
as_many_by P [] (before ∷ befores) afters each = absurd each
as_many_by P (worker ∷ worker_states) [] afters each = absurd each
as_many_by P (worker ∷ worker_states) (before ∷ befores) [] each = absurd each
as_many_by P (worker ∷ worker_states) (before ∷ befores) (after ∷ afters) each = let rest = as_many_by P worker_states befores afters each.1 in omega (arith, rest)

-- sums over states that agree on each
pub sums_agree : (f g : WorkerState → ℕ) (worker_states : List WorkerState) → All (λ worker. f worker ≡ g worker) worker_states → sum_by f worker_states ≡ sum_by g worker_states
sums_agree f g [] all = refl
sums_agree f g (worker ∷ worker_states) all =
    let here = All-head (λ (one : WorkerState). f one ≡ g one) worker worker_states all in
    let rest = sums_agree f g worker_states (All-tail (λ (one : WorkerState). f one ≡ g one) worker worker_states all) in
    let one = sum_by-cons f worker worker_states in
    let two = sum_by-cons g worker worker_states in
    omega (arith, here, rest, one, two)

pub sums_less : (f g : WorkerState → ℕ) (worker_states : List WorkerState) → All (λ worker. f worker ≤ g worker) worker_states → sum_by f worker_states ≤ sum_by g worker_states
sums_less f g [] all = omega arith
sums_less f g (worker ∷ worker_states) all =
    let here = All-head (λ (one : WorkerState). f one ≤ g one) worker worker_states all in
    let rest = sums_less f g worker_states (All-tail (λ (one : WorkerState). f one ≤ g one) worker worker_states all) in
    let one = sum_by-cons f worker worker_states in
    let two = sum_by-cons g worker worker_states in
    omega (arith, here, rest, one, two)

pub over_workers : (x : ℕ) (worker_states : List WorkerState) → All (λ worker. worker.claimed.items ≡ claimed worker.seat) worker_states → times_over x (map (λ worker. worker.claimed.items) worker_states) ≡ sum_by (claimed_times x) worker_states
over_workers x [] all = refl
over_workers x (worker ∷ worker_states) all =
    let here = ap (times x) (All-head (λ (one : WorkerState). one.claimed.items ≡ claimed one.seat) worker worker_states all) in
    let rest = over_workers x worker_states (All-tail (λ (one : WorkerState). one.claimed.items ≡ claimed one.seat) worker worker_states all) in
    let one = sum_by-cons (times x) worker.claimed.items (map (λ (other : WorkerState). other.claimed.items) worker_states) in
    let two = sum_by-cons (claimed_times x) worker worker_states in
    omega (arith, here, rest, one, two)

-- how often a state has the piece of a chunk, or ran it with borrowed values
abbrev pub ran_times : ℕ → WorkerState → ℕ
ran_times x worker = done_times x worker + borrower_chunks_times x worker

pub ran_sum : (x : ℕ) (worker_states : List WorkerState) → sum_by (ran_times x) worker_states ≡ sum_by (done_times x) worker_states + sum_by (borrower_chunks_times x) worker_states
ran_sum x [] = refl
ran_sum x (worker ∷ worker_states) =
    let rest = ran_sum x worker_states in
    let all = sum_by-cons (ran_times x) worker worker_states in
    let done = sum_by-cons (done_times x) worker worker_states in
    let borrowing = sum_by-cons (borrower_chunks_times x) worker worker_states in
    omega (arith, rest, all, done, borrowing)

-- ---- what a state ran

module _ (shares : Bool) (claims : Claims) (plans : ScanPlans) (chunks : List SelectedRows) where
  pub done_claimed : (x : ℕ) (error : Option ChunkError) (numbers done borrowing : List ℕ) (told : Bool) (before after : SourceState) → Ends plans chunks error numbers done borrowing told before after → times x done + times x borrowing ≤ times x numbers
  done_claimed x None numbers done borrowing told before after ends = let same = ends.0 x in omega (arith, same)
  done_claimed x (Some error) numbers done borrowing told before after (inl stops) =
      let list = ap (times x) stops.last in
      let more = times_append x stops.earlier (error.chunk ∷ []) in
      let same = stops.all_done x in
      omega (arith, list, more, same)
  done_claimed x (Some error) numbers done borrowing told before after (inr wants) = let same = wants.all x in omega (arith, same)

  pub done_below : (x : ℕ) (lowest error : Option ChunkError) (numbers done borrowing : List ℕ) (told : Bool) (before after : SourceState) → IsBelow lowest x → IsAtMost lowest error → Ends plans chunks error numbers done borrowing told before after → times x done + times x borrowing ≡ times x numbers
  done_below x lowest None numbers done borrowing told before after below most ends = sym (ends.0 x)
  done_below x None (Some error) numbers done borrowing told before after below most ends = absurd most
  done_below x (Some lowest) (Some error) numbers done borrowing told before after below most (inl stops) =
      let list = ap (times x) stops.last in
      let more = times_append x stops.earlier (error.chunk ∷ []) in
      let other = times_other x error.chunk [] (λ same. absurd (omega (arith, below, most, same))) in
      let same = stops.all_done x in
      omega (arith, list, more, other, same)
  done_below x (Some lowest) (Some error) numbers done borrowing told before after below most (inr wants) = sym (wants.all x)

  pub worker_ran : (x : ℕ) (worker : WorkerState) (before after : SourceState) → Worked shares claims plans chunks worker before after → ran_times x worker ≤ claimed_times x worker
  worker_ran x worker before after worked =
      let most = done_claimed x worker.error worker.claimed.items (numbers_of worker.pieces.items) (borrower_chunks worker.borrowers.items) (was_told worker.seat) before after worked.ends in
      let list = ap (times x) worked.claimed in
      omega (arith, most, list)

  abbrev pub RanBelow : ℕ → Option ChunkError → WorkerState → Type 0
  RanBelow x lowest worker = IsAtMost lowest worker.error → ran_times x worker ≡ claimed_times x worker

  pub worker_below : (x : ℕ) (lowest : Option ChunkError) → IsBelow lowest x → (worker : WorkerState) (before after : SourceState) → Worked shares claims plans chunks worker before after → RanBelow x lowest worker
  worker_below x lowest below worker before after worked most =
      done_below x lowest worker.error worker.claimed.items (numbers_of worker.pieces.items) (borrower_chunks worker.borrowers.items) (was_told worker.seat) before after below most worked.ends ∙ ap (times x) worked.claimed

  pub told_end : (worker : WorkerState) (error : Option ChunkError) (before after : SourceState) → IsAtMost None error → Ends plans chunks error worker.claimed.items (numbers_of worker.pieces.items) (borrower_chunks worker.borrowers.items) (was_told worker.seat) before after → was_told worker.seat ≡ true
  told_end worker None before after most ends = ends.1
  told_end worker (Some error) before after most ends = absurd most

  -- ---- all states

  abbrev pub Each : List WorkerState → List SourceState → List SourceState → Type 0
  Each worker_states befores afters = EachSourceBy (Worked shares claims plans chunks) worker_states befores afters

  pub all_below : (x : ℕ) (lowest : Option ChunkError) (worker_states : List WorkerState) (befores afters : List SourceState) → Each worker_states befores afters → IsBelow lowest x → All (λ worker. IsAtMost lowest worker.error) worker_states
      → sum_by (ran_times x) worker_states ≡ sum_by (claimed_times x) worker_states
  all_below x lowest worker_states befores afters each below most =
      let all = all_by (Worked shares claims plans chunks) (RanBelow x lowest) (worker_below x lowest below) worker_states befores afters each in
      sums_agree (ran_times x) (claimed_times x) worker_states (λ k d within. all k d within (most k d within))

  pub ran_less : (x : ℕ) (worker_states : List WorkerState) (befores afters : List SourceState) → Each worker_states befores afters → sum_by (ran_times x) worker_states ≤ sum_by (claimed_times x) worker_states
  ran_less x worker_states befores afters each =
      sums_less (ran_times x) (claimed_times x) worker_states (all_by (Worked shares claims plans chunks) (λ worker. ran_times x worker ≤ claimed_times x worker) (worker_ran x) worker_states befores afters each)
