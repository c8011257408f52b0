-- One more state is taken in.
use Rattle.std.proofs.Common.{◌≡◌, ◌≢◌, ℕ, ◌+◌, ◌<◌, ◌≤◌, ◌⊎◌, inl, inr, true, false, List, [], ◌∷◌, ◌++◌, Some, None, map, refl, sym, ap, ◌∙◌, subst, arith, rules}
use Rattle.std.specs.Prelude.{slice_index_or, Option, ◌||◌, Bool}
use Rattle.std.specs.List.{All, Any, Contains, sum_by}
use Rattle.std.specs.Global.{Vec}
use Rattle.std.proofs.lemmas.Bool.{cases_lt, lt-ltb, le-ltb}
use Rattle.std.proofs.lemmas.List.{map-append}
use Rattle.std.proofs.lemmas.List.Elements.{All-push, All-append, All-contains_itself, Contains-append_left}
use Rattle.std.proofs.lemmas.List.Quantifiers.{Any-push}
use Rattle.std.proofs.lemmas.List.Sums.{sum_by_push}
use Rattle.vx_steps.specs.declared.kept.KeptValue.{KeptValue}
use Rattle.vx_steps.specs.Kept.{kept_at, kept_data}
use Rattle.vx_steps.specs.KeptData.{Kept}
use Rattle.vx_steps.proofs.Keeping.{kept_new, kept_old}
use Rattle.vx_claims.specs.declared.claims.Claims.{Claims}
use Rattle.vx_claims.specs.declared.claims.ClaimSeat.{ClaimSeat}
use Rattle.vx_claims.specs.Claims.{claimed, parts, was_told, TakesIn}
use Rattle.vx_claims.specs.Apart.{times}
use Rattle.vx_claims.proofs.Numbers.{times_append}
use Rattle.vx_chunks.specs.Outcomes.{data_of}
use Rattle.vx_workers.specs.declared.joins.Joined.{Joined}
use Rattle.vx_workers.specs.declared.worker_states.ChunkError.{ChunkError}
use Rattle.vx_workers.specs.declared.worker_states.WorkerState.{WorkerState}
use Rattle.vx_workers.specs.declared.worker_states.Borrower.{Borrower}
use Rattle.vx_workers.specs.declared.worker_states.Piece.{Piece}
use Rattle.vx_workers.specs.Merges.{lower_of, IsAtMost, no_memory, IsFrom, claimed_times, IsMadeByWorker, MoreOrSame, TakesMore, Merges}
use Rattle.vx_base.specs.Columns.{ColumnData}

-- ---- the lower error

lower_least : (one two : ChunkError) → IsAtMost (lower_of (Some one) (Some two)) (Some two) × IsAtMost (lower_of (Some one) (Some two)) (Some one)
lower_least one two = by_order (cases_lt two.chunk one.chunk)
  where
    by_order : (two.chunk < one.chunk) ⊎ (one.chunk ≤ two.chunk) → IsAtMost (lower_of (Some one) (Some two)) (Some two) × IsAtMost (lower_of (Some one) (Some two)) (Some one)
    by_order (inl less) = rw (lt-ltb two.chunk one.chunk less) (omega arith, omega (arith, less))
    by_order (inr least) = rw (le-ltb two.chunk one.chunk least) (omega (arith, least), omega arith)

at_most_other : (error other : Option ChunkError) → IsAtMost (lower_of error other) other
at_most_other None None = tt
at_most_other None (Some two) = omega arith
at_most_other (Some one) None = tt
at_most_other (Some one) (Some two) = (lower_least one two).0

at_most_first : (error other : Option ChunkError) → IsAtMost (lower_of error other) error
at_most_first None other = tt
at_most_first (Some one) None = omega arith
at_most_first (Some one) (Some two) = (lower_least one two).1

at_most_over : (least error other : Option ChunkError) → IsAtMost least error → IsAtMost error other → IsAtMost least other
at_most_over least error None one two = tt
at_most_over least None (Some other) one two = absurd two
at_most_over None (Some error) (Some other) one two = absurd one
at_most_over (Some least) (Some error) (Some other) one two = omega (arith, one, two)

-- no error is below want of memory
pub no_memory_least : (error : Option ChunkError) → IsAtMost (Some no_memory) error
no_memory_least None = tt
no_memory_least (Some one) = omega arith

-- nothing takes the place of want of memory
lower_kept : (one two : ChunkError) → one.chunk ≤ two.chunk → lower_of (Some one) (Some two) ≡ Some one
lower_kept one two least = rw (le-ltb two.chunk one.chunk least) refl

still_lacking : (error other : Option ChunkError) → error ≡ Some no_memory → lower_of error other ≡ Some no_memory
still_lacking error other lacks = ap (λ (one : Option ChunkError). lower_of one other) lacks ∙ by_other other
  where
    by_other : (other : Option ChunkError) → lower_of (Some no_memory) other ≡ Some no_memory
    by_other None = refl
    by_other (Some two) = lower_kept no_memory two (omega arith)

lower_is : (error other : Option ChunkError) → (lower_of error other ≡ error) ⊎ (lower_of error other ≡ other)
lower_is None other = inr refl
lower_is (Some one) None = inl refl
lower_is (Some one) (Some two) = by_order (cases_lt two.chunk one.chunk)
  where
    by_order : (two.chunk < one.chunk) ⊎ (one.chunk ≤ two.chunk) → (lower_of (Some one) (Some two) ≡ Some one) ⊎ (lower_of (Some one) (Some two) ≡ Some two)
    by_order (inl less) = inr (rw (lt-ltb two.chunk one.chunk less) refl)
    by_order (inr least) = inl (rw (le-ltb two.chunk one.chunk least) refl)

-- ---- what one of the states has

any_longer : {X : Type 0} (P : X → Type 0) (xs : List X) (y : X) → Any P xs → Any P (xs ++ y ∷ [])
any_longer P xs y (k, x, within, is, holds) =
    let there = Contains-append_left xs (y ∷ []) x (k, within, is) in
    (there.0, x, there.1, there.2, holds)

from_longer : (worker_states : List WorkerState) (worker : WorkerState) (error : Option ChunkError) → IsFrom worker_states error → IsFrom (worker_states ++ worker ∷ []) error
from_longer worker_states worker None from = tt
from_longer worker_states worker (Some error) (inl is) = inl is
from_longer worker_states worker (Some error) (inr any) = inr (any_longer (λ (one : WorkerState). one.error ≡ Some error) worker_states worker any)

from_worker : (worker_states : List WorkerState) (worker : WorkerState) (error : Option ChunkError) → worker.error ≡ error → IsFrom (worker_states ++ worker ∷ []) error
from_worker worker_states worker None is = tt
from_worker worker_states worker (Some error) is = inr (Any-push (λ (one : WorkerState). one.error ≡ Some error) worker_states worker is)

from_lower : (worker_states : List WorkerState) (worker : WorkerState) (error : Option ChunkError) → IsFrom worker_states error → IsFrom (worker_states ++ worker ∷ []) (lower_of error worker.error)
from_lower worker_states worker error from = by_case (lower_is error worker.error)
  where
    by_case : (lower_of error worker.error ≡ error) ⊎ (lower_of error worker.error ≡ worker.error) → IsFrom (worker_states ++ worker ∷ []) (lower_of error worker.error)
    by_case (inl is) = subst (IsFrom (worker_states ++ worker ∷ [])) (sym is) (from_longer worker_states worker error from)
    by_case (inr is) = from_worker worker_states worker (lower_of error worker.error) (sym is)

-- each of these is in the list that one of the states has
abbrev OfWorkers : {X : Type 0} → (WorkerState → List X) → List WorkerState → List X → Type 0
OfWorkers own worker_states xs = All (λ x. Any (λ (one : WorkerState). Contains (own one) x) worker_states) xs

of_longer : {X : Type 0} (own : WorkerState → List X) (worker_states : List WorkerState) (worker : WorkerState) (xs : List X) → OfWorkers own worker_states xs → OfWorkers own (worker_states ++ worker ∷ []) xs
of_longer own worker_states worker xs given k d within = any_longer (λ (one : WorkerState). Contains (own one) (slice_index_or xs k d)) worker_states worker (given k d within)

of_worker : {X : Type 0} (own : WorkerState → List X) (worker_states : List WorkerState) (worker : WorkerState) → OfWorkers own (worker_states ++ worker ∷ []) (own worker)
of_worker own worker_states worker k d within = Any-push (λ (one : WorkerState). Contains (own one) (slice_index_or (own worker) k d)) worker_states worker (All-contains_itself (own worker) k d within)

of_more : {X : Type 0} (own : WorkerState → List X) (worker_states : List WorkerState) (worker : WorkerState) (old new : List X) → OfWorkers own worker_states old → MoreOrSame old (own worker) new → OfWorkers own (worker_states ++ worker ∷ []) new
of_more own worker_states worker old new given (inl more) =
    subst (OfWorkers own (worker_states ++ worker ∷ [])) (sym more) (All-append (λ x. Any (λ (one : WorkerState). Contains (own one) x) (worker_states ++ worker ∷ [])) old (own worker) (of_longer own worker_states worker old given) (of_worker own worker_states worker))
of_more own worker_states worker old new given (inr same) = subst (OfWorkers own (worker_states ++ worker ∷ [])) (sym same) (of_longer own worker_states worker old given)

-- ---- how often they have it

module _ {X : Type 0} (number : X → ℕ) (own : WorkerState → List X) where
  -- how often one of these has that number
  abbrev times_by : ℕ → List X → ℕ
  times_by x xs = times x (map number xs)

  abbrev times_in : ℕ → WorkerState → ℕ
  times_in x worker = times x (map number (own worker))

  times_more : (x : ℕ) (worker_states : List WorkerState) (worker : WorkerState) (old new : List X) → times_by x old ≡ sum_by (times_in x) worker_states → new ≡ old ++ own worker → times_by x new ≡ sum_by (times_in x) (worker_states ++ worker ∷ [])
  times_more x worker_states worker old new before more =
      let push = sum_by_push (times_in x) worker_states worker in
      let all : times_by x new ≡ times_by x old + times_in x worker = ap (times_by x) more ∙ ap (times x) (map-append number old (own worker)) ∙ times_append x (map number old) (map number (own worker)) in
      omega (arith, before, push, all)

  times_most : (x : ℕ) (worker_states : List WorkerState) (worker : WorkerState) (old new : List X) → times_by x old ≤ sum_by (times_in x) worker_states → MoreOrSame old (own worker) new → times_by x new ≤ sum_by (times_in x) (worker_states ++ worker ∷ [])
  times_most x worker_states worker old new before (inl more) =
      let push = sum_by_push (times_in x) worker_states worker in
      let all : times_by x new ≡ times_by x old + times_in x worker = ap (times_by x) more ∙ ap (times x) (map-append number old (own worker)) ∙ times_append x (map number old) (map number (own worker)) in
      omega (arith, before, push, all)
  times_most x worker_states worker old new before (inr same) =
      let push = sum_by_push (times_in x) worker_states worker in
      let all : times_by x new ≡ times_by x old = ap (times_by x) same in
      omega (arith, before, push, all)

-- ---- the whole values

-- what is found in two lists one after the other is found in one of them
found_in : (n : ℕ) (column : ColumnData) (old more : List Kept) (first : Option ColumnData) → kept_at old n ≡ first → kept_at (old ++ more) n ≡ Some column → (kept_at old n ≡ Some column) ⊎ (kept_at more n ≡ Some column)
found_in n column old more None none is = inr (sym (kept_new old more n none) ∙ is)
found_in n column old more (Some one) found is = let same : Some one ≡ Some column = sym (kept_old old more n one found) ∙ is in inl (found ∙ same)

made_more : (worker_states : List WorkerState) (worker : WorkerState) (old new : List KeptValue) → ((n : ℕ) (column : ColumnData) → kept_at (data_of old) n ≡ Some column → IsMadeByWorker worker_states n column) → MoreOrSame old worker.handed.made.items new
    → (n : ℕ) (column : ColumnData) → kept_at (data_of new) n ≡ Some column → IsMadeByWorker (worker_states ++ worker ∷ []) n column
made_more worker_states worker old new made (inl more) n column is =
    let both : data_of new ≡ data_of old ++ data_of worker.handed.made.items = ap data_of more ∙ map-append kept_data old worker.handed.made.items in
    by_case (found_in n column (data_of old) (data_of worker.handed.made.items) (kept_at (data_of old) n) refl (ap (λ (kept : List Kept). kept_at kept n) (sym both) ∙ is))
  where
    by_case : (kept_at (data_of old) n ≡ Some column) ⊎ (kept_at (data_of worker.handed.made.items) n ≡ Some column) → IsMadeByWorker (worker_states ++ worker ∷ []) n column
    by_case (inl before) = any_longer (λ (one : WorkerState). kept_at (data_of one.handed.made.items) n ≡ Some column) worker_states worker (made n column before)
    by_case (inr here) = Any-push (λ (one : WorkerState). kept_at (data_of one.handed.made.items) n ≡ Some column) worker_states worker here
made_more worker_states worker old new made (inr same) n column is =
    any_longer (λ (one : WorkerState). kept_at (data_of one.handed.made.items) n ≡ Some column) worker_states worker (made n column (ap (λ (values : List KeptValue). kept_at (data_of values) n) (sym same) ∙ is))

-- ---- the seats

untold_parts : (a b : Bool) → a || b ≡ false → (a ≡ false) × (b ≡ false)
untold_parts false b is = (refl, is)
untold_parts true b is = search rules

takes_untold : (claims : Claims) (worker_states : List WorkerState) (worker : WorkerState) (seat new : ClaimSeat) → (was_told seat ≡ false → All (λ (one : WorkerState). was_told one.seat ≡ false) worker_states) → TakesIn claims seat worker.seat new
    → was_told new ≡ false → All (λ (one : WorkerState). was_told one.seat ≡ false) (worker_states ++ worker ∷ [])
takes_untold claims worker_states worker seat new untold takes is =
    let both = untold_parts (was_told seat) (was_told worker.seat) (sym takes.told ∙ is) in
    All-push (λ (one : WorkerState). was_told one.seat ≡ false) worker_states worker (untold both.0) both.1

takes_claimed : (claims : Claims) (worker_states : List WorkerState) (worker : WorkerState) (seat new : ClaimSeat) (x : ℕ) → times x (claimed seat) ≡ sum_by (claimed_times x) worker_states → TakesIn claims seat worker.seat new → times x (claimed new) ≡ sum_by (claimed_times x) (worker_states ++ worker ∷ [])
takes_claimed claims worker_states worker seat new x before takes =
    let push = sum_by_push (claimed_times x) worker_states worker in
    let list = ap (times x) takes.claimed ∙ times_append x (claimed seat) (claimed worker.seat) in
    omega (arith, before, push, list)

takes_parts : (claims : Claims) (worker_states : List WorkerState) (worker : WorkerState) (seat new : ClaimSeat) (left : ℕ) → parts seat ≡ left + sum_by (λ (one : WorkerState). parts one.seat) worker_states → TakesIn claims seat worker.seat new → parts new ≡ left + sum_by (λ (one : WorkerState). parts one.seat) (worker_states ++ worker ∷ [])
takes_parts claims worker_states worker seat new left before takes =
    let push = sum_by_push (λ (one : WorkerState). parts one.seat) worker_states worker in
    let sum = takes.parts in
    omega (arith, before, push, sum)

-- ---- one more state

-- the error is the lower one, and all pieces and borrowers are there
abbrev TakesWhole : Joined → WorkerState → Joined → Type 0
TakesWhole joined worker after = (after.error ≡ lower_of joined.error worker.error) × (after.pieces.items ≡ joined.pieces.items ++ worker.pieces.items) × (after.borrowers.items ≡ joined.borrowers.items ++ worker.borrowers.items)

-- The state's list is there, and each of the others with the state's own or as it was; all of them, unless memory
-- lacked.
pub record TakesIt (joined : Joined) (worker : WorkerState) (after : Joined) : Type 0 where
  pub lists : after.claimed.items ≡ joined.claimed.items ++ worker.claimed.items ∷ []
  pub pieces : MoreOrSame joined.pieces.items worker.pieces.items after.pieces.items
  pub borrowers : MoreOrSame joined.borrowers.items worker.borrowers.items after.borrowers.items
  pub made : MoreOrSame joined.made.items worker.handed.made.items after.made.items
  pub whole : (after.error ≡ Some no_memory) ⊎ TakesWhole joined worker after

-- what is so with no more than its own lists and the lower error is so with what was appended to them
pub takes_more : (joined between next after : Joined) (worker : WorkerState) (enough : Bool) → between.claimed.items ≡ joined.claimed.items ++ worker.claimed.items ∷ [] → between.error ≡ lower_of joined.error worker.error → between.pieces.items ≡ joined.pieces.items → between.borrowers.items ≡ joined.borrowers.items
    → between.made.items ≡ joined.made.items → TakesMore enough worker.pieces.items worker.borrowers.items worker.handed.made.items between next → after.claimed.items ≡ next.claimed.items → after.pieces.items ≡ next.pieces.items → after.borrowers.items ≡ next.borrowers.items → after.made.items ≡ next.made.items
    → (after.error ≡ Some no_memory) ⊎ ((enough ≡ true) × (after.error ≡ next.error)) → TakesIt joined worker after
takes_more joined between next after worker enough lists error pieces borrowers made more claimed_is pieces_is borrowers_is made_is whole = record {
  lists = claimed_is ∙ ap (λ (list : Vec (List ℕ)). list.items) more.claimed ∙ lists;
  pieces = of_those joined.pieces.items between.pieces.items worker.pieces.items next.pieces.items after.pieces.items pieces pieces_is more.pieces;
  borrowers = of_those joined.borrowers.items between.borrowers.items worker.borrowers.items next.borrowers.items after.borrowers.items borrowers borrowers_is more.borrowers;
  made = of_those joined.made.items between.made.items worker.handed.made.items next.made.items after.made.items made made_is more.made;
  whole = whole_of whole;
}
  where
    of_those : {X : Type 0} (old middle own new last : List X) → middle ≡ old → last ≡ new → MoreOrSame middle own new → MoreOrSame old own last
    of_those old middle own new last one two (inl is) = inl (two ∙ is ∙ ap (λ (xs : List _). xs ++ own) one)
    of_those old middle own new last one two (inr is) = inr (two ∙ is ∙ one)

    whole_of : (after.error ≡ Some no_memory) ⊎ ((enough ≡ true) × (after.error ≡ next.error)) → (after.error ≡ Some no_memory) ⊎ TakesWhole joined worker after
    whole_of (inl lacks) = inl lacks
    whole_of (inr all) = inr (
      all.1 ∙ more.error ∙ error,
      pieces_is ∙ more.all_pieces all.0 ∙ ap (λ (xs : List Piece). xs ++ worker.pieces.items) pieces,
      borrowers_is ∙ more.all_borrowers all.0 ∙ ap (λ (xs : List Borrower). xs ++ worker.borrowers.items) borrowers,
    )

pub takes_worker : (claims : Claims) (left : ℕ) (worker_states : List WorkerState) (worker : WorkerState) (seat new : ClaimSeat) (joined after : Joined) → Merges claims left worker_states seat joined → TakesIn claims seat worker.seat new → TakesIt joined worker after → Merges claims left (worker_states ++ worker ∷ []) new after
takes_worker claims left worker_states worker seat new joined after merges takes took = record {
  own = takes.seat;
  parts = takes_parts claims worker_states worker seat new left merges.parts takes;
  claimed = λ x. takes_claimed claims worker_states worker seat new x (merges.claimed x) takes;
  untold = takes_untold claims worker_states worker seat new merges.untold takes;
  all_lists = took.lists ∙ ap (λ (ls : List (List ℕ)). ls ++ worker.claimed.items ∷ []) merges.all_lists ∙ sym (map-append (λ (one : WorkerState). one.claimed.items) worker_states (worker ∷ []));
  all_pieces = λ enough x. let all = appended enough took.whole in times_more (λ (piece : Piece). piece.chunk) (λ (one : WorkerState). one.pieces.items) x worker_states worker joined.pieces.items after.pieces.items (merges.all_pieces all.0 x) all.1;
  some_pieces = λ x. times_most (λ (piece : Piece). piece.chunk) (λ (one : WorkerState). one.pieces.items) x worker_states worker joined.pieces.items after.pieces.items (merges.some_pieces x) took.pieces;
  given = of_more (λ (one : WorkerState). one.pieces.items) worker_states worker joined.pieces.items after.pieces.items merges.given took.pieces;
  all_borrowers = λ enough x. let all = appended enough took.whole in times_more (λ (borrower : Borrower). borrower.chunk) (λ (one : WorkerState). one.borrowers.items) x worker_states worker joined.borrowers.items after.borrowers.items (merges.all_borrowers all.0 x) all.2;
  some_borrowers = λ x. times_most (λ (borrower : Borrower). borrower.chunk) (λ (one : WorkerState). one.borrowers.items) x worker_states worker joined.borrowers.items after.borrowers.items (merges.some_borrowers x) took.borrowers;
  given_borrowers = of_more (λ (one : WorkerState). one.borrowers.items) worker_states worker joined.borrowers.items after.borrowers.items merges.given_borrowers took.borrowers;
  made = made_more worker_states worker joined.made.items after.made.items merges.made took.made;
  lowest = lowest_of took.whole;
  from = from_of took.whole;
}
  where
    appended : after.error ≢ Some no_memory → (after.error ≡ Some no_memory) ⊎ TakesWhole joined worker after → (joined.error ≢ Some no_memory) × (after.pieces.items ≡ joined.pieces.items ++ worker.pieces.items) × (after.borrowers.items ≡ joined.borrowers.items ++ worker.borrowers.items)
    appended enough (inl lacks) = absurd (enough lacks)
    appended enough (inr all) = ((λ lacks. enough (all.0 ∙ still_lacking joined.error worker.error lacks)), all.1, all.2)

    lowest_of : (after.error ≡ Some no_memory) ⊎ TakesWhole joined worker after → All (λ (one : WorkerState). IsAtMost after.error one.error) (worker_states ++ worker ∷ [])
    lowest_of (inl lacks) = subst (λ (error : Option ChunkError). All (λ (one : WorkerState). IsAtMost error one.error) (worker_states ++ worker ∷ [])) (sym lacks) (λ k d within. no_memory_least (slice_index_or (worker_states ++ worker ∷ []) k d).error)
    lowest_of (inr all) = subst (λ (error : Option ChunkError). All (λ (one : WorkerState). IsAtMost error one.error) (worker_states ++ worker ∷ [])) (sym all.0)
        (All-push (λ (one : WorkerState). IsAtMost (lower_of joined.error worker.error) one.error) worker_states worker
        (λ k d within. at_most_over (lower_of joined.error worker.error) joined.error (slice_index_or worker_states k d).error (at_most_first joined.error worker.error) (merges.lowest k d within))
        (at_most_other joined.error worker.error))

    from_of : (after.error ≡ Some no_memory) ⊎ TakesWhole joined worker after → IsFrom (worker_states ++ worker ∷ []) after.error
    from_of (inl lacks) = subst (IsFrom (worker_states ++ worker ∷ [])) (sym lacks) (inl refl)
    from_of (inr all) = subst (IsFrom (worker_states ++ worker ∷ [])) (sym all.0) (from_lower worker_states worker joined.error merges.from)
