-- The rows before each child, summed up child by child.
use Rattle.std.proofs.Common.{◌≡◌, ℕ, suc, ◌+◌, ◌≤◌, List, [], ◌∷◌, ◌++◌, Some, drop, get_or, ◌∙◌, subst, arith, append_assoc, drop-cons}
use Rattle.std.specs.List.{slice_get, sum_by}
use Rattle.std.proofs.lemmas.List.Sums.{sum_by-cons}
use Rattle.std.proofs.lemmas.Option.{get_or_from_slice_get, slice_get_within}
use Rattle.vx_plan.specs.Nodes.{Node}
use Rattle.vx_plan.specs.Rules.{offsets_from, rows_of}

pub drop_at : {X : Type 0} (xs : List X) (i : ℕ) (x : X) → slice_get xs i ≡ Some x → drop i xs ≡ x ∷ drop (i + 1) xs
drop_at xs i x at =
    let p : drop i xs ≡ get_or xs i x ∷ drop (suc i) xs = drop-cons xs i x (slice_get_within xs i x at) in
    let q : get_or xs i x ≡ x = get_or_from_slice_get xs i x x at in
    let r : suc i ≡ i + 1 = omega arith in
    cc

pub record AreOffsetsSoFar (below : List Node) (place rows : ℕ) (offsets : List ℕ) : Type 0 where
  pub all : rows + sum_by rows_of (drop place below) ≡ sum_by rows_of below
  pub running : offsets ++ offsets_from rows (drop place below) ≡ offsets_from 0 below

pub one_more : (below : List Node) (place rows : ℕ) (offsets : List ℕ) (child : Node) → slice_get below place ≡ Some child → AreOffsetsSoFar below place rows offsets → AreOffsetsSoFar below (place + 1) (rows + child.rows) (offsets ++ rows ∷ [])
one_more below place rows offsets child at far =
    let e : drop place below ≡ child ∷ drop (place + 1) below = drop_at below place child at in
    let All : List Node → Type 0 = λ (rest : List Node). rows + sum_by rows_of rest ≡ sum_by rows_of below in
    let Running : List Node → Type 0 = λ (rest : List Node). offsets ++ offsets_from rows rest ≡ offsets_from 0 below in
    let a : rows + sum_by rows_of (child ∷ drop (place + 1) below) ≡ sum_by rows_of below = subst All e far.all in
    let b : sum_by rows_of (child ∷ drop (place + 1) below) ≡ child.rows + sum_by rows_of (drop (place + 1) below) = sum_by-cons rows_of child (drop (place + 1) below) in
    record { all = omega arith; running = append_assoc offsets (rows ∷ []) (offsets_from (rows + child.rows) (drop (place + 1) below)) ∙ subst Running e far.running }

pub too_many : (below : List Node) (place rows : ℕ) (offsets : List ℕ) (child : Node) → slice_get below place ≡ Some child → AreOffsetsSoFar below place rows offsets → rows + child.rows ≤ sum_by rows_of below
too_many below place rows offsets child at far =
    let e : drop place below ≡ child ∷ drop (place + 1) below = drop_at below place child at in
    let All : List Node → Type 0 = λ (rest : List Node). rows + sum_by rows_of rest ≡ sum_by rows_of below in
    let a : rows + sum_by rows_of (child ∷ drop (place + 1) below) ≡ sum_by rows_of below = subst All e far.all in
    let b : sum_by rows_of (child ∷ drop (place + 1) below) ≡ child.rows + sum_by rows_of (drop (place + 1) below) = sum_by-cons rows_of child (drop (place + 1) below) in
    omega arith
