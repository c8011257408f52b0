-- A count is that of some read, or there is none.
use Rattle.std.proofs.Common.{◌≡◌, ℕ, ◌+◌, ◌<◌, ◌==◌, inl, inr, Bool, true, false, cond, List, [], ◌∷◌, refl, sym, ap, ◌∙◌, arith}
use Rattle.std.specs.Bool.{MatchBool}
use Rattle.std.specs.List.{count_by}
use Rattle.std.specs.Prelude.{nat_lt}
use Rattle.std.proofs.lemmas.Bool.Decides.{nat_tests}
use Rattle.std.proofs.lemmas.List.Sums.{sum_by-cons}
use Rattle.std.proofs.lemmas.List.Sorted.{sum_by-IsPermutation}
use Rattle.std.specs.List.Sorted.{IsPermutation}
use Rattle.vx_steps.specs.declared.leaf_reads.LeafRead.{LeafRead}
use Rattle.vx_steps.specs.declared.still_read.StillRead.{StillRead}
use Rattle.vx_steps.specs.Needs.{Among}
use Rattle.vx_steps.specs.StillRead.{leaf_count, segment_count, IsTallyOf, LeafIsRead, SegmentIsRead}

-- some of these passes the test
abbrev SomePasses : {X : Type 0} → (X → Bool) → List X → Type 0
SomePasses {X} p xs = (x : X) × Among x xs × (p x ≡ true)

count_first : {X : Type 0} (p : X → Bool) (x : X) (xs : List X) (b : Bool) → p x ≡ b → count_by p (x ∷ xs) ≡ cond b 1 0 + count_by p xs
count_first p x xs b e = sum_by-cons (λ y. cond (p y) 1 0) x xs ∙ ap (λ (c : Bool). cond c 1 0 + count_by p xs) e

some_counted : {X : Type 0} (p : X → Bool) (xs : List X) → 0 < count_by p xs → SomePasses p xs
some_counted p [] more = absurd (omega arith)
some_counted {X} p (x ∷ xs) more = by (p x) refl (λ less. some_counted p xs less)
  where
    by : (b : Bool) → p x ≡ b → (0 < count_by p xs → SomePasses p xs) → SomePasses p (x ∷ xs)
    by true e rest = (x, inl refl, e)
    by false e rest =
        let is = count_first p x xs false e in
        let r = rest (omega arith) in
        (r.0, inr r.1, r.2)

counted_some : {X : Type 0} (p : X → Bool) (xs : List X) (y : X) → Among y xs → p y ≡ true → 0 < count_by p xs
counted_some p [] y among passes = absurd among
counted_some p (x ∷ xs) y (inl same) passes =
    let is = count_first p x xs true (ap p same ∙ passes) in
    omega arith
counted_some p (x ∷ xs) y (inr more) passes =
    let is = count_first p x xs (p x) refl in
    let rest = counted_some p xs y more passes in
    omega arith

-- whether a count is above 0 says whether there is one
tells : {X : Type 0} (p : X → Bool) (xs : List X) (b : Bool) → nat_lt 0 (count_by p xs) ≡ b → MatchBool b (SomePasses p xs) (SomePasses p xs → ⊥)
tells p xs true e = some_counted p xs (grind (arith, nat_tests))
tells p xs false e = λ some. let more = counted_some p xs some.0 some.1 some.2 in grind (arith, nat_tests)

pub at_key : (n key : ℕ) → n ≡ key → (n == key) ≡ true
at_key n key e = grind arith

pub key_at : (n key : ℕ) → (n == key) ≡ true → n ≡ key
key_at n key e = grind arith

pub leaf_tells : (leaf : ℕ) (reads : List LeafRead) (b : Bool) → nat_lt 0 (leaf_count leaf reads) ≡ b → MatchBool b (LeafIsRead leaf reads) (LeafIsRead leaf reads → ⊥)
leaf_tells leaf reads true e = let r = tells (λ (read : LeafRead). read.leaf == leaf) reads true e in (r.0, r.1, key_at r.0.leaf leaf r.2)
leaf_tells leaf reads false e = λ r. tells (λ (read : LeafRead). read.leaf == leaf) reads false e (r.0, r.1, at_key r.0.leaf leaf r.2)

pub segment_tells : (segment : ℕ) (reads : List LeafRead) (b : Bool) → nat_lt 0 (segment_count segment reads) ≡ b → MatchBool b (SegmentIsRead segment reads) (SegmentIsRead segment reads → ⊥)
segment_tells segment reads true e = let r = tells (λ (read : LeafRead). read.segment == segment) reads true e in (r.0, r.1, key_at r.0.segment segment r.2)
segment_tells segment reads false e = λ r. tells (λ (read : LeafRead). read.segment == segment) reads false e (r.0, r.1, at_key r.0.segment segment r.2)

-- the tallies don't depend on the order
pub tally_permuted : (still : StillRead) (one other : List LeafRead) → IsPermutation one other → IsTallyOf still one → IsTallyOf still other
tally_permuted still one other permutes tally = record {
  leaves = λ leaf. tally.leaves leaf ∙ sym (sum_by-IsPermutation (λ (read : LeafRead). cond (read.leaf == leaf) 1 0) one other permutes);
  segments = λ segment. tally.segments segment ∙ sym (sum_by-IsPermutation (λ (read : LeafRead). cond (read.segment == segment) 1 0) one other permutes);
}
