-- The number behind the last split that has some read.
use Rattle.std.proofs.Common.{◌≡◌, ℕ, ◌+◌, ◌<◌, ◌≤◌, ◌==◌, max, inl, inr, Bool, true, false, List, [], ◌∷◌, refl, ap, ◌∙◌, arith}
use Rattle.std.specs.Bool.{MatchBool}
use Rattle.std.specs.Prelude.{if◌then◌else◌, nat_lt}
use Rattle.std.proofs.lemmas.Bool.Decides.{nat_tests}
use Rattle.vx_steps.specs.LaterReads.{leaf_until, segment_until, until_by, LeafReadFrom, SegmentReadFrom, SplitRead}
use Rattle.vx_steps.specs.Needs.{Among}
use Rattle.vx_steps.proofs.Tallies.{at_key, key_at}

-- a read of a split of that number or a later one passes the test
abbrev SomeFrom : (SplitRead → Bool) → ℕ → List SplitRead → Type 0
SomeFrom test next reads = (read : SplitRead) × Among read reads × (test read ≡ true) × (next ≤ read.number)

until_first : (test : SplitRead → Bool) (read : SplitRead) (reads : List SplitRead) (b : Bool) → test read ≡ b → until_by test (read ∷ reads) ≡ (if b then max (until_by test reads) (read.number + 1) else until_by test reads)
until_first test read reads b e = ap (λ (c : Bool). if c then max (until_by test reads) (read.number + 1) else until_by test reads) e

some_before : (test : SplitRead → Bool) (next : ℕ) (reads : List SplitRead) → next < until_by test reads → SomeFrom test next reads
some_before test next [] less = absurd (omega arith)
some_before test next (read ∷ reads) less = by (test read) refl (λ before. some_before test next reads before)
  where
    more : SomeFrom test next reads → SomeFrom test next (read ∷ reads)
    more r = (r.0, inr r.1, r.2, r.3)

    here : (b : Bool) → nat_lt read.number next ≡ b → next < max (until_by test reads) (read.number + 1) → test read ≡ true → (next < until_by test reads → SomeFrom test next reads) → SomeFrom test next (read ∷ reads)
    here true e before passes rest = more (rest (grind (arith, nat_tests)))
    here false e before passes rest = (read, inl refl, passes, grind (arith, nat_tests))

    by : (b : Bool) → test read ≡ b → (next < until_by test reads → SomeFrom test next reads) → SomeFrom test next (read ∷ reads)
    by true e rest = let is = until_first test read reads true e in here (nat_lt read.number next) refl (omega arith) e rest
    by false e rest = let is = until_first test read reads false e in more (rest (omega arith))

before_some : (test : SplitRead → Bool) (next : ℕ) (reads : List SplitRead) (one : SplitRead) → Among one reads → test one ≡ true → next ≤ one.number → next < until_by test reads
before_some test next [] one among passes from = absurd among
before_some test next (read ∷ reads) one (inl same) passes from =
    let is = until_first test read reads true (ap test same ∙ passes) in
    let number = ap (λ (r : SplitRead). r.number) same in
    omega arith
before_some test next (read ∷ reads) one (inr more) passes from = by (test read) refl (before_some test next reads one more passes from)
  where
    by : (b : Bool) → test read ≡ b → next < until_by test reads → next < until_by test (read ∷ reads)
    by true e rest = let is = until_first test read reads true e in omega arith
    by false e rest = let is = until_first test read reads false e in omega arith

-- whether the number is above another says whether there is such a read from that one on
tells : (test : SplitRead → Bool) (next : ℕ) (reads : List SplitRead) (b : Bool) → nat_lt next (until_by test reads) ≡ b → MatchBool b (SomeFrom test next reads) (SomeFrom test next reads → ⊥)
tells test next reads true e = some_before test next reads (grind (arith, nat_tests))
tells test next reads false e = λ some. let less = before_some test next reads some.0 some.1 some.2 some.3 in grind (arith, nat_tests)

pub leaf_tells : (leaf next : ℕ) (reads : List SplitRead) (b : Bool) → nat_lt next (leaf_until leaf reads) ≡ b → MatchBool b (LeafReadFrom leaf next reads) (LeafReadFrom leaf next reads → ⊥)
leaf_tells leaf next reads true e = let r = tells (λ (read : SplitRead). read.read.leaf == leaf) next reads true e in (r.0, r.1, key_at r.0.read.leaf leaf r.2, r.3)
leaf_tells leaf next reads false e = λ r. tells (λ (read : SplitRead). read.read.leaf == leaf) next reads false e (r.0, r.1, at_key r.0.read.leaf leaf r.2, r.3)

pub segment_tells : (segment next : ℕ) (reads : List SplitRead) (b : Bool) → nat_lt next (segment_until segment reads) ≡ b → MatchBool b (SegmentReadFrom segment next reads) (SegmentReadFrom segment next reads → ⊥)
segment_tells segment next reads true e = let r = tells (λ (read : SplitRead). read.read.segment == segment) next reads true e in (r.0, r.1, key_at r.0.read.segment segment r.2, r.3)
segment_tells segment next reads false e = λ r. tells (λ (read : SplitRead). read.read.segment == segment) next reads false e (r.0, r.1, at_key r.0.read.segment segment r.2, r.3)
