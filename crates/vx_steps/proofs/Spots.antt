-- Spots: where rows stand.
use Rattle.std.proofs.Common.{◌≡◌, ℕ, ◌+◌, ◌≤◌, refl, ap, arith}
use Rattle.vx_steps.specs.declared.placed_reads.Spot.{Spot}
use Rattle.vx_steps.specs.declared.placed_reads.Spot.TheVariants.{Behind, Whichever}
use Rattle.vx_steps.specs.Placed.{first_at, last_at, moved}

pub moved_first : (spot : Spot) (by k : ℕ) → first_at (moved spot by) k ≡ first_at spot (by + k)
moved_first (Behind base) by k = let e : base + by + k ≡ base + (by + k) = omega arith in e
moved_first (Whichever ends) by k = refl

pub moved_last : (spot : Spot) (by k : ℕ) → last_at (moved spot by) k ≡ last_at spot (by + k)
moved_last (Behind base) by k = let e : base + by + k ≡ base + (by + k) = omega arith in e
moved_last (Whichever ends) by k = refl

pub moved_none : (spot : Spot) (by : ℕ) → by ≡ 0 → spot ≡ moved spot by
moved_none (Behind base) by none = let e : base ≡ base + by = omega (arith, none) in ap Behind e
moved_none (Whichever ends) by none = refl

pub first_later : (spot : Spot) (one other : ℕ) → one ≤ other → first_at spot one ≤ first_at spot other
first_later (Behind base) one other le = let e : base + one ≤ base + other = omega arith in e
first_later (Whichever ends) one other le = let e : ends.first ≤ ends.first = omega arith in e

pub last_later : (spot : Spot) (one other : ℕ) → one ≤ other → last_at spot one ≤ last_at spot other
last_later (Behind base) one other le = let e : base + one ≤ base + other = omega arith in e
last_later (Whichever ends) one other le = let e : ends.last ≤ ends.last = omega arith in e
