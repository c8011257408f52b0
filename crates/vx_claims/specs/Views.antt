-- What a seat of the claims knows, and how each step changes it.
use Rattle.std.specs.Prelude.{◌≡◌, ℕ, ◌+◌, ◌-◌, ◌≤◌, max, nat_lt, true, false, if◌then◌else◌, List, [], ◌∷◌, ◌++◌, ◌||◌}
use Rattle.atomic_table.specs.Table.{Me}
use Rattle.vx_claims.specs.declared.views.View.{View}
use Rattle.vx_claims.specs.Limits.{all_parts}

-- the first seat, with all parts
abbrev pub opened : ℕ → View
opened count = record { claimed = []; count = count; told = false; over = 0; parts = all_parts }

-- ---- split

-- a seat that was split off, of claims of as many chunks
abbrev pub fresh : ℕ → View
fresh count = record { claimed = []; count = count; told = false; over = 0; parts = 1 }

-- the seat that gave it one of its parts
abbrev pub less_a_part : View → View
less_a_part view = record view { parts = view.parts - 1 }

-- ---- join

-- a seat that took in another
abbrev pub both : View → View → View
both view other = record {
  claimed = view.claimed ++ other.claimed;
  count = view.count;
  told = view.told || other.told;
  over = view.over + other.over;
  parts = view.parts + other.parts;
}

-- the other, which has nothing left
abbrev pub spent : View
spent = record { claimed = []; count = 0; told = false; over = 0; parts = 0 }

-- ---- claim

-- the least number above all numbers of a list
abbrev pub above : List ℕ → ℕ
above [] = 0
above (n ∷ ns) = max (n + 1) (above ns)

-- a seat that claimed one more
abbrev pub also_claims : View → ℕ → View
also_claims view number = record view { claimed = view.claimed ++ number ∷ [] }

-- a seat that was told the end
abbrev pub told_end : View → View
told_end view = record view { told = true; over = 1 }

-- A seat that drew a number has claimed it where it is below the count, and else was told the end.
abbrev pub drawn : View → ℕ → View
drawn view found = if nat_lt found view.count then also_claims view found else told_end view

-- The number that a seat finds is behind those that it claimed.
pub record Draws (old : Me (Unit {0}) View) (found : ℕ) (new : Me (Unit {0}) View) : Type 0 where
  pub becomes : new ≡ (drawn old.0 found, old.1)
  pub behind : above old.0.claimed ≤ found
