-- What a seat knows, by hand, on which the definitions of claims are checked.
use Rattle.std.specs.Prelude.{ℕ, Bool, List}
use Rattle.vx_claims.specs.declared.views.View.{View}

-- what a seat of claims of three chunks knows: the numbers that it claimed, whether it was told the end, how many of its
-- draws were over the count, and its parts
abbrev pub knows : List ℕ → Bool → ℕ → ℕ → View
knows claimed told over parts = record { claimed = claimed; count = 3; told = told; over = over; parts = parts }
