-- Texts that lie one behind the other in one buffer, cut at their ends.
use Rattle.std.specs.Prelude.{◌≡◌, ℕ, zero, suc, ◌+◌, ◌-◌, ◌≤◌, List, [], ◌∷◌, length, slice_index, slice_range}
use Rattle.std.specs.List.{AllByRecursion}
use Rattle.std.specs.Str.{IsUtf8}

-- the texts that end at these places of the buffer, the first of which begins at the given one
abbrev pub cut : List ℕ → ℕ → List ℕ → List (List ℕ)
cut bytes from [] = []
cut bytes from (end ∷ ends) = slice_range bytes from end ∷ cut bytes end ends

-- the ends ascend from one place to another, which the last one is
abbrev pub AreEnds : ℕ → ℕ → List ℕ → Type 0
AreEnds from to [] = from ≡ to
AreEnds from to (end ∷ ends) = (from ≤ end) × AreEnds end to ends

-- where that which a row has begins: where that of the row before it ends
abbrev pub start_in : List ℕ → ℕ → ℕ
start_in ends zero = 0
start_in ends (suc row) = slice_index ends row

-- where a text ends whose bytes were moved from one place of a buffer behind the bytes of another
abbrev pub moved : ℕ → ℕ → ℕ → ℕ
moved base from end = base + (end - from)

-- the texts fill the buffer, and each of them is well-formed
pub record AreTexts (bytes : List ℕ) (ends : List ℕ) : Type 0 where
  pub filled : AreEnds 0 (length bytes) ends
  pub utf8 : AllByRecursion IsUtf8 (cut bytes 0 ends)

-- where texts of these lengths end, the first of which begins at the given place
abbrev pub ends_after : ℕ → List ℕ → List ℕ
ends_after from [] = []
ends_after from (len ∷ lens) = (from + len) ∷ ends_after (from + len) lens
