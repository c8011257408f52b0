-- Dtypes whose structs have fields of distinct names, at every level.
use Rattle.std.specs.Prelude.{ℕ, Bool, true, not, ◌&&◌, IsTrue, List, [], ◌∷◌}
use Rattle.std.specs.List.{list_any}
use Rattle.std.specs.Str.{bytes_eq}
use Rattle.vx_types.specs.Data.{DataType, bool_type, int_type, utf8_type, struct_type, list_type, Members, no_members, member}

abbrev pub names_in : Members → List (List ℕ)
names_in no_members = []
names_in (member name t ms) = name ∷ names_in ms

-- no name is another's
abbrev pub are_distinct : List (List ℕ) → Bool
are_distinct [] = true
are_distinct (name ∷ names) = not (list_any (λ other. bytes_eq other name) names) && are_distinct names

abbrev mutual
  pub HasDistinctNames : DataType → Type 0
  HasDistinctNames (bool_type n) = Unit {0}
  HasDistinctNames (int_type kind n) = Unit {0}
  HasDistinctNames (utf8_type n) = Unit {0}
  HasDistinctNames (struct_type ms n) = IsTrue (are_distinct (names_in ms)) × HaveDistinctNames ms
  HasDistinctNames (list_type t n) = HasDistinctNames t

  pub HaveDistinctNames : Members → Type 0
  HaveDistinctNames no_members = Unit {0}
  HaveDistinctNames (member name t ms) = HasDistinctNames t × HaveDistinctNames ms
