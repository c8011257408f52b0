-- The places of a struct's fields by their names.
use Rattle.std.specs.Prelude.{◌≡◌, ℕ, List, Some}
use Rattle.std.specs.Borrow.{Bor}
use Rattle.std.specs.BTreeMap.{BTreeMap, get}
use Rattle.std.specs.declared.cmp.Ordering.{Ordering}
use Rattle.std.specs.Ordering.{nat_cmp}
use Rattle.std.specs.Cmp.Lexicographic.{slice_cmp}
use Rattle.vx_base.specs.Data.{DataType}
use Rattle.vx_expr.specs.Finds.{place_found}

-- how names are ordered
abbrev pub name_cmp : Bor (List ℕ) → Bor (List ℕ) → Ordering
name_cmp x y = slice_cmp nat_cmp x.now y.now

-- each name has the place of the first field of that name, and other names have none
abbrev pub HasPlaces : BTreeMap (Bor (List ℕ)) ℕ → DataType → Type 0
HasPlaces places t = (name : Bor (List ℕ)) → get name_cmp places name ≡ place_found (Some t) name.now
