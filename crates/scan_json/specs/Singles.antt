-- What members tell of which only one name is to be there.
use Rattle.std.specs.Prelude.{ℕ, List, if◌then◌else◌, Option, None}
use Rattle.std.specs.Str.{bytes_eq}
use Rattle.serde_json.specs.Data.{Data, Members, no_members, member}

-- there are none, all have one name and the last of them tells that, or there are two names
pub data SingleTold (X : Type 0) : Type 0 where
  nothing : SingleTold X
  one : List ℕ → X → SingleTold X
  many : SingleTold X

-- with one more member
abbrev pub with_single : {X : Type 0} → List ℕ → X → SingleTold X → SingleTold X
with_single name x nothing = one name x
with_single name x (one first earlier) = if bytes_eq first name then one name x else many
with_single name x many = many

-- what the members of an object tell, by what a member of a name tells
abbrev pub single_said : {X : Type 0} → (List ℕ → Data → X) → Members → SingleTold X
single_said says no_members = nothing
single_said says (member name d no_members) = one name (says name d)
single_said says (member name d (member other e ms)) = many

-- what the only one tells, where it tells something
abbrev pub only_one : {X : Type 0} → SingleTold (Option X) → Option X
only_one nothing = None
only_one (one name x) = x
only_one many = None
