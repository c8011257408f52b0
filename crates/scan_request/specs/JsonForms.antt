-- Numbers, lists and objects of JSON, as the members of a request have them.
use Rattle.std.specs.Prelude.{ℕ, ◌==◌, nat_lt, nat_le, if◌then◌else◌, List, length, Bool, false, Option, Some, None}
use Rattle.std.specs.Option.{option_map_or}
use Rattle.serde_json.specs.Data.{Data, Num, Items}
use Rattle.serde_json.specs.Events.{items_len, members_len}
use Rattle.serde_json.specs.Find.{as_number, as_u64, as_array, as_object}
use Rattle.scan_json.specs.Forms.{each_form}
use Rattle.scan_words.specs.Words.{◌>>=◌}

-- a list of a request has at most so many items
abbrev pub most_items : ℕ
most_items = 4194304

-- the number below a limit that it is; a fraction, an exponent or a sign makes it none
abbrev pub whole_number : ℕ → Num → Option ℕ
whole_number limit number = as_u64 number >>= λ n. if nat_lt n limit then Some n else None

-- a whole number below a limit
abbrev pub whole_form : ℕ → Data → Option ℕ
whole_form limit d = as_number d >>= whole_number limit

-- whether it is an object of exactly so many members
abbrev pub has_members : ℕ → Data → Bool
has_members count d = option_map_or (λ members. members_len members == count) (as_object d) false

-- the items of a list, of which there are at most 4194304
abbrev pub few_items : Data → Option Items
few_items d = as_array d >>= λ items. if nat_le (items_len items) most_items then Some items else None

-- a list of at most 4194304 items that each have the form
abbrev pub list_form : {X : Type 0} → (Data → Option X) → Data → Option (List X)
list_form form d = few_items d >>= each_form form

-- items of which there are at most 4194304
abbrev pub few_of : {X : Type 0} → Option (List X) → Option (List X)
few_of items = items >>= λ xs. if nat_le (length xs) most_items then Some xs else None

-- a list of any number of items that each have the form
abbrev pub list_of : {X : Type 0} → (Data → Option X) → Data → Option (List X)
list_of form d = as_array d >>= each_form form

-- a member that may be absent, and what stands for it then
abbrev pub optional_form : {X : Type 0} → X → (Data → Option X) → Option Data → Option X
optional_form absent form None = Some absent
optional_form absent form (Some d) = form d
