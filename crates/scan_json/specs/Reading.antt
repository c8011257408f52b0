-- The values that tokens are read as, which are those of `serde_json`, and what follows them.
use Rattle.std.specs.Prelude.{◌≡◌, ℕ, ◌-◌, List, ◌++◌, length, Bool, true, false, Option, Some}
use Rattle.json.specs.Token.{Token}
use Rattle.json.specs.Json.{value, items, members, parse_map}
use Rattle.serde_json.specs.Data.{Data, null, boolean, number, string, array, object, Items, Members, no_members}
use Rattle.serde_json.specs.Read.{of_json, of_items, of_members, converted}
use Rattle.serde_json.specs.View.{number_view}
use Rattle.scan_json.specs.declared.heads.Head.{Head}
use Rattle.scan_json.specs.declared.heads.Head.TheVariants as head

-- what is left of the tokens is the last of them
abbrev pub IsTail : List Token → List Token → Type 0
IsTail tokens left = (front : List Token) × (tokens ≡ front ++ left)

-- the next value, in which lists and objects nest no deeper than the number
abbrev pub read_value : ℕ → List Token → Option (Data × List Token)
read_value depth ts = converted of_json (value depth ts)

-- the items of a list to its end
abbrev pub read_items : ℕ → List Token → Option (Items × List Token)
read_items depth ts = converted of_items (items (value depth) (length ts) ts)

-- the members of an object to its end
abbrev pub read_members : ℕ → List Token → Option (Members × List Token)
read_members depth ts = converted (λ ms. of_members ms no_members) (members (value depth) (length ts) ts)

-- what the next value is by a form
abbrev pub reads : {X : Type 0} → (Data → X) → ℕ → List Token → Option (X × List Token)
reads form depth ts = parse_map form (read_value depth ts)

-- what the items of a list or the members of an object are by a form, to its end
abbrev pub reads_items : {X : Type 0} → (Items → X) → ℕ → List Token → Option (X × List Token)
reads_items form depth ts = parse_map form (read_items depth ts)

abbrev pub reads_members : {X : Type 0} → (Members → X) → ℕ → List Token → Option (X × List Token)
reads_members form depth ts = parse_map form (read_members depth ts)

-- the value whose head has been read, where the tokens follow it
abbrev pub head_reads : Head → ℕ → List Token → Option (Data × List Token)
head_reads head.Null depth ts = Some (null, ts)
head_reads (head.Bool b) depth ts = Some (boolean b, ts)
head_reads (head.Number n) depth ts = Some (number (number_view n), ts)
head_reads (head.String s) depth ts = Some (string s.now, ts)
head_reads head.List depth ts = parse_map array (read_items (depth - 1) ts)
head_reads head.Object depth ts = parse_map object (read_members (depth - 1) ts)

-- it begins a list or an object
abbrev pub is_nested : Head → Bool
is_nested head.Null = false
is_nested (head.Bool b) = false
is_nested (head.Number n) = false
is_nested (head.String s) = false
is_nested head.List = true
is_nested head.Object = true
