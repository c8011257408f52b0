-- What the items of a list are by a form that each has.
use Rattle.std.specs.Prelude.{List, [], ◌∷◌, ◌++◌, Option, Some, None, option_map}
use Rattle.serde_json.specs.Data.{Data, Items, no_items, item}

-- both, where both are there
abbrev pub with_first : {X : Type 0} → Option X → Option (List X) → Option (List X)
with_first None rest = None
with_first (Some x) rest = option_map (λ xs. x ∷ xs) rest

-- each item has the form
abbrev pub each_form : {X : Type 0} → (Data → Option X) → Items → Option (List X)
each_form form no_items = Some []
each_form form (item d ds) = with_first (form d) (each_form form ds)

-- the items of both, where both are there
abbrev pub followed_by : {X : Type 0} → Option (List X) → Option (List X) → Option (List X)
followed_by None rest = None
followed_by (Some xs) rest = option_map (λ ys. xs ++ ys) rest
