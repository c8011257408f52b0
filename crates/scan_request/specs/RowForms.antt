-- The form of the rows that are asked for: a range, the rows of it that are read or left out, how many of them at most, and
-- the number of the first row.
use Rattle.std.specs.Prelude.{ℕ, ◌^◌, ◌&&◌, nat_lt, codes, if◌then◌else◌, List, [], ◌∷◌, Bool, true, Option, Some, None}
use Rattle.std.specs.declared.ops.Range.{Range}
use Rattle.serde_json.specs.Data.{Data, Items, no_items, item}
use Rattle.serde_json.specs.Find.{get, as_array}
use Rattle.vx_splits.specs.declared.selections.Selection.{Selection}
use Rattle.vx_splits.specs.declared.selections.Selection.TheVariants.{All, IncludeByIndex, ExcludeByIndex}
use Rattle.scan_words.specs.Words.{◌>>=◌}
use Rattle.scan_request.specs.JsonForms.{list_of, optional_form, whole_form}
use Rattle.scan_request.specs.declared.row_forms.RowsAsked.{RowsAsked}

-- of a start and an end, where both are there
abbrev pub range_from : Option ℕ → Option ℕ → Option (Range ℕ)
range_from start end = start >>= λ from. end >>= λ until. Some (record { start = from; end = until })

-- a start and an end of 64 bits; the end may be the lower one
abbrev pub range_items : Items → Option (Range ℕ)
range_items no_items = None
range_items (item a no_items) = None
range_items (item a (item b no_items)) = range_from (whole_form (2 ^ 64) a) (whole_form (2 ^ 64) b)
range_items (item a (item b (item c ds))) = None

abbrev pub range_form : Data → Option (Range ℕ)
range_form d = as_array d >>= range_items

-- a range that is given, where none may be
abbrev pub given_range : Data → Option (Option (Range ℕ))
given_range d = range_form d >>= λ range. Some (Some range)

-- a number of rows of 64 bits that is given, where none may be
abbrev pub given_limit : Data → Option (Option ℕ)
given_limit d = whole_form (2 ^ 64) d >>= λ limit. Some (Some limit)

-- each number is greater than the one before it
abbrev pub ascends : List ℕ → Bool
ascends [] = true
ascends (n ∷ []) = true
ascends (n ∷ m ∷ ns) = nat_lt n m && ascends (m ∷ ns)

-- numbers of which each is greater than the one before it
abbrev pub in_order : Option (List ℕ) → Option (List ℕ)
in_order rows = rows >>= λ ns. if ascends ns then Some ns else None

-- a list of numbers of 64 bits, each greater than the one before it
abbrev pub indices_form : Data → Option (List ℕ)
indices_form d = in_order (list_of (whole_form (2 ^ 64)) d)

-- by the members `indices` and `exclude`, of which one at most is there
abbrev pub selection_form : Option Data → Option Data → Option Selection
selection_form None None = Some All
selection_form (Some d) None = indices_form d >>= λ rows. Some (IncludeByIndex rows)
selection_form None (Some d) = indices_form d >>= λ rows. Some (ExcludeByIndex rows)
selection_form (Some d) (Some e) = None

-- of a range, a limit, the number of the first row and a selection, where all of them are there
abbrev pub rows_from : Option (Option (Range ℕ)) → Option (Option ℕ) → Option ℕ → Option Selection → Option RowsAsked
rows_from range limit row_offset selection = range >>= λ asked. limit >>= λ most. row_offset >>= λ first. selection >>= λ chosen. Some (record { range = asked; selection = chosen; limit = most; row_offset = first })

-- the rows that are asked for, where each of the members may be absent: all of them, numbered from 0
abbrev pub rows_form : Data → Option RowsAsked
rows_form d =
    rows_from (optional_form None given_range (get (codes "range") d)) (optional_form None given_limit (get (codes "limit") d)) (optional_form 0 (whole_form (2 ^ 64)) (get (codes "row_offset") d))
    (selection_form (get (codes "indices") d) (get (codes "exclude") d))

-- ---- by what the members tell, each where it is there

abbrev pub given : {X : Type 0} → Option (Option X) → Option (Option X)
given None = Some None
given (Some x) = x >>= λ y. Some (Some y)

abbrev pub given_or : {X : Type 0} → X → Option (Option X) → Option X
given_or absent None = Some absent
given_or absent (Some x) = x

abbrev pub selection_said : Option (Option (List ℕ)) → Option (Option (List ℕ)) → Option Selection
selection_said None None = Some All
selection_said (Some rows) None = rows >>= λ ns. Some (IncludeByIndex ns)
selection_said None (Some rows) = rows >>= λ ns. Some (ExcludeByIndex ns)
selection_said (Some rows) (Some other) = None

abbrev pub rows_said : Option (Option (Range ℕ)) → Option (Option ℕ) → Option (Option ℕ) → Option (Option (List ℕ)) → Option (Option (List ℕ)) → Option RowsAsked
rows_said range limit row_offset indices exclude = rows_from (given range) (given limit) (given_or 0 row_offset) (selection_said indices exclude)
