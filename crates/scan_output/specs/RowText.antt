-- The text of a row: JSON without spaces, in which a struct has its fields in the order of the dtype.
use Rattle.std.specs.Prelude.{ℕ, zero, suc, ◌/◌, ◌%◌, ◌==◌, nat_lt, if◌then◌else◌, false, codes, List, [], ◌∷◌, ◌++◌}
use Rattle.std.specs.Fmt.{digit_glyph, signed_decimal}
use Rattle.std.specs.List.{flat_map}
use Rattle.vx_arrays.specs.Fields.{field_at}
use Rattle.vx_base.specs.Data.{DataType, struct_type, Members, no_members, member, Datum, null, truth, number, text, structure}

-- ---- strings

-- two hexadecimal digits, in lower case
abbrev pub hex_digits : ℕ → List ℕ
hex_digits byte = digit_glyph false (byte / 16) ∷ digit_glyph false (byte % 16) ∷ []

-- What stands in a string for a byte: `"` and `\` follow a `\`, five control characters have a letter and the
-- others their number, and all else stands as it is.
unfoldable pub escaped : ℕ → List ℕ
escaped byte =
    if byte == 34 then codes "\\\"" else (
    if byte == 92 then codes "\\\\" else (
    if byte == 8 then codes "\\b" else (
    if byte == 9 then codes "\\t" else (
    if byte == 10 then codes "\\n" else (
    if byte == 12 then codes "\\f" else (
    if byte == 13 then codes "\\r" else (
    if nat_lt byte 32 then codes "\\u00" ++ hex_digits byte else byte ∷ [])))))))

-- the bytes between quotes
abbrev pub json_string : List ℕ → List ℕ
json_string bytes = codes "\"" ++ (flat_map escaped bytes ++ codes "\"")

-- ---- rows

-- what stands before the value of the field at a place: a comma but before the first, the name and a colon
abbrev pub lead : ℕ → List ℕ → List ℕ
lead zero name = json_string name ++ codes ":"
lead (suc place) name = codes "," ++ (json_string name ++ codes ":")

-- A number is in decimal. A field without an item is null, and a struct has no text under another dtype; neither
-- is so where the value fits the dtype.
abbrev mutual
  pub row_text : DataType → Datum → List ℕ
  row_text t null = codes "null"
  row_text t (truth b) = if b then codes "true" else codes "false"
  row_text t (number z) = signed_decimal z
  row_text t (text bytes) = json_string bytes
  row_text (struct_type ms n) (structure vs) = codes "{" ++ (fields_text 0 ms (structure vs) ++ codes "}")
  row_text t (structure vs) = []

  -- a struct's fields in order, the first of which is at the given place
  pub fields_text : ℕ → Members → Datum → List ℕ
  fields_text place no_members v = []
  fields_text place (member name t ms) v = lead place name ++ (row_text t (field_at place v) ++ fields_text (suc place) ms v)

-- ---- lines

-- a row's text and a newline
abbrev pub line : DataType → Datum → List ℕ
line t v = row_text t v ++ codes "\n"

abbrev pub lines : DataType → List Datum → List ℕ
lines t values = flat_map (line t) values
