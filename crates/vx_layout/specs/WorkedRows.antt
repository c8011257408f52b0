-- Trees and files that were written by hand, on which the definitions of rows are checked.
use Rattle.std.specs.Prelude.{codes, ℕ, pos, negsuc, true, false, List, [], ◌∷◌, map, Option, Some}
use Rattle.vx_base.specs.declared.locations.SegmentLocation.{SegmentLocation}
use Rattle.vx_base.specs.declared.codings.Coding.TheVariants.{Plain}
use Rattle.vx_base.specs.declared.dtypes.IntKind.TheVariants.{U8, I8, I32}
use Rattle.vx_base.specs.declared.dtypes.Nullability.TheVariants.{NonNullable, Nullable}
use Rattle.vx_base.specs.Data.{DataType, bool_type, int_type, utf8_type, struct_type, list_type, no_members, member, Datum, null, truth, number, structure, no_items, item}
use Rattle.vx_expr.specs.declared.statistics.Statistic.TheVariants.{Min, Max}
use Rattle.vx_rows.specs.ByHand.{i64, segments_in}
use Rattle.vx_rows.specs.Derivations.{Leaves}
use Rattle.vx_rows.specs.Reads.{Way, directly}
use Rattle.vx_layout.specs.declared.nodes.LayoutKind.TheVariants as kinds
use Rattle.vx_layout.specs.Nodes.{Node, parent_node}
use Rattle.vx_layout.specs.Trees.{leaf, Forest, no_trees, tree, head_at, subtree}
use Rattle.vx_layout.specs.Kept.{KeptFields, only}
use Rattle.vx_layout.specs.Rows.{value, reads, file_leaves}

abbrev u8 : DataType
u8 = int_type U8 NonNullable

abbrev i8 : DataType
i8 = int_type I8 NonNullable

abbrev pub i32 : DataType
i32 = int_type I32 NonNullable

abbrev text_type : DataType
text_type = utf8_type NonNullable

abbrev pub at : ℕ → ℕ → SegmentLocation
at offset length = record { offset = offset; length = length; alignment = 1 }

abbrev pub flat_node : DataType → ℕ → ℕ → Node
flat_node t rows segment = record { kind = kinds.Flat segment Plain; dtype = t; rows = rows; children = [] }

-- a chunked node of numbers of 64 bits
abbrev pub chunked_node : ℕ → List ℕ → Node
chunked_node rows children = parent_node kinds.Chunked i64 rows children

-- what these rows of the root are worth
abbrev pub worth : List ℕ → List SegmentLocation → List Node → KeptFields → List ℕ → List (Option Datum)
worth file locations nodes kept rows = map (value (file_leaves file locations) (subtree nodes 0) kept) rows

-- the segments whose cells a row of the root reads, each with the way to it
abbrev pub segments_read : List Node → KeptFields → ℕ → List (Way × ℕ)
segments_read nodes kept row = segments_in (reads (subtree nodes 0) directly kept row)

abbrev pub three_rows : List ℕ
three_rows = 0 ∷ 1 ∷ 2 ∷ []

-- ---- three rows in two chunks, and leaves of two rows each
abbrev pub two_chunks : List Node
two_chunks = chunked_node 3 (1 ∷ 2 ∷ []) ∷ flat_node i64 1 0 ∷ flat_node i64 2 1 ∷ []

abbrev pub two_leaves : Forest
two_leaves = tree (leaf (head_at 1 (flat_node i64 1 0)) 0 Plain) (tree (leaf (head_at 2 (flat_node i64 2 1)) 1 Plain) no_trees)

abbrev pub two_truths : Leaves
two_truths dtype coding rows segment = Some (truth true ∷ truth false ∷ [])

-- ---- structs without fields, of which some are null
abbrev pub null_structs : List Node
null_structs = parent_node kinds.Struct (struct_type no_members Nullable) 3 (1 ∷ []) ∷ flat_node (bool_type NonNullable) 3 0 ∷ []

abbrev pub second_is_null : List (Option Datum)
second_is_null = Some (structure no_items) ∷ Some null ∷ Some (structure no_items) ∷ []

-- ---- a dictionary without values
abbrev pub no_values : List Node
no_values = parent_node kinds.Dict (utf8_type Nullable) 3 (1 ∷ 2 ∷ []) ∷ flat_node text_type 0 0 ∷ flat_node (int_type U8 Nullable) 3 1 ∷ []

abbrev pub no_values_at : List SegmentLocation
no_values_at = at 0 0 ∷ at 0 4 ∷ []

-- the codes are null; the first code is 0
abbrev pub null_codes : List ℕ
null_codes = 0 ∷ 0 ∷ 0 ∷ 0 ∷ []

abbrev pub code_zero : List ℕ
code_zero = 1 ∷ 0 ∷ 0 ∷ 0 ∷ []

-- ---- a dictionary of which one value, that no row has, is torn
abbrev pub torn_value : List Node
torn_value =
    parent_node kinds.Dict text_type 2 (1 ∷ 4 ∷ []) ∷ parent_node kinds.Chunked text_type 2 (2 ∷ 3 ∷ [])
    ∷ flat_node text_type 1 0 ∷ flat_node text_type 1 1 ∷ flat_node u8 2 2 ∷ []

abbrev pub torn_file : List ℕ
torn_file = 1 ∷ 0 ∷ 0 ∷ 0 ∷ 97 ∷ 1 ∷ 0 ∷ 0 ∷ 0 ∷ 0 ∷ 0 ∷ []

abbrev pub torn_at : List SegmentLocation
torn_at = at 0 5 ∷ at 5 4 ∷ at 9 2 ∷ []

-- ---- two fields over one range, and two leaves over one segment
abbrev two_fields : DataType → DataType
two_fields second = struct_type (member (codes "a") i8 (member (codes "b") second no_members)) NonNullable

abbrev pub one_range : List Node
one_range = parent_node kinds.Struct (two_fields i8) 2 (1 ∷ 2 ∷ []) ∷ flat_node i8 2 0 ∷ flat_node i8 2 1 ∷ []

abbrev pub one_segment : List Node
one_segment = parent_node kinds.Struct (two_fields u8) 1 (1 ∷ 2 ∷ []) ∷ flat_node i8 1 0 ∷ flat_node u8 1 0 ∷ []

abbrev pub twice : ℕ → Option Datum
twice n = Some (structure (item (number (pos n)) (item (number (pos n)) no_items)))

abbrev pub signed_and_unsigned : Option Datum
signed_and_unsigned = Some (structure (item (number (negsuc 1)) (item (number (pos 254)) no_items)))

-- ---- a list beside a field
abbrev pub with_list : DataType
with_list = struct_type (member (codes "a") i64 (member (codes "l") (list_type i64 NonNullable) no_members)) NonNullable

abbrev pub list_field : List Node
list_field =
    parent_node kinds.Struct with_list 1 (1 ∷ 2 ∷ []) ∷ flat_node i64 1 0
    ∷ parent_node kinds.List (list_type i64 NonNullable) 1 (3 ∷ 4 ∷ []) ∷ flat_node i64 0 1 ∷ flat_node i64 2 2 ∷ []

abbrev pub list_file : List ℕ
list_file = 7 ∷ 0 ∷ 0 ∷ 0 ∷ 0 ∷ 0 ∷ 0 ∷ 0 ∷ []

abbrev pub field_a : KeptFields
field_a = only (codes "a" ∷ [])

abbrev pub seven_and_null : Option Datum
seven_and_null = Some (structure (item (number (pos 7)) (item null no_items)))

-- ---- data in zones of so many rows
abbrev zones_of_numbers : DataType
zones_of_numbers =
    struct_type (member (codes "min") (int_type I32 Nullable) (member (codes "max") (int_type I32 Nullable) no_members)) NonNullable

abbrev pub in_zones : ℕ → List Node
in_zones zone_len =
    parent_node (kinds.Zoned zone_len (Min ∷ Max ∷ [])) i32 3 (1 ∷ 4 ∷ []) ∷ parent_node kinds.Chunked i32 3 (2 ∷ 3 ∷ [])
    ∷ flat_node i32 1 0 ∷ flat_node i32 2 1
    ∷ parent_node kinds.Struct zones_of_numbers 1 (5 ∷ 6 ∷ [])
    ∷ flat_node (int_type I32 Nullable) 1 2 ∷ flat_node (int_type I32 Nullable) 1 3 ∷ []

abbrev pub zoned_file : List ℕ
zoned_file = 1 ∷ 0 ∷ 0 ∷ 0 ∷ 2 ∷ 0 ∷ 0 ∷ 0 ∷ 3 ∷ 0 ∷ 0 ∷ 0 ∷ []

abbrev pub zoned_at : List SegmentLocation
zoned_at = at 0 4 ∷ at 4 8 ∷ []

abbrev pub one_two_three : List (Option Datum)
one_two_three = map (λ n. Some (number (pos n))) (1 ∷ 2 ∷ 3 ∷ [])

-- ---- a dictionary whose values are a dictionary
abbrev pub nested : List Node
nested =
    parent_node kinds.Dict i8 1 (1 ∷ 4 ∷ []) ∷ parent_node kinds.Dict i8 1 (2 ∷ 3 ∷ []) ∷ flat_node i8 1 0 ∷ flat_node u8 1 1
    ∷ flat_node u8 1 2 ∷ []
