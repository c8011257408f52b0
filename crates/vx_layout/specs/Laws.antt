-- What holds of layout trees, whatever the file.
use Rattle.std.specs.Prelude.{◌≡◌, ℕ, ◌+◌, ◌<◌, List, ◌++◌, length, map, Option, Some, None, IfSome, IsSome}
use Rattle.std.specs.List.{slice_get, range_with_len, AllByRecursion}
use Rattle.vx_base.specs.declared.codings.Coding.{Coding}
use Rattle.vx_base.specs.Data.{Datum}
use Rattle.vx_base.specs.Fits.{Fits}
use Rattle.vx_base.specs.ColumnCalls.{value_at}
use Rattle.vx_rows.specs.Derivations.{Leaves}
use Rattle.vx_rows.specs.Reads.{Way, through, inside, AreAmong, Finds, FindsOnly, AreComeToBy, found_in, IsPlaceAmong, IsFaulty, IsFine}
use Rattle.vx_rows.specs.Whole.{GiveEachRow, GiveFitting, AgreeOn}
use Rattle.vx_rows.specs.Heads.{Head}
use Rattle.vx_rows.specs.Zones.{Zones}
use Rattle.vx_layout.specs.Nodes.{Node}
use Rattle.vx_layout.specs.Faults.{IsFirstFault}
use Rattle.vx_layout.specs.Shape.{IsGoodTree}
use Rattle.vx_layout.specs.Trees.{Tree, leaf, chunks, fields, dict, zoned, Forest, tree, Validity, always, valid_by, head_of, grown, subtree}
use Rattle.vx_layout.specs.Kept.{KeptFields, all}
use Rattle.vx_layout.specs.Rows.{struct_members, derivation, derivation_in, value, reads, AreValuesOf, AreTreeValues, AreForestValues, rows_in, IsReached}
use Rattle.vx_layout.specs.Parts.{tree_at, rows_before, IsKeptField}
use Rattle.vx_layout.specs.Sound.{IsSound, AreFields}
use Rattle.vx_layout.specs.Columns.{AreColumns, row_of, valid_row_of}

-- ---- the shape

-- a good tree has no first fault
abbrev pub GoodTreeHasNoFault : Type 0
GoodTreeHasNoFault = (nodes : List Node) (node rule : ℕ) → IsGoodTree nodes → IsFirstFault nodes node rule → ⊥

-- and no list of nodes has two
abbrev pub FirstFaultIsOne : Type 0
FirstFaultIsOne = (nodes : List Node) (node other rule other_rule : ℕ)
    → IsFirstFault nodes node rule → IsFirstFault nodes other other_rule → (node ≡ other) × (rule ≡ other_rule)

-- the tree of a node is that node over the trees of its children
abbrev pub TreeUnfolds : Type 0
TreeUnfolds = (nodes : List Node) → IsGoodTree nodes → (n : ℕ) → subtree nodes n ≡ grown (subtree nodes) n (slice_get nodes n)

-- the dtypes and the row counts of a good tree fit together
abbrev pub GoodTreeIsSound : Type 0
GoodTreeIsSound = (nodes : List Node) → IsGoodTree nodes → (n : ℕ) → n < length nodes → IsSound (subtree nodes n)

-- ---- all rows

-- rows have no more than one list of values
abbrev pub ValuesAreOne : Type 0
ValuesAreOne = (value_of : ℕ → Option Datum) (rows : List ℕ) (ones others : List Datum)
    → AreValuesOf value_of rows ones → AreValuesOf value_of rows others → ones ≡ others

-- a tree has as many values as rows
abbrev pub ValuesCount : Type 0
ValuesCount = (leaves : Leaves) (t : Tree) (kept : KeptFields) (values : List Datum)
    → AreTreeValues leaves t kept values → length values ≡ (head_of t).rows

-- each of them is the value of its row
abbrev pub ValuesAreOfRows : Type 0
ValuesAreOfRows = (leaves : Leaves) (t : Tree) (kept : KeptFields) (values : List Datum) (row : ℕ)
    → AreTreeValues leaves t kept values → row < (head_of t).rows → value leaves t kept row ≡ slice_get values row

-- a leaf has the values of its segment
abbrev pub LeafHasValues : Type 0
LeafHasValues = (leaves : Leaves) (head : Head) (segment : ℕ) (coding : Coding) (kept : KeptFields) (values : List Datum)
    → leaves head.dtype coding head.rows segment ≡ Some values → length values ≡ head.rows
    → AreTreeValues leaves (leaf head segment coding) kept values

-- trees one after another have the values of the first, then those of the others
abbrev pub ValuesJoin : Type 0
ValuesJoin = (leaves : Leaves) (first : Tree) (rest : Forest) (kept : KeptFields) (values more : List Datum)
    → AreTreeValues leaves first kept values → AreForestValues leaves rest kept more
    → AreForestValues leaves (tree first rest) kept (values ++ more)

-- a chunked node has the values of its chunks
abbrev pub ChunksHaveValues : Type 0
ChunksHaveValues = (leaves : Leaves) (head : Head) (forest : Forest) (kept : KeptFields) (values : List Datum)
    → rows_in forest ≡ head.rows → AreForestValues leaves forest kept values
    → AreTreeValues leaves (chunks head forest) kept values

-- zoned data has the values of the data
abbrev pub ZonedHasValues : Type 0
ZonedHasValues = (leaves : Leaves) (head : Head) (zones : Zones) (content table : Tree) (kept : KeptFields) (values : List Datum)
    → (head_of content).rows ≡ head.rows → AreTreeValues leaves content kept values
    → AreTreeValues leaves (zoned head zones content table) kept values

-- a dictionary has the values at its codes, and null at a null code
abbrev pub DictionaryHasValues : Type 0
DictionaryHasValues = (leaves : Leaves) (head : Head) (values codes : Tree) (kept : KeptFields) (vs cs : List Datum)
    → (head_of codes).rows ≡ head.rows → AreTreeValues leaves values all vs → AreTreeValues leaves codes all cs
    → AllByRecursion (IsPlaceAmong (length vs)) cs → AreTreeValues leaves (dict head values codes) kept (map (value_at vs) cs)

-- a struct has a struct of its columns' values at each row
abbrev pub StructHasValues : Type 0
StructHasValues = (leaves : Leaves) (head : Head) (forest : Forest) (columns : List (List Datum))
    → AreFields (struct_members head.dtype) head.rows forest → AreColumns leaves (struct_members head.dtype) forest columns
    → AreTreeValues leaves (fields head forest always) all (map (row_of columns) (range_with_len 0 head.rows))

-- and null where the validity is false
abbrev pub ValidStructHasValues : Type 0
ValidStructHasValues =
    (leaves : Leaves) (head : Head) (forest : Forest) (validity : Tree) (columns : List (List Datum)) (truths : List Datum)
    → AreFields (struct_members head.dtype) head.rows forest → AreColumns leaves (struct_members head.dtype) forest columns
    → (head_of validity).rows ≡ head.rows → AreTreeValues leaves validity all truths
    → AreTreeValues leaves (fields head forest (valid_by validity)) all (map (valid_row_of truths columns) (range_with_len 0 head.rows))

-- ---- what a row of a child reads, a row of the node reads

-- a chunk's row is the chunked node's, behind the rows in front of the chunk: it is derived alike
abbrev pub ChunkRowIsRow : Type 0
ChunkRowIsRow = (forest : Forest) (place : ℕ) (chunk : Tree) (kept : KeptFields) (row whole : ℕ)
    → tree_at forest place ≡ Some chunk → row < (head_of chunk).rows → whole ≡ rows_before forest place + row
    → derivation_in forest kept whole ≡ derivation chunk kept row

abbrev pub ChunkLiesInside : Type 0
ChunkLiesInside = (forest : Forest) (place : ℕ) (chunk : Tree) (row : ℕ)
    → tree_at forest place ≡ Some chunk → row < (head_of chunk).rows → rows_before forest place + row < rows_in forest

-- a row reads what the same row of each kept field reads, of the validity, and of a dictionary's codes
abbrev pub FieldIsRead : Type 0
FieldIsRead = (head : Head) (forest : Forest) (validity : Validity) (place : ℕ) (child : Tree) (kept : KeptFields) (way : Way) (row : ℕ)
    → tree_at forest place ≡ Some child → IsKeptField kept (struct_members head.dtype) place
    → AreAmong (reads child way all row) (reads (fields head forest validity) way kept row)

abbrev pub ValidityIsRead : Type 0
ValidityIsRead = (head : Head) (forest : Forest) (validity : Tree) (kept : KeptFields) (way : Way) (row : ℕ)
    → AreAmong (reads validity way all row) (reads (fields head forest (valid_by validity)) way kept row)

abbrev pub CodeIsRead : Type 0
CodeIsRead = (head : Head) (values codes : Tree) (kept : KeptFields) (way : Way) (row : ℕ)
    → AreAmong (reads codes way all row) (reads (dict head values codes) way kept row)

-- and what each row of a dictionary's values reads, inside the dictionary
abbrev pub ValueIsRead : Type 0
ValueIsRead = (head : Head) (values codes : Tree) (kept : KeptFields) (way : Way) (row value_row : ℕ) → value_row < (head_of values).rows
    → AreAmong (reads values (inside head.number way) all value_row) (reads (dict head values codes) way kept row)

-- the same is found, in the same order, whatever the way to a node
abbrev pub FoundAnyWay : Type 0
FoundAnyWay =
    (t : Tree) (kept : KeptFields) (row : ℕ) (way other : Way) → found_in (reads t way kept row) ≡ found_in (reads t other kept row)

-- whatever is read inside an outermost dictionary is come to through its values
abbrev pub ReadThroughValues : Type 0
ReadThroughValues =
    (t : Tree) (kept : KeptFields) (row dictionary : ℕ) → AreComeToBy (through dictionary) (reads t (through dictionary) kept row)

-- ---- what is reached below is reached above

abbrev pub ChunkIsReached : Type 0
ChunkIsReached = (head : Head) (forest : Forest) (place : ℕ) (chunk : Tree) (kept : KeptFields) (segment : ℕ)
    → rows_in forest ≡ head.rows → tree_at forest place ≡ Some chunk
    → IsReached chunk kept segment → IsReached (chunks head forest) kept segment

abbrev pub FieldIsReached : Type 0
FieldIsReached = (head : Head) (forest : Forest) (validity : Validity) (place : ℕ) (child : Tree) (kept : KeptFields) (segment : ℕ)
    → tree_at forest place ≡ Some child → IsKeptField kept (struct_members head.dtype) place → (head_of child).rows ≡ head.rows
    → IsReached child all segment → IsReached (fields head forest validity) kept segment

abbrev pub ValidityIsReached : Type 0
ValidityIsReached = (head : Head) (forest : Forest) (validity : Tree) (kept : KeptFields) (segment : ℕ)
    → (head_of validity).rows ≡ head.rows → IsReached validity all segment → IsReached (fields head forest (valid_by validity)) kept segment

abbrev pub CodesAreReached : Type 0
CodesAreReached = (head : Head) (values codes : Tree) (kept : KeptFields) (segment : ℕ)
    → (head_of codes).rows ≡ head.rows → IsReached codes all segment → IsReached (dict head values codes) kept segment

-- where the dictionary has rows
abbrev pub ValuesAreReached : Type 0
ValuesAreReached = (head : Head) (values codes : Tree) (kept : KeptFields) (segment : ℕ)
    → 0 < head.rows → IsReached values all segment → IsReached (dict head values codes) kept segment

abbrev pub ZonedDataIsReached : Type 0
ZonedDataIsReached = (head : Head) (zones : Zones) (content table : Tree) (kept : KeptFields) (segment : ℕ)
    → (head_of content).rows ≡ head.rows → IsReached content kept segment → IsReached (zoned head zones content table) kept segment

-- ---- what reads say of values

-- a faulty read makes the row a fault
abbrev pub FaultyReadIsFault : Type 0
FaultyReadIsFault = (leaves : Leaves) (t : Tree) (kept : KeptFields) (way : Way) (row : ℕ)
    → Finds (IsFaulty leaves) (reads t way kept row) → value leaves t kept row ≡ None

-- where each read is fine, the row has a value
abbrev pub FineReadsGiveValue : Type 0
FineReadsGiveValue = (leaves : Leaves) → GiveEachRow leaves → (t : Tree) (kept : KeptFields) (way : Way) (row : ℕ)
    → IsSound t → row < (head_of t).rows → FindsOnly (IsFine leaves) (reads t way kept row) → IsSome (value leaves t kept row)

-- leaves that agree on what is read give one value
abbrev pub ReadsDecideValue : Type 0
ReadsDecideValue = (ones others : Leaves) (t : Tree) (kept : KeptFields) (way : Way) (row : ℕ)
    → FindsOnly (AgreeOn ones others) (reads t way kept row) → value ones t kept row ≡ value others t kept row

-- the value of a row fits the dtype of the tree, where the leaves' values fit theirs
abbrev pub ValuesFit : Type 0
ValuesFit =
    (leaves : Leaves) → GiveFitting leaves → (t : Tree) (row : ℕ) → IsSound t
    → IfSome (value leaves t all row) (Fits (head_of t).dtype)
