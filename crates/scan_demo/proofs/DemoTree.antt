-- The rows of the demo file are the demo rows.
use Rattle.std.proofs.Common.{◌≡◌, ℕ, zero, suc, ◌+◌, ◌*◌, ◌%◌, ◌<◌, ◌≤◌, Bool, true, false, List, [], ◌∷◌, ◌++◌, Some, length, map, get_or, refl, sym, ap, ◌∙◌, subst, arith}
use Rattle.std.specs.Prelude.{if◌then◌else◌}
use Rattle.std.specs.List.{AllByRecursion, range_with_len, slice_get}
use Rattle.std.proofs.lemmas.List.FromFn.{get_or-map-range_with_len, length-map-range_with_len}
use Rattle.std.proofs.lemmas.List.{length-append}
use Rattle.vx_base.specs.Columns.{ColumnData}
use Rattle.vx_base.specs.ColumnCalls.{natural, value_at}
use Rattle.vx_base.specs.Data.{Datum, null}
use Rattle.vx_layout.specs.Columns.{row_of}
use Rattle.vx_layout.specs.Kept.{all}
use Rattle.vx_layout.specs.Nodes.{Node}
use Rattle.vx_layout.specs.Rows.{AreTreeValues, file_leaves, value}
use Rattle.vx_layout.specs.Shape.{IsGoodTree}
use Rattle.vx_layout.specs.Sound.{IsSound}
use Rattle.vx_layout.specs.Trees.{Tree, always, dict, fields, forest_from, head_at, head_of, subtree}
use Rattle.vx_layout.proofs.Joined.{dictionary_values, struct_values, values_at}
use Rattle.vx_rows.specs.Derivations.{Leaves}
use Rattle.vx_rows.specs.Reads.{IsPlaceAmong}
use Rattle.scan_demo.specs.declared.stored_columns.StoredColumn.{StoredColumn}
use Rattle.scan_demo.specs.declared.stored_columns.StoredColumn.TheVariants.{Ids, Codes, Flags}
use Rattle.scan_demo.specs.DemoBytes.{demo_bytes, demo_locations, locations_from, segment_of}
use Rattle.scan_demo.specs.DemoNodes.{demo_nodes, dict_node, root_node}
use Rattle.scan_demo.specs.DemoRows.{demo_row, demo_rows, lacks_name, name_at, name_of}
use Rattle.scan_demo.specs.Flats.{chunk_count, chunk_flat, chunk_flats, code_of, demo_flats, name_flat, stored_value}
use Rattle.scan_demo.proofs.DemoTrees.{HaveChunks, chunked_rows, flat_rows, sound_at, tree_of}
use Rattle.scan_demo.proofs.NodePlaces.{are_codes, are_flags, are_ids, in_behind, in_codes, in_flags, in_ids}
use Rattle.scan_demo.proofs.Places.{get_behind, get_front, get_of_range}
use Rattle.scan_demo.proofs.Segments.{IsStorable, flat_stored}
use Rattle.scan_demo.proofs.StoredValues.{names_fit, names_short, stored_fit, stored_short}

-- ---- where the flats stand

chunk_storable : (column : StoredColumn) (number place : ℕ) → IsStorable (chunk_flat column number place)
chunk_storable Ids number place = record { leaf = tt; fit = stored_fit Ids number _; short = stored_short Ids number _ }
chunk_storable Codes number place = record { leaf = tt; fit = stored_fit Codes number _; short = stored_short Codes number _ }
chunk_storable Flags number place = record { leaf = tt; fit = stored_fit Flags number _; short = stored_short Flags number _ }

count_flats : (column : StoredColumn) (number : ℕ) → length (chunk_flats column number) ≡ chunk_count number
count_flats column number = length-map-range_with_len (chunk_flat column number) 0 (chunk_count number)

locations_count : (offset : ℕ) (flats : List ColumnData) → length (locations_from offset flats) ≡ length flats
locations_count offset [] = refl
locations_count offset (flat ∷ flats) = ap suc (locations_count (offset + length (segment_of flat)) flats)

pub few_locations : (number : ℕ) → number ≤ 1000000 → length (demo_locations number) ≤ 4294967295
few_locations number few =
    let behind : length (chunk_flats Codes number ++ chunk_flats Flags number) ≡ length (chunk_flats Codes number) + length (chunk_flats Flags number) = length-append (chunk_flats Codes number) (chunk_flats Flags number) in
    let whole : length (demo_flats number) ≡ length (chunk_flats Ids number) + length (name_flat ∷ (chunk_flats Codes number ++ chunk_flats Flags number)) =
    length-append (chunk_flats Ids number) (name_flat ∷ (chunk_flats Codes number ++ chunk_flats Flags number)) in
    omega (arith, locations_count 0 (demo_flats number), behind, whole, count_flats Ids number, count_flats Codes number, count_flats Flags number)

ids_at : (number place : ℕ) → place < chunk_count number → slice_get (demo_flats number) (0 + place) ≡ Some (chunk_flat Ids number place)
ids_at number place lt =
    let count = count_flats Ids number in
    ap (slice_get (demo_flats number)) (let same : 0 + place ≡ place = omega arith in same)
    ∙ get_front (chunk_flats Ids number) (name_flat ∷ (chunk_flats Codes number ++ chunk_flats Flags number)) place (omega arith)
    ∙ get_of_range (chunk_flat Ids number) 0 (chunk_count number) place place lt (omega arith)

names_at : (number : ℕ) → slice_get (demo_flats number) (chunk_count number) ≡ Some name_flat
names_at number =
    let count = count_flats Ids number in
    get_behind (chunk_flats Ids number) (name_flat ∷ (chunk_flats Codes number ++ chunk_flats Flags number)) 0 (chunk_count number) (omega arith)

codes_at : (number place : ℕ) → place < chunk_count number → slice_get (demo_flats number) (chunk_count number + 1 + place) ≡ Some (chunk_flat Codes number place)
codes_at number place lt =
    let count = count_flats Ids number in
    let count_codes = count_flats Codes number in
    get_behind (chunk_flats Ids number) (name_flat ∷ (chunk_flats Codes number ++ chunk_flats Flags number)) (suc place) (chunk_count number + 1 + place) (omega arith)
    ∙ get_front (chunk_flats Codes number) (chunk_flats Flags number) place (omega arith)
    ∙ get_of_range (chunk_flat Codes number) 0 (chunk_count number) place place lt (omega arith)

flags_at : (number place : ℕ) → place < chunk_count number → slice_get (demo_flats number) (2 * chunk_count number + 1 + place) ≡ Some (chunk_flat Flags number place)
flags_at number place lt =
    let count = count_flats Ids number in
    let count_codes = count_flats Codes number in
    get_behind (chunk_flats Ids number) (name_flat ∷ (chunk_flats Codes number ++ chunk_flats Flags number)) (suc (chunk_count number + place)) (2 * chunk_count number + 1 + place) (omega arith)
    ∙ get_behind (chunk_flats Codes number) (chunk_flats Flags number) place (chunk_count number + place) (omega arith)
    ∙ get_of_range (chunk_flat Flags number) 0 (chunk_count number) place place lt (omega arith)

-- ---- the columns

abbrev demo_leaves : ℕ → Leaves
demo_leaves number = file_leaves (demo_bytes number) (demo_locations number)

abbrev rows_of : ℕ → List ℕ
rows_of number = range_with_len 0 number

abbrev ColumnAt : ℕ → ℕ → List Datum → Type 0
ColumnAt number at values = AreTreeValues (demo_leaves number) (subtree (demo_nodes number) at) all values

have_ids : (number : ℕ) → HaveChunks (demo_leaves number) Ids number 0
have_ids number place lt = flat_stored (demo_flats number) (0 + place) (chunk_flat Ids number place) (ids_at number place lt) (chunk_storable Ids number place)

have_codes : (number : ℕ) → HaveChunks (demo_leaves number) Codes number (chunk_count number + 1)
have_codes number place lt = flat_stored (demo_flats number) (chunk_count number + 1 + place) (chunk_flat Codes number place) (codes_at number place lt) (chunk_storable Codes number place)

have_flags : (number : ℕ) → HaveChunks (demo_leaves number) Flags number (2 * chunk_count number + 1)
have_flags number place lt = flat_stored (demo_flats number) (2 * chunk_count number + 1 + place) (chunk_flat Flags number place) (flags_at number place lt) (chunk_storable Flags number place)

id_rows : (number : ℕ) → IsGoodTree (demo_nodes number) → ColumnAt number 1 (map (stored_value Ids number) (rows_of number))
id_rows number good = chunked_rows (demo_nodes number) good (demo_leaves number) Ids number 1 2 0 (in_ids number 0 (omega arith)) (are_ids number) (have_ids number)

code_rows : (number : ℕ) → IsGoodTree (demo_nodes number) → ColumnAt number (chunk_count number + 4) (map code_of (rows_of number))
code_rows number good =
    chunked_rows (demo_nodes number) good (demo_leaves number) Codes number (chunk_count number + 4) (chunk_count number + 5) (chunk_count number + 1)
    (in_codes number 0 (chunk_count number + 4) (omega arith) (omega arith)) (are_codes number) (have_codes number)

flag_rows : (number : ℕ) → IsGoodTree (demo_nodes number) → ColumnAt number (2 * chunk_count number + 5) (map (stored_value Flags number) (rows_of number))
flag_rows number good =
    chunked_rows (demo_nodes number) good (demo_leaves number) Flags number (2 * chunk_count number + 5) (2 * chunk_count number + 6) (2 * chunk_count number + 1)
    (in_flags number 0 (2 * chunk_count number + 5) (omega arith)) (are_flags number) (have_flags number)

-- ---- the dictionary

name_rows : (number : ℕ) → IsGoodTree (demo_nodes number) → ColumnAt number (chunk_count number + 3) name_flat.values
name_rows number good =
    flat_rows (demo_nodes number) good (demo_leaves number) (chunk_count number + 3) (chunk_count number) name_flat
    (in_behind number 1 (chunk_count number + 3) (omega arith))
    (flat_stored (demo_flats number) (chunk_count number) name_flat (names_at number) (record { leaf = tt; fit = names_fit; short = names_short }))

code_is_place : (lacking : Bool) (code : ℕ) → code < 16 → IsPlaceAmong 16 (if lacking then null else natural code)
code_is_place true code lt = tt
code_is_place false code lt = lt

codes_are_places : (rows : List ℕ) → AllByRecursion (IsPlaceAmong 16) (map code_of rows)
codes_are_places [] = tt
codes_are_places (row ∷ rows) = (code_is_place (lacks_name row) (row % 16) (omega arith), codes_are_places rows)

named : (lacking : Bool) (code : ℕ) → code < 16 → value_at name_flat.values (if lacking then null else natural code) ≡ (if lacking then null else name_at code)
named true code lt = refl
named false code lt = get_or-map-range_with_len name_at 0 16 code code null lt (omega arith)

all_named : (rows : List ℕ) → map (value_at name_flat.values) (map code_of rows) ≡ map name_of rows
all_named [] = refl
all_named (row ∷ rows) =
    let here : value_at name_flat.values (code_of row) ≡ name_of row = named (lacks_name row) (row % 16) (omega arith) in
    let more : map (value_at name_flat.values) (map code_of rows) ≡ map name_of rows = all_named rows in
    cc

dict_rows : (number : ℕ) → IsGoodTree (demo_nodes number) → ColumnAt number (chunk_count number + 2) (map name_of (rows_of number))
dict_rows number good =
    let nodes : List Node = demo_nodes number in
    let at : ℕ = chunk_count number + 2 in
    let node : Node = dict_node number (chunk_count number) in
    let here : slice_get nodes at ≡ Some node = in_behind number 0 at (omega arith) in
    let names : Tree = subtree nodes (chunk_count number + 3) in
    let codes_tree : Tree = subtree nodes (chunk_count number + 4) in
    let sound : IsSound (dict (head_at at node) names codes_tree) = sound_at nodes good at node here in
    subst (λ (values : List Datum). ColumnAt number at values) (all_named (rows_of number))
    (subst (λ (t : Tree). AreTreeValues (demo_leaves number) t all (map (value_at name_flat.values) (map code_of (rows_of number)))) (sym (tree_of nodes good at node here))
    (dictionary_values (demo_leaves number) (head_at at node) names codes_tree all name_flat.values (map code_of (rows_of number)) sound.2.rows (name_rows number good) (code_rows number good) (codes_are_places (rows_of number))))

-- ---- the root

same_on : (f g : ℕ → Datum) (from count : ℕ) → ((row : ℕ) → row < from + count → f row ≡ g row) → map f (range_with_len from count) ≡ map g (range_with_len from count)
same_on f g from zero same = refl
same_on f g from (suc count) same =
    let here : f from ≡ g from = same from (omega arith) in
    let more : map f (range_with_len (from + 1) count) ≡ map g (range_with_len (from + 1) count) = same_on f g (from + 1) count (λ row lt. same row (omega arith)) in
    cc

abbrev columns_of : ℕ → List (List Datum)
columns_of number = map (stored_value Ids number) (rows_of number) ∷ map name_of (rows_of number) ∷ map (stored_value Flags number) (rows_of number) ∷ []

row_is : (number row : ℕ) → row < 0 + number → row_of (columns_of number) row ≡ demo_row number row
row_is number row lt =
    let inside : row < number = omega arith in
    let place : 0 + row ≡ row = omega arith in
    let id : get_or (map (stored_value Ids number) (rows_of number)) row null ≡ stored_value Ids number row = get_or-map-range_with_len (stored_value Ids number) 0 number row row null inside place in
    let name : get_or (map name_of (rows_of number)) row null ≡ name_of row = get_or-map-range_with_len name_of 0 number row row null inside place in
    let flag : get_or (map (stored_value Flags number) (rows_of number)) row null ≡ stored_value Flags number row = get_or-map-range_with_len (stored_value Flags number) 0 number row row null inside place in
    rw (id, name, flag) refl

pub demo_values : (number : ℕ) → IsGoodTree (demo_nodes number) → AreTreeValues (file_leaves (demo_bytes number) (demo_locations number)) (subtree (demo_nodes number) 0) all (demo_rows number)
demo_values number good =
    let nodes : List Node = demo_nodes number in
    let node : Node = root_node number (chunk_count number) in
    let forest = forest_from (subtree nodes 1 ∷ subtree nodes (chunk_count number + 2) ∷ subtree nodes (2 * chunk_count number + 5) ∷ []) in
    let sound : IsSound (fields (head_at 0 node) forest always) = sound_at nodes good 0 node refl in
    subst (λ (values : List Datum). ColumnAt number 0 values) (same_on (row_of (columns_of number)) (demo_row number) 0 number (row_is number))
    (subst (λ (t : Tree). AreTreeValues (demo_leaves number) t all (map (row_of (columns_of number)) (rows_of number))) (sym (tree_of nodes good 0 node refl))
    (struct_values (demo_leaves number) (head_at 0 node) forest (columns_of number) sound.1 (id_rows number good, (dict_rows number good, (flag_rows number good, tt)))))

pub demo_value : (number : ℕ) → IsGoodTree (demo_nodes number) → (row : ℕ) → row < number
    → value (file_leaves (demo_bytes number) (demo_locations number)) (subtree (demo_nodes number) 0) all row ≡ Some (demo_row number row)
demo_value number good row lt =
    let node : Node = root_node number (chunk_count number) in
    let rows : (head_of (subtree (demo_nodes number) 0)).rows ≡ number = ap (λ (t : Tree). (head_of t).rows) (tree_of (demo_nodes number) good 0 node refl) in
    values_at (demo_leaves number) (subtree (demo_nodes number) 0) all (demo_rows number) row (demo_values number good) (omega arith)
    ∙ get_of_range (demo_row number) 0 number row row lt (omega arith)
