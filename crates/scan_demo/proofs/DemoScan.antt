-- What a scan of the demo file for the bare root answers.
use Rattle.std.proofs.Common.{◌≡◌, ℕ, zero, suc, ◌+◌, ◌-◌, ◌/◌, ◌==◌, ◌<◌, ◌≤◌, Bool, true, false, List, [], ◌∷◌, Option, Some, None, map, refl, ap, ap₂, ◌∙◌, subst, arith}
use Rattle.std.specs.Prelude.{filter, if◌then◌else◌, option_and_then}
use Rattle.std.specs.List.{AllByRecursion, range_with_len}
use Rattle.std.specs.declared.ops.Range.{Range}
use Rattle.vx_base.specs.Data.{DataType, Datum, null}
use Rattle.vx_base.specs.declared.locations.SegmentLocation.{SegmentLocation}
use Rattle.vx_expr.specs.Meaning.{meaning}
use Rattle.vx_expr.specs.Mentions.{is_root, uses_root}
use Rattle.vx_expr.specs.Terms.{Term, root}
use Rattle.vx_expr.specs.Rows.{no_bound}
use Rattle.vx_layout.specs.Kept.{all, kept_fields}
use Rattle.vx_layout.specs.Rows.{file_leaves, value}
use Rattle.vx_layout.specs.Shape.{IsGoodTree}
use Rattle.vx_layout.specs.Trees.{Tree, head_of, subtree}
use Rattle.vx_lower.specs.Projected.{Projection, projected_at}
use Rattle.vx_rows.specs.Derivations.{Leaves}
use Rattle.vx_scan.specs.Answer.{FileScan, ArePieces, in_front, limited, pieces_of, row_count, scan_pieces, scan_rows}
use Rattle.vx_splits.specs.declared.selections.Selection.{Selection}
use Rattle.vx_splits.specs.declared.selections.Selection.TheVariants.{All}
use Rattle.vx_splits.specs.Chunks.{chunk_size}
use Rattle.vx_splits.specs.Taken.{selects, taken_rows}
use Rattle.scan_demo.specs.DemoBytes.{demo_bytes, demo_locations}
use Rattle.scan_demo.specs.DemoNodes.{demo_nodes, root_node, row_type}
use Rattle.scan_demo.specs.DemoRows.{demo_row}
use Rattle.scan_demo.specs.DemoScans.{AnswersAreDemo, IsDemoScan, PiecesAreDemo}
use Rattle.scan_demo.specs.Flats.{chunk_count}
use Rattle.scan_demo.specs.Summary.{demo_pieces}
use Rattle.scan_demo.proofs.DemoGood.{demo_good}
use Rattle.scan_demo.proofs.DemoTree.{demo_value}
use Rattle.scan_demo.proofs.DemoTrees.{tree_of}

-- ---- the pieces

all_selected : (rows : List ℕ) → filter (selects All) rows ≡ rows
all_selected [] = refl
all_selected (row ∷ rows) = ap (λ (more : List ℕ). row ∷ more) (all_selected rows)

all_taken : (number : ℕ) → taken_rows All None number ≡ range_with_len 0 number
all_taken number = all_selected (range_with_len 0 (number - 0)) ∙ ap (range_with_len 0) (let e : number - 0 ≡ number = omega arith in e)

demo_tree : (number : ℕ) → IsGoodTree (demo_nodes number) → (head_of (subtree (demo_nodes number) 0)).rows ≡ number
demo_tree number good = ap (λ (t : Tree). (head_of t).rows) (tree_of (demo_nodes number) good 0 (root_node number (chunk_count number)) refl)

demo_dtype : (number : ℕ) → IsGoodTree (demo_nodes number) → (head_of (subtree (demo_nodes number) 0)).dtype ≡ row_type
demo_dtype number good = ap (λ (t : Tree). (head_of t).dtype) (tree_of (demo_nodes number) good 0 (root_node number (chunk_count number)) refl)

count_is : (number : ℕ) (scan : FileScan) → IsGoodTree (demo_nodes number) → IsDemoScan number scan → row_count scan ≡ number
count_is number scan good is = ap (λ (t : Tree). (head_of t).rows) is.layout ∙ demo_tree number good

pieces_at : Term → ℕ → List SegmentLocation → List ℕ → List (List ℕ)
pieces_at e count locations rows = pieces_of (chunk_size (is_root e) count locations) rows

rows_are : (number : ℕ) (scan : FileScan) → IsGoodTree (demo_nodes number) → IsDemoScan number scan → scan_rows scan ≡ range_with_len 0 number
rows_are number scan good is =
    ap (λ (limit : Option ℕ). limited limit (taken_rows scan.selection scan.range (row_count scan))) is.limit
    ∙ ap₂ (λ (selection : Selection) (range : Option (Range ℕ)). taken_rows selection range (row_count scan)) is.selection is.range
    ∙ ap (taken_rows All None) (count_is number scan good is) ∙ all_taken number

pub pieces_are_demo : PiecesAreDemo
unfolding pieces_at
pieces_are_demo number scan few is =
    let good : IsGoodTree (demo_nodes number) = demo_good number few in
    ap₂ (λ (e : Term) (count : ℕ). pieces_at e count scan.locations (scan_rows scan)) is.bare (count_is number scan good is)
    ∙ ap₂ (pieces_at root number) is.locations (rows_are number scan good is)

-- ---- the rows of the pieces are rows of the file

abbrev Below : ℕ → List ℕ → Type 0
Below number rows = AllByRecursion (λ row. row < number) rows

abbrev AllBelow : ℕ → List (List ℕ) → Type 0
AllBelow number pieces = AllByRecursion (Below number) pieces

range_below : (number from count : ℕ) → from + count ≤ number → Below number (range_with_len from count)
range_below number from zero inside = tt
range_below number from (suc count) inside = (omega arith, range_below number (from + 1) count (omega arith))

either_below : (number : ℕ) (shared : Bool) (row other : ℕ) (others : List ℕ) (pieces : List (List ℕ)) → row < number → AllBelow number ((other ∷ others) ∷ pieces)
    → AllBelow number (if shared then (row ∷ other ∷ others) ∷ pieces else (row ∷ []) ∷ (other ∷ others) ∷ pieces)
either_below number true row other others pieces lt below = ((lt, below.0), below.1)
either_below number false row other others pieces lt below = ((lt, tt), below)

front_below : (number size row : ℕ) (pieces : List (List ℕ)) → row < number → AllBelow number pieces → AllBelow number (in_front size row pieces)
front_below number size row [] lt below = ((lt, tt), tt)
front_below number size row ([] ∷ pieces) lt below = ((lt, tt), below.1)
front_below number size row ((other ∷ others) ∷ pieces) lt below = either_below number (row / size == other / size) row other others pieces lt below

pieces_below : (number size : ℕ) (rows : List ℕ) → Below number rows → AllBelow number (pieces_of size rows)
pieces_below number size [] below = tt
pieces_below number size (row ∷ rows) below = front_below number size row (pieces_of size rows) below.0 (pieces_below number size rows below.1)

-- ---- what the bare root is worth

abbrev projected : Leaves → ℕ → Tree → Term → ℕ → Option Datum
projected leaves offset t e row =
    option_and_then (λ v. meaning (head_of t).dtype no_bound e v (offset + row)) (if uses_root e then value leaves t (kept_fields (head_of t).dtype e) row else Some null)

bare_value : (leaves : Leaves) (offset : ℕ) (t : Tree) (row : ℕ) (v : Datum) → (head_of t).dtype ≡ row_type → value leaves t all row ≡ Some v → projected leaves offset t root row ≡ Some v
bare_value leaves offset t row v dtype is =
    let kept : kept_fields (head_of t).dtype root ≡ all = ap (λ (s : DataType). kept_fields s root) dtype in
    ap (λ k. option_and_then (λ w. Some w) (value leaves t k row)) kept ∙ ap (option_and_then (λ w. Some w)) is

values_are : (g : ℕ → Option Datum) (f : ℕ → Datum) (number : ℕ) (rows : List ℕ) (values : List Datum) → ((row : ℕ) → row < number → g row ≡ Some (f row)) → Below number rows
    → map g rows ≡ map Some values → values ≡ map f rows
values_are g f number [] [] each below same = refl
values_are g f number [] (v ∷ values) each below same = absurd cc
values_are g f number (row ∷ rows) [] each below same = absurd cc
values_are g f number (row ∷ rows) (v ∷ values) each below same =
    let here : g row ≡ Some v = cc in
    let more : map g rows ≡ map Some values = cc in
    let is : g row ≡ Some (f row) = each row below.0 in
    let rest : values ≡ map f rows = values_are g f number rows values each below.1 more in
    cc

batches_are : (leaves : Leaves) (p : Projection) (f : ℕ → Datum) (number : ℕ) (pieces : List (List ℕ)) (batches : List (List Datum))
    → ((row : ℕ) → row < number → projected_at leaves p row ≡ Some (f row)) → AllBelow number pieces → ArePieces leaves p pieces batches → batches ≡ map (map f) pieces
batches_are leaves p f number [] [] each below are = refl
batches_are leaves p f number [] (values ∷ batches) each below are = absurd are
batches_are leaves p f number (rows ∷ pieces) [] each below are = absurd are
batches_are leaves p f number (rows ∷ pieces) (values ∷ batches) each below are =
    let here : values ≡ map f rows = values_are (projected_at leaves p) f number rows values each below.0 are.0 in
    let more : batches ≡ map (map f) pieces = batches_are leaves p f number pieces batches each below.1 are.1 in
    cc

worth : (number : ℕ) (scan : FileScan) → IsGoodTree (demo_nodes number) → IsDemoScan number scan → (row : ℕ) → row < number
    → projected_at (file_leaves (demo_bytes number) (demo_locations number)) scan.projection row ≡ Some (demo_row number row)
worth number scan good is row lt =
    let leaves : Leaves = file_leaves (demo_bytes number) (demo_locations number) in
    let offset : ℕ = scan.projection.offset in
    ap₂ (λ (t : Tree) (e : Term). projected leaves offset t e row) is.layout is.bare
    ∙ bare_value leaves offset (subtree (demo_nodes number) 0) row (demo_row number row) (demo_dtype number good) (demo_value number good row lt)

pub answers_are_demo : AnswersAreDemo
answers_are_demo number scan batches few is are =
    let good : IsGoodTree (demo_nodes number) = demo_good number few in
    let leaves : List SegmentLocation → Leaves = file_leaves (demo_bytes number) in
    let here : ArePieces (leaves (demo_locations number)) scan.projection (demo_pieces number) batches =
    subst (λ (pieces : List (List ℕ)). ArePieces (leaves (demo_locations number)) scan.projection pieces batches) (pieces_are_demo number scan few is)
    (subst (λ (locations : List SegmentLocation). ArePieces (leaves locations) scan.projection (scan_pieces scan) batches) is.locations are) in
    batches_are (leaves (demo_locations number)) scan.projection (demo_row number) number (demo_pieces number) batches
    (worth number scan good is)
    (pieces_below number (chunk_size true number (demo_locations number)) (range_with_len 0 number) (range_below number 0 number (omega arith))) here
