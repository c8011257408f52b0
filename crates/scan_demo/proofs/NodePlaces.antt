-- Where the nodes of the demo file stand: one of each kind at each number.
use Rattle.std.proofs.Common.{◌≡◌, ℕ, suc, ◌+◌, ◌-◌, ◌*◌, ◌<◌, ◌≤◌, List, ◌∷◌, ◌++◌, Some, length, inl, inr, ap, ◌∙◌, arith}
use Rattle.std.specs.List.{range_with_len, slice_get}
use Rattle.std.proofs.lemmas.Bool.{cases_lt}
use Rattle.std.proofs.lemmas.List.{length-append}
use Rattle.std.proofs.lemmas.List.FromFn.{length-map-range_with_len}
use Rattle.vx_layout.specs.declared.nodes.LayoutKind.TheVariants as kinds
use Rattle.vx_layout.specs.Nodes.{Node, parent_node}
use Rattle.scan_demo.specs.declared.stored_columns.StoredColumn.{StoredColumn}
use Rattle.scan_demo.specs.declared.stored_columns.StoredColumn.TheVariants.{Ids, Codes, Flags}
use Rattle.scan_demo.specs.DemoNodes.{chunked_nodes, demo_nodes, dict_node, flat_node}
use Rattle.scan_demo.specs.Flats.{chunk_count, chunk_flat, column_type, name_flat}
use Rattle.scan_demo.proofs.DemoTrees.{AreChunkNodes}
use Rattle.scan_demo.proofs.Places.{get_behind, get_front, get_of_range}

abbrev pub ids_nodes : ℕ → List Node
ids_nodes number = chunked_nodes Ids number 2 0

abbrev pub codes_nodes : ℕ → List Node
codes_nodes number = chunked_nodes Codes number (chunk_count number + 5) (chunk_count number + 1)

abbrev pub flags_nodes : ℕ → List Node
flags_nodes number = chunked_nodes Flags number (2 * chunk_count number + 6) (2 * chunk_count number + 1)

abbrev pub behind_ids : ℕ → List Node
behind_ids number = dict_node number (chunk_count number) ∷ flat_node (chunk_count number) name_flat ∷ (codes_nodes number ++ flags_nodes number)

pub count_nodes : (column : StoredColumn) (number first segment : ℕ) → length (chunked_nodes column number first segment) ≡ suc (chunk_count number)
count_nodes column number first segment = ap suc (length-map-range_with_len (λ place. flat_node (segment + place) (chunk_flat column number place)) 0 (chunk_count number))

chunk_node_at : (column : StoredColumn) (number first segment place : ℕ) → place < chunk_count number
    → slice_get (chunked_nodes column number first segment) (suc place) ≡ Some (flat_node (segment + place) (chunk_flat column number place))
chunk_node_at column number first segment place lt = get_of_range (λ at. flat_node (segment + at) (chunk_flat column number at)) 0 (chunk_count number) place place lt (omega arith)

-- a node of each part
pub in_ids : (number place : ℕ) → place < suc (chunk_count number) → slice_get (demo_nodes number) (1 + place) ≡ slice_get (ids_nodes number) place
in_ids number place lt =
    let count = count_nodes Ids number 2 0 in
    ap (slice_get (demo_nodes number)) (let e : 1 + place ≡ suc place = omega arith in e)
    ∙ get_front (ids_nodes number) (behind_ids number) place (omega arith)

pub in_behind : (number place at : ℕ) → at ≡ chunk_count number + 2 + place → slice_get (demo_nodes number) at ≡ slice_get (behind_ids number) place
in_behind number place at e =
    let count = count_nodes Ids number 2 0 in
    ap (slice_get (demo_nodes number)) (let same : at ≡ suc (suc (chunk_count number + place)) = omega arith in same)
    ∙ get_behind (ids_nodes number) (behind_ids number) place (suc (chunk_count number + place)) (omega arith)

pub in_codes : (number place at : ℕ) → at ≡ chunk_count number + 4 + place → place < suc (chunk_count number) → slice_get (demo_nodes number) at ≡ slice_get (codes_nodes number) place
in_codes number place at e lt =
    let count = count_nodes Codes number (chunk_count number + 5) (chunk_count number + 1) in
    in_behind number (suc (suc place)) at (omega arith)
    ∙ get_front (codes_nodes number) (flags_nodes number) place (omega arith)

pub in_flags : (number place at : ℕ) → at ≡ 2 * chunk_count number + 5 + place → slice_get (demo_nodes number) at ≡ slice_get (flags_nodes number) place
in_flags number place at e =
    let count = count_nodes Codes number (chunk_count number + 5) (chunk_count number + 1) in
    in_behind number (suc (suc (suc (chunk_count number + place)))) at (omega arith)
    ∙ get_behind (codes_nodes number) (flags_nodes number) place (suc (chunk_count number + place)) (omega arith)

pub are_ids : (number : ℕ) → AreChunkNodes (demo_nodes number) Ids number 2 0
are_ids number place lt =
    ap (slice_get (demo_nodes number)) (let same : 2 + place ≡ 1 + suc place = omega arith in same)
    ∙ in_ids number (suc place) (omega arith) ∙ chunk_node_at Ids number 2 0 place lt

pub are_codes : (number : ℕ) → AreChunkNodes (demo_nodes number) Codes number (chunk_count number + 5) (chunk_count number + 1)
are_codes number place lt =
    in_codes number (suc place) (chunk_count number + 5 + place) (omega arith) (omega arith)
    ∙ chunk_node_at Codes number (chunk_count number + 5) (chunk_count number + 1) place lt

pub are_flags : (number : ℕ) → AreChunkNodes (demo_nodes number) Flags number (2 * chunk_count number + 6) (2 * chunk_count number + 1)
are_flags number place lt =
    in_flags number (suc place) (2 * chunk_count number + 6 + place) (omega arith)
    ∙ chunk_node_at Flags number (2 * chunk_count number + 6) (2 * chunk_count number + 1) place lt

-- ---- all of them

-- the numbers of a chunked column, of its first chunk, and of that one's segment
abbrev pub column_node : StoredColumn → ℕ → ℕ
column_node Ids chunks = 1
column_node Codes chunks = chunks + 4
column_node Flags chunks = 2 * chunks + 5

abbrev pub first_chunk : StoredColumn → ℕ → ℕ
first_chunk Ids chunks = 2
first_chunk Codes chunks = chunks + 5
first_chunk Flags chunks = 2 * chunks + 6

abbrev pub first_segment : StoredColumn → ℕ → ℕ
first_segment Ids chunks = 0
first_segment Codes chunks = chunks + 1
first_segment Flags chunks = 2 * chunks + 1

abbrev pub column_parent : StoredColumn → ℕ → Node
column_parent column number = parent_node kinds.Chunked (column_type column) number (range_with_len (first_chunk column (chunk_count number)) (chunk_count number))

pub column_there : (column : StoredColumn) (number : ℕ) → slice_get (demo_nodes number) (column_node column (chunk_count number)) ≡ Some (column_parent column number)
column_there Ids number = in_ids number 0 (omega arith)
column_there Codes number = in_codes number 0 (chunk_count number + 4) (omega arith) (omega arith)
column_there Flags number = in_flags number 0 (2 * chunk_count number + 5) (omega arith)

pub chunks_there : (column : StoredColumn) (number : ℕ) → AreChunkNodes (demo_nodes number) column number (first_chunk column (chunk_count number)) (first_segment column (chunk_count number))
chunks_there Ids number = are_ids number
chunks_there Codes number = are_codes number
chunks_there Flags number = are_flags number

pub dict_there : (number : ℕ) → slice_get (demo_nodes number) (chunk_count number + 2) ≡ Some (dict_node number (chunk_count number))
dict_there number = in_behind number 0 (chunk_count number + 2) (omega arith)

pub names_there : (number : ℕ) → slice_get (demo_nodes number) (chunk_count number + 3) ≡ Some (flat_node (chunk_count number) name_flat)
names_there number = in_behind number 1 (chunk_count number + 3) (omega arith)

pub node_count : (number : ℕ) → length (demo_nodes number) ≡ 3 * chunk_count number + 6
node_count number =
    let ids = count_nodes Ids number 2 0 in
    let codes_count = count_nodes Codes number (chunk_count number + 5) (chunk_count number + 1) in
    let flags = count_nodes Flags number (2 * chunk_count number + 6) (2 * chunk_count number + 1) in
    let front : length (codes_nodes number ++ flags_nodes number) ≡ length (codes_nodes number) + length (flags_nodes number) = length-append (codes_nodes number) (flags_nodes number) in
    let whole : length (ids_nodes number ++ behind_ids number) ≡ length (ids_nodes number) + length (behind_ids number) = length-append (ids_nodes number) (behind_ids number) in
    omega arith

pub few_nodes : (number : ℕ) → number ≤ 1000000 → length (demo_nodes number) < 1073741824
few_nodes number few = omega (arith, node_count number)

-- which node has a number
pub data NodeAt (chunks n : ℕ) : Type 0 where
  at_root : n ≡ 0 → NodeAt chunks n
  at_column : (column : StoredColumn) → n ≡ column_node column chunks → NodeAt chunks n
  at_chunk : (column : StoredColumn) (place : ℕ) → place < chunks → n ≡ first_chunk column chunks + place → NodeAt chunks n
  at_dict : n ≡ chunks + 2 → NodeAt chunks n
  at_names : n ≡ chunks + 3 → NodeAt chunks n

pub node_at : (chunks n : ℕ) → n < 3 * chunks + 6 → NodeAt chunks n
node_at chunks n lt =
    elim (cases_lt n 1) [
      | inl a ↦ at_root (omega arith)
      | inr a ↦ elim (cases_lt n 2) [
        | inl b ↦ at_column Ids (omega arith)
        | inr b ↦ elim (cases_lt n (chunks + 2)) [
          | inl d ↦ at_chunk Ids (n - 2) (omega arith) (omega arith)
          | inr d ↦ elim (cases_lt n (chunks + 3)) [
            | inl e ↦ at_dict (omega arith)
            | inr e ↦ elim (cases_lt n (chunks + 4)) [
              | inl f ↦ at_names (omega arith)
              | inr f ↦ elim (cases_lt n (chunks + 5)) [
                | inl g ↦ at_column Codes (omega arith)
                | inr g ↦ elim (cases_lt n (2 * chunks + 5)) [
                  | inl h ↦ at_chunk Codes (n - (chunks + 5)) (omega arith) (omega arith)
                  | inr h ↦ elim (cases_lt n (2 * chunks + 6)) [
                    | inl i ↦ at_column Flags (omega arith)
                    | inr i ↦ at_chunk Flags (n - (2 * chunks + 6)) (omega arith) (omega arith)
                  ]
                ]
              ]
            ]
          ]
        ]
      ]
    ]
