-- Each node of the demo file but the root is a child exactly once.
use Rattle.std.proofs.Common.{◌≡◌, ⊎_elim, ℕ, zero, suc, ◌+◌, ◌-◌, ◌*◌, ◌==◌, ◌≢◌, ◌<◌, min, Bool, List, [], ◌∷◌, ◌++◌, map, refl, ap, ap₂, ◌∙◌, arith}
use Rattle.std.specs.Prelude.{count_by}
use Rattle.std.specs.List.{flat_map, range_with_len}
use Rattle.std.proofs.lemmas.Bool.Decides.{eqb_tells}
use Rattle.std.proofs.lemmas.Grind.{flat_map-append}
use Rattle.std.proofs.lemmas.List.{append-nil}
use Rattle.std.proofs.lemmas.List.Sums.{sum_by-append, sum_by-cons}
use Rattle.vx_layout.specs.Children.{times_child}
use Rattle.vx_layout.specs.Nodes.{Node}
use Rattle.scan_demo.specs.declared.stored_columns.StoredColumn.{StoredColumn}
use Rattle.scan_demo.specs.declared.stored_columns.StoredColumn.TheVariants.{Ids, Codes, Flags}
use Rattle.scan_demo.specs.DemoNodes.{chunked_nodes, demo_nodes, flat_node}
use Rattle.scan_demo.specs.Flats.{chunk_count, chunk_flat}
use Rattle.scan_demo.specs.Totals.{one_where}
use Rattle.scan_demo.proofs.NodePlaces.{behind_ids, codes_nodes, flags_nodes, ids_nodes}

-- ---- all children, in order

abbrev children_of : Node → List ℕ
children_of node = node.children

no_children : (column : StoredColumn) (number segment : ℕ) (places : List ℕ) → flat_map children_of (map (λ place. flat_node (segment + place) (chunk_flat column number place)) places) ≡ []
no_children column number segment [] = refl
no_children column number segment (place ∷ places) = no_children column number segment places

column_children : (column : StoredColumn) (number first segment : ℕ) → flat_map children_of (chunked_nodes column number first segment) ≡ range_with_len first (chunk_count number)
column_children column number first segment =
    ap (λ (more : List ℕ). range_with_len first (chunk_count number) ++ more) (no_children column number segment (range_with_len 0 (chunk_count number)))
    ∙ append-nil (range_with_len first (chunk_count number))

abbrev all_children : ℕ → List ℕ
all_children chunks =
    1 ∷ (chunks + 2) ∷ (2 * chunks + 5) ∷ (range_with_len 2 chunks ++ (chunks + 3) ∷ (chunks + 4) ∷ (range_with_len (chunks + 5) chunks ++ range_with_len (2 * chunks + 6) chunks))

children_are : (number : ℕ) → flat_map children_of (demo_nodes number) ≡ all_children (chunk_count number)
children_are number =
    let chunks : ℕ = chunk_count number in
    let behind : flat_map children_of (codes_nodes number ++ flags_nodes number) ≡ range_with_len (chunks + 5) chunks ++ range_with_len (2 * chunks + 6) chunks =
    flat_map-append children_of (codes_nodes number) (flags_nodes number)
    ∙ ap₂ (λ (xs ys : List ℕ). xs ++ ys) (column_children Codes number (chunks + 5) (chunks + 1)) (column_children Flags number (2 * chunks + 6) (2 * chunks + 1)) in
    ap (λ (more : List ℕ). 1 ∷ (chunks + 2) ∷ (2 * chunks + 5) ∷ more)
    (flat_map-append children_of (ids_nodes number) (behind_ids number)
    ∙ ap₂ (λ (xs ys : List ℕ). xs ++ (chunks + 3) ∷ (chunks + 4) ∷ ys) (column_children Ids number 2 0) behind)

-- ---- how often a number stands in ranges

abbrev is_number : ℕ → ℕ → Bool
is_number n child = child == n

-- 1 where the number is no less than the bound
abbrev reached : ℕ → ℕ → ℕ
reached n bound = min 1 (n + 1 - bound)

one_counted : (n x end : ℕ) → end ≡ x + 1 → one_where (is_number n x) + reached n end ≡ reached n x
one_counted n x end follows =
    ⊎_elim
    (λ tells. let is : one_where (x == n) ≡ 1 = ap one_where tells.0 in let e : x ≡ n = tells.1 in omega arith)
    (λ tells. let is : one_where (x == n) ≡ 0 = ap one_where tells.0 in let e : x ≢ n = tells.1 in omega arith)
    (eqb_tells x n)

first_counted : (n x : ℕ) (xs : List ℕ) → count_by (is_number n) (x ∷ xs) ≡ one_where (is_number n x) + count_by (is_number n) xs
first_counted n x xs = sum_by-cons (λ (child : ℕ). one_where (is_number n child)) x xs

both_counted : (n : ℕ) (xs ys : List ℕ) → count_by (is_number n) (xs ++ ys) ≡ count_by (is_number n) xs + count_by (is_number n) ys
both_counted n xs ys = sum_by-append (λ (child : ℕ). one_where (is_number n child)) xs ys

range_counted : (n from count end : ℕ) → end ≡ from + count → count_by (is_number n) (range_with_len from count) + reached n end ≡ reached n from
range_counted n from zero end e = let same : end ≡ from = omega arith in omega (arith, ap (reached n) same)
range_counted n from (suc count) end e =
    let first = first_counted n from (range_with_len (from + 1) count) in
    let here = one_counted n from (from + 1) refl in
    let more = range_counted n (from + 1) count end (omega arith) in
    omega (arith, first, here, more)

pub child_once : (number n : ℕ) → n < 3 * chunk_count number + 5 → times_child (demo_nodes number) (suc n) ≡ 1
child_once number n lt =
    let chunks : ℕ = chunk_count number in
    let k : ℕ = suc n in
    let ids : List ℕ = range_with_len 2 chunks in
    let codes_list : List ℕ = range_with_len (chunks + 5) chunks in
    let flags : List ℕ = range_with_len (2 * chunks + 6) chunks in
    let parts : List ℕ = (chunks + 3) ∷ (chunks + 4) ∷ (codes_list ++ flags) in
    let all_counted : count_by (is_number k) (flat_map children_of (demo_nodes number)) ≡ count_by (is_number k) (all_children chunks) = ap (count_by (is_number k)) (children_are number) in
    let a = first_counted k 1 ((chunks + 2) ∷ (2 * chunks + 5) ∷ (ids ++ parts)) in
    let b = first_counted k (chunks + 2) ((2 * chunks + 5) ∷ (ids ++ parts)) in
    let c = first_counted k (2 * chunks + 5) (ids ++ parts) in
    let d = both_counted k ids parts in
    let e = first_counted k (chunks + 3) ((chunks + 4) ∷ (codes_list ++ flags)) in
    let f = first_counted k (chunks + 4) (codes_list ++ flags) in
    let g = both_counted k codes_list flags in
    let one : one_where (is_number k 1) + reached k 2 ≡ reached k 1 = one_counted k 1 2 (omega arith) in
    let in_ids : count_by (is_number k) ids + reached k (chunks + 2) ≡ reached k 2 = range_counted k 2 chunks (chunks + 2) (omega arith) in
    let dict : one_where (is_number k (chunks + 2)) + reached k (chunks + 3) ≡ reached k (chunks + 2) = one_counted k (chunks + 2) (chunks + 3) (omega arith) in
    let names : one_where (is_number k (chunks + 3)) + reached k (chunks + 4) ≡ reached k (chunks + 3) = one_counted k (chunks + 3) (chunks + 4) (omega arith) in
    let code : one_where (is_number k (chunks + 4)) + reached k (chunks + 5) ≡ reached k (chunks + 4) = one_counted k (chunks + 4) (chunks + 5) (omega arith) in
    let in_codes : count_by (is_number k) codes_list + reached k (2 * chunks + 5) ≡ reached k (chunks + 5) = range_counted k (chunks + 5) chunks (2 * chunks + 5) (omega arith) in
    let flag : one_where (is_number k (2 * chunks + 5)) + reached k (2 * chunks + 6) ≡ reached k (2 * chunks + 5) = one_counted k (2 * chunks + 5) (2 * chunks + 6) (omega arith) in
    let in_flags : count_by (is_number k) flags + reached k (3 * chunks + 6) ≡ reached k (2 * chunks + 6) = range_counted k (2 * chunks + 6) chunks (3 * chunks + 6) (omega arith) in
    let start : reached k 1 ≡ 1 = omega arith in
    let stop : reached k (3 * chunks + 6) ≡ 0 = omega arith in
    all_counted ∙ telescoped
    (one_where (is_number k 1)) (one_where (is_number k (chunks + 2))) (one_where (is_number k (2 * chunks + 5))) (count_by (is_number k) ids) (one_where (is_number k (chunks + 3)))
    (one_where (is_number k (chunks + 4))) (count_by (is_number k) codes_list) (count_by (is_number k) flags)
    (reached k 1) (reached k 2) (reached k (chunks + 2)) (reached k (chunks + 3)) (reached k (chunks + 4)) (reached k (chunks + 5)) (reached k (2 * chunks + 5)) (reached k (2 * chunks + 6)) (reached k (3 * chunks + 6))
    (count_by (is_number k) (all_children chunks))
    one in_ids dict names code in_codes flag in_flags start stop
    (a ∙ ap (λ (m : ℕ). one_where (is_number k 1) + m) (b ∙ ap (λ (m : ℕ). one_where (is_number k (chunks + 2)) + m) (c ∙ ap (λ (m : ℕ). one_where (is_number k (2 * chunks + 5)) + m)
    (d ∙ ap (λ (m : ℕ). count_by (is_number k) ids + m) (e ∙ ap (λ (m : ℕ). one_where (is_number k (chunks + 3)) + m) (f ∙ ap (λ (m : ℕ). one_where (is_number k (chunks + 4)) + m) g))))))
  where
    telescoped : (x1 x2 x3 x4 x5 x6 x7 x8 r1 r2 r3 r4 r5 r6 r7 r8 r9 total : ℕ) → x1 + r2 ≡ r1 → x4 + r3 ≡ r2 → x2 + r4 ≡ r3 → x5 + r5 ≡ r4 → x6 + r6 ≡ r5 → x7 + r7 ≡ r6 → x3 + r8 ≡ r7 → x8 + r9 ≡ r8
        → r1 ≡ 1 → r9 ≡ 0 → total ≡ x1 + (x2 + (x3 + (x4 + (x5 + (x6 + (x7 + x8)))))) → total ≡ 1
    telescoped x1 x2 x3 x4 x5 x6 x7 x8 r1 r2 r3 r4 r5 r6 r7 r8 r9 total a b c d e f g h i j k = omega arith
