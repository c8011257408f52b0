-- No node of the demo file lies deep.
use Rattle.std.proofs.Common.{◌≡◌, ◌⊎◌, ⊎_elim, ℕ, zero, suc, ◌+◌, ◌*◌, ◌==◌, ◌<◌, ◌≤◌, Bool, true, false, List, [], ◌∷◌, Option, Some, None, length, take, inl, inr, refl, sym, subst, arith}
use Rattle.std.specs.Prelude.{if◌then◌else◌}
use Rattle.std.specs.List.{list_any, range_with_len, slice_get}
use Rattle.std.specs.Option.{option_map_or}
use Rattle.std.proofs.lemmas.Bool.{cases_lt, eqb-true, or_cases}
use Rattle.std.proofs.lemmas.Option.{slice_get_past}
use Rattle.vx_layout.specs.Depths.{depth_of, depth_within, parent_from, parent_of}
use Rattle.vx_layout.specs.Nodes.{Node}
use Rattle.scan_demo.specs.declared.stored_columns.StoredColumn.{StoredColumn}
use Rattle.scan_demo.specs.declared.stored_columns.StoredColumn.TheVariants.{Ids, Codes, Flags}
use Rattle.scan_demo.specs.DemoNodes.{demo_nodes}
use Rattle.scan_demo.specs.Flats.{chunk_count}
use Rattle.scan_demo.proofs.NodePlaces.{NodeAt, at_chunk, at_column, at_dict, at_names, at_root, chunks_there, column_node, column_there, dict_there, first_chunk, names_there, node_at, node_count}

-- ---- parents have their children

abbrev children_at : List Node → ℕ → List ℕ
children_at nodes place = option_map_or (λ (node : Node). node.children) (slice_get nodes place) []

abbrev HasChild : List Node → ℕ → ℕ → Type 0
HasChild nodes place child = list_any (λ number. number == child) (children_at nodes place) ≡ true

record Parent (nodes : List Node) (at child parent : ℕ) : Type 0 where
  place : ℕ
  is : parent ≡ at + place
  has : HasChild nodes place child

next_place : (node : Node) (nodes : List Node) (at child parent : ℕ) → Parent nodes (at + 1) child parent → Parent (node ∷ nodes) at child parent
next_place node nodes at child parent found = record { place = suc found.place; is = omega (arith, found.is); has = found.has }

either_parent : (at : ℕ) (node : Node) (nodes : List Node) (child parent : ℕ) (here : Bool) → list_any (λ number. number == child) node.children ≡ here
    → (parent_from (at + 1) nodes child ≡ Some parent → Parent nodes (at + 1) child parent)
    → (if here then Some at else parent_from (at + 1) nodes child) ≡ Some parent → Parent (node ∷ nodes) at child parent
either_parent at node nodes child parent true has later e = let same : at ≡ parent = cc in record { place = 0; is = omega arith; has = has }
either_parent at node nodes child parent false has later e = next_place node nodes at child parent (later e)

found_parent : (at : ℕ) (nodes : List Node) (child parent : ℕ) → parent_from at nodes child ≡ Some parent → Parent nodes at child parent
found_parent at [] child parent e = absurd cc
found_parent at (node ∷ nodes) child parent e =
    either_parent at node nodes child parent (list_any (λ number. number == child) node.children) refl (λ later. found_parent (at + 1) nodes child parent later) e

has_before : (count : ℕ) (nodes : List Node) (place child : ℕ) → HasChild (take count nodes) place child → HasChild nodes place child
has_before zero nodes place child has = absurd cc
has_before (suc count) [] place child has = absurd cc
has_before (suc count) (node ∷ nodes) zero child has = has
has_before (suc count) (node ∷ nodes) (suc place) child has = has_before count nodes place child has

has_of : (nodes : List Node) (place child : ℕ) (node : Node) → slice_get nodes place ≡ Some node → HasChild nodes place child → list_any (λ number. number == child) node.children ≡ true
has_of nodes place child node at has = subst (λ (found : Option Node). list_any (λ number. number == child) (option_map_or (λ (node : Node). node.children) found []) ≡ true) at has

has_none : (nodes : List Node) (place child : ℕ) → length nodes ≤ place → HasChild nodes place child → ⊥
has_none nodes place child past has =
    let none : list_any (λ number. number == child) [] ≡ true =
    subst (λ (found : Option Node). list_any (λ number. number == child) (option_map_or (λ (node : Node). node.children) found []) ≡ true) (slice_get_past nodes place past) has in
    absurd cc

-- ---- the parents of the demo file

any_in_range : (n from count : ℕ) → list_any (λ number. number == n) (range_with_len from count) ≡ true → (from ≤ n) × (n < from + count)
any_in_range n from zero any = absurd cc
any_in_range n from (suc count) any =
    ⊎_elim (λ here. let same : from ≡ n = eqb-true from n here in (omega arith, omega arith))
    (λ later. let more : (from + 1 ≤ n) × (n < from + 1 + count) = any_in_range n (from + 1) count later in (omega (arith, more.0), omega (arith, more.1)))
    (or_cases (from == n) (list_any (λ number. number == n) (range_with_len (from + 1) count)) any)

any_of_two : (n a b : ℕ) → list_any (λ number. number == n) (a ∷ b ∷ []) ≡ true → (a ≡ n) ⊎ (b ≡ n)
any_of_two n a b any =
    ⊎_elim (λ here. inl (eqb-true a n here))
    (λ later. ⊎_elim (λ here. inr (eqb-true b n here)) (λ never. absurd cc) (or_cases (b == n) false later))
    (or_cases (a == n) (list_any (λ number. number == n) (b ∷ [])) any)

abbrev IsTop : ℕ → ℕ → Type 0
IsTop chunks n = (1 ≡ n) ⊎ ((chunks + 2 ≡ n) ⊎ (2 * chunks + 5 ≡ n))

any_top : (n a b d : ℕ) → list_any (λ number. number == n) (a ∷ b ∷ d ∷ []) ≡ true → (a ≡ n) ⊎ ((b ≡ n) ⊎ (d ≡ n))
any_top n a b d any = ⊎_elim (λ here. inl (eqb-true a n here)) (λ later. inr (any_of_two n b d later)) (or_cases (a == n) (list_any (λ number. number == n) (b ∷ d ∷ [])) any)

-- a node and its parent
data ParentOf (chunks n parent : ℕ) : Type 0 where
  by_root : parent ≡ 0 → IsTop chunks n → ParentOf chunks n parent
  by_column : (column : StoredColumn) → parent ≡ column_node column chunks → first_chunk column chunks ≤ n → n < first_chunk column chunks + chunks → ParentOf chunks n parent
  by_dict : parent ≡ chunks + 2 → chunks + 3 ≤ n → n ≤ chunks + 4 → ParentOf chunks n parent

parent_at : (number n parent : ℕ) → NodeAt (chunk_count number) parent → HasChild (demo_nodes number) parent n → ParentOf (chunk_count number) n parent
parent_at number n parent (at_root e) has =
    let here : HasChild (demo_nodes number) 0 n = subst (λ (k : ℕ). HasChild (demo_nodes number) k n) e has in
    by_root e (any_top n 1 (chunk_count number + 2) (2 * chunk_count number + 5) here)
parent_at number n parent (at_column column e) has =
    let here : HasChild (demo_nodes number) (column_node column (chunk_count number)) n = subst (λ (k : ℕ). HasChild (demo_nodes number) k n) e has in
    let inside = any_in_range n (first_chunk column (chunk_count number)) (chunk_count number) (has_of (demo_nodes number) (column_node column (chunk_count number)) n _ (column_there column number) here) in
    by_column column e inside.0 inside.1
parent_at number n parent (at_chunk column place lt e) has =
    let here : HasChild (demo_nodes number) (first_chunk column (chunk_count number) + place) n = subst (λ (k : ℕ). HasChild (demo_nodes number) k n) e has in
    let none : false ≡ true = has_of (demo_nodes number) (first_chunk column (chunk_count number) + place) n _ (chunks_there column number place lt) here in
    absurd cc
parent_at number n parent (at_dict e) has =
    let here : HasChild (demo_nodes number) (chunk_count number + 2) n = subst (λ (k : ℕ). HasChild (demo_nodes number) k n) e has in
    let one = any_of_two n (chunk_count number + 3) (chunk_count number + 4) (has_of (demo_nodes number) (chunk_count number + 2) n _ (dict_there number) here) in
    ⊎_elim (λ first. by_dict e (omega arith) (omega arith)) (λ second. by_dict e (omega arith) (omega arith)) one
parent_at number n parent (at_names e) has =
    let here : HasChild (demo_nodes number) (chunk_count number + 3) n = subst (λ (k : ℕ). HasChild (demo_nodes number) k n) e has in
    let none : false ≡ true = has_of (demo_nodes number) (chunk_count number + 3) n _ (names_there number) here in
    absurd cc

parent_kind : (number n parent : ℕ) → HasChild (demo_nodes number) parent n → ParentOf (chunk_count number) n parent
parent_kind number n parent has =
    ⊎_elim (λ inside. parent_at number n parent (node_at (chunk_count number) parent inside) has)
    (λ past. absurd (has_none (demo_nodes number) parent n (omega (arith, node_count number)) has))
    (cases_lt parent (3 * chunk_count number + 6))

parent_is : (number n parent : ℕ) → parent_of (demo_nodes number) n ≡ Some parent → ParentOf (chunk_count number) n parent
parent_is number n parent e =
    let found = found_parent 0 (take n (demo_nodes number)) n parent e in
    let same : found.place ≡ parent = omega (arith, found.is) in
    parent_kind number n parent (subst (λ (k : ℕ). HasChild (demo_nodes number) k n) same (has_before n (demo_nodes number) found.place n found.has))

-- ---- depths

bounded : (depth_at : ℕ → ℕ) (d : ℕ) (parent : Option ℕ) → ((p : ℕ) → parent ≡ Some p → depth_at p ≤ d) → option_map_or (λ p. depth_at p + 1) parent 1 ≤ d + 1
bounded depth_at d None below = omega arith
bounded depth_at d (Some p) below = omega (arith, below p refl)

depth_step : (nodes : List Node) (n d : ℕ) → ((parent : ℕ) → parent_of nodes n ≡ Some parent → (steps : ℕ) → depth_within steps nodes parent ≤ d) → (steps : ℕ) → depth_within steps nodes n ≤ d + 1
unfolding depth_within
depth_step nodes n d below zero = omega arith
depth_step nodes n d below (suc steps) = bounded (λ p. depth_within steps nodes p) d (parent_of nodes n) (λ p e. below p e steps)

no_parent : (chunks parent : ℕ) → ParentOf chunks 0 parent → ⊥
no_parent chunks parent (by_root e top) = ⊎_elim (λ a. omega arith) (λ more. ⊎_elim (λ b. omega arith) (λ d. omega arith) more) top
no_parent chunks parent (by_column Ids e low high) = omega arith
no_parent chunks parent (by_column Codes e low high) = omega arith
no_parent chunks parent (by_column Flags e low high) = omega arith
no_parent chunks parent (by_dict e low high) = omega arith

-- above the top there is only the root
root_above : (chunks n parent : ℕ) → IsTop chunks n → ParentOf chunks n parent → parent ≡ 0
root_above chunks n parent top (by_root e is) = e
root_above chunks n parent top (by_column Ids e low high) = absurd (⊎_elim (λ a. omega arith) (λ more. ⊎_elim (λ b. omega arith) (λ d. omega arith) more) top)
root_above chunks n parent top (by_column Codes e low high) = absurd (⊎_elim (λ a. omega arith) (λ more. ⊎_elim (λ b. omega arith) (λ d. omega arith) more) top)
root_above chunks n parent top (by_column Flags e low high) = absurd (⊎_elim (λ a. omega arith) (λ more. ⊎_elim (λ b. omega arith) (λ d. omega arith) more) top)
root_above chunks n parent top (by_dict e low high) = absurd (⊎_elim (λ a. omega arith) (λ more. ⊎_elim (λ b. omega arith) (λ d. omega arith) more) top)

-- above the codes there is only the dictionary
dict_above : (chunks parent : ℕ) → ParentOf chunks (chunks + 4) parent → parent ≡ chunks + 2
dict_above chunks parent (by_root e top) = absurd (⊎_elim (λ a. omega arith) (λ more. ⊎_elim (λ b. omega arith) (λ d. omega arith) more) top)
dict_above chunks parent (by_column Ids e low high) = absurd (omega arith)
dict_above chunks parent (by_column Codes e low high) = absurd (omega arith)
dict_above chunks parent (by_column Flags e low high) = absurd (omega arith)
dict_above chunks parent (by_dict e low high) = e

abbrev DepthWithin : ℕ → ℕ → ℕ → Type 0
DepthWithin number n d = (steps : ℕ) → depth_within steps (demo_nodes number) n ≤ d

root_depth : (number : ℕ) → DepthWithin number 0 1
root_depth number = depth_step (demo_nodes number) 0 0 (λ parent e steps. absurd (no_parent (chunk_count number) parent (parent_is number 0 parent e)))

top_depth : (number n : ℕ) → IsTop (chunk_count number) n → DepthWithin number n 2
top_depth number n top =
    depth_step (demo_nodes number) n 1 (λ parent e steps.
    subst (λ (p : ℕ). depth_within steps (demo_nodes number) p ≤ 1) (sym (root_above (chunk_count number) n parent top (parent_is number n parent e))) (root_depth number steps))

codes_depth : (number : ℕ) → DepthWithin number (chunk_count number + 4) 3
codes_depth number =
    depth_step (demo_nodes number) (chunk_count number + 4) 2 (λ parent e steps.
    subst (λ (p : ℕ). depth_within steps (demo_nodes number) p ≤ 2) (sym (dict_above (chunk_count number) parent (parent_is number (chunk_count number + 4) parent e)))
    (top_depth number (chunk_count number + 2) (inr (inl refl)) steps))

parent_depth : (number n parent : ℕ) → ParentOf (chunk_count number) n parent → DepthWithin number parent 3
parent_depth number n parent (by_root e top) steps = subst (λ (p : ℕ). depth_within steps (demo_nodes number) p ≤ 3) (sym e) (omega (arith, root_depth number steps))
parent_depth number n parent (by_column Ids e low high) steps = subst (λ (p : ℕ). depth_within steps (demo_nodes number) p ≤ 3) (sym e) (omega (arith, top_depth number 1 (inl refl) steps))
parent_depth number n parent (by_column Codes e low high) steps = subst (λ (p : ℕ). depth_within steps (demo_nodes number) p ≤ 3) (sym e) (codes_depth number steps)
parent_depth number n parent (by_column Flags e low high) steps =
    subst (λ (p : ℕ). depth_within steps (demo_nodes number) p ≤ 3) (sym e) (omega (arith, top_depth number (2 * chunk_count number + 5) (inr (inr refl)) steps))
parent_depth number n parent (by_dict e low high) steps =
    subst (λ (p : ℕ). depth_within steps (demo_nodes number) p ≤ 3) (sym e) (omega (arith, top_depth number (chunk_count number + 2) (inr (inl refl)) steps))

pub low_depth : (number n : ℕ) → depth_of (demo_nodes number) n ≤ 4
low_depth number n = depth_step (demo_nodes number) n 3 (λ parent e. parent_depth number n parent (parent_is number n parent e)) n
