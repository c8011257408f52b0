-- How many flat nodes stand in front of a node.
use Rattle.std.proofs.Common.{◌≡◌, ℕ, zero, suc, ◌+◌, ◌<◌, ◌≤◌, Bool, true, false, cond, List, [], ◌∷◌, Some, length, take, ap, arith, add-one}
use Rattle.std.specs.List.{filter, slice_get}
use Rattle.std.proofs.lemmas.List.{take_all}
use Rattle.vx_base.specs.declared.codings.Coding.{Coding}
use Rattle.vx_layout.specs.declared.nodes.LayoutKind.{LayoutKind}
use Rattle.vx_layout.specs.declared.nodes.LayoutKind.TheVariants as kinds
use Rattle.vx_layout.specs.Nodes.{Node}
use Rattle.vx_layout.specs.Migrations.{is_flat, is_flat_kind, flat_count, flats_before}

-- one where the node is flat
abbrev pub flat_one : Node → ℕ
flat_one node = cond (is_flat node) 1 0

count_front : (b : Bool) (node : Node) (nodes : List Node) → length (cond b (node ∷ nodes) nodes) ≡ cond b 1 0 + length nodes
count_front true node nodes = omega arith
count_front false node nodes = omega arith

count_cons : (node : Node) (nodes : List Node) → flat_count (node ∷ nodes) ≡ flat_one node + flat_count nodes
count_cons node nodes = count_front (is_flat node) node (filter is_flat nodes)

next_by : (nodes : List Node) (n : ℕ) (node : Node) → slice_get nodes n ≡ Some node → flat_count (take (suc n) nodes) ≡ flat_count (take n nodes) + flat_one node
next_by [] n node at = absurd cc
next_by (first ∷ nodes) zero node at =
    let same : first ≡ node = cc in
    omega (arith, count_cons first [], ap flat_one same)
next_by (first ∷ nodes) (suc n) node at =
    omega (arith, count_cons first (take (suc n) nodes), count_cons first (take n nodes), next_by nodes n node at)

pub flats_next : (nodes : List Node) (n : ℕ) (node : Node) → slice_get nodes n ≡ Some node → flats_before nodes (n + 1) ≡ flats_before nodes n + flat_one node
flats_next nodes n node at = rw add-one (next_by nodes n node at)

-- ---- flat, or not

pub flat_is : (kind : LayoutKind) (segment : ℕ) (old : Coding) → kind ≡ kinds.Flat segment old → is_flat_kind kind ≡ true
flat_is kind segment old e = ap is_flat_kind e

pub flat_one_is : (node : Node) (segment : ℕ) (old : Coding) → node.kind ≡ kinds.Flat segment old → flat_one node ≡ 1
flat_one_is node segment old e = ap (λ (b : Bool). cond b 1 0) (flat_is node.kind segment old e)

pub not_flat_one : (node : Node) → is_flat node ≡ false → flat_one node ≡ 0
not_flat_one node e = ap (λ (b : Bool). cond b 1 0) e

-- ---- no fewer further on

pub flats_grow : (nodes : List Node) (m n : ℕ) → m ≤ n → flats_before nodes m ≤ flats_before nodes n
flats_grow nodes zero n le = omega arith
flats_grow [] (suc m) zero le = absurd (omega arith)
flats_grow [] (suc m) (suc n) le = omega arith
flats_grow (first ∷ nodes) (suc m) zero le = absurd (omega arith)
flats_grow (first ∷ nodes) (suc m) (suc n) le =
    omega (arith, count_cons first (take m nodes), count_cons first (take n nodes), flats_grow nodes m n (omega arith))

-- the flat nodes in front of a later node are more by this one
pub flats_more : (nodes : List Node) (m n segment : ℕ) (node : Node) (old : Coding) → slice_get nodes m ≡ Some node → node.kind ≡ kinds.Flat segment old → m < n → flats_before nodes m < flats_before nodes n
flats_more nodes m n segment node old at flat lt =
    omega (arith, flats_next nodes m node at, flat_one_is node segment old flat, flats_grow nodes (m + 1) n (omega arith))

pub flats_all : (nodes : List Node) (n : ℕ) → length nodes ≤ n → flats_before nodes n ≡ flat_count nodes
flats_all nodes n le = ap flat_count (take_all n nodes le)

-- the place of a flat node is one of the flat nodes'
pub flat_within : (nodes : List Node) (n segment : ℕ) (node : Node) (old : Coding) → slice_get nodes n ≡ Some node → node.kind ≡ kinds.Flat segment old → n < length nodes → flats_before nodes n < flat_count nodes
flat_within nodes n segment node old at flat lt =
    omega (arith, flats_more nodes n (length nodes) segment node old at flat lt, flats_all nodes (length nodes) (omega arith))

-- there are no more flat nodes than nodes
pub flats_few : (nodes : List Node) → flat_count nodes ≤ length nodes
flats_few [] = omega arith
flats_few (first ∷ nodes) =
    let most : flat_one first ≤ 1 = elim (is_flat first) as (λ b. cond b 1 0 ≤ 1) [ true ↦ omega arith | false ↦ omega arith ] in
    omega (arith, count_cons first nodes, flats_few nodes, most)
