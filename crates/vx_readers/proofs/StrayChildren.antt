-- The structs that are not the zones of some data, child by child and node by node.
use Rattle.std.proofs.Common.{◌≡◌, ℕ, ◌+◌, ◌<◌, ◌≤◌, ◌⊎◌, inl, inr, List, Option, Some, None, length, refl, sym, ap, ◌∙◌, subst, arith}
use Rattle.std.specs.Prelude.{IsSomeAnd}
use Rattle.std.specs.List.{slice_get}
use Rattle.std.proofs.lemmas.Bool.{cases_lt}
use Rattle.std.proofs.lemmas.Option.{slice_get_within}
use Rattle.vx_layout.specs.Nodes.{Node}
use Rattle.vx_layout.specs.Shape.{IsGoodTree}
use Rattle.vx_reads.specs.Readable.{HasZones, IsZones}
use Rattle.vx_readers.specs.StrayStructs.{AreZonesAt, AreZonesIn, IsChildAt, IsStray, IsStructAt, IsStructKind}
use Rattle.vx_readers.proofs.OneParent.{has_parent, later_child, only_parent}

-- ---- what a node is, by what is there

pub struct_at : (nodes : List Node) (n : ℕ) (node : Node) → slice_get nodes n ≡ Some node → IsStructKind node.kind → IsStructAt nodes n
struct_at nodes n node at is = subst (λ (o : Option Node). IsSomeAnd o (λ node. IsStructKind node.kind)) (sym at) is

pub no_struct_at : (nodes : List Node) (n : ℕ) (node : Node) → slice_get nodes n ≡ Some node → (IsStructKind node.kind → ⊥) → IsStructAt nodes n → ⊥
no_struct_at nodes n node at isnt is = isnt (subst (λ (o : Option Node). IsSomeAnd o (λ node. IsStructKind node.kind)) at is)

pub zones_at : (nodes : List Node) (n place : ℕ) (node : Node) → slice_get nodes n ≡ Some node → AreZonesIn node.kind place → AreZonesAt nodes n place
zones_at nodes n place node at are = subst (λ (o : Option Node). IsSomeAnd o (λ node. AreZonesIn node.kind place)) (sym at) are

pub no_zones_at : (nodes : List Node) (n place : ℕ) (node : Node) → slice_get nodes n ≡ Some node → (AreZonesIn node.kind place → ⊥) → AreZonesAt nodes n place → ⊥
no_zones_at nodes n place node at arent are = arent (subst (λ (o : Option Node). IsSomeAnd o (λ node. AreZonesIn node.kind place)) at are)

pub child_at_place : (nodes : List Node) (n place child : ℕ) (node : Node) → slice_get nodes n ≡ Some node → slice_get node.children place ≡ Some child → IsChildAt nodes n place child
child_at_place nodes n place child node at there = subst (λ (o : Option Node). IsSomeAnd o (λ node. slice_get node.children place ≡ Some child)) (sym at) there

same_child : (nodes : List Node) (n place one other : ℕ) → IsChildAt nodes n place one → IsChildAt nodes n place other → one ≡ other
same_child nodes n place one other first second = by (slice_get nodes n) first second
  where
    by : (o : Option Node) → IsSomeAnd o (λ node. slice_get node.children place ≡ Some one) → IsSomeAnd o (λ node. slice_get node.children place ≡ Some other) → one ≡ other
    by None first second = absurd first
    by (Some node) first second = cc

-- ---- one child after another

-- no struct among the first of the children, and lower than the number, is another thing than zones
abbrev pub NoneAmong : List Node → ℕ → ℕ → ℕ → Type 0
NoneAmong nodes node places least = (place child : ℕ) → place < places → IsChildAt nodes node place child → child < least → IsStructAt nodes child → AreZonesAt nodes node place

pub none_more : (nodes : List Node) (node place there least result : ℕ) → IsChildAt nodes node place there → result ≤ least → (there < result → IsStructAt nodes there → AreZonesAt nodes node place) → NoneAmong nodes node place least → NoneAmong nodes node (place + 1) result
none_more nodes node place there least result child most none before other c lt is low struct_ = by (cases_lt other place)
  where
    by : (other < place) ⊎ (place ≤ other) → AreZonesAt nodes node other
    by (inl less) = before other c less is (omega (arith, low, most)) struct_
    by (inr more) =
        let same : other ≡ place = omega (arith, lt, more) in
        let here : IsChildAt nodes node place c = subst (λ (k : ℕ). IsChildAt nodes node k c) same is in
        let named : c ≡ there = same_child nodes node place c there here child in
        let lower : there < result = omega (arith, low, named) in
        subst (AreZonesAt nodes node) (sym same) (none lower (subst (IsStructAt nodes) named struct_))

pub stray_more : (nodes : List Node) (lowest least result : ℕ) → result ≤ least → (result < least → IsStray nodes result) → (least < lowest → IsStray nodes least) → result < lowest → IsStray nodes result
stray_more nodes lowest least result most now before low = by (cases_lt result least)
  where
    by : (result < least) ⊎ (least ≤ result) → IsStray nodes result
    by (inl less) = now less
    by (inr more) =
        let same : least ≡ result = omega (arith, most, more) in
        subst (IsStray nodes) same (before (omega (arith, low, same)))

pub none_all : (nodes : List Node) (node places least : ℕ) (o : Option Node) → slice_get nodes node ≡ o → IsSomeAnd o (λ n. length n.children ≤ places) → NoneAmong nodes node places least → (place child : ℕ) → IsChildAt nodes node place child → child < least → IsStructAt nodes child → AreZonesAt nodes node place
none_all nodes node places least o at many none place child is low struct_ = none place child (inside o at many) is low struct_
  where
    inside : (o : Option Node) → slice_get nodes node ≡ o → IsSomeAnd o (λ n. length n.children ≤ places) → place < places
    inside None at many = absurd many
    inside (Some n) at many =
        let there : slice_get n.children place ≡ Some child = subst (λ (o : Option Node). IsSomeAnd o (λ n. slice_get n.children place ≡ Some child)) at is in
        let within : place < length n.children = slice_get_within n.children place child there in
        omega (arith, within, many)

-- ---- one node after another

-- the same of all children of the first nodes
abbrev pub NoneBelow : List Node → ℕ → ℕ → Type 0
NoneBelow nodes count lowest = (node place child : ℕ) → node < count → IsChildAt nodes node place child → child < lowest → IsStructAt nodes child → AreZonesAt nodes node place

pub none_first : (nodes : List Node) (lowest : ℕ) → NoneBelow nodes 0 lowest
none_first nodes lowest node place child lt is low struct_ = absurd (omega (arith, lt))

pub none_below : (nodes : List Node) (node lowest result : ℕ) → result ≤ lowest → ((place child : ℕ) → IsChildAt nodes node place child → child < result → IsStructAt nodes child → AreZonesAt nodes node place) → NoneBelow nodes node lowest → NoneBelow nodes (node + 1) result
none_below nodes node lowest result most now before other place child lt is low struct_ = by (cases_lt other node)
  where
    by : (other < node) ⊎ (node ≤ other) → AreZonesAt nodes other place
    by (inl less) = before other place child less is (omega (arith, low, most)) struct_
    by (inr more) =
        let same : node ≡ other = omega (arith, lt, more) in
        subst (λ (n : ℕ). AreZonesAt nodes n place) same (now place child (subst (λ (n : ℕ). IsChildAt nodes n place child) (sym same) is) low struct_)

-- ---- zones are structs that are no strays

zones_by : (nodes : List Node) (n p i : ℕ) → IsChildAt nodes p i n → AreZonesAt nodes p i → IsZones nodes n
zones_by nodes n p i child are = (p, by (slice_get nodes p) child are)
  where
    by : (o : Option Node) → IsSomeAnd o (λ node. slice_get node.children i ≡ Some n) → IsSomeAnd o (λ node. AreZonesIn node.kind i) → IsSomeAnd o (HasZones n)
    by None child are = absurd child
    by (Some node) child are = (are.1, ap (slice_get node.children) (sym are.0) ∙ child)

zones_child : (nodes : List Node) (n : ℕ) → (zones : IsZones nodes n) → IsChildAt nodes zones.0 1 n × AreZonesAt nodes zones.0 1
zones_child nodes n zones = by (slice_get nodes zones.0) zones.1
  where
    by : (o : Option Node) → IsSomeAnd o (HasZones n) → IsSomeAnd o (λ node. slice_get node.children 1 ≡ Some n) × IsSomeAnd o (λ node. AreZonesIn node.kind 1)
    by None has = absurd has
    by (Some node) has = (has.1, (refl, has.0))

-- the root is none
pub root_no_zones : (nodes : List Node) → IsGoodTree nodes → IsZones nodes 0 → ⊥
root_no_zones nodes good zones =
    let child = zones_child nodes 0 zones in
    let later = later_child nodes good zones.0 1 0 child.0 in
    omega (arith, later.1)

stray_no_zones : (nodes : List Node) → IsGoodTree nodes → (n : ℕ) → IsStray nodes n → IsZones nodes n → ⊥
stray_no_zones nodes good n stray zones =
    let child = zones_child nodes n zones in
    let same = only_parent nodes good zones.0 1 stray.parent stray.place n child.0 stray.child in
    stray.no_zones (subst (λ (i : ℕ). AreZonesAt nodes stray.parent i) same.1 (subst (λ (p : ℕ). AreZonesAt nodes p 1) same.0 child.1))

pub stray_is : (nodes : List Node) → IsGoodTree nodes → (n : ℕ) → IsStray nodes n → IsStructAt nodes n × (IsZones nodes n → ⊥)
stray_is nodes good n stray = (stray.struct_, stray_no_zones nodes good n stray)

-- a struct that is lower than all strays is zones
pub struct_zones : (nodes : List Node) (root : Node) (count lowest : ℕ) → IsGoodTree nodes → slice_get nodes 0 ≡ Some root → (IsStructKind root.kind → ⊥) → length nodes ≤ count → lowest ≤ length nodes → NoneBelow nodes count lowest → (n : ℕ) → n < lowest → IsStructAt nodes n → IsZones nodes n
struct_zones nodes root count lowest good at isnt all inside none n low struct_ = by (cases_lt 0 n)
  where
    by : (0 < n) ⊎ (n ≤ 0) → IsZones nodes n
    by (inl some) =
        let parent = has_parent nodes good n some (omega (arith, low, inside)) in
        let later = later_child nodes good parent.0 parent.1 n parent.2 in
        zones_by nodes n parent.0 parent.1 parent.2 (none parent.0 parent.1 n (omega (arith, later.0, all)) parent.2 low struct_)
    by (inr zero_) =
        let same : n ≡ 0 = omega (arith, zero_) in
        absurd (no_struct_at nodes 0 root at isnt (subst (IsStructAt nodes) same struct_))

-- the root, where it is a struct
pub root_stray : (nodes : List Node) (root : Node) → IsGoodTree nodes → slice_get nodes 0 ≡ Some root → IsStructKind root.kind → IsStructAt nodes 0 × (IsZones nodes 0 → ⊥)
root_stray nodes root good at is = (struct_at nodes 0 root at is, root_no_zones nodes good)
