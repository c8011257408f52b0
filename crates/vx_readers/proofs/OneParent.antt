-- Each node but the root is the child of one node, at one place, and of a lower one.
use Rattle.std.proofs.Common.{◌≡◌, ℕ, zero, suc, ◌+◌, ◌<◌, ◌≤◌, ◌⊎◌, inl, inr, Bool, true, false, cond, List, [], ◌∷◌, Option, Some, None, length, get_or, refl, ap, subst, arith}
use Rattle.std.specs.Prelude.{◌==◌, All, IsSomeAnd}
use Rattle.std.specs.List.{count_by, flat_map, slice_get}
use Rattle.std.proofs.lemmas.Bool.{cases_lt, eq-eqb, eqb-true}
use Rattle.std.proofs.lemmas.List.Sums.{sum_by-append, sum_by-cons}
use Rattle.std.proofs.lemmas.Option.{get_or_from_slice_get, slice_get_within}
use Rattle.vx_layout.specs.declared.rules.ShapeRule.TheVariants.{ChildOnce, LaterChildren}
use Rattle.vx_layout.specs.Children.{times_child}
use Rattle.vx_layout.specs.Nodes.{Node}
use Rattle.vx_layout.specs.Shape.{HasLaterChildren, IsChildOnce, IsGoodTree, IsLater}
use Rattle.vx_readers.specs.StrayStructs.{IsChildAt}

-- ---- a number in a list

abbrev times : ℕ → List ℕ → ℕ
times c xs = count_by (λ x. x == c) xs

abbrev times_here : ℕ → ℕ → ℕ
times_here c x = cond (x == c) 1 0

times_cons : (c x : ℕ) (xs : List ℕ) → times c (x ∷ xs) ≡ times_here c x + times c xs
times_cons c x xs = sum_by-cons (λ y. cond (y == c) 1 0) x xs

here_once : (c x : ℕ) → x ≡ c → times_here c x ≡ 1
here_once c x same = ap (λ (b : Bool). cond b 1 0) (eq-eqb x c same)

times_at : (c : ℕ) (xs : List ℕ) (i : ℕ) → slice_get xs i ≡ Some c → 1 ≤ times c xs
times_at c [] i at = absurd cc
times_at c (x ∷ xs) zero at =
    let same : x ≡ c = cc in
    let one = here_once c x same in
    let both = times_cons c x xs in
    omega (arith, one, both)
times_at c (x ∷ xs) (suc i) at =
    let later = times_at c xs i at in
    let both = times_cons c x xs in
    omega (arith, later, both)

one_place : (c : ℕ) (xs : List ℕ) (i j : ℕ) → slice_get xs i ≡ Some c → slice_get xs j ≡ Some c → times c xs ≤ 1 → i ≡ j
one_place c [] i j at other few = absurd cc
one_place c (x ∷ xs) zero zero at other few = refl
one_place c (x ∷ xs) zero (suc j) at other few =
    let same : x ≡ c = cc in
    let one = here_once c x same in
    let later = times_at c xs j other in
    let both = times_cons c x xs in
    absurd (omega (arith, one, later, both, few))
one_place c (x ∷ xs) (suc i) zero at other few =
    let same : x ≡ c = cc in
    let one = here_once c x same in
    let later = times_at c xs i at in
    let both = times_cons c x xs in
    absurd (omega (arith, one, later, both, few))
one_place c (x ∷ xs) (suc i) (suc j) at other few =
    let both = times_cons c x xs in
    ap suc (one_place c xs i j at other (omega (arith, both, few)))

found_here : (c x : ℕ) (xs : List ℕ) (b : Bool) → (x == c) ≡ b → 1 ≤ times c (x ∷ xs) → (1 ≤ times c xs → (i : ℕ) × (slice_get xs i ≡ Some c)) → (i : ℕ) × (slice_get (x ∷ xs) i ≡ Some c)
found_here c x xs true is some later = (zero, ap Some (eqb-true x c is))
found_here c x xs false is some later =
    let both = times_cons c x xs in
    let none : times_here c x ≡ 0 = ap (λ (b : Bool). cond b 1 0) is in
    let found = later (omega (arith, both, none, some)) in
    (suc found.0, found.1)

found_at : (c : ℕ) (xs : List ℕ) → 1 ≤ times c xs → (i : ℕ) × (slice_get xs i ≡ Some c)
found_at c [] some = absurd (omega (arith, some))
found_at c (x ∷ xs) some = found_here c x xs (x == c) refl some (found_at c xs)

-- ---- a child

times_in : (c : ℕ) (node : Node) (nodes : List Node) → times_child (node ∷ nodes) c ≡ times c node.children + times_child nodes c
times_in c node nodes = sum_by-append (λ x. cond (x == c) 1 0) node.children (flat_map (λ (n : Node). n.children) nodes)

child_times : (nodes : List Node) (p i c : ℕ) → IsChildAt nodes p i c → 1 ≤ times_child nodes c
child_times [] p i c child = absurd child
child_times (node ∷ nodes) zero i c child =
    let here = times_at c node.children i child in
    let both = times_in c node nodes in
    omega (arith, here, both)
child_times (node ∷ nodes) (suc p) i c child =
    let later = child_times nodes p i c child in
    let both = times_in c node nodes in
    omega (arith, later, both)

one_parent : (nodes : List Node) (p i q j c : ℕ) → IsChildAt nodes p i c → IsChildAt nodes q j c → times_child nodes c ≤ 1 → (p ≡ q) × (i ≡ j)
one_parent [] p i q j c child other few = absurd child
one_parent (node ∷ nodes) zero i zero j c child other few =
    let both = times_in c node nodes in
    (refl, one_place c node.children i j child other (omega (arith, both, few)))
one_parent (node ∷ nodes) zero i (suc q) j c child other few =
    let here = times_at c node.children i child in
    let later = child_times nodes q j c other in
    let both = times_in c node nodes in
    absurd (omega (arith, here, later, both, few))
one_parent (node ∷ nodes) (suc p) i zero j c child other few =
    let here = times_at c node.children j other in
    let later = child_times nodes p i c child in
    let both = times_in c node nodes in
    absurd (omega (arith, here, later, both, few))
one_parent (node ∷ nodes) (suc p) i (suc q) j c child other few =
    let both = times_in c node nodes in
    let rest = one_parent nodes p i q j c child other (omega (arith, both, few)) in
    (ap suc rest.0, rest.1)

parent_here : (node : Node) (nodes : List Node) (c : ℕ) → (0 < times c node.children) ⊎ (times c node.children ≤ 0) → 1 ≤ times_child (node ∷ nodes) c → (1 ≤ times_child nodes c → (p : ℕ) × (i : ℕ) × IsChildAt nodes p i c) → (p : ℕ) × (i : ℕ) × IsChildAt (node ∷ nodes) p i c
parent_here node nodes c (inl more) some later = let here = found_at c node.children (omega (arith, more)) in (zero, here.0, here.1)
parent_here node nodes c (inr none) some later =
    let both = times_in c node nodes in
    let found = later (omega (arith, both, none, some)) in
    (suc found.0, found.1, found.2)

parent_of : (nodes : List Node) (c : ℕ) → 1 ≤ times_child nodes c → (p : ℕ) × (i : ℕ) × IsChildAt nodes p i c
parent_of [] c some = absurd (omega (arith, some))
parent_of (node ∷ nodes) c some = parent_here node nodes c (cases_lt 0 (times c node.children)) some (parent_of nodes c)

-- ---- in a good tree

once : (nodes : List Node) → IsGoodTree nodes → (n : ℕ) → suc n < length nodes → times_child nodes (suc n) ≡ 1
once nodes good n lt = by (slice_get nodes (suc n)) (good.kept ChildOnce (suc n) lt)
  where
    by : (o : Option Node) → IsSomeAnd o (λ node. IsChildOnce nodes (suc n)) → times_child nodes (suc n) ≡ 1
    by None h = absurd h
    by (Some node) h = h

pub later_child : (nodes : List Node) → IsGoodTree nodes → (p i c : ℕ) → IsChildAt nodes p i c → (p < length nodes) × (p < c) × (c < length nodes)
later_child nodes good p i c child = by (slice_get nodes p) refl child
  where
    by : (o : Option Node) → slice_get nodes p ≡ o → IsSomeAnd o (λ node. slice_get node.children i ≡ Some c) → (p < length nodes) × (p < c) × (c < length nodes)
    by None at child = absurd child
    by (Some node) at child =
        let known : p < length nodes = slice_get_within nodes p node at in
        let later : All (IsLater nodes p) node.children = subst (λ (o : Option Node). IsSomeAnd o (HasLaterChildren nodes p)) at (good.kept LaterChildren p known) in
        let inside : i < length node.children = slice_get_within node.children i c child in
        let is : get_or node.children i 0 ≡ c = get_or_from_slice_get node.children i c 0 child in
        let both : IsLater nodes p c = subst (IsLater nodes p) is (later i 0 inside) in
        (known, both.0, both.1)

-- each node but the root is a child
pub has_parent : (nodes : List Node) → IsGoodTree nodes → (c : ℕ) → 0 < c → c < length nodes → (p : ℕ) × (i : ℕ) × IsChildAt nodes p i c
has_parent nodes good zero some known = absurd (omega (arith, some))
has_parent nodes good (suc n) some known =
    let one = once nodes good n known in
    parent_of nodes (suc n) (omega (arith, one))

-- at one place of one node
pub only_parent : (nodes : List Node) → IsGoodTree nodes → (p i q j c : ℕ) → IsChildAt nodes p i c → IsChildAt nodes q j c → (p ≡ q) × (i ≡ j)
only_parent nodes good p i q j zero child other =
    let later = later_child nodes good p i zero child in
    absurd (omega (arith, later.1))
only_parent nodes good p i q j (suc n) child other =
    let later = later_child nodes good p i (suc n) child in
    let one = once nodes good n later.2 in
    one_parent nodes p i q j (suc n) child other (omega (arith, one))
