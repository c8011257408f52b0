-- The tree of a node is the node's, grown over the trees of its children.
use Rattle.std.proofs.Common.{◌≡◌, ℕ, zero, suc, ◌+◌, ◌<◌, ◌≤◌, ⊎_elim, List, [], ◌∷◌, Option, Some, None, length, map, get_or, refl, sym, ap, ◌∙◌, arith}
use Rattle.std.specs.Prelude.{IfSome, IsSomeAnd}
use Rattle.std.specs.List.{slice_get, All}
use Rattle.std.proofs.lemmas.Bool.{cases_lt}
use Rattle.std.proofs.lemmas.List.Elements.{All-head, All-tail}
use Rattle.std.proofs.lemmas.Option.{slice_get_past}
use Rattle.vx_layout.specs.declared.nodes.LayoutKind.{LayoutKind}
use Rattle.vx_layout.specs.declared.nodes.LayoutKind.TheVariants as kinds
use Rattle.vx_layout.specs.Nodes.{Node}
use Rattle.vx_rows.specs.Heads.{Head}
use Rattle.vx_layout.specs.Trees.{Tree, head_of, head_at, gap, grown_as, grown, grow, subtree}
use Rattle.vx_layout.specs.declared.rules.ShapeRule.TheVariants.{LaterChildren}
use Rattle.vx_layout.specs.Shape.{HasLaterChildren, IsGoodTree, IsLater}
use Rattle.vx_rows.proofs.Each.{if_some_weaker}

-- the children of a node, if there is one, come later
abbrev pub LaterAt : List Node → ℕ → Type 0
LaterAt nodes n = IfSome (slice_get nodes n) (HasLaterChildren nodes n)

abbrev pub HaveLaterChildren : List Node → Type 0
HaveLaterChildren nodes = (n : ℕ) → n < length nodes → LaterAt nodes n

some_later : (nodes : List Node) (n : ℕ) (o : Option Node) → IsSomeAnd o (HasLaterChildren nodes n) → IfSome o (HasLaterChildren nodes n)
some_later nodes n None is = tt
some_later nodes n (Some node) is = is

pub good_later : (nodes : List Node) → IsGoodTree nodes → HaveLaterChildren nodes
good_later nodes good n lt = some_later nodes n (slice_get nodes n) (good.kept LaterChildren n lt)

-- also past the end, where there is no node
later_at : (nodes : List Node) → HaveLaterChildren nodes → (n : ℕ) → LaterAt nodes n
later_at nodes later n = ⊎_elim (λ (h : n < length nodes). later n h) (λ (h : length nodes ≤ n). rw (slice_get_past nodes n h) tt) (cases_lt n (length nodes))

-- ---- the same trees below make the same tree

abbrev Same : (ℕ → Tree) → (ℕ → Tree) → List ℕ → Type 0
Same f g ns = All (λ n. f n ≡ g n) ns

children_same : (f g : ℕ → Tree) (ns : List ℕ) → Same f g ns → map f ns ≡ map g ns
children_same f g [] h = refl
children_same f g (n ∷ ns) h =
    let p : f n ≡ g n = All-head (λ n. f n ≡ g n) n ns h in
    let q : map f ns ≡ map g ns = children_same f g ns (All-tail (λ n. f n ≡ g n) n ns h) in
    cc

grown_same : (f g : ℕ → Tree) (n : ℕ) (o : Option Node) → IfSome o (λ node. Same f g node.children) → grown f n o ≡ grown g n o
grown_same f g n None h = refl
grown_same f g n (Some node) h = ap (grown_as (head_at n node) node.kind) (children_same f g node.children h)

-- ---- enough levels are as good as more

grown_past : (nodes : List Node) (f : ℕ → Tree) (n : ℕ) → length nodes ≤ n → gap n ≡ grown f n (slice_get nodes n)
grown_past nodes f n h = rw (slice_get_past nodes n h) refl

grow_same : (nodes : List Node) → HaveLaterChildren nodes → (s t n : ℕ) → length nodes ≤ n + s → length nodes ≤ n + t → grow s nodes n ≡ grow t nodes n
unfolding grow
grow_same nodes later zero zero n h k = refl
grow_same nodes later zero (suc t) n h k = grown_past nodes (grow t nodes) n (omega arith)
grow_same nodes later (suc s) zero n h k = sym (grown_past nodes (grow s nodes) n (omega arith))
grow_same nodes later (suc s) (suc t) n h k =
    grown_same (grow s nodes) (grow t nodes) n (slice_get nodes n)
    (if_some_weaker (λ node. All (IsLater nodes n) node.children) (λ node. Same (grow s nodes) (grow t nodes) node.children)
    (λ node each i d lt.
    let above : n < get_or node.children i d = (each i d lt).0 in
    grow_same nodes later s t (get_or node.children i d) (omega arith) (omega arith))
    (slice_get nodes n) (later_at nodes later n))

grow_unfolds : (nodes : List Node) (levels : ℕ) → HaveLaterChildren nodes → length nodes ≤ suc levels → (n : ℕ) → grow (suc levels) nodes n ≡ grown (grow (suc levels) nodes) n (slice_get nodes n)
unfolding grow
grow_unfolds nodes levels later enough n =
    grown_same (grow levels nodes) (grow (suc levels) nodes) n (slice_get nodes n)
    (if_some_weaker (λ node. All (IsLater nodes n) node.children) (λ node. Same (grow levels nodes) (grow (suc levels) nodes) node.children)
    (λ node each i d lt.
    let above : n < get_or node.children i d = (each i d lt).0 in
    grow_same nodes later levels (suc levels) (get_or node.children i d) (omega arith) (omega arith))
    (slice_get nodes n) (later_at nodes later n))

-- where children come later; also past the end
pub unfolds : (nodes : List Node) → HaveLaterChildren nodes → (n : ℕ) → subtree nodes n ≡ grown (subtree nodes) n (slice_get nodes n)
unfolding grow
unfolds [] later n = refl
unfolds (node ∷ nodes) later n = grow_unfolds (node ∷ nodes) (length nodes) later (omega arith) n

head_of_grown_as : (head : Head) (kind : LayoutKind) (ts : List Tree) → head_of (grown_as head kind ts) ≡ head
head_of_grown_as head (kinds.Flat segment coding) ts = refl
head_of_grown_as head kinds.Chunked ts = refl
head_of_grown_as head kinds.Struct ts = refl
head_of_grown_as head kinds.Dict ts = refl
head_of_grown_as head kinds.List ts = refl
head_of_grown_as head (kinds.Zoned zone_len stats) ts = refl
head_of_grown_as head (kinds.LegacyStats zone_len stats) ts = refl

-- the head of a node's tree is the node's
pub head_of_subtree : (nodes : List Node) → HaveLaterChildren nodes → (n : ℕ) (node : Node) → slice_get nodes n ≡ Some node → head_of (subtree nodes n) ≡ head_at n node
head_of_subtree nodes later n node at =
    let unfolded : subtree nodes n ≡ grown_as (head_at n node) node.kind (map (subtree nodes) node.children) = unfolds nodes later n ∙ ap (grown (subtree nodes) n) at in
    ap head_of unfolded ∙ head_of_grown_as (head_at n node) node.kind (map (subtree nodes) node.children)
