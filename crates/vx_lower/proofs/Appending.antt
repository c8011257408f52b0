-- What a table holds once plans are appended, one after another and one over others.
use Rattle.std.proofs.Common.{◌≡◌, ℕ, ◌+◌, ◌<◌, ◌≤◌, List, [], ◌∷◌, ◌++◌, length, map, refl, sym, ap, ◌∙◌, arith, rules, append_assoc}
use Rattle.std.proofs.lemmas.List.{map-append}
use Rattle.std.proofs.lemmas.List.Elements.{All-append, All-cons, All-nil, All-weaker, All-head, All-tail}
use Rattle.vx_plan.specs.Alike.{SameHead}
use Rattle.vx_plan.specs.Kinds.{IsRowIdx}
use Rattle.vx_plan.specs.Nodes.{Node}
use Rattle.vx_rows.specs.Heads.{Head}
use Rattle.vx_plan.specs.Plans.{Plan, no_plan, concat_plan, eval_plan, filter_plan, pack_plan, take_plan, share_plan, list_plan, row_idx_plan, scan_plan, zoned_plan, pruning_plan, plan_head, head_at, plan_at, plan_grown_as}
use Rattle.vx_plan.specs.Rules.{node_at, nodes_at}
use Rattle.vx_plan.specs.Tables.{AreIn, IsAdded, IsGoodTable}
use Rattle.vx_plan.proofs.Adding.{all_stay, head_in_table, length_added, plan_added}
use Rattle.vx_lower.specs.Numbered.{head_with, numbered, list_size, list_numbered, AddsPlan, AddsPlans, NumberNoRows}
use Rattle.vx_lower.specs.Sizes.{plan_size}

-- ---- plans in a row

pub none_added : (old : List Node) → IsGoodTable old → AddsPlans old old [] []
none_added old good = record { more = []; appended = search rules; count = omega arith; known = All-nil (λ n. n < length old); plans_are = refl; unnumbered = tt; good = good }

pub one_added : (old new : List Node) (p : Plan) (n : ℕ) → AddsPlan old new p n → AddsPlans old new (p ∷ []) (n ∷ [])
one_added old new p n adds = record {
  more = adds.more;
  appended = adds.appended;
  count = omega (arith, adds.count);
  known = All-cons (λ k. k < length new) n [] (omega (arith, adds.last)) (All-nil (λ k. k < length new));
  plans_are = ap (λ (q : Plan). q ∷ []) adds.plan_is;
  unnumbered = adds.unnumbered;
  good = adds.good;
}

pub size_append : (ps qs : List Plan) → list_size (ps ++ qs) ≡ list_size ps + list_size qs
size_append [] qs = omega arith
size_append (p ∷ ps) qs = omega (arith, size_append ps qs)

pub numbered_append : (first : ℕ) (ps qs : List Plan) → list_numbered first (ps ++ qs) ≡ list_numbered first ps ++ list_numbered (first + list_size ps) qs
numbered_append first [] qs = let e : first ≡ first + 0 = omega arith in ap (λ (s : ℕ). list_numbered s qs) e
numbered_append first (p ∷ ps) qs =
    let e : first + plan_size p + list_size ps ≡ first + (plan_size p + list_size ps) = omega arith in
    ap (λ (l : List Plan). numbered first p ∷ l) (numbered_append (first + plan_size p) ps qs ∙ ap (λ (s : ℕ). list_numbered (first + plan_size p) ps ++ list_numbered s qs) e)

unnumbered_joined : (nodes more : List Node) → NumberNoRows nodes → NumberNoRows more → NumberNoRows (nodes ++ more)
unnumbered_joined [] more first second = second
unnumbered_joined (node ∷ nodes) more first second = (first.0, unnumbered_joined nodes more first.1 second)

-- plans, and then others
pub joined_added : (old mid new : List Node) (ps qs : List Plan) (ns ms : List ℕ) → AddsPlans old mid ps ns → AddsPlans mid new qs ms → AddsPlans old new (ps ++ qs) (ns ++ ms)
joined_added old mid new ps qs ns ms adds then =
    let longer : length mid ≤ length new = omega (arith, then.count) in
    let own : map (plan_at new) ns ≡ list_numbered (length old) ps = all_stay mid new then.more then.appended then.good ns adds.known ∙ adds.plans_are in
    let start : length mid ≡ length old + list_size ps = adds.count in
    let last : map (plan_at new) ms ≡ list_numbered (length old + list_size ps) qs = then.plans_are ∙ ap (λ (s : ℕ). list_numbered s qs) start in
    record {
      more = adds.more ++ then.more;
      appended = then.appended ∙ ap (λ (nodes : List Node). nodes ++ then.more) adds.appended ∙ append_assoc old adds.more then.more;
      count = omega (arith, then.count, adds.count, size_append ps qs);
      known = All-append (λ k. k < length new) ns ms (All-weaker (λ k. k < length mid) (λ k. k < length new) (λ k lt. omega arith) ns adds.known) then.known;
      plans_are = map-append (plan_at new) ns ms ∙ ap (λ (l : List Plan). l ++ map (plan_at new) ms) own ∙ ap (λ (l : List Plan). list_numbered (length old) ps ++ l) last ∙ sym (numbered_append (length old) ps qs);
      unnumbered = unnumbered_joined adds.more then.more adds.unnumbered then.unnumbered;
      good = then.good;
    }

pub next_added : (old mid new : List Node) (ps : List Plan) (ns : List ℕ) (p : Plan) (n : ℕ) → AddsPlans old mid ps ns → AddsPlan mid new p n → AddsPlans old new (ps ++ p ∷ []) (ns ++ n ∷ [])
next_added old mid new ps ns p n adds here = joined_added old mid new ps (p ∷ []) ns (n ∷ []) adds (one_added mid new p n here)

pub two_added : (old mid new : List Node) (p q : Plan) (n m : ℕ) → AddsPlan old mid p n → AddsPlan mid new q m → AddsPlans old new (p ∷ q ∷ []) (n ∷ m ∷ [])
two_added old mid new p q n m first second = joined_added old mid new (p ∷ []) (q ∷ []) (n ∷ []) (m ∷ []) (one_added old mid p n first) (one_added mid new q m second)

-- ---- a plan over plans in a row

pub record IsGrown (old new : List Node) (node : Node) (n : ℕ) (ps : List Plan) : Type 0 where
  pub plan_is : plan_at new n ≡ plan_grown_as (head_at n node) node.kind (list_numbered (length old) ps)
  pub number : n ≡ length old + list_size ps
  pub more : List Node
  pub appended : new ≡ old ++ more
  pub count : length new ≡ length old + (list_size ps + 1)
  pub last : n + 1 ≡ length new
  pub unnumbered : NumberNoRows more
  pub good : IsGoodTable new

pub grown_over : (old mid new : List Node) (ps : List Plan) (node : Node) (n : ℕ) → AddsPlans old mid ps node.children → IsAdded mid new node n → ¬ (IsRowIdx node.kind) → IsGrown old new node n ps
grown_over old mid new ps node n adds added none = record {
  plan_is = plan_added mid new node n added adds.known ∙ ap (plan_grown_as (head_at n node) node.kind) adds.plans_are;
  number = added.last ∙ adds.count;
  more = adds.more ++ node ∷ [];
  appended = added.appended ∙ ap (λ (nodes : List Node). nodes ++ node ∷ []) adds.appended ∙ append_assoc old adds.more (node ∷ []);
  count = omega (arith, length_added mid new node n added, adds.count);
  last = omega (arith, length_added mid new node n added, added.last);
  unnumbered = unnumbered_joined adds.more (node ∷ []) adds.unnumbered (none, tt);
  good = added.good;
}

-- it adds the plan that it is with its numbers
pub adds_by : (old new : List Node) (node : Node) (n : ℕ) (ps : List Plan) (p : Plan) → IsGrown old new node n ps → plan_size p ≡ 1 + list_size ps → plan_grown_as (head_at n node) node.kind (list_numbered (length old) ps) ≡ numbered (length old) p → AddsPlan old new p n
adds_by old new node n ps p grown size is = record {
  more = grown.more;
  appended = grown.appended;
  count = omega (arith, grown.count);
  last = grown.last;
  plan_is = grown.plan_is ∙ is;
  unnumbered = grown.unnumbered;
  good = grown.good;
}

-- ---- the nodes of plans

-- a node of the dtype and the rows of a head
pub record IsLikeHead (node : Node) (head : Head) : Type 0 where
  pub dtype : node.dtype ≡ head.dtype
  pub rows : node.rows ≡ head.rows

pub same_head : (n m : ℕ) (node : Node) (head : Head) → n ≡ m → IsLikeHead node head → head_at n node ≡ head_with m head
same_head n m node head e like = λ i. record { number = e i; dtype = like.dtype i; rows = like.rows i }

numbered_like : (first : ℕ) (p : Plan) → SameHead (plan_head (numbered first p)) (plan_head p)
numbered_like first (no_plan head) = record { dtype = refl; rows = refl }
numbered_like first (concat_plan head children) = record { dtype = refl; rows = refl }
numbered_like first (eval_plan head e child) = record { dtype = refl; rows = refl }
numbered_like first (filter_plan head child) = record { dtype = refl; rows = refl }
numbered_like first (pack_plan head children validity) = record { dtype = refl; rows = refl }
numbered_like first (take_plan head codes values) = record { dtype = refl; rows = refl }
numbered_like first (share_plan head child) = record { dtype = refl; rows = refl }
numbered_like first (list_plan head elements offsets validity) = record { dtype = refl; rows = refl }
numbered_like first (row_idx_plan head) = record { dtype = refl; rows = refl }
numbered_like first (scan_plan head segment coding) = record { dtype = refl; rows = refl }
numbered_like first (zoned_plan head zones content table) = record { dtype = refl; rows = refl }
numbered_like first (pruning_plan head pruning table) = record { dtype = refl; rows = refl }

like_head : (nodes : List Node) → IsGoodTable nodes → (first n : ℕ) (p : Plan) → n < length nodes → plan_at nodes n ≡ numbered first p → IsLikeHead (node_at nodes n) (plan_head p)
like_head nodes good first n p lt is =
    let h : plan_head (plan_at nodes n) ≡ head_at n (node_at nodes n) = head_in_table nodes good n lt in
    let e : plan_head (plan_at nodes n) ≡ plan_head (numbered first p) = ap plan_head is in
    record {
      dtype = ap (λ (h : Head). h.dtype) (sym h ∙ e) ∙ (numbered_like first p).dtype;
      rows = ap (λ (h : Head). h.rows) (sym h ∙ e) ∙ (numbered_like first p).rows;
    }

-- nodes like the heads of these plans, one after another
abbrev pub AreLike : List Node → List Plan → Type 0
AreLike [] [] = Unit {0}
AreLike [] (p ∷ ps) = ⊥
AreLike (node ∷ nodes) [] = ⊥
AreLike (node ∷ nodes) (p ∷ ps) = IsLikeHead node (plan_head p) × AreLike nodes ps

first_is : (p q : Plan) (ps qs : List Plan) → p ∷ ps ≡ q ∷ qs → p ≡ q
first_is p q ps qs e = cc

rest_is : (p q : Plan) (ps qs : List Plan) → p ∷ ps ≡ q ∷ qs → ps ≡ qs
rest_is p q ps qs e = cc

like_by : (nodes : List Node) → IsGoodTable nodes → (first : ℕ) (ns : List ℕ) (ps : List Plan) → AreIn nodes ns → map (plan_at nodes) ns ≡ list_numbered first ps → AreLike (nodes_at nodes ns) ps
like_by nodes good first [] [] known is = tt
like_by nodes good first [] (p ∷ ps) known is = absurd cc
like_by nodes good first (n ∷ ns) [] known is = absurd cc
like_by nodes good first (n ∷ ns) (p ∷ ps) known is =
    let rest : List Plan = list_numbered (first + plan_size p) ps in (
      like_head nodes good first n p (All-head (λ n. n < length nodes) n ns known) (first_is (plan_at nodes n) (numbered first p) (map (plan_at nodes) ns) rest is),
      like_by nodes good (first + plan_size p) ns ps (All-tail (λ n. n < length nodes) n ns known) (rest_is (plan_at nodes n) (numbered first p) (map (plan_at nodes) ns) rest is),
    )

-- the nodes of added plans are like their heads
pub added_like : (old new : List Node) (ps : List Plan) (ns : List ℕ) → AddsPlans old new ps ns → AreLike (nodes_at new ns) ps
added_like old new ps ns adds = like_by new adds.good (length old) ns ps adds.known adds.plans_are
