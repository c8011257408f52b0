-- The lines of a plan: a line of its own, and the lines of its children, whatever levels are asked for below it.
use Rattle.std.proofs.Common.{◌≡◌, ℕ, zero, suc, ◌+◌, ◌-◌, ◌<◌, List, [], ◌∷◌, ◌++◌, Some, length, drop, get_or, refl, sym, ap, ◌∙◌, subst, arith, append_assoc}
use Rattle.std.specs.Prelude.{codes, IfSome, Option}
use Rattle.std.specs.List.{slice_get, All}
use Rattle.std.proofs.lemmas.List.Elements.{All-head, All-tail}
use Rattle.std.proofs.lemmas.Option.{slice_get-get_or}
use Rattle.vx_plan.specs.ChildNames.{child_name}
use Rattle.vx_plan.specs.Nodes.{Node, absent}
use Rattle.vx_plan.specs.Rules.{node_at}
use Rattle.vx_plan.specs.Tables.{IsGoodNode, IsGoodTable}
use Rattle.vx_plan.proofs.Offsets.{drop_at}
use Rattle.vx_lower.specs.PlanText.{each_from, indent, line_text, lines_text, text_down, Header}

each_same : (f g : ℕ → ℕ → List ℕ) (place : ℕ) (children : List ℕ) → All (λ child. (at : ℕ) → f at child ≡ g at child) children → each_from f place children ≡ each_from g place children
each_same f g place [] same = refl
each_same f g place (child ∷ children) same =
    let p : f place child ≡ g place child = All-head (λ child. (at : ℕ) → f at child ≡ g at child) child children same place in
    let q : each_from f (place + 1) children ≡ each_from g (place + 1) children = each_same f g (place + 1) children (All-tail (λ child. (at : ℕ) → f at child ≡ g at child) child children same) in
    cc

-- the children of a plan stand below it
children_below : (nodes : List Node) → IsGoodTable nodes → (n : ℕ) → n < length nodes → All (λ child. child < n) (node_at nodes n).children
children_below nodes good n known =
    let here : IsGoodNode nodes n (node_at nodes n) = subst (λ (o : Option Node). IfSome o (IsGoodNode nodes n)) (slice_get-get_or nodes n absent known) (good n) in
    here.below

levels_same : (header : Header) (nodes : List Node) → IsGoodTable nodes → (s t n : ℕ) → n < s → n < t → n < length nodes → (depth : ℕ) (name : List ℕ) → text_down s header nodes depth name n ≡ text_down t header nodes depth name n
unfolding text_down
levels_same header nodes good zero t n h k known depth name = absurd (omega arith)
levels_same header nodes good (suc s) zero n h k known depth name = absurd (omega arith)
levels_same header nodes good (suc s) (suc t) n h k known depth name =
    ap (λ (below : List ℕ). line_text header nodes depth name n ++ below)
    (each_same (λ place child. text_down s header nodes (depth + 1) (child_name (node_at nodes n) place) child) (λ place child. text_down t header nodes (depth + 1) (child_name (node_at nodes n) place) child) 0 (node_at nodes n).children
    (λ i d lt place.
    let below : get_or (node_at nodes n).children i d < n = children_below nodes good n known i d lt in
    levels_same header nodes good s t (get_or (node_at nodes n).children i d) (omega arith) (omega arith) (omega arith) (depth + 1) (child_name (node_at nodes n) place)))

-- the lines of the child at a place
abbrev pub child_lines : Header → List Node → ℕ → ℕ → ℕ → ℕ → List ℕ
child_lines header nodes depth n place child = lines_text header nodes (depth + 1) (child_name (node_at nodes n) place) child

-- the lines of the children from a place on
abbrev pub lines_left : Header → List Node → ℕ → ℕ → ℕ → List ℕ
lines_left header nodes depth n place = each_from (child_lines header nodes depth n) place (drop place (node_at nodes n).children)

-- a plan's lines are its own and then those of its children
pub lines_unfold : (header : Header) (nodes : List Node) → IsGoodTable nodes → (n : ℕ) → n < length nodes → (depth : ℕ) (name : List ℕ) → lines_text header nodes depth name n ≡ line_text header nodes depth name n ++ lines_left header nodes depth n 0
unfolding text_down
lines_unfold header nodes good n known depth name =
    ap (λ (below : List ℕ). line_text header nodes depth name n ++ below)
    (each_same (λ place child. text_down n header nodes (depth + 1) (child_name (node_at nodes n) place) child) (child_lines header nodes depth n) 0 (node_at nodes n).children
    (λ i d lt place.
    let below : get_or (node_at nodes n).children i d < n = children_below nodes good n known i d lt in
    levels_same header nodes good n (suc (get_or (node_at nodes n).children i d)) (get_or (node_at nodes n).children i d) below (omega arith) (omega arith) (depth + 1) (child_name (node_at nodes n) place)))

pub lines_start : (header : Header) (nodes : List Node) → IsGoodTable nodes → (n : ℕ) → n < length nodes → (depth : ℕ) (name : List ℕ) → (old items : List ℕ) → items ≡ old ++ line_text header nodes depth name n → items ++ lines_left header nodes depth n 0 ≡ old ++ lines_text header nodes depth name n
lines_start header nodes good n known depth name old items own =
    ap (λ (xs : List ℕ). xs ++ lines_left header nodes depth n 0) own
    ∙ append_assoc old (line_text header nodes depth name n) (lines_left header nodes depth n 0)
    ∙ ap (λ (xs : List ℕ). old ++ xs) (sym (lines_unfold header nodes good n known depth name))

pub lines_next : (header : Header) (nodes : List Node) (depth n place child : ℕ) (name : List ℕ) → slice_get (node_at nodes n).children place ≡ Some child → name ≡ child_name (node_at nodes n) place → (old items new : List ℕ) → items ++ lines_left header nodes depth n place ≡ old → new ≡ items ++ lines_text header nodes (depth + 1) name child → new ++ lines_left header nodes depth n (place + 1) ≡ old
lines_next header nodes depth n place child name there named old items new far gained =
    let e : drop place (node_at nodes n).children ≡ child ∷ drop (place + 1) (node_at nodes n).children = drop_at (node_at nodes n).children place child there in
    ap (λ (xs : List ℕ). xs ++ lines_left header nodes depth n (place + 1)) gained
    ∙ append_assoc items (lines_text header nodes (depth + 1) name child) (lines_left header nodes depth n (place + 1))
    ∙ ap (λ (text : List ℕ). items ++ (lines_text header nodes (depth + 1) text child ++ lines_left header nodes depth n (place + 1))) named
    ∙ ap (λ (children : List ℕ). items ++ each_from (child_lines header nodes depth n) place children) (sym e)
    ∙ far

-- ---- indents

pub indent_next : (depth level : ℕ) → level < depth → (old items new : List ℕ) → items ++ indent (depth - level) ≡ old → new ≡ items ++ codes "  " → new ++ indent (depth - (level + 1)) ≡ old
indent_next depth level lt old items new far gained =
    let e : depth - level ≡ suc (depth - (level + 1)) = omega arith in
    ap (λ (xs : List ℕ). xs ++ indent (depth - (level + 1))) gained
    ∙ append_assoc items (codes "  ") (indent (depth - (level + 1)))
    ∙ ap (λ (left : ℕ). items ++ indent left) (sym e)
    ∙ far
