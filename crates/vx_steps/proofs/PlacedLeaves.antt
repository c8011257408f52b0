-- A leaf that the selected rows of a plan read, by the places of the first and of the last row that read it; and what is
-- read for whole values.
use Rattle.std.proofs.Common.{◌≡◌, ℕ, zero, suc, ◌+◌, ◌<◌, ◌⊎◌, inl, inr, ⊎_elim, Bool, List, [], ◌∷◌, ◌++◌, Option, Some, None, length, map, get_or, take, refl, sym, ap, ◌∙◌, subst, arith, append_assoc}
use Rattle.std.specs.Prelude.{slice_range, IfSome}
use Rattle.vx_picking.specs.Rows.{SelectsNone}
use Rattle.vx_plan.specs.declared.shapes.Shape.TheVariants as shapes
use Rattle.vx_plan.specs.Nodes.{Node}
use Rattle.vx_plan.specs.Kinds.{coding_of}
use Rattle.vx_plan.specs.Plans.{Plan, filter_plan, plan_at, scan_plan}
use Rattle.vx_plan.specs.Rules.{node_at}
use Rattle.vx_plan.specs.Shapes.{HasShape}
use Rattle.vx_rows.specs.Heads.{Head}
use Rattle.vx_steps.specs.declared.leaf_reads.LeafRead.{LeafRead}
use Rattle.vx_steps.specs.declared.placed_reads.Ends.{Ends}
use Rattle.vx_steps.specs.declared.placed_reads.PlacedRead.{PlacedRead}
use Rattle.vx_steps.specs.declared.placed_reads.Spot.{Spot}
use Rattle.vx_steps.specs.Given.{Handed, handed_by}
use Rattle.vx_steps.specs.KeptData.{Kept}
use Rattle.vx_steps.specs.Needs.{Adds, Among, AreLeaves, IsUnderWhole}
use Rattle.vx_steps.specs.Pieces.{read_of, Direct, ReadsDirectly}
use Rattle.vx_steps.specs.Placed.{ends_at, first_at, last_at, moved, up_to, AddsPlaced, AddsUnder, AreEnds, IsDirectAt, IsInsideAt, IsLeafUnder, IsPlacedAt}
use Rattle.vx_steps.specs.Visits.{Test, Visits, IsLeafRead}
use Rattle.vx_steps.specs.Wholes.{Inside}
use Rattle.vx_steps.proofs.Parts.{all_rows_taken}
use Rattle.vx_steps.proofs.Selecting.{among_back, among_front, among_split}
use Rattle.vx_steps.proofs.Shaping.{head_of, leaf_plan, same_law, same_plan, IsLeafPlan}
use Rattle.vx_steps.proofs.Spots.{first_later, last_later, moved_none}
use Rattle.vx_steps.proofs.WholeFaults.{inside}

-- ---- a leaf

leaf_placed : (nodes : List Node) (given : List Kept) (n segment start : ℕ) (bits : List Bool) (spot : Spot) (ends : Ends) → n < length nodes → HasShape nodes n (shapes.Leaf segment) → IsLeafPlan nodes n segment → AreEnds bits ends → (old : List PlacedRead) →
    AddsPlaced nodes given n start bits spot old (old ++ record { leaf = n; segment = segment; from = first_at spot ends.first; last = last_at spot ends.last } ∷ [])
leaf_placed nodes given n segment start bits spot ends known has over are old = record {
  only = λ need h. ⊎_elim (λ (o : Among need old). inl o) (λ (b : Among need (one ∷ [])). inr (inl (own need (only_left b)))) (among_split need old (one ∷ []) h);
  kept = λ need h. among_front need old (one ∷ []) h;
  direct = λ read place chosen v. (one, among_back one old (one ∷ []) (inl refl), named read (subst (D read (start + place)) over.law v), first_later spot ends.first place (are.least place chosen), last_later spot place ends.last (are.greatest place chosen));
  inside = λ read place chosen v. absurd (none read (start + place) (subst (S read (start + place)) over.law v));
  leaves = λ h need among. ⊎_elim (λ (o : Among need old). h need o) (λ (b : Among need (one ∷ [])). let F : PlacedRead → Type 0 = λ x. (x.leaf < length nodes) × HasShape nodes x.leaf (shapes.Leaf x.segment) in subst F (only_left b) (known, has)) (among_split need old (one ∷ []) among);
}
  where
    one : PlacedRead
    one = record { leaf = n; segment = segment; from = first_at spot ends.first; last = last_at spot ends.last }

    only_left : {A : Type 0} → A ⊎ ⊥ → A
    only_left (inl a) = a
    only_left (inr b) = absurd b

    reads : (row : ℕ) → ReadsDirectly nodes given n row (record { leaf = n; segment = segment })
    reads row = let F : Plan → Type 0 = λ p. Visits (Direct (IsLeafRead (record { leaf = n; segment = segment }))) (handed_by nodes (Some given)) p row in subst F (sym over.law) (refl, refl)

    own : (need : PlacedRead) → record { leaf = n; segment = segment; from = first_at spot ends.first; last = last_at spot ends.last } ≡ need → IsDirectAt nodes given n start bits (first_at spot) (read_of need) need.from × IsDirectAt nodes given n start bits (last_at spot) (read_of need) need.last
    own need e =
        let W : PlacedRead → Type 0 = λ x. IsDirectAt nodes given n start bits (first_at spot) (read_of x) x.from × IsDirectAt nodes given n start bits (last_at spot) (read_of x) x.last in
        subst W e ((ends.first, refl, are.first, reads (start + ends.first)), (ends.last, refl, are.last, reads (start + ends.last)))

    D : LeafRead → ℕ → Plan → Type 0
    D read row p = Visits (Direct (IsLeafRead read)) (handed_by nodes (Some given)) p row

    S : LeafRead → ℕ → Plan → Type 0
    S read row p = Visits (Inside (IsLeafRead read)) (handed_by nodes (Some given)) p row

    named : (read : LeafRead) → (n ≡ read.leaf) × (segment ≡ read.segment) → record { leaf = n; segment = segment } ≡ read
    named read is = ap (λ (k : ℕ). record { leaf = k; segment = segment }) is.0 ∙ ap (λ (k : ℕ). record { leaf = read.leaf; segment = k }) is.1

    none : (read : LeafRead) (row : ℕ) → Visits (Inside (IsLeafRead read)) (handed_by nodes (Some given)) (scan_plan (head_of nodes n) segment (coding_of (node_at nodes n).kind)) row → ⊥
    none read row v = v

-- the same of what is the old with that need behind it, by the places that were worked out
pub ends_placed : (nodes : List Node) (given : List Kept) (n segment start : ℕ) (bits : List Bool) (spot : Spot) (ends out : Ends) → AreEnds bits ends → out ≡ ends_at spot ends → (old new : List PlacedRead) → new ≡ old ++ record { leaf = n; segment = segment; from = out.first; last = out.last } ∷ [] → n < length nodes → HasShape nodes n (shapes.Leaf segment) → AddsPlaced nodes given n start bits spot old new
ends_placed nodes given n segment start bits spot ends out are at old new is known has =
    let F : List PlacedRead → Type 0 = AddsPlaced nodes given n start bits spot old in
    let W : Ends → Type 0 = λ e. new ≡ old ++ record { leaf = n; segment = segment; from = e.first; last = e.last } ∷ [] in
    subst F (sym (subst W at is)) (leaf_placed nodes given n segment start bits spot ends known has (leaf_plan nodes n segment known has) are old)

-- ---- a filter

filter_below : (P : Test) (handed : Handed) (head : Head) (p : Plan) (row : ℕ) → (P handed (filter_plan head p) row → ⊥) → Visits P handed (filter_plan head p) row → Visits P handed p row
filter_below P handed head p row none (inl own) = absurd (none own)
filter_below P handed head p row none (inr v) = v

-- what its child reads was added
same_placed : (nodes : List Node) (given : List Kept) (n child : ℕ) → n < length nodes → HasShape nodes n (shapes.Same child) → (start : ℕ) (bits : List Bool) (spot : Spot) (old new : List PlacedRead) → AddsPlaced nodes given child start bits spot old new → AddsPlaced nodes given n start bits spot old new
same_placed nodes given n child known has start bits spot old new added = record {
  only = λ need h. ⊎_elim (λ (o : Among need old). inl o) (λ (p : IsPlacedAt nodes given child start bits spot need). inr (up need p)) (added.only need h);
  kept = added.kept;
  direct = λ read place chosen v. added.direct read place chosen (down (Direct (IsLeafRead read)) (start + place) (λ own. own) v);
  inside = λ read place chosen v. added.inside read place chosen (down (Inside (IsLeafRead read)) (start + place) (λ own. own) v);
  leaves = added.leaves;
}
  where
    law : plan_at nodes n ≡ filter_plan (head_of nodes n) (plan_at nodes child)
    law = same_law nodes n child known has

    above : (P : Test) (row : ℕ) → Visits P (handed_by nodes (Some given)) (plan_at nodes child) row → Visits P (handed_by nodes (Some given)) (plan_at nodes n) row
    above P row v = let F : Plan → Type 0 = λ p. Visits P (handed_by nodes (Some given)) p row in subst F (sym law) (inr v)

    down : (P : Test) (row : ℕ) → (P (handed_by nodes (Some given)) (filter_plan (head_of nodes n) (plan_at nodes child)) row → ⊥) → Visits P (handed_by nodes (Some given)) (plan_at nodes n) row → Visits P (handed_by nodes (Some given)) (plan_at nodes child) row
    down P row none v = let F : Plan → Type 0 = λ p. Visits P (handed_by nodes (Some given)) p row in filter_below P (handed_by nodes (Some given)) (head_of nodes n) (plan_at nodes child) row none (subst F law v)

    direct_up : (stands : ℕ → ℕ) (read : LeafRead) (at : ℕ) → IsDirectAt nodes given child start bits stands read at → IsDirectAt nodes given n start bits stands read at
    direct_up stands read at (k, is, chosen, v) = (k, is, chosen, above (Direct (IsLeafRead read)) (start + k) v)

    inside_up : (read : LeafRead) (at : ℕ) → IsInsideAt nodes given child start bits (last_at spot) read at → IsInsideAt nodes given n start bits (last_at spot) read at
    inside_up read at (k, is, chosen, v) = (k, is, chosen, above (Inside (IsLeafRead read)) (start + k) v)

    up : (need : PlacedRead) → IsPlacedAt nodes given child start bits spot need → IsPlacedAt nodes given n start bits spot need
    up need (inl (first, last)) = inl (direct_up (first_at spot) (read_of need) need.from first, direct_up (last_at spot) (read_of need) need.last last)
    up need (inr (is, last)) = inr (is, inside_up (read_of need) need.last last)

-- the leaf that a filter is over is under it
pub under_filter : (nodes : List Node) (n child : ℕ) → n < length nodes → HasShape nodes n (shapes.Same child) → (found : Option LeafRead) → IfSome found (λ (leaf : LeafRead). (leaf.leaf ≡ child) × HasShape nodes child (shapes.Leaf leaf.segment)) → IfSome found (IsLeafUnder nodes n)
under_filter nodes n child known has None is = is
under_filter nodes n child known has (Some leaf) is =
    let like = same_plan nodes n child known has in
    let L : ℕ → Type 0 = λ k. k < length nodes in
    let S : ℕ → Type 0 = λ k. HasShape nodes k (shapes.Leaf leaf.segment) in
    let F : ℕ → Type 0 = λ k. HasShape nodes n (shapes.Same k) in
    (subst L (sym is.0) like.known, subst S (sym is.0) is.1, inr (subst F (sym is.0) has))

-- the leaf under a plan was added
pub leaf_under_placed : (nodes : List Node) (given : List Kept) (n : ℕ) (leaf : LeafRead) (start : ℕ) (bits : List Bool) (spot : Spot) (ends out : Ends) → AreEnds bits ends → out ≡ ends_at spot ends → (old new : List PlacedRead) → new ≡ old ++ record { leaf = leaf.leaf; segment = leaf.segment; from = out.first; last = out.last } ∷ [] → n < length nodes → IsLeafUnder nodes n leaf → AddsPlaced nodes given n start bits spot old new
leaf_under_placed nodes given n leaf start bits spot ends out are at old new is known under =
    let F : ℕ → Type 0 = λ k. AddsPlaced nodes given k start bits spot old new in
    let added : AddsPlaced nodes given leaf.leaf start bits spot old new = ends_placed nodes given leaf.leaf leaf.segment start bits spot ends out are at old new is under.0 under.1 in
    ⊎_elim (λ (e : leaf.leaf ≡ n). subst F e added) (λ (has : HasShape nodes n (shapes.Same leaf.leaf)). same_placed nodes given n leaf.leaf known has start bits spot old new added) under.2

-- no row is selected
pub none_placed : (nodes : List Node) (given : List Kept) (n start : ℕ) (bits : List Bool) (spot : Spot) → SelectsNone bits → (old : List PlacedRead) → AddsPlaced nodes given n start bits spot old old
none_placed nodes given n start bits spot none old = record {
  only = λ need h. inl h;
  kept = λ need h. h;
  direct = λ read place chosen v. absurd (none place chosen);
  inside = λ read place chosen v. absurd (none place chosen);
  leaves = λ h. h;
}

-- all rows of a mask
pub all_placed : (nodes : List Node) (given : List Kept) (n start : ℕ) (bits : List Bool) (spot : Spot) (from to : ℕ) → from ≡ 0 → to ≡ length bits → (old new : List PlacedRead) → AddsPlaced nodes given n start bits spot old new → AddsPlaced nodes given n start (slice_range bits from to) (moved spot from) old new
all_placed nodes given n start bits spot from to first last old new added =
    let at : spot ≡ moved spot from = moved_none spot from first in
    let F : Spot → Type 0 = λ b. AddsPlaced nodes given n start (slice_range bits from to) b old new in
    let G : List Bool → Type 0 = λ bs. AddsPlaced nodes given n start bs spot old new in
    subst F at (subst G (all_rows_taken bits from to first last) added)

-- ---- whole values, by a list of what they read

mapped_of : (last : ℕ) (need : PlacedRead) (found : List LeafRead) → Among need (map (up_to last) found) → (read : LeafRead) × Among read found × (up_to last read ≡ need)
mapped_of last need [] none = absurd none
mapped_of last need (read ∷ found) (inl e) = (read, inl refl, e)
mapped_of last need (read ∷ found) (inr h) =
    let r = mapped_of last need found h in
    (r.0, inr r.1, r.2)

of_mapped : (last : ℕ) (read : LeafRead) (found : List LeafRead) → Among read found → Among (up_to last read) (map (up_to last) found)
of_mapped last read [] none = absurd none
of_mapped last read (other ∷ found) (inl e) = inl (ap (up_to last) e)
of_mapped last read (other ∷ found) (inr h) = inr (of_mapped last read found h)

leaf_among : (nodes : List Node) (reads : List LeafRead) → AreLeaves nodes reads → (read : LeafRead) → Among read reads → (read.leaf < length nodes) × HasShape nodes read.leaf (shapes.Leaf read.segment)
leaf_among nodes [] are read none = absurd none
leaf_among nodes (one ∷ reads) are read (inl e) = let F : LeafRead → Type 0 = λ r. (r.leaf < length nodes) × HasShape nodes r.leaf (shapes.Leaf r.segment) in subst F e are.0
leaf_among nodes (one ∷ reads) are read (inr h) = leaf_among nodes reads are.1 read h

pub under_added : (nodes : List Node) (given : List Kept) (whole n last : ℕ) (old : List PlacedRead) (found : List LeafRead) → Adds (λ read. IsUnderWhole nodes (Some given) whole (IsLeafRead read) n) [] found → AreLeaves nodes found → AddsUnder nodes given whole n last old (old ++ map (up_to last) found)
under_added nodes given whole n last old found added leaves = record {
  only = λ need h. ⊎_elim (λ (o : Among need old). inl o) (λ (m : Among need (map (up_to last) found)). inr (own need (mapped_of last need found m))) (among_split need old (map (up_to last) found) h);
  kept = λ need h. among_front need old (map (up_to last) found) h;
  all = λ read v. (up_to last read, among_back (up_to last read) old (map (up_to last) found) (of_mapped last read found (added.all read v)), refl, omega arith, omega arith);
  leaves = λ h need among. ⊎_elim (λ (o : Among need old). h need o) (λ (m : Among need (map (up_to last) found)). there need (mapped_of last need found m)) (among_split need old (map (up_to last) found) among);
}
  where
    own : (need : PlacedRead) → (read : LeafRead) × Among read found × (up_to last read ≡ need) → (need.from ≡ 0) × (need.last ≡ last) × IsUnderWhole nodes (Some given) whole (IsLeafRead (read_of need)) n
    own need (read, among, e) =
        let u : IsUnderWhole nodes (Some given) whole (IsLeafRead read) n = ⊎_elim (λ (none : ⊥). absurd none) (λ (w : IsUnderWhole nodes (Some given) whole (IsLeafRead read) n). w) (added.only read among) in
        let F : PlacedRead → Type 0 = λ x. (x.from ≡ 0) × (x.last ≡ last) × IsUnderWhole nodes (Some given) whole (IsLeafRead (read_of x)) n in
        subst F e (refl, refl, u)

    there : (need : PlacedRead) → (read : LeafRead) × Among read found × (up_to last read ≡ need) → (need.leaf < length nodes) × HasShape nodes need.leaf (shapes.Leaf need.segment)
    there need (read, among, e) =
        let F : PlacedRead → Type 0 = λ x. (x.leaf < length nodes) × HasShape nodes x.leaf (shapes.Leaf x.segment) in
        subst F e (leaf_among nodes found leaves read among)

pub one_more_for_all : (last : ℕ) (old : List PlacedRead) (found : List LeafRead) (place : ℕ) → place < length found → (old ++ map (up_to last) (take place found)) ++ up_to last (get_or found place (record { leaf = 0; segment = 0 })) ∷ [] ≡ old ++ map (up_to last) (take (place + 1) found)
one_more_for_all last old found place less =
    let more : suc place ≡ place + 1 = omega arith in
    append_assoc old (map (up_to last) (take place found)) (up_to last (get_or found place (record { leaf = 0; segment = 0 })) ∷ [])
    ∙ ap (λ (xs : List PlacedRead). old ++ xs) (one_mapped found place less ∙ ap (λ (k : ℕ). map (up_to last) (take k found)) more)
  where
    one_mapped : (xs : List LeafRead) (i : ℕ) → i < length xs → map (up_to last) (take i xs) ++ up_to last (get_or xs i (record { leaf = 0; segment = 0 })) ∷ [] ≡ map (up_to last) (take (suc i) xs)
    one_mapped [] i h = absurd (omega arith)
    one_mapped (x ∷ xs) zero h = refl
    one_mapped (x ∷ xs) (suc i) h = ap (λ (rest : List PlacedRead). up_to last x ∷ rest) (one_mapped xs i (omega arith))

pub under_is : (nodes : List Node) (given : List Kept) (whole n last : ℕ) (old new : List PlacedRead) (none found : List LeafRead) → none ≡ [] → new ≡ old ++ map (up_to last) found → Adds (λ read. IsUnderWhole nodes (Some given) whole (IsLeafRead read) n) none found → (AreLeaves nodes none → AreLeaves nodes found) → AddsUnder nodes given whole n last old new
under_is nodes given whole n last old new none found empty is added leaves =
    let F : List PlacedRead → Type 0 = AddsUnder nodes given whole n last old in
    let G : List LeafRead → Type 0 = λ xs. Adds (λ read. IsUnderWhole nodes (Some given) whole (IsLeafRead read) n) xs found in
    let H : List LeafRead → Type 0 = λ xs. AreLeaves nodes xs → AreLeaves nodes found in
    subst F (sym is) (under_added nodes given whole n last old found (subst G empty added) (subst H empty leaves tt))
