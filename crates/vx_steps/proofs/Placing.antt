-- The leaves that the selected rows of a plan read, by the places of the first and of the last row that read them, part by
-- part.
use Rattle.std.proofs.Common.{◌≡◌, ℕ, zero, suc, ◌+◌, ◌-◌, ◌<◌, ◌≤◌, ◌⊎◌, inl, inr, ⊎_elim, Bool, true, false, List, [], ◌∷◌, Some, None, length, map, refl, sym, ap, ◌∙◌, subst, arith}
use Rattle.std.specs.Prelude.{slice_range}
use Rattle.std.specs.List.{slice_get}
use Rattle.vx_plan.specs.declared.parts.ChildRows.{ChildRows}
use Rattle.vx_plan.specs.declared.parts.Part.{Part}
use Rattle.vx_plan.specs.declared.parts.Part.TheVariants as parts
use Rattle.vx_plan.specs.declared.shapes.Shape.{Shape}
use Rattle.vx_plan.specs.declared.shapes.Shape.TheVariants as shapes
use Rattle.vx_plan.specs.Nodes.{Node}
use Rattle.vx_plan.specs.Parts.{parts_of}
use Rattle.vx_plan.specs.Plans.{Plan, plan_at}
use Rattle.vx_plan.specs.Reaches.{all_rows}
use Rattle.vx_plan.specs.Rules.{node_at}
use Rattle.vx_plan.specs.Shapes.{HasShape}
use Rattle.vx_plan.specs.Tables.{IsGoodTable}
use Rattle.vx_steps.specs.declared.leaf_reads.LeafRead.{LeafRead}
use Rattle.vx_steps.specs.declared.placed_reads.Ends.{Ends}
use Rattle.vx_steps.specs.declared.placed_reads.PlacedRead.{PlacedRead}
use Rattle.vx_steps.specs.declared.placed_reads.Spot.{Spot}
use Rattle.vx_steps.specs.declared.placed_reads.Spot.TheVariants.{Whichever}
use Rattle.vx_steps.specs.Given.{handed_by}
use Rattle.vx_steps.specs.KeptData.{Kept}
use Rattle.vx_steps.specs.Needs.{Among, IsUnderWhole}
use Rattle.vx_steps.specs.PartVisits.{PartVisits, PartsVisit}
use Rattle.vx_steps.specs.Pieces.{read_of, Covers, Direct}
use Rattle.vx_steps.specs.Placed.{ends_at, first_at, last_at, moved, AddsPlaced, AddsUnder, AreEnds, AreOfLeaves, IsDirectAt, IsInsideAt, IsPlacedAt}
use Rattle.vx_steps.specs.Visits.{Test, Visits, IsLeafRead, IsWholeRead}
use Rattle.vx_steps.specs.Wholes.{Inside}
use Rattle.vx_steps.proofs.FreeVisits.{freed, hands_none, leaf_becomes}
use Rattle.vx_steps.proofs.Parts.{leaf_alone, parts_down, parts_up, SomeOwn}
use Rattle.vx_steps.proofs.PartsAsking.{none_inside}
use Rattle.vx_steps.proofs.Selecting.{got_range, range_got}
use Rattle.vx_steps.proofs.Spots.{first_later, last_later, moved_first, moved_last}
use Rattle.vx_steps.proofs.Visiting.{NoGap}
use Rattle.vx_steps.proofs.WholeFaults.{inside}

-- ---- one row of a mask

-- the mask that selects the row at a place alone, if it is selected
abbrev pub only_row : ℕ → List Bool → List Bool
only_row place [] = []
only_row zero (bit ∷ bits) = bit ∷ map (λ b. false) bits
only_row (suc place) (bit ∷ bits) = false ∷ only_row place bits

none_mapped : (bits : List Bool) (place : ℕ) → slice_get (map (λ (b : Bool). false) bits) place ≡ Some true → ⊥
none_mapped [] place at = absurd cc
none_mapped (bit ∷ bits) zero at = absurd cc
none_mapped (bit ∷ bits) (suc place) at = none_mapped bits place at

only_at : (place : ℕ) (bits : List Bool) → slice_get bits place ≡ Some true → slice_get (only_row place bits) place ≡ Some true
only_at place [] at = at
only_at zero (bit ∷ bits) at = at
only_at (suc place) (bit ∷ bits) at = only_at place bits at

only_there : (place : ℕ) (bits : List Bool) (other : ℕ) → slice_get (only_row place bits) other ≡ Some true → other ≡ place
only_there place [] other at = absurd cc
only_there zero (bit ∷ bits) zero at = refl
only_there zero (bit ∷ bits) (suc other) at = absurd (none_mapped bits other at)
only_there (suc place) (bit ∷ bits) zero at = absurd cc
only_there (suc place) (bit ∷ bits) (suc other) at = ap suc (only_there place bits other at)

only_count : (place : ℕ) (bits : List Bool) → length (only_row place bits) ≡ length bits
only_count place [] = refl
only_count zero (bit ∷ bits) = ap suc (mapped_count bits)
  where
    mapped_count : (bs : List Bool) → length (map (λ (b : Bool). false) bs) ≡ length bs
    mapped_count [] = refl
    mapped_count (b ∷ bs) = ap suc (mapped_count bs)
only_count (suc place) (bit ∷ bits) = ap suc (only_count place bits)

-- ---- whole values

none_direct : (read : LeafRead) (p : Plan) (row : ℕ) → Visits (Direct (IsLeafRead read)) None p row → ⊥
none_direct read p row v = none_inside 0 p row (freed (Direct (IsLeafRead read)) (IsWholeRead 0) None None hands_none (λ q at h. absurd h) (λ q at h. absurd h) p row v)

inside_out : (read : LeafRead) (p : Plan) (row : ℕ) → Visits (Inside (IsLeafRead read)) None p row → Visits (IsLeafRead read) None p row
inside_out read p row v = freed (Inside (IsLeafRead read)) (IsLeafRead read) None None hands_none (leaf_becomes read None None) (leaf_becomes read None None) p row v

-- ---- what was added so far

-- The parts that were gone through are placed, and what is left is among the parts.
pub record PlacedSoFar (nodes : List Node) (given : List Kept) (n start : ℕ) (bits : List Bool) (spot : Spot) (parts left : List Part) (old now : List PlacedRead) : Type 0 where
  pub only : (need : PlacedRead) → Among need now → Among need old ⊎ IsPlacedAt nodes given n start bits spot need
  pub kept : (need : PlacedRead) → Among need old → Among need now
  pub below : (read : LeafRead) (mask : List Bool) → PartsVisit (Direct (IsLeafRead read)) nodes (Some given) mask left → PartsVisit (Direct (IsLeafRead read)) nodes (Some given) mask parts
  pub below_inside : (read : LeafRead) (mask : List Bool) → PartsVisit (Inside (IsLeafRead read)) nodes (Some given) mask left → PartsVisit (Inside (IsLeafRead read)) nodes (Some given) mask parts
  pub direct : (read : LeafRead) (place : ℕ) → slice_get bits place ≡ Some true → PartsVisit (Direct (IsLeafRead read)) nodes (Some given) (only_row place bits) parts → Covers now read (first_at spot place) (last_at spot place) ⊎ PartsVisit (Direct (IsLeafRead read)) nodes (Some given) (only_row place bits) left
  pub inside : (read : LeafRead) (place : ℕ) → slice_get bits place ≡ Some true → PartsVisit (Inside (IsLeafRead read)) nodes (Some given) (only_row place bits) parts → Covers now read 0 (last_at spot place) ⊎ PartsVisit (Inside (IsLeafRead read)) nodes (Some given) (only_row place bits) left
  pub leaves : AreOfLeaves nodes old → AreOfLeaves nodes now

more_cover : (old new : List PlacedRead) → ((need : PlacedRead) → Among need old → Among need new) → (read : LeafRead) (from to : ℕ) → Covers old read from to → Covers new read from to
more_cover old new kept read from to (need, among, is, early, late) = (need, kept need among, is, early, late)

-- a visit of the parts by one row is the plan's at that row
pub placed_up : (nodes : List Node) → IsGoodTable nodes → (given : List Kept) (n : ℕ) → n < length nodes → (shape : Shape) → HasShape nodes n shape → (start : ℕ) (bits : List Bool) (P : Test) (place : ℕ) → slice_get bits place ≡ Some true →
    PartsVisit P nodes (Some given) (only_row place bits) (parts_of nodes n start (length bits)) → Visits P (handed_by nodes (Some given)) (plan_at nodes n) (start + place)
placed_up nodes good given n known shape has start bits P place at v =
    let F : ℕ → Type 0 = λ k. PartsVisit P nodes (Some given) (only_row place bits) (parts_of nodes n start k) in
    let r = parts_up nodes good (Some given) n known shape has start (only_row place bits) (place, only_at place bits at) P (subst F (sym (only_count place bits)) v) in
    let G : ℕ → Type 0 = λ k. Visits P (handed_by nodes (Some given)) (plan_at nodes n) (start + k) in
    subst G (only_there place bits r.0 r.1) r.2

-- the row of a child's range, by its place among all rows
range_place : (bits : List Bool) (from to k : ℕ) → from ≤ to → slice_get (slice_range bits from to) k ≡ Some true → (k < to - from) × (slice_get bits (from + k) ≡ Some true)
range_place bits from to k forwards at =
    let t : from + (to - from) ≡ to = omega arith in
    got_range bits from (to - from) k true (ap (λ (m : ℕ). slice_get (slice_range bits from m) k) t ∙ at)

place_range : (bits : List Bool) (from to k : ℕ) → from ≤ to → k < to - from → slice_get bits (from + k) ≡ Some true → slice_get (slice_range bits from to) k ≡ Some true
place_range bits from to k forwards less at =
    let t : from + (to - from) ≡ to = omega arith in
    ap (λ (m : ℕ). slice_get (slice_range bits from m) k) (sym t) ∙ range_got bits from (to - from) k true less at

-- what a row of a child's range visits, the row visits alone, as a part
row_alone : (P : Test) (nodes : List Node) (given : List Kept) (bits : List Bool) (rows : ChildRows) → rows.from ≤ rows.to → (k : ℕ) → slice_get (slice_range bits rows.from rows.to) k ≡ Some true → Visits P (handed_by nodes (Some given)) (plan_at nodes rows.child) (rows.start + k) → PartVisits P nodes (Some given) (only_row (rows.from + k) bits) (parts.Rows rows)
row_alone P nodes given bits rows forwards k at v =
    let g = range_place bits rows.from rows.to k forwards at in
    (k, place_range (only_row (rows.from + k) bits) rows.from rows.to k forwards g.0 (only_at (rows.from + k) bits g.1), v)

-- and the other way
alone_row : (P : Test) (nodes : List Node) (given : List Kept) (bits : List Bool) (rows : ChildRows) → rows.from ≤ rows.to → (place : ℕ) → slice_get bits place ≡ Some true → PartVisits P nodes (Some given) (only_row place bits) (parts.Rows rows) → (k : ℕ) × (rows.from + k ≡ place) × (slice_get (slice_range bits rows.from rows.to) k ≡ Some true) × Visits P (handed_by nodes (Some given)) (plan_at nodes rows.child) (rows.start + k)
alone_row P nodes given bits rows forwards place at (k, chosen, v) =
    let g = range_place (only_row place bits) rows.from rows.to k forwards chosen in
    let is : rows.from + k ≡ place = only_there place bits (rows.from + k) g.1 in
    let there : slice_get bits (rows.from + k) ≡ Some true = ap (slice_get bits) is ∙ at in
    (k, is, place_range bits rows.from rows.to k forwards g.0 there, v)

-- one part of rows more
pub rows_so_far : (nodes : List Node) → IsGoodTable nodes → (given : List Kept) (n : ℕ) → n < length nodes → (shape : Shape) → HasShape nodes n shape → (start : ℕ) (bits : List Bool) (spot : Spot) (left behind : List Part) (part : Part) (rows : ChildRows) → left ≡ part ∷ behind → part ≡ parts.Rows rows → rows.from ≤ rows.to → (old mid new : List PlacedRead) →
    PlacedSoFar nodes given n start bits spot (parts_of nodes n start (length bits)) left old mid → AddsPlaced nodes given rows.child rows.start (slice_range bits rows.from rows.to) (moved spot rows.from) mid new →
    PlacedSoFar nodes given n start bits spot (parts_of nodes n start (length bits)) behind old new
rows_so_far nodes good given n known shape has start bits spot left behind part rows e same forwards old mid new far here = record {
  only = λ need h. ⊎_elim (λ (m : Among need mid). far.only need m) (λ (p : IsPlacedAt nodes given rows.child rows.start (slice_range bits rows.from rows.to) (moved spot rows.from) need). inr (up need p)) (here.only need h);
  kept = λ need h. here.kept need (far.kept need h);
  below = λ read mask v. far.below read mask (all (Direct (IsLeafRead read)) mask (inr v));
  below_inside = λ read mask v. far.below_inside read mask (all (Inside (IsLeafRead read)) mask (inr v));
  direct = λ read place at v. ⊎_elim (λ (c : Covers mid read (first_at spot place) (last_at spot place)). inl (more_cover mid new here.kept read (first_at spot place) (last_at spot place) c)) (λ w. by_direct read place at (apart (Direct (IsLeafRead read)) (only_row place bits) w)) (far.direct read place at v);
  inside = λ read place at v. ⊎_elim (λ (c : Covers mid read 0 (last_at spot place)). inl (more_cover mid new here.kept read 0 (last_at spot place) c)) (λ w. by_inside read place at (apart (Inside (IsLeafRead read)) (only_row place bits) w)) (far.inside read place at v);
  leaves = λ h. here.leaves (far.leaves h);
}
  where
    all : (P : Test) (mask : List Bool) → PartsVisit P nodes (Some given) mask (parts.Rows rows ∷ behind) → PartsVisit P nodes (Some given) mask left
    all P mask v = subst (PartsVisit P nodes (Some given) mask) (sym (e ∙ ap (λ (p : Part). p ∷ behind) same)) v

    apart : (P : Test) (mask : List Bool) → PartsVisit P nodes (Some given) mask left → PartVisits P nodes (Some given) mask (parts.Rows rows) ⊎ PartsVisit P nodes (Some given) mask behind
    apart P mask v = subst (PartsVisit P nodes (Some given) mask) (e ∙ ap (λ (p : Part). p ∷ behind) same) v

    direct_up : (stands stood : ℕ → ℕ) → ((k : ℕ) → stands k ≡ stood (rows.from + k)) → (read : LeafRead) (at : ℕ) → IsDirectAt nodes given rows.child rows.start (slice_range bits rows.from rows.to) stands read at → IsDirectAt nodes given n start bits stood read at
    direct_up stands stood far_from read at (k, is, chosen, v) =
        let g = range_place bits rows.from rows.to k forwards chosen in
        let v2 : PartsVisit (Direct (IsLeafRead read)) nodes (Some given) (only_row (rows.from + k) bits) left = subst (PartsVisit (Direct (IsLeafRead read)) nodes (Some given) (only_row (rows.from + k) bits)) (sym (e ∙ ap (λ (p : Part). p ∷ behind) same)) (inl (row_alone (Direct (IsLeafRead read)) nodes given bits rows forwards k chosen v)) in
        (rows.from + k, is ∙ far_from k, g.1, placed_up nodes good given n known shape has start bits (Direct (IsLeafRead read)) (rows.from + k) g.1 (far.below read (only_row (rows.from + k) bits) v2))

    inside_up : (read : LeafRead) (at : ℕ) → IsInsideAt nodes given rows.child rows.start (slice_range bits rows.from rows.to) (last_at (moved spot rows.from)) read at → IsInsideAt nodes given n start bits (last_at spot) read at
    inside_up read at (k, is, chosen, v) =
        let g = range_place bits rows.from rows.to k forwards chosen in
        let v2 : PartsVisit (Inside (IsLeafRead read)) nodes (Some given) (only_row (rows.from + k) bits) left = subst (PartsVisit (Inside (IsLeafRead read)) nodes (Some given) (only_row (rows.from + k) bits)) (sym (e ∙ ap (λ (p : Part). p ∷ behind) same)) (inl (row_alone (Inside (IsLeafRead read)) nodes given bits rows forwards k chosen v)) in
        (rows.from + k, is ∙ moved_last spot rows.from k, g.1, placed_up nodes good given n known shape has start bits (Inside (IsLeafRead read)) (rows.from + k) g.1 (far.below_inside read (only_row (rows.from + k) bits) v2))

    up : (need : PlacedRead) → IsPlacedAt nodes given rows.child rows.start (slice_range bits rows.from rows.to) (moved spot rows.from) need → IsPlacedAt nodes given n start bits spot need
    up need (inl (first, last)) = inl (direct_up (first_at (moved spot rows.from)) (first_at spot) (moved_first spot rows.from) (read_of need) need.from first, direct_up (last_at (moved spot rows.from)) (last_at spot) (moved_last spot rows.from) (read_of need) need.last last)
    up need (inr (is, last)) = inr (is, inside_up (read_of need) need.last last)

    by_direct : (read : LeafRead) (place : ℕ) → slice_get bits place ≡ Some true → PartVisits (Direct (IsLeafRead read)) nodes (Some given) (only_row place bits) (parts.Rows rows) ⊎ PartsVisit (Direct (IsLeafRead read)) nodes (Some given) (only_row place bits) behind →
        Covers new read (first_at spot place) (last_at spot place) ⊎ PartsVisit (Direct (IsLeafRead read)) nodes (Some given) (only_row place bits) behind
    by_direct read place at (inr w) = inr w
    by_direct read place at (inl v) =
        let r = alone_row (Direct (IsLeafRead read)) nodes given bits rows forwards place at v in
        let first : first_at (moved spot rows.from) r.0 ≡ first_at spot place = moved_first spot rows.from r.0 ∙ ap (first_at spot) r.1 in
        let last : last_at (moved spot rows.from) r.0 ≡ last_at spot place = moved_last spot rows.from r.0 ∙ ap (last_at spot) r.1 in
        inl (subst (λ (k : ℕ). Covers new read k (last_at spot place)) first (subst (Covers new read (first_at (moved spot rows.from) r.0)) last (here.direct read r.0 r.2 r.3)))

    by_inside : (read : LeafRead) (place : ℕ) → slice_get bits place ≡ Some true → PartVisits (Inside (IsLeafRead read)) nodes (Some given) (only_row place bits) (parts.Rows rows) ⊎ PartsVisit (Inside (IsLeafRead read)) nodes (Some given) (only_row place bits) behind →
        Covers new read 0 (last_at spot place) ⊎ PartsVisit (Inside (IsLeafRead read)) nodes (Some given) (only_row place bits) behind
    by_inside read place at (inr w) = inr w
    by_inside read place at (inl v) =
        let r = alone_row (Inside (IsLeafRead read)) nodes given bits rows forwards place at v in
        inl (subst (Covers new read 0) (moved_last spot rows.from r.0 ∙ ap (last_at spot) r.1) (here.inside read r.0 r.2 r.3))

-- one part more that is read whole
pub whole_so_far : (nodes : List Node) → IsGoodTable nodes → (given : List Kept) (n : ℕ) → n < length nodes → (shape : Shape) → HasShape nodes n shape → (start : ℕ) (bits : List Bool) (ends : Ends) → AreEnds bits ends → (spot : Spot) (left behind : List Part) (part : Part) (whole child : ℕ) → left ≡ part ∷ behind → part ≡ parts.Whole whole child → (old mid new : List PlacedRead) →
    PlacedSoFar nodes given n start bits spot (parts_of nodes n start (length bits)) left old mid → AddsUnder nodes given whole child (last_at spot ends.last) mid new →
    PlacedSoFar nodes given n start bits spot (parts_of nodes n start (length bits)) behind old new
whole_so_far nodes good given n known shape has start bits ends are spot left behind part whole child e same old mid new far here = record {
  only = λ need h. ⊎_elim (λ (m : Among need mid). far.only need m) (λ p. inr (up need p)) (here.only need h);
  kept = λ need h. here.kept need (far.kept need h);
  below = λ read mask v. far.below read mask (subst (PartsVisit (Direct (IsLeafRead read)) nodes (Some given) mask) (sym (e ∙ ap (λ (p : Part). p ∷ behind) same)) (inr v));
  below_inside = λ read mask v. far.below_inside read mask (subst (PartsVisit (Inside (IsLeafRead read)) nodes (Some given) mask) (sym (e ∙ ap (λ (p : Part). p ∷ behind) same)) (inr v));
  direct = λ read place at v. ⊎_elim (λ (c : Covers mid read (first_at spot place) (last_at spot place)). inl (more_cover mid new here.kept read (first_at spot place) (last_at spot place) c)) (λ w. by_direct read place (subst (PartsVisit (Direct (IsLeafRead read)) nodes (Some given) (only_row place bits)) (e ∙ ap (λ (p : Part). p ∷ behind) same) w)) (far.direct read place at v);
  inside = λ read place at v. ⊎_elim (λ (c : Covers mid read 0 (last_at spot place)). inl (more_cover mid new here.kept read 0 (last_at spot place) c)) (λ w. by_inside read place at (subst (PartsVisit (Inside (IsLeafRead read)) nodes (Some given) (only_row place bits)) (e ∙ ap (λ (p : Part). p ∷ behind) same) w)) (far.inside read place at v);
  leaves = λ h. here.leaves (far.leaves h);
}
  where
    up : (need : PlacedRead) → (need.from ≡ 0) × (need.last ≡ last_at spot ends.last) × IsUnderWhole nodes (Some given) whole (IsLeafRead (read_of need)) child → IsPlacedAt nodes given n start bits spot need
    up need (is, last, w) =
        let v2 : PartsVisit (Inside (IsLeafRead (read_of need))) nodes (Some given) (only_row ends.last bits) left = subst (PartsVisit (Inside (IsLeafRead (read_of need))) nodes (Some given) (only_row ends.last bits)) (sym (e ∙ ap (λ (p : Part). p ∷ behind) same)) (inl (w.0, (w.1.0, w.1.1, inside (IsLeafRead (read_of need)) (plan_at nodes child) w.1.0 w.1.2))) in
        inr (is, (ends.last, last, are.last, placed_up nodes good given n known shape has start bits (Inside (IsLeafRead (read_of need))) ends.last are.last (far.below_inside (read_of need) (only_row ends.last bits) v2)))

    by_direct : (read : LeafRead) (place : ℕ) → PartVisits (Direct (IsLeafRead read)) nodes (Some given) (only_row place bits) (parts.Whole whole child) ⊎ PartsVisit (Direct (IsLeafRead read)) nodes (Some given) (only_row place bits) behind →
        Covers new read (first_at spot place) (last_at spot place) ⊎ PartsVisit (Direct (IsLeafRead read)) nodes (Some given) (only_row place bits) behind
    by_direct read place (inr w) = inr w
    by_direct read place (inl w) = absurd (none_direct read (plan_at nodes child) w.1.0 w.1.2)

    by_inside : (read : LeafRead) (place : ℕ) → slice_get bits place ≡ Some true → PartVisits (Inside (IsLeafRead read)) nodes (Some given) (only_row place bits) (parts.Whole whole child) ⊎ PartsVisit (Inside (IsLeafRead read)) nodes (Some given) (only_row place bits) behind → Covers new read 0 (last_at spot place) ⊎ PartsVisit (Inside (IsLeafRead read)) nodes (Some given) (only_row place bits) behind
    by_inside read place at (inr w) = inr w
    by_inside read place at (inl w) =
        let late : place ≤ ends.last = are.greatest place at in
        let c = here.all read (w.0, (w.1.0, w.1.1, inside_out read (plan_at nodes child) w.1.0 w.1.2)) in
        let far_off : last_at spot ends.last ≤ c.0.last = c.4 in
        let later : last_at spot place ≤ last_at spot ends.last = last_later spot place ends.last late in
        inl (c.0, c.1, c.2, c.3, omega arith)

-- one part more, all of whose rows are read
pub zones_so_far : (nodes : List Node) → IsGoodTable nodes → (given : List Kept) (n : ℕ) → n < length nodes → (shape : Shape) → HasShape nodes n shape → (start : ℕ) (bits : List Bool) (ends : Ends) → AreEnds bits ends → (spot : Spot) (left behind : List Part) (part : Part) (child : ℕ) → left ≡ part ∷ behind → part ≡ parts.All child → (old mid new : List PlacedRead) →
    PlacedSoFar nodes given n start bits spot (parts_of nodes n start (length bits)) left old mid → AddsPlaced nodes given child 0 (all_rows (node_at nodes child).rows) (Whichever (ends_at spot ends)) mid new →
    PlacedSoFar nodes given n start bits spot (parts_of nodes n start (length bits)) behind old new
zones_so_far nodes good given n known shape has start bits ends are spot left behind part child e same old mid new far here = record {
  only = λ need h. ⊎_elim (λ (m : Among need mid). far.only need m) (λ p. inr (up need p)) (here.only need h);
  kept = λ need h. here.kept need (far.kept need h);
  below = λ read mask v. far.below read mask (all (Direct (IsLeafRead read)) mask (inr v));
  below_inside = λ read mask v. far.below_inside read mask (all (Inside (IsLeafRead read)) mask (inr v));
  direct = λ read place at v. ⊎_elim (λ (c : Covers mid read (first_at spot place) (last_at spot place)). inl (more_cover mid new here.kept read (first_at spot place) (last_at spot place) c)) (λ w. by_direct read place at (apart (Direct (IsLeafRead read)) (only_row place bits) w)) (far.direct read place at v);
  inside = λ read place at v. ⊎_elim (λ (c : Covers mid read 0 (last_at spot place)). inl (more_cover mid new here.kept read 0 (last_at spot place) c)) (λ w. by_inside read place at (apart (Inside (IsLeafRead read)) (only_row place bits) w)) (far.inside read place at v);
  leaves = λ h. here.leaves (far.leaves h);
}
  where
    zones : List Bool
    zones = all_rows (node_at nodes child).rows

    all : (P : Test) (mask : List Bool) → PartsVisit P nodes (Some given) mask (parts.All child ∷ behind) → PartsVisit P nodes (Some given) mask left
    all P mask v = subst (PartsVisit P nodes (Some given) mask) (sym (e ∙ ap (λ (p : Part). p ∷ behind) same)) v

    apart : (P : Test) (mask : List Bool) → PartsVisit P nodes (Some given) mask left → PartVisits P nodes (Some given) mask (parts.All child) ⊎ PartsVisit P nodes (Some given) mask behind
    apart P mask v = subst (PartsVisit P nodes (Some given) mask) (e ∙ ap (λ (p : Part). p ∷ behind) same) v

    first_up : (read : LeafRead) (at : ℕ) → IsDirectAt nodes given child 0 zones (first_at (Whichever (ends_at spot ends))) read at → IsDirectAt nodes given n start bits (first_at spot) read at
    first_up read at (k, is, chosen, v) = (ends.first, is, are.first, placed_up nodes good given n known shape has start bits (Direct (IsLeafRead read)) ends.first are.first (far.below read (only_row ends.first bits) (all (Direct (IsLeafRead read)) (only_row ends.first bits) (inl (k, chosen, v)))))

    last_up : (read : LeafRead) (at : ℕ) → IsDirectAt nodes given child 0 zones (last_at (Whichever (ends_at spot ends))) read at → IsDirectAt nodes given n start bits (last_at spot) read at
    last_up read at (k, is, chosen, v) = (ends.last, is, are.last, placed_up nodes good given n known shape has start bits (Direct (IsLeafRead read)) ends.last are.last (far.below read (only_row ends.last bits) (all (Direct (IsLeafRead read)) (only_row ends.last bits) (inl (k, chosen, v)))))

    inside_up : (read : LeafRead) (at : ℕ) → IsInsideAt nodes given child 0 zones (last_at (Whichever (ends_at spot ends))) read at → IsInsideAt nodes given n start bits (last_at spot) read at
    inside_up read at (k, is, chosen, v) = (ends.last, is, are.last, placed_up nodes good given n known shape has start bits (Inside (IsLeafRead read)) ends.last are.last (far.below_inside read (only_row ends.last bits) (all (Inside (IsLeafRead read)) (only_row ends.last bits) (inl (k, chosen, v)))))

    up : (need : PlacedRead) → IsPlacedAt nodes given child 0 zones (Whichever (ends_at spot ends)) need → IsPlacedAt nodes given n start bits spot need
    up need (inl (first, last)) = inl (first_up (read_of need) need.from first, last_up (read_of need) need.last last)
    up need (inr (is, last)) = inr (is, inside_up (read_of need) need.last last)

    by_direct : (read : LeafRead) (place : ℕ) → slice_get bits place ≡ Some true → PartVisits (Direct (IsLeafRead read)) nodes (Some given) (only_row place bits) (parts.All child) ⊎ PartsVisit (Direct (IsLeafRead read)) nodes (Some given) (only_row place bits) behind →
        Covers new read (first_at spot place) (last_at spot place) ⊎ PartsVisit (Direct (IsLeafRead read)) nodes (Some given) (only_row place bits) behind
    by_direct read place at (inr w) = inr w
    by_direct read place at (inl v) =
        let c = here.direct read v.0 v.1 v.2 in
        let early : c.0.from ≤ first_at spot ends.first = c.3 in
        let far_off : last_at spot ends.last ≤ c.0.last = c.4 in
        let sooner : first_at spot ends.first ≤ first_at spot place = first_later spot ends.first place (are.least place at) in
        let later : last_at spot place ≤ last_at spot ends.last = last_later spot place ends.last (are.greatest place at) in
        inl (c.0, c.1, c.2, omega arith, omega arith)

    by_inside : (read : LeafRead) (place : ℕ) → slice_get bits place ≡ Some true → PartVisits (Inside (IsLeafRead read)) nodes (Some given) (only_row place bits) (parts.All child) ⊎ PartsVisit (Inside (IsLeafRead read)) nodes (Some given) (only_row place bits) behind →
        Covers new read 0 (last_at spot place) ⊎ PartsVisit (Inside (IsLeafRead read)) nodes (Some given) (only_row place bits) behind
    by_inside read place at (inr w) = inr w
    by_inside read place at (inl v) =
        let c = here.inside read v.0 v.1 v.2 in
        let far_off : last_at spot ends.last ≤ c.0.last = c.4 in
        let later : last_at spot place ≤ last_at spot ends.last = last_later spot place ends.last (are.greatest place at) in
        inl (c.0, c.1, c.2, c.3, omega arith)

-- all parts were gone through
pub placed_done : (nodes : List Node) → IsGoodTable nodes → (given : List Kept) (n : ℕ) → n < length nodes → (shape : Shape) → HasShape nodes n shape → ((segment : ℕ) → shape ≡ shapes.Leaf segment → ⊥) → (start : ℕ) (bits : List Bool) (spot : Spot) (left : List Part) → left ≡ [] → (old new : List PlacedRead) →
    PlacedSoFar nodes given n start bits spot (parts_of nodes n start (length bits)) left old new → AddsPlaced nodes given n start bits spot old new
placed_done nodes good given n known shape has not start bits spot left e old new far = record {
  only = far.only;
  kept = far.kept;
  direct = λ read place at v. ⊎_elim (λ (c : Covers new read (first_at spot place) (last_at spot place)). c) (λ w. absurd (subst (PartsVisit (Direct (IsLeafRead read)) nodes (Some given) (only_row place bits)) e w))
      (far.direct read place at (down (Direct (IsLeafRead read)) (λ row own. leaf_alone nodes n known shape has not read (handed_by nodes (Some given)) row own) (λ row h. h) place at v));
  inside = λ read place at v. ⊎_elim (λ (c : Covers new read 0 (last_at spot place)). c) (λ w. absurd (subst (PartsVisit (Inside (IsLeafRead read)) nodes (Some given) (only_row place bits)) e w))
      (far.inside read place at (down (Inside (IsLeafRead read)) (λ row own. own) (λ row h. h) place at v));
  leaves = far.leaves;
}
  where
    down : (P : Test) → ((row : ℕ) → P (handed_by nodes (Some given)) (plan_at nodes n) row → ⊥) → NoGap P (handed_by nodes (Some given)) → (place : ℕ) → slice_get bits place ≡ Some true → Visits P (handed_by nodes (Some given)) (plan_at nodes n) (start + place) → PartsVisit P nodes (Some given) (only_row place bits) (parts_of nodes n start (length bits))
    down P none gap place at v =
        let F : ℕ → Type 0 = λ k. PartsVisit P nodes (Some given) (only_row place bits) (parts_of nodes n start k) in
        subst F (only_count place bits)
        (⊎_elim (λ (own : SomeOwn P (handed_by nodes (Some given)) (plan_at nodes n) start (only_row place bits)). absurd (none (start + own.0) own.2))
        (λ (p : PartsVisit P nodes (Some given) (only_row place bits) (parts_of nodes n start (length (only_row place bits)))). p)
        (parts_down nodes good (Some given) n known shape has start (only_row place bits) P gap (place, only_at place bits at, v)))
