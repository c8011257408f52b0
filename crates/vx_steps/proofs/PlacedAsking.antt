-- Whether the rows whose reads are placed ask for whole values, part by part.
use Rattle.std.proofs.Common.{◌≡◌, ℕ, ◌<◌, inl, inr, ⊎_elim, Bool, List, [], ◌∷◌, Some, length, ap, ◌∙◌, subst}
use Rattle.std.specs.Prelude.{slice_range}
use Rattle.vx_picking.specs.Rows.{SelectsNone}
use Rattle.vx_plan.specs.declared.parts.ChildRows.{ChildRows}
use Rattle.vx_plan.specs.declared.parts.Part.{Part}
use Rattle.vx_plan.specs.declared.parts.Part.TheVariants as parts
use Rattle.vx_plan.specs.declared.shapes.Shape.{Shape}
use Rattle.vx_plan.specs.declared.shapes.Shape.TheVariants as shapes
use Rattle.vx_plan.specs.Kinds.{coding_of}
use Rattle.vx_plan.specs.Nodes.{Node}
use Rattle.vx_plan.specs.Parts.{parts_of}
use Rattle.vx_plan.specs.Plans.{filter_plan, plan_at, scan_plan}
use Rattle.vx_plan.specs.Reaches.{all_rows}
use Rattle.vx_plan.specs.Rules.{node_at}
use Rattle.vx_plan.specs.Shapes.{HasShape}
use Rattle.vx_plan.specs.Tables.{IsGoodTable}
use Rattle.vx_steps.specs.declared.leaf_reads.LeafRead.{LeafRead}
use Rattle.vx_steps.specs.declared.placed_reads.Ends.{Ends}
use Rattle.vx_steps.specs.Given.{handed_by}
use Rattle.vx_steps.specs.KeptData.{Kept}
use Rattle.vx_steps.specs.Placed.{AreEnds, AskForNone, IsLeafUnder}
use Rattle.vx_steps.specs.Visits.{IsWholeRead}
use Rattle.vx_steps.proofs.Parts.{all_rows_taken}
use Rattle.vx_steps.proofs.PartsAsking.{asked_parts, PartsAsk}
use Rattle.vx_steps.proofs.Shaping.{head_of, leaf_plan, same_law}
use Rattle.vx_steps.proofs.Visiting.{RowVisits}

-- what all parts ask for, those that are left ask for
abbrev pub AsksLeft : List Node → List Kept → List Bool → List Part → List Part → Type 0
AsksLeft nodes given bits all left = (number : ℕ) → PartsAsk nodes given bits all number → PartsAsk nodes given bits left number

-- one part more, whose rows ask for none
pub rows_ask_none : (nodes : List Node) (given : List Kept) (bits : List Bool) (all left behind : List Part) (part : Part) (rows : ChildRows) → left ≡ part ∷ behind → part ≡ parts.Rows rows → AskForNone nodes given rows.child rows.start (slice_range bits rows.from rows.to) → AsksLeft nodes given bits all left → AsksLeft nodes given bits all behind
rows_ask_none nodes given bits all left behind part rows e same none far number asks = rest (subst (λ (ps : List Part). PartsAsk nodes given bits ps number) (e ∙ ap (λ (p : Part). p ∷ behind) same) (far number asks))
  where
    rest : PartsAsk nodes given bits (parts.Rows rows ∷ behind) number → PartsAsk nodes given bits behind number
    rest (inl one) = absurd (none number one)
    rest (inr more) = more

-- one part more, none of whose rows asks for any
pub zones_ask_none : (nodes : List Node) (given : List Kept) (bits : List Bool) (all left behind : List Part) (part : Part) (child : ℕ) → left ≡ part ∷ behind → part ≡ parts.All child → AskForNone nodes given child 0 (all_rows (node_at nodes child).rows) → AsksLeft nodes given bits all left → AsksLeft nodes given bits all behind
zones_ask_none nodes given bits all left behind part child e same none far number asks = rest (subst (λ (ps : List Part). PartsAsk nodes given bits ps number) (e ∙ ap (λ (p : Part). p ∷ behind) same) (far number asks))
  where
    rest : PartsAsk nodes given bits (parts.All child ∷ behind) number → PartsAsk nodes given bits behind number
    rest (inl one) = absurd (none number one)
    rest (inr more) = more

-- all parts were gone through
pub all_ask_none : (nodes : List Node) → IsGoodTable nodes → (given : List Kept) (n : ℕ) → n < length nodes → (shape : Shape) → HasShape nodes n shape → (start : ℕ) (bits : List Bool) (ends : Ends) → AreEnds bits ends → (left : List Part) → left ≡ [] → AsksLeft nodes given bits (parts_of nodes n start (length bits)) left → AskForNone nodes given n start bits
all_ask_none nodes good given n known shape has start bits ends are left e far number asks = subst (λ (ps : List Part). PartsAsk nodes given bits ps number) e (far number (asked_parts nodes good given n known shape has start bits (ends.first, are.first) number asks))

pub leaf_asks_none : (nodes : List Node) (given : List Kept) (n segment start : ℕ) (bits : List Bool) → n < length nodes → HasShape nodes n (shapes.Leaf segment) → AskForNone nodes given n start bits
leaf_asks_none nodes given n segment start bits known has number asks =
    let visit : RowVisits (IsWholeRead number) (handed_by nodes (Some given)) start bits (scan_plan (head_of nodes n) segment (coding_of (node_at nodes n).kind)) = subst (RowVisits (IsWholeRead number) (handed_by nodes (Some given)) start bits) (leaf_plan nodes n segment known has).law asks in
    visit.2

-- a filter over a plan whose rows ask for none
same_asks_none : (nodes : List Node) (given : List Kept) (n child start : ℕ) (bits : List Bool) → n < length nodes → HasShape nodes n (shapes.Same child) → AskForNone nodes given child start bits → AskForNone nodes given n start bits
same_asks_none nodes given n child start bits known has none number asks = below (subst (RowVisits (IsWholeRead number) (handed_by nodes (Some given)) start bits) (same_law nodes n child known has) asks)
  where
    below : RowVisits (IsWholeRead number) (handed_by nodes (Some given)) start bits (filter_plan (head_of nodes n) (plan_at nodes child)) → ⊥
    below (place, at, inl own) = own
    below (place, at, inr v) = none number (place, at, v)

pub leaf_under_asks_none : (nodes : List Node) (given : List Kept) (n : ℕ) (leaf : LeafRead) (start : ℕ) (bits : List Bool) → n < length nodes → IsLeafUnder nodes n leaf → AskForNone nodes given n start bits
leaf_under_asks_none nodes given n leaf start bits known under =
    let F : ℕ → Type 0 = λ k. AskForNone nodes given k start bits in
    let none : AskForNone nodes given leaf.leaf start bits = leaf_asks_none nodes given leaf.leaf leaf.segment start bits under.0 under.1 in
    ⊎_elim (λ (e : leaf.leaf ≡ n). subst F e none) (λ (has : HasShape nodes n (shapes.Same leaf.leaf)). same_asks_none nodes given n leaf.leaf start bits known has none) under.2

pub none_ask_none : (nodes : List Node) (given : List Kept) (n start : ℕ) (bits : List Bool) → SelectsNone bits → AskForNone nodes given n start bits
none_ask_none nodes given n start bits none number asks = none asks.0 asks.1

-- the range of all rows
pub all_rows_ask_none : (nodes : List Node) (given : List Kept) (n start : ℕ) (bits : List Bool) (from to : ℕ) → from ≡ 0 → to ≡ length bits → AskForNone nodes given n start bits → AskForNone nodes given n start (slice_range bits from to)
all_rows_ask_none nodes given n start bits from to first last none = subst (AskForNone nodes given n start) (all_rows_taken bits from to first last) none
