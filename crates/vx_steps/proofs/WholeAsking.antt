-- Which whole values selected rows ask for: they are there, and no others were added.
use Rattle.std.proofs.Common.{◌≡◌, ℕ, ◌<◌, ◌⊎◌, inl, inr, ⊎_elim, Bool, List, [], ◌∷◌, ◌++◌, Some, length, sym, ap, ◌∙◌, subst, append_assoc}
use Rattle.vx_picking.specs.Rows.{SelectsSome}
use Rattle.vx_plan.specs.declared.parts.Part.{Part}
use Rattle.vx_plan.specs.declared.shapes.Shape.{Shape}
use Rattle.vx_plan.specs.Nodes.{Node}
use Rattle.vx_plan.specs.Parts.{parts_of}
use Rattle.vx_plan.specs.Plans.{plan_at, filter_plan}
use Rattle.vx_plan.specs.Shapes.{HasShape}
use Rattle.vx_plan.specs.Tables.{IsGoodTable}
use Rattle.vx_steps.specs.declared.wholes.Wholes.{Wholes}
use Rattle.vx_steps.specs.Given.{handed_by}
use Rattle.vx_steps.specs.KeptData.{Kept}
use Rattle.vx_steps.specs.Kept.{IsKept}
use Rattle.vx_steps.specs.Visits.{IsWholeRead}
use Rattle.vx_steps.specs.Wholes.{AddsAsked, AddsOnly, Asks, AsksNone, AreThere, IsThere, KeepsValues, UsesGiven}
use Rattle.vx_steps.proofs.Decoding.{adds_then}
use Rattle.vx_steps.proofs.PartsAsking.{asked_parts, IsPartAmong, PartAsks, PartsAsk}
use Rattle.vx_steps.proofs.Selecting.{only_right}
use Rattle.vx_steps.proofs.Shaping.{head_of}
use Rattle.vx_steps.proofs.Visiting.{RowVisits}

-- ---- nothing but what was asked for

only_by : (P Q : ℕ → Type 0) (old new : List Kept) → ((n : ℕ) → P n → Q n) → AddsOnly P old new → AddsOnly Q old new
only_by P Q old new to adds n kept = ⊎_elim (λ (before : IsKept old n). inl before) (λ (p : P n). inr (to n p)) (adds n kept)

-- only what the plan asks for was added
pub asked_by : (nodes : List Node) (given : List Kept) (n start : ℕ) (bits : List Bool) (P : ℕ → Type 0) → ((m : ℕ) → P m → Asks nodes given n start bits m) → (old new : Wholes) → AddsOnly P old.used new.used → AddsOnly P old.made new.made → AddsAsked nodes given n start bits old new
asked_by nodes given n start bits P to old new used made = record {
  used = only_by P (Asks nodes given n start bits) old.used new.used to used;
  made = only_by P (Asks nodes given n start bits) old.made new.made to made;
}

pub asked_then : (nodes : List Node) (given : List Kept) (n start : ℕ) (bits : List Bool) (old mid new : Wholes) → AddsAsked nodes given n start bits old mid → AddsAsked nodes given n start bits mid new → AddsAsked nodes given n start bits old new
asked_then nodes given n start bits old mid new first second = record {
  used = adds_then (Asks nodes given n start bits) old.used mid.used new.used first.used second.used;
  made = adds_then (Asks nodes given n start bits) old.made mid.made new.made first.made second.made;
}

-- ---- nothing is asked for

pub none_same : (nodes : List Node) (n child : ℕ) → plan_at nodes n ≡ filter_plan (head_of nodes n) (plan_at nodes child) → AsksNone nodes child → AsksNone nodes n
none_same nodes n child law none given start bits m r =
    let r2 : RowVisits (IsWholeRead m) (handed_by nodes (Some given)) start bits (filter_plan (head_of nodes n) (plan_at nodes child)) = subst (RowVisits (IsWholeRead m) (handed_by nodes (Some given)) start bits) law r in
    none given start bits m (r2.0, r2.1, only_right r2.2)

-- ---- one part after another

-- the second are the last of the first
abbrev pub AreLast : List Part → List Part → Type 0
AreLast all left = (front : List Part) × (all ≡ front ++ left)

pub last_behind : (all left behind : List Part) (part : Part) → left ≡ part ∷ behind → AreLast all left → AreLast all behind
last_behind all left behind part e (front, is) = (front ++ part ∷ [], is ∙ ap (λ (ps : List Part). front ++ ps) e ∙ sym (append_assoc front (part ∷ []) behind))

pub next_among : (all left behind : List Part) (part made : Part) → left ≡ part ∷ behind → part ≡ made → AreLast all left → IsPartAmong made all
next_among all left behind part made e same (front, is) = (front, behind, is ∙ ap (λ (ps : List Part). front ++ ps) e ∙ ap (λ (p : Part). front ++ p ∷ behind) same)

more_there : (nodes : List Node) (leaves : List Kept) (offset : ℕ) (given : List Kept) (old new : Wholes) → KeepsValues nodes leaves offset old.made new.made → UsesGiven given old.used new.used → (n : ℕ) → IsThere given old n → IsThere given new n
more_there nodes leaves offset given old new keeps uses n (inl (there, (column, at))) = inl (there, (column, uses.grows n column at))
more_there nodes leaves offset given old new keeps uses n (inr (none, (column, at))) = inr (none, (column, keeps.grows n column at))

-- what the parts ask for is there, or those that are left ask for it
abbrev pub ThereOrLeft : List Node → List Kept → List Bool → Wholes → List Part → List Part → Type 0
ThereOrLeft nodes given bits wholes all left = (m : ℕ) → PartsAsk nodes given bits all m → IsThere given wholes m ⊎ PartsAsk nodes given bits left m

pub next_there : (nodes : List Node) (leaves : List Kept) (offset : ℕ) (given : List Kept) (bits : List Bool) (old new : Wholes) → KeepsValues nodes leaves offset old.made new.made → UsesGiven given old.used new.used → (all left behind : List Part) (part made : Part) → left ≡ part ∷ behind → part ≡ made →
    ThereOrLeft nodes given bits old all left → ((m : ℕ) → PartAsks nodes given bits made m → IsThere given new m) → ThereOrLeft nodes given bits new all behind
next_there nodes leaves offset given bits old new keeps uses all left behind part made e same far here m asks =
    ⊎_elim (λ (there : IsThere given old m). inl (more_there nodes leaves offset given old new keeps uses m there)) (λ (rest : PartsAsk nodes given bits left m). by (subst (λ (ps : List Part). PartsAsk nodes given bits ps m) e rest)) (far m asks)
  where
    by : PartsAsk nodes given bits (part ∷ behind) m → IsThere given new m ⊎ PartsAsk nodes given bits behind m
    by (inl one) = inl (here m (subst (λ (p : Part). PartAsks nodes given bits p m) same one))
    by (inr rest) = inr rest

-- all parts were gone through
pub all_there : (nodes : List Node) → IsGoodTable nodes → (given : List Kept) (n : ℕ) → n < length nodes → (shape : Shape) → HasShape nodes n shape → (start : ℕ) (bits : List Bool) → SelectsSome bits → (wholes : Wholes) (left : List Part) → left ≡ [] → ThereOrLeft nodes given bits wholes (parts_of nodes n start (length bits)) left → AreThere nodes given wholes n start bits
all_there nodes good given n known shape has start bits some wholes left e far m asks =
    ⊎_elim (λ (there : IsThere given wholes m). there) (λ (rest : PartsAsk nodes given bits left m). absurd (subst (λ (ps : List Part). PartsAsk nodes given bits ps m) e rest)) (far m (asked_parts nodes good given n known shape has start bits some m asks))
