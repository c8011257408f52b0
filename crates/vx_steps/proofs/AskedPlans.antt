-- Which whole values selected rows ask for where nothing is handed in, part by part.
use Rattle.std.proofs.Common.{◌≡◌, ℕ, ◌<◌, ⊎_elim, Bool, List, [], ◌∷◌, length, sym, subst}
use Rattle.vx_picking.specs.Rows.{SelectsSome}
use Rattle.vx_plan.specs.declared.parts.Part.{Part}
use Rattle.vx_plan.specs.declared.shapes.Shape.{Shape}
use Rattle.vx_plan.specs.Nodes.{Node}
use Rattle.vx_plan.specs.Parts.{parts_of}
use Rattle.vx_plan.specs.Shapes.{HasShape}
use Rattle.vx_plan.specs.Tables.{IsGoodTable}
use Rattle.vx_steps.specs.Asked.{AreAskedPlans, AreSame}
use Rattle.vx_steps.specs.Needs.{Adds, Among}
use Rattle.vx_steps.specs.Wholes.{Asks, AsksNone}
use Rattle.vx_steps.proofs.EachOnce.{among_is, is_among}
use Rattle.vx_steps.proofs.PartsAsking.{asked_parts, parts_asked, PartAsks, PartsAsk}
use Rattle.vx_steps.proofs.Selecting.{adds_as, adds_none, adds_then}

pub none_asked : (nodes : List Node) (n start : ℕ) (bits : List Bool) → AsksNone nodes n → (old : List ℕ) → Adds (Asks nodes [] n start bits) old old
none_asked nodes n start bits none old = adds_none (Asks nodes [] n start bits) old (λ m r. none [] start bits m r)

-- ---- one part after another

-- what the next part asks for was added, and the parts behind it are left
pub next_asked : (nodes : List Node) (bits : List Bool) (left behind : List Part) (part made : Part) → left ≡ part ∷ behind → part ≡ made → (Goal : List ℕ → Type 0) (old mid : List ℕ) →
    ((new : List ℕ) → Adds (PartsAsk nodes [] bits left) old new → Goal new) → Adds (PartAsks nodes [] bits made) old mid → (new : List ℕ) → Adds (PartsAsk nodes [] bits behind) mid new → Goal new
next_asked nodes bits left behind part made e same Goal old mid far here new rest =
    let F : Part → Type 0 = λ p. Adds (PartAsks nodes [] bits p) old mid in
    let G : List Part → Type 0 = λ ps. Adds (PartsAsk nodes [] bits ps) old new in
    far new (subst G (sym e) (adds_then (PartAsks nodes [] bits part) (PartsAsk nodes [] bits behind) old mid new (subst F (sym same) here) rest))

-- all parts were gone through
pub parts_done : (nodes : List Node) (bits : List Bool) (left : List Part) → left ≡ [] → (Goal : List ℕ → Type 0) (new : List ℕ) → ((all : List ℕ) → Adds (PartsAsk nodes [] bits left) new all → Goal all) → Goal new
parts_done nodes bits left e Goal new far =
    let G : List Part → Type 0 = λ ps. Adds (PartsAsk nodes [] bits ps) new new in
    far new (subst G (sym e) (adds_none (PartsAsk nodes [] bits []) new (λ m none. none)))

-- the plan asks for what its parts do
pub parts_give : (nodes : List Node) → IsGoodTable nodes → (n : ℕ) → n < length nodes → (shape : Shape) → HasShape nodes n shape → (start : ℕ) (bits : List Bool) → SelectsSome bits → (old new : List ℕ) → Adds (PartsAsk nodes [] bits (parts_of nodes n start (length bits))) old new → Adds (Asks nodes [] n start bits) old new
parts_give nodes good n known shape has start bits some old new added =
    adds_as (PartsAsk nodes [] bits (parts_of nodes n start (length bits))) (Asks nodes [] n start bits) old new (λ m asks. parts_asked nodes good [] n known shape has start bits some m asks) (λ m asks. asked_parts nodes good [] n known shape has start bits some m asks) added

-- ---- the list of them

-- what was added to none is listed once
pub are_asked : (nodes : List Node) (n start : ℕ) (bits : List Bool) (numbers listed : List ℕ) → Adds (Asks nodes [] n start bits) [] numbers → AreSame listed numbers → AreAskedPlans nodes n start bits listed
are_asked nodes n start bits numbers listed added same m = (
  λ h. ⊎_elim (λ (none : Among m []). absurd none) (λ (asks : Asks nodes [] n start bits m). asks) (added.only m (is_among m numbers ((same m).0 h))),
  λ asks. (same m).1 (among_is m numbers (added.all m asks)),
)
