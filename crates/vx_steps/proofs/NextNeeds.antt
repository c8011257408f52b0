-- How far the needs of a split are decoded: those in front of the next one are kept.
use Rattle.std.proofs.Common.{◌≡◌, ℕ, zero, suc, ◌+◌, ◌<◌, ◌≤◌, ⊎_elim, List, [], ◌∷◌, Some, None, length, map, refl, sym, ap, ◌∙◌, subst, arith}
use Rattle.std.specs.List.{slice_get}
use Rattle.std.specs.Option.{option_map}
use Rattle.std.proofs.lemmas.Bool.{cases_lt}
use Rattle.std.proofs.lemmas.Option.{same_Some, slice_get-map, slice_get_within}
use Rattle.vx_plan.specs.declared.shapes.Shape.TheVariants as shapes
use Rattle.vx_plan.specs.Nodes.{Node}
use Rattle.vx_plan.specs.Shapes.{HasShape}
use Rattle.vx_steps.specs.declared.errors.StepError.{StepError}
use Rattle.vx_steps.specs.declared.leaf_reads.LeafRead.{LeafRead}
use Rattle.vx_steps.specs.declared.placed_reads.PlacedRead.{PlacedRead}
use Rattle.vx_steps.specs.Delivered.{HasTornCause, KeepsLeaves}
use Rattle.vx_steps.specs.Jobs.{KeepsColumns}
use Rattle.vx_steps.specs.Kept.{kept_at, IsKept}
use Rattle.vx_steps.specs.KeptData.{Kept}
use Rattle.vx_steps.specs.Needs.{AreLeaves}
use Rattle.vx_steps.specs.Pieces.{read_of, IsLacking}
use Rattle.vx_steps.specs.ReadTable.{bytes_of}
use Rattle.vx_steps.specs.ReadTableData.{Wanted}
use Rattle.vx_steps.specs.Releasing.{ArePassed}
use Rattle.vx_steps.specs.Running.{AreDecoded}
use Rattle.vx_steps.specs.Tries.{IsTornAt, LacksNext, MovesNext}
use Rattle.vx_steps.proofs.Decoding.{not_kept_before}
use Rattle.vx_steps.proofs.Releasing.{not_kept}

-- ---- needs and reads at a place

pub got_read : (needs : List PlacedRead) (place : ℕ) (need : PlacedRead) → slice_get needs place ≡ Some need → slice_get (map read_of needs) place ≡ Some (read_of need)
got_read needs place need at = slice_get-map read_of needs place ∙ ap (option_map read_of) at

pub got_need : (needs : List PlacedRead) (place : ℕ) (read : LeafRead) → slice_get (map read_of needs) place ≡ Some read → (need : PlacedRead) × (slice_get needs place ≡ Some need) × (read_of need ≡ read)
got_need [] place read at = absurd cc
got_need (need ∷ needs) zero read at = (need, refl, same_Some (read_of need) read at)
got_need (need ∷ needs) (suc place) read at = got_need needs place read at

pub leaf_got : (nodes : List Node) (reads : List LeafRead) (place : ℕ) (read : LeafRead) → AreLeaves nodes reads → slice_get reads place ≡ Some read → (read.leaf < length nodes) × HasShape nodes read.leaf (shapes.Leaf read.segment)
leaf_got nodes [] place read are at = absurd cc
leaf_got nodes (first ∷ reads) zero read are at =
    let P : LeafRead → Type 0 = λ r. (r.leaf < length nodes) × HasShape nodes r.leaf (shapes.Leaf r.segment) in
    subst P (same_Some first read at) are.0
leaf_got nodes (first ∷ reads) (suc place) read are at = leaf_got nodes reads place read are.1 at

-- ---- the next need

pub moves_none : (needs : List PlacedRead) (leaves : List Kept) (next : ℕ) → MovesNext needs leaves next next
moves_none needs leaves next = record { forwards = omega arith; kept = λ place need low less at. absurd (omega arith) }

-- more leaves are kept
pub moves_kept : (needs : List PlacedRead) (old new : List Kept) (first next : ℕ) → KeepsColumns old new → MovesNext needs old first next → MovesNext needs new first next
moves_kept needs old new first next keeps moves = record {
  forwards = moves.forwards;
  kept = λ place need low less at.
      let k = moves.kept place need low less at in
      (k.0, keeps need.leaf k.0 k.1);
}

-- the next need is kept too
pub moves_on : (needs : List PlacedRead) (old new : List Kept) (first next : ℕ) (read : LeafRead) → slice_get (map read_of needs) next ≡ Some read → KeepsColumns old new → IsKept new read.leaf → MovesNext needs old first next → MovesNext needs new first (next + 1)
moves_on needs old new first next read here keeps kept moves =
    let low : first ≤ next = moves.forwards in
    record {
      forwards = omega arith;
      kept = λ place need from less at. ⊎_elim (λ (before : place < next). more place need from before at) (λ (behind : next ≤ place). own need (subst (λ (i : ℕ). slice_get needs i ≡ Some need) (last place less behind) at)) (cases_lt place next);
    }
  where
    last : (place : ℕ) → place < next + 1 → next ≤ place → place ≡ next
    last place less behind = omega arith

    more : (place : ℕ) (need : PlacedRead) → first ≤ place → place < next → slice_get needs place ≡ Some need → IsKept new need.leaf
    more place need from before at =
        let k = moves.kept place need from before at in
        (k.0, keeps need.leaf k.0 k.1)

    own : (need : PlacedRead) → slice_get needs next ≡ Some need → IsKept new need.leaf
    own need at =
        let K : LeafRead → Type 0 = λ r. IsKept new r.leaf in
        subst K (same_Some read (read_of need) (sym here ∙ got_read needs next need at)) kept

-- the needs that were passed are kept
pub moves_passed : (needs : List PlacedRead) (leaves : List Kept) (count first : ℕ) → first ≤ count → ArePassed leaves count (map read_of needs) → MovesNext needs leaves first count
moves_passed needs leaves count first forwards passed = record { forwards = forwards; kept = λ place need low less at. passed place (read_of need) less (got_read needs place need at) }

pub moves_all : (needs : List PlacedRead) (leaves : List Kept) (count first last : ℕ) → first ≤ last → length needs ≤ count → ArePassed leaves count (map read_of needs) → MovesNext needs leaves first last
moves_all needs leaves count first last forwards all passed = record { forwards = forwards; kept = λ place need low less at. passed place (read_of need) (within place need at) (got_read needs place need at) }
  where
    within : (place : ℕ) (need : PlacedRead) → slice_get needs place ≡ Some need → place < count
    within place need at =
        let inside : place < length needs = slice_get_within needs place need at in
        omega arith

-- so are those up to the next one, if those in front of the former one are
pub decoded_on : (needs : List PlacedRead) (old new : List Kept) (first next : ℕ) → KeepsColumns old new → AreDecoded old needs first → MovesNext needs new first next → AreDecoded new needs next
decoded_on needs old new first next keeps decoded moves place need less at =
    ⊎_elim
    (λ (before : place < first).
    let k = decoded place need before at in
    (k.0, keeps need.leaf k.0 k.1))
    (λ (behind : first ≤ place). moves.kept place need behind less at)
    (cases_lt place first)

-- a need that is not kept is not in front of the next one
pub not_behind : (needs : List PlacedRead) (old new : List Kept) (next place : ℕ) (read : LeafRead) → AreDecoded old needs next → KeepsColumns old new → slice_get (map read_of needs) place ≡ Some read → kept_at new read.leaf ≡ None → next ≤ place
not_behind needs old new next place read decoded keeps at none = ⊎_elim (λ (before : place < next). absurd (by before)) (λ (behind : next ≤ place). behind) (cases_lt place next)
  where
    by : place < next → ⊥
    by before =
        let need = got_need needs place read at in
        let k = decoded place need.0 before need.1 in
        let K : LeafRead → Type 0 = λ r. IsKept new r.leaf in
        not_kept new read.leaf none (subst K need.2 (k.0, keeps (need.0).leaf k.0 k.1))

-- ---- what decoding stops at

pub lacks_at : (nodes : List Node) (wanted : List Wanted) (old new : List Kept) (needs : List PlacedRead) (place : ℕ) (read : LeafRead) → slice_get (map read_of needs) place ≡ Some read → KeepsLeaves nodes wanted old new → kept_at new read.leaf ≡ None → bytes_of wanted read.segment ≡ None → LacksNext wanted old needs place
lacks_at nodes wanted old new needs place read at keeps none missing =
    let need = got_need needs place read at in
    let L : LeafRead → Type 0 = IsLacking old wanted in
    (need.0, need.1, subst L (sym need.2) (not_kept_before nodes wanted old new keeps read.leaf none, missing))

pub torn_at : (nodes : List Node) (wanted : List Wanted) (needs : List PlacedRead) (place : ℕ) (read : LeafRead) (error : StepError) → slice_get (map read_of needs) place ≡ Some read → HasTornCause nodes wanted read error → IsTornAt nodes wanted needs place error
torn_at nodes wanted needs place read error at torn =
    let need = got_need needs place read at in
    let T : LeafRead → Type 0 = λ r. HasTornCause nodes wanted r error in
    (need.0, need.1, subst T (sym need.2) torn)

-- ---- whether a row waits for the next need
