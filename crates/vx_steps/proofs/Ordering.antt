-- Needs in the order of their places.
use Rattle.std.proofs.Common.{◌≡◌, ℕ, ◌+◌, inl, inr, ⊎_elim, Bool, true, List, [], ◌∷◌, Some, get_or, map, refl, ap, subst, arith}
use Rattle.std.specs.List.{slice_get, All}
use Rattle.std.specs.List.Sorted.{IsNonDecreasingBy, IsPermutation}
use Rattle.std.proofs.lemmas.List.Sorted.{All-permutation, IsPermutation-sym}
use Rattle.std.proofs.lemmas.Option.{get_or_from_slice_get, slice_get-get_or, slice_get_within}
use Rattle.vx_plan.proofs.Each.{each_at}
use Rattle.vx_plan.specs.Nodes.{Node}
use Rattle.vx_steps.specs.declared.leaf_reads.LeafRead.{LeafRead}
use Rattle.vx_steps.specs.declared.placed_reads.PlacedRead.{PlacedRead}
use Rattle.vx_steps.specs.declared.placed_reads.Spot.TheVariants.{Behind}
use Rattle.vx_steps.specs.KeptData.{Kept}
use Rattle.vx_steps.specs.Needs.{Among, AreLeaves}
use Rattle.vx_steps.specs.Pieces.{read_of, AreInOrder, ArePlaced, Covers, IsPlaced, ReadsDirectly, ReadsInside}
use Rattle.vx_steps.specs.Placed.{first_at, last_at, AddsPlaced, AreOfLeaves, IsDirectAt, IsInsideAt, IsPlacedAt}
use Rattle.vx_steps.proofs.PieceRows.{among_at, at_among}

permuted : (xs ys : List PlacedRead) → IsPermutation xs ys → (x : PlacedRead) → Among x ys → Among x xs
permuted xs ys permutes x among =
    let P : PlacedRead → Type 0 = λ y. Among y xs in
    let all : All (λ y. Among y xs) xs = λ i d less. at_among (get_or xs i d) xs i (slice_get-get_or xs i d less) in
    let there = among_at x ys among in
    each_at P ys there.0 x there.1 (All-permutation P xs ys permutes all)

pub in_order : (needs : List PlacedRead) → IsNonDecreasingBy (λ (need : PlacedRead). need.from) needs → AreInOrder needs
in_order needs sorted i j one other le at also =
    let first : get_or needs i one ≡ one = get_or_from_slice_get needs i one one at in
    let second : get_or needs j one ≡ other = get_or_from_slice_get needs j other one also in
    let less = sorted i j one le (slice_get_within needs j other also) in
    omega (arith, less, ap (λ (need : PlacedRead). need.from) first, ap (λ (need : PlacedRead). need.from) second)

-- what was added to none, in whatever order
pub placed_in_order : (nodes : List Node) (given : List Kept) (n start : ℕ) (bits : List Bool) (none added needs : List PlacedRead) → none ≡ [] → AddsPlaced nodes given n start bits (Behind 0) none added → IsPermutation added needs → ArePlaced nodes given n start bits needs
placed_in_order nodes given n start bits none added needs empty adds permutes = record {
  only = λ need among. ⊎_elim (λ (old : Among need none). absurd (let F : List PlacedRead → Type 0 = Among need in subst F empty old)) (λ (is : IsPlacedAt nodes given n start bits (Behind 0) need). own need is) (adds.only need (permuted added needs permutes need among));
  direct = λ read place at reads. moved read place place (let same : 0 + place ≡ place = omega arith in let F : ℕ → Type 0 = λ k. Covers added read k k in subst F same (adds.direct read place at reads));
  inside = λ read place at reads. moved read 0 place (let same : 0 + place ≡ place = omega arith in subst (Covers added read 0) same (adds.inside read place at reads));
}
  where
    moved : (read : LeafRead) (from to : ℕ) → Covers added read from to → Covers needs read from to
    moved read from to (need, among, is, early, late) = (need, permuted needs added (IsPermutation-sym added needs permutes) need among, is, early, late)

    direct_is : (read : LeafRead) (at : ℕ) → IsDirectAt nodes given n start bits (first_at (Behind 0)) read at → (slice_get bits at ≡ Some true) × ReadsDirectly nodes given n (start + at) read
    direct_is read at (place, is, chosen, reads) =
        let same : place ≡ at = omega (arith, is) in
        let F : ℕ → Type 0 = λ k. (slice_get bits k ≡ Some true) × ReadsDirectly nodes given n (start + k) read in
        subst F same (chosen, reads)

    inside_is : (read : LeafRead) (at : ℕ) → IsInsideAt nodes given n start bits (last_at (Behind 0)) read at → (slice_get bits at ≡ Some true) × ReadsInside nodes given n (start + at) read
    inside_is read at (place, is, chosen, reads) =
        let same : place ≡ at = omega (arith, is) in
        let F : ℕ → Type 0 = λ k. (slice_get bits k ≡ Some true) × ReadsInside nodes given n (start + k) read in
        subst F same (chosen, reads)

    own : (need : PlacedRead) → IsPlacedAt nodes given n start bits (Behind 0) need → IsPlaced nodes given n start bits need
    own need (inl (first, last)) =
        let a = direct_is (read_of need) need.from first in
        let b = direct_is (read_of need) need.last last in
        inl (a.0, a.1, b.0, b.1)
    own need (inr (is, last)) =
        let b = inside_is (read_of need) need.last last in
        inr (is, b.0, b.1)

-- each is of a leaf of the table
leaves_of_all : (nodes : List Node) (needs : List PlacedRead) → AreOfLeaves nodes needs → AreLeaves nodes (map read_of needs)
leaves_of_all nodes [] are = tt
leaves_of_all nodes (need ∷ needs) are = (are need (inl refl), leaves_of_all nodes needs (λ other among. are other (inr among)))

pub leaves_in_order : (nodes : List Node) (given : List Kept) (n start : ℕ) (bits : List Bool) (none added needs : List PlacedRead) → none ≡ [] → AddsPlaced nodes given n start bits (Behind 0) none added → IsPermutation added needs → AreLeaves nodes (map read_of needs)
leaves_in_order nodes given n start bits none added needs empty adds permutes =
    let nothing : AreOfLeaves nodes none = λ need among. absurd (let F : List PlacedRead → Type 0 = Among need in subst F empty among) in
    leaves_of_all nodes needs (λ need among. adds.leaves nothing need (permuted added needs permutes need among))
