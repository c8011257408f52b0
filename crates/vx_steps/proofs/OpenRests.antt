-- The needs of a split that has just been started are all open, in whatever order.
use Rattle.std.proofs.Common.{List, get_or, arith}
use Rattle.std.specs.List.{All}
use Rattle.std.specs.List.Sorted.{IsPermutation}
use Rattle.std.proofs.lemmas.List.Sorted.{All-permutation, IsPermutation-sym}
use Rattle.std.proofs.lemmas.Option.{slice_get-get_or}
use Rattle.vx_plan.proofs.Each.{each_at}
use Rattle.vx_steps.specs.declared.placed_reads.PlacedRead.{PlacedRead}
use Rattle.vx_steps.specs.Needed.{AreOpen}
use Rattle.vx_steps.specs.Needs.{Among}
use Rattle.vx_steps.proofs.PieceRows.{among_at, at_among}

moved : (xs ys : List PlacedRead) → IsPermutation xs ys → (x : PlacedRead) → Among x ys → Among x xs
moved xs ys permutes x among =
    let P : PlacedRead → Type 0 = λ y. Among y xs in
    let all : All (λ y. Among y xs) xs = λ i d less. at_among (get_or xs i d) xs i (slice_get-get_or xs i d less) in
    let there = among_at x ys among in
    each_at P ys there.0 x there.1 (All-permutation P xs ys permutes all)

pub open_first : (needs rest : List PlacedRead) → IsPermutation needs rest → AreOpen needs rest 0
open_first needs rest permutes = record {
  only = λ need among. (moved needs rest permutes need among, omega arith);
  all = λ need among late. moved rest needs (IsPermutation-sym needs rest permutes) need among;
}
