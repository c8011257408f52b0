-- Rows that were sorted, of which each is kept once.
use Rattle.std.proofs.Common.{◌≡◌, ℕ, ◌+◌, ◌<◌, eqb, List, [], get_or, sym, subst, arith}
use Rattle.std.specs.List.{dedup}
use Rattle.std.specs.List.Retain.{DiffersFromLast, IsFiltered}
use Rattle.std.specs.List.Sorted.{IsPermutation, IsSorted}
use Rattle.std.specs.Ordering.{nat_cmp}
use Rattle.std.proofs.lemmas.List.{get_or_default}
use Rattle.std.proofs.lemmas.List.Filters.{dedup_is}
use Rattle.std.proofs.lemmas.List.Kept.{Contains-dedup_nat, Contains-from_dedup}
use Rattle.std.proofs.lemmas.List.Sorted.{Contains-permutation, IsPermutation-sym}
use Rattle.std.proofs.lemmas.Map.Keys.{IsStrictlyIncreasing-dedup}
use Rattle.vx_base.specs.Masks.{Ascend}
use Rattle.vx_split_rules.specs.Splits.{AreOrdered}

sorted_ascend : (sorted : List ℕ) → IsSorted nat_cmp sorted → Ascend (dedup eqb sorted)
sorted_ascend sorted up k d lt =
    let rows : List ℕ = dedup eqb sorted in
    let less : get_or rows k 0 < get_or rows (k + 1) 0 = IsStrictlyIncreasing-dedup sorted up k lt in
    let one : get_or rows k d ≡ get_or rows k 0 = get_or_default rows k d 0 (omega arith) in
    let two : get_or rows (k + 1) d ≡ get_or rows (k + 1) 0 = get_or_default rows (k + 1) d 0 lt in
    omega arith

pub ordered_by : (pushed sorted rows : List ℕ) → IsPermutation pushed sorted → IsSorted nat_cmp sorted → IsFiltered (DiffersFromLast eqb) [] sorted rows → AreOrdered pushed rows
ordered_by pushed sorted rows permuted up filtered =
    subst (AreOrdered pushed) (sym (dedup_is eqb sorted rows filtered)) (record {
      ascend = sorted_ascend sorted up;
      all = λ row has. Contains-dedup_nat sorted row (Contains-permutation pushed sorted row permuted has);
      only = λ row has. Contains-permutation sorted pushed row (IsPermutation-sym pushed sorted permuted) (Contains-from_dedup eqb sorted row has);
    })
