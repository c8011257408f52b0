use Rattle.std.proofs.Common.{rules, ◌≡◌, ◌<◌, ◌≤◌, ltb, refl, take, drop, sym, ◌∙◌, ltb-true, ltb-false, length, subst, ap, List, ℕ, slice_index_or, filter}
use Rattle.std.proofs.lemmas.List.{take_rest}
use Rattle.std.proofs.lemmas.List.Sorted.{IsPartitionPoint-from_clause}
use Rattle.vx_base.specs.Masks.{Ascend, is_among}
use Rattle.vx_splits.specs.Taken.{rows_between}
use Rattle.vx_splits.proofs.Rising.{within, Ascend-take, parted}
use Rattle.vx_splits.proofs.sorted_indices.StrictSorted.within.Goals as goal

pub returns : goal.returns
returns c =
    let xs = c.as_slice-values.result.now in
    let end = c.args.rows.now.end in
    let start = c.args.rows.now.start in
    let i = c.partition_point.result in
    let j = c.partition_point-2.result in
    let is : xs ≡ c.args.self.now = search rules in
    let up : Ascend xs = subst Ascend (sym c.as_slice-values.ensures.value) c.self.invariant in
    let point = IsPartitionPoint-from_clause (λ (x : ℕ). ltb x end) xs i c.partition_point.ensures.partitioned (parted end xs up) (λ a r q k. search rules) in
    let front_point = IsPartitionPoint-from_clause (λ (x : ℕ). ltb x start) (take i xs) j c.partition_point-2.ensures.partitioned (parted start (take i xs) (Ascend-take i xs c.partition_point.ensures.bound up)) (λ a r q k. search rules) in
    let lower = λ (k d : ℕ) (low : 0 ≤ k) (lt : k < i). ltb-true (slice_index_or xs k d) end (point.0 k d low lt) in
    let upper = λ (k d : ℕ) (low : i ≤ k) (lt : k < length xs). ltb-false (slice_index_or xs k d) end (point.1 k d low lt) in
    let front_lower = λ (k d : ℕ) (low : 0 ≤ k) (lt : k < j). ltb-true (slice_index_or (take i xs) k d) start (front_point.0 k d low lt) in
    let front_upper = λ (k d : ℕ) (low : j ≤ k) (lt : k < length (take i xs)). ltb-false (slice_index_or (take i xs) k d) start (front_point.1 k d low lt) in
    let part = within xs (drop j (take i xs)) start end i j up c.partition_point.ensures.bound lower upper front_lower front_upper c.partition_point-2.ensures.bound refl in
    take_rest (take i xs) j ∙ part ∙ ap (λ (ys : List ℕ). filter (is_among ys) (rows_between start end)) is
