use Rattle.std.proofs.Common.{ℕ, ◌≡◌, zero, suc, List, [], length, replicate, ap, ◌∙◌, arith, rules}
use Rattle.std.specs.List.{AllByRecursion, range_with_len}
use Rattle.std.specs.List.Sorted.{IsNonDecreasing}
use Rattle.std.proofs.lemmas.List.{length-replicate}
use Rattle.std.proofs.lemmas.List.Sorted.{IsPermutation-refl}
use Rattle.vx_base.specs.ColumnCalls.{IsBool}
use Rattle.vx_expr.specs.Bound.{Bound}
use Rattle.vx_expr.specs.Filters.{IsFilter}
use Rattle.vx_expr.proofs.Reports.{first_sorted}
use Rattle.vx_expr.proofs.filters.FilterExpr.new.Goals as goal

-- no reports ascend
none_ascend : (count : ℕ) → AllByRecursion IsNonDecreasing (replicate count [])
none_ascend zero = tt
none_ascend (suc count) = (λ i j d le lt. absurd (omega arith), none_ascend count)

-- conjuncts without reports, in their first ordering
first_filter : (conjuncts : List Bound) (reports : List (List ℕ)) (ordering : List ℕ) (n m : ℕ) → AllByRecursion (λ (b : Bound). IsBool b.dtype) conjuncts → n ≡ length conjuncts → m ≡ length conjuncts → reports ≡ replicate n [] → ordering ≡ range_with_len 0 m → IsFilter (record { conjuncts = conjuncts; reports = reports; ordering = ordering })
first_filter conjuncts reports ordering n m truths p q e f = record {
  truths = truths;
  counted = ap length e ∙ length-replicate {A = List ℕ} n [] ∙ p;
  ascending = rw e (none_ascend n);
  ordered = rw (f, q) (IsPermutation-refl (range_with_len 0 (length conjuncts)));
  sorted = rw (e, f, p, q) (first_sorted (length conjuncts));
}

pub invariant_of-result : goal.invariant_of-result
invariant_of-result c =
    let count : c.len.result ≡ length c.split.new.conjuncts.items = omega (arith, c.len.ensures, c.split.new.conjuncts.ok.0) in
    let count_again : c.len-2.result ≡ length c.split.new.conjuncts.items = omega (arith, c.len-2.ensures, c.split.new.conjuncts.ok.0) in
    let truths : AllByRecursion (λ (b : Bound). IsBool b.dtype) c.split.new.conjuncts.items = search rules in
    first_filter c.split.new.conjuncts.items c.in_ok-reports.reports.items c.in_ok-ordering.ordering.items c.len.result c.len-2.result truths count count_again c.in_ok-reports.ensures c.in_ok-ordering.ensures
