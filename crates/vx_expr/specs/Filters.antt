-- Filters: the conjuncts of a truth-valued expression, what was reported of them, and in which order they
-- are tried.
use Rattle.std.proofs.Common.{◌≡◌, ℕ, List}
use base.Stored.{Gv, gcons, Coded, coded_list}
use Rattle.std.specs.Bool.{OnTrue}
use Rattle.std.specs.Prelude.{◌+◌, ◌-◌, ◌/◌, ◌^◌, ◌<◌, ◌==◌, ◌≢◌, nat_lt, Bool, if◌then◌else◌, [], ◌∷◌, ◌++◌, length, replicate, sum, slice_get, slice_index_or, IsPermutation, MatchBool, IsSomeAnd}
use Rattle.std.specs.List.{AllByRecursion, list_all, range_with_len}
use Rattle.std.specs.List.Sorted.{IsSortedByKey, IsStableByKey, IsNonDecreasing}
use Rattle.std.specs.Ordering.{nat_cmp}
use Rattle.vx_base.specs.Codes.{coded_name}
use Rattle.vx_base.specs.ColumnCalls.{IsBool}
use Rattle.vx_base.specs.Data.{DataType}
use Rattle.vx_expr.specs.Types.{type_of}
use Rattle.vx_expr.specs.Bound.{Bound, coded_bound}
use Rattle.vx_expr.specs.Terms.{Term, conjunction}

-- the parts of conjunctions, from left to right
abbrev pub conjuncts_of : Term → List Term
conjuncts_of (conjunction a b) = conjuncts_of a ++ conjuncts_of b
conjuncts_of e = e ∷ []

-- the expression has a dtype of truth values over the root's dtype
abbrev pub IsTruth : DataType → Term → Type 0
IsTruth t e = IsSomeAnd (type_of t e) IsBool

-- The conjuncts; the reports of each, ascending, in permille of selected rows; and the numbers of the
-- conjuncts in the order in which they are tried.
pub record FilterData : Type 0 where
  pub conjuncts : List Bound
  pub reports : List (List ℕ)
  pub ordering : List ℕ

-- the numbers of the conjuncts, each once
abbrev pub IsOrdering : FilterData → Type 0
IsOrdering a = IsPermutation (range_with_len 0 (length a.conjuncts)) a.ordering

abbrev pub reports_of : List (List ℕ) → ℕ → List ℕ
reports_of reports conjunct = slice_index_or reports conjunct []

-- the report at a tenth of the ascending reports
abbrev pub quantile : List ℕ → ℕ
quantile reports = slice_index_or reports ((length reports - 1) / 10) 0

abbrev pub quantile_of : List (List ℕ) → ℕ → ℕ
quantile_of reports conjunct = quantile (reports_of reports conjunct)

-- whether each conjunct has a report
abbrev pub are_reported : List (List ℕ) → Bool
are_reported reports = list_all (λ one. nat_lt 0 (length one)) reports

-- once each conjunct has a report, the ordering is sorted by the quantiles
abbrev pub IsOrderedByReports : List (List ℕ) → List ℕ → Type 0
IsOrderedByReports reports ordering = OnTrue (are_reported reports) (IsSortedByKey (quantile_of reports) nat_cmp ordering)

-- what every filter keeps
pub record IsFilter (a : FilterData) : Type 0 where
  pub truths : AllByRecursion (λ c. IsBool c.dtype) a.conjuncts
  pub counted : length a.reports ≡ length a.conjuncts
  pub ascending : AllByRecursion IsNonDecreasing a.reports
  pub ordered : IsOrdering a
  pub sorted : IsOrderedByReports a.reports a.ordering

-- the same numbers by ascending key; those of equal keys keep their order
pub record IsStablySorted (key : ℕ → ℕ) (old new : List ℕ) : Type 0 where
  pub permuted : IsPermutation old new
  pub sorted : IsSortedByKey key nat_cmp new
  pub stable : IsStableByKey key nat_cmp old new

-- once each conjunct has a report, the ordering is sorted by the quantiles; before that it stays
abbrev pub IsReordered : List (List ℕ) → List ℕ → List ℕ → Type 0
IsReordered reports old new = MatchBool (are_reported reports) (IsStablySorted (quantile_of reports) old new) (new ≡ old)

-- one report more of a conjunct
pub record AddsReport (old : FilterData) (conjunct permille : ℕ) (new : FilterData) : Type 0 where
  pub conjuncts : new.conjuncts ≡ old.conjuncts
  pub others : (other : ℕ) → other ≢ conjunct → slice_get new.reports other ≡ slice_get old.reports other
  pub added : IsPermutation (permille ∷ reports_of old.reports conjunct) (reports_of new.reports conjunct)
  pub ascending : IsNonDecreasing (reports_of new.reports conjunct)
  pub ordered : IsReordered new.reports old.ordering new.ordering

-- a conjunct that has as many reports as a number of 64 bits counts takes no more
abbrev pub TakesReport : FilterData → ℕ → ℕ → FilterData → Type 0
TakesReport old conjunct permille new = MatchBool (length (reports_of old.reports conjunct) == 2 ^ 64 - 1) (new ≡ old) (AddsReport old conjunct permille new)

-- ---- reports as counters
-- the ascending reports, where so many are of each permille from the first on
abbrev pub counted_reports : ℕ → List ℕ → List ℕ
counted_reports first [] = []
counted_reports first (count ∷ counts) = replicate count first ++ counted_reports (first + 1) counts

-- the counters of the permilles up to 1000, the reports above them, and how many there are in all
pub record AreCounters (counts above : List ℕ) (total : ℕ) : Type 0 where
  pub permilles : length counts ≡ 1001
  pub beyond : AllByRecursion (λ report. 1000 < report) above
  pub summed : total ≡ sum counts + length above
  pub fits : total < 2 ^ 64

-- the ascending reports and one more, in its place
abbrev pub with_report : ℕ → List ℕ → List ℕ
with_report permille [] = permille ∷ []
with_report permille (report ∷ reports) = if nat_lt report permille then report ∷ with_report permille reports else permille ∷ report ∷ reports

-- the ascending reports but one that was added
abbrev pub without_report : ℕ → List ℕ → List ℕ
without_report permille [] = []
without_report permille (report ∷ reports) = if nat_lt report permille then report ∷ without_report permille reports else reports

-- there was a report, and the quantile is as it was
pub record KeepsQuantile (old new : List ℕ) : Type 0 where
  pub reported : 0 < length old
  pub same : quantile new ≡ quantile old

-- ---- as a tree of numbers
abbrev coded_conjuncts : Coded (List Bound)
coded_conjuncts = coded_list coded_bound

abbrev coded_reports : Coded (List (List ℕ))
coded_reports = coded_list coded_name

abbrev code_filter : FilterData → Gv
code_filter a = gcons (coded_conjuncts.code a.conjuncts) (gcons (coded_reports.code a.reports) (coded_name.code a.ordering))

pub filter_same : (a b : FilterData) → code_filter a ≡ code_filter b → a ≡ b
filter_same a b e =
    let p : a.conjuncts ≡ b.conjuncts = coded_conjuncts.inj a.conjuncts b.conjuncts cc in
    let q : a.reports ≡ b.reports = coded_reports.inj a.reports b.reports cc in
    let r : a.ordering ≡ b.ordering = coded_name.inj a.ordering b.ordering cc in
    λ i. record { conjuncts = p i; reports = q i; ordering = r i }

abbrev pub coded_filter : Coded FilterData
coded_filter = record { code = code_filter; inj = filter_same }
