-- What is decided before a scan begins.
use Rattle.std.proofs.Common.{◌≡◌, ℕ, zero, suc, ◌-◌, ◌<◌, ◌≤◌, inl, inr, Bool, true, false, List, [], ◌∷◌, Option, Some, None, refl, sym, ap, ◌∙◌, subst, arith}
use Rattle.std.specs.Prelude.{◌↔◌, ◌^◌, min, nat_lt, if◌then◌else◌, IsTrue}
use Rattle.std.proofs.lemmas.Bool.{cases_lt, lt-ltb, ltb-true}
use Rattle.vx_base.specs.Data.{DataType}
use Rattle.vx_base.proofs.ScriptTurns.{any_here, any_there}
use Rattle.vx_expr.specs.Bound.{Bound, IsBoundTo}
use Rattle.vx_expr.specs.Mentions.{uses_row_number}
use Rattle.std.specs.List.{Any, AllByRecursion, filter, range_with_len}
use Rattle.std.specs.declared.ops.Range.{Range}
use Rattle.vx_splits.specs.declared.selections.Selection.{Selection}
use Rattle.vx_splits.specs.Taken.{selected_rows, selects, taken_rows}
use Rattle.vx_scan.specs.Answer.{FileScan, limited, row_count, scan_rows, scan_pieces, size_of, pieces_of}
use Rattle.vx_scan.specs.Admission.{BeginsOver, HasWork, Overflows, range_or}
use Rattle.vx_scan.specs.Settings.{scan_by}
use Rattle.vx_scan.specs.Valid.{HasRows, IsBound, SelectsInside}
use Rattle.vx_layout.specs.declared.files.ScanFile.{ScanFile}
use Rattle.vx_scan.specs.declared.settings.Settings.{Settings}

-- ---- the range

pub has_rows : (range : Option (Range ℕ)) (count : ℕ) (rows : Range ℕ) → rows ≡ range_or range count → rows.start < rows.end → HasRows range count
has_rows None count rows is some = let e : rows.end ≡ count = ap (λ (r : Range ℕ). r.end) is in omega (arith, e, some)
has_rows (Some range) count rows is some =
    let s : rows.start ≡ range.start = ap (λ (r : Range ℕ). r.start) is in
    let e : rows.end ≡ range.end = ap (λ (r : Range ℕ). r.end) is in
    omega (arith, s, e, some)

pub has_none : (range : Option (Range ℕ)) (count : ℕ) (rows : Range ℕ) → rows ≡ range_or range count → rows.end ≤ rows.start → HasRows range count → ⊥
has_none None count rows is none some =
    let s : rows.start ≡ 0 = ap (λ (r : Range ℕ). r.start) is in
    let e : rows.end ≡ count = ap (λ (r : Range ℕ). r.end) is in
    omega (arith, s, e, none, some)
has_none (Some range) count rows is none some =
    let s : rows.start ≡ range.start = ap (λ (r : Range ℕ). r.start) is in
    let e : rows.end ≡ range.end = ap (λ (r : Range ℕ). r.end) is in
    omega (arith, s, e, none, some)

-- the rows of the range that is cut to the file's are those of the scan
pub cut_rows : (selection : Selection) (range : Option (Range ℕ)) (count start end : ℕ) (rows : Range ℕ) → rows ≡ range_or range count → start ≡ rows.start → end ≡ min rows.end count → selected_rows selection start end ≡ taken_rows selection range count
cut_rows selection None count start end rows is first last =
    let s : start ≡ 0 = first ∙ ap (λ (r : Range ℕ). r.start) is in
    let e : end ≡ count = last ∙ (ap (λ (r : Range ℕ). min r.end count) is ∙ omega arith) in
    λ i. selected_rows selection (s i) (e i)
cut_rows selection (Some range) count start end rows is first last =
    let s : start ≡ range.start = first ∙ ap (λ (r : Range ℕ). r.start) is in
    let e : end ≡ min range.end count = last ∙ ap (λ (r : Range ℕ). min r.end count) is in
    λ i. selected_rows selection (s i) (e i)

none_between : (selection : Selection) (start end : ℕ) → end ≤ start → selected_rows selection start end ≡ []
none_between selection start end none = let e : end - start ≡ 0 = omega (arith, none) in ap (λ (n : ℕ). filter (selects selection) (range_with_len start n)) e

at_most : (start end : ℕ) → (start < end → ⊥) → end ≤ start
at_most start end none = elim (cases_lt start end) [ inl less ↦ absurd (none less) | inr over ↦ over ]

-- an empty range has no rows
no_rows : (selection : Selection) (range : Option (Range ℕ)) (count : ℕ) → (HasRows range count → ⊥) → taken_rows selection range count ≡ []
no_rows selection None count none = none_between selection 0 count (at_most 0 count none)
no_rows selection (Some range) count none = none_between selection range.start (min range.end count) (let under : range.end ≤ range.start = at_most range.start range.end none in omega (arith, under))

limited_none : (limit : Option ℕ) → limited limit [] ≡ []
limited_none None = refl
limited_none (Some zero) = refl
limited_none (Some (suc limit)) = refl

-- so a scan of one has none
pub no_scan_rows : (scan : FileScan) → (HasRows scan.range (row_count scan) → ⊥) → scan_rows scan ≡ []
no_scan_rows scan none = ap (limited scan.limit) (no_rows scan.selection scan.range (row_count scan) none) ∙ limited_none scan.limit

-- without rows there are no pieces
pub no_pieces : (scan : FileScan) → scan_rows scan ≡ [] → scan_pieces scan ≡ []
no_pieces scan none = ap (pieces_of (size_of scan)) none

-- ---- rows past the last one

all_below : (count : ℕ) (rows : List ℕ) → (Any (λ row. count ≤ row) rows → ⊥) → AllByRecursion (λ row. row < count) rows
all_below count [] none = tt
all_below count (row ∷ rows) none = (
  elim (cases_lt row count) [ inl less ↦ less | inr over ↦ absurd (none (any_here (λ n. count ≤ n) row rows over)) ],
  all_below count rows (λ any. none (any_there (λ n. count ≤ n) row rows any)),
)

none_past : (count : ℕ) (rows : List ℕ) → AllByRecursion (λ row. row < count) rows → Any (λ row. count ≤ row) rows → ⊥
none_past count [] inside (k, x, below, at, past) = omega (arith, below)
none_past count (row ∷ rows) inside (zero, x, below, at, past) = let e : row ≡ x = at in let less = inside.0 in omega (arith, e, less, past)
none_past count (row ∷ rows) inside (suc k, x, below, at, past) = none_past count rows inside.1 (k, x, omega (arith, below), at, past)

-- ones that aren't known to be outside are inside
pub is_inside : (selection : Selection) (range : Option (Range ℕ)) (count : ℕ) (b : Bool) → (IsTrue b ↔ (SelectsInside selection range count → ⊥)) → b ≡ false → SelectsInside selection range count
is_inside selection None count b is unset = tt
is_inside selection (Some range) count b is unset = all_below count (selected_rows selection range.start range.end) (λ any. absurd (let e : true ≡ false = sym (is.1 (λ inside. none_past count (selected_rows selection range.start range.end) inside any)) ∙ unset in cc))

-- ---- numbers of rows

-- where numbers are used, more rows than are left above the offset are those whose numbers overflow
pub overflow_told : (file : ScanFile) (settings : Settings) (count : ℕ) → uses_row_number settings.projection.term ≡ true → row_count (scan_by file settings) ≡ count → settings.row_offset < 2 ^ 64 → IsTrue (nat_lt (18446744073709551615 - settings.row_offset) count) ↔ Overflows (scan_by file settings)
overflow_told file settings count uses rows fits =
    let offset : (scan_by file settings).projection.offset ≡ settings.row_offset = ap (λ (b : Bool). if b then settings.row_offset else 0) uses in (
      λ more. (uses, let less = ltb-true (18446744073709551615 - settings.row_offset) count more in omega (arith, offset, rows, fits, less)),
      λ over. lt-ltb (18446744073709551615 - settings.row_offset) count (let past = over.1 in omega (arith, offset, rows, fits, past)),
    )

-- ---- a scan by its file and settings

pub unbound_told : (b : Bool) (a : Bound) (s t : DataType) → s ≡ t → (IsTrue b ↔ IsBoundTo a t) → b ≡ false → IsBoundTo a s → ⊥
unbound_told b a s t same is unset bound = let e : true ≡ false = sym (is.1 (subst (IsBoundTo a) same bound)) ∙ unset in cc

pub bound_told : (b : Bool) (a : Bound) (s t : DataType) → s ≡ t → (IsTrue b ↔ IsBoundTo a t) → b ≡ true → IsBoundTo a s
bound_told b a s t same is set = subst (IsBoundTo a) (sym same) (is.0 set)

pub work_told : (file : ScanFile) (settings : Settings) (count : ℕ) (rows : Range ℕ) → IsBound (scan_by file settings) → row_count (scan_by file settings) ≡ count → rows ≡ range_or settings.range count → rows.start < rows.end → HasWork (scan_by file settings)
work_told file settings count rows bound same is some = record { bound = bound; some = subst (HasRows settings.range) (sym same) (has_rows settings.range count rows is some) }

pub none_told : (file : ScanFile) (settings : Settings) (count : ℕ) (rows : Range ℕ) → row_count (scan_by file settings) ≡ count → rows ≡ range_or settings.range count → rows.end ≤ rows.start → HasRows settings.range (row_count (scan_by file settings)) → ⊥
none_told file settings count rows same is none some = has_none settings.range count rows is none (subst (HasRows settings.range) same some)

pub fits_told : (scan : FileScan) (b : Bool) → (IsTrue b ↔ Overflows scan) → b ≡ false → Overflows scan → ⊥
fits_told scan b is unset over = let e : true ≡ false = sym (is.1 over) ∙ unset in cc

pub outside_told : (file : ScanFile) (settings : Settings) (count : ℕ) (b : Bool) → row_count (scan_by file settings) ≡ count → (IsTrue b ↔ (SelectsInside settings.selection settings.range count → ⊥)) → b ≡ true → SelectsInside settings.selection settings.range (row_count (scan_by file settings)) → ⊥
outside_told file settings count b same is set inside = is.0 set (subst (SelectsInside settings.selection settings.range) same inside)

pub begins_told : (file : ScanFile) (settings : Settings) (count start end : ℕ) (rows : Range ℕ) (over past : Bool) → HasWork (scan_by file settings) → row_count (scan_by file settings) ≡ count → rows ≡ range_or settings.range count
    → (IsTrue over ↔ Overflows (scan_by file settings)) → over ≡ false → (IsTrue past ↔ (SelectsInside settings.selection settings.range count → ⊥)) → past ≡ false → start ≡ rows.start → end ≡ min rows.end count
    → BeginsOver (scan_by file settings) (record { start = start; end = end })
begins_told file settings count start end rows over past work same is overflows fits reaches inside first last = record {
  work = work;
  fits = fits_told (scan_by file settings) over overflows fits;
  inside = subst (SelectsInside settings.selection settings.range) (sym same) (is_inside settings.selection settings.range count past reaches inside);
  rows = ap (limited settings.limit) (cut_rows settings.selection settings.range count start end rows is first last ∙ ap (taken_rows settings.selection settings.range) (sym same));
  below = omega (arith, last, same);
}
