-- The splits of a range that is not empty begin with its start, end with its end, and ascend.
use Rattle.std.proofs.Common.{◌≡◌, ℕ, zero, suc, ◌+◌, ◌-◌, ◌*◌, ◌<◌, ◌≤◌, ◌⊎◌, inl, inr, Bool, true, false, cond, ◌&&◌, ◌||◌, List, [], ◌∷◌, ◌++◌, Some, length, map, get_or, All, refl, sym, ap, ◌∙◌, subst, arith, length-append}
use Rattle.std.specs.Prelude.{if◌then◌else◌, nat_lt, slice_get}
use Rattle.std.specs.Int.{div_ceil}
use Rattle.std.specs.List.{filter, range_with_len, Contains}
use Rattle.std.proofs.Math.ListN.{get_or-append}
use Rattle.std.proofs.lemmas.Bool.{cases_lt, lt-ltb, ltb-true}
use Rattle.std.proofs.lemmas.Grind.{div_ceil_times}
use Rattle.std.proofs.lemmas.List.{get_or_default, get_or-append_right}
use Rattle.std.proofs.lemmas.List.Elements.{All-cons, All-contains, All-nil}
use Rattle.std.proofs.lemmas.List.FromFn.{get_or-map-range_with_len, length-map-range_with_len}
use Rattle.std.proofs.lemmas.Option.{slice_get-get_or}
use Rattle.vx_base.specs.Masks.{Ascend}
use Rattle.vx_splits.specs.Spans.{cuts_between, subdivided}
use Rattle.vx_splits.proofs.Runs.{apart_at}
use Rattle.vx_splits.proofs.SpanCuts.{subdivided-ascend}
use Rattle.vx_split_rules.specs.declared.split_rules.SplitBy.{SplitBy}
use Rattle.vx_split_rules.specs.declared.split_rules.SplitBy.TheVariants.{Layout, LayoutSubSplitting, RowCount}
use Rattle.vx_split_rules.specs.Rules.{counted, root_range, AreLayoutSplits, IsOutOfRange, IsSplitBy, IsZeroSize, ReaderSplits, Spans}
use Rattle.vx_split_rules.specs.Splits.{is_inside, registered, split_at, AreOrdered}

-- ---- the least and the greatest of rows that ascend

has_at : (xs : List ℕ) (k : ℕ) → k < length xs → Contains xs (get_or xs k 0)
has_at xs k lt = (k, lt, get_or_default xs k (get_or xs k 0) 0 lt)

first_of : (low : ℕ) (xs : List ℕ) → Ascend xs → Contains xs low → ((row : ℕ) → Contains xs row → low ≤ row) → slice_get xs 0 ≡ Some low
first_of low xs up has least =
    let k : ℕ = has.0 in
    let lt : k < length xs = has.1 in
    let here : get_or xs k 0 ≡ low = get_or_default xs k 0 low lt ∙ has.2 in
    let some : 0 < length xs = omega arith in
    let far : get_or xs 0 0 + (k - 0) ≤ get_or xs k 0 = apart_at xs 0 k up (omega arith) lt in
    let more : low ≤ get_or xs 0 0 = least (get_or xs 0 0) (has_at xs 0 some) in
    let same : get_or xs 0 0 ≡ low = omega arith in
    slice_get-get_or xs 0 0 some ∙ ap Some same

last_of : (high : ℕ) (xs : List ℕ) → Ascend xs → Contains xs high → ((row : ℕ) → Contains xs row → row ≤ high) → slice_get xs (length xs - 1) ≡ Some high
last_of high xs up has greatest =
    let k : ℕ = has.0 in
    let lt : k < length xs = has.1 in
    let here : get_or xs k 0 ≡ high = get_or_default xs k 0 high lt ∙ has.2 in
    let inside : length xs - 1 < length xs = omega arith in
    let far : get_or xs k 0 + (length xs - 1 - k) ≤ get_or xs (length xs - 1) 0 = apart_at xs k (length xs - 1) up (omega arith) inside in
    let less : get_or xs (length xs - 1) 0 ≤ high = greatest (get_or xs (length xs - 1) 0) (has_at xs (length xs - 1) inside) in
    let same : get_or xs (length xs - 1) 0 ≡ high = omega arith in
    slice_get-get_or xs (length xs - 1) 0 inside ∙ ap Some same

-- ---- the splits of a layout

abbrev IsWithin : ℕ → ℕ → ℕ → Type 0
IsWithin start end row = (start ≤ row) × (row ≤ end)

both_true : (a b : Bool) → (a && b) ≡ true → (a ≡ true) × (b ≡ true)
both_true true true is = (refl, refl)
both_true true false is = absurd cc
both_true false b is = absurd cc

within_both : (start end row : ℕ) → is_inside start end row ≡ true → (start < row) × (row < end)
within_both start end row is =
    let tests = both_true (nat_lt start row) (nat_lt row end) is in
    (ltb-true start row tests.0, ltb-true row end tests.1)

one_inside : (start end e : ℕ) (kept : List ℕ) (b : Bool) → is_inside start end e ≡ b → All (IsWithin start end) kept → All (IsWithin start end) (cond b (e ∷ kept) kept)
one_inside start end e kept true is all =
    let within = within_both start end e is in
    All-cons (IsWithin start end) e kept (omega (arith, within.0), omega (arith, within.1)) all
one_inside start end e kept false is all = all

all_inside : (start end : ℕ) (ends : List ℕ) → All (IsWithin start end) (filter (is_inside start end) ends)
all_inside start end [] = All-nil (IsWithin start end)
all_inside start end (e ∷ ends) = one_inside start end e (filter (is_inside start end) ends) (is_inside start end e) refl (all_inside start end ends)

all_pushed : (P : ℕ → Type 0) (xs : List ℕ) (x : ℕ) → All P xs → P x → All P (xs ++ x ∷ [])
all_pushed P [] x all p = All-cons P x [] p (All-nil P)
all_pushed P (y ∷ xs) x all p = All-cons P y (xs ++ x ∷ []) (all 0 y (omega arith)) (all_pushed P xs x (λ k d lt. all (suc k) d (omega arith)) p)

pushed_is : (reader : ReaderSplits) (start end : ℕ) → start < end → registered reader.ends reader.ends_empty (root_range start end) ≡ split_at reader.ends start end
pushed_is reader start end some =
    let s : 0 + start ≡ start = omega arith in
    let t : 0 + end ≡ end = omega arith in
    ap (λ (b : Bool). if b || reader.ends_empty then split_at reader.ends (0 + start) (0 + end) else []) (lt-ltb start end some) ∙ (λ i. split_at reader.ends (s i) (t i))

layout_spans : (reader : ReaderSplits) (start end : ℕ) (splits : List ℕ) → start < end → AreLayoutSplits reader start end splits → Spans start end splits
layout_spans reader start end splits some are =
    let are_these : AreOrdered (start ∷ split_at reader.ends start end) splits = subst (λ (pushed : List ℕ). AreOrdered (start ∷ pushed) splits) (pushed_is reader start end some) are in
    record {
      first = first_of start splits are.ascend (are_these.all start (0, omega arith, refl)) (λ row has. (within row (are_these.only row has)).0);
      last = last_of end splits are.ascend (are_these.all end ends_there) (λ row has. (within row (are_these.only row has)).1);
      ascend = are.ascend;
    }
  where
    within : (row : ℕ) → Contains (start ∷ split_at reader.ends start end) row → IsWithin start end row
    within row has =
        All-contains (IsWithin start end) (start ∷ split_at reader.ends start end) row
        (All-cons (IsWithin start end) start (split_at reader.ends start end) (omega arith, omega arith) (all_pushed (IsWithin start end) (filter (is_inside start end) reader.ends) end (all_inside start end reader.ends) (omega arith, omega arith))) has

    ends_there : Contains (start ∷ split_at reader.ends start end) end
    ends_there =
        let front : List ℕ = start ∷ filter (is_inside start end) reader.ends in
        let long : length (front ++ end ∷ []) ≡ length front + 1 = length-append front (end ∷ []) in
        let none : length front - length front ≡ 0 = omega arith in
        (length front, omega arith, get_or-append_right front (end ∷ []) (length front) (length front) end refl (omega arith) ∙ ap (λ (k : ℕ). get_or (end ∷ []) k end) none)

-- ---- the last of lists one behind another

last_behind : (xs zs : List ℕ) → 0 < length zs → slice_get (xs ++ zs) (length (xs ++ zs) - 1) ≡ slice_get zs (length zs - 1)
last_behind [] zs some = refl
last_behind (x ∷ xs) zs some =
    let long : length (xs ++ zs) ≡ length xs + length zs = length-append xs zs in
    let e : suc (length (xs ++ zs)) - 1 ≡ suc (length (xs ++ zs) - 1) = omega arith in
    ap (slice_get (x ∷ (xs ++ zs))) e ∙ last_behind xs zs some

-- ---- splits of a layout that are subdivided

subdivided_some : (max_span y : ℕ) (rest : List ℕ) → 0 < length (subdivided max_span (y ∷ rest))
subdivided_some max_span y [] = omega arith
subdivided_some max_span y (z ∷ rest) = omega arith

subdivided_first : (max_span : ℕ) (boundaries : List ℕ) (x : ℕ) → slice_get boundaries 0 ≡ Some x → slice_get (subdivided max_span boundaries) 0 ≡ Some x
subdivided_first max_span [] x is = is
subdivided_first max_span (y ∷ []) x is = is
subdivided_first max_span (y ∷ z ∷ rest) x is = is

subdivided_last : (max_span : ℕ) (boundaries : List ℕ) (x : ℕ) → slice_get boundaries (length boundaries - 1) ≡ Some x → slice_get (subdivided max_span boundaries) (length (subdivided max_span boundaries) - 1) ≡ Some x
subdivided_last max_span [] x is = is
subdivided_last max_span (y ∷ []) x is = is
subdivided_last max_span (y ∷ z ∷ rest) x is =
    let there : slice_get (z ∷ rest) (length (z ∷ rest) - 1) ≡ Some x = sym (last_behind (y ∷ []) (z ∷ rest) (omega arith)) ∙ is in
    last_behind (y ∷ cuts_between max_span y z) (subdivided max_span (z ∷ rest)) (subdivided_some max_span z rest) ∙ subdivided_last max_span (z ∷ rest) x there

-- ---- splits after so many rows

-- the cut after so many parts
cut_at : (size start end n k d : ℕ) → k < n → get_or (map (λ (part : ℕ). start + part * size) (range_with_len 0 n) ++ end ∷ []) k d ≡ start + k * size
cut_at size start end n k d lt =
    let f : ℕ → ℕ = λ (part : ℕ). start + part * size in
    let long : length (map (λ (part : ℕ). start + part * size) (range_with_len 0 n)) ≡ n = length-map-range_with_len f 0 n in
    get_or-append (map (λ (part : ℕ). start + part * size) (range_with_len 0 n)) (end ∷ []) d k (omega arith)
    ∙ get_or-map-range_with_len f 0 n k k d lt (omega arith)

end_at : (size start end n k d : ℕ) → k ≡ n → get_or (map (λ (part : ℕ). start + part * size) (range_with_len 0 n) ++ end ∷ []) k d ≡ end
end_at size start end n k d is =
    let f : ℕ → ℕ = λ (part : ℕ). start + part * size in
    let long : length (map (λ (part : ℕ). start + part * size) (range_with_len 0 n)) ≡ n = length-map-range_with_len f 0 n in
    let none : k - n ≡ 0 = omega arith in
    get_or-append_right (map (λ (part : ℕ). start + part * size) (range_with_len 0 n)) (end ∷ []) n k d long (omega arith) ∙ ap (λ (j : ℕ). get_or (end ∷ []) j d) none

counted_ascend : (size start end n : ℕ) → 0 < size → start + n * size < end + size → Ascend (map (λ (part : ℕ). start + part * size) (range_with_len 0 n) ++ end ∷ [])
counted_ascend size start end n some few k d lt = by (cases_lt (k + 1) n)
  where
    by : (k + 1 < n) ⊎ (n ≤ k + 1) → get_or (map (λ (part : ℕ). start + part * size) (range_with_len 0 n) ++ end ∷ []) k d < get_or (map (λ (part : ℕ). start + part * size) (range_with_len 0 n) ++ end ∷ []) (k + 1) d
    by (inl less) =
        let here = cut_at size start end n k d (omega arith) in
        let next = cut_at size start end n (k + 1) d less in
        let more : (k + 1) * size ≡ k * size + size = omega arith in
        omega arith
    by (inr more) =
        let long : length (map (λ (part : ℕ). start + part * size) (range_with_len 0 n)) ≡ n = length-map-range_with_len (λ (part : ℕ). start + part * size) 0 n in
        let all : length (map (λ (part : ℕ). start + part * size) (range_with_len 0 n) ++ end ∷ []) ≡ length (map (λ (part : ℕ). start + part * size) (range_with_len 0 n)) + 1 = length-append (map (λ (part : ℕ). start + part * size) (range_with_len 0 n)) (end ∷ []) in
        let last : k + 1 ≡ n = omega arith in
        let here = cut_at size start end n k d (omega arith) in
        let there = end_at size start end n (k + 1) d last in
        let whole : n * size ≡ k * size + size = ap (λ (j : ℕ). j * size) (sym last) ∙ (omega arith) in
        omega arith

pub splits_span : (rule : SplitBy) (reader : ReaderSplits) (start end : ℕ) (splits : List ℕ) → start < end → (IsZeroSize rule → ⊥) → IsSplitBy rule reader start end splits → Spans start end splits
splits_span Layout reader start end splits some sized is = layout_spans reader start end splits some is
splits_span (LayoutSubSplitting max_rows) reader start end splits some sized is =
    let spans = layout_spans reader start end is.0 some is.1 in
    let above : 0 < max_rows = above_zero max_rows sized in
    subst (Spans start end) (sym is.2) (record {
      first = subdivided_first max_rows is.0 start spans.first;
      last = subdivided_last max_rows is.0 end spans.last;
      ascend = subdivided-ascend max_rows is.0 above spans.ascend;
    })
  where
    above_zero : (n : ℕ) → (n ≡ 0 → ⊥) → 0 < n
    above_zero zero ne = absurd (ne refl)
    above_zero (suc n) ne = omega arith
splits_span (RowCount size) reader start end splits some sized is = subst (Spans start end) (sym is) (by size sized)
  where
    counted_spans : (size n : ℕ) → 0 < size → end - start ≤ n * size → n * size < end - start + size → Spans start end (map (λ (part : ℕ). start + part * size) (range_with_len 0 n) ++ end ∷ [])
    counted_spans size zero some_rows enough few = absurd (omega arith)
    counted_spans size (suc n) some_rows enough few = record {
      first = (let e : start + 0 * size ≡ start = omega arith in ap Some e);
      last = last_behind (map (λ (part : ℕ). start + part * size) (range_with_len 0 (suc n))) (end ∷ []) (omega arith);
      ascend = counted_ascend size start end (suc n) some_rows (omega arith);
    }

    by : (size : ℕ) → (size ≡ 0 → ⊥) → Spans start end (counted size start end)
    by zero ne = absurd (ne refl)
    by (suc less) ne =
        let n : ℕ = div_ceil (end - start) (suc less) in
        let times = div_ceil_times (end - start) (suc less) (omega arith) in
        counted_spans (suc less) n (omega arith) times.0 times.1

-- ---- an empty range

none_of : (start end e : ℕ) (kept : List ℕ) (b : Bool) → end ≤ start → is_inside start end e ≡ b → kept ≡ [] → cond b (e ∷ kept) kept ≡ []
none_of start end e kept true empty is none =
    let within = within_both start end e is in
    absurd (omega (arith, within.0, within.1))
none_of start end e kept false empty is none = none

none_inside : (start end : ℕ) → end ≤ start → (ends : List ℕ) → filter (is_inside start end) ends ≡ []
none_inside start end empty [] = refl
none_inside start end empty (e ∷ ends) = none_of start end e (filter (is_inside start end) ends) (is_inside start end e) empty refl (none_inside start end empty ends)

-- rows that ascend and are all one
only_row : (row : ℕ) (xs : List ℕ) → Ascend xs → Contains xs row → ((other : ℕ) → Contains xs other → other ≡ row) → xs ≡ row ∷ []
only_row row [] up has all = let none : has.0 < 0 = has.1 in absurd (omega arith)
only_row row (x ∷ []) up has all = ap (λ (y : ℕ). y ∷ []) (all x (has_at (x ∷ []) 0 (omega arith)))
only_row row (x ∷ y ∷ xs) up has all =
    let first : x ≡ row = all x (has_at (x ∷ y ∷ xs) 0 (omega arith)) in
    let second : y ≡ row = all y (has_at (x ∷ y ∷ xs) 1 (omega arith)) in
    let less : x < y = up 0 0 (omega arith) in
    absurd (omega arith)

layout_alone : (reader : ReaderSplits) (start end : ℕ) (splits : List ℕ) → start ≡ end → AreLayoutSplits reader start end splits → splits ≡ end ∷ []
layout_alone reader start end splits empty are = only_row end splits are.ascend (are.all end (0, omega arith, empty)) (λ other has. pushed_one other (are.only other has))
  where
    registered_one : (b : Bool) → All (λ row. row ≡ end) (if b then split_at reader.ends (0 + start) (0 + end) else [])
    registered_one true =
        let e : 0 + end ≡ end = omega arith in
        let none : filter (is_inside (0 + start) (0 + end)) reader.ends ≡ [] = none_inside (0 + start) (0 + end) (omega arith) reader.ends in
        subst (λ (xs : List ℕ). All (λ row. row ≡ end) (xs ++ (0 + end) ∷ [])) (sym none) (All-cons (λ row. row ≡ end) (0 + end) [] e (All-nil (λ row. row ≡ end)))
    registered_one false = All-nil (λ row. row ≡ end)

    pushed_one : (other : ℕ) → Contains (start ∷ registered reader.ends reader.ends_empty (root_range start end)) other → other ≡ end
    pushed_one other has =
        All-contains (λ row. row ≡ end) (start ∷ registered reader.ends reader.ends_empty (root_range start end)) other
        (All-cons (λ row. row ≡ end) start (registered reader.ends reader.ends_empty (root_range start end)) empty (registered_one (nat_lt start end || reader.ends_empty))) has

not_reversed : (start end : ℕ) → end ≤ start → (end < start → ⊥) → start ≡ end
not_reversed start end empty ne = by (cases_lt end start)
  where
    by : (end < start) ⊎ (start ≤ end) → start ≡ end
    by (inl less) = absurd (ne less)
    by (inr more) = omega arith

pub splits_alone : (rule : SplitBy) (reader : ReaderSplits) (start end : ℕ) (splits : List ℕ) → end ≤ start → (IsZeroSize rule → ⊥) → (IsOutOfRange rule reader.rows start end → ⊥) → IsSplitBy rule reader start end splits → splits ≡ end ∷ []
splits_alone Layout reader start end splits empty sized inside is = layout_alone reader start end splits (not_reversed start end empty (λ less. inside (inl less))) is
splits_alone (LayoutSubSplitting max_rows) reader start end splits empty sized inside is =
    let alone : is.0 ≡ end ∷ [] = layout_alone reader start end is.0 (not_reversed start end empty (λ less. inside (inl less))) is.1 in
    is.2 ∙ ap (subdivided max_rows) alone
splits_alone (RowCount size) reader start end splits empty sized inside is = is ∙ by size sized
  where
    none : (size n : ℕ) → 0 < size → n * size < end - start + size → map (λ (part : ℕ). start + part * size) (range_with_len 0 n) ++ end ∷ [] ≡ end ∷ []
    none size zero some few = refl
    none size (suc n) some few = absurd (omega arith)

    by : (size : ℕ) → (size ≡ 0 → ⊥) → counted size start end ≡ end ∷ []
    by zero ne = absurd (ne refl)
    by (suc less) ne = none (suc less) (div_ceil (end - start) (suc less)) (omega arith) (div_ceil_times (end - start) (suc less) (omega arith)).1
