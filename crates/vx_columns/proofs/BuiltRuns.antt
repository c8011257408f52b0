-- The runs of rows that are the same, one after another.
use Rattle.std.proofs.Common.{◌≡◌, ℕ, zero, suc, ◌+◌, ◌-◌, ◌<◌, ◌≤◌, List, [], ◌∷◌, ◌++◌, length, get_or, take, drop, replicate, Option, Some, refl, sym, ap, ap₂, subst, ◌∙◌, arith}
use Rattle.std.specs.List.{AllByRecursion}
use Rattle.std.proofs.Math.Seq.{take-add}
use Rattle.std.proofs.lemmas.List.{length-append, map-append, length-map, take_all, get_or-drop, length-drop}
use Rattle.std.proofs.lemmas.Option.{slice_get-get_or, get_or_from_slice_get}
use Rattle.vx_masks.specs.Rows.{taken}
use Rattle.vx_types.specs.Columns.{ColumnData}
use Rattle.vx_types.specs.Data.{DataType, Datum, null}
use Rattle.vx_types.specs.Fits.{Fits}
use Rattle.vx_arrays.specs.ArrayRows.{picked_at}
use Rattle.vx_arrays.specs.PackedColumns.{IsColumn}
use Rattle.vx_columns.specs.LaidRuns.{AreRunsOf, Differ, IsRunEnd}
use Rattle.vx_columns.specs.RunRows.{Rise, start_of}
use Rattle.vx_columns.specs.Runs.{spread}
use Rattle.vx_columns.proofs.RunRows.{values_fit}

-- ---- a value more
-- the last of the values, if there is one, is another than this
abbrev pub EndsOther : {X : Type 0} → List X → X → Type 0
EndsOther [] w = Unit {0}
EndsOther (v ∷ []) w = ¬ (v ≡ w)
EndsOther (v ∷ u ∷ vs) w = EndsOther (u ∷ vs) w

differ_push : {X : Type 0} (vs : List X) (w : X) → Differ vs → EndsOther vs w → Differ (vs ++ w ∷ [])
differ_push [] w d other = (tt, tt)
differ_push (v ∷ []) w d other = (other, (tt, tt))
differ_push (v ∷ u ∷ vs) w d other = (d.0, differ_push (u ∷ vs) w d.1 other)

other_push : {X : Type 0} (vs : List X) (v w : X) → ¬ (v ≡ w) → EndsOther (vs ++ v ∷ []) w
other_push [] v w other = other
other_push (u ∷ []) v w other = other
other_push (u ∷ t ∷ vs) v w other = other_push (t ∷ vs) v w other

rise_push : (from : ℕ) (ends : List ℕ) (end : ℕ) → Rise from ends → start_of from ends (length ends) < end → Rise from (ends ++ end ∷ [])
rise_push from [] end rise lt = (lt, tt)
rise_push from (first ∷ ends) end rise lt = (rise.0, rise_push first ends end rise.1 lt)

last_push : (from : ℕ) (ends : List ℕ) (end : ℕ) → start_of from (ends ++ end ∷ []) (length (ends ++ end ∷ [])) ≡ end
last_push from [] end = refl
last_push from (first ∷ ends) end = last_push first ends end

spread_push : {X : Type 0} (from : ℕ) (vs : List X) (ends : List ℕ) (v : X) (end : ℕ) → length ends ≡ length vs → spread from (vs ++ v ∷ []) (ends ++ end ∷ []) ≡ spread from vs ends ++ replicate (end - start_of from ends (length ends)) v
spread_push from [] [] v end e = none_behind (replicate (end - from) v)
  where
    none_behind : {X : Type 0} (xs : List X) → xs ++ [] ≡ xs
    none_behind [] = refl
    none_behind {X} (x ∷ xs) = ap (λ (ys : List X). x ∷ ys) (none_behind xs)
spread_push {X} from (u ∷ vs) (first ∷ ends) v end e =
    ap (λ (xs : List X). replicate (first - from) u ++ xs) (spread_push first vs ends v end (omega arith))
    ∙ regroup (replicate (first - from) u) (spread first vs ends) (replicate (end - start_of first ends (length ends)) v)
  where
    regroup : {X : Type 0} (xs ys zs : List X) → xs ++ (ys ++ zs) ≡ (xs ++ ys) ++ zs
    regroup [] ys zs = refl
    regroup {X} (x ∷ xs) ys zs = ap (λ (ws : List X). x ∷ ws) (regroup xs ys zs)
spread_push from [] (first ∷ ends) v end e = absurd (omega arith)
spread_push from (u ∷ vs) [] v end e = absurd (omega arith)

-- ---- rows that are the same
alike_front : {X : Type 0} (d v : X) (xs : List X) (n : ℕ) → n ≤ length xs → ((k : ℕ) → k < n → get_or xs k d ≡ v) → take n xs ≡ replicate n v
alike_front d v xs zero le h = refl
alike_front d v [] (suc n) le h = absurd (omega arith)
alike_front {X} d v (x ∷ xs) (suc n) le h = ap₂ (λ (y : X) (ys : List X). y ∷ ys) (h 0 (omega arith)) (alike_front d v xs n (omega arith) (λ k lt. h (suc k) (omega arith)))

pub run_rows : {X : Type 0} (d : X) (rows : List X) (start end : ℕ) → start < length rows → IsRunEnd rows start end → take end rows ≡ take start rows ++ replicate (end - start) (get_or rows start d)
run_rows {X} d rows start end lt h =
    let n = end - start in
    let all : start + n ≡ end = omega (arith, h.behind) in
    let here : (k : ℕ) → k < n → get_or (drop start rows) k d ≡ get_or rows start d =
    λ k below. get_or-drop start rows k d ∙ get_or_from_slice_get rows (start + k) (get_or rows start d) d (h.alike (start + k) (omega arith) (omega arith) ∙ slice_get-get_or rows start d lt) in
    sym (ap (λ (k : ℕ). take k rows) all) ∙ take-add start n rows
    ∙ ap (λ (xs : List X). take start rows ++ xs) (alike_front d (get_or rows start d) (drop start rows) n (omega (arith, length-drop start rows, h.inside)) here)

-- ---- the runs so far
pub record RunsTo (rows : List Datum) (starts ends : List ℕ) (start : ℕ) : Type 0 where
  pub same : length ends ≡ length starts
  pub rise : Rise 0 ends
  pub last : start_of 0 ends (length ends) ≡ start
  pub inside : start ≤ length rows
  pub filled : spread 0 (taken null rows starts) ends ≡ take start rows
  pub differ : Differ (taken null rows starts)
  pub next : start < length rows → EndsOther (taken null rows starts) (get_or rows start null)

pub runs_none : (rows : List Datum) (starts ends : List ℕ) → starts ≡ [] → ends ≡ [] → RunsTo rows starts ends 0
runs_none rows starts ends e f =
    subst (λ (ss : List ℕ). RunsTo rows ss ends 0) (sym e) (subst (λ (es : List ℕ). RunsTo rows [] es 0) (sym f) (record { same = refl; rise = tt; last = refl; inside = omega arith; filled = refl; differ = tt; next = λ lt. tt }))

abbrev row_at : List Datum → ℕ → Datum
row_at rows place = get_or rows place null

abbrev some_row : Datum → Option Datum
some_row w = Some w

runs_push : (rows : List Datum) (starts ends : List ℕ) (start end : ℕ) → start < length rows → IsRunEnd rows start end → RunsTo rows starts ends start → RunsTo rows (starts ++ start ∷ []) (ends ++ end ∷ []) end
runs_push rows starts ends start end lt run h =
    let v = row_at rows start in
    let vs = taken null rows starts in
    let more : taken null rows (starts ++ start ∷ []) ≡ vs ++ v ∷ [] = map-append (row_at rows) starts (start ∷ []) in
    let count : length ends ≡ length vs = h.same ∙ sym (length-map starts (row_at rows)) in
    record {
      same = omega (arith, h.same, length-append ends (end ∷ []), length-append starts (start ∷ []));
      rise = rise_push 0 ends end h.rise (omega (arith, h.last, run.behind));
      last = last_push 0 ends end;
      inside = run.inside;
      filled =
          ap (λ (ws : List Datum). spread 0 ws (ends ++ end ∷ [])) more
          ∙ spread_push 0 vs ends v end count
          ∙ ap₂ (λ (xs : List Datum) (k : ℕ). xs ++ replicate (end - k) v) h.filled h.last
          ∙ sym (run_rows null rows start end lt run);
      differ = subst (λ (ws : List Datum). Differ ws) (sym more) (differ_push vs v h.differ (h.next lt));
      next = λ below. subst (λ (ws : List Datum). EndsOther ws (row_at rows end)) (sym more) (other_push vs v (row_at rows end) (other below));
    }
  where
    other : end < length rows → ¬ (row_at rows start ≡ row_at rows end)
    other below is = run.ended below (slice_get-get_or rows end null below ∙ ap some_row (sym is) ∙ sym (slice_get-get_or rows start null lt))

pub runs_more : (rows : List Datum) (starts ends more_starts more_ends : List ℕ) (start end : ℕ) → start < length rows → more_starts ≡ starts ++ start ∷ [] → more_ends ≡ ends ++ end ∷ [] → IsRunEnd rows start end → RunsTo rows starts ends start → RunsTo rows more_starts more_ends end
runs_more rows starts ends more_starts more_ends start end lt e f run h =
    subst (λ (ss : List ℕ). RunsTo rows ss more_ends end) (sym e) (subst (λ (es : List ℕ). RunsTo rows (starts ++ start ∷ []) es end) (sym f) (runs_push rows starts ends start end lt run h))

pub runs_all : (rows : List Datum) (starts ends : List ℕ) (start : ℕ) → length rows ≤ start → RunsTo rows starts ends start → AreRunsOf rows (taken null rows starts) ends
runs_all rows starts ends start past h = record {
  same = h.same ∙ sym (length-map starts (row_at rows));
  rise = h.rise;
  filled = h.filled ∙ take_all start rows past;
  differ = h.differ;
}

-- ---- the values of the runs as a column
pub found_runs : (s t : DataType) (rows values : ColumnData) (starts at ends : List ℕ) → s ≡ t → at ≡ starts → values ≡ picked_at at rows → AreRunsOf rows.values (taken null rows.values starts) ends → IsColumn t rows → IsColumn s values
found_runs s t rows values starts at ends e f is runs column =
    let vs = taken null rows.values starts in
    let values_are : values ≡ picked_at starts rows = is ∙ ap (λ (ps : List ℕ). picked_at ps rows) f in
    let fit : AllByRecursion (Fits t) vs = values_fit (Fits t) 0 vs ends runs.same runs.rise (subst (AllByRecursion (Fits t)) (sym runs.filled) column.fit) in
    subst (λ (u : DataType). IsColumn u values) (sym e) (subst (IsColumn t) (sym values_are) (record { shape = column.shape; fit = fit }))

pub runs_found : (rows : ColumnData) (all : List Datum) (values : ColumnData) (starts at ends : List ℕ) → rows.values ≡ all → at ≡ starts → values ≡ picked_at at rows → AreRunsOf rows.values (taken null rows.values starts) ends → AreRunsOf all values.values ends
runs_found rows all values starts at ends e f is runs =
    let values_are : values ≡ picked_at starts rows = is ∙ ap (λ (ps : List ℕ). picked_at ps rows) f in
    subst (λ (xs : List Datum). AreRunsOf xs values.values ends) e (subst (λ (c : ColumnData). AreRunsOf rows.values c.values ends) (sym values_are) runs)
