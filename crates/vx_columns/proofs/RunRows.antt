-- Runs and the rows that they fill.
use Rattle.std.proofs.Common.{◌≡◌, ℕ, zero, suc, ◌+◌, ◌-◌, ◌<◌, ◌≤◌, List, [], ◌∷◌, ◌++◌, length, map, get_or, drop, replicate, refl, sym, ap, ap₂, subst, ◌∙◌, arith, append_assoc, add-one}
use Rattle.std.specs.List.{AllByRecursion}
use Rattle.std.proofs.lemmas.List.{length-append, length-replicate, drop_more, drop_all, map-append, append-nil}
use Rattle.vx_masks.specs.Rows.{taken}
use Rattle.vx_columns.specs.Runs.{spread, IsGoodEnd, run_places}
use Rattle.vx_columns.specs.RunRows.{Rise, runs_column}
use Rattle.vx_arrays.specs.PackedColumns.{IsColumn}
use Rattle.vx_arrays.specs.ArrayRows.{picked_at}
use Rattle.vx_arrays.specs.Buffers.{bare}
use Rattle.vx_arrays.specs.Texts.{start_in}
use Rattle.vx_types.proofs.AllFit.{all-append}
use Rattle.vx_types.specs.Data.{DataType, Datum, null}
use Rattle.vx_types.specs.Columns.{ColumnData}
use Rattle.vx_types.specs.Fits.{Fits}

-- ---- the ends so far
pub record GoodSoFar (count : ℕ) (ends : List ℕ) (place before : ℕ) : Type 0 where
  pub last : before ≡ start_in ends place
  pub good : (earlier : ℕ) → earlier < place → IsGoodEnd count ends earlier

-- ---- the places so far
pub record PlacesSoFar (ends places : List ℕ) (run : ℕ) : Type 0 where
  pub rows : length places ≡ start_in ends run
  pub whole : places ++ run_places run (start_in ends run) (drop run ends) ≡ run_places 0 0 ends

pub places_none : (ends places : List ℕ) → places ≡ [] → PlacesSoFar ends places 0
places_none ends places e = record { rows = ap length e; whole = ap (λ (ps : List ℕ). ps ++ run_places 0 0 ends) e }

pub places_more : (ends places more : List ℕ) (run : ℕ) → run < length ends → start_in ends run < get_or ends run 0 → more ≡ places ++ replicate (get_or ends run 0 - length places) run → PlacesSoFar ends places run → PlacesSoFar ends more (run + 1)
places_more ends places more run lt above pushed h =
    let end = get_or ends run 0 in
    let rest = run_places (suc run) end (drop (run + 1) ends) in
    let left : run_places run (start_in ends run) (drop run ends) ≡ replicate (end - start_in ends run) run ++ rest = ap (run_places run (start_in ends run)) (drop_more ends run 0 lt) in
    let size : end - length places ≡ end - start_in ends run = ap (λ (k : ℕ). end - k) h.rows in
    let long : length more ≡ end = omega (arith, ap length pushed, length-append places (replicate (end - length places) run), length-replicate (end - length places) run, h.rows, above) in
    record {
      rows = rw add-one long;
      whole = rw add-one
          (ap (λ (ps : List ℕ). ps ++ run_places (suc run) end (drop (suc run) ends)) pushed
          ∙ append_assoc places (replicate (end - length places) run) (run_places (suc run) end (drop (suc run) ends))
          ∙ ap (λ (k : ℕ). places ++ (replicate k run ++ run_places (suc run) end (drop (suc run) ends))) size
          ∙ ap (λ (k : ℕ). places ++ (replicate (end - start_in ends run) run ++ run_places (suc run) end (drop k ends))) (sym (add_one run))
          ∙ ap (λ (ps : List ℕ). places ++ ps) (sym left) ∙ h.whole);
    }
  where
    add_one : (k : ℕ) → k + 1 ≡ suc k
    add_one k = omega arith

pub places_all : (ends places : List ℕ) (run : ℕ) → length ends ≤ run → PlacesSoFar ends places run → places ≡ run_places 0 0 ends
places_all ends places run past h = sym (append-nil places) ∙ ap (λ (es : List ℕ). places ++ run_places run (start_in ends run) es) (sym (drop_all run ends past)) ∙ h.whole

-- ---- the values at the places
alike : (n run : ℕ) (vs : List Datum) → map (λ place. get_or vs place null) (replicate n run) ≡ replicate n (get_or vs run null)
alike zero run vs = refl
alike (suc n) run vs = ap (λ (ws : List Datum). get_or vs run null ∷ ws) (alike n run vs)

spread_from : (vs : List Datum) (run from : ℕ) (ends : List ℕ) → length (drop run vs) ≡ length ends → taken null vs (run_places run from ends) ≡ spread from (drop run vs) ends
spread_from vs run from [] e = ap (λ (ws : List Datum). spread from ws []) (sym (none (drop run vs) e))
  where
    none : (ws : List Datum) → length ws ≡ 0 → ws ≡ []
    none [] h = refl
    none (w ∷ ws) h = absurd (omega arith)
spread_from vs run from (end ∷ ends) e =
    let lt : run < length vs = inside run vs (omega arith) in
    let split : drop run vs ≡ get_or vs run null ∷ drop (suc run) vs = rw (← add_one run) (drop_more vs run null lt) in
    map-append (λ place. get_or vs place null) (replicate (end - from) run) (run_places (suc run) end ends)
    ∙ ap₂ (λ (xs ys : List Datum). xs ++ ys) (alike (end - from) run vs) (spread_from vs (suc run) end ends (omega (arith, ap length split)))
    ∙ ap (λ (ws : List Datum). spread from ws (end ∷ ends)) (sym split)
  where
    add_one : (k : ℕ) → k + 1 ≡ suc k
    add_one k = omega arith

    inside : (k : ℕ) (ws : List Datum) → 0 < length (drop k ws) → k < length ws
    inside zero [] h = absurd (omega arith)
    inside zero (w ∷ ws) h = omega arith
    inside (suc k) [] h = absurd (omega arith)
    inside (suc k) (w ∷ ws) h = omega (arith, inside k ws h)

pub spread_is : (vs : List Datum) (ends : List ℕ) → length vs ≡ length ends → taken null vs (run_places 0 0 ends) ≡ spread 0 vs ends
spread_is vs ends e = spread_from vs 0 0 ends e

-- ---- each row's value fits
all_alike : (P : Datum → Type 0) (n : ℕ) (v : Datum) → P v → AllByRecursion P (replicate n v)
all_alike P zero v h = tt
all_alike P (suc n) v h = (h, all_alike P n v h)

pub spread_fits : (P : Datum → Type 0) (from : ℕ) (vs : List Datum) (ends : List ℕ) → AllByRecursion P vs → AllByRecursion P (spread from vs ends)
spread_fits P from [] ends h = tt
spread_fits P from (v ∷ vs) [] h = tt
spread_fits P from (v ∷ vs) (end ∷ ends) h = all-append P (replicate (end - from) v) (spread end vs ends) (all_alike P (end - from) v h.0) (spread_fits P end vs ends h.1)

pub column_of_runs : (t : DataType) (vs : List Datum) (ends : List ℕ) (rows : ColumnData) → AllByRecursion (Fits t) vs → rows.dtype ≡ bare t → rows.values ≡ spread 0 vs ends → IsColumn t rows
column_of_runs t vs ends rows fit type is = record { shape = sym type; fit = subst (AllByRecursion (Fits t)) (sym is) (spread_fits (Fits t) 0 vs ends fit) }

-- the first of the rows of a run fits, hence its value
front_fits : (P : Datum → Type 0) (n : ℕ) (v : Datum) (rest : List Datum) → 0 < n → AllByRecursion P (replicate n v ++ rest) → P v
front_fits P zero v rest lt h = absurd (omega arith)
front_fits P (suc n) v rest lt h = h.0

rest_fits : (P : Datum → Type 0) (n : ℕ) (v : Datum) (rest : List Datum) → AllByRecursion P (replicate n v ++ rest) → AllByRecursion P rest
rest_fits P zero v rest h = h
rest_fits P (suc n) v rest h = rest_fits P n v rest h.1

-- each run has a row: where all rows fit, all values do
pub values_fit : (P : Datum → Type 0) (from : ℕ) (vs : List Datum) (ends : List ℕ) → length ends ≡ length vs → Rise from ends → AllByRecursion P (spread from vs ends) → AllByRecursion P vs
values_fit P from [] ends e rise h = tt
values_fit P from (v ∷ vs) [] e rise h = absurd (omega arith)
values_fit P from (v ∷ vs) (end ∷ ends) e rise h =
    let rest = spread end vs ends in
    let here : 0 < end - from = omega (arith, rise.0) in
    (front_fits P (end - from) v rest here h, values_fit P end vs ends (omega arith) rise.1 (rest_fits P (end - from) v rest h))

-- the values of the runs of a column
pub run_column : (t : DataType) (rows values : ColumnData) (ends : List ℕ) → length ends ≡ length values.values → Rise 0 ends → runs_column values ends ≡ rows → IsColumn t rows → IsColumn t values
run_column t rows values ends same rise is column =
    record {
      shape = column.shape ∙ sym (ap (λ (c : ColumnData). c.dtype) is);
      fit = values_fit (Fits t) 0 values.values ends same rise (subst (λ (c : ColumnData). AllByRecursion (Fits t) c.values) (sym is) column.fit);
    }

-- ---- all rows of runs, each with a value of its own
pub spread_all : (values rows column : ColumnData) (ends slice places at : List ℕ) → runs_column values ends ≡ column → length ends ≡ length values.values → slice ≡ ends → places ≡ run_places 0 0 slice → at ≡ places → rows ≡ picked_at at values → rows ≡ column
spread_all values rows column ends slice places at view same e f g is =
    let there : at ≡ run_places 0 0 ends = g ∙ f ∙ ap (run_places 0 0) e in
    let values_are : taken null values.values at ≡ spread 0 values.values ends = ap (taken null values.values) there ∙ spread_is values.values ends (sym same) in
    is ∙ (λ i. record { dtype = values.dtype; values = values_are i }) ∙ view
