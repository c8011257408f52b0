-- Runs that are cut to a range of rows.
use Rattle.std.proofs.Common.{◌≡◌, ℕ, zero, suc, ◌+◌, ◌-◌, ◌<◌, ◌≤◌, List, [], ◌∷◌, ◌++◌, length, map, get_or, take, drop, min, replicate, refl, sym, ap, ap₂, subst, ◌∙◌, arith}
use Rattle.std.specs.List.{slice_range}
use Rattle.std.proofs.lemmas.List.{length-map, get_or-drop, length-drop}
use Rattle.vx_types.specs.Columns.{ColumnData}
use Rattle.vx_types.specs.Data.{Datum}
use Rattle.vx_arrays.specs.ArrayRows.{sliced}
use Rattle.vx_arrays.proofs.PackedRows.{length_take, length_drop}
use Rattle.vx_columns.specs.RunRows.{Rise, start_of, HasRow, runs_column, AreRuns, cut_ends}
use Rattle.vx_columns.specs.Runs.{spread}
use Rattle.vx_columns.proofs.SpreadRuns.{start_up}

-- ---- rows that are alike before others
drop_alike : {X : Type 0} (skip n : ℕ) (v : X) (rest : List X) → drop skip (replicate n v ++ rest) ≡ replicate (n - skip) v ++ drop (skip - n) rest
drop_alike zero zero v rest = refl
drop_alike (suc skip) zero v rest =
    let none : 0 ≡ 0 - suc skip = omega arith in
    let all : suc skip ≡ suc skip - 0 = omega arith in
    ap₂ (λ (j k : ℕ). replicate j v ++ drop k rest) none all
drop_alike zero (suc n) v rest =
    let all : suc n ≡ suc n - 0 = omega arith in
    let none : 0 ≡ 0 - suc n = omega arith in
    ap₂ (λ (j k : ℕ). replicate j v ++ drop k rest) all none
drop_alike {X} (suc skip) (suc n) v rest =
    let less : n - skip ≡ suc n - suc skip = omega arith in
    let more : skip - n ≡ suc skip - suc n = omega arith in
    drop_alike skip n v rest ∙ ap₂ (λ (j k : ℕ). replicate j v ++ drop k rest) less more

take_alike : {X : Type 0} (left n : ℕ) (v : X) (rest : List X) → take left (replicate n v ++ rest) ≡ replicate (min left n) v ++ take (left - n) rest
take_alike left zero v rest =
    let none : 0 ≡ min left 0 = omega arith in
    let all : left ≡ left - 0 = omega arith in
    ap₂ (λ (j k : ℕ). replicate j v ++ take k rest) none all
take_alike zero (suc n) v rest =
    let none : 0 ≡ min 0 (suc n) = omega arith in
    let less : 0 ≡ 0 - suc n = omega arith in
    ap₂ (λ (j k : ℕ). replicate j v ++ take k rest) none less
take_alike {X} (suc left) (suc n) v rest =
    let here : suc (min left n) ≡ min (suc left) (suc n) = omega arith in
    let more : left - n ≡ suc left - suc n = omega arith in
    ap (λ (xs : List X). v ∷ xs) (take_alike left n v rest) ∙ ap₂ (λ (j k : ℕ). replicate j v ++ take k rest) here more

-- ---- the rows from one on
drop_runs : {X : Type 0} (from : ℕ) (vs : List X) (ends : List ℕ) (row place : ℕ) → length ends ≡ length vs → Rise from ends → place < length ends → start_of from ends place ≤ row → row < get_or ends place 0 → drop (row - from) (spread from vs ends) ≡ spread row (drop place vs) (drop place ends)
drop_runs from vs [] row place e rise lt after below = absurd (omega arith)
drop_runs from [] (end ∷ ends) row place e rise lt after below = absurd (omega arith)
drop_runs from (v ∷ vs) (end ∷ ends) row zero e rise lt after below =
    let here : (end - from) - (row - from) ≡ end - row = omega arith in
    let none : (row - from) - (end - from) ≡ 0 = omega arith in
    drop_alike (row - from) (end - from) v (spread end vs ends) ∙ ap₂ (λ (j k : ℕ). replicate j v ++ drop k (spread end vs ends)) here none
drop_runs from (v ∷ vs) (end ∷ ends) row (suc place) e rise lt after below =
    let up : end ≤ row = omega (arith, start_up end ends place rise.1 (omega arith), after) in
    let none : (end - from) - (row - from) ≡ 0 = omega arith in
    let rest : (row - from) - (end - from) ≡ row - end = omega (arith, rise.0, up) in
    drop_alike (row - from) (end - from) v (spread end vs ends) ∙ ap₂ (λ (j k : ℕ). replicate j v ++ drop k (spread end vs ends)) none rest
    ∙ drop_runs end vs ends row place (omega arith) rise.1 (omega arith) after below

rise_from : (from : ℕ) (ends : List ℕ) (row place : ℕ) → Rise from ends → place < length ends → row < get_or ends place 0 → Rise row (drop place ends)
rise_from from [] row place rise lt below = absurd (omega arith)
rise_from from (end ∷ ends) row zero rise lt below = (below, rise.1)
rise_from from (end ∷ ends) row (suc place) rise lt below = rise_from end ends row place rise.1 (omega arith) below

start_from : (from row stop : ℕ) (ends : List ℕ) (first more place : ℕ) → place ≡ first + more → row < stop → start_of from ends place < stop → start_of row (drop first ends) more < stop
start_from from row stop ends zero zero place e lt before = lt
start_from from row stop [] zero (suc more) place e lt before = lt
start_from from row stop (end ∷ ends) zero (suc more) place e lt before = let same : place ≡ suc more = omega arith in omega (arith, before, ap (start_of from (end ∷ ends)) same)
start_from from row stop [] (suc first) zero place e lt before = lt
start_from from row stop [] (suc first) (suc more) place e lt before = lt
start_from from row stop (end ∷ ends) (suc first) more zero e lt before = absurd (omega arith)
start_from from row stop (end ∷ ends) (suc first) more (suc place) e lt before = start_from end row stop ends first more place (omega arith) lt before

-- ---- the rows up to one
abbrev cut_at : ℕ → List ℕ → List ℕ
cut_at stop ends = map (λ end. min stop end) ends

take_runs : {X : Type 0} (from : ℕ) (vs : List X) (ends : List ℕ) (stop place : ℕ) → length ends ≡ length vs → Rise from ends → place < length ends → start_of from ends place < stop → stop ≤ get_or ends place 0 → take (stop - from) (spread from vs ends) ≡ spread from (take (suc place) vs) (cut_at stop (take (suc place) ends))
take_runs from vs [] stop place e rise lt after below = absurd (omega arith)
take_runs from [] (end ∷ ends) stop place e rise lt after below = absurd (omega arith)
take_runs from (v ∷ vs) (end ∷ ends) stop zero e rise lt after below =
    let here : min (stop - from) (end - from) ≡ min stop end - from = omega arith in
    let none : (stop - from) - (end - from) ≡ 0 = omega arith in
    take_alike (stop - from) (end - from) v (spread end vs ends) ∙ ap₂ (λ (j k : ℕ). replicate j v ++ take k (spread end vs ends)) here none
take_runs {X} from (v ∷ vs) (end ∷ ends) stop (suc place) e rise lt after below =
    let up : end < stop = omega (arith, start_up end ends place rise.1 (omega arith), after) in
    let here : min (stop - from) (end - from) ≡ min stop end - from = omega (arith, up, rise.0) in
    let rest : (stop - from) - (end - from) ≡ stop - end = omega (arith, rise.0, up) in
    let whole : end ≡ min stop end = omega (arith, up) in
    take_alike (stop - from) (end - from) v (spread end vs ends) ∙ ap₂ (λ (j k : ℕ). replicate j v ++ take k (spread end vs ends)) here rest
    ∙ ap (λ (xs : List X). replicate (min stop end - from) v ++ xs) (take_runs end vs ends stop place (omega arith) rise.1 (omega arith) after below)
    ∙ ap (λ (k : ℕ). replicate (min stop end - from) v ++ spread k (take (suc place) vs) (cut_at stop (take (suc place) ends))) whole

rise_cut : (from : ℕ) (ends : List ℕ) (stop place : ℕ) → Rise from ends → place < length ends → start_of from ends place < stop → Rise from (cut_at stop (take (suc place) ends))
rise_cut from [] stop place rise lt after = absurd (omega arith)
rise_cut from (end ∷ ends) stop zero rise lt after = (omega (arith, rise.0, after), tt)
rise_cut from (end ∷ ends) stop (suc place) rise lt after =
    let up : end < stop = omega (arith, start_up end ends place rise.1 (omega arith), after) in
    let whole : end ≡ min stop end = omega (arith, up) in
    (omega (arith, rise.0, up), subst (λ (k : ℕ). Rise k (cut_at stop (take (suc place) ends))) whole (rise_cut end ends stop place rise.1 (omega arith) after))

-- ---- rows that are counted from another one
abbrev counted : ℕ → List ℕ → List ℕ
counted by ends = map (λ end. end - by) ends

shift_runs : {X : Type 0} (from by : ℕ) (vs : List X) (ends : List ℕ) → by ≤ from → Rise from ends → spread from vs ends ≡ spread (from - by) vs (counted by ends)
shift_runs from by [] ends le rise = refl
shift_runs from by (v ∷ vs) [] le rise = refl
shift_runs {X} from by (v ∷ vs) (end ∷ ends) le rise =
    let same : end - from ≡ (end - by) - (from - by) = omega (arith, le, rise.0) in
    ap₂ (λ (k : ℕ) (xs : List X). replicate k v ++ xs) same (shift_runs end by vs ends (omega (arith, le, rise.0)) rise.1)

rise_shift : (from by : ℕ) (ends : List ℕ) → by ≤ from → Rise from ends → Rise (from - by) (counted by ends)
rise_shift from by [] le rise = tt
rise_shift from by (end ∷ ends) le rise = (omega (arith, le, rise.0), rise_shift end by ends (omega (arith, le, rise.0)) rise.1)

counted_cut : (start stop : ℕ) (ends : List ℕ) → counted start (cut_at stop ends) ≡ cut_ends start stop ends
counted_cut start stop [] = refl
counted_cut start stop (end ∷ ends) = ap (λ (es : List ℕ). (min stop end - start) ∷ es) (counted_cut start stop ends)

-- ---- the rows of a range
record Cut (ends : List ℕ) (start stop first last : ℕ) : Type 0 where
  some : start < stop
  one : HasRow ends start first
  two : HasRow ends (stop - 1) last
  order : first ≤ last

-- what the range has of the ends
abbrev part_of : ℕ → ℕ → List ℕ → List ℕ
part_of first last ends = take (suc (last - first)) (drop first ends)

cut_low : (ends : List ℕ) (start stop first last : ℕ) → Cut ends start stop first last → start_of start (drop first ends) (last - first) < stop
cut_low ends start stop first last h = start_from 0 start stop ends first (last - first) last (omega (arith, h.order)) h.some (omega (arith, h.two.from, h.some))

cut_inside : (ends : List ℕ) (start stop first last : ℕ) → Cut ends start stop first last → last - first < length (drop first ends)
cut_inside ends start stop first last h = omega (arith, length-drop first ends, h.two.there, h.order)

cut_rows : {X : Type 0} (vs : List X) (ends : List ℕ) (start stop first last : ℕ) → length ends ≡ length vs → Rise 0 ends → Cut ends start stop first last
    → slice_range (spread 0 vs ends) start stop ≡ spread 0 (take (suc (last - first)) (drop first vs)) (cut_ends start stop (part_of first last ends))
cut_rows {X} vs ends start stop first last same rise h =
    let there : start ≡ start - 0 = omega arith in
    let from = rise_from 0 ends start first rise h.one.there h.one.below in
    let many : length (drop first ends) ≡ length (drop first vs) = length_drop first ends vs same in
    let inside = cut_inside ends start stop first last h in
    let low = cut_low ends start stop first last h in
    let place : first + (last - first) ≡ last = omega (arith, h.order) in
    let high : stop ≤ get_or (drop first ends) (last - first) 0 = omega (arith, get_or-drop first ends (last - first) 0, ap (λ (k : ℕ). get_or ends k 0) place, h.two.below, h.some) in
    let part = part_of first last ends in
    let kept = take (suc (last - first)) (drop first vs) in
    let zero_there : start - start ≡ 0 = omega arith in
    ap (λ (k : ℕ). take (stop - start) (drop k (spread 0 vs ends))) there
    ∙ ap (take (stop - start)) (drop_runs 0 vs ends start first same rise h.one.there h.one.from h.one.below)
    ∙ take_runs start (drop first vs) (drop first ends) stop (last - first) many from inside low high
    ∙ shift_runs start start kept (cut_at stop part) (omega arith) (rise_cut start (drop first ends) stop (last - first) from inside low)
    ∙ ap₂ (λ (k : ℕ) (es : List ℕ). spread k kept es) zero_there (counted_cut start stop part)

cut_rise : (ends : List ℕ) (start stop first last : ℕ) → Rise 0 ends → Cut ends start stop first last → Rise 0 (cut_ends start stop (part_of first last ends))
cut_rise ends start stop first last rise h =
    let from = rise_from 0 ends start first rise h.one.there h.one.below in
    let none : start - start ≡ 0 = omega arith in
    subst (Rise 0) (counted_cut start stop (part_of first last ends))
    (subst (λ (k : ℕ). Rise k (counted start (cut_at stop (part_of first last ends)))) none
    (rise_shift start start (cut_at stop (part_of first last ends)) (omega arith)
    (rise_cut start (drop first ends) stop (last - first) from (cut_inside ends start stop first last h) (cut_low ends start stop first last h))))

-- ---- what is made of runs
pub cut_made : (values column made : ColumnData) (ends slice part cut : List ℕ) (start stop first last behind : ℕ) → runs_column values ends ≡ column → length ends ≡ length values.values → Rise 0 ends → slice ≡ ends → start < stop → HasRow slice start first → HasRow slice (stop - 1) last → first ≤ last → behind ≡ last + 1
    → part ≡ take (behind - first) (drop first slice) → cut ≡ cut_ends start stop part → made ≡ sliced first behind values → AreRuns made cut × (runs_column made cut ≡ sliced start stop column)
cut_made values column made ends slice part cut start stop first last behind view same rise e some one two order next f g is =
    let h : Cut ends start stop first last = record { some = some; one = subst (λ (es : List ℕ). HasRow es start first) e one; two = subst (λ (es : List ℕ). HasRow es (stop - 1) last) e two; order = order } in
    let count : behind - first ≡ suc (last - first) = omega (arith, next, order) in
    let kept = take (suc (last - first)) (drop first values.values) in
    let ends_are : cut ≡ cut_ends start stop (part_of first last ends) = g ∙ ap (cut_ends start stop) (f ∙ ap₂ (λ (k : ℕ) (es : List ℕ). take k (drop first es)) count e) in
    let values_are : made.values ≡ kept = ap (λ (c : ColumnData). c.values) is ∙ ap (λ (k : ℕ). take k (drop first values.values)) count in
    let type : made.dtype ≡ column.dtype = ap (λ (c : ColumnData). c.dtype) is ∙ ap (λ (c : ColumnData). c.dtype) view in
    let rows : spread 0 made.values cut ≡ slice_range column.values start stop =
    ap₂ (λ (vs : List Datum) (es : List ℕ). spread 0 vs es) values_are ends_are ∙ sym (cut_rows values.values ends start stop first last same rise h) ∙ ap (λ (c : ColumnData). slice_range c.values start stop) view in
    let many : length (part_of first last ends) ≡ length kept = length_take (suc (last - first)) (drop first ends) (drop first values.values) (length_drop first ends values.values same) in (
      record {
        same = ap length ends_are ∙ length-map (part_of first last ends) (λ (end : ℕ). min stop end - start) ∙ many ∙ sym (ap length values_are);
        rise = subst (Rise 0) (sym ends_are) (cut_rise ends start stop first last rise h);
      },
      λ i. record { dtype = type i; values = rows i },
    )

-- no rows of a range
pub none_made : (values column made : ColumnData) (ends slice : List ℕ) (start stop : ℕ) → runs_column values ends ≡ column → stop ≡ start → slice ≡ [] → made ≡ sliced 0 0 values → AreRuns made slice × (runs_column made slice ≡ sliced start stop column)
none_made values column made ends slice start stop view same e is =
    let none : 0 ≡ stop - start = omega arith in
    let type : made.dtype ≡ column.dtype = ap (λ (c : ColumnData). c.dtype) is ∙ ap (λ (c : ColumnData). c.dtype) view in
    let empty : made.values ≡ [] = ap (λ (c : ColumnData). c.values) is in
    let rows : spread 0 made.values slice ≡ slice_range column.values start stop =
    ap₂ (λ (vs : List Datum) (es : List ℕ). spread 0 vs es) empty e ∙ ap (λ (k : ℕ). take k (drop start column.values)) none in (
      record { same = ap length e ∙ sym (ap length empty); rise = subst (Rise 0) (sym e) tt },
      λ i. record { dtype = type i; values = rows i },
    )
