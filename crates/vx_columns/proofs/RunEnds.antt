-- Where a run of rows that are the same ends.
use Rattle.std.proofs.Common.{◌≡◌, ℕ, zero, suc, ◌+◌, ◌-◌, ◌<◌, ◌≤◌, List, [], ◌∷◌, length, get_or, ◌⊎◌, inl, inr, sym, ap, subst, ◌∙◌, arith}
use Rattle.std.specs.Prelude.{slice_get}
use Rattle.std.proofs.lemmas.Bool.{cases_lt}
use Rattle.vx_types.specs.Columns.{ColumnData}
use Rattle.vx_columns.specs.LaidRuns.{AllAlike, IsRunEnd, IsFirstOther}
use Rattle.vx_columns.specs.RunRows.{Rise, start_of, HasRow, runs_column}
use Rattle.vx_columns.specs.Runs.{spread}
use Rattle.vx_columns.proofs.SpreadRuns.{start_next, rise_at, start_up, spread_len, row_of}

-- ---- rows that are the same so far
pub record AlikeTo {X : Type 0} (rows : List X) (row end : ℕ) : Type 0 where
  pub behind : row < end
  pub alike : (other : ℕ) → row ≤ other → other < end → slice_get rows other ≡ slice_get rows row

pub run_first : {X : Type 0} (rows : List X) (row : ℕ) → AlikeTo rows row (row + 1)
run_first rows row = record {
  behind = omega arith;
  alike = λ other from below. let same : other ≡ row = omega arith in ap (slice_get rows) same;
}

alike_or_last : {X : Type 0} (rows : List X) (row end other : ℕ) → slice_get rows end ≡ slice_get rows row → AlikeTo rows row end → row ≤ other → other < end + 1 → (other < end) ⊎ (end ≤ other) → slice_get rows other ≡ slice_get rows row
alike_or_last rows row end other same h from below (inl before) = h.alike other from before
alike_or_last rows row end other same h from below (inr past) = let here : other ≡ end = omega arith in ap (slice_get rows) here ∙ same

pub run_more : {X : Type 0} (rows : List X) (row end : ℕ) → slice_get rows end ≡ slice_get rows row → AlikeTo rows row end → AlikeTo rows row (end + 1)
run_more rows row end same h = record {
  behind = omega (arith, h.behind);
  alike = λ other from below. alike_or_last rows row end other same h from below (cases_lt other end);
}

pub run_here : {X : Type 0} (rows : List X) (row end : ℕ) → end < length rows → ¬ (slice_get rows end ≡ slice_get rows row) → AlikeTo rows row end → IsRunEnd rows row end
run_here rows row end lt other h = record { behind = h.behind; inside = omega arith; alike = h.alike; ended = λ more. other }

pub run_all : {X : Type 0} (rows : List X) (row end : ℕ) → length rows ≤ end → end ≤ length rows → AlikeTo rows row end → IsRunEnd rows row (length rows)
run_all rows row end past within h =
    let all : end ≡ length rows = omega arith in
    subst (IsRunEnd rows row) all (record { behind = h.behind; inside = within; alike = h.alike; ended = λ more. absurd (omega arith) })

-- ---- the run that has a row
-- an end lies at or before the start of each later run
pub end_before : (from : ℕ) (ends : List ℕ) (earlier place : ℕ) → Rise from ends → earlier < place → place ≤ length ends → get_or ends earlier 0 ≤ start_of from ends place
end_before from [] earlier place h lt le = absurd (omega arith)
end_before from (end ∷ ends) earlier zero h lt le = absurd (omega arith)
end_before from (end ∷ ends) zero (suc place) h lt le = start_up end ends place h.1 (omega arith)
end_before from (end ∷ ends) (suc earlier) (suc place) h lt le = end_before end ends earlier place h.1 (omega arith) (omega arith)

pub ends_up : (ends : List ℕ) (earlier place : ℕ) → Rise 0 ends → earlier ≤ place → place < length ends → get_or ends earlier 0 ≤ get_or ends place 0
ends_up ends earlier place rise le lt = up (cases_lt earlier place)
  where
    up : (earlier < place) ⊎ (place ≤ earlier) → get_or ends earlier 0 ≤ get_or ends place 0
    up (inl before) = omega (arith, end_before 0 ends earlier place rise before (omega arith), rise_at 0 ends place rise lt)
    up (inr past) = let same : earlier ≡ place = omega arith in omega (arith, ap (λ (k : ℕ). get_or ends k 0) same)

-- a later row lies in the same run, or in a later one
pub places_up : (ends : List ℕ) (row other place at : ℕ) → Rise 0 ends → HasRow ends row place → HasRow ends other at → row ≤ other → place ≤ at
places_up ends row other place at rise one two le = up (cases_lt at place)
  where
    up : (at < place) ⊎ (place ≤ at) → place ≤ at
    up (inl before) = absurd (omega (arith, end_before 0 ends at place rise before (omega (arith, one.there)), one.from, two.below))
    up (inr past) = past

record RunAt (from : ℕ) (ends : List ℕ) (row place : ℕ) : Type 0 where
  there : place < length ends
  start : start_of from ends place ≤ row
  below : row < get_or ends place 0

first_or : (from end row : ℕ) (ends : List ℕ) → from ≤ row → (row < end) ⊎ (end ≤ row) → (end ≤ row → (place : ℕ) × RunAt end ends row place) → (place : ℕ) × RunAt from (end ∷ ends) row place
first_or from end row ends le (inl before) later = (0, record { there = omega arith; start = le; below = before })
first_or from end row ends le (inr past) later = let found = later past in (suc found.0, record { there = omega (arith, found.1.there); start = found.1.start; below = found.1.below })

place_from : (from : ℕ) (ends : List ℕ) (row : ℕ) → from ≤ row → row < start_of from ends (length ends) → (place : ℕ) × RunAt from ends row place
place_from from [] row le lt = absurd (omega arith)
place_from from (end ∷ ends) row le lt = first_or from end row ends le (cases_lt row end) (λ past. place_from end ends row past lt)

-- each row lies in a run
pub place_for : (ends : List ℕ) (row : ℕ) → row < start_of 0 ends (length ends) → (place : ℕ) × HasRow ends row place
place_for ends row lt =
    let found = place_from 0 ends row (omega arith) lt in
    (found.0, record { there = found.1.there; from = found.1.start; below = found.1.below })

-- ---- where a run of rows ends whose values lie in runs, of which some may be the same
alike_run : {X : Type 0} (vs : List X) (ends : List ℕ) (row other place at last : ℕ) → length ends ≡ length vs → Rise 0 ends → HasRow ends row place → HasRow ends other at → row ≤ other → other < get_or ends (last - 1) 0 → IsRunEnd vs place last → slice_get (spread 0 vs ends) other ≡ slice_get (spread 0 vs ends) row
alike_run {X} vs ends row other place at last same rise one two le lt h =
    row_of vs ends other at same rise two ∙ h.alike at (places_up ends row other place at rise one two le) (below (cases_lt at last)) ∙ sym (row_of vs ends row place same rise one)
  where
    below : (at < last) ⊎ (last ≤ at) → at < last
    below (inl before) = before
    below (inr past) = absurd (omega (arith, end_before 0 ends (last - 1) at rise (omega (arith, h.behind)) (omega (arith, two.there)), two.from, lt))

behind_run : {X : Type 0} (vs : List X) (ends : List ℕ) (row place last : ℕ) → length ends ≡ length vs → Rise 0 ends → HasRow ends row place → IsRunEnd vs place last → start_of 0 ends last ≡ get_or ends (last - 1) 0 → (last < length ends) ⊎ (length ends ≤ last)
    → get_or ends (last - 1) 0 < length (spread 0 vs ends) → ¬ (slice_get (spread 0 vs ends) (get_or ends (last - 1) 0) ≡ slice_get (spread 0 vs ends) row)
behind_run {X} vs ends row place last same rise one h start (inl more) lt is =
    let end = get_or ends (last - 1) 0 in
    let two : HasRow ends end last = record { there = more; from = omega (arith, start); below = omega (arith, start, rise_at 0 ends last rise more) } in
    h.ended (omega (arith, more, same)) (sym (row_of vs ends end last same rise two) ∙ is ∙ row_of vs ends row place same rise one)
behind_run {X} vs ends row place last same rise one h start (inr past) lt is =
    let all : last ≡ length ends = omega (arith, h.inside, same, past) in
    omega (arith, lt, spread_len 0 vs ends same rise, start, ap (start_of 0 ends) all)

pub run_of_runs : {X : Type 0} (vs : List X) (ends : List ℕ) (row place last : ℕ) → length ends ≡ length vs → Rise 0 ends → HasRow ends row place → IsRunEnd vs place last → IsRunEnd (spread 0 vs ends) row (get_or ends (last - 1) 0)
run_of_runs {X} vs ends row place last same rise one h =
    let inside : last - 1 < length ends = omega (arith, h.behind, h.inside, same) in
    let next : suc (last - 1) ≡ last = omega (arith, h.behind) in
    let start : start_of 0 ends last ≡ get_or ends (last - 1) 0 = sym (ap (start_of 0 ends) next) ∙ start_next 0 ends (last - 1) inside in
    let len : length (spread 0 vs ends) ≡ start_of 0 ends (length ends) = omega (arith, spread_len 0 vs ends same rise) in
    let all : get_or ends (last - 1) 0 ≤ length (spread 0 vs ends) = omega (arith, len, end_before 0 ends (last - 1) (length ends) rise inside (omega arith)) in
    record {
      behind = omega (arith, one.below, ends_up ends place (last - 1) rise (omega (arith, h.behind)) inside);
      inside = all;
      alike = λ other from below.
          let found = place_for ends other (omega (arith, below, all, len)) in
          alike_run vs ends row other place found.0 last same rise one found.1 from below h;
      ended = λ lt same_there. behind_run vs ends row place last same rise one h start (cases_lt last (length ends)) lt same_there;
    }

pub run_of_column : (values column : ColumnData) (ends : List ℕ) (row place last : ℕ) → runs_column values ends ≡ column → length ends ≡ length values.values → Rise 0 ends → HasRow ends row place → IsRunEnd values.values place last → IsRunEnd column.values row (get_or ends (last - 1) 0)
run_of_column values column ends row place last view same rise one h =
    subst (λ (c : ColumnData). IsRunEnd c.values row (get_or ends (last - 1) 0)) view (run_of_runs values.values ends row place last same rise one h)

-- ---- the first row that is another
pub all_alike : {X : Type 0} (rows : List X) (end : ℕ) → length rows ≤ end → IsRunEnd rows 0 end → AllAlike rows
all_alike rows end past h row lt = h.alike row (omega arith) (omega arith)

pub none_alike : {X : Type 0} (rows : List X) → length rows ≡ 0 → AllAlike rows
none_alike rows none row lt = absurd (omega arith)

pub other_here : {X : Type 0} (rows : List X) (end : ℕ) → end < length rows → IsRunEnd rows 0 end → IsFirstOther rows end
other_here rows end lt h = record { there = lt; other = h.ended lt; alike = λ earlier below. h.alike earlier (omega arith) below }
