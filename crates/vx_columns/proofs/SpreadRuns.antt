-- Runs: where each begins, and the row of a run.
use Rattle.std.proofs.Common.{◌≡◌, ℕ, zero, suc, ◌+◌, ◌-◌, ◌*◌, ◌/◌, ◌%◌, ◌<◌, ◌≤◌, Bool, List, [], ◌∷◌, ◌++◌, length, map, get_or, drop, replicate, Some, refl, sym, ap, ap₂, subst, ◌∙◌, arith, append_assoc, add-one}
use Rattle.std.specs.Prelude.{slice_get}
use Rattle.std.proofs.lemmas.List.{length-append, length-replicate, drop_more, drop_all, append-nil, map-append}
use Rattle.vx_types.specs.Columns.{ColumnData}
use Rattle.vx_types.specs.Slots.{is_value}
use Rattle.vx_columns.specs.RunRows.{Rise, start_of, HasRow, runs_column}
use Rattle.vx_arrays.specs.Texts.{start_in}
use Rattle.vx_columns.specs.Runs.{spread, AreGoodEnds}

-- ---- where runs begin
pub start_next : (from : ℕ) (ends : List ℕ) (place : ℕ) → place < length ends → start_of from ends (suc place) ≡ get_or ends place 0
start_next from [] place h = absurd (omega arith)
start_next from (end ∷ ends) zero h = refl
start_next from (end ∷ ends) (suc place) h = start_next end ends place (omega arith)

pub rise_at : (from : ℕ) (ends : List ℕ) (place : ℕ) → Rise from ends → place < length ends → start_of from ends place < get_or ends place 0
rise_at from [] place h lt = absurd (omega arith)
rise_at from (end ∷ ends) zero h lt = h.0
rise_at from (end ∷ ends) (suc place) h lt = rise_at end ends place h.1 (omega arith)

pub last_start : (ends : List ℕ) → 0 < length ends → start_of 0 ends (length ends) ≡ get_or ends (length ends - 1) 0
last_start [] h = absurd (omega arith)
last_start (end ∷ ends) h =
    let last : start_of 0 (end ∷ ends) (suc (length ends)) ≡ get_or (end ∷ ends) (length ends) 0 = start_next 0 (end ∷ ends) (length ends) (omega arith) in
    let place : length ends ≡ length (end ∷ ends) - 1 = omega arith in
    last ∙ ap (λ (k : ℕ). get_or (end ∷ ends) k 0) place

pub no_start : (ends : List ℕ) → length ends ≡ 0 → start_of 0 ends (length ends) ≡ 0
no_start [] h = refl
no_start (end ∷ ends) h = absurd (omega arith)

pub start_up : (from : ℕ) (ends : List ℕ) (place : ℕ) → Rise from ends → place ≤ length ends → from ≤ start_of from ends place
start_up from ends zero h le = omega arith
start_up from [] (suc place) h le = omega arith
start_up from (end ∷ ends) (suc place) h le = omega (arith, h.0, start_up end ends place h.1 (omega arith))

pub same_start : (ends : List ℕ) (place : ℕ) → place ≤ length ends → start_in ends place ≡ start_of 0 ends place
same_start ends zero le = refl
same_start ends (suc place) le = sym (start_next 0 ends place (omega arith))

pub risen : (from : ℕ) (ends : List ℕ) → ((place : ℕ) → place < length ends → start_of from ends place < get_or ends place 0) → Rise from ends
risen from [] h = tt
risen from (end ∷ ends) h = (h 0 (omega arith), risen end ends (λ place lt. h (suc place) (omega arith)))

pub good_rise : (count : ℕ) (ends : List ℕ) → AreGoodEnds count ends → Rise 0 ends
good_rise count ends h = risen 0 ends (λ place lt.
    let here = h.good place (omega (arith, h.same)) in
    omega (arith, here.above, same_start ends place (omega arith)))

-- ---- the rows of runs
pub spread_len : {X : Type 0} (from : ℕ) (vs : List X) (ends : List ℕ) → length ends ≡ length vs → Rise from ends → from + length (spread from vs ends) ≡ start_of from ends (length ends)
spread_len from [] [] e h = omega arith
spread_len from (v ∷ vs) (end ∷ ends) e h =
    let rest = spread_len end vs ends (omega arith) h.1 in
    omega (arith, h.0, rest, length-append (replicate (end - from) v) (spread end vs ends), length-replicate (end - from) v)
spread_len from [] (end ∷ ends) e h = absurd (omega arith)
spread_len from (v ∷ vs) [] e h = absurd (omega arith)

map_alike : {X Y : Type 0} (f : X → Y) (n : ℕ) (v : X) → map f (replicate n v) ≡ replicate n (f v)
map_alike f zero v = refl
map_alike {X} {Y} f (suc n) v = ap (λ (ys : List Y). f v ∷ ys) (map_alike f n v)

pub map_spread : {X Y : Type 0} (f : X → Y) (from : ℕ) (vs : List X) (ends : List ℕ) → map f (spread from vs ends) ≡ spread from (map f vs) ends
map_spread f from [] ends = refl
map_spread f from (v ∷ vs) [] = refl
map_spread {X} {Y} f from (v ∷ vs) (end ∷ ends) = map-append f (replicate (end - from) v) (spread end vs ends) ∙ ap₂ (λ (xs ys : List Y). xs ++ ys) (map_alike f (end - from) v) (map_spread f end vs ends)

front_row : {X : Type 0} (n k : ℕ) (v : X) (rest : List X) → k < n → slice_get (replicate n v ++ rest) k ≡ Some v
front_row zero k v rest h = absurd (omega arith)
front_row (suc n) zero v rest h = refl
front_row (suc n) (suc k) v rest h = front_row n k v rest (omega arith)

later_row : {X : Type 0} (n k j : ℕ) (v : X) (rest : List X) → k ≡ n + j → slice_get (replicate n v ++ rest) k ≡ slice_get rest j
later_row zero k j v rest e = let same : k ≡ j = omega arith in ap (slice_get rest) same
later_row (suc n) zero j v rest e = absurd (omega arith)
later_row (suc n) (suc k) j v rest e = later_row n k j v rest (omega arith)

row_from : {X : Type 0} (from : ℕ) (vs : List X) (ends : List ℕ) (row place : ℕ) → length ends ≡ length vs → Rise from ends → place < length ends → start_of from ends place ≤ row → row < get_or ends place 0 → slice_get (spread from vs ends) (row - from) ≡ slice_get vs place
row_from from vs [] row place e h lt after below = absurd (omega arith)
row_from from [] (end ∷ ends) row place e h lt after below = absurd (omega arith)
row_from from (v ∷ vs) (end ∷ ends) row zero e h lt after below = front_row (end - from) (row - from) v (spread end vs ends) (omega (arith, h.0))
row_from from (v ∷ vs) (end ∷ ends) row (suc place) e h lt after below =
    let up = start_up end ends place h.1 (omega arith) in
    later_row (end - from) (row - from) (row - end) v (spread end vs ends) (omega (arith, h.0, up, after)) ∙ row_from end vs ends row place (omega arith) h.1 (omega arith) after below

-- the value of a row is that of the run that has it
pub row_of : {X : Type 0} (vs : List X) (ends : List ℕ) (row place : ℕ) → length ends ≡ length vs → Rise 0 ends → HasRow ends row place → slice_get (spread 0 vs ends) row ≡ slice_get vs place
row_of vs ends row place e h has = let same : row ≡ row - 0 = omega arith in ap (slice_get (spread 0 vs ends)) same ∙ row_from 0 vs ends row place e h has.there has.from has.below

-- ---- the search for a run
pub record Between (ends : List ℕ) (row low high : ℕ) : Type 0 where
  pub order : low ≤ high
  pub inside : high < length ends
  pub from : start_of 0 ends low ≤ row
  pub below : row < get_or ends high 0

pub between_all : (ends : List ℕ) (row : ℕ) → row < start_of 0 ends (length ends) → Between ends row 0 (length ends - 1)
between_all [] row h = absurd (omega arith)
between_all (end ∷ ends) row h =
    let last : start_of 0 (end ∷ ends) (suc (length ends)) ≡ get_or (end ∷ ends) (length ends) 0 = start_next 0 (end ∷ ends) (length ends) (omega arith) in
    let place : length ends ≡ length (end ∷ ends) - 1 = omega arith in
    subst (λ (high : ℕ). Between (end ∷ ends) row 0 high) place (record { order = omega arith; inside = omega arith; from = omega arith; below = omega (arith, h, last) })

pub between_upper : (ends : List ℕ) (row low high middle : ℕ) → low ≤ middle → middle < high → get_or ends middle 0 ≤ row → Between ends row low high → Between ends row (middle + 1) high
between_upper ends row low high middle le lt past h =
    let next : start_of 0 ends (middle + 1) ≡ get_or ends middle 0 = rw add-one (start_next 0 ends middle (omega (arith, h.inside))) in
    record { order = omega arith; inside = h.inside; from = omega (arith, next); below = h.below }

pub between_lower : (ends : List ℕ) (row low high middle : ℕ) → low ≤ middle → middle < high → row < get_or ends middle 0 → Between ends row low high → Between ends row low middle
between_lower ends row low high middle le lt before h = record { order = le; inside = omega (arith, h.inside); from = h.from; below = before }

pub between_one : (ends : List ℕ) (row low high : ℕ) → high ≤ low → Between ends row low high → HasRow ends row low
between_one ends row low high past h =
    let same : high ≡ low = omega (arith, h.order) in
    subst (λ (place : ℕ). HasRow ends row place) same (record { there = h.inside; from = omega (arith, subst (λ (place : ℕ). start_of 0 ends place ≤ row) (sym same) h.from); below = h.below })

-- ---- the mask of runs so far
abbrev pub SpreadSoFar : {X : Type 0} → List X → List ℕ → List X → ℕ → ℕ → Type 0
SpreadSoFar bits ends made before run = made ++ spread before (drop run bits) (drop run ends) ≡ spread 0 bits ends

pub spread_more : (bits : List Bool) (ends : List ℕ) (made more : List Bool) (before run : ℕ) (bit : Bool) → run < length ends → length ends ≡ length bits → slice_get bits run ≡ Some bit → more ≡ made ++ replicate (get_or ends run 0 - before) bit → SpreadSoFar bits ends made before run → SpreadSoFar bits ends more (get_or ends run 0) (run + 1)
spread_more bits ends made more before run bit lt same at pushed h =
    let end = get_or ends run 0 in
    let alike = replicate (end - before) bit in
    let rest = spread end (drop (run + 1) bits) (drop (run + 1) ends) in
    let here : get_or bits run bit ≡ bit = found bits run bit at in
    let split : spread before (drop run bits) (drop run ends) ≡ alike ++ rest =
    ap₂ (λ (bs : List Bool) (es : List ℕ). spread before bs es) (drop_more bits run bit (omega (arith, same))) (drop_more ends run 0 lt) ∙ ap (λ (b : Bool). replicate (end - before) b ++ rest) here in
    ap (λ (bs : List Bool). bs ++ rest) pushed ∙ append_assoc made alike rest ∙ ap (λ (bs : List Bool). made ++ bs) (sym split) ∙ h
  where
    found : (bs : List Bool) (k : ℕ) (b : Bool) → slice_get bs k ≡ Some b → get_or bs k b ≡ b
    found [] k b e = refl
    found (c ∷ bs) zero b e = cc
    found (c ∷ bs) (suc k) b e = found bs k b e

pub spread_done : (bits : List Bool) (ends : List ℕ) (made : List Bool) (before run : ℕ) → length ends ≤ run → length ends ≡ length bits → SpreadSoFar bits ends made before run → made ≡ spread 0 bits ends
spread_done bits ends made before run past same h =
    sym (append-nil made) ∙ ap (λ (bs : List Bool). made ++ spread before bs (drop run ends)) (sym (drop_all run bits (omega (arith, same)))) ∙ h

-- ---- rows that are alike behind a mask
more_alike : {X : Type 0} (m n : ℕ) (x : X) → replicate m x ++ replicate n x ≡ replicate (m + n) x
more_alike zero n x = let same : n ≡ 0 + n = omega arith in ap (λ (k : ℕ). replicate k x) same
more_alike {X} (suc m) n x = let next : suc (m + n) ≡ suc m + n = omega arith in ap (λ (xs : List X). x ∷ xs) (more_alike m n x) ∙ ap (λ (k : ℕ). replicate k x) next

pub alike_more : (mask made piece more : List Bool) (bit : Bool) (done : ℕ) → piece ≡ replicate 65536 bit → more ≡ made ++ piece → made ≡ mask ++ replicate (65536 * done) bit → more ≡ mask ++ replicate (65536 * (done + 1)) bit
alike_more mask made piece more bit done e f h =
    let next : 65536 * done + 65536 ≡ 65536 * (done + 1) = omega arith in
    f ∙ ap₂ (λ (xs ys : List Bool). xs ++ ys) h e ∙ append_assoc mask (replicate (65536 * done) bit) (replicate 65536 bit) ∙ ap (λ (bits : List Bool). mask ++ bits) (more_alike (65536 * done) 65536 bit) ∙ ap (λ (k : ℕ). mask ++ replicate k bit) next

pub alike_all : (mask made rest more : List Bool) (bit : Bool) (rows done : ℕ) → rows / 65536 ≤ done → done ≤ rows / 65536 → rest ≡ replicate (rows % 65536) bit → more ≡ made ++ rest → made ≡ mask ++ replicate (65536 * done) bit → more ≡ mask ++ replicate rows bit
alike_all mask made rest more bit rows done past within e f h =
    let whole : 65536 * done + rows % 65536 ≡ rows = omega arith in
    f ∙ ap₂ (λ (xs ys : List Bool). xs ++ ys) h e ∙ append_assoc mask (replicate (65536 * done) bit) (replicate (rows % 65536) bit) ∙ ap (λ (bits : List Bool). mask ++ bits) (more_alike (65536 * done) (rows % 65536) bit) ∙ ap (λ (k : ℕ). mask ++ replicate k bit) whole

-- ---- runs as a column
pub runs_len : (values column : ColumnData) (ends slice : List ℕ) → runs_column values ends ≡ column → slice ≡ ends → length ends ≡ length values.values → Rise 0 ends → length column.values ≡ start_of 0 slice (length slice)
runs_len values column ends slice view e same rise =
    let len : length (spread 0 values.values ends) ≡ start_of 0 ends (length ends) = omega (arith, spread_len 0 values.values ends same rise) in
    sym (ap (λ (c : ColumnData). length c.values) view) ∙ len ∙ sym (ap (λ (es : List ℕ). start_of 0 es (length es)) e)

pub run_inside : (values column : ColumnData) (ends slice : List ℕ) (row : ℕ) → runs_column values ends ≡ column → slice ≡ ends → length ends ≡ length values.values → Rise 0 ends → row < length column.values → row < start_of 0 slice (length slice)
run_inside values column ends slice row view e same rise lt = omega (arith, lt, runs_len values column ends slice view e same rise)

pub run_row : (values column : ColumnData) (ends slice : List ℕ) (row place : ℕ) → runs_column values ends ≡ column → slice ≡ ends → length ends ≡ length values.values → Rise 0 ends → HasRow slice row place → slice_get column.values row ≡ slice_get values.values place
run_row values column ends slice row place view e same rise has =
    ap (λ (c : ColumnData). slice_get c.values row) (sym view) ∙ row_of values.values ends row place same rise (subst (λ (es : List ℕ). HasRow es row place) e has)

pub spread_validity : (bits : List Bool) (values column : ColumnData) (ends slice : List ℕ) → runs_column values ends ≡ column → slice ≡ ends → bits ≡ map is_value values.values → spread 0 bits slice ≡ map is_value column.values
spread_validity bits values column ends slice view e is =
    (λ i. spread 0 (is i) (e i)) ∙ sym (map_spread is_value 0 values.values ends) ∙ ap (λ (c : ColumnData). map is_value c.values) view
