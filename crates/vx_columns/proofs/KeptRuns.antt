-- Runs that are cut by a mask: how many rows of each are left, and the runs that have some.
use Rattle.std.proofs.Common.{◌≡◌, ℕ, zero, suc, ◌+◌, ◌-◌, ◌<◌, ◌≤◌, Bool, true, false, List, [], ◌∷◌, ◌++◌, length, get_or, take, drop, replicate, refl, sym, ap, ap₂, subst, ◌∙◌, arith, append_assoc, add-one}
use Rattle.std.specs.Prelude.{sum}
use Rattle.std.proofs.lemmas.List.{length-append, length-replicate, length-map, length-take, take-append-drop, drop_more, drop_all, append-nil, drop-drop}
use Rattle.std.proofs.lemmas.List.Sums.{sum_by-cons}
use Rattle.vx_columns.specs.RunRows.{Rise, start_of, runs_column, AreRuns, repeated, mask_counts, kept_places, kept_ends}
use Rattle.vx_columns.specs.Runs.{spread}
use Rattle.vx_columns.proofs.SpreadRuns.{start_next, start_up, rise_at}
use Rattle.vx_arrays.specs.ArrayRows.{picked_at}
use Rattle.vx_masks.proofs.Chosen.{chosen-append, chosen_front}
use Rattle.vx_masks.proofs.Places.{true_count-cons}
use Rattle.vx_masks.specs.Masks.{chosen, true_count}
use Rattle.vx_masks.specs.Rows.{taken}
use Rattle.vx_types.specs.Columns.{ColumnData}
use Rattle.vx_types.specs.Data.{Datum, null}

-- ---- the rows that a mask chooses
chosen_alike : {X : Type 0} (mask : List Bool) (n : ℕ) (v : X) → length mask ≤ n → chosen mask (replicate n v) ≡ replicate (true_count mask) v
chosen_alike [] n v h = refl
chosen_alike (bit ∷ mask) zero v h = absurd (omega arith)
chosen_alike {X} (true ∷ mask) (suc n) v h =
    let more : suc (true_count mask) ≡ true_count (true ∷ mask) = omega (arith, true_count-cons true mask) in
    ap (λ (xs : List X). v ∷ xs) (chosen_alike mask n v (omega arith)) ∙ ap (λ (k : ℕ). replicate k v) more
chosen_alike (false ∷ mask) (suc n) v h =
    let same : true_count mask ≡ true_count (false ∷ mask) = omega (arith, true_count-cons false mask) in
    chosen_alike mask n v (omega arith) ∙ ap (λ (k : ℕ). replicate k v) same

rest_chosen : {X : Type 0} (n : ℕ) (mask : List Bool) (xs : List X) → chosen (drop n mask) (drop (length (take n mask)) xs) ≡ chosen (drop n mask) (drop n xs)
rest_chosen zero mask xs = refl
rest_chosen (suc n) [] xs = refl
rest_chosen (suc n) (bit ∷ mask) [] = refl
rest_chosen (suc n) (bit ∷ mask) (x ∷ xs) = rest_chosen n mask xs

behind_alike : {X : Type 0} (n : ℕ) (v : X) (rest : List X) → drop n (replicate n v ++ rest) ≡ rest
behind_alike zero v rest = refl
behind_alike (suc n) v rest = behind_alike n v rest

pub mask_rows : {X : Type 0} (vs : List X) (ends : List ℕ) (mask : List Bool) (from : ℕ) → length ends ≡ length vs → chosen mask (spread from vs ends) ≡ repeated (mask_counts mask from ends) vs
mask_rows [] [] [] from e = refl
mask_rows [] [] (true ∷ mask) from e = refl
mask_rows [] [] (false ∷ mask) from e = refl
mask_rows {X} (v ∷ vs) (end ∷ ends) mask from e =
    let n = end - from in
    let rest = spread end vs ends in
    let alike = replicate n v in
    let few : length (take n mask) ≤ length alike = omega (arith, length-take n mask, length-replicate n v) in
    let front : chosen (take n mask) (alike ++ rest) ≡ replicate (true_count (take n mask)) v =
    chosen_front X (take n mask) alike rest few ∙ chosen_alike (take n mask) n v (omega (arith, length-take n mask)) in
    let behind : chosen (drop n mask) (drop (length (take n mask)) (alike ++ rest)) ≡ repeated (mask_counts (drop n mask) end ends) vs =
    rest_chosen n mask (alike ++ rest) ∙ ap (chosen (drop n mask)) (behind_alike n v rest) ∙ mask_rows vs ends (drop n mask) end (omega arith) in
    ap (λ (bits : List Bool). chosen bits (alike ++ rest)) (sym (take-append-drop n mask))
    ∙ chosen-append X (take n mask) (drop n mask) (alike ++ rest)
    ∙ ap₂ (λ (xs ys : List X). xs ++ ys) front behind
mask_rows [] (end ∷ ends) mask from e = absurd (omega arith)
mask_rows (v ∷ vs) [] mask from e = absurd (omega arith)

pub mask_len : (ends : List ℕ) (mask : List Bool) (from : ℕ) → length (mask_counts mask from ends) ≡ length ends
mask_len [] mask from = refl
mask_len (end ∷ ends) mask from = ap suc (mask_len ends (drop (end - from) mask) end)

-- ---- the runs that have rows
split_at : {X : Type 0} (d : X) (place : ℕ) (vs : List X) → 0 < length (drop place vs) → drop place vs ≡ get_or vs place d ∷ drop (suc place) vs
split_at d zero [] h = absurd (omega arith)
split_at d zero (v ∷ vs) h = refl
split_at d (suc place) [] h = absurd (omega arith)
split_at d (suc place) (v ∷ vs) h = split_at d place vs h

pub kept_rows : {X : Type 0} (d : X) (counts : List ℕ) (vs : List X) (place from : ℕ) → length (drop place vs) ≡ length counts → spread from (taken d vs (kept_places place counts)) (kept_ends from counts) ≡ repeated counts (drop place vs)
kept_rows d [] vs place from e = refl
kept_rows d (zero ∷ counts) vs place from e =
    let split = split_at d place vs (omega arith) in
    kept_rows d counts vs (suc place) from (omega (arith, ap length split)) ∙ ap (repeated (0 ∷ counts)) (sym split)
kept_rows {X} d (suc more ∷ counts) vs place from e =
    let split = split_at d place vs (omega arith) in
    let many : (from + suc more) - from ≡ suc more = omega arith in
    ap₂ (λ (k : ℕ) (xs : List X). replicate k (get_or vs place d) ++ xs) many (kept_rows d counts vs (suc place) (from + suc more) (omega (arith, ap length split)))
    ∙ ap (repeated (suc more ∷ counts)) (sym split)

pub kept_len : (counts : List ℕ) (place from : ℕ) → length (kept_ends from counts) ≡ length (kept_places place counts)
kept_len [] place from = refl
kept_len (zero ∷ counts) place from = kept_len counts (suc place) from
kept_len (suc more ∷ counts) place from = ap suc (kept_len counts (suc place) (from + suc more))

pub kept_rise : (counts : List ℕ) (from : ℕ) → Rise from (kept_ends from counts)
kept_rise [] from = tt
kept_rise (zero ∷ counts) from = kept_rise counts from
kept_rise (suc more ∷ counts) from = (omega arith, kept_rise counts (from + suc more))

pub repeated_len : {X : Type 0} (counts : List ℕ) (vs : List X) → length counts ≡ length vs → length (repeated counts vs) ≡ sum counts
repeated_len [] [] e = refl
repeated_len (count ∷ counts) (v ∷ vs) e =
    length-append (replicate count v) (repeated counts vs) ∙ ap₂ (λ (j k : ℕ). j + k) (length-replicate count v) (repeated_len counts vs (omega arith)) ∙ sym (sum_by-cons (λ (n : ℕ). n) count counts)
repeated_len [] (v ∷ vs) e = absurd (omega arith)
repeated_len (count ∷ counts) [] e = absurd (omega arith)

-- ---- the places so far
place_kept : (i count : ℕ) (rest : List ℕ) → 0 < count → kept_places i (count ∷ rest) ≡ i ∷ kept_places (i + 1) rest
place_kept i zero rest h = absurd (omega arith)
place_kept i (suc more) rest h = let next : suc i ≡ i + 1 = omega arith in ap (λ (k : ℕ). i ∷ kept_places k rest) next

place_left : (i count : ℕ) (rest : List ℕ) → count ≤ 0 → kept_places i (count ∷ rest) ≡ kept_places (i + 1) rest
place_left i zero rest h = let next : suc i ≡ i + 1 = omega arith in ap (λ (k : ℕ). kept_places k rest) next
place_left i (suc more) rest h = absurd (omega arith)

abbrev pub PlacesKept : List ℕ → List ℕ → ℕ → Type 0
PlacesKept counts places i = places ++ kept_places i (drop i counts) ≡ kept_places 0 counts

pub places_push : (counts places more : List ℕ) (i count : ℕ) → i < length counts → count ≡ get_or counts i 0 → 0 < count → more ≡ places ++ i ∷ [] → PlacesKept counts places i → PlacesKept counts more (i + 1)
places_push counts places more i count lt is some pushed h =
    let rest = kept_places (i + 1) (drop (i + 1) counts) in
    let split : kept_places i (drop i counts) ≡ i ∷ rest = ap (kept_places i) (drop_more counts i 0 lt) ∙ place_kept i (get_or counts i 0) (drop (i + 1) counts) (omega (arith, is)) in
    ap (λ (ps : List ℕ). ps ++ rest) pushed ∙ append_assoc places (i ∷ []) rest ∙ ap (λ (ps : List ℕ). places ++ ps) (sym split) ∙ h

pub places_skip : (counts places : List ℕ) (i count : ℕ) → i < length counts → count ≡ get_or counts i 0 → count ≤ 0 → PlacesKept counts places i → PlacesKept counts places (i + 1)
places_skip counts places i count lt is none h =
    let split : kept_places i (drop i counts) ≡ kept_places (i + 1) (drop (i + 1) counts) = ap (kept_places i) (drop_more counts i 0 lt) ∙ place_left i (get_or counts i 0) (drop (i + 1) counts) (omega (arith, is)) in
    ap (λ (ps : List ℕ). places ++ ps) (sym split) ∙ h

pub places_done : (counts places : List ℕ) (i : ℕ) → length counts ≤ i → PlacesKept counts places i → places ≡ kept_places 0 counts
places_done counts places i past h = sym (append-nil places) ∙ ap (λ (cs : List ℕ). places ++ kept_places i cs) (sym (drop_all i counts past)) ∙ h

-- ---- the ends so far
end_kept : (from count : ℕ) (rest : List ℕ) → 0 < count → kept_ends from (count ∷ rest) ≡ (from + count) ∷ kept_ends (from + count) rest
end_kept from zero rest h = absurd (omega arith)
end_kept from (suc more) rest h = refl

end_left : (from count : ℕ) (rest : List ℕ) → count ≤ 0 → kept_ends from (count ∷ rest) ≡ kept_ends from rest
end_left from zero rest h = refl
end_left from (suc more) rest h = absurd (omega arith)

pub record EndsKept (counts ends : List ℕ) (last i : ℕ) : Type 0 where
  pub whole : ends ++ kept_ends last (drop i counts) ≡ kept_ends 0 counts
  pub total : last + sum (drop i counts) ≡ sum counts

rest_sum : (counts : List ℕ) (i : ℕ) → i < length counts → sum (drop i counts) ≡ get_or counts i 0 + sum (drop (i + 1) counts)
rest_sum counts i lt = ap sum (drop_more counts i 0 lt) ∙ sum_by-cons (λ (n : ℕ). n) (get_or counts i 0) (drop (i + 1) counts)

pub ends_room : (counts ends : List ℕ) (last i count : ℕ) → i < length counts → count ≡ get_or counts i 0 → EndsKept counts ends last i → last + count ≤ sum counts
ends_room counts ends last i count lt is h = omega (arith, h.total, rest_sum counts i lt, is)

pub ends_push : (counts ends more : List ℕ) (last i count : ℕ) → i < length counts → count ≡ get_or counts i 0 → 0 < count → more ≡ ends ++ (last + count) ∷ [] → EndsKept counts ends last i → EndsKept counts more (last + count) (i + 1)
ends_push counts ends more last i count lt is some pushed h =
    let rest = drop (i + 1) counts in
    let split : kept_ends last (drop i counts) ≡ (last + count) ∷ kept_ends (last + count) rest =
    ap (kept_ends last) (drop_more counts i 0 lt) ∙ ap (λ (c : ℕ). kept_ends last (c ∷ rest)) (sym is) ∙ end_kept last count rest some in
    record {
      whole = ap (λ (es : List ℕ). es ++ kept_ends (last + count) rest) pushed ∙ append_assoc ends ((last + count) ∷ []) (kept_ends (last + count) rest) ∙ ap (λ (es : List ℕ). ends ++ es) (sym split) ∙ h.whole;
      total = omega (arith, h.total, rest_sum counts i lt, is);
    }

pub ends_skip : (counts ends : List ℕ) (last i count : ℕ) → i < length counts → count ≡ get_or counts i 0 → count ≤ 0 → EndsKept counts ends last i → EndsKept counts ends last (i + 1)
ends_skip counts ends last i count lt is none h =
    let rest = drop (i + 1) counts in
    let split : kept_ends last (drop i counts) ≡ kept_ends last rest = ap (kept_ends last) (drop_more counts i 0 lt) ∙ ap (λ (c : ℕ). kept_ends last (c ∷ rest)) (sym is) ∙ end_left last count rest none in
    record {
      whole = ap (λ (es : List ℕ). ends ++ es) (sym split) ∙ h.whole;
      total = omega (arith, h.total, rest_sum counts i lt, is);
    }

pub ends_done : (counts ends : List ℕ) (last i : ℕ) → length counts ≤ i → EndsKept counts ends last i → ends ≡ kept_ends 0 counts
ends_done counts ends last i past h = sym (append-nil ends) ∙ ap (λ (cs : List ℕ). ends ++ kept_ends last cs) (sym (drop_all i counts past)) ∙ h.whole

-- ---- the counts so far
pub record MaskCounted (mask : List Bool) (ends counts : List ℕ) (before i : ℕ) : Type 0 where
  pub whole : counts ++ mask_counts (drop before mask) before (drop i ends) ≡ mask_counts mask 0 ends
  pub at : before ≡ start_of 0 ends i

end_inside : (from : ℕ) (ends : List ℕ) (place : ℕ) → Rise from ends → place < length ends → get_or ends place 0 ≤ start_of from ends (length ends)
end_inside from [] place h lt = absurd (omega arith)
end_inside from (end ∷ ends) zero h lt = start_up end ends (length ends) h.1 (omega arith)
end_inside from (end ∷ ends) (suc place) h lt = end_inside end ends place h.1 (omega arith)

-- a run lies inside the mask
pub mask_inside : (mask : List Bool) (ends counts : List ℕ) (before i end : ℕ) → i < length ends → end ≡ get_or ends i 0 → Rise 0 ends → length mask ≡ start_of 0 ends (length ends) → MaskCounted mask ends counts before i → (before < end) × (end ≤ length mask)
mask_inside mask ends counts before i end lt is rise len h = (omega (arith, is, h.at, rise_at 0 ends i rise lt), omega (arith, is, len, end_inside 0 ends i rise lt))

pub mask_more : (mask bits : List Bool) (ends counts more : List ℕ) (before i end : ℕ) → i < length ends → end ≡ get_or ends i 0 → before ≤ end → bits ≡ take (end - before) (drop before mask) → more ≡ counts ++ true_count bits ∷ [] → MaskCounted mask ends counts before i
    → MaskCounted mask ends more end (i + 1)
mask_more mask bits ends counts more before i end lt is order of pushed h =
    let here = true_count (take (end - before) (drop before mask)) in
    let behind : drop (end - before) (drop before mask) ≡ drop end mask = drop-drop (end - before) before mask ∙ ap (λ (k : ℕ). drop k mask) (omega arith) in
    let rest = mask_counts (drop end mask) end (drop (i + 1) ends) in
    let split : mask_counts (drop before mask) before (drop i ends) ≡ here ∷ rest =
    ap (mask_counts (drop before mask) before) (drop_more ends i 0 lt) ∙ ap (λ (e : ℕ). mask_counts (drop before mask) before (e ∷ drop (i + 1) ends)) (sym is) ∙ ap (λ (bs : List Bool). here ∷ mask_counts bs end (drop (i + 1) ends)) behind in
    let added : more ≡ counts ++ here ∷ [] = pushed ∙ ap (λ (bs : List Bool). counts ++ true_count bs ∷ []) of in
    record {
      whole = ap (λ (cs : List ℕ). cs ++ rest) added ∙ append_assoc counts (here ∷ []) rest ∙ ap (λ (cs : List ℕ). counts ++ cs) (sym split) ∙ h.whole;
      at = is ∙ sym (rw add-one (start_next 0 ends i lt));
    }

pub mask_done : (mask : List Bool) (ends counts : List ℕ) (before i : ℕ) → length ends ≤ i → MaskCounted mask ends counts before i → counts ≡ mask_counts mask 0 ends
mask_done mask ends counts before i past h = sym (append-nil counts) ∙ ap (λ (es : List ℕ). counts ++ mask_counts (drop before mask) before es) (sym (drop_all i ends past)) ∙ h.whole

-- ---- what is made of runs
pub kept_made : (counts places ends at : List ℕ) (values made : ColumnData) → places ≡ kept_places 0 counts → ends ≡ kept_ends 0 counts → at ≡ places → made ≡ picked_at at values → length counts ≡ length values.values
    → AreRuns made ends × (spread 0 made.values ends ≡ repeated counts values.values)
kept_made counts places ends at values made e f g is same =
    let kept = kept_places 0 counts in
    let column : made ≡ picked_at kept values = is ∙ ap (λ (ps : List ℕ). picked_at ps values) (g ∙ e) in
    let rows : spread 0 made.values ends ≡ repeated counts values.values =
    ap₂ (λ (c : ColumnData) (es : List ℕ). spread 0 c.values es) column f ∙ kept_rows null counts values.values 0 0 (sym same) in
    let many : length ends ≡ length made.values =
    ap length f ∙ kept_len counts 0 0 ∙ sym (length-map kept (λ (place : ℕ). get_or values.values place null)) ∙ sym (ap (λ (c : ColumnData). length c.values) column) in
    (record { same = many; rise = subst (Rise 0) (sym f) (kept_rise counts 0) }, rows)

pub filtered_runs : (values column : ColumnData) (ends slice counts : List ℕ) (mask : List Bool) → runs_column values ends ≡ column → length ends ≡ length values.values → slice ≡ ends → counts ≡ mask_counts mask 0 slice → chosen mask column.values ≡ repeated counts values.values
filtered_runs values column ends slice counts mask view same e f =
    ap (λ (c : ColumnData). chosen mask c.values) (sym view) ∙ mask_rows values.values ends mask 0 same ∙ ap (λ (cs : List ℕ). repeated cs values.values) (sym (f ∙ ap (mask_counts mask 0) e))

-- ---- how many rows are kept
pub chosen_most : {X : Type 0} (mask : List Bool) (xs : List X) → length (chosen mask xs) ≤ length xs
chosen_most [] xs = omega arith
chosen_most (true ∷ mask) [] = omega arith
chosen_most (false ∷ mask) [] = omega arith
chosen_most (true ∷ mask) (x ∷ xs) = omega (arith, chosen_most mask xs)
chosen_most (false ∷ mask) (x ∷ xs) = omega (arith, chosen_most mask xs)

pub chosen_sum : (mask : List Bool) (rows values : List Datum) (counts : List ℕ) → length counts ≡ length values → chosen mask rows ≡ repeated counts values → sum counts ≤ length rows
chosen_sum mask rows values counts same e = omega (arith, repeated_len counts values same, ap length e, chosen_most mask rows)
