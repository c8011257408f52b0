-- Rows that are counted run by run.
use Rattle.std.proofs.Common.{◌≡◌, ℕ, zero, suc, ◌+◌, ◌-◌, ◌*◌, ◌^◌, ◌<◌, ◌≤◌, List, [], ◌∷◌, ◌++◌, length, get_or, take, replicate, Some, refl, sym, ap, subst, ◌∙◌, arith}
use Rattle.std.specs.Prelude.{slice_get}
use Rattle.std.specs.List.{AllByRecursion, flat_map}
use Rattle.std.proofs.Math.Nat.{suc-mul}
use Rattle.std.proofs.lemmas.List.{length-append, length-map, length-take, map-append, take_all}
use Rattle.std.proofs.lemmas.Option.{get_or_from_slice_get, slice_get_within}
use Rattle.vx_masks.specs.Rows.{taken}
use Rattle.vx_types.specs.Data.{Datum, null}
use Rattle.vx_types.specs.Slots.{IsShort, text_in}
use Rattle.vx_columns.specs.LaidRuns.{IsRunEnd}
use Rattle.vx_columns.proofs.BuiltRuns.{RunsTo, runs_none, runs_more, runs_all, run_rows}
use Rattle.vx_columns.proofs.RunRows.{values_fit}
use Rattle.vx_segments.specs.Lengths.{text_size, AreRunSizes}
use Rattle.vx_segments.proofs.EncodedSegments.{ends_count}
use Rattle.vx_segments.proofs.Lengths.{one_text, texts_room}

-- ---- texts
texts-append : (a b : List Datum) → text_size (a ++ b) ≡ text_size a + text_size b
texts-append [] b = omega arith
texts-append (v ∷ a) b = omega (arith, texts-append a b, length-append (text_in v) (flat_map text_in (a ++ b)), length-append (text_in v) (flat_map text_in a))

texts_alike : (n : ℕ) (v : Datum) → text_size (replicate n v) ≡ n * length (text_in v)
texts_alike zero v = omega arith
texts_alike (suc n) v = omega (arith, texts_alike n v, suc-mul n (length (text_in v)), length-append (text_in v) (flat_map text_in (replicate n v)))

-- ---- the runs so far
pub record CountedTo (rows : List Datum) (row runs once all : ℕ) : Type 0 where
  pub starts : List ℕ
  pub ends : List ℕ
  pub ran : RunsTo rows starts ends row
  pub count : runs ≡ length ends
  pub single : once ≡ text_size (taken null rows starts)
  pub each : all ≡ text_size (take row rows)

pub counted_none : (rows : List Datum) → CountedTo rows 0 0 0 0
counted_none rows = record { starts = []; ends = []; ran = runs_none rows [] [] refl refl; count = refl; single = refl; each = refl }

abbrev row_at : List Datum → ℕ → Datum
row_at rows place = get_or rows place null

pub counted_more : (rows : List Datum) (row end runs once all len : ℕ) (v : Datum) → slice_get rows row ≡ Some v → len ≡ length (text_in v) → IsRunEnd rows row end → CountedTo rows row runs once all → CountedTo rows end (runs + 1) (once + len) (all + (end - row) * len)
counted_more rows row end runs once all len v at is e h =
    let lt : row < length rows = slice_get_within rows row v at in
    let text : length (text_in (row_at rows row)) ≡ len = ap (λ (w : Datum). length (text_in w)) (get_or_from_slice_get rows row v null at) ∙ sym is in
    let more : taken null rows (h.starts ++ row ∷ []) ≡ taken null rows h.starts ++ row_at rows row ∷ [] = map-append (row_at rows) h.starts (row ∷ []) in
    let alike = replicate (end - row) (row_at rows row) in
    let longer : take end rows ≡ take row rows ++ alike = run_rows null rows row end lt e in
    let times : text_size alike ≡ (end - row) * len = texts_alike (end - row) (row_at rows row) ∙ ap (λ (k : ℕ). (end - row) * k) text in
    record {
      starts = h.starts ++ row ∷ [];
      ends = h.ends ++ end ∷ [];
      ran = runs_more rows h.starts h.ends (h.starts ++ row ∷ []) (h.ends ++ end ∷ []) row end lt refl refl e h.ran;
      count = omega (arith, h.count, length-append h.ends (end ∷ []));
      single = omega (arith, h.single, ap text_size more, texts-append (taken null rows h.starts) (row_at rows row ∷ []), one_text (row_at rows row), text);
      each = omega (arith, h.each, ap text_size longer, texts-append (take row rows) alike, times);
    }

pub counted_all : (rows : List Datum) (row runs once all : ℕ) → length rows ≤ row → CountedTo rows row runs once all → AreRunSizes rows runs once all
counted_all rows row runs once all past h = record {
  values = taken null rows h.starts;
  ends = h.ends;
  laid = runs_all rows h.starts h.ends row past h.ran;
  count = h.count;
  single = h.single;
  each = h.each ∙ ap text_size (take_all row rows past);
}

-- ---- how much it can be
short_front : (n : ℕ) (values : List Datum) → AllByRecursion IsShort values → AllByRecursion IsShort (take n values)
short_front zero values h = tt
short_front (suc n) [] h = tt
short_front (suc n) (v ∷ values) h = (h.0, short_front n values h.1)

pub counted_room : (rows : List Datum) (row runs once all : ℕ) → AllByRecursion IsShort rows → length rows < 2 ^ 32 → CountedTo rows row runs once all → (once < 2 ^ 64) × (all < 2 ^ 64) × (runs ≤ row)
counted_room rows row runs once all short few h =
    let vs = taken null rows h.starts in
    let inside : row ≤ length rows = h.ran.inside in
    let count : length h.ends ≡ length vs = h.ran.same ∙ sym (length-map h.starts (row_at rows)) in
    let front : AllByRecursion IsShort (take row rows) = short_front row rows short in
    let values : AllByRecursion IsShort vs = values_fit IsShort 0 vs h.ends count h.ran.rise (subst (AllByRecursion IsShort) (sym h.ran.filled) front) in
    let fewer : length h.ends ≤ row = omega (arith, ends_count 0 h.ends h.ran.rise, h.ran.last) in
    let once_most : once ≤ 4294967295 * runs = omega (arith, texts_room vs values, h.single, h.count, count) in
    let all_most : all ≤ 4294967295 * row = omega (arith, texts_room (take row rows) front, h.each, length-take row rows, inside) in
    let runs_most : runs ≤ row = omega (arith, fewer, h.count) in
    (omega (arith, once_most, runs_most, inside, few), omega (arith, all_most, inside, few), runs_most)

pub more_room : (rows : List Datum) (row end runs once all len : ℕ) (v : Datum) → AllByRecursion IsShort rows → length rows < 2 ^ 32 → slice_get rows row ≡ Some v → len ≡ length (text_in v) → IsRunEnd rows row end → CountedTo rows row runs once all → (runs + 1 < 2 ^ 64) × (once + len < 2 ^ 64) × (all + (end - row) * len < 2 ^ 64)
more_room rows row end runs once all len v short few at is e h =
    let next = counted_more rows row end runs once all len v at is e h in
    let room = counted_room rows end (runs + 1) (once + len) (all + (end - row) * len) short few next in
    (omega (arith, room.2, e.inside, few), room.0, room.1)
