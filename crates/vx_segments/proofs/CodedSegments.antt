-- Constants and runs as they are decoded.
use Rattle.std.proofs.Common.{◌≡◌, ℕ, suc, ◌+◌, ◌-◌, ◌*◌, ◌/◌, ◌^◌, ◌<◌, ◌≤◌, List, [], ◌∷◌, ◌++◌, length, take, drop, replicate, get_or, Option, Some, None, ◌⊎◌, inl, inr, refl, sym, ap, subst, ◌∙◌, arith, append_assoc, add-one}
use Rattle.std.specs.List.{AllByRecursion}
use Rattle.std.specs.Int.{w32, w64, to_le_bytes, from_le_bytes}
use Rattle.std.proofs.lemmas.Bool.{cases_lt}
use Rattle.std.proofs.lemmas.List.{append-nil, length-append, length-replicate, nil_from_length, take_at, drop_at}
use Rattle.std.proofs.lemmas.List.Concat.{flat_map-append}
use Rattle.std.proofs.lemmas.Nat.{from_le_bytes-to_le_bytes_4}
use Rattle.vx_types.specs.Data.{DataType, Datum}
use Rattle.vx_columns.specs.LaidRuns.{Differ}
use Rattle.vx_columns.specs.RunRows.{Rise, start_of}
use Rattle.vx_columns.specs.Runs.{spread}
use Rattle.vx_columns.proofs.SpreadRuns.{spread_len, start_next, rise_at, risen}
use Rattle.vx_segments.specs.Segment.{Spells}
use Rattle.vx_segments.specs.declared.codings.Coding.{Coding}
use Rattle.vx_segments.specs.Codings.{SpellsConstant, SpellsRuns, SpellsAs, end_bytes, run_bytes}
use Rattle.vx_segments.specs.CodingsRead.{ends_in, decoded_as}
use Rattle.vx_segments.proofs.CodingsRead.{codings_read_spelled, end_bytes_len, ends_again}

-- ---- ends, as they are read
pub record EndsRead (count run : ℕ) (bytes ends rest : List ℕ) : Type 0 where
  pub left : length rest ≡ 8 * (count - run)
  pub whole : end_bytes ends ++ rest ≡ bytes
  pub small : AllByRecursion (λ end. end < 2 ^ 64) ends

small_more : (ends : List ℕ) (end : ℕ) → AllByRecursion (λ k. k < 2 ^ 64) ends → end < 2 ^ 64 → AllByRecursion (λ k. k < 2 ^ 64) (ends ++ end ∷ [])
small_more [] end h lt = (lt, tt)
small_more (e ∷ ends) end h lt = (h.0, small_more ends end h.1 lt)

pub ends_read_more : (count run end : ℕ) (bytes ends all rest after : List ℕ) → run < count → rest ≡ to_le_bytes w64 end ++ after → all ≡ ends ++ end ∷ [] → end < 2 ^ 64 → EndsRead count run bytes ends rest → EndsRead count (run + 1) bytes all after
ends_read_more count run end bytes ends all rest after lt e pushed fits h =
    let word = to_le_bytes w64 end in
    let eight : length word ≡ 8 = refl in
    let more : end_bytes all ≡ end_bytes ends ++ (word ++ []) = ap end_bytes pushed ∙ flat_map-append (to_le_bytes w64) ends (end ∷ []) in
    record {
      left = omega (arith, h.left, ap length e, length-append word after, eight);
      whole =
          ap (λ (bs : List ℕ). bs ++ after) (more ∙ ap (λ (bs : List ℕ). end_bytes ends ++ bs) (append-nil word))
          ∙ append_assoc (end_bytes ends) word after ∙ ap (λ (bs : List ℕ). end_bytes ends ++ bs) (sym e) ∙ h.whole;
      small = subst (AllByRecursion (λ k. k < 2 ^ 64)) (sym pushed) (small_more ends end h.small fits);
    }

pub ends_read_all : (count run : ℕ) (bytes ends rest : List ℕ) → count ≤ run → EndsRead count run bytes ends rest → end_bytes ends ≡ bytes
ends_read_all count run bytes ends rest past h =
    let none : rest ≡ [] = nil_from_length rest (omega (arith, h.left)) in
    sym (append-nil (end_bytes ends)) ∙ ap (λ (bs : List ℕ). end_bytes ends ++ bs) (sym none) ∙ h.whole

-- ---- ends that rise
pub record RisenTo (ends : List ℕ) (before run : ℕ) : Type 0 where
  pub last : before ≡ start_of 0 ends run
  pub rise : (place : ℕ) → place < run → start_of 0 ends place < get_or ends place 0

pub risen_none : (ends : List ℕ) → RisenTo ends 0 0
risen_none ends = record { last = refl; rise = λ place lt. absurd (omega arith) }

pub risen_more : (ends : List ℕ) (before run end : ℕ) → run < length ends → end ≡ get_or ends run 0 → before < end → RisenTo ends before run → RisenTo ends end (run + 1)
risen_more ends before run end lt is above h =
    let next : start_of 0 ends (suc run) ≡ get_or ends run 0 = start_next 0 ends run lt in
    record {
      last = rw add-one (is ∙ sym next);
      rise = λ place below. by_place place (cases_lt place run) below;
    }
  where
    by_place : (place : ℕ) → (place < run) ⊎ (run ≤ place) → place < run + 1 → start_of 0 ends place < get_or ends place 0
    by_place place (inl less) below = h.rise place less
    by_place place (inr past) below =
        let here : run ≡ place = omega (arith, below, past) in
        subst (λ (k : ℕ). start_of 0 ends k < get_or ends k 0) here (omega (arith, h.last, is, above))

pub risen_all : (ends : List ℕ) (before run : ℕ) → length ends ≤ run → run ≤ length ends → RisenTo ends before run → Rise 0 ends × (start_of 0 ends (length ends) ≡ before)
risen_all ends before run past inside h =
    let same : run ≡ length ends = omega (arith, past, inside) in
    (risen 0 ends (λ place lt. h.rise place (omega (arith, lt, same))), sym (h.last ∙ ap (start_of 0 ends) same))

pub not_risen : (ends : List ℕ) (before run end : ℕ) → run < length ends → end ≡ get_or ends run 0 → end ≤ before → RisenTo ends before run → ¬ (Rise 0 ends)
not_risen ends before run end lt is low h rise = omega (arith, rise_at 0 ends run rise lt, h.last, is, low)

-- each end of those that rise to a number is at most that
pub ends_small : (from : ℕ) (ends : List ℕ) (limit : ℕ) → Rise from ends → start_of from ends (length ends) < limit → AllByRecursion (λ end. end < limit) ends
ends_small from [] limit rise h = tt
ends_small from (end ∷ ends) limit rise h = (omega (arith, end_most end ends rise.1, h), ends_small end ends limit rise.1 h)
  where
    end_most : (k : ℕ) (es : List ℕ) → Rise k es → k ≤ start_of k es (length es)
    end_most k [] r = omega arith
    end_most k (e ∷ es) r = omega (arith, r.0, end_most e es r.1)

-- ---- runs, as they are split

-- the count of runs, and what stands behind it
pub count_same : (count : ℕ) (rest ends plain : List ℕ) → count < 2 ^ 32 → length ends < 2 ^ 32 → to_le_bytes w32 count ++ rest ≡ run_bytes ends plain → (count ≡ length ends) × (rest ≡ end_bytes ends ++ plain)
count_same count rest ends plain few others whole =
    let word = to_le_bytes w32 count in
    let other = to_le_bytes w32 (length ends) in
    let first : word ≡ other = sym (take_at word rest 4 refl) ∙ ap (take 4) whole ∙ take_at other (end_bytes ends ++ plain) 4 refl in (
      sym (from_le_bytes-to_le_bytes_4 count few) ∙ ap (from_le_bytes w32) first ∙ from_le_bytes-to_le_bytes_4 (length ends) others,
      sym (drop_at word rest 4 refl) ∙ ap (drop 4) whole ∙ drop_at other (end_bytes ends ++ plain) 4 refl,
    )

pub no_count : (bytes ends plain : List ℕ) → length bytes < 4 → bytes ≡ run_bytes ends plain → ⊥
no_count bytes ends plain lt e =
    let four : length (to_le_bytes w32 (length ends)) ≡ 4 = refl in
    omega (arith, lt, ap length e, length-append (to_le_bytes w32 (length ends)) (end_bytes ends ++ plain), four)

pub few_ends : (count : ℕ) (bytes rest ends plain : List ℕ) → count < 2 ^ 32 → length ends < 2 ^ 32 → bytes ≡ to_le_bytes w32 count ++ rest → length rest / 8 < count → bytes ≡ run_bytes ends plain → ⊥
few_ends count bytes rest ends plain few others split lt e =
    let same = count_same count rest ends plain few others (sym split ∙ e) in
    omega (arith, lt, same.0, ap length same.1, length-append (end_bytes ends) plain, end_bytes_len ends)

pub parts_same : (t : DataType) (rows count : ℕ) (bytes front plain : List ℕ) (values : List Datum) → count < 2 ^ 32 → bytes ≡ to_le_bytes w32 count ++ (front ++ plain) → length front ≡ 8 * count → (s : SpellsRuns t rows bytes values) → (count ≡ length s.ends) × (front ≡ end_bytes s.ends) × (plain ≡ s.plain)
parts_same t rows count bytes front plain values few joined size s =
    let same = count_same count (front ++ plain) s.ends s.plain few s.few (sym joined ∙ s.joined) in
    let long : length (end_bytes s.ends) ≡ 8 * count = omega (arith, end_bytes_len s.ends, same.0) in (
      same.0,
      sym (take_at front plain (8 * count) size) ∙ ap (take (8 * count)) same.1 ∙ take_at (end_bytes s.ends) s.plain (8 * count) long,
      sym (drop_at front plain (8 * count) size) ∙ ap (drop (8 * count)) same.1 ∙ drop_at (end_bytes s.ends) s.plain (8 * count) long,
    )

-- what the bytes behind the ends spell
pub known_runs : (t : DataType) (rows count : ℕ) (bytes plain : List ℕ) (values : List Datum) → (s : SpellsRuns t rows bytes values) → count ≡ length s.ends → plain ≡ s.plain → Spells t count plain s.runs
known_runs t rows count bytes plain values s same is = subst (λ (bs : List ℕ). Spells t count bs s.runs) (sym is) (subst (λ (k : ℕ). Spells t k s.plain s.runs) (sym (same ∙ s.laid.same)) s.spelled)

pub ends_same : (ends others : List ℕ) → AllByRecursion (λ end. end < 2 ^ 64) ends → AllByRecursion (λ end. end < 2 ^ 64) others → end_bytes ends ≡ end_bytes others → ends ≡ others
ends_same ends others small few e =
    let len : length ends ≡ length others = omega (arith, end_bytes_len ends, end_bytes_len others, ap length e) in
    sym (ends_again ends [] small) ∙ (λ i. ends_in (len i) (e i ++ [])) ∙ ends_again others [] few

pub count_is : (ends front : List ℕ) (count : ℕ) → end_bytes ends ≡ front → length front ≡ 8 * count → length ends ≡ count
count_is ends front count e size = omega (arith, end_bytes_len ends, ap length e, size)

pub runs_spelled : (t : DataType) (rows count : ℕ) (bytes front plain : List ℕ) (runs column : List Datum) (ends : List ℕ) → count < 2 ^ 32 → bytes ≡ to_le_bytes w32 count ++ (front ++ plain) → length front ≡ 8 * count → end_bytes ends ≡ front → AllByRecursion (λ end. end < 2 ^ 64) ends
    → Rise 0 ends → start_of 0 ends (length ends) ≡ rows → Spells t count plain runs → Differ runs → column ≡ spread 0 runs ends → SpellsRuns t rows bytes column
runs_spelled t rows count bytes front plain runs column ends few joined size read small rise last s differ is =
    let many : length ends ≡ count = count_is ends front count read size in
    let same : length ends ≡ length runs = many ∙ sym s.count in
    record {
      runs = runs;
      ends = ends;
      plain = plain;
      count = ap length is ∙ (omega (arith, spread_len 0 runs ends same rise, last));
      laid = record { same = same; rise = rise; filled = sym is; differ = differ };
      few = omega (arith, many, few);
      small = small;
      spelled = subst (λ (k : ℕ). Spells t k plain runs) (sym s.count) s;
      joined = joined ∙ sym (λ i. to_le_bytes w32 (many i) ++ (read i ++ plain));
    }

-- ---- constants
pub constant_spelled : (t : DataType) (rows : ℕ) (bytes : List ℕ) (one column : List Datum) → 0 < rows → Spells t 1 bytes one → column ≡ spread 0 one (rows ∷ []) → SpellsConstant t rows bytes column
constant_spelled t rows bytes [] column lt s is = absurd (omega (arith, s.count))
constant_spelled t rows bytes (v ∷ w ∷ more) column lt s is = absurd (omega (arith, s.count))
constant_spelled t rows bytes (v ∷ []) column lt s is =
    let all : rows - 0 ≡ rows = omega arith in
    let same : column ≡ replicate rows v = is ∙ append-nil (replicate (rows - 0) v) ∙ ap (λ (k : ℕ). replicate k v) all in
    let count : length column ≡ rows = ap length same ∙ length-replicate rows v in
    record {
      count = count;
      none = λ no. absurd (omega (arith, no, lt));
      one = λ _. record { value = v; alike = same ∙ ap (λ (k : ℕ). replicate k v) (sym count); spelled = s };
    }

pub nothing_spelled : (t : DataType) (rows : ℕ) (bytes : List ℕ) (column : List Datum) → rows ≡ 0 → bytes ≡ [] → column ≡ [] → SpellsConstant t rows bytes column
nothing_spelled t rows bytes column zero none is = record {
  count = ap length is ∙ sym zero;
  none = λ _. none;
  one = λ lt. absurd (omega (arith, lt, zero));
}

-- ---- what spells nothing is not read
pub unread_as : (coding : Coding) (t : DataType) (rows : ℕ) (bytes : List ℕ) → ((values : List Datum) → ¬ (SpellsAs coding t rows bytes values)) → decoded_as coding t rows bytes ≡ None
unread_as coding t rows bytes none = by_read (decoded_as coding t rows bytes) (λ values e. codings_read_spelled coding t rows bytes values e)
  where
    by_read : (read : Option (List Datum)) → ((values : List Datum) → read ≡ Some values → SpellsAs coding t rows bytes values) → read ≡ None
    by_read None h = refl
    by_read (Some values) h = absurd (none values (h values refl))
