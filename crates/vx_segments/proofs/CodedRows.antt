-- Rows of a range, of a constant, of runs and of all rows that were decoded.
use Rattle.std.proofs.Common.{◌≡◌, ℕ, zero, suc, ◌-◌, ◌<◌, ◌≤◌, List, [], ◌∷◌, length, take, drop, replicate, refl, sym, ap, ◌∙◌, arith}
use Rattle.std.specs.List.{slice_range}
use Rattle.std.proofs.lemmas.List.{append-nil, length-replicate}
use Rattle.vx_types.specs.Data.{DataType, Datum}
use Rattle.vx_columns.specs.Runs.{spread}
use Rattle.vx_segments.specs.declared.codings.Coding.{Coding}
use Rattle.vx_segments.specs.declared.codings.Coding.TheVariants.{Plain, Constant, Runs}
use Rattle.vx_segments.specs.Codings.{SpellsAs, SpellsConstant, SpellsRuns}
use Rattle.vx_segments.specs.RowsRead.{SpellsRows}
use Rattle.vx_segments.specs.Segment.{Spells}

abbrev no_values : List Datum
no_values = []

-- as many values as there are rows
pub coded_count : (coding : Coding) (t : DataType) (rows : ℕ) (bytes : List ℕ) (values : List Datum) → SpellsAs coding t rows bytes values → length values ≡ rows
coded_count Plain t rows bytes values s = s.count
coded_count Constant t rows bytes values s = s.count
coded_count Runs t rows bytes values s = s.count

pub plain_range : (t : DataType) (rows from to : ℕ) (bytes : List ℕ) (all some : List Datum) → Spells t rows bytes all → some ≡ slice_range all from to → SpellsRows Plain t rows bytes from to some
plain_range t rows from to bytes all some s e = record { all = all; spelled = s; picked = e }

pub runs_range : (t : DataType) (rows from to : ℕ) (bytes : List ℕ) (all some : List Datum) → SpellsRuns t rows bytes all → some ≡ slice_range all from to → SpellsRows Runs t rows bytes from to some
runs_range t rows from to bytes all some s e = record { all = all; spelled = s; picked = e }

-- ---- a constant
pub filled_some : (rows : ℕ) (one made : List Datum) (value : Datum) → made ≡ spread 0 one (rows ∷ []) → one ≡ value ∷ [] → made ≡ replicate rows value
filled_some rows one made value e is =
    let all : rows - 0 ≡ rows = omega arith in
    e ∙ ap (λ (vs : List Datum). spread 0 vs (rows ∷ [])) is ∙ append-nil (replicate (rows - 0) value) ∙ ap (λ (k : ℕ). replicate k value) all

pub filled_none : (rows : ℕ) (one made : List Datum) (value : Datum) → rows ≡ 0 → made ≡ slice_range one 0 0 → made ≡ replicate rows value
filled_none rows one made value none e = e ∙ nothing one ∙ ap (λ (k : ℕ). replicate k value) (sym none)
  where
    nothing : (vs : List Datum) → slice_range vs 0 0 ≡ []
    nothing vs = let e : 0 - 0 ≡ 0 = omega arith in ap (λ (n : ℕ). take n vs) e

range_alike : (n from to : ℕ) (v : Datum) → from ≤ to → to ≤ n → slice_range (replicate n v) from to ≡ replicate (to - from) v
range_alike n from to v low high = ap (take (to - from)) (dropped from n) ∙ taken (to - from) (n - from) (omega arith)
  where
    dropped : (k m : ℕ) → drop k (replicate m v) ≡ replicate (m - k) v
    dropped zero m = let e : m ≡ m - 0 = omega arith in ap (λ (j : ℕ). replicate j v) e
    dropped (suc k) zero = let e : 0 ≡ 0 - suc k = omega arith in ap (λ (j : ℕ). replicate j v) e
    dropped (suc k) (suc m) = let e : m - k ≡ suc m - suc k = omega arith in dropped k m ∙ ap (λ (j : ℕ). replicate j v) e

    taken : (k m : ℕ) → k ≤ m → take k (replicate m v) ≡ replicate k v
    taken zero m h = refl
    taken (suc k) zero h = absurd (omega arith)
    taken (suc k) (suc m) h = ap (λ (vs : List Datum). v ∷ vs) (taken k m (omega arith))

pub constant_range : (t : DataType) (rows from to : ℕ) (bytes : List ℕ) (one made : List Datum) → 0 < rows → from ≤ to → to ≤ rows → Spells t 1 bytes one → ((value : Datum) → one ≡ value ∷ [] → made ≡ replicate (to - from) value) → SpellsRows Constant t rows bytes from to made
constant_range t rows from to bytes [] made lt low high s e = absurd (omega (arith, s.count))
constant_range t rows from to bytes (v ∷ w ∷ more) made lt low high s e = absurd (omega (arith, s.count))
constant_range t rows from to bytes (v ∷ []) made lt low high s e =
    let count : length (replicate rows v) ≡ rows = length-replicate rows v in
    record {
      all = replicate rows v;
      spelled = record {
        count = count;
        none = λ no. absurd (omega (arith, no, lt));
        one = λ _. record { value = v; alike = ap (λ (k : ℕ). replicate k v) (sym count); spelled = s };
      };
      picked = e v refl ∙ sym (range_alike rows from to v low high);
    }

pub nothing_range : (t : DataType) (rows from to : ℕ) (bytes : List ℕ) (made : List Datum) → rows ≡ 0 → from ≤ to → to ≤ rows → bytes ≡ [] → made ≡ [] → SpellsRows Constant t rows bytes from to made
nothing_range t rows from to bytes made none low high empty e =
    record {
      all = [];
      spelled = record { count = sym none; none = λ _. empty; one = λ lt. absurd (omega (arith, lt, none)) };
      picked = e ∙ sym (no_range (to - from) from);
    }
  where
    no_range : (n k : ℕ) → take n (drop k no_values) ≡ []
    no_range zero k = refl
    no_range (suc n) zero = refl
    no_range (suc n) (suc k) = refl

-- bytes that spell no row spell no constant
pub no_constant : (t : DataType) (rows : ℕ) (bytes : List ℕ) → rows ≡ 0 → ¬ (bytes ≡ []) → (values : List Datum) → ¬ (SpellsConstant t rows bytes values)
no_constant t rows bytes none some values s = some (s.none none)

pub one_refused : (t : DataType) (rows : ℕ) (bytes : List ℕ) → 0 < rows → ((values : List Datum) → ¬ (Spells t 1 bytes values)) → (values : List Datum) → ¬ (SpellsConstant t rows bytes values)
one_refused t rows bytes lt none values s = let one = s.one lt in none (one.value ∷ []) one.spelled
