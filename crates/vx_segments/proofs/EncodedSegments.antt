-- Columns as they are encoded.
use Rattle.std.proofs.Common.{◌≡◌, ℕ, suc, ◌+◌, ◌^◌, ◌<◌, ◌≤◌, List, [], ◌∷◌, length, replicate, Some, refl, sym, subst, arith}
use Rattle.std.specs.Prelude.{slice_get, slice_range}
use Rattle.std.specs.List.{AllByRecursion}
use Rattle.std.proofs.lemmas.Option.{same_Some}
use Rattle.vx_types.specs.Data.{DataType, Datum}
use Rattle.vx_types.specs.Fits.{Fits}
use Rattle.vx_types.specs.Leaf.{IsLeaf}
use Rattle.vx_types.specs.Slots.{IsShort}
use Rattle.vx_columns.specs.LaidRuns.{AllAlike, AreRunsOf}
use Rattle.vx_columns.specs.RunRows.{Rise, start_of}
use Rattle.vx_columns.proofs.RunRows.{values_fit}
use Rattle.vx_segments.specs.Codings.{SpellsConstant, SpellsRuns, run_bytes}
use Rattle.vx_segments.specs.Segment.{Spells, plain_bytes}
use Rattle.vx_segments.proofs.CodedSegments.{ends_small}
use Rattle.vx_segments.proofs.CodingsRead.{last_end}
use Rattle.vx_segments.proofs.Leaves.{two_parts}

-- ---- plain
pub plain_spells : (t : DataType) (values : List Datum) → IsLeaf t → AllByRecursion (Fits t) values → AllByRecursion IsShort values → Spells t (length values) (plain_bytes t values) values
plain_spells t values l fit short = record { count = refl; fit = fit; short = short; spelled = two_parts t values l }

-- ---- runs
pub ends_count : (from : ℕ) (ends : List ℕ) → Rise from ends → from + length ends ≤ start_of from ends (length ends)
ends_count from [] h = omega arith
ends_count from (end ∷ ends) h = omega (arith, h.0, ends_count end ends h.1)

pub laid_count : (values runs : List Datum) (ends : List ℕ) → AreRunsOf values runs ends → length ends ≤ length values
laid_count values runs ends laid = omega (arith, ends_count 0 ends laid.rise, last_end (length values) values runs ends laid refl)

pub run_values : (P : Datum → Type 0) (values runs : List Datum) (ends : List ℕ) → AreRunsOf values runs ends → AllByRecursion P values → AllByRecursion P runs
run_values P values runs ends laid h = values_fit P 0 runs ends laid.same laid.rise (subst (AllByRecursion P) (sym laid.filled) h)

pub runs_spell : (t : DataType) (values runs : List Datum) (ends bytes : List ℕ) → IsLeaf t → AllByRecursion (Fits t) values → AllByRecursion IsShort values → length values < 2 ^ 32 → AreRunsOf values runs ends → bytes ≡ run_bytes ends (plain_bytes t runs) → SpellsRuns t (length values) bytes values
runs_spell t values runs ends bytes l fit short few laid e =
    let last : start_of 0 ends (length ends) ≡ length values = last_end (length values) values runs ends laid refl in
    record {
      runs = runs;
      ends = ends;
      plain = plain_bytes t runs;
      count = refl;
      laid = laid;
      few = omega (arith, few, laid_count values runs ends laid);
      small = ends_small 0 ends (2 ^ 64) laid.rise (omega (arith, last, few));
      spelled = plain_spells t runs l (run_values (Fits t) values runs ends laid fit) (run_values IsShort values runs ends laid short);
      joined = e;
    }

-- ---- constants
alike_rows : {X : Type 0} (v : X) (rows : List X) → ((row : ℕ) → row < length rows → slice_get rows row ≡ Some v) → rows ≡ replicate (length rows) v
alike_rows v [] h = refl
alike_rows {X} v (w ∷ rows) h =
    let here : w ≡ v = same_Some w v (h 0 (omega arith)) in
    let later : rows ≡ replicate (length rows) v = alike_rows v rows (λ row lt. h (suc row) (omega arith)) in
    λ i. here i ∷ later i

pub none_spells : (t : DataType) (values : List Datum) (bytes : List ℕ) → length values ≡ 0 → bytes ≡ [] → SpellsConstant t (length values) bytes values
none_spells t values bytes none is = record { count = refl; none = λ _. is; one = λ lt. absurd (omega (arith, lt, none)) }

-- the first row alone, where all rows are the same
pub one_spells : (t : DataType) (values one : List Datum) (bytes : List ℕ) → 0 < length values → AllAlike values → one ≡ slice_range values 0 1 → Spells t (length one) bytes one → SpellsConstant t (length values) bytes values
one_spells t [] one bytes lt alike is s = absurd (omega arith)
one_spells t (v ∷ values) one bytes lt alike is s = record {
  count = refl;
  none = λ no. absurd (omega (arith, no));
  one = λ _. record {
    value = v;
    alike = alike_rows v (v ∷ values) alike;
    spelled = subst (λ (vs : List Datum). Spells t (length vs) bytes vs) is s;
  };
}
