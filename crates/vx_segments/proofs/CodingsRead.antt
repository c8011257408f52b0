-- The laws of spelling and reading in each coding.
use Rattle.std.proofs.Common.{◌≡◌, ℕ, zero, suc, ◌+◌, ◌*◌, ◌^◌, ◌<◌, true, eqb, List, [], ◌∷◌, ◌++◌, length, drop, replicate, Option, Some, None, refl, sym, ap, subst, ◌∙◌, arith, append_assoc}
use Rattle.std.specs.Prelude.{nat_lt}
use Rattle.std.specs.List.{AllByRecursion, list_all}
use Rattle.std.specs.Int.{w32, w64, to_le_bytes, from_le_bytes}
use Rattle.std.specs.Str.{bytes_eq}
use Rattle.std.proofs.lemmas.Bool.{and_from, and_parts, eq-eqb, eqb-true, lt-ltb, ltb-true, cond-true}
use Rattle.std.proofs.lemmas.List.{take_at, drop_at, length-append, length-replicate}
use Rattle.std.proofs.lemmas.Nat.{from_le_bytes-to_le_bytes_4, from_le_bytes-to_le_bytes_8}
use Rattle.std.proofs.lemmas.Option.{same_Some}
use Rattle.std.proofs.lemmas.Slice.Eq.{bytes_eq-Decides}
use Rattle.vx_types.specs.Data.{DataType, Datum}
use Rattle.vx_types.specs.Leaf.{IsLeaf}
use Rattle.vx_columns.specs.LaidRuns.{AreRunsOf}
use Rattle.vx_columns.specs.RunRows.{Rise, start_of}
use Rattle.vx_columns.specs.Runs.{spread}
use Rattle.vx_columns.proofs.SpreadRuns.{spread_len}
use Rattle.vx_segments.specs.declared.codings.Coding.TheVariants.{Plain, Constant, Runs}
use Rattle.vx_segments.specs.Segment.{Spells}
use Rattle.vx_segments.specs.Reading.{decoded}
use Rattle.vx_segments.specs.Codings.{SpellsConstant, SpellsRuns, end_bytes, run_bytes}
use Rattle.vx_segments.specs.CodingsRead.{filled, nothing_in, constant_read, differ, do_rise, ends_in, runs_in, run_ends_in, behind_ends, are_runs, spread_if, runs_read, decoded_as}
use Rattle.vx_segments.specs.Laws.{CodingsHaveOneSpelling, CodingsHaveOneMeaning, CodingsReadSpelled, SpelledCodingsAreRead}
use Rattle.vx_segments.proofs.Leaves.{some_data, spelled_is_read}
use Rattle.vx_segments.proofs.OneRuns.{alike_once, runs_once}
use Rattle.vx_segments.proofs.SameLeaves.{differs, differ_passes, rises, rise_passes, small_ends, small_passes}
use Rattle.vx_segments.proofs.Spelled.{picked, reads_spelled, has_one_spelling}

-- ---- one spelling
constant_once : (t : DataType) (rows : ℕ) (values : List Datum) (a b : List ℕ) → SpellsConstant t rows a values → SpellsConstant t rows b values → a ≡ b
constant_once t zero values a b p q = p.none refl ∙ sym (q.none refl)
constant_once t (suc more) values a b p q =
    let one = p.one (omega arith) in
    let other = q.one (omega arith) in
    let same : one.value ≡ other.value = alike_once (length values) one.value other.value (omega (arith, p.count)) (sym one.alike ∙ other.alike) in
    has_one_spelling t 1 (one.value ∷ []) a b one.spelled (subst (λ (v : Datum). Spells t 1 b (v ∷ [])) (sym same) other.spelled)

runs_spelled_once : (t : DataType) (rows : ℕ) (values : List Datum) (a b : List ℕ) → SpellsRuns t rows a values → SpellsRuns t rows b values → a ≡ b
runs_spelled_once t rows values a b p q =
    let same = runs_once values p.runs q.runs p.ends q.ends p.laid q.laid in
    let plain : p.plain ≡ q.plain = has_one_spelling t (length p.runs) p.runs p.plain q.plain p.spelled (subst (λ (vs : List Datum). Spells t (length vs) q.plain vs) (sym same.0) q.spelled) in
    p.joined ∙ (λ i. run_bytes (same.1 i) (plain i)) ∙ sym q.joined

pub codings_have_one_spelling : CodingsHaveOneSpelling
codings_have_one_spelling Plain t rows values a b p q = has_one_spelling t rows values a b p q
codings_have_one_spelling Constant t rows values a b p q = constant_once t rows values a b p q
codings_have_one_spelling Runs t rows values a b p q = runs_spelled_once t rows values a b p q

-- ---- what is read of a constant is spelled
nothing_reads : (t : DataType) (bytes : List ℕ) (values : List Datum) → nothing_in bytes ≡ Some values → SpellsConstant t 0 bytes values
nothing_reads t [] values e =
    let none : [] ≡ values = same_Some [] values e in
    record { count = sym (ap length none); none = λ _. refl; one = λ lt. absurd (omega arith) }
nothing_reads t (b ∷ bytes) values e = absurd cc

filled_reads : (t : DataType) (more : ℕ) (bytes : List ℕ) (values : List Datum) (read : Option (List Datum)) → decoded t 1 bytes ≡ read → filled (suc more) read ≡ Some values → SpellsConstant t (suc more) bytes values
filled_reads t more bytes values None d e = absurd cc
filled_reads t more bytes values (Some []) d e = absurd cc
filled_reads t more bytes values (Some (v ∷ w ∷ others)) d e =
    let s = reads_spelled t 1 bytes (v ∷ w ∷ others) d in
    absurd (omega (arith, s.count))
filled_reads t more bytes values (Some (v ∷ [])) d e =
    let all : replicate (suc more) v ≡ values = same_Some (replicate (suc more) v) values e in
    let count : length values ≡ suc more = sym (ap length all) ∙ length-replicate (suc more) v in
    record {
      count = count;
      none = λ no. absurd (omega (arith, no));
      one = λ lt. record {
        value = v;
        alike = sym all ∙ ap (λ (k : ℕ). replicate k v) (sym count);
        spelled = reads_spelled t 1 bytes (v ∷ []) d;
      };
    }

constant_reads : (t : DataType) (rows : ℕ) (bytes : List ℕ) (values : List Datum) → constant_read t rows bytes ≡ Some values → SpellsConstant t rows bytes values
constant_reads t zero bytes values e = nothing_reads t bytes values e
constant_reads t (suc more) bytes values e = filled_reads t more bytes values (decoded t 1 bytes) refl e

-- ---- what is read of runs is spelled
spread_reads : (t : DataType) (rows : ℕ) (bytes : List ℕ) (values : List Datum) (read : Option (List Datum)) → decoded t (runs_in bytes) (behind_ends bytes) ≡ read → spread_if rows bytes (run_ends_in bytes) read ≡ Some values → SpellsRuns t rows bytes values
spread_reads t rows bytes values None d e = absurd cc
spread_reads t rows bytes values (Some runs) d e =
    let ends = run_ends_in bytes in
    let plain = behind_ends bytes in
    let is = picked (are_runs rows bytes ends runs) (spread 0 runs ends) values e in
    let h = and_parts _ (bytes_eq (run_bytes ends plain) bytes) is.0 in
    let g = and_parts _ (list_all (λ end. nat_lt end (2 ^ 64)) ends) h.0 in
    let f = and_parts _ (nat_lt (length ends) (2 ^ 32)) g.0 in
    let c = and_parts _ (differ runs) f.0 in
    let b = and_parts _ (eqb (start_of 0 ends (length ends)) rows) c.0 in
    let a = and_parts (eqb (length ends) (length runs)) (do_rise 0 ends) b.0 in
    let same : length ends ≡ length runs = eqb-true (length ends) (length runs) a.0 in
    let rise : Rise 0 ends = rises 0 ends a.1 in
    let last : start_of 0 ends (length ends) ≡ rows = eqb-true (start_of 0 ends (length ends)) rows b.1 in
    let s = reads_spelled t (runs_in bytes) plain runs d in
    record {
      runs = runs;
      ends = ends;
      plain = plain;
      count = sym (ap length is.1) ∙ (omega (arith, spread_len 0 runs ends same rise, last));
      laid = record { same = same; rise = rise; filled = is.1; differ = differs runs c.1 };
      few = ltb-true (length ends) (2 ^ 32) f.1;
      small = small_ends ends g.1;
      spelled = subst (λ (k : ℕ). Spells t k plain runs) (sym s.count) s;
      joined = sym ((bytes_eq-Decides (run_bytes ends plain) bytes).0 h.1);
    }

pub codings_read_spelled : CodingsReadSpelled
unfolding decoded_as
codings_read_spelled Plain t rows bytes values e = reads_spelled t rows bytes values e
codings_read_spelled Constant t rows bytes values e = constant_reads t rows bytes values e
codings_read_spelled Runs t rows bytes values e = spread_reads t rows bytes values (decoded t (runs_in bytes) (behind_ends bytes)) refl e

-- ---- a constant that is spelled is read
none_there : (values : List Datum) → length values ≡ 0 → values ≡ []
none_there [] e = refl
none_there (v ∷ values) e = absurd (omega arith)

constant_is_read : (t : DataType) (rows : ℕ) (bytes : List ℕ) (values : List Datum) → IsLeaf t → SpellsConstant t rows bytes values → constant_read t rows bytes ≡ Some values
constant_is_read t zero bytes values l s = ap nothing_in (s.none refl) ∙ ap some_data (sym (none_there values s.count))
constant_is_read t (suc more) bytes values l s =
    let one = s.one (omega arith) in
    let read : decoded t 1 bytes ≡ Some (one.value ∷ []) = spelled_is_read t l 1 bytes (one.value ∷ []) one.spelled in
    ap (filled (suc more)) read ∙ ap some_data (ap (λ (k : ℕ). replicate k one.value) (sym s.count) ∙ sym one.alike)

-- ---- runs that are spelled are read
end_step : (n : ℕ) (word rest : List ℕ) → length word ≡ 8 → ends_in (suc n) (word ++ rest) ≡ from_le_bytes w64 word ∷ ends_in n rest
unfolding ends_in
end_step n word rest len = rw (take_at word rest 8 len, drop_at word rest 8 len) refl

pub ends_again : (ends rest : List ℕ) → AllByRecursion (λ end. end < 2 ^ 64) ends → ends_in (length ends) (end_bytes ends ++ rest) ≡ ends
unfolding ends_in
ends_again [] rest h = refl
ends_again (end ∷ ends) rest h =
    let here = from_le_bytes-to_le_bytes_8 end h.0 in
    let later = ends_again ends rest h.1 in
    ap (ends_in (suc (length ends))) (append_assoc (to_le_bytes w64 end) (end_bytes ends) rest)
    ∙ end_step (length ends) (to_le_bytes w64 end) (end_bytes ends ++ rest) refl ∙ (λ i. here i ∷ later i)

pub end_bytes_len : (ends : List ℕ) → length (end_bytes ends) ≡ 8 * length ends
end_bytes_len [] = refl
end_bytes_len (end ∷ ends) =
    let eight : length (to_le_bytes w64 end) ≡ 8 = refl in
    omega (arith, length-append (to_le_bytes w64 end) (end_bytes ends), end_bytes_len ends, eight)

pub count_again : (ends plain : List ℕ) → length ends < 2 ^ 32 → runs_in (run_bytes ends plain) ≡ length ends
count_again ends plain few =
    let word = to_le_bytes w32 (length ends) in
    ap (from_le_bytes w32) (take_at word (end_bytes ends ++ plain) 4 refl) ∙ from_le_bytes-to_le_bytes_4 (length ends) few

pub behind_again : (ends plain : List ℕ) (k : ℕ) → k ≡ length ends → drop (4 + 8 * k) (run_bytes ends plain) ≡ plain
behind_again ends plain k e =
    let word = to_le_bytes w32 (length ends) in
    let four : length word ≡ 4 = refl in
    let size : length (word ++ end_bytes ends) ≡ 4 + 8 * k = omega (arith, length-append word (end_bytes ends), end_bytes_len ends, four, e) in
    ap (drop (4 + 8 * k)) (sym (append_assoc word (end_bytes ends) plain)) ∙ drop_at (word ++ end_bytes ends) plain (4 + 8 * k) size

pub run_ends_again : (ends plain : List ℕ) → length ends < 2 ^ 32 → AllByRecursion (λ end. end < 2 ^ 64) ends → run_ends_in (run_bytes ends plain) ≡ ends
run_ends_again ends plain few small =
    let word = to_le_bytes w32 (length ends) in
    (λ i. ends_in (count_again ends plain few i) (drop_at word (end_bytes ends ++ plain) 4 refl i)) ∙ ends_again ends plain small

pub last_end : (rows : ℕ) (values runs : List Datum) (ends : List ℕ) → AreRunsOf values runs ends → length values ≡ rows → start_of 0 ends (length ends) ≡ rows
last_end rows values runs ends laid count = omega (arith, spread_len 0 runs ends laid.same laid.rise, ap length laid.filled, count)

runs_tested : (t : DataType) (rows : ℕ) (bytes : List ℕ) (values : List Datum) → IsLeaf t → (s : SpellsRuns t rows bytes values) → behind_ends bytes ≡ s.plain → are_runs rows bytes s.ends s.runs ≡ true
runs_tested t rows bytes values l s behind =
    let whole : run_bytes s.ends (behind_ends bytes) ≡ bytes = ap (run_bytes s.ends) behind ∙ sym s.joined in
    let one = and_from _ _ (eq-eqb (length s.ends) (length s.runs) s.laid.same) (rise_passes 0 s.ends s.laid.rise) in
    let two = and_from _ _ one (eq-eqb (start_of 0 s.ends (length s.ends)) rows (last_end rows values s.runs s.ends s.laid s.count)) in
    let three = and_from _ _ two (differ_passes t s.runs l s.spelled.fit s.laid.differ) in
    let four = and_from _ _ three (lt-ltb (length s.ends) (2 ^ 32) s.few) in
    let five = and_from _ _ four (small_passes s.ends s.small) in
    and_from _ _ five ((bytes_eq-Decides (run_bytes s.ends (behind_ends bytes)) bytes).1 whole)

runs_are_read : (t : DataType) (rows : ℕ) (bytes : List ℕ) (values : List Datum) → IsLeaf t → SpellsRuns t rows bytes values → runs_read t rows bytes ≡ Some values
runs_are_read t rows bytes values l s =
    let count : runs_in bytes ≡ length s.ends = ap runs_in s.joined ∙ count_again s.ends s.plain s.few in
    let behind : behind_ends bytes ≡ s.plain = ap (drop (4 + 8 * runs_in bytes)) s.joined ∙ behind_again s.ends s.plain (runs_in bytes) count in
    let ends : run_ends_in bytes ≡ s.ends = ap run_ends_in s.joined ∙ run_ends_again s.ends s.plain s.few s.small in
    let read : decoded t (runs_in bytes) (behind_ends bytes) ≡ Some s.runs =
    (λ i. decoded t ((count ∙ s.laid.same) i) (behind i)) ∙ spelled_is_read t l (length s.runs) s.plain s.runs s.spelled in
    (λ i. spread_if rows bytes (ends i) (read i))
    ∙ cond-true (are_runs rows bytes s.ends s.runs) (some_data (spread 0 s.runs s.ends)) None (runs_tested t rows bytes values l s behind)
    ∙ ap some_data s.laid.filled

pub spelled_codings_are_read : SpelledCodingsAreRead
unfolding decoded_as
spelled_codings_are_read Plain t l rows bytes values s = spelled_is_read t l rows bytes values s
spelled_codings_are_read Constant t l rows bytes values s = constant_is_read t rows bytes values l s
spelled_codings_are_read Runs t l rows bytes values s = runs_are_read t rows bytes values l s

pub codings_have_one_meaning : CodingsHaveOneMeaning
codings_have_one_meaning coding t l rows bytes v w p q =
    let e : some_data v ≡ some_data w = sym (spelled_codings_are_read coding t l rows bytes v p) ∙ spelled_codings_are_read coding t l rows bytes w q in
    cc
