-- Values that are spelled in a coding: as many as rows, each of them fits, and texts are short.
use Rattle.std.proofs.Common.{◌≡◌, ℕ, zero, suc, List, [], ◌∷◌, length, sym, subst, arith}
use Rattle.std.specs.Prelude.{replicate}
use Rattle.std.specs.List.{AllByRecursion}
use Rattle.vx_types.specs.Data.{DataType, Datum}
use Rattle.vx_types.specs.Fits.{Fits}
use Rattle.vx_types.specs.Slots.{IsShort}
use Rattle.vx_columns.proofs.RunRows.{spread_fits}
use Rattle.vx_segments.specs.declared.codings.Coding.{Coding}
use Rattle.vx_segments.specs.declared.codings.Coding.TheVariants.{Plain, Constant, Runs}
use Rattle.vx_segments.specs.Codings.{SpellsAs, SpellsConstant, SpellsOne}

pub spelled_count : (coding : Coding) (t : DataType) (rows : ℕ) (bytes : List ℕ) (values : List Datum) → SpellsAs coding t rows bytes values → length values ≡ rows
spelled_count Plain t rows bytes values spelled = spelled.count
spelled_count Constant t rows bytes values spelled = spelled.count
spelled_count Runs t rows bytes values spelled = spelled.count

-- what holds of a value does so however often it stands there
each_has : (P : Datum → Type 0) (n : ℕ) (v : Datum) → P v → AllByRecursion P (replicate n v)
each_has P zero v has = tt
each_has P (suc n) v has = (has, each_has P n v has)

constant_fits : (t : DataType) (rows : ℕ) (bytes : List ℕ) (values : List Datum) → SpellsConstant t rows bytes values → AllByRecursion (Fits t) values
constant_fits t rows bytes [] spelled = tt
constant_fits t rows bytes (v ∷ values) spelled =
    let one : SpellsOne t bytes (v ∷ values) = spelled.one (omega (arith, spelled.count)) in
    subst (AllByRecursion (Fits t)) (sym one.alike) (each_has (Fits t) (length (v ∷ values)) one.value one.spelled.fit.0)

pub spelled_fit : (coding : Coding) (t : DataType) (rows : ℕ) (bytes : List ℕ) (values : List Datum) → SpellsAs coding t rows bytes values → AllByRecursion (Fits t) values
spelled_fit Plain t rows bytes values spelled = spelled.fit
spelled_fit Constant t rows bytes values spelled = constant_fits t rows bytes values spelled
spelled_fit Runs t rows bytes values spelled = subst (AllByRecursion (Fits t)) spelled.laid.filled (spread_fits (Fits t) 0 spelled.runs spelled.ends spelled.spelled.fit)

constant_short : (t : DataType) (rows : ℕ) (bytes : List ℕ) (values : List Datum) → SpellsConstant t rows bytes values → AllByRecursion IsShort values
constant_short t rows bytes [] spelled = tt
constant_short t rows bytes (v ∷ values) spelled =
    let one : SpellsOne t bytes (v ∷ values) = spelled.one (omega (arith, spelled.count)) in
    subst (AllByRecursion IsShort) (sym one.alike) (each_has IsShort (length (v ∷ values)) one.value one.spelled.short.0)

pub spelled_short : (coding : Coding) (t : DataType) (rows : ℕ) (bytes : List ℕ) (values : List Datum) → SpellsAs coding t rows bytes values → AllByRecursion IsShort values
spelled_short Plain t rows bytes values spelled = spelled.short
spelled_short Constant t rows bytes values spelled = constant_short t rows bytes values spelled
spelled_short Runs t rows bytes values spelled = subst (AllByRecursion IsShort) spelled.laid.filled (spread_fits IsShort 0 spelled.runs spelled.ends spelled.spelled.short)
