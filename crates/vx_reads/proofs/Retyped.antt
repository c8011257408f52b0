-- Values in a dtype that takes what another one takes.
use Rattle.std.proofs.Common.{◌≡◌, ℕ, ◌-◌, List, [], ◌∷◌, length, take, sym, ap, ◌∙◌, subst, arith}
use Rattle.std.specs.Prelude.{slice_range}
use Rattle.std.specs.List.{AllByRecursion}
use Rattle.std.proofs.lemmas.List.{take_all}
use Rattle.vx_base.specs.declared.dtypes.Nullability.{Nullability}
use Rattle.vx_base.specs.Columns.{ColumnData}
use Rattle.vx_base.specs.ColumnCalls.{nullable_where}
use Rattle.vx_base.specs.Data.{DataType, Datum}
use Rattle.vx_base.specs.Fits.{Fits}
use Rattle.vx_arrays.specs.ArrayRows.{sliced}
use Rattle.vx_arrays.specs.Buffers.{bare}
use Rattle.vx_arrays.specs.PackedColumns.{IsColumn}
use Rattle.vx_arrays.proofs.PackedRows.{bare_where}
use Rattle.vx_base.proofs.BuiltRows.{fits_where}

all_where : (n : Nullability) (t : DataType) (vs : List Datum) → AllByRecursion (Fits t) vs → AllByRecursion (Fits (nullable_where n t)) vs
all_where n t [] fit = tt
all_where n t (v ∷ vs) fit = (fits_where n t v fit.0, all_where n t vs fit.1)

pub all_retyped : (s t : DataType) (vs : List Datum) → (n : Nullability) × (t ≡ nullable_where n s) → AllByRecursion (Fits s) vs → AllByRecursion (Fits t) vs
all_retyped s t vs is fit = subst (λ (t : DataType). AllByRecursion (Fits t) vs) (sym is.1) (all_where is.0 s vs fit)

whole_range : (vs : List Datum) (count : ℕ) → count ≡ length vs → slice_range vs 0 count ≡ vs
whole_range vs count all =
    let k : count - 0 ≡ count = omega arith in
    ap (λ (n : ℕ). take n vs) k ∙ take_all count vs (omega arith)

pub values_retyped : (rows others : ColumnData) (count : ℕ) → count ≡ length rows.values → others ≡ sliced 0 count rows → others.values ≡ rows.values
values_retyped rows others count all made = ap (λ (column : ColumnData). column.values) made ∙ whole_range rows.values count all

-- all rows of an array
pub rows_retyped : (s t u : DataType) (rows others : ColumnData) (count : ℕ) → (n : Nullability) × (t ≡ nullable_where n s) → u ≡ t → IsColumn s rows → count ≡ length rows.values → others ≡ sliced 0 count rows → IsColumn u others
rows_retyped s t u rows others count is copied column all made =
    let kept : others.dtype ≡ rows.dtype = ap (λ (column : ColumnData). column.dtype) made in
    let fit : AllByRecursion (Fits t) rows.values = all_retyped s t rows.values is column.fit in
    let there : IsColumn t others = record {
      shape = ap bare is.1 ∙ bare_where is.0 s ∙ column.shape ∙ sym kept;
      fit = subst (AllByRecursion (Fits t)) (sym (values_retyped rows others count all made)) fit;
    } in
    subst (λ (t : DataType). IsColumn t others) (sym copied) there
