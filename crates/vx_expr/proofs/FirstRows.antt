-- The first of the rows that an expression is evaluated over.
use Rattle.std.proofs.Common.{◌≡◌, ℕ, zero, suc, ◌≤◌, pos, negsuc, List, [], ◌∷◌, length, map, take, refl, sym, ap, subst, ◌∙◌, arith}
use Rattle.std.specs.List.{AllByRecursion}
use Rattle.std.proofs.lemmas.Int.{ints}
use Rattle.std.proofs.lemmas.List.{length-map, length-take, take-map}
use Rattle.vx_base.specs.ColumnCalls.{natural}
use Rattle.vx_base.specs.Columns.{ColumnData}
use Rattle.vx_base.specs.Data.{Datum, null, truth, number, text, structure}
use Rattle.vx_base.specs.Fits.{Fits}
use Rattle.vx_expr.specs.declared.evaluation.Rows.{Rows}
use Rattle.vx_expr.specs.Rows.{number_of_row}
use Rattle.vx_expr.specs.Steps.{AreRows, rows_values, rows_numbers}
use Rattle.vx_expr.specs.Types.{row_number_type}

pub first_values : (n k : ℕ) (xs : List Datum) → n ≤ k → take n xs ≡ take n (take k xs)
first_values zero k xs le = refl
first_values (suc n) zero xs le = absurd (omega arith)
first_values (suc n) (suc k) [] le = refl
first_values (suc n) (suc k) (x ∷ xs) le = ap (λ (rest : List Datum). x ∷ rest) (first_values n k xs (omega arith))

pub first_numbers : (n k : ℕ) (xs : List Datum) → n ≤ k → map number_of_row (take n xs) ≡ take n (map number_of_row (take k xs))
first_numbers n k xs le = ap (map number_of_row) (first_values n k xs le) ∙ sym (take-map number_of_row n (take k xs))

pub first_are : (rows others : Rows) → AreRows rows → others.count ≤ rows.count → rows.root.now ≡ others.root.now → rows.numbers.now ≡ others.numbers.now → AreRows others
first_are rows others h le e f = record {
  inside = omega (arith, h.inside, ap (λ (part : ColumnData). length part.values) e);
  counted = omega (arith, h.counted, ap (λ (part : ColumnData). length part.values) f);
  numbered = subst (λ (part : ColumnData). AllByRecursion (Fits row_number_type) part.values) f h.numbered;
}

-- ---- how many rows
pub rows_count : (rows : Rows) → AreRows rows → length (rows_values rows) ≡ rows.count
rows_count rows h = omega (arith, length-take rows.count rows.root.now.values, h.inside)

pub numbers_count : (rows : Rows) → AreRows rows → length (rows_numbers rows) ≡ length (rows_values rows)
numbers_count rows h = omega (arith, rows_count rows h, length-map (take rows.count rows.numbers.now.values) number_of_row, length-take rows.count rows.numbers.now.values, h.counted)

-- ---- numbers of rows
fits_first : (n : ℕ) (ns : List Datum) → AllByRecursion (Fits row_number_type) ns → AllByRecursion (Fits row_number_type) (take n ns)
fits_first zero ns h = tt
fits_first (suc n) [] h = tt
fits_first (suc n) (v ∷ ns) h = (h.0, fits_first n ns h.1)

number_again : (v : Datum) → Fits row_number_type v → natural (number_of_row v) ≡ v
number_again null h = absurd h
number_again (truth b) h = absurd h
number_again (number (pos n)) h = refl
number_again (number (negsuc n)) h = absurd (omega (arith, ints, h.0))
number_again (text bytes) h = absurd h
number_again (structure vs) h = absurd h

numbers_again : (ns : List Datum) → AllByRecursion (Fits row_number_type) ns → map natural (map number_of_row ns) ≡ ns
numbers_again [] h = refl
numbers_again (v ∷ ns) h = (λ i. number_again v h.0 i ∷ numbers_again ns h.1 i)

pub rows_numbered : (rows : Rows) → AreRows rows → map natural (rows_numbers rows) ≡ take rows.count rows.numbers.now.values
rows_numbered rows h = numbers_again (take rows.count rows.numbers.now.values) (fits_first rows.count rows.numbers.now.values h.numbered)
