-- What the rows of a leaf hold, as bytes.
use Rattle.std.proofs.Common.{◌≡◌, ℕ, ℤ, ◌+◌, ◌<◌, Bool, List, [], ◌∷◌, ◌++◌, length, map, take, Some, refl, sym, ap, ap₂, subst, ◌∙◌}
use Rattle.std.specs.List.{AllByRecursion, flat_map}
use Rattle.std.specs.Int.{w32, to_le_bytes}
use Rattle.std.specs.Prelude.{slice_get}
use Rattle.std.proofs.lemmas.List.{take_more, append-nil}
use Rattle.std.proofs.lemmas.List.Concat.{flat_map-append}
use Rattle.std.proofs.lemmas.Option.{slice_get_within}
use Rattle.vx_arrays.proofs.PickedRows.{there_is, other_default}
use Rattle.vx_types.specs.Columns.{ColumnData}
use Rattle.vx_types.specs.Data.{Datum, truth, number, text}
use Rattle.vx_types.specs.Leaf.{slot_bytes}
use Rattle.vx_types.specs.Limits.{text_limit}
use Rattle.vx_types.specs.Slots.{where_valid, IsShort, truth_in, number_in, text_in, number_bytes}
use Rattle.vx_masks.specs.Bytes.{packed}
use Rattle.vx_arrays.specs.declared.numbers.Numbers.{Numbers}
use Rattle.vx_arrays.specs.declared.arrays.Buffers.{Buffers}
use Rattle.vx_arrays.specs.declared.arrays.Buffers.TheVariants as variants
use Rattle.vx_arrays.specs.Numbers.{kind_in, numbers_in}
use Rattle.vx_arrays.specs.Buffers.{buffer_values, blank_in, buffer_type, IsArray, array_column}
use Rattle.vx_arrays.proofs.ValidRows.{buffers_again}

-- ---- what stands in the buffers, again
pub truths_in : (bits : List Bool) → map truth_in (map truth bits) ≡ bits
truths_in [] = refl
truths_in (b ∷ bits) = ap (λ (bs : List Bool). b ∷ bs) (truths_in bits)

numbers_again : (zs : List ℤ) → map number_in (map number zs) ≡ zs
numbers_again [] = refl
numbers_again (z ∷ zs) = ap (λ (ys : List ℤ). z ∷ ys) (numbers_again zs)

texts_again : (ts : List (List ℕ)) → map text_in (map text ts) ≡ ts
texts_again [] = refl
texts_again (t ∷ ts) = ap (λ (us : List (List ℕ)). t ∷ us) (texts_again ts)

pub truths_of : (mask bits : List Bool) → IsArray mask (variants.Truths bits) → map truth_in (where_valid mask (map truth bits)) ≡ bits
truths_of mask bits h = buffers_again truth_in (blank_in (buffer_type (variants.Truths bits))) mask (map truth bits) h.rows refl h.held ∙ truths_in bits

pub numbers_of : (mask : List Bool) (numbers : Numbers) → IsArray mask (variants.Numbers numbers) → map number_in (where_valid mask (map number (numbers_in numbers))) ≡ numbers_in numbers
numbers_of mask numbers h = buffers_again number_in (blank_in (buffer_type (variants.Numbers numbers))) mask (map number (numbers_in numbers)) h.rows refl h.held ∙ numbers_again (numbers_in numbers)

pub texts_of : (mask : List Bool) (ts : List (List ℕ)) → IsArray mask (variants.Texts ts) → map text_in (where_valid mask (map text ts)) ≡ ts
texts_of mask ts h = buffers_again text_in (blank_in (buffer_type (variants.Texts ts))) mask (map text ts) h.rows refl h.held ∙ texts_again ts

-- ---- their bytes
flat_mapped : {X : Type 0} (f : X → List ℕ) (g : Datum → X) (vs : List Datum) → flat_map (λ v. f (g v)) vs ≡ flat_map f (map g vs)
flat_mapped f g [] = refl
flat_mapped f g (v ∷ vs) = ap (λ (bs : List ℕ). f (g v) ++ bs) (flat_mapped f g vs)

-- the same array, with what its buffers are
at_buffers : (mask : List Bool) (buffers one : Buffers) (column : ColumnData) → array_column mask buffers ≡ column → buffers ≡ one → array_column mask one ≡ column
at_buffers mask buffers one column view e = ap (array_column mask) (sym e) ∙ view

bytes_at : (mask : List Bool) (buffers one : Buffers) (column : ColumnData) (bytes : List ℕ) → array_column mask buffers ≡ column → buffers ≡ one → bytes ≡ slot_bytes (buffer_type one) (where_valid mask (buffer_values one)) → bytes ≡ slot_bytes column.dtype column.values
bytes_at mask buffers one column bytes view e is = is ∙ ap (λ (c : ColumnData). slot_bytes c.dtype c.values) (at_buffers mask buffers one column view e)

pub truths_written : (mask : List Bool) (buffers : Buffers) (bits : List Bool) (column : ColumnData) → array_column mask buffers ≡ column → IsArray mask buffers → buffers ≡ variants.Truths bits → packed bits ≡ slot_bytes column.dtype column.values
truths_written mask buffers bits column view h e =
    bytes_at mask buffers (variants.Truths bits) column (packed bits) view e (ap packed (sym (truths_of mask bits (subst (IsArray mask) e h))))

pub numbers_written : (mask : List Bool) (buffers : Buffers) (numbers : Numbers) (column : ColumnData) → array_column mask buffers ≡ column → IsArray mask buffers → buffers ≡ variants.Numbers numbers
    → flat_map (number_bytes (kind_in numbers)) (numbers_in numbers) ≡ slot_bytes column.dtype column.values
numbers_written mask buffers numbers column view h e =
    let kind = kind_in numbers in
    let values = where_valid mask (map number (numbers_in numbers)) in
    bytes_at mask buffers (variants.Numbers numbers) column (flat_map (number_bytes kind) (numbers_in numbers)) view e
    (ap (flat_map (number_bytes kind)) (sym (numbers_of mask numbers (subst (IsArray mask) e h))) ∙ sym (flat_mapped (number_bytes kind) number_in values))

pub texts_written : (mask : List Bool) (buffers : Buffers) (ts : List (List ℕ)) (column : ColumnData) → array_column mask buffers ≡ column → IsArray mask buffers → buffers ≡ variants.Texts ts
    → flat_map (λ t. to_le_bytes w32 (length t)) ts ++ flat_map (λ t. t) ts ≡ slot_bytes column.dtype column.values
texts_written mask buffers ts column view h e =
    let values = where_valid mask (map text ts) in
    let again = texts_of mask ts (subst (IsArray mask) e h) in
    let len : List ℕ → List ℕ = λ t. to_le_bytes w32 (length t) in
    let all : List ℕ → List ℕ = λ t. t in
    bytes_at mask buffers (variants.Texts ts) column (flat_map len ts ++ flat_map all ts) view e
    (ap₂ (λ (a b : List ℕ). a ++ b) (ap (flat_map len) (sym again) ∙ sym (flat_mapped len text_in values)) (ap (flat_map all) (sym again) ∙ sym (flat_mapped all text_in values)))

all_mapped : {X : Type 0} (P : X → Type 0) (g : Datum → X) (vs : List Datum) → AllByRecursion (λ v. P (g v)) vs → AllByRecursion P (map g vs)
all_mapped P g [] h = tt
all_mapped P g (v ∷ vs) h = (h.0, all_mapped P g vs h.1)

pub texts_short : (mask : List Bool) (buffers : Buffers) (ts : List (List ℕ)) (column : ColumnData) → array_column mask buffers ≡ column → IsArray mask buffers → buffers ≡ variants.Texts ts → AllByRecursion IsShort column.values
    → AllByRecursion (λ t. length t < text_limit) ts
texts_short mask buffers ts column view h e short =
    let P : List ℕ → Type 0 = λ t. length t < text_limit in
    let values : AllByRecursion IsShort (where_valid mask (map text ts)) = subst (λ (c : ColumnData). AllByRecursion IsShort c.values) (sym (at_buffers mask buffers (variants.Texts ts) column view e)) short in
    subst (AllByRecursion P) (texts_of mask ts (subst (IsArray mask) e h)) (all_mapped P text_in (where_valid mask (map text ts)) values)

pub lens_more : (f : List ℕ → List ℕ) (ts : List (List ℕ)) (i : ℕ) (t : List ℕ) → slice_get ts i ≡ Some t → flat_map f (take (i + 1) ts) ≡ flat_map f (take i ts) ++ f t
lens_more f ts i t e =
    ap (flat_map f) (take_more ts i [] (slice_get_within ts i t e) ∙ ap (λ (u : List ℕ). take i ts ++ u ∷ []) (other_default ts i [] t (slice_get_within ts i t e) ∙ sym (there_is ts i t e)))
    ∙ flat_map-append f (take i ts) (t ∷ []) ∙ ap (λ (bs : List ℕ). flat_map f (take i ts) ++ bs) (append-nil (f t))
