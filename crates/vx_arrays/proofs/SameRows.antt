-- Arrays that hold the same, whole and row by row.
use Rattle.std.proofs.Common.{◌≡◌, ℕ, zero, suc, ◌+◌, ◌<◌, ◌≤◌, Bool, true, false, List, [], ◌∷◌, ◌++◌, length, map, get_or, take, Some, refl, sym, ap, ap₂, subst, ◌∙◌, arith}
use Rattle.std.specs.Prelude.{slice_get, IsTrue, not}
use mathlib.Core.Bool.{beq}
use Rattle.std.proofs.lemmas.List.{take_all, take_more, map-append}
use Rattle.std.proofs.lemmas.Option.{slice_get-get_or, same_Some}
use Rattle.vx_types.specs.Columns.{ColumnData}
use Rattle.vx_types.specs.Data.{Datum, null, truth, number, text, structure, Items}
use Rattle.vx_types.specs.Slots.{where_valid, is_value, truth_in, number_in, text_in}
use Rattle.vx_types.specs.ValueViews.{items_from}
use Rattle.vx_types.proofs.BuiltRows.{in_row}
use Rattle.vx_arrays.specs.declared.numbers.Numbers.{Numbers}
use Rattle.vx_arrays.specs.declared.arrays.Buffers.{Buffers}
use Rattle.vx_arrays.specs.declared.arrays.Buffers.TheVariants as variants
use Rattle.vx_arrays.specs.Numbers.{kind_in, numbers_in}
use Rattle.vx_arrays.specs.ArrayRows.{members_in, StructRows, struct_rows, HaveRows}
use Rattle.vx_arrays.specs.Buffers.{buffer_values, IsArray, array_column}
use Rattle.vx_arrays.proofs.PackedRows.{valid_cell, null_cell}
use Rattle.vx_arrays.proofs.ArrayRanges.{array_validity}
use Rattle.vx_arrays.proofs.ArrayRows.{row_there, struct_len, same_head, same_rest, get_map}
use Rattle.vx_arrays.proofs.WrittenRows.{truths_of, numbers_of, texts_of}

-- ---- whole leaves
-- two arrays, whose buffers are known
pub record Two (mask more : List Bool) (one two : Buffers) (a b : ColumnData) : Type 0 where
  pub one_view : array_column mask one ≡ a
  pub two_view : array_column more two ≡ b
  pub one_array : IsArray mask one
  pub two_array : IsArray more two

pub two_are : (mask more : List Bool) (one two here there : Buffers) (a b : ColumnData) → array_column mask one ≡ a → array_column more two ≡ b → IsArray mask one → IsArray more two → one ≡ here → two ≡ there → Two mask more here there a b
two_are mask more one two here there a b view other g h e f = record {
  one_view = ap (array_column mask) (sym e) ∙ view;
  two_view = ap (array_column more) (sym f) ∙ other;
  one_array = subst (IsArray mask) e g;
  two_array = subst (IsArray more) f h;
}

pub masks_of : (mask more : List Bool) (one two : Buffers) (a b : ColumnData) → Two mask more one two a b → a.values ≡ b.values → mask ≡ more
masks_of mask more one two a b h e =
    array_validity mask one h.one_array ∙ ap (map is_value) (ap (λ (c : ColumnData). c.values) h.one_view ∙ e ∙ sym (ap (λ (c : ColumnData). c.values) h.two_view)) ∙ sym (array_validity more two h.two_array)

values_of : (mask more : List Bool) (one two : Buffers) (a b : ColumnData) → Two mask more one two a b → mask ≡ more → buffer_values one ≡ buffer_values two → a.values ≡ b.values
values_of mask more one two a b h e f =
    sym (ap (λ (c : ColumnData). c.values) h.one_view) ∙ ap₂ where_valid e f ∙ ap (λ (c : ColumnData). c.values) h.two_view

seen_of : {X : Type 0} (g : Datum → X) (mask more : List Bool) (one two : Buffers) (a b : ColumnData) → Two mask more one two a b → a.values ≡ b.values → map g (where_valid mask (buffer_values one)) ≡ map g (where_valid more (buffer_values two))
seen_of g mask more one two a b h e = ap (map g) (ap (λ (c : ColumnData). c.values) h.one_view ∙ e ∙ sym (ap (λ (c : ColumnData). c.values) h.two_view))

pub same_truths : (mask more xs ys : List Bool) (a b : ColumnData) → Two mask more (variants.Truths xs) (variants.Truths ys) a b → mask ≡ more → xs ≡ ys → a.values ≡ b.values
same_truths mask more xs ys a b h e f = values_of mask more (variants.Truths xs) (variants.Truths ys) a b h e (ap (map truth) f)

pub truths_same : (mask more xs ys : List Bool) (a b : ColumnData) → Two mask more (variants.Truths xs) (variants.Truths ys) a b → a.values ≡ b.values → xs ≡ ys
truths_same mask more xs ys a b h e =
    sym (truths_of mask xs h.one_array) ∙ seen_of truth_in mask more (variants.Truths xs) (variants.Truths ys) a b h e ∙ truths_of more ys h.two_array

pub same_numbers : (mask more : List Bool) (xs ys : Numbers) (a b : ColumnData) → Two mask more (variants.Numbers xs) (variants.Numbers ys) a b → mask ≡ more → numbers_in xs ≡ numbers_in ys → a.values ≡ b.values
same_numbers mask more xs ys a b h e f = values_of mask more (variants.Numbers xs) (variants.Numbers ys) a b h e (ap (map number) f)

pub numbers_same : (mask more : List Bool) (xs ys : Numbers) (a b : ColumnData) → Two mask more (variants.Numbers xs) (variants.Numbers ys) a b → a.values ≡ b.values → numbers_in xs ≡ numbers_in ys
numbers_same mask more xs ys a b h e =
    sym (numbers_of mask xs h.one_array) ∙ seen_of number_in mask more (variants.Numbers xs) (variants.Numbers ys) a b h e ∙ numbers_of more ys h.two_array

pub kinds_same : (mask more : List Bool) (xs ys : Numbers) (a b : ColumnData) → Two mask more (variants.Numbers xs) (variants.Numbers ys) a b → b.dtype ≡ a.dtype → kind_in xs ≡ kind_in ys
kinds_same mask more xs ys a b h e =
    let types = ap (λ (c : ColumnData). c.dtype) h.one_view ∙ sym e ∙ sym (ap (λ (c : ColumnData). c.dtype) h.two_view) in
    cc

pub same_texts : (mask more : List Bool) (xs ys : List (List ℕ)) (a b : ColumnData) → Two mask more (variants.Texts xs) (variants.Texts ys) a b → mask ≡ more → xs ≡ ys → a.values ≡ b.values
same_texts mask more xs ys a b h e f = values_of mask more (variants.Texts xs) (variants.Texts ys) a b h e (ap (map text) f)

pub texts_same : (mask more : List Bool) (xs ys : List (List ℕ)) (a b : ColumnData) → Two mask more (variants.Texts xs) (variants.Texts ys) a b → a.values ≡ b.values → xs ≡ ys
texts_same mask more xs ys a b h e =
    sym (texts_of mask xs h.one_array) ∙ seen_of text_in mask more (variants.Texts xs) (variants.Texts ys) a b h e ∙ texts_of more ys h.two_array

-- ---- row by row

there_or : {X : Type 0} (xs : List X) (i : ℕ) (d : X) → i < length xs → slice_get xs i ≡ Some (get_or xs i d)
there_or xs i d lt = slice_get-get_or xs i d lt

pub rows_more : (xs ys : List Datum) (i : ℕ) → i < length xs → i < length ys → slice_get xs i ≡ slice_get ys i → take i xs ≡ take i ys → take (i + 1) xs ≡ take (i + 1) ys
rows_more xs ys i lt lu e h =
    let here : get_or xs i null ≡ get_or ys i null = same_Some (get_or xs i null) (get_or ys i null) (sym (there_or xs i null lt) ∙ e ∙ there_or ys i null lu) in
    take_more xs i null lt ∙ (λ j. h j ++ here j ∷ []) ∙ sym (take_more ys i null lu)

-- ---- a row of two arrays

pub there_in : {X : Type 0} (xs : List X) (i : ℕ) → i < length xs → (x : X) × (slice_get xs i ≡ Some x)
there_in [] i lt = absurd (omega arith)
there_in (x ∷ xs) zero lt = (x, refl)
there_in (x ∷ xs) (suc i) lt = there_in xs i (omega arith)

valid_here : (mask : List Bool) (buffers : Buffers) (a : ColumnData) (row : ℕ) (v : Datum) → array_column mask buffers ≡ a → slice_get mask row ≡ Some true → slice_get (buffer_values buffers) row ≡ Some v → slice_get a.values row ≡ Some v
valid_here mask buffers a row v view e f = ap (λ (c : ColumnData). slice_get c.values row) (sym view) ∙ valid_cell mask (buffer_values buffers) row v e f

inside_buffers : (mask : List Bool) (buffers : Buffers) (row : ℕ) → IsArray mask buffers → slice_get mask row ≡ Some true → row < length (buffer_values buffers)
inside_buffers mask buffers row h e = omega (arith, h.rows, there_lt mask row e)
  where
    there_lt : (bits : List Bool) (i : ℕ) → slice_get bits i ≡ Some true → i < length bits
    there_lt [] i f = absurd cc
    there_lt (b ∷ bits) zero f = omega arith
    there_lt (b ∷ bits) (suc i) f = omega (arith, there_lt bits i f)

-- both have a value
pub row_values : (mask : List Bool) (buffers : Buffers) (a : ColumnData) (row : ℕ) → array_column mask buffers ≡ a → IsArray mask buffers → slice_get mask row ≡ Some true → slice_get a.values row ≡ slice_get (buffer_values buffers) row
row_values mask buffers a row view h e =
    let at = there_in (buffer_values buffers) row (inside_buffers mask buffers row h e) in
    valid_here mask buffers a row at.0 view e at.1 ∙ sym at.1

pub row_null : (mask : List Bool) (buffers : Buffers) (a : ColumnData) (row : ℕ) → array_column mask buffers ≡ a → IsArray mask buffers → slice_get mask row ≡ Some false → slice_get a.values row ≡ Some null
row_null mask buffers a row view h e = ap (λ (c : ColumnData). slice_get c.values row) (sym view) ∙ null_cell mask (buffer_values buffers) row h.rows e

-- a value is not null
bit_again : (mask : List Bool) (buffers : Buffers) (a : ColumnData) (row : ℕ) (bit : Bool) → array_column mask buffers ≡ a → IsArray mask buffers → slice_get mask row ≡ Some bit → (v : Datum) → slice_get a.values row ≡ Some v → is_value v ≡ bit
bit_again mask buffers a row bit view h e v f =
    let all : mask ≡ map is_value a.values = array_validity mask buffers h ∙ ap (λ (c : ColumnData). map is_value c.values) view in
    same_Some (is_value v) bit (sym (mapped a.values row v f) ∙ ap (λ (bits : List Bool). slice_get bits row) (sym all) ∙ e)
  where
    mapped : (vs : List Datum) (i : ℕ) (w : Datum) → slice_get vs i ≡ Some w → slice_get (map is_value vs) i ≡ Some (is_value w)
    mapped [] i w g = absurd cc
    mapped (u ∷ vs) zero w g = cc
    mapped (u ∷ vs) (suc i) w g = mapped vs i w g

pub bits_agree : (mask more : List Bool) (one two : Buffers) (a b : ColumnData) (row second : ℕ) (x y : Bool) → array_column mask one ≡ a → array_column more two ≡ b → IsArray mask one → IsArray more two → slice_get mask row ≡ Some x → slice_get more second ≡ Some y → row < length a.values
    → slice_get a.values row ≡ slice_get b.values second → x ≡ y
bits_agree mask more one two a b row second x y view other g h e f lt same =
    let at = there_in a.values row lt in
    sym (bit_again mask one a row x view g e at.0 at.1) ∙ bit_again more two b second y other h f at.0 (sym same ∙ at.1)

-- ---- a row of structs
items_same : (vs ws : List Datum) → items_from vs ≡ items_from ws → vs ≡ ws
items_same [] [] e = refl
items_same [] (w ∷ ws) e = absurd cc
items_same (v ∷ vs) [] e = absurd cc
items_same (v ∷ vs) (w ∷ ws) e =
    let one : v ≡ w = cc in
    let rest : items_from vs ≡ items_from ws = cc in
    λ i. one i ∷ items_same vs ws rest i

pub counts_same : (ones others : List ColumnData) → members_in others ≡ members_in ones → length others ≡ length ones
counts_same [] [] e = refl
counts_same [] (b ∷ others) e = absurd cc
counts_same (a ∷ ones) [] e = absurd cc
counts_same (a ∷ ones) (b ∷ others) e = ap suc (counts_same ones others (same_rest a b ones others e))

pub types_same : (ones others : List ColumnData) (i : ℕ) (a b : ColumnData) → members_in others ≡ members_in ones → i < length ones → a ≡ get_or ones i a → b ≡ get_or others i b → b.dtype ≡ a.dtype
types_same [] others i a b e lt p q = absurd (omega arith)
types_same (x ∷ ones) [] i a b e lt p q = absurd cc
types_same (x ∷ ones) (y ∷ others) zero a b e lt p q = ap (λ (c : ColumnData). c.dtype) q ∙ same_head x y ones others e ∙ sym (ap (λ (c : ColumnData). c.dtype) p)
types_same (x ∷ ones) (y ∷ others) (suc i) a b e lt p q = types_same ones others i a b (same_rest x y ones others e) (omega arith) p q

pub row_seen : (rows row : ℕ) (arrays items : List ColumnData) (structs : StructRows) → struct_rows rows arrays ≡ structs → items ≡ arrays → HaveRows rows arrays → row < length structs.rows → slice_get structs.rows row ≡ Some (items_from (map (in_row row) items))
row_seen rows row arrays items structs view e h lt =
    let inside : row < rows = omega (arith, lt, struct_len rows arrays h, ap (λ (s : StructRows). length s.rows) view) in
    ap (λ (s : StructRows). slice_get s.rows row) (sym view) ∙ row_there rows row arrays inside h ∙ ap (λ (ps : List ColumnData). Some (items_from (map (in_row row) ps))) (sym e)

pub rows_same : (row second : ℕ) (ones others : List ColumnData) (a b : StructRows) → slice_get a.rows row ≡ Some (items_from (map (in_row row) ones)) → slice_get b.rows second ≡ Some (items_from (map (in_row second) others)) → map (in_row row) ones ≡ map (in_row second) others → slice_get a.rows row ≡ slice_get b.rows second
rows_same row second ones others a b e f h = e ∙ ap (λ (vs : List Datum). Some (items_from vs)) h ∙ sym f

pub same_rows : (row second : ℕ) (ones others : List ColumnData) (a b : StructRows) → slice_get a.rows row ≡ Some (items_from (map (in_row row) ones)) → slice_get b.rows second ≡ Some (items_from (map (in_row second) others)) → slice_get a.rows row ≡ slice_get b.rows second → map (in_row row) ones ≡ map (in_row second) others
same_rows row second ones others a b e f h = items_same (map (in_row row) ones) (map (in_row second) others) (same_Some (items_from (map (in_row row) ones)) (items_from (map (in_row second) others)) (sym e ∙ h ∙ f))

array_row : (array : ColumnData) (row : ℕ) → row < length array.values → slice_get array.values row ≡ Some (in_row row array)
array_row array row lt = slice_get-get_or array.values row null lt

pub agree_more : (row second i : ℕ) (ones others : List ColumnData) (a b : ColumnData) → i < length ones → length others ≡ length ones → a ≡ get_or ones i a → b ≡ get_or others i b → row < length a.values → second < length b.values → slice_get a.values row ≡ slice_get b.values second
    → map (in_row row) (take i ones) ≡ map (in_row second) (take i others) → map (in_row row) (take (i + 1) ones) ≡ map (in_row second) (take (i + 1) others)
agree_more row second i ones others a b lt len p q la lb same h =
    let one = take_more ones i a lt in
    let two = take_more others i b (omega arith) in
    let here : in_row row a ≡ in_row second b = same_Some (in_row row a) (in_row second b) (sym (array_row a row la) ∙ same ∙ array_row b second lb) in
    rw (one, two, ← p, ← q, map-append (in_row row) (take i ones) (a ∷ []), map-append (in_row second) (take i others) (b ∷ []), h, here) refl

pub agree_at : (row second i : ℕ) (ones others : List ColumnData) (a b : ColumnData) → i < length ones → length others ≡ length ones → a ≡ get_or ones i a → b ≡ get_or others i b → row < length a.values → second < length b.values → map (in_row row) ones ≡ map (in_row second) others → slice_get a.values row ≡ slice_get b.values second
agree_at row second i [] others a b lt len p q la lb h = absurd (omega arith)
agree_at row second i (x ∷ ones) [] a b lt len p q la lb h = absurd (omega arith)
agree_at row second zero (x ∷ ones) (y ∷ others) a b lt len p q la lb h =
    let here : in_row row x ≡ in_row second y = cc in
    array_row a row la ∙ ap (λ (c : ColumnData). Some (in_row row c)) p ∙ ap (λ (v : Datum). Some v) here ∙ ap (λ (c : ColumnData). Some (in_row second c)) (sym q) ∙ sym (array_row b second lb)
agree_at row second (suc i) (x ∷ ones) (y ∷ others) a b lt len p q la lb h = agree_at row second i ones others a b (omega arith) (omega arith) p q la lb cc

pub agree_all : (row second i : ℕ) (ones others : List ColumnData) → length ones ≤ i → length others ≡ length ones → map (in_row row) (take i ones) ≡ map (in_row second) (take i others) → map (in_row row) ones ≡ map (in_row second) others
agree_all row second i ones others past len h = ap (map (in_row row)) (sym (take_all i ones past)) ∙ h ∙ ap (map (in_row second)) (take_all i others (omega arith))

pub members_alike : (rows more : ℕ) (ps qs ones others : List ColumnData) (a b : StructRows) → struct_rows rows ps ≡ a → struct_rows more qs ≡ b → ones ≡ ps → others ≡ qs → b.members ≡ a.members → members_in others ≡ members_in ones
members_alike rows more ps qs ones others a b view other e f same =
    ap members_in f ∙ ap (λ (s : StructRows). s.members) other ∙ same ∙ sym (ap (λ (s : StructRows). s.members) view) ∙ sym (ap members_in e)

-- ---- a slot of two

pub buffers_agree : {X : Type 0} (f : X → Datum) (one two : Buffers) (xs ys : List X) (row second : ℕ) (x y : X) → buffer_values one ≡ map f xs → buffer_values two ≡ map f ys → slice_get xs row ≡ Some x → slice_get ys second ≡ Some y → x ≡ y → slice_get (buffer_values one) row ≡ slice_get (buffer_values two) second
buffers_agree f one two xs ys row second x y e g h l same =
    ap (λ (vs : List Datum). slice_get vs row) e ∙ get_map f xs row x h ∙ ap (λ z. Some (f z)) same ∙ sym (get_map f ys second y l) ∙ sym (ap (λ (vs : List Datum). slice_get vs second) g)

pub agree_buffers : {X : Type 0} (f : X → Datum) → ((x y : X) → f x ≡ f y → x ≡ y) → (one two : Buffers) (xs ys : List X) (row second : ℕ) (x y : X) → buffer_values one ≡ map f xs → buffer_values two ≡ map f ys → slice_get xs row ≡ Some x → slice_get ys second ≡ Some y → slice_get (buffer_values one) row ≡ slice_get (buffer_values two) second → x ≡ y
agree_buffers f back one two xs ys row second x y e g h l same =
    back x y (same_Some (f x) (f y) (sym (get_map f xs row x h) ∙ sym (ap (λ (vs : List Datum). slice_get vs row) e) ∙ same ∙ ap (λ (vs : List Datum). slice_get vs second) g ∙ get_map f ys second y l))

pub texts_back : (x y : List ℕ) → text x ≡ text y → x ≡ y
texts_back x y e = cc

pub truths_back : (x y : Bool) → truth x ≡ truth y → x ≡ y
truths_back x y e = cc

pub structs_back : (x y : Items) → structure x ≡ structure y → x ≡ y
structs_back x y e = cc

pub structs_agree : (one two : Buffers) (xs ys : List Items) (row second : ℕ) → buffer_values one ≡ map structure xs → buffer_values two ≡ map structure ys → row < length xs → second < length ys → slice_get xs row ≡ slice_get ys second → slice_get (buffer_values one) row ≡ slice_get (buffer_values two) second
structs_agree one two xs ys row second e g lt lu same =
    let a = there_in xs row lt in
    let b = there_in ys second lu in
    buffers_agree structure one two xs ys row second a.0 b.0 e g a.1 b.1 (same_Some a.0 b.0 (sym a.1 ∙ same ∙ b.1))

pub agree_structs : (one two : Buffers) (xs ys : List Items) (row second : ℕ) → buffer_values one ≡ map structure xs → buffer_values two ≡ map structure ys → row < length xs → second < length ys → slice_get (buffer_values one) row ≡ slice_get (buffer_values two) second → slice_get xs row ≡ slice_get ys second
agree_structs one two xs ys row second e g lt lu same =
    let a = there_in xs row lt in
    let b = there_in ys second lu in
    a.1 ∙ ap (λ (z : Items). Some z) (agree_buffers structure structs_back one two xs ys row second a.0 b.0 e g a.1 b.1 same) ∙ sym b.1

pub not_true : (b : Bool) → IsTrue (not b) → b ≡ false
not_true true t = absurd cc
not_true false t = refl

pub true_not : (b : Bool) → b ≡ false → IsTrue (not b)
true_not b e = ap not e

pub beq_same : (x y : Bool) → IsTrue (beq x y) → x ≡ y
beq_same true true t = refl
beq_same true false t = absurd cc
beq_same false true t = absurd cc
beq_same false false t = refl

pub same_beq : (x y : Bool) → x ≡ y → IsTrue (beq x y)
same_beq true true e = refl
same_beq true false e = absurd cc
same_beq false true e = absurd cc
same_beq false false e = refl
