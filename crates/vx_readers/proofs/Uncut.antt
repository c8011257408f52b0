-- Rows that are cut off the front of a column in pieces.
use Rattle.std.proofs.Common.{◌≡◌, ℕ, zero, suc, ◌+◌, ◌-◌, ◌<◌, ◌≤◌, ◌⊎◌, inl, inr, List, [], ◌∷◌, ◌++◌, Option, Some, None, length, get_or, take, drop, refl, sym, ap, ◌∙◌, subst, arith, append_assoc, append-nil}
use Rattle.std.specs.Prelude.{slice_range, IsSomeAnd}
use Rattle.std.specs.List.{slice_get, AllByRecursion}
use Rattle.std.proofs.lemmas.Bool.{cases_lt}
use Rattle.std.proofs.lemmas.Grind.{flat_map-append}
use Rattle.std.proofs.lemmas.List.{drop-append-le, drop-drop, drop_all, length-append, length-drop, length-take, take-append-drop, take-append-le, take_all}
use Rattle.std.proofs.lemmas.Option.{slice_get-get_or, slice_get_within}
use Rattle.vx_base.specs.Columns.{ColumnData}
use Rattle.vx_base.specs.Data.{Datum}
use Rattle.vx_picking.proofs.MaskRanges.{all_pushed}
use Rattle.vx_picking.proofs.SelectedRows.{drop_at}
use Rattle.vx_reads.specs.Computed.{values_in}

-- ---- past a piece

past : (xs ys : List Datum) (k : ℕ) → length xs ≤ k → drop (k - length xs) ys ≡ drop k (xs ++ ys)
past [] ys k le = ap (λ (n : ℕ). drop n ys) (omega arith)
past (x ∷ xs) ys zero le = absurd (omega arith)
past (x ∷ xs) ys (suc k) le =
    let same : suc k - length (x ∷ xs) ≡ k - length xs = omega arith in
    ap (λ (n : ℕ). drop n ys) same ∙ past xs ys k (omega arith)

values_at : (parts : List ColumnData) (place : ℕ) (part : ColumnData) → slice_get parts place ≡ Some part → values_in (drop place parts) ≡ part.values ++ values_in (drop (place + 1) parts)
values_at parts place part at = ap values_in (drop_at parts place part at)

-- The row behind so many, of the pieces from a place on, is the one behind so many of those from the other place on.
pub record PassesTo (parts : List ColumnData) (first before place used : ℕ) : Type 0 where
  pub same : drop used (values_in (drop place parts)) ≡ drop before (values_in (drop first parts))
  pub some : used < length (values_in (drop place parts))

pub passes_none : (parts : List ColumnData) (first before : ℕ) → before < length (values_in (drop first parts)) → PassesTo parts first before first before
passes_none parts first before some = record { same = refl; some = some }

passes_more : (parts : List ColumnData) (first before place used left : ℕ) (part : ColumnData) → slice_get parts place ≡ Some part → length part.values ≤ used → left ≡ used - length part.values → PassesTo parts first before place used → PassesTo parts first before (place + 1) left
passes_more parts first before place used left part at le is passes =
    let values : values_in (drop place parts) ≡ part.values ++ values_in (drop (place + 1) parts) = values_at parts place part at in
    record {
      same = ap (λ (n : ℕ). drop n (values_in (drop (place + 1) parts))) is ∙ past part.values (values_in (drop (place + 1) parts)) used le ∙ ap (drop used) (sym values) ∙ passes.same;
      some = omega (arith, passes.some, ap length values, length-append part.values (values_in (drop (place + 1) parts)));
    }

-- rows are left, so that a piece is
pub piece_left : (parts : List ColumnData) (place used : ℕ) → used < length (values_in (drop place parts)) → place < length parts
piece_left parts place used some = by (cases_lt place (length parts))
  where
    by : (place < length parts) ⊎ (length parts ≤ place) → place < length parts
    by (inl lt) = lt
    by (inr le) =
        let none : length (values_in (drop place parts)) ≡ 0 = ap (λ (ps : List ColumnData). length (values_in ps)) (drop_all place parts le) in
        absurd (omega arith)

part_at : (parts : List ColumnData) (place used : ℕ) (part : ColumnData) → part ≡ get_or parts place part → used < length (values_in (drop place parts)) → slice_get parts place ≡ Some part
part_at parts place used part is some = slice_get-get_or parts place part (piece_left parts place used some) ∙ ap Some (sym is)

-- the piece at the place is passed, of which so many rows were asked for twice
pub passes_by : (parts : List ColumnData) (first before place used rows : ℕ) (tested part : ColumnData) → tested ≡ get_or parts place tested → part ≡ get_or parts place part → length tested.values ≤ used → rows ≡ length part.values → PassesTo parts first before place used → PassesTo parts first before (place + 1) (used - rows)
passes_by parts first before place used rows tested part is_tested is le counted passes =
    let one : slice_get parts place ≡ Some tested = part_at parts place used tested is_tested passes.some in
    let two : slice_get parts place ≡ Some part = part_at parts place used part is passes.some in
    let same : tested ≡ part = cc in
    let few : length part.values ≤ used = subst (λ (p : ColumnData). length p.values ≤ used) same le in
    let left : used - rows ≡ used - length part.values = ap (λ (n : ℕ). used - n) counted in
    passes_more parts first before place used (used - rows) part two few left passes

pub piece_here : (parts : List ColumnData) (first before place used rows : ℕ) (part : ColumnData) → part ≡ get_or parts place part → rows ≡ length part.values → used < rows → PassesTo parts first before place used → IsSomeAnd (slice_get parts place) (λ p. used < length p.values)
piece_here parts first before place used rows part is counted more passes =
    let lt : used < length part.values = omega arith in
    subst (λ (o : Option ColumnData). IsSomeAnd o (λ p. used < length p.values)) (sym (part_at parts place used part is passes.some)) lt

-- ---- a part of a piece

cut_front : (xs ys : List Datum) (a b c : ℕ) → a + b ≡ c → c ≤ length xs → take b (drop a xs) ++ drop c (xs ++ ys) ≡ drop a (xs ++ ys)
cut_front xs ys a b c is inside =
    let front : drop a (xs ++ ys) ≡ drop a xs ++ ys = drop-append-le a xs ys (omega arith) in
    let behind : drop c (xs ++ ys) ≡ drop c xs ++ ys = drop-append-le c xs ys inside in
    let both : drop b (drop a xs) ≡ drop c xs = drop-drop b a xs ∙ ap (λ (n : ℕ). drop n xs) is in
    ap (λ (vs : List Datum). take b (drop a xs) ++ vs) (behind ∙ ap (λ (vs : List Datum). vs ++ ys) (sym both))
    ∙ sym (append_assoc (take b (drop a xs)) (drop b (drop a xs)) ys)
    ∙ ap (λ (vs : List Datum). vs ++ ys) (take-append-drop b (drop a xs))
    ∙ sym front

part_rows : (xs : List Datum) (a b c : ℕ) → a + b ≡ c → slice_range xs a c ≡ take b (drop a xs)
part_rows xs a b c is =
    let many : c - a ≡ b = omega arith in
    ap (λ (n : ℕ). take n (drop a xs)) many

-- so many rows of it, from a row on
pub piece_cut : (parts : List ColumnData) (place used rows end : ℕ) (part : ColumnData) → slice_get parts place ≡ Some part → used + rows ≡ end → end ≤ length part.values → slice_range part.values used end ++ drop end (values_in (drop place parts)) ≡ drop used (values_in (drop place parts))
piece_cut parts place used rows end part at is inside =
    let values : values_in (drop place parts) ≡ part.values ++ values_in (drop (place + 1) parts) = values_at parts place part at in
    subst (λ (vs : List Datum). slice_range part.values used end ++ drop end vs ≡ drop used vs) (sym values)
    (ap (λ (vs : List Datum). vs ++ drop end (part.values ++ values_in (drop (place + 1) parts))) (part_rows part.values used rows end is)
    ∙ cut_front part.values (values_in (drop (place + 1) parts)) used rows end is inside)

some_there : (xs : List ColumnData) (place : ℕ) (P : ColumnData → Type 0) → IsSomeAnd (slice_get xs place) P → place < length xs
some_there xs place P some = by (slice_get xs place) refl some
  where
    by : (o : Option ColumnData) → slice_get xs place ≡ o → IsSomeAnd o P → place < length xs
    by None at some = absurd some
    by (Some x) at some = slice_get_within xs place x at

-- the piece at the place has more rows than so many
pub piece_long : (parts slice : List ColumnData) (place used : ℕ) (part : ColumnData) → slice ≡ parts → IsSomeAnd (slice_get slice place) (λ p. used < length p.values) → part ≡ get_or parts place part → used < length part.values
piece_long parts slice place used part whole there is =
    let here : IsSomeAnd (slice_get parts place) (λ p. used < length p.values) = subst (λ (ps : List ColumnData). IsSomeAnd (slice_get ps place) (λ p. used < length p.values)) whole there in
    let at : slice_get parts place ≡ Some part = slice_get-get_or parts place part (some_there parts place (λ p. used < length p.values) here) ∙ ap Some (sym is) in
    subst (λ (o : Option ColumnData). IsSomeAnd o (λ p. used < length p.values)) at here

-- what is cut off, and the rows behind it
pub piece_off : (parts slice : List ColumnData) (first before place used rows : ℕ) (part piece : ColumnData) (all : List Datum) → slice ≡ parts → IsSomeAnd (slice_get slice place) (λ p. used < length p.values) → part ≡ get_or parts place part → drop used (values_in (drop place slice)) ≡ drop before (values_in (drop first slice)) → used + rows ≤ length part.values →
    piece.values ≡ slice_range part.values used (used + rows) → drop before (values_in (drop first parts)) ≡ all → piece.values ++ drop (used + rows) (values_in (drop place parts)) ≡ all
piece_off parts slice first before place used rows part piece all whole there is same inside values left =
    let lt : place < length parts = subst (λ (ps : List ColumnData). place < length ps) whole (some_there slice place (λ p. used < length p.values) there) in
    let at : slice_get parts place ≡ Some part = slice_get-get_or parts place part lt ∙ ap Some (sym is) in
    let here : drop used (values_in (drop place parts)) ≡ drop before (values_in (drop first parts)) = subst (λ (ps : List ColumnData). drop used (values_in (drop place ps)) ≡ drop before (values_in (drop first ps))) whole same in
    ap (λ (vs : List Datum). vs ++ drop (used + rows) (values_in (drop place parts))) values ∙ piece_cut parts place used rows (used + rows) part at refl inside ∙ here ∙ left

pub piece_rows : (xs : List Datum) (used rows end : ℕ) → used + rows ≡ end → end ≤ length xs → length (slice_range xs used end) ≡ rows
piece_rows xs used rows end is inside = ap length (part_rows xs used rows end is) ∙ omega (arith, length-take rows (drop used xs), length-drop used xs)

-- ---- pieces one after another

-- The pieces are the first rows of the whole column, and so many of the count are left.
pub record CutsOff (whole now : ColumnData) (pieces : List ColumnData) (count left : ℕ) : Type 0 where
  pub values : values_in pieces ++ now.values ≡ whole.values
  pub rows : length (values_in pieces) + left ≡ count
  pub dtypes : AllByRecursion (λ part. part.dtype ≡ whole.dtype) pieces
  pub same : now.dtype ≡ whole.dtype

pub cuts_none : (whole : ColumnData) (pieces : List ColumnData) (count : ℕ) → pieces ≡ [] → CutsOff whole whole pieces count count
cuts_none whole pieces count none =
    let P : List ColumnData → Type 0 = λ ps. CutsOff whole whole ps count count in
    let empty : P [] = record { values = refl; rows = omega arith; dtypes = tt; same = refl } in
    subst P (sym none) empty

pub cuts_inside : (whole now : ColumnData) (pieces : List ColumnData) (count left : ℕ) → count ≤ length whole.values → CutsOff whole now pieces count left → left ≤ length now.values
cuts_inside whole now pieces count left inside cuts = omega (arith, cuts.rows, ap length cuts.values, length-append (values_in pieces) now.values)

pub cuts_more : (whole now next piece : ColumnData) (pieces more : List ColumnData) (count left rest : ℕ) → more ≡ pieces ++ piece ∷ [] → piece.dtype ≡ now.dtype → next.dtype ≡ now.dtype → length piece.values + rest ≡ left → piece.values ++ next.values ≡ now.values → CutsOff whole now pieces count left → CutsOff whole next more count rest
cuts_more whole now next piece pieces more count left rest pushed typed same counted cut cuts =
    let one : values_in (piece ∷ []) ≡ piece.values = append-nil piece.values in
    let values : values_in more ≡ values_in pieces ++ piece.values = ap values_in pushed ∙ flat_map-append (λ (p : ColumnData). p.values) pieces (piece ∷ []) ∙ ap (λ (vs : List Datum). values_in pieces ++ vs) one in
    record {
      values = ap (λ (vs : List Datum). vs ++ next.values) values ∙ append_assoc (values_in pieces) piece.values next.values ∙ ap (λ (vs : List Datum). values_in pieces ++ vs) cut ∙ cuts.values;
      rows = omega (arith, cuts.rows, counted, ap length values, length-append (values_in pieces) piece.values);
      dtypes = subst (AllByRecursion (λ (part : ColumnData). part.dtype ≡ whole.dtype)) (sym pushed) (all_pushed (λ (part : ColumnData). part.dtype ≡ whole.dtype) pieces piece cuts.dtypes (typed ∙ cuts.same));
      same = same ∙ cuts.same;
    }

-- all of them: the first rows, and those that are left
pub cut_rows : (whole now : ColumnData) (pieces : List ColumnData) (count left : ℕ) → left ≤ 0 → CutsOff whole now pieces count left → values_in pieces ≡ take count whole.values
cut_rows whole now pieces count left none cuts =
    let long : length (values_in pieces) ≡ count = omega (arith, cuts.rows) in
    sym (ap (take count) (sym cuts.values) ∙ take-append-le count (values_in pieces) now.values (omega arith) ∙ take_all count (values_in pieces) (omega arith))

pub cut_left : (whole now : ColumnData) (pieces : List ColumnData) (count left : ℕ) → left ≤ 0 → CutsOff whole now pieces count left → now.values ≡ drop count whole.values
cut_left whole now pieces count left none cuts =
    let long : length (values_in pieces) ≡ count = omega (arith, cuts.rows) in
    let gone : drop count (values_in pieces) ≡ [] = drop_all count (values_in pieces) (omega arith) in
    sym (ap (drop count) (sym cuts.values) ∙ drop-append-le count (values_in pieces) now.values (omega arith) ∙ ap (λ (vs : List Datum). vs ++ now.values) gone)
