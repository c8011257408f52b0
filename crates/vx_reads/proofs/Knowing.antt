-- What is known at each selected row: of rows one behind another, of the values of a column, and of those that codes look up.
use Rattle.std.proofs.Common.{◌≡◌, ℕ, suc, ◌+◌, ◌<◌, inl, inr, pos, negsuc, Bool, true, false, List, [], ◌∷◌, ◌++◌, Option, Some, None, map, length, replicate, refl, sym, ap, subst, arith}
use Rattle.std.specs.Prelude.{is_some, option_and_then, IsSome}
use Rattle.std.specs.List.{slice_get}
use Rattle.vx_base.specs.Columns.{ColumnData}
use Rattle.vx_base.specs.Data.{DataType, Datum, null, truth, number, text, structure}
use Rattle.vx_expr.specs.Terms.{Term}
use Rattle.vx_rows.specs.Derivations.{look_up}
use Rattle.vx_rows.specs.SegmentLeaves.{Bytes}
use Rattle.vx_picking.specs.RowFaults.{root_meaning}
use Rattle.vx_picking.specs.Rows.{rows_of, selects_some, AreOf}
use Rattle.vx_reads.specs.Computed.{row_value, RowsBy}
use Rattle.vx_reads.specs.Filtered.{IsKnownAt}
use Rattle.vx_reads.specs.Projected.{row_meaning}
use Rattle.vx_reads.specs.Truths.{AreLookedUp, AreWorth, EachRow, IsKnown}
use Rattle.vx_reads.proofs.Filtering.{meaning_at}

-- ---- each selected row

pub each_none : (P : ℕ → Type 0) (start : ℕ) (bits : List Bool) → selects_some bits ≡ false → EachRow P start bits
each_none P start [] none = tt
each_none P start (true ∷ bits) none = absurd cc
each_none P start (false ∷ bits) none = each_none P (start + 1) bits none

pub each_up : (P Q : ℕ → Type 0) → ((row : ℕ) → Q row → P row) → (start : ℕ) (bits : List Bool) → EachRow Q start bits → EachRow P start bits
each_up P Q up start [] each = tt
each_up P Q up start (true ∷ bits) each = (up start each.0, each_up P Q up (start + 1) bits each.1)
each_up P Q up start (false ∷ bits) each = each_up P Q up (start + 1) bits each

pub each_append : (P : ℕ → Type 0) (start next : ℕ) (xs ys : List Bool) → next ≡ start + length xs → EachRow P start xs → EachRow P next ys → EachRow P start (xs ++ ys)
each_append P start next [] ys is first second =
    let same : next ≡ start = omega arith in
    subst (λ (k : ℕ). EachRow P k ys) same second
each_append P start next (true ∷ xs) ys is first second = (first.0, each_append P (start + 1) next xs ys (omega arith) first.1 second)
each_append P start next (false ∷ xs) ys is first second = each_append P (start + 1) next xs ys (omega arith) first second

-- the same rows, counted from other first ones
pub each_shift : (P Q : ℕ → Type 0) (a b : ℕ) (bits : List Bool) → ((i : ℕ) → i < length bits → Q (b + i) → P (a + i)) → EachRow Q b bits → EachRow P a bits
each_shift P Q a b [] up each = tt
each_shift P Q a b (true ∷ bits) up each = (here, each_shift P Q (a + 1) (b + 1) bits later each.1)
  where
    here : P a
    here =
        let from : b ≡ b + 0 = omega arith in
        let to : a + 0 ≡ a = omega arith in
        subst P to (up 0 (omega arith) (subst Q from each.0))

    later : (i : ℕ) → i < length bits → Q (b + 1 + i) → P (a + 1 + i)
    later i lt q =
        let from : b + 1 + i ≡ b + suc i = omega arith in
        let to : a + suc i ≡ a + 1 + i = omega arith in
        subst P to (up (suc i) (omega arith) (subst Q from q))
each_shift P Q a b (false ∷ bits) up each = each_shift P Q (a + 1) (b + 1) bits later each
  where
    later : (i : ℕ) → i < length bits → Q (b + 1 + i) → P (a + 1 + i)
    later i lt q =
        let from : b + 1 + i ≡ b + suc i = omega arith in
        let to : a + suc i ≡ a + 1 + i = omega arith in
        subst P to (up (suc i) (omega arith) (subst Q from q))

-- ---- rows that are worked out

pub sparse_worth : (f : ℕ → Option Datum) (start : ℕ) (mask : List Bool) (values : List Datum) → AreOf f (rows_of start mask) values → AreWorth f start mask
sparse_worth f start [] values are = tt
sparse_worth f start (true ∷ mask) [] are = absurd cc
sparse_worth f start (true ∷ mask) (v ∷ values) are =
    let here : f start ≡ Some v = cc in
    let more : AreOf f (rows_of (start + 1) mask) values = cc in
    (ap is_some here, sparse_worth f (start + 1) mask values more)
sparse_worth f start (false ∷ mask) values are = sparse_worth f (start + 1) mask values are

worth_at_all : (f : ℕ → Option Datum) (start : ℕ) (mask : List Bool) (values : List Datum) → AreOf f (rows_of start (replicate (length mask) true)) values → AreWorth f start mask
worth_at_all f start [] values are = tt
worth_at_all f start (true ∷ mask) [] are = absurd cc
worth_at_all f start (true ∷ mask) (v ∷ values) are =
    let here : f start ≡ Some v = cc in
    let more : AreOf f (rows_of (start + 1) (replicate (length mask) true)) values = cc in
    (ap is_some here, worth_at_all f (start + 1) mask values more)
worth_at_all f start (false ∷ mask) [] are = absurd cc
worth_at_all f start (false ∷ mask) (v ∷ values) are =
    let more : AreOf f (rows_of (start + 1) (replicate (length mask) true)) values = cc in
    worth_at_all f (start + 1) mask values more

pub dense_worth : (f : ℕ → Option Datum) (start : ℕ) (mask every : List Bool) (values : List Datum) → every ≡ replicate (length mask) true → AreOf f (rows_of start every) values → AreWorth f start mask
dense_worth f start mask every values all are = worth_at_all f start mask values (subst (λ (bits : List Bool). AreOf f (rows_of start bits) values) all are)

pub known_worth : (f : Datum → Option Datum) (value : Option Datum) → IsSome (option_and_then f value) → IsKnown f value
known_worth f None worth = absurd cc
known_worth f (Some v) worth = inr worth

-- where an expression is worth something there is a value
pub rows_known : (bytes : Bytes) (r : RowsBy) (t : DataType) (e : Term) (start : ℕ) (bits : List Bool) → AreWorth (row_meaning bytes r t e) start bits → EachRow (IsKnownAt bytes r t e) start bits
rows_known bytes r t e start bits worth =
    each_up (IsKnownAt bytes r t e) (λ (row : ℕ). IsSome (row_meaning bytes r t e row)) (λ row. known_worth (root_meaning t e) (row_value bytes r row)) start bits worth

-- ---- rows that are looked up

-- what is looked up in the values is known, where something is in what they are worth
looked_known : (f : Datum → Option Datum) (vs ws : List Datum) (code out : Datum) → map f vs ≡ map Some ws → look_up ws code ≡ Some out → IsKnown f (look_up vs code)
looked_known f vs ws null out are found = inl refl
looked_known f vs ws (number (pos place)) out are found = known_worth f (slice_get vs place) (ap is_some (meaning_at f vs ws place out are found))
looked_known f vs ws (number (negsuc n)) out are found = absurd cc
looked_known f vs ws (truth b) out are found = absurd cc
looked_known f vs ws (text bytes) out are found = absurd cc
looked_known f vs ws (structure items) out are found = absurd cc

looked_rows : (f : Datum → Option Datum) (vs ws : List Datum) → map f vs ≡ map Some ws → (code_at : ℕ → Option Datum) (start : ℕ) (mask : List Bool) (codes outs : List Datum) → AreOf code_at (rows_of start mask) codes → map (look_up ws) codes ≡ map Some outs → EachRow (λ row. IsKnown f (option_and_then (look_up vs) (code_at row))) start mask
looked_rows f vs ws are code_at start [] codes outs coded found = tt
looked_rows f vs ws are code_at start (true ∷ mask) [] outs coded found = absurd cc
looked_rows f vs ws are code_at start (true ∷ mask) (code ∷ codes) [] coded found = absurd cc
looked_rows f vs ws are code_at start (true ∷ mask) (code ∷ codes) (out ∷ outs) coded found =
    let here : code_at start ≡ Some code = cc in
    let more : AreOf code_at (rows_of (start + 1) mask) codes = cc in
    let first : look_up ws code ≡ Some out = cc in
    let others : map (look_up ws) codes ≡ map Some outs = cc in (
      subst (λ (o : Option Datum). IsKnown f (option_and_then (look_up vs) o)) (sym here) (looked_known f vs ws code out are first),
      looked_rows f vs ws are code_at (start + 1) mask codes outs more others,
    )
looked_rows f vs ws are code_at start (false ∷ mask) codes outs coded found = looked_rows f vs ws are code_at (start + 1) mask codes outs coded found

pub codes_known : (values : ColumnData) (e : Term) (ws : List Datum) → map (root_meaning values.dtype e) values.values ≡ map Some ws → (code_at : ℕ → Option Datum) (start : ℕ) (mask : List Bool) (codes outs : List Datum) → AreOf code_at (rows_of start mask) codes → map (look_up ws) codes ≡ map Some outs → AreLookedUp values e code_at start mask
codes_known values e ws are code_at start mask codes outs coded found =
    looked_rows (root_meaning values.dtype e) values.values ws are code_at start mask codes outs coded found
