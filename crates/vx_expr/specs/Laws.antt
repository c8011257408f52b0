-- What holds of expressions, whatever the rows.
use Rattle.std.specs.Prelude.{◌≡◌, ◌<◌, ◌^◌, ◌↔◌, ℕ, pos, IsTrue, IsFalse, IfSome, Some, true}
use Rattle.std.specs.List.{AllByRecursion}
use Rattle.vx_base.specs.Data.{DataType, Datum, null, truth, number, structure, no_items, item}
use Rattle.vx_base.specs.Fits.{Fits}
use Rattle.vx_expr.specs.declared.rewriting.Leaves.TheVariants.{RowIdxAsRoot, OverRowIdx}
use Rattle.vx_expr.specs.Filters.{conjuncts_of}
use Rattle.vx_expr.specs.Meaning.{meaning, is_strict}
use Rattle.vx_expr.specs.Mentions.{uses_root}
use Rattle.vx_expr.specs.Rewritten.{rewritten, with_row_number}
use Rattle.vx_expr.specs.Terms.{Term}
use Rattle.vx_expr.specs.Types.{type_of, row_number_type}

-- what an expression is worth fits its dtype
abbrev pub MeaningFits : Type 0
MeaningFits = (t : DataType) (e : Term) (s : DataType) (bound : ℕ) (v : Datum) (row : ℕ) → type_of t e ≡ Some s → (IsTrue (uses_root e) → Fits t v) → row < 2 ^ 64 → IfSome (meaning t bound e v row) (Fits s)

-- on a null root a strict expression is null or a fault
abbrev pub StrictIsNull : Type 0
StrictIsNull = (t : DataType) (e : Term) (bound row : ℕ) → IsTrue (is_strict e) → IfSome (meaning t bound e null row) (λ w. w ≡ null)

-- an expression is true at a row exactly where each of its conjuncts is
abbrev pub IsTrueAt : DataType → ℕ → Datum → ℕ → Term → Type 0
IsTrueAt t bound v row e = meaning t bound e v row ≡ Some (truth true)

abbrev pub ConjunctsTell : Type 0
ConjunctsTell = (t : DataType) (e : Term) (bound : ℕ) (v : Datum) (row : ℕ) → IsTrueAt t bound v row e ↔ AllByRecursion (IsTrueAt t bound v row) (conjuncts_of e)

-- the row's number as the root value is worth what the row's number was
abbrev pub AsRootKeeps : Type 0
AsRootKeeps = (t : DataType) (e : Term) (bound : ℕ) (v : Datum) (row other : ℕ) → IsFalse (uses_root e) → meaning row_number_type bound (rewritten RowIdxAsRoot e) (number (pos row)) other ≡ meaning t bound e v row

-- over the struct of both an expression is worth what it was
abbrev pub OverRowKeeps : Type 0
OverRowKeeps = (t : DataType) (e : Term) (bound : ℕ) (v : Datum) (row other : ℕ) → meaning (with_row_number t) bound (rewritten OverRowIdx e) (structure (item (number (pos row)) (item v no_items))) other ≡ meaning t bound e v row
