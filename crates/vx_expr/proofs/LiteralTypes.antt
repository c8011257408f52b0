-- A literal has its dtype where the test of its value holds.
use Rattle.std.proofs.Common.{◌≡◌, Bool, true, false, cond, Some, None, refl, sym, ◌∙◌}
use Rattle.vx_base.specs.declared.dtypes.Nullability.{Nullability}
use Rattle.vx_base.specs.Data.{DataType, Members, Datum}
use Rattle.vx_base.specs.Fits.{Fits}
use Rattle.vx_base.specs.Leaf.{IsLeaf}
use Rattle.vx_base.specs.Reading.{fits_leaf}
use Rattle.vx_base.specs.declared.dtypes.DType.{DType}
use Rattle.vx_base.specs.declared.dtypes.DType.TheVariants as variants
use Rattle.vx_base.specs.Views.{data_type}
use Rattle.vx_base.proofs.Leaves.{fits_passes}
use Rattle.vx_base.proofs.Spelled.{leaf_fits}
use Rattle.vx_expr.specs.Types.{literal_type}

-- what is neither a struct nor a list is a leaf
pub leaf_type : (d : DType) → ((ms : Members) (n : Nullability) → d ≡ variants.Struct ms n → ⊥) → ((t : DataType) (n : Nullability) → d ≡ variants.List t n → ⊥) → IsLeaf (data_type d)
leaf_type (variants.Bool n) s l = tt
leaf_type (variants.Int kind n) s l = tt
leaf_type (variants.Utf8 n) s l = tt
leaf_type (variants.Struct ms n) s l = s ms n refl
leaf_type (variants.List t n) s l = l t n refl

same_answer : (a b : Bool) → (a ≡ true → b ≡ true) → (b ≡ true → a ≡ true) → a ≡ b
same_answer true b h k = sym (h refl)
same_answer false true h k = k refl
same_answer false false h k = refl

-- the test of a leaf dtype is whether the value fits
passes : (t : DataType) (v : Datum) (b : Bool) → IsLeaf t → (b ≡ true → Fits t v) → (Fits t v → b ≡ true) → fits_leaf t v ≡ b
passes t v b l to from = same_answer (fits_leaf t v) b (λ e. from (leaf_fits t v e)) (λ e. fits_passes t v l (to e))

picked : (b : Bool) (t : DataType) → b ≡ true → Some t ≡ cond b (Some t) None
picked true t e = refl
picked false t e = absurd cc

refused : (b : Bool) (t : DataType) → b ≡ false → None ≡ cond b (Some t) None
refused true t e = absurd cc
refused false t e = refl

pub literal_fits : (t : DataType) (v : Datum) (b : Bool) → IsLeaf t → (b ≡ true → Fits t v) → (Fits t v → b ≡ true) → b ≡ true → Some t ≡ literal_type v t
literal_fits t v b l to from e = picked (fits_leaf t v) t (passes t v b l to from ∙ e)

pub literal_fails : (t : DataType) (v : Datum) (b : Bool) → IsLeaf t → (b ≡ true → Fits t v) → (Fits t v → b ≡ true) → b ≡ false → None ≡ literal_type v t
literal_fails t v b l to from e = refused (fits_leaf t v) t (passes t v b l to from ∙ e)
