-- Which two columnar values an operator goes over as a whole, and which it doesn't.
use Rattle.std.proofs.Common.{◌≡◌, sym, subst, inl, inr, ◌∙◌}
use Rattle.vx_types.specs.declared.dtypes.IntKind.{IntKind}
use Rattle.vx_types.specs.declared.dtypes.Nullability.TheVariants.{NonNullable}
use Rattle.vx_types.specs.Data.{int_type}
use Rattle.vx_operators.specs.declared.columnar_values.ColumnarValue.{ColumnarValue}
use Rattle.vx_operators.specs.ColumnarValues.{columnar_type, HoldsTruths, HoldsTexts, HoldsNumbers, AreAlike}

-- numbers of one kind are of no other
one_kind : (left right : ColumnarValue) (kind other : IntKind) → columnar_type left ≡ int_type kind NonNullable → HoldsNumbers other left → HoldsNumbers other right → HoldsNumbers kind right
one_kind left right kind other is h g =
    let both : int_type other NonNullable ≡ int_type kind NonNullable = sym h.0 ∙ is in
    let same : other ≡ kind = cc in
    subst (λ (k : IntKind). HoldsNumbers k right) same g

module _ (left right : ColumnarValue) (no_truths : HoldsTruths left × HoldsTruths right → ⊥) (no_texts : HoldsTexts left × HoldsTexts right → ⊥) where
  -- the left one holds numbers of a kind, and the right one doesn't
  pub unlike_kinds : (kind : IntKind) → columnar_type left ≡ int_type kind NonNullable → (HoldsNumbers kind right → ⊥) → AreAlike left right → ⊥
  unlike_kinds kind is none (inl truths) = no_truths truths
  unlike_kinds kind is none (inr (inl texts)) = no_texts texts
  unlike_kinds kind is none (inr (inr (other, (h, g)))) = none (one_kind left right kind other is h g)

  -- the left one holds numbers of no kind
  pub unlike_none : ((kind : IntKind) → HoldsNumbers kind left → ⊥) → AreAlike left right → ⊥
  unlike_none none (inl truths) = no_truths truths
  unlike_none none (inr (inl texts)) = no_texts texts
  unlike_none none (inr (inr (kind, (h, g)))) = none kind h
