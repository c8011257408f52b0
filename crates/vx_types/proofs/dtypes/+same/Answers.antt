use Rattle.std.proofs.Common.{◌≡◌, ap, sym, ◌∙◌, arith, rules}
use Rattle.vx_types.specs.Sizes.{members_size}
use Rattle.vx_types.specs.Views.{FieldData, data_type}
use Rattle.vx_types.proofs.Lists.{not_unequal}
use Rattle.vx_types.proofs.Members.{fields_agree, lengths_agree, fields_more, size_at}
use Rattle.vx_types.proofs.dtypes.+same.Goals as goal

pub Fields::same-returns-then-ones-others : goal.Fields::same-returns-then-ones-others
Fields::same-returns-then-ones-others t c = (λ h. absurd cc, λ h. absurd (c.if-ones-others.true (lengths_agree _ _ _ _ c.items-ones.ensures c.items-others.ensures h)))

pub Fields::same-same-requires : goal.Fields::same-same-requires
Fields::same-same-requires t c = (omega (arith, size_at c.items-ones.result.now c.loop-place.place c.index-ones-place.result c.loop-place-test.true c.index-ones-place.is, ap members_size c.items-ones.ensures), tt)

pub Fields::same-returns-then-ne : goal.Fields::same-returns-then-ne
Fields::same-returns-then-ne t c = (λ h. absurd cc, λ h. let agree = fields_agree c.items-ones.result.now c.items-others.result.now _ _ c.loop-place.place c.index-ones-place.result c.index-others-place.result c.items-ones.ensures c.items-others.ensures c.loop-place-test.true c.if-ones-others.false c.index-ones-place.is c.index-others-place.is h in let names : c.index-ones-place.result.name ≡ c.index-others-place.result.name = ap (λ (f : FieldData). f.name) agree in absurd (not_unequal _ _ (c.as_str.ensures.value ∙ names ∙ sym c.as_str-in-loop-place.ensures.value) (sym c.ne.ensures ∙ c.if-ne.true)))

pub Fields::same-returns-then-not-same : goal.Fields::same-returns-then-not-same
Fields::same-returns-then-not-same t c = (λ h. absurd cc, λ h. let agree = fields_agree c.items-ones.result.now c.items-others.result.now _ _ c.loop-place.place c.index-ones-place.result c.index-others-place.result c.items-ones.ensures c.items-others.ensures c.loop-place-test.true c.if-ones-others.false c.index-ones-place.is c.index-others-place.is h in let types : data_type c.index-ones-place.result.dtype ≡ data_type c.index-others-place.result.dtype = ap (λ (f : FieldData). f.dtype) agree in let yes = c.same.ensures.1 types in absurd cc)

pub Fields::same-loop-place-preserved : goal.Fields::same-loop-place-preserved
Fields::same-loop-place-preserved t c = fields_more c.items-ones.result.now c.items-others.result.now c.loop-place.place c.index-ones-place.result c.index-others-place.result c.loop-place-test.true c.if-ones-others.false c.index-ones-place.is c.index-others-place.is (search rules) (search rules) c.loop-place.invariant
