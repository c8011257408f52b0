use Rattle.std.proofs.Common.{◌∙◌, sym}
use Rattle.vx_arrays.proofs.MappedRows.{same_at}
use Rattle.vx_arrays.proofs.primitives.Primitive.same.Goals as goal

pub returns-then-not-same : goal.returns-then-not-same
returns-then-not-same g c = (
  λ h. absurd cc,
  λ h.
      let same = c.as_slice-ones.ensures ∙ h ∙ sym c.as_slice-others.ensures in
      let agree = same_at g.T.Kind.number c.as_slice-ones.result.now c.as_slice-others.result.now c.loop-row.row c.index-ones-row.result c.index-others-row.result c.loop-row-test.true c.if-ones-others.false c.index-ones-row.is c.index-others-row.is same in
      let yes = c.same.ensures.1 agree in
      absurd cc,
)
