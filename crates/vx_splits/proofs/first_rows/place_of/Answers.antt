use Rattle.std.proofs.Common.{arith, Bool, ◌≡◌, ◌+◌, ◌∙◌, suc, Some, ap, sym, subst}
use Rattle.vx_splits.proofs.FirstChunks.{PlaceAhead, place_here, place_true, place_false}
use Rattle.vx_splits.proofs.first_rows.place_of.Goals.{then-value+else-left-eq0, else-value}
use Rattle.vx_splits.proofs.first_rows.place_of.Goals as goal

pub returns-then-left-eq0 : goal.returns-then-left-eq0
returns-then-left-eq0 c =
    place_here c.args.mask.now c.args.rank c.loop-row.row (c.value.ensures ∙ ap (λ (b : Bool). Some b) c.if-value.true)
    (subst (PlaceAhead c.args.mask.now c.args.rank c.loop-row.row) c.if-left-eq0.true c.loop-row.invariant)

pub loop-row-preserved : goal.loop-row-preserved
loop-row-preserved c = elim c.if-value.branch [
  | then-value+else-left-eq0 w ↦
      let nonzero = w.if-left-eq0.false in
      let is = w.left-is in
      let more : c.loop-row.left ≡ suc c.if-value.left = omega (arith, nonzero, is) in
      place_true c.args.mask.now c.args.rank c.loop-row.row c.if-value.left (c.value.ensures ∙ ap (λ (b : Bool). Some b) w.if-value.true)
      (subst (PlaceAhead c.args.mask.now c.args.rank c.loop-row.row) more c.loop-row.invariant)
  | else-value w ↦
      subst (PlaceAhead c.args.mask.now c.args.rank (c.loop-row.row + 1)) (sym w.left-is)
      (place_false c.args.mask.now c.args.rank c.loop-row.row c.loop-row.left (c.value.ensures ∙ ap (λ (b : Bool). Some b) w.if-value.false) c.loop-row.invariant)
]
