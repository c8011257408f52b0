use Rattle.std.proofs.Common.{◌≡◌, ◌+◌, ◌*◌, ◌<◌, Bool, List, length, subst, arith}
use Rattle.std.specs.Prelude.{IfOk}
use Rattle.std.proofs.lemmas.Nat.{div_below}
use Rattle.vx_steps.specs.Pruned.{rows_pruned}
use Rattle.vx_steps.proofs.PrunedRows.{row_noted, row_passed, rows_noted}
use Rattle.vx_steps.proofs.pruned.rows_pruned.Goals.{then-value+in_ok-push, else-value}
use Rattle.vx_steps.proofs.pruned.rows_pruned.Goals as goal

pub value-requires-then-value : goal.value-requires-then-value
value-requires-then-value c =
    let row : c.args.start + c.loop-row.row < length c.args.pruned.now * c.args.zone_len = omega (arith, c.requires.zoned, c.loop-row-test.true, c.len-row-end.ensures) in
    div_below (c.args.start + c.loop-row.row) c.args.zone_len (length c.args.pruned.now) c.requires.some_rows row

pub loop-row-preserved : goal.loop-row-preserved
loop-row-preserved c =
    let all : List Bool = rows_pruned c.args.pruned.now c.args.zone_len c.args.start c.args.mask.now in
    elim c.if-value.branch [
      | then-value+in_ok-push w ↦ rw w.rows-is (row_noted c.args.pruned.now c.args.zone_len c.args.start c.loop-row.row c.args.mask.now c.loop-row.rows.items w.push.new.self.items all w.value-then-value.result w.if-value.ensures w.value-then-value.ensures c.loop-row.invariant w.in_ok-push.ensures.items)
      | else-value w ↦ rw w.rows-is (row_passed c.args.pruned.now c.args.zone_len c.args.start c.loop-row.row c.args.mask.now c.loop-row.rows.items all w.if-value.ensures c.loop-row.invariant)
    ]

pub returns : goal.returns
returns c =
    let same : c.loop-row.rows.items ≡ rows_pruned c.args.pruned.now c.args.zone_len c.args.start c.args.mask.now = rows_noted c.args.pruned.now c.args.zone_len c.args.start c.loop-row.row c.args.mask.now c.loop-row.rows.items (rows_pruned c.args.pruned.now c.args.zone_len c.args.start c.args.mask.now) (omega (arith, c.loop-row-test.false, c.len-row-end.ensures)) c.loop-row.invariant in
    let F : List Bool → Type 0 = λ bits. IfOk c.of.result (λ rows. rows ≡ bits) in
    subst F same c.of.ensures
