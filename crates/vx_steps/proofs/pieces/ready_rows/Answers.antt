use Rattle.std.proofs.Common.{get_or, arith}
use Rattle.vx_steps.proofs.PieceRows.{all_passed, need_there, passed_to}
use Rattle.vx_steps.proofs.pieces.ready_rows.Goals as goal

pub returns-then-next-needs-clause-passed : goal.returns-then-next-needs-clause-passed
returns-then-next-needs-clause-passed c = all_passed c.args.needs.now c.args.rows c.args.next (omega (arith, c.if-next-needs.true))

pub returns-clause-passed : goal.returns-clause-passed
returns-clause-passed c =
    passed_to c.args.needs.now c.args.next (get_or c.args.needs.now c.args.next (record { leaf = 0; segment = 0; from = 0; last = 0 })) c.min.result c.requires.order (need_there c.args.needs.now c.args.next (omega (arith, c.if-next-needs.false))) (omega (arith, c.min.ensures))

pub returns-clause-next : goal.returns-clause-next
returns-clause-next c = λ less. (get_or c.args.needs.now c.args.next (record { leaf = 0; segment = 0; from = 0; last = 0 }), need_there c.args.needs.now c.args.next (omega (arith, c.if-next-needs.false)), omega (arith, c.min.ensures, less))
