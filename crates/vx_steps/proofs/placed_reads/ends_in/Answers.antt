use Rattle.std.proofs.Common.{Bool, List, MatchOption, subst, arith}
use Rattle.vx_picking.specs.Rows.{SelectsNone}
use Rattle.vx_steps.specs.Placed.{AreEnds}
use Rattle.vx_steps.proofs.Parts.{all_rows_taken}
use Rattle.vx_steps.proofs.placed_reads.ends_in.Goals as goal

pub returns-then-to-len : goal.returns-then-to-len
returns-then-to-len c =
    let F : List Bool → Type 0 = λ bits. MatchOption c.ends_of.result (SelectsNone bits) (AreEnds bits) in
    subst F (all_rows_taken c.args.mask.now c.args.from c.args.to (omega arith) (omega arith)) c.ends_of.ensures
