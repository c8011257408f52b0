use Rattle.std.proofs.Common.{sym, subst}
use Rattle.std.specs.List.{AllByRecursion}
use Rattle.vx_splits.specs.FirstRows.{IsTight}
use Rattle.vx_splits_cases.proofs.TightChunks.{tight_next, tight_none}
use Rattle.vx_splits_cases.proofs.first_rows.chunks_of.Goals as goal

pub loop-rows-init : goal.loop-rows-init
loop-rows-init c = tight_none c.in_ok-chunks.chunks.items (c.in_ok-chunks.ensures {u = tt}).items

pub loop-rows-preserved-in-Continue-branch-5 : goal.loop-rows-preserved-in-Continue-branch-5
loop-rows-preserved-in-Continue-branch-5 c =
    subst (AllByRecursion IsTight) (sym (c.in_ok-push.ensures {u = tt}).items)
    (tight_next c.args.selection.now (record { file_ordinal = 7; rows = c.in-Some.rows }) c.in_ok-chunk.field-0 c.in-Some-2.chunk c.loop-rows.chunks.items c.loop-rows.invariant (c.in_ok-chunk.ensures {u = tt}).trimmed c.in-Some-2.is)
