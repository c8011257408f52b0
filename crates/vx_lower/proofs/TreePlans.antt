-- A lowered tree with the numbers of a table keeps what the tree says of its rows.
use Rattle.std.proofs.Common.{◌≡◌, ap, map, ◌∙◌}
use Rattle.vx_layout.specs.Kept.{KeptFields}
use Rattle.vx_layout.specs.Sound.{IsSound}
use Rattle.vx_layout.specs.Trees.{Tree, head_of}
use Rattle.vx_base.specs.Names.{HasDistinctNames}
use Rattle.vx_plan.specs.Plans.{Plan, plan_head}
use Rattle.vx_plan.specs.PlanRows.{plan_reads, plan_value}
use Rattle.vx_rows.specs.Reads.{directly}
use Rattle.vx_rows.specs.Renumbered.{read_renumbered}
use Rattle.vx_lower.specs.KeptRows.{MayKeep}
use Rattle.vx_lower.specs.Lowered.{lowered}
use Rattle.vx_lower.specs.Numbered.{numbered}
use Rattle.vx_lower.specs.OldNumbers.{old_number}
use Rattle.vx_lower.specs.TreePlans.{HasTreeReads, HasTreeRows, HasTreeType, HasTreeValues}
use Rattle.vx_lower.proofs.Heads.{lowered_head}
use Rattle.vx_lower.proofs.Lowering.{lowered_values}
use Rattle.vx_lower.proofs.LoweredRows.{lowered_reads}
use Rattle.vx_lower.proofs.OldNumbers.{numbered_alike, numbered_reads, numbered_values}

pub keeps_type : (t : Tree) (kept : KeptFields) (p : Plan) → IsSound t → p ≡ numbered 0 (lowered t kept) → HasTreeType t kept p
keeps_type t kept p sound is = ap (λ (p : Plan). (plan_head p).dtype) is ∙ (numbered_alike 0 0 (lowered t kept)).head.dtype ∙ (lowered_head t kept sound).dtype

pub keeps_rows : (t : Tree) (kept : KeptFields) (p : Plan) → IsSound t → p ≡ numbered 0 (lowered t kept) → HasTreeRows t p
keeps_rows t kept p sound is = ap (λ (p : Plan). (plan_head p).rows) is ∙ (numbered_alike 0 0 (lowered t kept)).head.rows ∙ (lowered_head t kept sound).rows

pub keeps_values : (t : Tree) (kept : KeptFields) (p : Plan) → IsSound t → HasDistinctNames (head_of t).dtype → MayKeep kept (head_of t).dtype → p ≡ numbered 0 (lowered t kept) → HasTreeValues t kept p
keeps_values t kept p sound distinct may is = λ leaves fitting offset row.
    ap (λ (p : Plan). plan_value leaves offset p row) is ∙ numbered_values leaves offset 0 (lowered t kept) row ∙ lowered_values leaves fitting offset t kept row sound distinct may

pub keeps_reads : (t : Tree) (kept : KeptFields) (p : Plan) → IsSound t → p ≡ numbered 0 (lowered t kept) → HasTreeReads t kept p
keeps_reads t kept p sound is = λ offset row.
    ap (λ (p : Plan). map (read_renumbered (old_number 0 (lowered t kept))) (plan_reads offset p row)) is ∙ numbered_reads offset 0 (lowered t kept) row ∙ lowered_reads offset t kept directly row sound
