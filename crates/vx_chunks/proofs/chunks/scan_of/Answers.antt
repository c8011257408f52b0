use Rattle.std.proofs.Common.{◌∙◌, Bool, List, [], ◌∷◌, ◌++◌, ap, refl}
use Rattle.vx_steps.specs.declared.splits.Split.{Split}
use Rattle.vx_drive.specs.Plans.{with_projection}
use Rattle.vx_chunks.proofs.ChunkScanning.{begins, inside_one}
use Rattle.vx_chunks.proofs.WholeRuns.{plans_with}
use Rattle.vx_chunks.proofs.chunks.scan_of.Goals as goal

pub unreachable-requires : goal.unreachable-requires
unreachable-requires c =
    let one = (c.in_ok-push.ensures {u = tt}).items ∙ ap (λ (splits : List Split). splits ++ record { rows = c.args.chosen.now.scope.rows; mask = c.in_ok-copy.field-0 } ∷ []) (c.in_ok-splits.ensures {u = tt}).items
    ∙ ap (λ (mask : List Bool). record { rows = c.args.chosen.now.scope.rows; mask = mask } ∷ []) (c.in_ok-copy.ensures {u = tt}) in
    (c.in-Err-OutOfRange.ensures {u = tt}).refused refl (inside_one (with_projection c.args.plans.now c.args.plan) c.args.chosen.now c.push.new.self.items c.requires.chunk one)

pub returns : goal.returns
returns c =
    let one = (c.in_ok-push.ensures {u = tt}).items ∙ ap (λ (splits : List Split). splits ++ record { rows = c.args.chosen.now.scope.rows; mask = c.in_ok-copy.field-0 } ∷ []) (c.in_ok-splits.ensures {u = tt}).items
    ∙ ap (λ (mask : List Bool). record { rows = c.args.chosen.now.scope.rows; mask = mask } ∷ []) (c.in_ok-copy.ensures {u = tt}) in
    begins (with_projection c.args.plans.now c.args.plan) c.args.chosen.now c.push.new.self.items c.in-Ok.scan c.with_row_offset.result (plans_with c.args.plans.now c.args.plan c.requires.plans c.requires.known) c.keeps_rules.ensures one (c.in-Ok.ensures {u = tt}).scan (c.with_row_offset.ensures.scan (c.in-Ok.ensures {u = tt}).scan.unstarted.started) c.with_row_offset.ensures.told
