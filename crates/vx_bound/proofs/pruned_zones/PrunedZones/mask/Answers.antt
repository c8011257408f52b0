use Rattle.vx_bound.specs.declared.pruned_zones.BoundMask.{BoundMask}
use Rattle.vx_bound.proofs.MaskRights.{mask_gives, made_gives}
use Rattle.vx_bound.proofs.pruned_zones.PrunedZones.mask.Goals as goal

pub returns-in-Ok-Some-clause-mask : goal.returns-in-Ok-Some-clause-mask
returns-in-Ok-Some-clause-mask c =
    let made : BoundMask = record { mask = c.in-Ok-Some.mask; key = c.load-key.result } in
    mask_gives c.args.self.now.table c.args.self.now.predicate c.load-key.new.seat made c.load-key.ensures.answered.seen (rw c.in-Ok-Some.field-0-is at c.in-Ok-Some.ensures.right)

pub returns-in-Ok-None-clause-mask : goal.returns-in-Ok-None-clause-mask
returns-in-Ok-None-clause-mask c = made_gives c.args.self.now.table c.args.self.now.predicate c.load-key.new.seat c.load-key.result c.prune_at.result c.load-key.ensures.answered.seen c.prune_at.ensures.key c.prune_at.ensures.mask
