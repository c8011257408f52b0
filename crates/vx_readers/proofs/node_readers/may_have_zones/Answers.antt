use Rattle.std.proofs.Common.{sym, subst}
use Rattle.vx_readers.specs.Begun.{MayHaveZones}
use Rattle.vx_readers.proofs.node_readers.may_have_zones.Goals as goal

pub returns-in-Chunks-clause-some : goal.returns-in-Chunks-clause-some
returns-in-Chunks-clause-some c = λ _. subst MayHaveZones (sym c.in-Chunks.ensures.tree) tt

pub returns-in-Zoned-clause-some : goal.returns-in-Zoned-clause-some
returns-in-Zoned-clause-some c = λ _. subst MayHaveZones (sym c.in-Zoned.ensures.0.tree) tt
