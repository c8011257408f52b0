use Rattle.vx_layout.proofs.NameSets.{set_more}
use Rattle.vx_layout.proofs.kept_fields.set_of.Goals as goal

pub loop-name-preserved : goal.loop-name-preserved
loop-name-preserved c = set_more c.args.names.now c.loop-name.name-index c.name-item.result c.as_str.result c.loop-name.seen.keys c.insert.new.self.keys c.loop-name-test.true c.name-item.is c.as_str.ensures.value c.in_ok-insert.ensures.keys c.loop-name.invariant
