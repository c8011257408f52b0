use Rattle.vx_outside.specs.ScriptSources.{script_state}
use Rattle.vx_readers_cases.proofs.Sparing.{start_together}
use Rattle.vx_readers_cases.proofs.evaluations.write_two.Goals as goal

pub write_both-requires : goal.write_both-requires
write_both-requires g c =
    start_together c.in-Ok-Some.both.one c.in-Ok-Some.both.two (script_state c.args.source.now).in_flight (rw c.in-Ok-Some.field-0-is at c.in-Ok-Some.ensures.one) (rw c.in-Ok-Some.field-0-is at c.in-Ok-Some.ensures.two)
