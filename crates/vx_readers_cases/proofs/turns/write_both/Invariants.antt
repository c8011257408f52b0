use Rattle.vx_outside.specs.ScriptSources.{script_state}
use Rattle.vx_readers_cases.specs.Running.{GoTogether}
use Rattle.vx_readers_cases.proofs.turns.write_both.Given as goal

abbrev pub invariant-loop-letter : goal.invariant-loop-letter
invariant-loop-letter l = GoTogether l.both.one l.both.two (script_state l.source).in_flight
