use Rattle.vx_outside.specs.ScriptSources.{script_state}
use Rattle.vx_readers_cases.specs.Running.{IsRunning}
use Rattle.vx_readers_cases.proofs.turns.write_turns.Given as goal

abbrev pub invariant-loop-turn : goal.invariant-loop-turn
invariant-loop-turn l = IsRunning l.running (script_state l.source).in_flight
