use Rattle.std.proofs.Common.{◌≡◌, false, drop}
use Rattle.vx_outside.specs.ScriptSources.{held_up}
use Rattle.vx_outside.proofs.script_sources.ScriptSource.is_held_up.Given as goal

-- what is found from here on is what is found from the start
abbrev pub invariant-loop-other : goal.invariant-loop-other
invariant-loop-other l = held_up l.self.memory.in_flight.reads l.ticket l.is_held_up (drop l.other-index l.self.script.order.items) ≡ held_up l.self.memory.in_flight.reads l.ticket false l.self.script.order.items
