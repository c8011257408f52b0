-- What a source whose reads wait at a gate is to its callers.
use Rattle.std.specs.Prelude.{◌≡◌, ℕ, ◌-◌, Bool, false, Result, Ok, Err, Option, IsSome, IfOk}
use Rattle.std.specs.Global.{Vec}
use Rattle.vx_outside.specs.Sources.{SourceState}
use Rattle.vx_outside.specs.MemorySources.{memory_state, tickets_given}
use Rattle.vx_outside.specs.declared.outside.SourceError.{SourceError}
use Rattle.vx_outside.specs.declared.outside.SourceError.TheVariants.{Failed, Memory}
use Rattle.vx_outside.specs.declared.gate_sources.Gate.{Gate}
use Rattle.vx_outside.specs.declared.gate_sources.GateSource.{GateSource}

-- how many requests open the gate
abbrev pub gate_wanted : Gate → ℕ
gate_wanted gate = gate.wanted

-- it is to its callers what the memory source inside it is
abbrev pub gate_state : GateSource → SourceState
gate_state source = memory_state source.memory

-- how many tickets it gave, which is the next one
abbrev pub gate_tickets : GateSource → ℕ
gate_tickets source = tickets_given source.memory

-- how many of its next requests add to the gate
abbrev pub gate_adds : GateSource → ℕ
gate_adds source = source.adds

-- whether its reads wait for the gate
abbrev pub gate_waits : GateSource → Bool
gate_waits source = source.waits

-- a request that ends adds to the gate, and one that lacks memory doesn't
abbrev pub AddsOf : {T : Type 0} → Result T SourceError → ℕ → ℕ → Type 0
AddsOf (Ok value) old new = new ≡ old - 1
AddsOf (Err Failed) old new = new ≡ old - 1
AddsOf (Err Memory) old new = new ≡ old

-- only where its reads wait is nothing found of one
abbrev pub IfItWaits : Bool → Result (Option (Vec ℕ)) SourceError → Type 0
IfItWaits waits result = waits ≡ false → IfOk result (λ bytes. IsSome bytes)
