-- What a run of the demo promises, by its ending. It reads no request and asks none of the lent sources.
use Rattle.std.specs.Prelude.{◌≡◌, ℕ, ◌⊎◌, ◌++◌, List, length, Some, option_map}
use Rattle.std.specs.List.{All}
use Rattle.vx_base.specs.MemorySources.{memory_state}
use Rattle.vx_base.specs.Sources.{Rose}
use Rattle.vx_base.specs.Streams.{WriteState}
use Rattle.vx_base.specs.declared.memory_sources.MemorySource.{MemorySource}
use Rattle.scan_demo.specs.Summary.{summary}
use Rattle.scan_output.specs.Writing.{WritesFront}
use Rattle.scan_commands.specs.declared.endings.Ending.{Ending}
use Rattle.scan_commands.specs.declared.endings.Ending.TheVariants.{Done, WriteFault, OutOfMemory}
use Rattle.scan_commands.specs.Endings.{status_of}

-- the source tells these bytes
abbrev pub TellsBytes : List ℕ → MemorySource → Type 0
TellsBytes bytes source = (memory_state source).file ≡ Some bytes

-- as many sources as the demo has workers, each of which tells these bytes
pub record AreSourcesOf (bytes : List ℕ) (sources : List MemorySource) : Type 0 where
  pub count : length sources ≡ 4
  pub tell : All (TellsBytes bytes) sources

-- The summary of so many rows was written, or the sink failed behind a front of it, or memory ran out before it or
-- behind a front of it.
abbrev pub Demonstrates : ℕ → Ending → WriteState → WriteState → Type 0
Demonstrates number Done before after =
    (after.written ≡ option_map (λ written. written ++ summary number) before.written) × (after.faults ≡ before.faults)
Demonstrates number WriteFault before after = WritesFront (summary number) before after × Rose before.faults after.faults
Demonstrates number OutOfMemory before after = (after ≡ before) ⊎ (WritesFront (summary number) before after × (after.faults ≡ before.faults))
Demonstrates number ending before after = ⊥

-- the status is that of an ending, and the run ended so
pub record ServesDemo (number status : ℕ) (before after : WriteState) : Type 0 where
  pub ending : Ending
  pub is : status ≡ status_of ending
  pub ends : Demonstrates number ending before after
