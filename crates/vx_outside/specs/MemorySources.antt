-- What a source over bytes in memory is to its callers.
use Rattle.std.specs.Prelude.{ℕ, Some}
use Rattle.vx_outside.specs.Sources.{SourceState, without}
use Rattle.vx_outside.specs.Faults.{one_more}
use Rattle.vx_outside.specs.declared.memory_sources.MemorySource.{MemorySource}

-- it tells its file and what was asked
abbrev pub memory_state : MemorySource → SourceState
memory_state source = record {
  file = Some source.file.items;
  asked = Some source.asked.items;
  in_flight = source.in_flight.reads;
  faults = source.faults;
  idle = source.idle;
}

-- how many tickets it gave, which is the next one
abbrev pub tickets_given : MemorySource → ℕ
tickets_given source = source.in_flight.next

-- ---- what one who stands over the source makes of its state

-- a call failed, and no read ended
abbrev pub fault_counted : SourceState → SourceState
fault_counted state = record {
  file = state.file;
  asked = state.asked;
  in_flight = state.in_flight;
  faults = one_more state.faults;
  idle = state.idle;
}

-- the read of the ticket failed
abbrev pub read_failed : ℕ → SourceState → SourceState
read_failed ticket state = record {
  file = state.file;
  asked = state.asked;
  in_flight = without ticket state.in_flight;
  faults = one_more state.faults;
  idle = state.idle;
}

-- a poll found nothing
abbrev pub idle_counted : SourceState → SourceState
idle_counted state = record {
  file = state.file;
  asked = state.asked;
  in_flight = state.in_flight;
  faults = state.faults;
  idle = one_more state.idle;
}
