-- What a run does, by what its words ask.
use Rattle.std.specs.Prelude.{◌≡◌, ℕ, ◌⊎◌, min, nat_le, Bool, true, length, take, drop, Option, Some, None}
use Rattle.std.specs.Bool.{MatchBool}
use Rattle.scan_words.specs.declared.commands.Command.{Command}
use Rattle.scan_words.specs.declared.commands.Command.TheVariants.{Scan, Read, Tree, Demo}
use Rattle.vx_base.specs.Sources.{SourceState}
use Rattle.vx_scan.specs.Builders.{default_concurrency}
use Rattle.vx_scan.specs.Lent.{FirstSource}
use Rattle.scan_commands.specs.DemoRuns.{ServesDemo}
use Rattle.scan_commands.specs.PlanRuns.{ServesPlan, IsPlanComplete}
use Rattle.scan_commands.specs.ReadRuns.{LentRead, ServesRead, IsReadComplete}
use Rattle.scan_commands.specs.Runs.{LentIo, without_sources, Serves, IsComplete}
use Rattle.scan_commands.specs.Statuses.{usage_status, memory_status}

-- Nothing was read, asked or written. Want of memory may come in place of the status.
abbrev pub IsRefusedWith : ℕ → ℕ → LentIo → LentIo → Type 0
IsRefusedWith wanted status before after = ((status ≡ wanted) ⊎ (status ≡ memory_status)) × (after ≡ before)

-- so many workers have a source each; where no number is said, there are as many as serve
abbrev pub have_sources : Option ℕ → ℕ → Bool
have_sources None count = true
have_sources (Some workers) count = nat_le workers count

-- how many workers serve: so many as are said, else as many as a scan has pieces in hand where nothing is said of it, or
-- as many as there are sources where those are fewer
abbrev pub workers_of : Option ℕ → ℕ → ℕ
workers_of None count = min default_concurrency count
workers_of (Some workers) count = workers

-- the same with the first so many of the sources
abbrev pub with_first : ℕ → LentIo → LentIo
with_first count lent_io = record { request = lent_io.request; sources = take count lent_io.sources; sink = lent_io.sink }

-- The request was served from the sources of so many workers, and the others were left alone.
pub record ScansBy (workers limit status : ℕ) (before after : LentIo) : Type 0 where
  pub serves : Serves limit status (with_first workers before) (with_first workers after)
  pub complete : IsComplete limit status (with_first workers before) (with_first workers after)
  pub others : drop workers after.sources ≡ drop workers before.sources

-- the same with this source alone
abbrev pub with_source : LentIo → SourceState → LentRead
with_source lent_io source = record { request = lent_io.request; source = source; sink = lent_io.sink }

-- The rows of the request were read from a source.
pub record ReadsBy (limit status : ℕ) (before after : LentRead) : Type 0 where
  pub serves : ServesRead limit status before after
  pub complete : IsReadComplete limit status before after

-- They were read from the first source, and the others were left alone.
abbrev pub ReadsFirst : ℕ → ℕ → LentIo → LentIo → Type 0
ReadsFirst limit status before after = FirstSource (λ old new. ReadsBy limit status (with_source before old) (with_source after new)) before.sources after.sources

-- The plan of the request was written, and no source was asked.
pub record DrawsPlan (status : ℕ) (before after : LentIo) : Type 0 where
  pub serves : ServesPlan status (without_sources before) (without_sources after)
  pub complete : IsPlanComplete status (without_sources before) (without_sources after)
  pub sources : after.sources ≡ before.sources

-- The demo file of so many rows was summed up. No request was read, and none of the lent sources was asked.
pub record RunsDemo (number status : ℕ) (before after : LentIo) : Type 0 where
  pub serves : ServesDemo number status before.sink after.sink
  pub request : after.request ≡ before.request
  pub sources : after.sources ≡ before.sources

-- More workers than sources are at fault.
abbrev pub Obeys : Command → ℕ → LentIo → LentIo → Type 0
Obeys (Scan segments request workers unordered idle) status before after =
    MatchBool (have_sources workers (length before.sources)) (ScansBy (workers_of workers (length before.sources)) idle status before after) (IsRefusedWith usage_status status before after)
Obeys (Read segments request split idle) status before after = ReadsFirst idle status before after
Obeys (Tree request) status before after = DrawsPlan status before after
Obeys (Demo number) status before after = RunsDemo number status before after

-- words that ask nothing are at fault
abbrev pub Runs : Option Command → ℕ → LentIo → LentIo → Type 0
Runs None status before after = IsRefusedWith usage_status status before after
Runs (Some command) status before after = Obeys command status before after
