-- Which files are opened for a command, and what a run over files and standard output may answer. They tell no bytes and no
-- ranges, and each begins with nothing read, asked or written and no fault.
use Rattle.std.specs.Prelude.{ℕ, zero, suc, Bool, true, false, List, [], ◌∷◌, Option, Some, None}
use Rattle.vx_base.specs.FileSources.{IsOpen}
use Rattle.vx_base.specs.Sources.{SourceState}
use Rattle.vx_base.specs.Streams.{ReadState, WriteState}
use Rattle.vx_base.specs.declared.file_sources.FileSource.{FileSource}
use Rattle.scan_commands.specs.Commanded.{have_sources, Runs}
use Rattle.scan_commands.specs.Runs.{LentIo}
use Rattle.scan_words.specs.declared.commands.Command.{Command}
use Rattle.scan_words.specs.declared.commands.Command.TheVariants.{Scan, Read, Tree, Demo}
use Rattle.scan_words.specs.Words.{command_of}

-- how many sources a run is lent
abbrev pub source_count : ℕ
source_count = 8

-- ---- names

-- a name that counts, or none
abbrev pub if_counted : Bool → List ℕ → Option (List ℕ)
if_counted true name = Some name
if_counted false name = None

-- the file of the segments that is opened for a command. For words that ask nothing, and for more workers than there are
-- sources, none is opened
abbrev pub segments_named : Option Command → Option (List ℕ)
segments_named (Some (Scan segments request workers unordered idle)) = if_counted (have_sources workers source_count) segments
segments_named (Some (Read segments request split idle)) = Some segments
segments_named (Some (Tree request)) = None
segments_named (Some (Demo number)) = None
segments_named None = None

-- the file of the request that is opened for it
abbrev pub request_named : Option Command → Option (List ℕ)
request_named (Some (Scan segments request workers unordered idle)) = if_counted (have_sources workers source_count) request
request_named (Some (Read segments request split idle)) = Some request
request_named (Some (Tree request)) = Some request
request_named (Some (Demo number)) = None
request_named None = None

-- ---- files

-- a request of which nothing was read
abbrev pub unread : ReadState
unread = record { rest = None; pieces = []; faults = 0 }

-- a source of which nothing was asked
abbrev pub unasked : SourceState
unasked = record { file = None; asked = None; in_flight = []; faults = 0; idle = 0 }

-- so many of them
abbrev pub are_unasked : ℕ → List SourceState
are_unasked zero = []
are_unasked (suc count) = unasked ∷ are_unasked count

-- the source has no file, so that each read of it fails
abbrev pub HasNoFile : FileSource → Type 0
HasNoFile source = ¬ IsOpen source

-- a sink to which nothing was written
abbrev pub unwritten : WriteState
unwritten = record { written = None; faults = 0 }

-- what a run over files begins with
abbrev pub untouched : LentIo
untouched = record { request = unread; sources = are_unasked source_count; sink = unwritten }

-- the status is the answer to these words, whatever is left behind
pub record IsStatusOf (words : List (List ℕ)) (status : ℕ) : Type 0 where
  pub after : LentIo
  pub runs : Runs (command_of words) status untouched after
