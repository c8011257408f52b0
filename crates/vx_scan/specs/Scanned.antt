-- What a scan of a file over the sources that are lent to it gives.
use Rattle.std.specs.Prelude.{◌≡◌, ℕ, ◌<◌, ◌≤◌, nat_lt, Bool, true, ◌⊎◌, List, [], ◌∷◌, ◌++◌, length, map, take, Some, option_map, IsSomeAnd, Result, IfOk, IfErr}
use Rattle.std.specs.List.{slice_get, flat_map, AllByRecursion, AllPairs}
use Rattle.std.specs.Global.{Vec}
use Rattle.vx_base.specs.Columns.{ColumnData}
use Rattle.vx_base.specs.Data.{Datum}
use Rattle.vx_base.specs.declared.locations.AskedRange.{AskedRange}
use Rattle.vx_base.specs.Sources.{SourceState, Rose, RoseBy, range_of}
use Rattle.vx_claims.specs.Apart.{times, times_over}
use Rattle.vx_layout.specs.Rows.{file_leaves, segment_bytes}
use Rattle.vx_lower.specs.Projected.{Projection, scan_reads}
use Rattle.vx_plan.specs.Plans.{Plan, list_plan}
use Rattle.vx_plan.specs.Refs.{number_of}
use Rattle.vx_rows.specs.Derivations.{Leaves}
use Rattle.vx_rows.specs.Reads.{Way, AnyOf, FindsBy, IsAmong, IsIn}
use Rattle.vx_rows.specs.Renumbered.{way_renumbered}
use Rattle.vx_steps.specs.Below.{StandsIn}
use Rattle.vx_drive.specs.declared.errors.ScanError.{ScanError}
use Rattle.vx_drive.specs.declared.errors.ScanError.TheVariants.{Unsupported, NoLocation, ReadFault, Stalled, BadSegment, BadCode, EvalFault, Memory}
use Rattle.vx_drive.specs.Asks.{IsLeftClear, KeepsFaults, Lasts}
use Rattle.vx_drive.specs.Fetched.{AreDistinct}
use Rattle.vx_drive.specs.Plans.{WhereTold, IsQuiet}
use Rattle.vx_chunks.specs.Lent.{EachSource, EachSourceBy, FirstSource, SomeSourceBy, WhereAllTell}
use Rattle.vx_workers.specs.Reasons.{Reason, read_for, chunk_and_segment, taken_by, AreOfOneLeafOnlyBehind}
use Rattle.vx_workers.specs.Workers.{IsLast}
use Rattle.vx_execute.specs.Validating.{direct_and_segment, IsDirectAmong}
use Rattle.vx_scan.specs.Answer.{FileScan, scan_rows, scan_pieces, IsAnswer, ArePieces}
use Rattle.vx_scan.specs.Batches.{ClaimedUpTo, FaultsFrom}
use Rattle.vx_scan.specs.Admission.{Refuses}
use Rattle.vx_scan.specs.Causes.{ScanReaches, ReadsDictionary, ReadsList, LacksLocation, ReadsTorn, ReadsBadCode, FaultsAt}
use Rattle.vx_scan.specs.PlanTexts.{held_tree}
use Rattle.vx_scan.specs.FilePlans.{node_of, IsTakeAs}
use Rattle.vx_scan.specs.Valid.{IsValidScan}
use Rattle.vx_scan.specs.ScanLeaves.{ScanReadsLeaf}

-- ---- what is asked

-- some row of the scan reaches a segment whose location has the range
pub record ReachesRange (scan : FileScan) (range : AskedRange) : Type 0 where
  pub segment : ℕ
  pub reaches : ScanReaches scan.projection (scan_rows scan) segment
  pub location : option_map range_of (slice_get scan.locations segment) ≡ Some range

-- some row reaches the segment that way: directly, or through the values of the outermost dictionary of that number
abbrev pub ScanReachesBy : Way → Projection → List ℕ → ℕ → Type 0
ScanReachesBy way p rows segment = AnyOf (λ row. FindsBy way (IsIn segment) (scan_reads p row)) rows

-- the way in the words of the tree: its take is of that dictionary
abbrev pub way_in : Projection → Way → Way
way_in p way = way_renumbered (node_of p) way

-- which segment is asked for, and for the values of which dictionary: none, where it is reached directly
abbrev pub dictionary_and_segment : Projection → Reason → List (ℕ × ℕ)
dictionary_and_segment p reason = taken_by (way_in p reason.way) reason.segment

-- Why the range was asked for: a row of the chunk's piece reads the leaf and reaches the segment, that way; the
-- segment's location has the range.
pub record IsReasonFor (scan : FileScan) (reason : Reason) (range : AskedRange) : Type 0 where
  pub rows : List ℕ
  pub here : slice_get (scan_pieces scan) reason.chunk ≡ Some rows
  pub reads : ScanReadsLeaf scan.projection rows reason.way (read_for reason)
  pub reaches : ScanReachesBy (way_in scan.projection reason.way) scan.projection rows reason.segment
  pub location : option_map range_of (slice_get scan.locations reason.segment) ≡ Some range

-- there are as many reasons as ranges, each the reason for the range at its place
abbrev pub AreReasonsFor : FileScan → List Reason → List AskedRange → Type 0
AreReasonsFor scan [] [] = Unit {0}
AreReasonsFor scan (reason ∷ reasons) (range ∷ ranges) = IsReasonFor scan reason range × AreReasonsFor scan reasons ranges
AreReasonsFor scan reasons ranges = ⊥

-- The rows of the piece at that place read an outermost dictionary.
abbrev pub PieceReadsDictionary : FileScan → ℕ → Type 0
PieceReadsDictionary scan x = IsSomeAnd (slice_get (scan_pieces scan) x) (ReadsDictionary scan.projection)

-- It may run with values of one that its worker borrows: there are several sources.
abbrev pub PieceMayBorrow : Bool → FileScan → ℕ → Type 0
PieceMayBorrow shares scan x = (shares ≡ true) × PieceReadsDictionary scan x

-- The source gained exactly these ranges, and the scan reaches each of them. Each was asked for a reason of its own. While
-- the source's worker runs, each segment is asked for at most once on account of the values of each outermost dictionary.
-- And on account of each leaf its segment is, unless the piece for which it was asked for before is one of those that
-- ended in a fault of rows with values of a dictionary that the worker borrowed. A source that is alone has no such piece.
pub record Gains (shares : Bool) (scan : FileScan) (reasons : List Reason) (before after : SourceState) : Type 0 where
  pub ranges : List AskedRange
  pub gained : after.asked ≡ option_map (λ asked. asked ++ ranges) before.asked
  pub reached : AllByRecursion (ReachesRange scan) ranges
  pub are_reasons : AreReasonsFor scan reasons ranges
  pub faulted : List ℕ
  pub faulted_are : AllByRecursion (PieceMayBorrow shares scan) faulted
  pub once_a_leaf : AllPairs (AreOfOneLeafOnlyBehind faulted) reasons
  pub once_a_dictionary : AreDistinct (flat_map (dictionary_and_segment scan.projection) reasons)

-- The source gained exactly these ranges again, and the scan reaches each of them: directly for pieces that ran again, each
-- segment once for a piece; and each segment once on account of the values of each outermost dictionary.
pub record GainsAgain (scan : FileScan) (reruns : List ℕ) (before after : SourceState) : Type 0 where
  pub reasons : List Reason
  pub ranges : List AskedRange
  pub gained : after.asked ≡ option_map (λ asked. asked ++ ranges) before.asked
  pub reached : AllByRecursion (ReachesRange scan) ranges
  pub are_reasons : AreReasonsFor scan reasons ranges
  pub direct : AllByRecursion (IsDirectAmong reruns) reasons
  pub once_a_chunk : AreDistinct (flat_map direct_and_segment reasons)
  pub once_a_dictionary : AreDistinct (flat_map (dictionary_and_segment scan.projection) reasons)

-- Each source gained such ranges, for reasons of its own worker; over all sources together a chunk asks for each of its
-- segments at most once. Then the first one gained some again, for pieces that ran again, each of them once; with one
-- source it gained none.
pub record GainsOver (scan : FileScan) (befores afters : List SourceState) : Type 0 where
  pub reasons : List (List Reason)
  pub middles : List SourceState
  pub each : EachSourceBy (Gains (nat_lt 1 (length befores)) scan) reasons befores middles
  pub once_a_chunk : AreDistinct (map chunk_and_segment (flat_map (λ own. own) reasons))
  pub reruns : List ℕ
  pub reruns_once : (x : ℕ) → times x reruns ≤ 1
  pub again : FirstSource (GainsAgain scan reruns) middles afters
  pub alone : length befores ≡ 1 → (afters ≡ middles) × (reruns ≡ [])

-- ---- which plan an error names

-- a list of that number
abbrev pub IsListAs : ℕ → Plan → Type 0
IsListAs n (list_plan head elements offsets validity) = head.number ≡ n
IsListAs n p = ⊥

-- a list of that number stands in the plan of the projection's tree, and some row reads a row of the list that it was
-- lowered from
abbrev pub ReadsListPlan : Projection → List ℕ → ℕ → Type 0
ReadsListPlan p rows number = StandsIn (IsListAs number) (held_tree p) × ReadsList p rows (node_of p number)

-- a take of that number stands in the plan of the projection's tree, where no share does, and some row reads a bad code of
-- the dictionary that it was lowered from, at that row
abbrev pub ReadsBadCodePlan : Leaves → Projection → List ℕ → ℕ → ℕ → Type 0
ReadsBadCodePlan leaves p rows number row = StandsIn (IsTakeAs number) (held_tree p) × ReadsBadCode leaves p rows (node_of p number) row

-- ---- why there are no batches

-- of which files something is claimed: it holds of them all
abbrev pub FileClaims : Type 1
FileClaims = (List ℕ → Type 0) → Type 0

-- Why rows of the scan have none. A plan is named by its number, by which it stands in the plan of the projection's tree;
-- that tells the node that it was lowered from.
abbrev pub CausedIn : FileClaims → FileScan → ℕ → List ℕ → ScanError → SourceState → SourceState → Type 0
CausedIn Told scan limit rows (Unsupported list) before after = ReadsListPlan scan.projection rows (number_of list)
CausedIn Told scan limit rows (NoLocation segment) before after = LacksLocation scan.locations scan.projection rows segment
CausedIn Told scan limit rows ReadFault before after = Rose before.faults after.faults
CausedIn Told scan limit rows Stalled before after = RoseBy limit before.idle after.idle
CausedIn Told scan limit rows (BadSegment segment) before after = Told (λ file. ReadsTorn (segment_bytes file scan.locations) scan.projection rows segment)
CausedIn Told scan limit rows (BadCode take row) before after =
    Told (λ file. ReadsBadCodePlan (file_leaves file scan.locations) scan.projection rows (number_of take) row)
CausedIn Told scan limit rows (EvalFault row) before after = Told (λ file. FaultsAt (file_leaves file scan.locations) scan.projection rows row)
CausedIn Told scan limit rows Memory before after = Unit {0}
CausedIn Told scan limit rows error before after = ⊥

-- by the file that the source tells
abbrev pub CausedBy : FileScan → ℕ → List ℕ → ScanError → SourceState → SourceState → Type 0
CausedBy scan limit rows error before after = CausedIn (WhereTold before) scan limit rows error before after

-- by the file that all sources tell
abbrev pub CausedByAll : FileScan → ℕ → List ℕ → ScanError → List SourceState → SourceState → SourceState → Type 0
CausedByAll scan limit rows error sources before after = CausedIn (WhereAllTell sources) scan limit rows error before after

-- the rows have an answer
abbrev pub HasAnswer : Leaves → Projection → List ℕ → Type 0
HasAnswer leaves p rows = (values : List Datum) × IsAnswer leaves p rows values

-- The worker of a source, alone or one of several, ran the pieces with these numbers: what the source gained is for their
-- rows.
pub record RunsPieces (shares : Bool) (scan : FileScan) (numbers : List ℕ) (before after : SourceState) : Type 0 where
  pub reasons : List Reason
  pub gains : Gains shares scan reasons before after
  pub own : AllByRecursion (λ (reason : Reason). IsAmong reason.chunk numbers) reasons
  pub lasts : Lasts before after

-- The first source was asked again, once all workers were done, for these pieces that ran again. Where a call on it failed,
-- the error is that a read failed.
pub record RunsAgain (scan : FileScan) (reruns : List ℕ) (error : ScanError) (before after : SourceState) : Type 0 where
  pub gains : GainsAgain scan reruns before after
  pub faults : KeepsFaults before after ⊎ (error ≡ ReadFault)
  pub lasts : Lasts before after

-- The piece at the place is the last that the worker of a source ran, and failed there, with its cause. Where a call on the
-- source failed, the error is that a read failed.
pub record FailsPiece (scan : FileScan) (limit : ℕ) (place : ℕ) (rows : List ℕ) (error : ScanError) (numbers : List ℕ) (before after : SourceState) : Type 0 where
  pub last : IsLast place numbers
  pub cause : CausedBy scan limit rows error before after
  pub faults : KeepsFaults before after ⊎ (error ≡ ReadFault)

-- The piece, whose rows read an outermost dictionary, failed on the first source, once all workers were done, with its cause
-- by the file that all sources tell. Where a call on it failed, the error is that a read failed.
pub record FailsPieceAgain (scan : FileScan) (limit : ℕ) (rows : List ℕ) (error : ScanError) (sources : List SourceState) (before after : SourceState) : Type 0 where
  pub reads : ReadsDictionary scan.projection rows
  pub cause : CausedByAll scan limit rows error sources before after
  pub faults : KeepsFaults before after ⊎ (error ≡ ReadFault)

-- No row reads a row of a list, and each segment that one reaches has a location.
pub record AreUnhindered (scan : FileScan) (rows : List ℕ) : Type 0 where
  pub no_list : (list : ℕ) → ReadsList scan.projection rows list → ⊥
  pub located : (segment : ℕ) → ScanReaches scan.projection rows segment → segment < length scan.locations

-- So it is of each of these pieces, but for the last of them.
abbrev pub PiecesUnhinderedButLast : FileScan → List ℕ → Type 0
PiecesUnhinderedButLast scan numbers = (x : ℕ) → IsAmong x numbers → IsSomeAnd (slice_get (scan_pieces scan) x) (AreUnhindered scan) ⊎ IsLast x numbers

-- Each of these pieces has an answer, or is the last of them. Where values are shared, it may also lie no lower than that
-- place, if its rows read an outermost dictionary.
abbrev pub HaveAnswersButLast : Leaves → FileScan → Bool → ℕ → List ℕ → Type 0
HaveAnswersButLast leaves scan shares place numbers =
    (x : ℕ) → IsAmong x numbers → IsSomeAnd (slice_get (scan_pieces scan) x) (HasAnswer leaves scan.projection) ⊎ (IsLast x numbers ⊎ ((shares ≡ true) × (place ≤ x) × PieceReadsDictionary scan x))

-- Each source gained ranges for the pieces of its worker, and the first one again for those that ran again, once all workers
-- were done; with one source nothing is asked again. While the workers ran, no call failed on a source whose worker's last
-- piece is before that place.
pub record GainedForPieces (scan : FileScan) (place : ℕ) (error : ScanError) (claims : List (List ℕ)) (reruns : List ℕ) (befores middles afters : List SourceState) : Type 0 where
  pub ran : EachSourceBy (RunsPieces (nat_lt 1 (length befores)) scan) claims befores middles
  pub again : FirstSource (RunsAgain scan reruns error) middles afters
  pub alone : length befores ≡ 1 → (afters ≡ middles) × (reruns ≡ [])
  pub faults : EachSourceBy (FaultsFrom place) claims befores middles

-- The pieces before that place have answers, and so have those of a worker, but for its last and, with several sources, those
-- that aren't before that place and read an outermost dictionary. Whatever the sources tell, none of those before it reads a
-- list or lacks a location, nor does one of a worker, but for its last.
pub record OthersHaveAnswers (scan : FileScan) (place : ℕ) (claims : List (List ℕ)) (sources : List SourceState) : Type 0 where
  pub lower : WhereAllTell sources (λ file. AllByRecursion (HasAnswer (file_leaves file scan.locations) scan.projection) (take place (scan_pieces scan)))
  pub stops : WhereAllTell sources (λ file. AllByRecursion (HaveAnswersButLast (file_leaves file scan.locations) scan (nat_lt 1 (length sources)) place) claims)
  pub unhindered : AllByRecursion (AreUnhindered scan) (take place (scan_pieces scan))
  pub ran_unhindered : AllByRecursion (PiecesUnhinderedButLast scan) claims

-- The piece at the place is the last of the worker of one of the sources, and failed there; or, with several sources, it was
-- claimed and failed on the first one once all workers were done.
abbrev pub FailsPieceOn : FileScan → ℕ → ℕ → List ℕ → ScanError → List (List ℕ) → List SourceState → List SourceState → List SourceState → Type 0
FailsPieceOn scan limit place rows error claims befores middles afters =
    SomeSourceBy (FailsPiece scan limit place rows error) claims befores middles
    ⊎ ((1 < length befores) × (1 ≤ times_over place claims) × FirstSource (FailsPieceAgain scan limit rows error befores) middles afters)

-- The lowest of the scan's pieces that has no batch, what came before it, and why it has none.
pub record LowestCause (scan : FileScan) (limit : ℕ) (error : ScanError) (befores afters : List SourceState) : Type 0 where
  pub place : ℕ
  pub rows : List ℕ
  pub here : slice_get (scan_pieces scan) place ≡ Some rows
  -- what the workers claimed, what the sources were when all workers were done, and which pieces ran again then
  pub claims : List (List ℕ)
  pub middles : List SourceState
  pub reruns : List ℕ
  pub claimed : ClaimedUpTo (length (scan_pieces scan)) place claims
  pub gained : GainedForPieces scan place error claims reruns befores middles afters
  pub others : OthersHaveAnswers scan place claims befores
  pub cause : FailsPieceOn scan limit place rows error claims befores middles afters

-- ---- the scan

pub record AnswersScan (scan : FileScan) (limit : ℕ) (result : Result (Vec ColumnData) ScanError) (befores afters : List SourceState) : Type 0 where
  -- the batches are the pieces of the answer by the file that all sources tell, in order
  pub content : IfOk result (λ batches. WhereAllTell befores (λ file.
      ArePieces (file_leaves file scan.locations) scan.projection (scan_pieces scan) (map (λ (batch : ColumnData). batch.values) batches.items)))
  -- there is one for each chunk with a row of the scan, each of the projection's dtype
  pub count : IfOk result (λ batches. length batches.items ≡ length (scan_pieces scan))
  pub dtype : IfOk result (λ batches. AllByRecursion (λ (batch : ColumnData). batch.dtype ≡ scan.projection.expression.dtype) batches.items)
  -- with a row for each row of its piece, whatever the sources tell
  pub rows : IfOk result (λ batches. map (λ (batch : ColumnData). length batch.values) batches.items ≡ map (λ (rows : List ℕ). length rows) (scan_pieces scan))
  -- which read no list, and no segment without a location
  pub unhindered : IfOk result (λ batches. AllByRecursion (AreUnhindered scan) (scan_pieces scan))
  -- and no call on a source failed
  pub faults : IfOk result (λ batches. EachSource KeepsFaults befores afters)
  -- only what the scan reaches was asked for, each time for another reason, whatever the result
  pub asks : GainsOver scan befores afters
  -- each error has its cause: it was refused before it began, or is that of the lowest chunk that failed
  pub cause : IfErr result (λ error. (error ≡ Memory) ⊎ (Refuses scan error ⊎ LowestCause scan limit error befores afters))
  -- a valid scan without fault or stall has its batches, or memory ran out
  pub complete : IfErr result (λ error. WhereAllTell befores (λ file.
      IsValidScan (file_leaves file scan.locations) scan → EachSource (IsQuiet limit) befores afters → error ≡ Memory))
  pub lasts : EachSource Lasts befores afters
  -- nothing is in flight at a source, if it was asked at all
  pub in_flight : EachSource IsLeftClear befores afters
