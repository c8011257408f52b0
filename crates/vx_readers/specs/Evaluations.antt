-- What an evaluation is over, and what a poll of it gives: the one form for columns and for masks, whatever the kind of
-- the node.
use Rattle.std.specs.Prelude.{◌≡◌, ℕ, ◌+◌, ◌<◌, ◌≤◌, Bool, List, Some, length}
use Rattle.vx_base.specs.declared.locations.SegmentLocation.{SegmentLocation}
use Rattle.vx_base.specs.Sources.{location_of, SourceState, RoseBy}
use Rattle.vx_expr.specs.Bound.{Bound, IsBoundTo}
use Rattle.vx_layout.specs.Kept.{all}
use Rattle.vx_layout.specs.Nodes.{Node}
use Rattle.vx_layout.specs.Rows.{derivation}
use Rattle.vx_layout.specs.Trees.{subtree}
use Rattle.vx_rows.specs.SegmentLeaves.{Bytes}
use Rattle.vx_reads.specs.declared.errors.ReaderError.{ReaderError}
use Rattle.vx_reads.specs.declared.errors.ReaderError.TheVariants.{ReadFault, NoLocation}
use Rattle.vx_reads.specs.declared.reads.SegmentRead.{SegmentRead}
use Rattle.vx_reads.specs.Came.{Begin}
use Rattle.vx_reads.specs.Computed.{RowsBy}
use Rattle.vx_reads.specs.Needed.{needed}
use Rattle.vx_reads.specs.Readable.{tree_head, AreReadable}
use Rattle.vx_reads.specs.Reads.{asked_also, file_bytes, segments_of, waiting_in, AreAsked, AreInFlight, GoOn, HasTicket, HaveBytes, LeavesReads, SourceFault, Touches}
use Rattle.vx_readers.specs.ZonesNeeded.{zones_needed}
use Rattle.vx_readers.specs.ZonesOver.{zones_over, ZonesBy}

-- An evaluation over rows of a node: the tree's nodes, the node, the first row, which rows are selected, the expression,
-- where segments lie, and the reads that it needs.
pub record Evaluation : Type 0 where
  pub nodes : List Node
  pub node : ℕ
  pub start : ℕ
  pub mask : List Bool
  pub expression : Bound
  pub locations : List SegmentLocation
  pub reads : List SegmentRead

-- which segments it needs
abbrev pub needed_by : Evaluation → List ℕ
needed_by e = needed (subtree e.nodes e.node) e.start e.mask

-- and which where it prunes: those of zones alone
abbrev pub zones_needed_by : Evaluation → List ℕ
zones_needed_by e = zones_needed (subtree e.nodes e.node) e.start e.mask

-- how each row of the node is derived
abbrev pub rows_by : Evaluation → RowsBy
rows_by e = derivation (subtree e.nodes e.node) all

-- the zones over each row of the node
abbrev pub zones_by : Evaluation → ZonesBy
zones_by e = zones_over (subtree e.nodes e.node)

-- The rows lie in a node that is readable, the expression is bound to its dtype, and the reads are what it needs.
pub record IsSound (needs : Evaluation → List ℕ) (e : Evaluation) : Type 0 where
  pub known : e.node < length e.nodes
  pub readable : AreReadable e.nodes
  pub inside : e.start + length e.mask ≤ (tree_head e.nodes e.node).rows
  pub bound : IsBoundTo e.expression (tree_head e.nodes e.node).dtype
  pub segments : segments_of e.reads ≡ needs e

-- An evaluation that begins: it reads what it needs; whatever is in flight at a source, none of its reads is, and whatever
-- the file, none of its bytes are another's.
pub record Begins (needs : Evaluation → List ℕ) (e : Evaluation) : Type 0 where
  pub segments : segments_of e.reads ≡ needs e
  pub in_flight : (flights : List (ℕ × SegmentLocation)) → AreInFlight e.locations e.reads flights
  pub bytes : (bytes : Bytes) → HaveBytes bytes e.reads

-- P of the bytes of the source's file, where it is told and what came before is its own
abbrev pub WhereTold : Evaluation → SourceState → (Bytes → Type 0) → Type 0
WhereTold e before P = (file : List ℕ) → before.file ≡ Some file → HaveBytes (file_bytes file e.locations) e.reads → P (file_bytes file e.locations)

-- The evaluation goes on: another state of it. Each of its reads was asked for, once and with nothing else, some of them is
-- in flight, and each one in flight was polled.
pub record IsPending (e next : Evaluation) (before after : SourceState) : Type 0 where
  pub same : next ≡ record e { reads = next.reads }
  pub goes : GoOn e.locations e.reads next.reads before after
  pub asked : AreAsked (length next.reads) next.reads
  pub asks : after.asked ≡ asked_also e.locations e.reads before.asked
  pub some : 0 < waiting_in next.reads
  pub waited : RoseBy (waiting_in next.reads) before.idle after.idle

-- Another state of it, of which each read came: none is in flight.
pub record HasAll (needs : Evaluation → List ℕ) (e next : Evaluation) (before after : SourceState) : Type 0 where
  pub same : next ≡ record e { reads = next.reads }
  pub goes : GoOn e.locations e.reads next.reads before after
  pub asks : after.asked ≡ asked_also e.locations e.reads before.asked
  pub none : (ticket : ℕ) → HasTicket next.reads ticket → ⊥
  pub came : Begin (needs next) next.reads

-- The answer is what it is to be by the source's file. Its reads that were not asked for were so, once and with nothing else;
-- they went on to their end, and no call failed. None of them is in flight any more: what is so was so before, and is another's.
pub record IsReady (e : Evaluation) (before after : SourceState) (Is : Bytes → Type 0) : Type 0 where
  pub touches : Touches e.locations e.reads before after
  pub asks : after.asked ≡ asked_also e.locations e.reads before.asked
  pub fine : after.faults ≡ before.faults
  pub ended : (ticket : ℕ) (at : SegmentLocation) → location_of ticket after.in_flight ≡ Some at → (HasTicket e.reads ticket → ⊥) × (location_of ticket before.in_flight ≡ Some at)
  pub content : WhereTold e before Is
  pub went : (reads : List SegmentRead) × GoOn e.locations e.reads reads before after

-- what a fault says: a fault of the source, or one of the bytes
abbrev pub IsCaused : Evaluation → ReaderError → SourceState → SourceState → (Bytes → Type 0) → Type 0
IsCaused e ReadFault before after Fault = SourceFault e.locations (segments_of e.reads) ReadFault before after
IsCaused e (NoLocation segment) before after Fault = SourceFault e.locations (segments_of e.reads) (NoLocation segment) before after
IsCaused e error before after Fault = WhereTold e before Fault

-- There is no answer. Its reads went on up to the call that failed, if one did: all but the one that it was for stay in flight.
pub record IsRefused (e : Evaluation) (error : ReaderError) (before after : SourceState) (Fault : Bytes → Type 0) : Type 0 where
  pub touches : Touches e.locations e.reads before after
  pub cause : IsCaused e error before after Fault
  pub leaves : LeavesReads e.locations error e.reads before after
