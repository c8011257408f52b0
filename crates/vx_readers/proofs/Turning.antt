-- A turn of the reads of an evaluation: the same evaluation with other reads.
use Rattle.std.proofs.Common.{◌≡◌, ℕ, ◌<◌, inl, List, refl, ◌∙◌, arith}
use Rattle.vx_base.specs.Sources.{SourceState}
use Rattle.vx_reads.specs.declared.errors.ReaderError.{ReaderError}
use Rattle.vx_reads.specs.declared.reads.SegmentRead.{SegmentRead}
use Rattle.vx_reads.specs.Reads.{segments_of, LeavesReads, ReadsPolled}
use Rattle.vx_reads.proofs.Polling.{all_begin, none_waiting}
use Rattle.vx_readers.specs.Evaluations.{needed_by, zones_needed_by, Evaluation, HasAll, IsPending, IsSound}

-- the evaluation with other reads, which are what it needs
with_reads : (needs : Evaluation → List ℕ) (e : Evaluation) (new : List SegmentRead) → IsSound needs e → segments_of new ≡ needs (record e { reads = new }) → IsSound needs (record e { reads = new })
with_reads needs e new sound segments = record {
  known = sound.known;
  readable = sound.readable;
  inside = sound.inside;
  bound = sound.bound;
  segments = segments;
}

-- and so are reads of the same segments
pub sound_still : (e : Evaluation) (new : List SegmentRead) → IsSound needed_by e → segments_of new ≡ segments_of e.reads → IsSound needed_by (record e { reads = new })
sound_still e new sound same = with_reads needed_by e new sound (same ∙ sound.segments)

-- also where it prunes
pub pruning_still : (e : Evaluation) (new : List SegmentRead) → IsSound zones_needed_by e → segments_of new ≡ segments_of e.reads → IsSound zones_needed_by (record e { reads = new })
pruning_still e new sound same = with_reads zones_needed_by e new sound (same ∙ sound.segments)

-- all that it needs came, where none of its reads is left in flight
pub has_all_of : (needs : Evaluation → List ℕ) (e : Evaluation) (new : List SegmentRead) (waiting : ℕ) (before after : SourceState) → segments_of e.reads ≡ needs (record e { reads = new }) → ReadsPolled e.locations waiting e.reads new before after → waiting ≡ 0 → HasAll needs e (record e { reads = new }) before after
has_all_of needs e new waiting before after segments polled none = record {
  same = refl;
  goes = polled.goes;
  asks = polled.asks;
  none = λ ticket has. none_waiting new (omega (arith, polled.count, none)) has.0 ticket has.1;
  came = all_begin new (needs (record e { reads = new })) (polled.goes.segments ∙ segments) polled.asked (omega (arith, polled.count, none));
}

pub has_all : (e : Evaluation) (new : List SegmentRead) (waiting : ℕ) (before after : SourceState) → IsSound needed_by e → ReadsPolled e.locations waiting e.reads new before after → waiting ≡ 0 → HasAll needed_by e (record e { reads = new }) before after
has_all e new waiting before after sound polled none = has_all_of needed_by e new waiting before after sound.segments polled none

pub has_all_zones : (e : Evaluation) (new : List SegmentRead) (waiting : ℕ) (before after : SourceState) → IsSound zones_needed_by e → ReadsPolled e.locations waiting e.reads new before after → waiting ≡ 0 → HasAll zones_needed_by e (record e { reads = new }) before after
has_all_zones e new waiting before after sound polled none = has_all_of zones_needed_by e new waiting before after sound.segments polled none

pub waits : (e : Evaluation) (new : List SegmentRead) (waiting : ℕ) (before after : SourceState) → ReadsPolled e.locations waiting e.reads new before after → 0 < waiting → IsPending e (record e { reads = new }) before after
waits e new waiting before after polled some = record {
  same = refl;
  goes = polled.goes;
  asked = polled.asked;
  asks = polled.asks;
  some = omega (arith, polled.count, some);
  waited = rw (← polled.count) polled.waited;
}

-- and no call failed: the reads went on to their end
pub all_left : (needs : Evaluation → List ℕ) (e next : Evaluation) (error : ReaderError) (before after : SourceState) → HasAll needs e next before after → LeavesReads e.locations error e.reads before after
all_left needs e next error before after all = record {
  reads = next.reads;
  middle = after;
  went = all.goes;
  ends = inl refl;
}
