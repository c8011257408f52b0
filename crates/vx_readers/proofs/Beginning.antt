-- An evaluation begins with the reads that its rows need, none of which was asked for.
use Rattle.std.proofs.Common.{◌≡◌, ℕ, List, [], ◌++◌, ap, ◌∙◌}
use Rattle.vx_reads.specs.Fresh.{AreFresh}
use Rattle.vx_reads.specs.Reads.{segments_of}
use Rattle.vx_reads.proofs.Freshness.{fresh_bytes, fresh_in_flight}
use Rattle.vx_readers.specs.Evaluations.{needed_by, zones_needed_by, Begins, Evaluation}

pub fresh_segments : (e : Evaluation) (needs now old : List ℕ) → AreFresh needs e.reads → needs ≡ now → now ≡ old ++ needed_by e → old ≡ [] → segments_of e.reads ≡ needed_by e
fresh_segments e needs now old fresh same added none = fresh.segments ∙ same ∙ added ∙ ap (λ (xs : List ℕ). xs ++ needed_by e) none

pub fresh_zones : (e : Evaluation) (needs now old : List ℕ) → AreFresh needs e.reads → needs ≡ now → now ≡ old ++ zones_needed_by e → old ≡ [] → segments_of e.reads ≡ zones_needed_by e
fresh_zones e needs now old fresh same added none = fresh.segments ∙ same ∙ added ∙ ap (λ (xs : List ℕ). xs ++ zones_needed_by e) none

pub begins : (e : Evaluation) (needs now old : List ℕ) → AreFresh needs e.reads → needs ≡ now → now ≡ old ++ needed_by e → old ≡ [] → Begins needed_by e
begins e needs now old fresh same added none = record {
  segments = fresh_segments e needs now old fresh same added none;
  in_flight = λ flights. fresh_in_flight e.locations e.reads flights fresh.fresh;
  bytes = λ bytes. fresh_bytes bytes e.reads fresh.fresh;
}

pub begins_pruning : (e : Evaluation) (needs now old : List ℕ) → AreFresh needs e.reads → needs ≡ now → now ≡ old ++ zones_needed_by e → old ≡ [] → Begins zones_needed_by e
begins_pruning e needs now old fresh same added none = record {
  segments = fresh_zones e needs now old fresh same added none;
  in_flight = λ flights. fresh_in_flight e.locations e.reads flights fresh.fresh;
  bytes = λ bytes. fresh_bytes bytes e.reads fresh.fresh;
}
