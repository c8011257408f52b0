-- Reads that were not asked for are in flight nowhere, and have no bytes.
use Rattle.std.proofs.Common.{◌≡◌, ℕ, zero, suc, List, [], ◌∷◌, Option, Some}
use Rattle.std.specs.Prelude.{IfSome}
use Rattle.std.specs.List.{slice_get, AllByRecursion}
use Rattle.vx_base.specs.declared.locations.SegmentLocation.{SegmentLocation}
use Rattle.vx_reads.specs.declared.reads.ReadState.{ReadState}
use Rattle.vx_reads.specs.declared.reads.ReadState.TheVariants as states
use Rattle.vx_reads.specs.declared.reads.SegmentRead.{SegmentRead}
use Rattle.vx_reads.specs.Fresh.{IsNew}
use Rattle.vx_reads.specs.Reads.{read_with, ticket_at, ticket_in, AreInFlight, HasBytes, HaveBytes, IsInFlight}

new_flight : (locations : List SegmentLocation) (flights : List (ℕ × SegmentLocation)) (segment : ℕ) (s : ReadState) → IsNew s → IsInFlight locations flights (read_with segment s)
new_flight locations flights segment states.NotAsked new = tt
new_flight locations flights segment (states.InFlight ticket) new = absurd new
new_flight locations flights segment (states.Came bytes) new = absurd new

new_bytes : (bytes : ℕ → Option (List ℕ)) (segment : ℕ) (s : ReadState) → IsNew s → HasBytes bytes (read_with segment s)
new_bytes bytes segment states.NotAsked new = tt
new_bytes bytes segment (states.InFlight ticket) new = absurd new
new_bytes bytes segment (states.Came these) new = absurd new

new_ticket : (s : ReadState) (ticket : ℕ) → IsNew s → ticket_in s ≡ Some ticket → ⊥
new_ticket states.NotAsked ticket new at = cc
new_ticket (states.InFlight other) ticket new at = new
new_ticket (states.Came these) ticket new at = new

fresh_located : (locations : List SegmentLocation) (flights : List (ℕ × SegmentLocation)) (reads : List SegmentRead) → AllByRecursion (λ (read : SegmentRead). IsNew read.state) reads → (place : ℕ) → IfSome (slice_get reads place) (IsInFlight locations flights)
fresh_located locations flights [] fresh place = tt
fresh_located locations flights (read ∷ reads) fresh zero = new_flight locations flights read.segment read.state fresh.0
fresh_located locations flights (read ∷ reads) fresh (suc place) = fresh_located locations flights reads fresh.1 place

no_ticket : (reads : List SegmentRead) → AllByRecursion (λ (read : SegmentRead). IsNew read.state) reads → (place ticket : ℕ) → ticket_at reads place ≡ Some ticket → ⊥
no_ticket [] fresh place ticket at = cc
no_ticket (read ∷ reads) fresh zero ticket at = new_ticket read.state ticket fresh.0 at
no_ticket (read ∷ reads) fresh (suc place) ticket at = no_ticket reads fresh.1 place ticket at

pub fresh_in_flight : (locations : List SegmentLocation) (reads : List SegmentRead) (flights : List (ℕ × SegmentLocation)) → AllByRecursion (λ (read : SegmentRead). IsNew read.state) reads → AreInFlight locations reads flights
fresh_in_flight locations reads flights fresh = record {
  located = fresh_located locations flights reads fresh;
  apart = λ one other ticket first second. absurd (no_ticket reads fresh one ticket first);
}

pub fresh_bytes : (bytes : ℕ → Option (List ℕ)) (reads : List SegmentRead) → AllByRecursion (λ (read : SegmentRead). IsNew read.state) reads → HaveBytes bytes reads
fresh_bytes bytes [] fresh place = tt
fresh_bytes bytes (read ∷ reads) fresh zero = new_bytes bytes read.segment read.state fresh.0
fresh_bytes bytes (read ∷ reads) fresh (suc place) = fresh_bytes bytes reads fresh.1 place
