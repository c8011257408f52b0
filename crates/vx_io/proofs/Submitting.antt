-- A batch, request by request.
use Rattle.std.proofs.Common.{◌≡◌, ℕ, ◌+◌, ◌<◌, List, Some, Ok, Err, length, take, refl, ◌∙◌, arith}
use Rattle.std.specs.Prelude.{slice_get, slice_index_or, IsSomeAnd}
use Rattle.std.specs.List.{All}
use Rattle.vx_base.specs.Sources.{SourceState}
use Rattle.vx_base.specs.declared.outside.SourceError.TheVariants as source_errors
use Rattle.vx_io.specs.declared.requests.IoOwnerId.{IoOwnerId}
use Rattle.vx_io.specs.declared.requests.IoRequest.{IoRequest}
use Rattle.vx_io.specs.declared.requests.SubmitError.TheVariants.{Source, Memory}
use Rattle.vx_io.specs.Ranges.{RangeTable}
use Rattle.vx_io.specs.Session.{SessionState}
use Rattle.vx_io.specs.Submits.{IsKnown, AsksIn, owned, Submitted, Stays, StartGives, SubmitGives}
use Rattle.vx_io.proofs.Places.{got}
use Rattle.vx_io.proofs.Running.{submitted_none, submitted_more, refusal, stopped}

-- the first n requests were done
pub record Submitting (ranges : RangeTable) (owner : IoOwnerId) (batch : List IoRequest) (n taken : ℕ) (old middle : SessionState) : Type 0 where
  pub counted : taken ≡ n
  pub known : All (IsKnown ranges) batch
  pub did : Submitted ranges (owned owner (take n batch)) old middle
  pub stays : Stays old.source middle.source
  pub faults : middle.source.faults ≡ old.source.faults

pub submit_none : (ranges : RangeTable) (owner : IoOwnerId) (batch : List IoRequest) (state : SessionState) → All (IsKnown ranges) batch → Submitting ranges owner batch 0 0 state state
submit_none ranges owner batch state known = record {
  counted = refl;
  known = known;
  did = submitted_none ranges state;
  stays = record { file = refl; idle = refl };
  faults = refl;
}

stays_then : (before between after : SourceState) → Stays before between → Stays between after → Stays before after
stays_then before between after one two = record { file = two.file ∙ one.file; idle = two.idle ∙ one.idle }

pub submit_more : (ranges other : RangeTable) (owner : IoOwnerId) (batch : List IoRequest) (n taken : ℕ) (d : IoRequest) (old middle new : SessionState) → other ≡ ranges → n < length batch →
    Submitting ranges owner batch n taken old middle → StartGives other owner (slice_index_or batch n d) (Ok tt) middle new → Submitting ranges owner batch (n + 1) (taken + 1) old new
submit_more ranges other owner batch n taken d old middle new same within so_far given =
    let gives : StartGives ranges owner (slice_index_or batch n d) (Ok tt) middle new = rw same at given in
    record {
      counted = let p = so_far.counted in omega (arith, p);
      known = so_far.known;
      did = submitted_more ranges owner batch n (slice_index_or batch n d) old middle new (got batch n d within) so_far.did gives.0;
      stays = stays_then old.source middle.source new.source so_far.stays gives.1;
      faults = gives.2 ∙ so_far.faults;
    }

pub submit_failed : (ranges other : RangeTable) (owner : IoOwnerId) (batch : List IoRequest) (n taken : ℕ) (d : IoRequest) (old middle new : SessionState) → other ≡ ranges → n < length batch →
    Submitting ranges owner batch n taken old middle → StartGives other owner (slice_index_or batch n d) (Err source_errors.Failed) middle new → SubmitGives ranges owner batch (Err (Source taken)) old new
submit_failed ranges other owner batch n taken d old middle new same within so_far given =
    let gives : StartGives ranges owner (slice_index_or batch n d) (Err source_errors.Failed) middle new = rw same at given in
    let none = refusal ranges (slice_index_or batch n d) source_errors.Failed middle new gives in
    let failed = none.failed refl in
    let here : slice_get batch n ≡ Some (slice_index_or batch n d) = got batch n d within in
    let asks : IsSomeAnd (slice_get batch n) (AsksIn ranges new.table) = rw (here, gives.table) failed.0 in
    rw so_far.counted (
      so_far.known,
      stopped ranges owner batch n (slice_index_or batch n d) source_errors.Failed old middle new within here so_far.did gives.table none,
      stays_then old.source middle.source new.source so_far.stays none.stays,
      rw (← so_far.faults) failed.1,
      asks,
    )

pub submit_unmade : (ranges other : RangeTable) (owner : IoOwnerId) (batch : List IoRequest) (n taken : ℕ) (d : IoRequest) (old middle new : SessionState) → other ≡ ranges → n < length batch →
    Submitting ranges owner batch n taken old middle → StartGives other owner (slice_index_or batch n d) (Err source_errors.Memory) middle new → SubmitGives ranges owner batch (Err (Memory taken)) old new
submit_unmade ranges other owner batch n taken d old middle new same within so_far given =
    let gives : StartGives ranges owner (slice_index_or batch n d) (Err source_errors.Memory) middle new = rw same at given in
    let none = refusal ranges (slice_index_or batch n d) source_errors.Memory middle new gives in
    rw so_far.counted (
      so_far.known,
      stopped ranges owner batch n (slice_index_or batch n d) source_errors.Memory old middle new within (got batch n d within) so_far.did gives.table none,
      stays_then old.source middle.source new.source so_far.stays none.stays,
      none.unmade refl ∙ so_far.faults,
    )
