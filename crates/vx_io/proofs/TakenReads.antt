-- What a request takes of the reads that wait at its segment.
use Rattle.std.proofs.Common.{◌≡◌, ℕ, inl, Bool, true, false, List, [], ◌∷◌, Option, None, Result, Ok, Err, refl, sym, subst}
use Rattle.vx_base.specs.declared.locations.SegmentLocation.{SegmentLocation}
use Rattle.vx_base.specs.declared.outside.SourceError.{SourceError}
use Rattle.vx_base.specs.declared.outside.SourceError.TheVariants.{Memory}
use Rattle.vx_base.specs.Sources.{SourceState}
use Rattle.vx_io.specs.Session.{Waiting}
use Rattle.vx_io.specs.Waits.{RefusedWhere, TakesFetch, TakesOldest, TakesAnnounced}

-- a fetch with no prefetched read takes the oldest announced one, or a new one
taken_oldest : (at : SegmentLocation) (read : ℕ) (announced : List ℕ) (before : SourceState) (new : Waiting) (after : SourceState) → TakesOldest at announced read before new.announced after → new.prefetched ≡ None →
    TakesFetch at (Ok read) (record { announced = announced; prefetched = None }) before new after
taken_oldest at read [] before new after taken none = (read, taken.1, refl, λ i. record { announced = taken.0 i; prefetched = none i })
taken_oldest at read (oldest ∷ announced) before new after taken none = (0, taken.2, taken.0, λ i. record { announced = taken.1 i; prefetched = none i })

taken_fetch : (at : SegmentLocation) (result : Result ℕ SourceError) (announced : List ℕ) (before : SourceState) (new : Waiting) (after : SourceState) → TakesAnnounced at result (record { announced = announced; prefetched = None }) before new after →
    TakesFetch at result (record { announced = announced; prefetched = None }) before new after
taken_fetch at (Ok read) announced before new after taken = taken_oldest at read announced before new after taken.0 taken.1
taken_fetch at (Err error) [] before new after taken = (taken.1, taken.2)
taken_fetch at (Err error) (oldest ∷ announced) before new after taken = absurd (let never = taken.0 in cc)

pub fetches_announced : (at : SegmentLocation) (result : Result ℕ SourceError) (announced : List ℕ) (prefetched : Option ℕ) (before : SourceState) (new : Waiting) (after : SourceState) → prefetched ≡ None →
    TakesAnnounced at result (record { announced = announced; prefetched = prefetched }) before new after → TakesFetch at result (record { announced = announced; prefetched = prefetched }) before new after
fetches_announced at result announced prefetched before new after none taken =
    subst (λ (p : Option ℕ). TakesAnnounced at result (record { announced = announced; prefetched = p }) before new after → TakesFetch at result (record { announced = announced; prefetched = p }) before new after) (sym none)
    (λ t. taken_fetch at result announced before new after t) taken

-- a request for which there is no room is refused
pub no_room : (asking : Bool) (at : SegmentLocation) (source : SourceState) → RefusedWhere asking Memory at source source
no_room true at source = (record { asked = inl refl; in_flight = refl; file = refl; idle = refl }, refl)
no_room false at source = (refl, refl)
