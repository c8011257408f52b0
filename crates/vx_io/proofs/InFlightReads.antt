-- Reads in flight: what is found of them behind more of them, and without one of them.
use Rattle.std.proofs.Common.{◌≡◌, ◌≢◌, ℕ, ◌+◌, ◌<◌, ◌==◌, ◌⊎◌, inl, inr, Bool, true, false, List, [], ◌∷◌, ◌++◌, Option, Some, None, find, refl, sym, ap, ◌∙◌, arith, cond}
use Rattle.std.specs.Prelude.{option_map, not}
use Rattle.std.specs.List.{filter}
use Rattle.std.specs.Option.{option_or}
use Rattle.std.proofs.lemmas.Bool.{ne_eqb}
use Rattle.std.proofs.lemmas.Bool.Decides.{eqb_tells}
use Rattle.std.proofs.lemmas.List.Folds.{find-append}
use Rattle.vx_base.specs.declared.locations.SegmentLocation.{SegmentLocation}
use Rattle.vx_base.specs.Sources.{SourceState, location_of, without}
use Rattle.vx_io.specs.Sound.{times}
use Rattle.vx_io.specs.Waits.{AsksWhere}

-- ---- more reads

or_map : {X Y : Type 0} (f : X → Y) (one other : Option X) (y : Y) → option_map f one ≡ Some y → option_map f (option_or one other) ≡ Some y
or_map f None other y is = absurd cc
or_map f (Some x) other y is = is

pub located_still : (reads more : List (ℕ × SegmentLocation)) (ticket : ℕ) (at : SegmentLocation) → location_of ticket reads ≡ Some at → location_of ticket (reads ++ more) ≡ Some at
located_still reads more ticket at is =
    rw (find-append (λ (read : ℕ × SegmentLocation). read.0 == ticket) reads more)
    (or_map (λ (read : ℕ × SegmentLocation). read.1) (find (λ (read : ℕ × SegmentLocation). read.0 == ticket) reads) (find (λ (read : ℕ × SegmentLocation). read.0 == ticket) more) at is)

-- what is found behind one more read was there, or is that read
pub found_last : (reads : List (ℕ × SegmentLocation)) (new : ℕ) (place : SegmentLocation) (ticket : ℕ) (at : SegmentLocation) → location_of ticket (reads ++ (new, place) ∷ []) ≡ Some at →
    (location_of ticket reads ≡ Some at) ⊎ ((0 < times ticket (new ∷ [])) × (at ≡ place))
found_last reads new place ticket at is =
    by (find (λ (read : ℕ × SegmentLocation). read.0 == ticket) reads) (rw (find-append (λ (read : ℕ × SegmentLocation). read.0 == ticket) reads ((new, place) ∷ [])) at is)
  where
    last : (b : Bool) → option_map (λ (read : ℕ × SegmentLocation). read.1) (cond b (Some (new, place)) None) ≡ Some at → (0 < 0 + cond b 1 0) × (at ≡ place)
    last true is = let same : place ≡ at = cc in (omega arith, sym same)
    last false is = absurd cc

    by : (one : Option (ℕ × SegmentLocation)) → option_map (λ (read : ℕ × SegmentLocation). read.1) (option_or one (find (λ (read : ℕ × SegmentLocation). read.0 == ticket) ((new, place) ∷ []))) ≡ Some at →
        (option_map (λ (read : ℕ × SegmentLocation). read.1) one ≡ Some at) ⊎ ((0 < times ticket (new ∷ [])) × (at ≡ place))
    by (Some read) is = inl is
    by None is = inr (last (new == ticket) is)

-- what a source was asked for, or wasn't, leaves the others in flight
pub asks_keep : (asking : Bool) (place : SegmentLocation) (new : ℕ) (before after : SourceState) (ticket : ℕ) (at : SegmentLocation) → AsksWhere asking place new before after → location_of ticket before.in_flight ≡ Some at → location_of ticket after.in_flight ≡ Some at
asks_keep true place new before after ticket at started is = rw started.in_flight (located_still before.in_flight ((new, place) ∷ []) ticket at is)
asks_keep false place new before after ticket at same is = rw same is

pub map_kept : {X Y : Type 0} (f : X → Y) (one other : Option X) (y : Y) → ((x : X) → one ≡ Some x → other ≡ Some x) → option_map f one ≡ Some y → option_map f other ≡ Some y
map_kept f None other y keep is = absurd cc
map_kept f (Some x) other y keep is = rw (keep x refl) is

-- ---- one read less

found_without : (read : ℕ × SegmentLocation) (reads : List (ℕ × SegmentLocation)) (ticket other : ℕ) → other ≢ ticket →
    ((read.0 == ticket ≡ true) × (read.0 ≡ ticket)) ⊎ ((read.0 == ticket ≡ false) × (read.0 ≢ ticket)) →
    find (λ (one : ℕ × SegmentLocation). one.0 == other) (filter (λ (one : ℕ × SegmentLocation). not (one.0 == ticket)) reads) ≡ find (λ (one : ℕ × SegmentLocation). one.0 == other) reads →
    find (λ (one : ℕ × SegmentLocation). one.0 == other) (filter (λ (one : ℕ × SegmentLocation). not (one.0 == ticket)) (read ∷ reads)) ≡ find (λ (one : ℕ × SegmentLocation). one.0 == other) (read ∷ reads)
found_without read reads ticket other ne (inl (is, same)) found =
    let differs : read.0 == other ≡ false = ne_eqb read.0 other (λ e. ne (sym e ∙ same)) in
    rw (is, differs) found
found_without read reads ticket other ne (inr (is, differ)) found =
    rw is (ap (λ (o : Option (ℕ × SegmentLocation)). cond (read.0 == other) (Some read) o) found)

same_without : (reads : List (ℕ × SegmentLocation)) (ticket other : ℕ) → other ≢ ticket → find (λ (one : ℕ × SegmentLocation). one.0 == other) (without ticket reads) ≡ find (λ (one : ℕ × SegmentLocation). one.0 == other) reads
same_without [] ticket other ne = refl
same_without (read ∷ reads) ticket other ne = found_without read reads ticket other ne (eqb_tells read.0 ticket) (same_without reads ticket other ne)

gone_here : (read : ℕ × SegmentLocation) (reads : List (ℕ × SegmentLocation)) (ticket : ℕ) (b : Bool) → (read.0 == ticket) ≡ b → location_of ticket (without ticket reads) ≡ None → location_of ticket (without ticket (read ∷ reads)) ≡ None
gone_here read reads ticket true is none = rw is none
gone_here read reads ticket false is none = rw (is, is) none

-- the ticket itself is found no more
pub gone_without : (reads : List (ℕ × SegmentLocation)) (ticket : ℕ) → location_of ticket (without ticket reads) ≡ None
gone_without [] ticket = refl
gone_without (read ∷ reads) ticket = gone_here read reads ticket (read.0 == ticket) refl (gone_without reads ticket)

-- another ticket is found as before
pub located_without : (reads : List (ℕ × SegmentLocation)) (ticket other : ℕ) → other ≢ ticket → location_of other (without ticket reads) ≡ location_of other reads
located_without reads ticket other ne = ap (option_map (λ (read : ℕ × SegmentLocation). read.1)) (same_without reads ticket other ne)
