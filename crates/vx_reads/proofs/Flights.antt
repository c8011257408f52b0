-- Reads in flight: what is found of them behind one more, and without one of them.
use Rattle.std.proofs.Common.{◌≡◌, ◌≢◌, ℕ, ◌==◌, ◌⊎◌, inl, inr, true, false, List, [], ◌∷◌, ◌++◌, Option, Some, None, Bool, find, refl, sym, ap, ◌∙◌, cond}
use Rattle.std.specs.Prelude.{option_map, not}
use Rattle.std.specs.List.{filter}
use Rattle.std.specs.Option.{option_or}
use Rattle.std.proofs.lemmas.Bool.{ne_eqb}
use Rattle.std.proofs.lemmas.Bool.Decides.{eqb_tells}
use Rattle.std.proofs.lemmas.List.Folds.{find-append}
use Rattle.vx_base.specs.declared.locations.SegmentLocation.{SegmentLocation}
use Rattle.vx_base.specs.Sources.{location_of, without}

or_map : {X Y : Type 0} (f : X → Y) (one other : Option X) (y : Y) → option_map f one ≡ Some y → option_map f (option_or one other) ≡ Some y
or_map f None other y is = absurd cc
or_map f (Some x) other y is = is

pub located_still : (reads more : List (ℕ × SegmentLocation)) (ticket : ℕ) (at : SegmentLocation) → location_of ticket reads ≡ Some at → location_of ticket (reads ++ more) ≡ Some at
located_still reads more ticket at is =
    rw (find-append (λ (read : ℕ × SegmentLocation). read.0 == ticket) reads more)
    (or_map (λ (read : ℕ × SegmentLocation). read.1) (find (λ (read : ℕ × SegmentLocation). read.0 == ticket) reads) (find (λ (read : ℕ × SegmentLocation). read.0 == ticket) more) at is)

found_without : (read : ℕ × SegmentLocation) (reads : List (ℕ × SegmentLocation)) (ticket other : ℕ) → other ≢ ticket →
    ((read.0 == ticket ≡ true) × (read.0 ≡ ticket)) ⊎ ((read.0 == ticket ≡ false) × (read.0 ≢ ticket)) →
    find (λ (one : ℕ × SegmentLocation). one.0 == other) (filter (λ (one : ℕ × SegmentLocation). not (one.0 == ticket)) reads) ≡ find (λ (one : ℕ × SegmentLocation). one.0 == other) reads →
    find (λ (one : ℕ × SegmentLocation). one.0 == other) (filter (λ (one : ℕ × SegmentLocation). not (one.0 == ticket)) (read ∷ reads)) ≡ find (λ (one : ℕ × SegmentLocation). one.0 == other) (read ∷ reads)
found_without read reads ticket other ne (inl (is, same)) found =
    let differs : read.0 == other ≡ false = ne_eqb read.0 other (λ e. ne (sym e ∙ same)) in
    rw (is, differs) found
found_without read reads ticket other ne (inr (is, differ)) found =
    rw is (ap (λ (o : Option (ℕ × SegmentLocation)). cond (read.0 == other) (Some read) o) found)

same_without : (reads : List (ℕ × SegmentLocation)) (ticket other : ℕ) → other ≢ ticket → find (λ (one : ℕ × SegmentLocation). one.0 == other) (without ticket reads) ≡ find (λ (one : ℕ × SegmentLocation). one.0 == other) reads
same_without [] ticket other ne = refl
same_without (read ∷ reads) ticket other ne = found_without read reads ticket other ne (eqb_tells read.0 ticket) (same_without reads ticket other ne)

-- another ticket is found as before
pub located_without : (reads : List (ℕ × SegmentLocation)) (ticket other : ℕ) → other ≢ ticket → location_of other (without ticket reads) ≡ location_of other reads
located_without reads ticket other ne = ap (option_map (λ (read : ℕ × SegmentLocation). read.1)) (same_without reads ticket other ne)

none_behind : {X : Type 0} (o : Option X) → option_or o None ≡ o
none_behind None = refl
none_behind (Some x) = refl

-- another ticket than that of one more read
pub located_others : (reads : List (ℕ × SegmentLocation)) (ticket other : ℕ) (at : SegmentLocation) → other ≢ ticket → location_of other (reads ++ (ticket, at) ∷ []) ≡ location_of other reads
located_others reads ticket other at ne =
    let F : Option (ℕ × SegmentLocation) → Option SegmentLocation = option_map (λ (read : ℕ × SegmentLocation). read.1) in
    let first : Option (ℕ × SegmentLocation) = find (λ (read : ℕ × SegmentLocation). read.0 == other) reads in
    let one : ℕ × SegmentLocation = (ticket, at) in
    let differs : ticket == other ≡ false = ne_eqb ticket other (λ e. ne (sym e)) in
    let last : find (λ (read : ℕ × SegmentLocation). read.0 == other) ((ticket, at) ∷ []) ≡ None = ap (λ (b : Bool). cond b (Some one) None) differs in
    ap F (find-append (λ (read : ℕ × SegmentLocation). read.0 == other) reads ((ticket, at) ∷ []) ∙ ap (λ (o : Option (ℕ × SegmentLocation)). option_or first o) last ∙ none_behind first)

found_none : (read : ℕ × SegmentLocation) (reads : List (ℕ × SegmentLocation)) (ticket : ℕ) →
    ((read.0 == ticket ≡ true) × (read.0 ≡ ticket)) ⊎ ((read.0 == ticket ≡ false) × (read.0 ≢ ticket)) →
    find (λ (one : ℕ × SegmentLocation). one.0 == ticket) (without ticket reads) ≡ None →
    find (λ (one : ℕ × SegmentLocation). one.0 == ticket) (without ticket (read ∷ reads)) ≡ None
found_none read reads ticket (inl (is, same)) none =
    ap (λ (b : Bool). find (λ (one : ℕ × SegmentLocation). one.0 == ticket) (cond (not b) (read ∷ without ticket reads) (without ticket reads))) is ∙ none
found_none read reads ticket (inr (is, differ)) none =
    ap (λ (b : Bool). find (λ (one : ℕ × SegmentLocation). one.0 == ticket) (cond (not b) (read ∷ without ticket reads) (without ticket reads))) is
    ∙ ap (λ (b : Bool). cond b (Some read) (find (λ (one : ℕ × SegmentLocation). one.0 == ticket) (without ticket reads))) is ∙ none

none_without : (reads : List (ℕ × SegmentLocation)) (ticket : ℕ) → find (λ (one : ℕ × SegmentLocation). one.0 == ticket) (without ticket reads) ≡ None
none_without [] ticket = refl
none_without (read ∷ reads) ticket = found_none read reads ticket (eqb_tells read.0 ticket) (none_without reads ticket)

-- a ticket is found nowhere without it
pub gone_without : (reads : List (ℕ × SegmentLocation)) (ticket : ℕ) → location_of ticket (without ticket reads) ≡ None
gone_without reads ticket = ap (option_map (λ (read : ℕ × SegmentLocation). read.1)) (none_without reads ticket)
