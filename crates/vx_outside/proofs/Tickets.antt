-- What is found in a table of reads whose tickets ascend and all lie below the next one.
use Rattle.std.proofs.Common.{◌≡◌, ◌∙◌, ℕ, ◌==◌, ◌<◌, List, [], ◌∷◌, ◌++◌, Bool, true, false, cond, not, Some, None, option_map, find, refl, sym, ap, subst, arith, eq-eqb, ne_eqb, eqb-true}
use Rattle.std.specs.Cmp.{unsigned_tied, ranks, nat_cmp_is, nat_eq_equiv}
use Rattle.std.specs.Ordering.{nat_cmp, MatchOrdering}
use Rattle.std.specs.declared.cmp.Ordering.{Ordering}
use Rattle.std.specs.declared.cmp.Ordering.TheVariants.{Less, Greater}
use Rattle.std.specs.List.{AllByRecursion}
use Rattle.std.specs.List.Sorted.{IsStrictlySortedBy}
use Rattle.std.specs.BTreeMap.{insert_entry, is_at}
use Rattle.std.specs.Map.{lookup, remove_entry, keys_of}
use Rattle.std.proofs.lemmas.List.Elements.{All-head, All-tail}
use Rattle.std.proofs.lemmas.List.Folds.{find-append}
use Rattle.std.proofs.lemmas.Map.Keys.{sorted_head, sorted_tail}
use Rattle.vx_outside.specs.declared.locations.SegmentLocation.{SegmentLocation}
use Rattle.vx_outside.specs.InFlight.{AllGiven}
use Rattle.vx_outside.specs.Sources.{location_of, without}

-- ---- a new ticket

-- the next ticket is not in flight
pub next_not_found : (reads : List (ℕ × SegmentLocation)) (next : ℕ) → AllGiven reads next → find (λ read. read.0 == next) reads ≡ None
next_not_found [] next given = refl
next_not_found (read ∷ reads) next given =
    let below : read.0 < next = All-head (λ (r : ℕ × SegmentLocation). r.0 < next) read reads given in
    rw (ne_eqb read.0 next (omega arith)) (next_not_found reads next (All-tail (λ (r : ℕ × SegmentLocation). r.0 < next) read reads given))

-- a read that is appended under the next ticket is found under it
pub appended_found : (reads : List (ℕ × SegmentLocation)) (next : ℕ) (at : SegmentLocation) → AllGiven reads next → find (λ read. read.0 == next) (reads ++ (next, at) ∷ []) ≡ Some (next, at)
appended_found reads next at given =
    rw (find-append (λ (read : ℕ × SegmentLocation). read.0 == next) reads ((next, at) ∷ []), next_not_found reads next given, eq-eqb next next refl) refl

-- the map puts it behind all others
pub inserted_last : (reads : List (ℕ × SegmentLocation)) (next : ℕ) (at : SegmentLocation) → AllGiven reads next → insert_entry nat_cmp reads next at ≡ reads ++ (next, at) ∷ []
inserted_last [] next at given = refl
inserted_last (read ∷ reads) next at given =
    let below : read.0 < next = All-head (λ (r : ℕ × SegmentLocation). r.0 < next) read reads given in
    let above : nat_cmp next read.0 ≡ Greater = sym (nat_cmp_is next read.0 Greater below) in
    rw above (ap (λ (rest : List (ℕ × SegmentLocation)). read ∷ rest) (inserted_last reads next at (All-tail (λ (r : ℕ × SegmentLocation). r.0 < next) read reads given)))

-- ---- a ticket that is looked up

same_test : (ticket other : ℕ) → is_at (nat_cmp ticket) other ≡ (other == ticket)
same_test ticket other = unsigned_tied ticket other ∙ nat_eq_equiv.symm ticket other

-- the map finds the location of a ticket
pub lookup_is_location : (ticket : ℕ) (reads : List (ℕ × SegmentLocation)) → lookup (is_at (nat_cmp ticket)) reads ≡ location_of ticket reads
lookup_is_location ticket [] = refl
lookup_is_location ticket (read ∷ reads) = rw (same_test ticket read.0) (here (read.0 == ticket) (lookup_is_location ticket reads)) where
  here : (b : Bool) → lookup (is_at (nat_cmp ticket)) reads ≡ location_of ticket reads
      → cond b (Some read.1) (lookup (is_at (nat_cmp ticket)) reads) ≡ option_map (λ (r : ℕ × SegmentLocation). r.1) (cond b (Some read) (find (λ r. r.0 == ticket) reads))
  here true rest = refl
  here false rest = rest

-- ---- a ticket that is taken out

-- a ticket below all others is not among them
none_taken : (ticket : ℕ) (reads : List (ℕ × SegmentLocation)) → AllByRecursion (λ other. nat_cmp ticket other ≡ Less) (keys_of reads) → without ticket reads ≡ reads
none_taken ticket [] below = refl
none_taken ticket (read ∷ reads) below =
    let less : ticket < read.0 = subst (λ (o : Ordering). MatchOrdering o (ticket < read.0) (ticket ≡ read.0) (read.0 < ticket)) below.0 (ranks ticket read.0) in
    rw (ne_eqb read.0 ticket (omega arith)) (ap (λ (rest : List (ℕ × SegmentLocation)). read ∷ rest) (none_taken ticket reads below.1))

-- the map, whose tickets ascend, takes out all reads of the ticket
pub removed_is_without : (ticket : ℕ) (reads : List (ℕ × SegmentLocation)) → IsStrictlySortedBy nat_cmp (keys_of reads) → remove_entry (is_at (nat_cmp ticket)) reads ≡ without ticket reads
removed_is_without ticket [] sorted = refl
removed_is_without ticket (read ∷ reads) sorted = rw (same_test ticket read.0) (split (read.0 == ticket) refl (removed_is_without ticket reads (sorted_tail nat_cmp read.0 (keys_of reads) sorted))) where
  split : (b : Bool) → (read.0 == ticket) ≡ b → remove_entry (is_at (nat_cmp ticket)) reads ≡ without ticket reads
      → cond b reads (read ∷ remove_entry (is_at (nat_cmp ticket)) reads) ≡ cond (not b) (read ∷ without ticket reads) (without ticket reads)
  split true is rest =
      let same : read.0 ≡ ticket = eqb-true read.0 ticket is in
      sym (none_taken ticket reads (subst (λ (t : ℕ). AllByRecursion (λ other. nat_cmp t other ≡ Less) (keys_of reads)) same (sorted_head nat_cmp read.0 (keys_of reads) sorted)))
  split false is rest = ap (λ (kept : List (ℕ × SegmentLocation)). read ∷ kept) rest
