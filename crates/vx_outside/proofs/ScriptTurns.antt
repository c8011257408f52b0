-- What a script says of one ticket: how long it waits, and whether another one holds it up.
use Rattle.std.proofs.Common.{◌≡◌, ◌↔◌, ℕ, zero, suc, ◌+◌, ◌-◌, ◌<◌, ◌≤◌, ◌==◌, ◌⊎◌, inl, inr, List, [], ◌∷◌, Bool, true, false, true≢false, cond, ◌||◌, IsTrue, Option, Some, None, option_map, IsSome, is_some, IsSomeAnd, Any, length, get_or, set, drop, drop-cons, refl, sym, ap, subst, arith, add-one, Result, Ok, Err}
use Rattle.vx_outside.specs.declared.locations.SegmentLocation.{SegmentLocation}
use Rattle.vx_outside.specs.declared.outside.SourceError.{SourceError}
use Rattle.vx_outside.specs.declared.outside.SourceError.TheVariants.{Failed, Memory}
use Rattle.vx_outside.specs.Faults.{FailsWhere}
use Rattle.vx_outside.specs.Sources.{location_of}
use Rattle.vx_outside.specs.ScriptSources.{waits_left, polled_once, tickets_before, IsHeldUp, held_up}

-- ---- waits

pub waits_listed : (waits : List ℕ) (ticket : ℕ) → ticket < length waits → waits_left waits ticket ≡ get_or waits ticket 0
waits_listed [] ticket lt = absurd (omega arith)
waits_listed (wait ∷ waits) zero lt = refl
waits_listed (wait ∷ waits) (suc ticket) lt = waits_listed waits ticket (omega arith)

pub waits_unlisted : (waits : List ℕ) (ticket : ℕ) → length waits ≤ ticket → waits_left waits ticket ≡ 0
waits_unlisted [] ticket le = refl
waits_unlisted (wait ∷ waits) zero le = absurd (omega arith)
waits_unlisted (wait ∷ waits) (suc ticket) le = waits_unlisted waits ticket (omega arith)

pub polled_listed : (waits : List ℕ) (ticket : ℕ) → ticket < length waits → polled_once waits ticket ≡ set waits ticket (get_or waits ticket 0 - 1)
polled_listed [] ticket lt = absurd (omega arith)
polled_listed (wait ∷ waits) zero lt = refl
polled_listed (wait ∷ waits) (suc ticket) lt = ap (λ (rest : List ℕ). wait ∷ rest) (polled_listed waits ticket (omega arith))

pub polled_unlisted : (waits : List ℕ) (ticket : ℕ) → length waits ≤ ticket → polled_once waits ticket ≡ waits
polled_unlisted [] ticket le = refl
polled_unlisted (wait ∷ waits) zero le = absurd (omega arith)
polled_unlisted (wait ∷ waits) (suc ticket) le = ap (λ (rest : List ℕ). wait ∷ rest) (polled_unlisted waits ticket (omega arith))

-- ---- the order

pub any_here : (P : ℕ → Type 0) (x : ℕ) (xs : List ℕ) → P x → Any P (x ∷ xs)
any_here P x xs p = (zero, x, omega arith, refl, p)

pub any_there : (P : ℕ → Type 0) (x : ℕ) (xs : List ℕ) → Any P xs → Any P (x ∷ xs)
any_there P x xs a = let lt : a.0 < length xs = a.2 in (suc a.0, a.1, omega arith, a.3, a.4)

any_split : (P : ℕ → Type 0) (x : ℕ) (xs : List ℕ) → Any P (x ∷ xs) → P x ⊎ Any P xs
any_split P x xs a = cases a.0 a.1 a.2 a.3 a.4 where
  cases : (k y : ℕ) → k < length (x ∷ xs) → get_or (x ∷ xs) k y ≡ y → P y → P x ⊎ Any P xs
  cases zero y lt is p = inl (subst P (sym is) p)
  cases (suc k) y lt is p = inr (k, y, omega arith, is, p)

abbrev IsFlying : List (ℕ × SegmentLocation) → ℕ → Type 0
IsFlying reads other = IsSome (location_of other reads)

-- one that was found so far, or one that stands before the ticket
abbrev Holds : List (ℕ × SegmentLocation) → Bool → List ℕ → Type 0
Holds reads held tickets = IsTrue held ⊎ Any (IsFlying reads) tickets

holds_more : (reads : List (ℕ × SegmentLocation)) (held : Bool) (other : ℕ) (tickets : List ℕ) → Holds reads (held || is_some (location_of other reads)) tickets → Holds reads held (other ∷ tickets)
holds_more reads true other tickets h = inl refl
holds_more reads false other tickets (inl flying) = inr (any_here (IsFlying reads) other tickets flying)
holds_more reads false other tickets (inr any) = inr (any_there (IsFlying reads) other tickets any)

holds_less : (reads : List (ℕ × SegmentLocation)) (held : Bool) (other : ℕ) (tickets : List ℕ) → Holds reads held (other ∷ tickets) → Holds reads (held || is_some (location_of other reads)) tickets
holds_less reads true other tickets h = inl refl
holds_less reads false other tickets (inl never) = absurd (true≢false (sym never))
holds_less reads false other tickets (inr any) = any_split (IsFlying reads) other tickets any

held_found : (reads : List (ℕ × SegmentLocation)) (ticket : ℕ) (held : Bool) (order : List ℕ) → held_up reads ticket held order ≡ true → IsSomeAnd (tickets_before ticket order) (Holds reads held)
held_found reads ticket held [] e = absurd (true≢false (sym e))
held_found reads ticket held (other ∷ order) e = split (other == ticket) (λ later. held_found reads ticket (held || is_some (location_of other reads)) order later) e where
  step : (before : Option (List ℕ)) → IsSomeAnd before (Holds reads (held || is_some (location_of other reads))) → IsSomeAnd (option_map (λ tickets. other ∷ tickets) before) (Holds reads held)
  step None h = h
  step (Some tickets) h = holds_more reads held other tickets h

  split : (b : Bool)
      → (held_up reads ticket (held || is_some (location_of other reads)) order ≡ true → IsSomeAnd (tickets_before ticket order) (Holds reads (held || is_some (location_of other reads))))
      → cond b held (held_up reads ticket (held || is_some (location_of other reads)) order) ≡ true → IsSomeAnd (cond b (Some []) (option_map (λ tickets. other ∷ tickets) (tickets_before ticket order))) (Holds reads held)
  split true rest e = inl e
  split false rest e = step (tickets_before ticket order) (rest e)

found_held : (reads : List (ℕ × SegmentLocation)) (ticket : ℕ) (held : Bool) (order : List ℕ) → IsSomeAnd (tickets_before ticket order) (Holds reads held) → held_up reads ticket held order ≡ true
found_held reads ticket held [] h = absurd h
found_held reads ticket held (other ∷ order) h = split (other == ticket) (λ later. found_held reads ticket (held || is_some (location_of other reads)) order later) h where
  none_before : Holds reads held [] → held ≡ true
  none_before (inl yes_it_is) = yes_it_is
  none_before (inr any) = let lt : any.0 < 0 = any.2 in absurd (omega arith)

  step : (before : Option (List ℕ)) → IsSomeAnd (option_map (λ tickets. other ∷ tickets) before) (Holds reads held) → IsSomeAnd before (Holds reads (held || is_some (location_of other reads)))
  step None h = h
  step (Some tickets) h = holds_less reads held other tickets h

  split : (b : Bool)
      → (IsSomeAnd (tickets_before ticket order) (Holds reads (held || is_some (location_of other reads))) → held_up reads ticket (held || is_some (location_of other reads)) order ≡ true)
      → IsSomeAnd (cond b (Some []) (option_map (λ tickets. other ∷ tickets) (tickets_before ticket order))) (Holds reads held) → cond b held (held_up reads ticket (held || is_some (location_of other reads)) order) ≡ true
  split true rest h = none_before h
  split false rest h = rest (step (tickets_before ticket order) h)

-- what the walk over the order finds out is whether the ticket is held up
pub held_up_is : (reads : List (ℕ × SegmentLocation)) (ticket : ℕ) (order : List ℕ) → (held_up reads ticket false order ≡ true) ↔ IsHeldUp order reads ticket
held_up_is reads ticket order = (there, back) where
  no_false : (before : Option (List ℕ)) → IsSomeAnd before (Holds reads false) → IsSomeAnd before (Any (IsFlying reads))
  no_false None h = h
  no_false (Some tickets) (inl never) = absurd (true≢false (sym never))
  no_false (Some tickets) (inr any) = any

  with_false : (before : Option (List ℕ)) → IsSomeAnd before (Any (IsFlying reads)) → IsSomeAnd before (Holds reads false)
  with_false None h = h
  with_false (Some tickets) any = inr any

  there : held_up reads ticket false order ≡ true → IsHeldUp order reads ticket
  there e = no_false (tickets_before ticket order) (held_found reads ticket false order e)

  back : IsHeldUp order reads ticket → held_up reads ticket false order ≡ true
  back h = found_held reads ticket false order (with_false (tickets_before ticket order) h)

-- one step of that walk
pub held_step : (reads : List (ℕ × SegmentLocation)) (ticket : ℕ) (held : Bool) (order : List ℕ) (place other : ℕ) → place < length order → other ≡ get_or order place other
    → held_up reads ticket held (drop place order) ≡ cond (other == ticket) held (held_up reads ticket (held || is_some (location_of other reads)) (drop (place + 1) order))
held_step reads ticket held order place other lt is =
    rw (drop-cons order place other lt, ← is, add-one place) refl

-- ---- failures

-- a call that did not fail for the one reason fails exactly for the other
pub fails_else : {T : Type 0} (result : Result T SourceError) (One Other : Type 0) → ¬ (One ⊎ Other) → FailsWhere result Other → FailsWhere result (One ⊎ Other)
fails_else (Ok value) One Other neither h = neither
fails_else (Err Failed) One Other neither h = inr h
fails_else (Err Memory) One Other neither h = neither
