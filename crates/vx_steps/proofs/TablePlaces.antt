-- What a table of places has where numbers stand for them.
use Rattle.std.proofs.Common.{◌≡◌, ℕ, ◌+◌, ◌-◌, ◌==◌, Bool, true, false, Option, Some, None, refl, sym, ap, ◌∙◌, arith}
use Rattle.std.specs.Prelude.{if◌then◌else◌}
use Rattle.vx_steps.specs.declared.places.PlaceTable.{PlaceTable}
use Rattle.vx_steps.specs.NumberTable.{number_in, KeepsAll, SetsNumber}
use Rattle.vx_steps.specs.Places.{place_before, place_in, KeepsPlaces, SetsPlace}

none_before : (number : ℕ) → number ≡ 0 → place_before number ≡ None
none_before number is = ap place_before is

some_before : (number : ℕ) → (number ≡ 0 → ⊥) → place_before number ≡ Some (number - 1)
some_before number not = by (number == 0) refl
  where
    by : (b : Bool) → (number == 0) ≡ b → place_before number ≡ Some (number - 1)
    by true e = absurd (not (grind arith))
    by false e = ap (λ (b : Bool). if b then None else Some (number - 1)) e

pub before_next : (number place : ℕ) → number ≡ place + 1 → place_before number ≡ Some place
before_next number place is = some_before number (λ (e : number ≡ 0). absurd (omega (arith, is, e))) ∙ ap Some (omega (arith, is))

pub found_none : (table : PlaceTable) (n number : ℕ) → number ≡ number_in table.numbers n → number ≡ 0 → None ≡ place_in table n
unfolding place_in
found_none table n number is zero_at = sym (none_before (number_in table.numbers n) (sym is ∙ zero_at))

pub found_some : (table : PlaceTable) (n number : ℕ) → number ≡ number_in table.numbers n → (number ≡ 0 → ⊥) → Some (number - 1) ≡ place_in table n
unfolding place_in
found_some table n number is not = sym (some_before number not) ∙ ap place_before is

pub keeps_places : (old new : PlaceTable) → KeepsAll old.numbers new.numbers → KeepsPlaces old new
unfolding place_in
keeps_places old new keeps n = ap place_before (keeps n)

chosen : (b : Bool) (number other : ℕ) (place : Option ℕ) → place_before number ≡ place → place_before (if b then number else other) ≡ (if b then place else place_before other)
chosen true number other place is = is
chosen false number other place is = refl

pub sets_place : (old new : PlaceTable) (plan number : ℕ) (place : Option ℕ) → place_before number ≡ place → SetsNumber plan number old.numbers new.numbers → SetsPlace plan place old new
unfolding place_in
sets_place old new plan number place is sets n = ap place_before (sets n) ∙ chosen (plan == n) number (number_in old.numbers n) place is

-- a plan that has no place has none afterwards
pub has_none : (table : PlaceTable) (plan number : ℕ) → number ≡ number_in table.numbers plan → number ≡ 0 → SetsPlace plan None table table
has_none table plan number is zero_at n = by (plan == n) refl
  where
    by : (b : Bool) → (plan == n) ≡ b → place_in table n ≡ (if b then None else place_in table n)
    by true here =
        let same : n ≡ plan = grind arith in
        ap (place_in table) same ∙ sym (found_none table plan number is zero_at)
    by false apart = refl
