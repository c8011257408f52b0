-- What callers see of the claims and their seats, and what each call does to a seat.
use Rattle.std.specs.Prelude.{◌≡◌, ℕ, ◌+◌, ◌-◌, ◌<◌, ◌≤◌, min, Bool, true, false, if◌then◌else◌, List, [], ◌∷◌, ◌++◌, ◌||◌, Option, Some, None}
use Rattle.std.specs.List.{All}
use Rattle.vx_claims.specs.declared.views.View.{View}
use Rattle.vx_claims.specs.declared.claims.Claims.{Claims}
use Rattle.vx_claims.specs.declared.claims.ClaimSeat.{ClaimSeat}
use Rattle.vx_claims.specs.Limits.{all_parts}
use Rattle.vx_claims.specs.Apart.{times, times_over, AreApart, AreWhole}
use Rattle.vx_claims.specs.Views.{above}

-- the number of chunks
abbrev pub count_of : Claims → ℕ
count_of claims = claims.table.shared.key

abbrev pub view_of : ClaimSeat → View
view_of seat = seat.seat.me.0

-- the numbers that a seat claimed, in the order in which it claimed them
abbrev pub claimed : ClaimSeat → List ℕ
claimed seat = (view_of seat).claimed

-- its parts of the right to know all that was claimed
abbrev pub parts : ClaimSeat → ℕ
parts seat = (view_of seat).parts

-- whether it was told that no chunk is left
abbrev pub was_told : ClaimSeat → Bool
was_told seat = (view_of seat).told

-- how many of its draws found a number that wasn't below the count
abbrev pub over : ClaimSeat → ℕ
over seat = (view_of seat).over

-- A seat is one of these claims where it has their table and their count.
pub record IsSeatOf (claims : Claims) (seat : ClaimSeat) : Type 0 where
  pub table : seat.seat.table_id ≡ claims.table.shared.table_id
  pub count : (view_of seat).count ≡ count_of claims

-- a seat with so many parts that drew nothing yet
pub record IsFresh (claims : Claims) (number : ℕ) (seat : ClaimSeat) : Type 0 where
  pub own : IsSeatOf claims seat
  pub claimed : claimed seat ≡ []
  pub parts : parts seat ≡ number
  pub told : was_told seat ≡ false
  pub over : over seat ≡ 0

-- ---- split

-- The seat has one part less, and all else that it had.
pub record GivesPart (claims : Claims) (old new : ClaimSeat) : Type 0 where
  pub seat : IsSeatOf claims new
  pub claimed : claimed new ≡ claimed old
  pub parts : parts new ≡ parts old - 1
  pub told : was_told new ≡ was_told old
  pub over : over new ≡ over old

-- ---- claim

-- A seat that wasn't told draws a number below the count, behind those that it claimed before.
pub record Claimed (count number : ℕ) (old new : ClaimSeat) : Type 0 where
  pub below : number < count
  pub behind : above (claimed old) ≤ number
  pub last : above (claimed new) ≡ number + 1
  pub claimed : claimed new ≡ claimed old ++ number ∷ []
  pub before : was_told old ≡ false
  pub told : was_told new ≡ false
  pub over : over new ≡ over old

-- A seat that wasn't told draws once over the count; one that was draws nothing.
pub record ToldEnd (old new : ClaimSeat) : Type 0 where
  pub claimed : claimed new ≡ claimed old
  pub told : was_told new ≡ true
  pub over : over new ≡ (if was_told old then over old else 1)

abbrev pub ClaimGives : ℕ → Option ℕ → ClaimSeat → ClaimSeat → Type 0
ClaimGives count (Some number) old new = Claimed count number old new
ClaimGives count None old new = ToldEnd old new

-- ---- join

-- The seat has its own and all that the other had.
pub record TakesIn (claims : Claims) (old other new : ClaimSeat) : Type 0 where
  pub seat : IsSeatOf claims new
  pub claimed : claimed new ≡ claimed old ++ claimed other
  pub parts : parts new ≡ parts old + parts other
  pub told : was_told new ≡ was_told old || was_told other
  pub over : over new ≡ over old + over other

-- ---- close

pub record Closes (count : ℕ) (seat : ClaimSeat) (word : ℕ) : Type 0 where
  -- no number stands twice in the seat's list, and all are below the count and the word
  pub once : (x : ℕ) → times x (claimed seat) ≤ 1
  pub below : All (λ x. x < min word count) (claimed seat)
  -- with all parts the list has each such number
  pub whole : parts seat ≡ all_parts → (x : ℕ) → x < min word count → times x (claimed seat) ≡ 1
  -- and where the seat was told besides, each number below the count
  pub each : parts seat ≡ all_parts → was_told seat ≡ true → (x : ℕ) → x < count → times x (claimed seat) ≡ 1
  -- where the seat was told, the word has passed the count
  pub passed : was_told seat ≡ true → count < word
  -- with all parts it has passed it by as many draws as the seat's were over it
  pub over : parts seat ≡ all_parts → over seat ≡ word - count
  -- and never by more than one draw for each part
  pub bounded : word ≤ count + all_parts

-- ---- the workers' own lists

-- each number stands in the lists as often as in the seat's
abbrev pub MakeUp : List (List ℕ) → ClaimSeat → Type 0
MakeUp lists seat = (x : ℕ) → times_over x lists ≡ times x (claimed seat)

-- lists that make up the list of a seat with which claims were closed are apart for the count
abbrev pub ClosedAreApart : Type 0
ClosedAreApart = (count word : ℕ) (seat : ClaimSeat) (lists : List (List ℕ)) → Closes count seat word → MakeUp lists seat → AreApart count lists

-- and they are whole where that seat had all parts and was told the end
abbrev pub ClosedAreWhole : Type 0
ClosedAreWhole = (count word : ℕ) (seat : ClaimSeat) (lists : List (List ℕ)) → Closes count seat word → MakeUp lists seat
    → parts seat ≡ all_parts → was_told seat ≡ true → AreWhole count lists
