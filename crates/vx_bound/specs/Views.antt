-- What a seat of the bound knows, and how each step changes it.
use Rattle.std.specs.Prelude.{◌≡◌, ℕ, ◌+◌, ◌-◌, ◌≤◌, min, [], ◌∷◌, ◌++◌}
use Rattle.std.specs.List.{All}
use Rattle.atomic_table.specs.Table.{Me}
use Rattle.vx_bound.specs.declared.views.View.{View}
use Rattle.vx_bound.specs.Limits.{all_parts}

-- the first seat, with all parts, which has seen the first key
abbrev pub opened : ℕ → View
opened key = record { first = key; seen = key; offers = []; turns = 0; parts = all_parts }

-- ---- split

-- a seat that was split off, which has seen what the splitting seat has
abbrev pub fresh : View → View
fresh view = record { first = view.first; seen = view.seen; offers = []; turns = 0; parts = 1 }

-- the seat that gave it one of its parts
abbrev pub less_a_part : View → View
less_a_part view = record view { parts = view.parts - 1 }

-- ---- join

-- a seat that took in another
abbrev pub both : View → View → View
both view other = record {
  first = view.first;
  seen = min view.seen other.seen;
  offers = view.offers ++ other.offers;
  turns = view.turns;
  parts = view.parts + other.parts;
}

-- the other, which has nothing left
abbrev pub spent : View
spent = record { first = 0; seen = 0; offers = []; turns = 0; parts = 0 }

-- ---- load and offer

-- a seat that has seen the word
abbrev pub loaded : View → ℕ → View
loaded view found = record view { seen = found; turns = view.turns + 1 }

-- a seat that offered a key and has seen what the word became
abbrev pub offered : View → ℕ → ℕ → View
offered view found key = record view { seen = min found key; offers = view.offers ++ key ∷ []; turns = view.turns + 1 }

-- A seat finds no word above what it has seen or offered.
pub record Loads (old : Me (Unit {0}) View) (found : ℕ) (new : Me (Unit {0}) View) : Type 0 where
  pub becomes : new ≡ (loaded old.0 found, old.1)
  pub seen : found ≤ old.0.seen
  pub offers : All (λ key. found ≤ key) old.0.offers

pub record Offers (key : ℕ) (old : Me (Unit {0}) View) (found : ℕ) (new : Me (Unit {0}) View) : Type 0 where
  pub becomes : new ≡ (offered old.0 found key, old.1)
  pub seen : found ≤ old.0.seen
  pub offers : All (λ offer. found ≤ offer) old.0.offers
