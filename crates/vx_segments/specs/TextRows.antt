-- Texts that lie one behind the other in a buffer, told by their lengths.
use Rattle.std.specs.Prelude.{◌≡◌, ℕ, suc, ◌+◌, ◌≤◌, Bool, false, List, [], ◌∷◌, length, take, slice_index_or, slice_range}
use Rattle.std.specs.Str.{IsCharBoundary}
use Rattle.vx_masks.specs.Rows.{Holds}

-- Texts of these lengths lie one behind the other in the buffer, from one place to another: each ends inside it, between
-- two characters, and has no bytes where its row isn't valid. The first one's row is given.
abbrev pub LieFrom : List ℕ → List Bool → ℕ → ℕ → ℕ → List ℕ → Type 0
LieFrom buffer mask row from to [] = from ≡ to
LieFrom buffer mask row from to (len ∷ lens) = (from + len ≤ length buffer) × ((IsCharBoundary buffer (from + len) × Holds 0 (slice_index_or mask row false) len) × LieFrom buffer mask (suc row) (from + len) to lens)

-- Where in the buffer the texts of a range of rows begin and end, of texts that fill it.
pub record LieBetween (buffer : List ℕ) (mask : List Bool) (start end : ℕ) (lens : List ℕ) (from to : ℕ) : Type 0 where
  pub all : LieFrom buffer mask 0 0 (length buffer) lens
  pub front : LieFrom buffer mask 0 0 from (take start lens)
  pub middle : LieFrom buffer mask start from to (slice_range lens start end)
