-- Rows at which a range is split, and a range that stands behind other rows.
use Rattle.std.specs.Prelude.{refl, ℕ, ◌+◌, ◌<◌, ◌≤◌, ◌^◌, ◌&&◌, ◌||◌, Bool, if◌then◌else◌, List, [], ◌∷◌, ◌++◌, nat_lt}
use Rattle.std.specs.List.{filter, Contains}
use Rattle.std.specs.Coded.{Coded, code_by, coded×, coded_ℕ}
use Rattle.vx_base.specs.Masks.{Ascend}

-- the rows of a range, and the row of the root that is the first of its node
pub record SplitRows : Type 0 where
  pub offset : ℕ
  pub start : ℕ
  pub end : ℕ

abbrev pub coded_rows : Coded SplitRows
coded_rows =
    code_by (ℕ × (ℕ × ℕ)) (coded× coded_ℕ (coded× coded_ℕ coded_ℕ)) (λ r. (r.offset, (r.start, r.end))) (λ p. record { offset = p.0; start = p.1.0; end = p.1.1 }) (λ _. refl)

-- it is not reversed, and 64 bits count where it ends
pub record IsSplitRange (range : SplitRows) : Type 0 where
  pub forwards : range.start ≤ range.end
  pub few : range.offset + range.end < 2 ^ 64

-- The rows ascend, and are those that were pushed.
pub record AreOrdered (pushed rows : List ℕ) : Type 0 where
  pub ascend : Ascend rows
  pub all : (row : ℕ) → Contains pushed row → Contains rows row
  pub only : (row : ℕ) → Contains rows row → Contains pushed row

-- whether the row lies inside the range: behind its first row, and before its end
abbrev pub is_inside : ℕ → ℕ → ℕ → Bool
is_inside start end row = nat_lt start row && nat_lt row end

-- the chunk ends inside a range of rows of the root, and where it ends
abbrev pub split_at : List ℕ → ℕ → ℕ → List ℕ
split_at ends start end = filter (is_inside start end) ends ++ end ∷ []

-- what is pushed for a range, in rows of the root; nothing where it is empty, unless its end is pushed all the same
abbrev pub registered : List ℕ → Bool → SplitRows → List ℕ
registered ends ends_empty range =
    if nat_lt range.start range.end || ends_empty then split_at ends (range.offset + range.start) (range.offset + range.end) else []
