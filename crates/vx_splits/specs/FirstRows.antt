-- The first selected rows of chunks, as many as a limit.
use Rattle.std.specs.Prelude.{◌≡◌, ℕ, zero, suc, ◌+◌, ◌-◌, nat_le, Bool, true, if◌then◌else◌, List, [], ◌∷◌, length, take, Some, slice_get}
use Rattle.vx_base.specs.Masks.{true_count, place_of_rank}
use Rattle.vx_splits.specs.declared.selected_rows.SelectedRows.{SelectedRows}

-- The chunk's mask is as long as its scope, and begins and ends with true.
pub record IsTight (chunk : SelectedRows) : Type 0 where
  pub mask : length chunk.mask ≡ chunk.scope.rows.end - chunk.scope.rows.start
  pub begins_with_true : slice_get chunk.mask 0 ≡ Some true
  pub ends_with_true : slice_get chunk.mask (length chunk.mask - 1) ≡ Some true

-- these rows of the first file, with a truth value for each
abbrev pub chunk_of : ℕ → ℕ → List Bool → SelectedRows
chunk_of start end mask = record { scope = record { file_ordinal = 0; rows = record { start = start; end = end } }; mask = mask }

-- the chunk cut down to so many of its rows, counted from its first one
abbrev pub cut_to : ℕ → SelectedRows → SelectedRows
cut_to rows chunk = record {
  scope = record {
    file_ordinal = chunk.scope.file_ordinal;
    rows = record { start = chunk.scope.rows.start; end = chunk.scope.rows.start + rows };
  };
  mask = take rows chunk.mask;
}

-- the chunk itself where it has at most so many selected rows, else cut behind the last of so many of them
abbrev pub first_part : ℕ → SelectedRows → SelectedRows
first_part limit chunk =
    if nat_le (true_count chunk.mask) limit then chunk else cut_to (place_of_rank chunk.mask (limit - 1) + 1) chunk

-- The chunks that have the first selected rows, as many as the limit: each as it was but for the last, which is cut
-- behind the row that meets the limit.
abbrev pub first_chunks : ℕ → List SelectedRows → List SelectedRows
first_chunks zero chunks = []
first_chunks (suc limit) [] = []
first_chunks (suc limit) (chunk ∷ chunks) = first_part (suc limit) chunk ∷ first_chunks (suc limit - true_count chunk.mask) chunks
