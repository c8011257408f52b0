-- Which bytes spell which values of a leaf dtype in each coding of a segment.
use Rattle.std.specs.Prelude.{◌≡◌, ℕ, ◌^◌, ◌<◌, List, [], ◌∷◌, ◌++◌, length, replicate}
use Rattle.std.specs.List.{flat_map, AllByRecursion}
use Rattle.std.specs.Int.{w32, w64, to_le_bytes}
use Rattle.vx_types.specs.Data.{DataType, Datum}
use Rattle.vx_columns.specs.LaidRuns.{AreRunsOf}
use Rattle.vx_segments.specs.Segment.{Spells}
use Rattle.vx_segments.specs.declared.codings.Coding.{Coding}
use Rattle.vx_segments.specs.declared.codings.Coding.TheVariants.{Plain, Constant, Runs}

-- Each of the values is the same one, and the bytes are the plain spelling of it alone.
pub record SpellsOne (t : DataType) (bytes : List ℕ) (values : List Datum) : Type 0 where
  pub value : Datum
  pub alike : values ≡ replicate (length values) value
  pub spelled : Spells t 1 bytes (value ∷ [])

-- No bytes spell no rows, and where there are rows, the bytes spell one value, which each has.
pub record SpellsConstant (t : DataType) (rows : ℕ) (bytes : List ℕ) (values : List Datum) : Type 0 where
  pub count : length values ≡ rows
  pub none : rows ≡ 0 → bytes ≡ []
  pub one : 0 < rows → SpellsOne t bytes values

-- how many runs there are, where each ends, and what their values spell
abbrev pub end_bytes : List ℕ → List ℕ
end_bytes ends = flat_map (to_le_bytes w64) ends

abbrev pub run_bytes : List ℕ → List ℕ → List ℕ
run_bytes ends plain = to_le_bytes w32 (length ends) ++ (end_bytes ends ++ plain)

-- The values lie in runs, neighbours of which differ, and the bytes are those of the runs: their count has four bytes,
-- each end eight, and behind them stands the plain spelling of the runs' values.
pub record SpellsRuns (t : DataType) (rows : ℕ) (bytes : List ℕ) (values : List Datum) : Type 0 where
  pub runs : List Datum
  pub ends : List ℕ
  pub plain : List ℕ
  pub count : length values ≡ rows
  pub laid : AreRunsOf values runs ends
  pub few : length ends < 2 ^ 32
  pub small : AllByRecursion (λ end. end < 2 ^ 64) ends
  pub spelled : Spells t (length runs) plain runs
  pub joined : bytes ≡ run_bytes ends plain

-- The bytes spell these values in the coding.
abbrev pub SpellsAs : Coding → DataType → ℕ → List ℕ → List Datum → Type 0
SpellsAs Plain t rows bytes values = Spells t rows bytes values
SpellsAs Constant t rows bytes values = SpellsConstant t rows bytes values
SpellsAs Runs t rows bytes values = SpellsRuns t rows bytes values
