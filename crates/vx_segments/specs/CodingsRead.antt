-- Reading a segment in a coding: the values that the bytes spell, where they spell any. As in a plain segment, what
-- was read counts where its spelling is these very bytes.
use Rattle.std.specs.Prelude.{ℕ, zero, suc, ◌+◌, ◌*◌, ◌^◌, int_le, Bool, true, false, not, ◌&&◌, ◌==◌, nat_lt, if◌then◌else◌, List, [], ◌∷◌, length, take, drop, replicate, Option, Some, None}
use Rattle.std.specs.List.{list_all}
use Rattle.std.specs.Int.{w32, w64, from_le_bytes}
use Rattle.std.specs.Str.{bytes_eq}
use Rattle.vx_types.specs.Data.{DataType, Datum, null, truth, number, text, structure}
use Rattle.vx_columns.specs.RunRows.{start_of}
use Rattle.vx_columns.specs.Runs.{spread}
use Rattle.vx_segments.specs.Codings.{run_bytes}
use Rattle.vx_segments.specs.Reading.{decoded}
use Rattle.vx_segments.specs.declared.codings.Coding.{Coding}
use Rattle.vx_segments.specs.declared.codings.Coding.TheVariants.{Plain, Constant, Runs}

-- ---- a constant

-- so many rows of the one value
abbrev pub filled : ℕ → Option (List Datum) → Option (List Datum)
filled rows None = None
filled rows (Some []) = None
filled rows (Some (v ∷ more)) = Some (replicate rows v)

-- no rows, where there are no bytes
abbrev pub nothing_in : List ℕ → Option (List Datum)
nothing_in [] = Some []
nothing_in (b ∷ bytes) = None

abbrev pub constant_read : DataType → ℕ → List ℕ → Option (List Datum)
constant_read t zero bytes = nothing_in bytes
constant_read t (suc more) bytes = filled (suc more) (decoded t 1 bytes)

-- ---- runs

abbrev pub same_bits : Bool → Bool → Bool
same_bits true b = b
same_bits false b = not b

-- whether two values of a leaf are the same; structs are not told apart
abbrev pub is_same : Datum → Datum → Bool
is_same null null = true
is_same (truth a) (truth b) = same_bits a b
is_same (number y) (number z) = int_le y z && int_le z y
is_same (text bytes) (text others) = bytes_eq bytes others
is_same (structure vs) (structure ws) = true
is_same v w = false

-- `Differ` of a leaf's values, as a test
abbrev pub begin_other : Datum → List Datum → Bool
begin_other v [] = true
begin_other v (w ∷ values) = not (is_same v w)

abbrev pub differ : List Datum → Bool
differ [] = true
differ (v ∷ values) = begin_other v values && differ values

-- `Rise`, as a test
abbrev pub do_rise : ℕ → List ℕ → Bool
do_rise from [] = true
do_rise from (end ∷ ends) = nat_lt from end && do_rise end ends

-- so many ends, of eight bytes each
unfoldable pub ends_in : ℕ → List ℕ → List ℕ
ends_in zero bytes = []
ends_in (suc more) bytes = from_le_bytes w64 (take 8 bytes) ∷ ends_in more (drop 8 bytes)

-- the number of runs, where they end, and what stands behind
abbrev pub runs_in : List ℕ → ℕ
runs_in bytes = from_le_bytes w32 (take 4 bytes)

abbrev pub run_ends_in : List ℕ → List ℕ
run_ends_in bytes = ends_in (runs_in bytes) (drop 4 bytes)

abbrev pub behind_ends : List ℕ → List ℕ
behind_ends bytes = drop (4 + 8 * runs_in bytes) bytes

-- `SpellsRuns` of these ends and the runs' values, as a test
abbrev pub are_runs : ℕ → List ℕ → List ℕ → List Datum → Bool
are_runs rows bytes ends runs = (length ends == length runs) && do_rise 0 ends && (start_of 0 ends (length ends) == rows) && differ runs && nat_lt (length ends) (2 ^ 32) && list_all (λ end. nat_lt end (2 ^ 64)) ends && bytes_eq (run_bytes ends (behind_ends bytes)) bytes

abbrev pub spread_if : ℕ → List ℕ → List ℕ → Option (List Datum) → Option (List Datum)
spread_if rows bytes ends None = None
spread_if rows bytes ends (Some runs) = if are_runs rows bytes ends runs then Some (spread 0 runs ends) else None

abbrev pub runs_read : DataType → ℕ → List ℕ → Option (List Datum)
runs_read t rows bytes = spread_if rows bytes (run_ends_in bytes) (decoded t (runs_in bytes) (behind_ends bytes))

-- ---- each coding

-- the values that the bytes spell in the coding for the dtype and so many rows
unfoldable pub decoded_as : Coding → DataType → ℕ → List ℕ → Option (List Datum)
decoded_as Plain t rows bytes = decoded t rows bytes
decoded_as Constant t rows bytes = constant_read t rows bytes
decoded_as Runs t rows bytes = runs_read t rows bytes
