-- When a scan has an answer.
use Rattle.std.proofs.Common.{◌≡◌, ℕ, ◌+◌, ⊎_elim, Bool, true, false, cond, List, [], ◌∷◌, ◌++◌, Option, Some, None, map, refl, ap, sym, ◌∙◌, subst}
use Rattle.std.specs.Prelude.{option_and_then, IsSome, IsSomeAnd}
use Rattle.std.specs.List.{AllByRecursion, flat_map}
use Rattle.std.proofs.lemmas.List.{map-append}
use Rattle.vx_base.specs.Data.{Datum, null}
use Rattle.vx_expr.specs.Meaning.{meaning}
use Rattle.vx_expr.specs.Mentions.{uses_root}
use Rattle.vx_expr.specs.Rows.{no_bound}
use Rattle.vx_layout.proofs.Joined.{values_same}
use Rattle.vx_layout.proofs.TreeRows.{strict_row}
use Rattle.vx_layout.specs.Rows.{derivation, value, reads, AreValuesOf}
use Rattle.vx_layout.specs.Trees.{head_of}
use Rattle.vx_lower.specs.Projected.{Projection, kept_of, root_value, projected_at, scan_reads}
use Rattle.vx_rows.proofs.ReadRows.{faulty}
use Rattle.vx_rows.specs.Derivations.{Leaves}
use Rattle.vx_rows.specs.Reads.{directly, Read, IsAmong, Finds, IsFaulty}
use Rattle.vx_scan.specs.Answer.{FileScan, scan_rows, IsAnswer, in_front, pieces_of, ArePieces}
use Rattle.vx_scan.specs.Causes.{ScanFinds, FaultsAt}
use Rattle.vx_scan.specs.Valid.{IsValidScan}

-- ---- values that are there

record HasValues (f : ℕ → Option Datum) (rows : List ℕ) : Type 0 where
  values : List Datum
  are : map f rows ≡ map Some values

one_more_value : (f : ℕ → Option Datum) (row : ℕ) (rows : List ℕ) (v : Option Datum) → f row ≡ v → IsSome v → HasValues f rows → HasValues f (row ∷ rows)
one_more_value f row rows None e some more = absurd cc
one_more_value f row rows (Some v) e some more = record { values = v ∷ more.values; are = let p : map f rows ≡ map Some more.values = more.are in cc }

values_exist : (f : ℕ → Option Datum) (rows : List ℕ) → AllByRecursion (λ row. IsSome (f row)) rows → HasValues f rows
values_exist f [] each = record { values = []; are = refl }
values_exist f (row ∷ rows) each = one_more_value f row rows (f row) refl each.0 (values_exist f rows each.1)

pub valid_answered : (leaves : Leaves) (scan : FileScan) → IsValidScan leaves scan → (values : List Datum) × IsAnswer leaves scan.projection (scan_rows scan) values
valid_answered leaves scan valid = let found : HasValues (projected_at leaves scan.projection) (scan_rows scan) = values_exist (projected_at leaves scan.projection) (scan_rows scan) valid.answered in (found.values, found.are)

-- ---- values that aren't

no_value : (f : ℕ → Option Datum) (row : ℕ) (rows : List ℕ) (values : List Datum) → IsAmong row rows → f row ≡ None → ¬ (AreValuesOf f rows values)
no_value f row [] values among gone are = absurd among
no_value f row (other ∷ rows) [] among gone are = absurd cc
no_value f row (other ∷ rows) (v ∷ values) among gone are =
    ⊎_elim (λ (here : other ≡ row). let p : f other ≡ Some v = cc in let q : f other ≡ f row = ap f here in absurd cc)
    (λ (later : IsAmong row rows). let rest : map f rows ≡ map Some values = cc in no_value f row rows values later gone rest) among

root_gone : (b : Bool) (leaves : Leaves) (v : Option Datum) (found : List Read) → (Finds (IsFaulty leaves) found → v ≡ None) → Finds (IsFaulty leaves) (cond b found []) → cond b v (Some null) ≡ None
root_gone true leaves v found gone any = gone any
root_gone false leaves v found gone any = absurd any

row_unanswered : (leaves : Leaves) (p : Projection) (row : ℕ) → Finds (IsFaulty leaves) (scan_reads p row) → projected_at leaves p row ≡ None
row_unanswered leaves p row any =
    let gone : root_value leaves p row ≡ None = root_gone (uses_root p.expression.term) leaves (value leaves p.root (kept_of p) row) (reads p.root directly (kept_of p) row) (λ found. faulty leaves directly (derivation p.root (kept_of p) row) (strict_row p.root (kept_of p) row) found) any in
    ap (option_and_then (λ (v : Datum). meaning (head_of p.root).dtype no_bound p.expression.term v (p.offset + row))) gone

pub faulty_unanswered : (leaves : Leaves) (p : Projection) (rows : List ℕ) (values : List Datum) → ScanFinds (IsFaulty leaves) p rows → ¬ (IsAnswer leaves p rows values)
faulty_unanswered leaves p [] values any are = absurd any
faulty_unanswered leaves p (row ∷ rows) [] any are = absurd cc
faulty_unanswered leaves p (row ∷ rows) (v ∷ values) any are =
    ⊎_elim (λ (here : Finds (IsFaulty leaves) (scan_reads p row)). let e : projected_at leaves p row ≡ Some v = cc in absurd (let f : projected_at leaves p row ≡ None = row_unanswered leaves p row here in cc))
    (λ (later : ScanFinds (IsFaulty leaves) p rows). let rest : map (projected_at leaves p) rows ≡ map Some values = cc in faulty_unanswered leaves p rows values later rest) any

pub fault_by : (f : Datum → Option Datum) (v : Option Datum) → IsSomeAnd v (λ w. f w ≡ None) → option_and_then f v ≡ None
fault_by f None fault = absurd fault
fault_by f (Some v) fault = fault

pub fault_unanswered : (leaves : Leaves) (p : Projection) (rows : List ℕ) (row : ℕ) (values : List Datum) → FaultsAt leaves p rows row → ¬ (IsAnswer leaves p rows values)
fault_unanswered leaves p rows row values faults = no_value (projected_at leaves p) row rows values faults.0 (fault_by (λ v. meaning (head_of p.root).dtype no_bound p.expression.term v (p.offset + row)) (root_value leaves p row) faults.1)

pub answer_one : (leaves : Leaves) (p : Projection) (rows : List ℕ) (ones others : List Datum) → IsAnswer leaves p rows ones → IsAnswer leaves p rows others → ones ≡ others
answer_one leaves p rows ones others first second = values_same (projected_at leaves p) rows ones others first second

-- ---- pieces

abbrev flat : {X : Type 0} → List (List X) → List X
flat pieces = flat_map (λ piece. piece) pieces

by_chunk : (b : Bool) (row other : ℕ) (others : List ℕ) (pieces : List (List ℕ)) → flat (cond b ((row ∷ other ∷ others) ∷ pieces) ((row ∷ []) ∷ (other ∷ others) ∷ pieces)) ≡ row ∷ flat ((other ∷ others) ∷ pieces)
by_chunk true row other others pieces = refl
by_chunk false row other others pieces = refl

front_joins : (size row : ℕ) (pieces : List (List ℕ)) → flat (in_front size row pieces) ≡ row ∷ flat pieces
front_joins size row [] = refl
front_joins size row ([] ∷ pieces) = refl
front_joins size row ((other ∷ others) ∷ pieces) = by_chunk _ row other others pieces

pub pieces_join : (size : ℕ) (rows : List ℕ) → flat (pieces_of size rows) ≡ rows
pieces_join size [] = refl
pieces_join size (row ∷ rows) = front_joins size row (pieces_of size rows) ∙ ap (λ (rest : List ℕ). row ∷ rest) (pieces_join size rows)

pieces_answer_of : (leaves : Leaves) (p : Projection) (pieces : List (List ℕ)) (batches : List (List Datum)) → ArePieces leaves p pieces batches → IsAnswer leaves p (flat pieces) (flat batches)
pieces_answer_of leaves p [] [] are = refl
pieces_answer_of leaves p [] (values ∷ batches) are = absurd are
pieces_answer_of leaves p (rows ∷ pieces) [] are = absurd are
pieces_answer_of leaves p (rows ∷ pieces) (values ∷ batches) are =
    let first : map (projected_at leaves p) rows ≡ map Some values = are.0 in
    let rest : map (projected_at leaves p) (flat pieces) ≡ map Some (flat batches) = pieces_answer_of leaves p pieces batches are.1 in
    map-append (projected_at leaves p) rows (flat pieces)
    ∙ (ap (λ (some : List (Option Datum)). some ++ map (projected_at leaves p) (flat pieces)) first
    ∙ (ap (λ (some : List (Option Datum)). map Some values ++ some) rest
    ∙ sym (map-append Some values (flat batches))))

pub pieces_answer : (leaves : Leaves) (p : Projection) (size : ℕ) (rows : List ℕ) (batches : List (List Datum)) → ArePieces leaves p (pieces_of size rows) batches → IsAnswer leaves p rows (flat batches)
pieces_answer leaves p size rows batches are = subst (λ (joined : List ℕ). IsAnswer leaves p joined (flat batches)) (pieces_join size rows) (pieces_answer_of leaves p (pieces_of size rows) batches are)
