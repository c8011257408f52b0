-- The chunks of the first rows of a scan.
use Rattle.std.proofs.Common.{inl, inr, ◌≡◌, ◌⊎◌, ℕ, zero, suc, ◌+◌, ◌-◌, ◌<◌, ◌≤◌, Bool, true, false, List, [], ◌∷◌, ◌++◌, length, take, map, Some, None, Result, Ok, Err, Vec, Global, refl, sym, ap, ◌∙◌, subst, arith}
use Rattle.std.specs.Prelude.{nat_le, if◌then◌else◌, IfOk}
use Rattle.std.specs.declared.alloc.AllocError.{AllocError}
use Rattle.std.specs.List.{slice_get, range_with_len, AllByRecursion}
use Rattle.std.proofs.lemmas.Bool.{leb-true}
use Rattle.std.proofs.lemmas.List.{append-nil, length-take}
use Rattle.std.proofs.lemmas.List.FromFn.{length-range_with_len}
use Rattle.vx_base.specs.Masks.{chosen, true_count, place_of_rank}
use Rattle.vx_splits.specs.declared.selected_rows.SelectedRows.{SelectedRows}
use Rattle.vx_splits.specs.declared.selections.Selection.{Selection}
use Rattle.vx_splits.specs.FirstRows.{IsTight, cut_to, first_part, first_chunks}
use Rattle.vx_splits.specs.Taken.{rows_between, selects, selected_rows}
use Rattle.vx_splits.specs.Trimmed.{selection_mask, chosen_rows, IsTrimmed}
use Rattle.vx_splits.proofs.Between.{chosen_kept}
use Rattle.vx_splits.proofs.FirstChunks.{part_rows, rows_counted, tight_trimmed}
use Rattle.vx_drive.specs.Plans.{AreInOrder, FollowFrom}
use Rattle.vx_scan.specs.Answer.{pieces_of}
use Rattle.vx_scan.specs.FilePlans.{AreEnough, IsCutBy, LiesInside, rows_in}
use Rattle.vx_scan.proofs.Cutting.{mask_length}
use Rattle.vx_scan.proofs.FirstPieces.{firsts, firsts_enough, first_pieces}

-- ---- chunks that were trimmed are tight

pub all_tight : (selection : Selection) (chunks : List SelectedRows) → AllByRecursion (IsCutBy selection) chunks → AllByRecursion IsTight chunks
all_tight selection [] cut = tt
all_tight selection (chunk ∷ chunks) cut = (tight_trimmed selection (cut.0).0 chunk (cut.0).2, all_tight selection chunks cut.1)

-- ---- their rows

first_row : (mask : List Bool) (rows : List ℕ) → slice_get mask 0 ≡ Some true → length mask ≡ length rows → 0 < length (chosen mask rows)
first_row [] rows at same = absurd cc
first_row (false ∷ mask) rows at same = absurd cc
first_row (true ∷ mask) [] at same = absurd (omega (arith, same))
first_row (true ∷ mask) (row ∷ rows) at same = omega arith

tight_some : (chunk : SelectedRows) → IsTight chunk → 0 < length (chosen_rows chunk)
tight_some chunk tight =
    let start : ℕ = chunk.scope.rows.start in
    let end : ℕ = chunk.scope.rows.end in
    first_row chunk.mask (rows_between start end) tight.begins_with_true (tight.mask ∙ sym (length-range_with_len start (end - start)))

with_rows : (limit count : ℕ) (rows : List ℕ) (pieces : List (List ℕ)) → count ≡ length rows → 0 < length rows → take (suc limit) rows ∷ firsts (suc limit - count) pieces ≡ firsts (suc limit) (rows ∷ pieces)
with_rows limit count [] pieces same some = absurd (omega (arith, some))
with_rows limit count (row ∷ rows) pieces same some =
    let e : suc limit - count ≡ limit - length rows = omega (arith, same) in
    ap (λ (n : ℕ). (row ∷ take limit rows) ∷ firsts n pieces) e

pub chunk_firsts : (limit : ℕ) (chunks : List SelectedRows) → AllByRecursion IsTight chunks → map chosen_rows (first_chunks limit chunks) ≡ firsts limit (map chosen_rows chunks)
chunk_firsts zero chunks tight = refl
chunk_firsts (suc limit) [] tight = refl
chunk_firsts (suc limit) (chunk ∷ chunks) tight =
    let rest = chunk_firsts (suc limit - true_count chunk.mask) chunks tight.1 in
    ap (λ (rows : List ℕ). rows ∷ map chosen_rows (first_chunks (suc limit - true_count chunk.mask) chunks)) (part_rows limit chunk tight.0)
    ∙ (ap (λ (pieces : List (List ℕ)). take (suc limit) (chosen_rows chunk) ∷ pieces) rest
    ∙ with_rows limit (true_count chunk.mask) (chosen_rows chunk) (map chosen_rows chunks) (rows_counted chunk tight.0) (tight_some chunk tight.0))

-- ---- a part of a chunk

-- the chunk itself, or so many of its rows
abbrev IsPart : SelectedRows → SelectedRows → Type 0
IsPart chunk part = (part ≡ chunk) ⊎ ((rows : ℕ) × (part ≡ cut_to rows chunk))

part_is : (limit : ℕ) (chunk : SelectedRows) → IsPart chunk (first_part limit chunk)
part_is limit chunk = by (nat_le (true_count chunk.mask) limit)
  where
    by : (b : Bool) → IsPart chunk (if b then chunk else cut_to (place_of_rank chunk.mask (limit - 1) + 1) chunk)
    by true = inl refl
    by false = inr (place_of_rank chunk.mask (limit - 1) + 1, refl)

-- it begins where the chunk does, and ends there or before
record Within (end : ℕ) (chunk part : SelectedRows) : Type 0 where
  starts : part.scope.rows.start ≡ chunk.scope.rows.start
  ends : part.scope.rows.end ≤ chunk.scope.rows.end
  inside : LiesInside end part

few_rows : (rows : ℕ) (chunk : SelectedRows) → IsTight (cut_to rows chunk) → rows ≤ length chunk.mask
few_rows rows chunk tight = let count = tight.mask in let taken = length-take rows chunk.mask in omega (arith, count, taken)

part_within : (end : ℕ) (chunk part : SelectedRows) → IsPart chunk part → IsTight part → LiesInside end chunk → Within end chunk part
part_within end chunk part (inl same) tight inside = rw same (record { starts = refl; ends = omega arith; inside = inside })
part_within end chunk part (inr (rows, is)) tight inside =
    let cut : IsTight (cut_to rows chunk) = subst IsTight is tight in
    let few = few_rows rows chunk cut in
    let forwards = inside.forwards in
    let below = inside.below in
    let mask = inside.mask in
    let count = cut.mask in
    rw is (record { starts = refl; ends = omega (arith, few, forwards, mask); inside = record { forwards = omega arith; below = omega (arith, few, forwards, mask, below); mask = count } })

pub firsts_inside : (end limit : ℕ) (chunks : List SelectedRows) → AllByRecursion IsTight (first_chunks limit chunks) → AllByRecursion (LiesInside end) chunks → AllByRecursion (LiesInside end) (first_chunks limit chunks)
firsts_inside end zero chunks tight inside = tt
firsts_inside end (suc limit) [] tight inside = tt
firsts_inside end (suc limit) (chunk ∷ chunks) tight inside = (
  (part_within end chunk (first_part (suc limit) chunk) (part_is (suc limit) chunk) tight.0 inside.0).inside,
  firsts_inside end (suc limit - true_count chunk.mask) chunks tight.1 inside.1,
)

firsts_follow : (end limit row low : ℕ) → low ≤ row → (chunks : List SelectedRows) → AllByRecursion IsTight (first_chunks limit chunks) → AllByRecursion (LiesInside end) chunks → FollowFrom row chunks → FollowFrom low (first_chunks limit chunks)
firsts_follow end zero row low less chunks tight inside follow = tt
firsts_follow end (suc limit) row low less [] tight inside follow = tt
firsts_follow end (suc limit) row low less (chunk ∷ chunks) tight inside follow =
    let within = part_within end chunk (first_part (suc limit) chunk) (part_is (suc limit) chunk) tight.0 inside.0 in
    let starts = within.starts in
    let from = follow.0 in (
      omega (arith, less, starts, from),
      within.inside.forwards,
      firsts_follow end (suc limit - true_count chunk.mask) chunk.scope.rows.end (first_part (suc limit) chunk).scope.rows.end within.ends chunks tight.1 inside.1 follow.2,
    )

pub firsts_ordered : (end limit : ℕ) (chunks : List SelectedRows) → AllByRecursion IsTight (first_chunks limit chunks) → AllByRecursion (LiesInside end) chunks → AreInOrder chunks → AreInOrder (first_chunks limit chunks)
firsts_ordered end limit chunks tight inside ordered = firsts_follow end limit 0 0 (omega arith) chunks tight inside ordered

-- ---- the masks

take_marks : (test : ℕ → Bool) (rows count start : ℕ) → rows ≤ count → take rows (map test (range_with_len start count)) ≡ map test (range_with_len start rows)
take_marks test zero count start few = refl
take_marks test (suc rows) zero start few = absurd (omega (arith, few))
take_marks test (suc rows) (suc count) start few = ap (λ (bits : List Bool). test start ∷ bits) (take_marks test rows count (start + 1) (omega (arith, few)))

part_trimmed : (selection : Selection) (chunk part : SelectedRows) → IsPart chunk part → IsTight part → IsCutBy selection chunk → IsCutBy selection part
part_trimmed selection chunk part (inl same) tight cut = subst (IsCutBy selection) (sym same) cut
part_trimmed selection chunk part (inr (rows, is)) tight (scope, first_file, trimmed) =
    let start : ℕ = chunk.scope.rows.start in
    let end : ℕ = chunk.scope.rows.end in
    let cut : IsTight (cut_to rows chunk) = subst IsTight is tight in
    let few = few_rows rows chunk cut in
    let long : length chunk.mask ≡ end - start = ap length trimmed.mask ∙ mask_length selection start end in
    let count : (start + rows) - start ≡ rows = omega arith in
    let mask : take rows chunk.mask ≡ selection_mask selection start (start + rows) =
    ap (take rows) trimmed.mask ∙ (take_marks (selects selection) rows (end - start) start (omega (arith, few, long)) ∙ ap (λ (n : ℕ). map (selects selection) (range_with_len start n)) (sym count)) in
    let keeps : chosen_rows (cut_to rows chunk) ≡ selected_rows selection start (start + rows) =
    ap (λ (bits : List Bool). chosen bits (rows_between start (start + rows))) mask ∙ chosen_kept (selects selection) (rows_between start (start + rows)) in
    let done : IsTrimmed selection (cut_to rows chunk).scope (cut_to rows chunk) =
    record { file = refl; starts = omega arith; ends = omega arith; mask = mask; keeps = keeps; begins_with_true = cut.begins_with_true; ends_with_true = cut.ends_with_true } in
    subst (IsCutBy selection) (sym is) ((cut_to rows chunk).scope, trimmed.file ∙ first_file, done)

pub firsts_trimmed : (selection : Selection) (limit : ℕ) (chunks : List SelectedRows) → AllByRecursion IsTight (first_chunks limit chunks) → AllByRecursion (IsCutBy selection) chunks → AllByRecursion (IsCutBy selection) (first_chunks limit chunks)
firsts_trimmed selection zero chunks tight cut = tt
firsts_trimmed selection (suc limit) [] tight cut = tt
firsts_trimmed selection (suc limit) (chunk ∷ chunks) tight cut = (
  part_trimmed selection chunk (first_part (suc limit) chunk) (part_is (suc limit) chunk) tight.0 cut.0,
  firsts_trimmed selection (suc limit - true_count chunk.mask) chunks tight.1 cut.1,
)

-- ---- what cutting the chunks gives

-- pieces of which there are enough have the first rows of all
enough_first : (limit : ℕ) (all pieces : List (List ℕ)) → AreEnough (Some limit) all pieces → firsts limit pieces ≡ firsts limit all
enough_first limit all pieces are = elim are.enough [
  | inl none ↦ ap (firsts limit) (sym (append-nil pieces) ∙ (ap (λ (later : List (List ℕ)). pieces ++ later) (sym none) ∙ are.joined))
  | inr met ↦ sym (firsts_enough limit pieces are.later (leb-true limit (rows_in pieces) met)) ∙ ap (firsts limit) are.joined
]

pub pieces_or : (selection : Selection) (size limit : ℕ) (rows : List ℕ) (chunks : List SelectedRows) (result : Result (Vec SelectedRows Global) AllocError) → AllByRecursion (IsCutBy selection) chunks → AreEnough (Some limit) (pieces_of size rows) (map chosen_rows chunks)
    → IfOk result (λ left. left.items ≡ first_chunks limit chunks) → IfOk result (λ left. map chosen_rows left.items ≡ pieces_of size (take limit rows))
pieces_or selection size limit rows chunks (Ok left) cut enough is =
    ap (map chosen_rows) is ∙ (chunk_firsts limit chunks (all_tight selection chunks cut) ∙ (enough_first limit (pieces_of size rows) (map chosen_rows chunks) enough ∙ sym (first_pieces size limit rows)))
pieces_or selection size limit rows chunks (Err error) cut enough is = tt

pub inside_or : (end limit : ℕ) (chunks : List SelectedRows) (result : Result (Vec SelectedRows Global) AllocError) → IfOk result (λ left. left.items ≡ first_chunks limit chunks) → IfOk result (λ left. AllByRecursion IsTight left.items) → AllByRecursion (LiesInside end) chunks
    → IfOk result (λ left. AllByRecursion (LiesInside end) left.items)
inside_or end limit chunks (Ok left) is tight inside = subst (AllByRecursion (LiesInside end)) (sym is) (firsts_inside end limit chunks (subst (AllByRecursion IsTight) is tight) inside)
inside_or end limit chunks (Err error) is tight inside = tt

pub ordered_or : (end limit : ℕ) (chunks : List SelectedRows) (result : Result (Vec SelectedRows Global) AllocError) → IfOk result (λ left. left.items ≡ first_chunks limit chunks) → IfOk result (λ left. AllByRecursion IsTight left.items) → AllByRecursion (LiesInside end) chunks → AreInOrder chunks
    → IfOk result (λ left. AreInOrder left.items)
ordered_or end limit chunks (Ok left) is tight inside ordered = subst AreInOrder (sym is) (firsts_ordered end limit chunks (subst (AllByRecursion IsTight) is tight) inside ordered)
ordered_or end limit chunks (Err error) is tight inside ordered = tt

pub trimmed_or : (selection : Selection) (limit : ℕ) (chunks : List SelectedRows) (result : Result (Vec SelectedRows Global) AllocError) → IfOk result (λ left. left.items ≡ first_chunks limit chunks) → IfOk result (λ left. AllByRecursion IsTight left.items) → AllByRecursion (IsCutBy selection) chunks
    → IfOk result (λ left. AllByRecursion (IsCutBy selection) left.items)
trimmed_or selection limit chunks (Ok left) is tight cut = subst (AllByRecursion (IsCutBy selection)) (sym is) (firsts_trimmed selection limit chunks (subst (AllByRecursion IsTight) is tight) cut)
trimmed_or selection limit chunks (Err error) is tight cut = tt

-- without a limit all pieces are there
pub all_pieces : (all pieces : List (List ℕ)) → AreEnough None all pieces → pieces ≡ all
all_pieces all pieces are = elim are.enough [
  | inl none ↦ sym (append-nil pieces) ∙ (ap (λ (later : List (List ℕ)). pieces ++ later) (sym none) ∙ are.joined)
  | inr met ↦ absurd (let e : false ≡ true = met in cc)
]
