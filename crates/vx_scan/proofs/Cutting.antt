-- The chunks of a range, cut one after another.
use Rattle.std.proofs.Common.{inl, inr, ◌≡◌, ◌⊎◌, ℕ, ◌+◌, ◌-◌, ◌<◌, ◌≤◌, Bool, true, List, [], ◌∷◌, ◌++◌, Option, Some, None, length, map, refl, sym, ap, ◌∙◌, arith}
use Rattle.std.specs.Prelude.{IsNone}
use Rattle.std.specs.List.{slice_get, AllByRecursion}
use Rattle.std.specs.declared.ops.Range.{Range}
use Rattle.std.proofs.lemmas.Bool.{leb-true, le-leb, le-ltb}
use Rattle.std.proofs.lemmas.List.{append-nil, length-map, map-append}
use Rattle.std.proofs.lemmas.List.FromFn.{length-range_with_len}
use Rattle.vx_splits.specs.declared.selected_rows.SelectedRows.{SelectedRows}
use Rattle.vx_splits.specs.declared.selected_rows.WorkScope.{WorkScope}
use Rattle.vx_splits.specs.declared.selections.Selection.{Selection}
use Rattle.vx_splits.specs.Chunks.{row_chunks}
use Rattle.vx_base.specs.Masks.{true_count}
use Rattle.vx_splits.specs.Taken.{rows_between, selects, selected_rows}
use Rattle.vx_splits.specs.Trimmed.{selection_mask, chosen_rows, IsTrimmed}
use Rattle.vx_splits.proofs.ChunkRows.{joins}
use Rattle.vx_splits.proofs.FirstChunks.{rows_counted, tight_trimmed}
use Rattle.vx_drive.specs.Plans.{AreInOrder}
use Rattle.vx_workers.proofs.NewReasons.{end_of, end_next, follow_more}
use Rattle.vx_scan.specs.Answer.{pieces_of}
use Rattle.vx_scan.specs.FilePlans.{IsCutBy, LiesInside, AreEnough, is_met, rows_in}
use Rattle.vx_scan.proofs.FirstPieces.{rows_more}
use Rattle.vx_scan.proofs.Pieces.{nonempty}
use Rattle.vx_scan.proofs.ChunkPieces.{selected_of, chunk_pieces}

-- So far these chunks were cut: of the ranges before that row, with so many rows or more.
pub record Cutting (selection : Selection) (size start end next count : ℕ) (chunks : List SelectedRows) : Type 0 where
  pub done : List (Range ℕ)
  pub joined : done ++ row_chunks size next end ≡ row_chunks size start end
  pub pieces : map chosen_rows chunks ≡ nonempty (map (selected_of (selects selection)) done)
  pub counted : count ≤ rows_in (map chosen_rows chunks)
  pub inside : AllByRecursion (LiesInside end) chunks
  pub ordered : AreInOrder chunks
  pub behind : end_of 0 chunks ≤ next
  pub trimmed : AllByRecursion (IsCutBy selection) chunks

-- The range is the first of those from that row on.
pub record IsNext (size next end : ℕ) (range : Range ℕ) : Type 0 where
  pub first : row_chunks size next end ≡ range ∷ row_chunks size range.end end
  pub start : range.start ≡ next
  pub forwards : range.start < range.end
  pub inside : range.end ≤ end

pub cut_none : (selection : Selection) (size start end : ℕ) (chunks : List SelectedRows) → chunks ≡ [] → Cutting selection size start end start 0 chunks
cut_none selection size start end chunks empty =
    rw empty (record { done = []; joined = refl; pieces = refl; counted = omega arith; inside = tt; ordered = tt; behind = omega arith; trimmed = tt })

-- the next range is one of those that were cut
next_joined : (size start end next : ℕ) (done : List (Range ℕ)) (range : Range ℕ) → done ++ row_chunks size next end ≡ row_chunks size start end → IsNext size next end range → (done ++ range ∷ []) ++ row_chunks size range.end end ≡ row_chunks size start end
next_joined size start end next done range joined is =
    append_moved done range (row_chunks size range.end end) ∙ (ap (λ (ranges : List (Range ℕ)). done ++ ranges) (sym is.first) ∙ joined)
  where
    append_moved : (done : List (Range ℕ)) (range : Range ℕ) (rest : List (Range ℕ)) → (done ++ range ∷ []) ++ rest ≡ done ++ range ∷ rest
    append_moved [] range rest = refl
    append_moved (one ∷ done) range rest = ap (λ (ranges : List (Range ℕ)). one ∷ ranges) (append_moved done range rest)

nonempty_then : (ones twos : List (List ℕ)) → nonempty (ones ++ twos) ≡ nonempty ones ++ nonempty twos
nonempty_then [] twos = refl
nonempty_then ([] ∷ ones) twos = nonempty_then ones twos
nonempty_then ((row ∷ rows) ∷ ones) twos = ap (λ (pieces : List (List ℕ)). (row ∷ rows) ∷ pieces) (nonempty_then ones twos)

one_more : (selection : Selection) (done : List (Range ℕ)) (range : Range ℕ) → nonempty (map (selected_of (selects selection)) (done ++ range ∷ [])) ≡ nonempty (map (selected_of (selects selection)) done) ++ nonempty (selected_rows selection range.start range.end ∷ [])
one_more selection done range =
    ap nonempty (map-append (selected_of (selects selection)) done (range ∷ [])) ∙ nonempty_then (map (selected_of (selects selection)) done) (selected_rows selection range.start range.end ∷ [])

-- nothing of the range is selected
pub cut_skip : (selection : Selection) (size start end next count : ℕ) (range : Range ℕ) (chunks : List SelectedRows) → Cutting selection size start end next count chunks → IsNext size next end range → selected_rows selection range.start range.end ≡ [] → Cutting selection size start end range.end count chunks
cut_skip selection size start end next count range chunks so_far is none = record {
  done = so_far.done ++ range ∷ [];
  joined = next_joined size start end next so_far.done range so_far.joined is;
  pieces = so_far.pieces ∙ (sym (append-nil (nonempty (map (selected_of (selects selection)) so_far.done)))
      ∙ (ap (λ (rows : List ℕ). nonempty (map (selected_of (selects selection)) so_far.done) ++ nonempty (rows ∷ [])) (sym none) ∙ sym (one_more selection so_far.done range)));
  counted = so_far.counted;
  inside = so_far.inside;
  ordered = so_far.ordered;
  behind = let low = so_far.behind in let from = is.start in let some = is.forwards in omega (arith, low, from, some);
  trimmed = so_far.trimmed;
}

some_piece : (rows : List ℕ) → (rows ≡ [] → ⊥) → nonempty (rows ∷ []) ≡ rows ∷ []
some_piece [] some = absurd (some refl)
some_piece (row ∷ rows) some = refl

each_more : (P : SelectedRows → Type 0) (chunks : List SelectedRows) (chunk : SelectedRows) → AllByRecursion P chunks → P chunk → AllByRecursion P (chunks ++ chunk ∷ [])
each_more P [] chunk each is = (is, tt)
each_more P (one ∷ chunks) chunk each is = (each.0, each_more P chunks chunk each.1 is)

pub mask_length : (selection : Selection) (start end : ℕ) → length (selection_mask selection start end) ≡ end - start
mask_length selection start end = length-map (rows_between start end) (selects selection) ∙ length-range_with_len start (end - start)

first_there : (bits : List Bool) → slice_get bits 0 ≡ Some true → 0 < length bits
first_there [] at = absurd cc
first_there (bit ∷ bits) at = omega arith

-- a count of the rows of chunks, with those of one more
pub count_more : (selection : Selection) (scope : WorkScope) (chunks : List SelectedRows) (chunk : SelectedRows) (count next : ℕ) → IsTrimmed selection scope chunk → count ≤ rows_in (map chosen_rows chunks) → next ≤ count + true_count chunk.mask → next ≤ rows_in (map chosen_rows (chunks ++ chunk ∷ []))
count_more selection scope chunks chunk count next is few less =
    let here = rows_counted chunk (tight_trimmed selection scope chunk is) in
    let joined : rows_in (map chosen_rows (chunks ++ chunk ∷ [])) ≡ rows_in (map chosen_rows chunks) + length (chosen_rows chunk) =
    ap rows_in (map-append chosen_rows chunks (chunk ∷ [])) ∙ rows_more (map chosen_rows chunks) (chosen_rows chunk) in
    omega (arith, here, joined, few, less)

lies_inside : (selection : Selection) (end : ℕ) (scope : WorkScope) (chunk : SelectedRows) → IsTrimmed selection scope chunk → scope.rows.end ≤ end → LiesInside end chunk
lies_inside selection end scope chunk is below =
    let count : length chunk.mask ≡ chunk.scope.rows.end - chunk.scope.rows.start = ap length is.mask ∙ mask_length selection chunk.scope.rows.start chunk.scope.rows.end in
    let some : 0 < length chunk.mask = first_there chunk.mask is.begins_with_true in
    let ends : chunk.scope.rows.end ≤ scope.rows.end = is.ends in
    record { forwards = omega (arith, count, some); below = omega (arith, below, ends); mask = count }

pub cut_has_rows : (selection : Selection) (scope : WorkScope) (chunk : SelectedRows) → IsTrimmed selection scope chunk → chunk.scope.rows.start < chunk.scope.rows.end
cut_has_rows selection scope chunk is =
    let count : length chunk.mask ≡ chunk.scope.rows.end - chunk.scope.rows.start = ap length is.mask ∙ mask_length selection chunk.scope.rows.start chunk.scope.rows.end in
    let some : 0 < length chunk.mask = first_there chunk.mask is.begins_with_true in
    omega (arith, count, some)

-- a chunk of the range is left
pub cut_more : (selection : Selection) (size start end next count : ℕ) (range : Range ℕ) (chunks : List SelectedRows) (chunk : SelectedRows) (more : ℕ) → Cutting selection size start end next count chunks → IsNext size next end range → IsTrimmed selection (record { file_ordinal = 0; rows = range }) chunk →
    (selected_rows selection range.start range.end ≡ [] → ⊥) → more ≤ count + true_count chunk.mask → Cutting selection size start end range.end more (chunks ++ chunk ∷ [])
cut_more selection size start end next count range chunks chunk more so_far is cut some less =
    let scope : WorkScope = record { file_ordinal = 0; rows = range } in
    let done : List (Range ℕ) = so_far.done in
    let has : chunk.scope.rows.start < chunk.scope.rows.end = cut_has_rows selection scope chunk cut in
    let first : range.start ≤ chunk.scope.rows.start = cut.starts in
    let last : chunk.scope.rows.end ≤ range.end = cut.ends in
    record {
      done = done ++ range ∷ [];
      joined = next_joined size start end next done range so_far.joined is;
      pieces = map-append chosen_rows chunks (chunk ∷ [])
          ∙ (ap (λ (pieces : List (List ℕ)). pieces ++ chosen_rows chunk ∷ []) so_far.pieces
          ∙ (ap (λ (rows : List ℕ). nonempty (map (selected_of (selects selection)) done) ++ rows ∷ []) cut.keeps
          ∙ (ap (λ (pieces : List (List ℕ)). nonempty (map (selected_of (selects selection)) done) ++ pieces) (sym (some_piece (selected_rows selection range.start range.end) some))
          ∙ sym (one_more selection done range))));
      counted = count_more selection scope chunks chunk count more cut so_far.counted less;
      inside = each_more (LiesInside end) chunks chunk so_far.inside (lies_inside selection end scope chunk cut is.inside);
      ordered = follow_more 0 chunks chunk (record { before = so_far.ordered; behind = let low = so_far.behind in let from = is.start in omega (arith, low, from, first); forwards = omega (arith, has) });
      behind = let here = end_next 0 chunks chunk in omega (arith, here, last);
      trimmed = each_more (IsCutBy selection) chunks chunk so_far.trimmed (scope, refl, cut);
    }

-- The chunks have the pieces of all rows that are selected, or as many of them as the limit needs.
pub cut_enough : (selection : Selection) (size start end next count : ℕ) (limit : Option ℕ) (chunks : List SelectedRows) → 0 < size → Cutting selection size start end next count chunks → (end ≤ next) ⊎ (is_met limit count ≡ true)
    → AreEnough limit (pieces_of size (selected_rows selection start end)) (map chosen_rows chunks)
cut_enough selection size start end next count limit chunks some so_far why =
    let of : List (Range ℕ) → List (List ℕ) = λ (ranges : List (Range ℕ)). nonempty (map (selected_of (selects selection)) ranges) in
    let done : List (Range ℕ) = so_far.done in
    let rest : List (Range ℕ) = row_chunks size next end in
    record {
      later = of rest;
      joined = ap (λ (pieces : List (List ℕ)). pieces ++ of rest) so_far.pieces
          ∙ (sym (nonempty_then (map (selected_of (selects selection)) done) (map (selected_of (selects selection)) rest))
          ∙ (ap nonempty (sym (map-append (selected_of (selects selection)) done rest))
          ∙ (ap of so_far.joined ∙ sym (chunk_pieces (selects selection) size start end some (joins selection size start end some)))));
      enough = elim why [
        | inl all ↦ inl (ap of (none_left size next end all))
        | inr met ↦ inr (still_met limit count (rows_in (map chosen_rows chunks)) so_far.counted met)
      ];
    }
  where
    none_left : (size next end : ℕ) → end ≤ next → row_chunks size next end ≡ []
    none_left size next end all = rw (le-ltb next end all) refl

    still_met : (limit : Option ℕ) (count more : ℕ) → count ≤ more → is_met limit count ≡ true → is_met limit more ≡ true
    still_met None count more few met = absurd cc
    still_met (Some limit) count more few met = let enough = leb-true limit count met in le-leb limit more (omega (arith, enough, few))

pub not_none : (o : Option SelectedRows) (chunk : SelectedRows) → o ≡ Some chunk → IsNone o → ⊥
not_none None chunk is none = cc
not_none (Some one) chunk is none = cc
