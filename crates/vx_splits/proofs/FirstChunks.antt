-- The first selected rows of chunks: what is left of each, and that they are the first of all.
use Rattle.std.proofs.Common.{inl, inr, ◌≡◌, ℕ, zero, suc, ◌+◌, ◌-◌, ◌<◌, ◌≤◌, Bool, true, false, List, [], ◌∷◌, ◌++◌, length, take, drop, Some, slice_get, refl, sym, ap, ◌∙◌, arith, le-leb}
use Rattle.std.specs.List.{AllByRecursion, flat_map}
use Rattle.std.proofs.lemmas.Bool.{cases_lt, lt-leb}
use Rattle.std.proofs.lemmas.List.{append-nil, length-map}
use Rattle.std.proofs.lemmas.List.Concat.{flat_map-cons}
use Rattle.std.proofs.lemmas.List.FromFn.{length-range_with_len}
use Rattle.vx_masks.proofs.Places.{true_count-cons, rank_found, rank_inside}
use Rattle.vx_masks.proofs.Chosen.{chosen_front}
use Rattle.vx_base.specs.Masks.{chosen, true_count, place_of_rank}
use Rattle.vx_splits.specs.declared.selected_rows.SelectedRows.{SelectedRows}
use Rattle.vx_splits.specs.declared.selected_rows.WorkScope.{WorkScope}
use Rattle.vx_splits.specs.declared.selections.Selection.{Selection}
use Rattle.vx_splits.specs.FirstRows.{IsTight, cut_to, first_part, first_chunks}
use Rattle.vx_splits.specs.Taken.{rows_between, selects}
use Rattle.vx_splits.specs.Trimmed.{chosen_rows, IsTrimmed}
use Rattle.vx_splits.proofs.Between.{split_at}

-- ---- lists
module _ (X : Type 0) where
  take_all : (n : ℕ) (xs : List X) → length xs ≤ n → take n xs ≡ xs
  take_all zero [] h = refl
  take_all zero (x ∷ xs) h = absurd (omega arith)
  take_all (suc n) [] h = refl
  take_all (suc n) (x ∷ xs) h = ap (λ (ys : List X). x ∷ ys) (take_all n xs (omega arith))

  take_both : (n : ℕ) (xs ys : List X) → take n (xs ++ ys) ≡ take n xs ++ take (n - length xs) ys
  take_both zero [] ys = refl
  take_both (suc n) [] ys = let e : suc n ≡ suc n - 0 = omega arith in ap (λ (k : ℕ). take k ys) e
  take_both zero (x ∷ xs) ys = let e : 0 ≡ 0 - suc (length xs) = omega arith in ap (λ (k : ℕ). take k ys) e
  take_both (suc n) (x ∷ xs) ys =
      let e : n - length xs ≡ suc n - suc (length xs) = omega arith in
      ap (λ (zs : List X). x ∷ zs) (take_both n xs ys) ∙ ap (λ (k : ℕ). x ∷ take n xs ++ take k ys) e

  length_taken : (n : ℕ) (xs : List X) → n ≤ length xs → length (take n xs) ≡ n
  length_taken zero xs h = refl
  length_taken (suc n) [] h = absurd (omega arith)
  length_taken (suc n) (x ∷ xs) h = ap suc (length_taken n xs (omega arith))

  taken_at : (n : ℕ) (xs : List X) (i : ℕ) → i < n → slice_get (take n xs) i ≡ slice_get xs i
  taken_at zero xs i h = absurd (omega arith)
  taken_at (suc n) [] i h = refl
  taken_at (suc n) (x ∷ xs) zero h = refl
  taken_at (suc n) (x ∷ xs) (suc i) h = taken_at n xs i (omega arith)

  dropped_at : (i : ℕ) (xs : List X) (x : X) → slice_get xs i ≡ Some x → drop i xs ≡ x ∷ drop (suc i) xs
  dropped_at i [] x at = absurd (cc)
  dropped_at zero (y ∷ xs) x at = rw (some_same y x at) refl
    where
      some_same : (y x : X) → Some y ≡ Some x → y ≡ x
      some_same y x e = cc
  dropped_at (suc i) (y ∷ xs) x at = dropped_at i xs x at

  drop_all : (n : ℕ) (xs : List X) → length xs ≤ n → drop n xs ≡ []
  drop_all zero [] h = refl
  drop_all zero (x ∷ xs) h = absurd (omega arith)
  drop_all (suc n) [] h = refl
  drop_all (suc n) (x ∷ xs) h = drop_all n xs (omega arith)

-- ---- the place of a rank, row by row: so many rows were passed, and among the others it is the one of the rank left
abbrev pub PlaceAhead : List Bool → ℕ → ℕ → ℕ → Type 0
PlaceAhead mask rank row left = row + place_of_rank (drop row mask) left ≡ place_of_rank mask rank

pub place_false : (mask : List Bool) (rank row left : ℕ) → slice_get mask row ≡ Some false → PlaceAhead mask rank row left → PlaceAhead mask rank (row + 1) left
place_false mask rank row left at so_far =
    let here = ap (λ (bits : List Bool). place_of_rank bits left) (dropped_at Bool row mask false at) in
    let e : row + 1 ≡ suc row = omega arith in
    rw e (omega (arith, here, so_far))

pub place_true : (mask : List Bool) (rank row left : ℕ) → slice_get mask row ≡ Some true → PlaceAhead mask rank row (suc left) → PlaceAhead mask rank (row + 1) left
place_true mask rank row left at so_far =
    let here = ap (λ (bits : List Bool). place_of_rank bits (suc left)) (dropped_at Bool row mask true at) in
    let e : row + 1 ≡ suc row = omega arith in
    rw e (omega (arith, here, so_far))

pub place_here : (mask : List Bool) (rank row : ℕ) → slice_get mask row ≡ Some true → PlaceAhead mask rank row 0 → row ≡ place_of_rank mask rank
place_here mask rank row at so_far =
    let here = ap (λ (bits : List Bool). place_of_rank bits 0) (dropped_at Bool row mask true at) in
    omega (arith, here, so_far)

pub place_nowhere : (mask : List Bool) (rank row left : ℕ) → length mask ≡ row → PlaceAhead mask rank row left → row ≡ place_of_rank mask rank
place_nowhere mask rank row left long so_far =
    let here = ap (λ (bits : List Bool). place_of_rank bits left) (drop_all Bool row mask (omega arith)) in
    omega (arith, here, so_far)

-- ---- one chunk

count_chosen : (mask : List Bool) (xs : List ℕ) → length mask ≤ length xs → length (chosen mask xs) ≡ true_count mask
count_chosen [] xs h = refl
count_chosen (bit ∷ mask) [] h = absurd (omega arith)
count_chosen (true ∷ mask) (x ∷ xs) h = omega (arith, count_chosen mask xs (omega arith), true_count-cons true mask)
count_chosen (false ∷ mask) (x ∷ xs) h = omega (arith, count_chosen mask xs (omega arith), true_count-cons false mask)

chosen_first : (mask : List Bool) (xs : List ℕ) (rank : ℕ) → rank < true_count mask → chosen (take (suc (place_of_rank mask rank)) mask) xs ≡ take (suc rank) (chosen mask xs)
chosen_first [] xs rank h = absurd (omega arith)
chosen_first (false ∷ mask) [] rank h = refl
chosen_first (false ∷ mask) (x ∷ xs) rank h = chosen_first mask xs rank (omega (arith, true_count-cons false mask))
chosen_first (true ∷ mask) [] zero h = refl
chosen_first (true ∷ mask) [] (suc rank) h = refl
chosen_first (true ∷ mask) (x ∷ xs) zero h = refl
chosen_first (true ∷ mask) (x ∷ xs) (suc rank) h = ap (λ (rows : List ℕ). x ∷ rows) (chosen_first mask xs rank (omega (arith, true_count-cons true mask)))

row_length : (start end : ℕ) → length (rows_between start end) ≡ end - start
row_length start end = length-range_with_len start (end - start)

-- so many rows of the chunk, and more of its selected rows than the limit: the rows that are left end with the last one
pub record Cut (chunk : SelectedRows) (rows limit : ℕ) : Type 0 where
  pub some : 0 < limit
  pub more : limit ≤ true_count chunk.mask
  pub place : rows ≡ suc (place_of_rank chunk.mask (limit - 1))

pub cut_inside : (chunk : SelectedRows) (rows limit : ℕ) → Cut chunk rows limit → rows ≤ length chunk.mask
cut_inside chunk rows limit cut =
    let some = cut.some in
    let more = cut.more in
    let place = cut.place in
    let inside = rank_inside chunk.mask (limit - 1) (omega arith) in
    omega (arith, inside, place)

cut_rows : (chunk : SelectedRows) (rows limit : ℕ) → IsTight chunk → Cut chunk rows limit → chosen_rows (cut_to rows chunk) ≡ take limit (chosen_rows chunk)
cut_rows chunk rows limit tight cut =
    let some = cut.some in
    let more = cut.more in
    let start : ℕ = chunk.scope.rows.start in
    let end : ℕ = chunk.scope.rows.end in
    let bits : List Bool = take rows chunk.mask in
    let inside = cut_inside chunk rows limit cut in
    let long = tight.mask in
    let all : rows_between start end ≡ rows_between start (start + rows) ++ rows_between (start + rows) end = split_at start (start + rows) end (omega arith) (omega arith) in
    let count : length bits ≡ rows = length_taken Bool rows chunk.mask inside in
    let few : length (rows_between start (start + rows)) ≡ rows = row_length start (start + rows) ∙ omega arith in
    let front : chosen bits (rows_between start end) ≡ chosen bits (rows_between start (start + rows)) =
    ap (λ (xs : List ℕ). chosen bits xs) all ∙ chosen_front ℕ bits (rows_between start (start + rows)) (rows_between (start + rows) end) (omega (arith, count, few)) in
    let exact : chosen (take (suc (place_of_rank chunk.mask (limit - 1))) chunk.mask) (rows_between start end) ≡ take (suc (limit - 1)) (chosen chunk.mask (rows_between start end)) =
    chosen_first chunk.mask (rows_between start end) (limit - 1) (omega arith) in
    let same : suc (limit - 1) ≡ limit = omega arith in
    sym front ∙ (ap (λ (k : ℕ). chosen (take k chunk.mask) (rows_between start end)) cut.place ∙ (exact ∙ ap (λ (k : ℕ). take k (chosen chunk.mask (rows_between start end))) same))

cut_tight : (chunk : SelectedRows) (rows limit : ℕ) → IsTight chunk → Cut chunk rows limit → IsTight (cut_to rows chunk)
cut_tight chunk rows limit tight cut =
    let some = cut.some in
    let more = cut.more in
    let place = cut.place in
    let inside = cut_inside chunk rows limit cut in
    let count : length (take rows chunk.mask) ≡ rows = length_taken Bool rows chunk.mask inside in
    let last : length (take rows chunk.mask) - 1 ≡ place_of_rank chunk.mask (limit - 1) = omega (arith, count, place) in
    record {
      mask = omega (arith, count);
      begins_with_true = taken_at Bool rows chunk.mask 0 (omega (arith, place)) ∙ tight.begins_with_true;
      ends_with_true = ap (λ (k : ℕ). slice_get (take rows chunk.mask) k) last ∙ (taken_at Bool rows chunk.mask (place_of_rank chunk.mask (limit - 1)) (omega (arith, place)) ∙ rank_found chunk.mask (limit - 1) (omega arith));
    }

cut_at : (chunk : SelectedRows) (limit : ℕ) → 0 < limit → limit < true_count chunk.mask → Cut chunk (place_of_rank chunk.mask (limit - 1) + 1) limit
cut_at chunk limit some more = record { some = some; more = omega arith; place = omega arith }

-- the mask's true rows are the chunk's selected ones
pub rows_counted : (chunk : SelectedRows) → IsTight chunk → true_count chunk.mask ≡ length (chosen_rows chunk)
rows_counted chunk tight =
    let long = tight.mask in
    sym (count_chosen chunk.mask (rows_between chunk.scope.rows.start chunk.scope.rows.end) (omega (arith, row_length chunk.scope.rows.start chunk.scope.rows.end)))

pub part_rows : (limit : ℕ) (chunk : SelectedRows) → IsTight chunk → chosen_rows (first_part (suc limit) chunk) ≡ take (suc limit) (chosen_rows chunk)
part_rows limit chunk tight =
    let count = rows_counted chunk tight in
    elim (cases_lt (suc limit) (true_count chunk.mask)) [
      | inl more ↦ rw (lt-leb (true_count chunk.mask) (suc limit) more) (cut_rows chunk (place_of_rank chunk.mask (suc limit - 1) + 1) (suc limit) tight (cut_at chunk (suc limit) (omega arith) more))
      | inr few ↦ rw (le-leb (true_count chunk.mask) (suc limit) few) (sym (take_all ℕ (suc limit) (chosen_rows chunk) (omega (arith, count))))
    ]

part_tight : (limit : ℕ) (chunk : SelectedRows) → IsTight chunk → 0 < limit → IsTight (first_part limit chunk)
part_tight limit chunk tight some = elim (cases_lt limit (true_count chunk.mask)) [
  | inl more ↦ rw (lt-leb (true_count chunk.mask) limit more) (cut_tight chunk (place_of_rank chunk.mask (limit - 1) + 1) limit tight (cut_at chunk limit some more))
  | inr few ↦ rw (le-leb (true_count chunk.mask) limit few) tight
]

-- what select_rows leaves of a scope is such a chunk
pub tight_trimmed : (selection : Selection) (scope : WorkScope) (chunk : SelectedRows) → IsTrimmed selection scope chunk → IsTight chunk
tight_trimmed selection scope chunk is = record {
  mask = ap length is.mask ∙ (length-map (rows_between chunk.scope.rows.start chunk.scope.rows.end) (selects selection) ∙ row_length chunk.scope.rows.start chunk.scope.rows.end);
  begins_with_true = is.begins_with_true;
  ends_with_true = is.ends_with_true;
}

-- ---- all chunks

pub first_rows : (limit : ℕ) (chunks : List SelectedRows) → AllByRecursion IsTight chunks → flat_map chosen_rows (first_chunks limit chunks) ≡ take limit (flat_map chosen_rows chunks)
first_rows zero chunks tight = refl
first_rows (suc n) [] tight = refl
first_rows (suc n) (chunk ∷ chunks) tight =
    let rest = flat_map chosen_rows chunks in
    let count : true_count chunk.mask ≡ length (chosen_rows chunk) = rows_counted chunk tight.0 in
    flat_map-cons chosen_rows (first_part (suc n) chunk) (first_chunks (suc n - true_count chunk.mask) chunks)
    ∙ (ap (λ (rows : List ℕ). rows ++ flat_map chosen_rows (first_chunks (suc n - true_count chunk.mask) chunks)) (part_rows n chunk tight.0)
    ∙ (ap (λ (rows : List ℕ). take (suc n) (chosen_rows chunk) ++ rows) (first_rows (suc n - true_count chunk.mask) chunks tight.1)
    ∙ (ap (λ (k : ℕ). take (suc n) (chosen_rows chunk) ++ take (suc n - k) rest) count
    ∙ (sym (take_both ℕ (suc n) (chosen_rows chunk) rest)
    ∙ ap (λ (rows : List ℕ). take (suc n) rows) (sym (flat_map-cons chosen_rows chunk chunks))))))

pub first_tight : (limit : ℕ) (chunks : List SelectedRows) → AllByRecursion IsTight chunks → AllByRecursion IsTight (first_chunks limit chunks)
first_tight zero chunks tight = tt
first_tight (suc n) [] tight = tt
first_tight (suc n) (chunk ∷ chunks) tight = (part_tight (suc n) chunk tight.0 (omega arith), first_tight (suc n - true_count chunk.mask) chunks tight.1)

-- ---- the chunks one after another

-- what was kept, and behind it the first of the chunks that are left, are the first of all
pub record Limiting (limit : ℕ) (all kept rest : List SelectedRows) (left : ℕ) : Type 0 where
  pub joined : kept ++ first_chunks left rest ≡ first_chunks limit all
  pub tight : AllByRecursion IsTight rest

pub limit_more : (limit : ℕ) (all kept rest : List SelectedRows) (chunk : SelectedRows) (left : ℕ) → 0 < left → Limiting limit all kept (chunk ∷ rest) left → Limiting limit all (kept ++ first_part left chunk ∷ []) rest (left - true_count chunk.mask)
limit_more limit all kept rest chunk zero some so_far = absurd (omega arith)
limit_more limit all kept rest chunk (suc n) some so_far = record {
  joined = append_moved kept (first_part (suc n) chunk) (first_chunks (suc n - true_count chunk.mask) rest) ∙ so_far.joined;
  tight = so_far.tight.1;
}
  where
    append_moved : (kept : List SelectedRows) (chunk : SelectedRows) (rest : List SelectedRows) → (kept ++ chunk ∷ []) ++ rest ≡ kept ++ chunk ∷ rest
    append_moved [] chunk rest = refl
    append_moved (one ∷ kept) chunk rest = ap (λ (chunks : List SelectedRows). one ∷ chunks) (append_moved kept chunk rest)

pub limit_met : (limit : ℕ) (all kept rest : List SelectedRows) → Limiting limit all kept rest 0 → kept ≡ first_chunks limit all
limit_met limit all kept rest so_far = sym (append-nil kept) ∙ so_far.joined

pub limit_end : (limit : ℕ) (all kept rest : List SelectedRows) (left : ℕ) → length rest ≡ 0 → Limiting limit all kept rest left → kept ≡ first_chunks limit all
limit_end limit all kept rest zero none so_far = limit_met limit all kept rest so_far
limit_end limit all kept [] (suc left) none so_far = sym (append-nil kept) ∙ so_far.joined
limit_end limit all kept (chunk ∷ rest) (suc left) none so_far = absurd (omega (arith, none))
