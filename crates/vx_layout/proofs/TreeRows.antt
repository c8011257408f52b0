-- How the rows of a tree are derived: strictly, and in a sound tree wholly; and where a row of a child is read.
use Rattle.std.proofs.Common.{◌≡◌, ℕ, zero, suc, ◌+◌, ◌-◌, ◌<◌, ◌≤◌, inr, ⊎_elim, ltb, Bool, true, false, cond, Some, refl, ap, ◌∙◌, subst, arith}
use Rattle.std.proofs.lemmas.Bool.{lt-ltb, le-ltb, cases_lt}
use Rattle.vx_base.specs.declared.dtypes.Nullability.{Nullability}
use Rattle.vx_base.specs.declared.dtypes.Nullability.TheVariants.{NonNullable, Nullable}
use Rattle.vx_base.specs.Data.{DataType, Members, no_members, member, null}
use Rattle.vx_base.specs.Fits.{nullability_of}
use Rattle.vx_layout.specs.Trees.{Tree, missing, leaf, chunks, fields, dict, lists, zoned, Forest, no_trees, tree, Validity, always, valid_by, head_of}
use Rattle.vx_layout.specs.Kept.{KeptFields, all, is_kept}
use Rattle.vx_rows.specs.Derivations.{Derivation, nothing, given, packed, Derivations, also, each_row}
use Rattle.vx_rows.specs.Reads.{Way, inside, Read, reads_of, reads_of_each, AnyOf}
use Rattle.vx_layout.specs.Rows.{struct_members, derivation, derivation_in, field_derivations, where_valid_by, rows_in, reads}
use Rattle.vx_layout.specs.Sound.{IsSound, AreChunks, AreFields, IsValidity}
use Rattle.vx_rows.specs.Whole.{IsWhole, AreWhole, IsStrict, AreStrict}
use Rattle.vx_rows.specs.Heads.{Head}
use Rattle.vx_layout.specs.Parts.{tree_at, rows_before, IsKeptField}
use Rattle.vx_rows.proofs.ReadRows.{any_left, any_right}

-- ---- strict

each_row_strict : (f : ℕ → Derivation) → ((row : ℕ) → IsStrict (f row)) → (from count : ℕ) → AreStrict (each_row f from count)
each_row_strict f strict from zero = tt
each_row_strict f strict from (suc count) = (strict from, each_row_strict f strict (from + 1) count)

strict_chunk : (b : Bool) (d e : Derivation) → IsStrict d → IsStrict e → IsStrict (cond b d e)
strict_chunk true d e p q = p
strict_chunk false d e p q = q

mutual
  pub strict_row : (t : Tree) (kept : KeptFields) (row : ℕ) → IsStrict (derivation t kept row)
  strict_row (missing head) kept row = tt
  strict_row (leaf head segment coding) kept row = tt
  strict_row (chunks head forest) kept row = strict_in forest kept row
  strict_row (fields head forest validity) kept row = strict_valid validity row (packed (field_derivations (struct_members head.dtype) forest kept row)) (strict_fields (struct_members head.dtype) forest kept row)
  strict_row (dict head values codes) kept row = (strict_row codes all row, each_row_strict (derivation values all) (λ r. strict_row values all r) 0 (head_of values).rows)
  strict_row (lists head elements offsets validity) kept row = tt
  strict_row (zoned head zones content table) kept row = strict_row content kept row

  strict_in : (forest : Forest) (kept : KeptFields) (row : ℕ) → IsStrict (derivation_in forest kept row)
  strict_in no_trees kept row = tt
  strict_in (tree first rest) kept row = strict_chunk (ltb row (head_of first).rows) (derivation first kept row) (derivation_in rest kept (row - (head_of first).rows)) (strict_row first kept row) (strict_in rest kept (row - (head_of first).rows))

  strict_fields : (ms : Members) (forest : Forest) (kept : KeptFields) (row : ℕ) → AreStrict (field_derivations ms forest kept row)
  strict_fields no_members forest kept row = tt
  strict_fields (member name t ms) no_trees kept row = (strict_chunk (is_kept kept name) nothing (given null) tt tt, strict_fields ms no_trees kept row)
  strict_fields (member name t ms) (tree first rest) kept row = (strict_chunk (is_kept kept name) (derivation first all row) (given null) (strict_row first all row) tt, strict_fields ms rest kept row)

  strict_valid : (validity : Validity) (row : ℕ) (d : Derivation) → IsStrict d → IsStrict (where_valid_by validity row d)
  strict_valid always row d strict = strict
  strict_valid (valid_by validity) row d strict = (strict, strict_row validity all row)

-- ---- whole

each_row_whole : (f : ℕ → Derivation) (from count end : ℕ) → end ≡ from + count → ((row : ℕ) → row < end → IsWhole (f row)) → AreWhole (each_row f from count)
each_row_whole f from zero end e whole = tt
each_row_whole f from (suc count) end e whole = (whole from (omega arith), each_row_whole f (from + 1) count end (omega arith) whole)

whole_field : (b : Bool) (d : Derivation) → IsWhole d → IsWhole (cond b d (given null))
whole_field true d whole = whole
whole_field false d whole = tt

mutual
  pub whole_row : (t : Tree) (kept : KeptFields) (row : ℕ) → IsSound t → row < (head_of t).rows → IsWhole (derivation t kept row)
  whole_row (missing head) kept row sound lt = absurd sound
  whole_row (leaf head segment coding) kept row sound lt = lt
  whole_row (chunks head forest) kept row sound lt = whole_in head.dtype forest kept row sound.0 (omega (arith, sound.1))
  whole_row (fields head forest validity) kept row sound lt = whole_valid (nullability_of head.dtype) head.rows validity row (packed (field_derivations (struct_members head.dtype) forest kept row)) sound.2 lt (whole_fields (struct_members head.dtype) head.rows forest kept row sound.1 lt)
  whole_row (dict head values codes) kept row sound lt =
      (whole_row codes all row sound.1 (omega (arith, sound.2.rows)), each_row_whole (derivation values all) 0 (head_of values).rows (head_of values).rows (omega arith) (λ r h. whole_row values all r sound.0 h))
  whole_row (lists head elements offsets validity) kept row sound lt = tt
  whole_row (zoned head zones content table) kept row sound lt = whole_row content kept row sound.0 (omega (arith, sound.1.rows))

  whole_in : (t : DataType) (forest : Forest) (kept : KeptFields) (row : ℕ) → AreChunks t forest → row < rows_in forest → IsWhole (derivation_in forest kept row)
  whole_in t no_trees kept row sound lt = absurd (omega arith)
  whole_in t (tree first rest) kept row sound lt =
      ⊎_elim (λ (here : row < (head_of first).rows). rw (lt-ltb row (head_of first).rows here) (whole_row first kept row sound.0 here))
      (λ (later : (head_of first).rows ≤ row). rw (le-ltb row (head_of first).rows later) (whole_in t rest kept (row - (head_of first).rows) sound.2 (omega arith)))
      (cases_lt row (head_of first).rows)

  whole_fields : (ms : Members) (rows : ℕ) (forest : Forest) (kept : KeptFields) (row : ℕ) → AreFields ms rows forest → row < rows → AreWhole (field_derivations ms forest kept row)
  whole_fields no_members rows forest kept row sound lt = tt
  whole_fields (member name t ms) rows no_trees kept row sound lt = absurd sound
  whole_fields (member name t ms) rows (tree first rest) kept row sound lt =
      (whole_field (is_kept kept name) (derivation first all row) (whole_row first all row sound.0 (omega (arith, sound.1.rows))), whole_fields ms rows rest kept row sound.2 lt)

  whole_valid : (n : Nullability) (rows : ℕ) (validity : Validity) (row : ℕ) (d : Derivation) → IsValidity n rows validity → row < rows → IsWhole d → IsWhole (where_valid_by validity row d)
  whole_valid n rows always row d sound lt whole = whole
  whole_valid NonNullable rows (valid_by validity) row d sound lt whole = absurd sound
  whole_valid Nullable rows (valid_by validity) row d sound lt whole = (whole, whole_row validity all row sound.0 (omega (arith, sound.1.rows)))

-- ---- rows of chunks

pub row_first : (first : Tree) (rest : Forest) (kept : KeptFields) (row : ℕ) → row < (head_of first).rows → derivation_in (tree first rest) kept row ≡ derivation first kept row
row_first first rest kept row lt = rw (lt-ltb row (head_of first).rows lt) refl

pub row_later : (first : Tree) (rest : Forest) (kept : KeptFields) (row before : ℕ) → row ≡ (head_of first).rows + before → derivation_in (tree first rest) kept row ≡ derivation_in rest kept before
row_later first rest kept row before e =
    let le : (head_of first).rows ≤ row = omega arith in
    let p : row - (head_of first).rows ≡ before = omega arith in
    rw (le-ltb row (head_of first).rows le) (ap (derivation_in rest kept) p)

-- a chunk's row is a row of them all
pub row_of_chunk : (forest : Forest) (place : ℕ) (chunk : Tree) (kept : KeptFields) (row whole : ℕ) → tree_at forest place ≡ Some chunk → row < (head_of chunk).rows → whole ≡ rows_before forest place + row → derivation_in forest kept whole ≡ derivation chunk kept row
row_of_chunk no_trees place chunk kept row whole at lt e = absurd cc
row_of_chunk (tree first rest) zero chunk kept row whole at lt e =
    let p : first ≡ chunk = cc in
    let q : (head_of first).rows ≡ (head_of chunk).rows = ap (λ (t : Tree). (head_of t).rows) p in
    let same : whole ≡ row = omega arith in
    row_first first rest kept whole (omega arith) ∙ ap (derivation first kept) same ∙ ap (λ (t : Tree). derivation t kept row) p
row_of_chunk (tree first rest) (suc place) chunk kept row whole at lt e = row_later first rest kept whole (rows_before rest place + row) (omega arith) ∙ row_of_chunk rest place chunk kept row (rows_before rest place + row) at lt refl

pub chunk_inside : (forest : Forest) (place : ℕ) (chunk : Tree) (row : ℕ) → tree_at forest place ≡ Some chunk → row < (head_of chunk).rows → rows_before forest place + row < rows_in forest
chunk_inside no_trees place chunk row at lt = absurd cc
chunk_inside (tree first rest) zero chunk row at lt =
    let p : first ≡ chunk = cc in
    let q : (head_of first).rows ≡ (head_of chunk).rows = ap (λ (t : Tree). (head_of t).rows) p in
    omega arith
chunk_inside (tree first rest) (suc place) chunk row at lt = omega (arith, chunk_inside rest place chunk row at lt)

-- ---- what a row of a child reads, the row reads

any_kept : (b : Bool) (P : Read → Type 0) (way : Way) (d : Derivation) (ds : Derivations) → b ≡ true → AnyOf P (reads_of way d) → AnyOf P (reads_of_each way (also (cond b d (given null)) ds))
any_kept true P way d ds e any = any_left P (reads_of way d) (reads_of_each way ds) any
any_kept false P way d ds e any = absurd cc

any_in_fields : (P : Read → Type 0) (ms : Members) (forest : Forest) (i : ℕ) (child : Tree) (kept : KeptFields) (way : Way) (row : ℕ) → tree_at forest i ≡ Some child → IsKeptField kept ms i → AnyOf P (reads child way all row) → AnyOf P (reads_of_each way (field_derivations ms forest kept row))
any_in_fields P no_members forest i child kept way row at is any = absurd is
any_in_fields P (member name t ms) no_trees i child kept way row at is any = absurd cc
any_in_fields P (member name t ms) (tree first rest) zero child kept way row at is any =
    let p : child ≡ first = cc in
    let here : AnyOf P (reads first way all row) = subst (λ (c : Tree). AnyOf P (reads c way all row)) p any in
    any_kept (is_kept kept name) P way (derivation first all row) (field_derivations ms rest kept row) is here
any_in_fields P (member name t ms) (tree first rest) (suc i) child kept way row at is any =
    any_right P (reads_of way (cond (is_kept kept name) (derivation first all row) (given null))) (reads_of_each way (field_derivations ms rest kept row)) (any_in_fields P ms rest i child kept way row at is any)

any_valid : (P : Read → Type 0) (validity : Validity) (way : Way) (row : ℕ) (d : Derivation) → AnyOf P (reads_of way d) → AnyOf P (reads_of way (where_valid_by validity row d))
any_valid P always way row d any = any
any_valid P (valid_by validity) way row d any = any_left P (reads_of way d) (reads validity way all row) any

-- a field's
pub read_by_field : (P : Read → Type 0) (head : Head) (forest : Forest) (validity : Validity) (i : ℕ) (child : Tree) (kept : KeptFields) (way : Way) (row : ℕ) → tree_at forest i ≡ Some child → IsKeptField kept (struct_members head.dtype) i → AnyOf P (reads child way all row) → AnyOf P (reads (fields head forest validity) way kept row)
read_by_field P head forest validity i child kept way row at is any = any_valid P validity way row (packed (field_derivations (struct_members head.dtype) forest kept row)) (any_in_fields P (struct_members head.dtype) forest i child kept way row at is any)

-- the validity's
pub read_by_validity : (P : Read → Type 0) (head : Head) (forest : Forest) (validity : Tree) (kept : KeptFields) (way : Way) (row : ℕ) → AnyOf P (reads validity way all row) → AnyOf P (reads (fields head forest (valid_by validity)) way kept row)
read_by_validity P head forest validity kept way row any = any_right P (reads_of_each way (field_derivations (struct_members head.dtype) forest kept row)) (reads validity way all row) any

-- the code's
pub read_by_code : (P : Read → Type 0) (head : Head) (values codes : Tree) (kept : KeptFields) (way : Way) (row : ℕ) → AnyOf P (reads codes way all row) → AnyOf P (reads (dict head values codes) way kept row)
read_by_code P head values codes kept way row any = inr (any_left P (reads codes way all row) (reads_of_each (inside head.number way) (each_row (derivation values all) 0 (head_of values).rows)) any)

any_in_rows : (P : Read → Type 0) (f : ℕ → Derivation) (from count row end : ℕ) (way : Way) → from ≤ row → end ≡ from + count → row < end → AnyOf P (reads_of way (f row)) → AnyOf P (reads_of_each way (each_row f from count))
any_in_rows P f from zero row end way le e lt any = absurd (omega arith)
any_in_rows P f from (suc count) row end way le e lt any =
    ⊎_elim (λ (later : from < row). any_right P (reads_of way (f from)) (reads_of_each way (each_row f (from + 1) count)) (any_in_rows P f (from + 1) count row end way (omega arith) (omega arith) lt any))
    (λ (here : row ≤ from).
    let p : row ≡ from = omega arith in
    any_left P (reads_of way (f from)) (reads_of_each way (each_row f (from + 1) count)) (subst (λ (r : ℕ). AnyOf P (reads_of way (f r))) p any))
    (cases_lt from row)

-- those of each row of a dictionary's values, which lie inside the dictionary
pub read_by_value : (P : Read → Type 0) (head : Head) (values codes : Tree) (kept : KeptFields) (way : Way) (row value_row : ℕ) → value_row < (head_of values).rows → AnyOf P (reads values (inside head.number way) all value_row) → AnyOf P (reads (dict head values codes) way kept row)
read_by_value P head values codes kept way row value_row lt any =
    inr (any_right P (reads codes way all row) (reads_of_each (inside head.number way) (each_row (derivation values all) 0 (head_of values).rows))
    (any_in_rows P (derivation values all) 0 (head_of values).rows value_row (head_of values).rows (inside head.number way) (omega arith) (omega arith) lt any))
