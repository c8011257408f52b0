-- The segments that are given for selected rows are exactly those that the rows read.
use Rattle.std.proofs.Common.{◌≡◌, ℕ, zero, suc, ◌+◌, ◌-◌, ◌<◌, ◌≤◌, ◌⊎◌, inl, inr, ⊎_elim, Bool, true, false, List, [], ◌∷◌, ◌++◌, Option, Some, length, take, drop, refl, sym, ap, ◌∙◌, subst, arith}
use Rattle.std.specs.Prelude.{if◌then◌else◌}
use Rattle.std.specs.List.{slice_get}
use Rattle.std.proofs.lemmas.Bool.{lt-ltb, le-ltb, cases_lt}
use Rattle.std.proofs.lemmas.Option.{slice_get_within}
use Rattle.vx_base.specs.declared.codings.Coding.{Coding}
use Rattle.vx_base.specs.Data.{DataType, Datum}
use Rattle.vx_rows.specs.Derivations.{Derivation, nothing, of_leaf, packed, looked_up, read_whole, concluded, Derivations, each_row}
use Rattle.vx_rows.specs.Reads.{Way, directly, inside, Read, reads_of, reads_of_each, AnyOf, IsIn}
use Rattle.vx_plan.specs.declared.reaching.Reach.{Reach}
use Rattle.vx_plan.specs.declared.reaching.SegmentReach.{SegmentReach}
use Rattle.vx_plan.specs.FittingRows.{HasFittingRows, HaveFittingRows, FieldsHaveRows, ValidityHasRows}
use Rattle.vx_plan.specs.Laws.{IsReached, IsReadBy}
use Rattle.vx_plan.specs.Pruning.{is_pruned_at}
use Rattle.vx_plan.specs.Plans.{Plan, no_plan, concat_plan, eval_plan, filter_plan, pack_plan, take_plan, share_plan, list_plan, row_idx_plan, scan_plan, zoned_plan, pruning_plan, Plans, no_plans, plan, PlanValidity, all_valid, valid_as, plan_head}
use Rattle.vx_plan.specs.PlanRows.{plan_derivation, plan_derivation_in, plan_derivations, plan_where_valid}
use Rattle.vx_plan.specs.Reaches.{any_row, all_rows, fixed, shifted, reached_at, selected_of, selected_chunks, selected_fields, selected_validity}

-- ---- one of several

either : {X : Type 0} (P : X → Type 0) (xs ys : List X) → AnyOf P (xs ++ ys) → AnyOf P xs ⊎ AnyOf P ys
either P [] ys any = inr any
either P (x ∷ xs) ys any = ⊎_elim (λ (here : P x). inl (inl here)) (λ (rest : AnyOf P (xs ++ ys)). ⊎_elim (λ (left : AnyOf P xs). inl (inr left)) (λ (right : AnyOf P ys). inr right) (either P xs ys rest)) any

in_front : {X : Type 0} (P : X → Type 0) (xs ys : List X) → AnyOf P xs → AnyOf P (xs ++ ys)
in_front P [] ys any = absurd any
in_front P (x ∷ xs) ys any = ⊎_elim (λ (here : P x). inl here) (λ (rest : AnyOf P xs). inr (in_front P xs ys rest)) any

behind : {X : Type 0} (P : X → Type 0) (xs ys : List X) → AnyOf P ys → AnyOf P (xs ++ ys)
behind P [] ys any = any
behind P (x ∷ xs) ys any = inr (behind P xs ys any)

abbrev InSegment : ℕ → Read → Type 0
InSegment segment read = IsIn segment read.found

abbrev OfSegment : ℕ → SegmentReach → Type 0
OfSegment segment entry = entry.segment ≡ segment

-- ---- rows that are selected

-- P of one of the rows that are selected, from a first one on
record SomeRow (P : ℕ → Type 0) (start : ℕ) (bits : List Bool) : Type 0 where
  row : ℕ
  chosen : slice_get bits row ≡ Some true
  holds : P (start + row)

record HasRow (bits : List Bool) : Type 0 where
  row : ℕ
  chosen : slice_get bits row ≡ Some true

has_row : (bits : List Bool) → any_row bits ≡ true → HasRow bits
has_row [] some = absurd cc
has_row (true ∷ bits) some = record { row = 0; chosen = refl }
has_row (false ∷ bits) some = let later : HasRow bits = has_row bits some in record { row = suc later.row; chosen = later.chosen }

row_any : (bits : List Bool) (row : ℕ) → slice_get bits row ≡ Some true → any_row bits ≡ true
row_any [] row chosen = absurd cc
row_any (true ∷ bits) row chosen = refl
row_any (false ∷ bits) zero chosen = absurd cc
row_any (false ∷ bits) (suc row) chosen = row_any bits row chosen

all_chosen : (count row : ℕ) → row < count → slice_get (all_rows count) row ≡ Some true
all_chosen zero row lt = absurd (omega arith)
all_chosen (suc count) zero lt = refl
all_chosen (suc count) (suc row) lt = all_chosen count row (omega arith)

within_all : (count row : ℕ) → slice_get (all_rows count) row ≡ Some true → row < count
within_all zero row chosen = absurd cc
within_all (suc count) zero chosen = omega arith
within_all (suc count) (suc row) chosen = let lt : row < count = within_all count row chosen in omega arith

record IsTaken (n : ℕ) (bits : List Bool) (row : ℕ) : Type 0 where
  lt : row < n
  chosen : slice_get bits row ≡ Some true

taken : (n : ℕ) (bits : List Bool) (row : ℕ) → slice_get (take n bits) row ≡ Some true → IsTaken n bits row
taken zero bits row chosen = absurd cc
taken (suc n) [] row chosen = absurd cc
taken (suc n) (bit ∷ bits) zero chosen = record { lt = omega arith; chosen = chosen }
taken (suc n) (bit ∷ bits) (suc row) chosen = let rest : IsTaken n bits row = taken n bits row chosen in record { lt = omega (arith, rest.lt); chosen = rest.chosen }

take_chosen : (n : ℕ) (bits : List Bool) (row : ℕ) → row < n → slice_get bits row ≡ Some true → slice_get (take n bits) row ≡ Some true
take_chosen zero bits row lt chosen = absurd (omega arith)
take_chosen (suc n) [] row lt chosen = absurd cc
take_chosen (suc n) (bit ∷ bits) zero lt chosen = chosen
take_chosen (suc n) (bit ∷ bits) (suc row) lt chosen = take_chosen n bits row (omega arith) chosen

dropped : (n : ℕ) (bits : List Bool) (row : ℕ) → slice_get (drop n bits) row ≡ slice_get bits (n + row)
dropped zero bits row = let e : row ≡ 0 + row = omega arith in ap (slice_get bits) e
dropped (suc n) [] row = refl
dropped (suc n) (bit ∷ bits) row = dropped n bits row ∙ (let e : suc (n + row) ≡ suc n + row = omega arith in ap (slice_get (bit ∷ bits)) e)

-- ---- tests

record IsEntered (segment : ℕ) (b : Bool) (entries : List SegmentReach) : Type 0 where
  test : b ≡ true
  reached : IsReached segment entries

entered_if : (segment : ℕ) (b : Bool) (entries : List SegmentReach) → IsReached segment (if b then entries else []) → IsEntered segment b entries
entered_if segment true entries any = record { test = refl; reached = any }
entered_if segment false entries any = absurd any

if_entered : (segment : ℕ) (b : Bool) (entries : List SegmentReach) → b ≡ true → IsReached segment entries → IsReached segment (if b then entries else [])
if_entered segment true entries e any = any
if_entered segment false entries e any = absurd cc

-- ---- rows of what is read

each_row_reads : (P : Read → Type 0) (way : Way) (f : ℕ → Derivation) (from count row : ℕ) → row < count → AnyOf P (reads_of way (f (from + row))) → AnyOf P (reads_of_each way (each_row f from count))
each_row_reads P way f from zero row lt any = absurd (omega arith)
each_row_reads P way f from (suc count) zero lt any =
    let e : from + 0 ≡ from = omega arith in
    in_front P (reads_of way (f from)) (reads_of_each way (each_row f (from + 1) count)) (subst (λ (r : ℕ). AnyOf P (reads_of way (f r))) e any)
each_row_reads P way f from (suc count) (suc row) lt any =
    let e : from + suc row ≡ from + 1 + row = omega arith in
    behind P (reads_of way (f from)) (reads_of_each way (each_row f (from + 1) count)) (each_row_reads P way f (from + 1) count row (omega arith) (subst (λ (r : ℕ). AnyOf P (reads_of way (f r))) e any))

record IsOfRow (P : Read → Type 0) (way : Way) (f : ℕ → Derivation) (from count : ℕ) : Type 0 where
  row : ℕ
  lt : row < count
  reads : AnyOf P (reads_of way (f (from + row)))

row_read : (P : Read → Type 0) (way : Way) (f : ℕ → Derivation) (from count : ℕ) → AnyOf P (reads_of_each way (each_row f from count)) → IsOfRow P way f from count
row_read P way f from zero any = absurd any
row_read P way f from (suc count) any =
    ⊎_elim
    (λ (here : AnyOf P (reads_of way (f from))). let e : from ≡ from + 0 = omega arith in record { row = 0; lt = omega arith; reads = subst (λ (r : ℕ). AnyOf P (reads_of way (f r))) e here })
    (λ (later : AnyOf P (reads_of_each way (each_row f (from + 1) count))).
    let rest : IsOfRow P way f (from + 1) count = row_read P way f (from + 1) count later in
    let e : from + 1 + rest.row ≡ from + suc rest.row = omega arith in
    record { row = suc rest.row; lt = omega (arith, rest.lt); reads = subst (λ (r : ℕ). AnyOf P (reads_of way (f r))) e rest.reads })
    (either P (reads_of way (f from)) (reads_of_each way (each_row f (from + 1) count)) any)

front_valid : (P : Read → Type 0) (way : Way) (offset : ℕ) (validity : PlanValidity) (row : ℕ) (d : Derivation) → AnyOf P (reads_of way d) → AnyOf P (reads_of way (plan_where_valid offset validity row d))
front_valid P way offset all_valid row d any = any
front_valid P way offset (valid_as validity) row d any = in_front P (reads_of way d) (reads_of way (plan_derivation offset validity row)) any

in_first : (offset : ℕ) (first : Plan) (rest : Plans) (row : ℕ) → row < (plan_head first).rows → plan_derivation_in offset (plan first rest) row ≡ plan_derivation offset first row
in_first offset first rest row lt = rw (lt-ltb row (plan_head first).rows lt) refl

in_rest : (offset : ℕ) (first : Plan) (rest : Plans) (row : ℕ) → (plan_head first).rows ≤ row → plan_derivation_in offset (plan first rest) row ≡ plan_derivation_in offset rest (row - (plan_head first).rows)
in_rest offset first rest row le = rw (le-ltb row (plan_head first).rows le) refl

abbrev Reads : ℕ → Way → Derivation → Type 0
Reads segment way d = AnyOf (InSegment segment) (reads_of way d)

abbrev ReadsEach : ℕ → Way → Derivations → Type 0
ReadsEach segment way ds = AnyOf (InSegment segment) (reads_of_each way ds)

-- ---- each segment that is given is read

chunk_first : (segment offset : ℕ) (first : Plan) (rest : Plans) (way : Way) (start : ℕ) (bits : List Bool) → SomeRow (λ row. Reads segment way (plan_derivation offset first row)) start (take ((plan_head first).rows - start) bits) → SomeRow (λ row. Reads segment way (plan_derivation_in offset (plan first rest) row)) start bits
chunk_first segment offset first rest way start bits some =
    let here : IsTaken ((plan_head first).rows - start) bits some.row = taken ((plan_head first).rows - start) bits some.row some.chosen in
    record { row = some.row; chosen = here.chosen; holds = subst (Reads segment way) (sym (in_first offset first rest (start + some.row) (omega (arith, here.lt)))) some.holds }

chunk_rest : (segment offset : ℕ) (first : Plan) (rest : Plans) (way : Way) (start : ℕ) (bits : List Bool) → SomeRow (λ row. Reads segment way (plan_derivation_in offset rest row)) (start - (plan_head first).rows) (drop ((plan_head first).rows - start) bits) → SomeRow (λ row. Reads segment way (plan_derivation_in offset (plan first rest) row)) start bits
chunk_rest segment offset first rest way start bits some =
    let n : ℕ = (plan_head first).rows in
    let e : start - n + some.row ≡ start + (n - start + some.row) - n = omega arith in
    record {
      row = n - start + some.row;
      chosen = sym (dropped (n - start) bits some.row) ∙ some.chosen;
      holds = subst (Reads segment way) (ap (plan_derivation_in offset rest) e ∙ sym (in_rest offset first rest (start + (n - start + some.row)) (omega arith))) some.holds;
    }

pack_either : (segment offset : ℕ) (children : Plans) (validity : PlanValidity) (way : Way) (start : ℕ) (bits : List Bool) → SomeRow (λ row. ReadsEach segment way (plan_derivations offset children row)) start bits → SomeRow (λ row. Reads segment way (plan_where_valid offset validity row (packed (plan_derivations offset children row)))) start bits
pack_either segment offset children validity way start bits some = record {
  row = some.row;
  chosen = some.chosen;
  holds = front_valid (InSegment segment) way offset validity (start + some.row) (packed (plan_derivations offset children (start + some.row))) some.holds;
}

valid_either : (segment offset : ℕ) (validity : Plan) (d : ℕ → Derivation) (way : Way) (start : ℕ) (bits : List Bool) → SomeRow (λ row. Reads segment way (plan_derivation offset validity row)) start bits → SomeRow (λ row. Reads segment way (plan_where_valid offset (valid_as validity) row (d row))) start bits
valid_either segment offset validity d way start bits some = record {
  row = some.row;
  chosen = some.chosen;
  holds = behind (InSegment segment) (reads_of way (d (start + some.row))) (reads_of way (plan_derivation offset validity (start + some.row))) some.holds;
}

take_codes : (segment offset number : ℕ) (codes values : Plan) (head_rows : ℕ) (way : Way) (start : ℕ) (bits : List Bool) → SomeRow (λ row. Reads segment way (plan_derivation offset codes row)) start bits → SomeRow (λ row. Reads segment way (looked_up number row (plan_derivation offset codes row) (each_row (plan_derivation offset values) 0 head_rows))) start bits
take_codes segment offset number codes values head_rows way start bits some = record {
  row = some.row;
  chosen = some.chosen;
  holds = inr (in_front (InSegment segment) (reads_of way (plan_derivation offset codes (start + some.row))) (reads_of_each (inside number way) (each_row (plan_derivation offset values) 0 head_rows)) some.holds);
}

take_values : (segment offset number : ℕ) (codes values : Plan) (way : Way) (start : ℕ) (bits : List Bool) → HasRow bits → SomeRow (λ row. Reads segment (inside number way) (plan_derivation offset values row)) 0 (all_rows (plan_head values).rows) → SomeRow (λ row. Reads segment way (looked_up number row (plan_derivation offset codes row) (each_row (plan_derivation offset values) 0 (plan_head values).rows))) start bits
take_values segment offset number codes values way start bits any some = record {
  row = any.row;
  chosen = any.chosen;
  holds = inr (behind (InSegment segment) (reads_of way (plan_derivation offset codes (start + any.row))) (reads_of_each (inside number way) (each_row (plan_derivation offset values) 0 (plan_head values).rows)) (each_row_reads (InSegment segment) (inside number way) (plan_derivation offset values) 0 (plan_head values).rows some.row (within_all (plan_head values).rows some.row some.chosen) some.holds));
}

share_whole : (segment offset number : ℕ) (child : Plan) (way : Way) (start : ℕ) (bits : List Bool) → HasRow bits → SomeRow (λ row. Reads segment way (plan_derivation offset child row)) 0 (all_rows (plan_head child).rows) → SomeRow (λ row. Reads segment way (read_whole number row (plan_derivation offset child row) (each_row (plan_derivation offset child) 0 (plan_head child).rows))) start bits
share_whole segment offset number child way start bits any some = record {
  row = any.row;
  chosen = any.chosen;
  holds = behind (InSegment segment) (reads_of way (plan_derivation offset child (start + any.row))) (reads_of_each way (each_row (plan_derivation offset child) 0 (plan_head child).rows)) (each_row_reads (InSegment segment) way (plan_derivation offset child) 0 (plan_head child).rows some.row (within_all (plan_head child).rows some.row some.chosen) some.holds);
}

scan_read : (segment other : ℕ) (way : Way) (dtype : DataType) (coding : Coding) (rows start : ℕ) (bits : List Bool) (entry : SegmentReach) → entry.segment ≡ other → IsReached segment (if any_row bits then entry ∷ [] else []) → SomeRow (λ row. Reads segment way (of_leaf (record { dtype = dtype; coding = coding; rows = rows; segment = other; row = row }))) start bits
scan_read segment other way dtype coding rows start bits entry is any =
    let enter : IsEntered segment (any_row bits) (entry ∷ []) = entered_if segment (any_row bits) (entry ∷ []) any in
    let some : HasRow bits = has_row bits enter.test in
    record { row = some.row; chosen = some.chosen; holds = ⊎_elim (λ (same : entry.segment ≡ segment). inl (sym is ∙ same)) (λ (none : ⊥). absurd none) enter.reached }

field_first : (segment offset : ℕ) (first : Plan) (rest : Plans) (way : Way) (start : ℕ) (bits : List Bool) → SomeRow (λ row. Reads segment way (plan_derivation offset first row)) start bits → SomeRow (λ row. ReadsEach segment way (plan_derivations offset (plan first rest) row)) start bits
field_first segment offset first rest way start bits some = record {
  row = some.row;
  chosen = some.chosen;
  holds = in_front (InSegment segment) (reads_of way (plan_derivation offset first (start + some.row))) (reads_of_each way (plan_derivations offset rest (start + some.row))) some.holds;
}

field_rest : (segment offset : ℕ) (first : Plan) (rest : Plans) (way : Way) (start : ℕ) (bits : List Bool) → SomeRow (λ row. ReadsEach segment way (plan_derivations offset rest row)) start bits → SomeRow (λ row. ReadsEach segment way (plan_derivations offset (plan first rest) row)) start bits
field_rest segment offset first rest way start bits some = record {
  row = some.row;
  chosen = some.chosen;
  holds = behind (InSegment segment) (reads_of way (plan_derivation offset first (start + some.row))) (reads_of_each way (plan_derivations offset rest (start + some.row))) some.holds;
}

zones_whole : (segment offset : ℕ) (rule : ℕ → List Datum → Option Datum) (table : Plan) (way : Way) (start : ℕ) (bits : List Bool) → HasRow bits → SomeRow (λ row. Reads segment way (plan_derivation offset table row)) 0 (all_rows (plan_head table).rows) → SomeRow (λ row. Reads segment way (concluded (rule row) (each_row (plan_derivation offset table) 0 (plan_head table).rows))) start bits
zones_whole segment offset rule table way start bits any some = record {
  row = any.row;
  chosen = any.chosen;
  holds = each_row_reads (InSegment segment) way (plan_derivation offset table) 0 (plan_head table).rows some.row (within_all (plan_head table).rows some.row some.chosen) some.holds;
}

mutual
  reached_read : (segment offset : ℕ) (p : Plan) (way : Way) (at : Reach) (start : ℕ) (bits : List Bool) → IsReached segment (selected_of p at start bits) → SomeRow (λ row. Reads segment way (plan_derivation offset p row)) start bits
  reached_read segment offset (no_plan head) way at start bits any = absurd any
  reached_read segment offset (concat_plan head children) way at start bits any = chunk_read segment offset children way 0 at start bits any
  reached_read segment offset (eval_plan head e child) way at start bits any = reached_read segment offset child way at start bits any
  reached_read segment offset (filter_plan head child) way at start bits any = reached_read segment offset child way at start bits any
  reached_read segment offset (pack_plan head children validity) way at start bits any =
      ⊎_elim
      (λ (left : IsReached segment (selected_fields children at start bits)). pack_either segment offset children validity way start bits (field_read segment offset children way at start bits left))
      (λ (right : IsReached segment (selected_validity validity at start bits)). validity_read segment offset validity (λ row. packed (plan_derivations offset children row)) way at start bits right)
      (either (OfSegment segment) (selected_fields children at start bits) (selected_validity validity at start bits) any)
  reached_read segment offset (take_plan head codes values) way at start bits any =
      let entries : List SegmentReach = selected_of codes at start bits ++ selected_of values (fixed at start (start + length bits)) 0 (all_rows (plan_head values).rows) in
      let enter : IsEntered segment (any_row bits) entries = entered_if segment (any_row bits) entries any in
      ⊎_elim
      (λ (left : IsReached segment (selected_of codes at start bits)). take_codes segment offset head.number codes values (plan_head values).rows way start bits (reached_read segment offset codes way at start bits left))
      (λ (right : IsReached segment (selected_of values (fixed at start (start + length bits)) 0 (all_rows (plan_head values).rows))). take_values segment offset head.number codes values way start bits (has_row bits enter.test) (reached_read segment offset values (inside head.number way) (fixed at start (start + length bits)) 0 (all_rows (plan_head values).rows) right))
      (either (OfSegment segment) (selected_of codes at start bits) (selected_of values (fixed at start (start + length bits)) 0 (all_rows (plan_head values).rows)) enter.reached)
  reached_read segment offset (share_plan head child) way at start bits any =
      let entries : List SegmentReach = selected_of child (fixed at start (start + length bits)) 0 (all_rows (plan_head child).rows) in
      let enter : IsEntered segment (any_row bits) entries = entered_if segment (any_row bits) entries any in
      share_whole segment offset head.number child way start bits (has_row bits enter.test) (reached_read segment offset child way (fixed at start (start + length bits)) 0 (all_rows (plan_head child).rows) enter.reached)
  reached_read segment offset (list_plan head elements offsets validity) way at start bits any = absurd any
  reached_read segment offset (row_idx_plan head) way at start bits any = absurd any
  reached_read segment offset (scan_plan head other coding) way at start bits any = scan_read segment other way head.dtype coding head.rows start bits (reached_at at start (length bits) other) refl any
  reached_read segment offset (zoned_plan head zones content table) way at start bits any = reached_read segment offset content way at start bits any
  reached_read segment offset (pruning_plan head pruning table) way at start bits any =
      let entries : List SegmentReach = selected_of table (fixed at start (start + length bits)) 0 (all_rows (plan_head table).rows) in
      let enter : IsEntered segment (any_row bits) entries = entered_if segment (any_row bits) entries any in
      zones_whole segment offset (is_pruned_at pruning head.rows) table way start bits (has_row bits enter.test) (reached_read segment offset table way (fixed at start (start + length bits)) 0 (all_rows (plan_head table).rows) enter.reached)

  chunk_read : (segment offset : ℕ) (ps : Plans) (way : Way) (before : ℕ) (at : Reach) (start : ℕ) (bits : List Bool) → IsReached segment (selected_chunks before ps at start bits) → SomeRow (λ row. Reads segment way (plan_derivation_in offset ps row)) start bits
  chunk_read segment offset no_plans way before at start bits any = absurd any
  chunk_read segment offset (plan first rest) way before at start bits any =
      ⊎_elim
      (λ (left : IsReached segment (selected_of first (shifted at before) start (take ((plan_head first).rows - start) bits))). chunk_first segment offset first rest way start bits (reached_read segment offset first way (shifted at before) start (take ((plan_head first).rows - start) bits) left))
      (λ (right : IsReached segment (selected_chunks (before + (plan_head first).rows) rest at (start - (plan_head first).rows) (drop ((plan_head first).rows - start) bits))). chunk_rest segment offset first rest way start bits (chunk_read segment offset rest way (before + (plan_head first).rows) at (start - (plan_head first).rows) (drop ((plan_head first).rows - start) bits) right))
      (either (OfSegment segment) (selected_of first (shifted at before) start (take ((plan_head first).rows - start) bits)) (selected_chunks (before + (plan_head first).rows) rest at (start - (plan_head first).rows) (drop ((plan_head first).rows - start) bits)) any)

  field_read : (segment offset : ℕ) (ps : Plans) (way : Way) (at : Reach) (start : ℕ) (bits : List Bool) → IsReached segment (selected_fields ps at start bits) → SomeRow (λ row. ReadsEach segment way (plan_derivations offset ps row)) start bits
  field_read segment offset no_plans way at start bits any = absurd any
  field_read segment offset (plan first rest) way at start bits any =
      ⊎_elim
      (λ (left : IsReached segment (selected_of first at start bits)). field_first segment offset first rest way start bits (reached_read segment offset first way at start bits left))
      (λ (right : IsReached segment (selected_fields rest at start bits)). field_rest segment offset first rest way start bits (field_read segment offset rest way at start bits right))
      (either (OfSegment segment) (selected_of first at start bits) (selected_fields rest at start bits) any)

  validity_read : (segment offset : ℕ) (v : PlanValidity) (d : ℕ → Derivation) (way : Way) (at : Reach) (start : ℕ) (bits : List Bool) → IsReached segment (selected_validity v at start bits) → SomeRow (λ row. Reads segment way (plan_where_valid offset v row (d row))) start bits
  validity_read segment offset all_valid d way at start bits any = absurd any
  validity_read segment offset (valid_as validity) d way at start bits any = valid_either segment offset validity d way start bits (reached_read segment offset validity way at start bits any)

pub reached_is_read : (p : Plan) (at : Reach) (offset start : ℕ) (bits : List Bool) (segment : ℕ) → IsReached segment (selected_of p at start bits) → IsReadBy offset segment p start bits
reached_is_read p at offset start bits segment any =
    let some : SomeRow (λ row. Reads segment directly (plan_derivation offset p row)) start bits = reached_read segment offset p directly at start bits any in
    record { row = some.row; chosen = some.chosen; read = some.holds }

-- ---- each segment that is read is given

-- each selected row is a row of so many
abbrev AreInside : ℕ → ℕ → List Bool → Type 0
AreInside rows start bits = (row : ℕ) → slice_get bits row ≡ Some true → start + row < rows

inside_all : (rows : ℕ) → AreInside rows 0 (all_rows rows)
inside_all rows row chosen = let lt : row < rows = within_all rows row chosen in omega arith

inside_same : (rows others start : ℕ) (bits : List Bool) → others ≡ rows → AreInside rows start bits → AreInside others start bits
inside_same rows others start bits e inside row chosen = let lt : start + row < rows = inside row chosen in omega arith

inside_taken : (rows start : ℕ) (bits : List Bool) → AreInside rows start (take (rows - start) bits)
inside_taken rows start bits row chosen = let here : IsTaken (rows - start) bits row = taken (rows - start) bits row chosen in omega (arith, here.lt)

-- a row of chunks is one of the first, or of the rest
record IsChunkRow (segment offset : ℕ) (first : Plan) (rest : Plans) (way : Way) (start : ℕ) (bits : List Bool) : Type 0 where
  row : ℕ
  chosen : slice_get (drop ((plan_head first).rows - start) bits) row ≡ Some true
  reads : Reads segment way (plan_derivation_in offset rest (start - (plan_head first).rows + row))

first_row : (segment offset : ℕ) (first : Plan) (rest : Plans) (way : Way) (start row : ℕ) → start + row < (plan_head first).rows → Reads segment way (plan_derivation_in offset (plan first rest) (start + row)) → Reads segment way (plan_derivation offset first (start + row))
first_row segment offset first rest way start row lt any = subst (Reads segment way) (in_first offset first rest (start + row) lt) any

rest_row : (segment offset : ℕ) (first : Plan) (rest : Plans) (way : Way) (start : ℕ) (bits : List Bool) (row : ℕ) → slice_get bits row ≡ Some true → (plan_head first).rows ≤ start + row → Reads segment way (plan_derivation_in offset (plan first rest) (start + row)) → IsChunkRow segment offset first rest way start bits
rest_row segment offset first rest way start bits row chosen le any =
    let n : ℕ = (plan_head first).rows in
    let e : n - start + (row - (n - start)) ≡ row = omega arith in
    let f : start + row - n ≡ start - n + (row - (n - start)) = omega arith in
    record {
      row = row - (n - start);
      chosen = dropped (n - start) bits (row - (n - start)) ∙ ap (slice_get bits) e ∙ chosen;
      reads = subst (Reads segment way) (in_rest offset first rest (start + row) le ∙ ap (plan_derivation_in offset rest) f) any;
    }

valid_reads : (segment offset : ℕ) (way : Way) (validity : PlanValidity) (row : ℕ) (d : Derivation) → Reads segment way (plan_where_valid offset validity row d) → Reads segment way d ⊎ Reads segment way (plan_where_valid offset validity row nothing)
valid_reads segment offset way all_valid row d any = inl any
valid_reads segment offset way (valid_as validity) row d any = either (InSegment segment) (reads_of way d) (reads_of way (plan_derivation offset validity row)) any

mutual
  read_reached : (segment offset : ℕ) (p : Plan) (way : Way) (at : Reach) (start : ℕ) (bits : List Bool) (row : ℕ) → HasFittingRows p → AreInside (plan_head p).rows start bits → slice_get bits row ≡ Some true → Reads segment way (plan_derivation offset p (start + row)) → IsReached segment (selected_of p at start bits)
  read_reached segment offset (no_plan head) way at start bits row fit within chosen any = absurd any
  read_reached segment offset (concat_plan head children) way at start bits row fit within chosen any = read_chunk segment offset children way 0 at start bits row fit chosen any
  read_reached segment offset (eval_plan head e child) way at start bits row fit within chosen any = read_reached segment offset child way at start bits row fit.1 (inside_same head.rows (plan_head child).rows start bits fit.0 within) chosen any
  read_reached segment offset (filter_plan head child) way at start bits row fit within chosen any = read_reached segment offset child way at start bits row fit.1 (inside_same head.rows (plan_head child).rows start bits fit.0 within) chosen any
  read_reached segment offset (pack_plan head children validity) way at start bits row fit within chosen any =
      ⊎_elim
      (λ (left : ReadsEach segment way (plan_derivations offset children (start + row))). in_front (OfSegment segment) (selected_fields children at start bits) (selected_validity validity at start bits) (read_field segment offset children head.rows way at start bits row fit.0 within chosen left))
      (λ (right : Reads segment way (plan_where_valid offset validity (start + row) nothing)). behind (OfSegment segment) (selected_fields children at start bits) (selected_validity validity at start bits) (read_validity segment offset validity head.rows way at start bits row fit.1 within chosen right))
      (valid_reads segment offset way validity (start + row) (packed (plan_derivations offset children (start + row))) any)
  read_reached segment offset (take_plan head codes values) way at start bits row fit within chosen any =
      let whole : List SegmentReach = selected_of values (fixed at start (start + length bits)) 0 (all_rows (plan_head values).rows) in
      if_entered segment (any_row bits) (selected_of codes at start bits ++ whole) (row_any bits row chosen)
      (⊎_elim
      (λ (none : ⊥). absurd none)
      (λ (some : AnyOf (InSegment segment) (reads_of way (plan_derivation offset codes (start + row)) ++ reads_of_each (inside head.number way) (each_row (plan_derivation offset values) 0 (plan_head values).rows))).
      ⊎_elim
      (λ (left : Reads segment way (plan_derivation offset codes (start + row))). in_front (OfSegment segment) (selected_of codes at start bits) whole (read_reached segment offset codes way at start bits row fit.1 (inside_same head.rows (plan_head codes).rows start bits fit.0 within) chosen left))
      (λ (right : ReadsEach segment (inside head.number way) (each_row (plan_derivation offset values) 0 (plan_head values).rows)).
      let one : IsOfRow (InSegment segment) (inside head.number way) (plan_derivation offset values) 0 (plan_head values).rows = row_read (InSegment segment) (inside head.number way) (plan_derivation offset values) 0 (plan_head values).rows right in
      behind (OfSegment segment) (selected_of codes at start bits) whole (read_reached segment offset values (inside head.number way) (fixed at start (start + length bits)) 0 (all_rows (plan_head values).rows) one.row fit.2 (inside_all (plan_head values).rows) (all_chosen (plan_head values).rows one.row one.lt) one.reads))
      (either (InSegment segment) (reads_of way (plan_derivation offset codes (start + row))) (reads_of_each (inside head.number way) (each_row (plan_derivation offset values) 0 (plan_head values).rows)) some))
      any)
  read_reached segment offset (share_plan head child) way at start bits row fit within chosen any =
      if_entered segment (any_row bits) (selected_of child (fixed at start (start + length bits)) 0 (all_rows (plan_head child).rows)) (row_any bits row chosen)
      (⊎_elim
      (λ (own : Reads segment way (plan_derivation offset child (start + row))). let lt : start + row < (plan_head child).rows = inside_same head.rows (plan_head child).rows start bits fit.0 within row chosen in
      let e : start + row ≡ 0 + (start + row) = omega arith in
      read_reached segment offset child way (fixed at start (start + length bits)) 0 (all_rows (plan_head child).rows) (start + row) fit.1 (inside_all (plan_head child).rows) (all_chosen (plan_head child).rows (start + row) lt) (subst (λ (r : ℕ). Reads segment way (plan_derivation offset child r)) e own))
      (λ (others : ReadsEach segment way (each_row (plan_derivation offset child) 0 (plan_head child).rows)).
      let one : IsOfRow (InSegment segment) way (plan_derivation offset child) 0 (plan_head child).rows = row_read (InSegment segment) way (plan_derivation offset child) 0 (plan_head child).rows others in
      read_reached segment offset child way (fixed at start (start + length bits)) 0 (all_rows (plan_head child).rows) one.row fit.1 (inside_all (plan_head child).rows) (all_chosen (plan_head child).rows one.row one.lt) one.reads)
      (either (InSegment segment) (reads_of way (plan_derivation offset child (start + row))) (reads_of_each way (each_row (plan_derivation offset child) 0 (plan_head child).rows)) any))
  read_reached segment offset (list_plan head elements offsets validity) way at start bits row fit within chosen any = ⊎_elim (λ (none : ⊥). absurd none) (λ (none : ⊥). absurd none) any
  read_reached segment offset (row_idx_plan head) way at start bits row fit within chosen any = absurd any
  read_reached segment offset (scan_plan head other coding) way at start bits row fit within chosen any =
      if_entered segment (any_row bits) (reached_at at start (length bits) other ∷ []) (row_any bits row chosen) any
  read_reached segment offset (zoned_plan head zones content table) way at start bits row fit within chosen any = read_reached segment offset content way at start bits row fit.1 (inside_same head.rows (plan_head content).rows start bits fit.0 within) chosen any
  read_reached segment offset (pruning_plan head pruning table) way at start bits row fit within chosen any =
      let one : IsOfRow (InSegment segment) way (plan_derivation offset table) 0 (plan_head table).rows = row_read (InSegment segment) way (plan_derivation offset table) 0 (plan_head table).rows any in
      if_entered segment (any_row bits) (selected_of table (fixed at start (start + length bits)) 0 (all_rows (plan_head table).rows)) (row_any bits row chosen)
      (read_reached segment offset table way (fixed at start (start + length bits)) 0 (all_rows (plan_head table).rows) one.row fit (inside_all (plan_head table).rows) (all_chosen (plan_head table).rows one.row one.lt) one.reads)

  read_chunk : (segment offset : ℕ) (ps : Plans) (way : Way) (before : ℕ) (at : Reach) (start : ℕ) (bits : List Bool) (row : ℕ) → HaveFittingRows ps → slice_get bits row ≡ Some true → Reads segment way (plan_derivation_in offset ps (start + row)) → IsReached segment (selected_chunks before ps at start bits)
  read_chunk segment offset no_plans way before at start bits row fit chosen any = absurd any
  read_chunk segment offset (plan first rest) way before at start bits row fit chosen any =
      ⊎_elim
      (λ (lt : start + row < (plan_head first).rows). in_front (OfSegment segment) (selected_of first (shifted at before) start (take ((plan_head first).rows - start) bits)) (selected_chunks (before + (plan_head first).rows) rest at (start - (plan_head first).rows) (drop ((plan_head first).rows - start) bits))
      (read_reached segment offset first way (shifted at before) start (take ((plan_head first).rows - start) bits) row fit.0 (inside_taken (plan_head first).rows start bits) (take_chosen ((plan_head first).rows - start) bits row (omega arith) chosen) (first_row segment offset first rest way start row lt any)))
      (λ (le : (plan_head first).rows ≤ start + row).
      let later : IsChunkRow segment offset first rest way start bits = rest_row segment offset first rest way start bits row chosen le any in
      behind (OfSegment segment) (selected_of first (shifted at before) start (take ((plan_head first).rows - start) bits)) (selected_chunks (before + (plan_head first).rows) rest at (start - (plan_head first).rows) (drop ((plan_head first).rows - start) bits))
      (read_chunk segment offset rest way (before + (plan_head first).rows) at (start - (plan_head first).rows) (drop ((plan_head first).rows - start) bits) later.row fit.1 later.chosen later.reads))
      (cases_lt (start + row) (plan_head first).rows)

  read_field : (segment offset : ℕ) (ps : Plans) (rows : ℕ) (way : Way) (at : Reach) (start : ℕ) (bits : List Bool) (row : ℕ) → FieldsHaveRows rows ps → AreInside rows start bits → slice_get bits row ≡ Some true → ReadsEach segment way (plan_derivations offset ps (start + row)) → IsReached segment (selected_fields ps at start bits)
  read_field segment offset no_plans rows way at start bits row fit within chosen any = absurd any
  read_field segment offset (plan first rest) rows way at start bits row fit within chosen any =
      ⊎_elim
      (λ (left : Reads segment way (plan_derivation offset first (start + row))). in_front (OfSegment segment) (selected_of first at start bits) (selected_fields rest at start bits) (read_reached segment offset first way at start bits row fit.1 (inside_same rows (plan_head first).rows start bits fit.0 within) chosen left))
      (λ (right : ReadsEach segment way (plan_derivations offset rest (start + row))). behind (OfSegment segment) (selected_of first at start bits) (selected_fields rest at start bits) (read_field segment offset rest rows way at start bits row fit.2 within chosen right))
      (either (InSegment segment) (reads_of way (plan_derivation offset first (start + row))) (reads_of_each way (plan_derivations offset rest (start + row))) any)

  read_validity : (segment offset : ℕ) (v : PlanValidity) (rows : ℕ) (way : Way) (at : Reach) (start : ℕ) (bits : List Bool) (row : ℕ) → ValidityHasRows rows v → AreInside rows start bits → slice_get bits row ≡ Some true → Reads segment way (plan_where_valid offset v (start + row) nothing) → IsReached segment (selected_validity v at start bits)
  read_validity segment offset all_valid rows way at start bits row fit within chosen any = absurd any
  read_validity segment offset (valid_as validity) rows way at start bits row fit within chosen any = read_reached segment offset validity way at start bits row fit.1 (inside_same rows (plan_head validity).rows start bits fit.0 within) chosen any

pub read_is_reached : (p : Plan) (at : Reach) (offset start : ℕ) (bits : List Bool) (segment : ℕ) → HasFittingRows p → start + length bits ≤ (plan_head p).rows → IsReadBy offset segment p start bits → IsReached segment (selected_of p at start bits)
read_is_reached p at offset start bits segment fit le by =
    read_reached segment offset p directly at start bits by.row fit
    (λ row chosen. let lt : row < length bits = slice_get_within bits row true chosen in omega arith)
    by.chosen by.read
