-- What a row reads is among what it visits, where the row is one of the plan's.
use Rattle.std.proofs.Common.{◌≡◌, ℕ, zero, suc, ◌+◌, ◌-◌, ◌<◌, ◌≤◌, ◌⊎◌, inl, inr, ⊎_elim, Bool, true, false, List, [], ◌∷◌, ◌++◌, Option, Some, None, length, refl, sym, subst, arith}
use Rattle.std.specs.Prelude.{if◌then◌else◌, nat_lt}
use Rattle.std.specs.Bool.{MatchBool}
use Rattle.std.specs.List.{slice_get}
use Rattle.std.proofs.lemmas.Bool.{ltb-true}
use Rattle.std.proofs.lemmas.Option.{slice_get_within}
use Rattle.vx_base.specs.declared.codings.Coding.{Coding}
use Rattle.vx_base.specs.Data.{Datum}
use Rattle.vx_rows.specs.Derivations.{LeafRow, Derivation, packed, read_whole, Derivations, each_row}
use Rattle.vx_rows.specs.Reads.{Way, directly, inside, Found, a_leaf_row, a_code, a_list_row, code_row, Read, reads_of, reads_of_each, Finds, ReadsLeafRow, IsIn}
use Rattle.vx_rows.specs.Given.{GivenValues, all_given, given_row, values_with, share_with, with_given, each_with_given}
use Rattle.vx_rows.specs.Heads.{Head}
use Rattle.vx_rows.proofs.Givens.{reads_no_more}
use Rattle.vx_rows.proofs.ReadRows.{any_either}
use Rattle.vx_plan.specs.FittingRows.{HasFittingRows, HaveFittingRows, FieldsHaveRows, ValidityHasRows}
use Rattle.vx_plan.specs.declared.nodes.PlanKind.{PlanKind}
use Rattle.vx_plan.specs.declared.nodes.PlanKind.TheVariants as kinds
use Rattle.vx_plan.specs.Laws.{IsReadBy}
use Rattle.vx_plan.specs.Nodes.{Node}
use Rattle.vx_plan.specs.Plans.{Plan, no_plan, concat_plan, eval_plan, filter_plan, pack_plan, take_plan, share_plan, list_plan, row_idx_plan, scan_plan, zoned_plan, pruning_plan, Plans, no_plans, plan, PlanValidity, all_valid, valid_as, plan_head}
use Rattle.vx_plan.specs.PlanRows.{plan_derivation, plan_derivation_in, plan_derivations, plan_where_valid, plan_reads}
use Rattle.vx_steps.specs.declared.leaf_reads.LeafRead.{LeafRead}
use Rattle.vx_steps.specs.Given.{Handed, given_as, given_at, given_for, values_for, whole_at}
use Rattle.vx_steps.specs.Laws.{HandsNone, VisitsSegment, IsRowOf, SomeRead}
use Rattle.vx_steps.specs.Visits.{Test, Visits, VisitsIn, VisitsField, VisitsValidity, SomeVisit, IsLeafRead, IsListRead}
use Rattle.vx_rows.proofs.ReadRows.{Meets}
use Rattle.vx_steps.proofs.AllRows.{rows_with}
use Rattle.vx_steps.proofs.VisitedReads.{RowReads, alone_same, leaf_found, none_served}

-- ---- cells of a segment

record IsLeafRow (segment : ℕ) (found : Found) : Type 0 where
  at : LeafRow
  is : found ≡ a_leaf_row at
  segment_is : at.segment ≡ segment

cell_in : (segment : ℕ) (found : Found) → IsIn segment found → IsLeafRow segment found
cell_in segment (a_leaf_row at) is = record { at = at; is = refl; segment_is = is }
cell_in segment (a_code code) is = absurd is
cell_in segment (a_list_row list row) is = absurd is

record SomeLeafRow (segment : ℕ) (reads : List Read) : Type 0 where
  way : Way
  at : LeafRow
  segment_is : at.segment ≡ segment
  read : ReadsLeafRow way at reads

some_leaf_row : (segment : ℕ) (reads : List Read) → Finds (IsIn segment) reads → SomeLeafRow segment reads
some_leaf_row segment [] any = absurd any
some_leaf_row segment (read ∷ reads) (inl here) =
    let one : IsLeafRow segment read.found = cell_in segment read.found here in
    record { way = read.way; at = one.at; segment_is = one.segment_is; read = inl (refl, one.is) }
some_leaf_row segment (read ∷ reads) (inr later) =
    let one : SomeLeafRow segment reads = some_leaf_row segment reads later in
    record { way = one.way; at = one.at; segment_is = one.segment_is; read = inr one.read }

leaf_row_some : (segment : ℕ) (way : Way) (at : LeafRow) (reads : List Read) → at.segment ≡ segment → ReadsLeafRow way at reads → Finds (IsIn segment) reads
leaf_row_some segment way at [] is any = absurd any
leaf_row_some segment way at (read ∷ reads) is (inl here) = inl (subst (IsIn segment) (sym here.1) is)
leaf_row_some segment way at (read ∷ reads) is (inr later) = inr (leaf_row_some segment way at reads is later)

-- whatever is handed in, no more segments are read
pub no_more_segments : (values : GivenValues) (d : Derivation) (way : Way) (segment : ℕ) → Finds (IsIn segment) (reads_of way (with_given values d)) → Finds (IsIn segment) (reads_of way d)
no_more_segments values d way segment any =
    let one : SomeLeafRow segment (reads_of way (with_given values d)) = some_leaf_row segment (reads_of way (with_given values d)) any in
    leaf_row_some segment one.way one.at (reads_of way d) one.segment_is (reads_no_more values d way one.way one.at one.read)

-- ---- where values are handed in nothing is read for them

pub nothing_in : (Q : Found → Type 0) (way : Way) (vs : List Datum) → Finds Q (reads_of_each way (all_given vs)) → ⊥
nothing_in Q way [] any = any
nothing_in Q way (v ∷ vs) any = nothing_in Q way vs any

values_unread : (Q : Found → Type 0) (way : Way) (v : Option (List Datum)) (ds : Derivations) → Finds Q (reads_of_each way (values_with v ds)) → (v ≡ None) × Finds Q (reads_of_each way ds)
values_unread Q way None ds any = (refl, any)
values_unread Q way (Some vs) ds any = absurd (nothing_in Q way vs any)

pub nothing_at : (Q : Found → Type 0) (way : Way) (v : Option Datum) → Finds Q (reads_of way (given_row v)) → ⊥
nothing_at Q way None any = any
nothing_at Q way (Some v) any = any

share_unread : (Q : Found → Type 0) (way : Way) (v : Option (List Datum)) (row : ℕ) (d : Derivation) → Finds Q (reads_of way (share_with v row d)) → (v ≡ None) × Finds Q (reads_of way d)
share_unread Q way None row d any = (refl, any)
share_unread Q way (Some vs) row d any = absurd (nothing_at Q way (slice_get vs row) any)

-- ---- which row of whole values has the read

abbrev OfRow : (Found → Type 0) → Way → (ℕ → Derivation) → ℕ → ℕ → Type 0
OfRow Q way f from count = (row : ℕ) × (row < count) × Finds Q (reads_of way (f (from + row)))

row_of : (Q : Found → Type 0) (way : Way) (f : ℕ → Derivation) (from count : ℕ) → Finds Q (reads_of_each way (each_row f from count)) → OfRow Q way f from count
row_of Q way f from zero any = absurd any
row_of Q way f from (suc count) any =
    ⊎_elim (λ (here : Finds Q (reads_of way (f from))). first here) (λ (later : Finds Q (reads_of_each way (each_row f (from + 1) count))). next (row_of Q way f (from + 1) count later))
    (any_either (Meets Q) (reads_of way (f from)) (reads_of_each way (each_row f (from + 1) count)) any)
  where
    first : Finds Q (reads_of way (f from)) → OfRow Q way f from (suc count)
    first here =
        let e : from ≡ from + 0 = omega arith in
        (0, omega arith, subst (λ (r : ℕ). Finds Q (reads_of way (f r))) e here)

    next : OfRow Q way f (from + 1) count → OfRow Q way f from (suc count)
    next (row, less, found) =
        let e : from + 1 + row ≡ from + suc row = omega arith in
        (suc row, omega (arith, less), subst (λ (r : ℕ). Finds Q (reads_of way (f r))) e found)

-- a row, as it is while whole values are made
abbrev OfWhole : (Found → Type 0) → Way → (ℕ → Derivation) → ℕ → Type 0
OfWhole Q way f count = (row : ℕ) × (row < count) × RowReads Q way None (f row)

alone : (Q : Found → Type 0) (way : Way) (d : Derivation) → Finds Q (reads_of way d) → RowReads Q way None d
alone Q way d any = subst (λ (e : Derivation). Finds Q (reads_of way e)) (sym (alone_same d)) any

whole_of : (Q : Found → Type 0) (way : Way) (f : ℕ → Derivation) (count : ℕ) → Finds Q (reads_of_each way (each_row f 0 count)) → OfWhole Q way f count
whole_of Q way f count any = shown (row_of Q way f 0 count any)
  where
    shown : OfRow Q way f 0 count → OfWhole Q way f count
    shown (row, less, found) =
        let e : 0 + row ≡ row = omega arith in
        (row, less, alone Q way (f row) (subst (λ (r : ℕ). Finds Q (reads_of way (f r))) e found))

-- which of all rows has the read, with what is handed in
of_rows : (Q : Found → Type 0) (way : Way) (v : GivenValues) (d : ℕ → Derivation) (count : ℕ) → Finds Q (reads_of_each way (each_with_given v (each_row d 0 count))) → (row : ℕ) × (row < count) × Finds Q (reads_of way (with_given v (d row)))
of_rows Q way v d count any = shown (row_of Q way (λ (r : ℕ). with_given v (d r)) 0 count (subst (λ (ds : Derivations). Finds Q (reads_of_each way ds)) (rows_with v d 0 count) any))
  where
    shown : OfRow Q way (λ (r : ℕ). with_given v (d r)) 0 count → (row : ℕ) × (row < count) × Finds Q (reads_of way (with_given v (d row)))
    shown (row, less, found) =
        let e : 0 + row ≡ row = omega arith in
        (row, less, subst (λ (r : ℕ). Finds Q (reads_of way (with_given v (d r)))) e found)

-- ---- visits

-- what a row itself has read is a visit of it, by some test of several
pub record IsOwn {X : Type 0} (P : X → Test) (Q : Found → Type 0) (offset : ℕ) : Type 0 where
  pub of_cell : (handed : Handed) (head : Head) (segment : ℕ) (coding : Coding) (row : ℕ) → Q (a_leaf_row (record { dtype = head.dtype; coding = coding; rows = head.rows; segment = segment; row = row })) → (x : X) × P x handed (scan_plan head segment coding) row
  pub of_list : (handed : Handed) (head : Head) (elements offsets : Plan) (validity : PlanValidity) (row : ℕ) → Q (a_list_row head.number row) → (x : X) × P x handed (list_plan head elements offsets validity) row
  pub of_code : (handed : Handed) (head : Head) (codes values : Plan) (row : ℕ) → Q (a_code (code_row head.number row (with_given (values_for handed) (plan_derivation offset codes row)) (values_with (values_for handed head.number) (each_row (plan_derivation offset values) 0 (plan_head values).rows)))) →
      (x : X) × P x handed (take_plan head codes values) row

abbrev ValidReads : (Found → Type 0) → Way → Handed → ℕ → PlanValidity → ℕ → Type 0
ValidReads Q way handed offset all_valid row = ⊥
ValidReads Q way handed offset (valid_as validity) row = RowReads Q way handed (plan_derivation offset validity row)

either_valid : (Q : Found → Type 0) (way : Way) (handed : Handed) (offset : ℕ) (validity : PlanValidity) (row : ℕ) (d : Derivation) → RowReads Q way handed (plan_where_valid offset validity row d) → RowReads Q way handed d ⊎ ValidReads Q way handed offset validity row
either_valid Q way handed offset all_valid row d any = inl any
either_valid Q way handed offset (valid_as validity) row d any = any_either (Meets Q) (reads_of way (with_given (values_for handed) d)) (reads_of way (with_given (values_for handed) (plan_derivation offset validity row))) any

-- of the one or the other, which it is by the same test
pub by_match : {X : Type 0} (b : Bool) (F : Derivation → Type 0) (d e : Derivation) (A B : X → Type 0) → (b ≡ true → F d → (x : X) × A x) → (F e → (x : X) × B x) → F (if b then d else e) → (x : X) × MatchBool b (A x) (B x)
by_match true F d e A B f g any = f refl any
by_match false F d e A B f g any = g any

mutual
  pub found_visit : {X : Type 0} (P : X → Test) (Q : Found → Type 0) (offset : ℕ) → IsOwn P Q offset → (handed : Handed) (p : Plan) (way : Way) (row : ℕ) → HasFittingRows p → row < (plan_head p).rows → RowReads Q way handed (plan_derivation offset p row) → (x : X) × Visits (P x) handed p row
  found_visit P Q offset own handed (no_plan head) way row fit less any = absurd any
  found_visit P Q offset own handed (concat_plan head children) way row fit less any =
      let v = found_in P Q offset own handed children way row fit any in
      (v.0, inr v.1)
  found_visit P Q offset own handed (eval_plan head e child) way row fit less any =
      let v = found_visit P Q offset own handed child way row fit.1 (subst (λ (rows : ℕ). row < rows) (sym fit.0) less) any in
      (v.0, inr v.1)
  found_visit P Q offset own handed (filter_plan head child) way row fit less any =
      let v = found_visit P Q offset own handed child way row fit.1 (subst (λ (rows : ℕ). row < rows) (sym fit.0) less) any in
      (v.0, inr v.1)
  found_visit {X} P Q offset own handed (pack_plan head children validity) way row fit less any =
      ⊎_elim
      (λ (left : RowReads Q way handed (packed (plan_derivations offset children row))).
      let v : (x : X) × VisitsField (P x) handed children row = found_field P Q offset own handed children head.rows way row fit.0 less left in
      (v.0, inr (inl v.1)))
      (λ (right : ValidReads Q way handed offset validity row).
      let v : (x : X) × VisitsValidity (P x) handed validity row = found_validity P Q offset own handed validity head.rows way row fit.1 less right in
      (v.0, inr (inr v.1)))
      (either_valid Q way handed offset validity row (packed (plan_derivations offset children row)) any)
  found_visit {X} P Q offset own handed (take_plan head codes values) way row fit less (inl here) =
      let v : (x : X) × P x handed (take_plan head codes values) row = own.of_code handed head codes values row here in
      (v.0, inl v.1)
  found_visit {X} P Q offset own handed (take_plan head codes values) way row fit less (inr any) =
      let all : Derivations = each_row (plan_derivation offset values) 0 (plan_head values).rows in
      ⊎_elim
      (λ (left : RowReads Q way handed (plan_derivation offset codes row)).
      let v : (x : X) × Visits (P x) handed codes row = found_visit P Q offset own handed codes way row fit.1 (subst (λ (rows : ℕ). row < rows) (sym fit.0) less) left in
      (v.0, inr (inl v.1)))
      (λ (right : Finds Q (reads_of_each (inside head.number way) (values_with (values_for handed head.number) all))).
      let some : (values_for handed head.number ≡ None) × Finds Q (reads_of_each (inside head.number way) all) = values_unread Q (inside head.number way) (values_for handed head.number) all right in
      let one : OfWhole Q (inside head.number way) (plan_derivation offset values) (plan_head values).rows = whole_of Q (inside head.number way) (plan_derivation offset values) (plan_head values).rows some.1 in
      let v : (x : X) × Visits (P x) None values one.0 = found_visit P Q offset own None values (inside head.number way) one.0 fit.2 one.1 one.2 in
      (v.0, inr (inr (some.0, (one.0, one.1, v.1)))))
      (any_either (Meets Q) (reads_of way (with_given (values_for handed) (plan_derivation offset codes row))) (reads_of_each (inside head.number way) (values_with (values_for handed head.number) all)) any)
  found_visit {X} P Q offset own handed (share_plan head child) way row fit less any =
      let all : Derivations = each_row (plan_derivation offset child) 0 (plan_head child).rows in
      let some : (values_for handed head.number ≡ None) × Finds Q (reads_of way (plan_derivation offset child row) ++ reads_of_each way all) = share_unread Q way (values_for handed head.number) row (read_whole head.number row (plan_derivation offset child row) all) any in
      ⊎_elim
      (λ (left : Finds Q (reads_of way (plan_derivation offset child row))).
      let here : row < (plan_head child).rows = subst (λ (rows : ℕ). row < rows) (sym fit.0) less in
      let v : (x : X) × Visits (P x) None child row = found_visit P Q offset own None child way row fit.1 here (alone Q way (plan_derivation offset child row) left) in
      (v.0, inr (some.0, (row, here, v.1))))
      (λ (right : Finds Q (reads_of_each way all)).
      let one : OfWhole Q way (plan_derivation offset child) (plan_head child).rows = whole_of Q way (plan_derivation offset child) (plan_head child).rows right in
      let v : (x : X) × Visits (P x) None child one.0 = found_visit P Q offset own None child way one.0 fit.1 one.1 one.2 in
      (v.0, inr (some.0, (one.0, one.1, v.1))))
      (any_either (Meets Q) (reads_of way (plan_derivation offset child row)) (reads_of_each way all) some.1)
  found_visit P Q offset own handed (list_plan head elements offsets validity) way row fit less (inl here) = own.of_list handed head elements offsets validity row here
  found_visit P Q offset own handed (list_plan head elements offsets validity) way row fit less (inr none) = absurd none
  found_visit P Q offset own handed (row_idx_plan head) way row fit less any = absurd any
  found_visit P Q offset own handed (scan_plan head segment coding) way row fit less (inl here) = own.of_cell handed head segment coding row here
  found_visit P Q offset own handed (scan_plan head segment coding) way row fit less (inr none) = absurd none
  found_visit P Q offset own handed (zoned_plan head zones content table) way row fit less any =
      let v = found_visit P Q offset own handed content way row fit.1 (subst (λ (rows : ℕ). row < rows) (sym fit.0) less) any in
      (v.0, inr v.1)
  found_visit {X} P Q offset own handed (pruning_plan head pruning table) way row fit less any =
      let one = of_rows Q way (values_for handed) (plan_derivation offset table) (plan_head table).rows any in
      let v : (x : X) × Visits (P x) handed table one.0 = found_visit P Q offset own handed table way one.0 fit one.1 one.2 in
      (v.0, inr (one.0, one.1, v.1))

  found_in : {X : Type 0} (P : X → Test) (Q : Found → Type 0) (offset : ℕ) → IsOwn P Q offset → (handed : Handed) (ps : Plans) (way : Way) (row : ℕ) → HaveFittingRows ps → RowReads Q way handed (plan_derivation_in offset ps row) → (x : X) × VisitsIn (P x) handed ps row
  found_in P Q offset own handed no_plans way row fit any = absurd any
  found_in P Q offset own handed (plan first rest) way row fit any =
      by_match (nat_lt row (plan_head first).rows) (RowReads Q way handed) (plan_derivation offset first row) (plan_derivation_in offset rest (row - (plan_head first).rows))
      (λ x. Visits (P x) handed first row) (λ x. VisitsIn (P x) handed rest (row - (plan_head first).rows))
      (λ e here. found_visit P Q offset own handed first way row fit.0 (ltb-true row (plan_head first).rows e) here)
      (λ there. found_in P Q offset own handed rest way (row - (plan_head first).rows) fit.1 there) any

  found_field : {X : Type 0} (P : X → Test) (Q : Found → Type 0) (offset : ℕ) → IsOwn P Q offset → (handed : Handed) (ps : Plans) (rows : ℕ) (way : Way) (row : ℕ) → FieldsHaveRows rows ps → row < rows → Finds Q (reads_of_each way (each_with_given (values_for handed) (plan_derivations offset ps row))) → (x : X) × VisitsField (P x) handed ps row
  found_field P Q offset own handed no_plans rows way row fit less any = absurd any
  found_field {X} P Q offset own handed (plan first rest) rows way row fit less any =
      ⊎_elim
      (λ (left : RowReads Q way handed (plan_derivation offset first row)).
      let v : (x : X) × Visits (P x) handed first row = found_visit P Q offset own handed first way row fit.1 (subst (λ (n : ℕ). row < n) (sym fit.0) less) left in
      (v.0, inl v.1))
      (λ (right : Finds Q (reads_of_each way (each_with_given (values_for handed) (plan_derivations offset rest row)))).
      let v : (x : X) × VisitsField (P x) handed rest row = found_field P Q offset own handed rest rows way row fit.2 less right in
      (v.0, inr v.1))
      (any_either (Meets Q) (reads_of way (with_given (values_for handed) (plan_derivation offset first row))) (reads_of_each way (each_with_given (values_for handed) (plan_derivations offset rest row))) any)

  found_validity : {X : Type 0} (P : X → Test) (Q : Found → Type 0) (offset : ℕ) → IsOwn P Q offset → (handed : Handed) (validity : PlanValidity) (rows : ℕ) (way : Way) (row : ℕ) → ValidityHasRows rows validity → row < rows → ValidReads Q way handed offset validity row → (x : X) × VisitsValidity (P x) handed validity row
  found_validity P Q offset own handed all_valid rows way row fit less any = absurd any
  found_validity P Q offset own handed (valid_as validity) rows way row fit less any = found_visit P Q offset own handed validity way row fit.1 (subst (λ (n : ℕ). row < n) (sym fit.0) less) any

-- ---- leaves and lists

pub leaf_visit : (handed : Handed) (offset : ℕ) (p : Plan) (way : Way) (row segment : ℕ) → HasFittingRows p → row < (plan_head p).rows → RowReads (IsIn segment) way handed (plan_derivation offset p row) → VisitsSegment segment handed p row
leaf_visit handed offset p way row segment fit less any = found_visit P (IsIn segment) offset own handed p way row fit less any
  where
    P : ℕ → Test
    P leaf = IsLeafRead (record { leaf = leaf; segment = segment })

    own : IsOwn P (IsIn segment) offset
    own = record {
      of_cell = λ other head s coding at is. (head.number, (refl, is));
      of_list = λ other head elements offsets validity at none. absurd none;
      of_code = λ other head codes values at none. absurd none;
    }

pub list_visit : (handed : Handed) (offset : ℕ) (p : Plan) (way : Way) (row n : ℕ) → HasFittingRows p → row < (plan_head p).rows → RowReads (IsRowOf n) way handed (plan_derivation offset p row) → Visits (IsListRead n) handed p row
list_visit handed offset p way row n fit less any =
    let v = found_visit P (IsRowOf n) offset own handed p way row fit less any in
    v.1
  where
    P : Unit {0} → Test
    P x = IsListRead n

    own : IsOwn P (IsRowOf n) offset
    own = record {
      of_cell = λ other head s coding at none. absurd none;
      of_list = λ other head elements offsets validity at is. (tt, is);
      of_code = λ other head codes values at none. absurd none;
    }

-- where nothing is handed in, the plan's reads are those
pub plan_leaf_visit : (handed : Handed) (offset : ℕ) (p : Plan) (row segment : ℕ) → HandsNone handed → HasFittingRows p → row < (plan_head p).rows → Finds (IsIn segment) (plan_reads offset p row) → VisitsSegment segment handed p row
plan_leaf_visit handed offset p row segment none fit less any =
    leaf_visit handed offset p directly row segment fit less (subst (λ (d : Derivation). Finds (IsIn segment) (reads_of directly d)) (sym (none_served (values_for handed) none (plan_derivation offset p row))) any)

-- ---- no columns hand in nothing

none_whole : (n : Option ℕ) → whole_at [] n ≡ None
none_whole None = refl
none_whole (Some n) = refl

none_as : (n : ℕ) (kind : PlanKind) (children : List ℕ) → given_as [] n kind children ≡ None
none_as n kinds.Concat children = refl
none_as n (kinds.Eval a) children = refl
none_as n kinds.Filter children = refl
none_as n (kinds.Pack has_validity) children = refl
none_as n kinds.Take children = none_whole (slice_get children 1)
none_as n kinds.Share children = refl
none_as n (kinds.ListPack has_validity) children = refl
none_as n kinds.RowIdx children = refl
none_as n (kinds.SegmentScan segment coding) children = refl
none_as n (kinds.Zoned zone_len stats) children = refl
none_as n (kinds.LegacyStats zone_len stats) children = refl
none_as n (kinds.Pruning zone_len stats proof) children = refl

none_at : (n : ℕ) (node : Option Node) → given_at [] n node ≡ None
none_at n None = refl
none_at n (Some node) = none_as n node.kind node.children

pub no_columns : (nodes : List Node) → HandsNone (Some (given_for nodes []))
no_columns nodes n = none_at n (slice_get nodes n)

-- ---- selected rows

pub selected_leaf : (handed : Handed) (offset : ℕ) (p : Plan) (start : ℕ) (bits : List Bool) (read : LeafRead) → SomeVisit (IsLeafRead read) handed p start bits → SomeRead (IsIn read.segment) handed offset p start bits
selected_leaf handed offset p start bits read (place, at, v) = (place, at, leaf_found handed offset p directly (start + place) read v)

pub selected_read : (handed : Handed) (offset : ℕ) (p : Plan) (start : ℕ) (bits : List Bool) (read : LeafRead) → SomeVisit (IsLeafRead read) handed p start bits → IsReadBy offset read.segment p start bits
selected_read handed offset p start bits read (place, at, v) = record {
  row = place;
  chosen = at;
  read = no_more_segments (values_for handed) (plan_derivation offset p (start + place)) directly read.segment (leaf_found handed offset p directly (start + place) read v);
}

pub selected_visit : (handed : Handed) (offset : ℕ) (p : Plan) (start : ℕ) (bits : List Bool) (segment : ℕ) → HandsNone handed → HasFittingRows p → start + length bits ≤ (plan_head p).rows → IsReadBy offset segment p start bits →
    (leaf : ℕ) × SomeVisit (IsLeafRead (record { leaf = leaf; segment = segment })) handed p start bits
selected_visit handed offset p start bits segment none fit inside by =
    let short : by.row < length bits = slice_get_within bits by.row true by.chosen in
    let v : VisitsSegment segment handed p (start + by.row) = plan_leaf_visit handed offset p (start + by.row) segment none fit (omega (arith, inside, short)) by.read in
    (v.0, (by.row, by.chosen, v.1))
