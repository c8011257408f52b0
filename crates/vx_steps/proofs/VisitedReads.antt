-- What a row visits is among what it reads, with what was handed in in place of what it would read.
use Rattle.std.proofs.Common.{◌≡◌, ℕ, zero, suc, ◌+◌, ◌<◌, inl, inr, Bool, true, false, List, Option, None, refl, sym, ap, subst, arith}
use Rattle.std.specs.Prelude.{if◌then◌else◌, nat_lt, ◌-◌}
use Rattle.std.specs.Bool.{MatchBool}
use Rattle.vx_base.specs.Data.{Datum}
use Rattle.vx_rows.specs.Derivations.{Derivation, nothing, of_leaf, list_row, given, packed, valid_where, looked_up, worked_out, read_whole, concluded, Derivations, no_more, also, each_row}
use Rattle.vx_rows.specs.Reads.{Way, inside, Found, reads_of, reads_of_each, Finds, IsIn}
use Rattle.vx_rows.specs.Given.{GivenValues, values_with, share_with, with_given, each_with_given}
use Rattle.vx_rows.proofs.ReadRows.{any_left, any_right, Meets}
use Rattle.vx_plan.specs.Plans.{Plan, no_plan, concat_plan, eval_plan, filter_plan, pack_plan, take_plan, share_plan, list_plan, row_idx_plan, scan_plan, zoned_plan, pruning_plan, Plans, no_plans, plan, PlanValidity, all_valid, valid_as, plan_head}
use Rattle.vx_plan.specs.PlanRows.{plan_derivation, plan_derivation_in, plan_derivations, plan_where_valid}
use Rattle.vx_steps.specs.declared.leaf_reads.LeafRead.{LeafRead}
use Rattle.vx_steps.specs.Given.{Handed, values_for}
use Rattle.vx_steps.specs.Laws.{IsRowOf}
use Rattle.vx_steps.specs.Visits.{Test, Visits, VisitsIn, VisitsField, VisitsValidity, IsLeafRead, IsListRead}
use Rattle.vx_steps.proofs.AllRows.{rows_with}

-- ---- nothing handed in

mutual
  pub none_served : (values : GivenValues) → ((n : ℕ) → values n ≡ None) → (d : Derivation) → with_given values d ≡ d
  none_served values none nothing = refl
  none_served values none (of_leaf at) = refl
  none_served values none (list_row list row) = refl
  none_served values none (given v) = refl
  none_served values none (packed ds) = ap packed (none_served_each values none ds)
  none_served values none (valid_where d validity) =
      let p : with_given values d ≡ d = none_served values none d in
      let q : with_given values validity ≡ validity = none_served values none validity in
      cc
  none_served values none (looked_up dictionary row code vs) =
      let p : with_given values code ≡ code = none_served values none code in
      let q : values_with (values dictionary) vs ≡ vs = ap (λ (v : Option (List Datum)). values_with v vs) (none dictionary) in
      cc
  none_served values none (worked_out t e d) = ap (worked_out t e) (none_served values none d)
  none_served values none (read_whole share row d ds) = ap (λ (v : Option (List Datum)). share_with v row (read_whole share row d ds)) (none share)
  none_served values none (concluded rule ds) = ap (concluded rule) (none_served_each values none ds)

  none_served_each : (values : GivenValues) → ((n : ℕ) → values n ≡ None) → (ds : Derivations) → each_with_given values ds ≡ ds
  none_served_each values none no_more = refl
  none_served_each values none (also d ds) =
      let p : with_given values d ≡ d = none_served values none d in
      let q : each_with_given values ds ≡ ds = none_served_each values none ds in
      cc

-- while whole values are made a row is what the plan says
pub alone_same : (d : Derivation) → with_given (values_for None) d ≡ d
alone_same d = none_served (values_for None) (λ n. refl) d

-- ---- what a visit finds

abbrev pub RowReads : (Found → Type 0) → Way → Handed → Derivation → Type 0
RowReads Q way handed d = Finds Q (reads_of way (with_given (values_for handed) d))

-- a row that is so itself has such a read
abbrev pub FindsOwn : Test → (Found → Type 0) → ℕ → Type 0
FindsOwn P Q offset = (handed : Handed) (way : Way) (p : Plan) (row : ℕ) → P handed p row → RowReads Q way handed (plan_derivation offset p row)

pub row_found : (Q : Found → Type 0) (way : Way) (f : ℕ → Derivation) (from count row : ℕ) → row < count → Finds Q (reads_of way (f (from + row))) → Finds Q (reads_of_each way (each_row f from count))
row_found Q way f from zero row lt any = absurd (omega arith)
row_found Q way f from (suc count) zero lt any =
    let e : from + 0 ≡ from = omega arith in
    any_left (Meets Q) (reads_of way (f from)) (reads_of_each way (each_row f (from + 1) count)) (subst (λ (r : ℕ). Finds Q (reads_of way (f r))) e any)
row_found Q way f from (suc count) (suc row) lt any =
    let e : from + suc row ≡ from + 1 + row = omega arith in
    any_right (Meets Q) (reads_of way (f from)) (reads_of_each way (each_row f (from + 1) count)) (row_found Q way f (from + 1) count row (omega arith) (subst (λ (r : ℕ). Finds Q (reads_of way (f r))) e any))

-- a row of whole values has the read, so all of them have
whole_found : (Q : Found → Type 0) (way : Way) (f : ℕ → Derivation) (count row : ℕ) → row < count → RowReads Q way None (f row) → Finds Q (reads_of_each way (each_row f 0 count))
whole_found Q way f count row lt any =
    let e : row ≡ 0 + row = omega arith in
    row_found Q way f 0 count row lt (subst (λ (r : ℕ). Finds Q (reads_of way (f r))) e (subst (λ (d : Derivation). Finds Q (reads_of way d)) (alone_same (f row)) any))

-- a row of all has the read, with what is handed in, so all of them have
pub found_rows : (Q : Found → Type 0) (way : Way) (v : GivenValues) (d : ℕ → Derivation) (count row : ℕ) → row < count → Finds Q (reads_of way (with_given v (d row))) → Finds Q (reads_of_each way (each_with_given v (each_row d 0 count)))
found_rows Q way v d count row lt any =
    let e : row ≡ 0 + row = omega arith in
    subst (λ (ds : Derivations). Finds Q (reads_of_each way ds)) (sym (rows_with v d 0 count)) (row_found Q way (λ (r : ℕ). with_given v (d r)) 0 count row lt (subst (λ (r : ℕ). Finds Q (reads_of way (with_given v (d r)))) e any))

-- of one or the other
pub by_test : (b : Bool) (A B : Type 0) (F : Derivation → Type 0) (d e : Derivation) → (A → F d) → (B → F e) → MatchBool b A B → F (if b then d else e)
by_test true A B F d e f g v = f v
by_test false A B F d e f g v = g v

front_valid : (Q : Found → Type 0) (way : Way) (handed : Handed) (offset : ℕ) (validity : PlanValidity) (row : ℕ) (d : Derivation) → RowReads Q way handed d → RowReads Q way handed (plan_where_valid offset validity row d)
front_valid Q way handed offset all_valid row d any = any
front_valid Q way handed offset (valid_as validity) row d any =
    any_left (Meets Q) (reads_of way (with_given (values_for handed) d)) (reads_of way (with_given (values_for handed) (plan_derivation offset validity row))) any

mutual
  pub visit_found : (P : Test) (Q : Found → Type 0) (offset : ℕ) → FindsOwn P Q offset → (handed : Handed) (p : Plan) (way : Way) (row : ℕ) → Visits P handed p row → RowReads Q way handed (plan_derivation offset p row)
  visit_found P Q offset own handed (no_plan head) way row v = own handed way (no_plan head) row v
  visit_found P Q offset own handed (concat_plan head children) way row (inl here) = own handed way (concat_plan head children) row here
  visit_found P Q offset own handed (concat_plan head children) way row (inr below) = visit_in P Q offset own handed children way row below
  visit_found P Q offset own handed (eval_plan head e child) way row (inl here) = own handed way (eval_plan head e child) row here
  visit_found P Q offset own handed (eval_plan head e child) way row (inr below) = visit_found P Q offset own handed child way row below
  visit_found P Q offset own handed (filter_plan head child) way row (inl here) = own handed way (filter_plan head child) row here
  visit_found P Q offset own handed (filter_plan head child) way row (inr below) = visit_found P Q offset own handed child way row below
  visit_found P Q offset own handed (pack_plan head children validity) way row (inl here) = own handed way (pack_plan head children validity) row here
  visit_found P Q offset own handed (pack_plan head children validity) way row (inr (inl below)) =
      front_valid Q way handed offset validity row (packed (plan_derivations offset children row)) (visit_field P Q offset own handed children way row below)
  visit_found P Q offset own handed (pack_plan head children validity) way row (inr (inr below)) = visit_validity P Q offset own handed validity way row (packed (plan_derivations offset children row)) below
  visit_found P Q offset own handed (take_plan head codes values) way row (inl here) = own handed way (take_plan head codes values) row here
  visit_found P Q offset own handed (take_plan head codes values) way row (inr (inl below)) =
      let all : Derivations = each_row (plan_derivation offset values) 0 (plan_head values).rows in
      inr (any_left (Meets Q) (reads_of way (with_given (values_for handed) (plan_derivation offset codes row))) (reads_of_each (inside head.number way) (values_with (values_for handed head.number) all)) (visit_found P Q offset own handed codes way row below))
  visit_found P Q offset own handed (take_plan head codes values) way row (inr (inr (none, (other, less, below)))) =
      let all : Derivations = each_row (plan_derivation offset values) 0 (plan_head values).rows in
      let F : Option (List Datum) → Type 0 = λ v. Finds Q (reads_of_each (inside head.number way) (values_with v all)) in
      let found : Finds Q (reads_of_each (inside head.number way) all) = whole_found Q (inside head.number way) (plan_derivation offset values) (plan_head values).rows other less (visit_found P Q offset own None values (inside head.number way) other below) in
      inr (any_right (Meets Q) (reads_of way (with_given (values_for handed) (plan_derivation offset codes row))) (reads_of_each (inside head.number way) (values_with (values_for handed head.number) all)) (subst F (sym none) found))
  visit_found P Q offset own handed (share_plan head child) way row (inl here) = own handed way (share_plan head child) row here
  visit_found P Q offset own handed (share_plan head child) way row (inr (none, (other, less, below))) =
      let all : Derivations = each_row (plan_derivation offset child) 0 (plan_head child).rows in
      let F : Option (List Datum) → Type 0 = λ v. Finds Q (reads_of way (share_with v row (read_whole head.number row (plan_derivation offset child row) all))) in
      let found : Finds Q (reads_of_each way all) = whole_found Q way (plan_derivation offset child) (plan_head child).rows other less (visit_found P Q offset own None child way other below) in
      subst F (sym none) (any_right (Meets Q) (reads_of way (plan_derivation offset child row)) (reads_of_each way all) found)
  visit_found P Q offset own handed (list_plan head elements offsets validity) way row v = own handed way (list_plan head elements offsets validity) row v
  visit_found P Q offset own handed (row_idx_plan head) way row v = own handed way (row_idx_plan head) row v
  visit_found P Q offset own handed (scan_plan head segment coding) way row v = own handed way (scan_plan head segment coding) row v
  visit_found P Q offset own handed (zoned_plan head zones content table) way row (inl here) = own handed way (zoned_plan head zones content table) row here
  visit_found P Q offset own handed (zoned_plan head zones content table) way row (inr below) = visit_found P Q offset own handed content way row below
  visit_found P Q offset own handed (pruning_plan head pruning table) way row (inl here) = own handed way (pruning_plan head pruning table) row here
  visit_found P Q offset own handed (pruning_plan head pruning table) way row (inr (other, less, below)) = found_rows Q way (values_for handed) (plan_derivation offset table) (plan_head table).rows other less (visit_found P Q offset own handed table way other below)

  visit_in : (P : Test) (Q : Found → Type 0) (offset : ℕ) → FindsOwn P Q offset → (handed : Handed) (ps : Plans) (way : Way) (row : ℕ) → VisitsIn P handed ps row → RowReads Q way handed (plan_derivation_in offset ps row)
  visit_in P Q offset own handed no_plans way row v = absurd v
  visit_in P Q offset own handed (plan first rest) way row v =
      by_test (nat_lt row (plan_head first).rows) (Visits P handed first row) (VisitsIn P handed rest (row - (plan_head first).rows)) (RowReads Q way handed)
      (plan_derivation offset first row) (plan_derivation_in offset rest (row - (plan_head first).rows))
      (visit_found P Q offset own handed first way row) (visit_in P Q offset own handed rest way (row - (plan_head first).rows)) v

  visit_field : (P : Test) (Q : Found → Type 0) (offset : ℕ) → FindsOwn P Q offset → (handed : Handed) (ps : Plans) (way : Way) (row : ℕ) → VisitsField P handed ps row → Finds Q (reads_of_each way (each_with_given (values_for handed) (plan_derivations offset ps row)))
  visit_field P Q offset own handed no_plans way row v = absurd v
  visit_field P Q offset own handed (plan first rest) way row (inl here) =
      any_left (Meets Q) (reads_of way (with_given (values_for handed) (plan_derivation offset first row))) (reads_of_each way (each_with_given (values_for handed) (plan_derivations offset rest row))) (visit_found P Q offset own handed first way row here)
  visit_field P Q offset own handed (plan first rest) way row (inr below) =
      any_right (Meets Q) (reads_of way (with_given (values_for handed) (plan_derivation offset first row))) (reads_of_each way (each_with_given (values_for handed) (plan_derivations offset rest row))) (visit_field P Q offset own handed rest way row below)

  visit_validity : (P : Test) (Q : Found → Type 0) (offset : ℕ) → FindsOwn P Q offset → (handed : Handed) (validity : PlanValidity) (way : Way) (row : ℕ) (d : Derivation) → VisitsValidity P handed validity row → RowReads Q way handed (plan_where_valid offset validity row d)
  visit_validity P Q offset own handed all_valid way row d v = absurd v
  visit_validity P Q offset own handed (valid_as validity) way row d v =
      any_right (Meets Q) (reads_of way (with_given (values_for handed) d)) (reads_of way (with_given (values_for handed) (plan_derivation offset validity row))) (visit_found P Q offset own handed validity way row v)

-- ---- leaves and lists

leaf_own : (offset : ℕ) (read : LeafRead) → FindsOwn (IsLeafRead read) (IsIn read.segment) offset
leaf_own offset read handed way (no_plan head) row v = absurd v
leaf_own offset read handed way (concat_plan head children) row v = absurd v
leaf_own offset read handed way (eval_plan head e child) row v = absurd v
leaf_own offset read handed way (filter_plan head child) row v = absurd v
leaf_own offset read handed way (pack_plan head children validity) row v = absurd v
leaf_own offset read handed way (take_plan head codes values) row v = absurd v
leaf_own offset read handed way (share_plan head child) row v = absurd v
leaf_own offset read handed way (list_plan head elements offsets validity) row v = absurd v
leaf_own offset read handed way (row_idx_plan head) row v = absurd v
leaf_own offset read handed way (scan_plan head segment coding) row v = inl v.1
leaf_own offset read handed way (zoned_plan head zones content table) row v = absurd v
leaf_own offset read handed way (pruning_plan head pruning table) row v = absurd v

pub leaf_found : (handed : Handed) (offset : ℕ) (p : Plan) (way : Way) (row : ℕ) (read : LeafRead) → Visits (IsLeafRead read) handed p row → RowReads (IsIn read.segment) way handed (plan_derivation offset p row)
leaf_found handed offset p way row read v = visit_found (IsLeafRead read) (IsIn read.segment) offset (leaf_own offset read) handed p way row v

list_own : (offset n : ℕ) → FindsOwn (IsListRead n) (IsRowOf n) offset
list_own offset n handed way (no_plan head) row v = absurd v
list_own offset n handed way (concat_plan head children) row v = absurd v
list_own offset n handed way (eval_plan head e child) row v = absurd v
list_own offset n handed way (filter_plan head child) row v = absurd v
list_own offset n handed way (pack_plan head children validity) row v = absurd v
list_own offset n handed way (take_plan head codes values) row v = absurd v
list_own offset n handed way (share_plan head child) row v = absurd v
list_own offset n handed way (list_plan head elements offsets validity) row v = inl v
list_own offset n handed way (row_idx_plan head) row v = absurd v
list_own offset n handed way (scan_plan head segment coding) row v = absurd v
list_own offset n handed way (zoned_plan head zones content table) row v = absurd v
list_own offset n handed way (pruning_plan head pruning table) row v = absurd v

pub list_found : (handed : Handed) (offset : ℕ) (p : Plan) (way : Way) (row n : ℕ) → Visits (IsListRead n) handed p row → RowReads (IsRowOf n) way handed (plan_derivation offset p row)
list_found handed offset p way row n v = visit_found (IsListRead n) (IsRowOf n) offset (list_own offset n) handed p way row v
