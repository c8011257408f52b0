-- Each leaf that a row reads it reads by some way, in place of which nothing is given; and what is read by such a way is
-- read, and found in the plan's own reads come to by that way.
use Rattle.std.proofs.Common.{◌≡◌, ℕ, zero, suc, ◌+◌, ◌-◌, ◌<◌, inl, inr, Bool, true, false, List, [], ◌∷◌, ◌++◌, Some, None, refl, ap, ◌∙◌, subst, arith}
use Rattle.std.specs.Prelude.{nat_lt}
use Rattle.std.specs.Bool.{MatchBool}
use Rattle.std.specs.List.{AllByRecursion}
use Rattle.vx_rows.specs.Derivations.{Derivation, Derivations, packed, each_row}
use Rattle.vx_rows.specs.Given.{GivenValues}
use Rattle.vx_rows.specs.Reads.{Way, directly, through, Read, reads_of, reads_of_each, AnyOf, Finds, FindsBy, IsIn}
use Rattle.vx_rows.proofs.ReadRows.{any_left, any_right, each_lies_through}
use Rattle.vx_plan.specs.Plans.{Plan, no_plan, concat_plan, eval_plan, filter_plan, pack_plan, take_plan, share_plan, list_plan, row_idx_plan, scan_plan, zoned_plan, pruning_plan, Plans, no_plans, plan, PlanValidity, all_valid, valid_as, plan_head}
use Rattle.vx_plan.specs.PlanRows.{plan_derivation, plan_derivation_in, plan_derivations, plan_where_valid, plan_reads}
use Rattle.vx_lower.proofs.TreeSizes.{zero_more}
use Rattle.vx_steps.specs.declared.leaf_reads.LeafRead.{LeafRead}
use Rattle.vx_steps.specs.Below.{StandsAmong, StandsInValidity, IsSharePlan, HasNoShare}
use Rattle.vx_steps.specs.Given.{no_given}
use Rattle.vx_steps.specs.Visits.{Test, Visits, VisitsIn, VisitsField, VisitsValidity, IsLeafRead, SomeWholeVisit}
use Rattle.vx_steps.proofs.VisitedReads.{alone_same, by_test, leaf_found}
use Rattle.vx_steps.proofs.Standing.{match_none}
use Rattle.vx_steps.proofs.PlacedVisits.{match_mapped}
use Rattle.vx_chunks.specs.Ways.{IsReadBy, ReadsBy}

-- ---- the way of a leaf

-- nothing that is given stands in place of what is read that way
abbrev pub IsFree : GivenValues → Way → Type 0
IsFree given directly = Unit {0}
IsFree given (through n) = given n ≡ None

either_way : (given : GivenValues) (b : Bool) (A B : Type 0) (C D : Way → Type 0) → (A → (way : Way) × IsFree given way × C way) → (B → (way : Way) × IsFree given way × D way) → MatchBool b A B → (way : Way) × IsFree given way × MatchBool b (C way) (D way)
either_way given true A B C D f g v = f v
either_way given false A B C D f g v = g v

mutual
  pub way_of : (read : LeafRead) (given : GivenValues) (p : Plan) (row : ℕ) → Visits (IsLeafRead read) (Some given) p row → (way : Way) × IsFree given way × ReadsBy way read p row
  way_of read given (no_plan head) row v = absurd v
  way_of read given (concat_plan head children) row (inl v) = absurd v
  way_of read given (concat_plan head children) row (inr v) =
      let one = way_in read given children row v in
      (one.0, one.1, inr one.2)
  way_of read given (eval_plan head e child) row (inl v) = absurd v
  way_of read given (eval_plan head e child) row (inr v) =
      let one = way_of read given child row v in
      (one.0, one.1, inr one.2)
  way_of read given (filter_plan head child) row (inl v) = absurd v
  way_of read given (filter_plan head child) row (inr v) =
      let one = way_of read given child row v in
      (one.0, one.1, inr one.2)
  way_of read given (zoned_plan head zones content table) row (inl v) = absurd v
  way_of read given (zoned_plan head zones content table) row (inr v) =
      let one = way_of read given content row v in
      (one.0, one.1, inr one.2)
  way_of read given (pruning_plan head pruning table) row (inl v) = absurd v
  way_of read given (pruning_plan head pruning table) row (inr (other, less, v)) =
      let one = way_of read given table other v in
      (one.0, one.1, inr (other, less, one.2))
  way_of read given (pack_plan head children validity) row (inl v) = absurd v
  way_of read given (pack_plan head children validity) row (inr (inl v)) =
      let one = way_field read given children row v in
      (one.0, one.1, inr (inl one.2))
  way_of read given (pack_plan head children validity) row (inr (inr v)) =
      let one = way_validity read given validity row v in
      (one.0, one.1, inr (inr one.2))
  way_of read given (take_plan head codes values) row (inl v) = absurd v
  way_of read given (take_plan head codes values) row (inr (inl v)) =
      let one = way_of read given codes row v in
      (one.0, one.1, inr (inl one.2))
  way_of read given (take_plan head codes values) row (inr (inr (none, whole))) = (through head.number, none, inl (refl, whole))
  way_of read given (share_plan head child) row (inl v) = absurd v
  way_of read given (share_plan head child) row (inr (none, whole)) = (through head.number, none, inl (refl, whole))
  way_of read given (list_plan head elements offsets validity) row v = absurd v
  way_of read given (row_idx_plan head) row v = absurd v
  way_of read given (scan_plan head segment coding) row v = (directly, tt, v)

  way_in : (read : LeafRead) (given : GivenValues) (ps : Plans) (row : ℕ) → VisitsIn (IsLeafRead read) (Some given) ps row → (way : Way) × IsFree given way × VisitsIn (IsReadBy way read) (Some no_given) ps row
  way_in read given no_plans row v = absurd v
  way_in read given (plan first rest) row v =
      either_way given (nat_lt row (plan_head first).rows) (Visits (IsLeafRead read) (Some given) first row) (VisitsIn (IsLeafRead read) (Some given) rest (row - (plan_head first).rows))
      (λ way. ReadsBy way read first row) (λ way. VisitsIn (IsReadBy way read) (Some no_given) rest (row - (plan_head first).rows))
      (way_of read given first row) (way_in read given rest (row - (plan_head first).rows)) v

  way_field : (read : LeafRead) (given : GivenValues) (ps : Plans) (row : ℕ) → VisitsField (IsLeafRead read) (Some given) ps row → (way : Way) × IsFree given way × VisitsField (IsReadBy way read) (Some no_given) ps row
  way_field read given no_plans row v = absurd v
  way_field read given (plan first rest) row (inl v) =
      let one = way_of read given first row v in
      (one.0, one.1, inl one.2)
  way_field read given (plan first rest) row (inr v) =
      let one = way_field read given rest row v in
      (one.0, one.1, inr one.2)

  way_validity : (read : LeafRead) (given : GivenValues) (validity : PlanValidity) (row : ℕ) → VisitsValidity (IsLeafRead read) (Some given) validity row → (way : Way) × IsFree given way × VisitsValidity (IsReadBy way read) (Some no_given) validity row
  way_validity read given all_valid row v = absurd v
  way_validity read given (valid_as validity) row v = way_of read given validity row v

-- ---- inside whole values a test of the outside sees nothing

abbrev pub SeesOutside : Test → Type 0
SeesOutside P = (p : Plan) (row : ℕ) → P None p row → ⊥

mutual
  pub none_inside : (P : Test) → SeesOutside P → (p : Plan) (row : ℕ) → Visits P None p row → ⊥
  none_inside P out (no_plan head) row v = out (no_plan head) row v
  none_inside P out (concat_plan head children) row (inl v) = out (concat_plan head children) row v
  none_inside P out (concat_plan head children) row (inr v) = none_among P out children row v
  none_inside P out (eval_plan head e child) row (inl v) = out (eval_plan head e child) row v
  none_inside P out (eval_plan head e child) row (inr v) = none_inside P out child row v
  none_inside P out (filter_plan head child) row (inl v) = out (filter_plan head child) row v
  none_inside P out (filter_plan head child) row (inr v) = none_inside P out child row v
  none_inside P out (zoned_plan head zones content table) row (inl v) = out (zoned_plan head zones content table) row v
  none_inside P out (zoned_plan head zones content table) row (inr v) = none_inside P out content row v
  none_inside P out (pruning_plan head pruning table) row (inl v) = out (pruning_plan head pruning table) row v
  none_inside P out (pruning_plan head pruning table) row (inr (other, less, v)) = none_inside P out table other v
  none_inside P out (pack_plan head children validity) row (inl v) = out (pack_plan head children validity) row v
  none_inside P out (pack_plan head children validity) row (inr (inl v)) = none_field P out children row v
  none_inside P out (pack_plan head children validity) row (inr (inr v)) = none_validity P out validity row v
  none_inside P out (take_plan head codes values) row (inl v) = out (take_plan head codes values) row v
  none_inside P out (take_plan head codes values) row (inr (inl v)) = none_inside P out codes row v
  none_inside P out (take_plan head codes values) row (inr (inr (none, (other, less, v)))) = none_inside P out values other v
  none_inside P out (share_plan head child) row (inl v) = out (share_plan head child) row v
  none_inside P out (share_plan head child) row (inr (none, (other, less, v))) = none_inside P out child other v
  none_inside P out (list_plan head elements offsets validity) row v = out (list_plan head elements offsets validity) row v
  none_inside P out (row_idx_plan head) row v = out (row_idx_plan head) row v
  none_inside P out (scan_plan head segment coding) row v = out (scan_plan head segment coding) row v

  none_among : (P : Test) → SeesOutside P → (ps : Plans) (row : ℕ) → VisitsIn P None ps row → ⊥
  none_among P out no_plans row v = v
  none_among P out (plan first rest) row v =
      match_none (nat_lt row (plan_head first).rows) (Visits P None first row) (VisitsIn P None rest (row - (plan_head first).rows)) (none_inside P out first row) (none_among P out rest (row - (plan_head first).rows)) v

  none_field : (P : Test) → SeesOutside P → (ps : Plans) (row : ℕ) → VisitsField P None ps row → ⊥
  none_field P out no_plans row v = v
  none_field P out (plan first rest) row (inl v) = none_inside P out first row v
  none_field P out (plan first rest) row (inr v) = none_field P out rest row v

  none_validity : (P : Test) → SeesOutside P → (validity : PlanValidity) (row : ℕ) → VisitsValidity P None validity row → ⊥
  none_validity P out all_valid row v = v
  none_validity P out (valid_as validity) row v = none_inside P out validity row v

by_outside : (way : Way) (read : LeafRead) → SeesOutside (IsReadBy way read)
by_outside directly read p row v = v
by_outside (through n) read p row v = v

-- ---- what is read by a way is visited

-- a plan that the first test sees has a visit by the second
abbrev Opens : Test → Test → GivenValues → Type 0
Opens P Q given = (p : Plan) (row : ℕ) → P (Some no_given) p row → Visits Q (Some given) p row

mutual
  pub opened : (P Q : Test) (given : GivenValues) → Opens P Q given → SeesOutside P → (p : Plan) (row : ℕ) → Visits P (Some no_given) p row → Visits Q (Some given) p row
  opened P Q given own out (no_plan head) row v = own (no_plan head) row v
  opened P Q given own out (concat_plan head children) row (inl v) = own (concat_plan head children) row v
  opened P Q given own out (concat_plan head children) row (inr v) = inr (opened_in P Q given own out children row v)
  opened P Q given own out (eval_plan head e child) row (inl v) = own (eval_plan head e child) row v
  opened P Q given own out (eval_plan head e child) row (inr v) = inr (opened P Q given own out child row v)
  opened P Q given own out (filter_plan head child) row (inl v) = own (filter_plan head child) row v
  opened P Q given own out (filter_plan head child) row (inr v) = inr (opened P Q given own out child row v)
  opened P Q given own out (zoned_plan head zones content table) row (inl v) = own (zoned_plan head zones content table) row v
  opened P Q given own out (zoned_plan head zones content table) row (inr v) = inr (opened P Q given own out content row v)
  opened P Q given own out (pruning_plan head pruning table) row (inl v) = own (pruning_plan head pruning table) row v
  opened P Q given own out (pruning_plan head pruning table) row (inr (other, less, v)) = inr (other, less, opened P Q given own out table other v)
  opened P Q given own out (pack_plan head children validity) row (inl v) = own (pack_plan head children validity) row v
  opened P Q given own out (pack_plan head children validity) row (inr (inl v)) = inr (inl (opened_field P Q given own out children row v))
  opened P Q given own out (pack_plan head children validity) row (inr (inr v)) = inr (inr (opened_validity P Q given own out validity row v))
  opened P Q given own out (take_plan head codes values) row (inl v) = own (take_plan head codes values) row v
  opened P Q given own out (take_plan head codes values) row (inr (inl v)) = inr (inl (opened P Q given own out codes row v))
  opened P Q given own out (take_plan head codes values) row (inr (inr (none, (other, less, v)))) = absurd (none_inside P out values other v)
  opened P Q given own out (share_plan head child) row (inl v) = own (share_plan head child) row v
  opened P Q given own out (share_plan head child) row (inr (none, (other, less, v))) = absurd (none_inside P out child other v)
  opened P Q given own out (list_plan head elements offsets validity) row v = own (list_plan head elements offsets validity) row v
  opened P Q given own out (row_idx_plan head) row v = own (row_idx_plan head) row v
  opened P Q given own out (scan_plan head segment coding) row v = own (scan_plan head segment coding) row v

  opened_in : (P Q : Test) (given : GivenValues) → Opens P Q given → SeesOutside P → (ps : Plans) (row : ℕ) → VisitsIn P (Some no_given) ps row → VisitsIn Q (Some given) ps row
  opened_in P Q given own out no_plans row v = v
  opened_in P Q given own out (plan first rest) row v =
      match_mapped (nat_lt row (plan_head first).rows) (Visits P (Some no_given) first row) (VisitsIn P (Some no_given) rest (row - (plan_head first).rows)) (Visits Q (Some given) first row) (VisitsIn Q (Some given) rest (row - (plan_head first).rows))
      (opened P Q given own out first row) (opened_in P Q given own out rest (row - (plan_head first).rows)) v

  opened_field : (P Q : Test) (given : GivenValues) → Opens P Q given → SeesOutside P → (ps : Plans) (row : ℕ) → VisitsField P (Some no_given) ps row → VisitsField Q (Some given) ps row
  opened_field P Q given own out no_plans row v = v
  opened_field P Q given own out (plan first rest) row (inl v) = inl (opened P Q given own out first row v)
  opened_field P Q given own out (plan first rest) row (inr v) = inr (opened_field P Q given own out rest row v)

  opened_validity : (P Q : Test) (given : GivenValues) → Opens P Q given → SeesOutside P → (validity : PlanValidity) (row : ℕ) → VisitsValidity P (Some no_given) validity row → VisitsValidity Q (Some given) validity row
  opened_validity P Q given own out all_valid row v = v
  opened_validity P Q given own out (valid_as validity) row v = opened P Q given own out validity row v

own_leaf : (way : Way) (read : LeafRead) (given : GivenValues) → IsFree given way → Opens (IsReadBy way read) (IsLeafRead read) given
own_leaf directly read given free (no_plan head) row v = absurd v
own_leaf directly read given free (concat_plan head children) row v = absurd v
own_leaf directly read given free (eval_plan head e child) row v = absurd v
own_leaf directly read given free (filter_plan head child) row v = absurd v
own_leaf directly read given free (pack_plan head children validity) row v = absurd v
own_leaf directly read given free (take_plan head codes values) row v = absurd v
own_leaf directly read given free (share_plan head child) row v = absurd v
own_leaf directly read given free (list_plan head elements offsets validity) row v = absurd v
own_leaf directly read given free (row_idx_plan head) row v = absurd v
own_leaf directly read given free (scan_plan head segment coding) row v = v
own_leaf directly read given free (zoned_plan head zones content table) row v = absurd v
own_leaf directly read given free (pruning_plan head pruning table) row v = absurd v
own_leaf (through n) read given free (no_plan head) row v = absurd v
own_leaf (through n) read given free (concat_plan head children) row v = absurd v
own_leaf (through n) read given free (eval_plan head e child) row v = absurd v
own_leaf (through n) read given free (filter_plan head child) row v = absurd v
own_leaf (through n) read given free (pack_plan head children validity) row v = absurd v
own_leaf (through n) read given free (take_plan head codes values) row v = inr (inr (ap given v.0 ∙ free, v.1))
own_leaf (through n) read given free (share_plan head child) row v = inr (ap given v.0 ∙ free, v.1)
own_leaf (through n) read given free (list_plan head elements offsets validity) row v = absurd v
own_leaf (through n) read given free (row_idx_plan head) row v = absurd v
own_leaf (through n) read given free (scan_plan head segment coding) row v = absurd v
own_leaf (through n) read given free (zoned_plan head zones content table) row v = absurd v
own_leaf (through n) read given free (pruning_plan head pruning table) row v = absurd v

-- where nothing that is given stands in its place, what is read by a way is visited
pub read_visited : (way : Way) (read : LeafRead) (given : GivenValues) → IsFree given way → (p : Plan) (row : ℕ) → ReadsBy way read p row → Visits (IsLeafRead read) (Some given) p row
read_visited way read given free p row v = opened (IsReadBy way read) (IsLeafRead read) given (own_leaf way read given free) (by_outside way read) p row v

-- ---- and is found, come to by that way

abbrev By : Way → ℕ → Read → Type 0
By way segment read = (read.way ≡ way) × IsIn segment read.found

abbrev FoundBy : Way → ℕ → Derivation → Type 0
FoundBy way segment d = AnyOf (By way segment) (reads_of directly d)

come_by : (way : Way) (segment : ℕ) (reads : List Read) → AllByRecursion (λ (read : Read). read.way ≡ way) reads → Finds (IsIn segment) reads → AnyOf (By way segment) reads
come_by way segment [] each any = any
come_by way segment (read ∷ reads) each (inl here) = inl (each.0, here)
come_by way segment (read ∷ reads) each (inr later) = inr (come_by way segment reads each.1 later)

-- a row of whole values has the read, so all of them have
row_found : (segment : ℕ) (way : Way) (f : ℕ → Derivation) (from count row : ℕ) → row < count → Finds (IsIn segment) (reads_of way (f (from + row))) → Finds (IsIn segment) (reads_of_each way (each_row f from count))
row_found segment way f from zero row lt any = absurd (omega (arith, lt))
row_found segment way f from (suc count) zero lt any =
    let e : from + 0 ≡ from = omega arith in
    any_left (λ (read : Read). IsIn segment read.found) (reads_of way (f from)) (reads_of_each way (each_row f (from + 1) count)) (subst (λ (r : ℕ). Finds (IsIn segment) (reads_of way (f r))) e any)
row_found segment way f from (suc count) (suc row) lt any =
    let e : from + suc row ≡ from + 1 + row = omega arith in
    any_right (λ (read : Read). IsIn segment read.found) (reads_of way (f from)) (reads_of_each way (each_row f (from + 1) count))
    (row_found segment way f (from + 1) count row (omega (arith, lt)) (subst (λ (r : ℕ). Finds (IsIn segment) (reads_of way (f r))) e any))

row_by : (way : Way) (segment : ℕ) (f : ℕ → Derivation) (count row : ℕ) → row < count → FoundBy way segment (f row) → AnyOf (By way segment) (reads_of_each directly (each_row f 0 count))
row_by way segment f count row lt any = from 0 count row lt (subst (λ (r : ℕ). FoundBy way segment (f r)) e any)
  where
    e : row ≡ 0 + row
    e = omega arith

    from : (first many place : ℕ) → place < many → FoundBy way segment (f (first + place)) → AnyOf (By way segment) (reads_of_each directly (each_row f first many))
    from first zero place less one = absurd (omega (arith, less))
    from first (suc many) zero less one =
        let here : first + 0 ≡ first = omega arith in
        any_left (By way segment) (reads_of directly (f first)) (reads_of_each directly (each_row f (first + 1) many)) (subst (λ (r : ℕ). FoundBy way segment (f r)) here one)
    from first (suc many) (suc place) less one =
        let next : first + suc place ≡ first + 1 + place = omega arith in
        any_right (By way segment) (reads_of directly (f first)) (reads_of_each directly (each_row f (first + 1) many)) (from (first + 1) many place (omega (arith, less)) (subst (λ (r : ℕ). FoundBy way segment (f r)) next one))

-- through the values of a take
take_found : (read : LeafRead) (offset row : ℕ) (codes values : Plan) (n : ℕ) → SomeWholeVisit (IsLeafRead read) values (plan_head values).rows →
    AnyOf (By (through n) read.segment) (reads_of directly (plan_derivation offset codes row) ++ reads_of_each (through n) (each_row (plan_derivation offset values) 0 (plan_head values).rows))
take_found read offset row codes values n (other, less, v) =
    let all : Derivations = each_row (plan_derivation offset values) 0 (plan_head values).rows in
    any_right (By (through n) read.segment) (reads_of directly (plan_derivation offset codes row)) (reads_of_each (through n) all)
    (come_by (through n) read.segment (reads_of_each (through n) all) (each_lies_through n all)
    (row_found read.segment (through n) (plan_derivation offset values) 0 (plan_head values).rows other less
    (subst (λ (r : ℕ). Finds (IsIn read.segment) (reads_of (through n) (plan_derivation offset values r))) (zero_more other)
    (subst (λ (d : Derivation). Finds (IsIn read.segment) (reads_of (through n) d)) (alone_same (plan_derivation offset values other)) (leaf_found None offset values (through n) other read v)))))

own_found : (way : Way) (read : LeafRead) (offset : ℕ) (p : Plan) (row : ℕ) → HasNoShare p → IsReadBy way read (Some no_given) p row → FoundBy way read.segment (plan_derivation offset p row)
own_found directly read offset (no_plan head) row shares v = absurd v
own_found directly read offset (concat_plan head children) row shares v = absurd v
own_found directly read offset (eval_plan head e child) row shares v = absurd v
own_found directly read offset (filter_plan head child) row shares v = absurd v
own_found directly read offset (pack_plan head children validity) row shares v = absurd v
own_found directly read offset (take_plan head codes values) row shares v = absurd v
own_found directly read offset (share_plan head child) row shares v = absurd v
own_found directly read offset (list_plan head elements offsets validity) row shares v = absurd v
own_found directly read offset (row_idx_plan head) row shares v = absurd v
own_found directly read offset (scan_plan head segment coding) row shares v = inl (refl, v.1)
own_found directly read offset (zoned_plan head zones content table) row shares v = absurd v
own_found directly read offset (pruning_plan head pruning table) row shares v = absurd v
own_found (through n) read offset (no_plan head) row shares v = absurd v
own_found (through n) read offset (concat_plan head children) row shares v = absurd v
own_found (through n) read offset (eval_plan head e child) row shares v = absurd v
own_found (through n) read offset (filter_plan head child) row shares v = absurd v
own_found (through n) read offset (pack_plan head children validity) row shares v = absurd v
own_found (through n) read offset (take_plan head codes values) row shares v =
    subst (λ (m : ℕ). FoundBy (through m) read.segment (plan_derivation offset (take_plan head codes values) row)) v.0 (inr (take_found read offset row codes values head.number v.1))
own_found (through n) read offset (share_plan head child) row shares v = absurd (shares (inl tt))
own_found (through n) read offset (list_plan head elements offsets validity) row shares v = absurd v
own_found (through n) read offset (row_idx_plan head) row shares v = absurd v
own_found (through n) read offset (scan_plan head segment coding) row shares v = absurd v
own_found (through n) read offset (zoned_plan head zones content table) row shares v = absurd v
own_found (through n) read offset (pruning_plan head pruning table) row shares v = absurd v

front_by : (way : Way) (segment offset : ℕ) (validity : PlanValidity) (row : ℕ) (d : Derivation) → FoundBy way segment d → FoundBy way segment (plan_where_valid offset validity row d)
front_by way segment offset all_valid row d any = any
front_by way segment offset (valid_as validity) row d any = any_left (By way segment) (reads_of directly d) (reads_of directly (plan_derivation offset validity row)) any

mutual
  pub found_by : (way : Way) (read : LeafRead) (offset : ℕ) (p : Plan) (row : ℕ) → HasNoShare p → ReadsBy way read p row → FindsBy way (IsIn read.segment) (plan_reads offset p row)
  found_by way read offset (no_plan head) row shares v = own_found way read offset (no_plan head) row shares v
  found_by way read offset (concat_plan head children) row shares (inl v) = own_found way read offset (concat_plan head children) row shares v
  found_by way read offset (concat_plan head children) row shares (inr v) = found_in way read offset children row (λ s. shares (inr s)) v
  found_by way read offset (eval_plan head e child) row shares (inl v) = own_found way read offset (eval_plan head e child) row shares v
  found_by way read offset (eval_plan head e child) row shares (inr v) = found_by way read offset child row (λ s. shares (inr s)) v
  found_by way read offset (filter_plan head child) row shares (inl v) = own_found way read offset (filter_plan head child) row shares v
  found_by way read offset (filter_plan head child) row shares (inr v) = found_by way read offset child row (λ s. shares (inr s)) v
  found_by way read offset (zoned_plan head zones content table) row shares (inl v) = own_found way read offset (zoned_plan head zones content table) row shares v
  found_by way read offset (zoned_plan head zones content table) row shares (inr v) = found_by way read offset content row (λ s. shares (inr (inl s))) v
  found_by way read offset (pruning_plan head pruning table) row shares (inl v) = own_found way read offset (pruning_plan head pruning table) row shares v
  found_by way read offset (pruning_plan head pruning table) row shares (inr (other, less, v)) = row_by way read.segment (plan_derivation offset table) (plan_head table).rows other less (found_by way read offset table other (λ s. shares (inr s)) v)
  found_by way read offset (pack_plan head children validity) row shares (inl v) = own_found way read offset (pack_plan head children validity) row shares v
  found_by way read offset (pack_plan head children validity) row shares (inr (inl v)) =
      front_by way read.segment offset validity row (packed (plan_derivations offset children row)) (found_field way read offset children row (λ s. shares (inr (inl s))) v)
  found_by way read offset (pack_plan head children validity) row shares (inr (inr v)) =
      found_validity way read offset validity row (packed (plan_derivations offset children row)) (λ s. shares (inr (inr s))) v
  found_by way read offset (take_plan head codes values) row shares (inl v) = own_found way read offset (take_plan head codes values) row shares v
  found_by way read offset (take_plan head codes values) row shares (inr (inl v)) =
      inr (any_left (By way read.segment) (reads_of directly (plan_derivation offset codes row)) (reads_of_each (through head.number) (each_row (plan_derivation offset values) 0 (plan_head values).rows)) (found_by way read offset codes row (λ s. shares (inr (inl s))) v))
  found_by way read offset (take_plan head codes values) row shares (inr (inr (none, (other, less, v)))) = absurd (none_inside (IsReadBy way read) (by_outside way read) values other v)
  found_by way read offset (share_plan head child) row shares v = absurd (shares (inl tt))
  found_by way read offset (list_plan head elements offsets validity) row shares v = own_found way read offset (list_plan head elements offsets validity) row shares v
  found_by way read offset (row_idx_plan head) row shares v = own_found way read offset (row_idx_plan head) row shares v
  found_by way read offset (scan_plan head segment coding) row shares v = own_found way read offset (scan_plan head segment coding) row shares v

  found_in : (way : Way) (read : LeafRead) (offset : ℕ) (ps : Plans) (row : ℕ) → (StandsAmong IsSharePlan ps → ⊥) → VisitsIn (IsReadBy way read) (Some no_given) ps row → FoundBy way read.segment (plan_derivation_in offset ps row)
  found_in way read offset no_plans row shares v = absurd v
  found_in way read offset (plan first rest) row shares v =
      by_test (nat_lt row (plan_head first).rows) (ReadsBy way read first row) (VisitsIn (IsReadBy way read) (Some no_given) rest (row - (plan_head first).rows)) (FoundBy way read.segment)
      (plan_derivation offset first row) (plan_derivation_in offset rest (row - (plan_head first).rows))
      (found_by way read offset first row (λ s. shares (inl s))) (found_in way read offset rest (row - (plan_head first).rows) (λ s. shares (inr s))) v

  found_field : (way : Way) (read : LeafRead) (offset : ℕ) (ps : Plans) (row : ℕ) → (StandsAmong IsSharePlan ps → ⊥) → VisitsField (IsReadBy way read) (Some no_given) ps row → AnyOf (By way read.segment) (reads_of_each directly (plan_derivations offset ps row))
  found_field way read offset no_plans row shares v = absurd v
  found_field way read offset (plan first rest) row shares (inl v) =
      any_left (By way read.segment) (reads_of directly (plan_derivation offset first row)) (reads_of_each directly (plan_derivations offset rest row)) (found_by way read offset first row (λ s. shares (inl s)) v)
  found_field way read offset (plan first rest) row shares (inr v) =
      any_right (By way read.segment) (reads_of directly (plan_derivation offset first row)) (reads_of_each directly (plan_derivations offset rest row)) (found_field way read offset rest row (λ s. shares (inr s)) v)

  found_validity : (way : Way) (read : LeafRead) (offset : ℕ) (validity : PlanValidity) (row : ℕ) (d : Derivation) → (StandsInValidity IsSharePlan validity → ⊥) → VisitsValidity (IsReadBy way read) (Some no_given) validity row → FoundBy way read.segment (plan_where_valid offset validity row d)
  found_validity way read offset all_valid row d shares v = absurd v
  found_validity way read offset (valid_as validity) row d shares v =
      any_right (By way read.segment) (reads_of directly d) (reads_of directly (plan_derivation offset validity row)) (found_by way read offset validity row shares v)
