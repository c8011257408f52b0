-- What whole values read, the rows read that ask for them, each through the take or the share by which they ask.
use Rattle.std.proofs.Common.{◌≡◌, ℕ, ◌+◌, ◌-◌, ◌<◌, inl, inr, ⊎_elim, Bool, true, false, List, [], Option, Some, None, length, refl, sym, ap, ◌∙◌, subst, arith}
use Rattle.std.specs.Prelude.{nat_lt}
use Rattle.std.specs.Bool.{MatchBool}
use Rattle.std.proofs.lemmas.Option.{slice_get-get_or}
use Rattle.vx_rows.specs.Derivations.{Derivation, packed, Derivations, each_row, read_whole}
use Rattle.vx_rows.specs.Given.{GivenValues, values_with, share_with, with_given}
use Rattle.vx_rows.specs.Reads.{Way, directly, through, inside, Found, Read, reads_of, reads_of_each, Finds}
use Rattle.vx_rows.specs.Heads.{Head}
use Rattle.vx_rows.proofs.ReadRows.{any_either, any_right, found_anywhere}
use Rattle.vx_plan.specs.FittingRows.{HasFittingRows}
use Rattle.vx_plan.specs.Nodes.{Node, absent}
use Rattle.vx_plan.specs.Plans.{Plan, no_plan, concat_plan, eval_plan, filter_plan, pack_plan, take_plan, share_plan, list_plan, row_idx_plan, scan_plan, zoned_plan, pruning_plan, Plans, no_plans, plan, PlanValidity, all_valid, valid_as, plan_head, head_at, plan_at, plan_gap}
use Rattle.vx_plan.specs.PlanRows.{plan_derivation}
use Rattle.vx_plan.specs.Rules.{node_at}
use Rattle.vx_plan.specs.Tables.{IsGoodTable}
use Rattle.vx_plan.proofs.FittingPlans.{rows_fit}
use Rattle.vx_plan.proofs.Growing.{below_known}
use Rattle.vx_plan.proofs.Unfolding.{Known, known}
use Rattle.vx_steps.specs.declared.leaf_reads.LeafRead.{LeafRead}
use Rattle.vx_steps.specs.Given.{Handed, no_given, given_for, handed_by, values_for}
use Rattle.vx_steps.specs.Laws.{HandsNone}
use Rattle.vx_steps.specs.Visits.{Test, Visits, VisitsIn, VisitsField, VisitsValidity, SomeWholeVisit, IsLeafRead, IsWholeRead}
use Rattle.vx_steps.proofs.FreeVisits.{Becomes, freed}
use Rattle.vx_steps.proofs.PlacedVisits.{InTable, IsPlaced, is_placed, visit_placed}
use Rattle.vx_steps.proofs.ReadVisits.{no_columns}
use Rattle.vx_steps.proofs.VisitedReads.{RowReads, FindsOwn, none_served, visit_found, row_found}
use Rattle.vx_steps.proofs.AskedKnown.{head_number, asked_gap}
use Rattle.vx_steps.proofs.WholeCauses.{IsPlanOf, second_plan, own_plan}
use Rattle.vx_chunks.specs.Ways.{whole_number}
use Rattle.vx_chunks.specs.Ways.{IsReadThrough, ReadsBy}
use Rattle.vx_base.specs.Data.{Datum}

-- ---- the plans of a table

-- and that of their own number
values_plan : (nodes : List Node) → IsGoodTable nodes → (m : ℕ) → m < length nodes → (head : Head) (codes values : Plan) → take_plan head codes values ≡ plan_at nodes m → (number : ℕ) → (plan_head values).number ≡ number → values ≡ plan_at nodes number
values_plan nodes good m there head codes values is number named =
    let node : Node = node_at nodes m in
    let k : Known nodes m node node.kind = known nodes good m node node.kind (slice_get-get_or nodes m absent there) refl in
    let one : IsPlanOf nodes values = second_plan node.kind nodes node (head_at m node) node.children head codes values k.good.made (below_known nodes m node.children (omega (arith, there)) k.good.below) (is ∙ k.law) in
    let same : one.number ≡ number = sym (head_number nodes good one.number one.there) ∙ sym (ap (λ (p : Plan). (plan_head p).number) one.is) ∙ named in
    one.is ∙ ap (plan_at nodes) same

-- ---- by which take or share whole values are asked for

-- the take of the one number, over values of the other; or the share that has both
abbrev pub IsWholeBy : ℕ → ℕ → Test
IsWholeBy take n (Some given) (take_plan head codes values) row = (head.number ≡ take) × ((plan_head values).number ≡ n)
IsWholeBy take n (Some given) (share_plan head child) row = (head.number ≡ take) × (head.number ≡ n)
IsWholeBy take n handed p row = ⊥

match_chosen : {X : Type 0} (b : Bool) (A B : Type 0) (C D : X → Type 0) → (A → (x : X) × C x) → (B → (x : X) × D x) → MatchBool b A B → (x : X) × MatchBool b (C x) (D x)
match_chosen true A B C D f g v = f v
match_chosen false A B C D f g v = g v

-- for each plan that the first test sees there is one that sees it
abbrev pub Chooses : {X : Type 0} → Test → (X → Test) → Type 0
Chooses {X} P Q = (handed : Handed) (p : Plan) (row : ℕ) → P handed p row → (x : X) × Q x handed p row

mutual
  pub visit_chosen : {X : Type 0} (P : Test) (Q : X → Test) → Chooses P Q → (handed : Handed) (p : Plan) (row : ℕ) → Visits P handed p row → (x : X) × Visits (Q x) handed p row
  visit_chosen P Q f handed (no_plan head) row v = f handed (no_plan head) row v
  visit_chosen P Q f handed (concat_plan head children) row (inl v) =
      let one = f handed (concat_plan head children) row v in
      (one.0, inl one.1)
  visit_chosen P Q f handed (concat_plan head children) row (inr v) =
      let one = chosen_in P Q f handed children row v in
      (one.0, inr one.1)
  visit_chosen P Q f handed (eval_plan head e child) row (inl v) =
      let one = f handed (eval_plan head e child) row v in
      (one.0, inl one.1)
  visit_chosen P Q f handed (eval_plan head e child) row (inr v) =
      let one = visit_chosen P Q f handed child row v in
      (one.0, inr one.1)
  visit_chosen P Q f handed (filter_plan head child) row (inl v) =
      let one = f handed (filter_plan head child) row v in
      (one.0, inl one.1)
  visit_chosen P Q f handed (filter_plan head child) row (inr v) =
      let one = visit_chosen P Q f handed child row v in
      (one.0, inr one.1)
  visit_chosen P Q f handed (pack_plan head children validity) row (inl v) =
      let one = f handed (pack_plan head children validity) row v in
      (one.0, inl one.1)
  visit_chosen P Q f handed (pack_plan head children validity) row (inr (inl v)) =
      let one = chosen_field P Q f handed children row v in
      (one.0, inr (inl one.1))
  visit_chosen P Q f handed (pack_plan head children validity) row (inr (inr v)) =
      let one = chosen_validity P Q f handed validity row v in
      (one.0, inr (inr one.1))
  visit_chosen P Q f handed (take_plan head codes values) row (inl v) =
      let one = f handed (take_plan head codes values) row v in
      (one.0, inl one.1)
  visit_chosen P Q f handed (take_plan head codes values) row (inr (inl v)) =
      let one = visit_chosen P Q f handed codes row v in
      (one.0, inr (inl one.1))
  visit_chosen P Q f handed (take_plan head codes values) row (inr (inr (none, (other, less, v)))) =
      let one = visit_chosen P Q f None values other v in
      (one.0, inr (inr (none, (other, less, one.1))))
  visit_chosen P Q f handed (share_plan head child) row (inl v) =
      let one = f handed (share_plan head child) row v in
      (one.0, inl one.1)
  visit_chosen P Q f handed (share_plan head child) row (inr (none, (other, less, v))) =
      let one = visit_chosen P Q f None child other v in
      (one.0, inr (none, (other, less, one.1)))
  visit_chosen P Q f handed (list_plan head elements offsets validity) row v = f handed (list_plan head elements offsets validity) row v
  visit_chosen P Q f handed (row_idx_plan head) row v = f handed (row_idx_plan head) row v
  visit_chosen P Q f handed (scan_plan head segment coding) row v = f handed (scan_plan head segment coding) row v
  visit_chosen P Q f handed (zoned_plan head zones content table) row (inl v) =
      let one = f handed (zoned_plan head zones content table) row v in
      (one.0, inl one.1)
  visit_chosen P Q f handed (zoned_plan head zones content table) row (inr v) =
      let one = visit_chosen P Q f handed content row v in
      (one.0, inr one.1)
  visit_chosen P Q f handed (pruning_plan head pruning table) row (inl v) =
      let one = f handed (pruning_plan head pruning table) row v in
      (one.0, inl one.1)
  visit_chosen P Q f handed (pruning_plan head pruning table) row (inr (other, less, v)) =
      let one = visit_chosen P Q f handed table other v in
      (one.0, inr (other, less, one.1))

  chosen_in : {X : Type 0} (P : Test) (Q : X → Test) → Chooses P Q → (handed : Handed) (ps : Plans) (row : ℕ) → VisitsIn P handed ps row → (x : X) × VisitsIn (Q x) handed ps row
  chosen_in P Q f handed no_plans row v = absurd v
  chosen_in P Q f handed (plan first rest) row v =
      match_chosen (nat_lt row (plan_head first).rows) (Visits P handed first row) (VisitsIn P handed rest (row - (plan_head first).rows)) (λ x. Visits (Q x) handed first row) (λ x. VisitsIn (Q x) handed rest (row - (plan_head first).rows))
      (visit_chosen P Q f handed first row) (chosen_in P Q f handed rest (row - (plan_head first).rows)) v

  chosen_field : {X : Type 0} (P : Test) (Q : X → Test) → Chooses P Q → (handed : Handed) (ps : Plans) (row : ℕ) → VisitsField P handed ps row → (x : X) × VisitsField (Q x) handed ps row
  chosen_field P Q f handed no_plans row v = absurd v
  chosen_field P Q f handed (plan first rest) row (inl v) =
      let one = visit_chosen P Q f handed first row v in
      (one.0, inl one.1)
  chosen_field P Q f handed (plan first rest) row (inr v) =
      let one = chosen_field P Q f handed rest row v in
      (one.0, inr one.1)

  chosen_validity : {X : Type 0} (P : Test) (Q : X → Test) → Chooses P Q → (handed : Handed) (validity : PlanValidity) (row : ℕ) → VisitsValidity P handed validity row → (x : X) × VisitsValidity (Q x) handed validity row
  chosen_validity P Q f handed all_valid row v = absurd v
  chosen_validity P Q f handed (valid_as validity) row v = visit_chosen P Q f handed validity row v

asked_by : (n : ℕ) → Chooses {X = ℕ} (IsWholeRead n) (λ take. IsWholeBy take n)
asked_by n None p row v = absurd v
asked_by n (Some given) (no_plan head) row v = absurd v
asked_by n (Some given) (concat_plan head children) row v = absurd v
asked_by n (Some given) (eval_plan head e child) row v = absurd v
asked_by n (Some given) (filter_plan head child) row v = absurd v
asked_by n (Some given) (pack_plan head children validity) row v = absurd v
asked_by n (Some given) (take_plan head codes values) row v = (head.number, (refl, v))
asked_by n (Some given) (share_plan head child) row v = (head.number, (refl, v))
asked_by n (Some given) (list_plan head elements offsets validity) row v = absurd v
asked_by n (Some given) (row_idx_plan head) row v = absurd v
asked_by n (Some given) (scan_plan head segment coding) row v = absurd v
asked_by n (Some given) (zoned_plan head zones content table) row v = absurd v
asked_by n (Some given) (pruning_plan head pruning table) row v = absurd v

pub asked_take : (n : ℕ) (handed : Handed) (p : Plan) (row : ℕ) → Visits (IsWholeRead n) handed p row → (take : ℕ) × Visits (IsWholeBy take n) handed p row
asked_take n handed p row v = visit_chosen (IsWholeRead n) (λ take. IsWholeBy take n) (asked_by n) handed p row v

pub whole_gap : (take n : ℕ) (handed : Handed) (row : ℕ) → IsWholeBy take n handed (plan_gap 0) row → ⊥
whole_gap take n None row v = v
whole_gap take n (Some given) row v = v

numbered_by : (take n : ℕ) (handed : Handed) (p : Plan) (row : ℕ) → IsWholeBy take n handed p row → ((plan_head p).number ≡ take) × (whole_number p ≡ n)
numbered_by take n None p row v = absurd v
numbered_by take n (Some given) (no_plan head) row v = absurd v
numbered_by take n (Some given) (concat_plan head children) row v = absurd v
numbered_by take n (Some given) (eval_plan head e child) row v = absurd v
numbered_by take n (Some given) (filter_plan head child) row v = absurd v
numbered_by take n (Some given) (pack_plan head children validity) row v = absurd v
numbered_by take n (Some given) (take_plan head codes values) row v = v
numbered_by take n (Some given) (share_plan head child) row v = v
numbered_by take n (Some given) (list_plan head elements offsets validity) row v = absurd v
numbered_by take n (Some given) (row_idx_plan head) row v = absurd v
numbered_by take n (Some given) (scan_plan head segment coding) row v = absurd v
numbered_by take n (Some given) (zoned_plan head zones content table) row v = absurd v
numbered_by take n (Some given) (pruning_plan head pruning table) row v = absurd v

-- the plan of the take tells the number of its whole values
pub take_tells : (nodes : List Node) → IsGoodTable nodes → (m : ℕ) → m < length nodes → (take n : ℕ) (handed : Handed) (row : ℕ) → Visits (IsWholeBy take n) handed (plan_at nodes m) row → whole_number (plan_at nodes take) ≡ n
take_tells nodes good m there take n handed row v =
    let one : IsPlaced (IsWholeBy take n) nodes = is_placed (IsWholeBy take n) (whole_gap take n) nodes good m there handed row v in
    let is : ((plan_head (plan_at nodes one.number)).number ≡ take) × (whole_number (plan_at nodes one.number) ≡ n) = numbered_by take n one.handed (plan_at nodes one.number) one.row one.is in
    let same : one.number ≡ take = sym (head_number nodes good one.number one.there) ∙ is.0 in
    subst (λ (k : ℕ). whole_number (plan_at nodes k) ≡ n) same is.1

-- ---- what is read through it

-- some row of the whole values reads the leaf
abbrev pub WholeReads : List Node → LeafRead → ℕ → Type 0
WholeReads nodes read n = (row : ℕ) × (row < (plan_head (plan_at nodes n)).rows) × Visits (IsLeafRead read) None (plan_at nodes n) row

-- a row of a share, while whole values are made, is one of its child's rows
share_read : (read : LeafRead) (head : Head) (child : Plan) (row : ℕ) → Visits (IsLeafRead read) None (share_plan head child) row → SomeWholeVisit (IsLeafRead read) child (plan_head child).rows
share_read read head child row (inl v) = absurd v
share_read read head child row (inr (none, whole)) = whole

read_own : (nodes : List Node) → IsGoodTable nodes → (take n : ℕ) (read : LeafRead) → WholeReads nodes read n → (given : GivenValues) → Becomes (InTable nodes (IsWholeBy take n)) (IsReadThrough take read) (Some given) (Some no_given)
read_own nodes good take n read reads given (no_plan head) row v = absurd v.0
read_own nodes good take n read reads given (concat_plan head children) row v = absurd v.0
read_own nodes good take n read reads given (eval_plan head e child) row v = absurd v.0
read_own nodes good take n read reads given (filter_plan head child) row v = absurd v.0
read_own nodes good take n read reads given (pack_plan head children validity) row v = absurd v.0
read_own nodes good take n read reads given (take_plan head codes values) row v =
    let same : values ≡ plan_at nodes n = values_plan nodes good v.1.0 v.1.1 head codes values v.1.2 n v.0.1 in
    inl (v.0.0, subst (λ (q : Plan). SomeWholeVisit (IsLeafRead read) q (plan_head q).rows) (sym same) reads)
read_own nodes good take n read reads given (share_plan head child) row v =
    let same : share_plan head child ≡ plan_at nodes n = own_plan nodes good v.1.0 v.1.1 (share_plan head child) v.1.2 n v.0.1 in
    inl (v.0.0, share_read read head child reads.0 (subst (λ (q : Plan). Visits (IsLeafRead read) None q reads.0) (sym same) reads.2))
read_own nodes good take n read reads given (list_plan head elements offsets validity) row v = absurd v.0
read_own nodes good take n read reads given (row_idx_plan head) row v = absurd v.0
read_own nodes good take n read reads given (scan_plan head segment coding) row v = absurd v.0
read_own nodes good take n read reads given (zoned_plan head zones content table) row v = absurd v.0
read_own nodes good take n read reads given (pruning_plan head pruning table) row v = absurd v.0

read_deep : (nodes : List Node) (take n : ℕ) (read : LeafRead) → Becomes (InTable nodes (IsWholeBy take n)) (IsReadThrough take read) None None
read_deep nodes take n read p row v = absurd v.0

-- where a row asks for whole values by a take, it reads through that take what a row of them reads
pub read_through : (nodes : List Node) → IsGoodTable nodes → (m : ℕ) → m < length nodes → (take n : ℕ) (read : LeafRead) (given : GivenValues) (row : ℕ) → WholeReads nodes read n → Visits (IsWholeBy take n) (Some given) (plan_at nodes m) row → ReadsBy (through take) read (plan_at nodes m) row
read_through nodes good m there take n read given row reads v =
    freed (InTable nodes (IsWholeBy take n)) (IsReadThrough take read) (Some given) (Some no_given) (λ k. refl) (read_own nodes good take n read reads given) (read_deep nodes take n read) (plan_at nodes m) row
    (visit_placed (IsWholeBy take n) (whole_gap take n) nodes good m there (Some given) row v)

-- ---- whatever is found in whole values

-- some row of the whole values has such a read
abbrev pub WholeFinds : (Found → Type 0) → ℕ → List Node → ℕ → Type 0
WholeFinds Q offset nodes n = (row : ℕ) × (row < (plan_head (plan_at nodes n)).rows) × Finds Q (reads_of directly (plan_derivation offset (plan_at nodes n) row))

-- so all rows together have it, by any way
all_find : (Q : Found → Type 0) (offset : ℕ) (way : Way) (p : Plan) (row : ℕ) → row < (plan_head p).rows → Finds Q (reads_of directly (plan_derivation offset p row)) → Finds Q (reads_of_each way (each_row (plan_derivation offset p) 0 (plan_head p).rows))
all_find Q offset way p row less any =
    let e : row ≡ 0 + row = omega arith in
    row_found Q way (plan_derivation offset p) 0 (plan_head p).rows row less (subst (λ (r : ℕ). Finds Q (reads_of way (plan_derivation offset p r))) e (found_anywhere Q directly way (plan_derivation offset p row) any))

-- a plan of the table that asks for the whole values, where nothing is handed in
abbrev AsksFree : List Node → ℕ → Test
AsksFree nodes n handed p row = InTable nodes (IsWholeRead n) handed p row × HandsNone handed

-- what a row of a share reads, all rows of its child read
share_all : (Q : Found → Type 0) (offset : ℕ) (way : Way) (head : Head) (child : Plan) (other : ℕ) → other < (plan_head child).rows → Finds Q (reads_of directly (plan_derivation offset (share_plan head child) other)) → Finds Q (reads_of_each way (each_row (plan_derivation offset child) 0 (plan_head child).rows))
share_all Q offset way head child other less any =
    let all : Derivations = each_row (plan_derivation offset child) 0 (plan_head child).rows in
    ⊎_elim (λ (own : Finds Q (reads_of directly (plan_derivation offset child other))). all_find Q offset way child other less own)
    (λ (each : Finds Q (reads_of_each directly all)). found_anywhere Q directly way (packed all) each)
    (any_either (λ (read : Read). Q read.found) (reads_of directly (plan_derivation offset child other)) (reads_of_each directly all) any)

-- and so does each row of the share
share_finds : (Q : Found → Type 0) (offset : ℕ) (way : Way) (handed : Handed) → HandsNone handed → (head : Head) (child : Plan) (row other : ℕ) → other < (plan_head child).rows → Finds Q (reads_of directly (plan_derivation offset (share_plan head child) other)) →
    RowReads Q way handed (plan_derivation offset (share_plan head child) row)
share_finds Q offset way handed none head child row other less any =
    let all : Derivations = each_row (plan_derivation offset child) 0 (plan_head child).rows in
    let F : Option (List Datum) → Type 0 = λ v. Finds Q (reads_of way (share_with v row (read_whole head.number row (plan_derivation offset child row) all))) in
    subst F (sym (none head.number)) (any_right (λ (read : Read). Q read.found) (reads_of way (plan_derivation offset child row)) (reads_of_each way all) (share_all Q offset way head child other less any))

find_own : (nodes : List Node) → IsGoodTable nodes → (n : ℕ) (Q : Found → Type 0) (offset : ℕ) → WholeFinds Q offset nodes n → FindsOwn (AsksFree nodes n) Q offset
find_own nodes good n Q offset finds None way p row v = absurd v.0.0
find_own nodes good n Q offset finds (Some given) way (no_plan head) row v = absurd v.0.0
find_own nodes good n Q offset finds (Some given) way (concat_plan head children) row v = absurd v.0.0
find_own nodes good n Q offset finds (Some given) way (eval_plan head e child) row v = absurd v.0.0
find_own nodes good n Q offset finds (Some given) way (filter_plan head child) row v = absurd v.0.0
find_own nodes good n Q offset finds (Some given) way (pack_plan head children validity) row v = absurd v.0.0
find_own nodes good n Q offset finds (Some given) way (take_plan head codes values) row v =
    let same : values ≡ plan_at nodes n = values_plan nodes good v.0.1.0 v.0.1.1 head codes values v.0.1.2 n v.0.0 in
    let all : Derivations = each_row (plan_derivation offset values) 0 (plan_head values).rows in
    let F : Option (List Datum) → Type 0 = λ o. Finds Q (reads_of_each (inside head.number way) (values_with o all)) in
    let G : Plan → Type 0 = λ p. (other : ℕ) × (other < (plan_head p).rows) × Finds Q (reads_of directly (plan_derivation offset p other)) in
    let found : (other : ℕ) × (other < (plan_head values).rows) × Finds Q (reads_of directly (plan_derivation offset values other)) = subst G (sym same) finds in
    inr (any_right (λ (read : Read). Q read.found) (reads_of way (with_given given (plan_derivation offset codes row))) (reads_of_each (inside head.number way) (values_with (given head.number) all))
    (subst F (sym (v.1 head.number)) (all_find Q offset (inside head.number way) values found.0 found.1 found.2)))
find_own nodes good n Q offset finds (Some given) way (share_plan head child) row v =
    let same : share_plan head child ≡ plan_at nodes n = own_plan nodes good v.0.1.0 v.0.1.1 (share_plan head child) v.0.1.2 n v.0.0 in
    let G : Plan → Type 0 = λ p. (other : ℕ) × (other < (plan_head p).rows) × Finds Q (reads_of directly (plan_derivation offset p other)) in
    let found : (other : ℕ) × (other < head.rows) × Finds Q (reads_of directly (plan_derivation offset (share_plan head child) other)) = subst G (sym same) finds in
    let fit : HasFittingRows (share_plan head child) = subst HasFittingRows (sym v.0.1.2) (rows_fit nodes good v.0.1.0 v.0.1.1) in
    share_finds Q offset way (Some given) v.1 head child row found.0 (let rows = fit.0 in let less = found.1 in omega (arith, rows, less)) found.2
find_own nodes good n Q offset finds (Some given) way (list_plan head elements offsets validity) row v = absurd v.0.0
find_own nodes good n Q offset finds (Some given) way (row_idx_plan head) row v = absurd v.0.0
find_own nodes good n Q offset finds (Some given) way (scan_plan head segment coding) row v = absurd v.0.0
find_own nodes good n Q offset finds (Some given) way (zoned_plan head zones content table) row v = absurd v.0.0
find_own nodes good n Q offset finds (Some given) way (pruning_plan head pruning table) row v = absurd v.0.0

-- with nothing handed in, a plan that asks sees that
free_own : (nodes : List Node) (n : ℕ) (given : GivenValues) → HandsNone (Some given) → Becomes (InTable nodes (IsWholeRead n)) (AsksFree nodes n) (Some given) (Some given)
free_own nodes n given none (no_plan head) row v = absurd v.0
free_own nodes n given none (concat_plan head children) row v = absurd v.0
free_own nodes n given none (eval_plan head e child) row v = absurd v.0
free_own nodes n given none (filter_plan head child) row v = absurd v.0
free_own nodes n given none (pack_plan head children validity) row v = absurd v.0
free_own nodes n given none (take_plan head codes values) row v = inl (v, none)
free_own nodes n given none (share_plan head child) row v = inl (v, none)
free_own nodes n given none (list_plan head elements offsets validity) row v = absurd v.0
free_own nodes n given none (row_idx_plan head) row v = absurd v.0
free_own nodes n given none (scan_plan head segment coding) row v = absurd v.0
free_own nodes n given none (zoned_plan head zones content table) row v = absurd v.0
free_own nodes n given none (pruning_plan head pruning table) row v = absurd v.0

free_deep : (nodes : List Node) (n : ℕ) → Becomes (InTable nodes (IsWholeRead n)) (AsksFree nodes n) None None
free_deep nodes n p row v = absurd v.0

-- where a row asks for whole values and nothing is handed in, it finds what is found in them
pub whole_found : (nodes : List Node) → IsGoodTable nodes → (m : ℕ) → m < length nodes → (n : ℕ) (Q : Found → Type 0) (offset row : ℕ) → WholeFinds Q offset nodes n → Visits (IsWholeRead n) (handed_by nodes (Some [])) (plan_at nodes m) row → Finds Q (reads_of directly (plan_derivation offset (plan_at nodes m) row))
whole_found nodes good m there n Q offset row finds v =
    let free : Visits (AsksFree nodes n) (handed_by nodes (Some [])) (plan_at nodes m) row =
    freed (InTable nodes (IsWholeRead n)) (AsksFree nodes n) (handed_by nodes (Some [])) (handed_by nodes (Some [])) (no_columns nodes) (free_own nodes n (given_for nodes []) (no_columns nodes)) (free_deep nodes n) (plan_at nodes m) row
    (visit_placed (IsWholeRead n) (asked_gap n) nodes good m there (handed_by nodes (Some [])) row v) in
    subst (λ (d : Derivation). Finds Q (reads_of directly d)) (none_served (values_for (handed_by nodes (Some []))) (no_columns nodes) (plan_derivation offset (plan_at nodes m) row))
    (visit_found (AsksFree nodes n) Q offset (find_own nodes good n Q offset finds) (handed_by nodes (Some [])) (plan_at nodes m) directly row free)
