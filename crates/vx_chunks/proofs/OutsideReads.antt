-- With values given for all whole ones that rows ask for, each leaf that they visit lies outside of whole values.
use Rattle.std.proofs.Common.{◌≡◌, ℕ, ◌-◌, ◌<◌, inl, inr, Bool, true, false, List, [], Option, Some, None, length, refl, sym, ap, ◌∙◌}
use Rattle.std.specs.Prelude.{nat_lt}
use Rattle.std.specs.Bool.{MatchBool}
use Rattle.vx_rows.specs.Given.{GivenValues}
use Rattle.vx_rows.specs.Reads.{directly}
use Rattle.vx_plan.specs.declared.nodes.PlanKind.TheVariants as kinds
use Rattle.vx_plan.specs.Nodes.{Node}
use Rattle.vx_plan.specs.Plans.{Plan, no_plan, concat_plan, eval_plan, filter_plan, pack_plan, take_plan, share_plan, list_plan, row_idx_plan, scan_plan, zoned_plan, pruning_plan, Plans, no_plans, plan, PlanValidity, all_valid, valid_as, plan_head, plan_at}
use Rattle.vx_plan.specs.Rules.{node_at}
use Rattle.vx_plan.specs.Tables.{IsGoodTable}
use Rattle.vx_steps.specs.declared.leaf_reads.LeafRead.{LeafRead}
use Rattle.vx_steps.specs.Given.{Handed, no_given, given_for, handed_by, whole_at}
use Rattle.vx_steps.specs.Kept.{IsKept, values_of, whole_of}
use Rattle.vx_steps.specs.KeptData.{Kept}
use Rattle.vx_steps.specs.Visits.{Test, Visits, VisitsIn, VisitsField, VisitsValidity, IsLeafRead, IsWholeRead}
use Rattle.vx_steps.proofs.FreeVisits.{Becomes, freed}
use Rattle.vx_steps.proofs.OutermostTakes.{IsTakeOver, take_gap, take_placed}
use Rattle.vx_steps.proofs.PlacedVisits.{IsPlaced, is_placed}
use Rattle.vx_steps.proofs.ReadVisits.{no_columns}
use Rattle.vx_steps.proofs.Shaping.{given_known}
use Rattle.vx_steps.proofs.UsedValues.{IsShareOf, share_gap, share_given}
use Rattle.vx_chunks.specs.Ways.{IsReadOutside, ReadsBy}
use Rattle.vx_chunks.proofs.WholeReads.{visit_chosen}

-- ---- takes and shares for which nothing is given

-- a take or a share, and not inside whole values, for which these values have none
abbrev IsLacking : GivenValues → Test
IsLacking f (Some given) (take_plan head codes values) row = f head.number ≡ None
IsLacking f (Some given) (share_plan head child) row = f head.number ≡ None
IsLacking f handed p row = ⊥

match_none : (b : Bool) (A B C D E F : Type 0) → ((A → ⊥) → C → E) → ((B → ⊥) → D → F) → (MatchBool b A B → ⊥) → MatchBool b C D → MatchBool b E F
match_none true A B C D E F f g lacks v = f lacks v
match_none false A B C D E F f g lacks v = g lacks v

mutual
  outside : (read : LeafRead) (f : GivenValues) (p : Plan) (row : ℕ) → (Visits (IsLacking f) (Some f) p row → ⊥) → Visits (IsLeafRead read) (Some f) p row → Visits (IsReadOutside read) (Some no_given) p row
  outside read f (no_plan head) row lacks v = absurd v
  outside read f (concat_plan head children) row lacks (inl v) = absurd v
  outside read f (concat_plan head children) row lacks (inr v) = inr (outside_in read f children row (λ l. lacks (inr l)) v)
  outside read f (eval_plan head e child) row lacks (inl v) = absurd v
  outside read f (eval_plan head e child) row lacks (inr v) = inr (outside read f child row (λ l. lacks (inr l)) v)
  outside read f (filter_plan head child) row lacks (inl v) = absurd v
  outside read f (filter_plan head child) row lacks (inr v) = inr (outside read f child row (λ l. lacks (inr l)) v)
  outside read f (pack_plan head children validity) row lacks (inl v) = absurd v
  outside read f (pack_plan head children validity) row lacks (inr (inl v)) = inr (inl (outside_field read f children row (λ l. lacks (inr (inl l))) v))
  outside read f (pack_plan head children validity) row lacks (inr (inr v)) = inr (inr (outside_validity read f validity row (λ l. lacks (inr (inr l))) v))
  outside read f (take_plan head codes values) row lacks (inl v) = absurd v
  outside read f (take_plan head codes values) row lacks (inr (inl v)) = inr (inl (outside read f codes row (λ l. lacks (inr (inl l))) v))
  outside read f (take_plan head codes values) row lacks (inr (inr (none, whole))) = absurd (lacks (inl none))
  outside read f (share_plan head child) row lacks (inl v) = absurd v
  outside read f (share_plan head child) row lacks (inr (none, whole)) = absurd (lacks (inl none))
  outside read f (list_plan head elements offsets validity) row lacks v = absurd v
  outside read f (row_idx_plan head) row lacks v = absurd v
  outside read f (scan_plan head segment coding) row lacks v = v
  outside read f (zoned_plan head zones content table) row lacks (inl v) = absurd v
  outside read f (zoned_plan head zones content table) row lacks (inr v) = inr (outside read f content row (λ l. lacks (inr l)) v)
  outside read f (pruning_plan head pruning table) row lacks (inl v) = absurd v
  outside read f (pruning_plan head pruning table) row lacks (inr (other, less, v)) = inr (other, less, outside read f table other (λ l. lacks (inr (other, less, l))) v)

  outside_in : (read : LeafRead) (f : GivenValues) (ps : Plans) (row : ℕ) → (VisitsIn (IsLacking f) (Some f) ps row → ⊥) → VisitsIn (IsLeafRead read) (Some f) ps row → VisitsIn (IsReadOutside read) (Some no_given) ps row
  outside_in read f no_plans row lacks v = absurd v
  outside_in read f (plan first rest) row lacks v =
      match_none (nat_lt row (plan_head first).rows) (Visits (IsLacking f) (Some f) first row) (VisitsIn (IsLacking f) (Some f) rest (row - (plan_head first).rows)) (Visits (IsLeafRead read) (Some f) first row) (VisitsIn (IsLeafRead read) (Some f) rest (row - (plan_head first).rows))
      (Visits (IsReadOutside read) (Some no_given) first row) (VisitsIn (IsReadOutside read) (Some no_given) rest (row - (plan_head first).rows))
      (outside read f first row) (outside_in read f rest (row - (plan_head first).rows)) lacks v

  outside_field : (read : LeafRead) (f : GivenValues) (ps : Plans) (row : ℕ) → (VisitsField (IsLacking f) (Some f) ps row → ⊥) → VisitsField (IsLeafRead read) (Some f) ps row → VisitsField (IsReadOutside read) (Some no_given) ps row
  outside_field read f no_plans row lacks v = absurd v
  outside_field read f (plan first rest) row lacks (inl v) = inl (outside read f first row (λ l. lacks (inl l)) v)
  outside_field read f (plan first rest) row lacks (inr v) = inr (outside_field read f rest row (λ l. lacks (inr l)) v)

  outside_validity : (read : LeafRead) (f : GivenValues) (validity : PlanValidity) (row : ℕ) → (VisitsValidity (IsLacking f) (Some f) validity row → ⊥) → VisitsValidity (IsLeafRead read) (Some f) validity row → VisitsValidity (IsReadOutside read) (Some no_given) validity row
  outside_validity read f all_valid row lacks v = absurd v
  outside_validity read f (valid_as validity) row lacks v = outside read f validity row lacks v

-- ---- they are those of a table

-- a take by its number and that of its values, or else a share by its number
abbrev pub LooksUp : ℕ → Option ℕ → Test
LooksUp n None = IsShareOf n
LooksUp n (Some values) = IsTakeOver n values

-- one for which these values have none
record Lack (f : GivenValues) : Type 0 where
  number : ℕ
  values : Option ℕ
  none : f number ≡ None

abbrev lack_test : (f : GivenValues) → Lack f → Test
lack_test f lack = LooksUp lack.number lack.values

lack_of : (f : GivenValues) (handed : Handed) (p : Plan) (row : ℕ) → IsLacking f handed p row → (lack : Lack f) × lack_test f lack handed p row
lack_of f None p row v = absurd v
lack_of f (Some given) (no_plan head) row v = absurd v
lack_of f (Some given) (concat_plan head children) row v = absurd v
lack_of f (Some given) (eval_plan head e child) row v = absurd v
lack_of f (Some given) (filter_plan head child) row v = absurd v
lack_of f (Some given) (pack_plan head children validity) row v = absurd v
lack_of f (Some given) (take_plan head codes values) row v = (record { number = head.number; values = Some (plan_head values).number; none = v }, (refl, refl))
lack_of f (Some given) (share_plan head child) row v = (record { number = head.number; values = None; none = v }, refl)
lack_of f (Some given) (list_plan head elements offsets validity) row v = absurd v
lack_of f (Some given) (row_idx_plan head) row v = absurd v
lack_of f (Some given) (scan_plan head segment coding) row v = absurd v
lack_of f (Some given) (zoned_plan head zones content table) row v = absurd v
lack_of f (Some given) (pruning_plan head pruning table) row v = absurd v

-- for a take, what is kept for its values
pub take_given : (nodes : List Node) → IsGoodTable nodes → (n values : ℕ) → IsPlaced (IsTakeOver n values) nodes → (kept : List Kept) → given_for nodes kept n ≡ whole_of kept values
take_given nodes good n values one kept =
    let is = take_placed nodes good n values one in
    given_known nodes n kinds.Take (node_at nodes n).children is.there is.kind refl kept ∙ ap (whole_at kept) is.second

-- ---- what they ask for

pub share_asks : (n : ℕ) (given free : GivenValues) → Becomes (IsShareOf n) (IsWholeRead n) (Some given) (Some free)
share_asks n given free (no_plan head) row v = absurd v
share_asks n given free (concat_plan head children) row v = absurd v
share_asks n given free (eval_plan head e child) row v = absurd v
share_asks n given free (filter_plan head child) row v = absurd v
share_asks n given free (pack_plan head children validity) row v = absurd v
share_asks n given free (take_plan head codes values) row v = absurd v
share_asks n given free (share_plan head child) row v = inl v
share_asks n given free (list_plan head elements offsets validity) row v = absurd v
share_asks n given free (row_idx_plan head) row v = absurd v
share_asks n given free (scan_plan head segment coding) row v = absurd v
share_asks n given free (zoned_plan head zones content table) row v = absurd v
share_asks n given free (pruning_plan head pruning table) row v = absurd v

pub take_asks : (n values : ℕ) (given free : GivenValues) → Becomes (IsTakeOver n values) (IsWholeRead values) (Some given) (Some free)
take_asks n values given free (no_plan head) row v = absurd v
take_asks n values given free (concat_plan head children) row v = absurd v
take_asks n values given free (eval_plan head e child) row v = absurd v
take_asks n values given free (filter_plan head child) row v = absurd v
take_asks n values given free (pack_plan head children validity) row v = absurd v
take_asks n values given free (take_plan head codes of) row v = inl v.1
take_asks n values given free (share_plan head child) row v = absurd v
take_asks n values given free (list_plan head elements offsets validity) row v = absurd v
take_asks n values given free (row_idx_plan head) row v = absurd v
take_asks n values given free (scan_plan head segment coding) row v = absurd v
take_asks n values given free (zoned_plan head zones content table) row v = absurd v
take_asks n values given free (pruning_plan head pruning table) row v = absurd v

-- whole values are kept for all that the row asks for
abbrev AllKept : List Node → List Kept → Plan → ℕ → Type 0
AllKept nodes given p row = (n : ℕ) → Visits (IsWholeRead n) (handed_by nodes (Some [])) p row → IsKept given n

is_given : (nodes : List Node) (given : List Kept) (number n : ℕ) → given_for nodes given number ≡ None → given_for nodes given number ≡ whole_of given n → IsKept given n → ⊥
is_given nodes given number n none same (column, at) =
    let both : None ≡ Some column.values = sym none ∙ (same ∙ ap values_of at) in
    cc

none_lacks : (nodes : List Node) → IsGoodTable nodes → (given : List Kept) (n row : ℕ) → n < length nodes → AllKept nodes given (plan_at nodes n) row → (number : ℕ) (values : Option ℕ) → given_for nodes given number ≡ None → Visits (LooksUp number values) (Some (given_for nodes given)) (plan_at nodes n) row → ⊥
none_lacks nodes good given n row there kept number None none v =
    let f : GivenValues = given_for nodes given in
    is_given nodes given number number none (share_given nodes good number (is_placed (IsShareOf number) (share_gap number) nodes good n there (Some f) row v) given)
    (kept number (freed (IsShareOf number) (IsWholeRead number) (Some f) (handed_by nodes (Some [])) (no_columns nodes) (share_asks number f (given_for nodes [])) (λ p at w. absurd w) (plan_at nodes n) row v))
none_lacks nodes good given n row there kept number (Some values) none v =
    let f : GivenValues = given_for nodes given in
    is_given nodes given number values none (take_given nodes good number values (is_placed (IsTakeOver number values) (take_gap number values) nodes good n there (Some f) row v) given)
    (kept values (freed (IsTakeOver number values) (IsWholeRead values) (Some f) (handed_by nodes (Some [])) (no_columns nodes) (take_asks number values f (given_for nodes [])) (λ p at w. absurd w) (plan_at nodes n) row v))

-- where values are given for all whole ones that a row asks for, it reads directly each leaf that it visits
pub read_directly : (nodes : List Node) → IsGoodTable nodes → (given : List Kept) (n row : ℕ) → n < length nodes → AllKept nodes given (plan_at nodes n) row → (read : LeafRead) → Visits (IsLeafRead read) (handed_by nodes (Some given)) (plan_at nodes n) row → ReadsBy directly read (plan_at nodes n) row
read_directly nodes good given n row there kept read v =
    let f : GivenValues = given_for nodes given in
    outside read f (plan_at nodes n) row (λ l.
    let lack = visit_chosen (IsLacking f) (lack_test f) (lack_of f) (Some f) (plan_at nodes n) row l in
    none_lacks nodes good given n row there kept lack.0.number lack.0.values lack.0.none lack.1) v
