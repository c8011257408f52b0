-- Where the leaves of a numbered plan stand: each at one place, so that the rows that read it lie together.
use Rattle.std.proofs.Common.{◌≡◌, ℕ, ◌+◌, ◌-◌, ◌<◌, ◌≤◌, inl, inr, Bool, true, false, None, sym, subst, arith}
use Rattle.std.specs.Prelude.{nat_lt}
use Rattle.std.specs.Bool.{MatchBool}
use Rattle.std.proofs.lemmas.Bool.{cases_lt, lt-ltb, le-ltb}
use Rattle.vx_expr.specs.Bound.{Bound}
use Rattle.vx_expr.specs.Mentions.{is_root, uses_root, uses_row_number}
use Rattle.vx_lower.specs.Lowered.{lowered}
use Rattle.vx_lower.specs.Numbered.{numbered, each_numbered, validity_numbered}
use Rattle.vx_lower.specs.Projected.{Projection, kept_of}
use Rattle.vx_lower.specs.RowIndex.{row_index_plan_from_by}
use Rattle.vx_lower.specs.Sizes.{plan_size, plans_size, plan_validity_size}
use Rattle.vx_plan.specs.Plans.{Plan, no_plan, concat_plan, eval_plan, filter_plan, pack_plan, take_plan, share_plan, list_plan, row_idx_plan, scan_plan, zoned_plan, pruning_plan, Plans, no_plans, plan, PlanValidity, all_valid, valid_as, plan_head}
use Rattle.vx_rows.specs.Reads.{Way, directly, through}
use Rattle.vx_steps.specs.declared.leaf_reads.LeafRead.{LeafRead}
use Rattle.vx_steps.specs.Leavings.{IsLeafOf}
use Rattle.vx_steps.specs.Visits.{Visits, VisitsIn, VisitsField, VisitsValidity}
use Rattle.vx_steps.proofs.PlacedVisits.{by_match}
use Rattle.vx_chunks.specs.Ways.{ReadsBy}
use Rattle.vx_scan.specs.PlanTexts.{held_tree, IsProjectionPlan, IsProjectionPlanBy}

-- ---- the numbers of a numbered plan's leaves

abbrev Reads : ℕ → Plan → ℕ → Type 0
Reads leaf p row = Visits (IsLeafOf leaf) None p row

abbrev ReadsIn : ℕ → Plans → ℕ → Type 0
ReadsIn leaf ps row = VisitsIn (IsLeafOf leaf) None ps row

abbrev ReadsField : ℕ → Plans → ℕ → Type 0
ReadsField leaf ps row = VisitsField (IsLeafOf leaf) None ps row

abbrev ReadsValidity : ℕ → PlanValidity → ℕ → Type 0
ReadsValidity leaf validity row = VisitsValidity (IsLeafOf leaf) None validity row

-- the number is one of so many from the first on
record IsFrom (first size leaf : ℕ) : Type 0 where
  low : first ≤ leaf
  high : leaf < first + size

wider : (first size low many leaf : ℕ) → low ≤ first → first + size ≤ low + many → IsFrom first size leaf → IsFrom low many leaf
wider first size low many leaf less more is = let a = is.low in let b = is.high in record { low = omega (arith, less, a); high = omega (arith, more, b) }

mutual
  number_from : (leaf first : ℕ) (p : Plan) (row : ℕ) → Reads leaf (numbered first p) row → IsFrom first (plan_size p) leaf
  number_from leaf first (no_plan head) row v = absurd v
  number_from leaf first (concat_plan head children) row (inl v) = absurd v
  number_from leaf first (concat_plan head children) row (inr v) = wider first (plans_size children) first (1 + plans_size children) leaf (omega arith) (omega arith) (in_from leaf first children row v)
  number_from leaf first (eval_plan head e child) row (inl v) = absurd v
  number_from leaf first (eval_plan head e child) row (inr v) = wider first (plan_size child) first (1 + plan_size child) leaf (omega arith) (omega arith) (number_from leaf first child row v)
  number_from leaf first (filter_plan head child) row (inl v) = absurd v
  number_from leaf first (filter_plan head child) row (inr v) = wider first (plan_size child) first (1 + plan_size child) leaf (omega arith) (omega arith) (number_from leaf first child row v)
  number_from leaf first (pack_plan head children validity) row (inl v) = absurd v
  number_from leaf first (pack_plan head children validity) row (inr (inl v)) =
      wider first (plans_size children) first (1 + (plans_size children + plan_validity_size validity)) leaf (omega arith) (omega arith) (field_from leaf first children row v)
  number_from leaf first (pack_plan head children validity) row (inr (inr v)) =
      wider (first + plans_size children) (plan_validity_size validity) first (1 + (plans_size children + plan_validity_size validity)) leaf (omega arith) (omega arith) (validity_from leaf (first + plans_size children) validity row v)
  number_from leaf first (take_plan head codes values) row (inl v) = absurd v
  number_from leaf first (take_plan head codes values) row (inr (inl v)) =
      wider first (plan_size codes) first (1 + (plan_size codes + plan_size values)) leaf (omega arith) (omega arith) (number_from leaf first codes row v)
  number_from leaf first (take_plan head codes values) row (inr (inr (none, (other, less, v)))) =
      wider (first + plan_size codes) (plan_size values) first (1 + (plan_size codes + plan_size values)) leaf (omega arith) (omega arith) (number_from leaf (first + plan_size codes) values other v)
  number_from leaf first (share_plan head child) row (inl v) = absurd v
  number_from leaf first (share_plan head child) row (inr (none, (other, less, v))) = wider first (plan_size child) first (1 + plan_size child) leaf (omega arith) (omega arith) (number_from leaf first child other v)
  number_from leaf first (list_plan head elements offsets validity) row v = absurd v
  number_from leaf first (row_idx_plan head) row v = absurd v
  number_from leaf first (scan_plan head segment coding) row v = let is : first ≡ leaf = v in record { low = omega (arith, is); high = omega (arith, is) }
  number_from leaf first (zoned_plan head zones content table) row (inl v) = absurd v
  number_from leaf first (zoned_plan head zones content table) row (inr v) =
      wider first (plan_size content) first (1 + (plan_size content + plan_size table)) leaf (omega arith) (omega arith) (number_from leaf first content row v)
  number_from leaf first (pruning_plan head pruning table) row (inl v) = absurd v
  number_from leaf first (pruning_plan head pruning table) row (inr (other, less, v)) = wider first (plan_size table) first (1 + plan_size table) leaf (omega arith) (omega arith) (number_from leaf first table other v)

  in_from : (leaf first : ℕ) (ps : Plans) (row : ℕ) → ReadsIn leaf (each_numbered first ps) row → IsFrom first (plans_size ps) leaf
  in_from leaf first no_plans row v = absurd v
  in_from leaf first (plan one rest) row v =
      by_match (nat_lt row (plan_head (numbered first one)).rows) (Reads leaf (numbered first one) row) (ReadsIn leaf (each_numbered (first + plan_size one) rest) (row - (plan_head (numbered first one)).rows)) (IsFrom first (plan_size one + plans_size rest) leaf)
      (λ w. wider first (plan_size one) first (plan_size one + plans_size rest) leaf (omega arith) (omega arith) (number_from leaf first one row w))
      (λ w. wider (first + plan_size one) (plans_size rest) first (plan_size one + plans_size rest) leaf (omega arith) (omega arith) (in_from leaf (first + plan_size one) rest (row - (plan_head (numbered first one)).rows) w)) v

  field_from : (leaf first : ℕ) (ps : Plans) (row : ℕ) → ReadsField leaf (each_numbered first ps) row → IsFrom first (plans_size ps) leaf
  field_from leaf first no_plans row v = absurd v
  field_from leaf first (plan one rest) row (inl v) = wider first (plan_size one) first (plan_size one + plans_size rest) leaf (omega arith) (omega arith) (number_from leaf first one row v)
  field_from leaf first (plan one rest) row (inr v) = wider (first + plan_size one) (plans_size rest) first (plan_size one + plans_size rest) leaf (omega arith) (omega arith) (field_from leaf (first + plan_size one) rest row v)

  validity_from : (leaf first : ℕ) (validity : PlanValidity) (row : ℕ) → ReadsValidity leaf (validity_numbered first validity) row → IsFrom first (plan_validity_size validity) leaf
  validity_from leaf first all_valid row v = absurd v
  validity_from leaf first (valid_as validity) row v = number_from leaf first validity row v

-- a number is not both one of the first ones and one of those behind them
not_both : (first size more leaf : ℕ) → IsFrom first size leaf → IsFrom (first + size) more leaf → ⊥
not_both first size more leaf one other = let a = one.high in let b = other.low in omega (arith, a, b)

-- ---- the rows between two that read a leaf

-- of plans one after another, the first of which has so many rows
chunk_between : (rows one row two : ℕ) (F G : ℕ → Type 0) → one ≤ row → row ≤ two → (F one → F two → F row) → (G (one - rows) → G (two - rows) → G (row - rows)) → (F one → G (two - rows) → ⊥)
    → MatchBool (nat_lt one rows) (F one) (G (one - rows)) → MatchBool (nat_lt two rows) (F two) (G (two - rows)) → MatchBool (nat_lt row rows) (F row) (G (row - rows))
chunk_between rows one row two F G low high first rest apart v w =
    elim (cases_lt two rows) [
      | inl inside ↦
          let one_in : one < rows = omega (arith, low, high, inside) in
          let row_in : row < rows = omega (arith, high, inside) in
          put row true (lt-ltb row rows row_in) (first (get one true (lt-ltb one rows one_in) v) (get two true (lt-ltb two rows inside) w))
      | inr behind ↦
          elim (cases_lt one rows) [
            | inl inside ↦ absurd (apart (get one true (lt-ltb one rows inside) v) (get two false (le-ltb two rows behind) w))
            | inr before ↦
                let row_behind : rows ≤ row = omega (arith, low, before) in
                put row false (le-ltb row rows row_behind) (rest (get one false (le-ltb one rows before) v) (get two false (le-ltb two rows behind) w))
          ]
    ]
  where
    get : (at : ℕ) (b : Bool) → nat_lt at rows ≡ b → MatchBool (nat_lt at rows) (F at) (G (at - rows)) → MatchBool b (F at) (G (at - rows))
    get at b is m = subst (λ (c : Bool). MatchBool c (F at) (G (at - rows))) is m

    put : (at : ℕ) (b : Bool) → nat_lt at rows ≡ b → MatchBool b (F at) (G (at - rows)) → MatchBool (nat_lt at rows) (F at) (G (at - rows))
    put at b is m = subst (λ (c : Bool). MatchBool c (F at) (G (at - rows))) (sym is) m

mutual
  row_between : (leaf first : ℕ) (p : Plan) (one row two : ℕ) → one ≤ row → row ≤ two → Reads leaf (numbered first p) one → Reads leaf (numbered first p) two → Reads leaf (numbered first p) row
  row_between leaf first (no_plan head) one row two low high v w = v
  row_between leaf first (concat_plan head children) one row two low high (inl v) w = absurd v
  row_between leaf first (concat_plan head children) one row two low high (inr v) (inl w) = absurd w
  row_between leaf first (concat_plan head children) one row two low high (inr v) (inr w) = inr (in_between leaf first children one row two low high v w)
  row_between leaf first (eval_plan head e child) one row two low high (inl v) w = absurd v
  row_between leaf first (eval_plan head e child) one row two low high (inr v) (inl w) = absurd w
  row_between leaf first (eval_plan head e child) one row two low high (inr v) (inr w) = inr (row_between leaf first child one row two low high v w)
  row_between leaf first (filter_plan head child) one row two low high (inl v) w = absurd v
  row_between leaf first (filter_plan head child) one row two low high (inr v) (inl w) = absurd w
  row_between leaf first (filter_plan head child) one row two low high (inr v) (inr w) = inr (row_between leaf first child one row two low high v w)
  row_between leaf first (pack_plan head children validity) one row two low high (inl v) w = absurd v
  row_between leaf first (pack_plan head children validity) one row two low high (inr v) (inl w) = absurd w
  row_between leaf first (pack_plan head children validity) one row two low high (inr (inl v)) (inr (inl w)) = inr (inl (field_between leaf first children one row two low high v w))
  row_between leaf first (pack_plan head children validity) one row two low high (inr (inl v)) (inr (inr w)) =
      absurd (not_both first (plans_size children) (plan_validity_size validity) leaf (field_from leaf first children one v) (validity_from leaf (first + plans_size children) validity two w))
  row_between leaf first (pack_plan head children validity) one row two low high (inr (inr v)) (inr (inl w)) =
      absurd (not_both first (plans_size children) (plan_validity_size validity) leaf (field_from leaf first children two w) (validity_from leaf (first + plans_size children) validity one v))
  row_between leaf first (pack_plan head children validity) one row two low high (inr (inr v)) (inr (inr w)) = inr (inr (validity_between leaf (first + plans_size children) validity one row two low high v w))
  row_between leaf first (take_plan head codes values) one row two low high (inl v) w = absurd v
  row_between leaf first (take_plan head codes values) one row two low high (inr v) (inl w) = absurd w
  row_between leaf first (take_plan head codes values) one row two low high (inr (inr v)) (inr w) = inr (inr v)
  row_between leaf first (take_plan head codes values) one row two low high (inr (inl v)) (inr (inr w)) = inr (inr w)
  row_between leaf first (take_plan head codes values) one row two low high (inr (inl v)) (inr (inl w)) = inr (inl (row_between leaf first codes one row two low high v w))
  row_between leaf first (share_plan head child) one row two low high (inl v) w = absurd v
  row_between leaf first (share_plan head child) one row two low high (inr v) w = inr v
  row_between leaf first (list_plan head elements offsets validity) one row two low high v w = v
  row_between leaf first (row_idx_plan head) one row two low high v w = v
  row_between leaf first (scan_plan head segment coding) one row two low high v w = v
  row_between leaf first (zoned_plan head zones content table) one row two low high (inl v) w = absurd v
  row_between leaf first (zoned_plan head zones content table) one row two low high (inr v) (inl w) = absurd w
  row_between leaf first (zoned_plan head zones content table) one row two low high (inr v) (inr w) = inr (row_between leaf first content one row two low high v w)
  row_between leaf first (pruning_plan head pruning table) one row two low high (inl v) w = absurd v
  row_between leaf first (pruning_plan head pruning table) one row two low high (inr v) w = inr v

  in_between : (leaf first : ℕ) (ps : Plans) (one row two : ℕ) → one ≤ row → row ≤ two → ReadsIn leaf (each_numbered first ps) one → ReadsIn leaf (each_numbered first ps) two → ReadsIn leaf (each_numbered first ps) row
  in_between leaf first no_plans one row two low high v w = v
  in_between leaf first (plan p ps) one row two low high v w =
      chunk_between (plan_head (numbered first p)).rows one row two (Reads leaf (numbered first p)) (ReadsIn leaf (each_numbered (first + plan_size p) ps)) low high
      (λ a b. row_between leaf first p one row two low high a b)
      (λ a b. in_between leaf (first + plan_size p) ps (one - (plan_head (numbered first p)).rows) (row - (plan_head (numbered first p)).rows) (two - (plan_head (numbered first p)).rows) (omega (arith, low)) (omega (arith, high)) a b)
      (λ a b. not_both first (plan_size p) (plans_size ps) leaf (number_from leaf first p one a) (in_from leaf (first + plan_size p) ps (two - (plan_head (numbered first p)).rows) b)) v w

  field_between : (leaf first : ℕ) (ps : Plans) (one row two : ℕ) → one ≤ row → row ≤ two → ReadsField leaf (each_numbered first ps) one → ReadsField leaf (each_numbered first ps) two → ReadsField leaf (each_numbered first ps) row
  field_between leaf first no_plans one row two low high v w = v
  field_between leaf first (plan p ps) one row two low high (inl v) (inl w) = inl (row_between leaf first p one row two low high v w)
  field_between leaf first (plan p ps) one row two low high (inl v) (inr w) = absurd (not_both first (plan_size p) (plans_size ps) leaf (number_from leaf first p one v) (field_from leaf (first + plan_size p) ps two w))
  field_between leaf first (plan p ps) one row two low high (inr v) (inl w) = absurd (not_both first (plan_size p) (plans_size ps) leaf (number_from leaf first p two w) (field_from leaf (first + plan_size p) ps one v))
  field_between leaf first (plan p ps) one row two low high (inr v) (inr w) = inr (field_between leaf (first + plan_size p) ps one row two low high v w)

  validity_between : (leaf first : ℕ) (validity : PlanValidity) (one row two : ℕ) → one ≤ row → row ≤ two → ReadsValidity leaf (validity_numbered first validity) one → ReadsValidity leaf (validity_numbered first validity) two → ReadsValidity leaf (validity_numbered first validity) row
  validity_between leaf first all_valid one row two low high v w = v
  validity_between leaf first (valid_as validity) one row two low high v w = row_between leaf first validity one row two low high v w

-- ---- the plan of a projection

-- a row between two that read a leaf reads it
abbrev pub ReadsBetween : Plan → Type 0
ReadsBetween p = (leaf one row two : ℕ) → one ≤ row → row ≤ two → Reads leaf p one → Reads leaf p two → Reads leaf p row

over_between : (root row_number : Bool) (n : ℕ) (a : Bound) (child : Plan) → ReadsBetween child → ReadsBetween (row_index_plan_from_by root row_number n a child)
over_between false false n a child lie leaf one row two low high (inl v) w = absurd v
over_between false false n a child lie leaf one row two low high (inr (inl v)) w = absurd v
over_between false false n a child lie leaf one row two low high (inr (inr (inl v))) w = absurd v
over_between false false n a child lie leaf one row two low high (inr (inr (inr v))) w = absurd v
over_between false true n a child lie leaf one row two low high (inl v) w = absurd v
over_between false true n a child lie leaf one row two low high (inr v) w = absurd v
over_between true false n a child lie leaf one row two low high (inl v) w = absurd v
over_between true false n a child lie leaf one row two low high (inr v) (inl w) = absurd w
over_between true false n a child lie leaf one row two low high (inr v) (inr w) = inr (lie leaf one row two low high v w)
over_between true true n a child lie leaf one row two low high v w = inr (inr (inl (inr (inl (lie leaf one row two low high (through one v) (through two w))))))
  where
    through : (at : ℕ) → Reads leaf (row_index_plan_from_by true true n a child) at → Reads leaf child at
    through at (inl v) = absurd v
    through at (inr (inl v)) = absurd v
    through at (inr (inr (inl (inl v)))) = absurd v
    through at (inr (inr (inl (inr (inl v))))) = v
    through at (inr (inr (inl (inr (inr v))))) = absurd v
    through at (inr (inr (inr v))) = absurd v

by_between : (b : Bool) (p : Projection) (q : Plan) → IsProjectionPlanBy b p q → ReadsBetween q
by_between true p q is = subst ReadsBetween (sym is) (λ leaf one row two low high v w. row_between leaf 0 (lowered p.root (kept_of p)) one row two low high v w)
by_between false p q (n, is) =
    subst ReadsBetween (sym is)
    (over_between (uses_root p.expression.term) (uses_row_number p.expression.term) n p.expression (held_tree p)
    (λ leaf one row two low high v w. row_between leaf 0 (lowered p.root (kept_of p)) one row two low high v w))

pub reads_between : (p : Projection) (q : Plan) → IsProjectionPlan p q → ReadsBetween q
reads_between p q is = by_between (is_root p.expression.term) p q is

-- what the plan reads, the tree's plan reads at the same row, and that way
over_read : (way : Way) (read : LeafRead) (root row_number : Bool) (n : ℕ) (a : Bound) (child : Plan) (row : ℕ) → ReadsBy way read (row_index_plan_from_by root row_number n a child) row → ReadsBy way read child row
over_read directly read false false n a child row (inl v) = absurd v
over_read directly read false false n a child row (inr (inl v)) = absurd v
over_read directly read false false n a child row (inr (inr (inl v))) = absurd v
over_read directly read false false n a child row (inr (inr (inr v))) = absurd v
over_read directly read false true n a child row (inl v) = absurd v
over_read directly read false true n a child row (inr v) = absurd v
over_read directly read true false n a child row (inl v) = absurd v
over_read directly read true false n a child row (inr v) = v
over_read directly read true true n a child row (inl v) = absurd v
over_read directly read true true n a child row (inr (inl v)) = absurd v
over_read directly read true true n a child row (inr (inr (inl (inl v)))) = absurd v
over_read directly read true true n a child row (inr (inr (inl (inr (inl v))))) = v
over_read directly read true true n a child row (inr (inr (inl (inr (inr v))))) = absurd v
over_read directly read true true n a child row (inr (inr (inr v))) = absurd v
over_read (through take) read false false n a child row (inl v) = absurd v
over_read (through take) read false false n a child row (inr (inl v)) = absurd v
over_read (through take) read false false n a child row (inr (inr (inl v))) = absurd v
over_read (through take) read false false n a child row (inr (inr (inr v))) = absurd v
over_read (through take) read false true n a child row (inl v) = absurd v
over_read (through take) read false true n a child row (inr v) = absurd v
over_read (through take) read true false n a child row (inl v) = absurd v
over_read (through take) read true false n a child row (inr v) = v
over_read (through take) read true true n a child row (inl v) = absurd v
over_read (through take) read true true n a child row (inr (inl v)) = absurd v
over_read (through take) read true true n a child row (inr (inr (inl (inl v)))) = absurd v
over_read (through take) read true true n a child row (inr (inr (inl (inr (inl v))))) = v
over_read (through take) read true true n a child row (inr (inr (inl (inr (inr v))))) = absurd v
over_read (through take) read true true n a child row (inr (inr (inr v))) = absurd v

by_read : (way : Way) (read : LeafRead) (b : Bool) (p : Projection) (q : Plan) (row : ℕ) → IsProjectionPlanBy b p q → ReadsBy way read q row → ReadsBy way read (held_tree p) row
by_read way read true p q row is v = subst (λ (r : Plan). ReadsBy way read r row) is v
by_read way read false p q row (n, is) v =
    over_read way read (uses_root p.expression.term) (uses_row_number p.expression.term) n p.expression (held_tree p) row (subst (λ (r : Plan). ReadsBy way read r row) is v)

pub tree_reads : (way : Way) (read : LeafRead) (p : Projection) (q : Plan) (row : ℕ) → IsProjectionPlan p q → ReadsBy way read q row → ReadsBy way read (held_tree p) row
tree_reads way read p q row is v = by_read way read (is_root p.expression.term) p q row is v
