-- Indices ascend or not, and the rows that members tell.
use Rattle.std.proofs.Common.{◌≡◌, ℕ, zero, suc, ◌-◌, ◌^◌, ◌<◌, ◌≤◌, Bool, true, false, ltb, List, [], ◌∷◌, codes, length, get_or, Option, Some, None, option_map, refl, ap, ◌∙◌, arith}
use Rattle.std.proofs.lemmas.Bool.{and_from, and_parts, lt-ltb, ltb-true}
use Rattle.serde_json.specs.Data.{Data, object, Members}
use Rattle.serde_json.specs.Find.{get_member}
use Rattle.std.specs.declared.ops.Range.{Range}
use Rattle.vx_splits.specs.Taken.{NotSortedAt}
use Rattle.vx_splits.specs.declared.selections.Selection.{Selection}
use Rattle.vx_splits.specs.declared.sorted_indices.SortError.{SortError}
use Rattle.vx_splits.specs.declared.sorted_indices.SortError.TheVariants.{NotSorted}
use Rattle.vx_splits.proofs.Rising.{Ascend-tail}
use Rattle.scan_request.specs.JsonForms.{optional_form, whole_form}
use Rattle.scan_request.specs.RowForms.{ascends, given, given_limit, given_or, given_range, indices_form, range_form, rows_form, rows_from, rows_said, selection_form, selection_said}
use Rattle.vx_base.specs.Masks.{Ascend}

-- ---- ascending numbers

pub ascends_true : (ns : List ℕ) → Ascend ns → ascends ns ≡ true
ascends_true [] up = refl
ascends_true (n ∷ []) up = refl
ascends_true (n ∷ m ∷ ns) up =
    let lt : n < m = up 0 0 (omega arith) in
    and_from (ltb n m) (ascends (m ∷ ns)) (lt-ltb n m lt) (ascends_true (m ∷ ns) (Ascend-tail n (m ∷ ns) up))

next_above : (ns : List ℕ) (k : ℕ) → ascends ns ≡ true → suc k < length ns → get_or ns k 0 < get_or ns (suc k) 0
next_above [] k test lt = absurd (omega arith)
next_above (n ∷ []) k test lt = absurd (omega arith)
next_above (n ∷ m ∷ ns) zero test lt = ltb-true n m (and_parts (ltb n m) (ascends (m ∷ ns)) test).0
next_above (n ∷ m ∷ ns) (suc k) test lt = next_above (m ∷ ns) k (and_parts (ltb n m) (ascends (m ∷ ns)) test).1 (omega arith)

-- numbers that were refused don't ascend
pub ascends_false : (ns : List ℕ) (error : SortError) → NotSortedAt ns error → ascends ns ≡ false
ascends_false ns (NotSorted zero) at = absurd (omega (arith, at.behind_another))
ascends_false ns (NotSorted (suc place)) at = tested (ascends ns) refl
  where
    tested : (b : Bool) → ascends ns ≡ b → b ≡ false
    tested false e = refl
    tested true e =
        let e2 : suc place - 1 ≡ place = omega arith in
        let down : get_or ns (suc place) 0 ≤ get_or ns place 0 = rw e2 at at.not_greater in
        let up = next_above ns place e at.within in
        absurd (omega arith)

-- ---- the rows that members tell

range_map : (o : Option Data) → given (option_map range_form o) ≡ optional_form None given_range o
range_map None = refl
range_map (Some d) = refl

limit_map : (o : Option Data) → given (option_map (whole_form (2 ^ 64)) o) ≡ optional_form None given_limit o
limit_map None = refl
limit_map (Some d) = refl

offset_map : (o : Option Data) → given_or 0 (option_map (whole_form (2 ^ 64)) o) ≡ optional_form 0 (whole_form (2 ^ 64)) o
offset_map None = refl
offset_map (Some d) = refl

selection_map : (a b : Option Data) → selection_said (option_map indices_form a) (option_map indices_form b) ≡ selection_form a b
selection_map None None = refl
selection_map (Some d) None = refl
selection_map None (Some e) = refl
selection_map (Some d) (Some e) = refl

pub rows_are : (ms : Members)
    → rows_said (option_map range_form (get_member (codes "range") ms)) (option_map (whole_form (2 ^ 64)) (get_member (codes "limit") ms)) (option_map (whole_form (2 ^ 64)) (get_member (codes "row_offset") ms))
    (option_map indices_form (get_member (codes "indices") ms)) (option_map indices_form (get_member (codes "exclude") ms)) ≡ rows_form (object ms)
rows_are ms =
    let g = λ (name : List ℕ). get_member name ms in
    ap (λ (o : Option (Option (Range ℕ))). rows_from o (given (option_map (whole_form (2 ^ 64)) (g (codes "limit")))) (given_or 0 (option_map (whole_form (2 ^ 64)) (g (codes "row_offset")))) (selection_said (option_map indices_form (g (codes "indices"))) (option_map indices_form (g (codes "exclude"))))) (range_map (g (codes "range")))
    ∙ ap (λ (o : Option (Option ℕ)). rows_from (optional_form None given_range (g (codes "range"))) o (given_or 0 (option_map (whole_form (2 ^ 64)) (g (codes "row_offset")))) (selection_said (option_map indices_form (g (codes "indices"))) (option_map indices_form (g (codes "exclude"))))) (limit_map (g (codes "limit")))
    ∙ ap (λ (o : Option ℕ). rows_from (optional_form None given_range (g (codes "range"))) (optional_form None given_limit (g (codes "limit"))) o (selection_said (option_map indices_form (g (codes "indices"))) (option_map indices_form (g (codes "exclude"))))) (offset_map (g (codes "row_offset")))
    ∙ ap (λ (o : Option Selection). rows_from (optional_form None given_range (g (codes "range"))) (optional_form None given_limit (g (codes "limit"))) (optional_form 0 (whole_form (2 ^ 64)) (g (codes "row_offset"))) o) (selection_map (g (codes "indices")) (g (codes "exclude")))
