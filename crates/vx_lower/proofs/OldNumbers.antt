-- A plan that is numbered anew is alike to what it was, by the numbers that its parts had.
use Rattle.std.proofs.Common.{◌≡◌, ℕ, suc, ◌+◌, ◌-◌, ◌<◌, List, [], ◌∷◌, ◌++◌, length, map, get_or, refl, sym, ap, ◌∙◌, arith}
use Rattle.std.proofs.lemmas.List.{length-append}
use Rattle.vx_plan.specs.Alike.{SameHead, IsAlike, AreAlike, ValidityIsAlike}
use Rattle.vx_plan.specs.Plans.{Plan, no_plan, concat_plan, eval_plan, filter_plan, pack_plan, take_plan, share_plan, list_plan, row_idx_plan, scan_plan, zoned_plan, pruning_plan, Plans, no_plans, plan, PlanValidity, all_valid, valid_as}
use Rattle.vx_plan.specs.PlanRows.{plan_derivation, plan_value, plan_reads}
use Rattle.vx_plan.proofs.AlikePlans.{concat_alike, pack_alike, take_alike, eval_alike, zoned_alike, pruning_alike, list_alike, alike_values, alike_reads}
use Rattle.vx_rows.specs.Derivations.{Derivation, nothing, of_leaf, list_row, given, packed, valid_where, looked_up, worked_out, read_whole, concluded, Derivations, no_more, also, Leaves}
use Rattle.vx_rows.specs.Reads.{Way, directly, through, Found, a_leaf_row, a_code, a_list_row, Read}
use Rattle.vx_rows.specs.Renumbered.{renumbered, each_renumbered, way_renumbered, found_renumbered, read_renumbered}
use Rattle.vx_rows.specs.Heads.{Head}
use Rattle.vx_lower.specs.Numbered.{head_with, numbered, each_numbered, validity_numbered}
use Rattle.vx_lower.specs.OldNumbers.{numbers_of, each_numbers_of, validity_numbers_of, old_number}
use Rattle.vx_lower.specs.Sizes.{plan_size, plans_size, plan_validity_size}

-- ---- how many numbers there are

mutual
  pub count_numbers : (p : Plan) → length (numbers_of p) ≡ plan_size p
  count_numbers (no_plan head) = refl
  count_numbers (concat_plan head children) = omega (arith, length-append (each_numbers_of children) (head.number ∷ []), count_each children)
  count_numbers (eval_plan head e child) = omega (arith, length-append (numbers_of child) (head.number ∷ []), count_numbers child)
  count_numbers (filter_plan head child) = omega (arith, length-append (numbers_of child) (head.number ∷ []), count_numbers child)
  count_numbers (pack_plan head children validity) =
      omega (arith, length-append (each_numbers_of children) (validity_numbers_of validity ++ head.number ∷ []), length-append (validity_numbers_of validity) (head.number ∷ []), count_each children, count_validity validity)
  count_numbers (take_plan head codes values) =
      omega (arith, length-append (numbers_of codes) (numbers_of values ++ head.number ∷ []), length-append (numbers_of values) (head.number ∷ []), count_numbers codes, count_numbers values)
  count_numbers (share_plan head child) = omega (arith, length-append (numbers_of child) (head.number ∷ []), count_numbers child)
  count_numbers (list_plan head elements offsets validity) =
      omega (arith, length-append (numbers_of elements) (numbers_of offsets ++ (validity_numbers_of validity ++ head.number ∷ [])), length-append (numbers_of offsets) (validity_numbers_of validity ++ head.number ∷ []), length-append (validity_numbers_of validity) (head.number ∷ []), count_numbers elements, count_numbers offsets, count_validity validity)
  count_numbers (row_idx_plan head) = refl
  count_numbers (scan_plan head segment coding) = refl
  count_numbers (zoned_plan head zones content table) =
      omega (arith, length-append (numbers_of content) (numbers_of table ++ head.number ∷ []), length-append (numbers_of table) (head.number ∷ []), count_numbers content, count_numbers table)
  count_numbers (pruning_plan head pruning table) = omega (arith, length-append (numbers_of table) (head.number ∷ []), count_numbers table)

  pub count_each : (ps : Plans) → length (each_numbers_of ps) ≡ plans_size ps
  count_each no_plans = refl
  count_each (plan one rest) = omega (arith, length-append (numbers_of one) (each_numbers_of rest), count_numbers one, count_each rest)

  count_validity : (validity : PlanValidity) → length (validity_numbers_of validity) ≡ plan_validity_size validity
  count_validity all_valid = refl
  count_validity (valid_as validity) = count_numbers validity

-- ---- numbers in a row

-- from the first number on, the function gives these, one after another
abbrev pub Gives : (ℕ → ℕ) → ℕ → List ℕ → Type 0
Gives f first [] = Unit {0}
Gives f first (n ∷ ns) = (f first ≡ n) × Gives f (suc first) ns

pub front : (f : ℕ → ℕ) (first : ℕ) (xs ys : List ℕ) → Gives f first (xs ++ ys) → Gives f first xs
front f first [] ys gives = tt
front f first (x ∷ xs) ys gives = (gives.0, front f (suc first) xs ys gives.1)

moved : (f : ℕ → ℕ) (first other : ℕ) (xs : List ℕ) → first ≡ other → Gives f first xs → Gives f other xs
moved f first other [] e gives = tt
moved f first other (x ∷ xs) e gives = (ap f (sym e) ∙ gives.0, moved f (suc first) (suc other) xs (ap suc e) gives.1)

-- what comes behind so many
pub back : (f : ℕ → ℕ) (first after : ℕ) (xs ys : List ℕ) → first + length xs ≡ after → Gives f first (xs ++ ys) → Gives f after ys
back f first after [] ys e gives = moved f first after ys (omega (arith, e)) gives
back f first after (x ∷ xs) ys e gives = back f (suc first) after xs ys (omega (arith, e)) gives.1

pub given_from : (f : ℕ → ℕ) (first : ℕ) (ns : List ℕ) → ((k : ℕ) → k < length ns → f (first + k) ≡ get_or ns k 0) → Gives f first ns
given_from f first [] each = tt
given_from f first (n ∷ ns) each =
    let start : first + 0 ≡ first = omega arith in (
      ap f (sym start) ∙ each 0 (omega arith),
      given_from f (suc first) ns (λ k lt. let next : suc first + k ≡ first + suc k = omega arith in ap f next ∙ each (suc k) (omega arith)),
    )

-- ---- plans

same_head : (number : ℕ) (head : Head) → SameHead (head_with number head) head
same_head number head = record { dtype = refl; rows = refl }

abbrev itself : ℕ → ℕ
itself n = n

-- what is shared is alike as codes and as values would be
share_alike : (f : ℕ → ℕ) (offset : ℕ) (head other : Head) (p q : Plan) → SameHead head other → f head.number ≡ other.number → IsAlike f itself offset p q → IsAlike f itself offset (share_plan head p) (share_plan other q)
share_alike f offset head other p q same number below =
    let both : IsAlike f itself offset (take_plan head p p) (take_plan other q q) = take_alike f itself offset head other p q p q same number below below in
    record { head = same; derived = λ row. let e : renumbered f (plan_derivation offset (take_plan head p p) row) ≡ renumbered itself (plan_derivation offset (take_plan other q q) row) = both.derived row in cc }

mutual
  alike_by : (f : ℕ → ℕ) (offset first : ℕ) (p : Plan) → Gives f first (numbers_of p) → IsAlike f itself offset (numbered first p) p
  alike_by f offset first (no_plan head) gives = record { head = same_head first head; derived = λ row. refl }
  alike_by f offset first (concat_plan head children) gives =
      concat_alike f itself offset (head_with (first + plans_size children) head) head (each_numbered first children) children (same_head (first + plans_size children) head)
      (each_alike f offset first children (front f first (each_numbers_of children) (head.number ∷ []) gives))
  alike_by f offset first (eval_plan head e child) gives =
      eval_alike f itself offset (head_with (first + plan_size child) head) head e (numbered first child) child (same_head (first + plan_size child) head)
      (alike_by f offset first child (front f first (numbers_of child) (head.number ∷ []) gives))
  alike_by f offset first (filter_plan head child) gives =
      let below : IsAlike f itself offset (numbered first child) child = alike_by f offset first child (front f first (numbers_of child) (head.number ∷ []) gives) in
      record { head = same_head (first + plan_size child) head; derived = below.derived }
  alike_by f offset first (pack_plan head children validity) gives =
      let number : ℕ = first + (plans_size children + plan_validity_size validity) in
      let behind : Gives f (first + plans_size children) (validity_numbers_of validity ++ head.number ∷ []) = back f first (first + plans_size children) (each_numbers_of children) (validity_numbers_of validity ++ head.number ∷ []) (ap (λ (n : ℕ). first + n) (count_each children)) gives in
      pack_alike f itself offset (head_with number head) head (each_numbered first children) children (validity_numbered (first + plans_size children) validity) validity (same_head number head)
      (each_alike f offset first children (front f first (each_numbers_of children) (validity_numbers_of validity ++ head.number ∷ []) gives))
      (validity_alike f offset (first + plans_size children) validity (front f (first + plans_size children) (validity_numbers_of validity) (head.number ∷ []) behind))
  alike_by f offset first (take_plan head codes values) gives =
      let number : ℕ = first + (plan_size codes + plan_size values) in
      let behind : Gives f (first + plan_size codes) (numbers_of values ++ head.number ∷ []) = back f first (first + plan_size codes) (numbers_of codes) (numbers_of values ++ head.number ∷ []) (ap (λ (n : ℕ). first + n) (count_numbers codes)) gives in
      let last : Gives f number (head.number ∷ []) = back f (first + plan_size codes) number (numbers_of values) (head.number ∷ []) (omega (arith, count_numbers values)) behind in
      take_alike f itself offset (head_with number head) head (numbered first codes) codes (numbered (first + plan_size codes) values) values (same_head number head) last.0
      (alike_by f offset first codes (front f first (numbers_of codes) (numbers_of values ++ head.number ∷ []) gives))
      (alike_by f offset (first + plan_size codes) values (front f (first + plan_size codes) (numbers_of values) (head.number ∷ []) behind))
  alike_by f offset first (share_plan head child) gives =
      let number : ℕ = first + plan_size child in
      let last : Gives f number (head.number ∷ []) = back f first number (numbers_of child) (head.number ∷ []) (ap (λ (n : ℕ). first + n) (count_numbers child)) gives in
      let below : IsAlike f itself offset (numbered first child) child = alike_by f offset first child (front f first (numbers_of child) (head.number ∷ []) gives) in
      share_alike f offset (head_with number head) head (numbered first child) child (same_head number head) last.0 below
  alike_by f offset first (list_plan head elements offsets validity) gives =
      let number : ℕ = first + (plan_size elements + (plan_size offsets + plan_validity_size validity)) in
      let behind : Gives f (first + plan_size elements) (numbers_of offsets ++ (validity_numbers_of validity ++ head.number ∷ [])) = back f first (first + plan_size elements) (numbers_of elements) (numbers_of offsets ++ (validity_numbers_of validity ++ head.number ∷ [])) (ap (λ (n : ℕ). first + n) (count_numbers elements)) gives in
      let far : Gives f (first + plan_size elements + plan_size offsets) (validity_numbers_of validity ++ head.number ∷ []) = back f (first + plan_size elements) (first + plan_size elements + plan_size offsets) (numbers_of offsets) (validity_numbers_of validity ++ head.number ∷ []) (ap (λ (n : ℕ). first + plan_size elements + n) (count_numbers offsets)) behind in
      let last : Gives f number (head.number ∷ []) = back f (first + plan_size elements + plan_size offsets) number (validity_numbers_of validity) (head.number ∷ []) (omega (arith, count_validity validity)) far in
      list_alike f itself offset (head_with number head) head (numbered first elements) elements (numbered (first + plan_size elements) offsets) offsets (validity_numbered (first + plan_size elements + plan_size offsets) validity) validity (same_head number head) last.0
  alike_by f offset first (row_idx_plan head) gives = record { head = same_head first head; derived = λ row. refl }
  alike_by f offset first (scan_plan head segment coding) gives = record { head = same_head first head; derived = λ row. refl }
  alike_by f offset first (zoned_plan head zones content table) gives =
      let number : ℕ = first + (plan_size content + plan_size table) in
      zoned_alike f itself offset (head_with number head) head zones zones (numbered first content) content (numbered (first + plan_size content) table) table (same_head number head)
      (alike_by f offset first content (front f first (numbers_of content) (numbers_of table ++ head.number ∷ []) gives))
  alike_by f offset first (pruning_plan head pruning table) gives =
      pruning_alike f itself offset (head_with (first + plan_size table) head) head pruning (numbered first table) table (same_head (first + plan_size table) head)
      (alike_by f offset first table (front f first (numbers_of table) (head.number ∷ []) gives))

  each_alike : (f : ℕ → ℕ) (offset first : ℕ) (ps : Plans) → Gives f first (each_numbers_of ps) → AreAlike f itself offset (each_numbered first ps) ps
  each_alike f offset first no_plans gives = tt
  each_alike f offset first (plan one rest) gives = (
    alike_by f offset first one (front f first (numbers_of one) (each_numbers_of rest) gives),
    each_alike f offset (first + plan_size one) rest (back f first (first + plan_size one) (numbers_of one) (each_numbers_of rest) (ap (λ (n : ℕ). first + n) (count_numbers one)) gives),
  )

  validity_alike : (f : ℕ → ℕ) (offset first : ℕ) (validity : PlanValidity) → Gives f first (validity_numbers_of validity) → ValidityIsAlike f itself offset (validity_numbered first validity) validity
  validity_alike f offset first all_valid gives = tt
  validity_alike f offset first (valid_as validity) gives = alike_by f offset first validity gives

pub numbered_alike : (offset first : ℕ) (p : Plan) → IsAlike (old_number first p) (λ n. n) offset (numbered first p) p
numbered_alike offset first p =
    alike_by (old_number first p) offset first p
    (given_from (old_number first p) first (numbers_of p) (λ k lt. let e : first + k - first ≡ k = omega arith in ap (λ (n : ℕ). get_or (numbers_of p) n 0) e))

-- ---- with the numbers that there are

mutual
  same_numbers : (d : Derivation) → renumbered itself d ≡ d
  same_numbers nothing = refl
  same_numbers (of_leaf at) = refl
  same_numbers (list_row list row) = refl
  same_numbers (given v) = refl
  same_numbers (packed ds) = ap packed (each_same_numbers ds)
  same_numbers (valid_where d validity) = let p = same_numbers d in let q = same_numbers validity in cc
  same_numbers (looked_up dictionary row code values) = let p = same_numbers code in let q = each_same_numbers values in cc
  same_numbers (worked_out t e d) = ap (worked_out t e) (same_numbers d)
  same_numbers (read_whole share row d ds) = let p = same_numbers d in let q = each_same_numbers ds in cc
  same_numbers (concluded rule ds) = ap (concluded rule) (each_same_numbers ds)

  each_same_numbers : (ds : Derivations) → each_renumbered itself ds ≡ ds
  each_same_numbers no_more = refl
  each_same_numbers (also d ds) = let p = same_numbers d in let q = each_same_numbers ds in cc

same_way : (way : Way) → way_renumbered itself way ≡ way
same_way directly = refl
same_way (through dictionary) = refl

same_found : (found : Found) → found_renumbered itself found ≡ found
same_found (a_leaf_row at) = refl
same_found (a_code at) = let p : renumbered itself at.code ≡ at.code = same_numbers at.code in λ i. a_code (record { dictionary = at.dictionary; row = at.row; code = p i; count = at.count })
same_found (a_list_row list row) = refl

same_read : (read : Read) → read_renumbered itself read ≡ read
same_read read = let p : way_renumbered itself read.way ≡ read.way = same_way read.way in let q : found_renumbered itself read.found ≡ read.found = same_found read.found in λ i. record { way = p i; found = q i }

pub same_reads : (reads : List Read) → map (read_renumbered itself) reads ≡ reads
same_reads [] = refl
same_reads (read ∷ reads) = let p : read_renumbered itself read ≡ read = same_read read in let q : map (read_renumbered itself) reads ≡ reads = same_reads reads in cc

pub numbered_values : (leaves : Leaves) (offset first : ℕ) (p : Plan) (row : ℕ) → plan_value leaves offset (numbered first p) row ≡ plan_value leaves offset p row
numbered_values leaves offset first p row = alike_values (old_number first p) itself leaves offset (numbered first p) p row (numbered_alike offset first p)

pub numbered_reads : (offset first : ℕ) (p : Plan) (row : ℕ) → map (read_renumbered (old_number first p)) (plan_reads offset (numbered first p) row) ≡ plan_reads offset p row
numbered_reads offset first p row = alike_reads (old_number first p) itself offset (numbered first p) p row (numbered_alike offset first p) ∙ same_reads (plan_reads offset p row)
