-- Takes of a plan that is numbered anew have other numbers before, where no number stands at two of them.
use Rattle.std.proofs.Common.{◌≡◌, ℕ, ◌+◌, ◌-◌, ◌≤◌, ◌⊎◌, inl, inr, Bool, cond, eqb, [], ◌∷◌, ◌++◌, get_or, refl, sym, ap, ◌∙◌, arith}
use Rattle.std.proofs.lemmas.Bool.{eq-eqb}
use Rattle.vx_lower.specs.Numbered.{numbered, each_numbered, validity_numbered}
use Rattle.vx_lower.specs.OldNumbers.{numbers_of, each_numbers_of, validity_numbers_of, old_number}
use Rattle.vx_lower.specs.Sizes.{plan_size, plans_size}
use Rattle.vx_lower.proofs.OldNumbers.{count_numbers, count_each, Gives, front, back, given_from}
use Rattle.vx_plan.specs.Plans.{Plan, no_plan, concat_plan, eval_plan, filter_plan, pack_plan, take_plan, share_plan, list_plan, row_idx_plan, scan_plan, zoned_plan, pruning_plan, Plans, no_plans, plan, PlanValidity, all_valid, valid_as}
use Rattle.vx_steps.specs.Below.{StandsIn, StandsAmong, StandsInValidity}
use Rattle.vx_scan.specs.FilePlans.{IsTakeAs}

-- ---- how many takes and shares have the number

abbrev pub one_at : ℕ → ℕ → ℕ
one_at k number = cond (eqb number k) 1 0

abbrev mutual
  pub takes_at : ℕ → Plan → ℕ
  takes_at k (no_plan head) = 0
  takes_at k (concat_plan head children) = takes_among k children
  takes_at k (eval_plan head e child) = takes_at k child
  takes_at k (filter_plan head child) = takes_at k child
  takes_at k (pack_plan head children validity) = takes_among k children + takes_valid k validity
  takes_at k (take_plan head codes values) = one_at k head.number + (takes_at k codes + takes_at k values)
  takes_at k (share_plan head child) = one_at k head.number + takes_at k child
  takes_at k (list_plan head elements offsets validity) = takes_at k elements + (takes_at k offsets + takes_valid k validity)
  takes_at k (row_idx_plan head) = 0
  takes_at k (scan_plan head segment coding) = 0
  takes_at k (zoned_plan head zones content table) = takes_at k content + takes_at k table
  takes_at k (pruning_plan head pruning table) = takes_at k table

  pub takes_among : ℕ → Plans → ℕ
  takes_among k no_plans = 0
  takes_among k (plan first rest) = takes_at k first + takes_among k rest

  pub takes_valid : ℕ → PlanValidity → ℕ
  takes_valid k all_valid = 0
  takes_valid k (valid_as validity) = takes_at k validity

one_here : (k number more : ℕ) → number ≡ k → 1 ≤ one_at k number + more
one_here k number more same = let one : one_at k number ≡ 1 = ap (λ (b : Bool). cond b 1 0) (eq-eqb number k same) in omega (arith, one)

-- ---- each take's new number tells the old one

abbrev mutual
  TellsTakes : (ℕ → ℕ) → ℕ → Plan → Type 0
  TellsTakes f first (no_plan head) = Unit {0}
  TellsTakes f first (concat_plan head children) = TellsAmong f first children
  TellsTakes f first (eval_plan head e child) = TellsTakes f first child
  TellsTakes f first (filter_plan head child) = TellsTakes f first child
  TellsTakes f first (pack_plan head children validity) = TellsAmong f first children × TellsValid f (first + plans_size children) validity
  TellsTakes f first (take_plan head codes values) = (f (first + (plan_size codes + plan_size values)) ≡ head.number) × TellsTakes f first codes × TellsTakes f (first + plan_size codes) values
  TellsTakes f first (share_plan head child) = (f (first + plan_size child) ≡ head.number) × TellsTakes f first child
  TellsTakes f first (list_plan head elements offsets validity) = TellsTakes f first elements × TellsTakes f (first + plan_size elements) offsets × TellsValid f (first + plan_size elements + plan_size offsets) validity
  TellsTakes f first (row_idx_plan head) = Unit {0}
  TellsTakes f first (scan_plan head segment coding) = Unit {0}
  TellsTakes f first (zoned_plan head zones content table) = TellsTakes f first content × TellsTakes f (first + plan_size content) table
  TellsTakes f first (pruning_plan head pruning table) = TellsTakes f first table

  TellsAmong : (ℕ → ℕ) → ℕ → Plans → Type 0
  TellsAmong f first no_plans = Unit {0}
  TellsAmong f first (plan one rest) = TellsTakes f first one × TellsAmong f (first + plan_size one) rest

  TellsValid : (ℕ → ℕ) → ℕ → PlanValidity → Type 0
  TellsValid f first all_valid = Unit {0}
  TellsValid f first (valid_as validity) = TellsTakes f first validity

mutual
  told : (f : ℕ → ℕ) (first : ℕ) (p : Plan) → Gives f first (numbers_of p) → TellsTakes f first p
  told f first (no_plan head) gives = tt
  told f first (concat_plan head children) gives = told_among f first children (front f first (each_numbers_of children) (head.number ∷ []) gives)
  told f first (eval_plan head e child) gives = told f first child (front f first (numbers_of child) (head.number ∷ []) gives)
  told f first (filter_plan head child) gives = told f first child (front f first (numbers_of child) (head.number ∷ []) gives)
  told f first (pack_plan head children validity) gives =
      let behind : Gives f (first + plans_size children) (validity_numbers_of validity ++ head.number ∷ []) = back f first (first + plans_size children) (each_numbers_of children) (validity_numbers_of validity ++ head.number ∷ []) (ap (λ (n : ℕ). first + n) (count_each children)) gives in (
        told_among f first children (front f first (each_numbers_of children) (validity_numbers_of validity ++ head.number ∷ []) gives),
        told_valid f (first + plans_size children) validity (front f (first + plans_size children) (validity_numbers_of validity) (head.number ∷ []) behind),
      )
  told f first (take_plan head codes values) gives =
      let number : ℕ = first + (plan_size codes + plan_size values) in
      let behind : Gives f (first + plan_size codes) (numbers_of values ++ head.number ∷ []) = back f first (first + plan_size codes) (numbers_of codes) (numbers_of values ++ head.number ∷ []) (ap (λ (n : ℕ). first + n) (count_numbers codes)) gives in
      let last : Gives f number (head.number ∷ []) = back f (first + plan_size codes) number (numbers_of values) (head.number ∷ []) (omega (arith, count_numbers values)) behind in (
        last.0,
        told f first codes (front f first (numbers_of codes) (numbers_of values ++ head.number ∷ []) gives),
        told f (first + plan_size codes) values (front f (first + plan_size codes) (numbers_of values) (head.number ∷ []) behind),
      )
  told f first (share_plan head child) gives =
      let number : ℕ = first + plan_size child in
      let last : Gives f number (head.number ∷ []) = back f first number (numbers_of child) (head.number ∷ []) (ap (λ (n : ℕ). first + n) (count_numbers child)) gives in
      (last.0, told f first child (front f first (numbers_of child) (head.number ∷ []) gives))
  told f first (list_plan head elements offsets validity) gives =
      let behind : Gives f (first + plan_size elements) (numbers_of offsets ++ (validity_numbers_of validity ++ head.number ∷ [])) = back f first (first + plan_size elements) (numbers_of elements) (numbers_of offsets ++ (validity_numbers_of validity ++ head.number ∷ [])) (ap (λ (n : ℕ). first + n) (count_numbers elements)) gives in
      let far : Gives f (first + plan_size elements + plan_size offsets) (validity_numbers_of validity ++ head.number ∷ []) = back f (first + plan_size elements) (first + plan_size elements + plan_size offsets) (numbers_of offsets) (validity_numbers_of validity ++ head.number ∷ []) (ap (λ (n : ℕ). first + plan_size elements + n) (count_numbers offsets)) behind in (
        told f first elements (front f first (numbers_of elements) (numbers_of offsets ++ (validity_numbers_of validity ++ head.number ∷ [])) gives),
        told f (first + plan_size elements) offsets (front f (first + plan_size elements) (numbers_of offsets) (validity_numbers_of validity ++ head.number ∷ []) behind),
        told_valid f (first + plan_size elements + plan_size offsets) validity (front f (first + plan_size elements + plan_size offsets) (validity_numbers_of validity) (head.number ∷ []) far),
      )
  told f first (row_idx_plan head) gives = tt
  told f first (scan_plan head segment coding) gives = tt
  told f first (zoned_plan head zones content table) gives =
      let behind : Gives f (first + plan_size content) (numbers_of table ++ head.number ∷ []) = back f first (first + plan_size content) (numbers_of content) (numbers_of table ++ head.number ∷ []) (ap (λ (n : ℕ). first + n) (count_numbers content)) gives in (
        told f first content (front f first (numbers_of content) (numbers_of table ++ head.number ∷ []) gives),
        told f (first + plan_size content) table (front f (first + plan_size content) (numbers_of table) (head.number ∷ []) behind),
      )
  told f first (pruning_plan head pruning table) gives = told f first table (front f first (numbers_of table) (head.number ∷ []) gives)

  told_among : (f : ℕ → ℕ) (first : ℕ) (ps : Plans) → Gives f first (each_numbers_of ps) → TellsAmong f first ps
  told_among f first no_plans gives = tt
  told_among f first (plan one rest) gives = (
    told f first one (front f first (numbers_of one) (each_numbers_of rest) gives),
    told_among f (first + plan_size one) rest (back f first (first + plan_size one) (numbers_of one) (each_numbers_of rest) (ap (λ (n : ℕ). first + n) (count_numbers one)) gives),
  )

  told_valid : (f : ℕ → ℕ) (first : ℕ) (validity : PlanValidity) → Gives f first (validity_numbers_of validity) → TellsValid f first validity
  told_valid f first all_valid gives = tt
  told_valid f first (valid_as validity) gives = told f first validity gives

-- ---- where a take stands, there is one

abbrev Stands : ℕ → ℕ → Plan → Type 0
Stands n first p = StandsIn (IsTakeAs n) (numbered first p)

abbrev StandsOne : ℕ → ℕ → Plans → Type 0
StandsOne n first ps = StandsAmong (IsTakeAs n) (each_numbered first ps)

abbrev StandsValid : ℕ → ℕ → PlanValidity → Type 0
StandsValid n first validity = StandsInValidity (IsTakeAs n) (validity_numbered first validity)

mutual
  some_take : (f : ℕ → ℕ) (k n first : ℕ) (p : Plan) → TellsTakes f first p → f n ≡ k → Stands n first p → 1 ≤ takes_at k p
  some_take f k n first (no_plan head) tells is s = absurd s
  some_take f k n first (concat_plan head children) tells is (inl s) = absurd s
  some_take f k n first (concat_plan head children) tells is (inr s) = some_among f k n first children tells is s
  some_take f k n first (eval_plan head e child) tells is (inl s) = absurd s
  some_take f k n first (eval_plan head e child) tells is (inr s) = some_take f k n first child tells is s
  some_take f k n first (filter_plan head child) tells is (inl s) = absurd s
  some_take f k n first (filter_plan head child) tells is (inr s) = some_take f k n first child tells is s
  some_take f k n first (pack_plan head children validity) tells is (inl s) = absurd s
  some_take f k n first (pack_plan head children validity) tells is (inr (inl s)) = let one = some_among f k n first children tells.0 is s in omega (arith, one)
  some_take f k n first (pack_plan head children validity) tells is (inr (inr s)) = let one = some_valid f k n (first + plans_size children) validity tells.1 is s in omega (arith, one)
  some_take f k n first (take_plan head codes values) tells is (inl s) = one_here k head.number (takes_at k codes + takes_at k values) (sym tells.0 ∙ (ap f s ∙ is))
  some_take f k n first (take_plan head codes values) tells is (inr (inl s)) = let one = some_take f k n first codes tells.1 is s in omega (arith, one)
  some_take f k n first (take_plan head codes values) tells is (inr (inr s)) = let one = some_take f k n (first + plan_size codes) values tells.2 is s in omega (arith, one)
  some_take f k n first (share_plan head child) tells is (inl s) = one_here k head.number (takes_at k child) (sym tells.0 ∙ (ap f s ∙ is))
  some_take f k n first (share_plan head child) tells is (inr s) = let one = some_take f k n first child tells.1 is s in omega (arith, one)
  some_take f k n first (list_plan head elements offsets validity) tells is (inl s) = absurd s
  some_take f k n first (list_plan head elements offsets validity) tells is (inr (inl s)) = let one = some_take f k n first elements tells.0 is s in omega (arith, one)
  some_take f k n first (list_plan head elements offsets validity) tells is (inr (inr (inl s))) = let one = some_take f k n (first + plan_size elements) offsets tells.1 is s in omega (arith, one)
  some_take f k n first (list_plan head elements offsets validity) tells is (inr (inr (inr s))) = let one = some_valid f k n (first + plan_size elements + plan_size offsets) validity tells.2 is s in omega (arith, one)
  some_take f k n first (row_idx_plan head) tells is s = absurd s
  some_take f k n first (scan_plan head segment coding) tells is s = absurd s
  some_take f k n first (zoned_plan head zones content table) tells is (inl s) = absurd s
  some_take f k n first (zoned_plan head zones content table) tells is (inr (inl s)) = let one = some_take f k n first content tells.0 is s in omega (arith, one)
  some_take f k n first (zoned_plan head zones content table) tells is (inr (inr s)) = let one = some_take f k n (first + plan_size content) table tells.1 is s in omega (arith, one)
  some_take f k n first (pruning_plan head pruning table) tells is (inl s) = absurd s
  some_take f k n first (pruning_plan head pruning table) tells is (inr s) = some_take f k n first table tells is s

  some_among : (f : ℕ → ℕ) (k n first : ℕ) (ps : Plans) → TellsAmong f first ps → f n ≡ k → StandsOne n first ps → 1 ≤ takes_among k ps
  some_among f k n first no_plans tells is s = absurd s
  some_among f k n first (plan one rest) tells is (inl s) = let some = some_take f k n first one tells.0 is s in omega (arith, some)
  some_among f k n first (plan one rest) tells is (inr s) = let more = some_among f k n (first + plan_size one) rest tells.1 is s in omega (arith, more)

  some_valid : (f : ℕ → ℕ) (k n first : ℕ) (validity : PlanValidity) → TellsValid f first validity → f n ≡ k → StandsValid n first validity → 1 ≤ takes_valid k validity
  some_valid f k n first all_valid tells is s = absurd s
  some_valid f k n first (valid_as validity) tells is s = some_take f k n first validity tells is s

-- ---- where there is but one, two that stand there are the same

-- a take and another below it are two
own_below : (f : ℕ → ℕ) (k number m below : ℕ) → f m ≡ number → f m ≡ k → 1 ≤ below → one_at k number + below ≤ 1 → ⊥
own_below f k number m below tells is one most = let here = one_here k number 0 (sym tells ∙ is) in omega (arith, here, one, most)

-- and one in the codes or the values of a take is one below it
take_below : (f : ℕ → ℕ) (k n first : ℕ) (codes values : Plan) → TellsTakes f first codes → TellsTakes f (first + plan_size codes) values → f n ≡ k → Stands n first codes ⊎ Stands n (first + plan_size codes) values → 1 ≤ takes_at k codes + takes_at k values
take_below f k n first codes values one two is (inl s) = let a = some_take f k n first codes one is s in omega (arith, a)
take_below f k n first codes values one two is (inr s) = let a = some_take f k n (first + plan_size codes) values two is s in omega (arith, a)

mutual
  one_take : (f : ℕ → ℕ) (k m n first : ℕ) (p : Plan) → TellsTakes f first p → f m ≡ k → f n ≡ k → takes_at k p ≤ 1 → Stands m first p → Stands n first p → m ≡ n
  one_take f k m n first (no_plan head) tells is also most s t = absurd s
  one_take f k m n first (concat_plan head children) tells is also most (inl s) t = absurd s
  one_take f k m n first (concat_plan head children) tells is also most (inr s) (inl t) = absurd t
  one_take f k m n first (concat_plan head children) tells is also most (inr s) (inr t) = one_among f k m n first children tells is also most s t
  one_take f k m n first (eval_plan head e child) tells is also most (inl s) t = absurd s
  one_take f k m n first (eval_plan head e child) tells is also most (inr s) (inl t) = absurd t
  one_take f k m n first (eval_plan head e child) tells is also most (inr s) (inr t) = one_take f k m n first child tells is also most s t
  one_take f k m n first (filter_plan head child) tells is also most (inl s) t = absurd s
  one_take f k m n first (filter_plan head child) tells is also most (inr s) (inl t) = absurd t
  one_take f k m n first (filter_plan head child) tells is also most (inr s) (inr t) = one_take f k m n first child tells is also most s t
  one_take f k m n first (pack_plan head children validity) tells is also most (inl s) t = absurd s
  one_take f k m n first (pack_plan head children validity) tells is also most (inr s) (inl t) = absurd t
  one_take f k m n first (pack_plan head children validity) tells is also most (inr (inl s)) (inr (inl t)) = one_among f k m n first children tells.0 is also (omega (arith, most)) s t
  one_take f k m n first (pack_plan head children validity) tells is also most (inr (inl s)) (inr (inr t)) =
      absurd (let a = some_among f k m first children tells.0 is s in let b = some_valid f k n (first + plans_size children) validity tells.1 also t in omega (arith, a, b, most))
  one_take f k m n first (pack_plan head children validity) tells is also most (inr (inr s)) (inr (inl t)) =
      absurd (let a = some_among f k n first children tells.0 also t in let b = some_valid f k m (first + plans_size children) validity tells.1 is s in omega (arith, a, b, most))
  one_take f k m n first (pack_plan head children validity) tells is also most (inr (inr s)) (inr (inr t)) = one_valid f k m n (first + plans_size children) validity tells.1 is also (omega (arith, most)) s t
  one_take f k m n first (take_plan head codes values) tells is also most (inl s) (inl t) = sym s ∙ t
  one_take f k m n first (take_plan head codes values) tells is also most (inl s) (inr t) =
      absurd (own_below f k head.number m (takes_at k codes + takes_at k values) (ap f (sym s) ∙ tells.0) is (take_below f k n first codes values tells.1 tells.2 also t) most)
  one_take f k m n first (take_plan head codes values) tells is also most (inr s) (inl t) =
      absurd (own_below f k head.number n (takes_at k codes + takes_at k values) (ap f (sym t) ∙ tells.0) also (take_below f k m first codes values tells.1 tells.2 is s) most)
  one_take f k m n first (take_plan head codes values) tells is also most (inr (inl s)) (inr (inl t)) = one_take f k m n first codes tells.1 is also (omega (arith, most)) s t
  one_take f k m n first (take_plan head codes values) tells is also most (inr (inl s)) (inr (inr t)) =
      absurd (let a = some_take f k m first codes tells.1 is s in let b = some_take f k n (first + plan_size codes) values tells.2 also t in omega (arith, a, b, most))
  one_take f k m n first (take_plan head codes values) tells is also most (inr (inr s)) (inr (inl t)) =
      absurd (let a = some_take f k n first codes tells.1 also t in let b = some_take f k m (first + plan_size codes) values tells.2 is s in omega (arith, a, b, most))
  one_take f k m n first (take_plan head codes values) tells is also most (inr (inr s)) (inr (inr t)) = one_take f k m n (first + plan_size codes) values tells.2 is also (omega (arith, most)) s t
  one_take f k m n first (share_plan head child) tells is also most (inl s) (inl t) = sym s ∙ t
  one_take f k m n first (share_plan head child) tells is also most (inl s) (inr t) =
      absurd (own_below f k head.number m (takes_at k child) (ap f (sym s) ∙ tells.0) is (some_take f k n first child tells.1 also t) most)
  one_take f k m n first (share_plan head child) tells is also most (inr s) (inl t) =
      absurd (own_below f k head.number n (takes_at k child) (ap f (sym t) ∙ tells.0) also (some_take f k m first child tells.1 is s) most)
  one_take f k m n first (share_plan head child) tells is also most (inr s) (inr t) = one_take f k m n first child tells.1 is also (omega (arith, most)) s t
  one_take f k m n first (list_plan head elements offsets validity) tells is also most (inl s) t = absurd s
  one_take f k m n first (list_plan head elements offsets validity) tells is also most (inr s) (inl t) = absurd t
  one_take f k m n first (list_plan head elements offsets validity) tells is also most (inr (inl s)) (inr (inl t)) = one_take f k m n first elements tells.0 is also (omega (arith, most)) s t
  one_take f k m n first (list_plan head elements offsets validity) tells is also most (inr (inl s)) (inr (inr (inl t))) =
      absurd (let a = some_take f k m first elements tells.0 is s in let b = some_take f k n (first + plan_size elements) offsets tells.1 also t in omega (arith, a, b, most))
  one_take f k m n first (list_plan head elements offsets validity) tells is also most (inr (inl s)) (inr (inr (inr t))) =
      absurd (let a = some_take f k m first elements tells.0 is s in let b = some_valid f k n (first + plan_size elements + plan_size offsets) validity tells.2 also t in omega (arith, a, b, most))
  one_take f k m n first (list_plan head elements offsets validity) tells is also most (inr (inr (inl s))) (inr (inl t)) =
      absurd (let a = some_take f k n first elements tells.0 also t in let b = some_take f k m (first + plan_size elements) offsets tells.1 is s in omega (arith, a, b, most))
  one_take f k m n first (list_plan head elements offsets validity) tells is also most (inr (inr (inl s))) (inr (inr (inl t))) = one_take f k m n (first + plan_size elements) offsets tells.1 is also (omega (arith, most)) s t
  one_take f k m n first (list_plan head elements offsets validity) tells is also most (inr (inr (inl s))) (inr (inr (inr t))) =
      absurd (let a = some_take f k m (first + plan_size elements) offsets tells.1 is s in let b = some_valid f k n (first + plan_size elements + plan_size offsets) validity tells.2 also t in omega (arith, a, b, most))
  one_take f k m n first (list_plan head elements offsets validity) tells is also most (inr (inr (inr s))) (inr (inl t)) =
      absurd (let a = some_take f k n first elements tells.0 also t in let b = some_valid f k m (first + plan_size elements + plan_size offsets) validity tells.2 is s in omega (arith, a, b, most))
  one_take f k m n first (list_plan head elements offsets validity) tells is also most (inr (inr (inr s))) (inr (inr (inl t))) =
      absurd (let a = some_take f k n (first + plan_size elements) offsets tells.1 also t in let b = some_valid f k m (first + plan_size elements + plan_size offsets) validity tells.2 is s in omega (arith, a, b, most))
  one_take f k m n first (list_plan head elements offsets validity) tells is also most (inr (inr (inr s))) (inr (inr (inr t))) = one_valid f k m n (first + plan_size elements + plan_size offsets) validity tells.2 is also (omega (arith, most)) s t
  one_take f k m n first (row_idx_plan head) tells is also most s t = absurd s
  one_take f k m n first (scan_plan head segment coding) tells is also most s t = absurd s
  one_take f k m n first (zoned_plan head zones content table) tells is also most (inl s) t = absurd s
  one_take f k m n first (zoned_plan head zones content table) tells is also most (inr s) (inl t) = absurd t
  one_take f k m n first (zoned_plan head zones content table) tells is also most (inr (inl s)) (inr (inl t)) = one_take f k m n first content tells.0 is also (omega (arith, most)) s t
  one_take f k m n first (zoned_plan head zones content table) tells is also most (inr (inl s)) (inr (inr t)) =
      absurd (let a = some_take f k m first content tells.0 is s in let b = some_take f k n (first + plan_size content) table tells.1 also t in omega (arith, a, b, most))
  one_take f k m n first (zoned_plan head zones content table) tells is also most (inr (inr s)) (inr (inl t)) =
      absurd (let a = some_take f k n first content tells.0 also t in let b = some_take f k m (first + plan_size content) table tells.1 is s in omega (arith, a, b, most))
  one_take f k m n first (zoned_plan head zones content table) tells is also most (inr (inr s)) (inr (inr t)) = one_take f k m n (first + plan_size content) table tells.1 is also (omega (arith, most)) s t
  one_take f k m n first (pruning_plan head pruning table) tells is also most (inl s) t = absurd s
  one_take f k m n first (pruning_plan head pruning table) tells is also most (inr s) (inl t) = absurd t
  one_take f k m n first (pruning_plan head pruning table) tells is also most (inr s) (inr t) = one_take f k m n first table tells is also most s t

  one_among : (f : ℕ → ℕ) (k m n first : ℕ) (ps : Plans) → TellsAmong f first ps → f m ≡ k → f n ≡ k → takes_among k ps ≤ 1 → StandsOne m first ps → StandsOne n first ps → m ≡ n
  one_among f k m n first no_plans tells is also most s t = absurd s
  one_among f k m n first (plan one rest) tells is also most (inl s) (inl t) = one_take f k m n first one tells.0 is also (omega (arith, most)) s t
  one_among f k m n first (plan one rest) tells is also most (inl s) (inr t) =
      absurd (let a = some_take f k m first one tells.0 is s in let b = some_among f k n (first + plan_size one) rest tells.1 also t in omega (arith, a, b, most))
  one_among f k m n first (plan one rest) tells is also most (inr s) (inl t) =
      absurd (let a = some_take f k n first one tells.0 also t in let b = some_among f k m (first + plan_size one) rest tells.1 is s in omega (arith, a, b, most))
  one_among f k m n first (plan one rest) tells is also most (inr s) (inr t) = one_among f k m n (first + plan_size one) rest tells.1 is also (omega (arith, most)) s t

  one_valid : (f : ℕ → ℕ) (k m n first : ℕ) (validity : PlanValidity) → TellsValid f first validity → f m ≡ k → f n ≡ k → takes_valid k validity ≤ 1 → StandsValid m first validity → StandsValid n first validity → m ≡ n
  one_valid f k m n first all_valid tells is also most s t = absurd s
  one_valid f k m n first (valid_as validity) tells is also most s t = one_take f k m n first validity tells is also most s t

-- takes that had one number are one take, where at most one had it
pub takes_apart : (first : ℕ) (p : Plan) (m n : ℕ) → ((k : ℕ) → takes_at k p ≤ 1) → StandsIn (IsTakeAs m) (numbered first p) → StandsIn (IsTakeAs n) (numbered first p) → old_number first p m ≡ old_number first p n → m ≡ n
takes_apart first p m n most s t same =
    one_take (old_number first p) (old_number first p n) m n first p
    (told (old_number first p) first p (given_from (old_number first p) first (numbers_of p) (λ k lt. let e : first + k - first ≡ k = omega arith in ap (λ (n : ℕ). get_or (numbers_of p) n 0) e)))
    same refl (most (old_number first p n)) s t
