-- Columns that are handed in or on: which are kept, and that what is kept is typed and apart.
use Rattle.std.proofs.Common.{◌≡◌, ℕ, zero, suc, ◌==◌, inl, inr, Bool, true, false, List, [], ◌∷◌, Option, Some, None, length, map, refl, sym, ap, ◌∙◌, subst, arith}
use Rattle.std.specs.Prelude.{◌↔◌, IsTrue, if◌then◌else◌}
use Rattle.std.specs.List.{items_where_true, slice_get}
use Rattle.std.specs.List.Retain.{IsFiltered, ReturnsInTurn}
use Rattle.vx_base.specs.Columns.{ColumnData}
use Rattle.vx_plan.specs.Nodes.{Node}
use Rattle.vx_plan.specs.Rules.{node_at}
use Rattle.vx_steps.specs.Held.{AreTyped}
use Rattle.vx_steps.specs.KeptData.{Kept}
use Rattle.vx_steps.specs.declared.kept.KeptValue.{KeptValue}
use Rattle.vx_steps.specs.declared.places.PlaceTable.{PlaceTable}
use Rattle.vx_plan.specs.Refs.{number_of}
use Rattle.vx_steps.specs.Kept.{kept_at, kept_data, AreOfDistinctPlans, ArePlaces, IsPlace}
use Rattle.vx_steps.specs.Needs.{Among}
use Rattle.vx_steps.specs.Offers.{IsForPlan, Keeps}
use Rattle.vx_steps.specs.Places.{place_in}

no_truth : IsTrue false → ⊥
no_truth h = cc

kept_first : {X Y : Type 0} (f : X → Y) (P : Y → Type 0) (b : Bool) (x : X) (bs : List Bool) (xs : List X) → (IsTrue b ↔ P (f x)) → Keeps P (map f xs) (map f (items_where_true bs xs)) → Keeps P (map f (x ∷ xs)) (map f (items_where_true (b ∷ bs) (x ∷ xs)))
kept_first f P true x bs xs says rest = inl (says.0 refl, (map f (items_where_true bs xs), refl, rest))
kept_first f P false x bs xs says rest = inr (λ p. no_truth (says.1 p), rest)

kept_turn : {X Y S : Type 0} (R : S → X → Bool → S → Type 0) (f : X → Y) (P : Y → Type 0) (p : S) (says : (x : X) (b : Bool) (q : S) → R p x b q → (IsTrue b ↔ P (f x)) × (q ≡ p)) → (bs : List Bool) (xs : List X) (q : S) → length bs ≡ length xs → ReturnsInTurn R p bs xs q → Keeps P (map f xs) (map f (items_where_true bs xs))
kept_turn R f P p says [] [] q same turn = refl
kept_turn R f P p says [] (x ∷ xs) q same turn = absurd (omega arith)
kept_turn R f P p says (b ∷ bs) [] q same turn = absurd turn
kept_turn R f P p says (b ∷ bs) (x ∷ xs) q same turn =
    let s = says x b turn.0 turn.1 in
    kept_first f P b x bs xs s.0 (kept_turn R f P p says bs xs q (omega arith) (subst (λ j. ReturnsInTurn R j bs xs q) s.1 turn.2))

-- what `retain` keeps, by a test that says whether an element is so
pub keeps_retained : {X Y S : Type 0} (R : S → X → Bool → S → Type 0) (f : X → Y) (P : Y → Type 0) (p : S) (says : (x : X) (b : Bool) (q : S) → R p x b q → (IsTrue b ↔ P (f x)) × (q ≡ p)) → (xs ys : List X) → IsFiltered R p xs ys → Keeps P (map f xs) (map f ys)
keeps_retained R f P p says xs ys (bs, q, same, turn, are) = subst (λ zs. Keeps P (map f xs) (map f zs)) (sym are) (kept_turn R f P p says bs xs q same turn)

turn_among : {X Y S : Type 0} (R : S → X → Bool → S → Type 0) (f : X → Y) (P : Y → Type 0) (p : S) (bs : List Bool) (xs : List X) (q : S) → ((x : X) (b : Bool) (q : S) → Among x xs → R p x b q → (IsTrue b ↔ P (f x)) × (q ≡ p)) → length bs ≡ length xs → ReturnsInTurn R p bs xs q → Keeps P (map f xs) (map f (items_where_true bs xs))
turn_among R f P p [] [] q says same turn = refl
turn_among R f P p [] (x ∷ xs) q says same turn = absurd (omega arith)
turn_among R f P p (b ∷ bs) [] q says same turn = absurd turn
turn_among R f P p (b ∷ bs) (x ∷ xs) q says same turn =
    let s = says x b turn.0 (inl refl) turn.1 in
    kept_first f P b x bs xs s.0 (turn_among R f P p bs xs q (λ other b q among. says other b q (inr among)) (omega arith) (subst (λ j. ReturnsInTurn R j bs xs q) s.1 turn.2))

-- the same by a test that says so of the elements of the list alone
pub among_retained : {X Y S : Type 0} (R : S → X → Bool → S → Type 0) (f : X → Y) (P : Y → Type 0) (p : S) (xs ys : List X) → ((x : X) (b : Bool) (q : S) → Among x xs → R p x b q → (IsTrue b ↔ P (f x)) × (q ≡ p)) → IsFiltered R p xs ys → Keeps P (map f xs) (map f ys)
among_retained R f P p xs ys says (bs, q, same, turn, are) = subst (λ zs. Keeps P (map f xs) (map f zs)) (sym are) (turn_among R f P p bs xs q says same turn)

-- a plan of which a column is kept has a place
among_kept : (xs : List KeptValue) (x : KeptValue) → Among x xs → kept_at (map kept_data xs) (number_of x.node) ≡ None → ⊥
among_kept [] x among none = absurd among
among_kept (y ∷ ys) x (inl same) none =
    let F : KeptValue → Type 0 = λ z. kept_at (map kept_data (y ∷ ys)) (number_of z.node) ≡ None in
    let itself : (number_of y.node == number_of y.node) ≡ true = grind arith in
    let there : kept_at (map kept_data (y ∷ ys)) (number_of y.node) ≡ Some y.column = ap (λ (b : Bool). if b then Some y.column else kept_at (map kept_data ys) (number_of y.node)) itself in
    let gone : kept_at (map kept_data (y ∷ ys)) (number_of y.node) ≡ None = subst F (sym same) none in
    some_none y.column (sym there ∙ gone)
  where
    some_none : (column : ColumnData) → Some column ≡ None → ⊥
    some_none column e = absurd cc
among_kept (y ∷ ys) x (inr among) none = among_kept ys x among (later (number_of y.node == number_of x.node) none)
  where
    later : (b : Bool) → (if b then Some y.column else kept_at (map kept_data ys) (number_of x.node)) ≡ None → kept_at (map kept_data ys) (number_of x.node) ≡ None
    later true e = absurd cc
    later false e = e

pub has_place : (places : PlaceTable) (xs : List KeptValue) (x : KeptValue) → ArePlaces places (map kept_data xs) → Among x xs → (place : ℕ) × (place_in places (number_of x.node) ≡ Some place)
has_place places xs x are among = known (place_in places (number_of x.node)) (are (number_of x.node))
  where
    known : (o : Option ℕ) → IsPlace (map kept_data xs) (number_of x.node) o → (place : ℕ) × (o ≡ Some place)
    known None none = absurd (among_kept xs x among none)
    known (Some place) is = (place, refl)

-- ---- what is kept is typed

abbrev HasType : List Node → ℕ → ColumnData → Type 0
HasType nodes n column = (column.dtype ≡ (node_at nodes n).dtype) × (length column.values ≡ (node_at nodes n).rows)

typed_first : (nodes : List Node) (x : Kept) (rest : List Kept) (n : ℕ) (column : ColumnData) (b : Bool) → (x.node == n) ≡ b → IsForPlan nodes x → AreTyped nodes rest → (if b then Some x.column else kept_at rest n) ≡ Some column → HasType nodes n column
typed_first nodes x rest n column true e is typed at =
    let same : x.node ≡ n = grind arith in
    let one : x.column ≡ column = cc in
    subst (λ (k : ℕ). HasType nodes k column) same (subst (λ (c : ColumnData). HasType nodes x.node c) one (is.dtype, is.count))
typed_first nodes x rest n column false e is typed at = typed n column at

pub typed_kept : (nodes : List Node) (P : Kept → Type 0) → ((k : Kept) → P k → IsForPlan nodes k) → (offered kept : List Kept) → Keeps P offered kept → AreTyped nodes kept
typed_kept nodes P is [] kept none = subst (AreTyped nodes) (sym none) (λ n column at. absurd cc)
typed_kept nodes P is (x ∷ xs) kept (inl (p, (rest, are, keeps))) =
    subst (AreTyped nodes) (sym are) (λ n column at. typed_first nodes x rest n column (x.node == n) refl (is x p) (typed_kept nodes P is xs rest keeps) at)
typed_kept nodes P is (x ∷ xs) kept (inr (not, keeps)) = typed_kept nodes P is xs kept keeps

-- ---- what is kept of columns that are for different plans

place_first : (x : Kept) (xs rest : List Kept) (place : ℕ) (k : Kept) → ((place : ℕ) → slice_get rest place ≡ Some k → (from : ℕ) × (slice_get xs from ≡ Some k)) → slice_get (x ∷ rest) place ≡ Some k → (from : ℕ) × (slice_get (x ∷ xs) from ≡ Some k)
place_first x xs rest zero k more here = (0, here)
place_first x xs rest (suc place) k more later =
    let found = more place later in
    (suc found.0, found.1)

kept_place : (P : Kept → Type 0) (offered kept : List Kept) (place : ℕ) (k : Kept) → Keeps P offered kept → slice_get kept place ≡ Some k → (from : ℕ) × (slice_get offered from ≡ Some k)
kept_place P [] kept place k none at =
    let nowhere : slice_get [] place ≡ Some k = subst (λ (ks : List Kept). slice_get ks place ≡ Some k) none at in
    absurd cc
kept_place P (x ∷ xs) kept place k (inl (p, (rest, are, keeps))) at = place_first x xs rest place k (λ place at. kept_place P xs rest place k keeps at) (subst (λ (ks : List Kept). slice_get ks place ≡ Some k) are at)
kept_place P (x ∷ xs) kept place k (inr (not, keeps)) at =
    let more = kept_place P xs kept place k keeps at in
    (suc more.0, more.1)

zero_apart : (n : ℕ) → 0 ≡ suc n → ⊥
zero_apart n e = absurd (omega arith)

apart_tail : (x : Kept) (xs : List Kept) → AreOfDistinctPlans (x ∷ xs) → AreOfDistinctPlans xs
apart_tail x xs apart p q k l at_p at_q same = let e : suc p ≡ suc q = apart (suc p) (suc q) k l at_p at_q same in omega arith

apart_first : (x : Kept) (xs rest : List Kept) → AreOfDistinctPlans (x ∷ xs) → AreOfDistinctPlans rest → ((place : ℕ) (k : Kept) → slice_get rest place ≡ Some k → (from : ℕ) × (slice_get xs from ≡ Some k)) → AreOfDistinctPlans (x ∷ rest)
apart_first x xs rest apart before more zero zero k l at_p at_q same = refl
apart_first x xs rest apart before more zero (suc q) k l at_p at_q same =
    let found = more q l at_q in
    absurd (zero_apart found.0 (apart 0 (suc found.0) k l at_p found.1 same))
apart_first x xs rest apart before more (suc p) zero k l at_p at_q same =
    let found = more p k at_p in
    absurd (zero_apart found.0 (apart 0 (suc found.0) l k at_q found.1 (sym same)))
apart_first x xs rest apart before more (suc p) (suc q) k l at_p at_q same = ap suc (before p q k l at_p at_q same)

pub apart_kept : (P : Kept → Type 0) (offered kept : List Kept) → Keeps P offered kept → AreOfDistinctPlans offered → AreOfDistinctPlans kept
apart_kept P [] kept none apart = subst AreOfDistinctPlans (sym none) apart
apart_kept P (x ∷ xs) kept (inl (p, (rest, are, keeps))) apart =
    subst AreOfDistinctPlans (sym are) (apart_first x xs rest apart (apart_kept P xs rest keeps (apart_tail x xs apart)) (λ place k at. kept_place P xs rest place k keeps at))
apart_kept P (x ∷ xs) kept (inr (not, keeps)) apart = apart_kept P xs kept keeps (apart_tail x xs apart)

-- ---- what is kept for numbers that are so

first_kept : (b : Bool) (x : Kept) (old new : Option ColumnData) → old ≡ new → (if b then Some x.column else old) ≡ (if b then Some x.column else new)
first_kept b x old new e = ap (λ (o : Option ColumnData). if b then Some x.column else o) e

-- for such a number the same column is kept
pub keeps_those : (P : ℕ → Type 0) (offered kept : List Kept) (n : ℕ) → Keeps (λ k. P k.node) offered kept → P n → kept_at kept n ≡ kept_at offered n
keeps_those P [] kept n none is = ap (λ (ks : List Kept). kept_at ks n) none
keeps_those P (x ∷ xs) kept n (inl (p, (rest, are, keeps))) is = ap (λ (ks : List Kept). kept_at ks n) are ∙ first_kept (x.node == n) x (kept_at rest n) (kept_at xs n) (keeps_those P xs rest n keeps is)
keeps_those P (x ∷ xs) kept n (inr (not, keeps)) is = keeps_those P xs kept n keeps is ∙ passed (x.node == n) refl
  where
    passed : (b : Bool) → (x.node == n) ≡ b → kept_at xs n ≡ (if b then Some x.column else kept_at xs n)
    passed true e =
        let same : x.node ≡ n = grind arith in
        absurd (not (subst P (sym same) is))
    passed false e = refl

only_first : (P : ℕ → Type 0) (x : Kept) (rest : List Kept) (n : ℕ) (column : ColumnData) (b : Bool) → (x.node == n) ≡ b → P x.node → (kept_at rest n ≡ Some column → P n) → (if b then Some x.column else kept_at rest n) ≡ Some column → P n
only_first P x rest n column true e p more here =
    let same : x.node ≡ n = grind arith in
    subst P same p
only_first P x rest n column false e p more later = more later

-- and for no other number one is kept
pub keeps_only : (P : ℕ → Type 0) (offered kept : List Kept) (n : ℕ) (column : ColumnData) → Keeps (λ k. P k.node) offered kept → kept_at kept n ≡ Some column → P n
keeps_only P [] kept n column none at =
    let nothing : kept_at [] n ≡ Some column = subst (λ (ks : List Kept). kept_at ks n ≡ Some column) none at in
    absurd cc
keeps_only P (x ∷ xs) kept n column (inl (p, (rest, are, keeps))) at = only_first P x rest n column (x.node == n) refl p (λ at. keeps_only P xs rest n column keeps at) (subst (λ (ks : List Kept). kept_at ks n ≡ Some column) are at)
keeps_only P (x ∷ xs) kept n column (inr (not, keeps)) at = keeps_only P xs kept n column keeps at

-- so it is typed where the others were
pub typed_those : (nodes : List Node) (P : ℕ → Type 0) (offered kept : List Kept) → Keeps (λ k. P k.node) offered kept → AreTyped nodes offered → AreTyped nodes kept
typed_those nodes P offered kept keeps typed n column at = typed n column (sym (keeps_those P offered kept n keeps (keeps_only P offered kept n column keeps at)) ∙ at)
