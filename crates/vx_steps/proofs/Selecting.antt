-- Which leaves the selected rows read, kind by kind.
use Rattle.std.proofs.Common.{◌≡◌, ℕ, zero, suc, ◌+◌, ◌-◌, ◌<◌, ◌⊎◌, inl, inr, ⊎_elim, Bool, true, false, List, [], ◌∷◌, ◌++◌, Option, Some, None, take, drop, replicate, refl, sym, ap, ◌∙◌, subst, arith}
use Rattle.std.specs.Prelude.{slice_range}
use Rattle.std.specs.List.{slice_get}
use Rattle.vx_picking.specs.Rows.{SelectsSome}
use Rattle.vx_plan.specs.Kinds.{coding_of}
use Rattle.vx_base.specs.Columns.{ColumnData}
use Rattle.vx_plan.specs.Nodes.{Node}
use Rattle.vx_plan.specs.Plans.{Plan, plan_at, plans_from, field_plans, last_validity, front_plans, last_plan, scan_plan}
use Rattle.vx_plan.specs.Rules.{node_at}
use Rattle.vx_steps.specs.declared.leaf_reads.LeafRead.{LeafRead}
use Rattle.vx_steps.specs.Given.{Handed, values_for, given_for, handed_by}
use Rattle.vx_steps.specs.KeptData.{Kept}
use Rattle.vx_steps.specs.Kept.{kept_at, whole_of, values_of}
use Rattle.vx_steps.specs.Needs.{Among, Adds, NoneGiven, IsUnderWhole}
use Rattle.vx_steps.specs.Visits.{Visits, VisitsField, VisitsValidity, SomeVisit, IsLeafRead}
use Rattle.vx_steps.proofs.Shaping.{head_of, IsLeafPlan}

-- ---- lists

pub among_front : {X : Type 0} (x : X) (xs ys : List X) → Among x xs → Among x (xs ++ ys)
among_front x [] ys h = absurd h
among_front x (z ∷ xs) ys (inl e) = inl e
among_front x (z ∷ xs) ys (inr h) = inr (among_front x xs ys h)

pub among_back : {X : Type 0} (x : X) (xs ys : List X) → Among x ys → Among x (xs ++ ys)
among_back x [] ys h = h
among_back x (z ∷ xs) ys h = inr (among_back x xs ys h)

pub among_split : {X : Type 0} (x : X) (xs ys : List X) → Among x (xs ++ ys) → Among x xs ⊎ Among x ys
among_split x [] ys h = inr h
among_split x (z ∷ xs) ys (inl e) = inl (inl e)
among_split x (z ∷ xs) ys (inr h) = ⊎_elim (λ (a : Among x xs). inl (inr a)) (λ (b : Among x ys). inr b) (among_split x xs ys h)

pub adds_none : {X : Type 0} (P : X → Type 0) (old : List X) → ((x : X) → P x → ⊥) → Adds P old old
adds_none P old none = record { only = λ x h. inl h; kept = λ x h. h; all = λ x p. absurd (none x p) }

pub adds_then : {X : Type 0} (P Q : X → Type 0) (old mid new : List X) → Adds P old mid → Adds Q mid new → Adds (λ x. P x ⊎ Q x) old new
adds_then P Q old mid new p q = record {
  only = λ x h. ⊎_elim (λ (m : Among x mid). ⊎_elim (λ (o : Among x old). inl o) (λ (a : P x). inr (inl a)) (p.only x m)) (λ (b : Q x). inr (inr b)) (q.only x h);
  kept = λ x h. q.kept x (p.kept x h);
  all = λ x either. ⊎_elim (λ (a : P x). q.kept x (p.all x a)) (λ (b : Q x). q.all x b) either;
}

pub adds_as : {X : Type 0} (P Q : X → Type 0) (old new : List X) → ((x : X) → P x → Q x) → ((x : X) → Q x → P x) → Adds P old new → Adds Q old new
adds_as P Q old new to from p = record {
  only = λ x h. ⊎_elim (λ (o : Among x old). inl o) (λ (a : P x). inr (to x a)) (p.only x h);
  kept = p.kept;
  all = λ x b. p.all x (from x b);
}

pub adds_one : {X : Type 0} (x : X) (old : List X) → Adds (λ other. x ≡ other) old (old ++ x ∷ [])
adds_one {X} x old = record {
  only = λ other h. ⊎_elim (λ (o : Among other old). inl o) (λ (b : Among other (x ∷ [])). inr (⊎_elim (λ (e : x ≡ other). e) (λ (n : ⊥). absurd n) b)) (among_split other old (x ∷ []) h);
  kept = λ other h. among_front other old (x ∷ []) h;
  all = λ other e. among_back other old (x ∷ []) (inl e);
}

-- ---- what the rows of a plan read

-- a selected row of the plan reads the leaf
abbrev pub Reads : List Node → Handed → ℕ → ℕ → List Bool → LeafRead → Type 0
Reads nodes handed n start bits read = SomeVisit (IsLeafRead read) handed (plan_at nodes n) start bits

abbrev RowReads : Handed → ℕ → List Bool → LeafRead → Plan → Type 0
RowReads handed start bits read p = SomeVisit (IsLeafRead read) handed p start bits

-- ---- a segment

leaf_is : (read : LeafRead) (n segment : ℕ) → (n ≡ read.leaf) × (segment ≡ read.segment) → record { leaf = n; segment = segment } ≡ read
leaf_is read n segment is =
    let one : LeafRead = record { leaf = n; segment = segment } in
    let two : LeafRead = record { leaf = read.leaf; segment = segment } in
    let first : one ≡ two = ap (λ (k : ℕ). record { leaf = k; segment = segment }) is.0 in
    let second : two ≡ read = ap (λ (k : ℕ). record { leaf = read.leaf; segment = k }) is.1 in
    first ∙ second

pub leaf_reads : (nodes : List Node) (handed : Handed) (n segment start : ℕ) (bits : List Bool) → IsLeafPlan nodes n segment → SelectsSome bits → (old : List LeafRead) → Adds (Reads nodes handed n start bits) old (old ++ record { leaf = n; segment = segment } ∷ [])
leaf_reads nodes handed n segment start bits over some old =
    adds_as (λ read. record { leaf = n; segment = segment } ≡ read) (Reads nodes handed n start bits) old (old ++ record { leaf = n; segment = segment } ∷ [])
    (λ read e.
    let leaf : n ≡ read.leaf = ap (λ (r : LeafRead). r.leaf) e in
    let segment_is : segment ≡ read.segment = ap (λ (r : LeafRead). r.segment) e in
    subst (RowReads handed start bits read) (sym over.law) (some.0, some.1, (leaf, segment_is)))
    (λ read r.
    let r2 : RowReads handed start bits read (scan_plan (head_of nodes n) segment (coding_of (node_at nodes n).kind)) = subst (RowReads handed start bits read) over.law r in
    leaf_is read n segment r2.2)
    (adds_one (record { leaf = n; segment = segment }) old)

-- ---- the rows of one child

pub only_right : {A : Type 0} → ⊥ ⊎ A → A
only_right (inl none) = absurd none
only_right (inr a) = a

-- ---- nothing is read

-- ---- whole values

none_of : (o : Option ColumnData) → values_of o ≡ None → o ≡ None
none_of None e = refl
none_of (Some column) e = absurd cc

-- no values were handed in for a take or a share, which are those of this number
pub given_none : (nodes : List Node) (given : Option (List Kept)) (n whole : ℕ) → ((kept : List Kept) → given_for nodes kept n ≡ whole_of kept whole) → NoneGiven given whole → values_for (handed_by nodes given) n ≡ None
given_none nodes None n whole is none = refl
given_none nodes (Some kept) n whole is none = is kept ∙ ap values_of none

pub none_given : (nodes : List Node) (given : Option (List Kept)) (n whole : ℕ) → ((kept : List Kept) → given_for nodes kept n ≡ whole_of kept whole) → values_for (handed_by nodes given) n ≡ None → NoneGiven given whole
none_given nodes None n whole is none = tt
none_given nodes (Some kept) n whole is none = none_of (kept_at kept whole) (sym (is kept) ∙ none)

pub past_true : (rows place : ℕ) → slice_get (replicate rows true) place ≡ Some true → place < rows
past_true zero place at = absurd cc
past_true (suc rows) zero at = omega arith
past_true (suc rows) (suc place) at = omega (arith, past_true rows place at)

pub all_true : (rows place : ℕ) → place < rows → slice_get (replicate rows true) place ≡ Some true
all_true zero place h = absurd (omega arith)
all_true (suc rows) zero h = refl
all_true (suc rows) (suc place) h = all_true rows place (omega arith)

-- all rows are read, and nothing was handed in for the number
pub whole_reads : (nodes : List Node) (given : Option (List Kept)) (whole n : ℕ) → NoneGiven given whole → (old new : List LeafRead) → Adds (Reads nodes None n 0 (replicate (node_at nodes n).rows true)) old new → Adds (λ read. IsUnderWhole nodes given whole (IsLeafRead read) n) old new
whole_reads nodes given whole n none old new added =
    let rows : ℕ = (node_at nodes n).rows in
    adds_as (Reads nodes None n 0 (replicate rows true)) (λ read. IsUnderWhole nodes given whole (IsLeafRead read) n) old new
    (λ read r.
    let less : r.0 < rows = past_true rows r.0 r.1 in
    (none, (0 + r.0, let e : 0 + r.0 ≡ r.0 = omega arith in rw e less, r.2)))
    (λ read w. (
      w.1.0,
      all_true rows w.1.0 w.1.1,
      let F : ℕ → Type 0 = Visits (IsLeafRead read) None (plan_at nodes n) in
          let e : w.1.0 ≡ 0 + w.1.0 = omega arith in
          subst F e w.1.2,
    ))
    added

-- ---- fields

pub taken_one : (ns : List ℕ) (place n : ℕ) → slice_get ns place ≡ Some n → take (place + 1) ns ≡ take place ns ++ n ∷ []
taken_one [] place n at = absurd cc
taken_one (m ∷ ns) zero n at = let e : m ≡ n = cc in ap (λ (k : ℕ). k ∷ []) e
taken_one (m ∷ ns) (suc place) n at =
    let e : suc place + 1 ≡ suc (place + 1) = omega arith in
    ap (λ (k : ℕ). take k (m ∷ ns)) e ∙ ap (λ (rest : List ℕ). m ∷ rest) (taken_one ns place n at)

-- a row of one of these visits the leaf
abbrev pub Any : LeafRead → Handed → List Plan → ℕ → Type 0
Any read handed [] row = ⊥
Any read handed (p ∷ ps) row = Visits (IsLeafRead read) handed p row ⊎ Any read handed ps row

any_field : (read : LeafRead) (handed : Handed) (ps : List Plan) (row : ℕ) → Any read handed ps row → VisitsField (IsLeafRead read) handed (plans_from ps) row
any_field read handed [] row none = none
any_field read handed (p ∷ ps) row (inl v) = inl v
any_field read handed (p ∷ ps) row (inr v) = inr (any_field read handed ps row v)

any_last : (read : LeafRead) (handed : Handed) (p : Plan) (ps : List Plan) (row : ℕ) → Any read handed (p ∷ ps) row → Any read handed (front_plans (p ∷ ps)) row ⊎ Visits (IsLeafRead read) handed (last_plan (p ∷ ps)) row
any_last read handed p [] row (inl v) = inr v
any_last read handed p [] row (inr none) = absurd none
any_last read handed p (q ∷ ps) row (inl v) = inl (inl v)
any_last read handed p (q ∷ ps) row (inr a) =
    ⊎_elim (λ (f : Any read handed (front_plans (q ∷ ps)) row). inl (inr f)) (λ (v : Visits (IsLeafRead read) handed (last_plan (q ∷ ps)) row). inr v) (any_last read handed q ps row a)

pub any_packed : (read : LeafRead) (handed : Handed) (has_validity : Bool) (ps : List Plan) (row : ℕ) → Any read handed ps row → VisitsField (IsLeafRead read) handed (plans_from (field_plans has_validity ps)) row ⊎ VisitsValidity (IsLeafRead read) handed (last_validity has_validity ps) row
any_packed read handed false ps row a = inl (any_field read handed ps row a)
any_packed read handed true [] row none = absurd none
any_packed read handed true (p ∷ ps) row a =
    ⊎_elim (λ (f : Any read handed (front_plans (p ∷ ps)) row). inl (any_field read handed (front_plans (p ∷ ps)) row f)) (λ (v : Visits (IsLeafRead read) handed (last_plan (p ∷ ps)) row). inr v) (any_last read handed p ps row a)

-- ---- one child of a concat after another

pub got_taken : {X : Type 0} (xs : List X) (n place : ℕ) (x : X) → slice_get (take n xs) place ≡ Some x → (place < n) × (slice_get xs place ≡ Some x)
got_taken [] zero place x h = absurd cc
got_taken [] (suc n) place x h = absurd cc
got_taken (y ∷ xs) zero place x h = absurd cc
got_taken (y ∷ xs) (suc n) zero x h = (omega arith, h)
got_taken (y ∷ xs) (suc n) (suc place) x h =
    let more = got_taken xs n place x h in
    (omega (arith, more.0), more.1)

pub taken_got : {X : Type 0} (xs : List X) (n place : ℕ) (x : X) → place < n → slice_get xs place ≡ Some x → slice_get (take n xs) place ≡ Some x
taken_got [] zero place x h e = absurd cc
taken_got [] (suc n) place x h e = absurd cc
taken_got (y ∷ xs) zero place x h e = absurd (omega arith)
taken_got (y ∷ xs) (suc n) zero x h e = e
taken_got (y ∷ xs) (suc n) (suc place) x h e = taken_got xs n place x (omega arith) e

pub got_dropped : {X : Type 0} (xs : List X) (n place : ℕ) → slice_get (drop n xs) place ≡ slice_get xs (n + place)
got_dropped [] zero place = refl
got_dropped [] (suc n) place = refl
got_dropped (y ∷ xs) zero place = ap (slice_get (y ∷ xs)) (omega arith)
got_dropped (y ∷ xs) (suc n) place =
    let e : suc n + place ≡ suc (n + place) = omega arith in
    got_dropped xs n place ∙ ap (slice_get (y ∷ xs)) (sym e)

pub got_range : {X : Type 0} (xs : List X) (from count place : ℕ) (x : X) → slice_get (slice_range xs from (from + count)) place ≡ Some x → (place < count) × (slice_get xs (from + place) ≡ Some x)
got_range xs from count place x h =
    let same : from + count - from ≡ count = omega arith in
    let h2 : slice_get (take count (drop from xs)) place ≡ Some x = rw same at h in
    let t = got_taken (drop from xs) count place x h2 in
    (t.0, sym (got_dropped xs from place) ∙ t.1)

pub range_got : {X : Type 0} (xs : List X) (from count place : ℕ) (x : X) → place < count → slice_get xs (from + place) ≡ Some x → slice_get (slice_range xs from (from + count)) place ≡ Some x
range_got xs from count place x h e =
    let same : from + count - from ≡ count = omega arith in
    rw same (taken_got (drop from xs) count place x h (got_dropped xs from place ∙ e))
