-- Stored columns of leaves, of which those of marked plans are gone.
use Rattle.std.proofs.Common.{◌≡◌, Bor, ℕ, inl, inr, zero, suc, ◌<◌, ◌==◌, Bool, true, false, List, [], ◌∷◌, ◌++◌, map, take, get_or, Option, Some, None, Result, Ok, Err, Global, Vec, length, refl, sym, ap, ◌∙◌, subst, arith}
use Rattle.std.specs.Prelude.{if◌then◌else◌, MatchResult}
use Rattle.std.specs.Bool.{MatchBool}
use Rattle.std.specs.Option.{is_some, option_copied}
use Rattle.vx_base.specs.Columns.{ColumnData}
use Rattle.vx_plan.specs.Refs.{number_of}
use Rattle.vx_steps.specs.declared.kept.KeptValue.{KeptValue}
use Rattle.vx_steps.specs.declared.leaf_columns.SeenColumn.{SeenColumn}
use Rattle.vx_steps.specs.declared.places.PlaceTable.{PlaceTable}
use Rattle.vx_steps.specs.declared.plan_marks.PlanMarks.{PlanMarks}
use Rattle.vx_steps.specs.KeptData.{Kept}
use Rattle.vx_steps.specs.Kept.{kept_at, kept_data, ArePlaces, IsKept, ReplacesOnly}
use Rattle.vx_steps.specs.LeafColumns.{seen_data, unmarked, AreStored, Forgets, StandFor, StoresLeaves}
use Rattle.vx_steps.specs.LeavesData.{LeavesData}
use Rattle.vx_steps.specs.NumberTable.{IsReached, KeepsReach}
use Rattle.vx_steps.specs.PlanMarks.{is_marked, HasRoom, KeepsMarks, Marks}
use Rattle.vx_steps.proofs.Indexing.{got_data, take_one}
use Rattle.vx_steps.proofs.Keeping.{kept_new, kept_old}

true_false : (b : Bool) → b ≡ true → b ≡ false → ⊥
true_false b marks_so not_so = cc

some_none : (o : Option ColumnData) (column : ColumnData) → o ≡ Some column → o ≡ None → ⊥
some_none o column some none = cc

-- a column, where there is one
found : (o : Option ColumnData) → (o ≡ None → ⊥) → (column : ColumnData) × (o ≡ Some column)
found None some = absurd (some refl)
found (Some column) some = (column, refl)

-- ---- columns of plans that are not marked

unmarked_one : (gone : PlanMarks) (k : Kept) (rest kept : List Kept) (n : ℕ) (m b : Bool) → is_marked gone k.node ≡ m → (k.node == n) ≡ b → is_marked gone n ≡ false → kept_at rest n ≡ kept_at kept n →
    kept_at (if m then rest else k ∷ rest) n ≡ (if b then Some k.column else kept_at kept n)
unmarked_one gone k rest kept n true true marked here not_so again =
    let same : k.node ≡ n = grind arith in
    absurd (true_false (is_marked gone n) (sym (ap (is_marked gone) same) ∙ marked) not_so)
unmarked_one gone k rest kept n true false marked here not_so again = again
unmarked_one gone k rest kept n false b marked here not_so again =
    ap (λ (c : Bool). if c then Some k.column else kept_at rest n) here ∙ ap (λ (o : Option ColumnData). if b then Some k.column else o) again

pub unmarked_at : (gone : PlanMarks) (kept : List Kept) (n : ℕ) → is_marked gone n ≡ false → kept_at (unmarked gone kept) n ≡ kept_at kept n
unmarked_at gone [] n not_so = refl
unmarked_at gone (k ∷ kept) n not_so = unmarked_one gone k (unmarked gone kept) kept n (is_marked gone k.node) (k.node == n) refl refl not_so (unmarked_at gone kept n not_so)

marked_one : (gone : PlanMarks) (k : Kept) (rest : List Kept) (n : ℕ) (m b : Bool) → is_marked gone k.node ≡ m → (k.node == n) ≡ b → is_marked gone n ≡ true → kept_at rest n ≡ None →
    kept_at (if m then rest else k ∷ rest) n ≡ None
marked_one gone k rest n true b marked here marks_so again = again
marked_one gone k rest n false true marked here marks_so again =
    let same : k.node ≡ n = grind arith in
    absurd (true_false (is_marked gone n) marks_so (sym (ap (is_marked gone) same) ∙ marked))
marked_one gone k rest n false false marked here marks_so again = ap (λ (c : Bool). if c then Some k.column else kept_at rest n) here ∙ again

pub marked_at : (gone : PlanMarks) (kept : List Kept) (n : ℕ) → is_marked gone n ≡ true → kept_at (unmarked gone kept) n ≡ None
marked_at gone [] n marks_so = refl
marked_at gone (k ∷ kept) n marks_so = marked_one gone k (unmarked gone kept) n (is_marked gone k.node) (k.node == n) refl refl marks_so (marked_at gone kept n marks_so)

last_one : (m : Bool) (k l : Kept) (rest : List Kept) → (if m then rest ++ l ∷ [] else k ∷ (rest ++ l ∷ [])) ≡ (if m then rest else k ∷ rest) ++ l ∷ []
last_one true k l rest = refl
last_one false k l rest = refl

pub unmarked_last : (gone : PlanMarks) (kept : List Kept) (l : Kept) → is_marked gone l.node ≡ false → unmarked gone (kept ++ l ∷ []) ≡ unmarked gone kept ++ l ∷ []
unmarked_last gone [] l not_so = ap (λ (m : Bool). if m then [] else l ∷ []) not_so
unmarked_last gone (k ∷ kept) l not_so =
    ap (λ (ks : List Kept). if is_marked gone k.node then ks else k ∷ ks) (unmarked_last gone kept l not_so) ∙ last_one (is_marked gone k.node) k l (unmarked gone kept)

pub unmarked_same : (old new : PlanMarks) (kept : List Kept) → KeepsMarks old new → unmarked new kept ≡ unmarked old kept
unmarked_same old new [] keeps = refl
unmarked_same old new (k ∷ kept) keeps =
    ap (λ (m : Bool). if m then unmarked new kept else k ∷ unmarked new kept) (keeps.same k.node) ∙ ap (λ (ks : List Kept). if is_marked old k.node then ks else k ∷ ks) (unmarked_same old new kept keeps)

pub none_marked : (gone : PlanMarks) (kept : List Kept) → ((n : ℕ) → is_marked gone n ≡ false) → unmarked gone kept ≡ kept
none_marked gone [] none = refl
none_marked gone (k ∷ kept) none = ap (λ (m : Bool). if m then unmarked gone kept else k ∷ unmarked gone kept) (none k.node) ∙ ap (λ (ks : List Kept). k ∷ ks) (none_marked gone kept none)

-- ---- what is stored

none_by : (b : Bool) (x y : ColumnData) (old new : Option ColumnData) → (old ≡ None → new ≡ None) → (if b then Some x else old) ≡ None → (if b then Some y else new) ≡ None
none_by true x y old new f h = absurd cc
none_by false x y old new f h = f h

still_none : (b : Bool) (x : ColumnData) (old : Option ColumnData) → (if b then Some x else old) ≡ None → old ≡ None
still_none true x old h = absurd cc
still_none false x old h = h

-- of a plan of which no column was kept none is stored
pub none_of : (gone : PlanMarks) (all stored : List Kept) (n : ℕ) → AreStored gone all stored → kept_at all n ≡ None → kept_at stored n ≡ None
none_of gone [] [] n are none = refl
none_of gone [] (s ∷ stored) n are none = absurd are
none_of gone (k ∷ all) [] n are none = refl
none_of gone (k ∷ all) (s ∷ stored) n (inl are) none =
    ap (λ (m : ℕ). if m == n then Some s.column else kept_at stored n) are.0 ∙ none_by (k.node == n) k.column s.column (kept_at all n) (kept_at stored n) (λ e. none_of gone all stored n are.1.1 e) none
none_of gone (k ∷ all) (s ∷ stored) n (inr are) none = none_of gone all (s ∷ stored) n are.1 (still_none (k.node == n) k.column (kept_at all n) none)

stored_one : (gone : PlanMarks) (k s : Kept) (n : ℕ) (b : Bool) (old new : Option ColumnData) → (k.node == n) ≡ b → is_marked gone n ≡ false → s.node ≡ k.node → (is_marked gone k.node ≡ false → s ≡ k) → new ≡ old →
    (if s.node == n then Some s.column else new) ≡ (if b then Some k.column else old)
stored_one gone k s n true old new here not_so same is again =
    let at : k.node ≡ n = grind arith in
    let one : s ≡ k = is (ap (is_marked gone) at ∙ not_so) in
    ap (λ (v : Kept). if v.node == n then Some v.column else new) one ∙ ap (λ (c : Bool). if c then Some k.column else new) here
stored_one gone k s n false old new here not_so same is again =
    ap (λ (m : ℕ). if m == n then Some s.column else new) same ∙ (ap (λ (c : Bool). if c then Some s.column else new) here ∙ again)

-- a column of a marked plan is none of a plan that isn't
passed_one : (gone : PlanMarks) (k : Kept) (n : ℕ) (b : Bool) (old new : Option ColumnData) → (k.node == n) ≡ b → is_marked gone n ≡ false → is_marked gone k.node ≡ true → new ≡ old → new ≡ (if b then Some k.column else old)
passed_one gone k n true old new here not_so marked again =
    let at : k.node ≡ n = grind arith in
    absurd (true_false (is_marked gone n) (sym (ap (is_marked gone) at) ∙ marked) not_so)
passed_one gone k n false old new here not_so marked again = again

-- where a plan is not marked, its first stored column is its first one
pub stored_at : (gone : PlanMarks) (all stored : List Kept) (n : ℕ) → AreStored gone all stored → is_marked gone n ≡ false → kept_at stored n ≡ kept_at all n
stored_at gone [] [] n are not_so = refl
stored_at gone [] (s ∷ stored) n are not_so = absurd are
stored_at gone (k ∷ all) [] n are not_so = passed_one gone k n (k.node == n) (kept_at all n) None refl not_so are.0 (stored_at gone all [] n are.1 not_so)
stored_at gone (k ∷ all) (s ∷ stored) n (inl are) not_so = stored_one gone k s n (k.node == n) (kept_at all n) (kept_at stored n) refl not_so are.0 are.1.0 (stored_at gone all stored n are.1.1 not_so)
stored_at gone (k ∷ all) (s ∷ stored) n (inr are) not_so = passed_one gone k n (k.node == n) (kept_at all n) (kept_at (s ∷ stored) n) refl not_so are.0 (stored_at gone all (s ∷ stored) n are.1 not_so)

pub among_all : (gone : PlanMarks) (all stored : List Kept) → AreStored gone all stored → (n : ℕ) (column : ColumnData) → kept_at (unmarked gone stored) n ≡ Some column → kept_at all n ≡ Some column
among_all gone all stored are n column at = by (is_marked gone n) refl
  where
    by : (m : Bool) → is_marked gone n ≡ m → kept_at all n ≡ Some column
    by true marks_so = absurd (some_none (kept_at (unmarked gone stored) n) column at (marked_at gone stored n marks_so))
    by false not_so = sym (stored_at gone all stored n are not_so) ∙ (sym (unmarked_at gone stored n not_so) ∙ at)

pub stored_here : (gone : PlanMarks) (stored : List Kept) (n : ℕ) → IsKept (unmarked gone stored) n → IsKept stored n
stored_here gone stored n (column, at) = by (is_marked gone n) refl
  where
    by : (m : Bool) → is_marked gone n ≡ m → IsKept stored n
    by true marks_so = absurd (some_none (kept_at (unmarked gone stored) n) column at (marked_at gone stored n marks_so))
    by false not_so = (column, sym (unmarked_at gone stored n not_so) ∙ at)

pub stored_kept : (gone : PlanMarks) (all stored : List Kept) (n : ℕ) → AreStored gone all stored → IsKept stored n → IsKept all n
stored_kept gone all stored n are kept = found (kept_at all n) (λ none. some_none (kept_at stored n) kept.0 kept.1 (none_of gone all stored n are none))

-- a plan that isn't marked was not marked before
pub unmarked_before : (old new : PlanMarks) (n : ℕ) → ((m : ℕ) → is_marked old m ≡ true → is_marked new m ≡ true) → is_marked new n ≡ false → is_marked old n ≡ false
unmarked_before old new n more not_so = by (is_marked old n) refl
  where
    by : (b : Bool) → is_marked old n ≡ b → is_marked old n ≡ false
    by true e = absurd (true_false (is_marked new n) (more n e) not_so)
    by false e = e

-- the same is stored where more plans are marked
pub stored_more : (old new : PlanMarks) (all stored : List Kept) → ((m : ℕ) → is_marked old m ≡ true → is_marked new m ≡ true) → AreStored old all stored → AreStored new all stored
stored_more old new [] [] more are = tt
stored_more old new [] (s ∷ stored) more are = absurd are
stored_more old new (k ∷ all) [] more are = (more k.node are.0, stored_more old new all [] more are.1)
stored_more old new (k ∷ all) (s ∷ stored) more (inl are) = inl (are.0, (λ not_so. are.1.0 (unmarked_before old new k.node more not_so), stored_more old new all stored more are.1.1))
stored_more old new (k ∷ all) (s ∷ stored) more (inr are) = inr (more k.node are.0, stored_more old new all (s ∷ stored) more are.1)

pub stored_same : (old new : PlanMarks) (all stored : List Kept) → KeepsMarks old new → AreStored old all stored → AreStored new all stored
stored_same old new all stored keeps are = stored_more old new all stored (λ m marked. keeps.same m ∙ marked) are

pub stored_handed : (gone : PlanMarks) (all : List Kept) → AreStored gone all all
stored_handed gone [] = tt
stored_handed gone (k ∷ all) = inl (refl, (λ _. refl, stored_handed gone all))

pub stored_last : (gone : PlanMarks) (all stored : List Kept) (k : Kept) → AreStored gone all stored → AreStored gone (all ++ k ∷ []) (stored ++ k ∷ [])
stored_last gone [] [] k are = inl (refl, (λ _. refl, tt))
stored_last gone [] (s ∷ stored) k are = absurd are
stored_last gone (x ∷ all) [] k are = inr (are.0, stored_last gone all [] k are.1)
stored_last gone (x ∷ all) (s ∷ stored) k (inl are) = inl (are.0, (are.1.0, stored_last gone all stored k are.1.1))
stored_last gone (x ∷ all) (s ∷ stored) k (inr are) = inr (are.0, stored_last gone all (s ∷ stored) k are.1)

stand_each : (gone : PlanMarks) (here all stored : List Kept) → ((n : ℕ) → IsKept here n → is_marked gone n ≡ false) → AreStored gone all stored → StandFor here all stored
stand_each gone here [] [] free are = tt
stand_each gone here [] (s ∷ stored) free are = absurd are
stand_each gone here (k ∷ all) [] free are = (λ kept. true_false (is_marked gone k.node) are.0 (free k.node kept), stand_each gone here all [] free are.1)
stand_each gone here (k ∷ all) (s ∷ stored) free (inl are) = inl (are.0, (λ kept. are.1.0 (free k.node kept), stand_each gone here all stored free are.1.1))
stand_each gone here (k ∷ all) (s ∷ stored) free (inr are) = inr (λ kept. true_false (is_marked gone k.node) are.0 (free k.node kept), stand_each gone here all (s ∷ stored) free are.1)

pub stand_for : (gone : PlanMarks) (all stored : List Kept) → AreStored gone all stored → StandFor (unmarked gone stored) all stored
stand_for gone all stored are = stand_each gone (unmarked gone stored) all stored (λ n kept. by n kept (is_marked gone n) refl) are
  where
    by : (n : ℕ) → IsKept (unmarked gone stored) n → (m : Bool) → is_marked gone n ≡ m → m ≡ false
    by n kept true marks_so = absurd (some_none (kept_at (unmarked gone stored) n) kept.0 kept.1 (marked_at gone stored n marks_so))
    by n kept false not_so = refl

-- ---- a column is forgotten

pub marks_it : (node : ℕ) (old new : PlanMarks) (n : ℕ) → Marks node old new → (node == n) ≡ true → is_marked new n ≡ true
marks_it node old new n marks here = marks.marked n ∙ ap (λ (c : Bool). if c then true else is_marked old n) here

pub marks_other : (node : ℕ) (old new : PlanMarks) (n : ℕ) → Marks node old new → (node == n) ≡ false → is_marked new n ≡ is_marked old n
marks_other node old new n marks apart = marks.marked n ∙ ap (λ (c : Bool). if c then true else is_marked old n) apart

not_marked : (node : ℕ) (old new : PlanMarks) (n : ℕ) (b : Bool) → (node == n) ≡ b → Marks node old new → is_marked new n ≡ false → ((n ≡ node → ⊥) × (is_marked old n ≡ false))
not_marked node old new n true here marks not_so = absurd (true_false (is_marked new n) (marks_it node old new n marks here) not_so)
not_marked node old new n false apart marks not_so = ((λ (same : n ≡ node). true_false (node == n) (grind arith) apart), sym (marks_other node old new n marks apart) ∙ not_so)

either_true : (b c : Bool) → c ≡ true → (if b then true else c) ≡ true
either_true true c h = refl
either_true false c h = h

-- a plan that was marked still is
pub still_marked : (node : ℕ) (old new : PlanMarks) → Marks node old new → (n : ℕ) → is_marked old n ≡ true → is_marked new n ≡ true
still_marked node old new marks n marked = marks.marked n ∙ either_true (node == n) (is_marked old n) marked

pub stored_forgotten : (node : ℕ) (old new : PlanMarks) (all stored after : List Kept) → Marks node old new → ReplacesOnly node stored after → AreStored old all stored → AreStored new all after
stored_forgotten node old new [] [] [] marks only are = tt
stored_forgotten node old new [] [] (a ∷ after) marks only are = absurd only
stored_forgotten node old new [] (s ∷ stored) after marks only are = absurd are
stored_forgotten node old new (k ∷ all) [] [] marks only are = (still_marked node old new marks k.node are.0, stored_forgotten node old new all [] [] marks only are.1)
stored_forgotten node old new (k ∷ all) [] (a ∷ after) marks only are = absurd only
stored_forgotten node old new (k ∷ all) (s ∷ stored) [] marks only are = absurd only
stored_forgotten node old new (k ∷ all) (s ∷ stored) (a ∷ after) marks only (inl are) = inl (
  only.0 ∙ are.0,
  (
    λ not_so. let apart = not_marked node old new k.node (node == k.node) refl marks not_so in only.1.0 (λ (same : s.node ≡ node). apart.0 (sym are.0 ∙ same)) ∙ are.1.0 apart.1,
    stored_forgotten node old new all stored after marks only.1.1 are.1.1,
  ),
)
stored_forgotten node old new (k ∷ all) (s ∷ stored) (a ∷ after) marks only (inr are) = inr (still_marked node old new marks k.node are.0, stored_forgotten node old new all (s ∷ stored) (a ∷ after) marks only are.1)

replaced_one : (node n : ℕ) (k l : Kept) (b : Bool) (old new : Option ColumnData) → (k.node == n) ≡ b → (n ≡ node → ⊥) → l.node ≡ k.node → ((k.node ≡ node → ⊥) → l ≡ k) → new ≡ old →
    (if l.node == n then Some l.column else new) ≡ (if b then Some k.column else old)
replaced_one node n k l true old new here apart same is again =
    let at : k.node ≡ n = grind arith in
    let one : l ≡ k = is (λ (e : k.node ≡ node). apart (sym at ∙ e)) in
    ap (λ (v : Kept). if v.node == n then Some v.column else new) one ∙ ap (λ (c : Bool). if c then Some k.column else new) here
replaced_one node n k l false old new here apart same is again =
    ap (λ (m : ℕ). if m == n then Some l.column else new) same ∙ (ap (λ (c : Bool). if c then Some l.column else new) here ∙ again)

replaced_at : (node n : ℕ) (old new : List Kept) → ReplacesOnly node old new → (n ≡ node → ⊥) → kept_at new n ≡ kept_at old n
replaced_at node n [] [] only apart = refl
replaced_at node n [] (l ∷ new) only apart = absurd only
replaced_at node n (k ∷ old) [] only apart = absurd only
replaced_at node n (k ∷ old) (l ∷ new) only apart = replaced_one node n k l (k.node == n) (kept_at old n) (kept_at new n) refl apart only.0 only.1.0 (replaced_at node n old new only.1.1 apart)

pub here_forgotten : (node : ℕ) (old new : PlanMarks) (stored after : List Kept) → Marks node old new → ReplacesOnly node stored after → (n : ℕ) → kept_at (unmarked new after) n ≡ (if node == n then None else kept_at (unmarked old stored) n)
here_forgotten node old new stored after marks only n = by (node == n) refl
  where
    other : (apart : (node == n) ≡ false) (m : Bool) → is_marked old n ≡ m → kept_at (unmarked new after) n ≡ kept_at (unmarked old stored) n
    other apart true marks_so = marked_at new after n (marks_other node old new n marks apart ∙ marks_so) ∙ sym (marked_at old stored n marks_so)
    other apart false not_so =
        unmarked_at new after n (marks_other node old new n marks apart ∙ not_so) ∙ (replaced_at node n stored after only (λ (same : n ≡ node). true_false (node == n) (grind arith) apart) ∙ sym (unmarked_at old stored n not_so))

    by : (b : Bool) → (node == n) ≡ b → kept_at (unmarked new after) n ≡ (if b then None else kept_at (unmarked old stored) n)
    by true here = marked_at new after n (marks_it node old new n marks here)
    by false apart = other apart (is_marked old n) refl

-- a plan of which no column is kept at all is not marked by that
pub seen_forgotten : (node : ℕ) (old new : PlanMarks) (all : List Kept) → Marks node old new → (kept_at all node ≡ None → ⊥) → ((n : ℕ) → kept_at all n ≡ None → is_marked old n ≡ false) → (n : ℕ) → kept_at all n ≡ None → is_marked new n ≡ false
seen_forgotten node old new all marks kept seen n none = by (node == n) refl
  where
    by : (b : Bool) → (node == n) ≡ b → is_marked new n ≡ false
    by true here =
        let same : n ≡ node = grind arith in
        absurd (kept (ap (kept_at all) (sym same) ∙ none))
    by false apart = marks_other node old new n marks apart ∙ seen n none

replaced_kept : (node : ℕ) (old new : List Kept) (n : ℕ) → ReplacesOnly node old new → kept_at old n ≡ None → kept_at new n ≡ None
replaced_kept node [] [] n only none = refl
replaced_kept node [] (l ∷ new) n only none = absurd only
replaced_kept node (k ∷ old) [] n only none = absurd only
replaced_kept node (k ∷ old) (l ∷ new) n only none =
    ap (λ (m : ℕ). if m == n then Some l.column else kept_at new n) only.0 ∙ none_by (k.node == n) k.column l.column (kept_at old n) (kept_at new n) (λ e. replaced_kept node old new n only.1.1 e) none

pub room_forgotten : (node : ℕ) (old new : PlanMarks) (stored after : List Kept) → Marks node old new → ReplacesOnly node stored after → HasRoom old stored → HasRoom new after
room_forgotten node old new stored after marks only room n column at =
    let before = found (kept_at stored n) (λ none. some_none (kept_at after n) column at (replaced_kept node stored after n only none)) in
    marks.wide n (room n before.0 before.1)

-- ---- one more column

room_one : (gone : PlanMarks) (k : Kept) (n : ℕ) (column : ColumnData) (b : Bool) → (k.node == n) ≡ b → IsReached gone.numbers k.node → (if k.node == n then Some k.column else None) ≡ Some column → IsReached gone.numbers n
room_one gone k n column true here inside is =
    let same : k.node ≡ n = grind arith in
    subst (IsReached gone.numbers) same inside
room_one gone k n column false apart inside is = absurd (some_none (if k.node == n then Some k.column else None) column is (ap (λ (c : Bool). if c then Some k.column else None) apart))

pub room_last : (gone : PlanMarks) (stored : List Kept) (k : Kept) → HasRoom gone stored → IsReached gone.numbers k.node → HasRoom gone (stored ++ k ∷ [])
room_last gone stored k room inside n column at = by (kept_at stored n) refl
  where
    by : (o : Option ColumnData) → kept_at stored n ≡ o → IsReached gone.numbers n
    by (Some other) e = room n other e
    by None e = room_one gone k n column (k.node == n) refl inside (sym (kept_new stored (k ∷ []) n e) ∙ at)

pub room_kept : (old new : PlanMarks) (stored : List Kept) → KeepsReach old.numbers new.numbers → HasRoom old stored → HasRoom new stored
room_kept old new stored wide room n column at = wide n (room n column at)

-- there is room for none
pub room_none : (gone : PlanMarks) (kept : List Kept) → HasRoom gone (take zero kept)
room_none gone [] n column at = absurd cc
room_none gone (k ∷ kept) n column at = absurd cc

pub room_reached : (old new : PlanMarks) (xs : List KeptValue) (place : ℕ) (x : KeptValue) → place < length xs → x ≡ get_or xs place x → KeepsMarks old new → IsReached new.numbers (number_of x.node) → HasRoom old (take place (map kept_data xs)) → HasRoom new (take (suc place) (map kept_data xs))
room_reached old new xs place x inside is keeps there room =
    let R : List Kept → Type 0 = λ kept. HasRoom new kept in
    subst R (sym (take_one (map kept_data xs) place (kept_data x) (got_data xs place x inside is))) (room_last new (take place (map kept_data xs)) (kept_data x) (room_kept old new (take place (map kept_data xs)) keeps.wide room) there)

pub marks_none : (gone : PlanMarks) → KeepsMarks gone gone
marks_none gone = record { same = λ n. refl; wide = λ n reached. reached }

pub marks_then : (old mid new : PlanMarks) → KeepsMarks old mid → KeepsMarks mid new → KeepsMarks old new
marks_then old mid new first second = record { same = λ n. second.same n ∙ first.same n; wide = λ n reached. second.wide n (first.wide n reached) }

-- ---- what is stored after each call

pub stores_handed : (gone : PlanMarks) (all : List Kept) → ((n : ℕ) → is_marked gone n ≡ false) → StoresLeaves gone all all false
stores_handed gone all none = record {
  stored = stored_handed gone all;
  seen = λ n free. none n;
  room = λ e. absurd (true_false false e refl);
}

pub stores_same : (old new : PlanMarks) (all kept : List Kept) (ready : Bool) → KeepsMarks old new → StoresLeaves old all kept ready → StoresLeaves new all kept ready
stores_same old new all kept ready keeps is = record {
  stored = stored_same old new all kept keeps is.stored;
  seen = λ n none. keeps.same n ∙ is.seen n none;
  room = λ e. room_kept old new kept keeps.wide (is.room e);
}

pub stores_ready : (old new : PlanMarks) (all kept : List Kept) (ready : Bool) → KeepsMarks old new → HasRoom new kept → StoresLeaves old all kept ready → StoresLeaves new all kept true
stores_ready old new all kept ready keeps room is = record {
  stored = stored_same old new all kept keeps is.stored;
  seen = λ n none. keeps.same n ∙ is.seen n none;
  room = λ e. room;
}

none_front : (kept more : List Kept) (n : ℕ) → kept_at (kept ++ more) n ≡ None → kept_at kept n ≡ None
none_front kept more n none = by (kept_at kept n) refl
  where
    by : (o : Option ColumnData) → kept_at kept n ≡ o → kept_at kept n ≡ None
    by None e = e
    by (Some column) e = absurd (some_none (kept_at (kept ++ more) n) column (kept_old kept more n column e) none)

pub stores_last : (gone : PlanMarks) (all kept : List Kept) (ready : Bool) (k : Kept) → IsReached gone.numbers k.node → StoresLeaves gone all kept ready → StoresLeaves gone (all ++ k ∷ []) (kept ++ k ∷ []) ready
stores_last gone all kept ready k inside is = record {
  stored = stored_last gone all kept k is.stored;
  seen = λ n none. is.seen n (none_front all (k ∷ []) n none);
  room = λ e. room_last gone kept k (is.room e) inside;
}

pub seen_last : (handed : List Kept) (decoded : List SeenColumn) (x : SeenColumn) → handed ++ map seen_data (decoded ++ x ∷ []) ≡ (handed ++ map seen_data decoded) ++ seen_data x ∷ []
seen_last [] [] x = refl
seen_last [] (d ∷ decoded) x = ap (λ (ks : List Kept). seen_data d ∷ ks) (seen_last [] decoded x)
seen_last (k ∷ handed) decoded x = ap (λ (ks : List Kept). k ∷ ks) (seen_last handed decoded x)

pub stores_forgotten : (node : ℕ) (old new : PlanMarks) (all kept after : List Kept) (ready : Bool) → Marks node old new → ReplacesOnly node kept after → (kept_at kept node ≡ None → ⊥) → StoresLeaves old all kept ready → StoresLeaves new all after ready
stores_forgotten node old new all kept after ready marks only there is = record {
  stored = stored_forgotten node old new all kept after marks only is.stored;
  seen = seen_forgotten node old new all marks (λ none. there (none_of old all kept node is.stored none)) is.seen;
  room = λ e. room_forgotten node old new kept after marks only (is.room e);
}

-- of a plan of which no column is stored none is here
pub unmarked_none : (gone : PlanMarks) (kept : List Kept) (n : ℕ) → kept_at kept n ≡ None → kept_at (unmarked gone kept) n ≡ None
unmarked_none gone kept n none = by (is_marked gone n) refl
  where
    by : (b : Bool) → is_marked gone n ≡ b → kept_at (unmarked gone kept) n ≡ None
    by true marks_so = marked_at gone kept n marks_so
    by false not_so = unmarked_at gone kept n not_so ∙ none

-- and there is none to forget
pub forgets_none : (gone : PlanMarks) (all kept : List Kept) (ready : Bool) (node : ℕ) → kept_at kept node ≡ None → Forgets node (record { all = all; here = unmarked gone kept; ready = ready }) (record { all = all; here = unmarked gone kept; ready = ready })
forgets_none gone all kept ready node none = record { all = refl; here = λ n. by n (node == n) refl; ready = refl }
  where
    by : (n : ℕ) (b : Bool) → (node == n) ≡ b → kept_at (unmarked gone kept) n ≡ (if b then None else kept_at (unmarked gone kept) n)
    by n true here =
        let same : node ≡ n = grind arith in
        ap (kept_at (unmarked gone kept)) (sym same) ∙ unmarked_none gone kept node none
    by n false apart = refl

-- ---- what was handed in

append_none : (kept : List Kept) → kept ++ [] ≡ kept
append_none [] = refl
append_none (k ∷ kept) = ap (λ (ks : List Kept). k ∷ ks) (append_none kept)

-- nothing was decoded yet
pub all_handed : (handed : List Kept) (decoded : List SeenColumn) → decoded ≡ [] → handed ++ map seen_data decoded ≡ handed
all_handed handed decoded none = ap (λ (seen : List SeenColumn). handed ++ map seen_data seen) none ∙ append_none handed

pub stores_new : (gone : PlanMarks) (handed kept : List Kept) (decoded : List SeenColumn) → ((n : ℕ) → is_marked gone n ≡ false) → decoded ≡ [] → kept ≡ handed → StoresLeaves gone (handed ++ map seen_data decoded) kept false
stores_new gone handed kept decoded none first is =
    subst (λ (all : List Kept). StoresLeaves gone all kept false) (sym (all_handed handed decoded first)) (subst (λ (ks : List Kept). StoresLeaves gone handed ks false) (sym is) (stores_handed gone handed none))

-- ---- what is found of a stored column

found_kept : (found : Option (Bor ColumnData)) (o : Option ColumnData) → option_copied found ≡ o → is_some found ≡ true → (column : ColumnData) × (o ≡ Some column)
found_kept None o e some = absurd cc
found_kept (Some column) o e some = (column.now, sym e)

pub none_kept : (found : Option (Bor ColumnData)) (o : Option ColumnData) → option_copied found ≡ o → is_some found ≡ false → o ≡ None
none_kept None o e none = sym e
none_kept (Some column) o e none = absurd cc

-- a marked plan is one of a column that was kept
pub marked_kept : (gone : PlanMarks) (all : List Kept) (n : ℕ) → ((m : ℕ) → kept_at all m ≡ None → is_marked gone m ≡ false) → is_marked gone n ≡ true → IsKept all n
marked_kept gone all n seen marks_so = found (kept_at all n) (λ none. true_false (is_marked gone n) marks_so (seen n none))

pub says_kept : (gone : PlanMarks) (all kept : List Kept) (n : ℕ) → AreStored gone all kept → is_marked gone n ≡ false → (found : Option (Bor ColumnData)) → option_copied found ≡ kept_at kept n → (b : Bool) → b ≡ is_some found → MatchBool b (IsKept all n) (kept_at all n ≡ None)
says_kept gone all kept n are not_so is_found is true some = found_kept is_found (kept_at all n) (is ∙ stored_at gone all kept n are not_so) (sym some)
says_kept gone all kept n are not_so is_found is false some = none_kept is_found (kept_at all n) (is ∙ stored_at gone all kept n are not_so) (sym some)

pub some_there : (found : Option (Bor ColumnData)) (o : Option ColumnData) → option_copied found ≡ o → is_some found ≡ true → o ≡ None → ⊥
some_there None o e some none = absurd cc
some_there (Some column) o e some none = some_none o column.now (sym e) none

pub leaves_same : (a b : LeavesData) → a.all ≡ b.all → a.here ≡ b.here → a.ready ≡ b.ready → a ≡ b
leaves_same a b all here ready = λ i. record { all = all i; here = here i; ready = ready i }

pub room_for : (gone : PlanMarks) (kept : List Kept) (node : ℕ) → (kept_at kept node ≡ None → ⊥) → HasRoom gone kept → IsReached gone.numbers node
room_for gone kept node there room =
    let is = found (kept_at kept node) there in
    room node is.0 is.1

-- what is handed on stands for all
pub into_stands : (gone : PlanMarks) (all kept : List Kept) (ready : Bool) (leaves : LeavesData) → record { all = all; here = unmarked gone kept; ready = ready } ≡ leaves → AreStored gone all kept → (result : Result (Vec KeptValue Global × PlaceTable) (Vec KeptValue Global)) →
    MatchResult result (λ found. (map kept_data found.0.items ≡ kept) × ArePlaces found.1 kept) (λ columns. map kept_data columns.items ≡ kept) →
    MatchResult result (λ found. StandFor leaves.here leaves.all (map kept_data found.0.items) × ArePlaces found.1 (map kept_data found.0.items)) (λ columns. StandFor leaves.here leaves.all (map kept_data columns.items))
into_stands gone all kept ready leaves is are (Ok found) into =
    let S : List Kept → Type 0 = λ ks. StandFor leaves.here leaves.all ks in
    let stand : S kept = subst (λ (v : LeavesData). StandFor v.here v.all kept) is (stand_for gone all kept are) in
    (subst S (sym into.0) stand, subst (λ (ks : List Kept). ArePlaces found.1 ks) (sym into.0) into.1)
into_stands gone all kept ready leaves is are (Err columns) into =
    let S : List Kept → Type 0 = λ ks. StandFor leaves.here leaves.all ks in
    let stand : S kept = subst (λ (v : LeavesData). StandFor v.here v.all kept) is (stand_for gone all kept are) in
    subst S (sym into) stand
