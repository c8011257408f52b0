-- The plans of columns are marked that have a place in an index, and the columns of marked plans are dropped.
use Rattle.std.proofs.Common.{◌≡◌, ℕ, zero, suc, ◌<◌, ◌≤◌, ◌==◌, ◌⊎◌, inl, inr, ⊎_elim, Bool, true, false, List, [], ◌∷◌, ◌++◌, map, take, get_or, Option, Some, None, length, refl, sym, ap, ◌∙◌, subst, arith}
use Rattle.std.specs.Prelude.{if◌then◌else◌}
use Rattle.std.specs.Option.{is_some}
use Rattle.std.proofs.lemmas.Bool.{eqb-true}
use Rattle.vx_base.specs.Columns.{ColumnData}
use Rattle.vx_steps.specs.declared.kept.KeptValue.{KeptValue}
use Rattle.vx_steps.specs.declared.places.PlaceTable.{PlaceTable}
use Rattle.vx_steps.specs.declared.plan_marks.PlanMarks.{PlanMarks}
use Rattle.vx_steps.specs.KeptData.{Kept}
use Rattle.vx_steps.specs.Kept.{kept_at, kept_data, IsKept}
use Rattle.vx_steps.specs.LeafColumns.{unmarked, AreStored, ForgetsApart, MarksApart, StoresLeaves}
use Rattle.vx_steps.specs.NumberTable.{IsReached}
use Rattle.vx_steps.specs.Offers.{Keeps}
use Rattle.vx_steps.specs.Places.{place_in}
use Rattle.vx_steps.specs.PlanMarks.{is_marked, HasRoom, Marks}
use Rattle.vx_steps.proofs.Indexing.{all_taken, got_data, take_one}
use Rattle.vx_steps.proofs.Keeping.{kept_new, kept_old}
use Rattle.vx_steps.proofs.Offering.{keeps_only, keeps_those}
use Rattle.vx_steps.proofs.Storing.{marked_at, marks_it, marks_other, none_of, still_marked, stored_more, unmarked_at, unmarked_before}

true_false : (b : Bool) → b ≡ true → b ≡ false → ⊥
true_false b marks_so not_so = cc

some_none : (o : Option ColumnData) (column : ColumnData) → o ≡ Some column → o ≡ None → ⊥
some_none o column some none = cc

place_none : (o : Option ℕ) (place : ℕ) → o ≡ Some place → o ≡ None → ⊥
place_none o place some none = cc

none_taken : (kept : List Kept) (n : ℕ) → IsKept (take zero kept) n → ⊥
none_taken [] n (column, at) = some_none None column at refl
none_taken (k ∷ kept) n (column, at) = some_none None column at refl

-- ---- plans are marked

pub apart_none : (apart : PlaceTable) (gone : PlanMarks) (kept : List Kept) → MarksApart apart (take zero kept) gone gone
apart_none apart gone kept = record {
  only = λ n marked. inl marked;
  more = λ n marked. marked;
  all = λ n place is at. absurd (none_taken kept n is);
  wide = λ n reached. reached;
}

-- the last column of more is for this plan, or one of the others
last_or : (kept : List Kept) (k : Kept) (n : ℕ) → IsKept (kept ++ k ∷ []) n → IsKept kept n ⊎ (k.node ≡ n)
last_or kept k n (column, at) = by (kept_at kept n) refl
  where
    one : (b : Bool) → (k.node == n) ≡ b → (if b then Some k.column else None) ≡ Some column → k.node ≡ n
    one true e is = eqb-true k.node n e
    one false e is = absurd (some_none None column is refl)

    by : (o : Option ColumnData) → kept_at kept n ≡ o → IsKept kept n ⊎ (k.node ≡ n)
    by (Some other) e = inl (other, e)
    by None e = inr (one (k.node == n) refl (sym (kept_new kept (k ∷ []) n e) ∙ at))

more_kept : (kept : List Kept) (k : Kept) (n : ℕ) → IsKept kept n → IsKept (kept ++ k ∷ []) n
more_kept kept k n (column, at) = (column, kept_old kept (k ∷ []) n column at)

last_kept : (kept : List Kept) (k : Kept) (n : ℕ) → k.node ≡ n → IsKept (kept ++ k ∷ []) n
last_kept kept k n same = by (kept_at kept n) refl
  where
    here : (k.node == n) ≡ true
    here = grind arith

    by : (o : Option ColumnData) → kept_at kept n ≡ o → IsKept (kept ++ k ∷ []) n
    by (Some other) e = more_kept kept k n (other, e)
    by None e = (k.column, kept_new kept (k ∷ []) n e ∙ ap (λ (b : Bool). if b then Some k.column else None) here)

-- one more, which has a place
apart_more : (apart : PlaceTable) (old mid new : PlanMarks) (kept : List Kept) (k : Kept) (place : ℕ) → place_in apart k.node ≡ Some place → Marks k.node mid new → MarksApart apart kept old mid → MarksApart apart (kept ++ k ∷ []) old new
apart_more apart old mid new kept k place there marks is = record {
  only = λ n marked. only n marked (k.node == n) refl;
  more = λ n marked. still_marked k.node mid new marks n (is.more n marked);
  all = λ n at own has. ⊎_elim (λ (before : IsKept kept n). still_marked k.node mid new marks n (is.all n at before has)) (λ (same : k.node ≡ n). marks_it k.node mid new n marks (grind arith)) (last_or kept k n own);
  wide = λ n reached. marks.wide n (is.wide n reached);
}
  where
    only : (n : ℕ) → is_marked new n ≡ true → (b : Bool) → (k.node == n) ≡ b → (is_marked old n ≡ true) ⊎ (IsKept (kept ++ k ∷ []) n × ((at : ℕ) × (place_in apart n ≡ Some at)))
    only n marked true e =
        let same : k.node ≡ n = eqb-true k.node n e in
        inr (last_kept kept k n same, (place, sym (ap (place_in apart) same) ∙ there))
    only n marked false e = ⊎_elim
        (λ (was : is_marked old n ≡ true). inl was)
        (λ (own : IsKept kept n × ((at : ℕ) × (place_in apart n ≡ Some at))). inr (more_kept kept k n own.0, own.1))
        (is.only n (sym (marks_other k.node mid new n marks e) ∙ marked))

-- one more, which has none
apart_same : (apart : PlaceTable) (old mid : PlanMarks) (kept : List Kept) (k : Kept) → place_in apart k.node ≡ None → MarksApart apart kept old mid → MarksApart apart (kept ++ k ∷ []) old mid
apart_same apart old mid kept k none is = record {
  only = λ n marked. ⊎_elim (λ (was : is_marked old n ≡ true). inl was) (λ (own : IsKept kept n × ((at : ℕ) × (place_in apart n ≡ Some at))). inr (more_kept kept k n own.0, own.1)) (is.only n marked);
  more = is.more;
  all = λ n at own has. ⊎_elim (λ (before : IsKept kept n). is.all n at before has) (λ (same : k.node ≡ n). absurd (place_none (place_in apart n) at has (sym (ap (place_in apart) same) ∙ none))) (last_or kept k n own);
  wide = is.wide;
}

taken_more : (xs : List KeptValue) (i : ℕ) (x : KeptValue) → i < length xs → x ≡ get_or xs i x → take (suc i) (map kept_data xs) ≡ take i (map kept_data xs) ++ kept_data x ∷ []
taken_more xs i x inside is = take_one (map kept_data xs) i (kept_data x) (got_data xs i x inside is)

place_there : (o : Option ℕ) → is_some o ≡ true → (place : ℕ) × (o ≡ Some place)
place_there None some = absurd cc
place_there (Some place) some = (place, refl)

no_place : (o : Option ℕ) → is_some o ≡ false → o ≡ None
no_place None none = refl
no_place (Some place) none = absurd cc

pub apart_next : (apart : PlaceTable) (old mid new : PlanMarks) (xs : List KeptValue) (i node : ℕ) (x : KeptValue) → i < length xs → x ≡ get_or xs i x → (kept_data x).node ≡ node → is_some (place_in apart node) ≡ true → Marks node mid new → MarksApart apart (take i (map kept_data xs)) old mid → MarksApart apart (take (suc i) (map kept_data xs)) old new
apart_next apart old mid new xs i node x inside is own some marks before =
    let there = place_there (place_in apart node) some in
    subst (λ (ks : List Kept). MarksApart apart ks old new) (sym (taken_more xs i x inside is)) (apart_more apart old mid new (take i (map kept_data xs)) (kept_data x) there.0 (ap (place_in apart) own ∙ there.1) (subst (λ (n : ℕ). Marks n mid new) (sym own) marks) before)

pub apart_passed : (apart : PlaceTable) (old mid : PlanMarks) (xs : List KeptValue) (i node : ℕ) (x : KeptValue) → i < length xs → x ≡ get_or xs i x → (kept_data x).node ≡ node → is_some (place_in apart node) ≡ false → MarksApart apart (take i (map kept_data xs)) old mid → MarksApart apart (take (suc i) (map kept_data xs)) old mid
apart_passed apart old mid xs i node x inside is own none before =
    subst (λ (ks : List Kept). MarksApart apart ks old mid) (sym (taken_more xs i x inside is)) (apart_same apart old mid (take i (map kept_data xs)) (kept_data x) (ap (place_in apart) own ∙ no_place (place_in apart node) none) before)

pub apart_all : (apart : PlaceTable) (old new : PlanMarks) (xs : List KeptValue) (i : ℕ) → length xs ≤ i → MarksApart apart (take i (map kept_data xs)) old new → MarksApart apart (map kept_data xs) old new
apart_all apart old new xs i all is = subst (λ (ks : List Kept). MarksApart apart ks old new) (all_taken xs i all) is

cons_kept : (k : Kept) (kept : List Kept) (n : ℕ) (b : Bool) → (k.node == n) ≡ b → (b ≡ false → IsKept kept n) → IsKept (k ∷ kept) n
cons_kept k kept n true e more = (k.column, ap (λ (b : Bool). if b then Some k.column else kept_at kept n) e)
cons_kept k kept n false e more =
    let own = more refl in
    (own.0, ap (λ (b : Bool). if b then Some k.column else kept_at kept n) e ∙ own.1)

-- a column is kept for the plan of each of them
pub kept_own : (xs : List KeptValue) (i : ℕ) (x : KeptValue) → i < length xs → x ≡ get_or xs i x → IsKept (map kept_data xs) (kept_data x).node
kept_own [] i x inside is = absurd (omega arith)
kept_own (y ∷ ys) zero x inside is =
    let same : (kept_data x).node ≡ (kept_data y).node = ap (λ (v : KeptValue). (kept_data v).node) is in
    let here : ((kept_data y).node == (kept_data x).node) ≡ true = grind arith in
    cons_kept (kept_data y) (map kept_data ys) (kept_data x).node true here (λ no. absurd (true_false true refl no))
kept_own (y ∷ ys) (suc i) x inside is = cons_kept (kept_data y) (map kept_data ys) (kept_data x).node ((kept_data y).node == (kept_data x).node) refl (λ no. kept_own ys i x (omega arith) is)

-- there is room for the mark of each of them
pub room_at : (gone : PlanMarks) (xs : List KeptValue) (i : ℕ) (x : KeptValue) → i < length xs → x ≡ get_or xs i x → HasRoom gone (map kept_data xs) → IsReached gone.numbers (kept_data x).node
room_at gone xs i x inside is room =
    let own = kept_own xs i x inside is in
    room (kept_data x).node own.0 own.1

-- ---- columns are dropped

abbrev NotMarked : PlanMarks → ℕ → Type 0
NotMarked gone n = is_marked gone n ≡ false

-- a column of a marked plan needn't be stored
stored_without : (gone : PlanMarks) (all after : List Kept) (k : Kept) → is_marked gone k.node ≡ true → AreStored gone all after → AreStored gone (k ∷ all) after
stored_without gone all [] k marked are = (marked, are)
stored_without gone all (a ∷ after) k marked are = inr (marked, are)

marked_not : (b : Bool) → (b ≡ false → ⊥) → b ≡ true
marked_not true not = refl
marked_not false not = absurd (not refl)

stored_dropped : (gone : PlanMarks) (all stored after : List Kept) → Keeps (λ k. NotMarked gone k.node) stored after → AreStored gone all stored → AreStored gone all after
stored_dropped gone [] [] after keeps are = subst (AreStored gone []) (sym keeps) tt
stored_dropped gone [] (s ∷ stored) after keeps are = absurd are
stored_dropped gone (k ∷ all) [] after keeps are = stored_without gone all after k are.0 (stored_dropped gone all [] after keeps are.1)
stored_dropped gone (k ∷ all) (s ∷ stored) after (inl (free, (rest, same, keeps))) (inl are) =
    subst (AreStored gone (k ∷ all)) (sym same) (inl (are.0, (are.1.0, stored_dropped gone all stored rest keeps are.1.1)))
stored_dropped gone (k ∷ all) (s ∷ stored) after (inr (not, keeps)) (inl are) =
    let marked : is_marked gone k.node ≡ true = sym (ap (is_marked gone) are.0) ∙ marked_not (is_marked gone s.node) not in
    stored_without gone all after k marked (stored_dropped gone all stored after keeps are.1.1)
stored_dropped gone (k ∷ all) (s ∷ stored) after keeps (inr are) = stored_without gone all after k are.0 (stored_dropped gone all (s ∷ stored) after keeps are.1)

-- what is kept then was kept before
kept_before : (gone : PlanMarks) (kept after : List Kept) → Keeps (λ k. NotMarked gone k.node) kept after → (n : ℕ) (column : ColumnData) → kept_at after n ≡ Some column → kept_at kept n ≡ Some column
kept_before gone kept after keeps n column at = sym (keeps_those (NotMarked gone) kept after n keeps (keeps_only (NotMarked gone) kept after n column keeps at)) ∙ at

pub stores_dropped : (apart : PlaceTable) (old new : PlanMarks) (all kept after : List Kept) (ready : Bool) → MarksApart apart kept old new → Keeps (λ k. NotMarked new k.node) kept after → StoresLeaves old all kept ready → StoresLeaves new all after ready
stores_dropped apart old new all kept after ready marks keeps is = record {
  stored = stored_dropped new all kept after keeps (stored_more old new all kept marks.more is.stored);
  seen = λ n none. seen n none (is_marked new n) refl;
  room = λ e n column at. marks.wide n (is.room e n column (kept_before new kept after keeps n column at));
}
  where
    seen : (n : ℕ) → kept_at all n ≡ None → (b : Bool) → is_marked new n ≡ b → is_marked new n ≡ false
    seen n none true e = absurd (⊎_elim
        (λ (was : is_marked old n ≡ true). true_false (is_marked old n) was (is.seen n none))
        (λ (own : IsKept kept n × ((at : ℕ) × (place_in apart n ≡ Some at))). some_none (kept_at kept n) own.0.0 own.0.1 (none_of old all kept n is.stored none))
        (marks.only n e))
    seen n none false e = e

-- So exactly those are forgotten.
pub forgets_dropped : (apart : PlaceTable) (old new : PlanMarks) (all kept after : List Kept) (ready : Bool) → MarksApart apart kept old new → Keeps (λ k. NotMarked new k.node) kept after → ForgetsApart apart (record { all = all; here = unmarked old kept; ready = ready }) (record { all = all; here = unmarked new after; ready = ready })
forgets_dropped apart old new all kept after ready marks keeps = record {
  all = refl;
  ready = refl;
  stays = λ n none. stays n none (is_marked new n) refl;
  gone = λ n place has. gone n place has (is_marked new n) refl;
}
  where
    same_kept : (n : ℕ) → is_marked new n ≡ false → kept_at (unmarked new after) n ≡ kept_at kept n
    same_kept n free = unmarked_at new after n free ∙ keeps_those (NotMarked new) kept after n keeps free

    stays : (n : ℕ) → place_in apart n ≡ None → (b : Bool) → is_marked new n ≡ b → kept_at (unmarked new after) n ≡ kept_at (unmarked old kept) n
    stays n none true e = ⊎_elim
        (λ (was : is_marked old n ≡ true). marked_at new after n e ∙ sym (marked_at old kept n was))
        (λ (own : IsKept kept n × ((at : ℕ) × (place_in apart n ≡ Some at))). absurd (place_none (place_in apart n) own.1.0 own.1.1 none))
        (marks.only n e)
    stays n none false e = same_kept n e ∙ sym (unmarked_at old kept n (unmarked_before old new n marks.more e))

    gone : (n place : ℕ) → place_in apart n ≡ Some place → (b : Bool) → is_marked new n ≡ b → kept_at (unmarked new after) n ≡ None
    gone n place has true e = marked_at new after n e
    gone n place has false e = same_kept n e ∙ none (kept_at kept n) refl
      where
        none : (o : Option ColumnData) → kept_at kept n ≡ o → kept_at kept n ≡ None
        none None at = at
        none (Some column) at = absurd (true_false (is_marked new n) (marks.all n place (column, at) has) e)
