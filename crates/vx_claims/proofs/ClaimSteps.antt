-- Each step on the claim word keeps its rule.
use Rattle.std.proofs.Common.{◌≡◌, ℕ, ◌+◌, ◌<◌, ◌≤◌, ◌⊎◌, inl, inr, Bool, true, false, List, [], ◌∷◌, ◌++◌, set, refl, sym, ap, ◌∙◌, arith, rules}
use Rattle.std.specs.Prelude.{min, ◌||◌}
use Rattle.std.specs.List.{All, sum_by}
use Rattle.std.proofs.lemmas.Bool.{cases_lt, lt-ltb, le-ltb}
use Rattle.std.proofs.lemmas.List.Elements.{All-set, All-append, All-cons, All-nil}
use Rattle.std.proofs.lemmas.List.Sums.{sum_by_push}
use mathlib.Core.Option.{some}
use lib.ListN.{get_elem?}
use Rattle.atomic_table.proofs.Lists.{set_else}
use Rattle.vx_claims.specs.declared.views.View.{View}
use Rattle.vx_claims.specs.Views.{fresh, less_a_part, both, spent, above, also_claims, told_end, drawn}
use Rattle.vx_claims.specs.Limits.{all_parts}
use Rattle.vx_claims.specs.Apart.{times, once_below}
use Rattle.vx_claims.specs.Rules.{Fits, Rule}
use Rattle.vx_claims.proofs.Numbers.{times_append, once_next, once_no, stands, above_below}
use Rattle.vx_claims.proofs.Seats.{sum_set, all_at, sum_less}

-- ---- what the rule says of the word

pub word_at_most : (count word : ℕ) (views : List View) → Rule count word views → word ≤ count + all_parts
word_at_most count word views rule =
    let less = sum_less (λ (view : View). view.over) (λ view. view.parts) views (λ k d lt. (rule.fits k d lt).within) in
    let over = rule.over in
    let parts = rule.parts in
    omega (arith, less, over, parts)

-- ---- claim

claims : (count id : ℕ) (v : View) (word : ℕ) (views : List View) → v.told ≡ false → 0 < v.parts → get_elem? views id ≡ some v → Rule count word views → word < count → Rule count (word + 1) (set views id (also_claims v word))
claims count id v word views untold alive at rule below =
    let fit = all_at (Fits count) views id v rule.fits at in
    let w : View = also_claims v word in
    record {
      each = λ x.
          let change = sum_set (λ (view : View). times x view.claimed) views id v w at in
          let more = times_append x v.claimed (word ∷ []) in
          let next = once_next word x in
          let before = rule.each x in
          let one : min word count ≡ word = omega (arith, below) in
          let two : min (word + 1) count ≡ word + 1 = omega (arith, below) in
          let first : once_below (min word count) x ≡ once_below word x = ap (λ (n : ℕ). once_below n x) one in
          let second : once_below (min (word + 1) count) x ≡ once_below (word + 1) x = ap (λ (n : ℕ). once_below n x) two in
          omega (arith, change, more, next, before, first, second);
      over = let change = sum_set (λ (view : View). view.over) views id v w at in let before = rule.over in omega (arith, change, before, below);
      parts = let change = sum_set (λ (view : View). view.parts) views id v w at in let before = rule.parts in omega (arith, change, before);
      fits = All-set (Fits count) views id w record {
        within = fit.within;
        untold = fit.untold;
        told = fit.told;
        counted = fit.counted;
        spent = λ none. absurd (omega (arith, none, alive));
      } rule.fits;
      small = rule.small;
    }

ends : (count id : ℕ) (v : View) (word : ℕ) (views : List View) → v.told ≡ false → 0 < v.parts → get_elem? views id ≡ some v → Rule count word views → count ≤ word → Rule count (word + 1) (set views id (told_end v))
ends count id v word views untold alive at rule past =
    let fit = all_at (Fits count) views id v rule.fits at in
    let w : View = told_end v in
    record {
      each = λ x.
          let change = sum_set (λ (view : View). times x view.claimed) views id v w at in
          let before = rule.each x in
          let same : min word count ≡ min (word + 1) count = omega (arith, past) in
          let kept : once_below (min word count) x ≡ once_below (min (word + 1) count) x = ap (λ (n : ℕ). once_below n x) same in
          omega (arith, change, before, kept);
      over =
          let change = sum_set (λ (view : View). view.over) views id v w at in
          let before = rule.over in
          let none = fit.untold untold in
          omega (arith, change, before, none, past);
      parts = let change = sum_set (λ (view : View). view.parts) views id v w at in let before = rule.parts in omega (arith, change, before);
      fits = All-set (Fits count) views id w record {
        within = omega (arith, alive);
        untold = λ is. search rules;
        told = λ is some_part. omega arith;
        counted = fit.counted;
        spent = fit.spent;
      } rule.fits;
      small = rule.small;
    }

pub draws : (count id : ℕ) (v : View) (word : ℕ) (views : List View) → v.told ≡ false → 0 < v.parts → get_elem? views id ≡ some v → Rule count word views → Rule count (word + 1) (set views id (drawn v word))
draws count id v word views untold alive at rule = by_order (cases_lt word v.count)
  where
    by_order : (word < v.count) ⊎ (v.count ≤ word) → Rule count (word + 1) (set views id (drawn v word))
    by_order (inl below) =
        let counted = (all_at (Fits count) views id v rule.fits at).counted alive in
        rw (lt-ltb word v.count below) (claims count id v word views untold alive at rule (omega (arith, below, counted)))
    by_order (inr past) =
        let counted = (all_at (Fits count) views id v rule.fits at).counted alive in
        rw (le-ltb word v.count past) (ends count id v word views untold alive at rule (omega (arith, past, counted)))

-- the numbers of a seat are below the word
pub below_word : (count id : ℕ) (v : View) (word : ℕ) (views : List View) → get_elem? views id ≡ some v → Rule count word views → All (λ x. x < min word count) v.claimed
below_word count id v word views at rule k d lt =
    let x : ℕ = Rattle.std.specs.Prelude.slice_index_or v.claimed k d in
    let here = stands v.claimed k d lt in
    let most = Rattle.vx_claims.proofs.Seats.at_most_sum (λ (view : View). times x view.claimed) views id v at in
    let each = rule.each x in
    by_order x here most each (cases_lt x (min word count))
  where
    by_order : (x : ℕ) → 1 ≤ times x v.claimed → times x v.claimed ≤ sum_by (λ (view : View). times x view.claimed) views → sum_by (λ (view : View). times x view.claimed) views ≡ once_below (min word count) x → (x < min word count) ⊎ (min word count ≤ x) → x < min word count
    by_order x here most each (inl less) = less
    by_order x here most each (inr least) = let none = once_no (min word count) x least in absurd (omega (arith, here, most, each, none))

pub above_word : (count id : ℕ) (v : View) (word : ℕ) (views : List View) → get_elem? views id ≡ some v → Rule count word views → above v.claimed ≤ word
above_word count id v word views at rule =
    let most = above_below (min word count) v.claimed (below_word count id v word views at rule) in
    omega (arith, most)

-- ---- split

pub splits : (count id : ℕ) (v : View) (word : ℕ) (views : List View) → v.told ≡ false → 2 ≤ v.parts → get_elem? views id ≡ some v → Rule count word views → Rule count word (set views id (less_a_part v) ++ fresh v.count ∷ [])
splits count id v word views untold some_parts at rule =
    let fit = all_at (Fits count) views id v rule.fits at in
    let w : View = less_a_part v in
    let none = fit.untold untold in
    let counted = fit.counted (omega (arith, some_parts)) in
    record {
      each = λ x.
          let change = sum_set (λ (view : View). times x view.claimed) views id v w at in
          let push = sum_by_push (λ (view : View). times x view.claimed) (set views id w) (fresh v.count) in
          let before = rule.each x in
          omega (arith, change, push, before);
      over =
          let change = sum_set (λ (view : View). view.over) views id v w at in
          let push = sum_by_push (λ (view : View). view.over) (set views id w) (fresh v.count) in
          let before = rule.over in
          omega (arith, change, push, before);
      parts =
          let change = sum_set (λ (view : View). view.parts) views id v w at in
          let push = sum_by_push (λ (view : View). view.parts) (set views id w) (fresh v.count) in
          let before = rule.parts in
          omega (arith, change, push, before, some_parts);
      fits = All-append (Fits count) (set views id w) (fresh v.count ∷ []) (All-set (Fits count) views id w record {
        within = omega (arith, none);
        untold = fit.untold;
        told = λ is alive. fit.told is (omega (arith, some_parts));
        counted = λ alive. counted;
        spent = λ no_part. absurd (omega (arith, no_part, some_parts));
      } rule.fits) (All-cons (Fits count) (fresh v.count) [] record {
        within = omega arith;
        untold = λ is. refl;
        told = λ is. search rules;
        counted = λ alive. counted;
        spent = λ no_part. refl;
      } (All-nil (Fits count)));
      small = rule.small;
    }

-- ---- join

pub joins : (count id : ℕ) (v : View) (other : ℕ) (w : View) (word : ℕ) (views : List View) → 0 < v.parts → 0 < w.parts → get_elem? views id ≡ some v → ¬ (other ≡ id) → get_elem? (set views id (both v w)) other ≡ some w
    → Rule count word views → Rule count word (set (set views id (both v w)) other spent)
joins count id v other w word views alive others_alive at differs there rule =
    let was : get_elem? views other ≡ some w = sym (set_else views id other (both v w) differs) ∙ there in
    let fit = all_at (Fits count) views id v rule.fits at in
    let fit_other = all_at (Fits count) views other w rule.fits was in
    record {
      each = λ x.
          let first = sum_set (λ (view : View). times x view.claimed) views id v (both v w) at in
          let second = sum_set (λ (view : View). times x view.claimed) (set views id (both v w)) other w spent there in
          let more = times_append x v.claimed w.claimed in
          let before = rule.each x in
          omega (arith, first, second, more, before);
      over =
          let first = sum_set (λ (view : View). view.over) views id v (both v w) at in
          let second = sum_set (λ (view : View). view.over) (set views id (both v w)) other w spent there in
          let before = rule.over in
          omega (arith, first, second, before);
      parts =
          let first = sum_set (λ (view : View). view.parts) views id v (both v w) at in
          let second = sum_set (λ (view : View). view.parts) (set views id (both v w)) other w spent there in
          let before = rule.parts in
          omega (arith, first, second, before);
      fits = All-set (Fits count) (set views id (both v w)) other spent record {
        within = omega arith;
        untold = λ is. refl;
        told = λ is. search rules;
        counted = λ some_part. absurd (omega (arith, some_part));
        spent = λ no_part. refl;
      } (All-set (Fits count) views id (both v w) record {
        within = let one = fit.within in let two = fit_other.within in omega (arith, one, two);
        untold = untold_both fit fit_other;
        told = λ is some_part. told_both v w count fit fit_other alive others_alive v.told w.told refl refl is;
        counted = λ some_part. fit.counted alive;
        spent = λ no_part. absurd (omega (arith, no_part, alive));
      } rule.fits);
      small = rule.small;
    }
  where
    untold_both : Fits count v → Fits count w → v.told || w.told ≡ false → v.over + w.over ≡ 0
    untold_both fit fit_other none = untold_cases v.told w.told fit.untold fit_other.untold none
      where
        untold_cases : (a b : Bool) → (a ≡ false → v.over ≡ 0) → (b ≡ false → w.over ≡ 0) → a || b ≡ false → v.over + w.over ≡ 0
        untold_cases false false one two none = let p = one refl in let q = two refl in omega (arith, p, q)
        untold_cases false true one two none = search rules
        untold_cases true b one two none = search rules

    told_both : (v w : View) (count : ℕ) → Fits count v → Fits count w → 0 < v.parts → 0 < w.parts → (a b : Bool) → v.told ≡ a → w.told ≡ b → a || b ≡ true → 0 < v.over + w.over
    told_both v w count fit fit_other alive others_alive true b one two is = let p = fit.told one alive in omega (arith, p)
    told_both v w count fit fit_other alive others_alive false true one two is = let p = fit_other.told two others_alive in omega (arith, p)
    told_both v w count fit fit_other alive others_alive false false one two is = search rules
