-- What each call on the claims asks of the table, and what follows for its caller.
use Rattle.std.proofs.Common.{◌≡◌, ◌++◌, ℕ, ◌+◌, ◌%◌, ◌^◌, ◌<◌, ◌≤◌, false, List, [], ◌∷◌, set, refl, sym, ap, ◌∙◌, subst, arith}
use Rattle.std.specs.Prelude.{min, slice_index}
use Rattle.std.proofs.lemmas.Bool.{lt-ltb}
use mathlib.Core.Option.{some, some-injective}
use lib.ListN.{get_elem?}
use Rattle.atomic_table.specs.Table.{State, Me, Allows, Splits, Joins, Final, Seen, keeps, stepped}
use Rattle.vx_claims.specs.declared.views.View.{View}
use Rattle.vx_claims.specs.declared.claims.ClaimSeat.{ClaimSeat}
use Rattle.vx_claims.specs.Views.{fresh, less_a_part, both, spent, above, also_claims, drawn, Draws}
use Rattle.vx_claims.specs.Limits.{all_parts}
use Rattle.vx_claims.specs.Apart.{times}
use Rattle.vx_claims.specs.Rules.{Fits, Rule, Kept}
use Rattle.vx_claims.specs.Claims.{view_of, claimed, parts, was_told, Claimed, Closes}
use Rattle.vx_claims.proofs.Numbers.{once_yes, once_at_most, above_push}
use Rattle.vx_claims.proofs.Seats.{sum_alone, all_at, at_most_sum}
use Rattle.vx_claims.proofs.ClaimSteps.{word_at_most, draws, below_word, above_word, splits, joins}

-- ---- claim

draw_kept : (count id : ℕ) (me : Me (Unit {0}) View) (s : State (Unit {0}) View) (found : ℕ) → me.0.told ≡ false → 0 < me.0.parts → s.words ≡ found ∷ [] → Rule count found s.views → get_elem? s.views id ≡ some me.0
    → Kept count (stepped s 0 ((found + 1) % 2 ^ 64) id me.1 (drawn me.0 found) keeps)
draw_kept count id me s found untold alive words rule at =
    let most = word_at_most count found s.views rule in
    let small = rule.small in
    let next : (found + 1) % 2 ^ 64 ≡ found + 1 = omega (arith, most, small) in
    (found + 1, ap (λ (ws : List ℕ). set ws 0 ((found + 1) % 2 ^ 64)) words ∙ ap (λ (n : ℕ). n ∷ []) next, draws count id me.0 found s.views untold alive at rule)

pub allows_draw : (count slots id : ℕ) (me : Me (Unit {0}) View) → me.0.told ≡ false → 0 < me.0.parts → Allows (Kept count) slots id me 0 (λ n. (n + 1) % 2 ^ 64) (Draws me)
allows_draw count slots id me untold alive s kept homes at small =
    let found : ℕ = slice_index s.words 0 in
    let is : kept.0 ≡ found = sym (ap (λ (ws : List ℕ). slice_index ws 0) kept.1) in
    let words : s.words ≡ found ∷ [] = kept.1 ∙ ap (λ (n : ℕ). n ∷ []) is in
    let rule : Rule count found s.views = subst (λ (n : ℕ). Rule count n s.views) is kept.2 in (
      drawn me.0 found,
      keeps,
      tt,
      draw_kept count id me s found untold alive words rule at,
      record { becomes = refl; behind = above_word count id me.0 found s.views at rule },
    )

pub claims_below : (count number : ℕ) (old new : ClaimSeat) → (view_of old).count ≡ count → was_told old ≡ false → number < count → Draws old.seat.me number new.seat.me → Claimed count number old new
claims_below count number old new counted untold below draws =
    let view : View = view_of old in
    let after : view_of new ≡ also_claims view number = ap (λ (me : Me (Unit {0}) View). me.0) draws.becomes ∙ taken view (omega (arith, below, counted)) in
    let list : claimed new ≡ claimed (old) ++ number ∷ [] = ap (λ (v : View). v.claimed) after in
    record {
      below = below;
      behind = draws.behind;
      last = ap above list ∙ above_push (claimed old) number draws.behind;
      claimed = list;
      before = untold;
      told = ap (λ (v : View). v.told) after ∙ untold;
      over = ap (λ (v : View). v.over) after;
    }
  where
    taken : (view : View) → number < view.count → drawn view number ≡ also_claims view number
    taken view less = rw (lt-ltb number view.count less) refl

-- ---- split and join

pub allows_split : (count id : ℕ) (v : View) → v.told ≡ false → 2 ≤ v.parts → Splits (Kept count) id v (less_a_part v) (fresh v.count)
allows_split count id v untold some_parts s kept at = (kept.0, kept.1, splits count id v kept.0 s.views untold some_parts at kept.2)

pub allows_join : (count id : ℕ) (v : View) (other : ℕ) (w : View) → 0 < v.parts → 0 < w.parts → Joins (Kept count) id v other w (both v w) spent
allows_join count id v other w alive others_alive s kept at differs there = (kept.0, kept.1, joins count id v other w kept.0 s.views alive others_alive at differs there kept.2)

-- ---- close

closes_rule : (count id : ℕ) (seat : ClaimSeat) (word : ℕ) (views : List View) → 0 < (view_of seat).parts → get_elem? views id ≡ some (view_of seat) → Rule count word views → Closes count seat word
closes_rule count id seat word views alive at rule =
    let v : View = view_of seat in
    let fit = all_at (Fits count) views id v rule.fits at in
    record {
      once = λ x.
          let most = at_most_sum (λ (view : View). times x view.claimed) views id v at in
          let each = rule.each x in
          let one = once_at_most (min word count) x in
          omega (arith, most, each, one);
      below = below_word count id v word views at rule;
      whole = whole;
      passed = λ is.
          let least = fit.told is alive in
          let most = at_most_sum (λ (view : View). view.over) views id v at in
          let over = rule.over in
          omega (arith, least, most, over);
      each = λ all is x below.
          let least = fit.told is alive in
          let most = at_most_sum (λ (view : View). view.over) views id v at in
          let over = rule.over in
          whole all x (omega (arith, least, most, over, below));
      over = λ all.
          let parts = rule.parts in
          let alone = sum_alone (λ (view : View). view.over) (λ view. view.parts) views id v (λ k d lt none. let most = (rule.fits k d lt).within in omega (arith, none, most)) at (omega (arith, parts, all)) in
          let over = rule.over in
          omega (arith, alone, over);
      bounded = word_at_most count word views rule;
    }
  where
    whole : parts seat ≡ all_parts → (x : ℕ) → x < min word count → times x (claimed seat) ≡ 1
    whole all x below =
        let parts = rule.parts in
        let alone = sum_alone (λ (view : View). times x view.claimed) (λ view. view.parts) views id (view_of seat) (λ k d lt none. ap (times x) ((rule.fits k d lt).spent none)) at (omega (arith, parts, all)) in
        let each = rule.each x in
        let one = once_yes (min word count) x below in
        omega (arith, alone, each, one)

pub closes : (count id : ℕ) (seat : ClaimSeat) (word : ℕ) (words : List ℕ) (slots : List (Unit {0})) → 0 < (view_of seat).parts → Final (Seen (Kept count) id (view_of seat)) words slots → get_elem? words 0 ≡ some word → Closes count seat word
closes count id seat word words slots alive final here =
    let s = final.0 in
    let kept = final.1.0 in
    let same : kept.0 ∷ [] ≡ words = sym kept.1 ∙ final.2 in
    let is : kept.0 ≡ word = some-injective kept.0 word (ap (λ (ws : List ℕ). get_elem? ws 0) same ∙ here) in
    closes_rule count id seat word s.views alive final.1.1 (subst (λ (n : ℕ). Rule count n s.views) is kept.2)
