-- What each call on the bound asks of the table, and what follows for its caller.
use Rattle.std.proofs.Common.{◌≡◌, ℕ, ◌<◌, ◌≤◌, List, [], ◌∷◌, set, refl, sym, ap, ◌∙◌, subst, arith}
use Rattle.std.specs.Prelude.{min, slice_index}
use mathlib.Core.Option.{some, some-injective}
use lib.ListN.{get_elem?}
use Rattle.atomic_table.specs.Table.{Me, Allows, Splits, Joins, Final, Seen, keeps}
use Rattle.vx_bound.specs.declared.views.View.{View}
use Rattle.vx_bound.specs.declared.bounds.BoundSeat.{BoundSeat}
use Rattle.vx_bound.specs.Views.{fresh, less_a_part, both, spent, loaded, offered, Loads, Offers}
use Rattle.vx_bound.specs.Rules.{Rule, Kept}
use Rattle.vx_bound.specs.Bounds.{view_of, Closes}
use Rattle.vx_bound.proofs.Leasts.{total, alone}
use Rattle.vx_bound.proofs.BoundSteps.{word_at_offers, word_at_seen, loads, offers, splits, joins}

-- ---- load and offer

pub allows_load : (key slots id : ℕ) (me : Me (Unit {0}) View) → 0 < me.0.parts → Allows (Kept key) slots id me 0 (λ n. n) (Loads me)
allows_load key slots id me alive s kept homes at small =
    let found : ℕ = slice_index s.words 0 in
    let is : kept.0 ≡ found = sym (ap (λ (ws : List ℕ). slice_index ws 0) kept.1) in
    let words : s.words ≡ found ∷ [] = kept.1 ∙ ap (λ (n : ℕ). n ∷ []) is in
    let rule : Rule key found s.views = subst (λ (n : ℕ). Rule key n s.views) is kept.2 in (
      loaded me.0 found,
      keeps,
      tt,
      (found, ap (λ (ws : List ℕ). set ws 0 found) words, loads key id me.0 found s.views alive at rule),
      record { becomes = refl; seen = word_at_seen key id me.0 found s.views alive at rule; offers = word_at_offers key id me.0 found s.views at rule },
    )

pub allows_offer : (key slots id offer : ℕ) (me : Me (Unit {0}) View) → 0 < me.0.parts → Allows (Kept key) slots id me 0 (λ n. min n offer) (Offers offer me)
allows_offer key slots id offer me alive s kept homes at small =
    let found : ℕ = slice_index s.words 0 in
    let is : kept.0 ≡ found = sym (ap (λ (ws : List ℕ). slice_index ws 0) kept.1) in
    let words : s.words ≡ found ∷ [] = kept.1 ∙ ap (λ (n : ℕ). n ∷ []) is in
    let rule : Rule key found s.views = subst (λ (n : ℕ). Rule key n s.views) is kept.2 in (
      offered me.0 found offer,
      keeps,
      tt,
      (min found offer, ap (λ (ws : List ℕ). set ws 0 (min found offer)) words, offers key id me.0 found offer s.views alive at rule),
      record { becomes = refl; seen = word_at_seen key id me.0 found s.views alive at rule; offers = word_at_offers key id me.0 found s.views at rule },
    )

-- ---- split and join

pub allows_split : (key id : ℕ) (v : View) → 2 ≤ v.parts → Splits (Kept key) id v (less_a_part v) (fresh v)
allows_split key id v some_parts s kept at = (kept.0, kept.1, splits key id v kept.0 s.views some_parts at kept.2)

pub allows_join : (key id : ℕ) (v : View) (other : ℕ) (w : View) → 0 < v.parts → 0 < w.parts → Joins (Kept key) id v other w (both v w) spent
allows_join key id v other w alive others_alive s kept at differs there = (kept.0, kept.1, joins key id v other w kept.0 s.views alive others_alive at differs there kept.2)

-- ---- close

closes_rule : (key id : ℕ) (seat : BoundSeat) (word : ℕ) (views : List View) → 0 < (view_of seat).parts → get_elem? views id ≡ some (view_of seat) → Rule key word views → Closes key seat word
closes_rule key id seat word views alive at rule =
    let v : View = view_of seat in
    record {
      seen = word_at_seen key id v word views alive at rule;
      offered = word_at_offers key id v word views at rule;
      whole = λ all.
          let parts = rule.parts in
          let bound : word ≡ total key views = rule.bound in
          bound ∙ alone key views id v (λ k d lt. (rule.fits k d lt).spent) at (omega (arith, parts, all));
    }

pub closes : (key id : ℕ) (seat : BoundSeat) (word : ℕ) (words : List ℕ) (slots : List (Unit {0})) → 0 < (view_of seat).parts → Final (Seen (Kept key) id (view_of seat)) words slots → get_elem? words 0 ≡ some word → Closes key seat word
closes key id seat word words slots alive final here =
    let s = final.0 in
    let kept = final.1.0 in
    let same : kept.0 ∷ [] ≡ words = sym kept.1 ∙ final.2 in
    let is : kept.0 ≡ word = some-injective kept.0 word (ap (λ (ws : List ℕ). get_elem? ws 0) same ∙ here) in
    closes_rule key id seat word s.views alive final.1.1 (subst (λ (n : ℕ). Rule key n s.views) is kept.2)
