-- Each step on the bound's word keeps its rule.
use Rattle.std.proofs.Common.{◌≡◌, ℕ, ◌<◌, ◌≤◌, List, [], ◌∷◌, ◌++◌, set, refl, sym, ◌∙◌, arith}
use Rattle.std.specs.Prelude.{min, flat_map}
use Rattle.std.specs.List.{All}
use Rattle.std.proofs.lemmas.List.Elements.{All-set, All-append, All-cons, All-nil}
use Rattle.std.proofs.lemmas.List.Sums.{sum_by_push}
use mathlib.Core.Option.{some}
use lib.ListN.{get_elem?}
use Rattle.atomic_table.proofs.Lists.{set_else}
use Rattle.vx_bound.specs.declared.views.View.{View}
use Rattle.vx_bound.specs.Views.{fresh, less_a_part, both, spent, loaded, offered}
use Rattle.vx_bound.specs.Rules.{Fits, Rule}
use Rattle.vx_bound.proofs.Leasts.{at_most_first, after_both, at_most_each, own, total, total_push, total_at_most, total_set}
use Rattle.vx_bound.proofs.Seats.{sum_set, all_at, set_there}

-- ---- what the rule says of the word

pub word_at_first : (key word : ℕ) (views : List View) → Rule key word views → word ≤ key
word_at_first key word views rule =
    let most = at_most_first key (flat_map (λ (view : View). view.offers) views) in
    let bound : word ≡ total key views = rule.bound in
    omega (arith, most, bound)

pub word_at_offers : (key id : ℕ) (v : View) (word : ℕ) (views : List View) → get_elem? views id ≡ some v → Rule key word views → All (λ offer. word ≤ offer) v.offers
word_at_offers key id v word views at rule =
    let most = total_at_most key views id v at in
    let bound : word ≡ total key views = rule.bound in
    at_most_each word key v.offers (omega (arith, most, bound))

pub word_at_seen : (key id : ℕ) (v : View) (word : ℕ) (views : List View) → 0 < v.parts → get_elem? views id ≡ some v → Rule key word views → word ≤ v.seen
word_at_seen key id v word views alive at rule = (all_at (Fits key word) views id v rule.fits at).seen alive

-- where the word falls, all views fit as before
still_fit : (key word less : ℕ) (views : List View) → less ≤ word → All (Fits key word) views → All (Fits key less) views
still_fit key word less views falls fits k d lt =
    let fit = fits k d lt in
    record { first = fit.first; seen = λ alive. let seen = fit.seen alive in omega (arith, seen, falls); spent = fit.spent }

-- ---- load

pub loads : (key id : ℕ) (v : View) (word : ℕ) (views : List View) → 0 < v.parts → get_elem? views id ≡ some v → Rule key word views → Rule key word (set views id (loaded v word))
loads key id v word views alive at rule =
    let fit = all_at (Fits key word) views id v rule.fits at in
    let w : View = loaded v word in
    record {
      bound =
          let before : word ≡ total key views = rule.bound in
          let change = total_set key views id v w at in
          let one = total_at_most key views id v at in
          let two = total_at_most key (set views id w) id w (set_there views id v w at) in
          omega (arith, before, change, one, two);
      parts = let change = sum_set (λ (view : View). view.parts) views id v w at in let before = rule.parts in omega (arith, change, before);
      fits = All-set (Fits key word) views id w record {
        first = fit.first;
        seen = λ some_part. omega arith;
        spent = fit.spent;
      } rule.fits;
    }

-- ---- offer

pub offers : (key id : ℕ) (v : View) (word offer : ℕ) (views : List View) → 0 < v.parts → get_elem? views id ≡ some v → Rule key word views → Rule key (min word offer) (set views id (offered v word offer))
offers key id v word offer views alive at rule =
    let fit = all_at (Fits key word) views id v rule.fits at in
    let w : View = offered v word offer in
    record {
      bound =
          let before : word ≡ total key views = rule.bound in
          let change = total_set key views id v w at in
          let one = total_at_most key views id v at in
          let two = total_at_most key (set views id w) id w (set_there views id v w at) in
          let more : own key w ≡ min (own key v) (min offer key) = after_both key v.offers (offer ∷ []) in
          let most = at_most_first key v.offers in
          omega (arith, before, change, one, two, more, most);
      parts = let change = sum_set (λ (view : View). view.parts) views id v w at in let before = rule.parts in omega (arith, change, before);
      fits = All-set (Fits key (min word offer)) views id w record {
        first = fit.first;
        seen = λ some_part. omega arith;
        spent = λ none. absurd (omega (arith, none, alive));
      } (still_fit key word (min word offer) views (omega arith) rule.fits);
    }

-- ---- split

pub splits : (key id : ℕ) (v : View) (word : ℕ) (views : List View) → 2 ≤ v.parts → get_elem? views id ≡ some v → Rule key word views → Rule key word (set views id (less_a_part v) ++ fresh v ∷ [])
splits key id v word views some_parts at rule =
    let fit = all_at (Fits key word) views id v rule.fits at in
    let w : View = less_a_part v in
    let alive : 0 < v.parts = omega (arith, some_parts) in
    record {
      bound =
          let before : word ≡ total key views = rule.bound in
          let change = total_set key views id v w at in
          let one = total_at_most key views id v at in
          let two = total_at_most key (set views id w) id w (set_there views id v w at) in
          let push = total_push key (set views id w) (fresh v) in
          let most = word_at_first key word views rule in
          omega (arith, before, change, one, two, push, most);
      parts =
          let change = sum_set (λ (view : View). view.parts) views id v w at in
          let push = sum_by_push (λ (view : View). view.parts) (set views id w) (fresh v) in
          let before = rule.parts in
          omega (arith, change, push, before, some_parts);
      fits = All-append (Fits key word) (set views id w) (fresh v ∷ []) (All-set (Fits key word) views id w record {
        first = λ some_part. fit.first alive;
        seen = λ some_part. fit.seen alive;
        spent = λ no_part. absurd (omega (arith, no_part, some_parts));
      } rule.fits) (All-cons (Fits key word) (fresh v) [] record {
        first = λ some_part. fit.first alive;
        seen = λ some_part. fit.seen alive;
        spent = λ no_part. refl;
      } (All-nil (Fits key word)));
    }

-- ---- join

pub joins : (key id : ℕ) (v : View) (other : ℕ) (w : View) (word : ℕ) (views : List View) → 0 < v.parts → 0 < w.parts → get_elem? views id ≡ some v → ¬ (other ≡ id) → get_elem? (set views id (both v w)) other ≡ some w
    → Rule key word views → Rule key word (set (set views id (both v w)) other spent)
joins key id v other w word views alive others_alive at differs there rule =
    let was : get_elem? views other ≡ some w = sym (set_else views id other (both v w) differs) ∙ there in
    let fit = all_at (Fits key word) views id v rule.fits at in
    let fit_other = all_at (Fits key word) views other w rule.fits was in
    let mid : List View = set views id (both v w) in
    let mid_at : get_elem? mid id ≡ some (both v w) = set_there views id v (both v w) at in
    let still : get_elem? (set mid other spent) id ≡ some (both v w) = set_else mid other id spent (λ same. differs (sym same)) ∙ mid_at in
    record {
      bound =
          let before : word ≡ total key views = rule.bound in
          let first = total_set key views id v (both v w) at in
          let second = total_set key mid other w spent there in
          let more : own key (both v w) ≡ min (own key v) (own key w) = after_both key v.offers w.offers in
          let one = total_at_most key views id v at in
          let two = total_at_most key views other w was in
          let three = total_at_most key mid id (both v w) mid_at in
          let four = total_at_most key (set mid other spent) id (both v w) still in
          let most = word_at_first key word views rule in
          omega (arith, before, first, second, more, one, two, three, four, most);
      parts =
          let first = sum_set (λ (view : View). view.parts) views id v (both v w) at in
          let second = sum_set (λ (view : View). view.parts) mid other w spent there in
          let before = rule.parts in
          omega (arith, first, second, before);
      fits = All-set (Fits key word) mid other spent record {
        first = λ some_part. absurd (omega (arith, some_part));
        seen = λ some_part. absurd (omega (arith, some_part));
        spent = λ no_part. refl;
      } (All-set (Fits key word) views id (both v w) record {
        first = λ some_part. fit.first alive;
        seen = λ some_part. let one = fit.seen alive in let two = fit_other.seen others_alive in omega (arith, one, two);
        spent = λ no_part. absurd (omega (arith, no_part, alive));
      } rule.fits);
    }
