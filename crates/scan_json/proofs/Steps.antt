-- The items of a list, one at a time.
use Rattle.std.proofs.Common.{◌≡◌, ℕ, zero, suc, ◌-◌, ◌<◌, ◌≤◌, List, [], ◌∷◌, length, Option, Some, None, refl, sym, ap, ◌∙◌, arith}
use Rattle.json.specs.Token.{Token}
use Rattle.json.specs.Json as json
use Rattle.json.specs.Json.{Parse, parse_map, after_end_array, items_step, items, value}
use Rattle.json.proofs.Grammar.{Takes, left, skip_value-shorter}
use Rattle.serde_json.specs.Data.{Data, Items, no_items, item}
use Rattle.serde_json.specs.Read.{of_json, of_items, converted}
use Rattle.scan_json.specs.Reading.{read_value, read_items}
use Rattle.scan_json.proofs.Turns.{converted_some, item_read, item_refused, items_over, read_some}

-- ---- the number that bounds the turns plays no part

module _ (p : Parse json.Json) (takes : Takes p) where
  turn : (n m : ℕ) (ts : List Token) (end : Option (List Token)) (o : Option (json.Json × List Token)) → ((q : json.Json × List Token) → o ≡ Some q → items p n q.1 ≡ items p m q.1)
      → end ≡ after_end_array ts → o ≡ p ts → items_step p (items p n) ts end ≡ items_step p (items p m) ts end
  turn n m ts (Some rest) o same is_end is = refl
  turn n m ts None None same is_end is = rw (← is) refl
  turn n m ts None (Some q) same is_end is = rw (← is) (ap (parse_map (json.item q.0)) (same q refl))

  nothing : (o : Option (json.Json × List Token)) → p [] ≡ o → o ≡ None
  nothing None e = refl
  nothing (Some q) e = let less = takes [] q.1 (ap left e) in absurd (omega (arith, less))

  at_end : (n : ℕ) → items p n [] ≡ None
  unfolding items
  at_end zero = refl
  at_end (suc n) = rw (nothing (p []) refl) refl

  pub same_items : (n m : ℕ) (ts : List Token) → length ts ≤ n → length ts ≤ m → items p n ts ≡ items p m ts
  unfolding items
  same_items zero m [] enough too = sym (at_end m)
  same_items zero m (t ∷ ts) enough too = absurd (omega arith)
  same_items (suc n) zero [] enough too = at_end (suc n)
  same_items (suc n) zero (t ∷ ts) enough too = absurd (omega arith)
  same_items (suc n) (suc m) ts enough too =
      turn n m ts (after_end_array ts) (p ts) (λ q is. let less = takes ts q.1 (ap left is) in same_items n m q.1 (omega (arith, less)) (omega (arith, less))) refl refl

-- ---- one item, and the end

pub value_shorter : (depth : ℕ) (ts r : List Token) (d : Data) → read_value depth ts ≡ Some (d, r) → length r < length ts
value_shorter depth ts r d read = let j = converted_some of_json (value depth ts) d r read in skip_value-shorter depth ts r (ap left j.1)

pub list_end : (depth : ℕ) (ts r : List Token) → after_end_array ts ≡ Some r → read_items depth ts ≡ Some (no_items, r)
list_end depth ts r over = items_over (value depth) (length ts) ts r (omega arith) over

pub list_item : (depth : ℕ) (ts r : List Token) (d : Data) → after_end_array ts ≡ None → read_value depth ts ≡ Some (d, r) → read_items depth ts ≡ parse_map (item d) (read_items depth r)
list_item depth ts r d going read =
    let less = value_shorter depth ts r d read in
    let same = same_items (value depth) (skip_value-shorter depth) (length ts - 1) (length r) r (omega (arith, less)) (omega arith) in
    item_read (value depth) (length ts) ts r d (omega (arith, less)) going read ∙ ap (λ o. parse_map (item d) (converted of_items o)) same

pub no_list : (depth : ℕ) (ts : List Token) → after_end_array ts ≡ None → read_value depth ts ≡ None → read_items depth ts ≡ None
no_list depth ts going none = item_refused (value depth) (length ts) ts going none

-- the list doesn't end before an item
pub some_item : (depth : ℕ) (ts r : List Token) (ds : Items) → after_end_array ts ≡ None → read_items depth ts ≡ Some (ds, r) → (d : Data) × (rest : Items) × (ds ≡ item d rest)
some_item depth ts r ds going read = tested (read_value depth ts) refl
  where
    tested : (o : Option (Data × List Token)) → read_value depth ts ≡ o → (d : Data) × (rest : Items) × (ds ≡ item d rest)
    tested None e = let none = no_list depth ts going e in absurd cc
    tested (Some q) e = let rest = read_some (item q.0) (read_items depth q.1) ds r (sym (list_item depth ts q.1 q.0 going e) ∙ read) in (q.0, rest.0, sym rest.2)

pub item_after : (depth : ℕ) (ts r : List Token) (ds : Items) → after_end_array ts ≡ None → read_items depth ts ≡ Some (ds, r) → (d : Data) × (rest : Items) × (read_items depth ts ≡ Some (item d rest, r))
item_after depth ts r ds going read = let first = some_item depth ts r ds going read in (first.0, first.1, read ∙ ap (λ (all : Items). Some (all, r)) first.2)
