-- Lists of so many items, each of which was read by its form.
use Rattle.std.proofs.Common.{◌≡◌, ℕ, List, Option, Some, None, ap, ap₂, ◌∙◌}
use Rattle.json.specs.Token.{Token}
use Rattle.json.specs.Json.{parse_map, after_end_array}
use Rattle.serde_json.specs.Data.{Data, Items, no_items, item}
use Rattle.scan_json.specs.Reading.{read_items, read_value, reads, reads_items}
use Rattle.scan_json.proofs.Parts.{of_end, of_item}
use Rattle.scan_json.proofs.Steps.{list_item}
use Rattle.scan_json.proofs.Turns.{read_some}

-- after an item that was read, the others are no list
pub rest_none : {X : Type 0} (form : Data → X) (depth : ℕ) (ts r : List Token) (x : X) → after_end_array ts ≡ None → reads form depth ts ≡ Some (x, r) → read_items depth r ≡ None → read_items depth ts ≡ None
rest_none form depth ts r x going read none =
    let d = read_some form (read_value depth ts) x r read in
    list_item depth ts r d.0 going d.1 ∙ ap (parse_map (item d.0)) none

-- one item and no more
pub one_only : {X Y : Type 0} (form : Data → X) (all : Items → Y) (y : Y) → ((d : Data) → all (item d no_items) ≡ y) → (depth : ℕ) (ts r end : List Token) (x : X) → after_end_array ts ≡ None → reads form depth ts ≡ Some (x, r) → after_end_array r ≡ Some end
    → reads_items all depth ts ≡ Some (y, end)
one_only form all y law depth ts r end x going read over =
    let one = of_item form all depth ts r x going read in
    one.2 ∙ of_end (λ ds. all (item one.0 ds)) depth r end over ∙ ap (λ z. Some (z, end)) (law one.0)

module _ {A B Y : Type 0} (f : Data → A) (g : Data → B) (all : Items → Y) (depth : ℕ) (ts r s end : List Token) (a : A) (b : B) (going : after_end_array ts ≡ None) (first : reads f depth ts ≡ Some (a, r)) (more : after_end_array r ≡ None) (second : reads g depth r ≡ Some (b, s)) where
  -- two items and no more
  pub both_read : (made : A → B → Y) → ((d e : Data) → all (item d (item e no_items)) ≡ made (f d) (g e)) → read_items depth s ≡ Some (no_items, end) → reads_items all depth ts ≡ Some (made a b, end)
  both_read made law ends =
      let one = of_item f all depth ts r a going first in
      let two = of_item g (λ ds. all (item one.0 ds)) depth r s b more second in
      one.2 ∙ two.2 ∙ ap (parse_map (λ ds. all (item one.0 (item two.0 ds)))) ends ∙ ap (λ z. Some (z, end)) (law one.0 two.0 ∙ ap₂ made one.1 two.1)

  -- two items and others
  pub both_and_more : (y : Y) → ((d e o : Data) (ds : Items) → all (item d (item e (item o ds))) ≡ y) → (o : Data) × (ds : Items) × (read_items depth s ≡ Some (item o ds, end)) → reads_items all depth ts ≡ Some (y, end)
  both_and_more y law rest =
      let one = of_item f all depth ts r a going first in
      let two = of_item g (λ ds. all (item one.0 ds)) depth r s b more second in
      one.2 ∙ two.2 ∙ ap (parse_map (λ ds. all (item one.0 (item two.0 ds)))) rest.2 ∙ ap (λ z. Some (z, end)) (law one.0 two.0 rest.0 rest.1)

  -- no list after two items
  pub both_none : read_items depth s ≡ None → read_items depth ts ≡ None
  both_none none = rest_none f depth ts r a going first (rest_none g depth r s b more second none)
