-- Values that are of another kind than their form asks for, and texts that differ.
use Rattle.std.proofs.Common.{◌≡◌, ℕ, Bool, true, false, List, Option, Some, None, bytes_eq, refl, ap, ◌∙◌}
use Rattle.std.proofs.lemmas.Slice.Eq.{bytes_eq-Decides}
use Rattle.json.specs.Token.{Token}
use Rattle.json.specs.Json.{parse_map}
use Rattle.serde_json.specs.Data.{Data, array, object, Items, Members}
use Rattle.serde_json.specs.Find.{as_array, as_object}
use Rattle.scan_json.specs.Reading.{read_items, read_members, read_value, reads}
use Rattle.scan_json.proofs.Parts.{of_list, of_object, of_value}
use Rattle.scan_json.proofs.Turns.{read_some}

-- no list
pub not_list : {Y : Type 0} (form : Data → Y) (y : Y) → ((d : Data) → as_array d ≡ None → form d ≡ y) → (depth : ℕ) (old r : List Token) → reads as_array depth old ≡ Some (None, r) → reads form depth old ≡ Some (y, r)
not_list form y law depth old r past =
    let d = read_some as_array (read_value depth old) None r past in
    of_value form depth old r d.0 d.1 ∙ ap (λ z. Some (z, r)) (law d.0 d.2)

-- no object
pub not_object : {Y : Type 0} (form : Data → Y) (y : Y) → ((d : Data) → as_object d ≡ None → form d ≡ y) → (depth : ℕ) (old r : List Token) → reads as_object depth old ≡ Some (None, r) → reads form depth old ≡ Some (y, r)
not_object form y law depth old r past =
    let d = read_some as_object (read_value depth old) None r past in
    of_value form depth old r d.0 d.1 ∙ ap (λ z. Some (z, r)) (law d.0 d.2)

-- a list that has been passed over
pub passed_list : {Y : Type 0} (form : Data → Y) (y : Y) → ((ds : Items) → form (array ds) ≡ y) → (depth inner : ℕ) (old mid r : List Token) → read_value depth old ≡ parse_map array (read_items inner mid)
    → (ds : Items) × (read_items inner mid ≡ Some (ds, r)) → reads form depth old ≡ Some (y, r)
passed_list form y law depth inner old mid r is passed =
    of_list form depth inner old mid is ∙ ap (parse_map (λ ds. form (array ds))) passed.1 ∙ ap (λ z. Some (z, r)) (law passed.0)

-- an object that has been passed over
pub passed_object : {Y : Type 0} (form : Data → Y) (y : Y) → ((ms : Members) → form (object ms) ≡ y) → (depth inner : ℕ) (old mid r : List Token) → read_value depth old ≡ parse_map object (read_members inner mid)
    → (ms : Members) × (read_members inner mid ≡ Some (ms, r)) → reads form depth old ≡ Some (y, r)
passed_object form y law depth inner old mid r is passed =
    of_object form depth inner old mid is ∙ ap (parse_map (λ ms. form (object ms))) passed.1 ∙ ap (λ z. Some (z, r)) (law passed.0)

-- the same by an equal form
pub same_form : {A X : Type 0} (f g : A → X) → ((a : A) → f a ≡ g a) → (o : Option (A × List Token)) → parse_map f o ≡ parse_map g o
same_form f g same None = refl
same_form f g same (Some p) = ap (λ x. Some (x, p.1)) (same p.0)

-- ---- texts

pub apart : (k l : List ℕ) → (k ≡ l → ⊥) → bytes_eq k l ≡ false
apart k l other = tested (bytes_eq k l) refl
  where
    tested : (b : Bool) → bytes_eq k l ≡ b → b ≡ false
    tested true e = absurd (other ((bytes_eq-Decides k l).0 e))
    tested false e = refl
