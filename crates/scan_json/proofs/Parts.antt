-- What a value is by a form, from the brackets that begin it and the parts that were read.
use Rattle.std.proofs.Common.{◌≡◌, ℕ, List, Some, None, ap, ◌∙◌}
use Rattle.json.specs.Token.{Token}
use Rattle.json.specs.Json.{parse_map, after_end_array}
use Rattle.serde_json.specs.Data.{Data, array, object, Items, no_items, item, Members}
use Rattle.scan_json.specs.Reading.{read_items, read_members, read_value, reads, reads_items, reads_members}
use Rattle.scan_json.proofs.Steps.{list_end, list_item}
use Rattle.scan_json.proofs.Turns.{read_some, read_twice}

-- a value that was read whole
pub of_value : {X : Type 0} (form : Data → X) (depth : ℕ) (old r : List Token) (d : Data) → read_value depth old ≡ Some (d, r) → reads form depth old ≡ Some (form d, r)
of_value form depth old r d is = ap (parse_map form) is

-- a list whose items come next
pub of_list : {X : Type 0} (form : Data → X) (depth inner : ℕ) (old mid : List Token) → read_value depth old ≡ parse_map array (read_items inner mid) → reads form depth old ≡ reads_items (λ ds. form (array ds)) inner mid
of_list form depth inner old mid is = ap (parse_map form) is ∙ read_twice form array (read_items inner mid)

pub list_none : (depth inner : ℕ) (old mid : List Token) → read_value depth old ≡ parse_map array (read_items inner mid) → read_items inner mid ≡ None → read_value depth old ≡ None
list_none depth inner old mid is none = is ∙ ap (parse_map array) none

-- an object whose members come next
pub of_object : {X : Type 0} (form : Data → X) (depth inner : ℕ) (old mid : List Token) → read_value depth old ≡ parse_map object (read_members inner mid) → reads form depth old ≡ reads_members (λ ms. form (object ms)) inner mid
of_object form depth inner old mid is = ap (parse_map form) is ∙ read_twice form object (read_members inner mid)

pub object_none : (depth inner : ℕ) (old mid : List Token) → read_value depth old ≡ parse_map object (read_members inner mid) → read_members inner mid ≡ None → read_value depth old ≡ None
object_none depth inner old mid is none = is ∙ ap (parse_map object) none

-- an item that was read by a form is one whose form that is
pub of_item : {X Y : Type 0} (form : Data → X) (all : Items → Y) (depth : ℕ) (ts r : List Token) (x : X) → after_end_array ts ≡ None → reads form depth ts ≡ Some (x, r)
    → (d : Data) × (form d ≡ x) × (reads_items all depth ts ≡ reads_items (λ ds. all (item d ds)) depth r)
of_item form all depth ts r x going read =
    let d = read_some form (read_value depth ts) x r read in
    (d.0, d.2, ap (parse_map all) (list_item depth ts r d.0 going d.1) ∙ read_twice all (item d.0) (read_items depth r))

pub of_end : {Y : Type 0} (all : Items → Y) (depth : ℕ) (ts r : List Token) → after_end_array ts ≡ Some r → reads_items all depth ts ≡ Some (all no_items, r)
of_end all depth ts r over = ap (parse_map all) (list_end depth ts r over)

-- the members of an object that has been read, by a form of all of them
pub of_members : {X : Type 0} (form : Members → X) (depth : ℕ) (start r : List Token) (found : Members) → read_members depth start ≡ Some (found, r) → reads_members form depth start ≡ Some (form found, r)
of_members form depth start r found is = ap (parse_map form) is
