-- A list whose items are read one after another, by a form.
use Rattle.std.proofs.Common.{◌≡◌, ℕ, ◌-◌, ◌<◌, ◌≤◌, List, [], ◌∷◌, ◌++◌, length, map, Option, Some, None, option_map, refl, sym, ap, ◌∙◌, arith}
use Rattle.std.proofs.lemmas.List.{append-nil, append_assoc, map-append}
use Rattle.json.specs.Token.{Token}
use Rattle.json.specs.Json.{parse_map, after_end_array, items, value}
use Rattle.serde_json.specs.Data.{Data, Items, item}
use Rattle.serde_json.specs.Read.{of_items, converted}
use Rattle.scan_json.specs.Forms.{each_form, followed_by, with_first}
use Rattle.scan_json.specs.Reading.{read_value, read_items, reads}
use Rattle.scan_json.proofs.Turns.{item_read, item_refused, items_over, read_some, read_none}

-- of the list that begins at `start`, the items before `now` are read, and are what was made
pub record IsListRead {X : Type 0} (form : Data → Option X) (depth : ℕ) (start : List Token) (made : Option (List X)) (now : List Token) : Type 0 where
  pub bound : ℕ
  pub enough : length now ≤ bound
  pub same : parse_map (each_form form) (read_items depth start) ≡ parse_map (followed_by made) (parse_map (each_form form) (converted of_items (items (value depth) bound now)))
  pub within : length now ≤ length start

nothing_before : {X : Type 0} (o : Option (List X)) → o ≡ followed_by (Some []) o
nothing_before None = refl
nothing_before (Some xs) = refl

begun : {X : Type 0} (o : Option (Option (List X) × List Token)) → o ≡ parse_map (followed_by (Some [])) o
begun None = refl
begun (Some p) = ap (λ q. Some (q, p.1)) (nothing_before p.0)

one_first : {X : Type 0} (xs : List X) (x : X) (rest : Option (List X)) → followed_by (Some xs) (with_first (Some x) rest) ≡ followed_by (Some (xs ++ x ∷ [])) rest
one_first xs x None = refl
one_first xs x (Some ys) = ap Some (sym (append_assoc xs (x ∷ []) ys))

moved : {X : Type 0} (made : Option (List X)) (x : Option X) (rest : Option (List X)) → followed_by made (with_first x rest) ≡ followed_by (followed_by made (option_map (λ v. v ∷ []) x)) rest
moved None x rest = refl
moved (Some xs) None rest = refl
moved (Some xs) (Some x) rest = one_first xs x rest

turned : {X : Type 0} (form : Data → Option X) (made : Option (List X)) (d : Data) (o : Option (Items × List Token))
    → parse_map (followed_by made) (parse_map (each_form form) (parse_map (item d) o)) ≡ parse_map (followed_by (followed_by made (option_map (λ v. v ∷ []) (form d)))) (parse_map (each_form form) o)
turned form made d None = refl
turned form made d (Some p) = ap (λ q. Some (q, p.1)) (moved made (form d) (each_form form p.0))

pub list_begun : {X : Type 0} (form : Data → Option X) (depth : ℕ) (ts : List Token) → IsListRead form depth ts (Some []) ts
list_begun form depth ts = record { bound = length ts; enough = omega arith; same = begun _; within = omega arith }

module _ {X : Type 0} (form : Data → Option X) (depth : ℕ) (start : List Token) (made : Option (List X)) (ts : List Token) (so_far : IsListRead form depth start made ts) where
  pub item_joined : (r : List Token) (x : Option X) → after_end_array ts ≡ None → reads form depth ts ≡ Some (x, r) → length r < length ts
      → IsListRead form depth start (followed_by made (option_map (λ v. v ∷ []) x)) r
  item_joined r x going read less =
      let d = read_some form (read_value depth ts) x r read in
      let turn = item_read (value depth) so_far.bound ts r d.0 (omega (arith, so_far.enough)) going d.1 in
      record {
        bound = so_far.bound - 1;
        enough = omega (arith, so_far.enough);
        same = so_far.same ∙ ap (λ o. parse_map (followed_by made) (parse_map (each_form form) o)) turn ∙ turned form made d.0 _
            ∙ ap (λ o. parse_map (followed_by (followed_by made (option_map (λ v. v ∷ []) o))) (parse_map (each_form form) (converted of_items (items (value depth) (so_far.bound - 1) r)))) d.2;
        within = omega (arith, so_far.within);
      }

  pub list_over : (r : List Token) → after_end_array ts ≡ Some r → parse_map (each_form form) (read_items depth start) ≡ Some (followed_by made (Some []), r)
  list_over r over = so_far.same ∙ ap (λ o. parse_map (followed_by made) (parse_map (each_form form) o)) (items_over (value depth) so_far.bound ts r so_far.enough over)

  pub list_refused : after_end_array ts ≡ None → read_value depth ts ≡ None → read_items depth start ≡ None
  list_refused going none =
      read_none (each_form form) _ (so_far.same ∙ ap (λ o. parse_map (followed_by made) (parse_map (each_form form) o)) (item_refused (value depth) so_far.bound ts going none))

pub no_more : {X : Type 0} (made : Option (List X)) → followed_by made (Some []) ≡ made
no_more None = refl
no_more (Some xs) = ap Some (append-nil xs)

-- ---- the same of what is seen of the items

pub seen_joined : {A B : Type 0} (see : A → B) (made : Option (List A)) (x : Option A)
    → option_map (map see) (followed_by made (option_map (λ v. v ∷ []) x)) ≡ followed_by (option_map (map see) made) (option_map (λ v. v ∷ []) (option_map see x))
seen_joined see None x = refl
seen_joined see (Some xs) None = refl
seen_joined see (Some xs) (Some x) = ap Some (map-append see xs (x ∷ []))

-- a list that has been read, by its items and by what is seen of them
pub list_done : {X : Type 0} (form : Data → Option X) (depth : ℕ) (start : List Token) (made : Option (List X)) (ts r : List Token) → IsListRead form depth start made ts → after_end_array ts ≡ Some r → parse_map (each_form form) (read_items depth start) ≡ Some (made, r)
list_done form depth start made ts r so_far over = list_over form depth start made ts so_far r over ∙ ap (λ o. Some (o, r)) (no_more made)

seen_twice : {V A B : Type 0} (items : V → List A) (see : A → B) (o : Option V) → option_map (λ v. map see (items v)) o ≡ option_map (map see) (option_map items o)
seen_twice items see None = refl
seen_twice items see (Some v) = refl

-- what is seen of the items with one more
pub list_joined : {V A B : Type 0} (items : V → List A) (see : A → B) (made all : Option V) (x : Option A) → option_map items all ≡ followed_by (option_map items made) (option_map (λ v. v ∷ []) x)
    → option_map (λ v. map see (items v)) all ≡ followed_by (option_map (λ v. map see (items v)) made) (option_map (λ v. v ∷ []) (option_map see x))
list_joined items see made all x e =
    seen_twice items see all ∙ ap (option_map (map see)) e ∙ seen_joined see (option_map items made) x ∙ ap (λ m. followed_by m (option_map (λ v. v ∷ []) (option_map see x))) (sym (seen_twice items see made))
