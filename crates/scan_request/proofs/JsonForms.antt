-- Numbers and lists of JSON, from what reading them gave.
use Rattle.std.proofs.Common.{◌≡◌, ℕ, suc, ◌≤◌, Bool, true, false, cond, leb, List, [], ◌∷◌, length, map, Option, Some, None, option_map, refl, sym, ap, ◌∙◌, arith}
use Rattle.std.proofs.lemmas.Bool.{leb-true}
use Rattle.std.proofs.lemmas.List.{length-map}
use Rattle.json.specs.Token.{Token}
use Rattle.json.specs.Json.{parse_map}
use Rattle.serde_json.specs.Data.{Data, array, Items, no_items, item}
use Rattle.serde_json.specs.Find.{as_array}
use Rattle.serde_json.specs.Events.{items_len}
use Rattle.scan_json.specs.Forms.{each_form, with_first}
use Rattle.scan_json.specs.Reading.{read_items, read_value, reads}
use Rattle.scan_json.proofs.Turns.{read_inside, read_some}
use Rattle.scan_words.specs.Words.{◌>>=◌}
use Rattle.scan_request.specs.JsonForms.{few_of, list_form, most_items}

abbrev pub here : {A : Type 0} → A → Option A
here x = Some x

abbrev pick : {A : Type 0} → A → Option A → A
pick d None = d
pick d (Some a) = a

pub some_is : {A : Type 0} (x y : A) → here x ≡ here y → x ≡ y
some_is x y e = ap (pick x) e

-- ---- how many items a list has

one_more : {X : Type 0} (o : Option X) (more : Option (List X)) (xs : List X) (n : ℕ) → ((ys : List X) → more ≡ Some ys → length ys ≡ n) → with_first o more ≡ Some xs → length xs ≡ suc n
one_more None more xs n counts e = absurd cc
one_more (Some x) None xs n counts e = absurd cc
one_more (Some x) (Some ys) xs n counts e = ap length (sym (some_is (x ∷ ys) xs e)) ∙ ap suc (counts ys refl)

each_count : {X : Type 0} (form : Data → Option X) (items : Items) (xs : List X) → each_form form items ≡ Some xs → length xs ≡ items_len items
each_count form no_items xs e = ap length (sym (some_is [] xs e))
each_count form (item d ds) xs e = one_more (form d) (each_form form ds) xs (items_len ds) (λ ys is. each_count form ds ys is) e

few_each : {X : Type 0} (form : Data → Option X) (items : Items) (b : Bool) (xs : List X) → leb (items_len items) most_items ≡ b → (cond b (here items) None >>= each_form form) ≡ Some xs → length xs ≤ most_items
few_each form items true xs test e = omega (arith, leb-true (items_len items) most_items test, each_count form items xs e)
few_each form items false xs test e = absurd cc

few_array : {X : Type 0} (form : Data → Option X) (o : Option Items) (xs : List X) → (o >>= λ items. cond (leb (items_len items) most_items) (Some items) None) >>= each_form form ≡ Some xs → length xs ≤ most_items
few_array form None xs e = absurd cc
few_array form (Some items) xs e = few_each form items (leb (items_len items) most_items) xs refl e

-- a list of a request has few items
pub list_few : {X : Type 0} (form : Data → Option X) (o : Option Data) (xs : List X) → (o >>= list_form form) ≡ Some xs → length xs ≤ most_items
list_few form None xs e = absurd cc
list_few form (Some d) xs e = few_array form (as_array d) xs e

-- ---- a list whose items were counted after they were read

few_at : {X : Type 0} (form : Data → Option X) (ds : Items) (o : Option (List X)) (b : Bool) → each_form form ds ≡ o → leb (items_len ds) most_items ≡ b → few_of o ≡ (cond b (here ds) None >>= each_form form)
few_at form ds None true e test = sym e
few_at form ds None false e test = refl
few_at form ds (Some xs) b e test = rw (ap (λ n. leb n most_items) (each_count form ds xs e) ∙ test) (by b)
  where
    by : (b : Bool) → cond b (here xs) None ≡ (cond b (here ds) None >>= each_form form)
    by true = sym e
    by false = refl

few_by : {X : Type 0} (form : Data → Option X) (ds : Items) → few_of (each_form form ds) ≡ list_form form (array ds)
few_by form ds = few_at form ds (each_form form ds) (leb (items_len ds) most_items) refl refl

pub few_read : {X : Type 0} (form : Data → Option X) (depth inner : ℕ) (old mid r : List Token) (made : Option (List X)) → read_value depth old ≡ parse_map array (read_items inner mid)
    → parse_map (each_form form) (read_items inner mid) ≡ Some (made, r) → reads (list_form form) depth old ≡ Some (few_of made, r)
few_read form depth inner old mid r made is e =
    let ds = read_some (each_form form) (read_items inner mid) made r e in
    read_inside (list_form form) array (read_items inner mid) (read_value depth old) (Some (few_of made, r)) is
    (ap (parse_map (λ items. list_form form (array items))) ds.1 ∙ ap (λ (o : Option (List _)). Some (o, r)) (sym (few_by form ds.0) ∙ ap few_of ds.2))

-- the same of what is seen of the items
few_seen : {A B : Type 0} (see : A → B) (made : Option (List A)) → option_map (map see) (few_of made) ≡ few_of (option_map (map see) made)
few_seen see None = refl
few_seen see (Some xs) = rw (length-map xs see) (by (leb (length xs) most_items))
  where
    by : (b : Bool) → option_map (map see) (cond b (Some xs) None) ≡ cond b (Some (map see xs)) None
    by true = refl
    by false = refl

seen_twice : {V A B : Type 0} (items : V → List A) (see : A → B) (o : Option V) → option_map (λ v. map see (items v)) o ≡ option_map (map see) (option_map items o)
seen_twice items see None = refl
seen_twice items see (Some v) = refl

pub few_made : {V A B : Type 0} (items : V → List A) (see : A → B) (made few : Option V) → option_map items few ≡ few_of (option_map items made) → option_map (λ v. map see (items v)) few ≡ few_of (option_map (λ v. map see (items v)) made)
few_made items see made few is =
    seen_twice items see few ∙ ap (option_map (map see)) is ∙ few_seen see (option_map items made) ∙ ap few_of (sym (seen_twice items see made))

-- ---- a value that is no list

pub no_items_list : {X : Type 0} (form : Data → Option X) (d : Data) → as_array d ≡ None → list_form form d ≡ None
no_items_list form d none = rw none refl
