-- The members of a request, as they are put into an object one after another, and what whole texts say.
use Rattle.std.proofs.Common.{◌≡◌, ℕ, ◌+◌, ◌^◌, ◌<◌, ◌||◌, not, Bool, true, false, cond, eqb, codes, List, [], ◌∷◌, Option, Some, None, Result, Ok, Err, MatchResult, option_map, is_some, bytes_eq, refl, sym, ap, ◌∙◌, arith}
use Rattle.std.specs.Option.{option_map_or}
use Rattle.std.specs.Str.{IsUtf8, is_utf8}
use Rattle.std.proofs.lemmas.Bool.{eqb-false, eqb-true}
use Rattle.std.proofs.lemmas.Str.{IsUtf8-from_is_utf8, is_utf8-from_IsUtf8}
use Rattle.json.specs.Json.{parse_map, value}
use Rattle.json.specs.Lex.{tokens}
use Rattle.json.specs.Token.{Token}
use Rattle.serde_json.specs.Data.{Data, object, Members, put}
use Rattle.serde_json.specs.Events.{members_len}
use Rattle.serde_json.specs.Find.{as_object, get_member}
use Rattle.serde_json.specs.Read.{read}
use Rattle.vx_base.specs.declared.locations.SegmentLocation.{SegmentLocation}
use Rattle.vx_expr.specs.Terms.{Term, root}
use Rattle.vx_layout.specs.Nodes.{Node}
use Rattle.scan_json.specs.Members.{AreRising, has_other, is_one_of, present, present_of}
use Rattle.scan_json.specs.Reading.{read_members, read_value, reads}
use Rattle.scan_json.proofs.Names.{HoldsAt, by_name, counted, found_put, neither, no_others, other_count, other_put, some_others}
use Rattle.scan_json.proofs.Turns.{read_some, whole_and_more, whole_read, whole_refused}
use Rattle.scan_words.specs.Words.{◌>>=◌}
use Rattle.scan_request.specs.ExpressionForms.{expression_form}
use Rattle.scan_request.specs.JsonForms.{list_form, optional_form, whole_form}
use Rattle.scan_request.specs.LocationForms.{location_form}
use Rattle.scan_request.specs.NodeForms.{node_form}
use Rattle.scan_request.specs.NodeMembers.{told_value}
use Rattle.scan_request.specs.RequestForms.{FileSaid, Parts, file_form, file_from, members_of, parts_from, request_form, requested, said_in}
use Rattle.scan_request.specs.RequestMembers.{RequestTold, parts_by, request_names, told_of, with_member}
use Rattle.scan_request.specs.RowForms.{given_or, indices_form, range_form, rows_form, rows_said}
use Rattle.scan_request.specs.declared.row_forms.RowsAsked.{RowsAsked}
use Rattle.scan_request.proofs.RowForms.{rows_are}

-- ---- one more member

abbrev told_when : List ℕ → Data → Members → RequestTold
told_when k d ms =
    record {
      locations = option_map (list_form location_form) (cond (bytes_eq k (codes "locations")) (Some d) (get_member (codes "locations") ms));
      nodes = option_map (list_form node_form) (cond (bytes_eq k (codes "nodes")) (Some d) (get_member (codes "nodes") ms));
      projection = option_map expression_form (cond (bytes_eq k (codes "projection")) (Some d) (get_member (codes "projection") ms));
      range = option_map range_form (cond (bytes_eq k (codes "range")) (Some d) (get_member (codes "range") ms));
      indices = option_map indices_form (cond (bytes_eq k (codes "indices")) (Some d) (get_member (codes "indices") ms));
      exclude = option_map indices_form (cond (bytes_eq k (codes "exclude")) (Some d) (get_member (codes "exclude") ms));
      limit = option_map (whole_form (2 ^ 64)) (cond (bytes_eq k (codes "limit")) (Some d) (get_member (codes "limit") ms));
      row_offset = option_map (whole_form (2 ^ 64)) (cond (bytes_eq k (codes "row_offset")) (Some d) (get_member (codes "row_offset") ms));
      others = not (is_one_of request_names k) || has_other request_names ms;
    }

put_when : (k : List ℕ) (d : Data) (ms : Members) → told_of (put k d ms) ≡ told_when k d ms
put_when k d ms =
    λ i.
    record {
      locations = option_map (list_form location_form) (found_put (codes "locations") k d ms i);
      nodes = option_map (list_form node_form) (found_put (codes "nodes") k d ms i);
      projection = option_map expression_form (found_put (codes "projection") k d ms i);
      range = option_map range_form (found_put (codes "range") k d ms i);
      indices = option_map indices_form (found_put (codes "indices") k d ms i);
      exclude = option_map indices_form (found_put (codes "exclude") k d ms i);
      limit = option_map (whole_form (2 ^ 64)) (found_put (codes "limit") k d ms i);
      row_offset = option_map (whole_form (2 ^ 64)) (found_put (codes "row_offset") k d ms i);
      others = other_put request_names k d ms i;
    }

abbrev Same : Data → Members → List ℕ → Type 0
Same d ms k = told_when k d ms ≡ with_member k d (told_of ms)

at_names : (d : Data) (ms : Members) → HoldsAt (Same d ms) request_names
at_names d ms = (refl, (refl, (refl, (refl, (refl, (refl, (refl, (refl, tt))))))))

at_other : (d : Data) (ms : Members) (k : List ℕ) → is_one_of request_names k ≡ false → Same d ms k
at_other d ms k other =
    let not_locations = neither (bytes_eq k (codes "locations")) (is_one_of (codes "nodes" ∷ codes "projection" ∷ codes "range" ∷ codes "indices" ∷ codes "exclude" ∷ codes "limit" ∷ codes "row_offset" ∷ []) k) other in
    let not_nodes = neither (bytes_eq k (codes "nodes")) (is_one_of (codes "projection" ∷ codes "range" ∷ codes "indices" ∷ codes "exclude" ∷ codes "limit" ∷ codes "row_offset" ∷ []) k) not_locations.1 in
    let not_projection = neither (bytes_eq k (codes "projection")) (is_one_of (codes "range" ∷ codes "indices" ∷ codes "exclude" ∷ codes "limit" ∷ codes "row_offset" ∷ []) k) not_nodes.1 in
    let not_range = neither (bytes_eq k (codes "range")) (is_one_of (codes "indices" ∷ codes "exclude" ∷ codes "limit" ∷ codes "row_offset" ∷ []) k) not_projection.1 in
    let not_indices = neither (bytes_eq k (codes "indices")) (is_one_of (codes "exclude" ∷ codes "limit" ∷ codes "row_offset" ∷ []) k) not_range.1 in
    let not_exclude = neither (bytes_eq k (codes "exclude")) (is_one_of (codes "limit" ∷ codes "row_offset" ∷ []) k) not_indices.1 in
    let not_limit = neither (bytes_eq k (codes "limit")) (is_one_of (codes "row_offset" ∷ []) k) not_exclude.1 in
    let not_row_offset = neither (bytes_eq k (codes "row_offset")) (is_one_of ([]) k) not_limit.1 in
    rw (not_locations.0, not_nodes.0, not_projection.0, not_range.0, not_indices.0, not_exclude.0, not_limit.0, not_row_offset.0) refl

pub told_put : (k : List ℕ) (d : Data) (ms : Members) → told_of (put k d ms) ≡ with_member k d (told_of ms)
told_put k d ms = put_when k d ms ∙ by_name (Same d ms) request_names k (at_names d ms) (at_other d ms k)

-- ---- what they tell is what the object says

told_map : {A B : Type 0} (f : A → Option B) (o : Option A) → told_value (option_map f o) ≡ (o >>= f)
told_map f None = refl
told_map f (Some a) = refl

projection_map : (o : Option Data) → given_or root (option_map expression_form o) ≡ optional_form root expression_form o
projection_map None = refl
projection_map (Some d) = refl

abbrev all_said : Members → Option Parts
all_said ms = parts_from (file_form (object ms)) (rows_form (object ms)) (optional_form root expression_form (get_member (codes "projection") ms))

-- the object of these members has the form of a request
file_is : (ms : Members) → file_from (told_value (told_of ms).locations) (told_value (told_of ms).nodes) ≡ file_form (object ms)
file_is ms =
    ap (λ (o : Option (List SegmentLocation)). file_from o (told_value (told_of ms).nodes)) (told_map (list_form location_form) (get_member (codes "locations") ms))
    ∙ ap (λ (o : Option (List Node)). file_from (get_member (codes "locations") ms >>= list_form location_form) o) (told_map (list_form node_form) (get_member (codes "nodes") ms))

said_when : (ms : Members) (b : Bool) → has_other request_names ms ≡ b → parts_by (told_of ms) ≡ cond b None (all_said ms)
said_when ms b is =
    let told = told_of ms in
    let rows = rows_said told.range told.limit told.row_offset told.indices told.exclude in
    ap (λ (c : Bool). cond c None (parts_from (file_from (told_value told.locations) (told_value told.nodes)) rows (given_or root told.projection))) is
    ∙ ap (λ (o : Option FileSaid). cond b None (parts_from o rows (given_or root told.projection))) (file_is ms)
    ∙ ap (λ (o : Option RowsAsked). cond b None (parts_from (file_form (object ms)) o (given_or root told.projection))) (rows_are ms)
    ∙ ap (λ (o : Option Term). cond b None (parts_from (file_form (object ms)) (rows_form (object ms)) o)) (projection_map (get_member (codes "projection") ms))

-- without the locations or the nodes there is no file
none_without : (a b : Option Data) (f : Data → Option (List SegmentLocation)) (g : Data → Option (List Node)) (rows : Option RowsAsked) (projection : Option Term)
    → option_map_or (λ d. 1) a 0 + option_map_or (λ d. 1) b 0 < 2 → parts_from (file_from (a >>= f) (b >>= g)) rows projection ≡ None
none_without None b f g rows projection less = refl
none_without (Some d) None f g rows projection less = by (f d)
  where
    by : (o : Option (List SegmentLocation)) → parts_from (file_from o None) rows projection ≡ None
    by None = refl
    by (Some ls) = refl
none_without (Some d) (Some e) f g rows projection less = absurd (omega (arith, less))

count_is : (o : Option Data) → ◌≡◌ {A = ℕ} (cond (is_some o) 1 0) (option_map_or (λ d. 1) o 0)
count_is None = refl
count_is (Some d) = refl

not_both : (a b : Option Data) → (option_map_or (λ d. 1) a 0 + option_map_or (λ d. 1) b 0 ≡ 2 → ⊥) → option_map_or (λ d. 1) a 0 + option_map_or (λ d. 1) b 0 < 2
not_both None None never = omega arith
not_both None (Some e) never = omega arith
not_both (Some d) None never = omega arith
not_both (Some d) (Some e) never = absurd (never refl)

pub parts_are : (ms : Members) → AreRising ms → parts_by (told_of ms) ≡ request_form (object ms)
unfolding request_form
parts_are ms rising = said_when ms (has_other request_names ms) refl ∙ tested (has_other request_names ms) (eqb (members_len ms) (members_of (object ms))) refl refl
  where
    all : members_len ms ≡ present_of request_names ms + other_count request_names ms
    all = counted request_names ms refl rising

    -- by whether both the locations and the nodes are there
    lacking : present (codes "locations") ms + present (codes "nodes") ms < 2 → all_said ms ≡ None
    lacking less = none_without (get_member (codes "locations") ms) (get_member (codes "nodes") ms) (list_form location_form) (list_form node_form) (rows_form (object ms)) (optional_form root expression_form (get_member (codes "projection") ms)) less

    -- the members of a request are the locations, the nodes and those of the others that are there
    wanted : members_of (object ms) ≡ 2 + present (codes "projection") ms + present (codes "range") ms + present (codes "indices") ms + present (codes "exclude") ms + present (codes "limit") ms + present (codes "row_offset") ms
    wanted = rw (count_is (get_member (codes "projection") ms), count_is (get_member (codes "range") ms), count_is (get_member (codes "indices") ms), count_is (get_member (codes "exclude") ms), count_is (get_member (codes "limit") ms), count_is (get_member (codes "row_offset") ms)) refl

    tested : (b c : Bool) → has_other request_names ms ≡ b → eqb (members_len ms) (members_of (object ms)) ≡ c → cond b None (all_said ms) ≡ cond c (all_said ms) None
    tested true false some test = refl
    tested true true some test = sym (lacking (omega (arith, all, wanted, eqb-true (members_len ms) (members_of (object ms)) test, some_others request_names ms some)))
    tested false true none test = refl
    tested false false none test =
        lacking (not_both (get_member (codes "locations") ms) (get_member (codes "nodes") ms) (λ two. eqb-false (members_len ms) (members_of (object ms)) test (omega (arith, all, wanted, no_others request_names ms none, two))))

-- ---- whole texts

abbrev starts : List ℕ → List Token → Type 0
starts text inside = read_value 127 (tokens text) ≡ parse_map object (read_members 126 inside)

-- an object and nothing after it
pub text_read : (text : List ℕ) (inside : List Token) (told : RequestTold) (ms : Members) → AreRising ms → starts text inside → read_members 126 inside ≡ Some (ms, []) → told ≡ told_of ms → said_in text ≡ parts_by told
text_read text inside told ms rising is made tells =
    let all : read text ≡ Some (object ms) = whole_read (value 127 (tokens text)) (object ms) (is ∙ ap (parse_map object) made) in
    ap (λ (o : Option Data). o >>= request_form) all ∙ sym (parts_are ms rising) ∙ ap parts_by (sym tells)

-- an object and more
pub text_and_more : (text : List ℕ) (inside : List Token) (ms : Members) (t : Token) (r : List Token) → starts text inside → read_members 126 inside ≡ Some (ms, t ∷ r) → None ≡ said_in text
text_and_more text inside ms t r is made =
    let none : read text ≡ None = whole_and_more (value 127 (tokens text)) (object ms) t r (is ∙ ap (parse_map object) made) in
    ap (λ (o : Option Data). o >>= request_form) (sym none)

pub text_refused : (text : List ℕ) → read_value 127 (tokens text) ≡ None → said_in text ≡ None
text_refused text e = let none : read text ≡ None = whole_refused (value 127 (tokens text)) e in ap (λ (o : Option Data). o >>= request_form) none

pub text_inside_refused : (text : List ℕ) (inside : List Token) → starts text inside → read_members 126 inside ≡ None → said_in text ≡ None
text_inside_refused text inside is none = text_refused text (is ∙ ap (parse_map object) none)

no_object : (d : Data) → as_object d ≡ None → request_form d ≡ None
unfolding request_form
no_object d none = rw none refl

-- a value of another kind
pub text_other : (text : List ℕ) (r : List Token) → reads as_object 127 (tokens text) ≡ Some (None, r) → None ≡ said_in text
text_other text r e = let d = read_some as_object (read_value 127 (tokens text)) None r e in by d.0 r d.1 d.2
  where
    by : (d : Data) (r : List Token) → read_value 127 (tokens text) ≡ Some (d, r) → as_object d ≡ None → None ≡ said_in text
    by d [] is none = let all : read text ≡ Some d = whole_read (value 127 (tokens text)) d is in sym (ap (λ (o : Option Data). o >>= request_form) all ∙ no_object d none)
    by d (t ∷ r) is none = let no_read : read text ≡ None = whole_and_more (value 127 (tokens text)) d t r is in ap (λ (o : Option Data). o >>= request_form) (sym no_read)

-- bytes that are a text
pub bytes_say : (bytes text : List ℕ) → IsUtf8 bytes → text ≡ bytes → requested bytes ≡ said_in text
bytes_say bytes text utf8 same = let test = is_utf8-from_IsUtf8 bytes utf8 in rw (test, same) refl

-- and bytes that are none
pub no_text : (bytes : List ℕ) → (IsUtf8 bytes → ⊥) → requested bytes ≡ None
no_text bytes none = tested (is_utf8 bytes) refl
  where
    tested : (b : Bool) → is_utf8 bytes ≡ b → (cond b (read bytes) None >>= request_form) ≡ None
    tested true e = absurd (none (IsUtf8-from_is_utf8 bytes e))
    tested false e = refl

pub never_text : {T E : Type 0} (bytes : List ℕ) (result : Result T E) (A : T → Type 0) (B : E → Type 0) → MatchResult result A B → ((t : T) → result ≡ Ok t → ⊥) → ((e : E) → B e → IsUtf8 bytes → ⊥) → requested bytes ≡ None
never_text bytes (Ok t) A B cases never refused = absurd (never t refl)
never_text bytes (Err e) A B cases never refused = no_text bytes (refused e cases)
