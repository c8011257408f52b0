-- The members of an expression, as they are put into an object one after another, and expressions by their names and items.
use Rattle.std.proofs.Common.{◌≡◌, ℕ, suc, ◌+◌, ◌<◌, ◌≤◌, ◌||◌, not, Bool, true, false, cond, eqb, codes, List, [], ◌∷◌, map, Option, Some, None, option_map, Ordering, Less, Equal, Greater, nat_cmp, is_eq, bytes_eq, refl, sym, ap, ◌∙◌, arith}
use Rattle.std.specs.Map.{lookup}
use Rattle.std.specs.Option.{option_map_or}
use Rattle.std.specs.Ordering.{match_ordering}
use Rattle.std.specs.Cmp.Lexicographic.{slice_cmp}
use Rattle.std.proofs.lemmas.Bool.{ne_eqb}
use Rattle.std.proofs.lemmas.Cmp.{nat_list_cmp_total}
use Rattle.std.proofs.lemmas.Map.Text.{is_eq-slice_cmp}
use Rattle.std.proofs.lemmas.Slice.Eq.{bytes_eq-Decides}
use Rattle.serde_json.specs.Data.{Data, Items, no_items, item, object, Members, no_members, member, put}
use Rattle.serde_json.specs.Events.{members_len}
use Rattle.serde_json.specs.Find.{get_member}
use Rattle.vx_base.specs.Data.{Datum}
use Rattle.vx_expr.specs.declared.expressions.Expr.{Expr}
use Rattle.vx_expr.specs.Terms.{Term, pack, named}
use Rattle.vx_expr.specs.TermViews.{term, terms_of}
use Rattle.scan_json.specs.Forms.{each_form, with_first}
use Rattle.scan_json.specs.Members.{AreAbove, AreRising, is_one_of, present, present_of}
use Rattle.scan_json.specs.Singles.{SingleTold, single_said, with_single}
use Rattle.scan_json.proofs.Names.{HoldsAt, by_name, counted, found_later, found_put, neither, one_if, other_count}
use Rattle.scan_json.proofs.Singles.{single_put}
use Rattle.scan_words.specs.Words.{◌>>=◌}
use Rattle.scan_request.specs.DtypeForms.{dtype_form}
use Rattle.scan_request.specs.ExpressionForms.{each_named, expression_form, joined_form, joined_value, literal_from, named_form, object_form, pair_names, terms_from, test_names, test_or_pair, value_form}
use Rattle.scan_request.specs.ExpressionViews.{ObjectTold, named_term, object_said, others, said_by, told_of, with_member}
use Rattle.scan_request.proofs.JsonForms.{here}
use Rattle.scan_request.proofs.OtherKinds.{apart}

-- ---- the members that are no parts of a literal

abbrev literal_names : List (List ℕ)
literal_names = codes "lit" ∷ codes "type" ∷ []

abbrev is_part : List ℕ → Bool
is_part name = bytes_eq name (codes "lit") || bytes_eq name (codes "type")

above_others : (k : List ℕ) (ms : Members) → AreAbove k ms → AreAbove k (others ms)
above_others k no_members above = tt
above_others k (member l e ms) above = by (is_part l) (above_others k ms above.1)
  where
    by : (b : Bool) → AreAbove k (others ms) → AreAbove k (cond b (others ms) (member l e (others ms)))
    by true later = later
    by false later = (above.0, later)

put_first : (k : List ℕ) (d : Data) (ms : Members) → AreAbove k ms → put k d ms ≡ member k d ms
put_first k d no_members above = refl
put_first k d (member l e ms) above = rw above.0 refl

-- a part of a literal changes nothing, and any other goes in
abbrev Others : List ℕ → Data → Members → Members → Type 0
Others k d ms after = others after ≡ cond (is_part k) (others ms) (put k d (others ms))

others_at : (o : Ordering) (a b : Bool) (k l : List ℕ) (d e : Data) (ms : Members) → slice_cmp nat_cmp k l ≡ o → is_part k ≡ a → is_part l ≡ b → AreAbove l ms → Others k d ms (put k d ms)
    → Others k d (member l e ms) (match_ordering o (member k d (member l e ms)) (member l d ms) (member l e (put k d ms)))
others_at Less true true k l d e ms is part_k part_l above later = rw (part_k, part_l) refl
others_at Less true false k l d e ms is part_k part_l above later = rw (part_k, part_l) refl
others_at Less false true k l d e ms is part_k part_l above later =
    rw (part_k, part_l) (sym (put_first k d (others ms) (above_others k ms (higher ms above))))
  where
    higher : (ms : Members) → AreAbove l ms → AreAbove k ms
    higher no_members above = tt
    higher (member m f ms) above = (nat_list_cmp_total.trans k l m is above.0, higher ms above.1)
others_at Less false false k l d e ms is part_k part_l above later = rw (part_k, part_l, is) refl
others_at Equal a b k l d e ms is part_k part_l above later =
    let same : k ≡ l = (bytes_eq-Decides k l).0 (sym (is_eq-slice_cmp k l) ∙ ap is_eq is) in
    by a (part_k) (ap is_part (sym same) ∙ part_k)
  where
    by : (a : Bool) → is_part k ≡ a → is_part l ≡ a → Others k d (member l e ms) (member l d ms)
    by true part_k part_l = rw (part_k, part_l) refl
    by false part_k part_l = rw (part_k, part_l, is) refl
others_at Greater true true k l d e ms is part_k part_l above later = rw (part_k, part_l) (later ∙ rw part_k refl)
others_at Greater true false k l d e ms is part_k part_l above later = rw (part_k, part_l) (ap (member l e) (later ∙ rw part_k refl))
others_at Greater false true k l d e ms is part_k part_l above later = rw (part_k, part_l) (later ∙ rw part_k refl)
others_at Greater false false k l d e ms is part_k part_l above later = rw (part_k, part_l, is) (ap (member l e) (later ∙ rw part_k refl))

others_put : (k : List ℕ) (d : Data) (ms : Members) → AreRising ms → Others k d ms (put k d ms)
others_put k d no_members rising = by (is_part k)
  where
    by : (b : Bool) → cond b no_members (member k d no_members) ≡ cond b no_members (member k d no_members)
    by b = refl
others_put k d (member l e ms) rising = others_at (slice_cmp nat_cmp k l) (is_part k) (is_part l) k l d e ms refl refl refl rising.0 (others_put k d ms rising.1)

-- ---- one more member

abbrev told_when : List ℕ → Data → Members → ObjectTold
told_when k d ms =
    record {
      value = option_map value_form (cond (bytes_eq k (codes "lit")) (Some d) (get_member (codes "lit") ms));
      dtype = option_map dtype_form (cond (bytes_eq k (codes "type")) (Some d) (get_member (codes "type") ms));
      joined = cond (is_part k) (single_said joined_value (others ms)) (with_single k (joined_value k d) (single_said joined_value (others ms)));
    }

joined_when : (k : List ℕ) (d : Data) (ms : Members) (b : Bool)
    → single_said joined_value (cond b (others ms) (put k d (others ms))) ≡ cond b (single_said joined_value (others ms)) (with_single k (joined_value k d) (single_said joined_value (others ms)))
joined_when k d ms true = refl
joined_when k d ms false = single_put joined_value k d (others ms)

put_when : (k : List ℕ) (d : Data) (ms : Members) → AreRising ms → told_of (put k d ms) ≡ told_when k d ms
put_when k d ms rising =
    let joined = ap (single_said joined_value) (others_put k d ms rising) ∙ joined_when k d ms (is_part k) in
    λ i.
    record {
      value = option_map value_form (found_put (codes "lit") k d ms i);
      dtype = option_map dtype_form (found_put (codes "type") k d ms i);
      joined = joined i;
    }

abbrev Same : Data → Members → List ℕ → Type 0
Same d ms k = told_when k d ms ≡ with_member k d (told_of ms)

at_other : (d : Data) (ms : Members) (k : List ℕ) → is_one_of literal_names k ≡ false → Same d ms k
at_other d ms k other =
    let not_lit = neither (bytes_eq k (codes "lit")) (is_one_of (codes "type" ∷ []) k) other in
    let not_type = neither (bytes_eq k (codes "type")) false not_lit.1 in
    rw (not_lit.0, not_type.0) refl

pub told_put : (k : List ℕ) (d : Data) (ms : Members) → AreRising ms → told_of (put k d ms) ≡ with_member k d (told_of ms)
told_put k d ms rising = put_when k d ms rising ∙ by_name (Same d ms) literal_names k (refl, (refl, tt)) (at_other d ms k)

-- ---- the expression that they tell is that of the object

count_when : (a b : Bool) (k : List ℕ) (d : Data) (ms : Members) → other_count literal_names ms ≡ members_len (others ms)
    → one_if (not (a || (b || false))) + other_count literal_names ms ≡ members_len (cond (a || b) (others ms) (member k d (others ms)))
count_when true b k d ms later = omega (arith, later)
count_when false true k d ms later = omega (arith, later)
count_when false false k d ms later = omega (arith, later)

others_count : (ms : Members) → other_count literal_names ms ≡ members_len (others ms)
others_count no_members = refl
others_count (member k d ms) = count_when (bytes_eq k (codes "lit")) (bytes_eq k (codes "type")) k d ms (others_count ms)

abbrev found : Option Data → ℕ
found o = option_map_or (λ d. 1) o 0

either_same : (b : Bool) (x : Option Term) → x ≡ cond b x x
either_same true x = refl
either_same false x = refl

without_dtype : (d : Data) (b : Bool) → None ≡ cond b (literal_from (value_form d) None) None
without_dtype d true = by (value_form d)
  where
    by : (o : Option Datum) → None ≡ literal_from o None
    by None = refl
    by (Some v) = refl
without_dtype d false = refl

other_than_two : (n : ℕ) (x : Option Term) → 2 < n → None ≡ cond (eqb n 2) x None
other_than_two n x more = rw (ne_eqb n 2 (λ two. omega arith)) refl

literal_at : (value dtype : Option Data) (rest : Members) (n : ℕ) → n ≡ found value + found dtype + members_len rest → 2 ≤ n
    → said_by (option_map value_form value) (option_map dtype_form dtype) (single_said joined_value rest) ≡ cond (eqb n 2) (literal_from (value >>= value_form) (dtype >>= dtype_form)) None
literal_at None None no_members n count two = absurd (omega (arith, count, two))
literal_at None None (member k d no_members) n count two = absurd (omega (arith, count, two))
literal_at None None (member k d (member l e ms)) n count two = either_same (eqb n 2) None
literal_at (Some v) None no_members n count two = without_dtype v (eqb n 2)
literal_at (Some v) None (member k d no_members) n count two = without_dtype v (eqb n 2)
literal_at (Some v) None (member k d (member l e ms)) n count two = without_dtype v (eqb n 2)
literal_at None (Some t) no_members n count two = either_same (eqb n 2) None
literal_at None (Some t) (member k d no_members) n count two = either_same (eqb n 2) None
literal_at None (Some t) (member k d (member l e ms)) n count two = either_same (eqb n 2) None
literal_at (Some v) (Some t) no_members n count two = let is : n ≡ 2 = omega (arith, count) in rw is refl
literal_at (Some v) (Some t) (member k d no_members) n count two = other_than_two n _ (omega (arith, count))
literal_at (Some v) (Some t) (member k d (member l e ms)) n count two = other_than_two n _ (omega (arith, count))

flipped : (k l : List ℕ) → bytes_eq k l ≡ false → bytes_eq l k ≡ false
flipped k l apart = by (bytes_eq l k) refl
  where
    by : (b : Bool) → bytes_eq l k ≡ b → b ≡ false
    by true e = let same : bytes_eq k l ≡ true = (bytes_eq-Decides k l).1 (sym ((bytes_eq-Decides l k).0 e)) in absurd cc
    by false e = refl

abbrev OneTells : Data → List ℕ → Type 0
OneTells d name = object_said (told_of (member name d no_members)) ≡ object_form (member name d no_members)

one_other : (d : Data) (name : List ℕ) → is_one_of literal_names name ≡ false → OneTells d name
one_other d name other =
    let not_lit = neither (bytes_eq name (codes "lit")) (is_one_of (codes "type" ∷ []) name) other in
    let not_type = neither (bytes_eq name (codes "type")) false not_lit.1 in
    rw (found_later (codes "lit") name d no_members (flipped name (codes "lit") not_lit.0), found_later (codes "type") name d no_members (flipped name (codes "type") not_type.0), not_lit.0, not_type.0) refl

pub object_is : (ms : Members) → AreRising ms → object_said (told_of ms) ≡ object_form ms
object_is no_members rising = refl
object_is (member name d no_members) rising = by_name (OneTells d) literal_names name (refl, (refl, tt)) (one_other d name)
object_is (member name d (member other e ms)) rising =
    let all = member name d (member other e ms) in
    let count = counted literal_names all refl rising in
    literal_at (get_member (codes "lit") all) (get_member (codes "type") all) (others all) (members_len all) (omega (arith, count, others_count all)) (omega arith)

-- ---- names

-- any other name is that of a test, or joins a pair
pub joined_other : (name : List ℕ) (test : Option (Term → Term)) (join : Option (Term → Term → Term)) (part : Option Term) (named_part : Option (List ℕ × Term)) (parts : Option (List (List ℕ × Term))) (pair : Option (Term × Term))
    → (name ≡ codes "get" → ⊥) → (name ≡ codes "pack" → ⊥) → test ≡ lookup (bytes_eq name) test_names → join ≡ lookup (bytes_eq name) pair_names
    → joined_form name part named_part parts pair ≡ test_or_pair test join part pair
joined_other name test join part named_part parts pair get packs is_test is_join =
    rw (apart name (codes "get") get, apart name (codes "pack") packs) (ap (λ t. test_or_pair t (lookup (bytes_eq name) pair_names) part pair) (sym is_test) ∙ ap (λ j. test_or_pair test j part pair) (sym is_join))

-- ---- named expressions

pub each_named_is : (ds : Items) → each_named ds ≡ each_form named_form ds
each_named_is no_items = refl
each_named_is (item d ds) = by (named_form d) (each_named ds) (each_form named_form ds) (each_named_is ds)
  where
    mapped : (part : List ℕ × Term) (b : Option (List (List ℕ × Term))) → (b >>= λ parts. here (part ∷ parts)) ≡ option_map (λ parts. part ∷ parts) b
    mapped part None = refl
    mapped part (Some parts) = refl

    by : (first : Option (List ℕ × Term)) (a b : Option (List (List ℕ × Term))) → a ≡ b → (first >>= λ part. a >>= λ parts. here (part ∷ parts)) ≡ with_first first b
    by None a b e = refl
    by (Some part) a b e = ap (λ (o : Option (List (List ℕ × Term))). o >>= λ parts. here (part ∷ parts)) e ∙ mapped part b

-- the same named expressions by their pairs and by their data
terms_of_pairs : (pairs : List (List ℕ × Expr)) → terms_of pairs ≡ terms_from (map named_term pairs)
terms_of_pairs [] = refl
terms_of_pairs (pair ∷ pairs) = ap (named pair.0 (term pair.1)) (terms_of_pairs pairs)

pub pack_of_pairs : (pairs : List (List ℕ × Expr)) → pack (terms_of pairs) ≡ pack (terms_from (map named_term pairs))
pack_of_pairs pairs = ap pack (terms_of_pairs pairs)
