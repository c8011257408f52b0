-- Where what is told of a zone covers a value, a predicate that prunes the zone isn't true of it.
use Rattle.std.proofs.Common.{◌≡◌, ℕ, ◌≤◌, Bool, true, false, ◌⊎◌, inl, inr, Option, Some, None, refl, sym, ap, ◌∙◌, arith}
use Rattle.std.specs.Prelude.{ℤ, pos, ◌≤ℤ◌, ◌<ℤ◌, ◌&&◌, ◌||◌, if◌then◌else◌, option_map, option_and_then}
use Rattle.std.specs.Ordering.{int_cmp, MatchOrdering}
use Rattle.std.specs.declared.cmp.Ordering.{Ordering}
use Rattle.std.specs.declared.cmp.Ordering.TheVariants.{Less, Equal, Greater}
use Rattle.std.proofs.lemmas.Cmp.{int_ranked}
use Rattle.std.proofs.lemmas.Int.{ints}
use Rattle.vx_base.proofs.Spelled.{le_from}
use Rattle.vx_base.specs.ColumnCalls.{natural}
use Rattle.vx_base.specs.Data.{DataType, Datum, null, truth, number, text, structure}
use Rattle.vx_operators.specs.declared.operators.CompareOp.{CompareOp}
use Rattle.vx_operators.specs.declared.operators.CompareOp.TheVariants.{Eq, Ne, Lt, Le, Gt, Ge}
use Rattle.vx_operators.specs.Operators.{comparison_of, holds, is_null, and_of, or_of, null_test_of, value_test_of, bound_test_of}
use Rattle.vx_expr.specs.Meaning.{meaning}
use Rattle.vx_expr.specs.Mentions.{is_root}
use Rattle.vx_expr.specs.Terms.{Term, root, literal, get_field, pack, negation, conjunction, disjunction, comparison, null_test, value_test, arithmetic, row_number, bound_test}
use Rattle.vx_expr.specs.Types.{on_both}
use Rattle.vx_zones.specs.Covers.{MayBe}
use Rattle.vx_zones.specs.Prunes.{is_yes, tells, excludes, all_null, none_null, literal_in, mirrored, excludes_comparison, prunes}
use Rattle.vx_zones.specs.Tables.{Zone}
use Rattle.vx_zones.proofs.Orders.{AtMost, Above, chain, le_says, ge_says, lt_says, gt_says, eq_says, ne_says, from_left, null_tells_nothing, may_tell, teller_known}

-- what is told of the zone covers the value
pub record At (zone : Zone) (v : Datum) : Type 0 where
  pub least : MayBe Le zone.least v
  pub greatest : MayBe Ge zone.greatest v
  pub nulls : all_null zone ≡ true → is_null v ≡ true
  pub values : none_null zone ≡ true → is_null v ≡ false

-- ---- comparisons

or_cases : {P : Type 0} (a b : Bool) → a || b ≡ true → (a ≡ true → P) → (b ≡ true → P) → P
or_cases true b h f g = f refl
or_cases false b h f g = g h

and_both : (a b : Bool) → a && b ≡ true → (a ≡ true) × (b ≡ true)
and_both true b h = (refl, h)
and_both false b h = absurd cc

least_below : (zone : Zone) (v c : Datum) (op other : CompareOp) → At zone v → tells op zone.least c ≡ true → tells other v c ≡ true → AtMost zone.least v
least_below zone v c op other at told is = le_says zone.least v (may_tell Le zone.least v (teller_known op zone.least c told) (teller_known other v c is) at.least)

greatest_above : (zone : Zone) (v c : Datum) (op other : CompareOp) → At zone v → tells op zone.greatest c ≡ true → tells other v c ≡ true → AtMost v zone.greatest
greatest_above zone v c op other at told is = ge_says zone.greatest v (may_tell Ge zone.greatest v (teller_known op zone.greatest c told) (teller_known other v c is) at.greatest)

excluded : (op : CompareOp) (c v : Datum) (zone : Zone) → At zone v → excludes op c zone ≡ true → tells op v c ≡ true → ⊥
excluded Eq c v zone at out is = or_cases (tells Gt zone.least c) (tells Lt zone.greatest c) out
    (λ told. chain zone.least v c (least_below zone v c Gt Eq at told is) (eq_says v c is).0 (gt_says zone.least c told))
    (λ told. chain c v zone.greatest (eq_says v c is).1 (greatest_above zone v c Lt Eq at told is) (lt_says zone.greatest c told))
excluded Ne c v zone at out is =
    let both = and_both (tells Eq zone.least c) (tells Eq zone.greatest c) out in
    let low : AtMost zone.least v = least_below zone v c Eq Ne at both.0 is in
    let high : AtMost v zone.greatest = greatest_above zone v c Eq Ne at both.1 is in
    apart low high (eq_says zone.least c both.0) (eq_says zone.greatest c both.1) (ne_says v c is)
  where
    apart : AtMost zone.least v → AtMost v zone.greatest → AtMost zone.least c × AtMost c zone.least → AtMost zone.greatest c × AtMost c zone.greatest → (Above v c) ⊎ (Above c v) → ⊥
    apart low high one two (inl over) = chain v zone.greatest c high two.0 over
    apart low high one two (inr under) = chain c zone.least v one.1 low under
excluded Lt c v zone at told is = chain c zone.least v (ge_says zone.least c told) (least_below zone v c Ge Lt at told is) (lt_says v c is)
excluded Le c v zone at told is = chain zone.least v c (least_below zone v c Gt Le at told is) (le_says v c is) (gt_says zone.least c told)
excluded Gt c v zone at told is = chain v zone.greatest c (greatest_above zone v c Le Gt at told is) (le_says zone.greatest c told) (gt_says v c is)
excluded Ge c v zone at told is = chain c v zone.greatest (ge_says v c is) (greatest_above zone v c Lt Ge at told is) (lt_says zone.greatest c told)

excluded_or_null : (op : CompareOp) (c v : Datum) (zone : Zone) → At zone v → excludes op c zone || all_null zone ≡ true → tells op v c ≡ true → ⊥
excluded_or_null op c v zone at out is = or_cases (excludes op c zone) (all_null zone) out
    (λ told. excluded op c v zone at told is)
    (λ nulls. null_tells_nothing op v c (at.nulls nulls) is)

root_is : (e : Term) → is_root e ≡ true → e ≡ root
root_is root h = refl
root_is (literal w s) h = absurd cc
root_is (get_field name e) h = absurd cc
root_is (pack es) h = absurd cc
root_is (negation e) h = absurd cc
root_is (conjunction a b) h = absurd cc
root_is (disjunction a b) h = absurd cc
root_is (comparison op a b) h = absurd cc
root_is (null_test e) h = absurd cc
root_is (value_test e) h = absurd cc
root_is (arithmetic op a b) h = absurd cc
root_is row_number h = absurd cc
root_is (bound_test e) h = absurd cc

-- a literal with a value is worth it, whatever the row
literal_worth : (t : DataType) (later : ℕ) (e : Term) (c v : Datum) (row : ℕ) → literal_in e ≡ Some c → meaning t later e v row ≡ Some c
literal_worth t later (literal (truth b) s) c v row h = h
literal_worth t later (literal (number z) s) c v row h = h
literal_worth t later (literal (text b) s) c v row h = h
literal_worth t later (literal null s) c v row h = absurd cc
literal_worth t later (literal (structure b) s) c v row h = absurd cc
literal_worth t later root c v row h = absurd cc
literal_worth t later (get_field name e) c v row h = absurd cc
literal_worth t later (pack es) c v row h = absurd cc
literal_worth t later (negation e) c v row h = absurd cc
literal_worth t later (conjunction a b) c v row h = absurd cc
literal_worth t later (disjunction a b) c v row h = absurd cc
literal_worth t later (comparison op a b) c v row h = absurd cc
literal_worth t later (null_test e) c v row h = absurd cc
literal_worth t later (value_test e) c v row h = absurd cc
literal_worth t later (arithmetic op a b) c v row h = absurd cc
literal_worth t later row_number c v row h = absurd cc
literal_worth t later (bound_test e) c v row h = absurd cc

-- the root against a literal, whichever side it stands on
root_with : (t : DataType) (later : ℕ) (op : CompareOp) (b : Term) (v : Datum) (row : ℕ) (zone : Zone) (found : Option Datum) → literal_in b ≡ found → At zone v
    → excludes_comparison (option_map (λ c. (op, c)) found) zone ≡ true → is_yes (on_both (comparison_of op) (Some v) (meaning t later b v row)) ≡ true → ⊥
root_with t later op b v row zone None is at out says = cc
root_with t later op b v row zone (Some c) is at out says =
    let worth = literal_worth t later b c v row is in
    let told : tells op v c ≡ true = sym (ap (λ (o : Option Datum). is_yes (on_both (comparison_of op) (Some v) o)) worth) ∙ says in
    excluded_or_null op c v zone at out told

with_root : (t : DataType) (later : ℕ) (op : CompareOp) (a : Term) (v : Datum) (row : ℕ) (zone : Zone) (found : Option Datum) → literal_in a ≡ found → At zone v
    → excludes_comparison (option_map (λ c. (mirrored op, c)) found) zone ≡ true → is_yes (on_both (comparison_of op) (meaning t later a v row) (Some v)) ≡ true → ⊥
with_root t later op a v row zone None is at out says = cc
with_root t later op a v row zone (Some c) is at out says =
    let worth = literal_worth t later a c v row is in
    let told : tells op c v ≡ true = sym (ap (λ (o : Option Datum). is_yes (on_both (comparison_of op) o (Some v))) worth) ∙ says in
    excluded_or_null (mirrored op) c v zone at out (from_left op c v told)

-- which side the root stands on
compared : (t : DataType) (later : ℕ) (op : CompareOp) (a b : Term) (v : Datum) (row : ℕ) (zone : Zone) (left right : Bool) → is_root a ≡ left → is_root b ≡ right → At zone v
    → excludes_comparison (if left then option_map (λ c. (op, c)) (literal_in b) else if right then option_map (λ c. (mirrored op, c)) (literal_in a) else None) zone ≡ true
    → is_yes (on_both (comparison_of op) (meaning t later a v row) (meaning t later b v row)) ≡ true → ⊥
compared t later op a b v row zone true right is other at out says =
    let same : meaning t later a v row ≡ Some v = ap (λ (e : Term). meaning t later e v row) (root_is a is) in
    root_with t later op b v row zone (literal_in b) refl at out (sym (ap (λ (o : Option Datum). is_yes (on_both (comparison_of op) o (meaning t later b v row))) same) ∙ says)
compared t later op a b v row zone false true is other at out says =
    let same : meaning t later b v row ≡ Some v = ap (λ (e : Term). meaning t later e v row) (root_is b other) in
    with_root t later op a v row zone (literal_in a) refl at out (sym (ap (λ (o : Option Datum). is_yes (on_both (comparison_of op) (meaning t later a v row) o)) same) ∙ says)
compared t later op a b v row zone false false is other at out says = cc

-- ---- tests of the root

le_number : (z w : ℤ) (o : Ordering) → MatchOrdering o (z <ℤ w) (z ≡ w) (w <ℤ z) → z ≤ℤ w → holds Le o ≡ true
le_number z w Less m le = refl
le_number z w Equal m le = refl
le_number z w Greater m le = absurd (omega (arith, ints, m, le))

number_le : (z w : ℤ) (o : Ordering) → MatchOrdering o (z <ℤ w) (z ≡ w) (w <ℤ z) → holds Le o ≡ true → z ≤ℤ w
number_le z w Less m h = omega (arith, ints, m)
number_le z w Equal m h = omega (arith, ints, m)
number_le z w Greater m h = absurd cc

ranked : (z w : ℤ) → MatchOrdering (int_cmp z w) (z <ℤ w) (z ≡ w) (w <ℤ z)
ranked z w = int_ranked z w (int_cmp z w) refl

bound_yes : (later : ℕ) (v : Datum) → is_yes (bound_test_of later v) ≡ true → tells Le v (natural later) ≡ true
bound_yes later null h = cc
bound_yes later (truth b) h = cc
bound_yes later (text b) h = cc
bound_yes later (structure b) h = cc
bound_yes later (number z) h = le_number z (pos later) (int_cmp z (pos later)) (ranked z (pos later)) (le_from z (pos later) h)

pos_le : (later bound : ℕ) → later ≤ bound → pos later ≤ℤ pos bound
pos_le later bound less = omega (arith, ints, less)

-- a lesser bound tells no more
lesser_bound : (later bound : ℕ) (v : Datum) → later ≤ bound → tells Le v (natural later) ≡ true → tells Le v (natural bound) ≡ true
lesser_bound later bound null less says = cc
lesser_bound later bound (truth b) less says = cc
lesser_bound later bound (text b) less says = cc
lesser_bound later bound (structure b) less says = cc
lesser_bound later bound (number z) less says =
    let one : z ≤ℤ pos later = number_le z (pos later) (int_cmp z (pos later)) (ranked z (pos later)) says in
    let two = pos_le later bound less in
    le_number z (pos bound) (int_cmp z (pos bound)) (ranked z (pos bound)) (omega (arith, ints, one, two))

-- ---- and, or

and_yes : (o p : Option Datum) → is_yes (on_both and_of o p) ≡ true → (is_yes o ≡ true) × (is_yes p ≡ true)
and_yes None p h = absurd cc
and_yes (Some v) None h = absurd cc
and_yes (Some (truth true)) (Some (truth true)) h = (refl, refl)
and_yes (Some (truth true)) (Some (truth false)) h = absurd cc
and_yes (Some (truth false)) (Some (truth b)) h = absurd cc
and_yes (Some (truth true)) (Some null) h = absurd cc
and_yes (Some (truth false)) (Some null) h = absurd cc
and_yes (Some (truth true)) (Some (number z)) h = absurd cc
and_yes (Some (truth false)) (Some (number z)) h = absurd cc
and_yes (Some (truth true)) (Some (text b)) h = absurd cc
and_yes (Some (truth false)) (Some (text b)) h = absurd cc
and_yes (Some (truth true)) (Some (structure b)) h = absurd cc
and_yes (Some (truth false)) (Some (structure b)) h = absurd cc
and_yes (Some null) (Some null) h = absurd cc
and_yes (Some null) (Some (truth true)) h = absurd cc
and_yes (Some null) (Some (truth false)) h = absurd cc
and_yes (Some null) (Some (number z)) h = absurd cc
and_yes (Some null) (Some (text b)) h = absurd cc
and_yes (Some null) (Some (structure b)) h = absurd cc
and_yes (Some (number z)) (Some w) h = absurd cc
and_yes (Some (text b)) (Some w) h = absurd cc
and_yes (Some (structure b)) (Some w) h = absurd cc

or_yes : (o p : Option Datum) → is_yes (on_both or_of o p) ≡ true → (is_yes o ≡ true) ⊎ (is_yes p ≡ true)
or_yes None p h = absurd cc
or_yes (Some v) None h = absurd cc
or_yes (Some (truth true)) (Some w) h = inl refl
or_yes (Some (truth false)) (Some (truth b)) h = inr h
or_yes (Some (truth false)) (Some null) h = absurd cc
or_yes (Some (truth false)) (Some (number z)) h = absurd cc
or_yes (Some (truth false)) (Some (text b)) h = absurd cc
or_yes (Some (truth false)) (Some (structure b)) h = absurd cc
or_yes (Some null) (Some null) h = absurd cc
or_yes (Some null) (Some (truth true)) h = inr refl
or_yes (Some null) (Some (truth false)) h = absurd cc
or_yes (Some null) (Some (number z)) h = absurd cc
or_yes (Some null) (Some (text b)) h = absurd cc
or_yes (Some null) (Some (structure b)) h = absurd cc
or_yes (Some (number z)) (Some w) h = absurd cc
or_yes (Some (text b)) (Some w) h = absurd cc
or_yes (Some (structure b)) (Some w) h = absurd cc

-- ---- a predicate

abbrev Tested : (Datum → Option Datum) → DataType → ℕ → Term → Datum → ℕ → Type 0
Tested f t later e v row = is_yes (option_and_then f (meaning t later e v row)) ≡ true

at_root : (f : Datum → Option Datum) (t : DataType) (later : ℕ) (e : Term) (v : Datum) (row : ℕ) → is_root e ≡ true → Tested f t later e v row → is_yes (f v) ≡ true
at_root f t later e v row is says =
    let same : meaning t later e v row ≡ Some v = ap (λ (d : Term). meaning t later d v row) (root_is e is) in
    sym (ap (λ (o : Option Datum). is_yes (option_and_then f o)) same) ∙ says

pub not_true : (t : DataType) (later bound : ℕ) (e : Term) (v : Datum) (row : ℕ) (zone : Zone) → later ≤ bound → At zone v → prunes bound e zone ≡ true → is_yes (meaning t later e v row) ≡ true → ⊥
not_true t later bound (comparison op a b) v row zone less at out says = compared t later op a b v row zone (is_root a) (is_root b) refl refl at out says
not_true t later bound (bound_test e) v row zone less at out says =
    let both = and_both (is_root e) (tells Gt zone.least (natural bound) || all_null zone) out in
    let is : tells Le v (natural later) ≡ true = bound_yes later v (at_root (bound_test_of later) t later e v row both.0 says) in
    excluded_or_null Le (natural bound) v zone at both.1 (lesser_bound later bound v less is)
not_true t later bound (null_test e) v row zone less at out says =
    let both = and_both (is_root e) (none_null zone) out in
    let is : is_null v ≡ true = at_root null_test_of t later e v row both.0 says in
    let isnt : is_null v ≡ false = at.values both.1 in
    cc
not_true t later bound (value_test e) v row zone less at out says =
    let both = and_both (is_root e) (all_null zone) out in
    let is : is_null v ≡ true = at.nulls both.1 in
    let isnt : Rattle.std.specs.Prelude.not (is_null v) ≡ true = at_root value_test_of t later e v row both.0 says in
    let turn : Rattle.std.specs.Prelude.not (is_null v) ≡ false = ap Rattle.std.specs.Prelude.not is in
    cc
not_true t later bound (conjunction a b) v row zone less at out says =
    let both = and_yes (meaning t later a v row) (meaning t later b v row) says in
    or_cases (prunes bound a zone) (prunes bound b zone) out
    (λ h. not_true t later bound a v row zone less at h both.0)
    (λ h. not_true t later bound b v row zone less at h both.1)
not_true t later bound (disjunction a b) v row zone less at out says =
    one_of (and_both (prunes bound a zone) (prunes bound b zone) out) (not_true t later bound a v row zone less at) (not_true t later bound b v row zone less at) (or_yes (meaning t later a v row) (meaning t later b v row) says)
  where
    one_of : (prunes bound a zone ≡ true) × (prunes bound b zone ≡ true) → (prunes bound a zone ≡ true → is_yes (meaning t later a v row) ≡ true → ⊥) → (prunes bound b zone ≡ true → is_yes (meaning t later b v row) ≡ true → ⊥)
        → (is_yes (meaning t later a v row) ≡ true) ⊎ (is_yes (meaning t later b v row) ≡ true) → ⊥
    one_of both left right (inl h) = left both.0 h
    one_of both left right (inr h) = right both.1 h
not_true t later bound root v row zone less at out says = cc
not_true t later bound (literal w s) v row zone less at out says = cc
not_true t later bound (get_field name e) v row zone less at out says = cc
not_true t later bound (pack es) v row zone less at out says = cc
not_true t later bound (negation e) v row zone less at out says = cc
not_true t later bound (arithmetic op a b) v row zone less at out says = cc
not_true t later bound row_number v row zone less at out says = cc
