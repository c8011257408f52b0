-- The zones of a table that covers values, and what a pruned zone's rows then make of the predicate.
use Rattle.std.proofs.Common.{◌≡◌, ℕ, zero, suc, ◌+◌, ◌-◌, ◌*◌, ◌<◌, ◌≤◌, Bool, true, false, List, [], ◌∷◌, length, map, take, drop, Some, refl, sym, ap, ◌∙◌, subst, arith, suc-mul}
use Rattle.std.specs.Prelude.{min, slice_get, ℤ, pos, ◌<ℤ◌}
use Rattle.std.specs.List.{AllByRecursion, count_by}
use Rattle.std.specs.Ordering.{int_cmp, MatchOrdering}
use Rattle.std.specs.declared.cmp.Ordering.{Ordering}
use Rattle.std.specs.declared.cmp.Ordering.TheVariants.{Less, Equal, Greater}
use Rattle.std.proofs.lemmas.Cmp.{int_ranked}
use Rattle.std.proofs.lemmas.List.{length-take, length-drop}
use Rattle.std.proofs.lemmas.List.Sums.{sum_by-cons}
use Rattle.std.specs.Prelude.{if◌then◌else◌}
use Rattle.vx_base.specs.ColumnCalls.{natural}
use Rattle.vx_base.specs.Data.{DataType, Datum, null, truth, number, text, structure}
use Rattle.vx_operators.specs.declared.operators.CompareOp.TheVariants.{Eq, Le, Ge}
use Rattle.vx_operators.specs.Operators.{is_null, holds}
use Rattle.vx_expr.specs.declared.statistics.Statistic.{Statistic}
use Rattle.vx_expr.specs.Meaning.{meaning}
use Rattle.vx_expr.specs.Terms.{Term}
use Rattle.vx_zones.specs.Covers.{MayBe, CoversZone, CoverEach, PrunedIsNotTrue}
use Rattle.vx_zones.specs.Prunes.{is_yes, tells, prunes}
use Rattle.vx_zones.specs.Tables.{Zone, zone_of, zones_along}
use Rattle.vx_zones.proofs.Orders.{may_tell, teller_known}
use Rattle.vx_zones.proofs.ZoneLaw.{At, not_true}

-- ---- the nulls of a zone

each_at : {X : Type 0} (P : X → Type 0) (xs : List X) (k : ℕ) (x : X) → AllByRecursion P xs → slice_get xs k ≡ Some x → P x
each_at P [] k x all at = absurd cc
each_at P (y ∷ xs) zero x all at = let same : y ≡ x = cc in subst P same all.0
each_at P (y ∷ xs) (suc k) x all at = each_at P xs k x all.1 at

abbrev counts : Datum → ℕ
counts v = if is_null v then 1 else 0

counts_null : (v : Datum) → is_null v ≡ true → counts v ≡ 1
counts_null v is = rw is refl

counts_value : (v : Datum) → is_null v ≡ false → counts v ≡ 0
counts_value v is = rw is refl

counts_once : (v : Datum) → counts v ≤ 1
counts_once null = omega arith
counts_once (truth b) = omega arith
counts_once (number z) = omega arith
counts_once (text b) = omega arith
counts_once (structure b) = omega arith

no_more_nulls : (vs : List Datum) → count_by is_null vs ≤ length vs
no_more_nulls [] = omega arith
no_more_nulls (v ∷ vs) =
    let cons : count_by is_null (v ∷ vs) ≡ counts v + count_by is_null vs = sum_by-cons counts v vs in
    let once = counts_once v in
    let rest = no_more_nulls vs in
    omega (arith, cons, once, rest)

null_where_all : (vs : List Datum) (k : ℕ) (v : Datum) → count_by is_null vs ≡ length vs → slice_get vs k ≡ Some v → is_null v ≡ true
null_where_all [] k v all at = absurd cc
null_where_all (w ∷ vs) zero v all at =
    let cons : count_by is_null (w ∷ vs) ≡ counts w + count_by is_null vs = sum_by-cons counts w vs in
    let most = no_more_nulls vs in
    let same : w ≡ v = cc in
    subst (λ (x : Datum). is_null x ≡ true) same (by_test (is_null w) refl (omega (arith, cons, most, all)))
  where
    by_test : (b : Bool) → is_null w ≡ b → 1 ≤ counts w → is_null w ≡ true
    by_test true is one = is
    by_test false is one = let none = counts_value w is in absurd (omega (arith, none, one))
null_where_all (w ∷ vs) (suc k) v all at =
    let cons : count_by is_null (w ∷ vs) ≡ counts w + count_by is_null vs = sum_by-cons counts w vs in
    let once = counts_once w in
    let most = no_more_nulls vs in
    null_where_all vs k v (omega (arith, cons, once, most, all)) at

value_where_none : (vs : List Datum) (k : ℕ) (v : Datum) → count_by is_null vs ≡ 0 → slice_get vs k ≡ Some v → is_null v ≡ false
value_where_none [] k v none at = absurd cc
value_where_none (w ∷ vs) zero v none at =
    let cons : count_by is_null (w ∷ vs) ≡ counts w + count_by is_null vs = sum_by-cons counts w vs in
    let same : w ≡ v = cc in
    subst (λ (x : Datum). is_null x ≡ false) same (by_test (is_null w) refl (omega (arith, cons, none)))
  where
    by_test : (b : Bool) → is_null w ≡ b → counts w ≡ 0 → is_null w ≡ false
    by_test true is zero_count = let one = counts_null w is in absurd (omega (arith, one, zero_count))
    by_test false is zero_count = is
value_where_none (w ∷ vs) (suc k) v none at =
    let cons : count_by is_null (w ∷ vs) ≡ counts w + count_by is_null vs = sum_by-cons counts w vs in
    value_where_none vs k v (omega (arith, cons, none)) at

-- two numbers that one number equals
equal_is : (z w : ℤ) (o : Ordering) → MatchOrdering o (z <ℤ w) (z ≡ w) (w <ℤ z) → holds Eq o ≡ true → z ≡ w
equal_is z w Less m h = absurd cc
equal_is z w Equal m h = m
equal_is z w Greater m h = absurd cc

same_count : (told : Datum) (a b : ℕ) → tells Eq told (natural a) ≡ true → tells Eq told (natural b) ≡ true → a ≡ b
same_count null a b p q = absurd cc
same_count (truth c) a b p q = absurd cc
same_count (text c) a b p q = absurd cc
same_count (structure c) a b p q = absurd cc
same_count (number z) a b p q =
    let one : z ≡ pos a = equal_is z (pos a) (int_cmp z (pos a)) (int_ranked z (pos a) (int_cmp z (pos a)) refl) p in
    let two : z ≡ pos b = equal_is z (pos b) (int_cmp z (pos b)) (int_ranked z (pos b) (int_cmp z (pos b)) refl) q in
    cc

told_count : (zone : Zone) (vs : List Datum) (n : ℕ) → CoversZone zone vs → tells Eq zone.nulls (natural n) ≡ true → count_by is_null vs ≡ n
told_count zone vs n covers told =
    let may : tells Eq zone.nulls (natural (count_by is_null vs)) ≡ true = may_tell Eq zone.nulls (natural (count_by is_null vs)) (teller_known Eq zone.nulls (natural n) told) refl covers.nulls in
    same_count zone.nulls (count_by is_null vs) n may told

covers_at : (zone : Zone) (vs : List Datum) (k : ℕ) (v : Datum) → CoversZone zone vs → length vs ≡ zone.rows → slice_get vs k ≡ Some v → At zone v
covers_at zone vs k v covers rows at = record {
  least = each_at (MayBe Le zone.least) vs k v covers.least at;
  greatest = each_at (MayBe Ge zone.greatest) vs k v covers.greatest at;
  nulls = λ told. null_where_all vs k v (told_count zone vs zone.rows covers told ∙ sym rows) at;
  values = λ told. value_where_none vs k v (told_count zone vs 0 covers told) at;
}

-- ---- zone by zone

get_take : {X : Type 0} (xs : List X) (n k : ℕ) → k < n → slice_get (take n xs) k ≡ slice_get xs k
get_take xs zero k lt = absurd (omega (arith, lt))
get_take [] (suc n) k lt = refl
get_take (x ∷ xs) (suc n) zero lt = refl
get_take (x ∷ xs) (suc n) (suc k) lt = get_take xs n k (omega (arith, lt))

get_drop : {X : Type 0} (xs : List X) (n k place : ℕ) → place ≡ n + k → slice_get (drop n xs) k ≡ slice_get xs place
get_drop xs zero k place e = ap (slice_get xs) (let same : k ≡ place = omega (arith, e) in same)
get_drop [] (suc n) k place e = refl
get_drop (x ∷ xs) (suc n) k zero e = absurd (omega (arith, e))
get_drop (x ∷ xs) (suc n) k (suc place) e = get_drop xs n k place (omega (arith, e))

pub zones_law : (stats : List Statistic) (zone_len left : ℕ) (told values : List Datum) (t : DataType) (later bound : ℕ) (e : Term) (zone place nth row : ℕ) (v : Datum)
    → length values ≡ left → CoverEach zone_len (zones_along stats zone_len left told) values → later ≤ bound
    → slice_get (map (prunes bound e) (zones_along stats zone_len left told)) zone ≡ Some true
    → place < zone_len → nth ≡ zone * zone_len + place → slice_get values nth ≡ Some v
    → is_yes (meaning t later e v row) ≡ true → ⊥
zones_law stats zone_len left [] values t later bound e zone place nth row v rows covers less out inside is at says = cc
zones_law stats zone_len left (d ∷ told) values t later bound e zero place nth row v rows covers less out inside is at says =
    let here : Zone = zone_of stats (min zone_len left) d in
    let pruned : prunes bound e here ≡ true = cc in
    let same : nth ≡ place = omega (arith, is) in
    let there : slice_get (take zone_len values) place ≡ Some v = get_take values zone_len place inside ∙ ap (slice_get values) (sym same) ∙ at in
    let count = length-take zone_len values in
    not_true t later bound e v row here less (covers_at here (take zone_len values) place v covers.0 (omega (arith, count, rows)) there) pruned says
zones_law stats zone_len left (d ∷ told) values t later bound e (suc zone) place nth row v rows covers less out inside is at says =
    let mul = suc-mul zone zone_len in
    let step : suc zone * zone_len ≡ zone_len + zone * zone_len = omega (arith, mul) in
    let count = length-drop zone_len values in
    let there : slice_get (drop zone_len values) (zone * zone_len + place) ≡ Some v = get_drop values zone_len (zone * zone_len + place) nth (omega (arith, is, step)) ∙ at in
    zones_law stats zone_len (left - zone_len) told (drop zone_len values) t later bound e zone place (zone * zone_len + place) row v (omega (arith, count, rows)) covers.1 less out inside refl there says

pub pruned_is_not_true : PrunedIsNotTrue
pruned_is_not_true table t e bound values later zone place row v covers less out inside at true_there =
    zones_law table.stats table.zone_len table.row_count table.told values t later bound e zone place (zone * table.zone_len + place) row v covers.rows covers.each less out inside refl at (ap is_yes true_there)
