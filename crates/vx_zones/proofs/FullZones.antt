-- Which zones are told to be of nulls alone: each zone but the last has as many rows as a zone has.
use Rattle.std.proofs.Common.{◌≡◌, ℕ, zero, suc, ◌+◌, ◌-◌, ◌*◌, ◌<◌, ◌≤◌, Bool, List, [], ◌∷◌, ◌++◌, length, map, take, drop, refl, sym, ap, ◌∙◌, arith, suc-mul, add-one, drop-cons}
use Rattle.std.specs.Prelude.{min, slice_index_or, slice_range}
use Rattle.std.specs.Int.{div_ceil}
use Rattle.std.proofs.lemmas.Grind.{div_ceil_times}
use Rattle.std.proofs.lemmas.List.{drop_all, take-map}
use Rattle.vx_base.specs.ColumnCalls.{natural}
use Rattle.vx_base.specs.Data.{Datum, null}
use Rattle.vx_operators.specs.declared.operators.CompareOp.TheVariants.{Eq}
use Rattle.vx_zones.specs.Prunes.{tells}
use Rattle.vx_zones.specs.Tellings.{full_along}

-- whether so many rows are told
abbrev pub is_told : ℕ → Datum → Bool
is_told rows v = tells Eq v (natural rows)

-- the first zones, which are whole, and then the others
pub full_front : (zone_len left k : ℕ) (told : List Datum) → k * zone_len ≤ left → k ≤ length told → full_along zone_len left told ≡ map (is_told zone_len) (take k told) ++ full_along zone_len (left - k * zone_len) (drop k told)
full_front zone_len left zero told fits few =
    let same : left ≡ left - zero * zone_len = omega arith in
    ap (λ (n : ℕ). full_along zone_len n told) same
full_front zone_len left (suc k) [] fits few = absurd (omega (arith, few))
full_front zone_len left (suc k) (d ∷ told) fits few =
    let mul = suc-mul k zone_len in
    let whole : min zone_len left ≡ zone_len = omega (arith, mul, fits) in
    let rest : k * zone_len ≤ left - zone_len = omega (arith, mul, fits) in
    let after : (left - zone_len) - k * zone_len ≡ left - suc k * zone_len = omega (arith, mul) in
    let so_far = full_front zone_len (left - zone_len) k told rest (omega (arith, few)) in
    let here : is_told (min zone_len left) d ≡ is_told zone_len d = ap (λ (n : ℕ). is_told n d) whole in
    (λ i. here i ∷ so_far i) ∙ ap (λ (n : ℕ). is_told zone_len d ∷ (map (is_told zone_len) (take k told) ++ full_along zone_len n (drop k told))) after

-- the zones before the last end inside the rows
pub before_fits : (zone_len row_count zones last : ℕ) → 0 < zone_len → zones ≡ div_ceil row_count zone_len → zones ≡ last + 1 → last * zone_len ≤ row_count
before_fits zone_len row_count zones last some count is =
    let most : div_ceil row_count zone_len * zone_len < row_count + zone_len = (div_ceil_times row_count zone_len some).1 in
    let many : div_ceil row_count zone_len ≡ suc last = sym count ∙ is ∙ add-one last in
    let mul : suc last * zone_len ≡ last * zone_len + zone_len = suc-mul last zone_len in
    let all : suc last * zone_len < row_count + zone_len = subst_count many most in
    omega (arith, all, mul)
  where
    subst_count : {n m : ℕ} → n ≡ m → n * zone_len < row_count + zone_len → m * zone_len < row_count + zone_len
    subst_count {n} {m} e h = Rattle.std.proofs.Common.subst (λ (x : ℕ). x * zone_len < row_count + zone_len) e h

-- what is told of each zone but the last by one number, and of the last by another
pub full_rows : (zone_len row_count : ℕ) (told : List Datum) (zones last left : ℕ) (one two : Datum) (whole before end mask : List Bool)
    → 0 < zone_len → length told ≡ div_ceil row_count zone_len → zones ≡ length told → zones ≡ last + 1 → left ≡ row_count - last * zone_len
    → one ≡ natural zone_len → two ≡ natural (min zone_len left)
    → whole ≡ map (λ v. tells Eq v one) told → before ≡ slice_range whole 0 last → end ≡ tells Eq (slice_index_or told last null) two ∷ [] → mask ≡ before ++ end
    → mask ≡ full_along zone_len row_count told
full_rows zone_len row_count told zones last left one two whole before end mask some count zones_is last_is left_is one_is two_is whole_is before_is end_is mask_is =
    let few : last < length told = omega (arith, zones_is, last_is) in
    let fits : last * zone_len ≤ row_count = before_fits zone_len row_count zones last some (zones_is ∙ count) last_is in
    let all_is : whole ≡ map (is_told zone_len) told = whole_is ∙ ap (λ (d : Datum). map (λ (v : Datum). tells Eq v d) told) one_is in
    let all_but : last - 0 ≡ last = omega arith in
    let front : before ≡ map (is_told zone_len) (take last told) = before_is ∙ (λ i. take (all_but i) (all_is i)) ∙ take-map (is_told zone_len) last told in
    let none : drop (last + 1) told ≡ [] = drop_all (last + 1) told (omega (arith, zones_is, last_is)) in
    let split : drop last told ≡ slice_index_or told last null ∷ [] = drop-cons told last null few ∙ ap (λ (ds : List Datum). slice_index_or told last null ∷ ds) (ap (λ (n : ℕ). drop n told) (sym (add-one last)) ∙ none) in
    let after : end ≡ full_along zone_len (row_count - last * zone_len) (drop last told) =
    end_is ∙ ap (λ (d : Datum). tells Eq (slice_index_or told last null) d ∷ []) two_is
    ∙ ap (λ (n : ℕ). is_told (min zone_len n) (slice_index_or told last null) ∷ []) left_is
    ∙ ap (full_along zone_len (row_count - last * zone_len)) (sym split) in
    mask_is ∙ (λ i. front i ++ after i) ∙ sym (full_front zone_len row_count last told fits (omega (arith, few)))

-- among no zones none is
pub full_none : (zone_len row_count : ℕ) (told : List Datum) → length told ≡ 0 → [] ≡ full_along zone_len row_count told
full_none zone_len row_count [] none = refl
full_none zone_len row_count (d ∷ told) none = absurd (omega (arith, none))
