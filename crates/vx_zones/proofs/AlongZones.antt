-- What is asked of each zone, along the zones of a table.
use Rattle.std.proofs.Common.{◌≡◌, ℕ, ◌-◌, Bool, false, List, [], ◌∷◌, length, map, replicate, refl, sym, ap, ◌∙◌}
use Rattle.std.specs.Prelude.{min, ◌&&◌, ◌||◌}
use Rattle.vx_base.specs.Data.{Datum}
use Rattle.vx_expr.specs.declared.statistics.Statistic.{Statistic}
use Rattle.vx_expr.specs.declared.statistics.Statistic.TheVariants.{Min, Max, NullCount}
use Rattle.vx_base.specs.Masks.{either, both}
use Rattle.std.specs.Prelude.{Option, None, Result, Ok, Err, IfOk}
use Rattle.vx_operators.specs.declared.operators.CompareOp.{CompareOp}
use Rattle.vx_expr.specs.Terms.{Term}
use Rattle.vx_zones.specs.Prunes.{all_null, root_comparison, excludes_comparison}
use Rattle.vx_zones.specs.Tables.{Zone, TableData, place_of, told_at, zone_of, zones_along, zones_in}
use Rattle.vx_zones.specs.Tellings.{full_along}

pub along_least : (f : Datum → Bool) (stats : List Statistic) (zone_len left : ℕ) (told : List Datum) → map (λ d. f (told_at (place_of Min stats) d)) told ≡ map (λ zone. f zone.least) (zones_along stats zone_len left told)
along_least f stats zone_len left [] = refl
along_least f stats zone_len left (d ∷ told) = ap (λ (rest : List Bool). f (told_at (place_of Min stats) d) ∷ rest) (along_least f stats zone_len (left - zone_len) told)

pub along_greatest : (f : Datum → Bool) (stats : List Statistic) (zone_len left : ℕ) (told : List Datum) → map (λ d. f (told_at (place_of Max stats) d)) told ≡ map (λ zone. f zone.greatest) (zones_along stats zone_len left told)
along_greatest f stats zone_len left [] = refl
along_greatest f stats zone_len left (d ∷ told) = ap (λ (rest : List Bool). f (told_at (place_of Max stats) d) ∷ rest) (along_greatest f stats zone_len (left - zone_len) told)

pub along_nulls : (f : Datum → Bool) (stats : List Statistic) (zone_len left : ℕ) (told : List Datum) → map (λ d. f (told_at (place_of NullCount stats) d)) told ≡ map (λ zone. f zone.nulls) (zones_along stats zone_len left told)
along_nulls f stats zone_len left [] = refl
along_nulls f stats zone_len left (d ∷ told) = ap (λ (rest : List Bool). f (told_at (place_of NullCount stats) d) ∷ rest) (along_nulls f stats zone_len (left - zone_len) told)

pub along_full : (stats : List Statistic) (zone_len left : ℕ) (told : List Datum) → full_along zone_len left (map (told_at (place_of NullCount stats)) told) ≡ map all_null (zones_along stats zone_len left told)
along_full stats zone_len left [] = refl
along_full stats zone_len left (d ∷ told) = ap (λ (rest : List Bool). all_null (zone_of stats (min zone_len left) d) ∷ rest) (along_full stats zone_len (left - zone_len) told)

pub along_nothing : (stats : List Statistic) (zone_len left : ℕ) (told : List Datum) → replicate (length told) false ≡ map (λ (zone : Zone). false) (zones_along stats zone_len left told)
along_nothing stats zone_len left [] = refl
along_nothing stats zone_len left (d ∷ told) = ap (λ (rest : List Bool). false ∷ rest) (along_nothing stats zone_len (left - zone_len) told)

-- ---- two tests of each zone

pub either_of : (f g : Zone → Bool) (zones : List Zone) → either (map f zones) (map g zones) ≡ map (λ zone. f zone || g zone) zones
either_of f g [] = refl
either_of f g (zone ∷ zones) = ap (λ (rest : List Bool). (f zone || g zone) ∷ rest) (either_of f g zones)

pub both_of : (f g : Zone → Bool) (zones : List Zone) → both (map f zones) (map g zones) ≡ map (λ zone. f zone && g zone) zones
both_of f g [] = refl
both_of f g (zone ∷ zones) = ap (λ (rest : List Bool). (f zone && g zone) ∷ rest) (both_of f g zones)

pub either_given : (f g : Zone → Bool) (zones : List Zone) (a b mask : List Bool) → mask ≡ either a b → a ≡ map f zones → b ≡ map g zones → mask ≡ map (λ zone. f zone || g zone) zones
either_given f g zones a b mask is p q = is ∙ (λ i. either (p i) (q i)) ∙ either_of f g zones

pub both_given : (f g : Zone → Bool) (zones : List Zone) (a b mask : List Bool) → mask ≡ both a b → a ≡ map f zones → b ≡ map g zones → mask ≡ map (λ zone. f zone && g zone) zones
both_given f g zones a b mask is p q = is ∙ (λ i. both (p i) (q i)) ∙ both_of f g zones

-- ---- the same of an answer, which may be none for want of memory

pub either_answered : {E : Type 0} (f g : Zone → Bool) (zones : List Zone) (a b : List Bool) (r : Result (List Bool) E) → IfOk r (λ mask. mask ≡ either a b) → a ≡ map f zones → b ≡ map g zones
    → IfOk r (λ mask. mask ≡ map (λ zone. f zone || g zone) zones)
either_answered f g zones a b (Ok mask) is p q = either_given f g zones a b mask is p q
either_answered f g zones a b (Err error) is p q = tt

pub both_answered : {E : Type 0} (f g : Zone → Bool) (zones : List Zone) (a b : List Bool) (r : Result (List Bool) E) → IfOk r (λ mask. mask ≡ both a b) → a ≡ map f zones → b ≡ map g zones
    → IfOk r (λ mask. mask ≡ map (λ zone. f zone && g zone) zones)
both_answered f g zones a b (Ok mask) is p q = both_given f g zones a b mask is p q
both_answered f g zones a b (Err error) is p q = tt

-- ---- a comparison that is none of the root with a literal

pub not_compared : {E : Type 0} (op : CompareOp) (a b : Term) (table : TableData) (r : Result (List Bool) E) → root_comparison op a b ≡ None → IfOk r (λ mask. mask ≡ map (λ zone. false) (zones_in table))
    → IfOk r (λ mask. mask ≡ map (excludes_comparison (root_comparison op a b)) (zones_in table))
not_compared op a b table (Ok mask) none is = is ∙ ap (λ (found : Option (CompareOp × Datum)). map (excludes_comparison found) (zones_in table)) (sym none)
not_compared op a b table (Err error) none is = tt
