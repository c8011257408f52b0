-- A predicate without a proof prunes no zone.
use Rattle.std.proofs.Common.{◌≡◌, Bool, true, false, Option, Some, None, refl}
use Rattle.std.specs.Prelude.{◌&&◌, ◌||◌, is_some}
use Rattle.vx_base.specs.ColumnCalls.{natural}
use Rattle.vx_base.specs.Data.{Datum}
use Rattle.vx_operators.specs.declared.operators.CompareOp.{CompareOp}
use Rattle.vx_operators.specs.declared.operators.CompareOp.TheVariants.{Gt}
use Rattle.vx_expr.specs.Mentions.{is_root}
use Rattle.vx_expr.specs.Terms.{root, literal, get_field, pack, negation, conjunction, disjunction, comparison, null_test, value_test, arithmetic, row_number, bound_test}
use Rattle.vx_zones.specs.Prunes.{tells, all_null, none_null, root_comparison, excludes_comparison, prunes, is_provable, ProofsAlonePrune}
use Rattle.vx_zones.specs.Tables.{Zone}

not_found : (found : Option (CompareOp × Datum)) (zone : Zone) → is_some found ≡ false → excludes_comparison found zone ≡ false
not_found None zone none = refl
not_found (Some test) zone none = absurd cc

not_first : (a b : Bool) → a ≡ false → a && b ≡ false
not_first false b none = refl
not_first true b none = absurd cc

not_second : (a b : Bool) → b ≡ false → a && b ≡ false
not_second false b none = refl
not_second true b none = none

neither : (a b : Bool) → a || b ≡ false → (a ≡ false) × (b ≡ false)
neither false b none = (refl, none)
neither true b none = absurd cc

none_of : (p q : Bool) → p ≡ false → q ≡ false → p || q ≡ false
none_of false q one two = two
none_of true q one two = absurd cc

not_both : (a b p q : Bool) → a && b ≡ false → (a ≡ false → p ≡ false) → (b ≡ false → q ≡ false) → p && q ≡ false
not_both false b p q none one two = not_first p q (one refl)
not_both true b p q none one two = not_second p q (two none)

pub without_proof : ProofsAlonePrune
without_proof (comparison op a b) bound zone none = not_found (root_comparison op a b) zone none
without_proof (bound_test e) bound zone none = not_first (is_root e) (tells Gt zone.least (natural bound) || all_null zone) none
without_proof (null_test e) bound zone none = not_first (is_root e) (none_null zone) none
without_proof (value_test e) bound zone none = not_first (is_root e) (all_null zone) none
without_proof (conjunction a b) bound zone none =
    let both = neither (is_provable a) (is_provable b) none in
    none_of (prunes bound a zone) (prunes bound b zone) (without_proof a bound zone both.0) (without_proof b bound zone both.1)
without_proof (disjunction a b) bound zone none = not_both (is_provable a) (is_provable b) (prunes bound a zone) (prunes bound b zone) none (without_proof a bound zone) (without_proof b bound zone)
without_proof root bound zone none = refl
without_proof (literal w s) bound zone none = refl
without_proof (get_field name e) bound zone none = refl
without_proof (pack es) bound zone none = refl
without_proof (negation e) bound zone none = refl
without_proof (arithmetic op a b) bound zone none = refl
without_proof row_number bound zone none = refl
