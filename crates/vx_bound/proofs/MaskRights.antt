-- A mask of zones that are pruned at a key, made anew or kept.
use Rattle.std.proofs.Common.{◌≡◌, ℕ, List, Bool, Option, Some, Result, Ok, Err, sym, ap, ◌∙◌, subst}
use Rattle.std.specs.Prelude.{IfOk, IfSome, option_map}
use Rattle.vx_expr.specs.Bound.{Bound}
use Rattle.vx_zones.specs.Covers.{NoRowIsTrue}
use Rattle.vx_zones.specs.Prunes.{pruned_zones}
use Rattle.vx_zones.specs.Tables.{TableData}
use Rattle.vx_zones.proofs.TableLaw.{pruned_is_not_true}
use Rattle.vx_bound.specs.declared.bounds.BoundSeat.{BoundSeat}
use Rattle.vx_bound.specs.declared.pruned_zones.BoundMask.{BoundMask}
use Rattle.vx_bound.specs.Bounds.{least_seen}
use Rattle.vx_bound.specs.KeptMasks.{PrunedData, pruned_data, AreKept}
use Rattle.vx_bound.specs.PrunedMasks.{MaskGives}

-- ---- a mask at the key that a seat has seen

pub mask_gives : (table : TableData) (predicate : Bound) (seat : BoundSeat) (made : BoundMask) → least_seen seat ≡ made.key → made.mask ≡ pruned_zones made.key predicate.term table → MaskGives table predicate seat made
mask_gives table predicate seat made seen is = record {
  key = sym seen;
  mask = is;
  keeps = subst (NoRowIsTrue table predicate.root predicate.term made.key) (sym is) (pruned_is_not_true table predicate.root predicate.term made.key);
}

-- one that was made at that key, where it was made
pub made_gives : {E : Type 0} (table : TableData) (predicate : Bound) (seat : BoundSeat) (key : ℕ) (result : Result BoundMask E) → least_seen seat ≡ key
    → IfOk result (λ made. made.key ≡ key) → IfOk result (λ made. made.mask ≡ pruned_zones key predicate.term table) → IfOk result (λ made. MaskGives table predicate seat made)
made_gives table predicate seat key (Ok made) seen at is = mask_gives table predicate seat made (seen ∙ sym at) (is ∙ ap (λ (n : ℕ). pruned_zones n predicate.term table) (sym at))
made_gives table predicate seat key (Err error) seen at is = tt

-- ---- a copy of the kept mask, where it was made at that key

-- it is what is seen as kept
pub kept_shown : (z : PrunedData) (zones : TableData) (proof : Bound) (kept : Option BoundMask) (m : BoundMask) (mask : List Bool) (key : ℕ) → pruned_data zones proof (option_map (λ k. (k.key, k.mask)) kept) ≡ z
    → kept ≡ Some m → m.key ≡ key → mask ≡ m.mask → z.kept ≡ Some (key, mask)
kept_shown z zones proof kept m mask key view is same_key same_mask =
    sym (ap (λ (y : PrunedData). y.kept) view) ∙ ap (option_map (λ (k : BoundMask). (k.key, k.mask))) is ∙ (λ i. Some (same_key i, sym same_mask i))

-- and has the zones that are pruned at the key
pub kept_right : (z : PrunedData) (zones : TableData) (proof : Bound) (kept : Option BoundMask) (m : BoundMask) (mask : List Bool) (key : ℕ) → pruned_data zones proof (option_map (λ k. (k.key, k.mask)) kept) ≡ z
    → AreKept (pruned_data zones proof (option_map (λ k. (k.key, k.mask)) kept))
    → kept ≡ Some m → m.key ≡ key → mask ≡ m.mask → mask ≡ pruned_zones key z.predicate.term z.table
kept_right z zones proof kept m mask key view right is same_key same_mask =
    let all : AreKept z = subst AreKept view right in
    subst (λ (o : Option (ℕ × List Bool)). IfSome {T = ℕ × List Bool} o (λ k. k.1 ≡ pruned_zones k.0 z.predicate.term z.table)) (kept_shown z zones proof kept m mask key view is same_key same_mask) all.right
