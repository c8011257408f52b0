-- Columns of leaves that were here still are.
use Rattle.std.proofs.Common.{◌≡◌, ℕ, List, [], ◌∷◌, Option, Some, None, refl, sym, ap, ◌∙◌}
use Rattle.vx_base.specs.Columns.{ColumnData}
use Rattle.vx_steps.specs.KeptData.{Kept}
use Rattle.vx_steps.specs.Kept.{kept_at, IsKept}
use Rattle.vx_steps.specs.LeafColumns.{AddsColumn}
use Rattle.vx_steps.specs.LeafStores.{KeepsHere}
use Rattle.vx_steps.specs.LeavesData.{LeavesData}
use Rattle.vx_steps.proofs.Keeping.{kept_new, kept_old}

pub here_none : (leaves : LeavesData) → KeepsHere leaves leaves
here_none leaves = record { ready = refl; stays = λ n column at. at; here = λ n held kept. held kept }

pub here_then : (old mid new : LeavesData) → KeepsHere old mid → KeepsHere mid new → KeepsHere old new
here_then old mid new first second = record {
  ready = second.ready ∙ first.ready;
  stays = λ n column at. second.stays n column (first.stays n column at);
  here = λ n held kept. second.here n (first.here n held) kept;
}

some_none : (o : Option ColumnData) (column : ColumnData) → o ≡ Some column → o ≡ None → ⊥
some_none o column some none = cc

pub here_added : (node : ℕ) (column : ColumnData) (old new : LeavesData) → AddsColumn node column old new → KeepsHere old new
here_added node column old new adds = record {
  ready = adds.ready;
  stays = λ n found at. ap (λ (ks : List Kept). kept_at ks n) adds.here ∙ kept_old old.here more n found at;
  here = λ n held kept. by n held kept (kept_at old.here n) refl (kept_at old.all n) refl;
}
  where
    more : List Kept
    more = record { node = node; column = column } ∷ []

    by : (n : ℕ) → (IsKept old.all n → IsKept old.here n) → IsKept new.all n → (o : Option ColumnData) → kept_at old.here n ≡ o → (p : Option ColumnData) → kept_at old.all n ≡ p → IsKept new.here n
    by n held kept (Some x) e p f = (x, ap (λ (ks : List Kept). kept_at ks n) adds.here ∙ kept_old old.here more n x e)
    by n held kept None e (Some y) f =
        let is = held (y, f) in
        absurd (some_none (kept_at old.here n) is.0 is.1 e)
    by n held kept None e None f =
        (kept.0, ap (λ (ks : List Kept). kept_at ks n) adds.here ∙ (kept_new old.here more n e ∙ (sym (kept_new old.all more n f) ∙ (sym (ap (λ (ks : List Kept). kept_at ks n) adds.all) ∙ kept.1))))
