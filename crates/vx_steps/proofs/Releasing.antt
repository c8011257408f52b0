-- Bytes are let go only where no need is left that they serve.
use Rattle.std.proofs.Common.{◌≡◌, ℕ, zero, suc, ◌+◌, ◌<◌, ⊎_elim, inl, inr, below_more, List, [], ◌∷◌, Option, Some, None, length, get_or, refl, sym, ap, ◌∙◌, subst, arith}
use Rattle.std.specs.List.{slice_get}
use Rattle.std.proofs.lemmas.Option.{slice_get-get_or, same_Some}
use Rattle.vx_base.specs.Columns.{ColumnData}
use Rattle.vx_steps.specs.declared.leaf_reads.LeafRead.{LeafRead}
use Rattle.vx_plan.specs.Nodes.{Node}
use Rattle.vx_steps.specs.Delivered.{KeepsLeaves}
use Rattle.vx_steps.specs.Jobs.{KeepsColumns}
use Rattle.vx_steps.specs.Kept.{kept_at, IsKept}
use Rattle.vx_steps.specs.KeptData.{Kept}
use Rattle.vx_steps.specs.Needs.{Among, AreLeaves}
use Rattle.vx_steps.specs.OpenSegments.{IsLeafOver}
use Rattle.vx_steps.specs.ReadTable.{IsGone, IsNamed, KeepsStored, LetsGo, Passes}
use Rattle.vx_steps.specs.ReadTableData.{ReadsData, Stored, Wanted}
use Rattle.vx_steps.specs.Releasing.{AreHeld, IsServed, IsSpent, LetsSpentGo}

pub none_before : (old new : List Kept) (n : ℕ) → KeepsColumns old new → kept_at new n ≡ None → kept_at old n ≡ None
none_before old new n keeps e = by (kept_at old n) refl
  where
    by : (o : Option ColumnData) → kept_at old n ≡ o → o ≡ None
    by None at = refl
    by (Some column) at = let both : Some column ≡ None = sym (keeps n column at) ∙ e in absurd cc

pub among_at : {X : Type 0} (xs : List X) (x : X) → Among x xs → (i : ℕ) × (i < length xs) × (slice_get xs i ≡ Some x)
among_at [] x h = absurd h
among_at (y ∷ xs) x (inl e) = (0, omega arith, ap Some e)
among_at (y ∷ xs) x (inr h) =
    let at = among_at xs x h in
    (suc at.0, omega arith, at.2)

pub got_among : {X : Type 0} (xs : List X) (i : ℕ) (x : X) → slice_get xs i ≡ Some x → Among x xs
got_among [] i x h = cc
got_among (y ∷ xs) zero x h = inl cc
got_among (y ∷ xs) (suc i) x h = inr (got_among xs i x h)

pub stored_then : (old mid new : ReadsData) → KeepsStored old mid → KeepsStored mid new → KeepsStored old new
stored_then old mid new first second = record {
  named = λ segment n named. second.named segment n (first.named segment n named);
  gone = λ segment gone. first.gone segment (second.gone segment gone);
  still_gone = λ segment gone. second.still_gone segment (first.still_gone segment gone);
  passed = second.passed ∙ first.passed;
}

-- one more need is named
pub named_more : (handed : List Kept) (needs : List LeafRead) (i : ℕ) (need : LeafRead) → i < length needs → need ≡ get_or needs i need → (old new : ReadsData) → KeepsStored old new →
    ((place : ℕ) → place < i → (n : LeafRead) → slice_get needs place ≡ Some n → kept_at handed n.leaf ≡ None → IsNamed old.stored n.segment place) → (kept_at handed need.leaf ≡ None → IsNamed new.stored need.segment i) →
    (place : ℕ) → place < i + 1 → (n : LeafRead) → slice_get needs place ≡ Some n → kept_at handed n.leaf ≡ None → IsNamed new.stored n.segment place
named_more handed needs i need inside is old new keeps before here =
    below_more
    (λ (place : ℕ). (n : LeafRead) → slice_get needs place ≡ Some n → kept_at handed n.leaf ≡ None → IsNamed new.stored n.segment place)
    i
    (λ place less n at none. keeps.named n.segment place (before place less n at none))
    own
  where
    own : (n : LeafRead) → slice_get needs i ≡ Some n → kept_at handed n.leaf ≡ None → IsNamed new.stored n.segment i
    own n at =
        let P : LeafRead → Type 0 = λ x. kept_at handed x.leaf ≡ None → IsNamed new.stored x.segment i in
        subst P (same_Some need n (sym (slice_get-get_or needs i need inside ∙ ap Some (sym is)) ∙ at)) here

-- what is kept is not wanting
pub not_kept : (leaves : List Kept) (n : ℕ) → kept_at leaves n ≡ None → IsKept leaves n → ⊥
not_kept leaves n none (column, e) = cc

-- where bytes are gone, a need's leaf still is kept
pub held_kept : (nodes : List Node) (wanted : List Wanted) (old new : List Kept) (needs : List LeafRead) (stored : List Stored) (need : LeafRead) → KeepsLeaves nodes wanted old new → Among need needs → AreHeld old stored needs → IsGone stored need.segment → IsKept new need.leaf
held_kept nodes wanted old new needs stored need keeps among held gone =
    let k = held need among gone in
    (k.0, keeps.grows need.leaf k.0 k.1)

-- ---- what is let go while leaves are decoded

pub leaf_among : (nodes : List Node) (needs : List LeafRead) (need : LeafRead) → AreLeaves nodes needs → Among need needs → IsLeafOver nodes need.segment need.leaf
leaf_among nodes [] need are among = absurd among
leaf_among nodes (n ∷ needs) need are (inl e) =
    let P : LeafRead → Type 0 = λ x. IsLeafOver nodes x.segment x.leaf in
    let own = are.0 in
    subst P e own.1
leaf_among nodes (n ∷ needs) need are (inr m) = leaf_among nodes needs need are.1 m

spent_kept : (nodes : List Node) (old new : List Kept) (segment : ℕ) → KeepsColumns old new → IsSpent nodes old segment → IsSpent nodes new segment
spent_kept nodes old new segment keeps spent n leaf =
    let k = spent n leaf in
    (k.0, keeps n k.0 k.1)

pub lets_none : (nodes : List Node) (leaves : List Kept) (reads : ReadsData) → LetsSpentGo nodes leaves reads reads
lets_none nodes leaves reads = record { wanted = refl; handed = refl; passed = refl; named = λ segment n named. named; gone = λ segment gone. inl gone; still_gone = λ segment gone. gone }

pub lets_then : (nodes : List Node) (kept new : List Kept) (first mid last : ReadsData) → KeepsColumns kept new → LetsSpentGo nodes kept first mid → LetsSpentGo nodes new mid last → LetsSpentGo nodes new first last
lets_then nodes kept new first mid last keeps before after = record {
  wanted = after.wanted ∙ before.wanted;
  handed = after.handed ∙ before.handed;
  passed = after.passed ∙ before.passed;
  named = λ segment n named. after.named segment n (before.named segment n named);
  gone = λ segment gone. ⊎_elim (λ (g : IsGone mid.stored segment). ⊎_elim (λ (h : IsGone first.stored segment). inl h) (λ (spent : IsSpent nodes kept segment). inr (spent_kept nodes kept new segment keeps spent)) (before.gone segment g)) (λ (spent : IsSpent nodes new segment). inr spent) (after.gone segment gone);
  still_gone = λ segment gone. after.still_gone segment (before.still_gone segment gone);
}

-- the bytes of a segment each of whose leaves is kept
pub lets_spent : (nodes : List Node) (leaves : List Kept) (old new : ReadsData) (segment : ℕ) → IsSpent nodes leaves segment → LetsGo segment old new → LetsSpentGo nodes leaves old new
lets_spent nodes leaves old new segment spent lets = record {
  wanted = lets.wanted;
  handed = lets.handed;
  passed = lets.passed;
  named = lets.named;
  gone = λ s gone. ⊎_elim (λ (g : IsGone old.stored s). inl g) (λ (e : segment ≡ s). inr (subst (IsSpent nodes leaves) e spent)) (lets.gone s gone);
  still_gone = lets.still_gone;
}

-- where bytes are gone, a need's leaf is kept
pub held_let : (nodes : List Node) (old new : List Kept) (before after : ReadsData) (needs : List LeafRead) → AreLeaves nodes needs → KeepsColumns old new → LetsSpentGo nodes new before after → AreHeld old before.stored needs → AreHeld new after.stored needs
held_let nodes old new before after needs are keeps lets held need among gone =
    ⊎_elim
    (λ (g : IsGone before.stored need.segment).
    let k = held need among g in
    (k.0, keeps need.leaf k.0 k.1))
    (λ (spent : IsSpent nodes new need.segment). spent need.leaf (leaf_among nodes needs need are among))
    (lets.gone need.segment gone)

-- ---- one split

-- more leaves are kept
pub served_kept : (old new : List Kept) (reads : ReadsData) (needs : List LeafRead) → KeepsColumns old new → IsServed old reads needs → IsServed new reads needs
served_kept old new reads needs keeps is = record {
  held = λ need among gone.
      let k = is.held need among gone in
      (k.0, keeps need.leaf k.0 k.1);
  passed = λ place need less at.
      let k = is.passed place need less at in
      (k.0, keeps need.leaf k.0 k.1);
  named = λ place need at none. is.named place need at (none_before old new need.leaf keeps none);
}

-- and only bytes were let go of which each leaf is kept
pub served_let : (nodes : List Node) (old new : List Kept) (before after : ReadsData) (needs : List LeafRead) → AreLeaves nodes needs → KeepsColumns old new → LetsSpentGo nodes new before after → IsServed old before needs → IsServed new after needs
served_let nodes old new before after needs are keeps lets is = record {
  held = held_let nodes old new before after needs are keeps lets is.held;
  passed = λ place need less at.
      let k = is.passed place need (subst (λ (n : ℕ). place < n) lets.passed less) at in
      (k.0, keeps need.leaf k.0 k.1);
  named = λ place need at none. lets.named need.segment place (is.named place need at (none_before old new need.leaf keeps none));
}

-- nothing was let go
pub served_stored : (leaves : List Kept) (old new : ReadsData) (needs : List LeafRead) → KeepsStored old new → IsServed leaves old needs → IsServed leaves new needs
served_stored leaves old new needs keeps is = record {
  held = λ need among gone. is.held need among (keeps.gone need.segment gone);
  passed = λ place need less at. is.passed place need (subst (λ (n : ℕ). place < n) keeps.passed less) at;
  named = λ place need at none. keeps.named need.segment place (is.named place need at none);
}

-- the next need was passed
pub served_passed : (leaves : List Kept) (old new : ReadsData) (needs : List LeafRead) (place : ℕ) (need : LeafRead) → slice_get needs place ≡ Some need → old.passed ≡ place → IsKept leaves need.leaf → Passes need.segment (place + 1) old new → IsServed leaves old needs → IsServed leaves new needs
served_passed leaves old new needs place need here count kept passes is = record {
  held = λ n among gone. ⊎_elim (λ (g : IsGone old.stored n.segment). is.held n among g) (λ (e : (need.segment ≡ n.segment) × ((k : ℕ) → IsNamed old.stored n.segment k → k < place + 1)). over n among e.1) (passes.gone n.segment gone);
  passed = λ i n less at. all i (subst (λ (k : ℕ). i < k) passes.passed less) n at;
  named = λ i n at none. passes.named n.segment i (is.named i n at none);
}
  where
    own : (n : LeafRead) → slice_get needs place ≡ Some n → IsKept leaves n.leaf
    own n at =
        let K : LeafRead → Type 0 = λ x. IsKept leaves x.leaf in
        subst K (same_Some need n (sym here ∙ at)) kept

    all : (i : ℕ) → i < place + 1 → (n : LeafRead) → slice_get needs i ≡ Some n → IsKept leaves n.leaf
    all = below_more (λ (i : ℕ). (n : LeafRead) → slice_get needs i ≡ Some n → IsKept leaves n.leaf) place (λ i less n at. is.passed i n (subst (λ (k : ℕ). i < k) (sym count) less) at) own

    over : (n : LeafRead) → Among n needs → ((k : ℕ) → IsNamed old.stored n.segment k → k < place + 1) → IsKept leaves n.leaf
    over n among before = by (kept_at leaves n.leaf) refl
      where
        by : (o : Option ColumnData) → kept_at leaves n.leaf ≡ o → IsKept leaves n.leaf
        by (Some column) e = (column, e)
        by None e =
            let at = among_at needs n among in
            all at.0 (before at.0 (is.named at.0 n at.2 e)) n at.2

-- ---- all active splits
