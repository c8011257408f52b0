-- Leaves are set apart, and those are met that the row behind the splits reads.
use Rattle.std.proofs.Common.{◌≡◌, ℕ, suc, ◌+◌, ◌<◌, ◌≤◌, ◌==◌, ⊎_elim, Bool, true, false, List, [], ◌∷◌, Option, Some, None, length, take, refl, sym, ap, ◌∙◌, subst, arith}
use Rattle.std.specs.Prelude.{if◌then◌else◌, option_map}
use Rattle.std.specs.List.{slice_get}
use Rattle.std.proofs.lemmas.Bool.{cases_lt, eqb-true}
use Rattle.std.proofs.lemmas.Option.{same_Some, slice_get_within}
use Rattle.vx_base.specs.Columns.{ColumnData}
use Rattle.vx_plan.specs.Nodes.{Node}
use Rattle.vx_steps.specs.declared.needed.Needed.{Needed}
use Rattle.vx_steps.specs.declared.placed_reads.PlacedRead.{PlacedRead}
use Rattle.vx_steps.specs.declared.places.PlaceTable.{PlaceTable}
use Rattle.vx_steps.specs.HandedLeaves.{ReadsBehind, SetsApart}
use Rattle.vx_steps.specs.Kept.{kept_at, IsKept}
use Rattle.vx_steps.specs.KeptData.{Kept}
use Rattle.vx_steps.specs.Leavings.{IsMet, Meets}
use Rattle.vx_steps.specs.Needs.{Among}
use Rattle.vx_steps.specs.Places.{place_in, SetsPlace}
use Rattle.vx_steps.proofs.LeavingRows.{IsRowRead}
use Rattle.vx_steps.proofs.Needing.{all_taken, among_next, placed_at}
use Rattle.vx_steps.proofs.Tallies.{at_key}

put_stays : (leaf : ℕ) (old new : PlaceTable) → SetsPlace leaf (Some 0) old new → (n : ℕ) → place_in old n ≡ Some 0 → place_in new n ≡ Some 0
put_stays leaf old new sets n before = by (leaf == n) refl
  where
    by : (b : Bool) → (leaf == n) ≡ b → place_in new n ≡ Some 0
    by true e = sets n ∙ ap (λ (b : Bool). if b then Some 0 else place_in old n) e
    by false e = sets n ∙ ap (λ (b : Bool). if b then Some 0 else place_in old n) e ∙ before

put_here : (leaf : ℕ) (old new : PlaceTable) → SetsPlace leaf (Some 0) old new → (n : ℕ) → leaf ≡ n → place_in new n ≡ Some 0
put_here leaf old new sets n e = sets n ∙ ap (λ (b : Bool). if b then Some 0 else place_in old n) (at_key leaf n e)

-- one need more
pub put_next : (needs : List PlacedRead) (i : ℕ) (old new : PlaceTable) → i < length needs → SetsPlace (placed_at needs i).leaf (Some 0) old new → ((need : PlacedRead) → Among need (take i needs) → place_in old need.leaf ≡ Some 0) → (need : PlacedRead) → Among need (take (i + 1) needs) → place_in new need.leaf ≡ Some 0
put_next needs i old new inside sets before need among =
    ⊎_elim (λ (a : Among need (take i needs)). put_stays (placed_at needs i).leaf old new sets need.leaf (before need a)) (λ (e : placed_at needs i ≡ need). put_here (placed_at needs i).leaf old new sets need.leaf (ap (λ (n : PlacedRead). n.leaf) e)) (among_next needs i inside need among)

-- all needs
pub put_all : (needs : List PlacedRead) (count : ℕ) (places : PlaceTable) → length needs < count + 1 → ((need : PlacedRead) → Among need (take count needs) → place_in places need.leaf ≡ Some 0) → (leaf : ℕ) → (need : PlacedRead) × Among need needs × (need.leaf ≡ leaf) → place_in places leaf ≡ Some 0
put_all needs count places all put leaf (need, among, is) = ap (place_in places) (sym is) ∙ put need (all_taken needs count all need among)

-- one column more
pub put_next_kept : (handed : List Kept) (i leaf : ℕ) (old new : PlaceTable) → option_map (λ kept. kept.node) (slice_get handed i) ≡ Some leaf → SetsPlace leaf (Some 0) old new → ((place : ℕ) (k : Kept) → place < i → slice_get handed place ≡ Some k → place_in old k.node ≡ Some 0) → (place : ℕ) (k : Kept) → place < i + 1 → slice_get handed place ≡ Some k → place_in new k.node ≡ Some 0
put_next_kept handed i leaf old new node sets before place k less at = ⊎_elim (λ (earlier : place < i). put_stays leaf old new sets k.node (before place k earlier at)) (λ (behind : i ≤ place). put_here leaf old new sets k.node (is (omega arith))) (cases_lt place i)
  where
    is : place ≡ i → leaf ≡ k.node
    is e =
        let there : slice_get handed i ≡ Some k = ap (slice_get handed) (sym e) ∙ at in
        let O : Option Kept → Type 0 = λ o. option_map (λ (kept : Kept). kept.node) o ≡ Some leaf in
        sym (same_Some k.node leaf (subst O there node))

kept_place : (kept : List Kept) (n : ℕ) (column : ColumnData) → kept_at kept n ≡ Some column → (place : ℕ) × (k : Kept) × (slice_get kept place ≡ Some k) × (k.node ≡ n)
kept_place [] n column at = absurd cc
kept_place (k ∷ kept) n column at = by (k.node == n) refl (λ rest. kept_place kept n column rest)
  where
    by : (b : Bool) → (k.node == n) ≡ b → (kept_at kept n ≡ Some column → (place : ℕ) × (l : Kept) × (slice_get kept place ≡ Some l) × (l.node ≡ n)) → (place : ℕ) × (l : Kept) × (slice_get (k ∷ kept) place ≡ Some l) × (l.node ≡ n)
    by true e rest = (0, k, refl, eqb-true k.node n e)
    by false e rest =
        let more : kept_at kept n ≡ Some column = sym (ap (λ (b : Bool). if b then Some k.column else kept_at kept n) e) ∙ at in
        let r = rest more in
        (suc r.0, r.1, r.2, r.3)

-- all columns
pub put_all_kept : (handed : List Kept) (count : ℕ) (places : PlaceTable) → length handed ≤ count → ((place : ℕ) (k : Kept) → place < count → slice_get handed place ≡ Some k → place_in places k.node ≡ Some 0) → (leaf : ℕ) → IsKept handed leaf → place_in places leaf ≡ Some 0
put_all_kept handed count places all put leaf (column, at) =
    let r = kept_place handed leaf column at in
    let less : r.0 < length handed = slice_get_within handed r.0 r.1 r.2 in
    ap (place_in places) (sym r.3) ∙ put r.0 r.1 (omega arith) r.2

some_none : (o : Option ℕ) (place : ℕ) → o ≡ Some place → o ≡ None → ⊥
some_none o place some none = cc

-- So they are set apart, but for those that the row reads.
pub sets_apart : (nodes : List Node) (plan : ℕ) (P : ℕ → Type 0) (old mid new : Needed) → mid ≡ record old { apart = mid.apart } → mid.apart.found ≡ old.apart.found → ((leaf : ℕ) → P leaf → place_in mid.apart.places leaf ≡ Some 0) → Meets (IsRowRead nodes plan mid.row) mid.apart new.apart → new ≡ record mid { apart = new.apart } → SetsApart nodes plan P old new
sets_apart nodes plan P old mid new same found put meets last =
    let row : mid.row ≡ old.row = ap (λ (n : Needed). n.row) same in
    record {
      same = last ∙ ap (λ (n : Needed). record n { apart = new.apart }) same;
      found = λ was. meets.found (found ∙ was);
      only = λ was leaf place at behind.
          let met = meets.all leaf (subst (λ (r : ℕ). ReadsBehind nodes plan r leaf) (sym row) behind) in
          some_none (place_in new.apart.places leaf) place at met.0;
      all = λ was leaf none is. ⊎_elim
          (λ (met : IsMet mid.apart leaf). absurd (some_none (place_in mid.apart.places leaf) 0 (put leaf is) met.0))
          (λ (reads : IsRowRead nodes plan mid.row leaf). subst (λ (r : ℕ). ReadsBehind nodes plan r leaf) row reads)
          (meets.only leaf (none, λ wanted. meets.found (found ∙ was)));
    }
