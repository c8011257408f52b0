-- What a leaf that was handed in comes to, by what is asked of the reads of rows to come.
use Rattle.std.proofs.Common.{◌≡◌, ℕ, ◌⊎◌, inl, inr, ◌↔◌, Bool, true, false, List, Option, Some, None, is_some, refl, sym, ap, ◌∙◌, subst}
use Rattle.std.specs.Bool.{MatchBool}
use Rattle.vx_steps.specs.declared.jobs.Progress.{Progress}
use Rattle.vx_steps.specs.declared.leaf_reads.LeafRead.{LeafRead}
use Rattle.vx_steps.specs.HandedLeaves.{HoldsLeaf}
use Rattle.vx_steps.specs.HeldData.{HeldData, HoldsOneMore, KeepsRoom}
use Rattle.vx_steps.specs.LaterReads.{SplitRead}
use Rattle.vx_steps.specs.LeafColumns.{Forgets}
use Rattle.vx_steps.specs.LeavesData.{LeavesData}
use Rattle.vx_steps.specs.LettingGo.{HoldsOnlyNeeded}
use Rattle.vx_steps.specs.Needed.{IsNeededBy, LeafIsAhead, SegmentIsAhead}
use Rattle.vx_steps.specs.Needs.{Among}
use Rattle.vx_steps.specs.Places.{place_in}
use Rattle.vx_steps.proofs.HoldingLeaves.{held_as}

pub said_true : (b : Bool) (A B : Type 0) → MatchBool b A B → b ≡ true → A
said_true true A B said is = said
said_true false A B said is = absurd cc

pub said_false : (b : Bool) (A B : Type 0) → MatchBool b A B → b ≡ false → B
said_false true A B said is = absurd cc
said_false false A B said is = said

pub some_there : (o : Option ℕ) → is_some o ≡ true → (place : ℕ) × (o ≡ Some place)
some_there None is = absurd cc
some_there (Some place) is = (place, refl)

-- one more is held, once there is room
one_more : (segment : ℕ) (old mid new : HeldData) → mid.held ≡ old.held → HoldsOneMore segment mid new → HoldsOneMore segment old new
one_more segment old mid new same one s = subst (λ (xs : List ℕ). Among s new.held ↔ (Among s xs ⊎ (segment ≡ s))) same (one s)

-- The segment is held, if the leaf and the segment are ahead, and else all is as it was.
pub record HoldsSegment (segment splits : ℕ) (old new : Progress) : Type 0 where
  pub same : new ≡ held_as old old.store new.needed.held
  pub held : HoldsOnlyNeeded segment splits old new

pub holds_none : (segment splits : ℕ) (old : Progress) → HoldsSegment segment splits old old
holds_none segment splits old = record { same = refl; held = inl refl }

pub holds_segment : (segment splits : ℕ) (old : Progress) (mid new : HeldData) → mid.held ≡ old.needed.held.held → KeepsRoom old.needed.held mid → HoldsOneMore segment mid new → KeepsRoom mid new → ((still : List LeafRead) (later : List SplitRead) → IsNeededBy old.needed still later old.next splits → SegmentIsAhead still later old.next splits segment) → HoldsSegment segment splits old (held_as old old.store new)
holds_segment segment splits old mid new same room one more ahead = record { same = refl; held = inr (one_more segment old.needed.held mid new same one, λ s has. more s (room s has), ahead) }

-- the leaf stays
pub leaf_stays : (leaf segment splits : ℕ) (old new : Progress) → HoldsSegment segment splits old new → HoldsLeaf leaf segment splits old new
leaf_stays leaf segment splits old new is = record {
  leaves = inl (ap (λ (p : Progress). p.store.columns) is.same);
  held = is.held;
  next = ap (λ (p : Progress). p.next) is.same;
  active = ap (λ (p : Progress). p.active) is.same;
  reads = ap (λ (p : Progress). p.reads) is.same;
  counted = ap (λ (p : Progress). p.store.segments) is.same;
  wholes = ap (λ (p : Progress). p.wholes) is.same;
  needed = ap (λ (p : Progress). p.needed) is.same;
}

-- or is forgotten
pub leaf_goes : (leaf segment splits : ℕ) (old mid : Progress) (columns : LeavesData) → HoldsSegment segment splits old mid → Forgets leaf mid.store.columns columns → (place : ℕ) × (place_in mid.needed.apart.places leaf ≡ Some place) → ((still : List LeafRead) (later : List SplitRead) → IsNeededBy old.needed still later old.next splits → LeafIsAhead still later old.next splits leaf → ⊥) →
    HoldsLeaf leaf segment splits old (record { next = mid.next; active = mid.active; reads = mid.reads; store = record { columns = columns; segments = mid.store.segments }; wholes = mid.wholes; needed = mid.needed })
leaf_goes leaf segment splits old mid columns is forgets there none =
    let was = subst (λ (l : LeavesData). Forgets leaf l columns) (ap (λ (p : Progress). p.store.columns) is.same) forgets in
    record {
      leaves = inr (was, (there.0, sym (ap (λ (p : Progress). place_in p.needed.apart.places leaf) is.same) ∙ there.1), none);
      held = is.held;
      next = ap (λ (p : Progress). p.next) is.same;
      active = ap (λ (p : Progress). p.active) is.same;
      reads = ap (λ (p : Progress). p.reads) is.same;
      counted = ap (λ (p : Progress). p.store.segments) is.same;
      wholes = ap (λ (p : Progress). p.wholes) is.same;
      needed = ap (λ (p : Progress). p.needed) is.same;
    }
