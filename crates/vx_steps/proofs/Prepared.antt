-- What is true of a scan stays so when what was handed in is made ready.
use Rattle.std.proofs.Common.{◌≡◌, ℕ, ◌⊎◌, true, false, List, map, None, sym, ap, ◌∙◌, subst}
use Rattle.vx_plan.specs.Nodes.{Node}
use Rattle.vx_steps.specs.declared.jobs.ActiveSplit.{ActiveSplit}
use Rattle.vx_steps.specs.declared.jobs.Job.{Job}
use Rattle.vx_steps.specs.declared.jobs.Progress.{Progress}
use Rattle.vx_steps.specs.declared.leaf_stores.LeafStore.{LeafStore}
use Rattle.vx_steps.specs.declared.wholes.Wholes.{Wholes}
use Rattle.vx_steps.specs.Held.{AreTyped}
use Rattle.vx_steps.specs.Kept.{kept_at, IsKept}
use Rattle.vx_steps.specs.KeptData.{Kept}
use Rattle.vx_steps.specs.LeavesData.{LeavesData}
use Rattle.vx_steps.specs.Leavings.{IsReadBehind}
use Rattle.vx_steps.specs.Needed.{LeafIsNeeded}
use Rattle.vx_steps.specs.OpenSegments.{AreCounted}
use Rattle.vx_steps.specs.Pieces.{read_of, IsGivenTo}
use Rattle.vx_steps.specs.ReadTableData.{Wanted}
use Rattle.vx_steps.specs.Releasing.{IsServed, IsSpent, NoneReads}
use Rattle.vx_steps.specs.Running.{AreDecoded, IsActive, IsRunning, IsSound}
use Rattle.vx_steps.specs.Standings.{standing_of, Standing}
use Rattle.vx_steps.specs.Steps.{HasCame}

-- the same columns in another store
abbrev with_store : Progress → LeafStore → Progress
with_store progress store = record progress { store = store }

sound_with : (nodes : List Node) (job : Job) (progress : Progress) (store : LeafStore) → store.columns.all ≡ progress.store.columns.all → store.columns.here ≡ progress.store.columns.here → AreCounted nodes store.columns.all store.segments → IsSound nodes job progress → IsSound nodes job (with_store progress store)
sound_with nodes job progress store all_is here_is counted sound =
    let B : List Kept → Type 0 = λ ks. (n : ℕ) → IsReadBehind nodes job n → IsKept ks n → IsKept progress.store.columns.here n in
    let H : List Kept → Type 0 = λ ks. (n : ℕ) → IsReadBehind nodes job n → IsKept store.columns.all n → IsKept ks n in
    record {
      known = sound.known;
      inside = sound.inside;
      fits = sound.fits;
      typed_given = sound.typed_given;
      typed_leaves = subst (AreTyped nodes) (sym all_is) sound.typed_leaves;
      typed_made = sound.typed_made;
      apart_made = sound.apart_made;
      apart_used = sound.apart_used;
      uses = sound.uses;
      counted = counted;
      behind = subst H (sym here_is) (subst B (sym all_is) sound.behind);
    }

-- what columns are kept and here are the same
pub sound_ready : (nodes : List Node) (job : Job) (old new : Progress) → new ≡ record old { store = new.store } → standing_of new ≡ standing_of old → new.store.columns.here ≡ old.store.columns.here → AreCounted nodes new.store.columns.all new.store.segments → IsSound nodes job old → IsSound nodes job new
sound_ready nodes job old new same standing here counted sound =
    subst (IsSound nodes job) (sym same) (sound_with nodes job old new.store (ap (λ (s : Standing). s.leaves) standing) here counted sound)

active_with : (nodes : List Node) (job : Job) (old new : LeavesData) (wanted : List Wanted) (wholes : Wholes) (active : ActiveSplit) → new.all ≡ old.all → new.here ≡ old.here → IsActive nodes job old wanted wholes active → IsActive nodes job new wanted wholes active
active_with nodes job old new wanted wholes active all_is here_is is =
    let s = is.started in
    let G : List Kept → Type 0 = λ ks. IsGivenTo nodes job.given ks wholes job.plan s.split active.needs.items active.at in
    let D : List Kept → Type 0 = λ ks. AreDecoded ks active.needs.items active.at.next in
    record {
      started = record {
        split = s.split;
        at = s.at;
        placed = s.placed;
        order = s.order;
        are_leaves = s.are_leaves;
        asked = λ need among none. s.asked need among (sym (ap (λ (ks : List Kept). kept_at ks need.leaf) all_is) ∙ none);
        given = subst G (sym here_is) s.given;
        decoded = subst D (sym all_is) s.decoded;
      };
      left = is.left;
      rest = is.rest;
    }

running_with : (nodes : List Node) (job : Job) (progress : Progress) (store : LeafStore) → store.columns.ready ≡ true → store.columns.all ≡ progress.store.columns.all → store.columns.here ≡ progress.store.columns.here → IsRunning nodes job progress → IsRunning nodes job (with_store progress store)
running_with nodes job progress store ready all_is here_is running =
    let going = running.going in
    let keeps = going.keeps in
    let serves = going.serves in
    let U : List Kept → List Kept → Type 0 = λ all here. progress.needed.noted ≡ false → (n : ℕ) → IsKept all n → IsKept here n in
    let F : List Kept → List Kept → Type 0 = λ all here. (n : ℕ) → IsKept all n → kept_at here n ≡ None → LeafIsNeeded nodes job (standing_of progress) n → ⊥ in
    record {
      first = running.first;
      unforgotten = subst (U store.columns.all) (sym here_is) (subst (λ (ks : List Kept). U ks progress.store.columns.here) (sym all_is) running.unforgotten);
      going = record {
        ready = λ more. ready;
        noted = going.noted;
        actives = λ active among. active_with nodes job progress.store.columns store.columns progress.reads.wanted progress.wholes active all_is here_is (going.actives active among);
        serves = record {
          gone_late = λ s gone. subst (λ (ks : List Kept). IsSpent nodes ks s ⊎ NoneReads nodes job progress.next s) (sym all_is) (serves.gone_late s gone);
          passed_late = serves.passed_late;
          served = λ active among. subst (λ (ks : List Kept). IsServed ks progress.reads (map read_of active.needs.items)) (sym all_is) (serves.served active among);
          active_after = serves.active_after;
          gone_after = serves.gone_after;
        };
        keeps = record {
          tallies = keeps.tallies;
          unnoted = keeps.unnoted;
          later = keeps.later;
          noted = keeps.noted;
          found = keeps.found;
          row = keeps.row;
          apart = keeps.apart;
          forgotten = subst (F store.columns.all) (sym here_is) (subst (λ (ks : List Kept). F ks progress.store.columns.here) (sym all_is) keeps.forgotten);
          none_before = keeps.none_before;
          bytes = keeps.bytes;
          room = keeps.room;
          asked = λ s asked none.
              let lacked = keeps.asked s asked none in
              let need = lacked.2 in
              (lacked.0, lacked.1, (need.0, need.1, need.2, ap (λ (ks : List Kept). kept_at ks (need.0).leaf) all_is ∙ need.3));
        };
        needed = going.needed;
        holds = going.holds;
        came = λ s holds. subst (λ (ks : List Kept). HasCame nodes progress.reads.wanted ks s) (sym all_is) (going.came s holds);
      };
    }

pub running_ready : (nodes : List Node) (job : Job) (old new : Progress) → new ≡ record old { store = new.store } → standing_of new ≡ standing_of old → new.store.columns.here ≡ old.store.columns.here → new.store.columns.ready ≡ true → IsRunning nodes job old → IsRunning nodes job new
running_ready nodes job old new same standing here ready running =
    subst (IsRunning nodes job) (sym same) (running_with nodes job old new.store ready (ap (λ (s : Standing). s.leaves) standing) here running)
