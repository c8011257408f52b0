-- A scan of which nothing was done yet is as it should be.
use Rattle.std.proofs.Common.{◌≡◌, Global, Vec, ℕ, ◌<◌, true, false, List, [], Some, length, sym, ap, ◌∙◌, subst, arith}
use Rattle.std.specs.List.{slice_get, AllByRecursion}
use Rattle.std.proofs.lemmas.Option.{none-some}
use Rattle.vx_plan.specs.Nodes.{Node}
use Rattle.vx_plan.specs.Rules.{node_at}
use Rattle.vx_steps.specs.declared.jobs.ActiveSplit.{ActiveSplit}
use Rattle.vx_steps.specs.declared.jobs.Job.{Job}
use Rattle.vx_steps.specs.declared.jobs.Progress.{Progress}
use Rattle.vx_steps.specs.declared.splits.Split.{Split}
use Rattle.vx_steps.specs.Held.{AreTyped}
use Rattle.vx_steps.specs.Kept.{kept_at, IsKept}
use Rattle.vx_steps.specs.KeptData.{Kept}
use Rattle.vx_steps.specs.LaterReads.{IsNotedOf}
use Rattle.vx_steps.specs.Needed.{still_reads}
use Rattle.vx_steps.specs.OpenSegments.{AreCounted}
use Rattle.vx_steps.specs.Places.{place_in}
use Rattle.vx_steps.specs.ReadTable.{IsGone}
use Rattle.vx_steps.specs.ReadTableData.{Stored}
use Rattle.vx_steps.specs.Running.{IsRunning, IsSound}
use Rattle.vx_steps.specs.Splits.{IsInside}
use Rattle.vx_steps.specs.StillRead.{IsTallyOf}
use Rattle.vx_steps.proofs.Apart.{apart_empty}
use Rattle.vx_steps.proofs.Beginning.{no_bytes, none_among, not_asked, uses_none, IsScan}
use Rattle.vx_steps.proofs.Fitting.{none_typed}

-- nothing was done, and nothing is there
pub record IsNothing (nodes : List Node) (progress : Progress) : Type 0 where
  pub next : progress.next ≡ 0
  pub active : progress.active.items ≡ []
  pub wanted : progress.reads.wanted ≡ []
  pub stored : progress.reads.stored ≡ []
  pub passed : progress.reads.passed ≡ 0
  pub all : progress.store.columns.all ≡ []
  pub counted : AreCounted nodes [] progress.store.segments
  pub found : progress.needed.apart.found ≡ true
  pub apart : (n : ℕ) (place : ℕ) → place_in progress.needed.apart.places n ≡ Some place → ⊥
  pub tallies : IsTallyOf progress.needed.still []
  pub later : IsNotedOf progress.needed.later []
  pub noted : progress.needed.noted ≡ false
  pub held : progress.needed.held.held ≡ []
  pub made : progress.wholes.made ≡ []
  pub used : progress.wholes.used ≡ []

none_kept : (kept : List Kept) (n : ℕ) → kept ≡ [] → IsKept kept n → ⊥
none_kept kept n none is = none-some is.0 (sym (ap (λ (ks : List Kept). kept_at ks n) none) ∙ is.1)

none_gone : (stored : List Stored) (segment : ℕ) → stored ≡ [] → IsGone stored segment → ⊥
none_gone stored segment none gone = none-some gone.1 (sym (ap (λ (ss : List Stored). slice_get ss gone.0) none) ∙ gone.2)

new_sound : (nodes : List Node) (plan : ℕ) (splits : Vec Split Global) (job : Job) (progress : Progress) → plan < length nodes → AllByRecursion (IsInside (node_at nodes plan).rows) splits.items → job.plan ≡ plan → job.splits ≡ splits → job.given ≡ [] → job.offset ≡ 0 → IsNothing nodes progress →
    IsSound nodes job progress
new_sound nodes plan splits job progress known inside plan_is splits_are given offset new =
    let S : Vec Split Global → Type 0 = λ ss. AllByRecursion (IsInside (node_at nodes plan).rows) ss.items in
    let I : ℕ → Type 0 = λ n. AllByRecursion (IsInside (node_at nodes n).rows) job.splits.items in
    record {
      known = subst (λ (n : ℕ). n < length nodes) (sym plan_is) known;
      inside = subst I (sym plan_is) (subst S (sym splits_are) inside);
      fits = λ n kind rows. omega arith;
      typed_given = subst (AreTyped nodes) (sym given) (none_typed nodes);
      typed_leaves = subst (AreTyped nodes) (sym new.all) (none_typed nodes);
      typed_made = subst (AreTyped nodes) (sym new.made) (none_typed nodes);
      apart_made = apart_empty progress.wholes.made new.made;
      apart_used = apart_empty progress.wholes.used new.used;
      uses = uses_none job.given progress.wholes.used new.used;
      counted = subst (λ (ks : List Kept). AreCounted nodes ks progress.store.segments) (sym new.all) new.counted;
      behind = λ n read kept. absurd (none_kept progress.store.columns.all n new.all kept);
    }

new_running : (nodes : List Node) (job : Job) (progress : Progress) → IsNothing nodes progress → IsRunning nodes job progress
new_running nodes job progress new =
    let next = new.next in
    let passed = new.passed in
    let not_begun : 0 < progress.next → ⊥ = λ more. absurd (omega arith) in
    let not_noted : progress.needed.noted ≡ true → ⊥ = λ noted. true_false (sym noted ∙ new.noted) in
    record {
      first = λ noted. absurd (not_noted noted);
      unforgotten = λ unnoted n kept. absurd (none_kept progress.store.columns.all n new.all kept);
      going = record {
        ready = λ more. absurd (not_begun more);
        noted = λ more. absurd (not_begun more);
        actives = λ active among. absurd (none_among progress.active.items active new.active among);
        serves = record {
          gone_late = λ s gone. absurd (none_gone progress.reads.stored s new.stored gone);
          passed_late = λ more. absurd (omega arith);
          served = λ active among. absurd (none_among progress.active.items active new.active among);
          active_after = λ active among. absurd (none_among progress.active.items active new.active among);
          gone_after = λ s gone. absurd (none_gone progress.reads.stored s new.stored gone);
        };
        keeps = record {
          tallies = subst (λ (actives : List ActiveSplit). IsTallyOf progress.needed.still (still_reads actives)) (sym new.active) new.tallies;
          unnoted = λ unnoted. new.later;
          later = [];
          noted = λ noted. absurd (not_noted noted);
          found = new.found;
          row = λ noted. absurd (not_noted noted);
          apart = λ n place at. absurd (new.apart n place at);
          forgotten = λ n kept. absurd (none_kept progress.store.columns.all n new.all kept);
          none_before = λ first. new.held;
          bytes = λ s bytes came. absurd (no_bytes progress.reads.wanted s bytes new.wanted came);
          room = λ s asked. absurd (not_asked progress.reads.wanted s new.wanted asked);
          asked = λ s asked. absurd (not_asked progress.reads.wanted s new.wanted asked);
        };
        needed = λ s holds. absurd (none_among progress.needed.held.held s new.held holds);
        holds = λ s bytes came. absurd (no_bytes progress.reads.wanted s bytes new.wanted came);
        came = λ s holds. absurd (none_among progress.needed.held.held s new.held holds);
      };
    }
  where
    true_false : true ≡ false → ⊥
    true_false e = cc

pub scan_new : (nodes : List Node) (plan : ℕ) (splits : Vec Split Global) (job : Job) (progress : Progress) → plan < length nodes → AllByRecursion (IsInside (node_at nodes plan).rows) splits.items → job.plan ≡ plan → job.splits ≡ splits → job.given ≡ [] → job.offset ≡ 0 → IsNothing nodes progress →
    IsScan nodes job progress false
scan_new nodes plan splits job progress known inside plan_is splits_are given offset new =
    (new_sound nodes plan splits job progress known inside plan_is splits_are given offset new, (λ going. new_running nodes job progress new, λ refused. (new.held, λ s bytes came. absurd (no_bytes progress.reads.wanted s bytes new.wanted came))))
