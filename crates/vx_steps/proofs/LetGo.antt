-- What a refused step lets go changes nothing that was told, and in the end nothing is held.
use Rattle.std.proofs.Common.{◌≡◌, ℕ, ◌⊎◌, inl, inr, List, [], ◌∷◌, Bool, true, false, Some, refl, sym, ap, ◌∙◌, subst}
use Rattle.vx_plan.specs.Nodes.{Node}
use Rattle.vx_steps.specs.declared.errors.StepError.{StepError}
use Rattle.vx_steps.specs.declared.errors.StepError.TheVariants.{BadSegment, Unsupported, BadCode, EvalFault, Memory}
use Rattle.vx_steps.specs.declared.jobs.Job.{Job}
use Rattle.vx_steps.specs.declared.jobs.Progress.{Progress}
use Rattle.vx_steps.specs.declared.progress.Turn.{Turn}
use Rattle.vx_steps.specs.declared.progress.Turn.TheVariants.{Done}
use Rattle.vx_steps.specs.declared.splits.Split.{Split}
use Rattle.vx_steps.specs.Delivered.{IsOf}
use Rattle.vx_steps.specs.Jobs.{KeepsTold}
use Rattle.vx_steps.specs.KeptData.{Kept}
use Rattle.vx_steps.specs.Needs.{Among}
use Rattle.vx_steps.specs.Pieces.{piece_of}
use Rattle.vx_steps.specs.ReadTable.{bytes_of, IsGone, LetsAllGo}
use Rattle.vx_steps.specs.ReadTableData.{Wanted}
use Rattle.vx_steps.specs.Running.{IsEmptied, IsRunning, IsSound}
use Rattle.vx_steps.specs.Standings.{left_of, standing_of, Standing}
use Rattle.vx_steps.specs.Steps.{HasCame, HasSplitCause, IsStepRefusal, LeavesFirstRows, LeavesRows, TakesTurn}
use Rattle.vx_steps.specs.Turns.{AreLeavesKept, FailsInWholes}
use Rattle.vx_steps.specs.Wants.{Grows}
use Rattle.vx_steps.proofs.Beginning.{none_among, IsScan}

-- other bytes are here, and other segments held
pub record LetsGoOf (mid new : Progress) : Type 0 where
  pub reads : LetsAllGo mid.reads new.reads
  pub same : new ≡ record mid { reads = new.reads; needed = record mid.needed { held = new.needed.held } }

pub sound_let_go : (nodes : List Node) (job : Job) (mid new : Progress) → LetsGoOf mid new → IsSound nodes job mid → IsSound nodes job new
sound_let_go nodes job mid new lets sound =
    subst (IsSound nodes job) (sym lets.same) (record {
      known = sound.known;
      inside = sound.inside;
      fits = sound.fits;
      typed_given = sound.typed_given;
      typed_leaves = sound.typed_leaves;
      typed_made = sound.typed_made;
      apart_made = sound.apart_made;
      apart_used = sound.apart_used;
      uses = sound.uses;
      counted = sound.counted;
      behind = sound.behind;
    })

-- all that was held is gone
pub emptied : (mid new : Progress) → LetsGoOf mid new → new.needed.held.held ≡ [] → IsEmptied new
emptied mid new lets none = (none, λ segment bytes came. lets.reads.gone segment bytes (sym (ap (λ (ws : List Wanted). bytes_of ws segment) lets.reads.wanted) ∙ came))

pub told_let_go : (nodes : List Node) (job : Job) (old : Standing) (mid new : Progress) → LetsGoOf mid new → KeepsTold nodes job old (standing_of mid) → KeepsTold nodes job old (standing_of new)
told_let_go nodes job old mid new lets told =
    subst (λ (p : Progress). KeepsTold nodes job old (standing_of p)) (sym lets.same) (λ outside is. subst (λ (ws : List Wanted). IsOf nodes job.offset ws mid.store.columns.all mid.wholes.made outside) (sym lets.reads.wanted) (told outside is))

pub grows_let_go : (old : List Wanted) (mid new : Progress) → LetsGoOf mid new → Grows old mid.reads.wanted → Grows old new.reads.wanted
grows_let_go old mid new lets grows = subst (Grows old) (sym lets.reads.wanted) grows

first_rows_same : (nodes : List Node) (job : Job) (old a b : Standing) (split : Split) (error : StepError) → b.leaves ≡ a.leaves → b.reads.wanted ≡ a.reads.wanted → LeavesFirstRows nodes job old a split error → LeavesFirstRows nodes job old b split error
first_rows_same nodes job old a b split error leaves wanted first =
    let K : List Kept → Type 0 = λ ks. AreLeavesKept nodes job (piece_of split 0 first.0) ks in
    let C : List Wanted → Type 0 = λ ws. HasSplitCause nodes job old ws (piece_of split 0 first.0) error ⊎ FailsInWholes nodes job split old.reads.wanted old.leaves old.wholes.made error in
    (first.0, subst K (sym leaves) first.1, subst C (sym wanted) first.2)

rows_same : (nodes : List Node) (job : Job) (old a b : Standing) (split : Split) (error : StepError) → b.leaves ≡ a.leaves → b.reads.wanted ≡ a.reads.wanted → LeavesRows nodes job old a split error → LeavesRows nodes job old b split error
rows_same nodes job old a b split (BadSegment segment) leaves wanted left = tt
rows_same nodes job old a b split (Unsupported list) leaves wanted left = first_rows_same nodes job old a b split (Unsupported list) leaves wanted left
rows_same nodes job old a b split (BadCode take row) leaves wanted left = first_rows_same nodes job old a b split (BadCode take row) leaves wanted left
rows_same nodes job old a b split (EvalFault row) leaves wanted left = first_rows_same nodes job old a b split (EvalFault row) leaves wanted left
rows_same nodes job old a b split Memory leaves wanted left = tt

refusal_with : (nodes : List Node) (job : Job) (old : Standing) (mid new : Progress) (error : StepError) → LetsGoOf mid new → IsStepRefusal nodes job old (standing_of mid) error → IsStepRefusal nodes job old (standing_of (record mid { reads = new.reads; needed = record mid.needed { held = new.needed.held } })) error
refusal_with nodes job old mid new error lets (inl e) = inl e
refusal_with nodes job old mid new error lets (inr r) = inr (record {
  number = r.number;
  active = r.active;
  split = r.split;
  at = r.at;
  cause = subst (λ (ws : List Wanted). HasSplitCause nodes job old ws r.split error) (sym lets.reads.wanted) r.cause;
  left = r.left;
  leaves = rows_same nodes job old (standing_of mid) (standing_of (record mid { reads = new.reads; needed = record mid.needed { held = new.needed.held } })) r.split error refl lets.reads.wanted r.leaves;
})

pub refusal_let_go : (nodes : List Node) (job : Job) (old : Standing) (mid new : Progress) (error : StepError) → LetsGoOf mid new → IsStepRefusal nodes job old (standing_of mid) error → IsStepRefusal nodes job old (standing_of new) error
refusal_let_go nodes job old mid new error lets refusal = subst (λ (p : Progress). IsStepRefusal nodes job old (standing_of p) error) (sym lets.same) (refusal_with nodes job old mid new error lets refusal)

-- ---- nothing is held

nothing : (ns : List ℕ) → ((n : ℕ) → Among n ns → ⊥) → ns ≡ []
nothing [] none = refl
nothing (n ∷ ns) none = absurd (none n (inl refl))

-- where no split is left, nothing is held
pub done_holds : (nodes : List Node) (job : Job) (old : Standing) (new : Progress) (turn : Turn) → TakesTurn nodes job old (standing_of new) turn → IsRunning nodes job new → turn ≡ Done → new.needed.held.held ≡ []
done_holds nodes job old new turn takes running is =
    let done = subst (TakesTurn nodes job old (standing_of new)) is takes in
    let none : left_of job (standing_of new) ≡ [] = done.left ∙ done.none_left in
    nothing new.needed.held.held
    (λ n among.
    let read = running.going.needed n among in
    none_among (left_of job (standing_of new)) read.0 none read.1)

-- ---- what is told of what is held

-- bytes that are in memory are of a segment that is held
pub scan_bytes : (nodes : List Node) (job : Job) (progress : Progress) (refused : Bool) → IsScan nodes job progress refused → (s : ℕ) (bytes : List ℕ) → bytes_of progress.reads.wanted s ≡ Some bytes → (IsGone progress.reads.stored s → ⊥) → Among s progress.needed.held.held
scan_bytes nodes job progress true scan s bytes came there = absurd (there ((scan.1.1 refl).1 s bytes came))
scan_bytes nodes job progress false scan s bytes came there = (scan.1.0 refl).going.keeps.bytes s bytes came there

-- each that is held came
pub scan_came : (nodes : List Node) (job : Job) (progress : Progress) (refused : Bool) → IsScan nodes job progress refused → (s : ℕ) → Among s progress.needed.held.held → HasCame nodes progress.reads.wanted progress.store.columns.all s
scan_came nodes job progress true scan s holds = absurd (none_among progress.needed.held.held s (scan.1.1 refl).0 holds)
scan_came nodes job progress false scan s holds = (scan.1.0 refl).going.came s holds
