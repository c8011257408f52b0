-- Rows of one active split are given, and its needs passed: which rows are left then, and what the try kept.
use Rattle.std.proofs.Common.{◌≡◌, ℕ, zero, suc, ◌<◌, ◌≤◌, ◌⊎◌, inl, inr, ⊎_elim, List, [], ◌∷◌, ◌++◌, map, drop, set, Some, length, refl, sym, ap, ◌∙◌, subst, arith}
use Rattle.std.specs.List.{slice_get, remove}
use Rattle.std.specs.Option.{option_map}
use Rattle.std.proofs.lemmas.List.{length-map, length-set, set-append_left}
use Rattle.std.proofs.lemmas.List.Edits.{length-remove, remove-append_left}
use Rattle.std.proofs.lemmas.Option.{slice_get-map, slice_get_within}
use Rattle.vx_base.specs.Columns.{ColumnData}
use Rattle.vx_plan.specs.Nodes.{Node}
use Rattle.vx_steps.specs.declared.errors.StepError.{StepError}
use Rattle.vx_steps.specs.declared.errors.StepError.TheVariants.{BadSegment, Unsupported, BadCode, EvalFault, Memory}
use Rattle.vx_steps.specs.declared.jobs.ActiveSplit.{ActiveSplit}
use Rattle.vx_steps.specs.declared.jobs.Job.{Job}
use Rattle.vx_steps.specs.declared.jobs.Progress.{Progress}
use Rattle.vx_steps.specs.declared.splits.Split.{Split}
use Rattle.vx_steps.specs.declared.wholes.Wholes.{Wholes}
use Rattle.vx_steps.specs.Jobs.{active_of, number_left, AddsLeaves, IsAskedBy, IsAskedFor, IsLeafFor, IsTold, KeepsTold, KeepsWholes, KeepsWholesFor, OnlyKeeps}
use Rattle.vx_steps.specs.Kept.{IsKept}
use Rattle.vx_steps.specs.KeptData.{Kept}
use Rattle.vx_steps.specs.Needs.{Among, AreAmong}
use Rattle.vx_steps.specs.Pieces.{piece_of}
use Rattle.vx_steps.specs.ReadTableData.{Wanted}
use Rattle.vx_steps.specs.Running.{IsActiveOutput, IsHeldAt, Settles}
use Rattle.vx_steps.specs.Standings.{left_of, none_given, numbers_from, split_left, standing_of, SplitLeft, Standing}
use Rattle.vx_steps.specs.Steps.{GivesOutput, HasSplitCause, HoldsAll, IsHeldUpAt, IsLeftAt, IsSplitOutput, IsStepRefusal, LeavesRows, LeavesSplit}
use Rattle.vx_steps.specs.Turns.{AreLeavesKept, FailsInWholes}
use Rattle.vx_steps.specs.Wholes.{AddsOnly, AreThere}
use Rattle.vx_steps.proofs.Decoding.{adds_then}
use Rattle.vx_steps.proofs.Keeping.{got_old, same_got}
use Rattle.vx_steps.proofs.Premises.{unless_by}
use Rattle.vx_steps.proofs.Releasing.{among_at, none_before}

-- ---- lists

-- an element that is replaced and then removed
remove_set : {X : Type 0} (xs : List X) (i : ℕ) (x : X) → remove (set xs i x) i ≡ remove xs i
remove_set [] i x = refl
remove_set (y ∷ xs) zero x = refl
remove_set (y ∷ xs) (suc i) x = ap (λ (ys : List _). y ∷ ys) (remove_set xs i x)

-- what stood in a list is what was removed, or still stands there
rest_later : {X : Type 0} (ys : List X) (x : X) → Among x ys → Among x (drop 0 ys)
rest_later [] x h = absurd h
rest_later (y ∷ ys) x h = h

rest_among : {X : Type 0} (xs : List X) (i : ℕ) (y : X) → slice_get xs i ≡ Some y → (x : X) → Among x xs → (y ≡ x) ⊎ Among x (remove xs i)
rest_among [] i y at x h = absurd h
rest_among (z ∷ zs) zero y at x (inl e) =
    let is : z ≡ y = cc in
    inl (sym is ∙ e)
rest_among (z ∷ zs) zero y at x (inr h) = inr (rest_later zs x h)
rest_among (z ∷ zs) (suc i) y at x (inl e) = inr (inl e)
rest_among (z ∷ zs) (suc i) y at x (inr h) = ⊎_elim (λ (e : y ≡ x). inl e) (λ (m : Among x (remove zs i)). inr (inr m)) (rest_among zs i y at x h)

map_later : {X Y : Type 0} (f : X → Y) (xs : List X) (i : ℕ) → map f (drop i xs) ≡ drop i (map f xs)
map_later f [] zero = refl
map_later f [] (suc i) = refl
map_later f (x ∷ xs) zero = refl
map_later f (x ∷ xs) (suc i) = map_later f xs i

map_removed : {X Y : Type 0} (f : X → Y) (xs : List X) (i : ℕ) → map f (remove xs i) ≡ remove (map f xs) i
map_removed f [] zero = refl
map_removed f [] (suc i) = refl
map_removed f (x ∷ xs) zero = map_later f xs zero
map_removed f (x ∷ xs) (suc i) = ap (λ (ys : List _). f x ∷ ys) (map_removed f xs i)

-- ---- what is so of active splits, by their standing

abbrev left_with : ℕ → ℕ → SplitLeft
left_with number given = record { number = number; given = given }

-- the started split at a place is the active one's
pub started_at : (progress : Progress) (place : ℕ) (active : ActiveSplit) → slice_get progress.active.items place ≡ Some active → slice_get (standing_of progress).started place ≡ Some (split_left active)
started_at progress place active at = slice_get-map split_left progress.active.items place ∙ ap (option_map split_left) at

active_here : (actives : List ActiveSplit) (place : ℕ) (s : SplitLeft) → slice_get (map split_left actives) place ≡ Some s → (active : ActiveSplit) × (slice_get actives place ≡ Some active) × (split_left active ≡ s)
active_here [] place s at = absurd cc
active_here (a ∷ actives) zero s at = (a, refl, cc)
active_here (a ∷ actives) (suc place) s at = active_here actives place s at

-- the active splits are as many as are told to be started
pub count_started : (progress : Progress) → length (standing_of progress).started ≡ length progress.active.items
count_started progress = length-map progress.active.items split_left

-- ---- tries that give nothing

pub wholes_then : (nodes : List Node) (job : Job) (numbers : List ℕ) (old mid new : Wholes) → KeepsWholesFor nodes job numbers old mid → KeepsWholesFor nodes job numbers mid new → KeepsWholesFor nodes job numbers old new
wholes_then nodes job numbers old mid new first second = record {
  made = λ n column at. second.made n column (first.made n column at);
  used = λ n column at. second.used n column (first.used n column at);
  made_only = adds_then (IsAskedBy nodes job numbers) old.made mid.made new.made first.made_only second.made_only;
  used_only = adds_then (IsAskedBy nodes job numbers) old.used mid.used new.used first.used_only second.used_only;
}

-- after tries that gave nothing, what one more keeps is kept from the first one on
pub wholes_tried : (nodes : List Node) (job : Job) (first mid : Standing) (new : Wholes) → OnlyKeeps nodes job first mid → KeepsWholesFor nodes job (active_of mid) mid.wholes new → KeepsWholesFor nodes job (active_of first) first.wholes new
wholes_tried nodes job first mid new keeps more =
    let W : List SplitLeft → Type 0 = λ ss. KeepsWholesFor nodes job (map number_left ss) mid.wholes new in
    wholes_then nodes job (active_of first) first.wholes mid.wholes new keeps.wholes (subst W keeps.started more)

pub leaves_tried : (nodes : List Node) (job : Job) (first mid : Standing) (new : List Kept) → OnlyKeeps nodes job first mid → AddsLeaves nodes job (active_of mid) mid.leaves new → AddsLeaves nodes job (active_of first) first.leaves new
leaves_tried nodes job first mid new keeps more =
    let L : List SplitLeft → Type 0 = λ ss. AddsLeaves nodes job (map number_left ss) mid.leaves new in
    adds_then (IsLeafFor nodes job (active_of first)) first.leaves mid.leaves new keeps.leaves_only (subst L keeps.started more)

pub only_keeps_then : (nodes : List Node) (job : Job) (old mid new : Standing) → OnlyKeeps nodes job old mid → OnlyKeeps nodes job mid new → OnlyKeeps nodes job old new
only_keeps_then nodes job old mid new first second = record {
  next = second.next ∙ first.next;
  started = second.started ∙ first.started;
  held = second.held ∙ first.held;
  wanted = second.wanted ∙ first.wanted;
  handed = second.handed ∙ first.handed;
  told = λ outside is. second.told outside (first.told outside is);
  leaves = λ n column at. second.leaves n column (first.leaves n column at);
  leaves_only = leaves_tried nodes job old mid new.leaves first second.leaves_only;
  wholes = wholes_tried nodes job old mid new.wholes first second.wholes;
}

pub only_keeps_none : (nodes : List Node) (job : Job) (standing : Standing) → OnlyKeeps nodes job standing standing
only_keeps_none nodes job standing = record {
  next = refl;
  started = refl;
  held = refl;
  wanted = refl;
  handed = refl;
  told = λ outside is. is;
  leaves = λ n column at. at;
  leaves_only = λ n kept. inl kept;
  wholes = record { made = λ n column at. at; used = λ n column at. at; made_only = λ n kept. inl kept; used_only = λ n kept. inl kept };
}

-- what holds a split up now did so before
pub held_before : (nodes : List Node) (job : Job) (old mid : Progress) (place : ℕ) → OnlyKeeps nodes job (standing_of old) (standing_of mid) → IsHeldAt nodes job mid place → IsHeldAt nodes job old place
held_before nodes job old mid place keeps held active at =
    let G : List SplitLeft → Type 0 = λ ss. slice_get ss place ≡ Some (split_left active) in
    let found = active_here mid.active.items place (split_left active) (subst G (sym keeps.started) (started_at old place active at)) in
    let S : SplitLeft → Type 0 = λ s. IsHeldUpAt nodes job mid.store.columns.all mid.reads.wanted s in
    let W : List Wanted → Type 0 = λ ws. IsHeldUpAt nodes job mid.store.columns.all ws (split_left active) in
    let is = subst W keeps.wanted (subst S found.2 (held found.0 found.1)) in
    let up = is.2 in
    (is.0, is.1, (up.0, (none_before old.store.columns.all mid.store.columns.all (up.0).leaf keeps.leaves (up.1).0, (up.1).1), up.2))

-- where each was tried, and none gave rows, each is held up
pub holds_all : (nodes : List Node) (job : Job) (old new : Progress) → OnlyKeeps nodes job (standing_of old) (standing_of new) → ((place : ℕ) → place < length old.active.items → IsHeldAt nodes job old place) → HoldsAll nodes job (standing_of old) (standing_of new)
holds_all nodes job old new keeps held = record {
  next = keeps.next;
  started = keeps.started;
  held = λ s among.
      let M : List SplitLeft → Type 0 = λ ss. Among s ss in
      let W : List Wanted → Type 0 = λ ws. IsHeldUpAt nodes job old.store.columns.all ws s in
      let at = among_at (standing_of old).started s (subst M keeps.started among) in
      let found = active_here old.active.items at.0 s at.2 in
      let S : SplitLeft → Type 0 = λ x. IsHeldUpAt nodes job old.store.columns.all old.reads.wanted x in
      subst W (sym keeps.wanted) (subst S found.2 (held at.0 (slice_get_within old.active.items at.0 found.0 found.1) found.0 found.1));
}

-- ---- a refusal

-- a fault of whole values by what is held now is one by what was held before
fails_before : (nodes : List Node) (job : Job) (split : Split) (old mid : Standing) (error : StepError) → KeepsTold nodes job old mid → FailsInWholes nodes job split mid.reads.wanted mid.leaves mid.wholes.made error → FailsInWholes nodes job split old.reads.wanted old.leaves old.wholes.made error
fails_before nodes job split old mid error keeps fails = λ outside is. fails outside (unless_by error (IsTold nodes job old outside) (IsTold nodes job mid outside) (keeps outside) is)

wholes_or_fails : (nodes : List Node) (job : Job) (split : Split) (old mid : Standing) (after : Wholes) (error : StepError) → KeepsTold nodes job old mid → AreThere nodes job.given after job.plan split.rows.start split.mask ⊎ FailsInWholes nodes job split mid.reads.wanted mid.leaves mid.wholes.made error →
    AreThere nodes job.given after job.plan split.rows.start split.mask ⊎ FailsInWholes nodes job split old.reads.wanted old.leaves old.wholes.made error
wholes_or_fails nodes job split old mid after error keeps (inl there) = inl there
wholes_or_fails nodes job split old mid after error keeps (inr fails) = inr (fails_before nodes job split old mid error keeps fails)

leaves_split_before : (nodes : List Node) (job : Job) (split : Split) (old mid : Standing) (after : Wholes) (error : StepError) → KeepsTold nodes job old mid → LeavesSplit nodes job mid after split error → LeavesSplit nodes job old after split error
leaves_split_before nodes job split old mid after (BadSegment segment) keeps left = tt
leaves_split_before nodes job split old mid after (Unsupported list) keeps left = wholes_or_fails nodes job split old mid after (Unsupported list) keeps left
leaves_split_before nodes job split old mid after (BadCode take row) keeps left = wholes_or_fails nodes job split old mid after (BadCode take row) keeps left
leaves_split_before nodes job split old mid after (EvalFault row) keeps left = wholes_or_fails nodes job split old mid after (EvalFault row) keeps left
leaves_split_before nodes job split old mid after Memory keeps left = tt

cause_before : (nodes : List Node) (job : Job) (split : Split) (old mid : Standing) (wanted : List Wanted) (error : StepError) → KeepsTold nodes job old mid → HasSplitCause nodes job mid wanted split error → HasSplitCause nodes job old wanted split error
cause_before nodes job split old mid wanted error keeps cause = λ outside is. cause outside (unless_by error (IsTold nodes job old outside) (IsTold nodes job mid outside) (keeps outside) is)

cause_or_fails : (nodes : List Node) (job : Job) (split piece : Split) (old mid : Standing) (wanted : List Wanted) (error : StepError) → KeepsTold nodes job old mid → HasSplitCause nodes job mid wanted piece error ⊎ FailsInWholes nodes job split mid.reads.wanted mid.leaves mid.wholes.made error →
    HasSplitCause nodes job old wanted piece error ⊎ FailsInWholes nodes job split old.reads.wanted old.leaves old.wholes.made error
cause_or_fails nodes job split piece old mid wanted error keeps (inl cause) = inl (cause_before nodes job piece old mid wanted error keeps cause)
cause_or_fails nodes job split piece old mid wanted error keeps (inr fails) = inr (fails_before nodes job split old mid error keeps fails)

leaves_rows_before : (nodes : List Node) (job : Job) (split : Split) (old mid new : Standing) (error : StepError) → KeepsTold nodes job old mid → LeavesRows nodes job mid new split error → LeavesRows nodes job old new split error
leaves_rows_before nodes job split old mid new (BadSegment segment) keeps left = tt
leaves_rows_before nodes job split old mid new (Unsupported list) keeps left = (left.0, left.1, cause_or_fails nodes job split (piece_of split 0 left.0) old mid new.reads.wanted (Unsupported list) keeps left.2)
leaves_rows_before nodes job split old mid new (BadCode take row) keeps left = (left.0, left.1, cause_or_fails nodes job split (piece_of split 0 left.0) old mid new.reads.wanted (BadCode take row) keeps left.2)
leaves_rows_before nodes job split old mid new (EvalFault row) keeps left = (left.0, left.1, cause_or_fails nodes job split (piece_of split 0 left.0) old mid new.reads.wanted (EvalFault row) keeps left.2)
leaves_rows_before nodes job split old mid new Memory keeps left = tt

-- a refusal by what is held now is one by what was held before
pub refusal_before : (nodes : List Node) (job : Job) (old mid new : Standing) (error : StepError) → KeepsTold nodes job old mid → IsStepRefusal nodes job mid new error → IsStepRefusal nodes job old new error
refusal_before nodes job old mid new error keeps (inl e) = inl e
refusal_before nodes job old mid new error keeps (inr r) = inr (record {
  number = r.number;
  active = r.active;
  split = r.split;
  at = r.at;
  cause = cause_before nodes job r.split old mid new.reads.wanted error keeps r.cause;
  left = leaves_split_before nodes job r.split old mid new.wholes error keeps r.left;
  leaves = leaves_rows_before nodes job r.split old mid new error keeps r.leaves;
})

-- ---- rows are given

-- the active split whose needs are passed is the one of which rows were given
same_after : (nodes : List Node) (job : Job) (mid tried new : Progress) (place number : ℕ) (column : ColumnData) (out : IsActiveOutput nodes job mid tried place column) (s : Settles job place number tried new) → out.active.split ≡ number
same_after nodes job mid tried new place number column out s = sym out.same ∙ (ap (λ (a : ActiveSplit). a.split) (same_got (slice_get tried.active.items place) out.after s.active out.after_at s.at) ∙ s.number_is)

-- which started splits are left: those of before, one of which has other rows left, or none
left_after : (nodes : List Node) (job : Job) (mid tried new : Progress) (place number : ℕ) (column : ColumnData) (out : IsActiveOutput nodes job mid tried place column) (s : Settles job place number tried new) →
    ((out.after.at.done < length out.split.mask) × ((standing_of new).started ≡ (standing_of tried).started)) ⊎ ((length out.split.mask ≤ out.after.at.done) × ((standing_of new).started ≡ remove (standing_of tried).started place))
left_after nodes job mid tried new place number column out s =
    let P : ActiveSplit → Split → Type 0 = λ a split. ((a.at.done < length split.mask) × ((standing_of new).started ≡ (standing_of tried).started)) ⊎ ((length split.mask ≤ a.at.done) × ((standing_of new).started ≡ remove (standing_of tried).started place)) in
    let N : ℕ → Type 0 = λ n. slice_get job.splits.items n ≡ Some out.split in
    let active = same_got (slice_get tried.active.items place) s.active out.after s.at out.after_at in
    let split = same_got (slice_get job.splits.items number) s.split out.split s.split_at (subst N (same_after nodes job mid tried new place number column out s) out.split_at) in
    subst (λ (a : ActiveSplit). P a out.split) active (subst (P s.active) split s.started)

pub gives_output : (nodes : List Node) (job : Job) (first mid tried new : Progress) (place number : ℕ) (column : ColumnData) → OnlyKeeps nodes job (standing_of first) (standing_of mid) → IsActiveOutput nodes job mid tried place column → tried.next ≡ mid.next → tried.reads.handed ≡ mid.reads.handed → Settles job place number tried new →
    GivesOutput nodes job (standing_of first) (standing_of new) number column
gives_output nodes job first mid tried new place number column before out next handed s =
    let is = same_after nodes job mid tried new place number column out s in
    let rest : ℕ → List SplitLeft = λ n. map none_given (numbers_from n (drop n job.splits.items)) in
    let from = out.active.at.done in
    let to = out.after.at.done in
    let here = left_with number from in
    let more = left_with number to in
    let G : List SplitLeft → Type 0 = λ ss. slice_get ss place ≡ Some here in
    let at_mid : G (standing_of mid).started = started_at mid place out.active out.active_at ∙ ap (λ (n : ℕ). Some (left_with n out.active.at.done)) is in
    let at_first : G (standing_of first).started = subst G before.started at_mid in
    let inside = slice_get_within (standing_of first).started place here at_first in
    let to_first : new.next ≡ first.next = s.next ∙ (next ∙ before.next) in
    let tried_is : (standing_of tried).started ≡ set (standing_of first).started place more =
    out.started ∙ (ap (λ (ss : List SplitLeft). set ss place (split_left out.after)) before.started ∙ ap (λ (n : ℕ). set (standing_of first).started place (left_with n out.after.at.done)) (out.same ∙ is)) in
    let L : List SplitLeft → Type 0 = λ ss. left_of job (standing_of new) ≡ ss ++ rest first.next in
    let new_left : L (standing_of new).started = ap (λ (n : ℕ). (standing_of new).started ++ rest n) to_first in
    let left : IsLeftAt (left_of job (standing_of first)) (left_of job (standing_of new)) place number to (length out.split.mask) =
    ⊎_elim
    (λ (l : (to < length out.split.mask) × ((standing_of new).started ≡ (standing_of tried).started)). inl (l.0, new_left ∙ (ap (λ (ss : List SplitLeft). ss ++ rest first.next) (l.1 ∙ tried_is) ∙ sym (set-append_left (standing_of first).started (rest first.next) place more inside))))
    (λ (l : (length out.split.mask ≤ to) × ((standing_of new).started ≡ remove (standing_of tried).started place)).
    let within = out.within in
    let past = l.0 in
    let end : to ≡ length out.split.mask = omega arith in
    let removed : (standing_of new).started ≡ remove (standing_of first).started place = l.1 ∙ (ap (λ (ss : List SplitLeft). remove ss place) tried_is ∙ remove_set (standing_of first).started place more) in
    inr (end, new_left ∙ (ap (λ (ss : List SplitLeft). ss ++ rest first.next) removed ∙ sym (remove-append_left (standing_of first).started (rest first.next) place inside))))
    (left_after nodes job mid tried new place number column out s) in
    let O : Wholes → Type 0 = λ w. IsSplitOutput nodes job (standing_of first) w (piece_of out.split from to) column in
    let T : Wholes → Type 0 = λ w. AreThere nodes job.given w job.plan out.split.rows.start out.split.mask in
    let K : List Kept → Type 0 = λ ks. AreLeavesKept nodes job (piece_of out.split from to) ks in
    let N : ℕ → Type 0 = λ n. slice_get job.splits.items n ≡ Some out.split in
    record {
      place = place;
      from = from;
      to = to;
      at = got_old (standing_of first).started (rest first.next) place here at_first;
      split = out.split;
      split_at = subst N is out.split_at;
      left = left;
      within = out.within;
      some = out.some;
      rest = out.rest;
      output = subst O (sym s.wholes) (record { dtype = out.output.dtype; count = out.output.count; right = λ outside told. out.output.right outside (before.told outside told); there = out.output.there });
      there = subst T (sym s.wholes) out.there;
      leaves = subst K (sym s.leaves) out.leaves;
      handed = s.handed ∙ (handed ∙ before.handed);
    }

-- numbers that are the same
pub same_among : (old new : List ℕ) → new ≡ old → AreAmong old new
same_among old new same = subst (AreAmong old) (sym same) (λ n among. among)

-- the splits that were active still are, or are the one of which rows were given
pub still_active : (nodes : List Node) (job : Job) (first : Standing) (mid tried new : Progress) (place number : ℕ) (column : ColumnData) → OnlyKeeps nodes job first (standing_of mid) → IsActiveOutput nodes job mid tried place column → active_of (standing_of tried) ≡ active_of (standing_of mid) → Settles job place number tried new →
    AreAmong (active_of first) (number ∷ active_of (standing_of new))
still_active nodes job first mid tried new place number column before out same s n among =
    let before_is : active_of (standing_of tried) ≡ active_of first = same ∙ ap (map number_left) before.started in
    let M : List ℕ → Type 0 = λ ns. Among n ns in
    let here : Among n (active_of (standing_of tried)) = subst M (sym before_is) among in
    let R : List SplitLeft → Type 0 = λ ss. Among n (number ∷ map number_left ss) in
    let after : slice_get (standing_of tried).started place ≡ Some (split_left s.active) = started_at tried place s.active s.at in
    let at : slice_get (active_of (standing_of tried)) place ≡ Some number = slice_get-map number_left (standing_of tried).started place ∙ (ap (option_map number_left) after ∙ ap Some s.number_is) in
    ⊎_elim
    (λ (l : (s.active.at.done < length s.split.mask) × ((standing_of new).started ≡ (standing_of tried).started)). subst R (sym l.1) (inr here))
    (λ (l : (length s.split.mask ≤ s.active.at.done) × ((standing_of new).started ≡ remove (standing_of tried).started place)).
    let A : List ℕ → Type 0 = λ ns. Among n (number ∷ ns) in
    let removed = rest_among (active_of (standing_of tried)) place number at n here in
    subst R (sym l.1) (subst A (sym (map_removed number_left (standing_of tried).started place)) removed))
    s.started

-- and no more are active
pub no_more : (nodes : List Node) (job : Job) (first mid tried new : Progress) (place number : ℕ) (column : ColumnData) → OnlyKeeps nodes job (standing_of first) (standing_of mid) → IsActiveOutput nodes job mid tried place column → Settles job place number tried new → length new.active.items ≤ length first.active.items
no_more nodes job first mid tried new place number column before out s =
    let count_new = count_started new in
    let count_first = count_started first in
    let same = ap length before.started in
    let put = ap length out.started in
    let as_put = length-set (standing_of mid).started place (split_left out.after) in
    let inside = slice_get_within (standing_of tried).started place (split_left s.active) (started_at tried place s.active s.at) in
    ⊎_elim
    (λ (l : (s.active.at.done < length s.split.mask) × ((standing_of new).started ≡ (standing_of tried).started)). let stays = ap length l.1 in omega arith)
    (λ (l : (length s.split.mask ≤ s.active.at.done) × ((standing_of new).started ≡ remove (standing_of tried).started place)).
    let fewer = ap length l.1 in
    let removed = length-remove (standing_of tried).started place inside in
    omega arith)
    s.started

-- What was told after a try still is once its needs are passed.
pub told_settled : (nodes : List Node) (job : Job) (old : Standing) (tried new : Progress) (place number : ℕ) → Settles job place number tried new → KeepsTold nodes job old (standing_of tried) → KeepsTold nodes job old (standing_of new)
told_settled nodes job old tried new place number s told outside is =
    let before = told outside is in
    let W : Wholes → Type 0 = λ w. IsTold nodes job (record (standing_of tried) { wholes = w }) outside in
    let now = subst W (sym s.wholes) before in
    let L : List Kept → Type 0 = λ ks. IsTold nodes job (record (standing_of tried) { wholes = new.wholes; leaves = ks }) outside in
    let kept = subst L (sym s.leaves) now in
    let R : List Wanted → Type 0 = λ ws. IsTold nodes job (record (standing_of new) { reads = record (standing_of new).reads { wanted = ws } }) outside in
    subst R (sym s.wanted) kept

-- ---- in which splits

-- what is asked for by splits of some numbers is asked for by splits of the scan
pub wholes_only : (nodes : List Node) (job : Job) (numbers : List ℕ) (old new : Wholes) → KeepsWholesFor nodes job numbers old new → KeepsWholes nodes job old new
wholes_only nodes job numbers old new keeps = record { made = keeps.made; used = keeps.used; made_only = any_split old.made new.made keeps.made_only; used_only = any_split old.used new.used keeps.used_only }
  where
    any_split : (before after : List Kept) → AddsOnly (IsAskedBy nodes job numbers) before after → AddsOnly (IsAskedFor nodes job) before after
    any_split before after only n kept = ⊎_elim (λ (k : IsKept before n). inl k) (λ (a : IsAskedBy nodes job numbers n). inr a.0) (only n kept)
