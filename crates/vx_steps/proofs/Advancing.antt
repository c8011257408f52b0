-- What a step comes to once all that can be started is: a read that is handed out, rows that are given, or nothing more.
use Rattle.std.proofs.Common.{◌≡◌, ℕ, ◌+◌, ◌-◌, ◌<◌, ◌≤◌, ◌⊎◌, inl, inr, ⊎_elim, Bool, true, List, [], ◌∷◌, ◌++◌, map, drop, Option, Some, None, length, get_or, refl, sym, ap, ◌∙◌, subst, arith}
use Rattle.std.specs.Prelude.{IsSomeAnd, slice_range, slice_set}
use Rattle.std.specs.List.{slice_get, remove, sum_by}
use Rattle.std.proofs.lemmas.List.{length-take}
use Rattle.std.proofs.lemmas.List.Sums.{sum_by-remove, sum_by-set}
use Rattle.std.proofs.lemmas.Option.{get_or_from_slice_get, slice_get_within}
use Rattle.vx_base.specs.Columns.{ColumnData}
use Rattle.vx_picking.specs.Rows.{SelectsSome}
use Rattle.vx_plan.specs.Nodes.{Node}
use Rattle.vx_steps.specs.declared.jobs.ActiveSplit.{ActiveSplit}
use Rattle.vx_steps.specs.declared.jobs.Job.{Job}
use Rattle.vx_steps.specs.declared.jobs.Progress.{Progress}
use Rattle.vx_steps.specs.declared.leaf_reads.LeafRead.{LeafRead}
use Rattle.vx_steps.specs.declared.progress.Turn.{Turn}
use Rattle.vx_steps.specs.declared.progress.Turn.TheVariants.{Read, Output, Waiting, Done}
use Rattle.vx_steps.specs.declared.reads.ReadRequest.{ReadRequest}
use Rattle.vx_steps.specs.declared.splits.Split.{Split}
use Rattle.vx_steps.specs.declared.wholes.Wholes.{Wholes}
use Rattle.vx_steps.specs.Jobs.{number_left, AddsLeaves, CanStart, IsAskedBy, IsLeafFor, IsWantedBy, KeepsTold, KeepsWholesFor, Starts, WantsFor}
use Rattle.vx_steps.specs.Kept.{kept_at, IsKept}
use Rattle.vx_steps.specs.KeptData.{Kept}
use Rattle.vx_steps.specs.Needs.{Among, AreAmong}
use Rattle.vx_steps.specs.Pieces.{read_of}
use Rattle.vx_steps.specs.ReadTable.{bytes_of, HandsOut, KeepsStored, StandsAt}
use Rattle.vx_steps.specs.ReadTableData.{ReadsData, Wanted}
use Rattle.vx_steps.specs.Running.{IsActive, IsRunning, IsSound}
use Rattle.vx_steps.specs.Standings.{left_of, none_given, numbers_from, split_left, standing_of, SplitLeft, Standing}
use Rattle.vx_steps.specs.Steps.{row_count, rows_left, work_left, AreHandedOut, GivesOutput, GoesOn, HandsRead, HasCame, HoldsAll, IsDone, IsHandedOut, IsHeldUpAt, IsLeftAt, IsWaiting, TakesTurn}
use Rattle.vx_steps.specs.Turns.{ReadsFor}
use Rattle.vx_steps.specs.Wants.{IsAsked}
use Rattle.vx_steps.specs.Wholes.{AddsOnly}
use Rattle.vx_steps.proofs.Beginning.{none_left}
use Rattle.vx_steps.proofs.Finishing.{count_started}
use Rattle.vx_steps.proofs.Keeping.{same_got}
use Rattle.vx_steps.proofs.PieceRows.{needs_are, need_of}
use Rattle.vx_steps.proofs.Releasing.{served_stored}

-- ---- a read is handed out

-- other reads, of the same segments
abbrev pub with_reads : Progress → ReadsData → Progress
with_reads progress reads = record progress { reads = reads }

pub sound_reads : (nodes : List Node) (job : Job) (progress : Progress) (reads : ReadsData) → IsSound nodes job progress → IsSound nodes job (with_reads progress reads)
sound_reads nodes job progress reads sound = record {
  known = sound.known;
  inside = sound.inside;
  fits = sound.fits;
  typed_given = sound.typed_given;
  typed_leaves = sound.typed_leaves;
  typed_made = sound.typed_made;
  apart_made = sound.apart_made;
  apart_used = sound.apart_used;
  uses = sound.uses;
  counted = sound.counted;
  behind = sound.behind;
}

pub running_handed : (nodes : List Node) (job : Job) (progress : Progress) (reads : ReadsData) → reads.wanted ≡ progress.reads.wanted → KeepsStored progress.reads reads → IsRunning nodes job progress → IsRunning nodes job (with_reads progress reads)
running_handed nodes job progress reads same stored running =
    let going = running.going in
    let keeps = going.keeps in
    let serves = going.serves in
    record {
      first = running.first;
      unforgotten = running.unforgotten;
      going = record {
        ready = going.ready;
        noted = going.noted;
        actives = λ active among.
            let A : List Wanted → Type 0 = λ ws. IsActive nodes job progress.store.columns ws progress.wholes active in
            subst A (sym same) (going.actives active among);
        serves = record {
          gone_late = λ s gone. serves.gone_late s (stored.gone s gone);
          passed_late = λ more. serves.passed_late (subst (λ (n : ℕ). 0 < n) stored.passed more);
          served = λ active among. served_stored progress.store.columns.all progress.reads reads (map read_of active.needs.items) stored (serves.served active among);
          active_after = serves.active_after;
          gone_after = λ s gone. serves.gone_after s (stored.gone s gone);
        };
        keeps = record {
          tallies = keeps.tallies;
          unnoted = keeps.unnoted;
          later = keeps.later;
          noted = keeps.noted;
          found = keeps.found;
          row = keeps.row;
          apart = keeps.apart;
          forgotten = keeps.forgotten;
          none_before = keeps.none_before;
          bytes = λ s bytes came there. keeps.bytes s bytes (sym (ap (λ (ws : List Wanted). bytes_of ws s) same) ∙ came) (λ gone. there (stored.still_gone s gone));
          room = λ s asked. keeps.room s (subst (λ (ws : List Wanted). IsAsked ws s) same asked);
          asked = λ s asked none. keeps.asked s (subst (λ (ws : List Wanted). IsAsked ws s) same asked) (sym (ap (λ (ws : List Wanted). bytes_of ws s) same) ∙ none);
        };
        needed = going.needed;
        holds = λ s bytes came. going.holds s bytes (sym (ap (λ (ws : List Wanted). bytes_of ws s) same) ∙ came);
        came = λ s holds. subst (λ (ws : List Wanted). HasCame nodes ws progress.store.columns.all s) (sym same) (going.came s holds);
      };
    }

-- where none is handed out, all is as it was
pub running_same : (nodes : List Node) (job : Job) (progress : Progress) (reads : ReadsData) → reads ≡ progress.reads → IsRunning nodes job progress → IsRunning nodes job (with_reads progress reads)
running_same nodes job progress reads same running = subst (λ (r : ReadsData). IsRunning nodes job (with_reads progress r)) (sym same) running

pub starts_reads : (nodes : List Node) (job : Job) (old : Standing) (new : Progress) (reads : ReadsData) → reads ≡ new.reads → Starts nodes job old (standing_of new) → Starts nodes job old (standing_of (with_reads new reads))
starts_reads nodes job old new reads e starts = subst (λ (r : ReadsData). Starts nodes job old (standing_of (with_reads new r))) (sym e) starts

pub told_reads : (nodes : List Node) (job : Job) (old : Standing) (new : Progress) (reads : ReadsData) → reads ≡ new.reads → KeepsTold nodes job old (standing_of new) → KeepsTold nodes job old (standing_of (with_reads new reads))
told_reads nodes job old new reads e told = subst (λ (r : ReadsData). KeepsTold nodes job old (standing_of (with_reads new r))) (sym e) told

some_started : (ss more : List SplitLeft) → (length ss ≡ 0 → ⊥) → ss ++ more ≡ [] → ⊥
some_started [] more some none = some refl
some_started (s ∷ ss) more some none = cc

pub hands_read : (nodes : List Node) (job : Job) (old : Standing) (mid : Progress) (reads : ReadsData) (request : ReadRequest) → Starts nodes job old (standing_of mid) → HandsOut mid.reads reads request → (length mid.active.items ≡ 0 → ⊥) → HandsRead job old (standing_of (with_reads mid reads)) request
hands_read nodes job old mid reads request starts hands some =
    let S : List Wanted → Type 0 = λ ws. (place : ℕ) → StandsAt ws request.segment_id place → place ≡ request.id.0 in
    record {
      number = hands.number ∙ starts.handed;
      handed = hands.handed ∙ ap (λ (n : ℕ). n + 1) starts.handed;
      bounded = hands.bounded;
      segment = ap (λ (ws : List Wanted). slice_get ws request.id.0) hands.wanted ∙ (ap (slice_get mid.reads.wanted) hands.number ∙ hands.segment);
      first = subst S (sym hands.wanted) (λ place stands. hands.first place stands ∙ sym hands.number);
      some_left = λ none. some_started (standing_of mid).started (map none_given (numbers_from mid.next (drop mid.next job.splits.items))) (λ count. some (sym (count_started mid) ∙ count)) (starts.left ∙ none);
      left = starts.left;
    }

-- ---- no split is left

pub done_turn : (nodes : List Node) (job : Job) (old : Standing) (new : Progress) → Starts nodes job old (standing_of new) → (CanStart job (standing_of new) → ⊥) → length new.active.items ≡ 0 → IsDone job old (standing_of new)
done_turn nodes job old new starts none count =
    let started : length (standing_of new).started ≡ 0 = count_started new ∙ count in
    let not : new.next < length job.splits.items → ⊥ = λ less. none (less, inl started) in
    let past : length job.splits.items ≤ new.next = omega arith in
    let left : left_of job (standing_of new) ≡ [] = none_left job (standing_of new) (empty (standing_of new).started started) past in
    record { none_left = sym starts.left ∙ left; left = starts.left; handed = starts.handed }
  where
    empty : (ss : List SplitLeft) → length ss ≡ 0 → ss ≡ []
    empty [] e = refl
    empty (s ∷ ss) e = absurd (omega arith)

-- ---- of what is wanted

-- what is wanted for these splits is wanted for more
pub wants_for : (nodes : List Node) (job : Job) (numbers more : List ℕ) (old mid new : Standing) → AreAmong numbers more → new.reads.wanted ≡ mid.reads.wanted → WantsFor nodes job numbers old mid → WantsFor nodes job more old new
wants_for nodes job numbers more old mid new among same wants segment asked =
    let P : List Wanted → Type 0 = λ wanted. IsAsked wanted segment in
    ⊎_elim (λ (a : IsAsked old.reads.wanted segment). inl a) (λ (w : IsWantedBy nodes job numbers old.leaves segment). inr (w.0, among (w.0).number w.1)) (wants segment (subst P same asked))

-- leaves of these splits are leaves of more
pub leaves_for : (nodes : List Node) (job : Job) (numbers more : List ℕ) (old mid new : List Kept) → AreAmong numbers more → mid ≡ old → AddsLeaves nodes job numbers mid new → AddsLeaves nodes job more old new
leaves_for nodes job numbers more old mid new among same only =
    let P : List Kept → Type 0 = λ ks. AddsLeaves nodes job more ks new in
    subst P same (λ n kept. ⊎_elim (λ (k : IsKept mid n). inl k) (λ (l : IsLeafFor nodes job numbers n). inr (record { number = l.number; among = among l.number l.among; split = l.split; at = l.at; read = l.read; reads = l.reads; leaf_is = l.leaf_is })) (only n kept))

-- what is asked for by these splits is asked for by more
pub wholes_for : (nodes : List Node) (job : Job) (numbers more : List ℕ) (old mid new : Wholes) → AreAmong numbers more → mid ≡ old → KeepsWholesFor nodes job numbers mid new → KeepsWholesFor nodes job more old new
wholes_for nodes job numbers more old mid new among same keeps =
    let P : Wholes → Type 0 = λ w. KeepsWholesFor nodes job more w new in
    subst P same (record { made = keeps.made; used = keeps.used; made_only = only_more mid.made new.made keeps.made_only; used_only = only_more mid.used new.used keeps.used_only })
  where
    only_more : (before after : List Kept) → AddsOnly (IsAskedBy nodes job numbers) before after → AddsOnly (IsAskedBy nodes job more) before after
    only_more before after only n kept = ⊎_elim (λ (k : IsKept before n). inl k) (λ (a : IsAskedBy nodes job numbers n). inr (a.0, among (a.0).number a.1)) (only n kept)

-- ---- rows are given, or each split waits

-- what is given once splits were started is given from what was there before
pub gives_later : (nodes : List Node) (job : Job) (old mid new : Standing) (number : ℕ) (column : ColumnData) → Starts nodes job old mid → KeepsTold nodes job old mid → GivesOutput nodes job mid new number column → GivesOutput nodes job old new number column
gives_later nodes job old mid new number column starts told gives =
    let A : List SplitLeft → Type 0 = λ ss. slice_get ss gives.place ≡ Some (record { number = number; given = gives.from }) in
    let L : List SplitLeft → Type 0 = λ ss. IsLeftAt ss (left_of job new) gives.place number gives.to (length gives.split.mask) in
    record {
      place = gives.place;
      from = gives.from;
      to = gives.to;
      at = subst A starts.left gives.at;
      split = gives.split;
      split_at = gives.split_at;
      left = subst L starts.left gives.left;
      within = gives.within;
      some = gives.some;
      rest = gives.rest;
      output = record { dtype = gives.output.dtype; count = gives.output.count; right = λ outside is. gives.output.right outside (told outside is); there = gives.output.there };
      there = gives.there;
      leaves = gives.leaves;
      handed = gives.handed ∙ starts.handed;
    }

-- a number of started splits is that of an active one
numbered : (actives : List ActiveSplit) (number : ℕ) → Among number (map number_left (map split_left actives)) → (active : ActiveSplit) × Among active actives × (active.split ≡ number)
numbered [] number among = absurd among
numbered (active ∷ actives) number (inl is) = (active, inl refl, is)
numbered (active ∷ actives) number (inr among) =
    let found = numbered actives number among in
    (found.0, inr found.1, found.2)

standing_within : (wanted : List Wanted) (segment place : ℕ) (o : Option Wanted) → slice_get wanted place ≡ o → IsSomeAnd o (λ w. w.segment ≡ segment) → place < length wanted
standing_within wanted segment place None at stands = absurd stands
standing_within wanted segment place (Some w) at stands = slice_get_within wanted place w at

-- where all that is wanted was handed out, so was each segment that is wanted
out_where_all : (reads : ReadsData) (segment : ℕ) → reads.handed ≡ length reads.wanted → IsAsked reads.wanted segment → IsHandedOut reads segment
out_where_all reads segment all (place, stands) =
    let within = standing_within reads.wanted segment place (slice_get reads.wanted place) refl stands in
    (place, subst (λ (n : ℕ). place < n) (sym all) within, stands)

-- each segment is wanted that an active split reads by a leaf of which no column is kept
asked_by : (nodes : List Node) (job : Job) (progress : Progress) (active : ActiveSplit) (split : Split) (read : LeafRead) → IsActive nodes job progress.store.columns progress.reads.wanted progress.wholes active → slice_get job.splits.items active.split ≡ Some split → ReadsFor nodes job split read →
    kept_at progress.store.columns.all read.leaf ≡ None → IsAsked progress.reads.wanted read.segment
asked_by nodes job progress active split read is at reads none =
    let s = is.started in
    let R : Split → Type 0 = λ x. ReadsFor nodes job x read in
    let own = subst R (same_got (slice_get job.splits.items active.split) split s.split at s.at) reads in
    let found = need_of read active.needs.items ((needs_are nodes job s.split active.needs.items s.placed).all read own) in
    let N : LeafRead → Type 0 = λ x. kept_at progress.store.columns.all x.leaf ≡ None in
    let A : LeafRead → Type 0 = λ x. IsAsked progress.reads.wanted x.segment in
    subst A found.2 (s.asked found.0 found.1 (subst N (sym found.2) none))

pub are_handed_out : (nodes : List Node) (job : Job) (started : Progress) (new : Standing) → IsRunning nodes job started → new.started ≡ (standing_of started).started → new.reads.wanted ≡ started.reads.wanted → new.reads.handed ≡ length new.reads.wanted → AreHandedOut nodes job started.store.columns.all new
are_handed_out nodes job started new running same wanted all number split read among at reads none =
    let M : List SplitLeft → Type 0 = λ ss. Among number (map number_left ss) in
    let found = numbered started.active.items number (subst M same among) in
    let N : ℕ → Type 0 = λ n. slice_get job.splits.items n ≡ Some split in
    let asked = asked_by nodes job started found.0 split read (running.going.actives found.0 found.1) (subst N (sym found.2) at) reads none in
    out_where_all new.reads read.segment all (subst (λ (ws : List Wanted). IsAsked ws read.segment) (sym wanted) asked)

-- Nothing can be done.
pub waits_turn : (nodes : List Node) (job : Job) (old : Standing) (started : Progress) (reads : ReadsData) (new : Standing) → Starts nodes job old (standing_of started) → (CanStart job (standing_of started) → ⊥) → IsRunning nodes job started → reads ≡ started.reads → started.reads.handed ≡ length started.reads.wanted → (length started.active.items ≡ 0 → ⊥) →
    HoldsAll nodes job (standing_of (with_reads started reads)) new → new.reads.wanted ≡ reads.wanted → new.reads.handed ≡ reads.handed → IsWaiting nodes job old new
waits_turn nodes job old started reads new starts none running same all some holds wanted handed =
    let left_same : left_of job new ≡ left_of job (standing_of started) = ap (λ (ss : List SplitLeft). ss ++ map none_given (numbers_from new.next (drop new.next job.splits.items))) holds.started ∙ ap (λ (n : ℕ). (standing_of started).started ++ map none_given (numbers_from n (drop n job.splits.items))) holds.next in
    let wanted_same : new.reads.wanted ≡ started.reads.wanted = wanted ∙ ap (λ (r : ReadsData). r.wanted) same in
    let handed_same : new.reads.handed ≡ started.reads.handed = handed ∙ ap (λ (r : ReadsData). r.handed) same in
    let all_handed : new.reads.handed ≡ length new.reads.wanted = handed_same ∙ (all ∙ ap length (sym wanted_same)) in
    let C : ℕ → Type 0 = λ n. (n < length job.splits.items) × ((length new.started ≡ 0) ⊎ (length new.started < job.max_active)) → ⊥ in
    let D : List SplitLeft → Type 0 = λ ss. (started.next < length job.splits.items) × ((length ss ≡ 0) ⊎ (length ss < job.max_active)) → ⊥ in
    let O : List Kept → Type 0 = λ ks. AreHandedOut nodes job ks new in
    let H : List Kept → Type 0 = λ ks. (s : SplitLeft) → Among s new.started → IsHeldUpAt nodes job ks new.reads.wanted s in
    record {
      left = left_same ∙ starts.left;
      handed = handed_same ∙ starts.handed;
      none_to_start = subst C (sym holds.next) (subst D (sym holds.started) none);
      are_handed = subst O starts.leaves (are_handed_out nodes job started new running holds.started wanted_same all_handed);
      all_handed = all_handed;
      some = λ count. some (sym (count_started started) ∙ (sym (ap length holds.started) ∙ count));
      held = subst H starts.leaves holds.held;
    }

-- ---- a scan ends

-- a range that selects a row has one
range_forwards : (bits : List Bool) (from to : ℕ) → SelectsSome (slice_range bits from to) → from < to
range_forwards bits from to (place, at) =
    let inside = slice_get_within (slice_range bits from to) place true at in
    let count = length-take (to - from) (drop from bits) in
    omega arith

-- each read and each output lowers what is left
pub turn_lowers : (nodes : List Node) (job : Job) (old new : Standing) (turn : Turn) → TakesTurn nodes job old new turn → GoesOn turn → work_left job new < work_left job old
turn_lowers nodes job old new (Read request) takes goes =
    let same = ap (sum_by (rows_left job.splits.items)) takes.left in
    let handed = takes.handed in
    let bounded = takes.bounded in
    omega arith
turn_lowers nodes job old new (Output number column) takes goes =
    let rows = rows_left job.splits.items in
    let before : SplitLeft = record { number = number; given = takes.from } in
    let after : SplitLeft = record { number = number; given = takes.to } in
    let left = left_of job old in
    let inside = slice_get_within left takes.place before takes.at in
    let here : get_or left takes.place before ≡ before = get_or_from_slice_get left takes.place before before takes.at in
    let had : rows (get_or left takes.place before) ≡ length takes.split.mask - takes.from = ap rows here ∙ ap (λ (o : Option Split). row_count o - takes.from) takes.split_at in
    let has : rows after ≡ length takes.split.mask - takes.to = ap (λ (o : Option Split). row_count o - takes.to) takes.split_at in
    let forwards : takes.from < takes.to = range_forwards takes.split.mask takes.from takes.to takes.some in
    let within = takes.within in
    let handed = takes.handed in
    ⊎_elim
    (λ (l : (takes.to < length takes.split.mask) × (left_of job new ≡ slice_set left takes.place after)).
    let put = sum_by-set rows left takes.place after before inside in
    let same = ap (sum_by rows) l.1 in
    omega arith)
    (λ (l : (takes.to ≡ length takes.split.mask) × (left_of job new ≡ remove left takes.place)).
    let end = l.0 in
    let gone = sum_by-remove rows left takes.place before inside in
    let same = ap (sum_by rows) l.1 in
    omega arith)
    takes.left
turn_lowers nodes job old new Waiting takes goes = absurd goes
turn_lowers nodes job old new Done takes goes = absurd goes
