-- A run of a scan of one split over a session: how far the scan came, and what it gave.
use Rattle.std.proofs.Common.{◌≡◌, ℕ, zero, suc, ◌⊎◌, inl, inr, false, List, [], ◌∷◌, Some, None, take, refl, sym, ap, ◌∙◌, subst}
use Rattle.std.specs.Prelude.{slice_get, slice_set}
use Rattle.std.specs.List.{All}
use Rattle.std.proofs.lemmas.List.Elements.{All-cons, All-nil}
use Rattle.vx_layout.specs.Rows.{segment_bytes}
use Rattle.vx_plan.specs.Nodes.{Node}
use Rattle.vx_steps.specs.declared.jobs.Job.{Job}
use Rattle.vx_steps.specs.declared.reads.ReadId.{ReadId}
use Rattle.vx_steps.specs.declared.wholes.Wholes.{Wholes}
use Rattle.vx_steps.specs.Jobs.{KeepsColumns, KeepsWholes, IsReadFor}
use Rattle.vx_steps.specs.Kept.{kept_at}
use Rattle.vx_steps.specs.KeptData.{Kept}
use Rattle.vx_steps.specs.ReadTable.{StandsAt}
use Rattle.vx_steps.specs.ReadTableData.{Wanted}
use Rattle.vx_steps.specs.ScanData.{ScanData, IsScanOf, TakesBytes}
use Rattle.vx_steps.specs.Wants.{IsAsked}
use Rattle.vx_drive.specs.Continues.{Continues, KeepsScan}
use Rattle.vx_drive.specs.Fetched.{segments_in}
use Rattle.vx_drive.specs.Runs.{IsReadByStart, WhereScanned}
use Rattle.vx_drive.specs.Starts.{IsUnread}
use Rattle.vx_drive.proofs.Continuing.{none_before}
use Rattle.vx_base.specs.Sources.{SourceState}
use Rattle.vx_base.specs.declared.locations.SegmentLocation.{SegmentLocation}

-- ---- how far the scan came

-- What steps keep, refused or not.
pub record KeptSoFar (locations : List SegmentLocation) (start : ScanData) (before : SourceState) (scan : ScanData) : Type 0 where
  pub nodes : scan.nodes ≡ start.nodes
  pub job : scan.job ≡ start.job
  pub told : WhereScanned locations start before (IsScanOf scan)
  pub leaves : KeepsColumns start.progress.leaves scan.progress.leaves
  pub wholes : KeepsWholes start.nodes start.job start.progress.wholes scan.progress.wholes

-- None was refused, and each segment that is wanted is read for the scan.
pub record ScanSoFar (locations : List SegmentLocation) (start : ScanData) (before : SourceState) (scan : ScanData) : Type 0 where
  pub kept : KeptSoFar locations start before scan
  pub refused : scan.refused ≡ false
  pub wanted : (segment : ℕ) → IsAsked scan.progress.reads.wanted segment → IsReadByStart start segment

-- ---- what was made or used

-- kept before, or added now
kept_or : {A B C : Type 0} → A ⊎ B → (A → C ⊎ B) → C ⊎ B
kept_or (inl a) f = f a
kept_or (inr b) f = inr b

wholes_on : (nodes others : List Node) (job other : Job) (one two three : Wholes) → others ≡ nodes → other ≡ job → KeepsWholes nodes job one two → KeepsWholes others other two three → KeepsWholes nodes job one three
wholes_on nodes others job other one two three same_nodes same_job first second =
    on (subst (λ (j : Job). KeepsWholes nodes j two three) same_job (subst (λ (ns : List Node). KeepsWholes ns other two three) same_nodes second))
  where
    on : KeepsWholes nodes job two three → KeepsWholes nodes job one three
    on more = record {
      made = λ n column at. more.made n column (first.made n column at);
      used = λ n column at. more.used n column (first.used n column at);
      made_only = λ n kept. kept_or (more.made_only n kept) (first.made_only n);
      used_only = λ n kept. kept_or (more.used_only n kept) (first.used_only n);
    }

pub wholes_same : (nodes : List Node) (job : Job) (wholes : Wholes) → KeepsWholes nodes job wholes wholes
wholes_same nodes job wholes = record { made = λ n column at. at; used = λ n column at. at; made_only = λ n kept. inl kept; used_only = λ n kept. inl kept }

-- ---- the scan

pub kept_then : (locations : List SegmentLocation) (start : ScanData) (before : SourceState) (old new : ScanData) → KeptSoFar locations start before old → KeepsScan old new → KeptSoFar locations start before new
kept_then locations start before old new kept keeps = record {
  nodes = keeps.nodes ∙ kept.nodes;
  job = keeps.job ∙ kept.job;
  told = λ file is held. keeps.told (segment_bytes file locations) (kept.told file is held);
  leaves = λ n column at. keeps.leaves n column (kept.leaves n column at);
  wholes = wholes_on start.nodes old.nodes start.job old.job start.progress.wholes old.progress.wholes new.progress.wholes kept.nodes kept.job kept.wholes keeps.wholes;
}

read_at_start : (start : ScanData) (leaves : List Kept) (segment : ℕ) → KeepsColumns start.progress.leaves leaves → IsReadFor start.nodes start.job leaves segment → IsReadByStart start segment
read_at_start start leaves segment keeps is = record {
  number = is.number;
  split = is.split;
  at = is.at;
  read = is.read;
  reads = is.reads;
  not_kept = none_before (kept_at start.progress.leaves is.read.leaf) (kept_at leaves is.read.leaf) (keeps is.read.leaf) is.not_kept;
  segment_is = is.segment_is;
}

wanted_then : (start old : ScanData) (leaves : List Kept) (segment : ℕ) → old.nodes ≡ start.nodes → old.job ≡ start.job → KeepsColumns start.progress.leaves leaves → IsReadFor old.nodes old.job leaves segment → IsReadByStart start segment
wanted_then start old leaves segment nodes job keeps is =
    read_at_start start leaves segment keeps
    (subst (λ (j : Job). IsReadFor start.nodes j leaves segment) job (subst (λ (ns : List Node). IsReadFor ns old.job leaves segment) nodes is))

pub so_far_then : (locations : List SegmentLocation) (start : ScanData) (before : SourceState) (old new : ScanData) → ScanSoFar locations start before old → Continues old new → ScanSoFar locations start before new
so_far_then locations start before old new so_far on = record {
  kept = kept_then locations start before old new so_far.kept on.keeps;
  refused = on.refused ∙ so_far.refused;
  wanted = λ segment asked. by_cases segment (on.wants segment asked);
}
  where
    by_cases : (segment : ℕ) → IsAsked old.progress.reads.wanted segment ⊎ IsReadFor old.nodes old.job old.progress.leaves segment → IsReadByStart start segment
    by_cases segment (inl asked) = so_far.wanted segment asked
    by_cases segment (inr is) = wanted_then start old old.progress.leaves segment so_far.kept.nodes so_far.kept.job so_far.kept.leaves is

pub so_far_start : (locations : List SegmentLocation) (start : ScanData) (before : SourceState) → IsUnread start → ScanSoFar locations start before start
so_far_start locations start before unread = record {
  kept = record {
    nodes = refl;
    job = refl;
    told = λ file is held. held;
    leaves = λ n column at. at;
    wholes = wholes_same start.nodes start.job start.progress.wholes;
  };
  refused = unread.refused;
  wanted = λ segment asked. absurd (none_asked segment (subst (λ (ws : List Wanted). IsAsked ws segment) unread.wanted asked));
}
  where
    none_asked : (segment : ℕ) → IsAsked [] segment → ⊥
    none_asked segment (place, stands) = stands

-- a segment that stands where bytes came stood there before
stands_before : (wanted : List Wanted) (number segment place other : ℕ) (bytes : List ℕ) → slice_get wanted number ≡ Some (record { segment = segment; bytes = None }) → StandsAt (slice_set wanted number (record { segment = segment; bytes = Some bytes })) other place → StandsAt wanted other place
stands_before [] number segment place other bytes here stands = absurd (let both : None ≡ Some (record { segment = segment; bytes = None }) = here in cc)
stands_before (w ∷ wanted) zero segment zero other bytes here stands =
    let same : w ≡ record { segment = segment; bytes = None } = cc in
    ap (λ (x : Wanted). x.segment) same ∙ stands
stands_before (w ∷ wanted) zero segment (suc place) other bytes here stands = stands
stands_before (w ∷ wanted) (suc number) segment zero other bytes here stands = stands
stands_before (w ∷ wanted) (suc number) segment (suc place) other bytes here stands = stands_before wanted number segment place other bytes here stands

pub so_far_taken : (locations : List SegmentLocation) (start : ScanData) (before : SourceState) (read : ReadId) (bytes : List ℕ) (old new : ScanData) → ScanSoFar locations start before old → (takes : TakesBytes read bytes old new) →
    ((file : List ℕ) → before.file ≡ Some file → segment_bytes file locations takes.delivers.segment ≡ Some bytes) → ScanSoFar locations start before new
so_far_taken locations start before read bytes old new so_far takes told = record {
  kept = record {
    nodes = takes.nodes ∙ so_far.kept.nodes;
    job = takes.job ∙ so_far.kept.job;
    told = λ file is held. takes.told (segment_bytes file locations) (told file is) (so_far.kept.told file is held);
    leaves = λ n column at. subst (λ (ls : List Kept). kept_at ls n ≡ Some column) (sym takes.leaves) (so_far.kept.leaves n column at);
    wholes = subst (KeepsWholes start.nodes start.job start.progress.wholes) (sym takes.wholes) so_far.kept.wholes;
  };
  refused = takes.refused ∙ so_far.refused;
  wanted = λ segment asked. so_far.wanted segment (asked.0, stands_before old.progress.reads.wanted read.0 takes.delivers.segment asked.0 segment bytes takes.delivers.at (subst (λ (ws : List Wanted). StandsAt ws segment asked.0) takes.delivers.taken asked.1));
}

-- ---- what was asked for is wanted

pub all_taken : (P : ℕ → Type 0) (n : ℕ) (reads : List Wanted) → ((segment : ℕ) → IsAsked reads segment → P segment) → All P (segments_in (take n reads))
all_taken P zero reads each = All-nil P
all_taken P (suc n) [] each = All-nil P
all_taken P (suc n) (read ∷ reads) each =
    All-cons P read.segment (segments_in (take n reads)) (each read.segment (0, refl)) (all_taken P n reads (λ segment asked. each segment (suc asked.0, asked.1)))
