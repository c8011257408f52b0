-- Steps of a scan one after the other.
use Rattle.std.proofs.Common.{◌≡◌, ℕ, inl, inr, Option, Some, None, refl, sym, ◌∙◌, subst}
use Rattle.vx_steps.specs.Jobs.{KeepsColumns, KeepsWholes, IsAskedFor, IsReadFor}
use Rattle.vx_steps.specs.Kept.{kept_at}
use Rattle.vx_steps.specs.ScanData.{ScanData}
use Rattle.vx_steps.specs.Wants.{IsAsked}
use Rattle.vx_steps.proofs.Decoding.{adds_then}
use Rattle.vx_drive.specs.Continues.{KeepsScan, Continues, MayBeRead}
use Rattle.vx_base.specs.Columns.{ColumnData}

-- ---- what each step keeps

wholes_then : (base one two three : ScanData) → KeepsWholes base.nodes base.job one.progress.wholes two.progress.wholes → KeepsWholes base.nodes base.job two.progress.wholes three.progress.wholes → KeepsWholes base.nodes base.job one.progress.wholes three.progress.wholes
wholes_then base one two three first second = record {
  made = λ n column at. second.made n column (first.made n column at);
  used = λ n column at. second.used n column (first.used n column at);
  made_only = adds_then (IsAskedFor base.nodes base.job) one.progress.wholes.made two.progress.wholes.made three.progress.wholes.made first.made_only second.made_only;
  used_only = adds_then (IsAskedFor base.nodes base.job) one.progress.wholes.used two.progress.wholes.used three.progress.wholes.used first.used_only second.used_only;
}

wholes_same : (scan : ScanData) → KeepsWholes scan.nodes scan.job scan.progress.wholes scan.progress.wholes
wholes_same scan = record {
  made = λ n column at. at;
  used = λ n column at. at;
  made_only = λ n kept. inl kept;
  used_only = λ n kept. inl kept;
}

pub keeps_same : (scan : ScanData) → KeepsScan scan scan
keeps_same scan = record {
  nodes = refl;
  job = refl;
  told = λ outside is. is;
  grows = λ place w at. at;
  leaves = λ n column at. at;
  wholes = wholes_same scan;
}

-- what is so of two scans by the table and the job of the second is so by those of the first
wholes_of : (one two three : ScanData) → two.nodes ≡ one.nodes → two.job ≡ one.job → KeepsWholes two.nodes two.job two.progress.wholes three.progress.wholes → KeepsWholes one.nodes one.job two.progress.wholes three.progress.wholes
wholes_of one two three nodes job keeps =
    subst (λ js. KeepsWholes one.nodes js two.progress.wholes three.progress.wholes) job (subst (λ ns. KeepsWholes ns two.job two.progress.wholes three.progress.wholes) nodes keeps)

pub keeps_then : (one two three : ScanData) → KeepsScan one two → KeepsScan two three → KeepsScan one three
keeps_then one two three first second = record {
  nodes = second.nodes ∙ first.nodes;
  job = second.job ∙ first.job;
  told = λ outside is. second.told outside (first.told outside is);
  grows = λ place w at. second.grows place w (first.grows place w at);
  leaves = λ n column at. second.leaves n column (first.leaves n column at);
  wholes = wholes_then one one two three first.wholes (wholes_of one two three first.nodes first.job second.wholes);
}

-- ---- what they want

pub none_before : (before after : Option ColumnData) → ((column : ColumnData) → before ≡ Some column → after ≡ Some column) → after ≡ None → before ≡ None
none_before None after stays none = refl
none_before (Some column) after stays none = absurd (let both : Some column ≡ None = sym (stays column refl) ∙ none in cc)

-- a leaf of which no column is kept had none before
not_kept_before : (one two : ScanData) (segment : ℕ) → KeepsColumns one.progress.leaves two.progress.leaves → IsReadFor one.nodes one.job two.progress.leaves segment → IsReadFor one.nodes one.job one.progress.leaves segment
not_kept_before one two segment keeps is = record {
  number = is.number;
  split = is.split;
  at = is.at;
  read = is.read;
  reads = is.reads;
  not_kept = none_before (kept_at one.progress.leaves is.read.leaf) (kept_at two.progress.leaves is.read.leaf) (keeps is.read.leaf) is.not_kept;
  segment_is = is.segment_is;
}

-- what is read for a later scan was read for the earlier one
read_before : (one two : ScanData) (segment : ℕ) → KeepsScan one two → IsReadFor two.nodes two.job two.progress.leaves segment → IsReadFor one.nodes one.job one.progress.leaves segment
read_before one two segment keeps is =
    not_kept_before one two segment keeps.leaves (subst (λ js. IsReadFor one.nodes js two.progress.leaves segment) keeps.job (subst (λ ns. IsReadFor ns two.job two.progress.leaves segment) keeps.nodes is))

may_before : (one two : ScanData) (segment : ℕ) → KeepsScan one two → (IsAsked two.progress.reads.wanted segment → MayBeRead one segment) → MayBeRead two segment → MayBeRead one segment
may_before one two segment keeps first (inl asked) = first asked
may_before one two segment keeps first (inr is) = inr (read_before one two segment keeps is)

-- ---- steps of which none was refused

pub continues_same : (scan : ScanData) → Continues scan scan
continues_same scan = record { keeps = keeps_same scan; wants = λ segment asked. inl asked; refused = refl }

pub continues_then : (one two three : ScanData) → Continues one two → Continues two three → Continues one three
continues_then one two three first second = record {
  keeps = keeps_then one two three first.keeps second.keeps;
  wants = λ segment asked. may_before one two segment first.keeps (first.wants segment) (second.wants segment asked);
  refused = second.refused ∙ first.refused;
}
