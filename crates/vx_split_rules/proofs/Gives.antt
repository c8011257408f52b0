-- What the splits of a layout are to a rule.
use Rattle.std.proofs.Common.{◌≡◌, ℕ, ◌≤◌, [], ◌∷◌, Result, Ok, Err}
use Rattle.std.specs.Global.{Vec}
use Rattle.std.specs.Prelude.{◌<◌, IfOk}
use Rattle.vx_split_rules.specs.declared.errors.SplitError.{SplitError}
use Rattle.vx_split_rules.specs.declared.errors.SplitError.TheVariants.{ZeroSize, OutOfRange, Memory}
use Rattle.vx_split_rules.specs.declared.split_rules.SplitBy.{SplitBy}
use Rattle.vx_split_rules.specs.declared.split_rules.SplitBy.TheVariants.{Layout, LayoutSubSplitting}
use Rattle.vx_split_rules.specs.Rules.{LayoutGives, ReaderSplits, Spans, SplitsGive}
use Rattle.vx_split_rules.proofs.Spanned.{splits_alone, splits_span}

pub layout_gives : (result : Result (Vec ℕ) SplitError) (reader : ReaderSplits) (start end : ℕ) → LayoutGives reader start end result → SplitsGive Layout reader start end result
layout_gives (Ok splits) reader start end gives = (λ none. none, gives.0, gives.1)
layout_gives (Err ZeroSize) reader start end gives = absurd gives
layout_gives (Err OutOfRange) reader start end gives = (λ none. none, gives)
layout_gives (Err Memory) reader start end gives = (λ none. none, gives)

-- an error of the boundaries is one of what lies between them
pub sub_refused : (error : SplitError) (max_rows : ℕ) (reader : ReaderSplits) (start end : ℕ) → (max_rows ≡ 0 → ⊥) → LayoutGives reader start end (Err error) → SplitsGive (LayoutSubSplitting max_rows) reader start end (Err error)
sub_refused ZeroSize max_rows reader start end some gives = absurd gives
sub_refused OutOfRange max_rows reader start end some gives = (some, gives)
sub_refused Memory max_rows reader start end some gives = (some, gives)

pub gives_spans : (result : Result (Vec ℕ) SplitError) (rule : SplitBy) (reader : ReaderSplits) (start end : ℕ) → start < end → SplitsGive rule reader start end result → IfOk result (λ splits. Spans start end splits.items)
gives_spans (Ok splits) rule reader start end some gives = splits_span rule reader start end splits.items some gives.0 gives.2
gives_spans (Err error) rule reader start end some gives = tt

pub gives_alone : (result : Result (Vec ℕ) SplitError) (rule : SplitBy) (reader : ReaderSplits) (start end : ℕ) → end ≤ start → SplitsGive rule reader start end result → IfOk result (λ splits. splits.items ≡ end ∷ [])
gives_alone (Ok splits) rule reader start end empty gives = splits_alone rule reader start end splits.items empty gives.0 gives.1 gives.2
gives_alone (Err error) rule reader start end empty gives = tt
