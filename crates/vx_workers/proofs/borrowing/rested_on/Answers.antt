use Rattle.std.proofs.Common.{Bool, List, Result, inl, inr, map, refl, subst, sym}
use Rattle.std.specs.Prelude.{IfErr}
use Rattle.std.specs.Bool.{MatchBool}
use Rattle.vx_plan.specs.Refs.{number_of}
use Rattle.vx_steps.specs.declared.kept.KeptValue.{KeptValue}
use Rattle.vx_drive.specs.declared.errors.ScanError.{ScanError}
use Rattle.vx_chunks.specs.Outcomes.{data_of}
use Rattle.vx_workers.specs.Borrowing.{AreHad}
use Rattle.vx_workers.specs.Borrowers.{RestsOnValues}
use Rattle.vx_workers.proofs.borrowing.rested_on.Goals as goal
use Rattle.vx_workers.proofs.borrowing.rested_on.Goals.{else-rests_on_values-via-then-rests_on_values+else-not-are_had, else-rests_on_values-via-else-rests_on_values}
use Rattle.vx_base.specs.Columns.{ColumnData}

pub returns-then-not-are_had : goal.returns-then-not-are_had
returns-then-not-are_had c =
    let had : List KeptValue → Type 0 = λ given. AreHad (map number_of c.args.asked.now) (data_of given) (data_of c.args.made.now) in
    let rests : RestsOnValues c.in-Err.error = subst (λ (b : Bool). MatchBool b (RestsOnValues c.in-Err.error) (RestsOnValues c.in-Err.error → ⊥)) c.if-rests_on_values.true c.rests_on_values.ensures in
    let lacks : had c.as_slice.result.now → ⊥ = subst (λ (b : Bool). MatchBool b (had c.as_slice.result.now) (had c.as_slice.result.now → ⊥)) c.if-not-are_had.true c.are_had.ensures in
    inr (c.new.ensures.items, (c.in-Err.error, c.in-Err.is, rests, subst (λ (given : List KeptValue). had given → ⊥) c.as_slice.ensures.value lacks))

pub returns : goal.returns
returns c =
    let had : List KeptValue → Type 0 = λ given. AreHad (map number_of c.args.asked.now) (data_of given) (data_of c.args.made.now) in
    let all : RestsOnValues c.in-Err.error → had c.args.given.items =
    elim c.else-rests_on_values.branch [
      | else-rests_on_values-via-then-rests_on_values+else-not-are_had w ↦ λ rests. subst had w.as_slice.ensures.value (subst (λ (b : Bool). MatchBool b (had w.as_slice.result.now) (had w.as_slice.result.now → ⊥)) w.if-not-are_had.false w.are_had.ensures)
      | else-rests_on_values-via-else-rests_on_values w ↦ λ rests. absurd (subst (λ (b : Bool). MatchBool b (RestsOnValues c.in-Err.error) (RestsOnValues c.in-Err.error → ⊥)) w.if-rests_on_values.false c.rests_on_values.ensures rests)
    ] in
    inl (refl, subst (λ (piece : Result ColumnData ScanError). IfErr piece (λ error. RestsOnValues error → had c.args.given.items)) (sym c.in-Err.is) all)
