use Rattle.std.proofs.Common.{◌≡◌, ◌<◌, ◌++◌, ◌∷◌, [], Ok, Some, length, refl, arith, rules}
use Rattle.std.specs.Prelude.{slice_get}
use Rattle.std.proofs.lemmas.Grind.{common_steps}
use Rattle.vx_drive.specs.Plans.{IsChunkOf}
use Rattle.vx_workers.specs.Merges.{IsBelow}
use Rattle.vx_workers.specs.Borrowers.{IsBorrower}
use Rattle.vx_execute.specs.Validated.{IsNotBelow}
use Rattle.vx_execute.proofs.ValidatedEnds.{validates_before, validates_done, validates_failing}
use Rattle.vx_execute.proofs.ValidatingAll.{borrower_inside, borrower_of_chunk, borrower_unhindered, next_borrower, validating_more, validating_none, IsNext}
use Rattle.vx_execute.proofs.validating.validate_all.Goals as goal
use Rattle.vx_base.specs.Columns.{ColumnData}
use Rattle.vx_base.proofs.Got.{each_got, got_at}

pub loop-borrower-init : goal.loop-borrower-init
loop-borrower-init g c = (validating_none c.args.plans.now c.args.chunks.now c.args.borrowers.items c.args.validated.now (g.S.SegmentSource.state c.args.source.now) c.requires.typed c.requires.none, search rules)

pub returns-then-not-is_below : goal.returns-then-not-is_below
returns-then-not-is_below g c =
    let all : c.loop-borrower.yielded ++ c.in-Some.borrower ∷ c.next.new.self.rest.items ≡ c.args.borrowers.items = grind (arith, common_steps) in
    let stop : IsNotBelow c.loop-borrower.validated.error c.in-Some.borrower.chunk = search rules in
    validates_before c.args.plans.now c.args.chunks.now c.args.borrowers.items c.loop-borrower.yielded c.args.validated.now c.loop-borrower.validated c.in-Some.borrower c.next.new.self.rest.items (g.S.SegmentSource.state c.args.source.now) (g.S.SegmentSource.state c.loop-borrower.source) all c.requires.ordered stop c.loop-borrower.invariant.0

pub offset_bounds-chunks-number : goal.offset_bounds-chunks-number
offset_bounds-chunks-number g c =
    let all : c.loop-borrower.yielded ++ c.in-Some.borrower ∷ c.next.new.self.rest.items ≡ c.args.borrowers.items = grind (arith, common_steps) in
    let is : IsBorrower c.args.plans.now c.args.chunks.now c.in-Some.borrower = next_borrower c.args.plans.now c.args.chunks.now c.args.borrowers.items c.loop-borrower.yielded c.in-Some.borrower c.next.new.self.rest.items all c.requires.borrowers in
    let less : c.in-Some.borrower.chunk < length c.args.chunks.now = borrower_inside c.args.plans.now c.args.chunks.now c.in-Some.borrower is in
    search rules

pub bounds-chunks-number : goal.bounds-chunks-number
bounds-chunks-number g c =
    let all : c.loop-borrower.yielded ++ c.in-Some.borrower ∷ c.next.new.self.rest.items ≡ c.args.borrowers.items = grind (arith, common_steps) in
    let is : IsBorrower c.args.plans.now c.args.chunks.now c.in-Some.borrower = next_borrower c.args.plans.now c.args.chunks.now c.args.borrowers.items c.loop-borrower.yielded c.in-Some.borrower c.next.new.self.rest.items all c.requires.borrowers in
    let less : c.in-Some.borrower.chunk < length c.args.chunks.now = borrower_inside c.args.plans.now c.args.chunks.now c.in-Some.borrower is in
    search rules

pub validate_one-one-requires-clause-chunk : goal.validate_one-one-requires-clause-chunk
validate_one-one-requires-clause-chunk g c =
    let all : c.loop-borrower.yielded ++ c.in-Some.borrower ∷ c.next.new.self.rest.items ≡ c.args.borrowers.items = grind (arith, common_steps) in
    let is : IsBorrower c.args.plans.now c.args.chunks.now c.in-Some.borrower = next_borrower c.args.plans.now c.args.chunks.now c.args.borrowers.items c.loop-borrower.yielded c.in-Some.borrower c.next.new.self.rest.items all c.requires.borrowers in
    let less : c.in-Some.borrower.chunk < length c.args.chunks.now = borrower_inside c.args.plans.now c.args.chunks.now c.in-Some.borrower is in
    let here : slice_get c.args.chunks.now c.in-Some.borrower.chunk ≡ Some c.index-chunks-number.result = got_at c.args.chunks.now c.in-Some.borrower.chunk c.index-chunks-number.result less c.index-chunks-number.is in
    each_got (IsChunkOf c.args.plans.now) c.args.chunks.now c.in-Some.borrower.chunk c.index-chunks-number.result here c.requires.chunks

pub validate_one-one-requires-clause-borrower : goal.validate_one-one-requires-clause-borrower
validate_one-one-requires-clause-borrower g c =
    let all : c.loop-borrower.yielded ++ c.in-Some.borrower ∷ c.next.new.self.rest.items ≡ c.args.borrowers.items = grind (arith, common_steps) in
    let is : IsBorrower c.args.plans.now c.args.chunks.now c.in-Some.borrower = next_borrower c.args.plans.now c.args.chunks.now c.args.borrowers.items c.loop-borrower.yielded c.in-Some.borrower c.next.new.self.rest.items all c.requires.borrowers in
    let less : c.in-Some.borrower.chunk < length c.args.chunks.now = borrower_inside c.args.plans.now c.args.chunks.now c.in-Some.borrower is in
    let here : slice_get c.args.chunks.now c.in-Some.borrower.chunk ≡ Some c.index-chunks-number.result = got_at c.args.chunks.now c.in-Some.borrower.chunk c.index-chunks-number.result less c.index-chunks-number.is in
    borrower_of_chunk c.args.plans.now c.args.chunks.now c.in-Some.borrower c.index-chunks-number.result is here

pub returns-in-Err : goal.returns-in-Err
returns-in-Err g c =
    let all : c.loop-borrower.yielded ++ c.in-Some.borrower ∷ c.next.new.self.rest.items ≡ c.args.borrowers.items = grind (arith, common_steps) in
    let is : IsBorrower c.args.plans.now c.args.chunks.now c.in-Some.borrower = next_borrower c.args.plans.now c.args.chunks.now c.args.borrowers.items c.loop-borrower.yielded c.in-Some.borrower c.next.new.self.rest.items all c.requires.borrowers in
    let less : c.in-Some.borrower.chunk < length c.args.chunks.now = borrower_inside c.args.plans.now c.args.chunks.now c.in-Some.borrower is in
    let here : slice_get c.args.chunks.now c.in-Some.borrower.chunk ≡ Some c.index-chunks-number.result = got_at c.args.chunks.now c.in-Some.borrower.chunk c.index-chunks-number.result less c.index-chunks-number.is in
    let next : IsNext c.args.plans.now c.args.chunks.now c.args.borrowers.items c.loop-borrower.yielded c.in-Some.borrower c.index-chunks-number.result = record { rest = c.next.new.self.rest.items; all = all; here = here; once = c.requires.once } in
    let below : IsBelow c.loop-borrower.validated.error c.in-Some.borrower.chunk = search rules in
    validates_failing c.args.plans.now c.args.chunks.now c.args.borrowers.items c.loop-borrower.yielded c.args.validated.now c.loop-borrower.validated _ c.in-Some.borrower c.index-chunks-number.result c.validate_one-one.result c.in-Err.error (g.S.SegmentSource.state c.args.source.now) (g.S.SegmentSource.state c.loop-borrower.source) (g.S.SegmentSource.state c.validate_one-one.new.source) next c.requires.ordered c.loop-borrower.invariant.0 below c.validate_one-one.ensures c.in-Err.ensures.1 refl c.in-Err.ensures.0

pub loop-borrower-preserved : goal.loop-borrower-preserved
loop-borrower-preserved g c =
    let all : c.loop-borrower.yielded ++ c.in-Some.borrower ∷ c.next.new.self.rest.items ≡ c.args.borrowers.items = grind (arith, common_steps) in
    let is : IsBorrower c.args.plans.now c.args.chunks.now c.in-Some.borrower = next_borrower c.args.plans.now c.args.chunks.now c.args.borrowers.items c.loop-borrower.yielded c.in-Some.borrower c.next.new.self.rest.items all c.requires.borrowers in
    let less : c.in-Some.borrower.chunk < length c.args.chunks.now = borrower_inside c.args.plans.now c.args.chunks.now c.in-Some.borrower is in
    let here : slice_get c.args.chunks.now c.in-Some.borrower.chunk ≡ Some c.index-chunks-number.result = got_at c.args.chunks.now c.in-Some.borrower.chunk c.index-chunks-number.result less c.index-chunks-number.is in
    let next : IsNext c.args.plans.now c.args.chunks.now c.args.borrowers.items c.loop-borrower.yielded c.in-Some.borrower c.index-chunks-number.result = record { rest = c.next.new.self.rest.items; all = all; here = here; once = c.requires.once } in
    let kept : (column : ColumnData) × (c.validate_one-one.result ≡ Ok column) × (c.keep_piece.new.pieces.items ≡ c.loop-borrower.validated.pieces.items ++ record { chunk = c.in-Some.borrower.chunk; column = column } ∷ []) = c.in_default.ensures in (
      validating_more c.args.plans.now c.args.chunks.now c.args.borrowers.items c.loop-borrower.yielded c.args.validated.now c.loop-borrower.validated _ c.in-Some.borrower c.index-chunks-number.result c.validate_one-one.result kept.0 (g.S.SegmentSource.state c.args.source.now) (g.S.SegmentSource.state c.loop-borrower.source) (g.S.SegmentSource.state c.validate_one-one.new.source) next c.loop-borrower.invariant.0 c.validate_one-one.ensures kept.1 refl kept.2 (borrower_unhindered c.args.plans.now c.args.chunks.now c.in-Some.borrower c.index-chunks-number.result is here),
      grind (arith, common_steps),
    )

pub returns : goal.returns
returns g c =
    let all : c.loop-borrower.yielded ≡ c.args.borrowers.items = grind (arith, common_steps) in
    validates_done c.args.plans.now c.args.chunks.now c.args.borrowers.items c.loop-borrower.yielded c.args.validated.now c.loop-borrower.validated (g.S.SegmentSource.state c.args.source.now) (g.S.SegmentSource.state c.loop-borrower.source) all c.loop-borrower.invariant.0
