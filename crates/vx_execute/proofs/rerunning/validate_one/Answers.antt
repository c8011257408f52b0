use Rattle.std.proofs.Common.{[], None, Ok, Err, Some, List, ℕ, subst}
use Rattle.std.specs.Prelude.{Option}
use Rattle.vx_rows.specs.Reads.{IsAmong}
use Rattle.vx_steps.specs.KeptData.{Kept}
use Rattle.vx_chunks.specs.Outcomes.{data_of, ChunkAsks}
use Rattle.vx_chunks.proofs.ChunkScanning.{IsGoodChunk, good_chunk}
use Rattle.vx_workers.specs.Certified.{nodes_in, AreRight, IsTested}
use Rattle.vx_workers.proofs.Certifying.{certifies_weaker}
use Rattle.vx_workers.proofs.CertifyingEach.{tests_same}
use Rattle.vx_execute.proofs.ValidatingOne.{asked_among, validates_failed, validates_standing, validates_then}
use Rattle.vx_execute.proofs.rerunning.validate_one.Goals as goal

pub run_again-piece-requires-clause-typed : goal.run_again-piece-requires-clause-typed
run_again-piece-requires-clause-typed g c =
    let tests = tests_same c.args.plans.now c.as_slice-borrowed.result.now c.args.borrower.borrowed.items (data_of c.args.checked.now.right.items) (data_of c.first_wrong.new.right.items) (Ok c.in-Ok.wrong) (g.S.SegmentSource.state c.args.source.now) (g.S.SegmentSource.state c.first_wrong.new.source) c.as_slice-borrowed.ensures.value c.in-Ok.ensures in
    tests.certifies.typed c.requires.typed

pub run_again-piece-requires-clause-wrong : goal.run_again-piece-requires-clause-wrong
run_again-piece-requires-clause-wrong g c =
    let tests = tests_same c.args.plans.now c.as_slice-borrowed.result.now c.args.borrower.borrowed.items (data_of c.args.checked.now.right.items) (data_of c.first_wrong.new.right.items) (Ok c.in-Ok.wrong) (g.S.SegmentSource.state c.args.source.now) (g.S.SegmentSource.state c.first_wrong.new.source) c.as_slice-borrowed.ensures.value c.in-Ok.ensures in
    subst (λ (wrong : Option ℕ). IsTested (data_of c.args.borrower.borrowed.items) (data_of c.first_wrong.new.right.items) wrong) c.in-Some.is tests.tested

pub returns-in-None : goal.returns-in-None
returns-in-None g c =
    let tests = tests_same c.args.plans.now c.as_slice-borrowed.result.now c.args.borrower.borrowed.items (data_of c.args.checked.now.right.items) (data_of c.first_wrong.new.right.items) (Ok c.in-Ok.wrong) (g.S.SegmentSource.state c.args.source.now) (g.S.SegmentSource.state c.first_wrong.new.source) c.as_slice-borrowed.ensures.value c.in-Ok.ensures in
    let good : IsGoodChunk c.args.plans.now c.args.chosen.now = good_chunk c.args.plans.now c.args.chosen.now c.requires.good c.requires.plans.known c.requires.chunk in
    let borrowed : List Kept = data_of c.args.borrower.borrowed.items in
    let right : List Kept = data_of c.args.checked.now.right.items in
    let mid : List Kept = data_of c.first_wrong.new.right.items in
    let are : AreRight borrowed mid = subst (λ (wrong : Option ℕ). IsTested borrowed mid wrong) c.in-None.is tests.tested in
    validates_then c.args.plans.now c.args.chosen.now c.args.borrower right mid mid c.args.checked.now.reruns.items c.args.checked.now.reruns.items c.args.borrower.result (g.S.SegmentSource.state c.args.source.now) (g.S.SegmentSource.state c.first_wrong.new.source) (g.S.SegmentSource.state c.first_wrong.new.source) good
    (certifies_weaker c.args.plans.now (λ n. IsAmong n (nodes_in borrowed)) (ChunkAsks c.args.plans.now [] c.args.chosen.now) (asked_among c.args.plans.now c.args.chosen.now borrowed c.requires.borrower.borrowed_are.asked) right mid None (g.S.SegmentSource.state c.args.source.now) (g.S.SegmentSource.state c.first_wrong.new.source) tests.certifies)
    (validates_standing c.args.plans.now c.args.chosen.now c.args.borrower mid c.args.checked.now.reruns.items (g.S.SegmentSource.state c.first_wrong.new.source) good c.requires.borrower (tests.certifies.typed c.requires.typed) are)

pub returns-in-Some : goal.returns-in-Some
returns-in-Some g c =
    let tests = tests_same c.args.plans.now c.as_slice-borrowed.result.now c.args.borrower.borrowed.items (data_of c.args.checked.now.right.items) (data_of c.first_wrong.new.right.items) (Ok c.in-Ok.wrong) (g.S.SegmentSource.state c.args.source.now) (g.S.SegmentSource.state c.first_wrong.new.source) c.as_slice-borrowed.ensures.value c.in-Ok.ensures in
    let good : IsGoodChunk c.args.plans.now c.args.chosen.now = good_chunk c.args.plans.now c.args.chosen.now c.requires.good c.requires.plans.known c.requires.chunk in
    let borrowed : List Kept = data_of c.args.borrower.borrowed.items in
    let right : List Kept = data_of c.args.checked.now.right.items in
    let mid : List Kept = data_of c.first_wrong.new.right.items in
    validates_then c.args.plans.now c.args.chosen.now c.args.borrower right mid (data_of c.run_again-piece.new.checked.right.items) c.args.checked.now.reruns.items c.run_again-piece.new.checked.reruns.items c.run_again-piece.result (g.S.SegmentSource.state c.args.source.now) (g.S.SegmentSource.state c.first_wrong.new.source) (g.S.SegmentSource.state c.run_again-piece.new.source) good
    (certifies_weaker c.args.plans.now (λ n. IsAmong n (nodes_in borrowed)) (ChunkAsks c.args.plans.now [] c.args.chosen.now) (asked_among c.args.plans.now c.args.chosen.now borrowed c.requires.borrower.borrowed_are.asked) right mid None (g.S.SegmentSource.state c.args.source.now) (g.S.SegmentSource.state c.first_wrong.new.source) tests.certifies)
    c.run_again-piece.ensures

pub returns-in-Err : goal.returns-in-Err
returns-in-Err g c =
    let tests = tests_same c.args.plans.now c.as_slice-borrowed.result.now c.args.borrower.borrowed.items (data_of c.args.checked.now.right.items) (data_of c.first_wrong.new.right.items) (Err c.in-Err.error) (g.S.SegmentSource.state c.args.source.now) (g.S.SegmentSource.state c.first_wrong.new.source) c.as_slice-borrowed.ensures.value c.in-Err.ensures in
    let good : IsGoodChunk c.args.plans.now c.args.chosen.now = good_chunk c.args.plans.now c.args.chosen.now c.requires.good c.requires.plans.known c.requires.chunk in
    let borrowed : List Kept = data_of c.args.borrower.borrowed.items in
    let right : List Kept = data_of c.args.checked.now.right.items in
    let mid : List Kept = data_of c.first_wrong.new.right.items in
    validates_failed c.args.plans.now c.args.chosen.now c.args.borrower right mid c.args.checked.now.reruns.items c.in-Err.error (g.S.SegmentSource.state c.args.source.now) (g.S.SegmentSource.state c.first_wrong.new.source) good c.requires.typed
    (certifies_weaker c.args.plans.now (λ n. IsAmong n (nodes_in borrowed)) (ChunkAsks c.args.plans.now [] c.args.chosen.now) (asked_among c.args.plans.now c.args.chosen.now borrowed c.requires.borrower.borrowed_are.asked) right mid (Some c.in-Err.error) (g.S.SegmentSource.state c.args.source.now) (g.S.SegmentSource.state c.first_wrong.new.source) tests.certifies)
