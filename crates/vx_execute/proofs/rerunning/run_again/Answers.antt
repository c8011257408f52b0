use Rattle.std.proofs.Common.{◌≡◌, ◌++◌, ◌∷◌, [], List, Ok, Err, Some, subst, sym}
use Rattle.vx_steps.specs.declared.kept.KeptValue.{KeptValue}
use Rattle.vx_drive.specs.declared.errors.ScanError.TheVariants.{Memory}
use Rattle.vx_chunks.specs.Outcomes.{data_of}
use Rattle.vx_chunks.proofs.ChunkScanning.{IsGoodChunk, good_chunk}
use Rattle.vx_workers.specs.Certified.{GivesRight, IsTested}
use Rattle.vx_execute.specs.declared.outcomes.Rerun.{Rerun}
use Rattle.vx_execute.specs.Validated.{IsListed, ListsRerun, ValidatesOne}
use Rattle.vx_execute.proofs.ValidatingOne.{validates_again, validates_failed, validates_lacking, validates_then, wrong_stays}
use Rattle.vx_execute.proofs.rerunning.run_again.Goals as goal

pub list_rerun-requires : goal.list_rerun-requires
list_rerun-requires g c =
    let gives : GivesRight c.args.plans.now c.args.chosen.now (data_of c.args.checked.now.right.items) (data_of c.all_right.new.right.items) (Ok c.in-Ok.given) (g.S.SegmentSource.state c.args.source.now) (g.S.SegmentSource.state c.all_right.new.source) = c.in-Ok.ensures in
    record {
      wrong = subst (λ (values : List KeptValue). IsTested (data_of c.args.borrower.now.borrowed.items) (data_of values) (Some c.args.place)) (sym c.deref.ensures.value)
          (wrong_stays (data_of c.args.borrower.now.borrowed.items) (data_of c.args.checked.now.right.items) (data_of c.all_right.new.right.items) c.args.place gives.certifies.grows c.requires.wrong);
    }

pub returns-in-Ok-list_rerun : goal.returns-in-Ok-list_rerun
returns-in-Ok-list_rerun g c =
    let gives : GivesRight c.args.plans.now c.args.chosen.now (data_of c.args.checked.now.right.items) (data_of c.all_right.new.right.items) (Ok c.in-Ok.given) (g.S.SegmentSource.state c.args.source.now) (g.S.SegmentSource.state c.all_right.new.source) = c.in-Ok.ensures in
    let good : IsGoodChunk c.args.plans.now c.args.chosen.now = good_chunk c.args.plans.now c.args.chosen.now c.requires.good c.requires.plans.known c.requires.chunk in
    let lists : ListsRerun c.args.borrower.now c.args.place (data_of c.all_right.new.right.items) (Ok tt) c.args.checked.now.reruns.items c.list_rerun.new.reruns.items =
    subst (λ (values : List KeptValue). ListsRerun c.args.borrower.now c.args.place (data_of values) (Ok tt) c.args.checked.now.reruns.items c.list_rerun.new.reruns.items) c.deref.ensures.value (c.in-Ok-list_rerun.ensures {u = tt}) in
    let listed : (rerun : Rerun) × IsListed (data_of c.args.borrower.now.borrowed.items) (data_of c.all_right.new.right.items) c.args.place c.args.borrower.now.chunk rerun × (c.list_rerun.new.reruns.items ≡ c.args.checked.now.reruns.items ++ rerun ∷ []) = lists in
    validates_then c.args.plans.now c.args.chosen.now c.args.borrower.now (data_of c.args.checked.now.right.items) (data_of c.all_right.new.right.items) (data_of c.all_right.new.right.items) c.args.checked.now.reruns.items c.list_rerun.new.reruns.items c.run_chunk-piece.result.piece
    (g.S.SegmentSource.state c.args.source.now) (g.S.SegmentSource.state c.all_right.new.source) (g.S.SegmentSource.state c.run_chunk-piece.new.source) good gives.certifies
    (subst (λ (reruns : List Rerun). ValidatesOne c.args.plans.now c.args.chosen.now c.args.borrower.now (data_of c.all_right.new.right.items) (data_of c.all_right.new.right.items) c.args.checked.now.reruns.items reruns c.run_chunk-piece.result.piece (g.S.SegmentSource.state c.all_right.new.source) (g.S.SegmentSource.state c.run_chunk-piece.new.source)) (sym listed.2)
    (validates_again c.args.plans.now c.args.chosen.now c.args.borrower.now (data_of c.all_right.new.right.items) (data_of c.in-Ok.given.items) c.args.place listed.0 c.args.checked.now.reruns.items c.run_chunk-piece.result (g.S.SegmentSource.state c.all_right.new.source) (g.S.SegmentSource.state c.run_chunk-piece.new.source) good c.requires.borrower (gives.certifies.typed c.requires.typed) gives.given listed.1 c.run_chunk-piece.ensures))

pub returns-in-Err-list_rerun : goal.returns-in-Err-list_rerun
returns-in-Err-list_rerun g c =
    let gives : GivesRight c.args.plans.now c.args.chosen.now (data_of c.args.checked.now.right.items) (data_of c.all_right.new.right.items) (Ok c.in-Ok.given) (g.S.SegmentSource.state c.args.source.now) (g.S.SegmentSource.state c.all_right.new.source) = c.in-Ok.ensures in
    let good : IsGoodChunk c.args.plans.now c.args.chosen.now = good_chunk c.args.plans.now c.args.chosen.now c.requires.good c.requires.plans.known c.requires.chunk in
    validates_then c.args.plans.now c.args.chosen.now c.args.borrower.now (data_of c.args.checked.now.right.items) (data_of c.all_right.new.right.items) (data_of c.all_right.new.right.items) c.args.checked.now.reruns.items c.list_rerun.new.reruns.items (Err Memory)
    (g.S.SegmentSource.state c.args.source.now) (g.S.SegmentSource.state c.all_right.new.source) (g.S.SegmentSource.state c.all_right.new.source) good gives.certifies
    (rw c.in-Err-list_rerun.ensures (validates_lacking c.args.plans.now c.args.chosen.now c.args.borrower.now (data_of c.all_right.new.right.items) c.args.checked.now.reruns.items (g.S.SegmentSource.state c.all_right.new.source) (gives.certifies.typed c.requires.typed)))

pub returns-in-Err : goal.returns-in-Err
returns-in-Err g c =
    let gives : GivesRight c.args.plans.now c.args.chosen.now (data_of c.args.checked.now.right.items) (data_of c.all_right.new.right.items) (Err c.in-Err.error) (g.S.SegmentSource.state c.args.source.now) (g.S.SegmentSource.state c.all_right.new.source) = c.in-Err.ensures in
    let good : IsGoodChunk c.args.plans.now c.args.chosen.now = good_chunk c.args.plans.now c.args.chosen.now c.requires.good c.requires.plans.known c.requires.chunk in
    validates_failed c.args.plans.now c.args.chosen.now c.args.borrower.now (data_of c.args.checked.now.right.items) (data_of c.all_right.new.right.items) c.args.checked.now.reruns.items c.in-Err.error (g.S.SegmentSource.state c.args.source.now) (g.S.SegmentSource.state c.all_right.new.source) good c.requires.typed gives.certifies
