use Rattle.std.proofs.Common.{◌≡◌, ◌<◌, Global, Vec, List, None, length, map, refl, sym, subst, rules}
use Rattle.std.specs.Prelude.{IfErr, IfOk, OnOk}
use Rattle.std.specs.Vec.{with_item}
use Rattle.vx_base.specs.Columns.{ColumnData}
use Rattle.vx_steps.specs.declared.jobs.ActiveSplit.{ActiveSplit}
use Rattle.vx_steps.specs.declared.jobs.Progress.{Progress}
use Rattle.vx_steps.specs.declared.placed_reads.PlacedRead.{PlacedRead}
use Rattle.vx_steps.specs.Jobs.{OnlyKeeps}
use Rattle.vx_steps.specs.Pieces.{read_of, IsGivenTo}
use Rattle.vx_steps.specs.Running.{AreDecoded, IsActiveOutput, IsHeldAt, IsPassing, IsRunning}
use Rattle.vx_steps.specs.Standings.{standing_of}
use Rattle.vx_steps.specs.Steps.{IsStepRefusal}
use Rattle.vx_steps.specs.Tries.{CanTry, DecodesNeeds, Finishes, Refuses, WaitsForNeed}
use Rattle.vx_steps.proofs.FirstRows.{some_forwards}
use Rattle.vx_steps.proofs.TriedRows.{held_tried, leaves_tried, numbers_same, only_keeps_tried, output_tried, passing_tried, refusal_tried, running_tried, told_tried, wholes_tried}
use Rattle.vx_steps.proofs.TriedSplits.{can_try, gave, parts_of, sound_tried, split_inside, tried, TriesSplit}
use Rattle.vx_steps.proofs.Trying.{on_error, on_rows, on_waiting}
use Rattle.vx_steps.proofs.progress.finish_at.Goals as goal

pub index-split-requires : goal.index-split-requires
index-split-requires c =
    let inside : c.index_mut-active.result.now.split < length c.args.job.now.splits.items = split_inside c.args.table.now c.args.job.now c.args.progress.now c.args.place c.index_mut-active.result.now c.requires.running c.requires.place c.index_mut-active.ensures.value in
    search rules

pub finish_split-requires-clause-ready : goal.finish_split-requires-clause-ready
finish_split-requires-clause-ready c =
    let nodes = c.args.table.now in
    let job = c.args.job.now in
    let old = c.args.progress.now in
    let active = c.index_mut-active.result.now in
    let split = c.index-split.result.now in
    let parts = parts_of nodes job old c.args.place active split c.requires.sound c.requires.running c.requires.place c.index_mut-active.ensures.value c.index-split.ensures in
    let N : List PlacedRead → Type 0 = λ needs. CanTry nodes job split needs active.at old.reads old.store.columns old.wholes in
    subst N (sym c.deref.ensures.value) (can_try nodes job old c.args.place active split c.requires.sound c.requires.running parts)

pub finish_split-requires-clause-decoded : goal.finish_split-requires-clause-decoded
finish_split-requires-clause-decoded c =
    let active = c.index_mut-active.result.now in
    let parts = parts_of c.args.table.now c.args.job.now c.args.progress.now c.args.place active c.index-split.result.now c.requires.sound c.requires.running c.requires.place c.index_mut-active.ensures.value c.index-split.ensures in
    let N : List PlacedRead → Type 0 = λ needs. AreDecoded c.args.progress.now.store.columns.all needs active.at.next in
    subst N (sym c.deref.ensures.value) parts.decoded

pub returns : goal.returns
returns c =
    let nodes = c.args.table.now in
    let job = c.args.job.now in
    let old = c.args.progress.now in
    let place = c.args.place in
    let active = c.index_mut-active.result.now in
    let split = c.index-split.result.now in
    let last = c.is_last-last.result in
    let parts = parts_of nodes job old place active split c.requires.sound c.requires.running c.requires.place c.index_mut-active.ensures.value c.index-split.ensures in
    let at = c.finish_split.new.at in
    let reads = c.finish_split.new.reads in
    let store = c.finish_split.new.store in
    let wholes = c.finish_split.new.wholes in
    let actives : Vec ActiveSplit Global = with_item old.active place (gave active at) in
    let new : Progress = tried old actives reads store wholes in
    let result = c.finish_split.result in
    let is = c.deref.ensures.value in
    let D : List PlacedRead → Type 0 = λ needs. DecodesNeeds nodes last (map read_of needs) old.reads reads old.store.columns.all store.columns.all in
    let tries : TriesSplit nodes job old active split last reads store wholes = record { counted = c.finish_split.ensures.counted; here = c.finish_split.ensures.here; decoded = subst D is c.finish_split.ensures.decoded; readies = c.finish_split.ensures.wholes } in
    let G : List PlacedRead → Type 0 = λ needs. IsGivenTo nodes job.given store.columns.here wholes job.plan split needs at in
    let OG : List PlacedRead → Type 0 = λ needs. OnOk result (IsGivenTo nodes job.given store.columns.here wholes job.plan split needs at) in
    let given : OnOk result (G active.needs.items) = subst OG is c.finish_split.ensures.given in
    let N : List PlacedRead → Type 0 = λ needs. AreDecoded store.columns.all needs at.next in
    let ON : List PlacedRead → Type 0 = λ needs. OnOk result (AreDecoded store.columns.all needs at.next) in
    let decoded : OnOk result (N active.needs.items) = subst ON is c.finish_split.ensures.next in
    let W : List PlacedRead → Type 0 = λ needs. IfOk result (λ output. output ≡ None → (at.done ≡ active.at.done) × WaitsForNeed old.reads.wanted old.store.columns.all needs at) in
    let waiting = subst W is c.finish_split.ensures.waiting in
    let waits : Type 0 = (at.done ≡ active.at.done) × WaitsForNeed old.reads.wanted old.store.columns.all active.needs.items at in
    let rows : ColumnData → Type 0 = Finishes nodes job split active.at.done at.done old.reads.wanted old.store.columns.all old.wholes.made wholes store.columns.all in
    let R : List PlacedRead → Type 0 = λ needs. IfErr result (Refuses nodes job split (map read_of needs) old.reads.wanted old.store.columns.all old.wholes.made wholes store.columns.all) in
    let refused = subst R is c.finish_split.ensures.refused in
    record {
      sound = sound_tried nodes job old active split last actives reads store wholes tries c.requires.sound;
      running = on_waiting result (G active.needs.items) (N active.needs.items) waits (IsRunning nodes job new) given decoded waiting (λ g d w. running_tried nodes job old place active split last actives reads store wholes at refl parts c.requires.running c.is_last-last.ensures tries g d w.0);
      passing = on_rows result (G active.needs.items) (N active.needs.items) rows (λ (column : ColumnData). IsPassing nodes job place new) given decoded c.finish_split.ensures.output (λ column g d gives. passing_tried nodes job old place active split last actives reads store wholes at refl parts c.requires.running c.is_last-last.ensures tries g d (some_forwards split.mask active.at.done at.done gives.some));
      keeps = on_waiting result (G active.needs.items) (N active.needs.items) waits (OnlyKeeps nodes job (standing_of old) (standing_of new)) given decoded waiting (λ g d w. only_keeps_tried nodes job old place active split last actives reads store wholes at refl parts tries w.0);
      told = told_tried nodes job old active split last actives reads store wholes tries;
      next = refl;
      numbers = numbers_same old place active actives at refl parts.active_at;
      wanted = tries.decoded.wanted;
      handed = tries.decoded.handed;
      leaves = tries.decoded.keeps.grows;
      leaves_only = leaves_tried nodes job old place active split last reads store wholes parts tries;
      wholes = wholes_tried nodes job old place active split last reads store wholes parts tries;
      output = on_rows result (G active.needs.items) (N active.needs.items) rows (IsActiveOutput nodes job old new place) given decoded c.finish_split.ensures.output (λ column g d gives. output_tried nodes job old place active split actives reads store wholes at refl parts g column gives);
      held = on_waiting result (G active.needs.items) (N active.needs.items) waits (IsHeldAt nodes job old place) given decoded waiting (λ g d w. held_tried nodes job old place active split store.columns.here wholes at parts g w.0 w.1);
      cause = on_error result (Refuses nodes job split (map read_of active.needs.items) old.reads.wanted old.store.columns.all old.wholes.made wholes store.columns.all) (IsStepRefusal nodes job (standing_of old) (standing_of new)) refused (λ error refuses. refusal_tried nodes job old place active split last actives reads store wholes at refl parts tries error refuses);
    }
