use Rattle.std.proofs.Common.{◌≡◌, ◌<◌, ◌≤◌, ℕ, ◌⊎◌, Some, Err, length, map, ap, sym, subst, arith}
use Rattle.vx_base.specs.Columns.{ColumnData}
use Rattle.vx_steps.specs.declared.errors.StepError.{StepError}
use Rattle.vx_steps.specs.declared.pieces.GivenRows.{GivenRows}
use Rattle.vx_steps.specs.Computed.{Computes}
use Rattle.vx_steps.specs.Held.{Held}
use Rattle.vx_steps.specs.Pieces.{read_of, ArePassed, FailsRows, GivesRows, IsGivenTo, WaitsFor}
use Rattle.vx_steps.specs.Running.{AreDecoded}
use Rattle.vx_steps.specs.Tries.{Finishes, Refuses, WaitsForNeed}
use Rattle.vx_steps.specs.Wholes.{AreThere, FailsInside}
use Rattle.vx_steps.proofs.NextNeeds.{decoded_on}
use Rattle.vx_steps.proofs.StoredLeaves.{typed_here, values_by_all}
use Rattle.vx_steps.proofs.Trying.{finishes, given_decoded, on_all, on_errors, on_none, on_some, refuses, waits_need}
use Rattle.vx_steps.proofs.Turning.{torn_refuses}
use Rattle.vx_steps.proofs.turns.finish_split.Goals as goal

pub next_rows-requires-clause-held : goal.next_rows-requires-clause-held
next_rows-requires-clause-held c = record { leaves = typed_here c.args.table.now c.decode_rows.new.leaves c.are_among_all.ensures (c.in-Ok.ensures.decoded.keeps.typed c.requires.ready.typed_leaves); given = c.requires.ready.typed_given; made = c.requires.ready.typed_made; offset = c.requires.ready.fits }

pub next_rows-requires-clause-given : goal.next_rows-requires-clause-given
next_rows-requires-clause-given c = given_decoded c.args.table.now c.args.job.now.given c.args.job.now.plan c.args.split.now c.args.needs.now c.args.wholes.now c.args.store.now.columns c.decode_rows.new.leaves c.args.at.now c.decode_rows.new.at c.requires.ready.given c.requires.ready.here c.in-Ok.ensures.here c.in-Ok.ensures.moves c.in-Ok.ensures.same

pub returns-clause-wholes : goal.returns-clause-wholes
returns-clause-wholes c = record {
  made = values_by_all c.args.table.now c.decode_rows.new.leaves c.args.job.now.offset c.args.wholes.now.made c.next_rows.new.wholes.made c.are_among_all.ensures c.next_rows.ensures.made;
  used = c.next_rows.ensures.used;
  asked = c.next_rows.ensures.asked;
}

pub returns-clause-given : goal.returns-clause-given
returns-clause-given c = on_all c.next_rows.result (IsGivenTo c.args.table.now c.args.job.now.given c.decode_rows.new.leaves.here c.next_rows.new.wholes c.args.job.now.plan c.args.split.now c.args.needs.now c.next_rows.new.at) c.next_rows.ensures.given

pub returns-clause-next : goal.returns-clause-next
returns-clause-next c =
    let D : ℕ → Type 0 = λ next. AreDecoded c.decode_rows.new.leaves.all c.args.needs.now next in
    on_all c.next_rows.result (D c.next_rows.new.at.next) (subst D (sym c.next_rows.ensures.next) (decoded_on c.args.needs.now c.args.store.now.columns.all c.decode_rows.new.leaves.all c.args.at.now.next c.decode_rows.new.at.next c.in-Ok.ensures.decoded.keeps.grows c.requires.decoded c.in-Ok.ensures.moves))

pub returns-clause-output : goal.returns-clause-output
returns-clause-output c =
    let nodes = c.args.table.now in
    let job = c.args.job.now in
    let split = c.args.split.now in
    let needs = c.args.needs.now in
    let leaves = c.decode_rows.new.leaves in
    let mid = c.decode_rows.new.at in
    let new = c.next_rows.new.at in
    let held : Held = record { nodes = nodes; leaves = leaves.here; given = Some job.given; made = c.args.wholes.now.made; offset = job.offset } in
    let given = given_decoded nodes job.given job.plan split needs c.args.wholes.now c.args.store.now.columns leaves c.args.at.now mid c.requires.ready.given c.requires.ready.here c.in-Ok.ensures.here c.in-Ok.ensures.moves c.in-Ok.ensures.same in
    let N : ℕ → Type 0 = λ next. ArePassed needs new.done next in
    let passed = subst N c.next_rows.ensures.next c.next_rows.ensures.given.passed in
    let behind : new.done ≤ new.row = c.next_rows.ensures.given.row.behind in
    let inside : new.row ≤ length split.mask = c.next_rows.ensures.given.row.within in
    let within : new.done ≤ length split.mask = omega arith in
    let from : mid.done ≡ c.args.at.now.done = ap (λ (at : GivenRows). at.done) c.in-Ok.ensures.same in
    let there : Type 0 = AreThere nodes job.given c.next_rows.new.wholes job.plan split.rows.start split.mask in
    on_some c.next_rows.result there (GivesRows held job.plan split mid.done new.done) (Finishes nodes job split c.args.at.now.done new.done c.args.reads.now.wanted c.args.store.now.columns.all c.args.wholes.now.made c.next_rows.new.wholes leaves.all) c.next_rows.ensures.there c.next_rows.ensures.gives
    (λ (column : ColumnData) (t : there) (gives : GivesRows held job.plan split mid.done new.done column).
    let F : ℕ → Type 0 = λ start. Finishes nodes job split start new.done c.args.reads.now.wanted c.args.store.now.columns.all c.args.wholes.now.made c.next_rows.new.wholes leaves.all column in
    subst F from (finishes nodes job split needs c.args.reads.now.wanted c.args.store.now.columns.all leaves c.args.wholes.now.made c.next_rows.new.wholes mid.done new.done mid.next c.are_among_all.ensures c.in-Ok.ensures.decoded.keeps c.requires.ready.placed given.kept passed within column t gives))

pub returns-clause-waiting : goal.returns-clause-waiting
returns-clause-waiting c =
    let needs = c.args.needs.now in
    let mid = c.decode_rows.new.at in
    let new = c.next_rows.new.at in
    let rows = length c.args.split.now.mask in
    on_none c.next_rows.result ((new ≡ mid) × (mid.row < rows → WaitsFor needs mid.next mid.row)) ((new.done ≡ c.args.at.now.done) × WaitsForNeed c.args.reads.now.wanted c.args.store.now.columns.all needs new) c.next_rows.ensures.waits
    (waits_need c.args.reads.now.wanted c.args.store.now.columns.all needs c.args.at.now mid new rows c.in-Ok.ensures.same c.requires.ready.left c.in-Ok.ensures.missing)

pub returns-clause-refused : goal.returns-clause-refused
returns-clause-refused c =
    let nodes = c.args.table.now in
    let job = c.args.job.now in
    let split = c.args.split.now in
    let needs = c.args.needs.now in
    let leaves = c.decode_rows.new.leaves in
    let mid = c.decode_rows.new.at in
    let start = split.rows.start in
    let held : Held = record { nodes = nodes; leaves = leaves.here; given = Some job.given; made = c.args.wholes.now.made; offset = job.offset } in
    let given = given_decoded nodes job.given job.plan split needs c.args.wholes.now c.args.store.now.columns leaves c.args.at.now mid c.requires.ready.given c.requires.ready.here c.in-Ok.ensures.here c.in-Ok.ensures.moves c.in-Ok.ensures.same in
    let decoded = decoded_on needs c.args.store.now.columns.all leaves.all c.args.at.now.next mid.next c.in-Ok.ensures.decoded.keeps.grows c.requires.decoded c.in-Ok.ensures.moves in
    on_errors c.next_rows.result (λ (error : StepError). Computes held job.plan start split.mask (Err error)) (λ (error : StepError). AreThere nodes job.given c.next_rows.new.wholes job.plan start split.mask ⊎ FailsInside held job.plan start split.mask error) (λ (error : StepError). FailsRows held job.plan split needs mid.done error ⊎ FailsInside held job.plan start split.mask error)
    (Refuses nodes job split (map read_of needs) c.args.reads.now.wanted c.args.store.now.columns.all c.args.wholes.now.made c.next_rows.new.wholes leaves.all) c.next_rows.ensures.cause c.next_rows.ensures.left c.next_rows.ensures.fails
    (refuses nodes job split needs c.args.reads.now.wanted c.args.store.now.columns.all leaves c.args.wholes.now.made c.next_rows.new.wholes mid.done mid.next c.are_among_all.ensures c.in-Ok.ensures.decoded.keeps c.requires.ready.placed decoded given.passed)

pub returns-in-Err-clause-refused : goal.returns-in-Err-clause-refused
returns-in-Err-clause-refused c = torn_refuses c.args.table.now c.args.job.now c.args.split.now c.args.needs.now c.decode_rows.new.at.next c.args.reads.now.wanted c.args.store.now.columns.all c.args.wholes.now.made c.args.wholes.now c.decode_rows.new.leaves.all c.in-Err.error c.in-Err.ensures.torn
