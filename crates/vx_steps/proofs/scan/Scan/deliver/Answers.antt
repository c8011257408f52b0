use Rattle.std.proofs.Common.{◌≡◌, true, false, refl, sym, subst}
use Rattle.vx_steps.specs.ReadTableData.{ReadsData}
use Rattle.vx_steps.specs.Running.{IsEmptied, IsRunning, IsSound}
use Rattle.vx_steps.specs.ScanData.{ScanData, TakesBytes}
use Rattle.vx_steps.specs.Standings.{standing_of}
use Rattle.vx_steps.proofs.Delivering.{asked_outstanding, delivered_to, delivers_gone, emptied_delivered, one_more_of, running_delivered, sound_delivered, takes_bytes}
use Rattle.vx_steps.proofs.Settling.{not_both}
use Rattle.vx_steps.proofs.scan.Scan.deliver.Goals as goal

pub invariant_of-self : goal.invariant_of-self
invariant_of-self c =
    let inside = c.self.inside in
    let P : ReadsData → Type 0 = λ reads. IsSound inside.table.now inside.job (delivered_to inside.progress reads inside.progress.needed.held) × ((inside.refused ≡ false → IsRunning inside.table.now inside.job (delivered_to inside.progress reads inside.progress.needed.held)) × (inside.refused ≡ true → IsEmptied (delivered_to inside.progress reads inside.progress.needed.held))) in
    subst P (sym c.in-None.ensures.delivers.1) c.self.invariant

pub insert-requires : goal.insert-requires
insert-requires c =
    let inside = c.self.inside in
    let running = c.self.invariant.1.0 c.if-self.false in
    running.going.keeps.room c.in-Some.segment (asked_outstanding c.args.read c.args.bytes.items inside.progress.reads c.deliver.new.self c.in-Some.ensures.delivers.0 c.in-Some.segment c.in-Some.ensures.delivers.1)

pub invariant_of-self-then-self : goal.invariant_of-self-then-self
invariant_of-self-then-self c =
    let inside = c.self.inside in
    let of = c.in-Some.ensures.delivers in (
      sound_delivered inside.table.now inside.job inside.progress c.let_go.new.self inside.progress.needed.held c.self.invariant.0,
      (
        λ not. not_both inside.refused c.if-self.true not,
        λ refused. emptied_delivered inside.progress c.args.read c.args.bytes.items c.deliver.new.self c.let_go.new.self c.in-Some.segment of.0 of.1 c.in-Some.ensures.stored c.let_go.ensures (c.self.invariant.1.1 refused),
      ),
    )

pub invariant_of-self-else-self : goal.invariant_of-self-else-self
invariant_of-self-else-self c =
    let inside = c.self.inside in
    let of = c.in-Some.ensures.delivers in (
      sound_delivered inside.table.now inside.job inside.progress c.deliver.new.self c.insert.new.self c.self.invariant.0,
      (
        λ not. running_delivered inside.table.now inside.job inside.progress c.args.read c.args.bytes.items c.deliver.new.self c.insert.new.self c.in-Some.segment of.0 of.1 of.2 c.in-Some.ensures.stored c.in-Some.ensures.passed c.insert.ensures.held c.insert.ensures.kept (c.self.invariant.1.0 not),
        λ refused. not_both inside.refused refused c.if-self.false,
      ),
    )

pub returns-then-self : goal.returns-then-self
returns-then-self c =
    let inside = c.self.inside in
    let before : ScanData = record { nodes = inside.table.now; job = inside.job; progress = standing_of inside.progress; refused = inside.refused } in
    let after : ScanData = record { nodes = inside.table.now; job = inside.job; progress = standing_of (delivered_to inside.progress c.let_go.new.self inside.progress.needed.held); refused = inside.refused } in
    let P : ScanData → Type 0 = λ scan. TakesBytes c.args.read c.args.bytes.items scan after in
    let gone = delivers_gone c.args.read c.args.bytes.items inside.progress.reads c.deliver.new.self c.let_go.new.self c.in-Some.segment c.in-Some.ensures.delivers.0 c.let_go.ensures in
    subst P c.self.view_is (takes_bytes c.args.read c.args.bytes.items before c.let_go.new.self inside.progress.needed.held.held gone (λ not. not_both inside.refused c.if-self.true not) (λ _. refl))

pub returns-else-self : goal.returns-else-self
returns-else-self c =
    let inside = c.self.inside in
    let of = c.in-Some.ensures.delivers in
    let before : ScanData = record { nodes = inside.table.now; job = inside.job; progress = standing_of inside.progress; refused = inside.refused } in
    let after : ScanData = record { nodes = inside.table.now; job = inside.job; progress = standing_of (delivered_to inside.progress c.deliver.new.self c.insert.new.self); refused = inside.refused } in
    let P : ScanData → Type 0 = λ scan. TakesBytes c.args.read c.args.bytes.items scan after in
    subst P c.self.view_is (takes_bytes c.args.read c.args.bytes.items before c.deliver.new.self c.insert.new.self.held of.0 (λ _. one_more_of c.args.read c.args.bytes.items inside.progress.reads c.deliver.new.self of.0 c.in-Some.segment inside.progress.needed.held c.insert.new.self of.1 c.insert.ensures.held) (λ refused. not_both inside.refused refused c.if-self.false))
