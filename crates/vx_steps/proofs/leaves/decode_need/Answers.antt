use Rattle.std.proofs.Common.{◌≡◌, ⊎_elim, None, ap, ◌∙◌}
use Rattle.vx_base.specs.Views.{data_type}
use Rattle.vx_base.proofs.CodedValues.{spelled_count}
use Rattle.vx_steps.specs.LeavesData.{LeavesData}
use Rattle.vx_steps.proofs.Shaping.{leaf_plan}
use Rattle.vx_steps.proofs.Decoding.{keeps_none, decoded_keeps, kept_here}
use Rattle.vx_steps.specs.ReadTable.{IsGone, bytes_of}
use Rattle.vx_steps.proofs.Releasing.{not_kept}
use Rattle.vx_steps.proofs.WholeMaking.{none_more, one_only}
use Rattle.vx_steps.proofs.Remaining.{here_added, here_none}
use Rattle.vx_steps.proofs.leaves.decode_need.Goals as goal

pub returns-in_err-keep_shared-clause-keeps : goal.returns-in_err-keep_shared-clause-keeps
returns-in_err-keep_shared-clause-keeps c = rw c.in_err-keep_shared.ensures.as_before (keeps_none c.args.table.now c.args.reads.now.wanted c.args.leaves.now.all)

pub returns-clause-keeps : goal.returns-clause-keeps
returns-clause-keeps c =
    let nodes = c.args.table.now in
    let need = c.args.need in
    let column = c.in-Ok.column in
    let none = c.if-is_kept.ensures in
    let read = rw (c.dtype.ensures, c.coding-coding.ensures, c.row_count.ensures) at c.in-Ok.ensures.read in
    let count = spelled_count c.coding-coding.result (data_type c.dtype.result.now) c.row_count.result c.in-Some.bytes.now column.values c.in-Ok.ensures.spelled in
    rw c.in_ok-keep_shared.ensures.kept.all (decoded_keeps nodes c.args.reads.now.wanted c.args.leaves.now.all need c.in-Some.bytes.now column c.requires.known c.requires.leaf none c.in-Some.ensures (c.in-Ok.ensures.dtype ∙ c.dtype.ensures) (count ∙ c.row_count.ensures) read)

pub returns-clause-there : goal.returns-clause-there
returns-clause-there c =
    let none = c.if-is_kept.ensures in
    rw c.in_ok-keep_shared.ensures.kept.all (kept_here c.args.leaves.now.all c.args.need.leaf c.in-Ok.column none)

pub decode_as-requires : goal.decode_as-requires
decode_as-requires c = record { leaf = rw c.dtype.ensures (leaf_plan c.args.table.now c.args.need.leaf c.args.need.segment c.requires.known c.requires.leaf).leaf }

pub returns-in_err-keep_shared-clause-only : goal.returns-in_err-keep_shared-clause-only
returns-in_err-keep_shared-clause-only c = none_more (λ n. c.args.need.leaf ≡ n) c.args.leaves.now.all c.keep_shared.new.self.all (ap (λ (leaves : LeavesData). leaves.all) c.in_err-keep_shared.ensures.as_before)

pub returns-clause-only : goal.returns-clause-only
returns-clause-only c = one_only c.args.leaves.now.all c.keep_shared.new.self.all c.args.need.leaf c.in-Ok.column c.in_ok-keep_shared.ensures.kept.all

pub returns-in-None-clause-there : goal.returns-in-None-clause-there
returns-in-None-clause-there c =
    let none = c.if-is_kept.ensures in
    (none, ⊎_elim (λ (e : bytes_of c.args.reads.now.wanted c.args.need.segment ≡ None). e) (λ (gone : IsGone c.args.reads.now.stored c.args.need.segment). absurd (not_kept c.args.leaves.now.all c.args.need.leaf none (c.requires.held gone))) c.in-None.ensures)

pub returns-in_err-keep_shared-clause-here : goal.returns-in_err-keep_shared-clause-here
returns-in_err-keep_shared-clause-here c = rw c.in_err-keep_shared.ensures.as_before (here_none c.args.leaves.now)

pub returns-clause-here : goal.returns-clause-here
returns-clause-here c = here_added c.args.need.leaf c.in-Ok.column c.args.leaves.now c.keep_shared.new.self c.in_ok-keep_shared.ensures.kept
