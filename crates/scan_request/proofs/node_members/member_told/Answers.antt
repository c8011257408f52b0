use Rattle.std.proofs.Common.{◌≡◌, ◌^◌, Some, option_map}
use Rattle.serde_json.specs.Find.{as_str}
use Rattle.scan_json.specs.Reading.{read_value}
use Rattle.scan_json.proofs.Turns.{read_some}
use Rattle.scan_request.specs.DtypeForms.{dtype_form}
use Rattle.scan_request.specs.JsonForms.{list_of, whole_form}
use Rattle.scan_request.specs.NodeForms.{coding_form, statistic_form}
use Rattle.scan_request.specs.NodeMembers.{told_by}
use Rattle.scan_request.proofs.NodeTold.{children_told, coding_told, dtype_told, kind_told, other_told, rows_told, segment_told, stats_told, zone_len_told}
use Rattle.scan_request.proofs.node_members.member_told.Goals as goal

pub returns-in_ok-text-in-kind-clause-ok : goal.returns-in_ok-text-in-kind-clause-ok
returns-in_ok-text-in-kind-clause-ok c =
    let d = read_some as_str (read_value c.args.depth c.args.reader.now) _ _ c.in_ok-text-in-kind.ensures.ok in
    (d.0, d.1, kind_told c.args.name.now d.0 (told_by c.args.told.now) _ c.in-kind.is d.2)

pub returns-in_ok-dtype_of-in-dtype-clause-ok : goal.returns-in_ok-dtype_of-in-dtype-clause-ok
returns-in_ok-dtype_of-in-dtype-clause-ok c =
    let d = read_some dtype_form (read_value c.args.depth c.args.reader.now) _ _ c.in_ok-dtype_of-in-dtype.ensures.ok in
    (d.0, d.1, dtype_told c.args.name.now d.0 (told_by c.args.told.now) _ c.in-dtype.is d.2)

pub returns-in_ok-whole_64-in-rows-clause-ok : goal.returns-in_ok-whole_64-in-rows-clause-ok
returns-in_ok-whole_64-in-rows-clause-ok c =
    let d = read_some (whole_form (2 ^ 64)) (read_value c.args.depth c.args.reader.now) _ _ c.in_ok-whole_64-in-rows.ensures.ok in
    (d.0, d.1, rows_told c.args.name.now d.0 (told_by c.args.told.now) _ c.in-rows.is d.2)

pub returns-in_ok-numbers_of-in-children-clause-ok : goal.returns-in_ok-numbers_of-in-children-clause-ok
returns-in_ok-numbers_of-in-children-clause-ok c =
    let d = read_some (list_of (whole_form (2 ^ 32))) (read_value c.args.depth c.args.reader.now) _ _ c.in_ok-numbers_of-in-children.ensures.ok in
    (d.0, d.1, children_told c.args.name.now d.0 (told_by c.args.told.now) _ c.in-children.is d.2)

pub returns-in_ok-whole_32-in-segment-clause-ok : goal.returns-in_ok-whole_32-in-segment-clause-ok
returns-in_ok-whole_32-in-segment-clause-ok c =
    let d = read_some (whole_form (2 ^ 32)) (read_value c.args.depth c.args.reader.now) _ _ c.in_ok-whole_32-in-segment.ensures.ok in
    (d.0, d.1, segment_told c.args.name.now d.0 (told_by c.args.told.now) _ c.in-segment.is d.2)

pub returns-in_ok-coding_of-in-coding-clause-ok : goal.returns-in_ok-coding_of-in-coding-clause-ok
returns-in_ok-coding_of-in-coding-clause-ok c =
    let d = read_some coding_form (read_value c.args.depth c.args.reader.now) _ _ c.in_ok-coding_of-in-coding.ensures.ok in
    (d.0, d.1, coding_told c.args.name.now d.0 (told_by c.args.told.now) _ c.in-coding.is d.2)

pub returns-in_ok-whole_64-in-zone_len-clause-ok : goal.returns-in_ok-whole_64-in-zone_len-clause-ok
returns-in_ok-whole_64-in-zone_len-clause-ok c =
    let d = read_some (whole_form (2 ^ 64)) (read_value c.args.depth c.args.reader.now) _ _ c.in_ok-whole_64-in-zone_len.ensures.ok in
    (d.0, d.1, zone_len_told c.args.name.now d.0 (told_by c.args.told.now) _ c.in-zone_len.is d.2)

pub returns-in_ok-statistics_of-in-stats-clause-ok : goal.returns-in_ok-statistics_of-in-stats-clause-ok
returns-in_ok-statistics_of-in-stats-clause-ok c =
    let d = read_some (list_of statistic_form) (read_value c.args.depth c.args.reader.now) _ _ c.in_ok-statistics_of-in-stats.ensures.ok in
    (d.0, d.1, stats_told c.args.name.now d.0 (told_by c.args.told.now) _ c.in-stats.is d.2)

pub returns-in_ok-pass-in_default-clause-ok : goal.returns-in_ok-pass-in_default-clause-ok
returns-in_ok-pass-in_default-clause-ok c =
    let d = c.in_ok-pass-in_default.ensures.ok in
    (d.0, d.1, other_told c.args.name.now d.0 (told_by c.args.told.now) c.in_default.not-kind c.in_default.not-dtype c.in_default.not-rows c.in_default.not-children c.in_default.not-segment c.in_default.not-coding c.in_default.not-zone_len c.in_default.not-stats)
