use Rattle.std.proofs.Common.{◌≡◌, ◌-◌, ◌^◌, ◌<◌, Option, Some, None, map, option_map, arith}
use Rattle.std.proofs.lemmas.Result.{on_ok_weaker}
use Rattle.serde_json.specs.Data.{array, Items}
use Rattle.serde_json.specs.Find.{as_array}
use Rattle.scan_json.specs.Reading.{read_items, read_value}
use Rattle.scan_json.proofs.Parts.{list_none, of_list}
use Rattle.scan_json.proofs.Turns.{read_then}
use Rattle.scan_words.specs.Words.{◌>>=◌}
use Rattle.scan_json.specs.Forms.{each_form}
use Rattle.scan_request.specs.JsonForms.{list_of}
use Rattle.scan_request.specs.NodeForms.{statistic_form}
use Rattle.scan_request.proofs.node_forms.statistics_of.Goals as goal

pub returns-then-branch-clause-ok : goal.returns-then-branch-clause-ok
returns-then-branch-clause-ok c =
    let inside = (c.in_ok-list_begins.ensures.inside (grind arith)).1 in
    rw (of_list (list_of statistic_form) c.args.depth (c.args.depth - 1) c.args.reader.now c.list_begins.new.reader inside) c.statistics_in.ensures.ok

pub returns-then-branch-clause-shorter : goal.returns-then-branch-clause-shorter
returns-then-branch-clause-shorter c = on_ok_weaker c.statistics_in.result (λ less. omega (arith, less, c.in_ok-list_begins.ensures.shorter)) c.statistics_in.ensures.shorter

pub returns-then-branch-clause-refused : goal.returns-then-branch-clause-refused
returns-then-branch-clause-refused c invalid =
    list_none c.args.depth (c.args.depth - 1) c.args.reader.now c.list_begins.new.reader (c.in_ok-list_begins.ensures.inside (grind arith)).1 (c.statistics_in.ensures.refused invalid)

pub returns-else-branch-clause-ok : goal.returns-else-branch-clause-ok
returns-else-branch-clause-ok c =
    read_then (λ (o : Option Items). o >>= each_form statistic_form) as_array (read_value c.args.depth c.args.reader.now) None c.list_begins.new.reader (c.in_ok-list_begins.ensures.past (grind arith))
