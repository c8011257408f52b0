use Rattle.std.proofs.Common.{◌≡◌, ◌-◌, ◌^◌, Option, Some, None, option_map, sym, ap, ◌∙◌, arith}
use Rattle.serde_json.specs.Data.{Items}
use Rattle.serde_json.specs.Find.{as_array}
use Rattle.scan_json.specs.Forms.{each_form}
use Rattle.scan_json.specs.Reading.{read_items, read_value}
use Rattle.scan_json.proofs.Parts.{list_none, of_list}
use Rattle.scan_json.proofs.Turns.{read_then}
use Rattle.scan_words.specs.Words.{◌>>=◌}
use Rattle.scan_request.specs.JsonForms.{whole_form}
use Rattle.scan_request.specs.RowForms.{in_order, indices_form}
use Rattle.scan_request.proofs.row_forms.indices_of.Goals as goal

pub returns-in-Ok-clause-ok : goal.returns-in-Ok-clause-ok
returns-in-Ok-clause-ok c =
    let inside = (c.in_ok-list_begins.ensures.inside (grind arith)).1 in
    of_list indices_form c.args.depth (c.args.depth - 1) c.args.reader.now c.list_begins.new.reader inside
    ∙ read_then in_order (each_form (whole_form (2 ^ 64))) (read_items (c.args.depth - 1) c.list_begins.new.reader) (option_map (λ v. v.items) c.in-Ok.rows) c.rows_in.new.reader c.in-Ok.ensures.ok
    ∙ ap (λ o. Some (o, c.rows_in.new.reader)) (sym c.ascending.ensures)

pub returns-in-Err-clause-refused : goal.returns-in-Err-clause-refused
returns-in-Err-clause-refused c invalid =
    list_none c.args.depth (c.args.depth - 1) c.args.reader.now c.list_begins.new.reader (c.in_ok-list_begins.ensures.inside (grind arith)).1 (c.rows_in.ensures.refused (grind arith))

pub returns-then-not-branch-clause-ok : goal.returns-then-not-branch-clause-ok
returns-then-not-branch-clause-ok c =
    read_then (λ (o : Option Items). in_order (o >>= each_form (whole_form (2 ^ 64)))) as_array (read_value c.args.depth c.args.reader.now) None c.list_begins.new.reader (c.in_ok-list_begins.ensures.past (grind arith))
