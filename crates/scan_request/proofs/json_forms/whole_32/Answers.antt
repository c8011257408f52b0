use Rattle.std.proofs.Common.{◌≡◌, ◌^◌, Option, Some, None, option_map, sym, ap, ◌∙◌}
use Rattle.serde_json.specs.Data.{Num}
use Rattle.serde_json.specs.Find.{as_number}
use Rattle.serde_json.specs.View.{number_view}
use Rattle.scan_json.specs.Reading.{read_value, reads}
use Rattle.scan_json.proofs.Turns.{read_then}
use Rattle.scan_words.specs.Words.{◌>>=◌}
use Rattle.scan_request.specs.JsonForms.{whole_number}
use Rattle.scan_request.proofs.json_forms.whole_32.Goals as goal

pub returns-in-Some-clause-ok : goal.returns-in-Some-clause-ok
returns-in-Some-clause-ok c =
    let read : reads as_number c.args.depth c.args.reader.now ≡ Some (Some (number_view c.in-Some.number), c.number.new.reader) = rw c.in-Some.is at c.in_ok-number.ensures.ok in
    read_then (λ (o : Option Num). o >>= whole_number (2 ^ 32)) as_number (read_value c.args.depth c.args.reader.now) (Some (number_view c.in-Some.number)) c.number.new.reader read
    ∙ ap (λ o. Some (o, c.number.new.reader)) (sym c.fits_32.ensures)

pub returns-in-None-clause-ok : goal.returns-in-None-clause-ok
returns-in-None-clause-ok c =
    let read : reads as_number c.args.depth c.args.reader.now ≡ Some (None, c.number.new.reader) = rw c.in-None.is at c.in_ok-number.ensures.ok in
    read_then (λ (o : Option Num). o >>= whole_number (2 ^ 32)) as_number (read_value c.args.depth c.args.reader.now) None c.number.new.reader read
