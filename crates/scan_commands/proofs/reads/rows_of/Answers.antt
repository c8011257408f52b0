use Rattle.std.proofs.Common.{◌∙◌, refl, sym, subst}
use Rattle.vx_expr.specs.Bound.{IsBoundTo}
use Rattle.vx_readers.specs.ReaderData.{reader_head, ReaderData}
use Rattle.vx_readers.specs.Readers.{reader_data}
use Rattle.scan_request.specs.RequestViews.{asked_of}
use Rattle.scan_commands.specs.ReadRequests.{IsReadable}
use Rattle.scan_commands.proofs.Reading.{no_numbers, not_opened, not_plain, reader_is, rows_given, rows_lost}
use Rattle.scan_commands.proofs.reads.rows_of.Goals as goal

pub read_rows-requires-clause-bound : goal.read_rows-requires-clause-bound
read_rows-requires-clause-bound g c =
    let asked = asked_of c.args.request.now in
    let is = reader_is asked (reader_data c.in-Ok.reader) c.deref.result.now c.in-Ok.ensures.opened c.deref.ensures.value in
    subst (λ (r : ReaderData). IsBoundTo asked.projection (reader_head r).dtype) (sym is) c.requires.bound

pub read_rows-requires-clause-no_numbers : goal.read_rows-requires-clause-no_numbers
read_rows-requires-clause-no_numbers g c = no_numbers (asked_of c.args.request.now) (sym c.is_plain.ensures ∙ c.if-not-is_plain.false)

pub returns-then-not-is_plain : goal.returns-then-not-is_plain
returns-then-not-is_plain g c = (not_plain (asked_of c.args.request.now) (sym c.is_plain.ensures ∙ c.if-not-is_plain.true), refl)

pub returns-in-Ok-read_rows : goal.returns-in-Ok-read_rows
returns-in-Ok-read_rows g c =
    let asked = asked_of c.args.request.now in
    let readable : IsReadable asked = record { plain = sym c.is_plain.ensures ∙ c.if-not-is_plain.false; nodes = c.in-Ok.ensures.readable } in
    let is = reader_is asked (reader_data c.in-Ok.reader) c.deref.result.now c.in-Ok.ensures.opened c.deref.ensures.value in
    rows_given c.args.idle_limit c.args.split.now asked c.in-Ok.reader c.in-Ok-read_rows.columns _ _ c.requires.some c.in-Ok.ensures.good readable is c.in-Ok-read_rows.ensures

pub returns-in-Err-read_rows : goal.returns-in-Err-read_rows
returns-in-Err-read_rows g c =
    let asked = asked_of c.args.request.now in
    let readable : IsReadable asked = record { plain = sym c.is_plain.ensures ∙ c.if-not-is_plain.false; nodes = c.in-Ok.ensures.readable } in
    let is = reader_is asked (reader_data c.in-Ok.reader) c.deref.result.now c.in-Ok.ensures.opened c.deref.ensures.value in
    rows_lost c.args.idle_limit c.args.split.now asked c.in-Ok.reader c.of_read.result c.in-Err-read_rows.error _ _ c.requires.sized readable is c.of_read.ensures c.in-Err-read_rows.ensures

pub returns-in-Err : goal.returns-in-Err
returns-in-Err g c = (not_opened (asked_of c.args.request.now) _ c.in-Err.ensures.refused, refl)
