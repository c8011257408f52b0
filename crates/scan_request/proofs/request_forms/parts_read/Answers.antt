use Rattle.std.proofs.Common.{◌≡◌, ◌-◌, [], ◌∷◌, Some, None, option_map, sym, ap, ◌∙◌, arith}
use Rattle.json.specs.Json.{parse_map}
use Rattle.json.specs.Lex.{tokens}
use Rattle.json.specs.Reads.{token_of}
use Rattle.serde_json.specs.Data.{object}
use Rattle.serde_json.specs.Find.{as_object}
use Rattle.scan_json.specs.Reading.{read_members, read_value, reads}
use Rattle.scan_request.specs.RequestMembers.{told_by}
use Rattle.scan_request.proofs.RequestMembers.{text_and_more, text_inside_refused, text_other, text_read, text_refused}
use Rattle.scan_request.proofs.request_forms.parts_read.Goals as goal

pub returns-in_err-object_begins-clause-refused : goal.returns-in_err-object_begins-clause-refused
returns-in_err-object_begins-clause-refused c invalid =
    let none : read_value 127 (tokens c.args.text.now) ≡ None = rw c.in_ok-reader.ensures.ok at c.in_err-object_begins.ensures.refused in
    text_refused c.args.text.now none

pub returns-then-not-branch-clause-ok : goal.returns-then-not-branch-clause-ok
returns-then-not-branch-clause-ok c =
    let past : reads as_object 127 (tokens c.args.text.now) ≡ Some (None, c.object_begins.new.reader) = rw c.in_ok-reader.ensures.ok at (c.in_ok-object_begins.ensures.past (grind arith)) in
    text_other c.args.text.now c.object_begins.new.reader past

pub returns-in_err-told-clause-refused : goal.returns-in_err-told-clause-refused
returns-in_err-told-clause-refused c invalid =
    let inside : read_value 127 (tokens c.args.text.now) ≡ parse_map object (read_members 126 c.object_begins.new.reader) = rw c.in_ok-reader.ensures.ok at (c.in_ok-object_begins.ensures.inside (grind arith)).1 in
    text_inside_refused c.args.text.now c.object_begins.new.reader inside (c.members_in.ensures.refused (grind arith))

pub returns-in-Some-clause-ok : goal.returns-in-Some-clause-ok
returns-in-Some-clause-ok c =
    let inside : read_value 127 (tokens c.args.text.now) ≡ parse_map object (read_members 126 c.object_begins.new.reader) = rw c.in_ok-reader.ensures.ok at (c.in_ok-object_begins.ensures.inside (grind arith)).1 in
    let read = c.in_ok-told.ensures.ok in
    let more : c.members_in.new.reader ≡ token_of c.in-Some.field-0 ∷ c.next.new.self = grind arith in
    text_and_more c.args.text.now c.object_begins.new.reader read.0 (token_of c.in-Some.field-0) c.next.new.self inside (rw more at read.1)

pub returns-clause-ok : goal.returns-clause-ok
returns-clause-ok c =
    let inside : read_value 127 (tokens c.args.text.now) ≡ parse_map object (read_members 126 c.object_begins.new.reader) = rw c.in_ok-reader.ensures.ok at (c.in_ok-object_begins.ensures.inside (grind arith)).1 in
    let read = c.in_ok-told.ensures.ok in
    let end : c.members_in.new.reader ≡ [] = grind arith in
    c.into_parts.ensures ∙ sym (text_read c.args.text.now c.object_begins.new.reader (told_by c.in_ok-told.told) read.0 read.2 inside (rw end at read.1) read.3)
