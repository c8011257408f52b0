use Rattle.std.proofs.Common.{◌≡◌, ◌^◌, [], ◌∷◌, Option, Some, None, List, ℕ, option_map, subst, sym, ap, arith}
use Rattle.json.specs.Json.{after_end_array}
use Rattle.scan_json.specs.Reading.{reads}
use Rattle.scan_json.proofs.ListTurns.{IsListRead, item_joined, list_done, list_refused}
use Rattle.scan_request.specs.JsonForms.{whole_form}
use Rattle.scan_request.proofs.row_forms.rows_in.Goals as goal

pub returns-in_err-item-clause-refused : goal.returns-in_err-item-clause-refused
returns-in_err-item-clause-refused c invalid =
    let going : (after_end_array c.items.reader ≡ None) × (c.take_end_array.new.self ≡ c.items.reader) = grind arith in
    list_refused (whole_form (2 ^ 64)) c.args.depth c.args.reader.now (option_map (λ v. v.items) c.items.made) c.items.reader c.items.invariant going.0 (rw (← going.1) c.in_err-item.ensures.refused)

pub items-preserved : goal.items-preserved
items-preserved c =
    let going : (after_end_array c.items.reader ≡ None) × (c.take_end_array.new.self ≡ c.items.reader) = grind arith in
    let read : reads (whole_form (2 ^ 64)) c.args.depth c.items.reader ≡ Some (c.in_ok-item.item, c.whole_64.new.reader) = rw (← going.1) c.in_ok-item.ensures.ok in
    subst (λ (made : Option (List ℕ)). IsListRead (whole_form (2 ^ 64)) c.args.depth c.args.reader.now made c.whole_64.new.reader) (sym c.in_ok-made.ensures)
    (item_joined (whole_form (2 ^ 64)) c.args.depth c.args.reader.now (option_map (λ v. v.items) c.items.made) c.items.reader c.items.invariant c.whole_64.new.reader c.in_ok-item.item going.0 read (rw (← going.1) c.in_ok-item.ensures.shorter))

pub returns-clause-ok : goal.returns-clause-ok
returns-clause-ok c =
    let over : after_end_array c.items.reader ≡ Some c.take_end_array.new.self = grind arith in
    list_done (whole_form (2 ^ 64)) c.args.depth c.args.reader.now (option_map (λ v. v.items) c.items.made) c.items.reader c.take_end_array.new.self c.items.invariant over
