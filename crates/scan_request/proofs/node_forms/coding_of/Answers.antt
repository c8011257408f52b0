use Rattle.std.proofs.Common.{◌≡◌, Option, Some, None, List, ℕ, sym, ap, ◌∙◌}
use Rattle.std.specs.Map.{lookup}
use Rattle.std.specs.Str.{bytes_eq}
use Rattle.serde_json.specs.Find.{as_str}
use Rattle.scan_json.specs.Reading.{read_value, reads}
use Rattle.scan_json.proofs.Turns.{read_then}
use Rattle.scan_words.specs.Words.{◌>>=◌}
use Rattle.scan_request.specs.NodeForms.{coding_names}
use Rattle.scan_request.proofs.node_forms.coding_of.Goals as goal

pub returns-in-Some-clause-ok : goal.returns-in-Some-clause-ok
returns-in-Some-clause-ok c =
    let read : reads as_str c.args.depth c.args.reader.now ≡ Some (Some c.in-Some.name.now, c.text.new.reader) = rw c.in-Some.is at c.in_ok-name.ensures.ok in
    read_then (λ (o : Option (List ℕ)). o >>= λ name. lookup (bytes_eq name) coding_names) as_str (read_value c.args.depth c.args.reader.now) (Some c.in-Some.name.now) c.text.new.reader read
    ∙ ap (λ o. Some (o, c.text.new.reader)) (sym c.coding_named.ensures)

pub returns-in-None-clause-ok : goal.returns-in-None-clause-ok
returns-in-None-clause-ok c =
    let read : reads as_str c.args.depth c.args.reader.now ≡ Some (None, c.text.new.reader) = rw c.in-None.is at c.in_ok-name.ensures.ok in
    read_then (λ (o : Option (List ℕ)). o >>= λ name. lookup (bytes_eq name) coding_names) as_str (read_value c.args.depth c.args.reader.now) None c.text.new.reader read
