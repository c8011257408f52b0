use Rattle.std.proofs.Common.{◌≡◌, Some, None, option_map, sym, ap, ◌∙◌, arith}
use Rattle.simdutf8.specs.Error.{valid_up_to}
use Rattle.std.specs.Str.{IsUtf8, IsValidUpTo}
use Rattle.std.proofs.lemmas.List.{length-map}
use Rattle.vx_layout.specs.Nodes.{node_data}
use Rattle.scan_request.specs.RequestForms.{requested}
use Rattle.scan_request.specs.RequestViews.{parts_said}
use Rattle.scan_request.proofs.RequestForms.{requested_few}
use Rattle.scan_request.proofs.RequestMembers.{bytes_say, never_text}
use Rattle.scan_request.proofs.request_forms.parts_of.Goals as goal

pub returns-in-Ok-Some-clause-parts : goal.returns-in-Ok-Some-clause-parts
returns-in-Ok-Some-clause-parts c =
    bytes_say c.args.bytes.now c.in-Ok.text.now c.in-Ok.ensures.cases.1 c.in-Ok.ensures.cases.0 ∙ sym (rw c.in-Ok-Some.field-0-is at c.in-Ok-Some.ensures.ok)

pub returns-in-Ok-Some-clause-few : goal.returns-in-Ok-Some-clause-few
returns-in-Ok-Some-clause-few c =
    let is = bytes_say c.args.bytes.now c.in-Ok.text.now c.in-Ok.ensures.cases.1 c.in-Ok.ensures.cases.0 ∙ sym (rw c.in-Ok-Some.field-0-is at c.in-Ok-Some.ensures.ok) in
    (requested_few c.args.bytes.now (parts_said c.in-Ok-Some.parts) is).0

pub returns-in-Ok-Some-clause-few_nodes : goal.returns-in-Ok-Some-clause-few_nodes
returns-in-Ok-Some-clause-few_nodes c =
    let is = bytes_say c.args.bytes.now c.in-Ok.text.now c.in-Ok.ensures.cases.1 c.in-Ok.ensures.cases.0 ∙ sym (rw c.in-Ok-Some.field-0-is at c.in-Ok-Some.ensures.ok) in
    let few = (requested_few c.args.bytes.now (parts_said c.in-Ok-Some.parts) is).1 in
    omega (arith, few, length-map c.in-Ok-Some.parts.file.nodes.items node_data)

pub returns-in_default-clause-refused : goal.returns-in_default-clause-refused
returns-in_default-clause-refused c =
    never_text c.args.bytes.now c.from_utf8.result (λ s. (s.now ≡ c.args.bytes.now) × IsUtf8 c.args.bytes.now) (λ e. (IsUtf8 c.args.bytes.now → ⊥) × IsValidUpTo c.args.bytes.now (valid_up_to e)) c.from_utf8.ensures.cases c.in_default.not-Ok (λ e none. none.0)
