use Rattle.std.proofs.Common.{◌≡◌, ℕ, List, Option, Some}
use Rattle.std.specs.Prelude.{option_map}
use Rattle.vx_base.specs.Views.{members_of}
use Rattle.vx_expr.specs.Mentions.{root_fields, first_ones}
use Rattle.vx_layout.proofs.NameSets.{kept_named}
use Rattle.vx_layout.proofs.kept_fields.fields_got.Goals as goal

pub returns-in_ok-kept-in-Some : goal.returns-in_ok-kept-in-Some
returns-in_ok-kept-in-Some c =
    let names : List (List ℕ) = c.in-Some.names.items in
    let got : Option (List (List ℕ)) = root_fields c.args.expression.now.term in
    let told : Some names ≡ option_map first_ones got = rw c.in-Some.is at c.in_ok-names.ensures in
    kept_named (members_of c.args.fields.now) names c.deref.result.now c.in_ok-kept-in-Some.kept.items got told c.deref.ensures.value c.in_ok-kept-in-Some.ensures
