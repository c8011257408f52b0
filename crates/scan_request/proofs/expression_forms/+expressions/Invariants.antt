use Rattle.std.proofs.Common.{◌≡◌, ◌+◌, ◌*◌, length, map, option_map}
use Rattle.serde_json.specs.Data.{Members}
use Rattle.scan_json.proofs.ListTurns.{IsListRead}
use Rattle.scan_json.proofs.ObjectTurns.{IsObjectRead}
use Rattle.scan_request.specs.ExpressionForms.{named_form}
use Rattle.scan_request.specs.ExpressionViews.{named_term, told_by, told_of}
use Rattle.scan_request.proofs.expression_forms.+expressions.Given as goal

abbrev pub decreases-expression_of : goal.decreases-expression_of
decreases-expression_of l = 6 * l.depth

abbrev pub decreases-members_in : goal.decreases-members_in
decreases-members_in l = 6 * l.depth + 5

abbrev pub decreases-member_told : goal.decreases-member_told
decreases-member_told l = 6 * l.depth + 4

abbrev pub decreases-joined_of : goal.decreases-joined_of
decreases-joined_of l = 6 * l.depth + 3

abbrev pub decreases-pair_joined : goal.decreases-pair_joined
decreases-pair_joined l = 6 * l.depth + 2

abbrev pub decreases-pair_of : goal.decreases-pair_of
decreases-pair_of l = 6 * l.depth + 1

abbrev pub decreases-pair_in : goal.decreases-pair_in
decreases-pair_in l = 6 * l.depth + 1

abbrev pub decreases-all_named_of : goal.decreases-all_named_of
decreases-all_named_of l = 6 * l.depth + 2

abbrev pub decreases-named_in : goal.decreases-named_in
decreases-named_in l = 6 * l.depth + 5

abbrev pub decreases-named_of : goal.decreases-named_of
decreases-named_of l = 6 * l.depth + 2

abbrev pub decreases-named_inside : goal.decreases-named_inside
decreases-named_inside l = 6 * l.depth + 1

abbrev pub invariant-members_in-members : goal.invariant-members_in-members
invariant-members_in-members l = (found : Members) × IsObjectRead l.depth l.initial.reader found l.reader × (told_by l.told ≡ told_of found)

abbrev pub decreases-members_in-members : goal.decreases-members_in-members
decreases-members_in-members l = length l.reader

abbrev pub invariant-named_in-items : goal.invariant-named_in-items
invariant-named_in-items l = IsListRead named_form l.depth l.initial.reader (option_map (λ v. map named_term v.items) l.made) l.reader

abbrev pub decreases-named_in-items : goal.decreases-named_in-items
decreases-named_in-items l = length l.reader
