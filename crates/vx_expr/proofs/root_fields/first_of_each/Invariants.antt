use Rattle.std.proofs.Common.{◌≡◌, ℕ, List, take, Bor}
use Rattle.std.specs.BTreeSet.{contains}
use Rattle.std.specs.Ordering.{nat_cmp}
use Rattle.std.specs.Cmp.Lexicographic.{slice_cmp}
use Rattle.vx_expr.specs.Mentions.{first_ones}
use Rattle.vx_expr.proofs.FirstOnes.{has_name}
use Rattle.vx_expr.proofs.root_fields.first_of_each.Given as goal

abbrev pub invariant-loop-name : goal.invariant-loop-name
invariant-loop-name l = record {
  firsts : l.firsts.items ≡ first_ones (take l.name-index l.names);
  seen : (text : Bor (List ℕ)) → contains (λ x y. slice_cmp nat_cmp x.now y.now) l.seen text ≡ has_name text.now (take l.name-index l.names);
}
