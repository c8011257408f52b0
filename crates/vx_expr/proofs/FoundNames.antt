-- The names that two expressions get, one after the other.
use Rattle.std.proofs.Common.{ℕ, Bool, true, false, List, ◌++◌, Option, Some, None, ap, ◌∙◌, append_assoc}
use Rattle.vx_expr.specs.Collected.{Collects}
use Rattle.vx_expr.specs.Mentions.{joined}
use Rattle.vx_expr.specs.Types.{on_both}

-- names, in order
abbrev pub Names : Type 0
Names = List (List ℕ)

-- the first of two gets fields only, and then the second was looked at
pub second_collects : (a b : Option Names) (found : Bool) (old mid new : Names) → Collects a true old mid → Collects b found mid new → Collects (on_both joined a b) found old new
second_collects (Some xs) (Some ys) true old mid new h k = k ∙ ap (λ (ns : Names). ns ++ ys) h ∙ append_assoc old xs ys
second_collects (Some xs) (Some ys) false old mid new h k = absurd k
second_collects (Some xs) None true old mid new h k = absurd k
second_collects (Some xs) None false old mid new h k = tt
second_collects None b found old mid new h k = absurd h

-- the root occurs bare in the first of two
pub first_collects : (a b : Option Names) (old new : Names) → Collects a false old new → Collects (on_both joined a b) false old new
first_collects (Some xs) b old new h = absurd h
first_collects None b old new h = tt
