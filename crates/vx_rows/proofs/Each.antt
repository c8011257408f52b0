-- What holds of each element that a loop has passed, and of an element that may be there.
use Rattle.std.proofs.Common.{ℕ, ◌≤◌, List, Option, Some, None, length, take, sym}
use Rattle.std.specs.Prelude.{IfSome}
use Rattle.std.specs.List.{All}
use Rattle.std.proofs.lemmas.List.{take_all}
use Rattle.std.proofs.lemmas.List.Elements.{All-same}

pub each_passed : {X : Type 0} (P : X → Type 0) (xs : List X) (i : ℕ) → length xs ≤ i → All P (take i xs) → All P xs
each_passed P xs i end so_far = All-same P xs (take i xs) (sym (take_all i xs end)) so_far

pub if_some_weaker : {X : Type 0} (P Q : X → Type 0) → ((x : X) → P x → Q x) → (o : Option X) → IfSome o P → IfSome o Q
if_some_weaker P Q f None h = tt
if_some_weaker P Q f (Some x) h = f x h
