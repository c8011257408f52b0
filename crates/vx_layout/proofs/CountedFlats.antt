-- Flat nodes are counted, and their rows looked at, node by node.
use Rattle.std.proofs.Common.{◌≡◌, ℕ, suc, ◌+◌, ◌<◌, Bool, cond, List, [], ◌∷◌, Option, Some, length, sym, ap, ◌∙◌, subst, arith}
use Rattle.std.specs.Prelude.{IfSome}
use Rattle.std.specs.List.{slice_get, AllByRecursion}
use Rattle.vx_layout.specs.Nodes.{Node}
use Rattle.vx_layout.specs.Migrations.{flats_before, is_flat_kind, HasCountedRows}
use Rattle.vx_layout.proofs.Flats.{flats_next}
use Rattle.vx_layout.proofs.MovedParts.{counted_at}

pub count_next : (nodes : List Node) (n : ℕ) (node : Node) (count next : ℕ) (flat : Bool) → slice_get nodes n ≡ Some node → flat ≡ is_flat_kind node.kind → count ≡ flats_before nodes n → next ≡ count + cond flat 1 0 → next ≡ flats_before nodes (n + 1)
count_next nodes n node count next flat at is e f =
    f ∙ ap (λ (b : Bool). count + cond b 1 0) is ∙ ap (λ (k : ℕ). k + cond (is_flat_kind node.kind) 1 0) e ∙ sym (flats_next nodes n node at)

-- the node of that number, if there is one, has few rows
abbrev pub CountedAt : List Node → ℕ → Type 0
CountedAt nodes n = IfSome (slice_get nodes n) HasCountedRows

pub counted_here : (nodes : List Node) (n : ℕ) (node : Node) → slice_get nodes n ≡ Some node → HasCountedRows node → CountedAt nodes n
counted_here nodes n node at has = subst (λ (o : Option Node). IfSome o HasCountedRows) (sym at) has

pub counted_all : (nodes : List Node) → ((n : ℕ) → n < length nodes → CountedAt nodes n) → AllByRecursion HasCountedRows nodes
counted_all [] each = tt
counted_all (node ∷ nodes) each = (each 0 (omega arith), counted_all nodes (λ n lt. each (suc n) (omega arith)))

pub counted_node : (nodes : List Node) (n : ℕ) (node : Node) → AllByRecursion HasCountedRows nodes → slice_get nodes n ≡ Some node → HasCountedRows node
counted_node nodes n node each at = counted_at nodes n node each at
