-- The text of the predicate by which a plan prunes zones; a plan that has neither an expression nor a predicate has no such text.
use Rattle.std.proofs.Common.{◌≡◌, ℕ, ◌<◌, List, [], ◌++◌, Option, Some, None, length, refl, sym, ap, subst}
use Rattle.std.specs.Prelude.{codes, IsSomeAnd}
use Rattle.std.proofs.lemmas.Option.{slice_get-get_or}
use Rattle.vx_expr.specs.Bound.{Bound}
use Rattle.vx_expr.specs.TermText.{term_text}
use Rattle.vx_plan.specs.declared.nodes.PlanKind.{PlanKind}
use Rattle.vx_plan.specs.declared.nodes.PlanKind.TheVariants as kinds
use Rattle.vx_plan.specs.Kinds.{proof_of, HasKind, IsEval, IsZoned}
use Rattle.vx_plan.specs.Nodes.{Node, absent}
use Rattle.vx_plan.specs.Rules.{node_at}
use Rattle.vx_lower.specs.PlanText.{expression_text}

pub kind_has : (Is : PlanKind → Type 0) (nodes : List Node) (n : ℕ) → n < length nodes → Is (node_at nodes n).kind → HasKind Is nodes n
kind_has Is nodes n known is = subst (λ (o : Option Node). IsSomeAnd o (λ node. Is node.kind)) (sym (slice_get-get_or nodes n absent known)) is

pub no_proof : (kind : PlanKind) → (IsZoned kind → ⊥) → None ≡ proof_of kind
no_proof kinds.Concat not = refl
no_proof (kinds.Eval a) not = refl
no_proof kinds.Filter not = refl
no_proof (kinds.Pack has_validity) not = refl
no_proof kinds.Take not = refl
no_proof kinds.Share not = refl
no_proof (kinds.ListPack has_validity) not = refl
no_proof kinds.RowIdx not = refl
no_proof (kinds.SegmentScan segment coding) not = refl
no_proof (kinds.Zoned zone_len stats) not = refl
no_proof (kinds.LegacyStats zone_len stats) not = refl
no_proof (kinds.Pruning zone_len stats proof) not = absurd (not tt)

some_same : (one other : Bound) → Some one ≡ Some other → one ≡ other
some_same one other e = cc

some_none : (one : Bound) → Some one ≡ None → ⊥
some_none one e = cc

none_some : (one : Bound) → None ≡ Some one → ⊥
none_some one e = cc

pub proof_text : (kind : PlanKind) (proof : Bound) → Some proof ≡ proof_of kind → codes " prune=" ++ term_text proof.term ≡ expression_text kind
proof_text kinds.Concat proof is = absurd (some_none proof is)
proof_text (kinds.Eval a) proof is = absurd (some_none proof is)
proof_text kinds.Filter proof is = absurd (some_none proof is)
proof_text (kinds.Pack has_validity) proof is = absurd (some_none proof is)
proof_text kinds.Take proof is = absurd (some_none proof is)
proof_text kinds.Share proof is = absurd (some_none proof is)
proof_text (kinds.ListPack has_validity) proof is = absurd (some_none proof is)
proof_text kinds.RowIdx proof is = absurd (some_none proof is)
proof_text (kinds.SegmentScan segment coding) proof is = absurd (some_none proof is)
proof_text (kinds.Zoned zone_len stats) proof is = absurd (some_none proof is)
proof_text (kinds.LegacyStats zone_len stats) proof is = absurd (some_none proof is)
proof_text (kinds.Pruning zone_len stats other) proof is = ap (λ (b : Bound). codes " prune=" ++ term_text b.term) (some_same proof other is)

pub no_text : (kind : PlanKind) → (IsEval kind → ⊥) → None ≡ proof_of kind → [] ≡ expression_text kind
no_text kinds.Concat not none = refl
no_text (kinds.Eval a) not none = absurd (not tt)
no_text kinds.Filter not none = refl
no_text (kinds.Pack has_validity) not none = refl
no_text kinds.Take not none = refl
no_text kinds.Share not none = refl
no_text (kinds.ListPack has_validity) not none = refl
no_text kinds.RowIdx not none = refl
no_text (kinds.SegmentScan segment coding) not none = refl
no_text (kinds.Zoned zone_len stats) not none = refl
no_text (kinds.LegacyStats zone_len stats) not none = refl
no_text (kinds.Pruning zone_len stats proof) not none = absurd (none_some proof none)
