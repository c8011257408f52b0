-- Bytes are one request at most, and then they are not refused.
use Rattle.std.proofs.Common.{◌≡◌, ℕ, List, [], ◌∷◌, Option, Some, None, Ok, Err, refl, sym, ap, subst, ◌∙◌, arith}
use Rattle.vx_expr.specs.Bound.{Bound, IsBoundTo}
use Rattle.vx_expr.specs.Mismatches.{BindGives}
use Rattle.vx_expr.specs.Types.{type_of}
use Rattle.vx_expr.specs.declared.binding.BindError.{BindError}
use Rattle.vx_expr.specs.declared.binding.BindError.TheVariants as bind
use Rattle.vx_rows.specs.Heads.{Head}
use Rattle.vx_layout.specs.Nodes.{Node}
use Rattle.vx_layout.specs.Shape.{IsGoodTree}
use Rattle.vx_layout.specs.Trees.{head_of, subtree}
use Rattle.vx_layout.proofs.FaultLaws.{good_has_none}
use Rattle.vx_layout.proofs.Unfolding.{good_later, head_of_subtree}
use Rattle.scan_request.specs.RequestForms.{Asked, Parts, said_by, requested, root_dtype, IsRequest, HasBadLayout, HasBadProjection}
use Rattle.scan_request.proofs.JsonForms.{some_is}
use Rattle.vx_base.specs.Data.{DataType}

said_same : (bytes : List ℕ) (a b : Parts) → requested bytes ≡ Some a → requested bytes ≡ Some b → a ≡ b
said_same bytes a b p q = some_is a b (sym p ∙ q)

-- an expression is bound in one way
bound_same : (t : DataType) (a b : Bound) → BindGives t a.term (Ok a) → BindGives t b.term (Ok b) → a.term ≡ b.term → a ≡ b
bound_same t a b one two term =
    let root : a.root ≡ b.root = one.2 ∙ sym two.2 in
    let dtype : a.dtype ≡ b.dtype = some_is a.dtype b.dtype (sym one.3 ∙ ap (type_of t) term ∙ two.3) in
    λ i. record { term = term i; root = root i; dtype = dtype i }

asked_same : (a b : Asked) → said_by a ≡ said_by b → a.projection ≡ b.projection → a ≡ b
asked_same a b said projection =
    λ i. record { locations = (said i).locations; nodes = (said i).nodes; projection = projection i; range = (said i).range; selection = (said i).selection; limit = (said i).limit; row_offset = (said i).row_offset }

pub same_request : (bytes : List ℕ) (a b : Asked) → IsRequest bytes a → IsRequest bytes b → a ≡ b
same_request bytes a b one two =
    let said : said_by a ≡ said_by b = said_same bytes (said_by a) (said_by b) one.form two.form in
    let nodes : a.nodes ≡ b.nodes = ap (λ (p : Parts). p.nodes) said in
    let term : a.projection.term ≡ b.projection.term = ap (λ (p : Parts). p.projection) said in
    let bound = subst (λ (ns : List Node). BindGives (root_dtype ns) a.projection.term (Ok a.projection)) nodes one.bound in
    asked_same a b said (bound_same (root_dtype b.nodes) a.projection b.projection bound two.bound term)

root_same : (nodes : List Node) → IsGoodTree nodes → root_dtype nodes ≡ (head_of (subtree nodes 0)).dtype
root_same [] good = absurd (omega (arith, good.nonempty))
root_same (node ∷ nodes) good = sym (ap (λ (head : Head). head.dtype) (head_of_subtree (node ∷ nodes) (good_later (node ∷ nodes) good) 0 node refl))

pub projection_is_bound : (bytes : List ℕ) (asked : Asked) → IsRequest bytes asked → IsBoundTo asked.projection (head_of (subtree asked.nodes 0)).dtype
projection_is_bound bytes asked is = λ uses. is.bound.2 ∙ root_same asked.nodes is.good

pub has_good_layout : (bytes : List ℕ) (asked : Asked) (node rule : ℕ) → IsRequest bytes asked → HasBadLayout bytes node rule → ⊥
has_good_layout bytes asked node rule is bad =
    let same : said_by asked ≡ bad.parts = said_same bytes (said_by asked) bad.parts is.form bad.form in
    good_has_none bad.parts.nodes node rule (subst (λ (p : Parts). IsGoodTree p.nodes) same is.good) bad.fault

some_or_none : (t : DataType) (o : Option DataType) → o ≡ Some t → o ≡ None → ⊥
some_or_none t o some none = cc

-- an expression that is bound is not refused
not_refused : (t : DataType) (a : Bound) (error : BindError) → BindGives t a.term (Ok a) → BindGives t a.term (Err error) → error ≡ bind.Memory
not_refused t a (bind.NoField name) bound refused = absurd (some_or_none a.dtype (type_of t a.term) bound.3 refused.1)
not_refused t a (bind.TypeMismatch place) bound refused = absurd (some_or_none a.dtype (type_of t a.term) bound.3 refused.1)
not_refused t a bind.TooDeep bound refused = absurd (omega (arith, bound.0, refused))
not_refused t a bind.Memory bound refused = refl

pub has_good_projection : (bytes : List ℕ) (asked : Asked) (error : BindError) → IsRequest bytes asked → HasBadProjection bytes error → ⊥
has_good_projection bytes asked error is bad =
    let same : bad.parts ≡ said_by asked = said_same bytes bad.parts (said_by asked) bad.form is.form in
    let unbound = subst (λ (p : Parts). BindGives (root_dtype p.nodes) p.projection (Err error)) same bad.unbound in
    bad.not_memory (not_refused (root_dtype asked.nodes) asked.projection error is.bound unbound)
