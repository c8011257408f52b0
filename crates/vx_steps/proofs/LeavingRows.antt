-- The leaves that so many rows of a plan read: those of a leaf, and of the parts of another plan.
use Rattle.std.proofs.Common.{◌≡◌, ℕ, ◌+◌, ◌-◌, ◌<◌, ◌≤◌, ◌⊎◌, inl, inr, ⊎_elim, Bool, true, false, List, [], ◌∷◌, Some, None, length, replicate, refl, sym, ◌∙◌, subst, arith}
use Rattle.std.specs.Prelude.{◌↔◌, IsTrue, slice_range}
use Rattle.std.specs.List.{slice_get}
use Rattle.std.proofs.lemmas.List.{length-replicate}
use Rattle.vx_plan.specs.declared.parts.ChildRows.{ChildRows}
use Rattle.vx_plan.specs.declared.parts.Part.{Part}
use Rattle.vx_plan.specs.declared.parts.Part.TheVariants as parts
use Rattle.vx_plan.specs.declared.shapes.Shape.{Shape}
use Rattle.vx_plan.specs.declared.shapes.Shape.TheVariants as shapes
use Rattle.vx_plan.specs.Kinds.{coding_of}
use Rattle.vx_plan.specs.Nodes.{Node}
use Rattle.vx_plan.specs.Parts.{parts_of}
use Rattle.vx_plan.specs.Plans.{Plan, plan_at, scan_plan}
use Rattle.vx_plan.specs.Rules.{node_at}
use Rattle.vx_plan.specs.Shapes.{HasShape}
use Rattle.vx_plan.specs.Tables.{IsGoodTable}
use Rattle.vx_steps.specs.declared.leavings.Sieve.{Sieve}
use Rattle.vx_steps.specs.Given.{Handed}
use Rattle.vx_steps.specs.Leavings.{IsLeafOf, IsMet, Meets, RowReads, RowsRead}
use Rattle.vx_steps.specs.PartVisits.{PartVisits, PartsVisit}
use Rattle.vx_steps.specs.Places.{place_in}
use Rattle.vx_steps.specs.Visits.{Visits, IsLeafRead}
use Rattle.vx_steps.proofs.Parts.{leaf_alone, parts_down, parts_up, SomeOwn}
use Rattle.vx_steps.proofs.Selecting.{all_true, got_range, past_true, range_got}
use Rattle.vx_steps.proofs.Shaping.{head_of, IsLeafPlan}

-- one of so many rows of this plan reads the leaf
abbrev RowsVisit : ℕ → ℕ → ℕ → Plan → Type 0
RowsVisit leaf start count p = (place : ℕ) × (place < count) × Visits (IsLeafOf leaf) None p (start + place)

-- ---- what was met

pub meets_then : (P Q : ℕ → Type 0) (old mid new : Sieve) → Meets P old mid → Meets Q mid new → Meets (λ leaf. P leaf ⊎ Q leaf) old new
meets_then P Q old mid new p q = record {
  only = λ leaf met. ⊎_elim (λ (m : IsMet mid leaf). ⊎_elim (λ (o : IsMet old leaf). inl o) (λ (a : P leaf). inr (inl a)) (p.only leaf m)) (λ (b : Q leaf). inr (inr b)) (q.only leaf met);
  kept = λ leaf met. q.kept leaf (p.kept leaf met);
  all = λ leaf either. ⊎_elim (λ (a : P leaf). q.kept leaf (p.all leaf a)) (λ (b : Q leaf). q.all leaf b) either;
  gone = λ leaf none. q.gone leaf (p.gone leaf none);
  wanted = q.wanted ∙ p.wanted;
  found = λ found. q.found (p.found found);
}

pub meets_as : (P Q : ℕ → Type 0) (old new : Sieve) → ((leaf : ℕ) → P leaf → Q leaf) → ((leaf : ℕ) → Q leaf → P leaf) → Meets P old new → Meets Q old new
meets_as P Q old new to from p = record {
  only = λ leaf met. ⊎_elim (λ (o : IsMet old leaf). inl o) (λ (a : P leaf). inr (to leaf a)) (p.only leaf met);
  kept = p.kept;
  all = λ leaf b. p.all leaf (from leaf b);
  gone = p.gone;
  wanted = p.wanted;
  found = p.found;
}

-- ---- a segment

pub leaf_rows : (nodes : List Node) (n segment start count : ℕ) (old new : Sieve) → IsLeafPlan nodes n segment → 0 < count → Meets (λ leaf. n ≡ leaf) old new → Meets (RowsRead nodes n start count) old new
leaf_rows nodes n segment start count old new over some meets =
    meets_as (λ leaf. n ≡ leaf) (RowsRead nodes n start count) old new (λ leaf e. subst (RowsVisit leaf start count) (sym over.law) (0, some, e)) is meets
  where
    is : (leaf : ℕ) → RowsRead nodes n start count leaf → n ≡ leaf
    is leaf r =
        let r2 : RowsVisit leaf start count (scan_plan (head_of nodes n) segment (coding_of (node_at nodes n).kind)) = subst (RowsVisit leaf start count) over.law r in
        r2.2

-- ---- parts

-- one of these parts of so many rows reads the leaf
abbrev pub PartsRead : List Node → ℕ → List Part → ℕ → Type 0
PartsRead nodes count ps leaf = PartsVisit (IsLeafOf leaf) nodes None (replicate count true) ps

abbrev PartReads : List Node → ℕ → Part → ℕ → Type 0
PartReads nodes count part leaf = PartVisits (IsLeafOf leaf) nodes None (replicate count true) part

-- rows of a child
pub rows_met : (nodes : List Node) (count : ℕ) (rows : ChildRows) (old new : Sieve) → rows.from ≤ rows.to → rows.to ≤ count → Meets (RowsRead nodes rows.child rows.start (rows.to - rows.from)) old new → Meets (PartReads nodes count (parts.Rows rows)) old new
rows_met nodes count rows old new forwards asked meets = meets_as (RowsRead nodes rows.child rows.start (rows.to - rows.from)) (PartReads nodes count (parts.Rows rows)) old new up down meets
  where
    IsChosen : ℕ → ℕ → Type 0
    IsChosen place to = slice_get (slice_range (replicate count true) rows.from to) place ≡ Some true

    end : rows.from + (rows.to - rows.from) ≡ rows.to
    end = omega (arith, forwards)

    up : (leaf : ℕ) → RowsRead nodes rows.child rows.start (rows.to - rows.from) leaf → PartReads nodes count (parts.Rows rows) leaf
    up leaf (place, less, v) = (place, subst (IsChosen place) end (range_got (replicate count true) rows.from (rows.to - rows.from) place true less (all_true count (rows.from + place) (omega (arith, less, asked)))), v)

    down : (leaf : ℕ) → PartReads nodes count (parts.Rows rows) leaf → RowsRead nodes rows.child rows.start (rows.to - rows.from) leaf
    down leaf (place, at, v) = (place, (got_range (replicate count true) rows.from (rows.to - rows.from) place true (subst (IsChosen place) (sym end) at)).0, v)

-- all rows of a child
pub whole_met : (nodes : List Node) (count whole child rows : ℕ) (old new : Sieve) → rows ≡ (node_at nodes child).rows → Meets (RowsRead nodes child 0 rows) old new → Meets (PartReads nodes count (parts.Whole whole child)) old new
whole_met nodes count whole child rows old new same meets =
    meets_as (RowsRead nodes child 0 rows) (PartReads nodes count (parts.Whole whole child)) old new (λ leaf r. let less : r.0 < rows = r.1 in (tt, (0 + r.0, omega (arith, less, same), r.2))) down meets
  where
    down : (leaf : ℕ) → PartReads nodes count (parts.Whole whole child) leaf → RowsRead nodes child 0 rows leaf
    down leaf (none, (row, less, v)) =
        let here : row ≡ 0 + row = omega arith in
        (row, omega (arith, less, same), subst (λ (k : ℕ). RowReads nodes child k leaf) here v)

-- all rows of zones
pub zones_met : (nodes : List Node) (count child rows : ℕ) (old new : Sieve) → rows ≡ (node_at nodes child).rows → Meets (RowsRead nodes child 0 rows) old new → Meets (PartReads nodes count (parts.All child)) old new
zones_met nodes count child rows old new same meets =
    meets_as (RowsRead nodes child 0 rows) (PartReads nodes count (parts.All child)) old new up down meets
  where
    up : (leaf : ℕ) → RowsRead nodes child 0 rows leaf → PartReads nodes count (parts.All child) leaf
    up leaf (row, less, v) = (row, all_true (node_at nodes child).rows row (omega (arith, less, same)), v)

    down : (leaf : ℕ) → PartReads nodes count (parts.All child) leaf → RowsRead nodes child 0 rows leaf
    down leaf (row, at, v) = (row, let less : row < (node_at nodes child).rows = past_true (node_at nodes child).rows row at in omega (arith, less, same), v)

-- the next part was met, and those behind it are left
pub next_met : (nodes : List Node) (count : ℕ) (left behind : List Part) (part made : Part) → left ≡ part ∷ behind → part ≡ made → (Goal : Sieve → Type 0) (old mid : Sieve) →
    ((new : Sieve) → Meets (PartsRead nodes count left) old new → Goal new) → Meets (PartReads nodes count made) old mid → (new : Sieve) → Meets (PartsRead nodes count behind) mid new → Goal new
next_met nodes count left behind part made e same Goal old mid far here new rest =
    let F : Part → Type 0 = λ p. Meets (PartReads nodes count p) old mid in
    let G : List Part → Type 0 = λ ps. Meets (PartsRead nodes count ps) old new in
    far new (subst G (sym e) (meets_then (PartReads nodes count part) (PartsRead nodes count behind) old mid new (subst F (sym same) here) rest))

-- all parts were
pub parts_met : (nodes : List Node) (count : ℕ) (left : List Part) → left ≡ [] → (Goal : Sieve → Type 0) (new : Sieve) → ((all : Sieve) → Meets (PartsRead nodes count left) new all → Goal all) → Goal new
parts_met nodes count left e Goal new far =
    let G : List Part → Type 0 = λ ps. Meets (PartsRead nodes count ps) new new in
    far new (subst G (sym e) (record { only = λ leaf met. inl met; kept = λ leaf met. met; all = λ leaf none. absurd none; gone = λ leaf none. none; wanted = refl; found = λ found. found }))

leaf_of : (leaf : ℕ) (handed : Handed) (p : Plan) (row : ℕ) → IsLeafOf leaf handed p row → (segment : ℕ) × IsLeafRead (record { leaf = leaf; segment = segment }) handed p row
leaf_of leaf handed (scan_plan head segment coding) row own = (segment, (own, refl))
leaf_of leaf handed p row none = absurd none

-- a plan that is no leaf reads what its parts do
pub parts_rows : (nodes : List Node) → IsGoodTable nodes → (n : ℕ) → n < length nodes → (shape : Shape) → HasShape nodes n shape → ((segment : ℕ) → shape ≡ shapes.Leaf segment → ⊥) → (start count : ℕ) → 0 < count → (old new : Sieve) →
    Meets (PartsRead nodes count (parts_of nodes n start count)) old new → Meets (RowsRead nodes n start count) old new
parts_rows nodes good n known shape has not start count some old new meets = meets_as (PartsRead nodes count (parts_of nodes n start count)) (RowsRead nodes n start count) old new up down meets
  where
    long : length (replicate count true) ≡ count
    long = length-replicate count true

    up : (leaf : ℕ) → PartsRead nodes count (parts_of nodes n start count) leaf → RowsRead nodes n start count leaf
    up leaf v =
        let F : ℕ → Type 0 = λ k. PartsRead nodes count (parts_of nodes n start k) leaf in
        let r = parts_up nodes good None n known shape has start (replicate count true) (0, all_true count 0 some) (IsLeafOf leaf) (subst F (sym long) v) in
        (r.0, past_true count r.0 r.1, r.2)

    down : (leaf : ℕ) → RowsRead nodes n start count leaf → PartsRead nodes count (parts_of nodes n start count) leaf
    down leaf (place, less, v) =
        let F : ℕ → Type 0 = λ k. PartsRead nodes count (parts_of nodes n start k) leaf in
        ⊎_elim
        (λ (own : SomeOwn (IsLeafOf leaf) None (plan_at nodes n) start (replicate count true)).
        let l = leaf_of leaf None (plan_at nodes n) (start + own.0) own.2 in
        absurd (leaf_alone nodes n known shape has not (record { leaf = leaf; segment = l.0 }) None (start + own.0) l.1))
        (λ (p : PartsRead nodes count (parts_of nodes n start (length (replicate count true))) leaf). subst F long p)
        (parts_down nodes good None n known shape has start (replicate count true) (IsLeafOf leaf) (λ row none. none) (place, all_true count place less, v))

-- ---- one row

-- there is such a row, and it reads the leaf
abbrev pub IsRowRead : List Node → ℕ → ℕ → ℕ → Type 0
IsRowRead nodes n row leaf = (row < (node_at nodes n).rows) × RowReads nodes n row leaf

pub one_row : (nodes : List Node) (n row : ℕ) (old new : Sieve) → row < (node_at nodes n).rows → Meets (RowsRead nodes n row 1) old new → Meets (IsRowRead nodes n row) old new
one_row nodes n row old new inside meets = meets_as (RowsRead nodes n row 1) (IsRowRead nodes n row) old new to from meets
  where
    to : (leaf : ℕ) → RowsRead nodes n row 1 leaf → IsRowRead nodes n row leaf
    to leaf (place, less, v) =
        let same : row + place ≡ row = omega arith in
        (inside, subst (λ (k : ℕ). RowReads nodes n k leaf) same v)

    from : (leaf : ℕ) → IsRowRead nodes n row leaf → RowsRead nodes n row 1 leaf
    from leaf (there, v) =
        let same : row ≡ row + 0 = omega arith in
        (0, omega arith, subst (λ (k : ℕ). RowReads nodes n k leaf) same v)

-- ---- what was met in the end

-- the leaf that was looked for
pub found_met : (P : ℕ → Type 0) (old new : Sieve) (leaf : ℕ) → Meets P old new → place_in old.places leaf ≡ None → old.wanted ≡ leaf → old.found ≡ false → IsTrue new.found ↔ P leaf
found_met P old new leaf meets empty is not_yet = (λ t. ⊎_elim (λ (met : IsMet old leaf). absurd (none old.found not_yet (met.1 is))) (λ (p : P leaf). p) (meets.only leaf (meets.gone leaf empty, λ same. t)), λ p. (meets.all leaf p).1 (meets.wanted ∙ is))
  where
    none : (a : Bool) → a ≡ false → a ≡ true → ⊥
    none a e f = absurd cc

-- a leaf that stood in the index
pub place_met : (P : ℕ → Type 0) (old new : Sieve) (leaf place : ℕ) → Meets P old new → old.found ≡ true → place_in old.places leaf ≡ Some place → (place_in new.places leaf ≡ None) ↔ P leaf
place_met P old new leaf place meets nothing_else stands = (λ none. ⊎_elim (λ (met : IsMet old leaf). absurd (there met.0)) (λ (p : P leaf). p) (meets.only leaf (none, λ is. meets.found nothing_else)), λ p. (meets.all leaf p).0)
  where
    there : place_in old.places leaf ≡ None → ⊥
    there none = absurd cc

-- what is said of a test, said in other words
pub said_as : {S : Type 0} (A B C : Type 0) (p q : S) → (A ↔ B) × (q ≡ p) → (B ↔ C) → (A ↔ C) × (q ≡ p)
said_as A B C p q (says, same) bc = ((λ a. bc.0 (says.0 a), λ c. says.1 (bc.1 c)), same)
