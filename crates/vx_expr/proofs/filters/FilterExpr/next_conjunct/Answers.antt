use Rattle.std.proofs.Common.{false, ◌≡◌, true, get_or, sym, ap, ◌∙◌, find, refl, length, arith, Bool, Option}
use Rattle.std.specs.Prelude.{unwrap_or}
use Rattle.std.proofs.lemmas.List.{at_drop_all}
use Rattle.vx_expr.proofs.Conjuncts.{find_next, find_here, none_left, some_left}
use Rattle.vx_expr.proofs.filters.FilterExpr.next_conjunct.Goals as goal

pub loop-conjunct-preserved : goal.loop-conjunct-preserved
loop-conjunct-preserved c =
    let fails : get_or c.args.remaining.now (get_or c.deref-conjunct-items.result.now c.loop-conjunct.conjunct-index 0) false ≡ false = sym (c.get.ensures.lookup.4 (omega arith) false) ∙ sym (ap (λ (o : Option Bool). unwrap_or o false) c.copied.ensures) ∙ sym c.unwrap_or.ensures ∙ c.if-unwrap_or.false in
    sym (find_next (λ k. get_or c.args.remaining.now k false) c.deref-conjunct-items.result.now c.loop-conjunct.conjunct-index c.loop-conjunct-test.true fails) ∙ c.loop-conjunct.invariant

pub returns-then-unwrap_or-clause-first : goal.returns-then-unwrap_or-clause-first
returns-then-unwrap_or-clause-first c =
    let passes : get_or c.args.remaining.now (get_or c.deref-conjunct-items.result.now c.loop-conjunct.conjunct-index 0) false ≡ true = sym (c.get.ensures.lookup.4 (omega arith) false) ∙ sym (ap (λ (o : Option Bool). unwrap_or o false) c.copied.ensures) ∙ sym c.unwrap_or.ensures ∙ c.if-unwrap_or.true in
    let found = find_here (λ k. get_or c.args.remaining.now k false) c.deref-conjunct-items.result.now c.loop-conjunct.conjunct-index c.loop-conjunct-test.true passes in
    rw (← c.self.view_is, ← c.deref-conjunct-items.ensures.value) (sym found ∙ c.loop-conjunct.invariant)

pub returns-clause-first : goal.returns-clause-first
returns-clause-first c =
    let nothing = sym c.loop-conjunct.invariant ∙ at_drop_all (find (λ k. get_or c.args.remaining.now k false)) c.deref-conjunct-items.result.now c.loop-conjunct.conjunct-index c.loop-conjunct-test.false in
    rw (← c.self.view_is, ← c.deref-conjunct-items.ensures.value) (sym nothing)

pub returns-then-unwrap_or-clause-none : goal.returns-then-unwrap_or-clause-none
returns-then-unwrap_or-clause-none c =
    let passes : get_or c.args.remaining.now (get_or c.deref-conjunct-items.result.now c.loop-conjunct.conjunct-index 0) false ≡ true = sym (c.get.ensures.lookup.4 (omega arith) false) ∙ sym (ap (λ (o : Option Bool). unwrap_or o false) c.copied.ensures) ∙ sym c.unwrap_or.ensures ∙ c.if-unwrap_or.true in
    let found = find_here (λ k. get_or c.args.remaining.now k false) c.deref-conjunct-items.result.now c.loop-conjunct.conjunct-index c.loop-conjunct-test.true passes in
    some_left c.args.remaining.now c.deref-conjunct-items.result.now (get_or c.deref-conjunct-items.result.now c.loop-conjunct.conjunct-index 0) (sym c.loop-conjunct.invariant ∙ found)

pub returns-clause-none : goal.returns-clause-none
returns-clause-none c =
    let nothing = sym c.loop-conjunct.invariant ∙ at_drop_all (find (λ k. get_or c.args.remaining.now k false)) c.deref-conjunct-items.result.now c.loop-conjunct.conjunct-index c.loop-conjunct-test.false in
    let same : length c.args.remaining.now ≡ length c.self.inside.conjuncts.items = rw (← c.self.view_is) at c.requires in
    (λ e. none_left c.args.remaining.now (length c.self.inside.conjuncts.items) c.self.inside.ordering.items same c.self.invariant.ordered (rw c.deref-conjunct-items.ensures.value at nothing), λ all. refl)
