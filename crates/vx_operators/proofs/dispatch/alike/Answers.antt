use Rattle.std.proofs.Common.{inl, inr, refl}
use Rattle.std.specs.Prelude.{IsTrue}
use Rattle.vx_operators.specs.ColumnarValues.{HoldsTruths, HoldsTexts, HoldsNumbers}
use Rattle.vx_operators.proofs.AlikeRows.{unlike_kinds, unlike_none}
use Rattle.vx_operators.proofs.dispatch.alike.Goals as goal

pub returns-then-are_truths-clause-alike : goal.returns-then-are_truths-clause-alike
returns-then-are_truths-clause-alike c = (λ h. inl (c.are_truths.ensures.0 c.if-are_truths.true), λ a. refl)

pub returns-then-are_texts-clause-alike : goal.returns-then-are_texts-clause-alike
returns-then-are_texts-clause-alike c = (λ h. inr (inl (c.are_texts.ensures.0 c.if-are_texts.true)), λ a. refl)

pub returns-then-is_of-clause-alike : goal.returns-then-is_of-clause-alike
returns-then-is_of-clause-alike c = (λ h. inr (inr (c.in-Some.kind, ((c.in-Some.ensures.kind, c.in-Some.ensures.columnar), c.is_of.ensures.0 c.if-is_of.true))), λ a. refl)

pub returns-else-is_of-clause-alike : goal.returns-else-is_of-clause-alike
returns-else-is_of-clause-alike c =
    let left = c.args.left.now in
    let right = c.args.right.now in
    let no_truths : HoldsTruths left × HoldsTruths right → ⊥ = λ both. (let yes : IsTrue c.are_truths.result = c.are_truths.ensures.1 both in absurd cc) in
    let no_texts : HoldsTexts left × HoldsTexts right → ⊥ = λ both. (let yes : IsTrue c.are_texts.result = c.are_texts.ensures.1 both in absurd cc) in
    let none : HoldsNumbers c.in-Some.kind right → ⊥ = λ numbers. (let yes : IsTrue c.is_of.result = c.is_of.ensures.1 numbers in absurd cc) in
    (λ h. absurd cc, λ a. absurd (unlike_kinds left right no_truths no_texts c.in-Some.kind c.in-Some.ensures.kind none a))

pub returns-in-None-clause-alike : goal.returns-in-None-clause-alike
returns-in-None-clause-alike c =
    let left = c.args.left.now in
    let right = c.args.right.now in
    let no_truths : HoldsTruths left × HoldsTruths right → ⊥ = λ both. (let yes : IsTrue c.are_truths.result = c.are_truths.ensures.1 both in absurd cc) in
    let no_texts : HoldsTexts left × HoldsTexts right → ⊥ = λ both. (let yes : IsTrue c.are_texts.result = c.are_texts.ensures.1 both in absurd cc) in
    (λ h. absurd cc, λ a. absurd (unlike_none left right no_truths no_texts (c.in-None.ensures.none refl) a))
