use Rattle.std.proofs.Common.{◌≡◌, ◌+◌, ◌∷◌, drop, get_or, None, Some, sym, ap, ◌∙◌}
use Rattle.std.proofs.lemmas.List.{drop_more}
use Rattle.vx_expr.specs.declared.found.Found.TheVariants.{Place}
use Rattle.vx_expr.proofs.found.Finds.next.Goals as goal

pub returns-then-self : goal.returns-then-self
returns-then-self c = λ one rest e.
    let found = c.args.self.now.found.now in
    let at = c.args.self.now.next in
    let both : get_or found at (Place None) ∷ drop (at + 1) found ≡ one ∷ rest = sym (drop_more found at (Place None) c.if-self.true) ∙ e in
    let first : get_or found at (Place None) ≡ one = cc in
    let others : drop (at + 1) found ≡ rest = cc in
    (ap Some first, others)
