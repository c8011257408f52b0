use Rattle.std.proofs.Common.{◌≡◌, ◌∙◌, ◌++◌, [], ◌∷◌, ℕ, List, Some, true, inl, inr, ap, refl, arith, rules}
use Rattle.std.specs.Global.{Vec}
use Rattle.std.proofs.lemmas.Grind.{common_steps}
use Rattle.vx_workers.specs.Merges.{no_memory}
use Rattle.vx_workers.proofs.Joining.{takes_worker, takes_more, TakesIt}
use Rattle.vx_workers.proofs.merges.merge_workers.Goals as goal
use Rattle.vx_workers.proofs.merges.merge_workers.Goals.{then-not-take_in, else-not-take_in}

pub loop-worker-preserved : goal.loop-worker-preserved
loop-worker-preserved c =
    let lists : c.push_reserved.new.self.items ≡ c.loop-worker.joined.claimed.items ++ c.in-Some.worker.claimed.items ∷ [] = search rules in
    let cap : c.push_reserved.new.self.cap ≡ c.loop-worker.joined.claimed.cap = search rules in
    let claimed : c.if-not-take_in.joined.claimed ≡ c.take_in.new.joined.claimed = elim c.if-not-take_in.branch [
      | then-not-take_in w ↦ search rules
      | else-not-take_in w ↦ search rules
    ]
    in
    let took : TakesIt c.loop-worker.joined c.in-Some.worker c.if-not-take_in.joined = elim c.if-not-take_in.branch [
      | then-not-take_in w ↦
          let pieces : c.if-not-take_in.joined.pieces.items ≡ c.take_in.new.joined.pieces.items = search rules in
          let borrowers : c.if-not-take_in.joined.borrowers.items ≡ c.take_in.new.joined.borrowers.items = search rules in
          let made : c.if-not-take_in.joined.made.items ≡ c.take_in.new.joined.made.items = search rules in
          let error : c.if-not-take_in.joined.error ≡ Some no_memory = search rules in
          takes_more _ _ _ _ _ _ lists c.lower-joined.ensures refl refl refl c.take_in.ensures (ap (λ (list : Vec (List ℕ)). list.items) claimed) pieces borrowers made (inl error)
      | else-not-take_in w ↦
          let pieces : c.if-not-take_in.joined.pieces.items ≡ c.take_in.new.joined.pieces.items = search rules in
          let borrowers : c.if-not-take_in.joined.borrowers.items ≡ c.take_in.new.joined.borrowers.items = search rules in
          let made : c.if-not-take_in.joined.made.items ≡ c.take_in.new.joined.made.items = search rules in
          let error : c.if-not-take_in.joined.error ≡ c.take_in.new.joined.error = search rules in
          let enough : c.take_in.result ≡ true = search rules in
          takes_more _ _ _ _ _ _ lists c.lower-joined.ensures refl refl refl c.take_in.ensures (ap (λ (list : Vec (List ℕ)). list.items) claimed) pieces borrowers made (inr (enough, error))
    ]
    in (
      takes_worker _ _ _ _ _ _ _ _ c.loop-worker.invariant.0 c.join.ensures took,
      grind (arith, common_steps),
      ap (λ (list : Vec (List ℕ)). list.cap) (claimed ∙ c.take_in.ensures.claimed) ∙ cap ∙ c.loop-worker.invariant.2,
    )
