-- Writing a text front by front.
use Rattle.std.proofs.Common.{◌≡◌, ℕ, ◌+◌, ◌-◌, ◌≤◌, ◌++◌, List, length, take, drop, Option, Some, None, option_map, refl, sym, ap, ◌∙◌, append_assoc, arith}
use Rattle.std.proofs.Math.Seq.{take-add}
use Rattle.std.proofs.lemmas.List.{length-drop}
use Rattle.vx_base.specs.Streams.{WriteState, Took}

-- so much of the text was written
pub record WroteSoFar (done : ℕ) (text : List ℕ) (old new : WriteState) : Type 0 where
  pub bound : done ≤ length text
  pub written : new.written ≡ option_map (λ written. written ++ take done text) old.written
  pub faults : new.faults ≡ old.faults

written_more : (done more : ℕ) (text : List ℕ) (old : Option (List ℕ)) → option_map (λ (w : List ℕ). w ++ take more (drop done text)) (option_map (λ (w : List ℕ). w ++ take done text) old) ≡ option_map (λ (w : List ℕ). w ++ take (done + more) text) old
written_more done more text None = refl
written_more done more text (Some w) = ap (λ (x : List ℕ). Some x) (append_assoc w (take done text) (take more (drop done text)) ∙ ap (λ (x : List ℕ). w ++ x) (sym (take-add done more text)))

-- another front of what was left
pub wrote_more : (done more : ℕ) (text piece : List ℕ) (old mid new : WriteState) → piece ≡ drop done text → WroteSoFar done text old mid → Took more piece mid new → WroteSoFar (done + more) text old new
wrote_more done more text piece old mid new is so_far took = record {
  bound = let fits : length piece ≡ length text - done = ap length is ∙ length-drop done text in omega (arith, so_far.bound, took.bound, fits);
  written = took.written ∙ ap (λ (p : List ℕ). option_map (λ (w : List ℕ). w ++ take more p) mid.written) is ∙ ap (option_map (λ (w : List ℕ). w ++ take more (drop done text))) so_far.written ∙ written_more done more text old.written;
  faults = took.faults ∙ so_far.faults;
}
