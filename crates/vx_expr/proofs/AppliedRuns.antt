-- Rows that lie in runs: what is worth something at each run is at each of its rows, and so is a fault.
use Rattle.std.proofs.Common.{◌≡◌, ℕ, zero, suc, ◌+◌, ◌-◌, ◌<◌, ◌≤◌, false, true, List, [], ◌∷◌, ◌++◌, length, map, take, get_or, replicate, Option, Some, None, refl, sym, ap, ◌∙◌, arith}
use Rattle.std.specs.Prelude.{slice_get, is_some}
use Rattle.std.specs.List.{list_all}
use Rattle.std.proofs.lemmas.List.{length-map}
use Rattle.std.proofs.lemmas.Option.{slice_get_within}
use Rattle.vx_base.specs.Data.{Datum}
use Rattle.vx_base.specs.RunRows.{Rise, start_of, HasRow}
use Rattle.vx_base.specs.Runs.{spread}
use Rattle.vx_base.proofs.SpreadRuns.{map_spread, rise_at, row_of, start_up}
use Rattle.vx_expr.specs.Bound.{Bound}
use Rattle.vx_expr.specs.Meaning.{meaning}
use Rattle.vx_expr.specs.Mentions.{uses_row_number}
use Rattle.vx_expr.specs.Rows.{no_bound, worth, worth_of_each, IsFirstFault}
use Rattle.vx_expr.proofs.AnyRow.{worth_at_any_rows}

-- ---- the rows before a run
take_past : {A : Type 0} (n k j : ℕ) (v : A) (rest : List A) → k ≡ n + j → take k (replicate n v ++ rest) ≡ replicate n v ++ take j rest
take_past zero k j v rest e = let same : k ≡ j = omega arith in ap (λ (m : ℕ). take m rest) same
take_past (suc n) zero j v rest e = absurd (omega arith)
take_past {A} (suc n) (suc k) j v rest e = ap (λ (xs : List A). v ∷ xs) (take_past n k j v rest (omega arith))

rows_before : {A : Type 0} (from : ℕ) (vs : List A) (ends : List ℕ) (run : ℕ) → length ends ≡ length vs → Rise from ends → run ≤ length ends → take (start_of from ends run - from) (spread from vs ends) ≡ spread from (take run vs) ends
rows_before from vs ends zero e h le = let none : from - from ≡ 0 = omega arith in ap (λ (m : ℕ). take m (spread from vs ends)) none
rows_before from vs [] (suc run) e h le = absurd (omega arith)
rows_before from [] (end ∷ ends) (suc run) e h le = absurd (omega arith)
rows_before {A} from (v ∷ vs) (end ∷ ends) (suc run) e h le =
    let up = start_up end ends run h.1 (omega arith) in
    take_past (end - from) (start_of end ends run - from) (start_of end ends run - end) v (spread end vs ends) (omega (arith, h.0, up))
    ∙ ap (λ (xs : List A). replicate (end - from) v ++ xs) (rows_before end vs ends run (omega arith) h.1 (omega arith))

some_alike : {A : Type 0} (n : ℕ) (x : A) (rest : List (Option A)) → list_all is_some rest ≡ true → list_all is_some (replicate n (Some x) ++ rest) ≡ true
some_alike zero x rest h = h
some_alike (suc n) x rest h = some_alike n x rest h

some_spread : {A : Type 0} (from : ℕ) (ms : List (Option A)) (ends : List ℕ) → list_all is_some ms ≡ true → list_all is_some (spread from ms ends) ≡ true
some_spread from [] ends h = refl
some_spread from (m ∷ ms) [] h = refl
some_spread from (None ∷ ms) (end ∷ ends) h = absurd cc
some_spread from (Some x ∷ ms) (end ∷ ends) h = some_alike (end - from) x (spread end ms ends) (some_spread end ms ends h)

-- ---- the first fault
pub fault_inside : {A : Type 0} (ms : List (Option A)) (run : ℕ) → IsFirstFault ms run → run < length ms
fault_inside ms run h = slice_get_within ms run None h.here

-- it is that of the first faulting run, at the first of its rows
pub fault_spread : {A : Type 0} (ms : List (Option A)) (ends : List ℕ) (run : ℕ) → length ends ≡ length ms → Rise 0 ends → IsFirstFault ms run → IsFirstFault (spread 0 ms ends) (start_of 0 ends run)
fault_spread {A} ms ends run e rise h =
    let start = start_of 0 ends run in
    let inside : run < length ends = omega (arith, e, fault_inside ms run h) in
    let plain : start ≡ start - 0 = omega arith in
    record {
      here = row_of ms ends start run e rise (record { there = inside; from = omega arith; below = rise_at 0 ends run rise inside }) ∙ h.here;
      before = ap (λ (m : ℕ). list_all is_some (take m (spread 0 ms ends))) plain ∙ ap (list_all is_some) (rows_before 0 ms ends run e rise (omega arith)) ∙ some_spread 0 (take run ms) ends h.before;
    }

-- ---- an expression over the values of the runs alone
pub length_each : (a : Bound) (vs : List Datum) → length (worth_of_each a vs) ≡ length vs
length_each a vs = length-map vs (λ v. meaning a.root no_bound a.term v 0)

-- what it is worth at the runs, whatever numbers they have
pub runs_worth : (a : Bound) (vs ns ws : List Datum) (ends : List ℕ) → uses_row_number a.term ≡ false → length ns ≡ length vs → map Some ws ≡ worth a vs ns → map Some (spread 0 ws ends) ≡ spread 0 (worth_of_each a vs) ends
runs_worth a vs ns ws ends h len e = map_spread Some 0 ws ends ∙ ap (λ (ms : List (Option Datum)). spread 0 ms ends) (e ∙ worth_at_any_rows a vs ns h len)

-- it has as many values as runs
pub runs_count : (a : Bound) (vs ns ws : List Datum) → uses_row_number a.term ≡ false → length ns ≡ length vs → map Some ws ≡ worth a vs ns → length ws ≡ length vs
runs_count a vs ns ws h len e = sym (length-map ws Some) ∙ ap length (e ∙ worth_at_any_rows a vs ns h len) ∙ length_each a vs

-- the same at the rows
pub rows_worth : (a : Bound) (vs rows ns : List Datum) (ends : List ℕ) → uses_row_number a.term ≡ false → spread 0 vs ends ≡ rows → length ns ≡ length rows → spread 0 (worth_of_each a vs) ends ≡ worth a rows ns
rows_worth a vs rows ns ends h is len = sym (map_spread (λ v. meaning a.root no_bound a.term v 0) 0 vs ends) ∙ ap (worth_of_each a) is ∙ sym (worth_at_any_rows a rows ns h len)
