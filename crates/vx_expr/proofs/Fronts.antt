-- Rows up to the first fault, part by part.
use Rattle.std.proofs.Common.{◌≡◌, ◌≤◌, List, [], ◌∷◌, ◌++◌, length, map, take, replicate, Option, Some, None, option_map, option_and_then, refl, sym, ap, ◌∙◌, arith, append_assoc}
use Rattle.std.proofs.lemmas.List.{append-nil}
use Rattle.vx_expr.specs.Rows.{along, front}
use Rattle.vx_expr.specs.Types.{on_both}

-- ---- row by row
-- no rows without the second list
pub along_none : {A B C : Type 0} (f : A → B → C) (xs : List A) → along f xs [] ≡ []
along_none f [] = refl
along_none f (x ∷ xs) = refl

-- nothing is left to add
pub along_end : {A B C : Type 0} (f : A → B → C) (xs : List A) (ys : List B) (out whole : List C) → length ys ≤ 0 → out ++ along f xs ys ≡ whole → out ≡ whole
along_end {C = C} f xs [] out whole e h = sym (append-nil out) ∙ ap (λ (rest : List C). out ++ rest) (sym (along_none f xs)) ∙ h
along_end f xs (y ∷ ys) out whole e h = absurd (omega arith)

pub front_end : {A B C : Type 0} (f : A → B → Option C) (xs : List A) (ys : List B) (out whole : List C) → length ys ≤ 0 → out ++ front (along f xs ys) ≡ whole → out ≡ whole
front_end {C = C} f xs [] out whole e h = sym (append-nil out) ∙ ap (λ (rest : List (Option C)). out ++ front rest) (sym (along_none f xs)) ∙ h
front_end f xs (y ∷ ys) out whole e h = absurd (omega arith)

-- no more rows than the first list has
pub along_no_more_left : {A B C : Type 0} (f : A → B → C) (xs : List A) (ys : List B) → length (along f xs ys) ≤ length xs
along_no_more_left f [] ys = omega arith
along_no_more_left f (x ∷ xs) [] = omega arith
along_no_more_left f (x ∷ xs) (y ∷ ys) = omega (arith, along_no_more_left f xs ys)

front_no_more : {A : Type 0} (xs : List (Option A)) → length (front xs) ≤ length xs
front_no_more [] = omega arith
front_no_more (None ∷ xs) = omega arith
front_no_more (Some x ∷ xs) = omega (arith, front_no_more xs)

-- no more rows without a fault than the first list has
pub front_along_left : {A B C : Type 0} (f : A → B → Option C) (xs : List A) (ys : List B) → length (front (along f xs ys)) ≤ length xs
front_along_left f xs ys = omega (arith, front_no_more (along f xs ys), along_no_more_left f xs ys)

-- ---- rules without a fault
pub front_values : {A B : Type 0} (vs : List A) (ns : List B) → length ns ≡ length vs → front (along (λ v n. Some v) vs ns) ≡ vs
front_values [] ns e = refl
front_values (v ∷ vs) [] e = absurd (omega arith)
front_values {A} (v ∷ vs) (n ∷ ns) e = ap (λ (rest : List A). v ∷ rest) (front_values vs ns (omega arith))

pub front_numbers : {A B C : Type 0} (g : B → C) (vs : List A) (ns : List B) → length ns ≡ length vs → front (along (λ v n. Some (g n)) vs ns) ≡ map g ns
front_numbers g [] [] e = refl
front_numbers g [] (n ∷ ns) e = absurd (omega arith)
front_numbers g (v ∷ vs) [] e = absurd (omega arith)
front_numbers {C = C} g (v ∷ vs) (n ∷ ns) e = ap (λ (rest : List C). g n ∷ rest) (front_numbers g vs ns (omega arith))

pub front_constant : {A B C : Type 0} (w : C) (vs : List A) (ns : List B) → length ns ≡ length vs → front (along (λ v n. Some w) vs ns) ≡ replicate (length vs) w
front_constant w [] ns e = refl
front_constant w (v ∷ vs) [] e = absurd (omega arith)
front_constant {C = C} w (v ∷ vs) (n ∷ ns) e = ap (λ (rest : List C). w ∷ rest) (front_constant w vs ns (omega arith))

-- ---- a rule after another one
front_more : {A : Type 0} (r : Option A) (xs ys : List (Option A)) → front xs ≡ front ys → front (r ∷ xs) ≡ front (r ∷ ys)
front_more None xs ys h = refl
front_more {A} (Some x) xs ys h = ap (λ (rest : List A). x ∷ rest) h

then_more : {C D : Type 0} (g : C → Option D) (r : Option C) (xs : List (Option C)) (ys : List (Option D)) → front (map g (front xs)) ≡ front ys → front (map g (front (r ∷ xs))) ≡ front (option_and_then g r ∷ ys)
then_more g None xs ys h = refl
then_more g (Some c) xs ys h = front_more (g c) (map g (front xs)) ys h

pub front_then : {A B C D : Type 0} (g : C → Option D) (f : A → B → Option C) (vs : List A) (ns : List B) → front (map g (front (along f vs ns))) ≡ front (along (λ v n. option_and_then g (f v n)) vs ns)
front_then g f [] ns = refl
front_then g f (v ∷ vs) [] = refl
front_then g f (v ∷ vs) (n ∷ ns) = then_more g (f v n) (along f vs ns) (along (λ w m. option_and_then g (f w m)) vs ns) (front_then g f vs ns)

-- ---- a rule of two: the second is asked for the rows that the first has
pair_one : {C D E : Type 0} (h : C → D → Option E) (c : C) (s : Option D) (xs : List C) (ws : List (Option D)) (ys : List (Option E)) → front (along h xs (front ws)) ≡ front ys → front (along h (c ∷ xs) (front (s ∷ ws))) ≡ front (on_both h (Some c) s ∷ ys)
pair_one h c None xs ws ys e = refl
pair_one h c (Some d) xs ws ys e = front_more (h c d) (along h xs (front ws)) ys e

pair_more : {A B C D E : Type 0} (h : C → D → Option E) (g : A → B → Option D) (r : Option C) (v : A) (n : B) (vs : List A) (ns : List B) (xs : List (Option C)) (ys : List (Option E))
    → front (along h (front xs) (front (along g (take (length (front xs)) vs) (take (length (front xs)) ns)))) ≡ front ys
    → front (along h (front (r ∷ xs)) (front (along g (take (length (front (r ∷ xs))) (v ∷ vs)) (take (length (front (r ∷ xs))) (n ∷ ns))))) ≡ front (on_both h r (g v n) ∷ ys)
pair_more h g None v n vs ns xs ys e = refl
pair_more h g (Some c) v n vs ns xs ys e = pair_one h c (g v n) (front xs) (along g (take (length (front xs)) vs) (take (length (front xs)) ns)) ys e

pub front_pair : {A B C D E : Type 0} (h : C → D → Option E) (f : A → B → Option C) (g : A → B → Option D) (vs : List A) (ns : List B)
    → front (along h (front (along f vs ns)) (front (along g (take (length (front (along f vs ns))) vs) (take (length (front (along f vs ns))) ns)))) ≡ front (along (λ v n. on_both h (f v n) (g v n)) vs ns)
front_pair h f g [] ns = refl
front_pair h f g (v ∷ vs) [] = refl
front_pair h f g (v ∷ vs) (n ∷ ns) = pair_more h g (f v n) v n vs ns (along f vs ns) (along (λ w m. on_both h (f w m) (g w m)) vs ns) (front_pair h f g vs ns)

-- ---- rows of several values, one value after another
-- the values of each row so far, with those that the rule still gives
abbrev pub continued : {A B D : Type 0} → List (List D) → (A → B → Option (List D)) → List A → List B → List (Option (List D))
continued [] f vs ns = []
continued (r ∷ rows) f [] ns = []
continued (r ∷ rows) f (v ∷ vs) [] = []
continued (r ∷ rows) f (v ∷ vs) (n ∷ ns) = option_map (λ ws. r ++ ws) (f v n) ∷ continued rows f vs ns

-- a value before others
abbrev pub put_before : {D : Type 0} → D → List D → Option (List D)
put_before d ds = Some (d ∷ ds)

abbrev pub put_behind : {D : Type 0} → List D → D → List D
put_behind ds d = ds ++ d ∷ []

row_same : {D : Type 0} (r : List D) (d : D) (y : Option (List D)) → option_map (λ ws. r ++ ws) (on_both put_before (Some d) y) ≡ option_map (λ ws. put_behind r d ++ ws) y
row_same r d None = refl
row_same {D} r d (Some ws) = ap (λ (row : List D). Some row) (sym (append_assoc r (d ∷ []) ws))

row_more : {D : Type 0} (s y : Option (List D)) → s ≡ y → (xs ys : List (Option (List D))) → front xs ≡ front ys → front (s ∷ xs) ≡ front (y ∷ ys)
row_more {D} s y e xs ys h = ap (λ (o : Option (List D)). front (o ∷ xs)) e ∙ front_more y xs ys h

value_more : {A B D : Type 0} (f h : A → B → Option (List D)) (s : Option D) (r : List D) (v : A) (n : B) (rows : List (List D)) (vs : List A) (ns : List B) (gs : List (Option D))
    → front (continued rows f vs ns) ≡ front (continued (along put_behind rows (front gs)) h vs ns)
    → front (option_map (λ ws. r ++ ws) (on_both put_before s (h v n)) ∷ continued rows f vs ns) ≡ front (continued (along put_behind (r ∷ rows) (front (s ∷ gs))) h (v ∷ vs) (n ∷ ns))
value_more f h None r v n rows vs ns gs e = refl
value_more f h (Some d) r v n rows vs ns gs e = row_more _ _ (row_same r d (h v n)) (continued rows f vs ns) (continued (along put_behind rows (front gs)) h vs ns) e

-- one value more in each row
pub continued_more : {A B D : Type 0} (g : A → B → Option D) (h : A → B → Option (List D)) (rows : List (List D)) (vs : List A) (ns : List B)
    → front (continued rows (λ v n. on_both put_before (g v n) (h v n)) vs ns) ≡ front (continued (along put_behind rows (front (along g (take (length rows) vs) (take (length rows) ns)))) h vs ns)
continued_more g h [] vs ns = refl
continued_more g h (r ∷ rows) [] ns = refl
continued_more g h (r ∷ rows) (v ∷ vs) [] = refl
continued_more g h (r ∷ rows) (v ∷ vs) (n ∷ ns) = value_more (λ w m. on_both put_before (g w m) (h w m)) h (g v n) r v n rows vs ns (along g (take (length rows) vs) (take (length rows) ns)) (continued_more g h rows vs ns)

as_it_is : {D : Type 0} (y : Option (List D)) → option_map (λ ws. [] ++ ws) y ≡ y
as_it_is None = refl
as_it_is (Some ws) = refl

-- rows without values, at the start
pub continued_start : {A B D : Type 0} (f : A → B → Option (List D)) (vs : List A) (ns : List B) → continued (replicate (length vs) []) f vs ns ≡ along f vs ns
continued_start f [] ns = refl
continued_start f (v ∷ vs) [] = refl
continued_start {D = D} f (v ∷ vs) (n ∷ ns) = ap (λ (y : Option (List D)). y ∷ continued (replicate (length vs) []) f vs ns) (as_it_is (f v n)) ∙ ap (λ (rest : List (Option (List D))). f v n ∷ rest) (continued_start f vs ns)

-- no value is left, at the end
pub continued_done : {A B D : Type 0} (rows : List (List D)) (vs : List A) (ns : List B) → length rows ≤ length vs → length rows ≤ length ns → front (continued rows (λ v n. Some []) vs ns) ≡ rows
continued_done [] vs ns p q = refl
continued_done (r ∷ rows) [] ns p q = absurd (omega arith)
continued_done (r ∷ rows) (v ∷ vs) [] p q = absurd (omega arith)
continued_done {D = D} (r ∷ rows) (v ∷ vs) (n ∷ ns) p q = ap (λ (one : List D). one ∷ front (continued rows (λ w m. Some []) vs ns)) (append-nil r) ∙ ap (λ (rest : List (List D)). r ∷ rest) (continued_done rows vs ns (omega arith) (omega arith))
