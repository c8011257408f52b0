-- Each expression as a tree of numbers, one to one: what a struct's model asks of its value.
use Rattle.std.proofs.Common.{◌≡◌, ℕ, zero, suc, refl, sym, ap, ◌∙◌}
use base.Stored.{Gv, gnil, gnum, gcons, Coded}
use Rattle.vx_base.specs.Codes.{coded_name, coded_type, coded_datum}
use Rattle.vx_operators.specs.declared.operators.CompareOp.{CompareOp}
use Rattle.vx_operators.specs.declared.operators.CompareOp.TheVariants.{Eq, Ne, Lt, Le, Gt, Ge}
use Rattle.vx_operators.specs.declared.operators.ArithOp.{ArithOp}
use Rattle.vx_operators.specs.declared.operators.ArithOp.TheVariants.{Add, Sub, Mul, Div}
use Rattle.vx_expr.specs.Terms.{Term, root, literal, get_field, pack, negation, conjunction, disjunction, comparison, null_test, value_test, arithmetic, row_number, bound_test, Terms, no_terms, named}

-- ---- numbers in place of the operators
abbrev number_of_compare : CompareOp → ℕ
number_of_compare Eq = 0
number_of_compare Ne = 1
number_of_compare Lt = 2
number_of_compare Le = 3
number_of_compare Gt = 4
number_of_compare Ge = 5

abbrev compare_at : ℕ → CompareOp
compare_at zero = Eq
compare_at (suc zero) = Ne
compare_at (suc (suc zero)) = Lt
compare_at (suc (suc (suc zero))) = Le
compare_at (suc (suc (suc (suc zero)))) = Gt
compare_at (suc (suc (suc (suc (suc n))))) = Ge

compare_back : (op : CompareOp) → compare_at (number_of_compare op) ≡ op
compare_back Eq = refl
compare_back Ne = refl
compare_back Lt = refl
compare_back Le = refl
compare_back Gt = refl
compare_back Ge = refl

compare_same : (a b : CompareOp) → number_of_compare a ≡ number_of_compare b → a ≡ b
compare_same a b e = sym (compare_back a) ∙ ap compare_at e ∙ compare_back b

abbrev number_of_arith : ArithOp → ℕ
number_of_arith Add = 0
number_of_arith Sub = 1
number_of_arith Mul = 2
number_of_arith Div = 3

abbrev arith_at : ℕ → ArithOp
arith_at zero = Add
arith_at (suc zero) = Sub
arith_at (suc (suc zero)) = Mul
arith_at (suc (suc (suc n))) = Div

arith_back : (op : ArithOp) → arith_at (number_of_arith op) ≡ op
arith_back Add = refl
arith_back Sub = refl
arith_back Mul = refl
arith_back Div = refl

arith_same : (a b : ArithOp) → number_of_arith a ≡ number_of_arith b → a ≡ b
arith_same a b e = sym (arith_back a) ∙ ap arith_at e ∙ arith_back b

-- the two parts of a form's number
abbrev tag : ℕ → ℕ → Gv
tag a b = gcons (gnum a) (gnum b)

-- ---- expressions
abbrev mutual
  code_term : Term → Gv
  code_term root = gcons (tag 0 0) gnil
  code_term (literal v t) = gcons (tag 0 1) (gcons (coded_datum.code v) (coded_type.code t))
  code_term (get_field name e) = gcons (tag 0 2) (gcons (coded_name.code name) (code_term e))
  code_term (pack es) = gcons (tag 0 3) (code_terms es)
  code_term (negation e) = gcons (tag 1 0) (code_term e)
  code_term (conjunction a b) = gcons (tag 1 1) (gcons (code_term a) (code_term b))
  code_term (disjunction a b) = gcons (tag 1 2) (gcons (code_term a) (code_term b))
  code_term (comparison op a b) = gcons (tag 1 3) (gcons (gnum (number_of_compare op)) (gcons (code_term a) (code_term b)))
  code_term (null_test e) = gcons (tag 2 0) (code_term e)
  code_term (value_test e) = gcons (tag 2 1) (code_term e)
  code_term (arithmetic op a b) = gcons (tag 2 2) (gcons (gnum (number_of_arith op)) (gcons (code_term a) (code_term b)))
  code_term row_number = gcons (tag 2 3) gnil
  code_term (bound_test e) = gcons (tag 3 0) (code_term e)

  code_terms : Terms → Gv
  code_terms no_terms = gnil
  code_terms (named name e es) = gcons (coded_name.code name) (gcons (code_term e) (code_terms es))

mutual
  pub term_same : (d e : Term) → code_term d ≡ code_term e → d ≡ e
  term_same root root h = refl
  term_same (literal v s) (literal w t) h =
      let p : v ≡ w = coded_datum.inj v w cc in
      let q : s ≡ t = coded_type.inj s t cc in
      cc
  term_same (get_field n d) (get_field m e) h =
      let p : n ≡ m = coded_name.inj n m cc in
      let q : d ≡ e = term_same d e cc in
      cc
  term_same (pack ds) (pack es) h = ap pack (terms_same ds es cc)
  term_same (negation d) (negation e) h = ap negation (term_same d e cc)
  term_same (conjunction a b) (conjunction c d) h =
      let p : a ≡ c = term_same a c cc in
      let q : b ≡ d = term_same b d cc in
      cc
  term_same (disjunction a b) (disjunction c d) h =
      let p : a ≡ c = term_same a c cc in
      let q : b ≡ d = term_same b d cc in
      cc
  term_same (comparison x a b) (comparison y c d) h =
      let o : x ≡ y = compare_same x y cc in
      let p : a ≡ c = term_same a c cc in
      let q : b ≡ d = term_same b d cc in
      cc
  term_same (null_test d) (null_test e) h = ap null_test (term_same d e cc)
  term_same (value_test d) (value_test e) h = ap value_test (term_same d e cc)
  term_same (arithmetic x a b) (arithmetic y c d) h =
      let o : x ≡ y = arith_same x y cc in
      let p : a ≡ c = term_same a c cc in
      let q : b ≡ d = term_same b d cc in
      cc
  term_same row_number row_number h = refl
  term_same (bound_test d) (bound_test e) h = ap bound_test (term_same d e cc)
  term_same _ _ h = absurd cc

  pub terms_same : (ds es : Terms) → code_terms ds ≡ code_terms es → ds ≡ es
  terms_same no_terms no_terms h = refl
  terms_same (named n d ds) (named m e es) h =
      let p : n ≡ m = coded_name.inj n m cc in
      let q : d ≡ e = term_same d e cc in
      let r : ds ≡ es = terms_same ds es cc in
      cc
  terms_same _ _ h = absurd cc

abbrev pub coded_term : Coded Term
coded_term = record { code = code_term; inj = term_same }

abbrev pub coded_terms : Coded Terms
coded_terms = record { code = code_terms; inj = terms_same }
