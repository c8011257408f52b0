-- Statistics as numbers, one to one: what the model of a list of them asks of its value.
use Rattle.std.specs.Prelude.{◌≡◌, ℕ, zero, suc, List, refl}
use Rattle.std.specs.Coded.{Coded, code_by, coded_ℕ, coded_list}
use Rattle.vx_expr.specs.declared.statistics.Statistic.{Statistic}
use Rattle.vx_expr.specs.declared.statistics.Statistic.TheVariants.{Min, Max, NullCount}

abbrev pub number_of_statistic : Statistic → ℕ
number_of_statistic Min = 0
number_of_statistic Max = 1
number_of_statistic NullCount = 2

abbrev pub statistic_at : ℕ → Statistic
statistic_at zero = Min
statistic_at (suc zero) = Max
statistic_at (suc (suc n)) = NullCount

pub statistic_back : (s : Statistic) → statistic_at (number_of_statistic s) ≡ s
statistic_back Min = refl
statistic_back Max = refl
statistic_back NullCount = refl

abbrev pub coded_statistic : Coded Statistic
coded_statistic = code_by ℕ coded_ℕ number_of_statistic statistic_at statistic_back

abbrev pub coded_statistics : Coded (List Statistic)
coded_statistics = coded_list coded_statistic
