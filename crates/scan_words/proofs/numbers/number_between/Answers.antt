use Rattle.std.proofs.Common.{◌∙◌, sym}
use Rattle.std.specs.declared.num.ParseIntError.{ParseIntError}
use Rattle.scan_words.proofs.Digits.{no_number, number_read, number_too_large}
use Rattle.scan_words.proofs.numbers.number_between.Goals as goal

pub returns-then-not-is_digits-clause-number : goal.returns-then-not-is_digits-clause-number
returns-then-not-is_digits-clause-number c = no_number c.args.least c.args.most c.args.text.now (sym c.is_digits.ensures ∙ c.if-not-is_digits.true)

pub returns-in-Ok-clause-number : goal.returns-in-Ok-clause-number
returns-in-Ok-clause-number c = c.where_between.ensures.number ∙ number_read ParseIntError c.args.least c.args.most c.args.text.now c.in-Ok.number (sym c.is_digits.ensures ∙ c.if-not-is_digits.false) c.in-Ok.ensures.value.0

pub returns-in-Err-clause-number : goal.returns-in-Err-clause-number
returns-in-Err-clause-number c =
    let most = c.ranges.most.fits in
    number_too_large ParseIntError c.args.least c.args.most c.args.text.now c.in-Err.field-0 (sym c.is_digits.ensures ∙ c.if-not-is_digits.false) c.in-Err.ensures.value.0 most
