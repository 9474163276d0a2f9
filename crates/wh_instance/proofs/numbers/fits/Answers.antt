use Rattle.std.proofs.Common.{rules}
use Rattle.std.proofs.lemmas.Int.{to_z-of_z}
use Rattle.wh_instance.proofs.Given.{fits_32, fits_64}
use Rattle.wh_instance.proofs.numbers.fits.Goals as goal

pub returns-then-number-geminus2147483648 : goal.returns-then-number-geminus2147483648
returns-then-number-geminus2147483648 c = search (rules, fits_32, to_z-of_z)

pub returns-then-number-geminus9223372036854775808 : goal.returns-then-number-geminus9223372036854775808
returns-then-number-geminus9223372036854775808 c = search (rules, fits_64, to_z-of_z)
