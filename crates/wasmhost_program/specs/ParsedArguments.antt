-- What the parser found in words.
use Rattle.std.specs.Prelude.{◌≡◌, List, Some, codes}
use Rattle.clap.specs.Words.{IsUnsignedIn, Text, first_value, found_of, one_text}
use Rattle.clap.specs.declared.parser.matches.ArgMatches.{ArgMatches}
use Rattle.wasmhost_program.specs.Accepted.{given_in}

-- It found what is given in the words, as it was written; and for the workers a number from 1 to 64.
pub record FindsIn (words : List Text) (m : ArgMatches) : Type 0 where
  pub first : (option : Text) → first_value (found_of m) option ≡ given_in words option
  pub one : one_text (found_of m) (codes "workers") ≡ given_in words (codes "workers")
  pub number : (text : Text) → one_text (found_of m) (codes "workers") ≡ Some text → IsUnsignedIn 1 64 text
