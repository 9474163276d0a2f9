-- Pages of 4096 bytes.
use Rattle.std.specs.Prelude.{ℕ, List, replicate}

-- a page of zeros. It is named, and opened only where it is made or looked at: written out it is 4096 numbers long
unfoldable pub zero_page : List ℕ
zero_page = replicate 4096 0
