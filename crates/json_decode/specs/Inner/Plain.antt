-- Strings without escapes. That they stand for their own bytes is the law `own_bytes`.
use Rattle.std.specs.Prelude.{List, ℕ, ◌+◌, drop, Option, Some, None}
use Rattle.ground.specs.Choice.{pick}
use Rattle.text_places.specs.Places.{starts}
use Rattle.json_string.specs.Inner.Plain.{plain_run}

-- the place of the quotation mark that ends the string from `start` on, where it follows plain bytes alone
abbrev pub plain_string : List ℕ → ℕ → Option ℕ
plain_string s start =
    let e = start + plain_run (drop start s) in
    pick (starts 0x22 (drop e s)) (Some e) None
