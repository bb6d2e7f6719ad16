-- Bytes of a string that are chars by themselves.
use Rattle.std.specs.Prelude.{◌≡◌, Bool, true, false, List, [], ◌∷◌, ℕ, suc, eqb, leb}
use Rattle.ground.specs.Choice.{pick}
use Rattle.ground.specs.Inner.Along.{Along}

-- a byte that is a char by itself: it ends no string, starts no escape and is no control character
abbrev pub is_plain : ℕ → Bool
is_plain x = pick (eqb x 0x22) false (pick (eqb x 0x5C) false (leb 0x20 x))

-- all bytes from one place up to another are plain
abbrev pub PlainTo : List ℕ → ℕ → ℕ → Type 0
PlainTo s «from» to = Along (λ x. is_plain x ≡ true) s «from» to

-- how many plain bytes stand at the head
unfoldable pub plain_run : List ℕ → ℕ
plain_run [] = 0
plain_run (x ∷ s) =
    let more = suc (plain_run s) in
    pick (is_plain x) more 0
