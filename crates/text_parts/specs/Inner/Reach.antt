-- How far a text is UTF-8, told for one place in each group of 128 bytes.
use Rattle.std.specs.Prelude.{◌≡◌, Bool, true, false, not, List, [], ◌∷◌, ℕ, zero, suc, ◌+◌, ◌-◌, ◌*◌, ◌≤◌, ◌<◌, ltb, eqb, length, get_or, drop, Result, Ok, Err}
use Rattle.ground.specs.Choice.{pick, within}
use Rattle.text_utf8.specs.Utf8.{check_of}
use Rattle.text_utf8.specs.declared.check.Broken.{Broken}

-- RFC 3629's UTF8-tail
abbrev pub is_tail : ℕ → Bool
is_tail x = within 0x80 0xBF x

-- how many of them stand at the head, `n` at most
unfoldable pub tails_up_to : ℕ → List ℕ → ℕ
tails_up_to zero s = 0
tails_up_to (suc n) [] = 0
tails_up_to (suc n) (x ∷ s) =
    let more = suc (tails_up_to n s) in
    pick (is_tail x) more 0

abbrev pub tails_at : List ℕ → ℕ → ℕ
tails_at s at = tails_up_to 4 (drop at s)

-- the place up to which a text is UTF-8 from a place on
abbrev pub stop_of : ℕ → Result Unit Broken → ℕ
stop_of n (Ok _) = n
stop_of n (Err r) = r.at

abbrev pub valid_to : List ℕ → ℕ → ℕ
valid_to s at = at + stop_of (length s - at) (check_of (drop at s))

-- `good` is where the text stops being UTF-8 from a place on that is not behind `at`
pub record Begun (s : List ℕ) (at good : ℕ) : Type 0 where
  pub start : ℕ
  pub before : start ≤ at
  pub inside : start ≤ length s
  pub stops : good ≡ valid_to s start

abbrev pub group_count : ℕ
group_count = 32768

abbrev pub group_place : ℕ → ℕ
group_place g = g * 128

-- what the table says of the first `n` groups
pub record ReachedTo (n : ℕ) (s reach : List ℕ) : Type 0 where
  pub size : length reach ≡ group_count
  pub tells : (g : ℕ) → g < n → group_place g ≤ length s → tails_at s (group_place g) < 4 →
      get_or reach g 0 ≡ valid_to s (group_place g + tails_at s (group_place g))

abbrev pub Reached : List ℕ → List ℕ → Type 0
Reached s reach = ReachedTo group_count s reach

-- a part that is longer than two groups
pub record LongPart (s : List ℕ) (start «end» : ℕ) : Type 0 where
  pub long : 256 < «end» - start
  pub inside : «end» ≤ length s

-- a text that is UTF-8 up to `good`, and no further, is so up to `end`
abbrev pub ends_well : List ℕ → ℕ → ℕ → Bool
ends_well s good «end» = pick (ltb good «end») false (pick (eqb good «end») true (not (is_tail (get_or s «end» 0))))
