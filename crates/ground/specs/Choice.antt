-- Choosing by a test: the one `if` of all rules.
use Rattle.std.specs.Prelude.{Bool, true, false, ℕ, leb}

-- `pick test a b`: `a` where the test holds, else `b`
abbrev pub pick : {A : Type 0} → Bool → A → A → A
pick true a b = a
pick false a b = b

-- both tests hold
abbrev pub both : Bool → Bool → Bool
both a b = pick a b false

-- either test holds
abbrev pub either : Bool → Bool → Bool
either a b = pick a true b

-- `x` stands in the range from `low` to `high`, both included
abbrev pub within : ℕ → ℕ → ℕ → Bool
within low high x = both (leb low x) (leb x high)

-- a test as a number
abbrev pub bit : Bool → ℕ
bit true = 1
bit false = 0
