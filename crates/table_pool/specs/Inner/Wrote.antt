-- What writing says of the pool.
use Rattle.std.specs.Prelude.{◌≡◌, List, ◌++◌, ℕ, ◌+◌, ◌≤◌, ◌<◌, length, Result, Ok, Err}
use Rattle.ground.specs.Put.{put}
use Rattle.table_pool.specs.declared.write.NoRoom.{NoRoom}
use Rattle.table_pool.specs.declared.write.TwoTexts.{TwoTexts}

abbrev pub no_room : NoRoom
no_room = record {}

abbrev pub two_texts : ℕ → ℕ → TwoTexts
two_texts second next = record { second = second; next = next }

-- the bytes `b` are written into the pool `d` at the place `at`: `q` is the place after them
pub record Written (q : ℕ) (d : List ℕ) (at : ℕ) (b d₁ : List ℕ) : Type 0 where
  pub past : q ≡ at + length b
  pub room : at + length b ≤ length d
  pub is : d₁ ≡ put d at b

-- the answer `r` says whether the bytes `b` fit into the pool `d` at the place `at`, and `d₁` is the pool with them if so
abbrev pub WroteBy : Result ℕ NoRoom → List ℕ → ℕ → List ℕ → List ℕ → Type 0
WroteBy (Ok q) d at b d₁ = Written q d at b d₁
WroteBy (Err _) d at b d₁ = length d < at + length b

-- the texts `a` and `b` are written into the pool `d` at the place `at`: `m` is where the second one starts, and `q` the place after it
pub record TwoAt (m q : ℕ) (d : List ℕ) (at : ℕ) (a b d₁ : List ℕ) : Type 0 where
  pub second : m ≡ at + length a
  pub next : q ≡ m + length b
  pub written : Written q d at (a ++ b) d₁

abbrev pub TwoBy : Result TwoTexts NoRoom → List ℕ → ℕ → List ℕ → List ℕ → List ℕ → Type 0
TwoBy (Ok r) d at a b d₁ = TwoAt r.second r.next d at a b d₁
TwoBy (Err _) d at a b d₁ = length d < at + length (a ++ b)
