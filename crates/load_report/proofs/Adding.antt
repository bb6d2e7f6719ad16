-- Writing behind what was written. Assumes nothing.
use Rattle.std.specs.Prelude.{Result, Ok, Err}
use mathlib.Core.Path.{◌≡◌, refl, sym}
use mathlib.Core.List.{List, [], ◌++◌, append_assoc}
use Prim.Native.Nat.{ℕ}
use native.Mathlib.Omega.{arith}
use borrow.Author.Rules.{rules}
use Rattle.ground.proofs.PutLaws.{put_nothing}
use Rattle.table_pool.specs.Inner.Wrote.{Written, WroteBy, no_room}
use Rattle.table_pool.proofs.Writes.{wrote_told, wrote_none, wrote_then, none_then, wrote_as}
use Rattle.load_report.specs.Inner.Adding.{Adds}
use Rattle.table_pool.specs.declared.write.NoRoom.{NoRoom}

module _ {before : Result ℕ NoRoom} (out b : List ℕ) where
  pub adds_done : {at : ℕ} → before ≡ Ok at → (r : Result ℕ NoRoom) (out₁ : List ℕ) → WroteBy r out at b out₁ → Adds before r out b out₁
  adds_done e r out₁ w = record { adds = λ d a v. wrote_then r b out₁ (wrote_told before d 0 a out v e) w }

  -- and `r` the same refusal, handed on
  pub adds_none : before ≡ Err no_room → {r : Result ℕ NoRoom} → r ≡ Err no_room → (out₁ : List ℕ) → Adds before r out b out₁
  adds_none e q out₁ = rw q (record { adds = λ d a v. none_then d 0 a b (wrote_none before d 0 a out v e) })

-- one text, and another
pub adds_adds : {before r r₂ : Result ℕ NoRoom} {out a out₁ b out₂ : List ℕ} → Adds before r out a out₁ → Adds r r₂ out₁ b out₂ → Adds before r₂ out (a ++ b) out₂
adds_adds {r₂ = r₂} {a = a} {b = b} {out₂ = out₂} v w = record { adds = λ d x y. wrote_as r₂ d 0 out₂ (append_assoc x a b) (w.adds d (x ++ a) (v.adds d x y)) }

pub ruleset adding = (adds_done, adds_none, adds_adds, rules)

-- nothing is written yet
nothing : (d : List ℕ) → Written 0 d 0 [] d
nothing d = record { past = refl; room = omega arith; is = sym (put_nothing d 0) }

pub first_of_all : {r : Result ℕ NoRoom} {out b out₁ : List ℕ} → Adds (Ok 0) r out b out₁ → WroteBy r out 0 b out₁
first_of_all {out = out} w = w.adds out [] (nothing out)
