-- Runs of octets, white space and structural characters, by places. Assumes nothing.
use mathlib.Core.Path.{◌≡◌, refl, sym, ◌∙◌, ap}
use mathlib.Core.Bool.{Bool, true, false}
use mathlib.Core.List.{List}
use Prim.Native.Nat.{ℕ, ◌+◌, ◌≤◌, ◌<◌}
use native.Mathlib.Numerals.{add-one}
use native.Mathlib.Omega.{arith}
use lib.Dec.{eqb}
use lib.ListN.{length, get_or, drop, drop_of_length-le}
use lib.Seq.{drop-cons}
use borrow.Author.Rules.{rules}
use Rattle.ground.specs.Choice.{within}
use Rattle.ground.proofs.Cases.{within_yes, within_both, within_one}
use Rattle.json_grammar.specs.Reader.{got, bad, and_then, past_all, is_ws, skip, one_of, structural}
use Rattle.json_string.specs.Inner.Means.{Reached}
use Rattle.json_values.specs.Inner.Runs.{Past}

-- White space.
module _ (b : ℕ) where
  pub space_is : b ≡ 0x20 → true ≡ is_ws b
  space_is e = sym (ap is_ws e)

  pub tab_is : b ≡ 0x09 → true ≡ is_ws b
  tab_is e = sym (ap is_ws e)

  pub line_is : b ≡ 0x0A → true ≡ is_ws b
  line_is e = sym (ap is_ws e)

pub apart : (a x : ℕ) → (x ≡ a → ⊥) → within a a x ≡ false
apart a x n = go (within a a x) refl
  where
    go : (b : Bool) → within a a x ≡ b → b ≡ false
    go true e = absurd (n (let w = within_both a a x e in omega arith))
    go false e = refl

pub return_is : (b : ℕ) → (b ≡ 0x20 → ⊥) → (b ≡ 0x09 → ⊥) → (b ≡ 0x0A → ⊥) → eqb b 0x0D ≡ is_ws b
return_is b n m k = sym (rw (apart 0x20 b n, apart 0x09 b m, apart 0x0A b k, within_one 0x0D b))

pub ruleset spaces = (space_is, tab_is, line_is, return_is, rules)

-- A run of octets from a place on: what is past it from here on is what is past it from the start.
pub record Passing (p : ℕ → Bool) (s : List ℕ) (start at : ℕ) : Type 0 where
  pub inside : at ≤ length s
  pub decides : past_all p (drop start s) ≡ past_all p (drop at s)

pub passing_starts : (p : ℕ → Bool) (s : List ℕ) (start : ℕ) → start ≤ length s → Passing p s start start
passing_starts p s start h = record { inside = h; decides = refl }

module _ {p : ℕ → Bool} {s : List ℕ} {start at : ℕ} (k : Passing p s start at) where
  pub passing_ends : length s ≤ at → Past p s start at
  unfolding past_all
  passing_ends h = record { inside = k.inside; rest = k.decides ∙ rw (drop_of_length-le s h) }

  module _ (h : at < length s) where
    pub passing_stops : p (get_or s at 0) ≡ false → Past p s start at
    unfolding past_all
    passing_stops e = record { inside = k.inside; rest = k.decides ∙ rw (drop-cons s at 0 h, e) }

    pub passing_more : p (get_or s at 0) ≡ true → Passing p s start (at + 1)
    unfolding past_all
    passing_more e = record { inside = omega arith; decides = k.decides ∙ rw (add-one, drop-cons s at 0 h, e) }

pub told_space : (x : ℕ) {b y : Bool} → b ≡ is_ws x → b ≡ y → is_ws x ≡ y
told_space x w y = sym w ∙ y

pub ruleset passing = (passing_starts, passing_ends, passing_stops, passing_more, told_space, rules)

-- A structural character.
module _ (s : List ℕ) (at c : ℕ) {place : ℕ} (k : Past is_ws s at place) where
  seen : structural c (drop at s) ≡ and_then (one_of (within c c) (drop place s)) (λ y r. got y (skip r))
  unfolding structural
  seen = rw k.rest

  pub structural_ends : length s ≤ place → structural c (drop at s) ≡ bad
  unfolding and_then
  structural_ends h = seen ∙ rw (drop_of_length-le s h)

  module _ (h : place < length s) where
    pub structural_other : (get_or s place 0 ≡ c → ⊥) → structural c (drop at s) ≡ bad
    unfolding and_then
    structural_other n = seen ∙ rw (drop-cons s place 0 h, apart c (get_or s place 0) n)

    pub structural_past : place + 1 ≤ length s
    structural_past = omega arith

    pub structural_reached : get_or s place 0 ≡ c → {r : ℕ} → Past is_ws s (place + 1) r → Reached s r (structural c (drop at s))
    unfolding and_then
    structural_reached e {r} q = record {
      inside = q.inside;
      value = get_or s place 0;
      reads = seen ∙ rw (drop-cons s place 0 h, within_yes c c (get_or s place 0) (omega arith) (omega arith), ← add-one, q.rest);
    }

pub ruleset structure = (structural_ends, structural_other, structural_past, structural_reached, rules)
