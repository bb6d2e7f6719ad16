-- Hexadecimal digits, one and four. Assumes nothing.
use mathlib.Core.Path.{◌≡◌, refl, sym, ◌∙◌}
use mathlib.Core.Bool.{Bool, true, false}
use mathlib.Core.List.{List, [], ◌∷◌}
use Prim.Native.Nat.{ℕ, suc, ◌+◌, ◌*◌, ◌-◌, ◌≤◌, ◌<◌}
use native.Mathlib.Numerals.{add-one}
use native.Mathlib.Omega.{arith}
use lib.Dec.{eqb}
use lib.ListN.{length, get_or, drop, length-drop}
use lib.Seq.{drop-cons}
use borrow.Author.Tests.{eq-eqb, ne_eqb, eqb-false}
use borrow.Author.Rules.{rules}
use Rattle.ground.specs.Choice.{pick, either, within}
use Rattle.ground.proofs.Cases.{within_yes, within_low, within_high, within_both}
use Rattle.json_grammar.specs.Reader.{hexdig, hex_value, hex4}

module _ (x : ℕ) where
  pub hex_below : x < 0x30 → 16 ≡ hexdig x
  hex_below h = sym (rw (within_low 0x30 0x39 x h, within_low 0x41 0x46 x (omega arith), within_low 0x61 0x66 x (omega arith)))

  pub hex_digit : 0x30 ≤ x → x ≤ 0x39 → x - 0x30 ≡ hexdig x
  hex_digit l h = sym (rw (within_yes 0x30 0x39 x l h))

  pub hex_between : 0x39 < x → x < 0x41 → 16 ≡ hexdig x
  hex_between l h = sym (rw (within_high 0x30 0x39 x l, within_low 0x41 0x46 x h, within_low 0x61 0x66 x (omega arith)))

  pub hex_upper : 0x41 ≤ x → x ≤ 0x46 → x - 0x37 ≡ hexdig x
  hex_upper l h = sym (rw (within_high 0x30 0x39 x (omega arith), within_yes 0x41 0x46 x l h))

  pub hex_gap : 0x46 < x → x < 0x61 → 16 ≡ hexdig x
  hex_gap l h = sym (rw (within_high 0x30 0x39 x (omega arith), within_high 0x41 0x46 x l, within_low 0x61 0x66 x h))

  pub hex_lower : 0x61 ≤ x → x ≤ 0x66 → x - 0x57 ≡ hexdig x
  hex_lower l h = sym (rw (within_high 0x30 0x39 x (omega arith), within_high 0x41 0x46 x (omega arith), within_yes 0x61 0x66 x l h))

  pub hex_above : 0x66 < x → 16 ≡ hexdig x
  hex_above h = sym (rw (within_high 0x30 0x39 x (omega arith), within_high 0x41 0x46 x (omega arith), within_high 0x61 0x66 x h))

pub ruleset hex_digits = (hex_below, hex_digit, hex_between, hex_upper, hex_gap, hex_lower, hex_above, rules)

-- Four digits.
module _ (a b c d : ℕ) where
  pub value_first : a ≡ 16 → 65536 ≡ hex_value a b c d
  value_first e = sym (rw (eq-eqb a 16 e))

  module _ (p : a ≡ 16 → ⊥) where
    pub value_second : b ≡ 16 → 65536 ≡ hex_value a b c d
    value_second e = sym (rw (ne_eqb a 16 p, eq-eqb b 16 e))

    module _ (q : b ≡ 16 → ⊥) where
      pub value_third : c ≡ 16 → 65536 ≡ hex_value a b c d
      value_third e = sym (rw (ne_eqb a 16 p, ne_eqb b 16 q, eq-eqb c 16 e))

      module _ (r : c ≡ 16 → ⊥) where
        pub value_fourth : d ≡ 16 → 65536 ≡ hex_value a b c d
        value_fourth e = sym (rw (ne_eqb a 16 p, ne_eqb b 16 q, ne_eqb c 16 r, eq-eqb d 16 e))

        pub value_all : (d ≡ 16 → ⊥) → ((a * 16 + b) * 16 + c) * 16 + d ≡ hex_value a b c d
        value_all e = sym (rw (ne_eqb a 16 p, ne_eqb b 16 q, ne_eqb c 16 r, ne_eqb d 16 e))

pub ruleset hex_values = (value_first, value_second, value_third, value_fourth, value_all, rules)

pub hexdig_most : (x : ℕ) → hexdig x ≤ 16
hexdig_most x = go (within 0x30 0x39 x) refl (within 0x41 0x46 x) refl (within 0x61 0x66 x) refl
  where
    go : (a : Bool) → within 0x30 0x39 x ≡ a → (b : Bool) → within 0x41 0x46 x ≡ b → (c : Bool) → within 0x61 0x66 x ≡ c →
        pick a (x - 0x30) (pick b (x - 0x37) (pick c (x - 0x57) 16)) ≤ 16
    go true p b q c r = let w = within_both 0x30 0x39 x p in omega arith
    go false p true q c r = let w = within_both 0x41 0x46 x q in omega arith
    go false p false q true r = let w = within_both 0x61 0x66 x r in omega arith
    go false p false q false r = omega arith

pub told_most : (x : ℕ) {r : ℕ} → r ≡ hexdig x → r ≤ 16
told_most x e = rw e (hexdig_most x)

short_four : (l : List ℕ) → length l < 4 → 65536 ≡ hex4 l
unfolding hex4
short_four [] h = refl
short_four (x ∷ []) h = refl
short_four (x ∷ y ∷ []) h = refl
short_four (x ∷ y ∷ z ∷ []) h = refl
short_four (x ∷ y ∷ z ∷ w ∷ l) h = absurd (omega arith)

pub four_short : (s : List ℕ) (at : ℕ) → length s - at < 4 → 65536 ≡ hex4 (drop at s)
four_short s at h = short_four (drop at s) (rw length-drop h)

module _ (s : List ℕ) (at : ℕ) (i : at ≤ length s) (h : 4 ≤ length s - at) where
  four_here : drop at s ≡ get_or s at 0 ∷ get_or s (at + 1) 0 ∷ get_or s (at + 2) 0 ∷ get_or s (at + 3) 0 ∷ drop (at + 4) s
  four_here =
      let e1 : suc (at + 1) ≡ at + 2 = omega arith in
      let e2 : suc (at + 2) ≡ at + 3 = omega arith in
      let e3 : suc (at + 3) ≡ at + 4 = omega arith in
      rw (drop-cons s at 0 (omega arith), ← add-one at, drop-cons s (at + 1) 0 (omega arith), e1, drop-cons s (at + 2) 0 (omega arith), e2, drop-cons s (at + 3) 0 (omega arith), e3)

  pub four_read : {a b c d r : ℕ} → a ≡ hexdig (get_or s at 0) → b ≡ hexdig (get_or s (at + 1) 0) → c ≡ hexdig (get_or s (at + 2) 0) → d ≡ hexdig (get_or s (at + 3) 0) →
      r ≡ hex_value a b c d → r ≡ hex4 (drop at s)
  unfolding hex4
  four_read p q u v e = e ∙ rw (p, q, u, v, four_here)

pub ruleset hex_four = (told_most, four_short, four_read, rules)

-- four digits are below 65536, which says that one is none
value_most : (a b c d : ℕ) → a ≤ 16 → b ≤ 16 → c ≤ 16 → d ≤ 16 → hex_value a b c d ≤ 65536
value_most a b c d p q r s = go (eqb a 16) refl (eqb b 16) refl (eqb c 16) refl (eqb d 16) refl
  where
    go : (x : Bool) → eqb a 16 ≡ x → (y : Bool) → eqb b 16 ≡ y → (z : Bool) → eqb c 16 ≡ z → (w : Bool) → eqb d 16 ≡ w →
        pick (either x (either y (either z w))) 65536 (((a * 16 + b) * 16 + c) * 16 + d) ≤ 65536
    go true e y f z g w h = omega arith
    go false e true f z g w h = omega arith
    go false e false f true g w h = omega arith
    go false e false f false g true h = omega arith
    go false e false f false g false h =
        let i = eqb-false a 16 e in let j = eqb-false b 16 f in let k = eqb-false c 16 g in let l = eqb-false d 16 h in omega arith

pub hex4_most : (l : List ℕ) → hex4 l ≤ 65536
unfolding hex4
hex4_most [] = omega arith
hex4_most (x ∷ []) = omega arith
hex4_most (x ∷ y ∷ []) = omega arith
hex4_most (x ∷ y ∷ z ∷ []) = omega arith
hex4_most (x ∷ y ∷ z ∷ w ∷ l) = value_most (hexdig x) (hexdig y) (hexdig z) (hexdig w) (hexdig_most x) (hexdig_most y) (hexdig_most z) (hexdig_most w)
