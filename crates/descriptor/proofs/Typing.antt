-- Types. Assumes nothing.
use mathlib.Core.Path.{◌≡◌, refl, sym, ◌∙◌, ap}
use mathlib.Core.Bool.{Bool, true, false}
use mathlib.Core.List.{List, [], ◌∷◌}
use Prim.Native.Nat.{ℕ, zero, suc, ◌+◌, ◌-◌, ◌^◌, ◌≤◌, ◌<◌}
use native.Mathlib.Omega.{arith}
use lib.Dec.{eqb}
use lib.ListN.{length, get_or, drop, length-take}
use mir.Val.{Fits}
use mir.Syntax.{w64}
use borrow.Author.Tests.{eq-eqb, ne_eqb}
use borrow.Author.Rules.{rules}
use Rattle.ground.specs.Ascii.{ascii}
use Rattle.ground.specs.Choice.{pick, both}
use Rattle.text_places.specs.Places.{same}
use Rattle.text_places.specs.declared.spans.Span.{Span}
use Rattle.text_white.specs.Trim.{trim_both}
use Rattle.text_white.proofs.TrimLaws.{trim_inside, trim_order, trimmed_order, trimmed_inside}
use Rattle.descriptor.specs.declared.types.Stripped.{Stripped}
use Rattle.descriptor.specs.declared.types.Base.{Base}
use Rattle.descriptor.specs.declared.types.Base.TheVariants.{Letter, Kept, Named}
use Rattle.descriptor.specs.declared.types.TypeShape.{TypeShape}
use Rattle.ground.specs.Put.{between}
use Rattle.descriptor.specs.Types.{brackets_at, base_end, bracket_count, stripped_of, word_letter, kept_text, base_of, shape_in, shape_of}

-- The nine words.
module _ (s : List ℕ) where
  module _ {b0 : Bool} (e0 : b0 ≡ same s (0x76 ∷ 0x6F ∷ 0x69 ∷ 0x64 ∷ [])) where
    pub word_void : b0 ≡ true → 0x56 ≡ word_letter s
    unfolding ascii
    word_void t = sym (rw ((sym e0 ∙ t)))

    module _ (f0 : b0 ≡ false) where
      module _ {b1 : Bool} (e1 : b1 ≡ same s (0x62 ∷ 0x6F ∷ 0x6F ∷ 0x6C ∷ 0x65 ∷ 0x61 ∷ 0x6E ∷ [])) where
        pub word_boolean : b1 ≡ true → 0x5A ≡ word_letter s
        unfolding ascii
        word_boolean t = sym (rw ((sym e0 ∙ f0), (sym e1 ∙ t)))

        module _ (f1 : b1 ≡ false) where
          module _ {b2 : Bool} (e2 : b2 ≡ same s (0x62 ∷ 0x79 ∷ 0x74 ∷ 0x65 ∷ [])) where
            pub word_byte : b2 ≡ true → 0x42 ≡ word_letter s
            unfolding ascii
            word_byte t = sym (rw ((sym e0 ∙ f0), (sym e1 ∙ f1), (sym e2 ∙ t)))

            module _ (f2 : b2 ≡ false) where
              module _ {b3 : Bool} (e3 : b3 ≡ same s (0x63 ∷ 0x68 ∷ 0x61 ∷ 0x72 ∷ [])) where
                pub word_char : b3 ≡ true → 0x43 ≡ word_letter s
                unfolding ascii
                word_char t = sym (rw ((sym e0 ∙ f0), (sym e1 ∙ f1), (sym e2 ∙ f2), (sym e3 ∙ t)))

                module _ (f3 : b3 ≡ false) where
                  module _ {b4 : Bool} (e4 : b4 ≡ same s (0x73 ∷ 0x68 ∷ 0x6F ∷ 0x72 ∷ 0x74 ∷ [])) where
                    pub word_short : b4 ≡ true → 0x53 ≡ word_letter s
                    unfolding ascii
                    word_short t = sym (rw ((sym e0 ∙ f0), (sym e1 ∙ f1), (sym e2 ∙ f2), (sym e3 ∙ f3), (sym e4 ∙ t)))

                    module _ (f4 : b4 ≡ false) where
                      module _ {b5 : Bool} (e5 : b5 ≡ same s (0x69 ∷ 0x6E ∷ 0x74 ∷ [])) where
                        pub word_int : b5 ≡ true → 0x49 ≡ word_letter s
                        unfolding ascii
                        word_int t = sym (rw ((sym e0 ∙ f0), (sym e1 ∙ f1), (sym e2 ∙ f2), (sym e3 ∙ f3), (sym e4 ∙ f4), (sym e5 ∙ t)))

                        module _ (f5 : b5 ≡ false) where
                          module _ {b6 : Bool} (e6 : b6 ≡ same s (0x6C ∷ 0x6F ∷ 0x6E ∷ 0x67 ∷ [])) where
                            pub word_long : b6 ≡ true → 0x4A ≡ word_letter s
                            unfolding ascii
                            word_long t = sym (rw ((sym e0 ∙ f0), (sym e1 ∙ f1), (sym e2 ∙ f2), (sym e3 ∙ f3), (sym e4 ∙ f4), (sym e5 ∙ f5), (sym e6 ∙ t)))

                            module _ (f6 : b6 ≡ false) where
                              module _ {b7 : Bool} (e7 : b7 ≡ same s (0x66 ∷ 0x6C ∷ 0x6F ∷ 0x61 ∷ 0x74 ∷ [])) where
                                pub word_float : b7 ≡ true → 0x46 ≡ word_letter s
                                unfolding ascii
                                word_float t = sym (rw ((sym e0 ∙ f0), (sym e1 ∙ f1), (sym e2 ∙ f2), (sym e3 ∙ f3), (sym e4 ∙ f4), (sym e5 ∙ f5), (sym e6 ∙ f6), (sym e7 ∙ t)))

                                module _ (f7 : b7 ≡ false) where
                                  module _ {b8 : Bool} (e8 : b8 ≡ same s (0x64 ∷ 0x6F ∷ 0x75 ∷ 0x62 ∷ 0x6C ∷ 0x65 ∷ [])) where
                                    pub word_double : b8 ≡ true → 0x44 ≡ word_letter s
                                    unfolding ascii
                                    word_double t = sym (rw ((sym e0 ∙ f0), (sym e1 ∙ f1), (sym e2 ∙ f2), (sym e3 ∙ f3), (sym e4 ∙ f4), (sym e5 ∙ f5), (sym e6 ∙ f6), (sym e7 ∙ f7), (sym e8 ∙ t)))

                                    pub word_none : b8 ≡ false → 0 ≡ word_letter s
                                    unfolding ascii
                                    word_none t = sym (rw ((sym e0 ∙ f0), (sym e1 ∙ f1), (sym e2 ∙ f2), (sym e3 ∙ f3), (sym e4 ∙ f4), (sym e5 ∙ f5), (sym e6 ∙ f6), (sym e7 ∙ f7), (sym e8 ∙ t)))

pub ruleset words = (word_void, word_boolean, word_byte, word_char, word_short, word_int, word_long, word_float, word_double, word_none, rules)

-- `L..;`
pub kept_empty : (s : List ℕ) → length s ≡ 0 → false ≡ kept_text s
kept_empty [] h = refl
kept_empty (x ∷ l) h = absurd (omega arith)

module _ (s : List ℕ) where
  module _ (n : length s ≡ 0 → ⊥) where
    pub kept_last : length s - 1 < length s
    kept_last = omega arith

    by_bytes : kept_text s ≡ both (eqb (get_or s 0 0) 0x4C) (eqb (get_or s (length s - 1) 0) 0x3B)
    by_bytes = go s n
      where
        go : (l : List ℕ) → (length l ≡ 0 → ⊥) → kept_text l ≡ both (eqb (get_or l 0 0) 0x4C) (eqb (get_or l (length l - 1) 0) 0x3B)
        go [] m = absurd (m refl)
        go (x ∷ l) m = let e : suc (length l) - 1 ≡ length l = omega arith in rw e

    pub kept_other : (get_or s 0 0 ≡ 0x4C → ⊥) → false ≡ kept_text s
    kept_other f = sym (by_bytes ∙ rw (ne_eqb (get_or s 0 0) 0x4C f))

    pub kept_ends : get_or s 0 0 ≡ 0x4C → eqb (get_or s (length s - 1) 0) 0x3B ≡ kept_text s
    kept_ends f = sym (by_bytes ∙ rw (eq-eqb (get_or s 0 0) 0x4C f))

pub ruleset keeping = (kept_empty, kept_last, kept_other, kept_ends, rules)

-- What is left without brackets.
module _ (s : List ℕ) {l : ℕ} (e : l ≡ word_letter s) where
  pub base_letter_lem : (l ≡ 0 → ⊥) → Letter l ≡ base_of s
  base_letter_lem n = ap Letter e ∙ sym (rw (ne_eqb (word_letter s) 0 (λ z. n (e ∙ z))))

  module _ (z : l ≡ 0) {b : Bool} (k : b ≡ kept_text s) where
    pub base_kept : b ≡ true → Kept ≡ base_of s
    base_kept t = sym (rw (eq-eqb (word_letter s) 0 (sym e ∙ z), ← k, t))

    pub base_named : b ≡ false → Named ≡ base_of s
    base_named t = sym (rw (eq-eqb (word_letter s) 0 (sym e ∙ z), ← k, t))

pub ruleset base_kinds = (base_letter_lem, base_kept, base_named, rules)

-- Brackets, from the end on.
pub record Stripping (s : List ℕ) («end» count : ℕ) : Type 0 where
  pub inside : «end» ≤ length s
  pub few : count ≤ length s - «end»
  pub ends : base_end s (length s) ≡ base_end s «end»
  pub counts : bracket_count s (length s) ≡ count + bracket_count s «end»

pub stripping_starts : (s : List ℕ) → Stripping s (length s) 0
stripping_starts s = record { inside = omega arith; few = omega arith; ends = refl; counts = omega arith }

module _ {s : List ℕ} {«end» count : ℕ} (k : Stripping s «end» count) where
  settle : (e : ℕ) → base_end s «end» ≡ e → bracket_count s «end» ≡ 0 → e ≡ «end» → ◌≡◌ {A = Stripped} (record { «end» = «end»; brackets = count }) (stripped_of s)
  settle e f g h =
      let a : «end» ≡ base_end s (length s) = sym (k.ends ∙ f ∙ h) in
      let b : count ≡ bracket_count s (length s) = omega (arith, k.counts) in
      cc

  pub stripped_short : «end» < 2 → ◌≡◌ {A = Stripped} (record { «end» = «end»; brackets = count }) (stripped_of s)
  unfolding base_end bracket_count
  stripped_short h = go «end» h refl
    where
      go : (e : ℕ) → e < 2 → e ≡ «end» → ◌≡◌ {A = Stripped} (record { «end» = «end»; brackets = count }) (stripped_of s)
      go zero i q = settle zero (ap (base_end s) (sym q)) (ap (bracket_count s) (sym q)) q
      go (suc zero) i q = settle (suc zero) (ap (base_end s) (sym q)) (ap (bracket_count s) (sym q)) q
      go (suc (suc e)) i q = absurd (omega arith)

  module _ (h : 2 ≤ «end») where
    step_end : base_end s «end» ≡ pick (both (eqb (get_or s («end» - 2) 0) 0x5B) (eqb (get_or s («end» - 1) 0) 0x5D)) (base_end s («end» - 2)) «end»
    unfolding base_end
    step_end = go «end» h
      where
        go : (e : ℕ) → 2 ≤ e → base_end s e ≡ pick (both (eqb (get_or s (e - 2) 0) 0x5B) (eqb (get_or s (e - 1) 0) 0x5D)) (base_end s (e - 2)) e
        go zero i = absurd (omega arith)
        go (suc zero) i = absurd (omega arith)
        go (suc (suc e)) i =
            let a : suc (suc e) - 2 ≡ e = omega arith in
            let b : suc (suc e) - 1 ≡ suc e = omega arith in
            rw (a, b)

    step_count : bracket_count s «end» ≡ pick (both (eqb (get_or s («end» - 2) 0) 0x5B) (eqb (get_or s («end» - 1) 0) 0x5D)) (suc (bracket_count s («end» - 2))) 0
    unfolding bracket_count
    step_count = go «end» h
      where
        go : (e : ℕ) → 2 ≤ e → bracket_count s e ≡ pick (both (eqb (get_or s (e - 2) 0) 0x5B) (eqb (get_or s (e - 1) 0) 0x5D)) (suc (bracket_count s (e - 2))) 0
        go zero i = absurd (omega arith)
        go (suc zero) i = absurd (omega arith)
        go (suc (suc e)) i =
            let a : suc (suc e) - 2 ≡ e = omega arith in
            let b : suc (suc e) - 1 ≡ suc e = omega arith in
            rw (a, b)

    pub bracket_inside : «end» - 2 < length s
    bracket_inside = omega (arith, k.inside)

    pub bracket_last : «end» - 1 < length s
    bracket_last = omega (arith, k.inside)

    pub stripped_open : (get_or s («end» - 2) 0 ≡ 0x5B → ⊥) → ◌≡◌ {A = Stripped} (record { «end» = «end»; brackets = count }) (stripped_of s)
    stripped_open n = let z = ne_eqb (get_or s («end» - 2) 0) 0x5B n in settle «end» (step_end ∙ rw z) (step_count ∙ rw z) refl

    module _ (o : get_or s («end» - 2) 0 ≡ 0x5B) where
      pub stripped_close : (get_or s («end» - 1) 0 ≡ 0x5D → ⊥) → ◌≡◌ {A = Stripped} (record { «end» = «end»; brackets = count }) (stripped_of s)
      stripped_close n =
          let y = eq-eqb (get_or s («end» - 2) 0) 0x5B o in
          let z = ne_eqb (get_or s («end» - 1) 0) 0x5D n in
          settle «end» (step_end ∙ rw (y, z)) (step_count ∙ rw (y, z)) refl

      pub stripped_more : get_or s («end» - 1) 0 ≡ 0x5D → Stripping s («end» - 2) (count + 1)
      stripped_more c =
          let y = eq-eqb (get_or s («end» - 2) 0) 0x5B o in
          let z = eq-eqb (get_or s («end» - 1) 0) 0x5D c in
          let n : bracket_count s «end» ≡ suc (bracket_count s («end» - 2)) = step_count ∙ rw (y, z) in
          record {
            inside = omega (arith, k.inside);
            few = omega (arith, k.few, k.inside);
            ends = k.ends ∙ step_end ∙ rw (y, z);
            counts = omega (arith, k.counts);
          }

    pub count_fits : length s < 2 ^ 64 → Fits w64 (count + 1)
    count_fits b = omega (arith, k.few, k.inside)

pub ruleset stripping = (stripping_starts, stripped_short, bracket_inside, bracket_last, stripped_open, stripped_close, stripped_more, count_fits, rules)

-- The shape of a type.
pub base_le : (s : List ℕ) (e : ℕ) → base_end s e ≤ e
unfolding base_end
base_le s zero = omega arith
base_le s (suc zero) = omega arith
base_le s (suc (suc e)) = go (brackets_at s e) (base_le s e)
  where
    go : (b : Bool) → base_end s e ≤ e → pick b (base_end s e) (suc (suc e)) ≤ suc (suc e)
    go true h = omega arith
    go false h = omega arith

module _ (s : List ℕ) {p : Span} (e : p ≡ trim_both s) where
  module _ {c : Stripped} (f : c ≡ stripped_of (between s p.start p.«end»)) where
    cut_end : c.«end» ≡ base_end (between s p.start p.«end») (length (between s p.start p.«end»))
    cut_end = ap (λ x. x.«end») f

    cut_inside : p.start + c.«end» ≤ p.«end»
    cut_inside =
        let a = base_le (between s p.start p.«end») (length (between s p.start p.«end»)) in
        let b = length-take (p.«end» - p.start) (drop p.start s) in
        let o = trimmed_order s e in
        omega (arith, cut_end)

    pub base_fits : length s < 2 ^ 64 → Fits w64 (p.start + c.«end»)
    base_fits b = let i = cut_inside in let w = trimmed_inside s e in omega arith

    pub base_order : p.start ≤ p.start + c.«end»
    base_order = omega arith

    pub base_inside : p.start + c.«end» ≤ length s
    base_inside = let i = cut_inside in let w = trimmed_inside s e in omega arith

    pub shape_read : {b : Base} → b ≡ base_of (between s p.start (p.start + c.«end»)) →
        ◌≡◌ {A = TypeShape} (record { brackets = c.brackets; start = p.start; «end» = p.start + c.«end»; base = b }) (shape_of s)
    shape_read {b} g =
        let n : c.brackets ≡ bracket_count (between s p.start p.«end») (length (between s p.start p.«end»)) = ap (λ x. x.brackets) f in
        let here : ◌≡◌ {A = TypeShape} (record { brackets = c.brackets; start = p.start; «end» = p.start + c.«end»; base = b }) (shape_in s p) = shape_as g n cut_end in
        here ∙ ap (shape_in s) e
      where
        shape_as : b ≡ base_of (between s p.start (p.start + c.«end»)) → c.brackets ≡ bracket_count (between s p.start p.«end») (length (between s p.start p.«end»)) →
            c.«end» ≡ base_end (between s p.start p.«end») (length (between s p.start p.«end»)) →
            ◌≡◌ {A = TypeShape} (record { brackets = c.brackets; start = p.start; «end» = p.start + c.«end»; base = b }) (shape_in s p)
        shape_as h i j =
            ap (λ x. record { brackets = x; start = p.start; «end» = p.start + c.«end»; base = b }) i
            ∙ ap (λ x. record { brackets = bracket_count (between s p.start p.«end») (length (between s p.start p.«end»)); start = p.start; «end» = p.start + c.«end»; base = x }) h
            ∙ ap (λ x. record { brackets = bracket_count (between s p.start p.«end») (length (between s p.start p.«end»)); start = p.start; «end» = p.start + x; base = base_of (between s p.start (p.start + x)) }) j

pub ruleset shaping = (trimmed_order, trimmed_inside, base_fits, base_order, base_inside, shape_read, rules)

-- a shape lies in its text
shape_lies : (s : List ℕ) → ((shape_of s).start ≤ (shape_of s).«end») × ((shape_of s).«end» ≤ length s)
shape_lies s =
    let a = base_le (between s (trim_both s).start (trim_both s).«end») (length (between s (trim_both s).start (trim_both s).«end»)) in
    let b = length-take ((trim_both s).«end» - (trim_both s).start) (drop (trim_both s).start s) in
    let o = trim_order s in
    let w = trim_inside s in
    (omega arith, omega arith)

module _ (text : List ℕ) {t : TypeShape} (e : t ≡ shape_of text) where
  pub type_order : t.start ≤ t.«end»
  type_order = rw e (shape_lies text).0

  pub type_inside : t.«end» ≤ length text
  type_inside = rw e (shape_lies text).1
