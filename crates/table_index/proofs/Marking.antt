-- Marks of descriptors, and the code that computes them. Assumes nothing.
use mathlib.Core.Path.{◌≡◌, refl, sym, ◌∙◌, ap}
use mathlib.Core.Bool.{Bool, true, false}
use mathlib.Core.List.{List, [], ◌∷◌}
use Prim.Native.Nat.{ℕ, ◌+◌, ◌*◌, ◌/◌, ◌%◌, ◌-◌, ◌≤◌, ◌<◌}
use native.Mathlib.Nat.{mod-lt, zero-add}
use native.Mathlib.Omega.{arith}
use lib.Dec.{ltb}
use lib.ListN.{length, get_or, get_or-map, length-append}
use lib.Seq.{take_at}
use borrow.Author.Rules.{rules}
use borrow.Author.Tests.{lt-ltb, le-ltb}
use Rattle.ground.specs.Choice.{pick}
use Rattle.ground.specs.Put.{between}
use Rattle.table_pool.specs.Inner.Named.{slash_if, name_bytes, class_piece}
use Rattle.table_index.specs.declared.forms.NameForm.{NameForm}
use Rattle.table_index.specs.declared.forms.NameForm.TheVariants.{Whole, Piece}
use Rattle.table_index.specs.Inner.Forms.{spelled}
use Rattle.table_index.specs.Inner.Marks.{mark_count, four_at, few_bytes, mixed, many_mark, mark_from, mark_of, marks_of}
use Rattle.table_pool.proofs.Naming.{name_byte, name_length, name_plain}

-- a byte of a name
pub four_told : (dots : Bool) (s : List ℕ) (at : ℕ) {w x y z : ℕ} →
    w ≡ slash_if dots (get_or s at 0) → x ≡ slash_if dots (get_or s (at + 1) 0) →
    y ≡ slash_if dots (get_or s (at + 2) 0) → z ≡ slash_if dots (get_or s (at + 3) 0) →
    w + 256 * x + 65536 * (y + 256 * z) ≡ four_at (name_bytes dots s) at
four_told dots s at e f g h =
    rw (name_byte dots s at, name_byte dots s (at + 1), name_byte dots s (at + 2), name_byte dots s (at + 3), ← e, ← f, ← g, ← h)

pub ruleset fours = (four_told, rules)

pub none_told : (dots : Bool) (s : List ℕ) → length s ≡ 0 → 0 ≡ few_bytes (name_bytes dots s)
none_told true [] e = refl
none_told false [] e = refl
none_told true (x ∷ s) e = absurd (omega arith)
none_told false (x ∷ s) e = absurd (omega arith)

pub few_told : (dots : Bool) (s : List ℕ) {w x y : ℕ} →
    w ≡ slash_if dots (get_or s 0 0) → x ≡ slash_if dots (get_or s (length s / 2) 0) → y ≡ slash_if dots (get_or s (length s - 1) 0) →
    w + 256 * x + 65536 * y ≡ few_bytes (name_bytes dots s)
few_told dots s e f g =
    rw (name_length dots s, name_byte dots s 0, name_byte dots s (length s / 2), name_byte dots s (length s - 1), ← e, ← f, ← g)

pub ruleset few = (none_told, few_told, rules)

-- a mark is the number of an entry
mixed_below : (seed a b c d : ℕ) → mixed seed a b c d < mark_count
mixed_below seed a b c d = mod-lt ((a * 375761393 + d * 291746501 + b * 426508747 + c * 331804471 + seed * 506832829) / 1048576) (omega arith)

pub mark_from_below : (h : ℕ) (s : List ℕ) → mark_from h s < mark_count
unfolding mark_from
mark_from_below h s = go (ltb (length s) 4)
  where
    go : (t : Bool) → pick t (mixed (h + length s % mark_count) (few_bytes s) 0 0 0)
        (many_mark (h + length s % mark_count) s (length s - 4 - 8) (length s - 4)) < mark_count
    go true = mixed_below (h + length s % mark_count) (few_bytes s) 0 0 0
    go false = mixed_below (h + length s % mark_count) (four_at s 0) (four_at s (length s - 4 - 8)) (four_at s ((length s - 4 - 8 + (length s - 4)) / 2)) (four_at s (length s - 4))

pub marked_below : (h : ℕ) (s : List ℕ) {m : ℕ} → m ≡ mark_from h s → m < mark_count
marked_below h s e = rw e (mark_from_below h s)

pub mark_below : (d : List ℕ) → mark_of d < mark_count
unfolding mark_of
mark_below d = go (ltb (length d) 2)
  where
    go : (t : Bool) → pick t 0 (mark_from 0 (between d 1 (length d - 1))) < mark_count
    go true = omega arith
    go false = mark_from_below 0 (between d 1 (length d - 1))

-- A text by its parts.
module _ (start : ℕ) (s : List ℕ) where
  short_text : length s < 4 → mixed (start + length s % mark_count) (few_bytes s) 0 0 0 ≡ mark_from start s
  unfolding mark_from
  short_text h = sym (rw (lt-ltb (length s) 4 h))

  long_text : 4 ≤ length s → many_mark (start + length s % mark_count) s (length s - 4 - 8) (length s - 4) ≡ mark_from start s
  unfolding mark_from
  long_text h = sym (rw (le-ltb (length s) 4 h))

  pub plain_short : length s < 4 → {x y : ℕ} → x ≡ few_bytes (name_bytes false s) → y ≡ mixed (start + length s % mark_count) x 0 0 0 →
      y ≡ mark_from start s
  plain_short h e f =
      f ∙ ap (λ x. mixed (start + length s % mark_count) x 0 0 0) (e ∙ ap few_bytes (name_plain s)) ∙ short_text h

  pub plain_long : 4 ≤ length s → {n a b c d y : ℕ} → n ≡ length s - 4 - 8 →
      a ≡ four_at s 0 → b ≡ four_at s n → c ≡ four_at s ((n + (length s - 4)) / 2) → d ≡ four_at s (length s - 4) →
      y ≡ mixed (start + length s % mark_count) a b c d → y ≡ mark_from start s
  plain_long h {n} {a} {b} {c} {d} i e f g k l =
      let parts : mixed (start + length s % mark_count) a b c d ≡ many_mark (start + length s % mark_count) s n (length s - 4) =
      rw (e, f, g, k) in
      l ∙ parts ∙ ap (λ x. many_mark (start + length s % mark_count) s x (length s - 4)) i ∙ long_text h

pub seed_small : {start : ℕ} (n : ℕ) → start < mark_count → start + n % mark_count < 16384
seed_small n h = omega arith

pub middle_inside : (s : List ℕ) → 4 ≤ length s → {n : ℕ} → n ≡ length s - 4 - 8 → (n + (length s - 4)) / 2 + 4 ≤ length s
middle_inside s h e = omega arith

pub ruleset marking = (plain_short, plain_long, seed_small, middle_inside, rules)

-- the same of a name with its dots as slashes, from the start
module _ (dots : Bool) (s : List ℕ) where
  abbrev t : List ℕ
  t = name_bytes dots s

  pub name_short : length s < 4 → {x y : ℕ} → x ≡ few_bytes (name_bytes dots s) → y ≡ mixed (length s % mark_count) x 0 0 0 →
      y ≡ mark_from 0 (name_bytes dots s)
  name_short h e f =
      let z : 0 + length t % mark_count ≡ length s % mark_count = rw (name_length dots s) (zero-add (length s % mark_count)) in
      f ∙ ap (λ x. mixed (length s % mark_count) x 0 0 0) e
      ∙ ap (λ m. mixed m (few_bytes t) 0 0 0) (sym z) ∙ short_text 0 t (rw (name_length dots s) h)

  pub name_long : 4 ≤ length s → {n a b c d y : ℕ} → n ≡ length s - 4 - 8 →
      a ≡ four_at (name_bytes dots s) 0 → b ≡ four_at (name_bytes dots s) n → c ≡ four_at (name_bytes dots s) ((n + (length s - 4)) / 2) →
      d ≡ four_at (name_bytes dots s) (length s - 4) →
      y ≡ mixed (length s % mark_count) a b c d → y ≡ mark_from 0 (name_bytes dots s)
  name_long h {n} {a} {b} {c} {d} {y} i e f g k l =
      let z : 0 + length t % mark_count ≡ length s % mark_count = rw (name_length dots s) (zero-add (length s % mark_count)) in
      plain_long 0 t (rw (name_length dots s) h) (rw (name_length dots s) i)
      e f (rw (name_length dots s) g) (rw (name_length dots s) k) (l ∙ ap (λ m. mixed m a b c d) (sym z))

pub name_seed : (n : ℕ) → n % mark_count < 16384
name_seed n = omega arith

pub ruleset naming = (name_short, name_long, name_seed, middle_inside, rules)

-- What a name stands for.
inner_piece : (dots : Bool) (name : List ℕ) → between (class_piece dots name) 1 (length (class_piece dots name) - 1) ≡ name_bytes dots name
inner_piece dots name =
    let n = length-append (name_bytes dots name) (0x3B ∷ []) in
    take_at (name_bytes dots name) (0x3B ∷ []) (length (class_piece dots name) - 1 - 1) (omega arith)

-- a descriptor
module _ (s : List ℕ) where
  pub tiny_marked : length s < 2 → 0 ≡ mark_of s
  unfolding mark_of
  tiny_marked l = ap (λ t. pick t 0 (mark_from 0 (between s 1 (length s - 1)))) (sym (lt-ltb (length s) 2 l))

  pub whole_marked : {h : ℕ} → 2 ≤ length s → h ≡ mark_from 0 (between s 1 (length s - 1)) → h ≡ mark_of s
  unfolding mark_of
  whole_marked l f = f ∙ ap (λ t. pick t 0 (mark_from 0 (between s 1 (length s - 1)))) (sym (le-ltb (length s) 2 l))

pub ruleset whole_marking = (tiny_marked, whole_marked, rules)

module _ (name : List ℕ) {form : NameForm} {h : ℕ} where
  pub piece_marked : {dots : Bool} → form ≡ Piece dots → h ≡ mark_from 0 (name_bytes dots name) → h ≡ mark_of (spelled form name)
  piece_marked {dots} e f =
      let n = length-append (name_bytes dots name) (0x3B ∷ []) in
      whole_marked (class_piece dots name) (omega arith) (f ∙ ap (mark_from 0) (sym (inner_piece dots name)))
      ∙ ap (λ x. mark_of (spelled x name)) (sym e)

  pub text_marked : form ≡ Whole → h ≡ mark_of name → h ≡ mark_of (spelled form name)
  text_marked e f = f ∙ ap (λ x. mark_of (spelled x name)) (sym e)

pub ruleset form_marking = (piece_marked, text_marked, rules)

-- The marks of all rows.
pub mark_is : (keys : List (List ℕ)) (r : ℕ) → get_or (marks_of keys) r 0 ≡ mark_of (get_or keys r [])
unfolding mark_of marks_of
mark_is keys r = get_or-map mark_of keys r []
