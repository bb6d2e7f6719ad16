-- A string against a given text: what was passed is the text up to a place. Assumes nothing.
use mathlib.Core.Path.{◌≡◌, refl, sym, ◌∙◌, ap}
use mathlib.Core.Bool.{Bool, true, false}
use mathlib.Core.List.{List, [], ◌∷◌, ◌++◌, append_assoc, append-nil}
use Prim.Native.Nat.{ℕ, ◌+◌, ◌^◌, ◌≤◌, ◌<◌}
use native.Mathlib.Omega.{arith}
use lib.Dec.{eqb}
use lib.ListN.{length, get_or, take, drop, length-drop, drop_of_length-le, take-append-drop, length-append}
use lib.Seq.{drop-cons, take-add, take_at, take_all, length-take-le}
use mir.Val.{Fits}
use mir.Syntax.{w64}
use borrow.Author.Tests.{eq-eqb, ne_eqb, eqb-true, eqb-false}
use borrow.Author.Rules.{rules}
use Rattle.ground.specs.Choice.{both}
use Rattle.ground.proofs.Cases.{both_left, both_right, clash}
use Rattle.text_places.specs.Places.{same}
use Rattle.text_places.proofs.PlaceLaws.{same_equal, same_refl}
use Rattle.json_grammar.specs.Encode.{utf8}
use Rattle.json_grammar.specs.Reader.{Out, got, bad, and_then, piece_of, chars_from}
use Rattle.json_grammar.proofs.Items.{before}
use Rattle.json_string.specs.declared.string.Piece.{Piece}
use Rattle.json_string.specs.declared.string.Piece.TheVariants.{Byte, Code, Closes, Wrong}
use Rattle.json_string.specs.Inner.Pieces.{Stood, PieceMeans}
use Rattle.json_string.proofs.Strings.{Stringing, coded_told, string_starts, starts_passed, string_cut, stood_on, stood_passed, closed_value, string_closed, string_wrong, byte_falls, code_falls}
use Rattle.json_decode.specs.Decoded.{decoded_is}
use Rattle.json_decode.specs.Inner.Octets.{heads}

-- Sameness after a common start.
same_after : (a x y : List ℕ) → same (a ++ x) (a ++ y) ≡ same x y
unfolding same
same_after [] x y = refl
same_after (c ∷ a) x y = rw (eq-eqb c c refl) (same_after a x y)

heads_not : (v w l : List ℕ) → heads v l ≡ false → same (v ++ w) l ≡ false
unfolding heads same
heads_not [] w l e = clash refl e
heads_not (x ∷ v) w [] e = refl
heads_not (x ∷ v) w (y ∷ l) e = go (eqb x y) (λ f. heads_not v w l f) e
  where
    go : (b : Bool) → (heads v l ≡ false → same (v ++ w) l ≡ false) → both b (heads v l) ≡ false → both b (same (v ++ w) l) ≡ false
    go true again f = again f
    go false again f = refl

heads_is : (v l : List ℕ) → heads v l ≡ true → l ≡ v ++ drop (length v) l
unfolding heads
heads_is [] l e = refl
heads_is (x ∷ v) [] e = clash e refl
heads_is (x ∷ v) (y ∷ l) e =
    let f = eqb-true x y (both_left (eqb x y) (heads v l) e) in
    let g = heads_is v l (both_right (eqb x y) (heads v l) e) in
    rw f (ap (λ r. y ∷ r) g)

heads_long : (v l : List ℕ) → heads v l ≡ true → length v ≤ length l
heads_long v l e = rw (heads_is v l e, length-append v (drop (length v) l)) (omega arith)

-- a text is as long as its start that is all of it
same_start : (i : ℕ) (w : List ℕ) → i ≤ length w → eqb i (length w) ≡ same (take i w) w
same_start i w h = go (eqb i (length w)) refl (same (take i w) w) refl
  where
    go : (a : Bool) → eqb i (length w) ≡ a → (b : Bool) → same (take i w) w ≡ b → a ≡ b
    go true e true f = refl
    go true e false f =
        let whole : take i w ≡ w = take_all i w (let q = eqb-true i (length w) e in omega arith) in
        clash (ap (λ l. same l w) whole ∙ same_refl w) f
    go false e true f = absurd (eqb-false i (length w) e (sym (length-take-le i w h) ∙ ap length (same_equal (take i w) w f)))
    go false e false f = refl

pub record Comparing (s : List ℕ) (start : ℕ) (text : List ℕ) (i at : ℕ) : Type 0 where
  pub string : Stringing s start at
  pub some : i ≤ length text
  pub agrees : string.passed ≡ take i text

pub comparing_starts : (s : List ℕ) (start : ℕ) (text : List ℕ) → Comparing s start text 0 start
comparing_starts s start text = record { string = string_starts s start; some = omega arith; agrees = starts_passed s start }

-- where the text goes on otherwise, the string is another
differs : (text a : List ℕ) (o : Out (List ℕ)) → ((w : List ℕ) → same (a ++ w) text ≡ false) → decoded_is text (before a o) ≡ false
unfolding and_then
differs text a (got w r) f = f w
differs text a bad f = refl

module _ {s : List ℕ} {start : ℕ} {text : List ℕ} {i at : ℕ} (k : Comparing s start text i at) where
  pub compare_cut : length s ≤ at → false ≡ decoded_is text (chars_from 0 (drop start s))
  compare_cut h = sym (rw (string_cut k.string h))

  -- what was passed and then `v` is no start of the text
  other_char : {n : ℕ} {v : List ℕ} → Stood s at n v (piece_of (drop at s)) → heads v (drop i text) ≡ false → false ≡ decoded_is text (chars_from 0 (drop start s))
  other_char {n} {v} m f =
      sym (ap (decoded_is text) (stood_on k.string m).decides ∙ differs text (stood_on k.string m).passed (chars_from 0 (drop n s)) (λ w. never w))
    where
      never : (w : List ℕ) → same ((stood_on k.string m).passed ++ w) text ≡ false
      never w =
          let whole : (stood_on k.string m).passed ++ w ≡ take i text ++ (v ++ w) = ap (λ l. l ++ w) (stood_passed k.string m ∙ ap (λ l. l ++ v) k.agrees) ∙ append_assoc (take i text) v w in
          let split : same (take i text ++ (v ++ w)) (take i text ++ drop i text) ≡ false = same_after (take i text) (v ++ w) (drop i text) ∙ heads_not v w (drop i text) f in
          ap (λ l. same l text) whole ∙ ap (same (take i text ++ (v ++ w))) (sym (take-append-drop i text)) ∙ split

  same_char : {n : ℕ} {v : List ℕ} → Stood s at n v (piece_of (drop at s)) → heads v (drop i text) ≡ true → Comparing s start text (i + length v) n
  same_char {n} {v} m f = record {
    string = stood_on k.string m;
    some = let l = heads_long v (drop i text) f in omega (arith, length-drop i text, k.some);
    agrees = stood_passed k.string m ∙ ap (λ l. l ++ v) k.agrees ∙ sym (take-add i (length v) text ∙ ap (λ l. take i text ++ l) next);
  }
    where
      next : take (length v) (drop i text) ≡ v
      next = ap (take (length v)) (heads_is v (drop i text) f) ∙ take_at v (drop (length v) (drop i text)) (length v) refl

  module _ {t : Piece} (m : PieceMeans s at t (piece_of (drop at s))) where
    module _ {b n : ℕ} (e : t ≡ Byte b n) where
      here : Stood s at n (b ∷ []) (piece_of (drop at s))
      here = rw e at m

      pub byte_past : length text ≤ i → false ≡ decoded_is text (chars_from 0 (drop start s))
      unfolding heads
      byte_past h = other_char here (rw (drop_of_length-le text h))

      pub byte_other : i < length text → (get_or text i 0 ≡ b → ⊥) → false ≡ decoded_is text (chars_from 0 (drop start s))
      unfolding heads
      byte_other h d = other_char here (rw (drop-cons text i 0 h, ne_eqb b (get_or text i 0) (λ f. d (sym f))))

      pub byte_same : i < length text → get_or text i 0 ≡ b → Comparing s start text (i + 1) n
      unfolding heads
      byte_same h d = same_char here (rw (drop-cons text i 0 h, eq-eqb b (get_or text i 0) (sym d)))

    module _ {c n : ℕ} (e : t ≡ Code c n) {h : Bool} (f : h ≡ heads (utf8 c) (drop i text)) where
      pub code_other : h ≡ false → false ≡ decoded_is text (chars_from 0 (drop start s))
      code_other g = other_char (coded_told e m).stood (sym f ∙ g)

      pub code_same : h ≡ true → {z : ℕ} → z ≡ length (utf8 c) → Comparing s start text (i + z) n
      code_same g z = rw z (same_char (coded_told e m).stood (sym f ∙ g))

      pub code_fits : h ≡ true → {z : ℕ} → z ≡ length (utf8 c) → length text < 2 ^ 64 → Fits w64 (i + z)
      code_fits g z b = let q = (same_char (coded_told e m).stood (sym f ∙ g)).some in omega arith

    pub compare_closed : {n : ℕ} → t ≡ Closes n → eqb i (length text) ≡ decoded_is text (chars_from 0 (drop start s))
    compare_closed e =
        let r = string_closed k.string m e in
        let v : r.value ≡ take i text = closed_value k.string m e ∙ append-nil k.string.passed ∙ k.agrees in
        same_start i text k.some ∙ ap (λ l. same l text) (sym v) ∙ sym (ap (decoded_is text) r.reads)

    pub compare_wrong : t ≡ Wrong → false ≡ decoded_is text (chars_from 0 (drop start s))
    compare_wrong e = sym (rw (string_wrong k.string m e))

pub code_small : (s : List ℕ) (at : ℕ) {t : Piece} → PieceMeans s at t (piece_of (drop at s)) → {c n : ℕ} → t ≡ Code c n → c < 0x110000
code_small s at m e = (coded_told e m).known

pub code_large : (s : List ℕ) (at : ℕ) {t : Piece} → PieceMeans s at t (piece_of (drop at s)) → {c n : ℕ} → t ≡ Code c n → 0x80 ≤ c
code_large s at m e = (coded_told e m).several

pub ruleset comparing =
    (comparing_starts, compare_cut, byte_past, byte_other, byte_same, code_other, code_same, code_fits, code_small, code_large, compare_closed, compare_wrong, byte_falls, code_falls, rules)
