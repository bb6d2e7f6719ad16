-- Strings, char by char: the rest decides, after the bytes that were passed. Assumes nothing.
use mathlib.Core.Path.{◌≡◌, refl, sym, ◌∙◌, ap}
use mathlib.Core.Bool.{Bool, true, false}
use mathlib.Core.List.{List, [], ◌∷◌, ◌++◌}
use Prim.Native.Nat.{ℕ, suc, ◌+◌, ◌-◌, ◌≤◌, ◌<◌}
use native.Mathlib.Omega.{arith}
use lib.Dec.{eqb, leb}
use lib.ListN.{length, get_or, take, drop, drop_of_length-le}
use lib.Seq.{drop-drop, get_or-drop}
use mir.Val.{Fits}
use mir.Syntax.{w8}
use borrow.Author.Rules.{rules}
use borrow.Author.Tests.{eqb-false, leb-true}
use Rattle.ground.specs.Choice.{pick}
use Rattle.ground.specs.Put.{between}
use Rattle.json_grammar.specs.Reader as Reader
use Rattle.json_grammar.specs.Reader.{bad, and_then, piece_of, chars_from}
use Rattle.json_grammar.specs.Encode.{utf8}
use Rattle.json_grammar.proofs.Items.{before, before_nothing, before_both}
use Rattle.json_grammar.proofs.StringsAll.{plain, chars_none, chars_stands, chars_close, chars_wrong}
use Rattle.json_string.specs.declared.string.Piece.{Piece}
use Rattle.json_string.specs.declared.string.Piece.TheVariants.{Byte, Code, Closes, Wrong}
use Rattle.json_string.specs.Inner.Means.{Reached}
use Rattle.json_string.specs.Inner.Pieces.{Stood, Coded, Closed, PieceMeans}
use Rattle.json_string.specs.Inner.Plain.{is_plain, plain_run}
use Rattle.json_string.proofs.PieceLaws.{piece_end, piece_plain}

-- the answer is a code point
pub coded_told : {s : List ℕ} {at : ℕ} {t : Piece} {p : Reader.Piece} {c n : ℕ} → t ≡ Code c n → PieceMeans s at t p → Coded s at n c p
coded_told e m = rw e at m

coded_stood : {s : List ℕ} {at : ℕ} {t : Piece} {p : Reader.Piece} {c n : ℕ} → t ≡ Code c n → PieceMeans s at t p → Stood s at n (utf8 c) p
coded_stood e m = (coded_told e m).stood

pub record Stringing (s : List ℕ) (start at : ℕ) : Type 0 where
  pub goes : start ≤ at
  pub passed : List ℕ
  pub decides : chars_from 0 (drop start s) ≡ before passed (chars_from 0 (drop at s))

pub string_starts : (s : List ℕ) (start : ℕ) → Stringing s start start
string_starts s start = record { goes = omega arith; passed = []; decides = before_nothing (chars_from 0 (drop start s)) }

pub starts_passed : (s : List ℕ) (start : ℕ) → (string_starts s start).passed ≡ []
unfolding string_starts
starts_passed s start = refl

module _ {s : List ℕ} {start at : ℕ} (k : Stringing s start at) where
  pub string_cut : length s ≤ at → chars_from 0 (drop start s) ≡ bad
  unfolding and_then
  string_cut h = k.decides ∙ rw (drop_of_length-le s h, chars_none)

  pub stood_on : {n : ℕ} {v : List ℕ} → Stood s at n v (piece_of (drop at s)) → Stringing s start n
  stood_on {n} {v} m = record {
    goes = omega (arith, k.goes, m.next);
    passed = k.passed ++ v;
    decides =
        k.decides
        ∙ ap (before k.passed) (chars_stands (drop at s) m.is ∙ ap (λ l. before v (chars_from 0 l)) (drop-drop (suc m.size) at s ∙ ap (λ i. drop i s) (sym m.next)))
        ∙ before_both k.passed v (chars_from 0 (drop n s));
  }

  pub stood_passed : {n : ℕ} {v : List ℕ} (m : Stood s at n v (piece_of (drop at s))) → (stood_on m).passed ≡ k.passed ++ v
  unfolding stood_on
  stood_passed m = refl

  stood_falls : {n : ℕ} {v : List ℕ} → at < length s → Stood s at n v (piece_of (drop at s)) → length s - n < length s - at
  stood_falls h m = omega (arith, m.next, m.inside)

  module _ {t : Piece} (m : PieceMeans s at t (piece_of (drop at s))) where
    pub byte_on : {b n : ℕ} → t ≡ Byte b n → Stringing s start n
    byte_on e = stood_on (rw e at m)

    pub code_on : {c n : ℕ} → t ≡ Code c n → Stringing s start n
    code_on e = stood_on (coded_stood e m)

    pub byte_falls : {b n : ℕ} → at < length s → t ≡ Byte b n → length s - n < length s - at
    byte_falls h e = stood_falls h (rw e at m)

    pub code_falls : {c n : ℕ} → at < length s → t ≡ Code c n → length s - n < length s - at
    code_falls h e = stood_falls h (coded_stood e m)

    pub string_closed : {n : ℕ} → t ≡ Closes n → Reached s n (chars_from 0 (drop start s))
    unfolding and_then
    string_closed {n} e =
        let c = closed e in
        record {
          inside = c.inside;
          value = k.passed ++ [];
          reads = k.decides ∙ rw (chars_close (drop at s) c.is, drop-drop 1 at s, ← c.next);
        }
      where
        closed : t ≡ Closes n → Closed s at n (piece_of (drop at s))
        closed f = rw f at m

    pub closed_value : {n : ℕ} (e : t ≡ Closes n) → (string_closed e).value ≡ k.passed ++ []
    unfolding string_closed
    closed_value e = refl

    pub string_wrong : t ≡ Wrong → chars_from 0 (drop start s) ≡ bad
    unfolding and_then
    string_wrong e = k.decides ∙ rw (chars_wrong (drop at s) (rw e at m))

-- A byte that is a char by itself.
plain_facts : (b : ℕ) → is_plain b ≡ true → (b ≡ 0x22 → ⊥) × (b ≡ 0x5C → ⊥) × (0x20 ≤ b)
plain_facts b = go (eqb b 0x22) (eqb b 0x5C) refl refl
  where
    go : (x y : Bool) → eqb b 0x22 ≡ x → eqb b 0x5C ≡ y → pick x false (pick y false (leb 0x20 b)) ≡ true → (b ≡ 0x22 → ⊥) × (b ≡ 0x5C → ⊥) × (0x20 ≤ b)
    go true y f g e = absurd (let z : ◌≡◌ {A = ℕ} 0 1 = cc in omega arith)
    go false true f g e = absurd (let z : ◌≡◌ {A = ℕ} 0 1 = cc in omega arith)
    go false false f g e = (eqb-false b 0x22 f, eqb-false b 0x5C g, leb-true 0x20 b e)

pub plain_stood : (s : List ℕ) (at : ℕ) → at < length s → {b : Bool} → b ≡ is_plain (get_or s at 0) → b ≡ true → ((i : ℕ) → Fits w8 (get_or s i 0)) →
    Stood s at (at + 1) (get_or s at 0 ∷ []) (piece_of (drop at s))
plain_stood s at h g e w = let f = plain_facts (get_or s at 0) (sym g ∙ e) in piece_plain s at h f.0 f.1 w f.2

pub ruleset plain_pieces = (piece_end, plain_stood, rules)

module _ {s : List ℕ} {start at : ℕ} (k : Stringing s start at) (h : at < length s) {b : Bool} (g : b ≡ is_plain (get_or s at 0)) (e : b ≡ true) where
  pub plain_on : ((i : ℕ) → Fits w8 (get_or s i 0)) → Stringing s start (at + 1)
  plain_on w = stood_on k (plain_stood s at h g e w)

  pub plain_falls : length s - (at + 1) < length s - at
  plain_falls = omega arith

-- Plain bytes stand for themselves, in front of what the rest stands for.
run_before : (l : List ℕ) → ((i : ℕ) → Fits w8 (get_or l i 0)) → chars_from 0 l ≡ before (take (plain_run l) l) (chars_from 0 (drop (plain_run l) l))
unfolding plain_run
run_before [] w = before_nothing (chars_from 0 [])
run_before (x ∷ l) w = go (is_plain x) refl (run_before l (λ i. w (suc i)))
  where
    go : (b : Bool) → is_plain x ≡ b → chars_from 0 l ≡ before (take (plain_run l) l) (chars_from 0 (drop (plain_run l) l)) →
        chars_from 0 (x ∷ l) ≡ before (take (pick b (suc (plain_run l)) 0) (x ∷ l)) (chars_from 0 (drop (pick b (suc (plain_run l)) 0) (x ∷ l)))
    go true e again =
        let f = plain_facts x e in
        chars_stands (x ∷ l) (plain x l f.0 f.1 f.2 (omega (arith, w 0)))
        ∙ ap (before (x ∷ [])) again
        ∙ before_both (x ∷ []) (take (plain_run l) l) (chars_from 0 (drop (plain_run l) l))
    go false e again = before_nothing (chars_from 0 (x ∷ l))

module _ (s : List ℕ) (start : ℕ) {r : ℕ} (e : r ≡ start + plain_run (drop start s)) (w : (i : ℕ) → Fits w8 (get_or s i 0)) where
  pub run_decides : chars_from 0 (drop start s) ≡ before (between s start r) (chars_from 0 (drop r s))
  run_decides =
      let size : r - start ≡ plain_run (drop start s) = omega arith in
      let rest : drop (plain_run (drop start s)) (drop start s) ≡ drop r s = drop-drop (plain_run (drop start s)) start s ∙ ap (λ i. drop i s) (sym e) in
      rw (size, ← rest) (run_before (drop start s) (λ i. rw (get_or-drop start s i 0) (w (start + i))))

  pub run_on : Stringing s start r
  run_on = record { goes = omega arith; passed = between s start r; decides = run_decides }

pub ruleset stringing = (plain_on, plain_falls, run_on, string_cut, byte_on, code_on, byte_falls, code_falls, string_closed, string_wrong, rules)
