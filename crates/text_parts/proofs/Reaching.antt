-- How far a text is UTF-8 from a place on. Assumes nothing.
use Rattle.std.specs.Prelude.{Result, Ok, Err}
use mathlib.Core.Path.{◌≡◌, refl, sym, ◌∙◌, ap}
use mathlib.Core.Bool.{Bool, true, false, not}
use mathlib.Core.List.{List, [], ◌∷◌, ◌++◌, append_assoc}
use mathlib.Core.Logic.{◌⊎◌, inl, inr}
use Prim.Native.Nat.{ℕ, zero, suc, ◌+◌, ◌-◌, ◌≤◌, ◌<◌}
use native.Mathlib.Omega.{arith}
use lib.ListN.{length, get_or, take, drop, length-take, length-drop, take-append-drop}
use lib.Seq.{drop-drop, take-nil, drop-cons}
use borrow.Author.Tests.{lt-ltb, le-ltb, eq-eqb, ne_eqb}
use Rattle.ground.specs.Abnf.{none, more}
use Rattle.ground.specs.Put.{between}
use Rattle.ground.proofs.Cases.{le_or_lt, clash}
use Rattle.ground.proofs.Parts.{take_rest, parts_join}
use Rattle.text_utf8.specs.Grammar.{Utf8Char, Utf8Octets}
use Rattle.text_utf8.specs.Utf8.{check_of, is_utf8}
use Rattle.text_utf8.proofs.Grammatical.{valid_iff, broken_breaks, utf8_octets, octets_utf8}
use Rattle.text_utf8.proofs.Boundaries.{octets_as, append_octets, Fresh, at_end, fresh_as, octets_fresh, cut_octets}
use Rattle.text_parts.specs.Inner.Reach.{is_tail, stop_of, valid_to, ends_well}
use Rattle.text_parts.proofs.Tails.{rest_octets, here_fresh, fresh_head, head_fresh}
use Rattle.text_utf8.specs.declared.check.Broken.{Broken}

-- A text is UTF-8, or not.
pub utf8_no : (s : List ℕ) → (Utf8Octets s → ⊥) → is_utf8 s ≡ false
utf8_no s n = go (is_utf8 s) refl
  where
    go : (b : Bool) → is_utf8 s ≡ b → is_utf8 s ≡ false
    go true e = absurd (n (utf8_octets s e))
    go false e = e

-- Parts of a text.
module _ (s : List ℕ) where
  -- a part that is not empty begins as the text does there
  first_taken : (l : List ℕ) (n : ℕ) → 0 < n → Fresh l → Fresh (take n l)
  first_taken [] n h f = fresh_as (sym (take-nil n)) at_end
  first_taken (x ∷ l) zero h f = absurd (omega arith)
  first_taken (x ∷ l) (suc n) h f = head_fresh x (take n l) (fresh_head f)

  pub part_fresh : (m e : ℕ) → m ≤ e → Fresh (drop m s) → Fresh (between s m e)
  part_fresh m e h f = go (le_or_lt e m)
    where
      empty : (n : ℕ) → n ≡ 0 → Fresh (take n (drop m s))
      empty n z = rw z at_end

      go : (e ≤ m) ⊎ (m < e) → Fresh (between s m e)
      go (inl k) = empty (e - m) (omega arith)
      go (inr k) = first_taken (drop m s) (e - m) (omega arith) f

  -- it may be cut where a sequence may begin
  pub part_cut : (a m e : ℕ) → a ≤ m → m ≤ e → Fresh (drop m s) → Utf8Octets (between s a e) → Utf8Octets (between s a m) × Utf8Octets (between s m e)
  part_cut a m e h k f o = cut_octets (between s a m) (between s m e) (part_fresh m e k f) (octets_as (sym (parts_join s a m e h k)) o)

  pub part_join : (a m e : ℕ) → a ≤ m → m ≤ e → Utf8Octets (between s a m) → Utf8Octets (between s m e) → Utf8Octets (between s a e)
  part_join a m e h k o w = octets_as (parts_join s a m e h k) (append_octets o w)

  part_rest : (a m e : ℕ) → a ≤ m → m ≤ e → Utf8Octets (between s a m) → Utf8Octets (between s a e) → Utf8Octets (between s m e)
  part_rest a m e h k o w = rest_octets o (between s m e) (octets_as (sym (parts_join s a m e h k)) w)

  part_size : (m e : ℕ) → m ≤ e → e ≤ length s → length (between s m e) ≡ e - m
  part_size m e h k = omega (arith, length-take (e - m) (drop m s), length-drop m s)

  -- UTF-8 from a place on, up to another one, and no further
  pub record Extends (m b : ℕ) : Type 0 where
    pub goes : m ≤ b
    pub inside : b ≤ length s
    pub good : Utf8Octets (between s m b)
    pub stops : b < length s → (a r : List ℕ) → Utf8Char a → drop b s ≡ a ++ r → ⊥

  -- a character stands at the head of a well-formed part
  char_there : {t : List ℕ} → Utf8Octets t → (b e : ℕ) → t ≡ between s b e → 0 < length t → ((a r : List ℕ) → Utf8Char a → drop b s ≡ a ++ r → ⊥) → ⊥
  char_there none b e q h n = absurd (omega arith)
  char_there (more {a = a} {b = d} c o) b e q h n =
      n a (d ++ drop (e - b) (drop b s)) c
      (sym (take-append-drop (e - b) (drop b s)) ∙ ap (λ l. l ++ drop (e - b) (drop b s)) (sym q) ∙ append_assoc a d (drop (e - b) (drop b s)))

  pub no_further : {m b : ℕ} → Extends m b → (e : ℕ) → b < e → e ≤ length s → Utf8Octets (between s m e) → ⊥
  no_further {m} {b} x e h k o =
      let g = x.goes in
      let rest = part_rest m b e x.goes (omega arith) x.good o in
      let size = part_size b e (omega arith) k in
      char_there rest b e refl (omega arith) (x.stops (omega arith))

  one_stop : {m b d : ℕ} → Extends m b → Extends m d → b ≡ d
  one_stop {m} {b} {d} x y = go (le_or_lt b d) (le_or_lt d b)
    where
      go : (b ≤ d) ⊎ (d < b) → (d ≤ b) ⊎ (b < d) → b ≡ d
      go (inl h) (inl k) = omega arith
      go (inl h) (inr k) = absurd (no_further x d k y.inside y.good)
      go (inr h) w = absurd (no_further y b h x.inside x.good)

  pub valid_extends : (m : ℕ) → m ≤ length s → Extends m (valid_to s m)
  valid_extends m h = go (check_of (drop m s)) refl
    where
      whole : m + (length s - m) ≡ length s
      whole = omega arith

      go : (o : Result Unit Broken) → check_of (drop m s) ≡ o → Extends m (m + stop_of (length s - m) o)
      go (Ok _) e =
          record {
            goes = omega arith;
            inside = omega arith;
            good = octets_as (sym (ap (between s m) whole ∙ take_rest s m)) ((valid_iff (drop m s)).0 e);
            stops = λ k a r c q. absurd (omega arith);
          }
      go (Err t) e =
          let b = broken_breaks (drop m s) e in
          let i = b.inside in
          let n : m + t.at - m ≡ t.at = omega arith in
          record {
            goes = omega arith;
            inside = omega (arith, length-drop m s);
            good = octets_as (ap (λ x. take x (drop m s)) (sym n)) b.before;
            stops = λ l a r c q. b.after a r c (drop-drop t.at m s ∙ q);
          }

  -- so what is known from an earlier place on is known from here on
  pub moved_on : (m f : ℕ) → m ≤ length s → m ≤ f → f ≤ valid_to s m → Fresh (drop f s) → valid_to s m ≡ valid_to s f
  moved_on m f h g k fresh =
      let x = valid_extends m h in
      let i = x.inside in
      let here : Extends f (valid_to s m) = record { goes = k; inside = i; good = (part_cut m f (valid_to s m) g k fresh x.good).1; stops = x.stops } in
      one_stop here (valid_extends f (omega arith))

  -- up to which places a text is UTF-8, from a place on
  pub ends_told : {m b : ℕ} → Extends m b → (e : ℕ) → m ≤ e → e ≤ length s → is_utf8 (between s m e) ≡ ends_well s b e
  ends_told {m} {b} x e h k = go (le_or_lt e b) (le_or_lt b e)
    where
      -- where the text goes on behind a part that is UTF-8, a sequence begins
      tail_free : e < b → Utf8Octets (between s m e) → is_tail (get_or s e 0) ≡ false
      tail_free l o =
          let i = x.inside in
          let n : suc (b - suc e) ≡ b - e = omega arith in
          let there : between s e b ≡ get_or s e 0 ∷ take (b - suc e) (drop (suc e) s) = rw (← n, drop-cons s e 0 (omega arith)) refl in
          fresh_head (fresh_as there (octets_fresh (part_rest m e b h (omega arith) o x.good)))

      short : e < b → (t : Bool) → is_tail (get_or s e 0) ≡ t → is_utf8 (between s m e) ≡ not t
      short l true q = utf8_no (between s m e) (λ o. clash q (tail_free l o))
      short l false q =
          let i = x.inside in
          octets_utf8 (between s m e) (part_cut m e b h (omega arith) (here_fresh s e (omega arith) q) x.good).0

      go : (e ≤ b) ⊎ (b < e) → (b ≤ e) ⊎ (e < b) → is_utf8 (between s m e) ≡ ends_well s b e
      go (inr l) w = utf8_no (between s m e) (λ o. no_further x e l k o) ∙ sym (rw (lt-ltb b e l))
      go (inl l) (inl r) = let z : b ≡ e = omega arith in octets_utf8 (between s m e) (rw z at x.good) ∙ sym (rw (le-ltb b e l, eq-eqb b e z))
      go (inl l) (inr r) = short r (is_tail (get_or s e 0)) refl ∙ sym (rw (le-ltb b e l, ne_eqb b e (λ z. absurd (omega arith))))
