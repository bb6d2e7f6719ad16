-- A string without escapes stands for its own bytes. Assumes nothing.
use Rattle.std.specs.Prelude.{Option, Some, None}
use mathlib.Core.Path.{◌≡◌, refl, sym, ◌∙◌, ap}
use mathlib.Core.Bool.{Bool, true, false}
use mathlib.Core.List.{List, [], ◌∷◌, ◌++◌, append-nil}
use mathlib.Core.Logic.{◌⊎◌, inl, inr}
use Prim.Native.Nat.{ℕ, suc, ◌+◌, ◌-◌, ◌≤◌, ◌<◌}
use native.Mathlib.Numerals.{add-one}
use native.Mathlib.Omega.{arith}
use lib.ListN.{length, get_or, take, drop, drop_of_length-le, take-append-drop}
use lib.Seq.{drop-cons, drop-drop}
use mir.Val.{Fits}
use mir.Syntax.{w8}
use borrow.Author.Rules.{rules}
use Rattle.ground.specs.Choice.{pick}
use Rattle.ground.specs.Put.{between}
use Rattle.ground.proofs.Cases.{le_or_lt, clash}
use Rattle.text_places.specs.Places.{starts, same}
use Rattle.text_places.proofs.Holds.{byte_is}
use Rattle.text_places.proofs.PlaceLaws.{byte_here, byte_other, same_equal}
use Rattle.json_grammar.specs.Reader.{got, and_then, chars_from}
use Rattle.json_grammar.proofs.Items.{before}
use Rattle.json_grammar.proofs.StringsAll.{quote_closes}
use Rattle.json_string.specs.Inner.Plain.{is_plain, plain_run}
use Rattle.json_string.proofs.Strings.{run_decides}
use Rattle.json_decode.specs.Decoded.{decoded_is}
use Rattle.json_decode.specs.Inner.Plain.{plain_string}

-- the string from `start` on stands for its own bytes, and its quotation mark stands at the place `e`
pub record OwnBytes (s : List ℕ) (start e : ℕ) : Type 0 where
  pub goes : start ≤ e
  pub inside : e < length s
  pub reads : chars_from 0 (drop start s) ≡ got (between s start e) (drop (e + 1) s)

-- the run of its plain bytes ends at the place `r`
module _ (s : List ℕ) (start : ℕ) {r : ℕ} (e : r ≡ start + plain_run (drop start s)) where
  run_own : ((i : ℕ) → Fits w8 (get_or s i 0)) → r < length s → get_or s r 0 ≡ 0x22 → OwnBytes s start r
  unfolding and_then
  run_own w h q =
      let here : drop r s ≡ 0x22 ∷ drop (r + 1) s = rw (add-one r, ← q) (drop-cons s r 0 h) in
      let rest : chars_from 0 (drop r s) ≡ got [] (drop (r + 1) s) = ap (chars_from 0) here ∙ quote_closes (drop (r + 1) s) in
      record {
        goes = omega arith;
        inside = h;
        reads = run_decides s start e w ∙ ap (before (between s start r)) rest ∙ ap (λ v. got v (drop (r + 1) s)) (append-nil (between s start r));
      }

  pub plain_cut : length s ≤ r → None ≡ plain_string s start
  plain_cut h = sym (rw (← e, drop_of_length-le s h))

  pub plain_other : r < length s → (get_or s r 0 ≡ 0x22 → ⊥) → None ≡ plain_string s start
  plain_other h n = sym (rw (← e, byte_other 0x22 s r h n))

  pub plain_found : r < length s → get_or s r 0 ≡ 0x22 → Some r ≡ plain_string s start
  plain_found h q = sym (rw (← e, byte_here 0x22 s r h q))

pub ruleset plain_strings = (plain_cut, plain_other, plain_found, rules)

-- what `plain_string` found
pub own_bytes : (s : List ℕ) (start : ℕ) {t : Option ℕ} {e : ℕ} → t ≡ plain_string s start → t ≡ Some e → ((i : ℕ) → Fits w8 (get_or s i 0)) → OwnBytes s start e
own_bytes s start {e = e} g h w = go (start + plain_run (drop start s)) refl (starts 0x22 (drop (start + plain_run (drop start s)) s)) refl (sym g ∙ h)
  where
    go : (p : ℕ) → p ≡ start + plain_run (drop start s) → (b : Bool) → starts 0x22 (drop p s) ≡ b → pick b (Some p) None ≡ Some e → OwnBytes s start e
    go p k true q f = let z : p ≡ e = cc in rw z at (run_own s start k w (inside (le_or_lt (length s) p)) (byte_is 0x22 s p q))
      where
        inside : (length s ≤ p) ⊎ (p < length s) → p < length s
        inside (inl l) = clash q (rw (drop_of_length-le s l))
        inside (inr l) = l
    go p k false q f = absurd (let z : ◌≡◌ {A = ℕ} 0 1 = cc in omega arith)

-- a plain word and a quotation mark: the run ends there
word_run : (v t : List ℕ) → plain_run v ≡ length v → plain_run (v ++ (0x22 ∷ t)) ≡ length v
unfolding plain_run
word_run [] t e = refl
word_run (x ∷ v) t e = go (is_plain x) e (word_run v t)
  where
    go : (b : Bool) → pick b (suc (plain_run v)) 0 ≡ suc (length v) → (plain_run v ≡ length v → plain_run (v ++ (0x22 ∷ t)) ≡ length v) →
        pick b (suc (plain_run (v ++ (0x22 ∷ t)))) 0 ≡ suc (length v)
    go true f again = ap suc (again (omega arith))
    go false f again = absurd (omega arith)

module _ (s : List ℕ) (start : ℕ) (word : List ℕ) (p : plain_run word ≡ length word) (l : length word < length s - start)
    (q : get_or s (start + length word) 0 ≡ 0x22) (w : (i : ℕ) → Fits w8 (get_or s i 0)) where
  pub word_stands : {b : Bool} → b ≡ same (between s start (start + length word)) word → b ≡ true → true ≡ decoded_is word (chars_from 0 (drop start s))
  word_stands f g =
      let is : between s start (start + length word) ≡ word = same_equal (between s start (start + length word)) word (sym f ∙ g) in
      let size : start + length word - start ≡ length word = omega arith in
      let back : drop (length word) (drop start s) ≡ 0x22 ∷ drop (start + length word + 1) s =
      drop-drop (length word) start s ∙ rw (add-one (start + length word), ← q) (drop-cons s (start + length word) 0 (omega arith)) in
      let front : take (length word) (drop start s) ≡ word = rw size at is in
      let whole : drop start s ≡ word ++ (0x22 ∷ drop (start + length word + 1) s) =
      sym (take-append-drop (length word) (drop start s)) ∙ rw (front, back) in
      let run : plain_run (drop start s) ≡ length word = ap plain_run whole ∙ word_run word (drop (start + length word + 1) s) p in
      let own = run_own s start (rw run) w (omega arith) q in
      sym (rw own.reads (sym f ∙ g))

pub ruleset wording = (word_stands, rules)
