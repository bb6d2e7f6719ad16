-- A text that the pool holds at a place: the row that names it names this text, and is fine where the text is well formed. Assumes nothing.
use mathlib.Core.Path.{◌≡◌, refl, sym, ◌∙◌, ap}
use mathlib.Core.List.{List, [], ◌++◌}
use Prim.Native.Nat.{ℕ, ◌+◌, ◌-◌, ◌≤◌}
use native.Mathlib.Omega.{arith}
use lib.ListN.{length, take, drop, length-append}
use lib.Seq.{take_at, take-take, drop_at, drop-drop}
use Rattle.ground.specs.Abnf.{none}
use Rattle.ground.proofs.Parts.{drop_take}
use Rattle.text_utf8.specs.Grammar.{Utf8Octets}
use Rattle.text_utf8.specs.Utf8.{check_of}
use Rattle.text_utf8.proofs.Grammatical.{valid_iff}
use Rattle.tables.specs.declared.check.Used.{Used}
use Rattle.table_rows.specs.Rows.{text}
use Rattle.tables.specs.Back.{text_in}
use Rattle.tables.proofs.Checking.{FineText}

-- the text `x` stands in the used pool from the place `p` on
pub record Holds (pool : List ℕ) (used : Used) (p : ℕ) (x : List ℕ) : Type 0 where
  pub is : text_in pool (text p (length x)) ≡ x
  pub fits : p + length x ≤ used.pool

-- all that is used
pub holds_all : (x rest : List ℕ) (used : Used) → used.pool ≡ length x → Holds (x ++ rest) used 0 x
holds_all x rest used e = record { is = take_at x rest (length x) refl; fits = omega arith }

module _ {pool : List ℕ} {used : Used} where
  pub holds_as : {p q : ℕ} {x : List ℕ} → p ≡ q → Holds pool used p x → Holds pool used q x
  holds_as e h = rw e at h

  -- of two texts one after the other, the first
  pub holds_first : {p : ℕ} (a b : List ℕ) → Holds pool used p (a ++ b) → Holds pool used p a
  holds_first {p} a b h =
      let size = length-append a b in
      let f = h.fits in
      record {
        is = sym (take-take (length a) (length (a ++ b)) (drop p pool) (omega arith)) ∙ ap (take (length a)) h.is ∙ take_at a b (length a) refl;
        fits = omega arith;
      }

  -- and the second
  pub holds_second : {p : ℕ} (a b : List ℕ) → Holds pool used p (a ++ b) → Holds pool used (p + length a) b
  holds_second {p} a b h =
      let size = length-append a b in
      let f = h.fits in
      let rest : length (a ++ b) - length a ≡ length b = omega arith in
      record {
        is =
            ap (take (length b)) (sym (drop-drop (length a) p pool)) ∙ ap (λ n. take n (drop (length a) (drop p pool))) (sym rest)
            ∙ sym (drop_take (length a) (length (a ++ b)) (drop p pool)) ∙ ap (drop (length a)) h.is ∙ drop_at a b (length a) refl;
        fits = omega arith;
      }

  -- the check finds nothing wrong with it
  pub holds_fine : {p : ℕ} {x : List ℕ} → Holds pool used p x → Utf8Octets x → FineText pool used (text p (length x))
  holds_fine {p} {x} h o = record { inside = h.fits; valid = ap check_of h.is ∙ (valid_iff x).1 o }

  -- "(0, 0 for a field)"
  pub nothing_fine : FineText pool used (text 0 0)
  nothing_fine = record { inside = omega arith; valid = (valid_iff []).1 none }
