-- A text as its sequences: the first one, and those of what it leaves. Assumes nothing.
use mathlib.Core.Path.{◌≡◌, refl, ◌∙◌}
use mathlib.Core.List.{List, [], ◌∷◌}
use Prim.Native.Nat.{ℕ, zero, suc, ◌+◌, ◌-◌, ◌^◌, ◌≤◌, ◌<◌}
use native.Mathlib.Omega.{arith}
use lib.ListN.{length, drop, length-drop}
use lib.Seq.{drop-drop}
use Rattle.text_utf8.specs.declared.sequence.Sequence.TheVariants.{End, Good, Bad}
use Rattle.text_utf8.specs.Utf8.{sequence_of, pieces_from, pieces}
use Rattle.text_utf8.proofs.Sequences.{good_fits}
use mir.Val.{Fits}
use mir.Syntax.{w64}

skipped : (n : ℕ) (l : List ℕ) → pieces_from n l ≡ pieces (drop n l)
unfolding pieces_from
skipped zero l = refl
skipped (suc n) [] = refl
skipped (suc n) (x ∷ l) = skipped n l

at_end : sequence_of [] ≡ End
unfolding sequence_of
at_end = refl

good_at : (x : ℕ) (l : List ℕ) (d m : ℕ) → 0 < m → sequence_of (x ∷ l) ≡ Good d m → pieces (x ∷ l) ≡ Good d m ∷ pieces (drop m (x ∷ l))
unfolding pieces_from
good_at x l d zero h e = absurd (omega arith)
good_at x l d (suc m) h e = rw (e, skipped m l)

pub pieces_good : (l : List ℕ) {d m : ℕ} → sequence_of l ≡ Good d m → pieces l ≡ Good d m ∷ pieces (drop m l)
pieces_good [] e = absurd (let p = at_end in let z : ◌≡◌ {A = ℕ} 0 1 = cc in omega arith)
pieces_good (x ∷ l) {d} {m} e = good_at x l d m (good_fits (x ∷ l) e).0 e

pub pieces_bad : (l : List ℕ) {m : ℕ} → sequence_of l ≡ Bad m → pieces l ≡ Bad m ∷ pieces (drop 1 l)
unfolding pieces_from
pieces_bad [] e = absurd (let p = at_end in let z : ◌≡◌ {A = ℕ} 0 1 = cc in omega arith)
pieces_bad (x ∷ l) e = rw e

pub pieces_none : (l : List ℕ) → length l ≡ 0 → pieces l ≡ []
unfolding pieces_from
pieces_none [] e = refl
pieces_none (x ∷ l) e = absurd (omega arith)

-- the same, at a place of a text
module _ (s : List ℕ) (at : ℕ) where
  pub pieces_past : length s ≤ at → pieces (drop at s) ≡ []
  pieces_past h = pieces_none (drop at s) (rw length-drop (omega arith))

  pub pieces_on : {d m : ℕ} → sequence_of (drop at s) ≡ Good d m → pieces (drop at s) ≡ Good d m ∷ pieces (drop (at + m) s)
  pieces_on {d} {m} e = pieces_good (drop at s) e ∙ rw (drop-drop m at s)

  pub good_inside : {d m : ℕ} → sequence_of (drop at s) ≡ Good d m → (0 < m) × (at + m ≤ length s)
  good_inside {d} {m} e = let f = good_fits (drop at s) e in omega (arith, length-drop at s)

  pub good_past_fits : {d m : ℕ} → length s < 2 ^ 64 → sequence_of (drop at s) ≡ Good d m → Fits w64 (at + m)
  good_past_fits h e = let i = good_inside e in omega arith

  pub good_past_falls : {d m : ℕ} → sequence_of (drop at s) ≡ Good d m → length s - (at + m) < length s - at
  good_past_falls e = let i = good_inside e in omega arith
