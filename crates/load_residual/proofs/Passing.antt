-- The blank lines and comments that are passed: how many there can be, and where they stand in the text that goes on before them.
-- Assumes nothing.
use mathlib.Core.Path.{◌≡◌, sym, ◌∙◌, ap}
use mathlib.Core.Bool.{Bool}
use mathlib.Core.List.{List, ◌∷◌}
use Prim.Native.Nat.{ℕ, ◌+◌, ◌-◌, ◌≤◌}
use native.Mathlib.Omega.{arith}
use lib.ListN.{length, drop, length-drop}
use lib.Seq.{drop-drop}
use Rattle.ground.specs.Put.{between}
use Rattle.text_places.specs.Lines.{lines, Taken}
use Rattle.load_residual.specs.declared.residual.Passed.{Passed}
use Rattle.load_residual.specs.Inner.Passes.{Passes, none, blank, applied, idle}

pub passes_inside : (member : Bool) (s : List ℕ) (k : Passed) → Passes member s k → k.bytes ≤ length s
passes_inside member s k none = omega arith
passes_inside member s k (blank j a e n p t l) = t.inside
passes_inside member s k (applied j a e n brace p t l g) = t.inside
passes_inside member s k (idle j a e n brace p t l g) = t.inside

-- each line has a byte at least
pub passes_few : (member : Bool) (s : List ℕ) (k : Passed) → Passes member s k → k.blank + k.applied + k.idle ≤ k.bytes
passes_few member s k none = omega arith
passes_few member s k (blank j a e n p t l) = let f = passes_few member s j p in let o = t.past in omega arith
passes_few member s k (applied j a e n brace p t l g) = let f = passes_few member s j p in let o = t.past in omega arith
passes_few member s k (idle j a e n brace p t l g) = let f = passes_few member s j p in let o = t.past in omega arith

-- a line of what is left from the place `n` on is a line there
module _ (s : List ℕ) (n : ℕ) where
  pub part_there : (a e : ℕ) → between (drop n s) a e ≡ between s (n + a) (n + e)
  part_there a e = let same : n + e - (n + a) ≡ e - a = omega arith in rw (same, drop-drop a n s)

  pub taken_there : {at a e m : ℕ} → n ≤ length s → Taken (drop n s) at a e m → Taken s (n + at) (n + a) (n + e) (n + m)
  taken_there {at} {a} {e} {m} h t =
      let size = length-drop n s in
      let o = t.order in
      let w = t.ends in
      let p = t.past in
      let i = t.inside in
      record {
        order = omega arith;
        ends = omega arith;
        past = omega arith;
        inside = omega arith;
        split =
            ap lines (sym (drop-drop at n s)) ∙ t.split ∙ ap (λ l. l ∷ lines (drop m (drop n s))) (part_there a e)
            ∙ ap (λ l. between s (n + a) (n + e) ∷ lines l) (drop-drop m n s);
      }
