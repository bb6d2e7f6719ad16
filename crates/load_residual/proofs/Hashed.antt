-- The signature of a comment, from its `#` on. Assumes nothing.
use Rattle.std.specs.Prelude.{Option, Some, None}
use mathlib.Core.Path.{◌≡◌, refl, sym, ◌∙◌, ap}
use mathlib.Core.Bool.{Bool, true, false, not}
use mathlib.Core.List.{List}
use Prim.Native.Nat.{ℕ, ◌+◌, ◌-◌, ◌^◌, ◌≤◌, ◌<◌}
use native.Mathlib.Omega.{arith}
use lib.ListN.{length, take, drop, length-take, length-drop}
use lib.Seq.{drop-drop, take-take}
use mir.Val.{Fits}
use mir.Syntax.{w64}
use borrow.Author.Rules.{rules}
use Rattle.ground.specs.Put.{between}
use Rattle.ground.proofs.Cases.{clash}
use Rattle.ground.proofs.Parts.{drop_take}
use Rattle.text_places.specs.Places.{first_where, starts}
use Rattle.text_places.proofs.PlaceLaws.{first_inside}
use Rattle.text_white.specs.Trim.{trim_end}
use Rattle.text_white.proofs.TrimLaws.{trim_end_inside}
use Rattle.load_rule.specs.Comments.{signature_of}
use Rattle.load_residual.specs.Inner.Residuals.{Gives, heeded, braced_gives, hash_gives}
use Rattle.load_residual.proofs.Giving.{nothing_lies}
use Rattle.load_residual.specs.declared.residual.Residual.{Residual}

module _ (s : List ℕ) (hash e : ℕ) where
  pub unheeded : (member : Bool) → not member ≡ true → Gives s None (heeded member (hash_gives (between s hash e)))
  unheeded false n = record { look = refl; lies = nothing_lies (length s) }
  unheeded true n = clash n refl

  module _ (o : hash ≤ e) (i : e ≤ length s) {size : ℕ} (f : size ≡ trim_end (between s hash e)) where
    few : size ≤ e - hash
    few = let t = trim_end_inside (between s hash e) in let n = length-take (e - hash) (drop hash s) in omega arith

    pub stop_fits : length s < 2 ^ 64 → Fits w64 (hash + size)
    stop_fits b = let n = few in omega arith

    pub stop_inside : hash + size ≤ length s
    stop_inside = let n = few in omega arith

    -- what is left of the line once its end is trimmed
    trimmed : between s hash (hash + size) ≡ take (trim_end (between s hash e)) (between s hash e)
    trimmed =
        let n = few in
        let w : hash + size - hash ≡ size = omega arith in
        rw (w, ← f) (sym (take-take size (e - hash) (drop hash s) n))

    module _ {q : Option ℕ} (g : q ≡ first_where (starts 0x7B) (between s hash (hash + size))) where
      found : hash_gives (between s hash e) ≡ braced_gives (between s hash (hash + size)) q
      found = sym (rw (g, trimmed))

      pub no_brace : (member : Bool) → not member ≡ false → q ≡ None → Gives s None (heeded member (hash_gives (between s hash e)))
      no_brace member m z = go member m
        where
          go : (b : Bool) → not b ≡ false → Gives s None (heeded b (hash_gives (between s hash e)))
          go true r = record { look = sym (found ∙ ap (braced_gives (between s hash (hash + size))) z); lies = nothing_lies (length s) }
          go false r = record { look = refl; lies = nothing_lies (length s) }

      module _ {gap : ℕ} (z : q ≡ Some gap) where
        inside : gap < size
        inside =
            let n = few in
            let l = length-take (hash + size - hash) (drop hash s) in
            let d = length-drop hash s in
            let w = first_inside (starts 0x7B) (between s hash (hash + size)) (sym g ∙ z) in
            omega arith

        pub brace_fits : length s < 2 ^ 64 → Fits w64 (hash + gap)
        brace_fits b = let n = few in let w = inside in omega arith

        pub brace_order : hash + gap ≤ hash + size
        brace_order = let w = inside in omega arith

        json : drop gap (between s hash (hash + size)) ≡ between s (hash + gap) (hash + size)
        json =
            let w : hash + size - hash - gap ≡ hash + size - (hash + gap) = omega arith in
            rw (drop_take gap (hash + size - hash) (drop hash s), drop-drop gap hash s, w)

        given : hash_gives (between s hash e) ≡ signature_of (between s (hash + gap) (hash + size))
        given = found ∙ ap (braced_gives (between s hash (hash + size))) z ∙ ap signature_of json

        pub brace_gives : {r : Option Residual} → Gives s r (signature_of (between s (hash + gap) (hash + size))) → (member : Bool) → not member ≡ false →
            Gives s r (heeded member (hash_gives (between s hash e)))
        brace_gives {r} w member m = go member m
          where
            go : (b : Bool) → not b ≡ false → Gives s r (heeded b (hash_gives (between s hash e)))
            go true u = record { look = w.look ∙ sym given; lies = w.lies }
            go false u = clash refl u

pub ruleset hashed = (unheeded, stop_fits, stop_inside, no_brace, brace_fits, brace_order, brace_gives, rules)
