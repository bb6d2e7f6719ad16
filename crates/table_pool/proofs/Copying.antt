-- A text of the pool, written once more behind it. Assumes nothing.
use mathlib.Core.Path.{◌≡◌, sym, ◌∙◌, ap}
use mathlib.Core.List.{List, ◌++◌}
use Prim.Native.Nat.{ℕ, ◌+◌, ◌-◌, ◌^◌, ◌≤◌, ◌<◌}
use native.Mathlib.Omega.{arith}
use lib.ListN.{length, get_or, set, take, drop, length-drop, get_or-append}
use lib.Seq.{length_paste_head, get_or-take, get_or-drop, length-take-le}
use mir.Val.{Fits}
use mir.Syntax.{w64}
use borrow.Author.Rules.{rules}
use Rattle.table_pool.specs.Inner.Wrote.{Written}
use Rattle.table_pool.proofs.Writes.{Pasting, text_starts, text_done, byte_more}

module _ (d : List ℕ) (at place size : ℕ) (b : place + size ≤ at) where
  pub copy_over : length d < at → length d < at + length (take size (drop place d))
  copy_over h = omega arith

  module _ (i : at ≤ length d) where
    copied : length (take size (drop place d)) ≡ size
    copied = length-take-le size (drop place d) (omega (arith, length-drop place d))

    pub copy_no_room : length d - at < size → length d < at + length (take size (drop place d))
    copy_no_room h = omega (arith, copied)

    module _ (h : size ≤ length d - at) where
      room_copy : length (take size (drop place d)) ≤ length d - at
      room_copy = omega (arith, copied)

      pub copy_starts : Pasting d at (take size (drop place d)) d 0
      copy_starts = text_starts d at (take size (drop place d)) i room_copy

      module _ {room : List ℕ} {k : ℕ} (w : Pasting d at (take size (drop place d)) room k) where
        pub copy_done : size ≤ k → Written (at + k) d at (take size (drop place d)) room
        copy_done l = text_done d at (take size (drop place d)) i room_copy w (omega (arith, copied))

        pub copy_inside : k < size → at + k < length room
        copy_inside l = omega (arith, w.size)

        pub copy_read : k < size → place + k < length room
        copy_read l = omega (arith, w.size)

        -- what stands before is not touched
        untouched : k < size → get_or room (place + k) 0 ≡ get_or d (place + k) 0
        untouched l =
            ap (λ x. get_or x (place + k) 0) w.is
            ∙ get_or-append (take at d ++ take k (take size (drop place d))) (drop (at + k) d) 0 (place + k) (let n = length_paste_head d at (take size (drop place d)) k i w.some in omega arith)
            ∙ get_or-append (take at d) (take k (take size (drop place d))) 0 (place + k) (let n = length-take-le at d i in omega arith)
            ∙ get_or-take at d (place + k) 0 (omega arith)

        pub copy_more : k < size → Pasting d at (take size (drop place d)) (set room (at + k) (get_or room (place + k) 0)) (k + 1)
        copy_more l =
            byte_more d at (take size (drop place d)) i room_copy w (omega (arith, copied))
            (untouched l ∙ sym (get_or-take size (drop place d) k 0 l ∙ get_or-drop place d k 0))

        pub copy_fits : length d < 2 ^ 64 → Fits w64 (at + k)
        copy_fits z = omega (arith, w.some, copied)

        pub copy_fits_read : length d < 2 ^ 64 → Fits w64 (place + k)
        copy_fits_read z = omega (arith, w.some, copied)

pub ruleset copying = (copy_over, copy_no_room, copy_starts, copy_done, copy_inside, copy_read, copy_more, copy_fits, copy_fits_read, rules)
