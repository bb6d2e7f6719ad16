-- A number written byte by byte. Assumes nothing.
use mathlib.Core.Path.{◌≡◌}
use mathlib.Core.List.{List}
use Prim.Native.Nat.{ℕ, ◌+◌, ◌/◌, ◌%◌, ◌≤◌}
use lib.ListN.{length, set}
use borrow.Author.Rules.{rules}
use Rattle.ground.specs.Put.{put}
use Rattle.ground.proofs.Fours.{second_inside, third_inside, fourth_inside, four_put}
use Rattle.tree_rule.specs.Words.{word_bytes}

pub four_bytes_put : (d : List ℕ) (at v : ℕ) → at + 4 ≤ length d →
    set (set (set (set d at (v % 256)) (at + 1) (v / 256 % 256)) (at + 2) (v / 65536 % 256)) (at + 3) (v / 16777216 % 256)
    ≡ put d at (word_bytes v)
unfolding word_bytes
four_bytes_put d at v h = four_put d at h (v % 256) (v / 256 % 256) (v / 65536 % 256) (v / 16777216 % 256)

pub ruleset put_wording = (second_inside, third_inside, fourth_inside, four_bytes_put, rules)
