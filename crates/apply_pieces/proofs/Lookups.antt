-- Rows by their raw descriptors, and the next piece up to a place. Assumes nothing.
use Rattle.std.specs.Prelude.{Option, Some, None}
use mathlib.Core.Path.{◌≡◌, refl, ap}
use mathlib.Core.List.{List}
use mathlib.Core.Logic.{◌⊎◌, inl, inr}
use Prim.Native.Nat.{ℕ, ◌+◌, ◌-◌, ◌^◌, ◌≤◌, ◌<◌}
use native.Mathlib.Omega.{arith}
use lib.ListN.{length}
use mir.Val.{Fits}
use mir.Syntax.{w64}
use borrow.Author.Rules.{rules}
use Rattle.ground.specs.Put.{between}
use Rattle.ground.proofs.Cases.{le_or_lt}
use Rattle.text_places.specs.Places.{first_where, starts}
use Rattle.tables.specs.Search.{last_raw}
use Rattle.apply_pieces.specs.Inner.Known.{raw_of}
use Rattle.apply_pieces.specs.Inner.Sought.{RawsTo}
use Rattle.apply_pieces.specs.Inner.Within.{FirstAt, ClosedAt, OpenFrom}
use Rattle.apply_pieces.proofs.Knowing.{row_says, row_has}
use Rattle.apply_pieces.proofs.Cuts.{told_none, told_within, told_first}

-- A piece that is longer than each of them is none of them.
pub too_long : (classes : List (List ℕ)) (pool : List ℕ) (longest : ℕ) → RawsTo (length classes) classes pool longest →
    (piece : List ℕ) → longest < length piece → None ≡ last_raw classes pool piece
too_long classes pool longest t piece h = go (last_raw classes pool piece) refl
  where
    go : (r : Option ℕ) → last_raw classes pool piece ≡ r → None ≡ r
    go (Some i) e =
        let a = t.each i (row_says classes pool piece e).0 in
        let b = ap length (row_has classes pool piece e) in
        absurd (omega arith)
    go None e = refl

pub ruleset rows_by_raw = (too_long, rules)

-- The rows below `row` were asked.
pub record Measuring (classes : List (List ℕ)) (pool : List ℕ) (longest row : ℕ) : Type 0 where
  pub inside : row ≤ length classes
  pub raws : RawsTo row classes pool longest

pub measuring_starts : (classes : List (List ℕ)) (pool : List ℕ) → Measuring classes pool 0 0
measuring_starts classes pool = record { inside = omega arith; raws = record { each = λ i h. absurd (omega arith) } }

module _ {classes : List (List ℕ)} {pool : List ℕ} {longest row : ℕ} (k : Measuring classes pool longest row) where
  pub measuring_ends : length classes ≤ row → RawsTo (length classes) classes pool longest
  measuring_ends h = let z : row ≡ length classes = let i = k.inside in omega arith in rw z at k.raws

  module _ (h : row < length classes) {n : ℕ} (e : n ≡ length (raw_of classes pool row)) where
    one_more : (m : ℕ) → longest ≤ m → n ≤ m → Measuring classes pool m (row + 1)
    one_more m l u = record { inside = omega arith; raws = record { each = λ i j. go i j (le_or_lt row i) } }
      where
        go : (i : ℕ) → i < row + 1 → (row ≤ i) ⊎ (i < row) → length (raw_of classes pool i) ≤ m
        go i j (inl g) = let z : i ≡ row = omega arith in rw z (omega (arith, e))
        go i j (inr g) = let a = k.raws.each i g in omega arith

    pub measuring_longer : longest < n → Measuring classes pool n (row + 1)
    measuring_longer l = one_more n (omega arith) (omega arith)

    pub measuring_shorter : n ≤ longest → Measuring classes pool longest (row + 1)
    measuring_shorter l = one_more longest (omega arith) l

pub ruleset measuring = (measuring_starts, measuring_ends, measuring_longer, measuring_shorter, rules)

-- The next piece up to a place.
module _
    (text : List ℕ) («from» stop : ℕ) (i : «from» ≤ stop) (j : stop ≤ length text) {p : Option ℕ}
    (e : p ≡ first_where (starts 0x4C) (between text «from» stop)) {n : ℕ} (f : p ≡ Some n) where
  pub within_order : «from» + n ≤ stop
  within_order = let a = told_within 0x4C text «from» stop i j e f in omega arith

  pub within_fits : length text < 2 ^ 64 → Fits w64 («from» + n)
  within_fits z = let a = within_order in omega arith

  opens : FirstAt 0x4C text «from» («from» + n)
  opens = told_first 0x4C text «from» stop i j e f

  module _ {q : Option ℕ} (g : q ≡ first_where (starts 0x3B) (between text («from» + n) stop)) where
    pub within_open : q ≡ None → OpenFrom text «from» («from» + n) stop
    within_open h = record {
      plain = opens;
      unclosed = record {
        there = opens.there;
        some = told_within 0x4C text «from» stop i j e f;
        unclosed = told_none 0x3B text («from» + n) stop within_order j g h;
      };
    }

    module _ {m : ℕ} (h : q ≡ Some m) where
      ends : «from» + n + m < stop
      ends = told_within 0x3B text («from» + n) stop within_order j g h

      pub within_end_fits : length text < 2 ^ 64 → Fits w64 («from» + n + m)
      within_end_fits z = let a = ends in omega arith

      pub within_past_fits : length text < 2 ^ 64 → Fits w64 («from» + n + m + 1)
      within_past_fits z = let a = ends in omega arith

      pub within_closed : ClosedAt text «from» stop («from» + n) («from» + n + m + 1)
      within_closed =
          let z : «from» + n + m + 1 - 1 ≡ «from» + n + m = omega arith in
          record {
            plain = opens;
            some = omega arith;
            closes = rw z (told_first 0x3B text («from» + n) stop within_order j g h);
            inside = let a = ends in omega arith;
          }

pub ruleset looking_within = (told_none, within_order, within_fits, within_open, within_end_fits, within_past_fits, within_closed, rules)
