-- A descriptor written with its known pieces shown, from one that is known to the next. Assumes nothing.
use Rattle.std.specs.Prelude.{Result, Ok, Err, Option, Some, None}
use mathlib.Core.Path.{◌≡◌, refl, sym, ◌∙◌, ap}
use mathlib.Core.Bool.{false}
use mathlib.Core.List.{List, [], ◌++◌, append_assoc}
use Prim.Native.Nat.{ℕ, ◌+◌, ◌-◌, ◌^◌, ◌≤◌, ◌<◌}
use native.Mathlib.Omega.{arith}
use lib.ListN.{length, get_or, drop, drop_of_length-le}
use mir.Val.{Fits}
use mir.Syntax.{w64}
use borrow.Author.Rules.{rules}
use Rattle.ground.specs.Put.{between}
use Rattle.ground.proofs.Parts.{take_rest}
use Rattle.ground.proofs.PutLaws.{put_nothing}
use Rattle.table_rows.specs.declared.rows.Class.{Class}
use Rattle.table_rows.specs.Rows.{unpack_class}
use Rattle.table_rows.specs.Classes.{shown}
use Rattle.table_pool.specs.Inner.Wrote.{Written, WroteBy, no_room}
use Rattle.table_pool.proofs.Writes.{wrote_told, wrote_none, wrote_as, wrote_then, none_then, written_length, two_no_first}
use Rattle.tables.specs.Back.{text_in, read_back}
use Rattle.descriptor.specs.Pieces.{parts_from}
use Rattle.apply_rule.specs.Changes.{piece_known}
use Rattle.apply_rule.proofs.Pieces.{unknown_stays}
use Rattle.apply_pieces.specs.Inner.Known.{raw_of, display_of, one_known, all_shown, KnownAt, KnownBy, piece_of_row}
use Rattle.table_pool.specs.declared.write.NoRoom.{NoRoom}
use Rattle.apply_pieces.specs.declared.known.KnownPiece.{KnownPiece}

-- The texts of a row.
module _ (classes : List (List ℕ)) (pool : List ℕ) (row : ℕ) {c : Class} (e : c ≡ unpack_class (get_or classes row [])) where
  pub raw_told : {s : List ℕ} → s ≡ text_in pool c.raw → length s ≡ length (raw_of classes pool row)
  raw_told f = ap length (f ∙ ap (λ x. text_in pool x.raw) e)

  display_told : {s : List ℕ} → s ≡ text_in pool c.display → s ≡ display_of classes pool row
  display_told f = f ∙ ap (λ x. text_in pool x.display) e

pub ruleset raw_lengths = (raw_told, rules)

-- What stands before a piece, and the piece.
module _ (d : List ℕ) (at : ℕ) (a : List ℕ) (r : Result ℕ NoRoom) (d₁ : List ℕ) (w : WroteBy r d at a d₁) where
  pub one_shown : {m : ℕ} → r ≡ Ok m → (classes : List (List ℕ)) (pool : List ℕ) (row : ℕ) →
      {c : Class} → c ≡ unpack_class (get_or classes row []) → {s : List ℕ} → s ≡ text_in pool c.display →
      (v : Result ℕ NoRoom) (d₂ : List ℕ) → WroteBy v d₁ m s d₂ → WroteBy v d at (a ++ display_of classes pool row) d₂
  one_shown {m} e classes pool row f {s} g v d₂ u =
      wrote_then v (display_of classes pool row) d₂ (wrote_told r d at a d₁ w e) (wrote_as v d₁ m d₂ (display_told classes pool row f g) u)

pub ruleset showing_one = (two_no_first, one_shown, rules)

-- What is left, from the place `from` on, is what makes the whole when it is written. `piece` is the first piece there that is known, by
-- the row `row`.
pub record Showing (classes : List (List ℕ)) (pool text out₀ : List ℕ) (at : ℕ) (out : List ℕ) («from» piece row next : ℕ) : Type 0 where
  pub size : length out ≡ length out₀
  pub left : (r : Result ℕ NoRoom) (d : List ℕ) → WroteBy r out next (all_shown classes pool (drop «from» text)) d →
      WroteBy r out₀ at (all_shown classes pool text) d
  pub first : KnownAt classes pool text «from» piece row

pub showing_starts : (classes : List (List ℕ)) (pool text out₀ : List ℕ) (at piece row : ℕ) → KnownAt classes pool text 0 piece row →
    Showing classes pool text out₀ at out₀ 0 piece row at
showing_starts classes pool text out₀ at piece row k = record { size = refl; left = λ r d w. w; first = k }

module _
    {classes : List (List ℕ)} {pool text out₀ : List ℕ} {at : ℕ} {out : List ℕ} {«from» piece row next : ℕ}
    (k : Showing classes pool text out₀ at out «from» piece row next) where
  pub showing_order : «from» ≤ piece
  showing_order = k.first.after

  pub showing_inside : piece ≤ length text
  showing_inside = let e = k.first.ends in omega arith

  pub showing_row : row < length classes
  showing_row = k.first.inside

  abbrev behind : ℕ
  behind = piece + length (raw_of classes pool row)

  here : (between text «from» piece ++ display_of classes pool row) ++ all_shown classes pool (drop behind text) ≡
      all_shown classes pool (drop «from» text)
  here =
      append_assoc (between text «from» piece) (display_of classes pool row) (all_shown classes pool (drop behind text))
      ∙ sym k.first.turns

  module _ (r : Result ℕ NoRoom) (d : List ℕ) (w : WroteBy r out next (between text «from» piece ++ display_of classes pool row) d) where
    pub showing_full : r ≡ Err no_room → length out₀ < at + length (all_shown classes pool text)
    showing_full e =
        k.left (Err no_room) d (wrote_as (Err no_room) out next d here
        (none_then out next (between text «from» piece ++ display_of classes pool row) (all_shown classes pool (drop behind text))
        (wrote_none r out next (between text «from» piece ++ display_of classes pool row) d w e)))

    module _ {n : ℕ} (f : n ≡ length (raw_of classes pool row)) where
      pub behind_fits : length text < 2 ^ 64 → Fits w64 (piece + n)
      behind_fits z = let e = k.first.ends in omega arith

      pub behind_inside : piece + n ≤ length text
      behind_inside = let e = k.first.ends in omega arith

      pub showing_less : length text - (piece + n) < length text - «from»
      showing_less =
          let a = k.first.after in
          let b = k.first.filled in
          let c = k.first.ends in
          omega arith

      module _ {m : ℕ} (e : r ≡ Ok m) where
        wrote : Written m out next (between text «from» piece ++ display_of classes pool row) d
        wrote = wrote_told r out next (between text «from» piece ++ display_of classes pool row) d w e

        then : (v : Result ℕ NoRoom) (d₁ : List ℕ) → WroteBy v d m (all_shown classes pool (drop (piece + n) text)) d₁ →
            WroteBy v out₀ at (all_shown classes pool text) d₁
        then v d₁ u =
            let same : WroteBy v d m (all_shown classes pool (drop behind text)) d₁ = rw f at u in
            k.left v d₁ (wrote_as v out next d₁ here (wrote_then v (all_shown classes pool (drop behind text)) d₁ wrote same))

        -- nothing is left
        pub showing_all : length text ≤ piece + n → WroteBy (Ok m) out₀ at (all_shown classes pool text) d
        unfolding parts_from piece_known
        showing_all h =
            let none : drop (piece + n) text ≡ [] = drop_of_length-le text h in
            let stays : all_shown classes pool [] ≡ [] = unknown_stays (shown (read_back classes pool)) [] refl in
            let nothing : all_shown classes pool (drop (piece + n) text) ≡ [] = ap (all_shown classes pool) none ∙ stays in
            let size : length d ≡ length out = written_length wrote in
            let room : m ≤ length d = let a = wrote.past in let b = wrote.room in omega arith in
            then (Ok m) d (rw nothing (record { past = omega arith; room = omega arith; is = sym (put_nothing d m) }))

        module _ (p : Option KnownPiece) (g : KnownBy p classes pool text (piece + n)) where
          pub showing_rest : p ≡ None → (v : Result ℕ NoRoom) (d₁ : List ℕ) → WroteBy v d m (between text (piece + n) (length text)) d₁ →
              WroteBy v out₀ at (all_shown classes pool text) d₁
          showing_rest h v d₁ u =
              let none : one_known classes pool (drop (piece + n) text) ≡ false = rw h at g in
              let is : between text (piece + n) (length text) ≡ all_shown classes pool (drop (piece + n) text) =
              take_rest text (piece + n) ∙ sym (unknown_stays (shown (read_back classes pool)) (drop (piece + n) text) none) in
              then v d₁ (wrote_as v d m d₁ is u)

          pub showing_more : {x : KnownPiece} → p ≡ Some x → Showing classes pool text out₀ at d (piece + n) x.start x.row m
          showing_more h = record { size = written_length wrote ∙ k.size; left = then; first = rw h at g }

pub ruleset showing = (
  showing_starts,
  showing_order,
  showing_inside,
  showing_row,
  showing_full,
  behind_fits,
  behind_inside,
  showing_less,
  showing_all,
  showing_rest,
  showing_more,
  rules,
)
