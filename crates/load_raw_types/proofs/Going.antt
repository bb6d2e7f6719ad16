-- Stretch after stretch of a text, until its last `;`. Assumes nothing.
use Rattle.std.specs.Prelude.{Ok, Err}
use mathlib.Core.Path.{◌≡◌, refl, sym, ◌∙◌, ap}
use mathlib.Core.Bool.{Bool}
use mathlib.Core.List.{List, [], ◌++◌, append_assoc}
use Prim.Native.Nat.{ℕ, ◌+◌, ◌-◌, ◌≤◌, ◌<◌}
use native.Mathlib.Omega.{arith}
use lib.ListN.{length}
use borrow.Author.Rules.{rules}
use Rattle.ground.proofs.PutLaws.{put_nothing}
use Rattle.table_rows.specs.Classes.{back}
use Rattle.descriptor.specs.Pieces.{turn}
use Rattle.table_pool.specs.Inner.Wrote.{Written, no_room}
use Rattle.table_pool.proofs.Writes.{written_length, wrote_then}
use Rattle.tables.specs.Back.{read_back}
use Rattle.load_raw_types.specs.declared.types.Stretch.{Stretch}
use Rattle.load_raw_types.specs.declared.types.Stretch.TheVariants as stretches
use Rattle.load_raw_types.specs.declared.types.Stretch.TheVariants.{More, Last}
use Rattle.table_pool.specs.Inner.Named.{class_piece}
use Rattle.load_raw_types.specs.Inner.Behind.{Indexed}
use Rattle.load_raw_types.specs.Inner.Stretches.{inside_piece, outside_piece, Stretched, InsideBy, OutsideBy}
use Rattle.load_raw_types.proofs.Indexing.{indexed_put, read_back_put}

-- what is written, and what is left: `rest`
pub record Left (whole rest pool₀ : List ℕ) (at : ℕ) (pool : List ℕ) (next : ℕ) : Type 0 where
  done : List ℕ
  written : Written next pool₀ at done pool
  decides : whole ≡ done ++ rest

module _ {whole rest pool₀ : List ℕ} {at : ℕ} {pool : List ℕ} {next : ℕ} (k : Left whole rest pool₀ at pool next) where
  left_none : {q : ℕ} {d : List ℕ} → Written q pool next rest d → Written q pool₀ at whole d
  left_none {q} {d} w = let v : Written q pool₀ at (k.done ++ rest) d = wrote_then (Ok q) rest d k.written w in rw k.decides v

  left_no_room : length pool < next + length rest → length pool₀ < at + length whole
  left_no_room w = let v : length pool₀ < at + length (k.done ++ rest) = wrote_then (Err no_room) rest pool k.written w in rw k.decides v

  left_more : {q s start size : ℕ} {after d : List ℕ} → Stretched q s start size rest after pool next d → Left whole after pool₀ at d q
  left_more {q} {after = after} {d = d} w = record {
    done = k.done ++ w.done;
    written = wrote_then (Ok q) w.done d k.written w.written;
    decides = k.decides ∙ ap (λ l. k.done ++ l) w.splits ∙ sym (append_assoc k.done w.done after);
  }

-- behind an `L` of the text
pub record Going (rows : List (List ℕ)) (pool₀ : List ℕ) (at : ℕ) (dots : Bool) (text pool : List ℕ) (start next : ℕ) : Type 0 where
  pub inside : start ≤ length text
  pub size : length pool ≡ length pool₀
  pub left : Left (turn (back (read_back rows pool₀)) (class_piece dots text)) (inside_piece (back (read_back rows pool₀)) dots text start) pool₀ at pool next

module _ {rows : List (List ℕ)} {pool₀ index : List ℕ} {at : ℕ} (x : Indexed rows pool₀ index at) where
  pub going_starts : (dots : Bool) (text : List ℕ) → Going rows pool₀ at dots text pool₀ 0 at
  going_starts dots text = record {
    inside = omega arith;
    size = refl;
    left = record { done = []; written = record { past = omega arith; room = let r = x.below.room in omega arith; is = sym (put_nothing pool₀ at) }; decides = refl };
  }

  module _ {dots : Bool} {text pool : List ℕ} {start next : ℕ} (k : Going rows pool₀ at dots text pool start next) where
    pub going_inside : start ≤ length text
    going_inside = k.inside

    pub going_indexed : Indexed rows pool index next
    going_indexed = indexed_put x k.left.written

    module _ (r : Stretch) (d : List ℕ) (w : InsideBy r (back (read_back rows pool)) dots text start pool next d) where
      as_before : InsideBy r (back (read_back rows pool₀)) dots text start pool next d
      as_before = rw (read_back_put x k.left.written) at w

      pub going_full : r ≡ stretches.NoRoom → length pool₀ < at + length (turn (back (read_back rows pool₀)) (class_piece dots text))
      going_full e = left_no_room k.left (rw e at as_before)

      pub going_last : {q : ℕ} → r ≡ Last q → Written q pool₀ at (turn (back (read_back rows pool₀)) (class_piece dots text)) d
      going_last e = left_none k.left (rw e at as_before)

      module _ {q s : ℕ} (e : r ≡ More q s) where
        stretched : Stretched q s start (length text) (inside_piece (back (read_back rows pool₀)) dots text start) (outside_piece (back (read_back rows pool₀)) dots text s) pool next d
        stretched = rw e at as_before

        pub plain_inside : s ≤ length text
        plain_inside = stretched.inside

        module _ (t : Stretch) (d₁ : List ℕ) (v : OutsideBy t dots text s d q d₁) where
          pub plain_full : t ≡ stretches.NoRoom → length pool₀ < at + length (turn (back (read_back rows pool₀)) (class_piece dots text))
          plain_full f = let u : OutsideBy stretches.NoRoom dots text s d q d₁ = rw f at v in left_no_room (left_more k.left stretched) (u (back (read_back rows pool₀)))

          pub plain_last : {q₁ : ℕ} → t ≡ Last q₁ → Written q₁ pool₀ at (turn (back (read_back rows pool₀)) (class_piece dots text)) d₁
          plain_last {q₁} f = let u : OutsideBy (Last q₁) dots text s d q d₁ = rw f at v in left_none (left_more k.left stretched) (u (back (read_back rows pool₀)))

          module _ {q₁ s₁ : ℕ} (f : t ≡ More q₁ s₁) where
            next_stretch : Stretched q₁ s₁ s (length text) (outside_piece (back (read_back rows pool₀)) dots text s) (inside_piece (back (read_back rows pool₀)) dots text s₁) d q d₁
            next_stretch = let u : OutsideBy (More q₁ s₁) dots text s d q d₁ = rw f at v in u (back (read_back rows pool₀))

            pub going_less : length text - s₁ < length text - start
            going_less =
                let a = stretched.past in
                let b = next_stretch.past in
                let c = next_stretch.inside in
                omega arith

            pub going_more : Going rows pool₀ at dots text d₁ s₁ q₁
            going_more =
                let l = left_more (left_more k.left stretched) next_stretch in
                record { inside = next_stretch.inside; size = written_length l.written; left = l }

pub ruleset going = (going_starts, going_inside, going_indexed, going_full, going_last, plain_inside, plain_full, plain_last, going_less, going_more, rules)
