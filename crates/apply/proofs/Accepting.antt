-- What is answered, and what the output is. Assumes nothing.
use Rattle.std.specs.Prelude.{Result, Ok, Err}
use mathlib.Core.Path.{◌≡◌, refl, sym, ◌∙◌, ap}
use mathlib.Core.Bool.{true, false}
use mathlib.Core.List.{List, ◌++◌, append_assoc}
use mathlib.Core.Logic.{◌⊎◌, inl, inr}
use Prim.Native.Nat.{ℕ, zero, suc, ◌+◌, ◌-◌, ◌≤◌, ◌<◌, min}
use native.Mathlib.Omega.{arith}
use lib.ListN.{length, take, drop, replicate, length-append, length-take, replicate-append-replicate}
use lib.Seq.{take_at, drop_at}
use mir.Val.{Fits}
use mir.Syntax.{w32}
use borrow.Author.Rules.{rules}
use borrow.Author.Tests.{le-leb, lt-leb}
use Rattle.ground.proofs.Cases.{le_or_lt}
use Rattle.ground.proofs.Parts.{prefix_whole}
use Rattle.tables.proofs.Checking.{formed}
use Rattle.apply_rule.specs.Applying.{most_tree, fits_in}
use Rattle.apply.proofs.Filling.{zero_drop}
use Rattle.apply.specs.Inner.Filled.{FillReady, AcceptReady, FilledTo, NoneFilled, OutputFilledBy, fitting_answer, fitting_output}
use Rattle.table_pool.specs.declared.write.NoRoom.{NoRoom}
use Rattle.table_pool.specs.Inner.Wrote.{no_room}
use Rattle.apply_rule.specs.declared.ApplyError.TheVariants as refusal

zero_take : (k n : ℕ) → k ≤ n → ◌≡◌ {A = List ℕ} (take k (replicate n 0)) (replicate k 0)
zero_take zero n h = refl
zero_take (suc k) zero h = absurd (omega arith)
zero_take (suc k) (suc n) h = rw (zero_take k n (omega arith))

module _ (classes rows : List (List ℕ)) (f out : List ℕ) (k : AcceptReady classes rows f out) {room : ℕ} (e : room ≡ min (length out) most_tree) where
  part_length : length (take room out) ≡ room
  part_length = length-take room out ∙ (let z : min room (length out) ≡ room = omega arith in z)

  pub part_ready : FillReady classes rows f (take room out)
  part_ready =
      record {
        formed = k.formed;
        file = k.file;
        most = omega (arith, part_length);
        zero = ap (take room) k.zero ∙ zero_take room (length out) (omega arith) ∙ ap (λ n. replicate n 0) (sym part_length);
        few_classes = k.few_classes;
        few_members = k.few_members;
        low = k.low;
      }

  pub room_inside : room ≤ length out
  room_inside = omega arith

  pub filled_inside : (part : List ℕ) → length part ≡ length (take room out) → room ≤ length (part ++ drop room out)
  filled_inside part l = omega (arith, length-append part (drop room out), part_length)

  module _ (file : List ℕ) where
    fits_yes : length file ≤ room → fits_in (length out) (length file) ≡ true
    fits_yes h = rw (le-leb (length file) (length out) (omega arith)) (le-leb (length file) most_tree (omega arith))

    fits_no : room < length file → fits_in (length out) (length file) ≡ false
    fits_no h = go (le_or_lt (length file) (length out))
      where
        go : (length file ≤ length out) ⊎ (length out < length file) → fits_in (length out) (length file) ≡ false
        go (inl l) = rw (le-leb (length file) (length out) l) (lt-leb (length file) most_tree (omega arith))
        go (inr l) = rw (lt-leb (length file) (length out) l)

    module _ {«end» : ℕ} {part : List ℕ} (d : FilledTo «end» file (take room out) part) where
      pub end_fits : Fits w32 «end»
      end_fits = omega (arith, d.room, part_length)

      pub answer_done : Ok «end» ≡ fitting_answer (length out) file
      answer_done = ap Ok d.past ∙ sym (rw (fits_yes (omega (arith, d.past, d.room, part_length))))

      pub output_done : {new : List ℕ} → new ≡ part ++ drop room out → new ≡ fitting_output (length out) file
      output_done {new} g =
          let left : length (take room out) - «end» + (length out - room) ≡ length out - length file = omega (arith, d.past, d.room, part_length) in
          let rest : drop room out ≡ replicate (length out - room) 0 = ap (drop room) k.zero ∙ zero_drop room (length out) in
          g ∙ ap (λ l. l ++ drop room out) d.is ∙ ap (λ l. (file ++ replicate (length (take room out) - «end») 0) ++ l) rest
          ∙ append_assoc file (replicate (length (take room out) - «end») 0) (replicate (length out - room) 0)
          ∙ ap (λ l. file ++ l) (replicate-append-replicate (length (take room out) - «end») (length out - room) 0)
          ∙ ap (λ n. file ++ replicate n 0) left
          ∙ sym (rw (fits_yes (omega (arith, d.past, d.room, part_length))))

    module _ (d : NoneFilled file (take room out)) where
      pub answer_none : Err refusal.NoRoom ≡ fitting_answer (length out) file
      answer_none = sym (rw (fits_no (omega (arith, d.over, part_length))))

      pub output_none : {new : List ℕ} → new ≡ replicate (length out) 0 → new ≡ fitting_output (length out) file
      output_none g = g ∙ sym (rw (fits_no (omega (arith, d.over, part_length))))

    -- by the answer of the filling
    module _ (part : List ℕ) (r : Result ℕ NoRoom) (w : OutputFilledBy r file (take room out) part) where
      told : {«end» : ℕ} → r ≡ Ok «end» → FilledTo «end» file (take room out) part
      told g = rw g at w

      told_none : r ≡ Err no_room → NoneFilled file (take room out)
      told_none g = rw g at w

      pub fill_fits : {«end» : ℕ} → r ≡ Ok «end» → Fits w32 «end»
      fill_fits g = end_fits (told g)

      pub fill_answer : {«end» : ℕ} → r ≡ Ok «end» → Ok «end» ≡ fitting_answer (length out) file
      fill_answer g = answer_done (told g)

      pub fill_output : {«end» : ℕ} → r ≡ Ok «end» → part ++ drop room out ≡ fitting_output (length out) file
      fill_output g = output_done (told g) refl

      pub fill_refused : r ≡ Err no_room → Err refusal.NoRoom ≡ fitting_answer (length out) file
      fill_refused g = answer_none (told_none g)

      -- the part that was written is made zero again
      pub fill_zero : r ≡ Err no_room → length part ≡ length (take room out) → {mid : List ℕ} →
          mid ≡ replicate (length (take room (part ++ drop room out))) 0 →
          mid ++ drop room (part ++ drop room out) ≡ fitting_output (length out) file
      fill_zero g l {mid} h =
          let size : length part ≡ room = l ∙ part_length in
          let front : take room (part ++ drop room out) ≡ part = take_at part (drop room out) room size in
          let back : drop room (part ++ drop room out) ≡ drop room out = drop_at part (drop room out) room size in
          let rest : drop room out ≡ replicate (length out - room) 0 = ap (drop room) k.zero ∙ zero_drop room (length out) in
          let whole : room + (length out - room) ≡ length out = omega arith in
          output_none (told_none g)
          (ap (λ x. x ++ drop room (part ++ drop room out)) (h ∙ ap (λ x. replicate (length x) 0) front ∙ ap (λ n. replicate n 0) size)
          ∙ ap (λ x. replicate room 0 ++ x) (back ∙ rest)
          ∙ replicate-append-replicate room (length out - room) 0 ∙ ap (λ n. replicate n 0) whole)

pub ruleset accepting = (part_ready, room_inside, filled_inside, prefix_whole, fill_fits, fill_answer, fill_output, fill_refused, fill_zero, rules)
