-- What is answered, and when; the output has its length. Assumes nothing.
use Rattle.std.specs.Prelude.{Result, Ok, Err}
use mathlib.Core.Path.{◌≡◌, refl, sym, ◌∙◌, ap, subst}
use mathlib.Core.Bool.{Bool, true, false}
use mathlib.Core.List.{List, ◌++◌}
use mathlib.Core.Logic.{◌↔◌, ◌⊎◌, inl, inr}
use Prim.Native.Nat.{ℕ, ◌-◌, ◌≤◌, ◌<◌}
use native.Mathlib.Omega.{arith}
use lib.Dec.{leb}
use lib.ListN.{length, get_or, take, replicate, length-append, length-replicate}
use lib.Seq.{take_at}
use borrow.Author.Tests.{le-leb, lt-leb}
use Rattle.ground.specs.Choice.{pick}
use Rattle.ground.proofs.Cases.{le_or_lt}
use Rattle.table_rows.specs.Tables.{Tables}
use Rattle.tables.specs.declared.check.Used.{Used}
use Rattle.tables.specs.Check.{well_formed}
use Rattle.name_rule.specs.Mappings.{mapping_of}
use Rattle.tree_rule.specs.Files.{read_tree}
use Rattle.tree_rule.specs.Checks.{well_formed_file}
use Rattle.apply_rule.specs.Theorems.{RowsFit, GivenWhen, when_malformed, when_too_long, when_bad_tree, when_no_room, when_done}
use Rattle.apply_rule.specs.Applying.{applied_tree, applied_file, most_tree, fits_in, apply_answer, apply_output}
use Rattle.apply_rule.proofs.Mapped.{mapping_shows_well}
use Rattle.apply_rule.proofs.SoundApplied.{applied_formed, applied_reads_back}
use Rattle.apply_rule.specs.declared.ApplyError.{ApplyError}
use Rattle.apply_rule.specs.declared.ApplyError.TheVariants.{Malformed, TooLong, BadTree, NoRoom}

-- Two numbers that bound a third.
module _ (room needed : ℕ) where
  fits_yes : needed ≤ room → needed ≤ most_tree → fits_in room needed ≡ true
  fits_yes h g = rw (le-leb needed room h, le-leb needed most_tree g)

  fits_no : (room < needed) ⊎ (most_tree < needed) → fits_in room needed ≡ false
  fits_no (inl h) = rw (lt-leb needed room h)
  fits_no (inr h) = go (leb needed room)
    where
      go : (b : Bool) → pick b (leb needed most_tree) false ≡ false
      go true = rw (lt-leb needed most_tree h)
      go false = refl

module _ (t : Tables) (used : Used) (class f : List ℕ) (room : ℕ) where
  abbrev written : List ℕ
  written = applied_file (mapping_of t used) class f

  abbrev answer : Result ℕ ApplyError
  answer = apply_answer t used class f room

  abbrev tables : Bool
  tables = well_formed t.classes t.members t.pool used

  -- the answer where each is stated
  given : {a : Result ℕ ApplyError} → GivenWhen t used class f room a → apply_answer t used class f room ≡ a
  given (when_malformed e) = rw e
  given (when_too_long e h) = rw (e, lt-leb (length f) most_tree h)
  given (when_bad_tree e h g) = rw (e, le-leb (length f) most_tree h, g)
  given (when_no_room e h g n) = rw (e, le-leb (length f) most_tree h, g, fits_no room (length written) n)
  given (when_done e h g n k) = rw (e, le-leb (length f) most_tree h, g, fits_yes room (length written) n k)

  -- one of them is stated
  some_given : (a : Result ℕ ApplyError) × GivenWhen t used class f room a
  some_given = go tables refl (le_or_lt (length f) most_tree) (well_formed_file f) refl (le_or_lt (length written) room)
      (le_or_lt (length written) most_tree)
    where
      go : (b : Bool) → tables ≡ b → (length f ≤ most_tree) ⊎ (most_tree < length f) → (c : Bool) → well_formed_file f ≡ c →
          (length written ≤ room) ⊎ (room < length written) → (length written ≤ most_tree) ⊎ (most_tree < length written) →
          (a : Result ℕ ApplyError) × GivenWhen t used class f room a
      go false e h c g x y = ((Err Malformed), when_malformed e)
      go true e (inr h) c g x y = ((Err TooLong), when_too_long e h)
      go true e (inl h) false g x y = ((Err BadTree), when_bad_tree e h g)
      go true e (inl h) true g (inr x) y = ((Err NoRoom), when_no_room e h g (inl x))
      go true e (inl h) true g (inl x) (inr y) = ((Err NoRoom), when_no_room e h g (inr y))
      go true e (inl h) true g (inl x) (inl y) = (Ok (length written), when_done e h g x y)

  stated : GivenWhen t used class f room (apply_answer t used class f room)
  stated = let (a, w) = some_given in subst (GivenWhen t used class f room) (sym (given w)) w

  -- "Each is given exactly when stated."
  pub given_iff : (a : Result ℕ ApplyError) → (apply_answer t used class f room ≡ a) ↔ GivenWhen t used class f room a
  given_iff a = (λ e. subst (GivenWhen t used class f room) e stated, given)

  -- "13": where nothing comes before it
  pub no_room_iff : well_formed t.classes t.members t.pool used ≡ true → length f ≤ most_tree → well_formed_file f ≡ true →
      (apply_answer t used class f room ≡ Err NoRoom) ↔
      ((room < length (applied_file (mapping_of t used) class f)) ⊎ (most_tree < length (applied_file (mapping_of t used) class f)))
  no_room_iff e h g = (λ a. told ((given_iff (Err NoRoom)).0 a), λ n. given (when_no_room e h g n))
    where
      told : GivenWhen t used class f room (Err NoRoom) → (room < length written) ⊎ (most_tree < length written)
      told (when_no_room e h g n) = n

  -- "Apply treats its output likewise": refused, it is zero
  pub refused_output : ((n : ℕ) → apply_answer t used class f room ≡ Ok n → ⊥) → apply_output t used class f room ≡ replicate room 0
  refused_output never = go stated
    where
      go : {a : Result ℕ ApplyError} → GivenWhen t used class f room a → apply_output t used class f room ≡ replicate room 0
      go (when_malformed e) = rw e
      go (when_too_long e h) = rw (e, lt-leb (length f) most_tree h)
      go (when_bad_tree e h g) = rw (e, le-leb (length f) most_tree h, g)
      go (when_no_room e h g n) = rw (e, le-leb (length f) most_tree h, g, fits_no room (length written) n)
      go (when_done e h g n k) = absurd (never (length written) (given (when_done e h g n k)))

  -- accepted: what has been asked, and how long the output is
  record Accepted (n : ℕ) : Type 0 where
    tables_formed : well_formed t.classes t.members t.pool used ≡ true
    tree_few : length f ≤ most_tree
    tree_formed : well_formed_file f ≡ true
    enough : length written ≤ room
    few : length written ≤ most_tree
    size : n ≡ length written

  accepted : {n : ℕ} → GivenWhen t used class f room (Ok n) → Accepted n
  accepted (when_done e h g x y) =
      record { tables_formed = e; tree_few = h; tree_formed = g; enough = x; few = y; size = refl }

  -- it is what was written, and zeros behind it
  pub accepted_output : {n : ℕ} → apply_answer t used class f room ≡ Ok n →
      (n ≡ length (applied_file (mapping_of t used) class f)) × (n ≤ room)
      × (apply_output t used class f room ≡ applied_file (mapping_of t used) class f ++ replicate (room - n) 0)
  accepted_output {n} a =
      let k = accepted ((given_iff (Ok n)).0 a) in (
        k.size,
        omega (arith, k.enough, k.size),
        rw (
          k.tables_formed,
          le-leb (length f) most_tree k.tree_few,
          k.tree_formed,
          fits_yes room (length written) k.enough k.few,
          k.size,
        ),
      )

  pub output_length : length (apply_output t used class f room) ≡ room
  output_length = go stated
    where
      go : {a : Result ℕ ApplyError} → GivenWhen t used class f room a → length (apply_output t used class f room) ≡ room
      go (when_malformed e) = rw e (length-replicate room 0)
      go (when_too_long e h) = rw (e, lt-leb (length f) most_tree h) (length-replicate room 0)
      go (when_bad_tree e h g) = rw (e, le-leb (length f) most_tree h, g) (length-replicate room 0)
      go (when_no_room e h g n) =
          rw (e, le-leb (length f) most_tree h, g, fits_no room (length written) n) (length-replicate room 0)
      go (when_done e h g n k) =
          let zeros : List ℕ = replicate (room - length written) 0 in
          let size = length-append written zeros in
          let rest = length-replicate {A = ℕ} (room - length written) 0 in
          rw (e, le-leb (length f) most_tree h, g, fits_yes room (length written) n k) (omega arith)

  -- The tree file that comes out of 32-bit rows and bytes is well formed, and is read to the tree with its changes.
  module _ (fits : RowsFit t.members) (small : (i : ℕ) → get_or f i 0 < 256) {n : ℕ} (a : apply_answer t used class f room ≡ Ok n) where
    accepted_part : take n (apply_output t used class f room) ≡ written
    accepted_part =
        let o = accepted_output a in
        ap (take n) o.2 ∙ take_at written (replicate (room - n) 0) n (sym o.0)

    pub accepted_formed : well_formed_file (take n (apply_output t used class f room)) ≡ true
    accepted_formed =
        let k = accepted ((given_iff (Ok n)).0 a) in
        ap well_formed_file accepted_part
        ∙ applied_formed (mapping_of t used) class f k.tree_formed small (mapping_shows_well t used k.tables_formed fits) k.few

    pub accepted_reads_back :
        read_tree (take n (apply_output t used class f room)) ≡ applied_tree (mapping_of t used) class (read_tree f)
    accepted_reads_back =
        let k = accepted ((given_iff (Ok n)).0 a) in
        ap read_tree accepted_part
        ∙ applied_reads_back (mapping_of t used) class f k.tree_formed small (mapping_shows_well t used k.tables_formed fits)
        k.few
