-- What stands ahead of each group, told from the last one on. Assumes nothing.
use mathlib.Core.Path.{◌≡◌, refl, sym, ◌∙◌, ap}
use mathlib.Core.List.{List}
use mathlib.Core.Logic.{◌⊎◌, inl, inr}
use Prim.Native.Nat.{ℕ, ◌+◌, ◌*◌, ◌-◌, ◌/◌, ◌≤◌, ◌<◌}
use native.Mathlib.Omega.{arith}
use lib.ListN.{length, take, drop}
use lib.Seq.{drop-drop}
use borrow.Author.Rules.{rules}
use Rattle.ground.specs.Put.{put}
use Rattle.ground.proofs.Cases.{le_or_lt}
use Rattle.ground.proofs.PutLaws.{length_put}
use Rattle.ground.proofs.Stretch.{along_none}
use Rattle.tree_rule.specs.Words.{word_at, word_bytes}
use Rattle.tree_rule.proofs.WordLaws.{bytes_length, word_drop, word_here}
use Rattle.tree_rule.proofs.PutWords.{take_put, drop_put, word_before, word_put}
use Rattle.apply_pieces.specs.declared.note.Note.{Note}
use Rattle.apply_pieces.specs.declared.ahead.Ahead.{Ahead}
use Rattle.apply_pieces.specs.Inner.Sought.{Seekable}
use Rattle.apply_pieces.specs.Inner.Ahead.{none_ahead, AheadBy}
use Rattle.apply_pieces.specs.Inner.Groups.{ahead_at, note_put, ahead_put, Told, GroupsTold}
use Rattle.apply_pieces.proofs.Noting.{two_size, two_before, two_behind, two_word, first_word, second_word}
use Rattle.apply_pieces.proofs.Seeks.{never_at_end}

-- The end of a text.
pub ahead_of_end : (classes : List (List ℕ)) (pool text : List ℕ) {ahead : Ahead} → ahead ≡ none_ahead →
    AheadBy ahead classes pool text (length text)
ahead_of_end classes pool text e = rw e (record {
  inside = omega arith;
  known = record { says = never_at_end classes pool text; start_small = omega arith; row_small = omega arith };
  past_small = omega arith;
  none = λ q. along_none (λ x. x ≡ 0x3B → ⊥) text (length text) (omega arith);
  some = λ q. absurd (omega arith);
  after = λ q. absurd (omega arith);
  start_small = omega arith;
  row_small = omega arith;
})

-- Words that are read.
pub five_read : (out : List ℕ) (at : ℕ) {a b c d e : ℕ} → a ≡ word_at out at → b ≡ word_at out (at + 4) → c ≡ word_at out (at + 8) →
    d ≡ word_at out (at + 12) → e ≡ word_at out (at + 16) →
    ◌≡◌ {A = Ahead} (record { known = record { start = a; row = b }; past = c; after = record { start = d; row = e } }) (ahead_at out at)
five_read out at p q r s t = rw (p, q, r, s, t)

pub ruleset reading_ahead = (five_read, rules)

-- Words that are put, one after the other.
pub three_put : (d : List ℕ) (at : ℕ) (ahead : Ahead) {known after : Note} → known ≡ ahead.known → after ≡ ahead.after →
    {x y z : List ℕ} → x ≡ note_put d at known → y ≡ put x (at + 8) (word_bytes ahead.past) → z ≡ note_put y (at + 12) after →
    z ≡ ahead_put d at ahead
three_put d at ahead p q e f g = g ∙ rw (q, f, e, p)

module _ (d : List ℕ) (at : ℕ) (fits : at + 20 ≤ length d) (ahead : Ahead) where
  abbrev one : List ℕ
  one = note_put d at ahead.known

  abbrev two : List ℕ
  two = put one (at + 8) (word_bytes ahead.past)

  abbrev three : List ℕ
  three = note_put two (at + 12) ahead.after

  fits_one : at + 8 ≤ length d
  fits_one = omega arith

  one_length : length one ≡ length d
  one_length = two_size d at fits_one ahead.known.start ahead.known.row

  fits_two : at + 8 + length (word_bytes ahead.past) ≤ length one
  fits_two = omega (arith, bytes_length ahead.past, one_length)

  two_length : length two ≡ length d
  two_length = length_put one (at + 8) (word_bytes ahead.past) fits_two ∙ one_length

  fits_three : at + 12 + 8 ≤ length two
  fits_three = omega (arith, two_length)

  put_length : length three ≡ length d
  put_length = two_size two (at + 12) fits_three ahead.after.start ahead.after.row ∙ two_length

  put_before : (e : ℕ) → e ≤ at → take e three ≡ take e d
  put_before e h =
      two_before two (at + 12) fits_three ahead.after.start ahead.after.row e (omega arith)
      ∙ take_put one (at + 8) (word_bytes ahead.past) fits_two e (omega arith)
      ∙ two_before d at fits_one ahead.known.start ahead.known.row e h

  put_behind : (e : ℕ) → at + 20 ≤ e → drop e three ≡ drop e d
  put_behind e h =
      two_behind two (at + 12) fits_three ahead.after.start ahead.after.row e (omega arith)
      ∙ drop_put one (at + 8) (word_bytes ahead.past) fits_two e (omega (arith, bytes_length ahead.past))
      ∙ two_behind d at fits_one ahead.known.start ahead.known.row e (omega arith)

  early : (p : ℕ) → p + 4 ≤ at + 8 → word_at three p ≡ word_at one p
  early p h =
      two_word two (at + 12) fits_three ahead.after.start ahead.after.row p (omega arith)
      ∙ word_before one (at + 8) (word_bytes ahead.past) fits_two p h

  put_there : {classes : List (List ℕ)} {pool text : List ℕ} {place : ℕ} → AheadBy ahead classes pool text place → ahead_at three at ≡ ahead
  put_there k =
      let a : word_at three at ≡ ahead.known.start =
      early at (omega arith) ∙ first_word d at fits_one ahead.known.start ahead.known.row k.known.start_small in
      let b : word_at three (at + 4) ≡ ahead.known.row =
      early (at + 4) (omega arith) ∙ second_word d at fits_one ahead.known.start ahead.known.row k.known.row_small in
      let c : word_at three (at + 8) ≡ ahead.past =
      two_word two (at + 12) fits_three ahead.after.start ahead.after.row (at + 8) (omega arith)
      ∙ word_put one (at + 8) ahead.past k.past_small fits_two in
      let e : word_at three (at + 12) ≡ ahead.after.start =
      first_word two (at + 12) fits_three ahead.after.start ahead.after.row k.start_small in
      let z : at + 16 ≡ at + 12 + 4 = omega arith in
      let f : word_at three (at + 16) ≡ ahead.after.row =
      ap (word_at three) z ∙ second_word two (at + 12) fits_three ahead.after.start ahead.after.row k.row_small in
      rw (a, b, c, e, f)

pub ruleset putting_ahead = (three_put, rules)

-- Where nothing changed from a place on, the same is told.
same_ahead : (old new : List ℕ) (at : ℕ) → drop at new ≡ drop at old → ahead_at new at ≡ ahead_at old at
same_ahead old new at e =
    let word : (k : ℕ) → word_at new (at + k) ≡ word_at old (at + k) =
    λ k. sym (word_drop new at k) ∙ ap (λ l. word_at l k) e ∙ word_drop old at k in
    let first : word_at new at ≡ word_at old at = sym (word_here new at) ∙ ap (λ l. word_at l 0) e ∙ word_here old at in
    rw (first, word 4, word 8, word 12, word 16)

drop_more : (old new : List ℕ) (a b : ℕ) → a ≤ b → drop a new ≡ drop a old → drop b new ≡ drop b old
drop_more old new a b h e =
    let z : a + (b - a) ≡ b = omega arith in
    ap (λ k. drop k new) (sym z) ∙ sym (drop-drop (b - a) a new) ∙ ap (drop (b - a)) e ∙ drop-drop (b - a) a old ∙ ap (λ k. drop k old) z

pub told_same : {low : ℕ} {classes : List (List ℕ)} {pool text : List ℕ} {room : ℕ} {old new : List ℕ} →
    Told low classes pool text room old → drop room new ≡ drop room old → Told low classes pool text room new
told_same {low} {classes} {pool} {text} {room} {old} {new} t e = record {
  each = λ g h i. rw (same_ahead old new (room + 64 * g) (drop_more old new room (room + 64 * g) (omega arith) e)) (t.each g h i);
}

-- The groups from `group` on are told of; `ahead` tells of the place `stop`, which is not before them.
pub record Telling
    (classes : List (List ℕ)) (pool text : List ℕ) (room : ℕ) (old new : List ℕ) (group stop : ℕ) (ahead : Ahead) : Type 0 where
  pub inside : group ≤ length text / 64
  pub near : 64 * group ≤ stop
  pub ahead_is : AheadBy ahead classes pool text stop
  pub told : Told group classes pool text room new
  pub size : length new ≡ length old
  pub before : take room new ≡ take room old
  pub behind : drop (room + length text) new ≡ drop (room + length text) old

pub telling_starts : (classes : List (List ℕ)) (pool text : List ℕ) (room : ℕ) (old : List ℕ) {ahead : Ahead} → ahead ≡ none_ahead →
    Telling classes pool text room old old (length text / 64) (length text) ahead
telling_starts classes pool text room old e = record {
  inside = omega arith;
  near = omega arith;
  ahead_is = ahead_of_end classes pool text e;
  told = record { each = λ g h i. absurd (omega arith) };
  size = refl;
  before = refl;
  behind = refl;
}

module _
    {classes : List (List ℕ)} {pool text : List ℕ} {room : ℕ} {old new : List ℕ} {group stop : ℕ} {ahead : Ahead}
    (k : Telling classes pool text room old new group stop ahead) where
  pub telling_ends : group ≤ 0 → GroupsTold classes pool text room old new
  telling_ends h =
      let z : group ≡ 0 = omega arith in
      record { size = k.size; before = k.before; behind = k.behind; told = rw z at k.told }

  pub telling_ahead : AheadBy ahead classes pool text stop
  telling_ahead = k.ahead_is

  module _ (h : 0 < group) where
    pub telling_order : 64 * (group - 1) ≤ stop
    telling_order = omega (arith, k.near)

    module _ (room-there : room + length text ≤ length old) where
      room_here : room + 64 * (group - 1) + 64 ≤ room + length text
      room_here = omega (arith, k.inside)

      pub telling_room : room + 64 * (group - 1) + 20 ≤ length new
      telling_room = let a = room_here in omega (arith, k.size)

      module _
          {next : Ahead} (g : AheadBy next classes pool text (64 * (group - 1))) {d : List ℕ}
          (e : d ≡ ahead_put new (room + 64 * (group - 1)) next) where
        abbrev at : ℕ
        at = room + 64 * (group - 1)

        told_each : (i : ℕ) → group - 1 ≤ i → i < length text / 64 → (group ≤ i) ⊎ (i < group) →
            AheadBy (ahead_at (ahead_put new at next) (room + 64 * i)) classes pool text (64 * i)
        told_each i l u (inl m) =
            let behind = put_behind new at telling_room next (room + 64 * i) (omega arith) in
            rw (same_ahead new (ahead_put new at next) (room + 64 * i) behind) (k.told.each i m u)
        told_each i l u (inr m) =
            let z : i ≡ group - 1 = omega arith in
            rw (z, put_there new at telling_room next g) g

        pub telling_more : Telling classes pool text room old d (group - 1) (64 * (group - 1)) next
        telling_more =
            let a = room_here in
            rw e (record {
              inside = omega (arith, k.inside);
              near = omega arith;
              ahead_is = g;
              told = record { each = λ i l u. told_each i l u (le_or_lt group i) };
              size = put_length new at telling_room next ∙ k.size;
              before = put_before new at telling_room next room (omega arith) ∙ k.before;
              behind = put_behind new at telling_room next (room + length text) (omega arith) ∙ k.behind;
            })

pub ruleset telling = (telling_starts, telling_ends, telling_ahead, telling_order, telling_room, telling_more, rules)

-- The group behind a place.
module _
    {index : List ℕ} {classes : List (List ℕ)} {pool : List ℕ} {longest : ℕ} {text : List ℕ}
    (k : Seekable index classes pool longest text) {room : ℕ} {out : List ℕ} (r : room + length text ≤ length out)
    (t : Told 0 classes pool text room out) («from» : ℕ) (h : «from» / 64 + 1 < length text / 64) where
  pub group_order : «from» ≤ 64 * («from» / 64 + 1)
  group_order = omega arith

  pub group_room : room + 64 * («from» / 64 + 1) + 20 ≤ length out
  group_room = omega arith

  pub group_ahead : {ahead : Ahead} → ahead ≡ ahead_at out (room + 64 * («from» / 64 + 1)) →
      AheadBy ahead classes pool text (64 * («from» / 64 + 1))
  group_ahead e = rw e (t.each («from» / 64 + 1) (omega arith) h)

pub ruleset by_groups = (ahead_of_end, group_order, group_room, group_ahead, rules)
