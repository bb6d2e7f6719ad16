-- The answer for a comment, by places: what stands last under a name among the members that were passed. Assumes nothing.
use Rattle.std.specs.Prelude.{Option, Some, None}
use mathlib.Core.Path.{◌≡◌, refl, sym, ◌∙◌, ap}
use mathlib.Core.Bool.{Bool, true, false}
use mathlib.Core.List.{List, [], ◌∷◌, ◌++◌}
use Prim.Native.Nat.{ℕ, suc, ◌+◌, ◌-◌, ◌≤◌, ◌<◌}
use native.Mathlib.Numerals.{add-one}
use native.Mathlib.Omega.{arith}
use lib.Dec.{eqb}
use lib.ListN.{length, get_or, drop, length-drop, drop_of_length-le}
use lib.Seq.{drop-cons}
use borrow.Author.Tests.{eq-eqb, ne_eqb, eqb-true}
use borrow.Author.Rules.{rules}
use Rattle.ground.specs.Ascii.{ascii}
use Rattle.ground.specs.Choice.{pick}
use Rattle.text_places.specs.Places.{same}
use Rattle.json_grammar.specs.Grammar.{Meaning, text, other}
use Rattle.json_grammar.specs.Reader.{Out, got, bad, is_ws, structural, chars_from, enclosed_of, Item, item, member_of, value_of, all_read, members_of, found, last_of}
use Rattle.json_grammar.proofs.Took.{never_bad}
use Rattle.json_grammar.proofs.Onward.{Parts, member_parts, value_text, value_other, no_value, last_later}
use Rattle.json_string.specs.Inner.Means.{Means}
use Rattle.json_values.specs.Inner.Runs.{Past}
use Rattle.json_values.specs.Inner.Members.{ReadMember, MemberMeans, taken_member}
use Rattle.json_values.proofs.Numbers.{means_next, means_unread}
use Rattle.json_values.proofs.Listing.{Listing, Turn, listing_on, listing_passed, listing_closed, listing_wrong, empty_reads, listing_starts, starts_passed}
use Rattle.json_values.proofs.Values.{member_told, member_turn, object_cut, object_none, object_falls, space_inside, read_inside, member_inside}
use Rattle.json_decode.specs.Decoded.{decoded_is}
use Rattle.json_comment.specs.declared.answer.Stands.{Stands}
use Rattle.json_comment.specs.declared.answer.Stands.TheVariants.{Missing, Other, Text}
use Rattle.json_comment.specs.Answer.{stands_as, stands_in, comment_answer, comment_of, comment_with}
use Rattle.json_comment.specs.Inner.Steps.{head_stands, given_for, later_counts, end_of}
use Rattle.json_values.specs.declared.value.Member.{Member}
use Rattle.json_comment.specs.declared.answer.Comment.{Comment}

-- A value by its first byte.
module _ (s : List ℕ) (value : ℕ) (h : value < length s) where
  pub stands_text : get_or s value 0 ≡ 0x22 → Text (value + 1) ≡ head_stands value (drop value s)
  stands_text e = sym (rw (drop-cons s value 0 h, eq-eqb (get_or s value 0) 0x22 e))

  pub stands_other : (get_or s value 0 ≡ 0x22 → ⊥) → Other ≡ head_stands value (drop value s)
  stands_other n = sym (rw (drop-cons s value 0 h, ne_eqb (get_or s value 0) 0x22 n))

pub ruleset value_standing = (stands_text, stands_other, rules)

-- What a member gives for a name.
module _ (s : List ℕ) (key : ℕ) (name : List ℕ) (value : ℕ) (w : Bool) (e : w ≡ decoded_is name (chars_from 0 (drop key s))) where
  pub given_value : w ≡ true → {r : Stands} → r ≡ head_stands value (drop value s) → r ≡ given_for s key name value
  given_value f g = g ∙ rw (← e, f)

  pub given_nothing : w ≡ false → Missing ≡ given_for s key name value
  given_nothing f = rw (← e, f)

pub ruleset giving = (given_value, given_nothing, rules)

-- The later counts.
pub later_missing : (later before : Stands) → later ≡ Missing → before ≡ later_counts later before
later_missing later before e = rw e

pub later_other : (later before : Stands) → later ≡ Other → Other ≡ later_counts later before
later_other later before e = rw e

pub later_text : (later before : Stands) {at : ℕ} → later ≡ Text at → Text at ≡ later_counts later before
later_text later before e = rw e

pub ruleset later_counting = (later_missing, later_other, later_text, rules)

pub later_given : (before : Stands) {given later r : Stands} → given ≡ later → r ≡ later_counts given before → r ≡ later_counts later before
later_given before e f = f ∙ ap (λ x. later_counts x before) e

pub ruleset standing = (later_given, rules)

-- What is left after the object.
pub ended_more : (s : List ℕ) (end : ℕ) (id signature : Stands) → end < length s → None ≡ end_of (drop end s) id signature
ended_more s end id signature h = sym (rw (drop-cons s end 0 h))

pub ended_all : (s : List ℕ) (end : ℕ) (id signature : Stands) → length s ≤ end → Some (comment_with id signature) ≡ end_of (drop end s) id signature
ended_all s end id signature h = sym (rw (drop_of_length-le s h))

pub ruleset ending = (ended_more, ended_all, rules)

-- The object that a comment is, from the place `at` on.
abbrev object : List ℕ → ℕ → Out (List Item)
object s at = enclosed_of (member_of (value_of 126)) 0x7B 0x7D (drop at s)

members_from : (s : List ℕ) {at : ℕ} → Past is_ws s 0 at → members_of s ≡ all_read (object s at)
unfolding members_of
members_from s w = rw w.rest

unread : (s : List ℕ) {at : ℕ} → Past is_ws s 0 at → object s at ≡ bad → None ≡ comment_of s
unread s w e = sym (rw (members_from s w, e))

-- all members are read, and nothing or something is left
read : (s : List ℕ) {at : ℕ} → Past is_ws s 0 at → (items : List Item) (end : ℕ) → object s at ≡ got items (drop end s) → {r : Option Comment} →
    r ≡ end_of (drop end s) (stands_in s (last_of (ascii "id") items)) (stands_in s (last_of (ascii "signature") items)) → r ≡ comment_of s
read s w items end e g = g ∙ go (drop end s) ∙ sym (ap (comment_answer s) (members_from s w ∙ ap all_read e))
  where
    go : (l : List ℕ) → end_of l (stands_in s (last_of (ascii "id") items)) (stands_in s (last_of (ascii "signature") items)) ≡ comment_answer s (all_read (got items l))
    go [] = refl
    go (x ∷ l) = refl

module _ (s : List ℕ) {at : ℕ} (w : Past is_ws s 0 at) where
  pub comment_empty : length s ≤ at → None ≡ comment_of s
  unfolding enclosed_of
  comment_empty h = unread s w (rw (drop_of_length-le s h))

  module _ (h : at < length s) where
    pub comment_no_brace : (get_or s at 0 ≡ 0x7B → ⊥) → None ≡ comment_of s
    unfolding enclosed_of
    comment_no_brace n = unread s w (rw (drop-cons s at 0 h, ne_eqb (get_or s at 0) 0x7B n))

    module _ (o : get_or s at 0 ≡ 0x7B) {place : ℕ} (v : Past is_ws s (at + 1) place) {t : Option ℕ} (m : Means s t (structural 0x7D (drop place s))) where
      pub comment_no_members : {end : ℕ} → t ≡ Some end → {r : Option Comment} → r ≡ end_of (drop end s) Missing Missing → r ≡ comment_of s
      unfolding last_of
      comment_no_members {end} e g =
          read s w [] end (empty_reads (member_of (value_of 126)) 0x7B 0x7D s at h o v (means_next s (structural 0x7D (drop place s)) t m e).reads) g

-- A member's value by its first byte, and what stands last under a name with it.
module _ (s : List ℕ) (place : ℕ) (h : place < length s) {value next : ℕ} (m : ReadMember s value next (member_of (value_of 126) (drop place s))) where
  parts : Parts (value_of 126) (drop (place + 1) s) m.key m.meaning (drop value s) (drop next s)
  parts = member_parts (value_of 126) (get_or s place 0) (drop (place + 1) s) (rw (add-one, ← drop-cons s place 0 h) m.reads)

  pub value_there : value < length s
  value_there = go (drop value s) refl parts.valued
    where
      go : (l : List ℕ) → drop value s ≡ l → value_of 126 l ≡ got m.meaning (drop next s) → value < length s
      go [] e f = never_bad (sym (no_value 126) ∙ f)
      go (x ∷ l) e f = let n : length (drop value s) ≡ suc (length l) = ap length e in omega (arith, length-drop value s)

  head_is : head_stands value (drop value s) ≡ stands_as m.meaning value
  head_is = go (drop value s) parts.valued
    where
      by_head : (x : ℕ) (l : List ℕ) (b : Bool) → eqb x 0x22 ≡ b → value_of 126 (x ∷ l) ≡ got m.meaning (drop next s) → pick b (Text (value + 1)) Other ≡ stands_as m.meaning value
      by_head x l true e f =
          let t = value_text 126 l (ap (λ y. value_of 126 (y ∷ l)) (sym (eqb-true x 0x22 e)) ∙ f) in
          sym (ap (λ y. stands_as y value) t.is)
      by_head x l false e f = sym (ap (λ y. stands_as y value) (value_other 126 x l e f))

      go : (l : List ℕ) → value_of 126 l ≡ got m.meaning (drop next s) → head_stands value l ≡ stands_as m.meaning value
      go [] f = never_bad (sym (no_value 126) ∙ f)
      go (x ∷ l) f = by_head x l (eqb x 0x22) refl f

  abbrev this : Item
  this = item m.key m.meaning (drop value s)

  this_stands : head_stands value (drop value s) ≡ stands_in s (found this)
  this_stands = let e : length s - length (drop value s) ≡ value = let d = length-drop value s in omega (arith, m.starts) in head_is ∙ ap (stands_as m.meaning) (sym e)

  later_stands : (name : List ℕ) (items : List Item) {before now : Stands} → before ≡ stands_in s (last_of name items) →
      now ≡ later_counts (given_for s (place + 1) name value) before → now ≡ stands_in s (last_of name (items ++ (this ∷ [])))
  later_stands name items {before} e f =
      f ∙ rw (ap (decoded_is name) parts.named, this_stands, e) (among (same m.key name)) ∙ ap (stands_in s) (sym (last_later name items this))
    where
      counts : (v : Meaning) (at : ℕ) (x : Stands) → later_counts (stands_as v at) x ≡ stands_as v at
      counts (text w) at x = refl
      counts other at x = refl

      among : (b : Bool) → later_counts (pick b (stands_in s (found this)) Missing) (stands_in s (last_of name items)) ≡ stands_in s (pick b (found this) (last_of name items))
      among true = counts m.meaning (length s - length (drop value s)) (stands_in s (last_of name items))
      among false = refl

-- From member to member.
pub record Reading (s : List ℕ) (at place : ℕ) (id signature : Stands) : Type 0 where
  pub listing : Listing (member_of (value_of 126)) 0x7D (object s at) s place
  pub id_is : id ≡ stands_in s (last_of (ascii "id") listing.passed)
  pub signature_is : signature ≡ stands_in s (last_of (ascii "signature") listing.passed)

pub reading_starts : (s : List ℕ) {at : ℕ} → at < length s → get_or s at 0 ≡ 0x7B → {place : ℕ} → Past is_ws s (at + 1) place →
    {t : Option ℕ} → Means s t (structural 0x7D (drop place s)) → t ≡ None → Reading s at place Missing Missing
unfolding last_of
reading_starts s {at} h o v m e =
    let none = starts_passed (member_of (value_of 126)) 0x7B 0x7D s at h o v m e in
    record {
      listing = listing_starts (member_of (value_of 126)) 0x7B 0x7D s at h o v m e;
      id_is = rw none;
      signature_is = rw none;
    }

module _ {s : List ℕ} {at place : ℕ} {id signature : Stands} (k : Reading s at place id signature) where
  pub reading_cut : Past is_ws s 0 at → length s ≤ place → None ≡ comment_of s
  reading_cut w h = unread s w (object_cut 126 k.listing h)

  module _ (h : place < length s) {t : Option Member} (m : MemberMeans s t (member_of (value_of 126) (drop place s))) where
    pub reading_none : Past is_ws s 0 at → t ≡ None → None ≡ comment_of s
    reading_none w e = unread s w (object_none 126 k.listing m e)

    module _ {x : Member} (e : t ≡ Some x) where
      told : ReadMember s x.value x.next (member_of (value_of 126) (drop place s))
      told = member_told s (member_of (value_of 126) (drop place s)) t m e

      pub value_starts : x.value < length s
      value_starts = value_there s place h told

      turned : Turn (member_of (value_of 126)) s place x.next (item told.key told.meaning (drop x.value s))
      turned = member_turn s 126 place k.listing.inside told

      module _ {id₁ : Stands} (i : id₁ ≡ later_counts (given_for s (place + 1) (0x69 ∷ 0x64 ∷ []) x.value) id)
          {signature₁ : Stands}
          (g : signature₁ ≡ later_counts (given_for s (place + 1) (0x73 ∷ 0x69 ∷ 0x67 ∷ 0x6E ∷ 0x61 ∷ 0x74 ∷ 0x75 ∷ 0x72 ∷ 0x65 ∷ []) x.value) signature) where
        id_now : id₁ ≡ stands_in s (last_of (ascii "id") (k.listing.passed ++ (item told.key told.meaning (drop x.value s) ∷ [])))
        unfolding ascii
        id_now = later_stands s place h told (ascii "id") k.listing.passed k.id_is i

        signature_now : signature₁ ≡ stands_in s (last_of (ascii "signature") (k.listing.passed ++ (item told.key told.meaning (drop x.value s) ∷ [])))
        unfolding ascii
        signature_now = later_stands s place h told (ascii "signature") k.listing.passed k.signature_is g

        module _ (u : Option ℕ) (c : Means s u (structural 0x2C (drop x.next s))) where
          pub reading_on : {again : ℕ} → u ≡ Some again → Reading s at again id₁ signature₁
          reading_on f =
              let passed = listing_passed k.listing h turned c f in
              record {
                listing = listing_on k.listing h turned c f;
                id_is = rw passed id_now;
                signature_is = rw passed signature_now;
              }

          module _ (f : u ≡ None) (v : Option ℕ) (d : Means s v (structural 0x7D (drop x.next s))) where
            no_comma : structural 0x2C (drop x.next s) ≡ bad
            no_comma = means_unread s (structural 0x2C (drop x.next s)) u c f

            pub reading_wrong : Past is_ws s 0 at → v ≡ None → None ≡ comment_of s
            reading_wrong w j = unread s w (listing_wrong k.listing h turned no_comma (means_unread s (structural 0x7D (drop x.next s)) v d j))

            pub reading_ends : Past is_ws s 0 at → {end : ℕ} → v ≡ Some end → {r : Option Comment} → r ≡ end_of (drop end s) id₁ signature₁ → r ≡ comment_of s
            reading_ends w {end} j q =
                read s w (k.listing.passed ++ (item told.key told.meaning (drop x.value s) ∷ [])) end
                (listing_closed k.listing h turned no_comma (means_next s (structural 0x7D (drop x.next s)) v d j).reads)
                (q ∙ rw (id_now, signature_now))

    pub reading_falls : {x : Member} → t ≡ Some x → {u : Option ℕ} → Means s u (structural 0x2C (drop x.next s)) → {again : ℕ} → u ≡ Some again →
        length s - again < length s - place
    reading_falls e c f = object_falls 126 k.listing m h e c f

pub reading_inside : {s : List ℕ} {at place : ℕ} {id signature : Stands} → Reading s at place id signature → place ≤ length s
reading_inside k = k.listing.inside

pub ruleset reading =
    (comment_empty, comment_no_brace, comment_no_members, reading_starts, reading_cut, reading_none, value_starts, reading_on, reading_wrong, reading_ends, reading_falls, reading_inside, space_inside, read_inside, member_inside, rules)
