-- Values, members, objects and arrays, by places. Assumes nothing.
use Rattle.std.specs.Prelude.{Option, Some, None}
use mathlib.Core.Path.{◌≡◌, refl, ◌∙◌}
use mathlib.Core.List.{List, ◌∷◌}
use Prim.Native.Nat.{ℕ, zero, suc, ◌+◌, ◌-◌, ◌≤◌, ◌<◌}
use native.Mathlib.Numerals.{add-one}
use native.Mathlib.Omega.{arith}
use lib.ListN.{length, get_or, drop, length-drop, drop_of_length-le}
use lib.Seq.{drop-cons}
use borrow.Author.Tests.{eq-eqb, ne_eqb}
use borrow.Author.Rules.{rules}
use Rattle.ground.proofs.Parts.{drop_here}
use Rattle.json_grammar.specs.Grammar.{Meaning, other}
use Rattle.json_grammar.specs.Reader.{Out, got, bad, and_then, is_ws, structural, chars_from, string_of, as_other, flat_of, enclosed_of, Item, item, member_of, nested_of, value_of}
use Rattle.json_grammar.proofs.Items.{value_shorter, member_shorter}
use Rattle.json_grammar.proofs.Onward.{no_value}
use Rattle.json_string.specs.Inner.Means.{Means}
use Rattle.json_values.specs.Inner.Runs.{Past}
use Rattle.json_values.proofs.Numbers.{means_next, means_unread, means_as}
use Rattle.json_values.proofs.Flats.{means_map}
use Rattle.json_values.specs.Inner.Members.{ReadMember, MemberMeans, taken_member}
use Rattle.json_values.proofs.Listing.{Listing, Turn, listing_none, listing_on, listing_falls, listing_ends, listing_empty, listing_starts}
use Rattle.json_values.specs.declared.value.Member.{Member}

-- what is left starts no earlier than what was given
goes : (s : List ℕ) (place next : ℕ) → place ≤ length s → next ≤ length s → length (drop next s) ≤ length (drop place s) → place ≤ next
goes s place next i j h = omega (arith, length-drop place s, length-drop next s)

pub space_inside : (s : List ℕ) (start : ℕ) {place : ℕ} → Past is_ws s start place → place ≤ length s
space_inside s start w = w.inside

pub read_inside : {A : Type 0} (s : List ℕ) (o : Out A) (t : Option ℕ) {n : ℕ} → Means s t o → t ≡ Some n → n ≤ length s
read_inside s o t m e = (means_next s o t m e).inside

pub place_inside : {X : Type 0} {p : List ℕ → Out X} {closing : ℕ} {whole : Out (List X)} {s : List ℕ} {place : ℕ} → Listing p closing whole s place → place ≤ length s
place_inside k = k.inside

-- Values.
module _ (s : List ℕ) (depth at : ℕ) where
  pub value_end : length s ≤ at → value_of depth (drop at s) ≡ bad
  value_end h = rw (drop_of_length-le s h) (no_value depth)

  pub value_flat : depth ≡ 0 → (r : Option ℕ) → Means s r (flat_of (drop at s)) → Means s r (value_of depth (drop at s))
  unfolding value_of
  value_flat z r m = means_as s (flat_of (drop at s)) (value_of depth (drop at s)) r (rw z) m

  module _ (n : depth ≡ 0 → ⊥) (h : at < length s) where
    nested : value_of depth (drop at s) ≡ nested_of (value_of (depth - 1)) (get_or s at 0 ∷ drop (at + 1) s)
    unfolding value_of
    nested = go depth n
      where
        go : (d : ℕ) → (d ≡ 0 → ⊥) → value_of d (drop at s) ≡ nested_of (value_of (d - 1)) (get_or s at 0 ∷ drop (at + 1) s)
        go zero m = absurd (m refl)
        go (suc d) m = let e : suc d - 1 ≡ d = omega arith in rw (e, add-one, ← drop-cons s at 0 h)

    pub value_object : get_or s at 0 ≡ 0x7B → (r : Option ℕ) → Means s r (enclosed_of (member_of (value_of (depth - 1))) 0x7B 0x7D (drop at s)) → Means s r (value_of depth (drop at s))
    unfolding nested_of
    value_object e r m =
        means_as s (as_other (enclosed_of (member_of (value_of (depth - 1))) 0x7B 0x7D (drop at s))) (value_of depth (drop at s)) r
        (nested ∙ rw (eq-eqb (get_or s at 0) 0x7B e, ← drop_here s at h))
        (means_map s (enclosed_of (member_of (value_of (depth - 1))) 0x7B 0x7D (drop at s)) (λ v. other) r m)

    module _ (o : get_or s at 0 ≡ 0x7B → ⊥) where
      pub value_array : get_or s at 0 ≡ 0x5B → (r : Option ℕ) → Means s r (enclosed_of (value_of (depth - 1)) 0x5B 0x5D (drop at s)) → Means s r (value_of depth (drop at s))
      unfolding nested_of
      value_array e r m =
          means_as s (as_other (enclosed_of (value_of (depth - 1)) 0x5B 0x5D (drop at s))) (value_of depth (drop at s)) r
          (nested ∙ rw (ne_eqb (get_or s at 0) 0x7B o, eq-eqb (get_or s at 0) 0x5B e, ← drop_here s at h))
          (means_map s (enclosed_of (value_of (depth - 1)) 0x5B 0x5D (drop at s)) (λ v. other) r m)

      pub value_other : (get_or s at 0 ≡ 0x5B → ⊥) → (r : Option ℕ) → Means s r (flat_of (drop at s)) → Means s r (value_of depth (drop at s))
      unfolding nested_of
      value_other a r m =
          means_as s (flat_of (drop at s)) (value_of depth (drop at s)) r
          (nested ∙ rw (ne_eqb (get_or s at 0) 0x7B o, ne_eqb (get_or s at 0) 0x5B a, ← drop_here s at h)) m

pub ruleset valuing = (value_end, value_flat, value_object, value_array, value_other, rules)

-- Members.
member_reads : (depth : ℕ) (l : List ℕ) {k a : List ℕ} {y : ℕ} {b : List ℕ} {v : Meaning} {c : List ℕ} → string_of l ≡ got k a → structural 0x3A a ≡ got y b → value_of depth b ≡ got v c →
    member_of (value_of depth) l ≡ got (item k v b) c
unfolding member_of and_then
member_reads depth l e f g = rw (e, f, g)

module _ (s : List ℕ) (depth at : ℕ) where
  pub member_end : length s ≤ at → member_of (value_of depth) (drop at s) ≡ bad
  unfolding member_of string_of and_then
  member_end h = rw (drop_of_length-le s h)

  module _ (h : at < length s) where
    pub member_unquoted : (get_or s at 0 ≡ 0x22 → ⊥) → member_of (value_of depth) (drop at s) ≡ bad
    unfolding member_of string_of and_then
    member_unquoted n = rw (drop-cons s at 0 h, ne_eqb (get_or s at 0) 0x22 n)

    module _ (q : get_or s at 0 ≡ 0x22) where
      pub name_string : string_of (drop at s) ≡ chars_from 0 (drop (at + 1) s)
      unfolding string_of
      name_string = rw (drop-cons s at 0 h, eq-eqb (get_or s at 0) 0x22 q, add-one)

      module _ {t : Option ℕ} (m : Means s t (chars_from 0 (drop (at + 1) s))) where
        pub member_unnamed : t ≡ None → member_of (value_of depth) (drop at s) ≡ bad
        unfolding member_of and_then
        member_unnamed e = rw (name_string, means_unread s (chars_from 0 (drop (at + 1) s)) t m e)

        module _ {named : ℕ} (e : t ≡ Some named) where
          module _ {u : Option ℕ} (c : Means s u (structural 0x3A (drop named s))) where
            pub member_no_colon : u ≡ None → member_of (value_of depth) (drop at s) ≡ bad
            unfolding member_of and_then
            member_no_colon f =
                rw (name_string, (means_next s (chars_from 0 (drop (at + 1) s)) t m e).reads, means_unread s (structural 0x3A (drop named s)) u c f)

            module _ {value : ℕ} (f : u ≡ Some value) {w : Option ℕ} (v : Means s w (value_of depth (drop value s))) where
              pub member_no_value : w ≡ None → member_of (value_of depth) (drop at s) ≡ bad
              unfolding member_of and_then
              member_no_value g =
                  rw (
                    name_string,
                    (means_next s (chars_from 0 (drop (at + 1) s)) t m e).reads,
                    (means_next s (structural 0x3A (drop named s)) u c f).reads,
                    means_unread s (value_of depth (drop value s)) w v g,
                  )

              pub member_read : {next : ℕ} → w ≡ Some next → ReadMember s value next (member_of (value_of depth) (drop at s))
              member_read g =
                  let a = means_next s (chars_from 0 (drop (at + 1) s)) t m e in
                  let b = means_next s (structural 0x3A (drop named s)) u c f in
                  let d = means_next s (value_of depth (drop value s)) w v g in
                  record {
                    starts = b.inside;
                    inside = d.inside;
                    key = a.value;
                    meaning = d.value;
                    reads = member_reads depth (drop at s) (name_string ∙ a.reads) b.reads d.reads;
                  }

pub ruleset membering = (member_end, member_unquoted, member_unnamed, member_no_colon, member_no_value, member_read, read_inside, rules)

-- What `?` hands on: there was nothing of the kind.
pub means_none : {A : Type 0} (s : List ℕ) (o : Out A) {r : Option ℕ} → r ≡ None → o ≡ bad → Means s r o
means_none s o e b = rw e b

-- Arrays.
array_turn : (s : List ℕ) (depth place : ℕ) (t : Option ℕ) {next : ℕ} → place ≤ length s → (m : Means s t (value_of depth (drop place s))) (e : t ≡ Some next) →
    Turn (value_of depth) s place next (means_next s (value_of depth (drop place s)) t m e).value
array_turn s depth place t {next} i m e =
    let r = means_next s (value_of depth (drop place s)) t m e in
    record { goes = goes s place next i r.inside (value_shorter depth (drop place s) r.value (drop next s) r.reads); inside = r.inside; reads = r.reads }

module _ {s : List ℕ} (depth : ℕ) {place : ℕ} {whole : Out (List Meaning)} (k : Listing (value_of depth) 0x5D whole s place) where
  pub array_cut : length s ≤ place → whole ≡ bad
  array_cut h = listing_none k (value_end s depth place h)

  module _ {t : Option ℕ} (m : Means s t (value_of depth (drop place s))) where
    pub array_none : t ≡ None → whole ≡ bad
    array_none e = listing_none k (means_unread s (value_of depth (drop place s)) t m e)

    module _ (h : place < length s) {next : ℕ} (e : t ≡ Some next) {u : Option ℕ} (c : Means s u (structural 0x2C (drop next s))) where
      pub array_on : {again : ℕ} → u ≡ Some again → Listing (value_of depth) 0x5D whole s again
      array_on f = listing_on k h (array_turn s depth place t k.inside m e) c f

      pub array_falls : {again : ℕ} → u ≡ Some again → length s - again < length s - place
      array_falls f = listing_falls k h (array_turn s depth place t k.inside m e) c f

      pub array_ends : u ≡ None → (r : Option ℕ) → Means s r (structural 0x5D (drop next s)) → Means s r whole
      array_ends f r q = listing_ends k h (array_turn s depth place t k.inside m e) c f r q

pub ruleset arraying = (means_none, array_cut, array_none, array_on, array_falls, array_ends, listing_empty, listing_starts, space_inside, read_inside, place_inside, rules)

-- Objects.
pub member_told : (s : List ℕ) (o : Out Item) (t : Option Member) {x : Member} → MemberMeans s t o → t ≡ Some x → ReadMember s x.value x.next o
member_told s o t m e = rw e at m

pub member_untold : (s : List ℕ) (o : Out Item) (t : Option Member) → MemberMeans s t o → t ≡ None → o ≡ bad
member_untold s o t m e = rw e at m

pub member_inside : (s : List ℕ) (o : Out Item) (t : Option Member) {x : Member} → MemberMeans s t o → t ≡ Some x → x.next ≤ length s
member_inside s o t m e = (member_told s o t m e).inside

pub member_turn : (s : List ℕ) (depth place : ℕ) {value next : ℕ} → place ≤ length s → (m : ReadMember s value next (member_of (value_of depth) (drop place s))) →
    Turn (member_of (value_of depth)) s place next (item m.key m.meaning (drop value s))
member_turn s depth place {value} {next} i m = record {
  goes = goes s place next i m.inside (member_shorter depth (drop place s) (item m.key m.meaning (drop value s)) (drop next s) m.reads);
  inside = m.inside;
  reads = m.reads;
}

module _ {s : List ℕ} (depth : ℕ) {place : ℕ} {whole : Out (List Item)} (k : Listing (member_of (value_of depth)) 0x7D whole s place) where
  pub object_cut : length s ≤ place → whole ≡ bad
  object_cut h = listing_none k (member_end s depth place h)

  module _ {t : Option Member} (m : MemberMeans s t (member_of (value_of depth) (drop place s))) where
    pub object_none : t ≡ None → whole ≡ bad
    object_none e = listing_none k (member_untold s (member_of (value_of depth) (drop place s)) t m e)

    module _ (h : place < length s) {x : Member} (e : t ≡ Some x) where
      turn : ReadMember s x.value x.next (member_of (value_of depth) (drop place s))
      turn = member_told s (member_of (value_of depth) (drop place s)) t m e

      module _ {u : Option ℕ} (c : Means s u (structural 0x2C (drop x.next s))) where
        pub object_on : {again : ℕ} → u ≡ Some again → Listing (member_of (value_of depth)) 0x7D whole s again
        object_on f = listing_on k h (member_turn s depth place k.inside turn) c f

        pub object_falls : {again : ℕ} → u ≡ Some again → length s - again < length s - place
        object_falls f = listing_falls k h (member_turn s depth place k.inside turn) c f

        pub object_ends : u ≡ None → (r : Option ℕ) → Means s r (structural 0x7D (drop x.next s)) → Means s r whole
        object_ends f r q = listing_ends k h (member_turn s depth place k.inside turn) c f r q

pub ruleset objecting =
    (means_none, object_cut, object_none, object_on, object_falls, object_ends, listing_empty, listing_starts, space_inside, read_inside, member_inside, place_inside, rules)
