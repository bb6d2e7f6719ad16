-- Descriptors of well-formed texts are well formed, and stay so where their class pieces are turned. Assumes nothing.
use Rattle.std.specs.Prelude.{Option, Some, None}
use mathlib.Core.Path.{◌≡◌, refl, sym, ◌∙◌, ap}
use mathlib.Core.Bool.{Bool, true, false}
use mathlib.Core.List.{List, [], ◌∷◌, ◌++◌, map, append-nil, append_assoc}
use Prim.Native.Nat.{ℕ, zero, suc, ◌+◌, ◌-◌, ◌≤◌, ◌<◌}
use native.Mathlib.Omega.{arith}
use lib.Dec.{eqb}
use lib.ListN.{length, get_or, take, drop, length-take}
use lib.Seq.{take-take}
use borrow.Author.Tests.{eqb-true, ne_eqb}
use Rattle.ground.specs.Abnf.{none}
use Rattle.ground.specs.Ascii.{ascii}
use Rattle.ground.specs.Choice.{pick}
use Rattle.ground.proofs.Cases.{both_left}
use Rattle.text_places.specs.Places.{last_where, starts, same}
use Rattle.text_places.proofs.PlaceLaws.{last_inside}
use Rattle.text_places.proofs.Holds.{last_is}
use Rattle.text_utf8.specs.Grammar.{Utf8Octets}
use Rattle.text_utf8.proofs.Boundaries.{octets_as, append_octets, ascii_octets, cons_octets, snoc_octets, replicate_octets, Texts, no_text, text, Fresh, at_low, fresh_end, fresh_ascii, fresh_after, after_octets, take_octets, tail_octets, cut_octets, map_octets}
use Rattle.text_places.specs.declared.spans.Span.{Span}
use Rattle.text_white.specs.Trim.{trim_both}
use Rattle.text_white.proofs.Cuts.{trim_octets}
use Rattle.descriptor.specs.declared.types.Base.TheVariants.{Letter, Kept, Named}
use Rattle.table_pool.specs.Names.{slash, slashed, class_descriptor}
use Rattle.ground.specs.Put.{between}
use Rattle.descriptor.specs.Types.{brackets_at, base_end, bracket_count, word_letter, kept_text, base_of, base_bytes, type_descriptor}
use Rattle.descriptor.specs.Signatures.{raw_kept, raw_type, after_close, raw_signature}
use Rattle.ground.specs.Look.{Look, known, unknown, look_or, or_look}
use Rattle.ground.specs.Join.{join}
use Rattle.table_rows.specs.Classes.{Pair, shown, swapped, back}
use Rattle.descriptor.specs.Pieces.{byte, piece, parts_from, turned, turn}
use Rattle.descriptor.proofs.Typing.{base_le}

-- Names.
slash_low : (x : ℕ) → x < 0x80 → slash x < 0x80
slash_low x h = go (eqb x 0x2E)
  where
    go : (b : Bool) → pick b 0x2F x < 0x80
    go true = omega arith
    go false = h

slash_high : (x : ℕ) → 0x80 ≤ x → slash x ≡ x
slash_high x h = rw (ne_eqb x 0x2E (λ e. omega arith))

pub slashed_octets : {s : List ℕ} → Utf8Octets s → Utf8Octets (slashed s)
slashed_octets o = map_octets slash slash_low slash_high o

pub class_octets : {s : List ℕ} → Utf8Octets s → Utf8Octets (class_descriptor s)
class_octets o = cons_octets 0x4C (omega arith) (snoc_octets 0x3B (omega arith) (slashed_octets o))

-- Types. A type without the `[]`s at its end.
brackets_fresh : (b : List ℕ) (n : ℕ) → Fresh (drop n b) → Fresh (drop (base_end b n) b)
unfolding base_end
brackets_fresh b zero f = f
brackets_fresh b (suc zero) f = f
brackets_fresh b (suc (suc n)) f = go (brackets_at b n) refl (λ g. brackets_fresh b n g)
  where
    go : (t : Bool) → brackets_at b n ≡ t → (Fresh (drop n b) → Fresh (drop (base_end b n) b)) → Fresh (drop (pick t (base_end b n) (suc (suc n))) b)
    go true e again =
        let opens = eqb-true (get_or b n 0) 0x5B (both_left (eqb (get_or b n 0) 0x5B) (eqb (get_or b (suc n) 0) 0x5D) e) in
        again (fresh_ascii b n (omega arith))
    go false e again = f

stripped_octets : {s : List ℕ} → Utf8Octets s → Utf8Octets (take (base_end s (length s)) s)
stripped_octets {s} o = take_octets o (base_end s (length s)) (brackets_fresh s (length s) (fresh_end s (length s) (omega arith)))

letter_low : (s : List ℕ) → word_letter s < 0x80
letter_low s =
    go (same s (ascii "void")) (same s (ascii "boolean")) (same s (ascii "byte")) (same s (ascii "char")) (same s (ascii "short"))
    (same s (ascii "int")) (same s (ascii "long")) (same s (ascii "float")) (same s (ascii "double"))
  where
    go : (a b c d e f g h i : Bool) →
        pick a 0x56 (pick b 0x5A (pick c 0x42 (pick d 0x43 (pick e 0x53 (pick f 0x49 (pick g 0x4A (pick h 0x46 (pick i 0x44 0)))))))) < 0x80
    go true b c d e f g h i = omega arith
    go false true c d e f g h i = omega arith
    go false false true d e f g h i = omega arith
    go false false false true e f g h i = omega arith
    go false false false false true f g h i = omega arith
    go false false false false false true g h i = omega arith
    go false false false false false false true h i = omega arith
    go false false false false false false false true i = omega arith
    go false false false false false false false false true = omega arith
    go false false false false false false false false false = omega arith

base_octets : {s : List ℕ} → Utf8Octets s → Utf8Octets (base_bytes (base_of s) s)
base_octets {s} o = go (eqb (word_letter s) 0) (kept_text s)
  where
    go : (a b : Bool) → Utf8Octets (base_bytes (pick a (pick b Kept Named) (Letter (word_letter s))) s)
    go true true = o
    go true false = class_octets o
    go false b = ascii_octets (word_letter s) (letter_low s)

pub type_octets : {s : List ℕ} → Utf8Octets s → Utf8Octets (type_descriptor s)
type_octets {s} o =
    let p : Span = trim_both s in
    let b : List ℕ = between s p.start p.«end» in
    let e : ℕ = base_end b (length b) in
    let few = base_le b (length b) in
    let size = length-take (p.«end» - p.start) (drop p.start s) in
    let same_size : p.start + e - p.start ≡ e = omega arith in
    let base : take e b ≡ between s p.start (p.start + e) =
    take-take e (p.«end» - p.start) (drop p.start s) (omega arith) ∙ ap (λ n. take n (drop p.start s)) (sym same_size) in
    append_octets (replicate_octets (bracket_count b (length b)) 0x5B (omega arith)) (base_octets (octets_as base (stripped_octets (trim_octets o))))

-- Raw signatures.
raw_type_octets : {s : List ℕ} → Utf8Octets s → Utf8Octets (raw_type s)
raw_type_octets {s} o = go (raw_kept s)
  where
    go : (b : Bool) → Utf8Octets (pick b s (class_descriptor s))
    go true = o
    go false = class_octets o

close_octets : {s : List ℕ} → Utf8Octets s → Utf8Octets (after_close s (last_where (starts 0x29) s))
close_octets {s} o = go (last_where (starts 0x29) s) refl
  where
    go : (p : Option ℕ) → last_where (starts 0x29) s ≡ p → Utf8Octets (after_close s p)
    go None e = o
    go (Some i) e =
        let inside = last_inside (starts 0x29) s e in
        let is = last_is 0x29 s e in
        append_octets (take_octets o (i + 1) (fresh_after o i inside (omega arith))) (raw_type_octets (after_octets o i inside (omega arith)))

pub raw_octets : (method : Bool) {s : List ℕ} → Utf8Octets s → Utf8Octets (raw_signature method s)
raw_octets true o = close_octets o
raw_octets false o = raw_type_octets o

-- Texts one after the other.
pub join_octets : {ls : List (List ℕ)} → Texts ls → Utf8Octets (join ls)
unfolding join
join_octets no_text = none
join_octets (text o t) = append_octets o (join_octets t)

-- Turning. A piece runs from an ASCII `L` to an ASCII `;`.
module _ (look : List ℕ → Look) (fine : (q : List ℕ) → Utf8Octets q → Utf8Octets (look_or q (look q))) where
  made : List ℕ → List ℕ → List ℕ
  made w d = join (map (turned look) (parts_from w d))

  bytes_made : (w : List ℕ) → join (map (turned look) (map byte w)) ≡ w
  unfolding join
  bytes_made [] = refl
  bytes_made (x ∷ w) = ap (λ l. x ∷ l) (bytes_made w)

  -- outside a piece, where the bytes `p` come before; and in one
  record Turned (d : List ℕ) : Type 0 where
    outside : (p : List ℕ) → Utf8Octets (p ++ d) → Utf8Octets (p ++ made [] d)
    inside : (a : ℕ) (w : List ℕ) → Utf8Octets ((a ∷ w) ++ d) → Utf8Octets (made (a ∷ w) d)

  turned_none : Turned []
  unfolding made join parts_from
  turned_none = record { outside = λ p o. o; inside = λ a w o. octets_as (append-nil (a ∷ w) ∙ sym (bytes_made (a ∷ w))) o }

  module _ (b : ℕ) (d : List ℕ) (t : Turned d) where
    outside_more : (p : List ℕ) → Utf8Octets (p ++ (b ∷ d)) → Utf8Octets (p ++ made [] (b ∷ d))
    unfolding made join parts_from
    outside_more p o = go (eqb b 0x4C) refl
      where
        go : (c : Bool) → eqb b 0x4C ≡ c → Utf8Octets (p ++ join (map (turned look) (pick c (parts_from (b ∷ []) d) (byte b ∷ parts_from [] d))))
        go true e =
            let is = eqb-true b 0x4C e in
            let (before, after) = cut_octets p (b ∷ d) (at_low (omega arith)) o in
            append_octets before (t.inside b [] after)
        go false e = octets_as (append_assoc p (b ∷ []) (made [] d)) (t.outside (p ++ (b ∷ [])) (octets_as (sym (append_assoc p (b ∷ []) d)) o))

    inside_more : (a : ℕ) (w : List ℕ) → Utf8Octets ((a ∷ w) ++ (b ∷ d)) → Utf8Octets (made (a ∷ w) (b ∷ d))
    unfolding made join parts_from
    inside_more a w o = go (eqb b 0x3B) refl
      where
        go : (c : Bool) → eqb b 0x3B ≡ c →
            Utf8Octets (join (map (turned look) (pick c (piece (a ∷ (w ++ (b ∷ []))) ∷ parts_from [] d) (parts_from (a ∷ (w ++ (b ∷ []))) d))))
        go true e =
            let is = eqb-true b 0x3B e in
            let (before, after) = cut_octets (a ∷ w) (b ∷ d) (at_low (omega arith)) o in
            append_octets (fine (a ∷ (w ++ (b ∷ []))) (snoc_octets b (omega arith) before)) (t.outside [] (tail_octets b d (omega arith) after))
        go false e = t.inside a (w ++ (b ∷ [])) (octets_as (sym (append_assoc (a ∷ w) (b ∷ []) d)) o)

  turned_all_lem : (d : List ℕ) → Turned d
  turned_all_lem [] = turned_none
  turned_all_lem (b ∷ d) = let t = turned_all_lem d in record { outside = outside_more b d t; inside = inside_more b d t }

  pub turn_octets : {d : List ℕ} → Utf8Octets d → Utf8Octets (turn look d)
  unfolding made
  turn_octets {d} o = (turned_all_lem d).outside [] o

-- Classes whose texts are well formed.
pub data Pairs : List Pair → Type 0 where
  no_pair : Pairs []
  a_pair : {c : Pair} {cs : List Pair} → Utf8Octets c.raw → Utf8Octets c.display → Pairs cs → Pairs (c ∷ cs)

swapped_pairs : {cs : List Pair} → Pairs cs → Pairs (map swapped cs)
swapped_pairs no_pair = no_pair
swapped_pairs (a_pair r d p) = a_pair d r (swapped_pairs p)

shown_octets : {cs : List Pair} → Pairs cs → (p : List ℕ) → Utf8Octets p → Utf8Octets (look_or p (shown cs p))
unfolding shown
shown_octets no_pair p o = o
shown_octets (a_pair {c} {cs} r d ps) p o = go (shown cs p) refl (same c.raw p) (shown_octets ps p o)
  where
    go : (l : Look) → shown cs p ≡ l → (b : Bool) → Utf8Octets (look_or p l) → Utf8Octets (look_or p (or_look l (pick b (known c.display) unknown)))
    go (known q) e b w = w
    go unknown e true w = d
    go unknown e false w = o

-- "raw descriptors come from display types, each class piece turned to raw"
pub back_octets : {cs : List Pair} → Pairs cs → {d : List ℕ} → Utf8Octets d → Utf8Octets (turn (back cs) d)
back_octets {cs} p o = turn_octets (back cs) (shown_octets (swapped_pairs p)) o
