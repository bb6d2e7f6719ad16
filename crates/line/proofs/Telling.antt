-- All that a well-formed line tells is well formed: each part of what it is. Assumes nothing.
use Rattle.std.specs.Prelude.{Option, Some, None}
use mathlib.Core.Path.{◌≡◌, refl, sym, ◌∙◌, ap}
use mathlib.Core.Bool.{Bool, true, false}
use mathlib.Core.List.{List}
use Prim.Native.Nat.{ℕ, ◌+◌, ◌-◌, ◌≤◌}
use native.Mathlib.Omega.{arith}
use lib.ListN.{length}
use Rattle.ground.specs.Choice.{pick}
use Rattle.ground.proofs.Parts.{take_rest}
use Rattle.text_places.specs.Places.{first_where, starts}
use Rattle.text_places.proofs.PlaceLaws.{first_inside}
use Rattle.text_places.proofs.Holds.{first_is}
use Rattle.text_utf8.specs.Grammar.{Utf8Octets}
use Rattle.text_utf8.proofs.Boundaries.{octets_as, fresh_ascii, drop_octets}
use Rattle.text_places.specs.declared.spans.Span.{Span}
use Rattle.text_white.specs.Trim.{trim_both, starts_white}
use Rattle.text_white.proofs.Cuts.{trim_octets}
use Rattle.line.specs.declared.line.Line.{Line}
use Rattle.line.specs.declared.line.Line.TheVariants.{Blank, Comment, Class, Field, Method, Refused}
use Rattle.text_places.specs.Spans.{span, shift, is_empty, part_of, Lies}
use Rattle.line_parts.specs.Arrows.{arrow_of, class_sides}
use Rattle.line_parts.specs.Fields.{field_of}
use Rattle.line_parts.specs.Methods.{method_of}
use Rattle.line.specs.Kinds.{place_from, comment_at, class_by, class_at, method_by, method_at, field_by, field_at, by_side, member_by, member_at, line_of}
use Rattle.line_parts.proofs.Lying.{trim_lies, part_length, arrow_lies, class_lies, field_lies, shift_lies}
use Rattle.line_parts.proofs.Methods.{method_lies}
use Rattle.line.proofs.Octets.{Stands, stands_part, part_stands, arrow_octets, class_octets, field_octets, MethodOctets, method_octets, method_stands}
use Rattle.line_parts.specs.declared.method.Method as method
use Rattle.line_parts.specs.declared.arrow.Sides.{Sides}
use Rattle.line_parts.specs.declared.field.Field as fields

-- each part of the line `s`, which ends at the place `e` without the white space at its end
abbrev pub LineOctets : List ℕ → ℕ → Line → Type 0
LineOctets s e Blank = Unit {0}
LineOctets s e (Comment None) = Unit {0}
LineOctets s e (Comment (Some brace)) = Utf8Octets (part_of s (span brace e))
LineOctets s e (Class display raw) = Utf8Octets (part_of s display) × Utf8Octets (part_of s raw)
LineOctets s e (Field declared name raw) = Utf8Octets (part_of s declared) × Utf8Octets (part_of s name) × Utf8Octets (part_of s raw)
LineOctets s e (Method m raw) = MethodOctets s m × Utf8Octets (part_of s raw)
LineOctets s e (Refused number) = Unit {0}

-- `t` is what is told of: it stands in the line from the place `by` on
module _ (s : List ℕ) (by e : ℕ) (t : List ℕ) (k : Stands s by t) (o : Utf8Octets t) where
  comment_octets : e ≡ by + length t → LineOctets s e (comment_at by t)
  comment_octets q = go (first_where (starts 0x7B) t) refl
    where
      go : (p : Option ℕ) → first_where (starts 0x7B) t ≡ p → LineOctets s e (Comment (place_from by p))
      go None f = tt
      go (Some i) f =
          let inside = first_inside (starts 0x7B) t f in
          let is = first_is 0x7B t f in
          let rest : Utf8Octets (part_of t (span i (length t))) = octets_as (sym (take_rest t i)) (drop_octets o i (fresh_ascii t i (omega arith))) in
          octets_as (stands_part k (span i (length t)) (record { order = omega arith; within = omega arith }) ∙ ap (λ n. part_of s (span (by + i) n)) (sym q)) rest

  class_line_octets : LineOctets s e (class_at by t)
  class_line_octets = go (class_sides t) refl
    where
      go : (a : Option Sides) → class_sides t ≡ a → LineOctets s e (class_by by a)
      go None f = tt
      go (Some x) f =
          let (a, b) = class_octets o f in
          let (c, d) = class_lies t f in
          (octets_as (stands_part k x.left c) a, octets_as (stands_part k x.right d) b)

  module _ (raw : Span) (i : Utf8Octets (part_of s raw)) where
    field_line_octets : LineOctets s e (field_at by raw t)
    field_line_octets = go (field_of t) refl
      where
        go : (f : Option fields.Field) → field_of t ≡ f → LineOctets s e (field_by by raw f)
        go None f = tt
        go (Some r) f =
            let (a, b) = field_octets o f in
            let (x, y) = field_lies t f in
            (octets_as (stands_part k r.declared x) a, octets_as (stands_part k r.name y) b, i)

    method_line_octets : LineOctets s e (method_at by raw t)
    method_line_octets = go (method_of t) refl
      where
        go : (m : Option method.Method) → method_of t ≡ m → LineOctets s e (method_by by raw m)
        go None f = tt
        go (Some m) f = (method_stands k m (method_lies t f) (method_octets o f), i)

    side_octets : (p : Option ℕ) → LineOctets s e (by_side by raw t p)
    side_octets None = field_line_octets
    side_octets (Some j) = method_line_octets

stands_deeper : {s : List ℕ} {by : ℕ} {t : List ℕ} → Stands s by t → (q : Span) → Lies q (length t) → by + length t ≤ length s → Stands s (by + q.start) (part_of t q)
stands_deeper {s} {by} {t} k q l h =
    let inner : Stands s (by + q.start) (part_of s (shift by q)) = part_stands s (shift by q) (shift_lies by q (length t) (length s) h l) in
    rw (stands_part k q l) inner

member_octets : (s : List ℕ) (by e : ℕ) (t : List ℕ) → Stands s by t → by + length t ≤ length s → Utf8Octets t → LineOctets s e (member_at by t)
member_octets s by e t k h o = go (arrow_of t) refl
  where
    go : (a : Option Sides) → arrow_of t ≡ a → LineOctets s e (member_by by t a)
    go None f = tt
    go (Some x) f =
        let (a, b) = arrow_octets o f in
        let (c, d) = arrow_lies t f in
        side_octets s (by + x.left.start) e (part_of t x.left) (stands_deeper k x.left c h) a (shift by x.right) (octets_as (stands_part k x.right d) b) (first_where (starts 0x28) (part_of t x.left))

-- a line that is well formed tells well-formed texts alone
pub line_octets : {s : List ℕ} → Utf8Octets s → LineOctets s (trim_both s).«end» (line_of s)
line_octets {s} o = go (is_empty p) (starts 0x23 t) (starts_white s)
  where
    p : Span
    p = trim_both s

    t : List ℕ
    t = part_of s p

    k : Stands s p.start t
    k = part_stands s p (trim_lies s)

    size : p.start + length t ≡ p.«end»
    size = let l = trim_lies s in let a = l.order in let z = part_length s p l in omega arith

    go : (a b c : Bool) → LineOctets s p.«end» (pick a Blank (pick b (comment_at p.start t) (pick c (member_at p.start t) (class_at p.start t))))
    go true b c = tt
    go false true c = comment_octets s p.start p.«end» t k (trim_octets o) (sym size)
    go false false true =
        member_octets s p.start p.«end» t k (let l = trim_lies s in let w = l.within in let z = size in omega arith) (trim_octets o)
    go false false false = class_line_octets s p.start p.«end» t k (trim_octets o)
