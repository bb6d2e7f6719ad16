-- A line by what it opens with. Assumes nothing.
use Rattle.std.specs.Prelude.{Option, Some, None}
use mathlib.Core.Path.{◌≡◌, refl, sym, ◌∙◌, ap}
use mathlib.Core.List.{List}
use mathlib.Core.Logic.{◌⊎◌, inl, inr}
use Prim.Native.Nat.{ℕ, ◌+◌, ◌-◌, ◌≤◌, ◌<◌}
use native.Mathlib.Omega.{arith}
use lib.ListN.{length, get_or, take, drop}
use lib.Seq.{drop-drop}
use Rattle.text_places.specs.Places.{first_where, starts}
use Rattle.text_places.specs.declared.spans.Span.{Span}
use Rattle.ground.proofs.Cases.{le_or_lt}
use Rattle.ground.proofs.Parts.{drop_take}
use Rattle.text_white.specs.Trim.{trim_start, trim_end, trim_both}
use Rattle.line.specs.declared.line.Line.TheVariants as kinds
use Rattle.text_places.specs.Spans.{shift, part_of}
use Rattle.line_parts.specs.Arrows.{arrow_of, class_sides}
use Rattle.line_parts.specs.Fields.{field_of}
use Rattle.line_parts.specs.Methods.{method_of}
use Rattle.line.specs.Kinds.{place_from, class_by, class_at, method_by, field_by, by_side, member_by, member_at, line_of}
use Rattle.ground.specs.Look.{Look, unknown}
use Rattle.load_rule.specs.Comments.{signature_at, residual_by}
use Rattle.line.proofs.Kinding.{line_comment, line_member, line_class}
use Rattle.load_residual.specs.Inner.Residuals.{braced_gives, hash_gives}
use Rattle.line_parts.specs.declared.method.Method.{Method}
use Rattle.line_parts.specs.declared.arrow.Sides.{Sides}
use Rattle.line_parts.specs.declared.field.Field.{Field}

-- Class lines and member lines, faulty ones too, give nothing to the line before them.
class_unknown : (l : List ℕ) (later : Look) (by : ℕ) (s : List ℕ) → residual_by l (class_at by s) later ≡ unknown
class_unknown l later by s = go (class_sides s)
  where
    go : (a : Option Sides) → residual_by l (class_by by a) later ≡ unknown
    go None = refl
    go (Some x) = refl

member_unknown : (l : List ℕ) (later : Look) (by : ℕ) (s : List ℕ) → residual_by l (member_at by s) later ≡ unknown
member_unknown l later by s = go (arrow_of s)
  where
    fielded : (by : ℕ) (raw : Span) (f : Option Field) → residual_by l (field_by by raw f) later ≡ unknown
    fielded by raw None = refl
    fielded by raw (Some r) = refl

    called : (by : ℕ) (raw : Span) (m : Option Method) → residual_by l (method_by by raw m) later ≡ unknown
    called by raw None = refl
    called by raw (Some m) = refl

    sided : (by : ℕ) (raw : Span) (left : List ℕ) (p : Option ℕ) → residual_by l (by_side by raw left p) later ≡ unknown
    sided by raw left None = fielded by raw (field_of left)
    sided by raw left (Some i) = called by raw (method_of left)

    go : (a : Option Sides) → residual_by l (member_by by s a) later ≡ unknown
    go None = refl
    go (Some x) = sided (by + x.left.start) (shift by x.right) (part_of s x.left) (first_where (starts 0x28) (part_of s x.left))

-- A line by its first character that is no white space.
module _ (l : List ℕ) (h : trim_start l < length l) (kept : 0 < trim_end (drop (trim_start l) l)) where
  some : (trim_both l).start ≡ (trim_both l).«end» → ⊥
  some z = omega arith

  pub other_gives : (later : Look) → (get_or l (trim_start l) 0 ≡ 0x23 → ⊥) → residual_by l (line_of l) later ≡ unknown
  other_gives later c = go (le_or_lt (trim_start l) 0)
    where
      go : (trim_start l ≤ 0) ⊎ (0 < trim_start l) → residual_by l (line_of l) later ≡ unknown
      go (inl o) = ap (λ k. residual_by l k later) (sym (line_class l refl some c o refl)) ∙ class_unknown l later (trim_start l) (part_of l (trim_both l))
      go (inr o) = ap (λ k. residual_by l k later) (sym (line_member l refl some c o refl)) ∙ member_unknown l later (trim_start l) (part_of l (trim_both l))

  module _ (c : get_or l (trim_start l) 0 ≡ 0x23) where
    -- the place of its first `{`
    pub brace_of : Option ℕ
    brace_of = place_from (trim_start l) (first_where (starts 0x7B) (part_of l (trim_both l)))

    pub comment_is : line_of l ≡ kinds.Comment brace_of
    unfolding brace_of
    comment_is = sym (line_comment l refl some c refl)

    pub comment_gives : signature_at l brace_of ≡ hash_gives (drop (trim_start l) l)
    unfolding brace_of
    comment_gives = rw cut (go (first_where (starts 0x7B) (take (trim_end (drop (trim_start l) l)) (drop (trim_start l) l))))
      where
        cut : part_of l (trim_both l) ≡ take (trim_end (drop (trim_start l) l)) (drop (trim_start l) l)
        cut = let e : trim_start l + trim_end (drop (trim_start l) l) - trim_start l ≡ trim_end (drop (trim_start l) l) = omega arith in rw e

        go : (q : Option ℕ) → signature_at l (place_from (trim_start l) q) ≡ braced_gives (take (trim_end (drop (trim_start l) l)) (drop (trim_start l) l)) q
        go None = refl
        go (Some i) =
            let e : trim_start l + trim_end (drop (trim_start l) l) - (trim_start l + i) ≡ trim_end (drop (trim_start l) l) - i = omega arith in
            rw (e, drop_take i (trim_end (drop (trim_start l) l)) (drop (trim_start l) l), drop-drop i (trim_start l) l)
