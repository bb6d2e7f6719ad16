-- Lines that show by their first byte that they are no class lines. Assumes nothing.
use Rattle.std.specs.Prelude.{Option, Some, None}
use mathlib.Core.Path.{◌≡◌, refl, sym, ◌∙◌, ap}
use mathlib.Core.Bool.{Bool, true, false}
use mathlib.Core.List.{List, [], ◌∷◌}
use Prim.Native.Nat.{ℕ, zero, suc, ◌+◌}
use lib.Dec.{eqb}
use lib.ListN.{get_or, take}
use borrow.Author.Tests.{eq-eqb, ne_eqb, eqb-true, eqb-false}
use borrow.Author.Rules.{rules}
use Rattle.ground.specs.Choice.{pick}
use Rattle.text_places.specs.Places.{first_where, starts}
use Rattle.text_utf8.specs.Utf8.{lead_of, tails, after_lead, sequence_of, pieces_from}
use Rattle.text_places.specs.declared.spans.Span.{Span}
use Rattle.text_white.specs.White.{white_ranges, in_ranges, is_white}
use Rattle.text_white.specs.Trim.{run_of, trim_end, trim_both, starts_white}
use Rattle.text_places.specs.Spans.{shift, is_empty, part_of}
use Rattle.line_parts.specs.Arrows.{arrow_of}
use Rattle.line_parts.specs.Fields.{field_of}
use Rattle.line_parts.specs.Methods.{method_of}
use Rattle.line.specs.declared.line.Line.TheVariants.{Blank}
use Rattle.line.specs.Kinds.{comment_at, class_at, method_by, field_by, by_side, member_by, member_at, line_of}
use Rattle.line.proofs.Kinding.{line_blank, line_comment}
use Rattle.load_rule.specs.Classes.{class_in}
use Rattle.load_classes.specs.Inner.Names.{opens_no_class}
use Rattle.line_parts.specs.declared.method.Method.{Method}
use Rattle.line_parts.specs.declared.arrow.Sides.{Sides}
use Rattle.line_parts.specs.declared.field.Field.{Field}

-- A member line, a faulty one too, is no class line.
member_no_class : (l : List ℕ) (by : ℕ) (s : List ℕ) → class_in l (member_at by s) ≡ []
member_no_class l by s = go (arrow_of s)
  where
    fielded : (by : ℕ) (raw : Span) (f : Option Field) → class_in l (field_by by raw f) ≡ []
    fielded by raw None = refl
    fielded by raw (Some r) = refl

    called : (by : ℕ) (raw : Span) (m : Option Method) → class_in l (method_by by raw m) ≡ []
    called by raw None = refl
    called by raw (Some m) = refl

    sided : (by : ℕ) (raw : Span) (left : List ℕ) (p : Option ℕ) → class_in l (by_side by raw left p) ≡ []
    sided by raw left None = fielded by raw (field_of left)
    sided by raw left (Some i) = called by raw (method_of left)

    go : (a : Option Sides) → class_in l (member_by by s a) ≡ []
    go None = refl
    go (Some x) = sided (by + x.left.start) (shift by x.right) (part_of s x.left) (first_where (starts 0x28) (part_of s x.left))

-- "a line whose first character is not white space is a class line"
white_no_class : (l : List ℕ) → starts_white l ≡ true → class_in l (line_of l) ≡ []
white_no_class l w = rw w (go (is_empty (trim_both l)) (starts 0x23 (part_of l (trim_both l))))
  where
    go : (a b : Bool) →
        class_in l (pick a Blank (pick b (comment_at (trim_both l).start (part_of l (trim_both l)))
        (pick true (member_at (trim_both l).start (part_of l (trim_both l))) (class_at (trim_both l).start (part_of l (trim_both l)))))) ≡ []
    go true b = refl
    go false true = refl
    go false false = member_no_class l (trim_both l).start (part_of l (trim_both l))

space_white : (t : List ℕ) → starts_white (0x20 ∷ t) ≡ true
unfolding sequence_of after_lead lead_of tails is_white in_ranges white_ranges
space_white t = refl

lf_white : (t : List ℕ) → starts_white (0x0A ∷ t) ≡ true
unfolding sequence_of after_lead lead_of tails is_white in_ranges white_ranges
lf_white t = refl

cr_white : (t : List ℕ) → starts_white (0x0D ∷ t) ≡ true
unfolding sequence_of after_lead lead_of tails is_white in_ranges white_ranges
cr_white t = refl

-- `#` is no white space, so that the trimmed line starts with it
hash_first : (t : List ℕ) → ◌≡◌ {A = ℕ} (trim_both (0x23 ∷ t)).start 0
unfolding run_of pieces_from sequence_of after_lead lead_of tails is_white in_ranges white_ranges
hash_first t = refl

hash_line : (t : List ℕ) → class_in (0x23 ∷ t) (line_of (0x23 ∷ t)) ≡ []
hash_line t = go (is_empty (trim_both (0x23 ∷ t))) refl
  where
    go : (b : Bool) → is_empty (trim_both (0x23 ∷ t)) ≡ b → class_in (0x23 ∷ t) (line_of (0x23 ∷ t)) ≡ []
    go true e = ap (class_in (0x23 ∷ t)) (sym (line_blank (0x23 ∷ t) refl (eqb-true (trim_both (0x23 ∷ t)).start (trim_both (0x23 ∷ t)).«end» e)))
    go false e =
        ap (class_in (0x23 ∷ t))
        (sym (line_comment (0x23 ∷ t) refl (eqb-false (trim_both (0x23 ∷ t)).start (trim_both (0x23 ∷ t)).«end» e) (ap (λ k. get_or (0x23 ∷ t) k 0) (hash_first t)) refl))

pub told_no_class : (l : List ℕ) {r : Bool} → r ≡ starts_white l → r ≡ true → class_in l (line_of l) ≡ []
told_no_class l e f = white_no_class l (sym e ∙ f)

-- By the first byte.
module _ (b : ℕ) where
  pub opens_space : b ≡ 0x20 → true ≡ opens_no_class b
  opens_space e = rw (eq-eqb b 0x20 e)

  module _ (n : b ≡ 0x20 → ⊥) where
    pub opens_hash : b ≡ 0x23 → true ≡ opens_no_class b
    opens_hash e = rw (ne_eqb b 0x20 n, eq-eqb b 0x23 e)

    module _ (m : b ≡ 0x23 → ⊥) where
      pub opens_lf : b ≡ 0x0A → true ≡ opens_no_class b
      opens_lf e = rw (ne_eqb b 0x20 n, ne_eqb b 0x23 m, eq-eqb b 0x0A e)

      pub opens_cr : (b ≡ 0x0A → ⊥) → eqb b 0x0D ≡ opens_no_class b
      opens_cr e = rw (ne_eqb b 0x20 n, ne_eqb b 0x23 m, ne_eqb b 0x0A e)

pub ruleset first_bytes = (opens_space, opens_hash, opens_lf, opens_cr, rules)

byte_no_class : (b : ℕ) (t : List ℕ) → opens_no_class b ≡ true → class_in (b ∷ t) (line_of (b ∷ t)) ≡ []
byte_no_class b t o = go (eqb b 0x20) refl (eqb b 0x23) refl (eqb b 0x0A) refl o
  where
    same : (x : ℕ) → b ≡ x → class_in (x ∷ t) (line_of (x ∷ t)) ≡ [] → class_in (b ∷ t) (line_of (b ∷ t)) ≡ []
    same x e p = rw e p

    go : (x : Bool) → eqb b 0x20 ≡ x → (y : Bool) → eqb b 0x23 ≡ y → (z : Bool) → eqb b 0x0A ≡ z → pick x true (pick y true (pick z true (eqb b 0x0D))) ≡ true →
        class_in (b ∷ t) (line_of (b ∷ t)) ≡ []
    go true e y f z g p = same 0x20 (eqb-true b 0x20 e) (white_no_class (0x20 ∷ t) (space_white t))
    go false e true f z g p = same 0x23 (eqb-true b 0x23 f) (hash_line t)
    go false e false f true g p = same 0x0A (eqb-true b 0x0A g) (white_no_class (0x0A ∷ t) (lf_white t))
    go false e false f false g p = same 0x0D (eqb-true b 0x0D p) (white_no_class (0x0D ∷ t) (cr_white t))

-- so no start of a text that starts so is a class line
pub start_no_class : (l : List ℕ) (n : ℕ) → opens_no_class (get_or l 0 0) ≡ true → class_in (take n l) (line_of (take n l)) ≡ []
unfolding run_of pieces_from trim_end
start_no_class l zero o = refl
start_no_class [] (suc n) o = refl
start_no_class (b ∷ t) (suc n) o = byte_no_class b (take n t) o
