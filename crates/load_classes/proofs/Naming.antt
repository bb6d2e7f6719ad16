-- The names of a class line. Assumes nothing.
use Rattle.std.specs.Prelude.{Option}
use mathlib.Core.Path.{◌≡◌, sym, ◌∙◌, ap}
use mathlib.Core.List.{List, []}
use Prim.Native.Nat.{ℕ}
use borrow.Author.Rules.{rules}
use Rattle.text_places.specs.declared.spans.Span.{Span}
use Rattle.text_white.specs.Trim.{trim_both}
use Rattle.text_white.proofs.TrimLaws.{trim_inside}
use Rattle.line_parts.specs.declared.method.Method.{Method}
use Rattle.line.specs.declared.line.Refusal.{Refusal}
use Rattle.line.specs.declared.line.Line.{Line}
use Rattle.line.specs.declared.line.Line.TheVariants as kinds
use Rattle.line.specs.Kinds.{line_of}
use Rattle.line_parts.proofs.Lying.{lies_more}
use Rattle.line.proofs.Whole.{LineIn, line_lies}
use Rattle.load_rule.specs.Classes.{class_in}
use Rattle.load_classes.specs.Inner.Names.{NamedAt}
use Rattle.load_classes.proofs.Quick.{told_no_class}

module _ (l : List ℕ) {t : Line} (e : t ≡ line_of l) where
  pub read_blank : t ≡ kinds.Blank → class_in l (line_of l) ≡ []
  read_blank f = ap (class_in l) (sym e ∙ f)

  pub read_comment : {brace : Option ℕ} → t ≡ kinds.Comment brace → class_in l (line_of l) ≡ []
  read_comment f = ap (class_in l) (sym e ∙ f)

  pub read_field : {d n r : Span} → t ≡ kinds.Field d n r → class_in l (line_of l) ≡ []
  read_field f = ap (class_in l) (sym e ∙ f)

  pub read_method : {m : Method} {r : Span} → t ≡ kinds.Method m r → class_in l (line_of l) ≡ []
  read_method f = ap (class_in l) (sym e ∙ f)

  pub read_refused : {k : Refusal} → t ≡ kinds.Refused k → class_in l (line_of l) ≡ []
  read_refused f = ap (class_in l) (sym e ∙ f)

  pub read_class : {d r : Span} → t ≡ kinds.Class d r → NamedAt l (record { display = d; raw = r })
  read_class {d} {r} f =
      let lies : LineIn (kinds.Class d r) (trim_both l).«end» = rw (sym e ∙ f) at (line_lies l) in
      record {
        display_lies = lies_more (trim_inside l) lies.0;
        raw_lies = lies_more (trim_inside l) lies.1;
        is = ap (class_in l) (sym e ∙ f);
      }

pub ruleset naming =
    (told_no_class, read_blank, read_comment, read_field, read_method, read_refused, read_class, rules)
