-- What becomes of a line, by what it is. Assumes nothing.
use Rattle.std.specs.Prelude.{Option}
use mathlib.Core.Path.{◌≡◌, sym, ◌∙◌, ap}
use mathlib.Core.Bool.{Bool, true, false}
use mathlib.Core.List.{List}
use Prim.Native.Nat.{ℕ}
use borrow.Author.Rules.{rules}
use Rattle.ground.specs.Look.{is_known}
use Rattle.text_places.specs.declared.spans.Span.{Span}
use Rattle.line_parts.specs.declared.method.Method.{Method}
use Rattle.line.specs.declared.line.Refusal.{Refusal}
use Rattle.line.specs.declared.line.Line.{Line}
use Rattle.line.specs.declared.line.Line.TheVariants as kinds
use Rattle.line.specs.Kinds.{line_of}
use Rattle.load_rule.specs.declared.Fate.{Fate}
use Rattle.load_rule.specs.declared.Fate.TheVariants as fate
use Rattle.load_rule.specs.Comments.{signature_at}
use Rattle.load_rule.specs.Fates.{comment_fate, method_fate, fate_of}

module _ (member : Bool) (l : List ℕ) {k : Line} where
  pub fated_blank : k ≡ kinds.Blank → fate.Blank ≡ fate_of member l k
  fated_blank e = sym (ap (fate_of member l) e)

  pub fated_class : {d r : Span} → k ≡ kinds.Class d r → fate.Class ≡ fate_of member l k
  fated_class e = sym (ap (fate_of member l) e)

  pub fated_field : {d n r : Span} → k ≡ kinds.Field d n r → fate.Field ≡ fate_of member l k
  fated_field e = sym (ap (fate_of member l) e)

  pub fated_refused : {r : Refusal} → k ≡ kinds.Refused r → fate.Faulty ≡ fate_of member l k
  fated_refused e = sym (ap (fate_of member l) e)

  pub fated_method : {m : Method} {r : Span} → k ≡ kinds.Method m r → {x : Fate} → x ≡ method_fate m.short → x ≡ fate_of member l k
  fated_method e g = g ∙ sym (ap (fate_of member l) e)

  module _ {brace : Option ℕ} (e : k ≡ kinds.Comment brace) where
    pub fated_kind : line_of l ≡ k → line_of l ≡ kinds.Comment brace
    fated_kind h = h ∙ e

    pub fated_comment : member ≡ true → {b : Bool} → b ≡ is_known (signature_at l brace) → {x : Fate} → x ≡ comment_fate b → x ≡ fate_of member l k
    fated_comment t h g = g ∙ sym (ap (fate_of member l) e ∙ rw (t, ← h))

    pub fated_idle : member ≡ false → {x : Fate} → x ≡ comment_fate false → x ≡ fate_of member l k
    fated_idle t g = g ∙ sym (ap (fate_of member l) e ∙ rw t)

pub ruleset fating = (fated_blank, fated_class, fated_field, fated_refused, fated_method, fated_kind, fated_comment, fated_idle, rules)
