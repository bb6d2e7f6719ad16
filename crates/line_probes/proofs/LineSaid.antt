-- What an answer about a line says is what its rule says, case by case. Assumes nothing.
use Rattle.std.specs.Prelude.{Option, Some, None}
use mathlib.Core.Path.{◌≡◌, sym, ◌∙◌, ap}
use mathlib.Core.List.{List, [], ◌∷◌}
use Prim.Native.Nat.{ℕ, ◌+◌}
use borrow.Author.Rules.{rules}
use Rattle.ground.specs.Choice.{bit}
use Rattle.text_places.specs.declared.spans.Span.{Span}
use Rattle.line_parts.specs.declared.signature.Qualified.{Qualified}
use Rattle.line_parts.specs.declared.signature.Qualified.TheVariants.{Owned, Plain}
use Rattle.line_parts.specs.declared.method.Method.{Method}
use Rattle.line.specs.declared.line.Refusal.{Refusal}
use Rattle.line.specs.declared.line.Line.{Line}
use Rattle.line.specs.declared.line.Line.TheVariants as lines
use Rattle.line.specs.Kinds.{refusal_number}
use Rattle.text_places.specs.Spans.{span}
use Rattle.line_parts.specs.Signatures.{name_span}
use Rattle.line_probes.specs.LineAnswers.{owned, owner_span, lined, first_line, last_line, seven_numbers, comment_line_numbers, class_numbers, field_numbers, method_numbers, line_kind_numbers, argument_numbers}
use Rattle.line_probes.proofs.Braces.{brace_counts}
use Rattle.text_places.proofs.PlaceLaws.{place_fits}
use Rattle.line_parts.specs.declared.arguments.NextArgument.{NextArgument}
use Rattle.line_parts.specs.Inner.NextArgument.{taken_argument}

module _ {t x : Line} (e : t ≡ x) where
  pub said_blank : {n : List ℕ} → t ≡ lines.Blank → n ≡ seven_numbers 0 0 0 0 0 0 0 → n ≡ line_kind_numbers x
  said_blank g f = f ∙ sym (ap line_kind_numbers (sym e ∙ g))

  pub said_comment : {p : Option ℕ} {n : List ℕ} → t ≡ lines.Comment p → n ≡ comment_line_numbers p → n ≡ line_kind_numbers x
  said_comment g f = f ∙ sym (ap line_kind_numbers (sym e ∙ g))

  pub said_class : {d r : Span} {n : List ℕ} → t ≡ lines.Class d r → n ≡ class_numbers d r → n ≡ line_kind_numbers x
  said_class g f = f ∙ sym (ap line_kind_numbers (sym e ∙ g))

  pub said_field : {d a r : Span} {n : List ℕ} → t ≡ lines.Field d a r → n ≡ field_numbers d a r → n ≡ line_kind_numbers x
  said_field g f = f ∙ sym (ap line_kind_numbers (sym e ∙ g))

  pub said_method : {m : Method} {r : Span} {n : List ℕ} → t ≡ lines.Method m r → n ≡ method_numbers m r → n ≡ line_kind_numbers x
  said_method g f = f ∙ sym (ap line_kind_numbers (sym e ∙ g))

  pub said_refused : {r : Refusal} {k : ℕ} {n : List ℕ} → t ≡ lines.Refused r → k ≡ refusal_number r → n ≡ seven_numbers 5 k 0 0 0 0 0 → n ≡ line_kind_numbers x
  said_refused g h f = f ∙ ap (λ m. seven_numbers 5 m 0 0 0 0 0) h ∙ sym (ap line_kind_numbers (sym e ∙ g))

pub ruleset said_lines = (said_blank, said_comment, said_class, said_field, said_method, said_refused, brace_counts, rules)

module _ {t x : Option NextArgument} (e : t ≡ x) where
  pub said_argument : {y : NextArgument} → t ≡ Some y → 1 ∷ y.start ∷ y.«end» ∷ y.next ∷ [] ≡ argument_numbers x
  said_argument g = sym (ap argument_numbers (sym e ∙ g))

  pub said_no_argument : t ≡ None → 0 ∷ 0 ∷ 0 ∷ 0 ∷ [] ≡ argument_numbers x
  said_no_argument g = sym (ap argument_numbers (sym e ∙ g))

pub ruleset said_arguments = (said_argument, said_no_argument, rules)

-- The place of a comment's `{`.
pub brace_at : {p : Option ℕ} {i : ℕ} {n : List ℕ} → p ≡ Some i → n ≡ seven_numbers 1 (i + 1) 0 0 0 0 0 → n ≡ comment_line_numbers p
brace_at g f = f ∙ sym (ap comment_line_numbers g)

pub brace_none : {p : Option ℕ} {n : List ℕ} → p ≡ None → n ≡ seven_numbers 1 0 0 0 0 0 0 → n ≡ comment_line_numbers p
brace_none g f = f ∙ sym (ap comment_line_numbers g)

pub ruleset said_braces = (brace_at, brace_none, place_fits, rules)

-- The parts of a method.
pub owner_there : {q : Qualified} {o a : Span} → q ≡ Owned o a → o ≡ owner_span q
owner_there g = sym (ap owner_span g)

pub owner_none : {q : Qualified} {a : Span} → q ≡ Plain a → span 0 0 ≡ owner_span q
owner_none g = sym (ap owner_span g)

pub ruleset said_owners = (owner_there, owner_none, rules)

pub all_parts :
    (m : Method) (raw : Span) {o a : Span} {k f g h i j l n : ℕ} → o ≡ owner_span m.named → a ≡ name_span m.named → k ≡ owned m.named →
    f ≡ lined m.raw → g ≡ first_line m.raw → h ≡ last_line m.raw →
    i ≡ lined m.display → j ≡ first_line m.display → l ≡ last_line m.display → n ≡ bit m.short →
    4 ∷ m.returned.start ∷ m.returned.«end» ∷ k ∷ o.start ∷ o.«end» ∷ a.start ∷ a.«end» ∷ m.arguments.start ∷ m.arguments.«end»
    ∷ raw.start ∷ raw.«end» ∷ f ∷ g ∷ h ∷ i ∷ j ∷ l ∷ n ∷ 0 ∷ [] ≡ method_numbers m raw
all_parts m raw eo ea ek ef eg eh ei ej el en = rw (eo, ea, ek, ef, eg, eh, ei, ej, el, en)

pub ruleset said_methods = (all_parts, rules)
