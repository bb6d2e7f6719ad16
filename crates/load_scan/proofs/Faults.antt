-- The fault of a line. Assumes nothing.
use mathlib.Core.Path.{◌≡◌, sym, ◌∙◌, ap}
use Prim.Native.Nat.{ℕ}
use borrow.Author.Tests.{eq-eqb, ne_eqb}
use borrow.Author.Rules.{rules}
use Rattle.text_places.specs.declared.spans.Span.{Span}
use Rattle.line_parts.specs.declared.method.Method.{Method}
use Rattle.line.specs.declared.line.Refusal.{Refusal}
use Rattle.line.specs.declared.line.Refusal.TheVariants as refusal
use Rattle.line.specs.declared.line.Line.{Line}
use Rattle.line.specs.declared.line.Line.TheVariants as kinds
use Rattle.line.specs.Kinds.{refusal_number}
use Rattle.load_rule.specs.Fates.{ownerless, refused_fault, fault_of}

module _ (classes number : ℕ) where
  pub no_class : classes ≡ 0 → 4 ≡ ownerless classes number
  no_class e = sym (rw (eq-eqb classes 0 e))

  pub some_class : (classes ≡ 0 → ⊥) → number ≡ ownerless classes number
  some_class n = sym (rw (ne_eqb classes 0 n))

module _ (classes : ℕ) {k : Line} where
  pub field_fault : {d n r : Span} → k ≡ kinds.Field d n r → {x : ℕ} → x ≡ ownerless classes 0 → x ≡ fault_of classes k
  field_fault e f = f ∙ sym (ap (fault_of classes) e)

  pub method_fault : {m : Method} {r : Span} → k ≡ kinds.Method m r → {x : ℕ} → x ≡ ownerless classes 0 → x ≡ fault_of classes k
  method_fault e f = f ∙ sym (ap (fault_of classes) e)

  pub refused_fault_lem : {r : Refusal} → k ≡ kinds.Refused r → {x : ℕ} → x ≡ refused_fault classes r → x ≡ fault_of classes k
  refused_fault_lem e f = f ∙ sym (ap (fault_of classes) e)

pub ruleset faulting = (no_class, some_class, field_fault, method_fault, refused_fault_lem, rules)

-- Of a line that is refused.
module _ (classes : ℕ) {r : Refusal} {number : ℕ} (n : number ≡ refusal_number r) where
  pub fault_class : r ≡ refusal.Class → number ≡ refused_fault classes r
  fault_class e = n ∙ ap refusal_number e ∙ sym (ap (refused_fault classes) e)

  module _ {x : ℕ} (f : x ≡ ownerless classes number) where
    numbered : (y : Refusal) → r ≡ y → x ≡ ownerless classes (refusal_number y)
    numbered y e = f ∙ ap (ownerless classes) (n ∙ ap refusal_number e)

    pub fault_member : r ≡ refusal.Member → x ≡ refused_fault classes r
    fault_member e = numbered refusal.Member e ∙ sym (ap (refused_fault classes) e)

    pub fault_method : r ≡ refusal.Method → x ≡ refused_fault classes r
    fault_method e = numbered refusal.Method e ∙ sym (ap (refused_fault classes) e)

    pub fault_field : r ≡ refusal.Field → x ≡ refused_fault classes r
    fault_field e = numbered refusal.Field e ∙ sym (ap (refused_fault classes) e)

pub ruleset refusing = (fault_class, fault_member, fault_method, fault_field, rules)
