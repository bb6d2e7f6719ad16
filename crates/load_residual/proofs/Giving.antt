-- The signatures that comments give. Assumes nothing.
use Rattle.std.specs.Prelude.{Option, Some, None}
use mathlib.Core.Path.{◌≡◌, refl, sym, ◌∙◌, ap}
use mathlib.Core.Bool.{Bool, true, false}
use mathlib.Core.List.{List}
use Prim.Native.Nat.{ℕ, ◌≤◌, ◌<◌}
use native.Mathlib.Omega.{arith}
use lib.ListN.{length, drop}
use borrow.Author.Rules.{rules}
use Rattle.ground.specs.Put.{between}
use Rattle.ground.specs.Choice.{pick}
use Rattle.text_places.specs.declared.spans.Span.{Span}
use Rattle.text_white.specs.Trim.{trim_both}
use Rattle.json_grammar.specs.Reader.{chars_from}
use Rattle.json_comment.specs.declared.answer.Stands.{Stands}
use Rattle.json_comment.specs.declared.answer.Stands.TheVariants as stands
use Rattle.json_comment.specs.Answer.{comment_of, residual_of, comment_with}
use Rattle.line.specs.declared.line.Line.TheVariants as kinds
use Rattle.text_places.specs.Spans.{span, part_of, Lies}
use Rattle.line.specs.Kinds.{line_of}
use Rattle.line_parts.proofs.Lying.{trim_lies}
use Rattle.line.proofs.Whole.{brace_inside}
use Rattle.ground.specs.Look.{unknown, is_known}
use Rattle.load_rule.specs.Comments.{says_residual, string_at, signature_by, signature_of, signature_at}
use Rattle.load_residual.specs.Inner.Residuals.{place_look, residual_look, is_given, Gives, residual_string}
use Rattle.json_comment.specs.declared.answer.Comment.{Comment}
use Rattle.load_residual.specs.declared.residual.Residual.{Residual}

-- The string of a JSON text.
module _ (s : List ℕ) {c : Option Comment} (e : c ≡ comment_of s) where
  pub string_unread : c ≡ None → place_look s None ≡ signature_of s
  string_unread f = sym (ap (signature_by s) (sym e ∙ f))

  module _ {y : Comment} (f : c ≡ Some y) where
    told : signature_of s ≡ pick (says_residual s y.id) (string_at s y.signature) unknown
    told = ap (signature_by s) (sym e ∙ f)

    pub string_no_id : y.id ≡ stands.Missing → place_look s None ≡ signature_of s
    string_no_id g = sym (told ∙ ap (λ i. pick (says_residual s i) (string_at s y.signature) unknown) g)

    pub string_other_id : y.id ≡ stands.Other → place_look s None ≡ signature_of s
    string_other_id g = sym (told ∙ ap (λ i. pick (says_residual s i) (string_at s y.signature) unknown) g)

    module _ {named : ℕ} (g : y.id ≡ stands.Text named) {b : Bool} (h : b ≡ residual_of (chars_from 0 (drop named s))) where
      by_id : {x : Bool} → b ≡ x → signature_of s ≡ pick x (string_at s y.signature) unknown
      by_id t = told ∙ ap (λ i. pick (says_residual s i) (string_at s y.signature) unknown) g ∙ ap (λ k. pick k (string_at s y.signature) unknown) (sym h ∙ t)

      pub string_idle : b ≡ false → place_look s None ≡ signature_of s
      string_idle t = sym (by_id t)

      module _ (t : b ≡ true) where
        pub string_missing : y.signature ≡ stands.Missing → place_look s None ≡ signature_of s
        string_missing k = sym (by_id t ∙ ap (string_at s) k)

        pub string_other : y.signature ≡ stands.Other → place_look s None ≡ signature_of s
        string_other k = sym (by_id t ∙ ap (string_at s) k)

        pub string_there : {string : ℕ} → y.signature ≡ stands.Text string → place_look s (Some string) ≡ signature_of s
        string_there k = sym (by_id t ∙ ap (string_at s) k)

pub ruleset stringing = (string_unread, string_no_id, string_other_id, string_idle, string_missing, string_other, string_there, rules)

-- Nothing lies in every text.
pub nothing_lies : (n : ℕ) → Lies (span 0 0) n
nothing_lies n = record { order = omega arith; within = omega arith }

-- The signature of a comment's JSON.
module _ (s : List ℕ) (start e : ℕ) (q : Option ℕ) (g : place_look (between s start e) q ≡ signature_of (between s start e)) where
  pub between_nothing : q ≡ None → Gives s None (signature_of (between s start e))
  between_nothing z = record { look = sym (sym g ∙ ap (place_look (between s start e)) z); lies = nothing_lies (length s) }

  pub between_text : start ≤ e → e ≤ length s → {string : ℕ} → q ≡ Some string → Gives s (Some (residual_string start e string)) (signature_of (between s start e))
  between_text o w z = record { look = sym (sym g ∙ ap (place_look (between s start e)) z); lies = record { order = o; within = w } }

pub ruleset between_places = (between_nothing, between_text, rules)

-- The signature of a comment.
module _ (l : List ℕ) {brace : Option ℕ} where
  pub gives_no_brace : brace ≡ None → Gives l None (signature_at l brace)
  gives_no_brace e = record { look = sym (ap (signature_at l) e); lies = nothing_lies (length l) }

  module _ (k : line_of l ≡ kinds.Comment brace) {start : ℕ} (e : brace ≡ Some start) {p : Span} (t : p ≡ trim_both l) where
    pub json_order : start ≤ p.«end»
    json_order = let h : start < p.«end» = rw t (brace_inside l (k ∙ ap kinds.Comment e)) in omega arith

    pub json_inside : p.«end» ≤ length l
    json_inside = rw t (trim_lies l).within

    pub gives_json : {r : Option Residual} → Gives l r (signature_of (between l start p.«end»)) → Gives l r (signature_at l brace)
    gives_json g = record {
      look = g.look ∙ sym (ap (signature_at l) e ∙ ap (λ x. signature_of (part_of l (span start x.«end»))) (sym t));
      lies = g.lies;
    }

pub ruleset giving = (gives_no_brace, json_order, json_inside, gives_json, rules)

-- Whether there is one.
pub given_looks : (s : List ℕ) (r : Option Residual) → is_given r ≡ is_known (residual_look s r)
given_looks s (Some r) = refl
given_looks s None = refl

pub gives_known : (l : List ℕ) (brace : Option ℕ) (r : Option Residual) → Gives l r (signature_at l brace) → {b : Bool} → b ≡ is_given r → b ≡ is_known (signature_at l brace)
gives_known l brace r g e = e ∙ given_looks l r ∙ ap is_known g.look

pub ruleset given_ones = (gives_known, rules)
