-- One token, as the code reads it. Assumes nothing.
use mathlib.Core.Path.{◌≡◌, refl, sym, ◌∙◌, ap}
use mathlib.Core.Bool.{Bool, true, false, not}
use mathlib.Core.List.{List, [], ◌∷◌}
use Prim.Native.Nat.{ℕ, ◌+◌, ◌*◌, ◌≤◌, ◌<◌}
use native.Mathlib.Omega.{arith}
use lib.ListN.{length, get_or}
use borrow.Author.Tests.{eq-eqb, ne_eqb}
use borrow.Author.Rules.{rules}
use Rattle.ground.specs.Choice.{pick}
use Rattle.tree_rule.specs.declared.TreeCounts.{TreeCounts}
use Rattle.tree_rule.specs.declared.Token.{Token}
use Rattle.tree_rule.specs.declared.Token.TheVariants.{Other, MemberName, Descriptor, SourceLine}
use Rattle.tree_rule.specs.Trees.{name_in}
use Rattle.tree_rule.specs.Files.{tokens_start, token_row, token_at, text_at, tree_by}
use Rattle.tree_rule.specs.Signatures.{opens, is_owner, names_method}
use Rattle.tree_rule.specs.Theorems.{FormedBy, NamesBelow}
use Rattle.tree_rule.proofs.Formed.{token_read, row_inside, names_inside}
use Rattle.tree_rule.proofs.Reading.{raw_text}
use Rattle.tree_signature.specs.Inner.Tokens.{starts_as, described_as}

-- A text.
module _ (opening : Bool) where
  pub starts_none : (s : List ℕ) → length s < 1 → not opening ≡ starts_as opening s
  starts_none [] h = refl
  starts_none (x ∷ s) h = absurd (omega arith)

  pub starts_open : (s : List ℕ) → 1 ≤ length s → get_or s 0 0 ≡ 40 → opening ≡ starts_as opening s
  starts_open [] h e = absurd (omega arith)
  starts_open (x ∷ s) h e = sym (rw (eq-eqb x 40 e))

  pub starts_other : (s : List ℕ) → 1 ≤ length s → (get_or s 0 0 ≡ 40 → ⊥) → not opening ≡ starts_as opening s
  starts_other [] h e = absurd (omega arith)
  starts_other (x ∷ s) h e = sym (rw (ne_eqb x 40 e))

pub ruleset openings = (starts_none, starts_open, starts_other, rules)

-- A token.
module _ (opening : Bool) (c : TreeCounts) (f : List ℕ) (i : ℕ) {a : ℕ} (e : a ≡ tokens_start c) {t : Token}
    (g : t ≡ token_row f (a + 12 * i)) where
  abbrev name : ℕ → List ℕ
  name n = name_in (tree_by c f) n

  module _ {x y : ℕ} where
    pub of_other : t ≡ Other x y → false ≡ described_as opening name (token_at c f i)
    of_other h = ap (described_as opening name) (sym (token_read c f i e g ∙ h))

    pub of_member : t ≡ MemberName x y → false ≡ described_as opening name (token_at c f i)
    of_member h = ap (described_as opening name) (sym (token_read c f i e g ∙ h))

    pub of_line : t ≡ SourceLine x y → false ≡ described_as opening name (token_at c f i)
    of_line h = ap (described_as opening name) (sym (token_read c f i e g ∙ h))

    module _ (h : t ≡ Descriptor x y) (k : FormedBy c f) (l : i < c.tokens) where
      pub of_descriptor : {s : List ℕ} → s ≡ text_at c f x → {b : Bool} → b ≡ starts_as opening s →
          b ≡ described_as opening name (token_at c f i)
      of_descriptor w o = o ∙ ap (starts_as opening) (w ∙ sym (raw_text c f k i l (token_read c f i e g ∙ h)))
          ∙ ap (described_as opening name) (sym (token_read c f i e g ∙ h))

pub raw_there : (c : TreeCounts) (f : List ℕ) (i : ℕ) {a : ℕ} → a ≡ tokens_start c → {t : Token} →
    t ≡ token_row f (a + 12 * i) →
    {x y : ℕ} → t ≡ Descriptor x y → FormedBy c f → i < c.tokens → x < c.names
raw_there c f i e g {x} {y} h k l =
    let same : token_at c f i ≡ Descriptor x y = token_read c f i e g ∙ h in
    let below : NamesBelow c.names (Descriptor x y) = rw same at (k.tokens i l) in
    below.0

pub ruleset token_tests = (of_other, of_member, of_line, of_descriptor, raw_there, row_inside, names_inside, rules)

-- what the rule asks of a descriptor
yes_same : (b : Bool) → pick b true false ≡ b
yes_same true = refl
yes_same false = refl

no_same : (b : Bool) → pick b false true ≡ not b
no_same true = refl
no_same false = refl

module _ (name : ℕ → List ℕ) where
  method_same : (t : Token) → described_as true name t ≡ names_method name t
  method_same (Other a b) = refl
  method_same (MemberName a b) = refl
  method_same (Descriptor a b) = yes_same (opens (name a))
  method_same (SourceLine a b) = refl

  owner_same : (t : Token) → described_as false name t ≡ is_owner name t
  owner_same (Other a b) = refl
  owner_same (MemberName a b) = refl
  owner_same (Descriptor a b) = no_same (opens (name a))
  owner_same (SourceLine a b) = refl

  pub method_told : (t : Token) {b : Bool} → b ≡ described_as true name t → b ≡ names_method name t
  method_told t e = e ∙ method_same t

  pub owner_told : (t : Token) {b : Bool} → b ≡ described_as false name t → b ≡ is_owner name t
  owner_told t e = e ∙ owner_same t

pub ruleset meanings = (method_told, rules)
