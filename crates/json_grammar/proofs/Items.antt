-- Items one after the other, in the steps of a reader that goes from place to place: laws of the reader on lists. Assumes nothing.
use mathlib.Core.Path.{◌≡◌, refl, sym, ◌∙◌, ap}
use mathlib.Core.Bool.{Bool, true, false}
use mathlib.Core.List.{List, [], ◌∷◌, ◌++◌, append_assoc}
use Prim.Native.Nat.{ℕ, zero, suc, ◌≤◌, ◌<◌}
use native.Mathlib.Omega.{arith}
use lib.Dec.{eqb}
use lib.ListN.{length, length-append}
use borrow.Author.Tests.{eqb-true, eq-eqb}
use Rattle.ground.specs.Choice.{pick, within}
use Rattle.ground.proofs.Cases.{within_one}
use Rattle.json_grammar.specs.Grammar
use Rattle.json_grammar.specs.Grammar.{Meaning}
use Rattle.json_grammar.specs.Reader.{Out, got, bad, and_then, skip, one_of, structural, after_item, items_of, inside_of, Item, member_of, value_of}
use Rattle.json_grammar.proofs.Took.{Took, same_rest, never_bad, skip_took}
use Rattle.json_grammar.proofs.ValuesTook.{member_took, value_took}

-- what was read before, in front of what a reader gives
abbrev pub before : {X : Type 0} → List X → Out (List X) → Out (List X)
before a o = and_then o (λ xs q. got (a ++ xs) q)

pub before_nothing : {X : Type 0} (o : Out (List X)) → o ≡ before [] o
unfolding and_then
before_nothing (got xs q) = refl
before_nothing bad = refl

pub before_both : {X : Type 0} (a b : List X) (o : Out (List X)) → before a (before b o) ≡ before (a ++ b) o
unfolding and_then
before_both a b (got xs q) = ap (λ l. got l q) (sym (append_assoc a b xs))
before_both a b bad = refl

-- What is left is no longer than what there was.
pub took_shorter : {A : List ℕ → Type 0} (s r : List ℕ) → Took A s r → length r ≤ length s
took_shorter s r t = rw (t.cut, length-append t.part r) (omega arith)

pub value_shorter : (depth : ℕ) (s : List ℕ) (m : Meaning) (r : List ℕ) → value_of depth s ≡ got m r → length r ≤ length s
value_shorter depth s m r e = took_shorter s r (value_took depth s m r e)

pub member_shorter : (depth : ℕ) (s : List ℕ) (i : Item) (r : List ℕ) → member_of (value_of depth) s ≡ got i r → length r ≤ length s
member_shorter depth s i r e = took_shorter s r (member_took (Grammar.Value depth) (value_of depth) (value_took depth) s i r e)

pub skip_shorter : (s : List ℕ) → length (skip s) ≤ length s
skip_shorter s = took_shorter s (skip s) (skip_took s)

-- A structural character: it stands first after ws, or there is none.
record Seen (x : ℕ) (l r : List ℕ) : Type 0 where
  onward : List ℕ
  here : l ≡ x ∷ onward
  rest : skip onward ≡ r

seen_as : (x : ℕ) (l : List ℕ) {y : ℕ} {r : List ℕ} → and_then (one_of (within x x) l) (λ z q. got z (skip q)) ≡ got y r → Seen x l r
unfolding and_then
seen_as x [] e = never_bad e
seen_as x (c ∷ l) {y} {r} e = go (within x x c) refl e
  where
    go : (b : Bool) → within x x c ≡ b → and_then (pick b (got c l) bad) (λ z q. got z (skip q)) ≡ got y r → Seen x (c ∷ l) r
    go true f g = record { onward = l; here = ap (λ z. z ∷ l) (eqb-true c x (sym (within_one x c) ∙ f)); rest = same_rest g }
    go false f g = never_bad g

seen : (x : ℕ) (s : List ℕ) {y : ℕ} {r : List ℕ} → structural x s ≡ got y r → Seen x (skip s) r
unfolding structural
seen x s e = seen_as x (skip s) e

pub structural_shorter : (x : ℕ) (s : List ℕ) {y : ℕ} {r : List ℕ} → structural x s ≡ got y r → length r < length s
structural_shorter x s {y} {r} e =
    let w = seen x s e in
    let a = skip_shorter s in
    let b = skip_shorter w.onward in
    let c : length (skip s) ≡ suc (length w.onward) = ap length w.here in
    let d : length (skip w.onward) ≡ length r = ap length w.rest in
    omega arith

-- the character is not there
unseen_as : (x : ℕ) (c : ℕ) (l : List ℕ) → and_then (one_of (within x x) (c ∷ l)) (λ z q. got z (skip q)) ≡ bad → eqb c x ≡ false
unfolding and_then
unseen_as x c l e = sym (within_one x c) ∙ go (within x x c) e
  where
    go : (b : Bool) → and_then (pick b (got c l) bad) (λ z q. got z (skip q)) ≡ bad → b ≡ false
    go true f = never_bad (sym f)
    go false f = refl

unseen : (x : ℕ) (s : List ℕ) (c : ℕ) (l : List ℕ) → structural x s ≡ bad → skip s ≡ c ∷ l → eqb c x ≡ false
unfolding structural
unseen x s c l e f = unseen_as x c l (rw f at e)

-- After the opening character: `l` has no ws at its head.
module _ {X : Type 0} (p : List ℕ → Out X) (closing : ℕ) where
  pub inside_closed : (l : List ℕ) {y : ℕ} {r : List ℕ} → skip l ≡ l → structural closing l ≡ got y r → inside_of p closing l ≡ got [] r
  unfolding inside_of
  inside_closed l {r = r} k e = let w = seen closing l e in go w.onward (sym k ∙ w.here) w.rest
    where
      go : (t : List ℕ) → l ≡ closing ∷ t → skip t ≡ r → inside_of p closing l ≡ got [] r
      go t f g = rw (f, eq-eqb closing closing refl, g)

  pub inside_items : (l : List ℕ) → skip l ≡ l → structural closing l ≡ bad → inside_of p closing l ≡ items_of p closing (length l) l
  unfolding inside_of items_of
  inside_items [] k e = refl
  inside_items (c ∷ l) k e = rw (unseen closing (c ∷ l) c l e k)

  -- An item `x` was read, and `r` is left.
  module _ (x : X) (more : List ℕ → Out (List X)) (r : List ℕ) where
    after_head : (l : List ℕ) → skip r ≡ l → (c : ℕ) (t : List ℕ) → l ≡ c ∷ t →
        after_item closing x more (skip r) ≡ pick (eqb c 0x2C) (before (x ∷ []) (more (skip t))) (pick (eqb c closing) (got (x ∷ []) (skip t)) bad)
    unfolding after_item
    after_head l e c t f = rw (e, f)

    pub after_comma : {y : ℕ} {q : List ℕ} → structural 0x2C r ≡ got y q → after_item closing x more (skip r) ≡ before (x ∷ []) (more q)
    after_comma e =
        let w = seen 0x2C r e in
        after_head (skip r) refl 0x2C w.onward w.here ∙ ap (λ l. before (x ∷ []) (more l)) w.rest

    pub after_closed : {y : ℕ} {q : List ℕ} → structural 0x2C r ≡ bad → structural closing r ≡ got y q → after_item closing x more (skip r) ≡ got (x ∷ []) q
    after_closed n e =
        let w = seen closing r e in
        after_head (skip r) refl closing w.onward w.here ∙ rw (unseen 0x2C r closing w.onward n w.here, eq-eqb closing closing refl, w.rest)

    pub after_wrong : structural 0x2C r ≡ bad → structural closing r ≡ bad → after_item closing x more (skip r) ≡ bad
    unfolding after_item
    after_wrong n m = go (skip r) refl
      where
        go : (l : List ℕ) → skip r ≡ l → after_item closing x more l ≡ bad
        go [] e = refl
        go (c ∷ t) e = rw (unseen 0x2C r c t n e, unseen closing r c t m e)

  -- One turn: an item is read, or there is none.
  pub items_none : (n : ℕ) (s : List ℕ) → p s ≡ bad → items_of p closing n s ≡ bad
  unfolding items_of and_then
  items_none zero s e = refl
  items_none (suc n) s e = rw e

  pub items_item : (n : ℕ) (s : List ℕ) {x : X} {r : List ℕ} → p s ≡ got x r → items_of p closing (suc n) s ≡ after_item closing x (items_of p closing n) (skip r)
  unfolding items_of and_then
  items_item n s e = rw e
