-- Complete: the reader takes what the grammar has. Here ws, structural characters and numbers. Assumes nothing.
use mathlib.Core.Path.{◌≡◌, refl, ◌∙◌, ap}
use mathlib.Core.Bool.{Bool, true, false, not}
use mathlib.Core.List.{List, [], ◌∷◌, ◌++◌, append_assoc}
use Prim.Native.Nat.{ℕ, ◌<◌}
use native.Mathlib.Omega.{arith}
use lib.Dec.{lit<}
use borrow.Author.Tests.{not-true}
use Rattle.ground.specs.Abnf.{Octet, ◌⊹◌, ◌∣◌, Opt, Star, octet, ◌⨾◌, left, right, absent, present, none, more}
use Rattle.ground.specs.Choice.{either, within}
use Rattle.ground.proofs.Cases.{within_both, within_yes, within_high, clash}
use Rattle.json_grammar.specs.Grammar
use Rattle.json_grammar.specs.Reader.{past_all, Out, got, and_then, is_ws, skip, structural, is_digit, past_digits, digits, optional, int, is_minus, is_sign, past, is_point, is_e, frac, exp, json_number}

-- The first octet, if there is one, is none of some.
abbrev pub free : (ℕ → Bool) → List ℕ → Bool
free p [] = true
free p (x ∷ s) = not (p x)

-- A value ends where the text does, or before ws, a comma or a closing character.
abbrev pub is_stop : ℕ → Bool
is_stop x = either (is_ws x) (either (within 0x2C 0x2C x) (either (within 0x5D 0x5D x) (within 0x7D 0x7D x)))

abbrev pub stops : List ℕ → Bool
stops [] = true
stops (x ∷ s) = is_stop x

-- an octet of one range is in no other that lies apart from it
apart_above : (a b c d x : ℕ) → d < a → within a b x ≡ true → within c d x ≡ false
apart_above a b c d x h e = within_high c d x (let w = within_both a b x e in omega arith)

exact : (a x : ℕ) → within a a x ≡ true → x ≡ a
exact a x e = let w = within_both a a x e in omega arith

-- a fact about one octet that stands in a range of one
only : (a : ℕ) (p : ℕ → Bool) (b : Bool) → p a ≡ b → (x : ℕ) → within a a x ≡ true → p x ≡ b
only a p b f x e = ap p (exact a x e) ∙ f

-- Section 2.
skip_one : (x : ℕ) (s : List ℕ) → is_ws x ≡ true → skip (x ∷ s) ≡ skip s
unfolding past_all
skip_one x s e = rw e

pub skip_past : {a : List ℕ} → Grammar.Ws a → (r : List ℕ) → skip (a ++ r) ≡ skip r
skip_past none r = refl
skip_past (more {b = b} (left (octet x e)) w) r = skip_one x (b ++ r) (only 0x20 is_ws true refl x e) ∙ skip_past w r
skip_past (more {b = b} (right (left (octet x e))) w) r = skip_one x (b ++ r) (only 0x09 is_ws true refl x e) ∙ skip_past w r
skip_past (more {b = b} (right (right (left (octet x e)))) w) r = skip_one x (b ++ r) (only 0x0A is_ws true refl x e) ∙ skip_past w r
skip_past (more {b = b} (right (right (right (octet x e)))) w) r = skip_one x (b ++ r) (only 0x0D is_ws true refl x e) ∙ skip_past w r

-- where no ws stands there is nothing to skip
pub skip_none : (x : ℕ) (s : List ℕ) → is_ws x ≡ false → skip (x ∷ s) ≡ x ∷ s
unfolding past_all
skip_none x s e = rw e

-- a structural character: what the reader sees after the ws before it, and what is left after the ws behind it
pub record Stands (x : ℕ) (a r : List ℕ) : Type 0 where
  pub tail : List ℕ
  pub seen : skip (a ++ r) ≡ x ∷ tail
  pub leaves : skip tail ≡ skip r

pub structural_stands : (x : ℕ) → is_ws x ≡ false → {a : List ℕ} → Grammar.Structural x a → (r : List ℕ) → Stands x a r
structural_stands x n (◌⨾◌ {a = a} w (◌⨾◌ {b = b} (octet y e) v)) r = record {
  tail = b ++ r;
  seen = ap skip (append_assoc a (y ∷ b) r) ∙ skip_past w (y ∷ (b ++ r)) ∙ skip_none y (b ++ r) (ap is_ws (exact x y e) ∙ n) ∙ ap (λ z. z ∷ (b ++ r)) (exact x y e);
  leaves = skip_past v r;
}

pub structural_all : (x : ℕ) → is_ws x ≡ false → {a : List ℕ} → Grammar.Structural x a → (r : List ℕ) → structural x (a ++ r) ≡ got x (skip r)
unfolding structural and_then
structural_all x n s r =
    let t = structural_stands x n s r in
    rw (t.seen, within_yes x x x (omega arith) (omega arith), t.leaves)

-- Section 6.
pub digits_past : {a : List ℕ} → Star Grammar.Digit a → (r : List ℕ) → free is_digit r ≡ true → past_digits (a ++ r) ≡ r
unfolding past_all
digits_past none [] f = refl
digits_past none (x ∷ r) f = rw (not-true (is_digit x) f)
digits_past (more (octet x e) d) r f = rw e (digits_past d r f)

digits_all : {a : List ℕ} → (Grammar.Digit ⊹ Star Grammar.Digit) a → (r : List ℕ) → free is_digit r ≡ true → (y : ℕ) × (digits (a ++ r) ≡ got y r)
unfolding digits and_then
digits_all (◌⨾◌ {b = b} (octet x e) d) r f = (x, rw (e, digits_past d r f))

int_all : {a : List ℕ} → Grammar.Int a → (r : List ℕ) → free is_digit r ≡ true → (y : ℕ) × (int (a ++ r) ≡ got y r)
unfolding int
int_all (left (octet x e)) r f = (x, rw e)
int_all (right (octet x e ⨾ d)) r f =
    let w = within_both _ _ x e in
    (x, rw (within_high 0x30 0x30 x (omega arith), within_yes 0x31 0x39 x (omega arith) (omega arith), digits_past d r f))

-- an option that is absent
not_there : (p : ℕ → Bool) (k : List ℕ → Out ℕ) (r : List ℕ) → free p r ≡ true → optional p k r ≡ got 0 r
unfolding optional
not_there p k [] f = refl
not_there p k (x ∷ r) f = rw (not-true (p x) f)

frac_all : {a : List ℕ} → Opt Grammar.Frac a → (r : List ℕ) → free is_point r ≡ true → free is_digit r ≡ true → (y : ℕ) × (frac (a ++ r) ≡ got y r)
unfolding optional
frac_all absent r f g = (0, not_there is_point digits r f)
frac_all (present (octet x e ⨾ d)) r f g = let (y, h) = digits_all d r g in (y, rw e h)

sign_past : {a b : List ℕ} → Opt (Octet 0x2D 0x2D ∣ Octet 0x2B 0x2B) a → (Grammar.Digit ⊹ Star Grammar.Digit) b → (r : List ℕ) → past is_sign (a ++ (b ++ r)) ≡ b ++ r
unfolding past
sign_past absent (octet x e ⨾ d) r = rw (apart_above 0x30 0x39 0x2D 0x2D x (lit< tt) e, apart_above 0x30 0x39 0x2B 0x2B x (lit< tt) e)
sign_past (present (left (octet y o))) d r = rw o
sign_past (present (right (octet y o))) d r = rw (only 0x2B is_sign true refl y o)

exp_reads : {a : List ℕ} → (Opt (Octet 0x2D 0x2D ∣ Octet 0x2B 0x2B) ⊹ Grammar.Digit ⊹ Star Grammar.Digit) a → (r : List ℕ) → free is_digit r ≡ true →
    (y : ℕ) × (digits (past is_sign (a ++ r)) ≡ got y r)
exp_reads (◌⨾◌ {a = a} {b = b} s d) r f = let (y, h) = digits_all d r f in (y, ap digits (ap (past is_sign) (append_assoc a b r) ∙ sign_past s d r) ∙ h)

exp_all : {a : List ℕ} → Opt Grammar.Exp a → (r : List ℕ) → free is_e r ≡ true → free is_digit r ≡ true → (y : ℕ) × (exp (a ++ r) ≡ got y r)
unfolding optional
exp_all absent r f g = (0, not_there is_e (λ q. digits (past is_sign q)) r f)
exp_all (present (left (octet x e) ⨾ d)) r f g = let (y, h) = exp_reads d r g in (y, rw e h)
exp_all (present (right (octet x e) ⨾ d)) r f g = let (y, h) = exp_reads d r g in (y, rw (only 0x45 is_e true refl x e) h)

-- what stops a value is free of what could go on
stop_free : (p : ℕ → Bool) → ((x : ℕ) → is_stop x ≡ true → p x ≡ false) → (r : List ℕ) → stops r ≡ true → free p r ≡ true
stop_free p f [] s = refl
stop_free p f (x ∷ r) s = rw (f x s)

-- the stops are seven octets
stop_is : (p : ℕ → Bool) → p 0x20 ≡ false → p 0x09 ≡ false → p 0x0A ≡ false → p 0x0D ≡ false → p 0x2C ≡ false → p 0x5D ≡ false → p 0x7D ≡ false →
    (x : ℕ) → is_stop x ≡ true → p x ≡ false
stop_is p a b c d e f g x s =
    go (within 0x20 0x20 x) refl (within 0x09 0x09 x) refl (within 0x0A 0x0A x) refl (within 0x0D 0x0D x) refl
    (within 0x2C 0x2C x) refl (within 0x5D 0x5D x) refl (within 0x7D 0x7D x) refl s
  where
    go : (t1 : Bool) → within 0x20 0x20 x ≡ t1 → (t2 : Bool) → within 0x09 0x09 x ≡ t2 → (t3 : Bool) → within 0x0A 0x0A x ≡ t3 →
        (t4 : Bool) → within 0x0D 0x0D x ≡ t4 → (t5 : Bool) → within 0x2C 0x2C x ≡ t5 → (t6 : Bool) → within 0x5D 0x5D x ≡ t6 → (t7 : Bool) → within 0x7D 0x7D x ≡ t7 →
        either (either t1 (either t2 (either t3 t4))) (either t5 (either t6 t7)) ≡ true → p x ≡ false
    go true q1 t2 q2 t3 q3 t4 q4 t5 q5 t6 q6 t7 q7 o = only 0x20 p false a x q1
    go false q1 true q2 t3 q3 t4 q4 t5 q5 t6 q6 t7 q7 o = only 0x09 p false b x q2
    go false q1 false q2 true q3 t4 q4 t5 q5 t6 q6 t7 q7 o = only 0x0A p false c x q3
    go false q1 false q2 false q3 true q4 t5 q5 t6 q6 t7 q7 o = only 0x0D p false d x q4
    go false q1 false q2 false q3 false q4 true q5 t6 q6 t7 q7 o = only 0x2C p false e x q5
    go false q1 false q2 false q3 false q4 false q5 true q6 t7 q7 o = only 0x5D p false f x q6
    go false q1 false q2 false q3 false q4 false q5 false q6 true q7 o = only 0x7D p false g x q7
    go false q1 false q2 false q3 false q4 false q5 false q6 false q7 o = clash o refl

stop_free_of : (p : ℕ → Bool) → p 0x20 ≡ false → p 0x09 ≡ false → p 0x0A ≡ false → p 0x0D ≡ false → p 0x2C ≡ false → p 0x5D ≡ false → p 0x7D ≡ false →
    (r : List ℕ) → stops r ≡ true → free p r ≡ true
stop_free_of p a b c d e f g = stop_free p (stop_is p a b c d e f g)

-- what follows the int, and what follows the frac, goes on with no digit
free_exp : (p : ℕ → Bool) → p 0x65 ≡ false → p 0x45 ≡ false → {a : List ℕ} → Opt Grammar.Exp a → (r : List ℕ) → free p r ≡ true → free p (a ++ r) ≡ true
free_exp p f g absent r s = s
free_exp p f g (present (left (octet x e) ⨾ d)) r s = rw (only 0x65 p false f x e)
free_exp p f g (present (right (octet x e) ⨾ d)) r s = rw (only 0x45 p false g x e)

free_frac : {a : List ℕ} → Opt Grammar.Frac a → (r : List ℕ) → free is_digit r ≡ true → free is_digit (a ++ r) ≡ true
free_frac absent r s = s
free_frac (present (octet x e ⨾ d)) r s = rw (only 0x2E is_digit false refl x e)

minus_past : {a b : List ℕ} → Opt (Octet 0x2D 0x2D) a → Grammar.Int b → (r : List ℕ) → past is_minus (a ++ (b ++ r)) ≡ b ++ r
unfolding past
minus_past absent (left (octet x e)) r = rw (only 0x30 is_minus false refl x e)
minus_past absent (right (octet x e ⨾ d)) r = rw (apart_above 0x31 0x39 0x2D 0x2D x (lit< tt) e)
minus_past (present (octet y o)) i r = rw o

pub number_all : {a : List ℕ} → Grammar.Number a → (r : List ℕ) → stops r ≡ true → (y : ℕ) × (json_number (a ++ r) ≡ got y r)
unfolding json_number and_then
number_all (◌⨾◌ {a = m} m' (◌⨾◌ {a = i} i' (◌⨾◌ {a = f} {b = e} f' e'))) r s =
    let no_e : free is_e r ≡ true = stop_free_of is_e refl refl refl refl refl refl refl r s in
    let no_point : free is_point r ≡ true = stop_free_of is_point refl refl refl refl refl refl refl r s in
    let no_digit : free is_digit r ≡ true = stop_free_of is_digit refl refl refl refl refl refl refl r s in
    let point_after : free is_point (e ++ r) ≡ true = free_exp is_point refl refl e' r no_point in
    let digit_after : free is_digit (e ++ r) ≡ true = free_exp is_digit refl refl e' r no_digit in
    let (y1, h1) = int_all i' (f ++ (e ++ r)) (free_frac f' (e ++ r) digit_after) in
    let (y2, h2) = frac_all f' (e ++ r) point_after digit_after in
    let (y3, h3) = exp_all e' r no_e no_digit in
    let whole : (m ++ (i ++ (f ++ e))) ++ r ≡ m ++ (i ++ (f ++ (e ++ r))) = simp append_assoc in
    (y3, rw (whole, minus_past m' i' (f ++ (e ++ r)), h1, h2) h3)
