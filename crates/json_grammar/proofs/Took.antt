-- Sound: what the reader takes is what the grammar has. Assumes nothing.
use mathlib.Core.Path.{◌≡◌, refl, sym, ◌∙◌, ap}
use mathlib.Core.Bool.{Bool, true, false}
use mathlib.Core.List.{List, [], ◌∷◌, ◌++◌, append_assoc}
use Prim.Native.Nat.{ℕ}
use native.Mathlib.Omega.{arith}
use Rattle.ground.specs.Abnf.{Octet, ◌⊹◌, ◌∣◌, Opt, Star, octet, ◌⨾◌, left, right, absent, present, none, more}
use Rattle.ground.specs.Choice.{pick, either, within}
use Rattle.ground.proofs.Cases.{clash, within_yes, within_both}
use Rattle.json_grammar.specs.Grammar
use Rattle.json_grammar.specs.Reader.{past_all, Out, got, bad, and_then, is_ws, skip, one_of, structural, is_digit, past_digits, digits, optional, int, is_minus, is_sign, past, is_point, is_e, frac, json_number}

-- a part of a kind at the head, and what is left
pub record Took (A : List ℕ → Type 0) (s r : List ℕ) : Type 0 where
  pub part : List ℕ
  pub cut : s ≡ part ++ r
  pub is : A part

pub took_as : {A B : List ℕ → Type 0} {s r : List ℕ} → ((a : List ℕ) → A a → B a) → Took A s r → Took B s r
took_as f t = record { part = t.part; cut = t.cut; is = f t.part t.is }

pub took_to : {A : List ℕ → Type 0} {s r q : List ℕ} → r ≡ q → Took A s r → Took A s q
took_to e t = rw e at t

pub took_cat : {A B : List ℕ → Type 0} {s m r : List ℕ} → Took A s m → Took B m r → Took (A ⊹ B) s r
took_cat {s = s} {r = r} t u = record {
  part = t.part ++ u.part;
  cut = t.cut ∙ ap (λ x. t.part ++ x) u.cut ∙ sym (append_assoc t.part u.part r);
  is = t.is ⨾ u.is;
}

-- Taking results apart.
pub record Then {A B : Type 0} (o : Out A) (k : A → List ℕ → Out B) (y : B) (r : List ℕ) : Type 0 where
  pub first : A
  pub left_over : List ℕ
  pub reads : o ≡ got first left_over
  pub goes : k first left_over ≡ got y r

pub and_got : {A B : Type 0} (o : Out A) {k : A → List ℕ → Out B} {y : B} {r : List ℕ} → and_then o k ≡ got y r → Then o k y r
unfolding and_then
and_got (got x m) e = record { first = x; left_over = m; reads = refl; goes = e }
and_got bad e = absurd (let z : ◌≡◌ {A = ℕ} 0 1 = cc in omega arith)

pub same_rest : {A : Type 0} {x y : A} {r q : List ℕ} → got x r ≡ got y q → r ≡ q
same_rest e = cc

pub same_value : {A : Type 0} {x y : A} {r q : List ℕ} → got x r ≡ got y q → x ≡ y
same_value e = cc

pub never_bad : {A : Type 0} {B : Type 0} {x : A} {r : List ℕ} → bad ≡ got x r → B
never_bad e = absurd (let z : ◌≡◌ {A = ℕ} 0 1 = cc in omega arith)

-- Section 2.
ws_octet : (x : ℕ) → is_ws x ≡ true → (Octet 0x20 0x20 ∣ Octet 0x09 0x09 ∣ Octet 0x0A 0x0A ∣ Octet 0x0D 0x0D) (x ∷ [])
ws_octet x e = go (within 0x20 0x20 x) refl (within 0x09 0x09 x) refl (within 0x0A 0x0A x) refl (within 0x0D 0x0D x) refl e
  where
    go : (a : Bool) → within 0x20 0x20 x ≡ a → (b : Bool) → within 0x09 0x09 x ≡ b → (c : Bool) → within 0x0A 0x0A x ≡ c → (d : Bool) → within 0x0D 0x0D x ≡ d →
        either a (either b (either c d)) ≡ true → (Octet 0x20 0x20 ∣ Octet 0x09 0x09 ∣ Octet 0x0A 0x0A ∣ Octet 0x0D 0x0D) (x ∷ [])
    go true p b q c r d o f = left (octet x p)
    go false p true q c r d o f = right (left (octet x q))
    go false p false q true r d o f = right (right (left (octet x r)))
    go false p false q false r true o f = right (right (right (octet x o)))
    go false p false q false r false o f = clash f refl

star_more : {A : List ℕ → Type 0} {x : ℕ} {s r : List ℕ} → A (x ∷ []) → Took (Star A) s r → Took (Star A) (x ∷ s) r
star_more {x = x} a t = record { part = x ∷ t.part; cut = ap (λ l. x ∷ l) t.cut; is = more a t.is }

-- octets of one kind, as many as there are
all_took : (A : List ℕ → Type 0) (p : ℕ → Bool) → ((x : ℕ) → p x ≡ true → A (x ∷ [])) → (s : List ℕ) → Took (Star A) s (past_all p s)
unfolding past_all
all_took A p f [] = record { part = []; cut = refl; is = none }
all_took A p f (x ∷ s) = go (p x) refl (all_took A p f s)
  where
    go : (b : Bool) → p x ≡ b → Took (Star A) s (past_all p s) → Took (Star A) (x ∷ s) (pick b (past_all p s) (x ∷ s))
    go true e t = star_more (f x e) t
    go false e t = record { part = []; cut = refl; is = none }

pub skip_took : (s : List ℕ) → Took Grammar.Ws s (skip s)
skip_took = all_took (Octet 0x20 0x20 ∣ Octet 0x09 0x09 ∣ Octet 0x0A 0x0A ∣ Octet 0x0D 0x0D) is_ws ws_octet

one_took : (p : ℕ → Bool) (s : List ℕ) {x : ℕ} {r : List ℕ} → one_of p s ≡ got x r → (s ≡ x ∷ r) × (p x ≡ true)
one_took p [] e = never_bad e
one_took p (y ∷ s) {x} {r} e = go (p y) refl e
  where
    go : (b : Bool) → p y ≡ b → pick b (got y s) bad ≡ got x r → (y ∷ s ≡ x ∷ r) × (p x ≡ true)
    go true q f = (cc, rw (← same_value f) q)
    go false q f = never_bad f

octet_took : (low high : ℕ) (s : List ℕ) {x : ℕ} {r : List ℕ} → one_of (within low high) s ≡ got x r → Took (Octet low high) s r
octet_took low high s {x} e = let (c, p) = one_took (within low high) s e in record { part = x ∷ []; cut = c; is = octet x p }

pub structural_took : (x : ℕ) (s : List ℕ) {y : ℕ} {r : List ℕ} → structural x s ≡ got y r → Took (Grammar.Structural x) s r
unfolding structural
structural_took x s e =
    let t = and_got (one_of (within x x) (skip s)) e in
    took_cat (skip_took s) (took_cat (octet_took x x (skip s) t.reads) (took_to (same_rest t.goes) (skip_took t.left_over)))

-- Section 6.
past_digits_took : (s : List ℕ) → Took (Star Grammar.Digit) s (past_digits s)
past_digits_took = all_took Grammar.Digit is_digit octet

digits_took : (s : List ℕ) {y : ℕ} {r : List ℕ} → digits s ≡ got y r → Took (Grammar.Digit ⊹ Star Grammar.Digit) s r
unfolding digits
digits_took s e =
    let t = and_got (one_of is_digit s) e in
    took_cat (octet_took 0x30 0x39 s t.reads) (took_to (same_rest t.goes) (past_digits_took t.left_over))

took_here : {A : List ℕ → Type 0} {x : ℕ} {s : List ℕ} → A (x ∷ []) → Took A (x ∷ s) s
took_here {x = x} a = record { part = x ∷ []; cut = refl; is = a }

took_nothing : {A : List ℕ → Type 0} {s : List ℕ} → A [] → Took A s s
took_nothing a = record { part = []; cut = refl; is = a }

int_took : (s : List ℕ) {y : ℕ} {r : List ℕ} → int s ≡ got y r → Took Grammar.Int s r
unfolding int
int_took [] e = never_bad e
int_took (x ∷ s) {y} {r} e = go (within 0x30 0x30 x) refl (within 0x31 0x39 x) refl e
  where
    go : (a : Bool) → within 0x30 0x30 x ≡ a → (b : Bool) → within 0x31 0x39 x ≡ b →
        pick a (got x s) (pick b (got x (past_digits s)) bad) ≡ got y r → Took Grammar.Int (x ∷ s) r
    go true p b q f = took_to (same_rest f) (took_here (left (octet x p)))
    go false p true q f =
        let w = within_both 0x31 0x39 x q in
        took_as (λ a i. right i) (took_cat (took_here (octet x (within_yes _ _ x (omega arith) (omega arith)))) (took_to (same_rest f) (past_digits_took s)))
    go false p false q f = never_bad f

past_took : (A : List ℕ → Type 0) (p : ℕ → Bool) (s : List ℕ) → ((x : ℕ) → p x ≡ true → A (x ∷ [])) → Took (Opt A) s (past p s)
unfolding past
past_took A p [] f = took_nothing absent
past_took A p (x ∷ s) f = go (p x) refl
  where
    go : (b : Bool) → p x ≡ b → Took (Opt A) (x ∷ s) (pick b s (x ∷ s))
    go true e = took_here (present (f x e))
    go false e = took_nothing absent

optional_took :
    (A B : List ℕ → Type 0) (p : ℕ → Bool) (k : List ℕ → Out ℕ) (s : List ℕ) {y : ℕ} {r : List ℕ} → ((x : ℕ) → p x ≡ true → A (x ∷ [])) →
    ((t : List ℕ) (z : ℕ) (q : List ℕ) → k t ≡ got z q → Took B t q) → optional p k s ≡ got y r → Took (Opt (A ⊹ B)) s r
unfolding optional
optional_took A B p k [] f g e = took_to (same_rest e) (took_nothing absent)
optional_took A B p k (x ∷ s) {y} {r} f g e = go (p x) refl e
  where
    go : (b : Bool) → p x ≡ b → pick b (k s) (got 0 (x ∷ s)) ≡ got y r → Took (Opt (A ⊹ B)) (x ∷ s) r
    go true q h = took_as (λ a i. present i) (took_cat (took_here (f x q)) (g s y r h))
    go false q h = took_to (same_rest h) (took_nothing absent)

either_octet : (a b x : ℕ) → either (within a a x) (within b b x) ≡ true → (Octet a a ∣ Octet b b) (x ∷ [])
either_octet a b x e = go (within a a x) refl e
  where
    go : (t : Bool) → within a a x ≡ t → either t (within b b x) ≡ true → (Octet a a ∣ Octet b b) (x ∷ [])
    go true p f = left (octet x p)
    go false p f = right (octet x f)

exp_digits : (t : List ℕ) (z : ℕ) (q : List ℕ) → digits (past is_sign t) ≡ got z q → Took (Opt (Octet 0x2D 0x2D ∣ Octet 0x2B 0x2B) ⊹ Grammar.Digit ⊹ Star Grammar.Digit) t q
exp_digits t z q e =
    took_cat (past_took (Octet 0x2D 0x2D ∣ Octet 0x2B 0x2B) is_sign t (either_octet 0x2D 0x2B)) (digits_took (past is_sign t) e)

pub number_took : (s : List ℕ) {y : ℕ} {r : List ℕ} → json_number s ≡ got y r → Took Grammar.Number s r
unfolding json_number
number_took s e =
    let t = and_got (int (past is_minus s)) e in
    let u = and_got (frac t.left_over) t.goes in
    took_cat (past_took (Octet 0x2D 0x2D) is_minus s (λ x p. octet x p))
    (took_cat (int_took (past is_minus s) t.reads)
    (took_cat
    (optional_took (Octet 0x2E 0x2E) (Grammar.Digit ⊹ Star Grammar.Digit) is_point digits t.left_over (λ x p. octet x p) (λ a z q. digits_took a) u.reads)
    (optional_took (Octet 0x65 0x65 ∣ Octet 0x45 0x45) (Opt (Octet 0x2D 0x2D ∣ Octet 0x2B 0x2B) ⊹ Grammar.Digit ⊹ Star Grammar.Digit)
    is_e (λ a. digits (past is_sign a)) u.left_over (either_octet 0x65 0x45) exp_digits u.goes)))
