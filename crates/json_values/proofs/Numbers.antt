-- Numbers, by places. Assumes nothing.
use Rattle.std.specs.Prelude.{Option, Some, None}
use mathlib.Core.Path.{◌≡◌, refl, sym, ◌∙◌, ap}
use mathlib.Core.Bool.{Bool, true, false}
use mathlib.Core.List.{List}
use mathlib.Core.Logic.{◌⊎◌, inl, inr}
use Prim.Native.Nat.{ℕ, suc, ◌+◌, ◌≤◌, ◌<◌}
use native.Mathlib.Numerals.{add-one}
use native.Mathlib.Omega.{arith}
use lib.ListN.{length, get_or, drop, drop_of_length-le}
use lib.Seq.{drop-cons}
use borrow.Author.Rules.{rules}
use Rattle.ground.specs.Choice.{pick, within}
use Rattle.ground.proofs.Cases.{within_yes, within_low, within_high, le_or_lt}
use Rattle.ground.proofs.Parts.{drop_here}
use Rattle.json_grammar.specs.Reader.{Out, got, bad, and_then, is_digit, past_digits, is_sign, is_minus, is_e, past, optional, digits, int, frac, exp, json_number}
use Rattle.json_string.specs.Inner.Means.{Reached, Means}
use Rattle.json_values.specs.Inner.Runs.{Past, PastOne}
use Rattle.json_values.proofs.Spaces.{passing_starts, passing_ends, passing_stops, passing_more, apart}

-- What an answer means, case by case.
pub means_next : {A : Type 0} (s : List ℕ) (o : Out A) (t : Option ℕ) {n : ℕ} → Means s t o → t ≡ Some n → Reached s n o
means_next s o t {n} m e = rw e at m

pub means_unread : {A : Type 0} (s : List ℕ) (o : Out A) (t : Option ℕ) → Means s t o → t ≡ None → o ≡ bad
means_unread s o t m e = rw e at m

-- an answer about a reader that is the other
pub means_as : {A : Type 0} (s : List ℕ) (o : Out A) (p : Out A) (t : Option ℕ) → p ≡ o → Means s t o → Means s t p
means_as s o p t e m = rw e m

-- Digits.
module _ (s : List ℕ) (at : ℕ) (h : at < length s) where
  pub digit_low : get_or s at 0 < 0x30 → is_digit (get_or s at 0) ≡ false
  digit_low b = within_low 0x30 0x39 (get_or s at 0) b

  pub digit_high : 0x39 < get_or s at 0 → is_digit (get_or s at 0) ≡ false
  digit_high b = within_high 0x30 0x39 (get_or s at 0) b

  pub digit_here : 0x30 ≤ get_or s at 0 → get_or s at 0 ≤ 0x39 → is_digit (get_or s at 0) ≡ true
  digit_here l u = within_yes 0x30 0x39 (get_or s at 0) l u

pub ruleset passing_digits = (passing_starts, passing_ends, passing_stops, passing_more, digit_low, digit_high, digit_here, rules)

pub digits_end : (s : List ℕ) (at : ℕ) → length s ≤ at → digits (drop at s) ≡ bad
unfolding digits and_then
digits_end s at h = rw (drop_of_length-le s h)

pub int_end : (s : List ℕ) (at : ℕ) → length s ≤ at → int (drop at s) ≡ bad
unfolding int
int_end s at h = rw (drop_of_length-le s h)

module _ (s : List ℕ) (at : ℕ) (h : at < length s) where
  pub digits_low : get_or s at 0 < 0x30 → digits (drop at s) ≡ bad
  unfolding digits and_then
  digits_low b = rw (drop-cons s at 0 h, within_low 0x30 0x39 (get_or s at 0) b)

  pub digits_high : 0x39 < get_or s at 0 → digits (drop at s) ≡ bad
  unfolding digits and_then
  digits_high b = rw (drop-cons s at 0 h, within_high 0x30 0x39 (get_or s at 0) b)

  pub next_inside : at + 1 ≤ length s
  next_inside = omega arith

  pub digits_reached : 0x30 ≤ get_or s at 0 → get_or s at 0 ≤ 0x39 → {r : ℕ} → Past is_digit s (at + 1) r → Reached s r (digits (drop at s))
  unfolding digits and_then
  digits_reached l u q = record {
    inside = q.inside;
    value = get_or s at 0;
    reads = rw (drop-cons s at 0 h, within_yes 0x30 0x39 (get_or s at 0) l u, ← add-one, q.rest);
  }

  pub int_zero : get_or s at 0 ≡ 0x30 → Reached s (at + 1) (int (drop at s))
  unfolding int
  int_zero e = record {
    inside = omega arith;
    value = get_or s at 0;
    reads = rw (drop-cons s at 0 h, within_yes 0x30 0x30 (get_or s at 0) (omega arith) (omega arith), add-one);
  }

  -- where no zero stands, any digit is one of the nine others
  module _ (n : get_or s at 0 ≡ 0x30 → ⊥) where
    no_zero : within 0x31 0x39 (get_or s at 0) ≡ within 0x30 0x39 (get_or s at 0)
    no_zero = go (le_or_lt 0x30 (get_or s at 0)) (le_or_lt (get_or s at 0) 0x39)
      where
        go : (0x30 ≤ get_or s at 0) ⊎ (get_or s at 0 < 0x30) → (get_or s at 0 ≤ 0x39) ⊎ (0x39 < get_or s at 0) → within 0x31 0x39 (get_or s at 0) ≡ within 0x30 0x39 (get_or s at 0)
        go (inl l) (inl u) = within_yes 0x31 0x39 (get_or s at 0) (omega arith) u ∙ sym (within_yes 0x30 0x39 (get_or s at 0) l u)
        go (inl l) (inr u) = within_high 0x31 0x39 (get_or s at 0) u ∙ sym (within_high 0x30 0x39 (get_or s at 0) u)
        go (inr l) o = within_low 0x31 0x39 (get_or s at 0) (omega arith) ∙ sym (within_low 0x30 0x39 (get_or s at 0) l)

    int_digits : int (drop at s) ≡ digits (drop at s)
    unfolding int digits and_then
    int_digits = rw (drop-cons s at 0 h, apart 0x30 (get_or s at 0) n, no_zero) (go (within 0x30 0x39 (get_or s at 0)))
      where
        go : (b : Bool) → pick b (got (get_or s at 0) (past_digits (drop (suc at) s))) bad ≡ and_then (pick b (got (get_or s at 0) (drop (suc at) s)) bad) (λ x r. got x (past_digits r))
        go true = refl
        go false = refl

    pub int_other : (r : Option ℕ) → Means s r (digits (drop at s)) → Means s r (int (drop at s))
    int_other r m = means_as s (digits (drop at s)) (int (drop at s)) r int_digits m

pub ruleset digit_reading = (digits_end, digits_low, digits_high, next_inside, digits_reached, int_end, int_zero, int_other, rules)

-- Options.
module _ (s : List ℕ) (at : ℕ) where
  pub frac_end : at ≤ length s → length s ≤ at → Reached s at (frac (drop at s))
  unfolding optional
  frac_end i h = record { inside = i; value = 0; reads = rw (drop_of_length-le s h) }

  pub exp_end : at ≤ length s → length s ≤ at → Reached s at (exp (drop at s))
  unfolding optional
  exp_end i h = record { inside = i; value = 0; reads = rw (drop_of_length-le s h) }

  module _ (h : at < length s) where
    pub frac_other : (get_or s at 0 ≡ 0x2E → ⊥) → Reached s at (frac (drop at s))
    unfolding optional
    frac_other n = record { inside = omega arith; value = 0; reads = rw (drop_here s at h, apart 0x2E (get_or s at 0) n) }

    pub frac_goes : get_or s at 0 ≡ 0x2E → (r : Option ℕ) → Means s r (digits (drop (at + 1) s)) → Means s r (frac (drop at s))
    unfolding optional
    frac_goes e r m =
        means_as s (digits (drop (at + 1) s)) (frac (drop at s)) r (rw (drop_here s at h, within_yes 0x2E 0x2E (get_or s at 0) (omega arith) (omega arith))) m

    pub exp_other : (get_or s at 0 ≡ 0x65 → ⊥) → (get_or s at 0 ≡ 0x45 → ⊥) → Reached s at (exp (drop at s))
    unfolding optional
    exp_other n m = record { inside = omega arith; value = 0; reads = rw (drop_here s at h, apart 0x65 (get_or s at 0) n, apart 0x45 (get_or s at 0) m) }

    e_goes : is_e (get_or s at 0) ≡ true → (p : ℕ) (r : Option ℕ) → PastOne is_sign s (at + 1) p → Means s r (digits (drop p s)) → Means s r (exp (drop at s))
    unfolding optional
    e_goes e p r q m = means_as s (digits (drop p s)) (exp (drop at s)) r (rw (drop_here s at h, e, q.rest)) m

    pub exp_small : get_or s at 0 ≡ 0x65 → (p : ℕ) (r : Option ℕ) → PastOne is_sign s (at + 1) p → Means s r (digits (drop p s)) → Means s r (exp (drop at s))
    exp_small e = e_goes (ap is_e e)

    pub exp_large : get_or s at 0 ≡ 0x45 → (p : ℕ) (r : Option ℕ) → PastOne is_sign s (at + 1) p → Means s r (digits (drop p s)) → Means s r (exp (drop at s))
    exp_large e = e_goes (ap is_e e)

  -- a sign, or none
  pub sign_end : (p : ℕ → Bool) → at ≤ length s → length s ≤ at → PastOne p s at at
  unfolding past
  sign_end p i h = record { inside = i; rest = rw (drop_of_length-le s h) }

  module _ (h : at < length s) where
    pub sign_minus : get_or s at 0 ≡ 0x2D → PastOne is_sign s at (at + 1)
    unfolding past
    sign_minus e = record { inside = omega arith; rest = rw (drop_here s at h, ap is_sign e) }

    pub sign_plus : get_or s at 0 ≡ 0x2B → PastOne is_sign s at (at + 1)
    unfolding past
    sign_plus e = record { inside = omega arith; rest = rw (drop_here s at h, ap is_sign e) }

    pub sign_none : (get_or s at 0 ≡ 0x2D → ⊥) → (get_or s at 0 ≡ 0x2B → ⊥) → PastOne is_sign s at at
    unfolding past
    sign_none n m = record { inside = omega arith; rest = rw (drop_here s at h, apart 0x2D (get_or s at 0) n, apart 0x2B (get_or s at 0) m) }

    pub minus_here : get_or s at 0 ≡ 0x2D → PastOne is_minus s at (at + 1)
    unfolding past
    minus_here e = record { inside = omega arith; rest = rw (drop_here s at h, ap is_minus e) }

    pub minus_none : (get_or s at 0 ≡ 0x2D → ⊥) → PastOne is_minus s at at
    unfolding past
    minus_none n = record { inside = omega arith; rest = rw (drop_here s at h, apart 0x2D (get_or s at 0) n) }

pub one_inside : (p : ℕ → Bool) (s : List ℕ) (start r : ℕ) → PastOne p s start r → r ≤ length s
one_inside p s start r q = q.inside

pub ruleset options =
    (frac_end, exp_end, frac_other, frac_goes, exp_other, exp_small, exp_large, sign_end, sign_minus, sign_plus, sign_none, minus_here, minus_none, next_inside, one_inside, rules)

-- A number.
module _ (s : List ℕ) (at p : ℕ) (q : PastOne is_minus s at p) (t : Option ℕ) (i : Means s t (int (drop p s))) where
  pub number_no_int : t ≡ None → json_number (drop at s) ≡ bad
  unfolding json_number and_then
  number_no_int e = rw (q.rest, means_unread s (int (drop p s)) t i e)

  module _ {whole : ℕ} (e : t ≡ Some whole) where
    pub whole_inside : whole ≤ length s
    whole_inside = (means_next s (int (drop p s)) t i e).inside

    module _ (u : Option ℕ) (f : Means s u (frac (drop whole s))) where
      first : json_number (drop at s) ≡ and_then (frac (drop whole s)) (λ y r. exp r)
      unfolding json_number and_then
      first = rw (q.rest, (means_next s (int (drop p s)) t i e).reads)

      pub number_no_frac : u ≡ None → json_number (drop at s) ≡ bad
      unfolding and_then
      number_no_frac g = first ∙ rw (means_unread s (frac (drop whole s)) u f g)

      module _ {fraction : ℕ} (g : u ≡ Some fraction) where
        pub fraction_inside : fraction ≤ length s
        fraction_inside = (means_next s (frac (drop whole s)) u f g).inside

        pub number_means : (r : Option ℕ) → Means s r (exp (drop fraction s)) → Means s r (json_number (drop at s))
        unfolding and_then
        number_means r m = means_as s (exp (drop fraction s)) (json_number (drop at s)) r (first ∙ rw (means_next s (frac (drop whole s)) u f g).reads) m

pub ruleset numbering = (number_no_int, whole_inside, number_no_frac, fraction_inside, number_means, one_inside, rules)
