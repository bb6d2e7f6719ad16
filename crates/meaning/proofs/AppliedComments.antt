-- Comments that are applied, forward from a member and back from a comment. Assumes nothing.
use Rattle.std.specs.Prelude.{Option}
use mathlib.Core.Path.{◌≡◌, refl, sym, ◌∙◌, ap, subst}
use mathlib.Core.Bool.{Bool, true, false}
use mathlib.Core.List.{List, [], ◌∷◌}
use mathlib.Core.Logic.{◌↔◌, ◌⊎◌, inl, inr}
use Prim.Native.Nat.{ℕ}
use native.Mathlib.Omega.{arith}
use lib.ListN.{length}
use Rattle.ground.specs.Choice.{pick}
use Rattle.ground.specs.Look.{Look, known, unknown, is_known, or_look}
use Rattle.ground.proofs.Cases.{both_left, both_right, clash}
use Rattle.line.specs.declared.line.Line.{Line}
use Rattle.line.specs.declared.line.Line.TheVariants.{Blank, Comment, Class, Field, Method, Refused}
use Rattle.line.specs.Kinds.{line_of}
use Rattle.tables.specs.Check.{all_of}
use Rattle.load_rule.specs.declared.Fate.TheVariants as fate
use Rattle.load_rule.specs.Comments.{signature_at, residual_by, residual_in}
use Rattle.load_rule.specs.Fates.{fate_number, fate_of, member_after}
use Rattle.meaning.specs.Success.{
  is_between,
  is_member,
  signature_given,
  AppliedIn,
  applied_here,
  applied_further,
  LastApplied,
  last_here,
  last_further,
  member_behind,
  EndsWithMember,
}

-- What the comments of some lines give, told by what is applied.
abbrev Told : List (List ℕ) → Look → Type 0
Told ls (known v) = LastApplied true ls v
Told ls unknown = (v : List ℕ) → AppliedIn true ls v → ⊥

-- a comment behind a member that gives a signature is applied
gives_applied : (l : List ℕ) (brace : Option ℕ) {v : List ℕ} → signature_at l brace ≡ known v → fate_of true l (Comment brace) ≡ fate.Applied
gives_applied l brace e = rw e

-- one line more, between a member and what is applied
module _ (l : List ℕ) (ls : List (List ℕ)) where
  -- a line that gives nothing
  none_here : signature_given l (line_of l) ≡ unknown → ((v : List ℕ) → AppliedIn true ls v → ⊥) → (v : List ℕ) → AppliedIn true (l ∷ ls) v → ⊥
  none_here e none v (applied_here f g) = clash (ap is_known (sym e ∙ g)) refl
  none_here e none v (applied_further f a) = none v a

  -- a line behind which no comment can be applied
  stops_here : signature_given l (line_of l) ≡ unknown → is_between (line_of l) ≡ false → (v : List ℕ) → AppliedIn true (l ∷ ls) v → ⊥
  stops_here e b v (applied_here f g) = clash (ap is_known (sym e ∙ g)) refl
  stops_here e b v (applied_further f a) = clash f b

  blank_told : line_of l ≡ Blank → (k : Look) → Told ls k → Told (l ∷ ls) k
  blank_told q (known v) t = last_further {l = l} (rw q) t
  blank_told q unknown t = none_here (rw q) t

  comment_told : (brace : Option ℕ) → line_of l ≡ Comment brace → (k : Look) → Told ls k → (g : Look) → signature_at l brace ≡ g →
      Told (l ∷ ls) (or_look k g)
  comment_told brace q (known v) t g e = last_further {l = l} (rw q) t
  comment_told brace q unknown t (known v) e = last_here {l = l} {v = v} (rw q (gives_applied l brace e)) (rw q e) t
  comment_told brace q unknown t unknown e = none_here (rw q e) t

  line_told_lem : (k : Line) → line_of l ≡ k → Told ls (residual_in ls) → Told (l ∷ ls) (residual_by l k (residual_in ls))
  line_told_lem Blank q t = blank_told q (residual_in ls) t
  line_told_lem (Comment brace) q t = comment_told brace q (residual_in ls) t (signature_at l brace) refl
  line_told_lem (Class display raw) q t = stops_here (rw q) (rw q)
  line_told_lem (Field declared name raw) q t = stops_here (rw q) (rw q)
  line_told_lem (Method m raw) q t = stops_here (rw q) (rw q)
  line_told_lem (Refused r) q t = stops_here (rw q) (rw q)

none_in : {ls : List (List ℕ)} {v : List ℕ} → AppliedIn true ls v → length ls ≡ 0 → ⊥
none_in (applied_here f g) e = omega arith
none_in (applied_further f a) e = omega arith

told : (ls : List (List ℕ)) → Told ls (residual_in ls)
unfolding residual_in
told [] = λ v a. none_in a refl
told (l ∷ ls) = line_told_lem l ls (line_of l) refl (told ls)

-- what is applied last is what the comments give
last_is : {ls : List (List ℕ)} {v : List ℕ} → LastApplied true ls v → AppliedIn true ls v
last_is (last_here f g n) = applied_here f g
last_is (last_further f a) = applied_further f (last_is a)

unapplied_unknown : (ls : List (List ℕ)) → ((v : List ℕ) → AppliedIn true ls v → ⊥) → residual_in ls ≡ unknown
unapplied_unknown ls none = go (residual_in ls) (told ls)
  where
    go : (k : Look) → Told ls k → k ≡ unknown
    go (known v) t = absurd (none v (last_is t))
    go unknown t = refl

here_given : (l : List ℕ) (ls : List (List ℕ)) (k : Line) {v : List ℕ} → signature_given l k ≡ known v → residual_in ls ≡ unknown →
    residual_by l k (residual_in ls) ≡ known v
here_given l ls Blank e n = clash (ap is_known e) refl
here_given l ls (Comment brace) e n = rw (n, e)
here_given l ls (Class display raw) e n = clash (ap is_known e) refl
here_given l ls (Field declared name raw) e n = clash (ap is_known e) refl
here_given l ls (Method m raw) e n = clash (ap is_known e) refl
here_given l ls (Refused r) e n = clash (ap is_known e) refl

later_given : (l : List ℕ) (ls : List (List ℕ)) (k : Line) {v : List ℕ} → is_between k ≡ true → residual_in ls ≡ known v →
    residual_by l k (residual_in ls) ≡ known v
later_given l ls Blank b e = e
later_given l ls (Comment brace) b e = rw e
later_given l ls (Class display raw) b e = clash b refl
later_given l ls (Field declared name raw) b e = clash b refl
later_given l ls (Method m raw) b e = clash b refl
later_given l ls (Refused r) b e = clash b refl

last_given : {ls : List (List ℕ)} {v : List ℕ} → LastApplied true ls v → residual_in ls ≡ known v
unfolding residual_in
last_given (last_here {l = l} {ls = ls} f g none) = here_given l ls (line_of l) g (unapplied_unknown ls none)
last_given (last_further {l = l} {ls = ls} f a) = later_given l ls (line_of l) f (last_given a)

-- The lines behind a member give it the signature of the last comment that is applied, and one exactly where there is such a comment.
pub residual_iff : (ls : List (List ℕ)) (v : List ℕ) → (residual_in ls ≡ known v) ↔ LastApplied true ls v
residual_iff ls v = (λ e. subst (Told ls) e (told ls), last_given)

pub residual_none : (ls : List (List ℕ)) → (residual_in ls ≡ unknown) ↔ ((v : List ℕ) → AppliedIn true ls v → ⊥)
residual_none ls = (λ e. subst (Told ls) e (told ls), unapplied_unknown ls)

-- Back from a comment. Lines that are read, as those of an accepted load are.
abbrev pub is_read : Line → Bool
is_read Blank = true
is_read (Comment brace) = true
is_read (Class display raw) = true
is_read (Field declared name raw) = true
is_read (Method m raw) = true
is_read (Refused r) = false

abbrev Open : Bool → List (List ℕ) → Type 0
Open member before = ((member ≡ true) × (all_of (λ l. is_between (line_of l)) before ≡ true)) ⊎ EndsWithMember before

module _ (l : List ℕ) (ls : List (List ℕ)) where
  further : EndsWithMember ls → EndsWithMember (l ∷ ls)
  further e =
      record {
        front = l ∷ e.front;
        here = e.here;
        between = e.between;
        split = ap (λ x. l ∷ x) e.split;
        member = e.member;
        near = e.near;
      }

  ends_here : is_member (line_of l) ≡ true → all_of (λ x. is_between (line_of x)) ls ≡ true → EndsWithMember (l ∷ ls)
  ends_here m n = record { front = []; here = l; between = ls; split = refl; member = m; near = n }

  between_more : is_between (line_of l) ≡ true → all_of (λ x. is_between (line_of x)) ls ≡ true →
      all_of (λ x. is_between (line_of x)) (l ∷ ls) ≡ true
  unfolding all_of
  between_more b n = rw (b, n)

  line_open : (member : Bool) (k : Line) → line_of l ≡ k → is_read k ≡ true → Open (member_after member k) ls → Open member (l ∷ ls)
  line_open member k q r (inr e) = inr (further e)
  line_open member Blank q r (inl (m, n)) = inl (m, between_more (rw q) n)
  line_open member (Comment brace) q r (inl (m, n)) = inl (m, between_more (rw q) n)
  line_open member (Class display raw) q r (inl (m, n)) = clash m refl
  line_open member (Field declared name raw) q r (inl (m, n)) = inr (ends_here (rw q) n)
  line_open member (Method s raw) q r (inl (m, n)) = inr (ends_here (rw q) n)
  line_open member (Refused x) q r (inl (m, n)) = clash r refl

member_open : (member : Bool) (before : List (List ℕ)) → all_of (λ l. is_read (line_of l)) before ≡ true →
    member_behind member before ≡ true → Open member before
unfolding member_behind all_of
member_open member [] r e = inl (e, refl)
member_open member (l ∷ ls) r e =
    line_open l ls member (line_of l) refl (both_left (is_read (line_of l)) (all_of (λ x. is_read (line_of x)) ls) r)
    (member_open (member_after member (line_of l)) ls (both_right (is_read (line_of l)) (all_of (λ x. is_read (line_of x)) ls) r) e)

applied_member : (member : Bool) (l : List ℕ) (k : Line) → fate_of member l k ≡ fate.Applied → member ≡ true
applied_member true l k e = refl
applied_member false l Blank e = absurd (let z = ap fate_number e in omega arith)
applied_member false l (Comment brace) e = absurd (let z = ap fate_number e in omega arith)
applied_member false l (Class display raw) e = absurd (let z = ap fate_number e in omega arith)
applied_member false l (Field declared name raw) e = absurd (let z = ap fate_number e in omega arith)
applied_member false l (Method m raw) e = not_method m.short e
  where
    not_method : (b : Bool) → pick b fate.Short fate.Method ≡ fate.Applied → ◌≡◌ {A = Bool} false true
    not_method true f = absurd (let z = ap fate_number f in omega arith)
    not_method false f = absurd (let z = ap fate_number f in omega arith)
applied_member false l (Refused r) e = absurd (let z = ap fate_number e in omega arith)

-- A comment that is counted as applied has its member: the lines before it end with one, and blank lines and comments behind it.
pub applied_behind : (before : List (List ℕ)) (l : List ℕ) → all_of (λ x. is_read (line_of x)) before ≡ true →
    fate_of (member_behind false before) l (line_of l) ≡ fate.Applied → EndsWithMember before
applied_behind before l r e = go (member_open false before r (applied_member (member_behind false before) l (line_of l) e))
  where
    go : Open false before → EndsWithMember before
    go (inl (m, n)) = clash m refl
    go (inr k) = k
