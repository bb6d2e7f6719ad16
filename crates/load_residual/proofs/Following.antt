-- The lines behind a class line or a member line, one after the other. Assumes nothing.
use Rattle.std.specs.Prelude.{Option, Some, None}
use mathlib.Core.Path.{◌≡◌, refl, sym, ◌∙◌, ap}
use mathlib.Core.Bool.{Bool, true, false}
use mathlib.Core.List.{List, [], ◌∷◌}
use Prim.Native.Nat.{ℕ, ◌+◌, ◌-◌, ◌≤◌, ◌<◌}
use native.Mathlib.Omega.{arith}
use lib.ListN.{length, get_or, drop, length-drop}
use mir.Val.{Fits}
use mir.Syntax.{w32}
use borrow.Author.Rules.{rules}
use Rattle.ground.specs.Choice.{both}
use Rattle.ground.specs.Put.{between}
use Rattle.ground.specs.Look.{Look, known, unknown, is_known, or_look}
use Rattle.ground.proofs.Cases.{clash}
use Rattle.text_places.specs.Lines.{lines, Taken}
use Rattle.text_places.specs.Spans.{Lies}
use Rattle.text_places.specs.Inner.NextLine.{line_from, next_line, taken_line}
use Rattle.text_places.proofs.Taking.{end_taken, starts_there}
use Rattle.text_white.specs.Trim.{trim_start, trim_end}
use Rattle.line.specs.declared.line.Line.TheVariants as kinds
use Rattle.line.specs.Kinds.{line_of}
use Rattle.load_rule.specs.Comments.{signature_at, residual_by, residual_in}
use Rattle.load_rule.specs.Loading.{most_text}
use Rattle.load_residual.specs.declared.residual.Passed.{Passed}
use Rattle.load_residual.specs.declared.residual.Opening.{Opening}
use Rattle.load_residual.specs.declared.residual.Opening.TheVariants.{Blank, Comment, Other}
use Rattle.load_residual.specs.Inner.Residuals.{json_part, residual_look, is_given, Gives, heeded, hash_gives}
use Rattle.load_residual.specs.Inner.Openings.{BlankLine, HashLine, OpensBy}
use Rattle.load_residual.specs.Inner.Passes.{passed_of, Passes, none, blank, applied, idle, Looks}
use Rattle.load_residual.proofs.Giving.{given_looks}
use Rattle.load_residual.proofs.Local.{dark_cut, dark_ends}
use Rattle.load_residual.proofs.Opened.{brace_of, comment_is, comment_gives}
use Rattle.load_residual.proofs.Leading.{part_left, ink_length}
use Rattle.load_residual.proofs.Passing.{passes_few}
use Rattle.ground.proofs.Parts.{between_length, between_byte}
use Rattle.text_places.specs.declared.lines.NextLine.{NextLine}
use Rattle.load_residual.specs.declared.residual.Residual.{Residual}

or_unknown : (o : Look) → or_look o unknown ≡ o
or_unknown (known s) = refl
or_unknown unknown = refl

or_or : (a b c : Look) → or_look (or_look a b) c ≡ or_look a (or_look b c)
or_or (known s) b c = refl
or_or unknown b c = refl

heeded_unknown : (member : Bool) → heeded member unknown ≡ unknown
heeded_unknown true = refl
heeded_unknown false = refl

heeded_or : (member : Bool) (a b : Look) → heeded member (or_look a b) ≡ or_look (heeded member a) (heeded member b)
heeded_or true a b = refl
heeded_or false a b = refl

heeded_known : (member : Bool) (o : Look) → is_known (heeded member o) ≡ both member (is_known o)
heeded_known true o = refl
heeded_known false o = refl

-- a signature goes before another; where there is none, the other counts
not_given : (s : List ℕ) (r : Option Residual) → is_given r ≡ false → unknown ≡ residual_look s r
not_given s (Some r) y = clash refl y
not_given s None y = refl

given_first : (s : List ℕ) (r : Option Residual) (o : Look) → is_given r ≡ true → residual_look s r ≡ or_look (residual_look s r) o
given_first s (Some r) o y = refl
given_first s None o y = clash y refl

-- what was found in the lines that are passed, where what follows does not give another
pub record Following (member : Bool) (s : List ℕ) (found : Option Residual) (k : Passed) : Type 0 where
  pub decides : or_look (heeded member (residual_in (lines (drop k.bytes s)))) (residual_look s found) ≡ heeded member (residual_in (lines s))
  pub lies : Lies (json_part found) (length s)
  pub passes : Passes member s k

pub follow_starts : (member : Bool) (s : List ℕ) {k : Passed} → k ≡ passed_of 0 0 0 0 → Following member s None k
follow_starts member s e = rw e (record { decides = or_unknown (heeded member (residual_in (lines s))); lies = record { order = omega arith; within = omega arith }; passes = none })

no_line : (at : ℕ) (l : List ℕ) → 0 < length l → line_from at l ≡ None → ⊥
no_line at [] h e = omega arith
no_line at (b ∷ l) h e = let z : ◌≡◌ {A = ℕ} 0 1 = cc in omega arith

module _ {member : Bool} {s : List ℕ} {found : Option Residual} {k : Passed} (f : Following member s found k) where
  ended : residual_in (lines (drop k.bytes s)) ≡ unknown → Looks member s (record { residual = found; passed = k })
  ended e = record { gives = record { look = rw (e, heeded_unknown member) at f.decides; lies = f.lies }; passes = f.passes }

  pub follow_ends : length s ≤ k.bytes → Looks member s (record { residual = found; passed = k })
  unfolding residual_in
  follow_ends h = ended (ap residual_in (end_taken s k.bytes h))

  module _ (short : length s ≤ most_text) (h : k.bytes < length s) where
    few : k.blank + k.applied + k.idle < most_text
    few = let p = passes_few member s k f.passes in omega arith

    pub follow_blanks : Fits w32 (k.blank + 1)
    follow_blanks = let n = few in omega arith

    pub follow_applied : Fits w32 (k.applied + 1)
    follow_applied = let n = few in omega arith

    pub follow_idle : Fits w32 (k.idle + 1)
    follow_idle = let n = few in omega arith

  module _ (o : Opening) (g : OpensBy o s k.bytes) where
    pub follow_other : o ≡ Other → Looks member s (record { residual = found; passed = k })
    follow_other e = ended (rw e at g)

    module _ {n : ℕ} (e : o ≡ Blank n) where
      it : BlankLine s k.bytes n
      it = rw e at g

      pub blank_falls : k.bytes < length s → length s - n < length s - k.bytes
      blank_falls h = let t = it.taken in omega (arith, t.past, t.inside)

      pub follow_blank : Following member s found (passed_of n (k.blank + 1) k.applied k.idle)
      unfolding residual_in
      follow_blank = record {
        decides =
            ap (λ x. or_look (heeded member x) (residual_look s found))
            (sym (ap residual_in it.taken.split ∙ ap (λ y. residual_by (between s k.bytes it.«end») y (residual_in (lines (drop n s)))) it.is))
            ∙ f.decides;
        lies = f.lies;
        passes = blank k k.bytes it.«end» n f.passes it.taken it.is;
      }

    module _ {hash : ℕ} (e : o ≡ Comment hash) where
      at_hash : HashLine s k.bytes hash
      at_hash = rw e at g

      module _ {t : Option NextLine} (p : t ≡ next_line s hash) where
        pub follow_none : t ≡ None → Looks member s (record { residual = found; passed = k })
        follow_none q = absurd (no_line hash (drop hash s) (omega (arith, length-drop hash s, at_hash.inside)) (sym p ∙ q))

        module _ {v : NextLine} (q : t ≡ Some v) where
          from_hash : next_line s hash ≡ Some (taken_line hash v.«end» v.next)
          from_hash = let w = starts_there hash (drop hash s) (sym p ∙ q) in sym p ∙ q ∙ ap (λ b. Some (taken_line b v.«end» v.next)) (sym w)

          taken : Taken s k.bytes k.bytes v.«end» v.next
          taken = at_hash.takes v.«end» v.next from_hash

          pub hash_order : hash ≤ v.«end»
          hash_order = let h = at_hash.past v.«end» v.next from_hash in omega arith

          pub hash_inside : v.«end» ≤ length s
          hash_inside = taken.ends

          pub comment_falls : k.bytes < length s → length s - v.next < length s - k.bytes
          comment_falls h = omega (arith, taken.past, taken.inside)

          abbrev line : List ℕ
          line = between s k.bytes v.«end»

          trims : trim_start line ≡ hash - k.bytes
          trims = at_hash.trims v.«end» (at_hash.past v.«end» v.next from_hash) taken.ends

          shorter : trim_start line < length line
          shorter =
              let h = at_hash.past v.«end» v.next from_hash in
              let o₁ = at_hash.goes in
              let l = between_length s k.bytes v.«end» taken.ends in
              let w = trims in
              omega arith

          left : drop (trim_start line) line ≡ between s hash v.«end»
          left = ap (λ j. drop j line) trims ∙ part_left s k.bytes v.«end» hash at_hash.goes hash_order

          stands : get_or line (trim_start line) 0 ≡ 0x23
          stands = ap (λ j. get_or line j 0) trims ∙ between_byte s k.bytes v.«end» hash at_hash.goes (at_hash.past v.«end» v.next from_hash) ∙ at_hash.stands

          kept : 0 < trim_end (drop (trim_start line) line)
          kept =
              let i = at_hash.inside in
              let h = at_hash.past v.«end» v.next from_hash in
              let b = at_hash.stands in
              let dark = ink_length s hash i (omega arith) (omega arith) in
              rw left (dark_ends (between s hash v.«end») (dark_cut (drop hash s) (v.«end» - hash) dark) (omega (arith, between_length s hash v.«end» hash_inside)))

          brace : Option ℕ
          brace = brace_of line shorter kept stands

          is : line_of line ≡ kinds.Comment brace
          unfolding brace
          is = comment_is line shorter kept stands

          says : signature_at line brace ≡ hash_gives (between s hash v.«end»)
          unfolding brace
          says = comment_gives line shorter kept stands ∙ ap hash_gives left

          step : heeded member (residual_in (lines (drop k.bytes s))) ≡ or_look (heeded member (residual_in (lines (drop v.next s)))) (heeded member (hash_gives (between s hash v.«end»)))
          unfolding residual_in
          step =
              ap (heeded member) (ap residual_in taken.split ∙ ap (λ y. residual_by line y (residual_in (lines (drop v.next s)))) is)
              ∙ heeded_or member (residual_in (lines (drop v.next s))) (signature_at line brace) ∙ ap (λ y. or_look (heeded member (residual_in (lines (drop v.next s)))) (heeded member y)) says

          more : (r : Option Residual) → residual_look s r ≡ or_look (heeded member (hash_gives (between s hash v.«end»))) (residual_look s found) →
              or_look (heeded member (residual_in (lines (drop v.next s)))) (residual_look s r) ≡ heeded member (residual_in (lines s))
          more r y =
              ap (or_look (heeded member (residual_in (lines (drop v.next s))))) y
              ∙ sym (or_or (heeded member (residual_in (lines (drop v.next s)))) (heeded member (hash_gives (between s hash v.«end»))) (residual_look s found))
              ∙ ap (λ x. or_look x (residual_look s found)) (sym step) ∙ f.decides

          counts : {r : Option Residual} → Gives s r (heeded member (hash_gives (between s hash v.«end»))) → both member (is_known (signature_at line brace)) ≡ is_known (residual_look s r)
          counts w = sym (heeded_known member (signature_at line brace)) ∙ ap (λ y. is_known (heeded member y)) says ∙ sym (ap is_known w.look)

          module _ (r : Option Residual) (w : Gives s r (heeded member (hash_gives (between s hash v.«end»)))) {b : Bool} (h : b ≡ is_given r) where
            counted : both member (is_known (signature_at line brace)) ≡ b
            counted = counts w ∙ sym (given_looks s r) ∙ sym h

            pub follow_idled : b ≡ false → Following member s found (passed_of v.next k.blank k.applied (k.idle + 1))
            follow_idled y = record {
              decides = more found (ap (λ x. or_look x (residual_look s found)) (not_given s r (sym h ∙ y) ∙ w.look));
              lies = f.lies;
              passes = idle k k.bytes v.«end» v.next brace f.passes taken is (counted ∙ y);
            }

            pub follow_gave : b ≡ true → Following member s r (passed_of v.next k.blank (k.applied + 1) k.idle)
            follow_gave y = record {
              decides = more r (given_first s r (residual_look s found) (sym h ∙ y) ∙ ap (λ x. or_look x (residual_look s found)) w.look);
              lies = w.lies;
              passes = applied k k.bytes v.«end» v.next brace f.passes taken is (counted ∙ y);
            }

pub ruleset following = (
  follow_starts,
  follow_ends,
  follow_blanks,
  follow_applied,
  follow_idle,
  follow_other,
  blank_falls,
  follow_blank,
  follow_none,
  hash_order,
  hash_inside,
  comment_falls,
  follow_idled,
  follow_gave,
  rules,
)
