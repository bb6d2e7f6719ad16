-- What becomes of a token, by its plan and by the rule. Assumes nothing.
use Rattle.std.specs.Prelude.{Option, Some, None}
use mathlib.Core.Path.{◌≡◌, refl, sym, ◌∙◌, ap}
use mathlib.Core.Bool.{Bool, true, false}
use mathlib.Core.List.{List, []}
use Prim.Native.Nat.{ℕ, zero, suc, ◌+◌, ◌*◌, ◌≤◌, ◌<◌}
use native.Mathlib.Omega.{arith}
use lib.Dec.{eqb}
use lib.ListN.{length, get_or}
use borrow.Author.Tests.{eqb-true, eqb-false}
use Rattle.ground.specs.Choice.{pick}
use Rattle.table_rows.specs.Rows.{unpack_class}
use Rattle.name_lines.specs.LineNames.{raw_line}
use Rattle.tree_rule.specs.declared.TreeCounts.{TreeCounts}
use Rattle.tree_rule.specs.declared.Token.{Token}
use Rattle.tree_rule.specs.declared.Token.TheVariants.{Other, MemberName, Descriptor, SourceLine}
use Rattle.tree_rule.specs.Words.{word_at}
use Rattle.tree_rule.specs.Files.{tokens_start, names_start, token_by, token_at, text_at, three_words, token_row_bytes}
use Rattle.tree_rule.specs.Theorems.{FormedBy, NamesBelow}
use Rattle.apply_rule.specs.Applying.{with_display, token_with, name_of}
use Rattle.apply_pieces.specs.Inner.Known.{raw_of}
use Rattle.apply_pieces.specs.Inner.Notes.{NoteSays, NotesTold}
use Rattle.apply_members.specs.Inner.Notes.{line_by}
use Rattle.apply_plans.specs.declared.plan.Plan.{Plan}
use Rattle.apply_plans.specs.declared.plan.Plan.TheVariants as plan
use Rattle.apply_plans.specs.Inner.Plan.{text_plan, member_plan, noted_plan, line_plan, plan_by, plan_at, plan_change, added, display_by, row_by, PlanLow, TextsLow}
use Rattle.name_lines.specs.declared.lines.DisplayLine.{DisplayLine}

-- what a token shows
abbrev display : Token → ℕ
display (Other a b) = b
display (MemberName raw shows) = shows
display (Descriptor raw shows) = shows
display (SourceLine raw shows) = shows

-- a token of one of the four kinds, with another number
module _ (kind a b : ℕ) where
  row_with : (n : ℕ) → kind ≤ 3 → token_row_bytes (with_display n (token_by kind a b)) ≡ three_words kind a n
  row_with n e = go (eqb kind 1) refl (eqb kind 2) refl (eqb kind 3) refl
    where
      go : (q : Bool) → eqb kind 1 ≡ q → (r : Bool) → eqb kind 2 ≡ r → (s : Bool) → eqb kind 3 ≡ s →
          token_row_bytes (with_display n (token_by kind a b)) ≡ three_words kind a n
      go true h r i s j = rw (eqb-true kind 1 h)
      go false h true i s j = rw (eqb-true kind 2 i)
      go false h false i true j = rw (eqb-true kind 3 j)
      go false h false i false j =
          let none : kind ≡ 0 = let x = eqb-false kind 1 h in let y = eqb-false kind 2 i in let z = eqb-false kind 3 j in omega arith in
          rw none

  shows_b : display (token_by kind a b) ≡ b
  shows_b = go (eqb kind 1) refl (eqb kind 2) refl (eqb kind 3) refl
    where
      go : (q : Bool) → eqb kind 1 ≡ q → (r : Bool) → eqb kind 2 ≡ r → (s : Bool) → eqb kind 3 ≡ s → display (token_by kind a b) ≡ b
      go true h r i s j = rw h
      go false h true i s j = rw (h, i)
      go false h false i true j = rw (h, i, j)
      go false h false i false j = rw (h, i, j)

-- The row of a plan is that of the token with its change.
module _ (classes : List (List ℕ)) (pool : List ℕ) (c : TreeCounts) (f : List ℕ) where
  same_display : (t : Token) → with_display (display t) t ≡ t
  same_display (Other a b) = refl
  same_display (MemberName raw shows) = refl
  same_display (Descriptor raw shows) = refl
  same_display (SourceLine raw shows) = refl

  with_plan : (p : Plan) (next : ℕ) (t : Token) → token_with next (plan_change classes pool c f p) t ≡ with_display (display_by p next (display t)) t
  with_plan plan.Stays next t = sym (same_display t)
  with_plan (plan.Line n) next t = refl
  with_plan (plan.Text place size) next t = refl
  with_plan (plan.Shown name) next t = refl

  pub plan_row : FormedBy c f → (p : Plan) (next i : ℕ) → i < c.tokens →
      token_row_bytes (token_with next (plan_change classes pool c f p) (token_at c f i)) ≡ row_by p next f (tokens_start c + 12 * i)
  plan_row k p next i h =
      let at : ℕ = tokens_start c + 12 * i in
      ap token_row_bytes (with_plan p next (token_at c f i))
      ∙ ap (λ n. token_row_bytes (with_display (display_by p next n) (token_at c f i))) (shows_b (word_at f at) (word_at f (at + 4)) (word_at f (at + 8)))
      ∙ row_with (word_at f at) (word_at f (at + 4)) (word_at f (at + 8)) _ (k.kinds i h)

  pub plan_count : (p : Plan) → length (name_of (plan_change classes pool c f p)) ≡ added p
  plan_count plan.Stays = refl
  plan_count (plan.Line n) = refl
  plan_count (plan.Text place size) = refl
  plan_count (plan.Shown name) = refl

-- The numbers of a plan.
module _ (classes rows : List (List ℕ)) (pool : List ℕ) (c : TreeCounts) (f out : List ℕ) (home context number : ℕ) where
  module _ (low : TextsLow classes rows) (told : NotesTold classes pool c f out) (few : number ≤ length rows) (small : c.names < 4294967296) where
    member_low : (n : ℕ) → n ≤ length rows → PlanLow (member_plan rows n)
    member_low zero h = omega arith
    member_low (suc row) h = low.names row (omega arith)

    noted_low : (name n row : ℕ) → name < c.names → NoteSays n row classes pool (text_at c f name) →
        PlanLow (noted_plan classes pool (text_at c f name) name n row)
    noted_low name zero row h k = omega arith
    noted_low name (suc start) row h k = go (eqb (length (text_at c f name)) (length (raw_of classes pool row)))
      where
        go : (b : Bool) → PlanLow (pick b (text_plan (unpack_class (get_or classes row [])).display) (plan.Shown name))
        go true = low.displays row k.inside
        go false = omega arith

    line_low : (l : Option DisplayLine) → PlanLow (line_plan l)
    line_low (Some n) = omega arith
    line_low None = omega arith

    by_low : (t : Token) → NamesBelow c.names t → PlanLow (plan_by classes rows pool c f out home context number t)
    by_low (Other a b) h = omega arith
    by_low (MemberName raw shows) h = member_low number few
    by_low (Descriptor raw shows) h =
        noted_low raw (word_at out (names_start c + 8 * raw)) (word_at out (names_start c + 8 * raw + 4)) h.0 (told.says raw h.0)
    by_low (SourceLine raw shows) h = line_low (line_by classes rows pool home context (raw_line raw))

    pub plan_low : FormedBy c f → (i : ℕ) → i < c.tokens → PlanLow (plan_at classes rows pool c f out home context number i)
    unfolding plan_at
    plan_low k i h = by_low (token_at c f i) (k.tokens i h)

  -- a name of the tree that is shown is there, and has a known piece
  abbrev ShownFits : Plan → Type 0
  ShownFits plan.Stays = 0 ≤ 0
  ShownFits (plan.Line n) = 0 ≤ 0
  ShownFits (plan.Text place size) = 0 ≤ 0
  ShownFits (plan.Shown name) = (name < c.names) × (0 < word_at out (names_start c + 8 * name))

  noted_fits : (name n row : ℕ) → n ≡ word_at out (names_start c + 8 * name) → name < c.names → ShownFits (noted_plan classes pool (text_at c f name) name n row)
  noted_fits name zero row e h = omega arith
  noted_fits name (suc start) row e h = go (eqb (length (text_at c f name)) (length (raw_of classes pool row)))
    where
      go : (b : Bool) → ShownFits (pick b (text_plan (unpack_class (get_or classes row [])).display) (plan.Shown name))
      go true = omega arith
      go false = (h, omega arith)

  member_fits : (n : ℕ) → ShownFits (member_plan rows n)
  member_fits zero = omega arith
  member_fits (suc row) = omega arith

  line_fits : (l : Option DisplayLine) → ShownFits (line_plan l)
  line_fits (Some n) = omega arith
  line_fits None = omega arith

  by_fits : (t : Token) → NamesBelow c.names t → ShownFits (plan_by classes rows pool c f out home context number t)
  by_fits (Other a b) h = omega arith
  by_fits (MemberName raw shows) h = member_fits number
  by_fits (Descriptor raw shows) h = noted_fits raw (word_at out (names_start c + 8 * raw)) (word_at out (names_start c + 8 * raw + 4)) refl h.0
  by_fits (SourceLine raw shows) h = line_fits (line_by classes rows pool home context (raw_line raw))

  pub shown_fits : FormedBy c f → (i : ℕ) → i < c.tokens → {name : ℕ} → plan_at classes rows pool c f out home context number i ≡ plan.Shown name →
      (name < c.names) × (0 < word_at out (names_start c + 8 * name))
  unfolding plan_at
  shown_fits k i h {name} e = rw e at (by_fits (token_at c f i) (k.tokens i h))

-- A plan goes by the notes alone.
pub plan_kept : (classes rows : List (List ℕ)) (pool : List ℕ) (c : TreeCounts) (f old new : List ℕ) (home context number : ℕ) → FormedBy c f →
    ((n : ℕ) → n < c.names → word_at new (names_start c + 8 * n) ≡ word_at old (names_start c + 8 * n)) →
    ((n : ℕ) → n < c.names → word_at new (names_start c + 8 * n + 4) ≡ word_at old (names_start c + 8 * n + 4)) → (i : ℕ) → i < c.tokens →
    plan_at classes rows pool c f new home context number i ≡ plan_at classes rows pool c f old home context number i
unfolding plan_at
plan_kept classes rows pool c f old new home context number k first second i h = go (token_at c f i) (k.tokens i h)
  where
    go : (t : Token) → NamesBelow c.names t → plan_by classes rows pool c f new home context number t ≡ plan_by classes rows pool c f old home context number t
    go (Other a b) n = refl
    go (MemberName raw shows) n = refl
    go (Descriptor raw shows) n = rw (first raw n.0, second raw n.0)
    go (SourceLine raw shows) n = refl
