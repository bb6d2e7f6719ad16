-- What becomes of a token. Assumes nothing.
use Rattle.std.specs.Prelude.{Option, Some, None}
use mathlib.Core.Path.{◌≡◌, refl, sym, ◌∙◌, ap}
use mathlib.Core.List.{List, []}
use Prim.Native.Nat.{ℕ, zero, suc, ◌+◌, ◌*◌, ◌-◌, ◌≤◌, ◌<◌}
use native.Mathlib.Omega.{arith}
use lib.ListN.{length, get_or}
use borrow.Author.Rules.{rules}
use borrow.Author.Tests.{eq-eqb, ne_eqb}
use Rattle.ground.specs.Choice.{pick}
use Rattle.table_rows.specs.declared.rows.Member.{Member}
use Rattle.table_rows.specs.declared.rows.Class.{Class}
use Rattle.table_rows.specs.Rows.{unpack_class, unpack_member}
use Rattle.name_lines.specs.declared.lines.DisplayLine.{DisplayLine}
use Rattle.name_lines.specs.LineNames.{raw_line}
use Rattle.tree_rule.specs.declared.TreeCounts.{TreeCounts}
use Rattle.tree_rule.specs.declared.Token.{Token}
use Rattle.tree_rule.specs.declared.Token.TheVariants.{Other, MemberName, Descriptor, SourceLine}
use Rattle.tree_rule.specs.Words.{word_at}
use Rattle.tree_rule.specs.Files.{tokens_start, names_start, file_length, token_by, token_at, text_at}
use Rattle.tree_rule.specs.Theorems.{FormedBy, NamesBelow}
use Rattle.tree_rule.proofs.Formed.{row_inside}
use Rattle.apply_pieces.specs.Inner.Known.{raw_of}
use Rattle.apply_pieces.specs.Inner.Notes.{NoteSays, NotesTold}
use Rattle.apply_members.specs.Inner.Notes.{line_by}
use Rattle.apply_plans.specs.declared.plan.Plan.{Plan}
use Rattle.apply_plans.specs.declared.plan.Plan.TheVariants as plan
use Rattle.apply_plans.specs.Inner.Plan.{text_plan, member_plan, noted_plan, name_plan, line_plan, plan_by, plan_at}

-- The number of a row.
module _ (rows : List (List ℕ)) (n : ℕ) where
  pub no_member : n ≡ 0 → plan.Stays ≡ member_plan rows n
  no_member e = rw e

  module _ (h : n ≡ 0 → ⊥) where
    pub member_above : 1 ≤ n
    member_above = omega arith

    pub member_inside : n ≤ length rows → n - 1 < length rows
    member_inside l = omega arith

    pub some_member : {m : Member} → m ≡ unpack_member (get_or rows (n - 1) []) → plan.Text m.name.place m.name.length ≡ member_plan rows n
    some_member {m} e = ap (λ x. text_plan x.name) e ∙ go n h
      where
        go : (k : ℕ) → (k ≡ 0 → ⊥) → text_plan (unpack_member (get_or rows (k - 1) [])).name ≡ member_plan rows k
        go zero q = absurd (q refl)
        go (suc k) q = let z : suc k - 1 ≡ k = omega arith in rw z

pub ruleset member_plans = (no_member, member_above, member_inside, some_member, rules)

-- The note about a name.
module _ (classes : List (List ℕ)) (pool : List ℕ) (c : TreeCounts) (f out : List ℕ) (name : ℕ) {s : ℕ} (e : s ≡ names_start c)
    (k : NotesTold classes pool c f out) (l : name < c.names) where
  pub note_inside : s + 8 * name + 4 + 4 ≤ length out
  note_inside = omega (arith, k.room)

  module _ {number row : ℕ} (g : number ≡ word_at out (s + 8 * name)) (i : row ≡ word_at out (s + 8 * name + 4)) where
    same : noted_plan classes pool (text_at c f name) name number row ≡ name_plan classes pool c f out name
    same = rw (g, i, e)

    pub no_note : number ≡ 0 → plan.Stays ≡ name_plan classes pool c f out name
    no_note h = let z : noted_plan classes pool (text_at c f name) name 0 row ≡ noted_plan classes pool (text_at c f name) name number row = rw h in z ∙ same

    module _ (h : number ≡ 0 → ⊥) where
      says : NoteSays number row classes pool (text_at c f name)
      says = rw (g, i, e) (k.says name l)

      pub note_row : row < length classes
      note_row = go number h says
        where
          go : (n : ℕ) → (n ≡ 0 → ⊥) → NoteSays n row classes pool (text_at c f name) → row < length classes
          go zero q u = absurd (q refl)
          go (suc n) q u = u.inside

      above : noted_plan classes pool (text_at c f name) name (suc (number - 1)) row ≡ name_plan classes pool c f out name
      above =
          let z : suc (number - 1) ≡ number = omega arith in
          ap (λ n. noted_plan classes pool (text_at c f name) name n row) z ∙ same

      module _ {t : List ℕ} (u : t ≡ text_at c f name) {n : ℕ} (v : n ≡ length (raw_of classes pool row)) where
        pub whole_note : length t ≡ n → {m : Class} → m ≡ unpack_class (get_or classes row []) →
            plan.Text m.display.place m.display.length ≡ name_plan classes pool c f out name
        whole_note w {m} x =
            ap (λ y. text_plan y.display) x
            ∙ sym (ap (λ b. pick b (text_plan (unpack_class (get_or classes row [])).display) (plan.Shown name))
            (eq-eqb (length (text_at c f name)) (length (raw_of classes pool row)) (sym (ap length u) ∙ w ∙ v)))
            ∙ above

        pub part_note : (length t ≡ n → ⊥) → plan.Shown name ≡ name_plan classes pool c f out name
        part_note w =
            sym (ap (λ b. pick b (text_plan (unpack_class (get_or classes row [])).display) (plan.Shown name))
            (ne_eqb (length (text_at c f name)) (length (raw_of classes pool row)) (λ x. w (ap length u ∙ x ∙ sym v))))
            ∙ above

pub file_there : {c : TreeCounts} {f : List ℕ} → FormedBy c f → file_length c ≤ length f
file_there k = omega (arith, k.size)

pub ruleset name_plans = (note_inside, no_note, note_row, whole_note, part_note, file_there, rules)

-- A line.
pub line_some : (l : Option DisplayLine) {d : DisplayLine} → l ≡ Some d → plan.Line d.0 ≡ line_plan l
line_some l e = rw e

pub line_none : (l : Option DisplayLine) → l ≡ None → plan.Stays ≡ line_plan l
line_none l e = rw e

pub ruleset line_plans = (line_some, line_none, rules)

-- A token.
module _ (c : TreeCounts) (f : List ℕ) (i : ℕ) {s : ℕ} (e : s ≡ tokens_start c) where
  pub kind_inside : FormedBy c f → i < c.tokens → s + 12 * i + 4 + 4 ≤ length f
  kind_inside k h = omega (arith, k.size)

  module _ (classes rows : List (List ℕ)) (pool out : List ℕ) (home context number : ℕ) {kind : ℕ} (g : kind ≡ word_at f (s + 12 * i))
      {raw : ℕ} (h : raw ≡ word_at f (s + 12 * i + 4)) where
    abbrev b : ℕ
    b = word_at f (tokens_start c + 12 * i + 8)

    told : token_at c f i ≡ token_by kind raw b
    told = rw (g, h, e)

    there : {t : Token} → token_by kind raw b ≡ t → plan_by classes rows pool c f out home context number t ≡ plan_at classes rows pool c f out home context number i
    unfolding plan_at
    there l = sym (ap (plan_by classes rows pool c f out home context number) (told ∙ l))

    pub plan_name : kind ≡ 2 → {p : Plan} → p ≡ name_plan classes pool c f out raw → p ≡ plan_at classes rows pool c f out home context number i
    plan_name k j = j ∙ there {t = Descriptor raw b} (rw k)

    pub plan_member : kind ≡ 1 → {p : Plan} → p ≡ member_plan rows number → p ≡ plan_at classes rows pool c f out home context number i
    plan_member k j = j ∙ there {t = MemberName raw b} (rw k)

    pub plan_line : kind ≡ 3 → {l : Option DisplayLine} → l ≡ line_by classes rows pool home context (raw_line raw) → {p : Plan} → p ≡ line_plan l →
        p ≡ plan_at classes rows pool c f out home context number i
    plan_line k j m = m ∙ ap line_plan j ∙ there {t = SourceLine raw b} (rw k)

    pub plan_other : (kind ≡ 2 → ⊥) → (kind ≡ 1 → ⊥) → (kind ≡ 3 → ⊥) → plan.Stays ≡ plan_at classes rows pool c f out home context number i
    plan_other x y z = there {t = Other raw b} (rw (ne_eqb kind 1 y, ne_eqb kind 2 x, ne_eqb kind 3 z))

  pub name_below : FormedBy c f → i < c.tokens → {kind : ℕ} → kind ≡ word_at f (s + 12 * i) → kind ≡ 2 → {raw : ℕ} → raw ≡ word_at f (s + 12 * i + 4) → raw < c.names
  name_below k l {kind} g m {raw} h =
      let is : token_at c f i ≡ Descriptor raw (word_at f (tokens_start c + 12 * i + 8)) = rw (h, ← e, ← g, m) in
      let below : NamesBelow c.names (Descriptor raw (word_at f (tokens_start c + 12 * i + 8))) = rw is at (k.tokens i l) in
      below.0

pub ruleset token_plans = (row_inside, kind_inside, plan_name, plan_member, plan_line, plan_other, name_below, rules)
