-- The plan of a token stands for its change. Assumes nothing.
use Rattle.std.specs.Prelude.{Option, Some, None}
use mathlib.Core.Path.{◌≡◌, refl, sym, ◌∙◌, ap}
use mathlib.Core.Bool.{Bool, true, false}
use mathlib.Core.List.{List, [], ◌++◌, append-nil}
use Prim.Native.Nat.{ℕ, zero, suc, ◌+◌, ◌*◌, ◌≤◌, ◌<◌}
use native.Mathlib.Omega.{arith}
use lib.Dec.{eqb}
use lib.ListN.{length, get_or, drop, drop_of_length-le}
use borrow.Author.Tests.{eqb-true, eq-eqb, ne_eqb}
use Rattle.ground.specs.Choice.{pick}
use Rattle.ground.specs.Look.{Look, known, unknown}
use Rattle.ground.specs.Put.{between}
use Rattle.ground.proofs.Cases.{clash, none_either}
use Rattle.table_rows.specs.Classes.{shown}
use Rattle.table_rows.specs.Rows.{unpack_member}
use Rattle.tables.specs.Back.{text_in, read_back}
use Rattle.tables.specs.Search.{last_raw}
use Rattle.descriptor.proofs.Turning.{turn_end}
use Rattle.name_lines.specs.LineNames.{raw_line}
use Rattle.name_rule.specs.MemberNames.{Key, field_name, method_name}
use Rattle.name_rule.specs.MemberRows.{field_row, method_row}
use Rattle.name_rule.proofs.Rows.{field_found, field_unknown, method_found, method_unknown}
use Rattle.tree_rule.specs.declared.TreeCounts.{TreeCounts}
use Rattle.tree_rule.specs.declared.Token.{Token}
use Rattle.tree_rule.specs.declared.Token.TheVariants.{Other, MemberName, Descriptor, SourceLine}
use Rattle.tree_rule.specs.Words.{word_at}
use Rattle.tree_rule.specs.Trees.{name_in}
use Rattle.tree_rule.specs.Files.{names_start, text_at, tree_by}
use Rattle.tree_rule.specs.Signatures.{opens}
use Rattle.tree_rule.specs.Theorems.{NamesBelow}
use Rattle.tree_rule.proofs.Reading.{name_at_lem}
use Rattle.apply_rule.specs.Changes.{
  stays,
  named,
  name_change,
  line_change,
  shown_descriptor,
  Signed,
  unsigned,
  signed,
  member_name,
  member_change,
  Context,
  context_line,
  change_of,
}
use Rattle.apply_rule.specs.Inner.Plans.{mapping_in}
use Rattle.apply_pieces.specs.Inner.Known.{raw_of, display_of, all_shown, KnownAt}
use Rattle.apply_pieces.specs.Inner.Notes.{NoteSays, NotesTold}
use Rattle.apply_members.specs.declared.node.NodeNote.{NodeNote}
use Rattle.apply_members.specs.Inner.Notes.{noted_row, member_note, note_signed, context_number, home_row}
use Rattle.apply_plans.specs.Inner.Plan.{member_plan, noted_plan, line_plan, plan_by, plan_change}
use Rattle.apply_plans.proofs.ContextNumbers.{number_line}
use Rattle.name_lines.specs.declared.lines.DisplayLine.{DisplayLine}

module _ (classes rows : List (List ℕ)) (pool class : List ℕ) (c : TreeCounts) (f out : List ℕ) where
  -- A member name shows the name of the row that answers for it.
  found_change : (o : Option ℕ) (l : Look) → ((i : ℕ) → o ≡ Some i → (i < length rows) × (l ≡ known (text_in pool (unpack_member (get_or rows i [])).name))) →
      (o ≡ None → l ≡ unknown) → plan_change classes pool c f (member_plan rows (noted_row o)) ≡ name_change l
  found_change (Some i) l h g = ap name_change (sym (h i refl).1)
  found_change None l h g = ap name_change (sym (g refl))

  named_change : (k : Key) →
      plan_change classes pool c f (member_plan rows (member_note classes rows pool class k).named) ≡ name_change (member_name (mapping_in classes rows pool) k)
  named_change k = go (opens k.descriptor) refl
    where
      go : (b : Bool) → opens k.descriptor ≡ b →
          plan_change classes pool c f (member_plan rows (member_note classes rows pool class k).named) ≡ name_change (member_name (mapping_in classes rows pool) k)
      go true e =
          rw e
          (found_change (method_row (read_back classes pool) k rows pool) (method_name (mapping_in classes rows pool) k)
          (λ i h. method_found (read_back classes pool) k rows pool h) (λ h. method_unknown (read_back classes pool) k rows pool h))
      go false e =
          rw e
          (found_change (field_row (read_back classes pool) k rows pool) (field_name (mapping_in classes rows pool) k)
          (λ i h. field_found (read_back classes pool) k rows pool h) (λ h. field_unknown (read_back classes pool) k rows pool h))

  same_place : (first k at : ℕ) → eqb (first + k) (first + at) ≡ eqb k at
  same_place first k at = go (eqb k at) refl
    where
      go : (b : Bool) → eqb k at ≡ b → eqb (first + k) (first + at) ≡ b
      go true e = eq-eqb (first + k) (first + at) (ap (λ x. first + x) (eqb-true k at e))
      go false e = ne_eqb (first + k) (first + at) (λ z. let y : k ≡ at = omega arith in clash (eq-eqb k at y) e)

  member_change_lem : (first k : ℕ) (s : Signed) {note : NodeNote} → note ≡ note_signed classes rows pool class first s →
      plan_change classes pool c f (member_plan rows (pick (eqb (first + k) note.member) note.named 0)) ≡ member_change (mapping_in classes rows pool) s k
  member_change_lem first k unsigned e = rw e (rw (none_either (eqb (first + k) (0 + 0))) refl)
  member_change_lem first k (signed at key) e = rw (e, same_place first k at) (go (eqb k at))
    where
      go : (b : Bool) → plan_change classes pool c f (member_plan rows (pick b (member_note classes rows pool class key).named 0))
          ≡ pick b (name_change (member_name (mapping_in classes rows pool) key)) stays
      go true = named_change key
      go false = refl

  -- A descriptor of one known piece alone shows a display descriptor.
  whole_shown : (s : List ℕ) (start row : ℕ) → KnownAt classes pool s 0 start row → length s ≡ length (raw_of classes pool row) →
      all_shown classes pool s ≡ display_of classes pool row
  whole_shown s start row k e =
      let z : start ≡ 0 = omega (arith, k.ends) in
      let far : length s ≤ start + length (raw_of classes pool row) = omega (arith, k.ends) in
      let none : drop (start + length (raw_of classes pool row)) s ≡ [] = drop_of_length-le s far in
      k.turns
      ∙ ap (λ n. between s 0 n ++ (display_of classes pool row ++ all_shown classes pool (drop (start + length (raw_of classes pool row)) s))) z
      ∙ ap (λ l. display_of classes pool row ++ all_shown classes pool l) none
      ∙ ap (λ l. display_of classes pool row ++ l) (turn_end (shown (read_back classes pool)))
      ∙ append-nil (display_of classes pool row)

  noted_change : (name n row : ℕ) → NoteSays n row classes pool (text_at c f name) →
      plan_change classes pool c f (noted_plan classes pool (text_at c f name) name n row)
      ≡ name_change (shown_descriptor (shown (read_back classes pool)) (text_at c f name))
  noted_change name zero row k = rw k
  noted_change name (suc start) row k = go (eqb (length (text_at c f name)) (length (raw_of classes pool row))) refl ∙ sym (rw k.one)
    where
      go : (b : Bool) → eqb (length (text_at c f name)) (length (raw_of classes pool row)) ≡ b →
          plan_change classes pool c f (noted_plan classes pool (text_at c f name) name (suc start) row) ≡ named (all_shown classes pool (text_at c f name))
      go true e =
          rw e (ap named (sym (whole_shown (text_at c f name) start row k (eqb-true (length (text_at c f name)) (length (raw_of classes pool row)) e))))
      go false e = rw e

  -- A source line shows its line.
  line_change_lem : (l : Option DisplayLine) → plan_change classes pool c f (line_plan l) ≡ line_change l
  line_change_lem (Some n) = refl
  line_change_lem None = refl

  module _ (told : NotesTold classes pool c f out) {home : ℕ} (h : home ≡ home_row (last_raw classes pool class)) (first : ℕ) (s : Signed) (x : Context)
      {note : NodeNote} (e : note ≡ note_signed classes rows pool class first s) {w : ℕ} (g : w ≡ context_number classes rows pool class x) where
    pub token_change : (k : ℕ) (t : Token) → NamesBelow c.names t →
        plan_change classes pool c f (plan_by classes rows pool c f out home w (pick (eqb (first + k) note.member) note.named 0) t)
        ≡ change_of (mapping_in classes rows pool) class (name_in (tree_by c f)) s x k t
    token_change k (Other a b) n = refl
    token_change k (MemberName raw display) n = member_change_lem first k s e
    token_change k (Descriptor raw display) n =
        noted_change raw (word_at out (names_start c + 8 * raw)) (word_at out (names_start c + 8 * raw + 4)) (told.says raw n.0)
        ∙ ap (λ v. name_change (shown_descriptor (shown (read_back classes pool)) v)) (sym (name_at_lem c f raw n.0))
    token_change k (SourceLine raw display) n =
        ap (λ v. plan_change classes pool c f (line_plan v)) (number_line classes rows pool class h x g (raw_line raw))
        ∙ line_change_lem (context_line (mapping_in classes rows pool) class x raw)
