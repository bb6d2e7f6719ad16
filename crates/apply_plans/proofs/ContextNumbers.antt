-- What the number of a line context stands for. Assumes nothing.
use Rattle.std.specs.Prelude.{Option, Some, None}
use mathlib.Core.Path.{◌≡◌, refl, sym, ◌∙◌, ap}
use mathlib.Core.Bool.{Bool, true, false}
use mathlib.Core.List.{List, []}
use Prim.Native.Nat.{ℕ, suc, ◌-◌, ◌≤◌, ◌<◌}
use native.Mathlib.Omega.{arith}
use lib.ListN.{length, get_or}
use Rattle.ground.specs.Choice.{pick, both}
use Rattle.ground.proofs.Cases.{both_left, both_right, clash, both_more}
use Rattle.text_places.specs.Places.{same}
use Rattle.text_places.proofs.PlaceLaws.{same_equal}
use Rattle.table_rows.specs.Classes.{Pair, shown}
use Rattle.table_rows.specs.Rows.{unpack_class}
use Rattle.tables.specs.Back.{text_in, read_back}
use Rattle.tables.specs.Search.{last_raw}
use Rattle.tables.proofs.Searching.{raw_unknown, scanning_from, scanning_ends}
use Rattle.load_rule.specs.Members.{Entry}
use Rattle.name_lines.specs.declared.lines.RawLine.{RawLine}
use Rattle.name_rule.specs.Mappings.{entry_back}
use Rattle.name_rule.specs.MemberNames.{Key, key, raw_of_row, is_text, matches, owned_by, owner_matches, line_of_method}
use Rattle.name_rule.specs.MemberRows.{kind_holds, line_matches}
use Rattle.name_rule.proofs.Rows.{line_unknown, none_matches}
use Rattle.name_index.specs.Inner.Chains.{key_of_row, own_row}
use Rattle.name_index.proofs.LastRows.{last_none, last_told, raw_has}
use Rattle.tree_rule.specs.Signatures.{opens}
use Rattle.apply_rule.specs.Changes.{Signed, unsigned, signed, Context, no_method, in_method, context_by, context_line}
use Rattle.apply_rule.specs.Inner.Plans.{mapping_in}
use Rattle.apply_members.specs.declared.node.NodeNote.{NodeNote}
use Rattle.apply_members.specs.Inner.Notes.{noted_row, member_note, note_signed, context_number, home_row, Meant, MeantBy, line_by}

module _ (classes rows : List (List ℕ)) (pool class : List ℕ) where
  abbrev cs : List Pair
  cs = read_back classes pool

  -- The own row of a method of the class given.
  module _ (n d : List ℕ) {row : ℕ} (own : own_row classes rows pool (key class n d) ≡ Some row) {home : ℕ}
      (h : home ≡ home_row (last_raw classes pool class)) where
    abbrev e : Entry
    e = entry_back pool (get_or rows row [])

    owns : owner_matches cs (key class n d) e ≡ true
    owns =
        let z : row - 0 ≡ row = omega arith in
        rw z at (last_told (λ r. owner_matches cs (key class n d) (entry_back pool r)) 0 rows own).holds

    matched : matches cs (key class n d) e ≡ true
    matched = both_right (owned_by (shown cs class) e.kind) (matches cs (key class n d) e) owns

    texts : both (same e.raw_name n) (same e.descriptor d) ≡ true
    texts = both_right (is_text (raw_of_row cs e.class) class) (both (same e.raw_name n) (same e.descriptor d)) matched

    name_is : e.raw_name ≡ n
    name_is = same_equal e.raw_name n (both_left (same e.raw_name n) (same e.descriptor d) texts)

    descriptor_is : e.descriptor ≡ d
    descriptor_is = same_equal e.descriptor d (both_right (same e.raw_name n) (same e.descriptor d) texts)

    known_class : last_raw classes pool class ≡ Some home
    known_class = go (last_raw classes pool class) refl
      where
        go : (o : Option ℕ) → last_raw classes pool class ≡ o → last_raw classes pool class ≡ Some home
        go (Some i) f = f ∙ ap Some (sym (h ∙ ap home_row f))
        go None f = clash matched (none_matches cs (key class n d) e (raw_unknown classes pool class f))

    raw_is : text_in pool (unpack_class (get_or classes home [])).raw ≡ class
    raw_is = raw_has classes pool class known_class

    key_is : key_of_row classes rows pool home row ≡ key class n d
    key_is = rw (raw_is, name_is, descriptor_is)

    own_meant : Meant classes rows pool home row
    own_meant =
        record {
          class_row_lem = ap (last_raw classes pool) raw_is ∙ known_class;
          own_row_lem = ap (own_row classes rows pool) key_is ∙ own;
        }

  module _ {home : ℕ} (h : home ≡ home_row (last_raw classes pool class)) where
    pub number_meant : (x : Context) {w : ℕ} → w ≡ context_number classes rows pool class x → MeantBy classes rows pool home w
    number_meant no_method e = record { meant = λ l. absurd (omega arith) }
    number_meant (in_method n d) {w} e = record { meant = λ l. go (own_row classes rows pool (key class n d)) refl l }
      where
        go : (o : Option ℕ) → own_row classes rows pool (key class n d) ≡ o → 0 < w → Meant classes rows pool home (w - 1)
        go (Some i) f l =
            let z : w - 1 ≡ i = let y : w ≡ suc i = e ∙ ap noted_row f in omega arith in
            rw z (own_meant n d f h)
        go None f l = absurd (let y : w ≡ 0 = e ∙ ap noted_row f in omega arith)

    -- no row is owned: no line is known
    no_lines : (k : Key) → own_row classes rows pool k ≡ None → (n : RawLine) → line_of_method (mapping_in classes rows pool) k n ≡ None
    no_lines k f n = line_unknown cs k rows pool n (sym (scanning_ends (scanning_from holds rows 0 (omega arith) none) (omega arith)))
      where
        holds : List ℕ → Bool
        holds r = line_matches cs k n (entry_back pool r)

        none : (i : ℕ) → 0 ≤ i → i < length rows → holds (get_or rows i []) ≡ false
        none i l m =
            let x : Entry = entry_back pool (get_or rows i []) in
            both_more (owned_by (shown cs k.owner) x.kind) (kind_holds x.kind n) (matches cs k x)
            (last_none (λ r. owner_matches cs k (entry_back pool r)) 0 rows f i m)

    pub number_line : (x : Context) {w : ℕ} → w ≡ context_number classes rows pool class x → (n : RawLine) →
        line_by classes rows pool home w n ≡ context_line (mapping_in classes rows pool) class x n.0
    number_line no_method e n = ap (λ v. line_by classes rows pool home v n) e
    number_line (in_method a d) {w} e n = go (own_row classes rows pool (key class a d)) refl
      where
        go : (o : Option ℕ) → own_row classes rows pool (key class a d) ≡ o →
            line_by classes rows pool home w n ≡ context_line (mapping_in classes rows pool) class (in_method a d) n.0
        go (Some i) f =
            ap (λ v. line_by classes rows pool home v n) (e ∙ ap noted_row f)
            ∙ ap (λ k. line_of_method (mapping_in classes rows pool) k n) (key_is a d f h)
        go None f = ap (λ v. line_by classes rows pool home v n) (e ∙ ap noted_row f) ∙ sym (no_lines (key class a d) f n)

  -- The number that a node's note and its parent's number give.
  pub noted_context : (first : ℕ) (s : Signed) (above : Context) {w : ℕ} → w ≡ context_number classes rows pool class above → {note : NodeNote} →
      note ≡ note_signed classes rows pool class first s →
      pick note.inherits w note.lines ≡ context_number classes rows pool class (context_by class s above)
  noted_context first unsigned above {w} e f = ap (λ x. pick x.inherits w x.lines) f ∙ e
  noted_context first (signed at k) above {w} e f =
      ap (λ x. pick x.inherits w x.lines) f ∙ go (opens k.descriptor) (same k.owner class) refl refl
    where
      go : (o a : Bool) → opens k.descriptor ≡ o → same k.owner class ≡ a →
          pick (member_note classes rows pool class k).inherits w (member_note classes rows pool class k).lines
          ≡ context_number classes rows pool class (context_by class (signed at k) above)
      go true true p q =
          let owner : k.owner ≡ class = same_equal k.owner class q in
          rw (p, q) (ap (λ x. noted_row (own_row classes rows pool (key x k.name k.descriptor))) owner)
      go true false p q = rw (p, q) e
      go false a p q = rw p e
