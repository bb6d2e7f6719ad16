-- Whether a member row answers. Assumes nothing.
use mathlib.Core.Path.{◌≡◌, refl, sym, ◌∙◌, ap}
use mathlib.Core.Bool.{Bool, true, false, not}
use mathlib.Core.List.{List, []}
use Prim.Native.Nat.{ℕ, ◌-◌, ◌≤◌, ◌<◌}
use lib.ListN.{length, get_or}
use borrow.Author.Tests.{not-true, not-false, eq-eqb, ne_eqb}
use borrow.Author.Rules.{rules}
use Rattle.ground.specs.Choice.{both}
use Rattle.ground.specs.Look.{Look, known}
use Rattle.ground.proofs.Cases.{both_false}
use Rattle.text_places.specs.Places.{same}
use Rattle.table_rows.specs.declared.rows.Class.{Class}
use Rattle.table_rows.specs.declared.rows.Member.{Member}
use Rattle.table_rows.specs.declared.rows.Ranges.{Ranges}
use Rattle.table_rows.specs.Classes.{Pair}
use Rattle.table_rows.specs.Rows.{unpack_class, unpack_member}
use Rattle.tables.specs.Back.{text_in, pair_of, read_back}
use Rattle.tables.proofs.Searching.{scanning_starts, scanning_ends, scanning_inside, scanning_found, scanning_more}
use Rattle.load_rule.specs.Members.{field, method}
use Rattle.name_lines.specs.declared.lines.RawLine.{RawLine}
use Rattle.name_lines.specs.LineNames.{holds_line}
use Rattle.name_rule.specs.Mappings.{kind_back, member_back, entry_back}
use Rattle.name_rule.specs.MemberNames.{Key, key, raw_of_row, is_text, matches}
use Rattle.name_rule.proofs.Rows.{row_raw, row_beyond}
use Rattle.name_members.specs.declared.rows.Sought.{Sought}
use Rattle.name_members.specs.declared.rows.Sought.TheVariants.{Field, Method, Own, OwnLine}
use Rattle.name_members.specs.Inner.Sought.{is_field_sought, sought_by, answers_by}

-- The class of a member.
module _ (rows : List (List ℕ)) (pool raw : List ℕ) (i : ℕ) where
  pub class_told : i < length rows → {c : Class} → c ≡ unpack_class (get_or rows i []) → {s : List ℕ} → s ≡ text_in pool c.raw →
      {b : Bool} → b ≡ same s raw → b ≡ is_text (raw_of_row (read_back rows pool) i) raw
  class_told h e f g = g ∙ ap (λ x. same x raw) (f ∙ ap (λ x. text_in pool x.raw) e) ∙ sym (rw (row_raw (pair_of pool) rows i h))

  pub class_beyond : length rows ≤ i → false ≡ is_text (raw_of_row (read_back rows pool) i) raw
  class_beyond h = sym (rw (row_beyond (pair_of pool) rows i h))

pub ruleset class_known = (class_told, class_beyond, rules)

-- A member that matches: by class, raw name and raw descriptor.
module _ (cs : List Pair) (pool owner name descriptor : List ℕ) (m : Member) {a : Bool} (e : a ≡ is_text (raw_of_row cs m.class) owner) where
  pub other_class : not a ≡ true → false ≡ matches cs (key owner name descriptor) (member_back pool m)
  other_class h = sym (rw (sym e ∙ not-true a h))

  module _ (h : not a ≡ false) {s : List ℕ} (f : s ≡ text_in pool m.raw_name) {b : Bool} (g : b ≡ same s name) where
    first : is_text (raw_of_row cs m.class) owner ≡ true
    first = sym e ∙ not-false a h

    second : same (text_in pool m.raw_name) name ≡ b
    second = ap (λ x. same x name) (sym f) ∙ sym g

    pub other_name : not b ≡ true → false ≡ matches cs (key owner name descriptor) (member_back pool m)
    other_name i = sym (rw (first, second ∙ not-true b i))

    pub by_descriptor : not b ≡ false → {t : List ℕ} → t ≡ text_in pool m.descriptor → {d : Bool} → d ≡ same t descriptor →
        d ≡ matches cs (key owner name descriptor) (member_back pool m)
    by_descriptor i j l = l ∙ ap (λ x. same x descriptor) j ∙ sym (rw (first, second ∙ not-false b i))

pub ruleset matching = (other_class, other_name, by_descriptor, rules)

-- What a member is, by its kind.
kind_field : (pool : List ℕ) (m : Member) → m.kind ≡ 0 → kind_back pool m ≡ field
kind_field pool m e = rw (eq-eqb m.kind 0 e)

kind_method : (pool : List ℕ) (m : Member) → (m.kind ≡ 0 → ⊥) → kind_back pool m ≡ method (text_in pool m.owner) m.ranges
kind_method pool m n = rw (ne_eqb m.kind 0 n)

field_sought : (t : Sought) (d : Look) → is_field_sought t ≡ sought_by t d field
field_sought Field d = refl
field_sought Method d = refl
field_sought Own d = refl
field_sought (OwnLine n) d = refl

both_true : (a : Bool) → both a true ≡ a
both_true true = refl
both_true false = refl

module _ (pool display : List ℕ) (m : Member) (t : Sought) where
  pub sought_field : m.kind ≡ 0 → {b : Bool} → b ≡ is_field_sought t → b ≡ sought_by t (known display) (kind_back pool m)
  sought_field e f = f ∙ field_sought t (known display) ∙ ap (sought_by t (known display)) (sym (kind_field pool m e))

  module _ (n : m.kind ≡ 0 → ⊥) where
    pub no_field : t ≡ Field → false ≡ sought_by t (known display) (kind_back pool m)
    no_field e = sym (rw (e, kind_method pool m n))

    pub any_method : t ≡ Method → true ≡ sought_by t (known display) (kind_back pool m)
    any_method e = sym (rw (e, kind_method pool m n))

    module _ {s : List ℕ} (f : s ≡ text_in pool m.owner) {b : Bool} (g : b ≡ same display s) where
      owned : same display (text_in pool m.owner) ≡ b
      owned = ap (same display) (sym f) ∙ sym g

      pub own_method : t ≡ Own → b ≡ sought_by t (known display) (kind_back pool m)
      own_method e = sym (rw (e, kind_method pool m n, owned))

    -- numbers are compared before texts
    module _ {l : RawLine} (e : t ≡ OwnLine l) {r : Ranges} (q : r ≡ m.ranges) {h : Bool} (j : h ≡ holds_line r l) where
      held : sought_by t (known display) (kind_back pool m) ≡ both (same display (text_in pool m.owner)) h
      held = rw (e, kind_method pool m n) (ap (both (same display (text_in pool m.owner))) (ap (λ x. holds_line x l) (sym q) ∙ sym j))

      pub other_line : not h ≡ true → false ≡ sought_by t (known display) (kind_back pool m)
      other_line i = sym (held ∙ ap (both (same display (text_in pool m.owner))) (not-true h i) ∙ both_false (same display (text_in pool m.owner)))

      pub own_line : not h ≡ false → {s : List ℕ} → s ≡ text_in pool m.owner → {b : Bool} → b ≡ same display s →
          b ≡ sought_by t (known display) (kind_back pool m)
      own_line i f {b} g =
          let o : Bool = same display (text_in pool m.owner) in
          let a : b ≡ o = g ∙ ap (same display) f in
          a ∙ sym (held ∙ ap (both o) (not-false h i) ∙ both_true o)

pub ruleset seeking_kind = (sought_field, no_field, any_method, own_method, other_line, own_line, rules)

-- Both together.
module _ (t : Sought) (d : Look) (cs : List Pair) (k : Key) (pool : List ℕ) (m : Member) {a : Bool} (e : a ≡ sought_by t d (kind_back pool m)) where
  pub answers_match : a ≡ true → {b : Bool} → b ≡ matches cs k (member_back pool m) → b ≡ answers_by t d cs k (member_back pool m)
  answers_match h f = f ∙ sym (rw (sym e ∙ h))

  pub answers_not : a ≡ false → false ≡ answers_by t d cs k (member_back pool m)
  answers_not h = sym (rw (sym e ∙ h))

pub ruleset answering_row = (answers_match, answers_not, rules)

-- The test of a row, as the code makes it.
pub row_told : (t : Sought) (d : Look) (cs : List Pair) (k : Key) (pool row : List ℕ) {m : Member} → m ≡ unpack_member row →
    {b : Bool} → b ≡ answers_by t d cs k (member_back pool m) → {z : Bool} → b ≡ z → answers_by t d cs k (entry_back pool row) ≡ z
row_told t d cs k pool row e f g = ap (λ x. answers_by t d cs k (member_back pool x)) (sym e) ∙ sym f ∙ g

pub ruleset members_scanned = (scanning_starts, scanning_ends, scanning_inside, scanning_found, scanning_more, row_told, rules)
