-- The member row that answers says the name or the line that is looked for. Assumes nothing.
use Rattle.std.specs.Prelude.{Option, Some, None}
use mathlib.Core.Path.{◌≡◌, refl, sym, ◌∙◌, ap}
use mathlib.Core.Bool.{Bool, true, false}
use mathlib.Core.List.{List, [], ◌∷◌, map}
use Prim.Native.Nat.{ℕ, zero, suc, ◌≤◌, ◌<◌}
use native.Mathlib.Omega.{arith}
use lib.Dec.{eqb}
use lib.ListN.{length, get_or}
use Rattle.ground.specs.Choice.{pick, both}
use Rattle.ground.specs.Look.{Look, known, unknown, or_look}
use Rattle.ground.proofs.Cases.{clash, both_left, both_right}
use Rattle.table_rows.specs.declared.rows.Ranges.{Ranges}
use Rattle.table_rows.specs.declared.rows.Ranges.TheVariants as ranges
use Rattle.text_places.specs.Places.{same}
use Rattle.table_rows.specs.Classes.{Pair, shown}
use Rattle.table_rows.specs.Rows.{unpack_member}
use Rattle.tables.specs.Back.{text_in}
use Rattle.tables.specs.Search.{or_row, last_row_from}
use Rattle.tables.proofs.Searching.{answer_row, answer_none}
use Rattle.load_rule.specs.Members.{MemberKind, field, method, Entry}
use Rattle.name_lines.specs.declared.lines.RawLine.{RawLine}
use Rattle.name_lines.specs.LineNames.{holds_line, line_shown, line_name}
use Rattle.name_rule.specs.Mappings.{entry_back, entries_back, mapping}
use Rattle.name_rule.specs.MemberNames.{
  Key,
  raw_of_row,
  is_text,
  matches,
  last_named,
  field_name,
  method_name,
  owned_by,
  or_line,
  line_of_kind,
  last_translated,
  line_of_method,
  field_matches,
  owner_matches,
  method_matches,
}
use Rattle.name_rule.specs.MemberRows.{last_member, field_row, method_row, kind_holds, line_matches, line_row}
use Rattle.name_lines.specs.declared.lines.DisplayLine.{DisplayLine}

-- The name of the last member of which `p` holds.
module _ (p : Entry → Bool) (pool : List ℕ) where
  abbrev says : List ℕ → Look
  says row = known (entry_back pool row).name

  abbrev named : List (List ℕ) → Look
  named rows = last_named p (entries_back rows pool)

  named_empty : named [] ≡ unknown
  unfolding last_named
  named_empty = refl

  named_step : (row : List ℕ) (rows : List (List ℕ)) → named (row ∷ rows) ≡ or_look (named rows) (pick (p (entry_back pool row)) (says row) unknown)
  unfolding last_named
  named_step row rows = refl

  module _ (rows : List (List ℕ)) where
    pub named_row : {i : ℕ} → last_member p rows pool ≡ Some i →
        (i < length rows) × (p (entry_back pool (get_or rows i [])) ≡ true) × (last_named p (entries_back rows pool) ≡ known (entry_back pool (get_or rows i [])).name)
    named_row e = answer_row unknown or_look says (λ row. p (entry_back pool row)) named named_empty named_step (λ l. refl) (λ row l q. refl) rows e

    pub named_none : last_member p rows pool ≡ None → last_named p (entries_back rows pool) ≡ unknown
    named_none e = answer_none unknown or_look says (λ row. p (entry_back pool row)) named named_empty named_step (λ l. refl) (λ row l q. refl) rows e

-- The line by the last member of which `p` holds and whose raw range holds it.
shown_line : (g : Ranges) (n : RawLine) (l : Option DisplayLine) → holds_line g n ≡ true → or_line (line_shown g n) l ≡ line_shown g n
shown_line ranges.None n l h = clash h refl
shown_line (ranges.Display a e) n l h = clash h refl
shown_line (ranges.Both p q a e) n l h = refl

abbrev kind_shows : MemberKind → RawLine → Option DisplayLine
kind_shows field n = None
kind_shows (method o g) n = line_shown g n

-- a member that holds a line is a method, and shows it by its ranges
shown_is : (b : Bool) (o : List ℕ) (g : Ranges) (n : RawLine) → kind_holds (pick b field (method o g)) n ≡ true → kind_shows (pick b field (method o g)) n ≡ line_name g n
shown_is true o g n h = clash h refl
shown_is false o g n h = sym (rw h)

module _ (cs : List Pair) (k : Key) (n : RawLine) (pool : List ℕ) where
  abbrev holds : List ℕ → Bool
  holds row = line_matches cs k n (entry_back pool row)

  abbrev shows : List ℕ → Option DisplayLine
  shows row = kind_shows (entry_back pool row).kind n

  abbrev translated : List (List ℕ) → Option DisplayLine
  translated rows = last_translated (owner_matches cs k) n (entries_back rows pool)

  translated_empty : translated [] ≡ None
  unfolding last_translated
  translated_empty = refl

  either_way : (o m h : Bool) (x : Option DisplayLine) → pick (both o m) (pick h x None) None ≡ pick (both (both o h) m) x None
  either_way true true true x = refl
  either_way true true false x = refl
  either_way true false true x = refl
  either_way true false false x = refl
  either_way false m h x = refl

  by_kind : (o m : Bool) (t : MemberKind) → pick (both o m) (line_of_kind t n) None ≡ pick (both (both o (kind_holds t n)) m) (kind_shows t n) None
  by_kind o m field = either_way o m false None
  by_kind o m (method w g) = either_way o m (holds_line g n) (line_shown g n)

  translated_step : (row : List ℕ) (rows : List (List ℕ)) → translated (row ∷ rows) ≡ or_line (translated rows) (pick (holds row) (shows row) None)
  unfolding last_translated
  translated_step row rows =
      let e : Entry = entry_back pool row in
      ap (or_line (translated rows)) (by_kind (owned_by (shown cs k.owner) e.kind) (matches cs k e) e.kind)

  kind_holds_lem : (row : List ℕ) → holds row ≡ true → kind_holds (entry_back pool row).kind n ≡ true
  kind_holds_lem row h =
      let e : Entry = entry_back pool row in
      let o : Bool = owned_by (shown cs k.owner) e.kind in
      both_right o (kind_holds e.kind n) (both_left (both o (kind_holds e.kind n)) (matches cs k e) h)

  first_stays : (t : MemberKind) (l : Option DisplayLine) → kind_holds t n ≡ true → or_line (kind_shows t n) l ≡ kind_shows t n
  first_stays field l h = clash h refl
  first_stays (method o g) l h = shown_line g n l h

  module _ (rows : List (List ℕ)) where
    pub translated_row : {i : ℕ} → line_row cs k n rows pool ≡ Some i →
        (i < length rows) × (holds (get_or rows i []) ≡ true) × (translated rows ≡ shows (get_or rows i []))
    translated_row e =
        answer_row None or_line shows holds translated translated_empty translated_step (λ l. refl)
        (λ row l q. first_stays (entry_back pool row).kind l (kind_holds_lem row q)) rows e

    pub translated_none : line_row cs k n rows pool ≡ None → translated rows ≡ None
    translated_none e =
        answer_none None or_line shows holds translated translated_empty translated_step (λ l. refl)
        (λ row l q. first_stays (entry_back pool row).kind l (kind_holds_lem row q)) rows e

-- What the row that answers says.
module _ (cs : List Pair) (k : Key) (rows : List (List ℕ)) (pool : List ℕ) where
  pub field_found : {i : ℕ} → field_row cs k rows pool ≡ Some i →
      (i < length rows) × (field_name (mapping cs (entries_back rows pool)) k ≡ known (text_in pool (unpack_member (get_or rows i [])).name))
  field_found e = let t = named_row (field_matches cs k) pool rows e in (t.0, t.2)

  pub field_unknown : field_row cs k rows pool ≡ None → field_name (mapping cs (entries_back rows pool)) k ≡ unknown
  field_unknown e = named_none (field_matches cs k) pool rows e

  abbrev own : Option ℕ
  own = last_member (owner_matches cs k) rows pool

  abbrev any : Option ℕ
  any = last_member (method_matches cs k) rows pool

  pub method_found : {i : ℕ} → method_row cs k rows pool ≡ Some i →
      (i < length rows) × (method_name (mapping cs (entries_back rows pool)) k ≡ known (text_in pool (unpack_member (get_or rows i [])).name))
  method_found {i} e = go own any refl refl e
    where
      go : (a b : Option ℕ) → own ≡ a → any ≡ b → or_row a b ≡ Some i →
          (i < length rows) × (method_name (mapping cs (entries_back rows pool)) k ≡ known (text_in pool (unpack_member (get_or rows i [])).name))
      go (Some j) b f g h = let t = named_row (owner_matches cs k) pool rows (f ∙ h) in (t.0, rw t.2)
      go None b f g h = let t = named_row (method_matches cs k) pool rows (g ∙ h) in (t.0, rw (named_none (owner_matches cs k) pool rows f, t.2))

  pub method_unknown : method_row cs k rows pool ≡ None → method_name (mapping cs (entries_back rows pool)) k ≡ unknown
  method_unknown e = go own any refl refl e
    where
      go : (a b : Option ℕ) → own ≡ a → any ≡ b → or_row a b ≡ None → method_name (mapping cs (entries_back rows pool)) k ≡ unknown
      go (Some j) b f g h = absurd (let z : ◌≡◌ {A = ℕ} 0 1 = cc in omega arith)
      go None b f g h = rw (named_none (owner_matches cs k) pool rows f, named_none (method_matches cs k) pool rows (g ∙ h))

  pub line_found : (n : RawLine) {i : ℕ} → line_row cs k n rows pool ≡ Some i →
      (i < length rows) × (line_of_method (mapping cs (entries_back rows pool)) k n ≡ line_name (unpack_member (get_or rows i [])).ranges n)
  line_found n {i} e =
      let row : List ℕ = get_or rows i [] in
      let t = translated_row cs k n pool rows e in
      let h = kind_holds_lem cs k n pool row t.1 in
      (t.0, t.2 ∙ shown_is (eqb (unpack_member row).kind 0) (text_in pool (unpack_member row).owner) (unpack_member row).ranges n h)

  pub line_unknown : (n : RawLine) → line_row cs k n rows pool ≡ None → line_of_method (mapping cs (entries_back rows pool)) k n ≡ None
  line_unknown n e = translated_none cs k n pool rows e

-- A member belongs to a class that there is.
pub row_raw : (f : List ℕ → Pair) (rows : List (List ℕ)) (i : ℕ) → i < length rows → raw_of_row (map f rows) i ≡ known (f (get_or rows i [])).raw
unfolding raw_of_row
row_raw f [] i h = absurd (omega arith)
row_raw f (row ∷ rows) zero h = refl
row_raw f (row ∷ rows) (suc i) h = row_raw f rows i (omega arith)

pub row_beyond : (f : List ℕ → Pair) (rows : List (List ℕ)) (i : ℕ) → length rows ≤ i → raw_of_row (map f rows) i ≡ unknown
unfolding raw_of_row
row_beyond f [] i h = refl
row_beyond f (row ∷ rows) zero h = absurd (omega arith)
row_beyond f (row ∷ rows) (suc i) h = row_beyond f rows i (omega arith)

unknown_raw : (cs : List Pair) (p : List ℕ) (i : ℕ) → shown cs p ≡ unknown → is_text (raw_of_row cs i) p ≡ false
unfolding raw_of_row shown
unknown_raw [] p i e = refl
unknown_raw (c ∷ cs) p zero e = go (shown cs p) (same c.raw p) e
  where
    go : (l : Look) (b : Bool) → or_look l (pick b (known c.display) unknown) ≡ unknown → b ≡ false
    go (known s) b q = absurd (let z : ◌≡◌ {A = ℕ} 0 1 = cc in omega arith)
    go unknown true q = absurd (let z : ◌≡◌ {A = ℕ} 0 1 = cc in omega arith)
    go unknown false q = refl
unknown_raw (c ∷ cs) p (suc i) e = unknown_raw cs p i (go (shown cs p) (same c.raw p) e)
  where
    go : (l : Look) (b : Bool) → or_look l (pick b (known c.display) unknown) ≡ unknown → l ≡ unknown
    go (known s) b q = absurd (let z : ◌≡◌ {A = ℕ} 0 1 = cc in omega arith)
    go unknown b q = refl

-- so where no class row has the raw descriptor, no member matches
pub none_matches : (cs : List Pair) (k : Key) (e : Entry) → shown cs k.owner ≡ unknown → matches cs k e ≡ false
none_matches cs k e u = rw (unknown_raw cs k.owner e.class u)

none_last : (p : Entry → Bool) (pool : List ℕ) → ((e : Entry) → p e ≡ false) → (at : ℕ) (rows : List (List ℕ)) → last_row_from (λ row. p (entry_back pool row)) at rows ≡ None
unfolding last_row_from
none_last p pool n at [] = refl
none_last p pool n at (row ∷ rows) = rw (none_last p pool n (suc at) rows, n (entry_back pool row))

both_none : (a b : Bool) → b ≡ false → both a b ≡ false
both_none true b e = e
both_none false b e = refl

-- whatever is asked of it besides
pub none_found : (cs : List Pair) (k : Key) (t : Entry → Bool) (rows : List (List ℕ)) (pool : List ℕ) → shown cs k.owner ≡ unknown →
    last_member (λ e. both (t e) (matches cs k e)) rows pool ≡ None
none_found cs k t rows pool u = none_last (λ e. both (t e) (matches cs k e)) pool (λ e. both_none (t e) (matches cs k e) (none_matches cs k e u)) 0 rows
