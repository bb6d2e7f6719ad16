-- The raw name of a token by its number, and the class row of a name by the note about it. Assumes nothing.
use Rattle.std.specs.Prelude.{Some}
use mathlib.Core.Path.{◌≡◌, refl, sym, ◌∙◌, ap}
use mathlib.Core.Bool.{Bool, true, false}
use mathlib.Core.List.{List}
use Prim.Native.Nat.{ℕ, ◌+◌, ◌*◌, ◌-◌, ◌≤◌, ◌<◌}
use native.Mathlib.Omega.{arith}
use lib.Dec.{eqb}
use lib.ListN.{length}
use lib.Seq.{take_all}
use borrow.Author.Rules.{rules}
use Rattle.ground.specs.Choice.{pick}
use Rattle.ground.specs.Put.{between}
use Rattle.ground.proofs.Cases.{clash}
use Rattle.tables.specs.Search.{last_raw}
use Rattle.tree_rule.specs.declared.TreeCounts.{TreeCounts}
use Rattle.tree_rule.specs.declared.Token.TheVariants.{Other, MemberName, Descriptor, SourceLine}
use Rattle.tree_rule.specs.Words.{word_at}
use Rattle.tree_rule.specs.Trees.{name_in}
use Rattle.tree_rule.specs.Files.{tokens_start, names_start, token_by, token_at, text_at, tree_by}
use Rattle.tree_rule.specs.Theorems.{FormedBy, NamesBelow}
use Rattle.tree_rule.proofs.Reading.{name_at_lem}
use Rattle.apply_rule.specs.Changes.{raw_name_of}
use Rattle.apply_pieces.specs.Inner.Known.{raw_of, KnownAt}
use Rattle.apply_members.specs.Inner.Tokens.{is_named, NamedToken, NoteOf}

-- The first number of a token that has a raw name is the number of that name.
first_number : (kind a b n : ℕ) (name : ℕ → List ℕ) → is_named (token_by kind a b) ≡ true → NamesBelow n (token_by kind a b) →
    (a < n) × (raw_name_of name (token_by kind a b) ≡ name a)
first_number kind a b n name = go (eqb kind 1) (eqb kind 2) (eqb kind 3)
  where
    go : (x y z : Bool) → is_named (pick x (MemberName a b) (pick y (Descriptor a b) (pick z (SourceLine a b) (Other a b)))) ≡ true →
        NamesBelow n (pick x (MemberName a b) (pick y (Descriptor a b) (pick z (SourceLine a b) (Other a b)))) →
        (a < n) × (raw_name_of name (pick x (MemberName a b) (pick y (Descriptor a b) (pick z (SourceLine a b) (Other a b)))) ≡ name a)
    go true y z h k = (k.0, refl)
    go false true z h k = (k.0, refl)
    go false false true h k = clash h refl
    go false false false h k = clash h refl

module _ (c : TreeCounts) (f : List ℕ) (i : ℕ) (k : FormedBy c f) (t : NamedToken c f i) {a : ℕ} (e : a ≡ tokens_start c) where
  pub number_inside : a + 12 * i + 4 + 4 ≤ length f
  number_inside = omega (arith, k.size, t.inside)

  module _ {n : ℕ} (g : n ≡ word_at f (a + 12 * i + 4)) where
    abbrev at : ℕ
    at = tokens_start c + 12 * i

    is : word_at f (at + 4) ≡ n
    is = sym (g ∙ ap (λ x. word_at f (x + 12 * i + 4)) e)

    told : (word_at f (at + 4) < c.names) × (raw_name_of (name_in (tree_by c f)) (token_at c f i) ≡ name_in (tree_by c f) (word_at f (at + 4)))
    told = first_number (word_at f at) (word_at f (at + 4)) (word_at f (at + 8)) c.names (name_in (tree_by c f)) t.named (k.tokens i t.inside)

    pub number_below : n < c.names
    number_below = rw is at told.0

    pub number_names : text_at c f n ≡ raw_name_of (name_in (tree_by c f)) (token_at c f i)
    number_names = sym (told.1 ∙ ap (name_in (tree_by c f)) is ∙ name_at_lem c f n number_below)

pub ruleset raw_numbers_lem = (number_inside, number_below, number_names, rules)

-- Where the note tells of a piece at the start that is as long as the name.
module _ (classes : List (List ℕ)) (pool : List ℕ) (c : TreeCounts) (out : List ℕ) (name : ℕ) (owner : List ℕ)
    (k : NoteOf classes pool c out name owner) {s : ℕ} (e : s ≡ names_start c) where
  pub note_inside : s + 8 * name + 4 ≤ length out
  note_inside = omega (arith, k.room)

  pub note_row_inside : s + 8 * name + 4 + 4 ≤ length out
  note_row_inside = omega (arith, k.room)

  module _ {w : ℕ} (f : w ≡ word_at out (s + 8 * name)) (h : w ≡ 1) {row : ℕ} (g : row ≡ word_at out (s + 8 * name + 4)) where
    starts : KnownAt classes pool owner 0 0 row
    starts =
        let first : word_at out (names_start c + 8 * name) ≡ 1 = ap (λ x. word_at out (x + 8 * name)) (sym e) ∙ sym f ∙ h in
        let second : word_at out (names_start c + 8 * name + 4) ≡ row = ap (λ x. word_at out (x + 8 * name + 4)) (sym e) ∙ sym g in
        rw (first, second) at k.says

    pub note_row : row < length classes
    note_row = starts.inside

    pub note_whole : {n : ℕ} → n ≡ length (raw_of classes pool row) → n ≡ length owner → Some row ≡ last_raw classes pool owner
    note_whole p q =
        let size : length owner ≤ 0 + length (raw_of classes pool row) - 0 = omega arith in
        let whole : between owner 0 (0 + length (raw_of classes pool row)) ≡ owner =
        take_all (0 + length (raw_of classes pool row) - 0) owner size in
        sym (ap (last_raw classes pool) (sym whole) ∙ starts.last)

pub ruleset owner_rows = (note_inside, note_row_inside, note_row, note_whole, rules)
