-- The words of the theorems about applying. No rule cites them.
use Rattle.std.specs.Prelude.{◌≡◌, true, false, List, [], ◌∷◌, ◌++◌, ◌⊎◌, ℕ, ◌≤◌, ◌<◌, length, get_or, Result, Ok, Err}
use Rattle.table_rows.specs.declared.rows.Ranges.{Ranges}
use Rattle.table_rows.specs.declared.rows.Ranges.TheVariants.{None, Display, Both}
use Rattle.table_rows.specs.Tables.{Tables}
use Rattle.tables.specs.declared.check.Used.{Used}
use Rattle.tables.specs.Check.{well_formed}
use Rattle.text_utf8.specs.Utf8.{is_utf8}
use Rattle.load_rule.specs.Members.{MemberKind, field, method}
use Rattle.name_rule.specs.Mappings.{Mapping, mapping_of}
use Rattle.tree_rule.specs.declared.Token.{Token}
use Rattle.tree_rule.specs.declared.Token.TheVariants.{Other, MemberName, Descriptor, SourceLine}
use Rattle.tree_rule.specs.Trees.{Node}
use Rattle.tree_rule.specs.Checks.{well_formed_file}
use Rattle.tree_rule.specs.Theorems.{Word, Every}
use Rattle.apply_rule.specs.Changes.{Change, stays, named, lined, Context, context_of, Changed}
use Rattle.apply_rule.specs.Applying.{with_display, applied_file, most_tree}
use Rattle.apply_rule.specs.declared.ApplyError.{ApplyError}
use Rattle.apply_rule.specs.declared.ApplyError.TheVariants.{Malformed, TooLong, BadTree, NoRoom}

-- What is asked of a mapping: the texts that it shows are UTF-8, and the display lines that it knows are 32-bit numbers.
abbrev pub RangesFit : Ranges → Type 0
RangesFit None = 0 ≤ 0
RangesFit (Display a e) = Word a × Word e
RangesFit (Both p q a e) = Word a × Word e

abbrev pub KindFits : MemberKind → Type 0
KindFits field = 0 ≤ 0
KindFits (method o g) = RangesFit g

pub record ShowsWell (m : Mapping) : Type 0 where
  pub classes : Every (λ c. is_utf8 c.display ≡ true) m.classes
  pub names : Every (λ e. is_utf8 e.name ≡ true) m.members
  pub lines : Every (λ e. KindFits e.kind) m.members

-- Rows of 32-bit numbers. Tables that are not malformed give a mapping as above, where their numbers are such.
abbrev pub RowsFit : List (List ℕ) → Type 0
RowsFit rows = (i k : ℕ) → Word (get_or (get_or rows i []) k 0)

-- Two lists of the same length, of which each two elements at one place are related.
pub data Each {A B : Type 0} (R : A → B → Type 0) : List A → List B → Type 0 where
  each_none : Each R [] []
  each_one : {x : A} {y : B} {l : List A} {m : List B} → R x y → Each R l m → Each R (x ∷ l) (y ∷ m)

-- What stays: of a token its kind and its raw name or raw line, and all of a token of kind 0.
abbrev pub SameButShown : Token → Token → Type 0
SameButShown (Other a b) t = t ≡ Other a b
SameButShown (MemberName raw display) t = (n : ℕ) × (t ≡ MemberName raw n)
SameButShown (Descriptor raw display) t = (n : ℕ) × (t ≡ Descriptor raw n)
SameButShown (SourceLine raw display) t = (n : ℕ) × (t ≡ SourceLine raw n)

-- of a node its parent, and how many tokens it has
pub record SameNode (before after : Node) : Type 0 where
  pub parent : after.parent ≡ before.parent
  pub tokens : Each SameButShown before.tokens after.tokens

-- What changes: a token comes out with the number of a name that names the new text, or with a new line, or as it came in. `name` gives
-- the text of a name by its number, in the tree that comes out.
abbrev pub ComesBy : (ℕ → List ℕ) → Token → Change → Token → Type 0
ComesBy name before stays after = after ≡ before
ComesBy name before (named s) after = (n : ℕ) × (after ≡ with_display n before) × (name n ≡ s)
ComesBy name before (lined n) after = after ≡ with_display n before

abbrev pub ComesOut : (ℕ → List ℕ) → Changed → Token → Type 0
ComesOut name c after = ComesBy name c.token c.change after

-- Line contexts of nodes, in row order; `done` are those of the rows before.
unfoldable pub contexts_from : List ℕ → (ℕ → List ℕ) → List Context → List Node → List Context
contexts_from class name done [] = []
contexts_from class name done (n ∷ ns) =
    context_of class name done n ∷ contexts_from class name (done ++ (context_of class name done n ∷ [])) ns

abbrev pub contexts_of : List ℕ → (ℕ → List ℕ) → List Node → List Context
contexts_of class name ns = contexts_from class name [] ns

-- "Apply: 14, 1, 12, 13. Each is given exactly when stated", and the first that holds in that order: when each answer is given.
pub data GivenWhen (t : Tables) (used : Used) (class f : List ℕ) (room : ℕ) : Result ℕ ApplyError → Type 0 where
  when_malformed : well_formed t.classes t.members t.pool used ≡ false → GivenWhen t used class f room (Err Malformed)
  when_too_long : well_formed t.classes t.members t.pool used ≡ true → most_tree < length f → GivenWhen t used class f room (Err TooLong)
  when_bad_tree : well_formed t.classes t.members t.pool used ≡ true → length f ≤ most_tree → well_formed_file f ≡ false →
      GivenWhen t used class f room (Err BadTree)
  when_no_room : well_formed t.classes t.members t.pool used ≡ true → length f ≤ most_tree → well_formed_file f ≡ true →
      (room < length (applied_file (mapping_of t used) class f)) ⊎ (most_tree < length (applied_file (mapping_of t used) class f)) →
      GivenWhen t used class f room (Err NoRoom)
  when_done : well_formed t.classes t.members t.pool used ≡ true → length f ≤ most_tree → well_formed_file f ≡ true →
      length (applied_file (mapping_of t used) class f) ≤ room → length (applied_file (mapping_of t used) class f) ≤ most_tree →
      GivenWhen t used class f room (Ok (length (applied_file (mapping_of t used) class f)))
