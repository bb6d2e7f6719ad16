-- What a mapping shows is UTF-8 and fits 32 bits; so are the changes that it makes. Assumes nothing.
use Rattle.std.specs.Prelude.{Option, Some, None}
use mathlib.Core.Path.{◌≡◌}
use mathlib.Core.Bool.{Bool, true, false}
use mathlib.Core.List.{List, [], ◌∷◌, ◌++◌}
use Prim.Native.Nat.{ℕ, suc, ◌+◌, ◌-◌, ◌≤◌, min}
use native.Mathlib.Omega.{arith}
use lib.Dec.{eqb}
use Rattle.ground.specs.Choice.{pick, within}
use Rattle.ground.specs.Look.{Look, known, unknown, or_look, look_or}
use Rattle.table_rows.specs.declared.rows.Ranges.{Ranges}
use Rattle.table_rows.specs.declared.rows.Ranges.TheVariants as ranges
use Rattle.text_places.specs.Places.{same}
use Rattle.text_utf8.specs.Grammar.{Utf8Octets}
use Rattle.text_utf8.specs.Utf8.{is_utf8}
use Rattle.text_utf8.proofs.Grammatical.{utf8_octets, octets_utf8}
use Rattle.table_rows.specs.Classes.{Pair, shown}
use Rattle.descriptor.specs.Pieces.{parts_from, turn}
use Rattle.descriptor.proofs.Octets.{turn_octets}
use Rattle.load_rule.specs.Members.{MemberKind, field, method, Entry}
use Rattle.name_lines.specs.declared.lines.RawLine.{RawLine}
use Rattle.name_lines.specs.LineNames.{raw_line, line_name}
use Rattle.name_rule.specs.Mappings.{Mapping}
use Rattle.name_rule.specs.MemberNames.{
  Key,
  key,
  last_named,
  field_matches,
  field_name,
  owner_matches,
  method_matches,
  method_name,
  or_line,
  line_of_kind,
  last_translated,
}
use Rattle.tree_rule.specs.declared.Token.{Token}
use Rattle.tree_rule.specs.declared.Token.TheVariants.{Other, MemberName, Descriptor, SourceLine}
use Rattle.tree_rule.specs.Trees.{Node}
use Rattle.tree_rule.specs.Signatures.{opens}
use Rattle.tree_rule.specs.Theorems.{Word, Every, every_none, every_one}
use Rattle.apply_rule.specs.Changes.{
  Change,
  stays,
  named,
  lined,
  name_change,
  line_change,
  piece_known,
  shown_descriptor,
  Signed,
  unsigned,
  signed,
  signed_of,
  member_name,
  Context,
  no_method,
  in_method,
  context_of,
  context_line,
  member_change,
  change_of,
  Changed,
  changed_from,
  changed_nodes,
}
use Rattle.apply_rule.specs.Applying.{name_of, new_names, all_changed}
use Rattle.apply_rule.specs.Theorems.{RangesFit, KindFits, ShowsWell}
use Rattle.name_lines.specs.declared.lines.DisplayLine.{DisplayLine}

-- Texts, by the check and by the grammar.
pub every_append : {A : Type 0} {P : A → Type 0} (a b : List A) → Every P a → Every P b → Every P (a ++ b)
every_append [] b e f = f
every_append (x ∷ a) b (every_one p e) f = every_one p (every_append a b e f)

-- Answers that can be written.
abbrev LookFine : Look → Type 0
LookFine (known s) = is_utf8 s ≡ true
LookFine unknown = 0 ≤ 0

abbrev LineFits : Option DisplayLine → Type 0
LineFits (Some n) = Word n.0
LineFits None = 0 ≤ 0

-- A change that can be written: a name is UTF-8, a line fits.
abbrev pub ChangeFits : Change → Type 0
ChangeFits stays = 0 ≤ 0
ChangeFits (named s) = is_utf8 s ≡ true
ChangeFits (lined n) = Word n

or_fine : (a b : Look) → LookFine a → LookFine b → LookFine (or_look a b)
or_fine (known s) b p q = p
or_fine unknown b p q = q

or_fits : (a b : Option DisplayLine) → LineFits a → LineFits b → LineFits (or_line a b)
or_fits (Some n) b p q = p
or_fits None b p q = q

pick_fine : (b : Bool) (x y : Look) → LookFine x → LookFine y → LookFine (pick b x y)
pick_fine true x y p q = p
pick_fine false x y p q = q

pick_fits : (b : Bool) (x y : Option DisplayLine) → LineFits x → LineFits y → LineFits (pick b x y)
pick_fits true x y p q = p
pick_fits false x y p q = q

-- Names of classes.
shown_fine : (cs : List Pair) → Every (λ c. is_utf8 c.display ≡ true) cs → (p : List ℕ) → LookFine (shown cs p)
unfolding shown
shown_fine [] e p = omega arith
shown_fine (c ∷ cs) (every_one u e) p =
    or_fine (shown cs p) (pick (same c.raw p) (known c.display) unknown) (shown_fine cs e p)
    (pick_fine (same c.raw p) (known c.display) unknown u (omega arith))

turned_fine : (look : List ℕ → Look) → ((p : List ℕ) → LookFine (look p)) → (d : List ℕ) → is_utf8 d ≡ true →
    LookFine (shown_descriptor look d)
turned_fine look fine d u =
    pick_fine (piece_known look (parts_from [] d)) (known (turn look d)) unknown
    (octets_utf8 (turn look d) (turn_octets look (λ q o. piece_fine q (look q) (fine q) o) (utf8_octets d u))) (omega arith)
  where
    piece_fine : (q : List ℕ) (l : Look) → LookFine l → Utf8Octets q → Utf8Octets (look_or q l)
    piece_fine q (known s) f o = utf8_octets s f
    piece_fine q unknown f o = o

-- Names of members.
named_fine : (p : Entry → Bool) (es : List Entry) → Every (λ e. is_utf8 e.name ≡ true) es → LookFine (last_named p es)
unfolding last_named
named_fine p [] e = omega arith
named_fine p (x ∷ es) (every_one u e) =
    or_fine (last_named p es) (pick (p x) (known x.name) unknown) (named_fine p es e)
    (pick_fine (p x) (known x.name) unknown u (omega arith))

-- Lines. The line shown is at most the end of the display range, or is its start.
shown_fits : (g : Ranges) (n : RawLine) → RangesFit g → LineFits (line_name g n)
shown_fits ranges.None n f = omega arith
shown_fits (ranges.Display a e) n f = omega arith
shown_fits (ranges.Both p q a e) n f =
    let small : Word (a + min (n.0 - p) (e - a)) = omega (arith, f.0, f.1) in
    pick_fits (within p q n.0) _ None small (omega arith)

kind_line_fits : (k : MemberKind) (n : RawLine) → KindFits k → LineFits (line_of_kind k n)
kind_line_fits field n f = omega arith
kind_line_fits (method o g) n f = shown_fits g n f

translated_fits : (p : Entry → Bool) (n : RawLine) (es : List Entry) → Every (λ e. KindFits e.kind) es →
    LineFits (last_translated p n es)
unfolding last_translated
translated_fits p n [] e = omega arith
translated_fits p n (x ∷ es) (every_one f e) =
    or_fits (last_translated p n es) (pick (p x) (line_of_kind x.kind n) None) (translated_fits p n es e)
    (pick_fits (p x) (line_of_kind x.kind n) None (kind_line_fits x.kind n f) (omega arith))

name_change_fits : (l : Look) → LookFine l → ChangeFits (name_change l)
name_change_fits (known s) f = f
name_change_fits unknown f = omega arith

line_change_fits : (l : Option DisplayLine) → LineFits l → ChangeFits (line_change l)
line_change_fits (Some n) f = f
line_change_fits None f = omega arith

pick_change_fits : (b : Bool) (x y : Change) → ChangeFits x → ChangeFits y → ChangeFits (pick b x y)
pick_change_fits true x y p q = p
pick_change_fits false x y p q = q

-- What a mapping makes of tokens.
module _ (m : Mapping) (w : ShowsWell m) (class : List ℕ) (name : ℕ → List ℕ) (texts : (n : ℕ) → is_utf8 (name n) ≡ true) where
  member_fine_lem : (k : Key) → LookFine (member_name m k)
  member_fine_lem k =
      pick_fine (opens k.descriptor) (method_name m k) (field_name m k)
      (or_fine (last_named (owner_matches m.classes k) m.members) (last_named (method_matches m.classes k) m.members)
      (named_fine (owner_matches m.classes k) m.members w.names)
      (named_fine (method_matches m.classes k) m.members w.names))
      (named_fine (field_matches m.classes k) m.members w.names)

  line_fits : (c : Context) (n : ℕ) → LineFits (context_line m class c n)
  line_fits no_method n = omega arith
  line_fits (in_method x d) n = translated_fits (owner_matches m.classes (key class x d)) (raw_line n) m.members w.lines

  member_change_fits : (s : Signed) (at : ℕ) → ChangeFits (member_change m s at)
  member_change_fits unsigned at = omega arith
  member_change_fits (signed place k) at =
      pick_change_fits (eqb at place) (name_change (member_name m k)) stays (name_change_fits (member_name m k) (member_fine_lem k)) (omega arith)

  change_fits : (s : Signed) (c : Context) (at : ℕ) (t : Token) → ChangeFits (change_of m class name s c at t)
  change_fits s c at (Other a b) = omega arith
  change_fits s c at (MemberName raw display) = member_change_fits s at
  change_fits s c at (Descriptor raw display) =
      name_change_fits (shown_descriptor (shown m.classes) (name raw))
      (turned_fine (shown m.classes) (shown_fine m.classes w.classes) (name raw) (texts raw))
  change_fits s c at (SourceLine raw display) = line_change_fits (context_line m class c raw) (line_fits c raw)

  node_fits : (s : Signed) (c : Context) (at : ℕ) (ts : List Token) →
      Every (λ x. ChangeFits x.change) (changed_from (change_of m class name s c) at ts)
  unfolding changed_from
  node_fits s c at [] = every_none
  node_fits s c at (t ∷ ts) = every_one (change_fits s c at t) (node_fits s c (suc at) ts)

  pub changes_fit : (done : List Context) (ns : List Node) →
      Every (λ x. ChangeFits x.change) (all_changed (changed_nodes m class name done ns))
  unfolding changed_nodes all_changed
  changes_fit done [] = every_none
  changes_fit done (n ∷ ns) =
      let context : Context = context_of class name done n in
      every_append (changed_from (change_of m class name (signed_of class name n.tokens) context) 0 n.tokens)
      (all_changed (changed_nodes m class name (done ++ (context ∷ [])) ns))
      (node_fits (signed_of class name n.tokens) context 0 n.tokens) (changes_fit (done ++ (context ∷ [])) ns)

-- the new names are UTF-8
pub new_names_fine : (cs : List Changed) → Every (λ x. ChangeFits x.change) cs → Every (λ s. is_utf8 s ≡ true) (new_names cs)
unfolding new_names
new_names_fine [] e = every_none
new_names_fine (c ∷ cs) (every_one f e) = one c.change f (new_names_fine cs e)
  where
    one : (change : Change) → ChangeFits change → Every (λ s. is_utf8 s ≡ true) (new_names cs) →
        Every (λ s. is_utf8 s ≡ true) (name_of change ++ new_names cs)
    one stays g rest = rest
    one (named s) g rest = every_one g rest
    one (lined n) g rest = rest
