-- What applying keeps: node rows, kinds, raw names and raw lines, tokens of kind 0, and what the names stand for. Assumes nothing.
use mathlib.Core.Path.{◌≡◌, refl, ◌∙◌, ap}
use mathlib.Core.List.{List, [], ◌∷◌, ◌++◌}
use Prim.Native.Nat.{ℕ, zero, suc, ◌+◌, ◌≤◌, ◌<◌}
use native.Mathlib.Nat.{not-suc-le-zero}
use native.Mathlib.Omega.{arith}
use lib.ListN.{length, get_or, take, drop, length-drop, get_or-append}
use lib.Seq.{take-append-le, take_at, drop-append-le}
use Rattle.ground.specs.Join.{join}
use Rattle.table_rows.specs.declared.rows.Text.{Text}
use Rattle.table_rows.specs.Rows.{text}
use Rattle.tables.specs.Back.{text_in}
use Rattle.name_rule.specs.Mappings.{Mapping}
use Rattle.tree_rule.specs.declared.Token.{Token}
use Rattle.tree_rule.specs.declared.Token.TheVariants.{Other, MemberName, Descriptor, SourceLine}
use Rattle.tree_rule.specs.Trees.{Node, Tree, name_in}
use Rattle.tree_rule.specs.Theorems.{SoundTree}
use Rattle.tree_rule.proofs.RowLaws.{every_at}
use Rattle.apply_rule.specs.Changes.{
  Change,
  stays,
  named,
  lined,
  Signed,
  signed_of,
  Context,
  context_of,
  change_of,
  ChangedNode,
  changed_from,
  changed_node,
  changed_nodes,
}
use Rattle.apply_rule.specs.Applying.{
  token_with,
  name_of,
  new_names,
  numbered,
  numbered_nodes,
  name_rows,
  all_changed,
  changed_in,
  applied_tree,
}
use Rattle.apply_rule.specs.Theorems.{Each, each_none, each_one, SameButShown, SameNode}

-- Lists of which each two elements are related, by places.
module _ {A B : Type 0} {R : A → B → Type 0} where
  pub each_length : {l : List A} {m : List B} → Each R l m → length m ≡ length l
  each_length each_none = refl
  each_length (each_one p e) = ap suc (each_length e)

  pub each_at : (z : A) (y : B) {l : List A} {m : List B} → Each R l m → (i : ℕ) → i < length l → R (get_or l i z) (get_or m i y)
  each_at z y each_none i h = absurd (not-suc-le-zero h)
  each_at z y (each_one p e) zero h = p
  each_at z y (each_one p e) (suc i) h = each_at z y e i (omega arith)

-- Tokens.
module _ (m : Mapping) (class : List ℕ) (name : ℕ → List ℕ) where
  member_same : (next raw display : ℕ) (change : Change) →
      SameButShown (MemberName raw display) (token_with next change (MemberName raw display))
  member_same next raw display stays = (display, refl)
  member_same next raw display (named s) = (next, refl)
  member_same next raw display (lined n) = (n, refl)

  descriptor_same : (next raw display : ℕ) (change : Change) →
      SameButShown (Descriptor raw display) (token_with next change (Descriptor raw display))
  descriptor_same next raw display stays = (display, refl)
  descriptor_same next raw display (named s) = (next, refl)
  descriptor_same next raw display (lined n) = (n, refl)

  line_same : (next raw display : ℕ) (change : Change) →
      SameButShown (SourceLine raw display) (token_with next change (SourceLine raw display))
  line_same next raw display stays = (display, refl)
  line_same next raw display (named s) = (next, refl)
  line_same next raw display (lined n) = (n, refl)

  token_same : (next : ℕ) (s : Signed) (c : Context) (at : ℕ) (t : Token) →
      SameButShown t (token_with next (change_of m class name s c at t) t)
  token_same next s c at (Other a b) = refl
  token_same next s c at (MemberName raw display) =
      member_same next raw display (change_of m class name s c at (MemberName raw display))
  token_same next s c at (Descriptor raw display) =
      descriptor_same next raw display (change_of m class name s c at (Descriptor raw display))
  token_same next s c at (SourceLine raw display) =
      line_same next raw display (change_of m class name s c at (SourceLine raw display))

  tokens_same : (next : ℕ) (s : Signed) (c : Context) (at : ℕ) (ts : List Token) →
      Each SameButShown ts (numbered next (changed_from (change_of m class name s c) at ts))
  unfolding changed_from numbered
  tokens_same next s c at [] = each_none
  tokens_same next s c at (t ∷ ts) =
      each_one (token_same next s c at t) (tokens_same (next + length (name_of (change_of m class name s c at t))) s c (suc at) ts)

  nodes_same : (next : ℕ) (done : List Context) (ns : List Node) →
      Each SameNode ns (numbered_nodes next (changed_nodes m class name done ns))
  unfolding changed_nodes numbered_nodes
  nodes_same next done [] = each_none
  nodes_same next done (n ∷ ns) =
      let context : Context = context_of class name done n in
      let here : ChangedNode = changed_node m class name context n in
      each_one (record { parent = refl; tokens = tokens_same next (signed_of class name n.tokens) context 0 n.tokens })
      (nodes_same (next + length (new_names here.tokens)) (done ++ (context ∷ [])) ns)

-- a text of bytes to which others are appended
pub text_kept : (bytes more : List ℕ) (n : Text) → n.place + n.length ≤ length bytes → text_in (bytes ++ more) n ≡ text_in bytes n
text_kept bytes more n h =
    let enough : n.length ≤ length (drop n.place bytes) = rw (length-drop n.place bytes) (omega arith) in
    ap (take n.length) (drop-append-le n.place bytes more (omega arith))
    ∙ take-append-le n.length (drop n.place bytes) more enough

-- The whole.
module _ (m : Mapping) (class : List ℕ) (t : Tree) where
  -- "same rows": each node has its parent and as many tokens, and each token is the same but for what it shows
  pub kept : Each SameNode t.nodes (applied_tree m class t).nodes
  kept = nodes_same m class (name_in t) (length t.names) [] t.nodes

  -- name rows and name bytes stand before what is appended
  pub kept_rows : take (length t.names) (applied_tree m class t).names ≡ t.names
  kept_rows =
      take_at t.names (name_rows (length t.bytes) (new_names (all_changed (changed_in m class t)))) (length t.names) refl

  pub kept_bytes : take (length t.bytes) (applied_tree m class t).bytes ≡ t.bytes
  kept_bytes = take_at t.bytes (join (new_names (all_changed (changed_in m class t)))) (length t.bytes) refl

  -- a name that was there names the same text
  pub kept_names : SoundTree t → (n : ℕ) → n < length t.names → name_in (applied_tree m class t) n ≡ name_in t n
  kept_names s n h =
      let new : List (List ℕ) = new_names (all_changed (changed_in m class t)) in
      let row : get_or (applied_tree m class t).names n (text 0 0) ≡ get_or t.names n (text 0 0) =
      get_or-append t.names (name_rows (length t.bytes) new) (text 0 0) n h in
      ap (text_in (t.bytes ++ join new)) row
      ∙ text_kept t.bytes (join new) (get_or t.names n (text 0 0)) (every_at (text 0 0) t.names s.inside n h)
