-- The descriptors of an applied tree turn back. Assumes nothing.
use mathlib.Core.Path.{◌≡◌, refl, sym, ◌∙◌, ap}
use mathlib.Core.Bool.{Bool, true, false}
use mathlib.Core.List.{List, [], ◌∷◌, ◌++◌}
use Prim.Native.Nat.{ℕ, suc, ◌<◌}
use lib.ListN.{length}
use Rattle.ground.specs.Choice.{pick}
use Rattle.ground.specs.Look.{known, unknown}
use Rattle.text_places.specs.Places.{same}
use Rattle.text_places.proofs.PlaceLaws.{same_equal, same_refl}
use Rattle.table_rows.specs.Classes.{shown, back}
use Rattle.tables.specs.Check.{all_of}
use Rattle.tables.proofs.Checking.{all_cons}
use Rattle.descriptor.specs.Pieces.{parts_from, turn}
use Rattle.load_rule.specs.Classes.{classes_of}
use Rattle.name_rule.specs.Mappings.{Mapping}
use Rattle.tree_rule.specs.declared.Token.{Token}
use Rattle.tree_rule.specs.declared.Token.TheVariants.{Other, MemberName, Descriptor, SourceLine}
use Rattle.tree_rule.specs.Trees.{Node, Tree, name_in}
use Rattle.tree_rule.specs.Files.{all_tokens}
use Rattle.tree_rule.specs.Theorems.{Every, every_one, NamesBelow, SoundTree}
use Rattle.apply_rule.specs.Changes.{
  Change,
  stays,
  named,
  lined,
  name_change,
  piece_known,
  Signed,
  signed_of,
  Context,
  context_of,
  change_of,
  Changed,
  changed_from,
  changed_nodes,
}
use Rattle.apply_rule.specs.Applying.{all_changed, applied_tree}
use Rattle.apply_rule.specs.Theorems.{Each, each_none, each_one, ComesBy, ComesOut}
use Rattle.apply_rule.proofs.Pieces.{unknown_stays}
use Rattle.apply_rule.proofs.Kept.{kept_names}
use Rattle.apply_rule.proofs.Appended.{comes_out}
use Rattle.meaning.specs.TurnedBack.{displays_once, names_closed, shows_raw, names_unmistaken, of_tokens, turns_back}
use Rattle.meaning.proofs.RoundTrip.{all_head, all_tail}
use Rattle.meaning.proofs.ClassesBack.{descriptor_back}

-- Which token a changed one was, and what its change was made of.
module _ (m : Mapping) (class : List ℕ) (name : ℕ → List ℕ) where
  record Made (t : Token) (c : Changed) : Type 0 where
    signature : Signed
    context : Context
    place : ℕ
    is : c ≡ record { token = t; change = change_of m class name signature context place t }

  each_append : {A B : Type 0} {R : A → B → Type 0} {a b : List A} {x y : List B} → Each R a x → Each R b y → Each R (a ++ b) (x ++ y)
  each_append each_none f = f
  each_append (each_one p e) f = each_one p (each_append e f)

  node_made : (s : Signed) (c : Context) (at : ℕ) (ts : List Token) → Each Made ts (changed_from (change_of m class name s c) at ts)
  unfolding changed_from
  node_made s c at [] = each_none
  node_made s c at (t ∷ ts) =
      each_one (record { signature = s; context = c; place = at; is = refl }) (node_made s c (suc at) ts)

  nodes_made : (done : List Context) (ns : List Node) → Each Made (all_tokens ns) (all_changed (changed_nodes m class name done ns))
  unfolding changed_nodes all_changed all_tokens
  nodes_made done [] = each_none
  nodes_made done (n ∷ ns) =
      let context : Context = context_of class name done n in
      each_append (node_made (signed_of class name n.tokens) context 0 n.tokens) (nodes_made (done ++ (context ∷ [])) ns)

-- One token: `name` gives texts before, `after` those that come out.
module _ (m : Mapping) (ls : List (List ℕ)) (is : m.classes ≡ classes_of ls) (once : displays_once ls ≡ true) (closed : names_closed ls ≡ true)
    (name after : ℕ → List ℕ) where
  abbrev Back : Token → Type 0
  Back t = turns_back (classes_of ls) after t ≡ true

  member_back_lem : (raw display : ℕ) (change : Change) (t : Token) → ComesBy after (MemberName raw display) change t → Back t
  member_back_lem raw display stays t e = rw e
  member_back_lem raw display (named s) t (n, e, f) = rw e
  member_back_lem raw display (lined n) t e = rw e

  line_back : (raw display : ℕ) (change : Change) (t : Token) → ComesBy after (SourceLine raw display) change t → Back t
  line_back raw display stays t e = rw e
  line_back raw display (named s) t (n, e, f) = rw e
  line_back raw display (lined n) t e = rw e

  module _ (raw display : ℕ) (raw-kept : after raw ≡ name raw) (display-kept : after display ≡ name display)
      (shows : same (name display) (name raw) ≡ true)
      (clear : names_unmistaken (classes_of ls) name (Descriptor raw display) ≡ true) where
    returned : turn (back (classes_of ls)) (turn (shown m.classes) (name raw)) ≡ name raw
    returned = rw is (descriptor_back ls once closed (name raw) clear)

    shown_back : (d : ℕ) → after d ≡ turn (shown m.classes) (name raw) → Back (Descriptor raw d)
    shown_back d e =
        let r : turn (back (classes_of ls)) (after d) ≡ after raw = ap (turn (back (classes_of ls))) e ∙ returned ∙ sym raw-kept in
        rw r (same_refl (after raw))

    descriptor_turns : (b : Bool) → piece_known (shown m.classes) (parts_from [] (name raw)) ≡ b → (t : Token) →
        ComesBy after (Descriptor raw display) (name_change (pick b (known (turn (shown m.classes) (name raw))) unknown)) t → Back t
    descriptor_turns true q t (n, e, f) = rw e (shown_back n f)
    descriptor_turns false q t e =
        let stays : turn (shown m.classes) (name raw) ≡ name raw = unknown_stays (shown m.classes) (name raw) q in
        rw e (shown_back display (display-kept ∙ same_equal (name display) (name raw) shows ∙ sym stays))

  module _ (names : ℕ) (kept : (n : ℕ) → n < names → after n ≡ name n) (class : List ℕ) where
    token_back : (s : Signed) (c : Context) (at : ℕ) (before t : Token) →
        ComesBy after before (change_of m class name s c at before) t → shows_raw name before ≡ true →
        names_unmistaken (classes_of ls) name before ≡ true → NamesBelow names before → Back t
    token_back s c at (Other a b) t e h k i = rw e
    token_back s c at (MemberName raw display) t e h k i =
        member_back_lem raw display (change_of m class name s c at (MemberName raw display)) t e
    token_back s c at (Descriptor raw display) t e h k (i, j) =
        descriptor_turns raw display (kept raw i) (kept display j) h k
        (piece_known (shown m.classes) (parts_from [] (name raw))) refl t e
    token_back s c at (SourceLine raw display) t e h k i =
        line_back raw display (change_of m class name s c at (SourceLine raw display)) t e

    made_back : (before : Token) (c : Changed) (t : Token) → Made m class name before c → ComesOut after c t →
        shows_raw name before ≡ true → names_unmistaken (classes_of ls) name before ≡ true → NamesBelow names before → Back t
    made_back before c t d e h k i =
        let f : ComesOut after (record { token = before; change = change_of m class name d.signature d.context d.place before }) t =
        rw d.is at e in
        token_back d.signature d.context d.place before t f h k i

    tokens_back : {ts ends : List Token} {cs : List Changed} → Each (Made m class name) ts cs → Each (ComesOut after) cs ends →
        all_of (shows_raw name) ts ≡ true → all_of (names_unmistaken (classes_of ls) name) ts ≡ true → Every (NamesBelow names) ts →
        all_of (turns_back (classes_of ls) after) ends ≡ true
    unfolding all_of
    tokens_back each_none each_none h k i = refl
    tokens_back (each_one {x = before} {y = c} {l = ts} d ds) (each_one {y = t} {m = ends} e es) h k (every_one i is) =
        all_cons (turns_back (classes_of ls) after) t ends
        (made_back before c t d e (all_head (shows_raw name) before ts h) (all_head (names_unmistaken (classes_of ls) name) before ts k) i)
        (tokens_back ds es (all_tail (shows_raw name) before ts h) (all_tail (names_unmistaken (classes_of ls) name) before ts k) is)

-- The whole tree, for a mapping whose classes are those of the lines.
pub tree_back : (m : Mapping) (ls : List (List ℕ)) → m.classes ≡ classes_of ls → displays_once ls ≡ true → names_closed ls ≡ true →
    (class : List ℕ) (t : Tree) → SoundTree t → of_tokens shows_raw t ≡ true → of_tokens (names_unmistaken (classes_of ls)) t ≡ true →
    of_tokens (turns_back (classes_of ls)) (applied_tree m class t) ≡ true
tree_back m ls is once closed class t sound h k =
    tokens_back m ls is once closed (name_in t) (name_in (applied_tree m class t)) (length t.names) (kept_names m class t sound) class
    (nodes_made m class (name_in t) [] t.nodes) (comes_out m class t) h k sound.tokens
