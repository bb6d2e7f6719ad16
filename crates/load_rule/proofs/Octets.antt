-- Every text of a mapping is well formed where the text that it is loaded from is: the classes' descriptors, and the members' names,
-- descriptors and owners.
-- Assumes nothing.
use Rattle.std.specs.Prelude.{Some, None, Option}
use mathlib.Core.Path.{◌≡◌, refl}
use mathlib.Core.Bool.{Bool, true, false}
use mathlib.Core.List.{List, [], ◌∷◌, ◌++◌, map}
use Prim.Native.Nat.{ℕ, ◌-◌}
use native.Mathlib.Omega.{arith}
use lib.Dec.{eqb}
use Rattle.ground.specs.Abnf.{none}
use Rattle.ground.specs.Choice.{pick}
use Rattle.text_utf8.specs.Grammar.{Utf8Octets}
use Rattle.text_utf8.proofs.Boundaries.{append_octets, cons_octets, Texts, no_text, text}
use Rattle.text_white.specs.Trim.{trim_both}
use Rattle.text_white.proofs.Cuts.{run_octets, lines_texts}
use Rattle.json_comment.specs.declared.answer.Stands.{Stands}
use Rattle.json_comment.specs.declared.answer.Stands.TheVariants as stands
use Rattle.json_comment.specs.Answer.{comment_of, comment_with}
use Rattle.json_comment.proofs.Strings.{signature_octets}
use Rattle.line_parts.specs.declared.signature.Qualified.{Qualified}
use Rattle.line_parts.specs.declared.signature.Qualified.TheVariants.{Owned, Plain}
use Rattle.line.specs.declared.line.Line.{Line}
use Rattle.line.specs.declared.line.Line.TheVariants.{Blank, Comment, Class, Field, Method, Refused}
use Rattle.text_places.specs.Spans.{part_of}
use Rattle.line.specs.Kinds.{line_of}
use Rattle.line.proofs.Octets.{NameOctets, arguments_texts}
use Rattle.line.proofs.Telling.{LineOctets, line_octets}
use Rattle.ground.specs.Look.{Look, known, unknown, or_look}
use Rattle.table_rows.specs.Classes.{Pair}
use Rattle.descriptor.proofs.Octets.{class_octets, type_octets, raw_octets, join_octets, Pairs, no_pair, a_pair, back_octets}
use Rattle.load_rule.specs.Comments.{says_residual, string_at, signature_by, signature_of, signature_at, residual_by, residual_in}
use Rattle.load_rule.specs.Classes.{class_in, classes_of}
use Rattle.descriptor.specs.Raw.{raw_type_of}
use Rattle.load_rule.specs.Members.{field_descriptor, types_descriptor, method_descriptor, MemberKind, field, method, Entry, Under, under, under_after, name_text, owner_of, entry_in, entries_from}
use Rattle.load_rule.specs.Loading.{entries_of, lines_str, lines_parse}
use Rattle.json_comment.specs.declared.answer.Comment as comments

-- Signatures of comments.
abbrev pub LookOctets : Look → Type 0
LookOctets (known s) = Utf8Octets s
LookOctets unknown = Unit {0}

look_first : (a b : Look) → LookOctets a → LookOctets b → LookOctets (or_look a b)
look_first (known s) b o w = o
look_first unknown b o w = w

signature_look : (s : List ℕ) → Utf8Octets s → LookOctets (signature_of s)
signature_look s o = go (comment_of s) refl
  where
    by_id : (b : Bool) {i : Stands} (g : Stands) → comment_of s ≡ Some (comment_with i g) → LookOctets (pick b (string_at s g) unknown)
    by_id true stands.Missing e = tt
    by_id true stands.Other e = tt
    by_id true (stands.Text p) e = signature_octets s e refl o
    by_id false g e = tt

    go : (c : Option comments.Comment) → comment_of s ≡ c → LookOctets (signature_by s c)
    go None e = tt
    go (Some r) e = by_id (says_residual s r.id) r.signature e

residual_look_lem : (l : List ℕ) (k : Line) → LineOctets l (trim_both l).«end» k → (later : Look) → LookOctets later → LookOctets (residual_by l k later)
residual_look_lem l Blank o later w = w
residual_look_lem l (Comment None) o later w = look_first later unknown w tt
residual_look_lem l (Comment (Some brace)) o later w = look_first later (signature_at l (Some brace)) w (signature_look (part_of l (record { start = brace; «end» = (trim_both l).«end» })) o)
residual_look_lem l (Class display raw) o later w = tt
residual_look_lem l (Field declared name raw) o later w = tt
residual_look_lem l (Method m raw) o later w = tt
residual_look_lem l (Refused r) o later w = tt

pub residual_octets : {ls : List (List ℕ)} → Texts ls → LookOctets (residual_in ls)
unfolding residual_in
residual_octets no_text = tt
residual_octets (text {l} {ls} o t) = residual_look_lem l (line_of l) (line_octets o) (residual_in ls) (residual_octets t)

-- Classes.
append_pairs : {a b : List Pair} → Pairs a → Pairs b → Pairs (a ++ b)
append_pairs no_pair q = q
append_pairs (a_pair r d p) q = a_pair r d (append_pairs p q)

class_pairs : (l : List ℕ) (k : Line) → LineOctets l (trim_both l).«end» k → Pairs (class_in l k)
class_pairs l Blank o = no_pair
class_pairs l (Comment brace) o = no_pair
class_pairs l (Class display raw) (d, r) = a_pair (class_octets r) (class_octets d) no_pair
class_pairs l (Field declared name raw) o = no_pair
class_pairs l (Method m raw) o = no_pair
class_pairs l (Refused r) o = no_pair

pub classes_pairs : {ls : List (List ℕ)} → Texts ls → Pairs (classes_of ls)
unfolding classes_of
classes_pairs no_text = no_pair
classes_pairs (text {l} o t) = append_pairs (class_pairs l (line_of l) (line_octets o)) (classes_pairs t)

-- Members.
abbrev pub KindOctets : MemberKind → Type 0
KindOctets field = Unit {0}
KindOctets (method o g) = Utf8Octets o

abbrev pub EntryOctets : Entry → Type 0
EntryOctets e = Utf8Octets e.raw_name × Utf8Octets e.descriptor × Utf8Octets e.name × KindOctets e.kind

pub data Entries : List Entry → Type 0 where
  no_entry_lem : Entries []
  an_entry : {e : Entry} {es : List Entry} → EntryOctets e → Entries es → Entries (e ∷ es)

append_entries : {a b : List Entry} → Entries a → Entries b → Entries (a ++ b)
append_entries no_entry_lem q = q
append_entries (an_entry o p) q = an_entry o (append_entries p q)

module _ {cs : List Pair} (p : Pairs cs) where
  raw_type_octets : {s : List ℕ} → Utf8Octets s → Utf8Octets (raw_type_of cs s)
  raw_type_octets o = back_octets p (type_octets o)

  raw_types : {ls : List (List ℕ)} → Texts ls → Texts (map (raw_type_of cs) ls)
  raw_types no_text = no_text
  raw_types (text o t) = text (raw_type_octets o) (raw_types t)

  field_octets : (g : Look) → LookOctets g → {s : List ℕ} → Utf8Octets s → Utf8Octets (field_descriptor cs g s)
  field_octets (known v) w o = raw_octets false w
  field_octets unknown w o = raw_type_octets o

  types_octets : {arguments : List (List ℕ)} {returned : List ℕ} → Texts arguments → Utf8Octets returned → Utf8Octets (types_descriptor cs arguments returned)
  types_octets t o = cons_octets 0x28 (omega arith) (append_octets (join_octets (raw_types t)) (cons_octets 0x29 (omega arith) (raw_type_octets o)))

  method_octets : (g : Look) → LookOctets g → {arguments : List (List ℕ)} {returned : List ℕ} → Texts arguments → Utf8Octets returned →
      Utf8Octets (method_descriptor cs g arguments returned)
  method_octets (known v) w t o = raw_octets true w
  method_octets unknown w t o = types_octets t o

  name_octets : (l : List ℕ) (q : Qualified) → NameOctets l q → Utf8Octets (name_text l q)
  name_octets l (Owned owner name) (a, b) = b
  name_octets l (Plain name) b = b

  owner_octets : (own l : List ℕ) → Utf8Octets own → (q : Qualified) → NameOctets l q → Utf8Octets (owner_of own l q)
  owner_octets own l w (Owned owner name) (a, b) = class_octets a
  owner_octets own l w (Plain name) b = class_octets w

  entry_octets : (u : Under) → Utf8Octets u.own → (g : Look) → LookOctets g → (l : List ℕ) (k : Line) → LineOctets l (trim_both l).«end» k → Entries (entry_in cs u g l k)
  entry_octets u w g s l Blank o = no_entry_lem
  entry_octets u w g s l (Comment brace) o = no_entry_lem
  entry_octets u w g s l (Class display raw) o = no_entry_lem
  entry_octets u w g s l (Field declared name raw) (d, n, r) =
      an_entry (r, field_octets g s d, n, tt) no_entry_lem
  entry_octets u w g s l (Method m raw) ((d, n, a), r) =
      an_entry (r, method_octets g s (arguments_texts a) d, name_octets l m.named n, owner_octets u.own l w m.named n) no_entry_lem
  entry_octets u w g s l (Refused r) o = no_entry_lem

  own_octets : (u : Under) → Utf8Octets u.own → (l : List ℕ) (k : Line) → LineOctets l (trim_both l).«end» k → Utf8Octets (under_after u l k).own
  own_octets u w l Blank o = w
  own_octets u w l (Comment brace) o = w
  own_octets u w l (Class display raw) (d, r) = d
  own_octets u w l (Field declared name raw) o = w
  own_octets u w l (Method m raw) o = w
  own_octets u w l (Refused r) o = w

  pub entries_octets : {ls : List (List ℕ)} → Texts ls → (u : Under) → Utf8Octets u.own → Entries (entries_from cs u ls)
  unfolding entries_from
  entries_octets no_text u w = no_entry_lem
  entries_octets (text {l} {ls} o t) u w =
      let k = line_octets o in
      append_entries (entry_octets u w (residual_in ls) (residual_octets t) l (line_of l) k) (entries_octets t (under_after u l (line_of l)) (own_octets u w l (line_of l) k))

-- The lines of a well-formed text, and all texts that they give.
pub str_texts : {s : List ℕ} → Utf8Octets s → Texts (lines_str s)
str_texts o = lines_texts o

pub parse_texts : {s : List ℕ} → Utf8Octets s → Texts (lines_parse s)
parse_texts o = lines_texts (run_octets (eqb 0xFEFF) o)

pub pool_texts : {ls : List (List ℕ)} → Texts ls → Pairs (classes_of ls) × Entries (entries_of ls)
pool_texts {ls} t = let p = classes_pairs t in (p, entries_octets p t (under 0 []) none)
