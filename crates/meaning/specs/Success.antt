-- The words of the theorems about what a success states: which comments are applied, to which member, and what becomes of that member's
-- row. Lines are those of a text, one after the other; `member` says whether the current class has a last member, as fates are counted.
use Rattle.std.specs.Prelude.{◌≡◌, Bool, true, false, List, [], ◌∷◌, ◌++◌, ℕ, ◌+◌, get_or}
use Rattle.ground.specs.Look.{Look, known, unknown}
use Rattle.text_places.specs.Spans.{part_of}
use Rattle.line.specs.declared.line.Line.{Line}
use Rattle.line.specs.declared.line.Line.TheVariants.{Blank, Comment, Class, Field, Method, Refused}
use Rattle.line.specs.Kinds.{line_of}
use Rattle.line_parts.specs.Arguments.{arguments_of}
use Rattle.table_rows.specs.Classes.{Pair}
use Rattle.tables.specs.Check.{all_of}
use Rattle.descriptor.specs.Raw.{raw_type_of}
use Rattle.descriptor.specs.Signatures.{raw_signature}
use Rattle.load_rule.specs.declared.Fate.TheVariants as fate
use Rattle.load_rule.specs.Comments.{signature_at}
use Rattle.load_rule.specs.Fates.{fate_of, member_after, fates_from}
use Rattle.load_rule.specs.Members.{Entry, field, types_descriptor}

-- a line that may stand between a member and its comments
abbrev pub is_between : Line → Bool
is_between Blank = true
is_between (Comment brace) = true
is_between (Class display raw) = false
is_between (Field declared name raw) = false
is_between (Method m raw) = false
is_between (Refused r) = false

abbrev pub is_member : Line → Bool
is_member Blank = false
is_member (Comment brace) = false
is_member (Class display raw) = false
is_member (Field declared name raw) = true
is_member (Method m raw) = true
is_member (Refused r) = false

-- the signature that a line gives, if it is a comment that gives one
abbrev pub signature_given : List ℕ → Line → Look
signature_given l Blank = unknown
signature_given l (Comment brace) = signature_at l brace
signature_given l (Class display raw) = unknown
signature_given l (Field declared name raw) = unknown
signature_given l (Method m raw) = unknown
signature_given l (Refused r) = unknown

-- Forward from a member: a comment that is counted as applied and gives `v` stands in these lines, before the next member or class line.
pub data AppliedIn (member : Bool) : List (List ℕ) → List ℕ → Type 0 where
  applied_here : {l : List ℕ} {ls : List (List ℕ)} {v : List ℕ} → fate_of member l (line_of l) ≡ fate.Applied →
      signature_given l (line_of l) ≡ known v → AppliedIn member (l ∷ ls) v
  applied_further : {l : List ℕ} {ls : List (List ℕ)} {v : List ℕ} → is_between (line_of l) ≡ true → AppliedIn member ls v →
      AppliedIn member (l ∷ ls) v

-- and it is the last of them
pub data LastApplied (member : Bool) : List (List ℕ) → List ℕ → Type 0 where
  last_here : {l : List ℕ} {ls : List (List ℕ)} {v : List ℕ} → fate_of member l (line_of l) ≡ fate.Applied →
      signature_given l (line_of l) ≡ known v → ((w : List ℕ) → AppliedIn member ls w → ⊥) → LastApplied member (l ∷ ls) v
  last_further : {l : List ℕ} {ls : List (List ℕ)} {v : List ℕ} → is_between (line_of l) ≡ true → LastApplied member ls v →
      LastApplied member (l ∷ ls) v

-- Whether the current class has a last member behind some lines.
unfoldable pub member_behind : Bool → List (List ℕ) → Bool
member_behind member [] = member
member_behind member (l ∷ ls) = member_behind (member_after member (line_of l)) ls

-- Back from an applied comment: the lines before it end with a member line, and blank lines and comments behind that.
pub record EndsWithMember (before : List (List ℕ)) : Type 0 where
  pub front : List (List ℕ)
  pub here : List ℕ
  pub between : List (List ℕ)
  pub split : before ≡ front ++ (here ∷ between)
  pub member : is_member (line_of here) ≡ true
  pub near : all_of (λ l. is_between (line_of l)) between ≡ true

-- The row of a member line: as many rows stand before it as member lines do.
abbrev pub members_in : List (List ℕ) → ℕ
members_in ls = (fates_from false ls).field + (fates_from false ls).method

abbrev pub no_entry : Entry
no_entry = record { class = 0; raw_name = []; descriptor = []; name = []; kind = field }

-- the raw descriptor of a member line: by a signature that is given, and by its display types
abbrev pub given_descriptor : Line → List ℕ → List ℕ
given_descriptor Blank v = []
given_descriptor (Comment brace) v = []
given_descriptor (Class display raw) v = []
given_descriptor (Field declared name raw) v = raw_signature false v
given_descriptor (Method m raw) v = raw_signature true v
given_descriptor (Refused r) v = []

abbrev pub typed_descriptor : List Pair → List ℕ → Line → List ℕ
typed_descriptor cs l Blank = []
typed_descriptor cs l (Comment brace) = []
typed_descriptor cs l (Class display raw) = []
typed_descriptor cs l (Field declared name raw) = raw_type_of cs (part_of l declared)
typed_descriptor cs l (Method m raw) = types_descriptor cs (arguments_of (part_of l m.arguments)) (part_of l m.returned)
typed_descriptor cs l (Refused r) = []

-- What a success states of a member line `l`, `before` and `after` being the lines around it and `es` the members: its row has the
-- signature of the last comment that is applied to it, and the descriptor of its display types exactly where none is.
pub record SignatureStated (cs : List Pair) (es : List Entry) (before : List (List ℕ)) (l : List ℕ) (after : List (List ℕ)) : Type 0 where
  pub applied : (v : List ℕ) → LastApplied true after v → (get_or es (members_in before) no_entry).descriptor ≡ given_descriptor (line_of l) v
  pub unapplied : ((v : List ℕ) → AppliedIn true after v → ⊥) →
      (get_or es (members_in before) no_entry).descriptor ≡ typed_descriptor cs l (line_of l)
