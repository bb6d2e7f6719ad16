-- The texts of a member line.
use Rattle.std.specs.Prelude.{Bool, true, false, List, [], ◌++◌, ℕ}
use Rattle.text_places.specs.Spans.{part_of, Lies}
use Rattle.line_parts.specs.Methods.{MethodIn}
use Rattle.line_parts.specs.Arguments.{arguments_of}
use Rattle.descriptor.specs.Signatures.{raw_signature}
use Rattle.ground.specs.Look.{Look, known, unknown}
use Rattle.table_rows.specs.Classes.{Pair}
use Rattle.descriptor.specs.Raw.{raw_type_of}
use Rattle.load_rule.specs.Members.{types_descriptor, owner_of}
use Rattle.load_texts.specs.declared.texts.Body.{Body}
use Rattle.load_texts.specs.declared.texts.Body.TheVariants.{Field, Method}
use Rattle.load_texts.specs.declared.texts.MemberLine.{MemberLine}

-- its parts lie in the first `n` bytes
abbrev pub BodyIn : Body → ℕ → Type 0
BodyIn (Field declared) n = Lies declared n
BodyIn (Method m) n = MethodIn m n

pub record MemberIn (m : MemberLine) (n : ℕ) : Type 0 where
  pub raw : Lies m.raw n
  pub name : Lies m.name n
  pub body : BodyIn m.body n

abbrev pub is_method : Body → Bool
is_method (Field declared) = false
is_method (Method m) = true

-- the raw descriptor, by display types
abbrev pub display_types : List Pair → List ℕ → Body → List ℕ
display_types cs l (Field declared) = raw_type_of cs (part_of l declared)
display_types cs l (Method m) = types_descriptor cs (arguments_of (part_of l m.arguments)) (part_of l m.returned)

-- and by the residual signature, where there is one
abbrev pub descriptor_text : List Pair → Look → List ℕ → Body → List ℕ
descriptor_text cs (known s) l b = raw_signature (is_method b) s
descriptor_text cs unknown l b = display_types cs l b

abbrev pub owner_text : List ℕ → List ℕ → Body → List ℕ
owner_text own l (Field declared) = []
owner_text own l (Method m) = owner_of own l m.named

-- the four texts, in row order
pub record MemberTexts : Type 0 where
  pub raw : List ℕ
  pub descriptor : List ℕ
  pub name : List ℕ
  pub owner : List ℕ

abbrev pub texts_of : List Pair → Look → List ℕ → List ℕ → MemberLine → MemberTexts
texts_of cs signature own l m =
    record {
      raw = part_of l m.raw;
      descriptor = descriptor_text cs signature l m.body;
      name = part_of l m.name;
      owner = owner_text own l m.body;
    }

abbrev pub all_texts : MemberTexts → List ℕ
all_texts t = t.raw ++ (t.descriptor ++ (t.name ++ t.owner))
