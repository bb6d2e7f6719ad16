-- The texts of a member, one after the other. Assumes nothing.
use Rattle.std.specs.Prelude.{Result, Ok, Err, Option, Some, None}
use mathlib.Core.Path.{◌≡◌, sym, ◌∙◌, ap}
use mathlib.Core.Bool.{Bool}
use mathlib.Core.List.{List, [], ◌++◌, append_assoc}
use Prim.Native.Nat.{ℕ, ◌+◌, ◌-◌, ◌≤◌, ◌<◌}
use native.Mathlib.Omega.{arith}
use lib.ListN.{length, drop, length-append}
use borrow.Author.Rules.{rules}
use Rattle.ground.specs.Put.{between}
use Rattle.text_places.specs.Lines.{lines}
use Rattle.text_places.specs.declared.spans.Span.{Span}
use Rattle.json_grammar.specs.Reader.{chars_from}
use Rattle.json_decode.specs.Decoded.{decoded}
use Rattle.line_parts.specs.declared.signature.Qualified.TheVariants.{Owned, Plain}
use Rattle.line_parts.specs.declared.method.Method as method
use Rattle.text_places.specs.Spans.{Lies}
use Rattle.line_parts.specs.Signatures.{NameIn}
use Rattle.line_parts.specs.Methods.{MethodIn}
use Rattle.line_parts.specs.Arguments.{arguments_of}
use Rattle.table_pool.specs.Names.{class_descriptor}
use Rattle.descriptor.specs.Signatures.{raw_signature}
use Rattle.ground.specs.Look.{Look, known, unknown}
use Rattle.table_rows.specs.Classes.{Pair}
use Rattle.table_pool.specs.Inner.Wrote.{WroteBy, TwoAt, TwoBy, no_room, two_texts}
use Rattle.table_pool.proofs.Writes.{written_length, wrote_told, wrote_then, wrote_as, two_no_first, two_no_second, two_done, two_told, two_none}
use Rattle.tables.specs.Back.{read_back}
use Rattle.descriptor.specs.Raw.{raw_type_of}
use Rattle.load_raw_types.specs.Inner.Behind.{Indexed}
use Rattle.load_raw_types.proofs.Indexing.{read_back_put}
use Rattle.load_rule.specs.Comments.{residual_in}
use Rattle.load_rule.specs.Members.{owner_of, types_descriptor}
use Rattle.load_residual.specs.Inner.Residuals.{json_part, residual_look, Gives, residual_string}
use Rattle.load_texts.specs.declared.texts.Body.{Body}
use Rattle.load_texts.specs.declared.texts.Body.TheVariants.{Field, Method}
use Rattle.load_texts.specs.declared.texts.MemberLine.{MemberLine}
use Rattle.load_texts.specs.Inner.Texts.{BodyIn, MemberIn, is_method, display_types, descriptor_text, owner_text, MemberTexts, all_texts}
use Rattle.load_texts.specs.Inner.Places.{EnteredTexts}
use Rattle.load_texts.proofs.Typing.{indexed_after}
use Rattle.table_pool.specs.declared.write.NoRoom.{NoRoom}
use Rattle.table_pool.specs.declared.write.TwoTexts.{TwoTexts}
use Rattle.load_residual.specs.declared.residual.Residual.{Residual}

-- Parts of a body lie in its line.
module _ {b : Body} (n : ℕ) (i : BodyIn b n) where
  module _ {declared : Span} (e : b ≡ Field declared) where
    declared_lies : Lies declared n
    declared_lies = rw e at i

    pub declared_order : declared.start ≤ declared.«end»
    declared_order = declared_lies.order

    pub declared_inside : declared.«end» ≤ n
    declared_inside = declared_lies.within

  module _ {m : method.Method} (e : b ≡ Method m) where
    method_lies : MethodIn m n
    method_lies = rw e at i

    pub arguments_order : m.arguments.start ≤ m.arguments.«end»
    arguments_order = method_lies.2.order

    pub arguments_inside : m.arguments.«end» ≤ n
    arguments_inside = method_lies.2.within

    pub returned_order : m.returned.start ≤ m.returned.«end»
    returned_order = method_lies.0.order

    pub returned_inside : m.returned.«end» ≤ n
    returned_inside = method_lies.0.within

    module _ {owner name : Span} (f : m.named ≡ Owned owner name) where
      owner_lies : NameIn (Owned owner name) n
      owner_lies = rw f at method_lies.1

      pub owner_order : owner.start ≤ owner.«end»
      owner_order = owner_lies.0.order

      pub owner_inside : owner.«end» ≤ n
      owner_inside = owner_lies.0.within

-- The owner.
module _ (own l : List ℕ) {b : Body} (r : Result ℕ NoRoom) (d : List ℕ) (at : ℕ) (d₁ : List ℕ) where
  pub owner_none : {declared : Span} → b ≡ Field declared → WroteBy r d at [] d₁ → WroteBy r d at (owner_text own l b) d₁
  owner_none e w = wrote_as r d at d₁ (sym (ap (owner_text own l) e)) w

  module _ {m : method.Method} (e : b ≡ Method m) where
    pub owner_named : {owner name : Span} → m.named ≡ Owned owner name → WroteBy r d at (class_descriptor (between l owner.start owner.«end»)) d₁ →
        WroteBy r d at (owner_text own l b) d₁
    owner_named f w = wrote_as r d at d₁ (sym (ap (owner_text own l) e ∙ ap (owner_of own l) f)) w

    pub owner_own : {name : Span} → m.named ≡ Plain name → WroteBy r d at (class_descriptor own) d₁ → WroteBy r d at (owner_text own l b) d₁
    owner_own f w = wrote_as r d at d₁ (sym (ap (owner_text own l) e ∙ ap (owner_of own l) f)) w

pub ruleset owning = (owner_order, owner_inside, owner_none, owner_named, owner_own, rules)

-- Display types.
module _ (cs : List Pair) (l : List ℕ) {b : Body} (r : Result ℕ NoRoom) (d : List ℕ) (at : ℕ) (d₁ : List ℕ) where
  pub display_field : {declared : Span} → b ≡ Field declared → WroteBy r d at (raw_type_of cs (between l declared.start declared.«end»)) d₁ →
      WroteBy r d at (display_types cs l b) d₁
  display_field e w = wrote_as r d at d₁ (sym (ap (display_types cs l) e)) w

  pub display_method : {m : method.Method} → b ≡ Method m →
      WroteBy r d at (types_descriptor cs (arguments_of (between l m.arguments.start m.arguments.«end»)) (between l m.returned.start m.returned.«end»)) d₁ →
      WroteBy r d at (display_types cs l b) d₁
  display_method e w = wrote_as r d at d₁ (sym (ap (display_types cs l) e)) w

pub ruleset displaying =
    (declared_order, declared_inside, arguments_order, arguments_inside, returned_order, returned_inside, display_field, display_method, rules)

-- The raw descriptor.
module _ (s : List ℕ) {r : Option Residual} (g : Gives s r (residual_in (lines s))) where
  module _ {y : Residual} (f : r ≡ Some y) where
    json_lies : Lies (json_part (Some (residual_string y.start y.«end» y.string))) (length s)
    json_lies = rw f at g.lies

    pub json_order : y.start ≤ y.«end»
    json_order = json_lies.order

    pub json_inside : y.«end» ≤ length s
    json_inside = json_lies.within

    pub descriptor_signed : (cs : List Pair) (l : List ℕ) (b : Body) {m : Bool} → m ≡ is_method b → (w : Result ℕ NoRoom) (d : List ℕ) (at : ℕ) (d₁ : List ℕ) →
        WroteBy w d at (raw_signature m (decoded (chars_from 0 (drop y.string (between s y.start y.«end»))))) d₁ → WroteBy w d at (descriptor_text cs (residual_in (lines s)) l b) d₁
    descriptor_signed cs l b h w d at d₁ k =
        let known_as : residual_in (lines s) ≡ known (decoded (chars_from 0 (drop y.string (between s y.start y.«end»)))) = sym (sym (ap (residual_look s) f) ∙ g.look) in
        wrote_as w d at d₁ (ap (λ x. raw_signature x (decoded (chars_from 0 (drop y.string (between s y.start y.«end»))))) h ∙ sym (ap (λ o. descriptor_text cs o l b) known_as)) k

  pub descriptor_displayed : r ≡ None → (cs : List Pair) (l : List ℕ) (b : Body) (w : Result ℕ NoRoom) (d : List ℕ) (at : ℕ) (d₁ : List ℕ) →
      WroteBy w d at (display_types cs l b) d₁ → WroteBy w d at (descriptor_text cs (residual_in (lines s)) l b) d₁
  descriptor_displayed f cs l b w d at d₁ k =
      let unknown_as : residual_in (lines s) ≡ unknown = sym (sym (ap (residual_look s) f) ∙ g.look) in
      wrote_as w d at d₁ (sym (ap (λ o. descriptor_text cs o l b) unknown_as)) k

pub ruleset describing = (json_order, json_inside, descriptor_signed, descriptor_displayed, rules)

-- The parts of a member line lie in it.
module _ {m : MemberLine} {n : ℕ} (i : MemberIn m n) where
  pub raw_order : m.raw.start ≤ m.raw.«end»
  raw_order = i.raw.order

  pub raw_inside : m.raw.«end» ≤ n
  raw_inside = i.raw.within

  pub name_order : m.name.start ≤ m.name.«end»
  name_order = i.name.order

  pub name_inside_lem : m.name.«end» ≤ n
  name_inside_lem = i.name.within

  pub body_inside : BodyIn m.body n
  body_inside = i.body

pub ruleset display_part = (name_order, name_inside_lem, body_inside, two_no_first, two_no_second, two_done, rules)

-- The raw part: its second text is made from the classes.
module _ (rows : List (List ℕ)) (index d : List ℕ) (at : ℕ) (x : Indexed rows d index at) (a : List ℕ) (o : Look) (l : List ℕ) (b : Body) (r : Result ℕ NoRoom) (d₁ : List ℕ) (w : WroteBy r d at a d₁) where
  module _ {m : ℕ} (e : r ≡ Ok m) where
    module _ (r₂ : Result ℕ NoRoom) (d₂ : List ℕ) (v : WroteBy r₂ d₁ m (descriptor_text (read_back rows d₁) o l b) d₂) where
      same : WroteBy r₂ d₁ m (descriptor_text (read_back rows d) o l b) d₂
      same = wrote_as r₂ d₁ m d₂ (ap (λ cs. descriptor_text cs o l b) (read_back_put x (wrote_told r d at a d₁ w e))) v

      pub raw_no_second : r₂ ≡ Err no_room → length d < at + length (a ++ descriptor_text (read_back rows d) o l b)
      raw_no_second f = two_no_second d at a (descriptor_text (read_back rows d) o l b) r d₁ w e r₂ d₂ same f

      pub raw_done : {q : ℕ} → r₂ ≡ Ok q → TwoAt m q d at a (descriptor_text (read_back rows d) o l b) d₂
      raw_done f = two_done d at a (descriptor_text (read_back rows d) o l b) r d₁ w e r₂ d₂ same f

pub ruleset raw_part = (raw_order, raw_inside, body_inside, two_no_first, indexed_after, raw_no_second, raw_done, rules)

-- Both parts.
abbrev four : List ℕ → List ℕ → List ℕ → List ℕ → MemberTexts
four a b c e = record { raw = a; descriptor = b; name = c; owner = e }

module _ (d : List ℕ) (at : ℕ) (a b c e : List ℕ) (r : Result TwoTexts NoRoom) (d₁ : List ℕ) (w : TwoBy r d at a b d₁) where
  pub texts_no_raw : r ≡ Err no_room → length d < at + length (all_texts (four a b c e))
  texts_no_raw f =
      let h = two_none r d at a b d₁ w f in
      omega (arith, length-append a b, length-append a (b ++ (c ++ e)), length-append b (c ++ e))

  module _ {x : TwoTexts} (f : r ≡ Ok x) (r₂ : Result TwoTexts NoRoom) (d₂ : List ℕ) (v : TwoBy r₂ d₁ x.next c e d₂) where
    front : TwoAt x.second x.next d at a b d₁
    front = two_told r d at a b d₁ w f

    together : (a ++ b) ++ (c ++ e) ≡ all_texts (four a b c e)
    together = append_assoc a b (c ++ e)

    pub texts_no_display : r₂ ≡ Err no_room → length d < at + length (all_texts (four a b c e))
    texts_no_display g =
        let h = two_none r₂ d₁ x.next c e d₂ v g in
        let n = written_length front.written in
        let s = ap length together in
        omega (arith, front.written.past, length-append (a ++ b) (c ++ e))

    pub texts_done : {y : TwoTexts} → r₂ ≡ Ok y → EnteredTexts (record { descriptor = x.second; name = x.next; owner = y.second; «end» = y.next }) d at (four a b c e) d₂
    texts_done {y} g =
        let later = two_told r₂ d₁ x.next c e d₂ v g in
        record {
          placed = record { descriptor = front.second; name = front.next; owner = later.second; «end» = later.next };
          written = wrote_as (Ok y.next) d at d₂ together (wrote_then (Ok y.next) (c ++ e) d₂ front.written later.written);
        }

pub ruleset texts = (texts_no_raw, texts_no_display, texts_done, rules)
